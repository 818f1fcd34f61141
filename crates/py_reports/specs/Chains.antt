-- Which exceptions a report has, and in which order (Python Language Reference, 7.8).
use Rattle.std.specs.Prelude.{Option, Some, None, List, [], ◌∷◌, ◌++◌, ◌≡◌, Bool, true, false, is_some, if◌then◌else◌}
use Rattle.py_objects.specs.declared.payload.Payload.{Payload}
use Rattle.py_objects.specs.declared.payload.Payload.TheVariants as payload
use Rattle.py_objects.specs.declared.edit.LinkField.TheVariants as link
use Rattle.py_objects.specs.Objects.{Obj}
use Rattle.py_exceptions.specs.Repr.{payload_of}
use Rattle.py_exceptions.specs.Walks.{link_at}
use Rattle.py_exceptions.specs.Orders.{IsOrder}
use Rattle.py_reports.specs.declared.chain.Chained.{Chained}
use Rattle.py_reports.specs.declared.chain.Sentence.{Sentence}
use Rattle.py_reports.specs.declared.chain.Sentence.TheVariants as sentence

-- the cause; without one the context, unless that is suppressed
abbrev pub before_by : Option Obj → Bool → Option Obj → Option Obj
before_by (Some cause) suppress context = Some cause
before_by None true context = None
before_by None false context = context

-- the exception that is reported before one with this payload
abbrev pub before_in : Option Payload → Option Obj
before_in (Some (payload.Exception e)) = before_by e.cause e.suppress e.context
before_in _ = None

-- the exception that is reported before another one
abbrev pub before_at : List Payload → Obj → Option Obj
before_at objects v = before_in (payload_of objects v)

-- the sentence before what is printed of an exception, when these are printed above it: that of a cause, where the exception has one
abbrev pub sentence_at : List Payload → Obj → List Obj → Sentence
sentence_at objects v [] = sentence.Nothing
sentence_at objects v (w ∷ ws) = if is_some (link_at link.Cause objects v) then sentence.Cause else sentence.Context

-- exceptions in the order of the walk, the last one first, each with its sentence
abbrev pub chained : List Payload → List Obj → List Chained
chained objects [] = []
chained objects (v ∷ vs) = record { exception = v; sentence = sentence_at objects v vs } ∷ chained objects vs

-- these are the exceptions of a report, by a walk that ends at one that has none before it, or one before it that was met already. A cause that
-- was met leads nowhere, and not to the context
abbrev pub IsChain : List Payload → Obj → List Chained → Type 0
IsChain objects v cs = (met : List Obj) × IsOrder (before_at objects) v met × (cs ≡ chained objects met)

-- one stands after the others
abbrev pub IsLast : List Chained → Chained → Type 0
IsLast cs next = (rest : List Chained) × (cs ≡ rest ++ next ∷ [])
