-- What functions inside the crate promise each other.
use Rattle.std.specs.Prelude.{ℕ, Option, Some, None, List, [], ◌∷◌, ◌++◌, ◌≡◌, ◌==◌, if◌then◌else◌, Result, OnOk, String, option_map, string_bytes, encode_utf8_all}
use Rattle.py_objects.specs.declared.payload.Payload.{Payload}
use Rattle.py_objects.specs.declared.edit.LinkField.TheVariants as link
use Rattle.py_objects.specs.Objects.{Obj, Name}
use Rattle.py_exceptions.specs.Walks.{link_at}
use Rattle.py_reports.specs.declared.order.Way.{Way}
use Rattle.py_reports.specs.declared.order.Way.TheVariants as way
use Rattle.py_reports.specs.declared.chain.Chained.{Chained}
use Rattle.py_reports.specs.declared.stage.ReportStep.TheVariants as step
use Rattle.py_reports.specs.declared.stage.Stage.{Stage}
use Rattle.py_reports.specs.declared.stage.Stage.TheVariants as stage
use Rattle.py_reports.specs.Chains.{before_at}
use Rattle.py_reports.specs.Reports.{IsPiece}
use Rattle.py_reports.specs.Scenes.{Scene}
use Rattle.py_reports.specs.Steps.{AreToCome, IsStep}

-- where one step of a walk leads
abbrev pub step_at : Way → List Payload → Obj → Option Obj
step_at way.Before objects v = before_at objects v
step_at way.Next objects v = link_at link.Next objects v

-- where memory was enough, a text has one of these after what it had
abbrev pub AddsSome : {T E Z : Type 0} → Result T E → (old new : String Z) → (List ℕ → Type 0) → Type 0
AddsSome result old new Is = OnOk result ((text : List ℕ) × Is text × (string_bytes new ≡ string_bytes old ++ text))

-- the next one was taken off exceptions that are to come, with its piece, or there is none
abbrev pub IsTaken : Scene → (old new : List Chained) → Option Name → Type 0
IsTaken scene old new None = (old ≡ []) × (new ≡ [])
IsTaken scene old new (Some text) = (next : Chained) × (old ≡ new ++ next ∷ []) × IsPiece scene next (encode_utf8_all text)

-- the same of a report
abbrev pub Advances : Scene → (old new : Stage) → Option Name → Type 0
Advances scene old new None = AreToCome scene.objects old [] × (new ≡ stage.Begun [])
Advances scene old new (Some text) = IsStep scene old (step.Piece text) new

-- a string has these bytes, or there is none where there are none
abbrev pub HasBytes : {Z : Type 0} → Option (List ℕ) → Option (String Z) → Type 0
HasBytes bytes string = option_map string_bytes string ≡ bytes

-- what is left of a text after its last line feed, as a line, where anything is
abbrev pub one_line : Name → List Name
one_line [] = []
one_line (c ∷ cs) = (c ∷ cs) ∷ []

-- a line without a carriage return at its end
abbrev pub without_return : Name → Name
without_return [] = []
without_return (c ∷ []) = if c == 13 then [] else c ∷ []
without_return (c ∷ d ∷ cs) = c ∷ without_return (d ∷ cs)
