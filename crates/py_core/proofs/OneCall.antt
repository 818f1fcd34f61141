-- The one drive of a script that calls f without arguments, and its activation.
use Rattle.std.proofs.Common.{◌≡◌, ◌++◌, List, [], ◌∷◌, refl}
use Rattle.std.specs.Prelude.{codes}
use Rattle.py_objects.specs.declared.payload.Payload.{Payload}
use Rattle.py_objects.specs.declared.request.Keywords.TheVariants as keywords
use Rattle.py_objects.specs.declared.request.Request.TheVariants as request
use Rattle.py_objects.specs.declared.event.Event.{Event}
use Rattle.py_objects.specs.Own.{own_events}
use Rattle.py_tree.specs.Scene.{anywhere}
use Rattle.py_tree.specs.Trace.{IsTrace}
use Rattle.py_tree.specs.Tree.{Suite}
use Rattle.py_grammar.specs.Grammar.{OfBody, codes_in}
use Rattle.py_run.specs.Run.{Posed, Requests, start, state_after}
use Rattle.py_run.specs.Coming.{EachTells}
use Rattle.py_run.specs.First.{first_objects}
use Rattle.py_meaning.specs.Whole.{AreAsked, Traces}
use Rattle.py_meaning.specs.Worked.{object, function_entry}
use Rattle.py_meaning.proofs.Journals.{one_tells}
use Rattle.py_core.specs.WorkedLiterals.{decls_with, drives, function_of}

-- what the drive asks
abbrev pub call : Posed
call = record { pose = Requests (request.Call (object 0) [] keywords.None); entered = 0 }

-- f with such statements, and these entries behind its own
module _ (suite : Suite) (rest : List Payload) where
  abbrev with_f : List Payload
  with_f = first_objects ++ function_entry (codes "f") 0 ∷ rest

  -- each activation tells what it may in some events
  abbrev pub TellIt : List Event → Type 0
  TellIt es = EachTells (Traces (codes_in (decls_with suite)) (object 2) with_f) es

  -- what the activation of f tells in them is a trace
  abbrev pub IsTraced : List Event → Type 0
  IsTraced es = IsTrace (anywhere with_f (object 2)) (function_of suite) [] (own_events 1 es)

  pub told : (es : List Event) → (state_after start es).made ≡ record { function = object 0; args = [] } ∷ [] → IsTraced es → TellIt es
  told es is trace =
      one_tells (Traces (codes_in (decls_with suite)) (object 2) with_f) (object 0) [] es is (_, refl, (OfBody (function_of suite), refl, trace))

  pub asks : (es : List Event) → AreAsked with_f es drives (call ∷ [])
  asks es = (((object 0, [], refl, refl, tt), refl), tt)
