-- The journal of a sum whose question names another unit than the one that asks it, worked by hand: trees don't look at units, codes do.
use Rattle.std.specs.Prelude.{◌≡◌, ℕ, Some, None, List, [], ◌∷◌, map, slice_get}
use Rattle.py_code.specs.Codes.{Codes}
use Rattle.py_code.specs.declared.code.PyCode.{PyCode}
use Rattle.py_code.specs.declared.instruction.Instruction.{Instruction}
use Rattle.py_code.specs.declared.instruction.Instruction.TheVariants.{LoadFast, StoreFast, BinaryOperation, ReturnConst, ReturnValue}
use Rattle.py_code.specs.declared.operator.BinaryOperator.TheVariants as binary
use Rattle.py_objects.specs.declared.request.Request.{Request}
use Rattle.py_objects.specs.declared.request.Request.TheVariants.{Binary}
use Rattle.py_objects.specs.declared.event.Event.{Event}
use Rattle.py_objects.specs.declared.event.Event.TheVariants as event
use Rattle.py_run.specs.declared.journal.Journal.{Journal}
use Rattle.py_meaning.specs.Worked.{decls, entered, object, objects, returned}
use Rattle.py_meaning.specs.WorkedRaw.{decls as raw_decls}
use Rattle.py_script.specs.Compiled.{RunsCodesOf}

-- the question for the sum of the two arguments
abbrev pub sum : Request
sum = Binary binary.Add (object 3) (object 4)

-- the events of the sum, where the question for it names this unit
abbrev pub events_at : ℕ → List Event
events_at at = entered 1 (event.Ask 1 sum None at ∷ returned 1 (object 6) [])

-- its journal, with these codes
abbrev pub journal_at : Codes → ℕ → Journal
journal_at cs at = record { events = events_at at; objects = objects; changes = []; codes = cs }

-- what the units of the function do: load a, load b, add, store x, load x, return, and the return of None at the body's end
abbrev pub operations : List Instruction
operations = LoadFast ∷ LoadFast ∷ BinaryOperation ∷ StoreFast ∷ LoadFast ∷ ReturnValue ∷ ReturnConst ∷ []

-- the first code has these units
abbrev pub AddsAtTwo : Codes → Type 0
AddsAtTwo cs = (c : PyCode) × (slice_get cs.codes 0 ≡ Some c) × (map (λ u. u.op) c.code.instructions.items ≡ operations)

-- no journal of a raw code that returns its constant at its only unit has the question, whichever unit it names
abbrev pub NoRawSum : Type 0
NoRawSum = (cs : Codes) (at : ℕ) → RunsCodesOf raw_decls (journal_at cs at) → ⊥

-- where the question names another unit than the third, the journal is no run of such codes
abbrev pub NoOtherUnit : Type 0
NoOtherUnit = (cs : Codes) (at : ℕ) → AddsAtTwo cs → (at ≡ 2 → ⊥) → RunsCodesOf decls (journal_at cs at) → ⊥
