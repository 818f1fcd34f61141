-- What can't differ in two runs of one script.
use Rattle.std.specs.Prelude.{ℕ, Some, Option, List, ◌≡◌, pos, slice_get}
use Rattle.py_objects.specs.declared.refs.PyBaseExceptionRef.{PyBaseExceptionRef}
use Rattle.py_objects.specs.declared.payload.Payload.TheVariants as payload
use Rattle.py_objects.specs.declared.payload.CoroBody.{CoroBody}
use Rattle.py_objects.specs.declared.request.Request.TheVariants as request
use Rattle.py_objects.specs.declared.event.GotAnswer.TheVariants as got
use Rattle.py_objects.specs.declared.event.Event.{Event}
use Rattle.py_objects.specs.declared.event.Event.TheVariants as event
use Rattle.py_objects.specs.Objects.{Obj, Name, HasPayload}
use Rattle.py_grammar.specs.Grammar.{Decl}
use Rattle.py_lines.specs.declared.drive.DriveLine.{DriveLine}
use Rattle.py_reports.specs.Scenes.{SourceLines}
use Rattle.py_meaning.specs.Core.{IsCore}
use Rattle.py_meaning.specs.Earlier.{NameEarlier}
use Rattle.py_run.specs.declared.journal.Journal.{Journal}
use Rattle.py_meaning.specs.Whole.{IsJournalOf}

-- two journals of the same declarations and drives, where no declaration is a raw code, and no drive has anything reported
pub record AreRuns (j j' : Journal) : Type 0 where
  pub decls : List Decl
  pub drives : List DriveLine
  pub core : IsCore decls drives
  pub earlier : NameEarlier drives
  pub sources : List SourceLines
  pub sources' : List SourceLines
  pub is : IsJournalOf decls drives sources j
  pub is' : IsJournalOf decls drives sources' j'

-- at this place some activation gets this value
abbrev pub Gets : List Event → ℕ → Obj → Type 0
Gets events i v = (a : ℕ) × (slice_get events i ≡ Some (event.Got a (got.Value v)))

-- at this place one looks up this name
abbrev pub LooksUp : List Event → ℕ → Name → Type 0
LooksUp events i x = (a : ℕ) × (d : Obj) × (own : Option PyBaseExceptionRef) × (at : ℕ) × (slice_get events i ≡ Some (event.Ask a (request.Global d x) own at))

-- where the one run gets a 1, the other doesn't get a 2
abbrev pub NoOtherAnswer : Type 0
NoOtherAnswer =
    (j j' : Journal) (i : ℕ) (v w : Obj) → AreRuns j j' → Gets j.events i v → Gets j'.events i w
    → HasPayload j.objects v (payload.Int (pos 1)) → HasPayload j'.objects w (payload.Int (pos 2)) → ⊥

-- where the one run looks up a name, the other doesn't look up another one, as it would if it went in another order
abbrev pub NoOtherOrder : Type 0
NoOtherOrder =
    (j j' : Journal) (i : ℕ) (x y : Name) → AreRuns j j' → LooksUp j.events i x → LooksUp j'.events i y → (x ≡ y → ⊥) → ⊥

-- where the one run gets one generator at two places, the other doesn't get two
abbrev pub NoOtherIdentity : Type 0
NoOtherIdentity =
    (j j' : Journal) (i k : ℕ) (v w w2 : Obj) (g : CoroBody) → AreRuns j j'
    → Gets j.events i v → Gets j.events k v → HasPayload j.objects v (payload.Generator g) → Gets j'.events i w → Gets j'.events k w2 → (w ≡ w2 → ⊥) → ⊥
