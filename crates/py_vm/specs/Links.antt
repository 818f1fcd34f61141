-- The links that exceptions get while a machine runs: which changes these are, and what activations may tell where exceptions are thrown in.
use Rattle.std.specs.Prelude.{ℕ, suc, ◌≤◌, List, [], ◌∷◌, ◌++◌, true, ◌≡◌, length}
use Rattle.py_code.specs.Codes.{Codes}
use Rattle.py_objects.specs.declared.payload.Payload.{Payload}
use Rattle.py_objects.specs.declared.edit.Change.{Change}
use Rattle.py_objects.specs.Objects.{Obj, IsException}
use Rattle.py_objects.specs.Edits.{Kept}
use Rattle.py_objects.specs.Growth.{GrowsPlainly}
use Rattle.py_objects.specs.Originals.{AreMarked, ChangesBelow}
use Rattle.py_answers.specs.Readable.{SetsLink}
use Rattle.py_run.specs.Links.{Lines, MayUnder, is_link, lines_in}
use Rattle.py_vm.specs.Codes.{Checked, plain_codes}
use Rattle.py_vm.specs.RowsOf.{RowsUnder}

-- what the activations of functions may tell, under each test of what is handled where an exception is thrown in
abbrev pub rows_under : Codes → Obj → List Payload → MayUnder
rows_under codes globals objects = λ test. RowsUnder test codes globals objects

-- the line of each unit of the codes of a machine
abbrev pub lines_of : Checked → Lines
lines_of codes = lines_in (plain_codes codes)

-- changes of the links of exceptions among these objects, in order, each of an event from the first of these numbers to the second
abbrev pub AreLinksAmong : List Payload → (from to : ℕ) → List Change → Type 0
AreLinksAmong objects from to [] = Unit {0}
AreLinksAmong objects from to (c ∷ cs) =
    (is_link c.edit ≡ true) × IsException objects c.object × SetsLink objects c.edit × (from ≤ c.after) × (c.after ≤ to) × AreLinksAmong objects c.after to cs

-- to these changes only links came, which come of the events after so many, and of no more than that many
abbrev pub AddsLinks : List Payload → (before after : ℕ) → (old new : List Change) → Type 0
AddsLinks objects before after old new = (more : List Change) × (new ≡ old ++ more) × AreLinksAmong objects (suc before) after more

-- more objects came to a store, none of which is a declaration, and links that come of such events
pub record GrowsLinked (before after : ℕ) (old new : Kept) : Type 0 where
  pub objects : GrowsPlainly old.made new.made
  pub links : AddsLinks new.made before after old.changes new.changes

-- the changes of a store are of so many events, and so are those that come next; they name objects that are there
pub record IsMarked (events : ℕ) (store : Kept) : Type 0 where
  pub mark : store.mark ≤ events
  pub past : AreMarked events store.changes
  pub below : ChangesBelow (length store.made) store.changes
