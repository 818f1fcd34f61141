-- What a turn comes to with the links of the exception that it brings into a body, and what turns of a drive add one after another.
use Rattle.std.specs.Prelude.{ℕ, Option, Some, List, [], ◌∷◌, ◌++◌, ◌≡◌, slice_get, length}
use Rattle.py_objects.specs.declared.event.Event.{Event}
use Rattle.py_objects.specs.declared.event.DriveAnswer.{DriveAnswer}
use Rattle.py_objects.specs.Objects.{AllBelow}
use Rattle.py_objects.specs.Changes.{store_at}
use Rattle.py_run.specs.declared.drive.Question.{Question}
use Rattle.py_run.specs.Run.{Posed, start, state_after}
use Rattle.py_run.specs.Coming.{MayCome, Comes, past_after}
use Rattle.py_run.specs.Links.{HasLinksOf, LinksCome, MayUnder, TellsNow}
use Rattle.py_run.specs.Past.{past_behind}
use Rattle.py_vm.specs.declared.machinery.Core.{Core}
use Rattle.py_vm.specs.Codes.{plain_codes}
use Rattle.py_vm.specs.Links.{lines_of, rows_under, GrowsLinked}
use Rattle.py_vm.specs.Machine.{done_in, posed, plan_of, question_numbers}
use Rattle.py_vm.specs.Stands.{Keeps}
use Rattle.py_vm.specs.Turns.{past_at, AfterTurn, IsBusy}

-- what the activations of a machine may tell, under each test of what is handled where an exception is thrown in
abbrev pub may_of : Core → MayUnder
may_of m = rows_under (plain_codes m.world.codes) m.globals m.world.store.made

-- what a drive leaves alone as events come, and what comes to its objects
pub record IsCarriedOn (m m' : Core) : Type 0 where
  pub grows : GrowsLinked (length m.events) (length m'.events) m.world.store m'.world.store
  pub codes : m'.world.codes ≡ m.world.codes
  pub globals : m'.globals ≡ m.globals
  pub entered : m'.entered ≡ m.entered
  pub failed : m'.failed ≡ m.failed
  pub state : m'.state ≡ m.state

-- without memory no event is added, and no link
pub record HaltsThere (m m' : Core) : Type 0 where
  pub events : m'.events ≡ m.events
  pub kept : IsCarriedOn m m'

-- one turn of a drive: one event more, which may come and tells what it may, with the links that come of it; it makes of the generators what they are by
-- then
pub record Advances (m : Core) (d : Question) (a : Option DriveAnswer) (m' : Core) : Type 0 where
  pub keeps : Keeps m' d m'.stage
  pub added : Event
  pub events : m'.events ≡ m.events ++ added ∷ []
  pub kept : IsCarriedOn m m'
  pub ends : AfterTurn m m' added a
  pub comes : (asked : List Posed) → slice_get asked m.done ≡ Some (posed m.entered d) → MayCome (plan_of m'.world.codes asked) m'.world.store.made (past_at m) added
  pub follows : (asked : List Posed) → slice_get asked m.done ≡ Some (posed m.entered d) → past_after (plan_of m'.world.codes asked) (past_at m) added ≡ past_at m'
  pub tells : TellsNow m'.world.store.made (store_at m'.world.store.made m'.world.store.changes (length m.events)) added
  pub links : HasLinksOf (may_of m') (lines_of m'.world.codes) m'.world.store.made m'.world.store.changes m.events (state_after start m.events) added

-- the same, with the answer last
abbrev pub AdvancesOn : Core → Question → Core → Option DriveAnswer → Type 0
AdvancesOn m d m' a = Advances m d a m'

-- n turns of a drive, which isn't done
pub record Drove (m : Core) (d : Question) (n : ℕ) (m' : Core) : Type 0 where
  pub keeps : Keeps m' d m'.stage
  pub callable : AllBelow (length m'.world.store.made) (question_numbers d)
  pub part : List Event
  pub count : length part ≡ n
  pub events : m'.events ≡ m.events ++ part
  pub kept : IsCarriedOn m m'
  pub done : m'.done ≡ done_in m.events
  pub busy : IsBusy m'.stage
  pub runs : (asked : List Posed) → slice_get asked (done_in m.events) ≡ Some (posed m.entered d) → Comes (plan_of m.world.codes asked) m'.world.store.made (past_at m) part
  pub follows : (asked : List Posed) → slice_get asked (done_in m.events) ≡ Some (posed m.entered d) → past_behind (plan_of m.world.codes asked) (past_at m) part ≡ past_at m'
  pub links : LinksCome (may_of m') (lines_of m'.world.codes) m'.world.store.made m'.world.store.changes m.events (state_after start m.events) part
