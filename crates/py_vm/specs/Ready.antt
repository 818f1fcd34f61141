-- What each turn needs, by the stage.
use Rattle.std.specs.Prelude.{◌≤◌, ◌<◌, Option, Some, None, List, [], ◌∷◌, ◌≡◌, slice_get, length, false}
use Rattle.py_objects.specs.declared.payload.Payload.{Payload}
use Rattle.py_objects.specs.declared.payload.CoroKind.{CoroKind}
use Rattle.py_objects.specs.declared.request.Request.{Request}
use Rattle.py_objects.specs.declared.event.Event.{Event}
use Rattle.py_objects.specs.Objects.{Obj, IsFunction, AllBelow, AllFit}
use Rattle.py_objects.specs.Edits.{Kept}
use Rattle.py_check.specs.declared.annotated.Annotated.{Annotated}
use Rattle.py_rows.specs.Laws.{IsMoving, RaisedThere}
use Rattle.py_frame.specs.declared.input.Answer.{Answer}
use Rattle.py_frame.specs.Running.{IsRunning}
use Rattle.py_run.specs.declared.drive.Question.{Question}
use Rattle.py_vm.specs.declared.stage.Running.{Running}
use Rattle.py_vm.specs.declared.stage.Halted.{Halted}
use Rattle.py_vm.specs.declared.stage.Suspended.{Suspended}
use Rattle.py_vm.specs.declared.generators.KeptGenerator.{KeptGenerator}
use Rattle.py_vm.specs.declared.reply.Reply.{Reply as MadeReply}
use Rattle.py_vm.specs.declared.stage.Stage.{Stage}
use Rattle.py_vm.specs.declared.stage.Stage.TheVariants as stage
use Rattle.py_vm.specs.declared.machinery.Core.{Core}
use Rattle.py_answers.specs.Readable.{IsReadable}
use Rattle.py_answers.specs.Replying.{IsGenerator}
use Rattle.py_coro.specs.declared.coro.CoroEnd.{CoroEnd}
use Rattle.py_coro.specs.Modes.{Mode, Fresh, Suspended as Left, Running as Entered, Closed}
use Rattle.py_exceptions.specs.Classes.{HaveClasses}
use Rattle.py_stack.specs.Slots.{Slots, top_of, topmost}
use Rattle.py_vm.specs.declared.calls.Course.{Course as MadeCourse}
use Rattle.py_vm.specs.declared.calls.Course.TheVariants as course
use Rattle.py_vm.specs.Courses.{NamesThere}
use Rattle.py_vm.specs.Generators.{generator_asked, IsRunningNow}
use Rattle.py_vm.specs.Codes.{Checked, IsRunnable}
use Rattle.py_run.specs.Raises.{is_raising}
use Rattle.py_vm.specs.declared.world.World.{World}
use Rattle.py_vm.specs.Raising.{raising_in, IsTraceable, RaisesException}
use Rattle.py_vm.specs.Machine.{question_numbers}
use Rattle.py_vm.specs.Holds.{AreRunnable}
use Rattle.py_vm.specs.Stands.{AreStored, IsEnding, IsQuestion, asking}
use Rattle.py_vm.specs.Turns.{IsResumable, IsAnswerTo, AsksAt, Questioned}

-- a frame that goes on by itself, with what is in the slot
pub record CanGo (codes : Checked) (objects : List Payload) (slots : Slots) (r : Running) : Type 0 where
  pub code : Annotated
  pub is_code : slice_get codes.codes r.frame.code ≡ Some code
  pub runnable : IsRunnable codes.names code
  pub running : IsRunning objects codes.names code r.frame
  pub moves : IsMoving r.frame.state.wants
  pub shares : top_of slots ≡ r.frame.state.slot
  pub fit : AllFit objects

-- a generator that may be entered has its activation
abbrev pub HoldsIn : Mode → KeptGenerator → Type 0
HoldsIn Fresh x = (s : Suspended) × (x.suspended ≡ Some s)
HoldsIn Left x = (s : Suspended) × (x.suspended ≡ Some s)
HoldsIn Entered x = Unit {0}
HoldsIn Closed x = Unit {0}

abbrev pub AreReady : List Payload → List KeptGenerator → Type 0
AreReady objects [] = Unit {0}
AreReady objects (x ∷ xs) = (x.object.number < length objects) × HoldsIn x.generator.mode x × AreReady objects xs

-- an activation of this kind has a slot of its own on top of another one, where it can be suspended
abbrev pub HasOwnSlot : Option CoroKind → Slots → Type 0
HasOwnSlot None slots = Unit {0}
HasOwnSlot (Some kind) slots = 1 < length slots

-- the innermost of these asked something, and stands at a unit of its code
abbrev pub FirstAsks : World → List Event → List Halted → Type 0
FirstAsks w events [] = Unit {0}
FirstAsks w events (h ∷ hs) = AsksAt events h.place × IsTraceable w.codes w.store.made h.running

-- what it raises by this reply, whatever answer that becomes, is an exception
abbrev pub FirstRaises : Kept → List Event → List Halted → MadeReply → Type 0
FirstRaises store events [] w = Unit {0}
FirstRaises store events (h ∷ hs) w = (after : Kept) (a : Answer) → IsAnswerTo store after w a → RaisesException after.made (raising_in events h a)

-- it raises no value that it is answered
abbrev pub AsksNoRaise : List Event → List Halted → Type 0
AsksNoRaise events [] = Unit {0}
AsksNoRaise events (h ∷ hs) = is_raising (asking h.running.act (slice_get events h.place)).asks ≡ false

-- what answers need: objects that fit, codes that can run, generators, and in the slots objects
pub record CanReply (m : Core) : Type 0 where
  pub stored : AreStored m.world.zoo m.globals m.world.declarations m.world.store
  pub runnable : AreRunnable m.world.codes m.world.store.made
  pub handled : RaisedThere m.world.store.made (topmost m.slots)
  pub generators : AreReady m.world.store.made m.world.generators

-- what a course needs that is followed
abbrev pub CanFollow : Core → MadeCourse → Type 0
CanFollow m (course.Says w) =
    HaveClasses m.world.zoo m.world.store.made × NamesThere m.world.store.made w × IsReadable m.world.store × FirstAsks m.world m.events m.callers
    × FirstRaises m.world.store m.events m.callers w
CanFollow m (course.Enters f vs) =
    IsReadable m.world.store × AreRunnable m.world.codes m.world.store.made × IsFunction m.world.store.made f
CanFollow m (course.Resumes g h) = IsResumable m.world.generators g

-- what the end of an activation needs that a question entered: the generator that it asks, if it does, runs
abbrev pub CanFinish : Core → Question → CoroEnd → Type 0
CanFinish m d how =
    AreStored m.world.zoo m.globals m.world.declarations m.world.store × IsEnding m.world.store.made how
    × ((q : Request) → Questioned m.events d m.callers q → (g : Obj) → generator_asked q ≡ Some g → IsRunningNow m.world.generators g × IsGenerator m.world.store.made g)
    × FirstAsks m.world m.events m.callers × AsksNoRaise m.events m.callers

-- what a turn needs
abbrev pub IsReady : Core → Question → Stage → Type 0
IsReady m d stage.Idle = ⊥
IsReady m d stage.Begins = m.done ≤ length m.events
IsReady m d stage.Asking = (m.done ≤ length m.events) × (m.made ≤ length m.events) × CanReply m × AllBelow (length m.world.store.made) (question_numbers d) × (m.callers ≡ [])
IsReady m d (stage.Made r f) = (m.done ≤ length m.events) × IsFunction m.world.store.made f × CanReply m × FirstAsks m.world m.events m.callers × AsksNoRaise m.events m.callers
IsReady m d (stage.Going r) = CanGo m.world.codes m.world.store.made m.slots r × HasOwnSlot r.kind m.slots
IsReady m d (stage.Waiting h) = (m.done ≤ length m.events) × (m.made ≤ length m.events) × CanReply m × IsQuestion m.world.store.made m.events h.place × IsTraceable m.world.codes m.world.store.made h.running
IsReady m d (stage.Due s how) = (m.done ≤ length m.events) × CanFinish m d how
