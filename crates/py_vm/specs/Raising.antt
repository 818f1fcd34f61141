-- What an event brings into a body, and the links that it gets there.
use Rattle.std.specs.Prelude.{ℕ, suc, ◌-◌, ◌≤◌, Option, Some, None, List, Bool, true, false, ◌≡◌, slice_get, length, if◌then◌else◌}
use Rattle.py_objects.specs.declared.refs.PyBaseExceptionRef.{PyBaseExceptionRef}
use Rattle.py_objects.specs.declared.refs.PyTracebackRef.{PyTracebackRef}
use Rattle.py_objects.specs.declared.payload.Payload.{Payload}
use Rattle.py_objects.specs.declared.request.Request.{Request}
use Rattle.py_objects.specs.declared.event.Event.{Event}
use Rattle.py_objects.specs.declared.event.ResumeHow.{ResumeHow}
use Rattle.py_objects.specs.declared.event.ResumeHow.TheVariants as how
use Rattle.py_objects.specs.Objects.{IfThere, IsException, IsTraceback, as_exception, as_object}
use Rattle.py_objects.specs.Edits.{Kept, objects_of, IsEdited}
use Rattle.py_objects.specs.Growth.{IsGrown}
use Rattle.py_check.specs.declared.annotated.Annotated.{Annotated}
use Rattle.py_exceptions.specs.Contexts.{IsContextualized}
use Rattle.py_exceptions.specs.Tracebacks.{traceback_edit, traceback_object, with_entry, HasTraceback, IsFrame}
use Rattle.py_frame.specs.declared.input.Answer.{Answer}
use Rattle.py_frame.specs.declared.input.Answer.TheVariants as given
use Rattle.py_frame.specs.Frames.{line_at}
use Rattle.py_rows.specs.Laws.{RaisedThere}
use Rattle.py_run.specs.Raises.{is_raising}
use Rattle.py_stack.specs.Slots.{topmost}
use Rattle.py_vm.specs.declared.machinery.Core.{Core}
use Rattle.py_vm.specs.declared.raising.Raising.{Raising}
use Rattle.py_vm.specs.declared.stage.Halted.{Halted}
use Rattle.py_vm.specs.declared.stage.Running.{Running}
use Rattle.py_vm.specs.declared.world.World.{World}
use Rattle.py_vm.specs.Codes.{Checked}
use Rattle.py_vm.specs.Stands.{asking}

-- ---- what is brought

-- an exception that has no entry so far, and whether it gets its context
abbrev pub brought : PyBaseExceptionRef → Bool → Raising
brought e gets = record { exception = e; gets_context = gets; entry = None }

-- what an answer to a question brings into the body that gets it, if it raises anything there
abbrev pub raising_by : Option Request → Answer → Option Raising
raising_by q (given.Value v) = if is_raising q then Some (brought (as_exception v) true) else None
raising_by q (given.Stop v) = None
raising_by q (given.Fresh e) = Some (brought e true)
raising_by q (given.Passed e) = Some (brought e false)

-- the same of an activation that waits
abbrev pub raising_in : List Event → Halted → Answer → Option Raising
raising_in events h w = raising_by (asking h.running.act (slice_get events h.place)).asks w

-- what is thrown where an activation is entered like this, if anything is
abbrev pub thrown_by : ResumeHow → Option Raising
thrown_by how.Start = None
thrown_by (how.Send v) = None
thrown_by (how.Throw e) = Some (brought e true)

-- what is raised is an exception
abbrev pub RaisesException : List Payload → Option Raising → Type 0
RaisesException objects None = Unit {0}
RaisesException objects (Some x) = IsException objects (as_object x.exception)

-- ---- a new entry

-- an activation stands at a unit of its code, and its frame is there
pub record IsTraceable (codes : Checked) (objects : List Payload) (r : Running) : Type 0 where
  pub code : Annotated
  pub is_code : slice_get codes.codes r.frame.code ≡ Some code
  pub within : r.frame.state.last ≤ length code.code.code.instructions.items
  pub entry : IsFrame objects r.frame.entry

-- an entry was made for the traceback of an exception. It leads on to the one that it has: the frame of an activation, the place after the unit that
-- its last event names, and that unit's line
pub record IsNewEntry (codes : Checked) (old : Kept) (r : Running) (e : PyBaseExceptionRef) (entry : PyTracebackRef) (new : Kept) : Type 0 where
  pub next : Option PyTracebackRef
  pub leads : HasTraceback (objects_of old) e next
  pub code : Annotated
  pub is_code : slice_get codes.codes r.frame.code ≡ Some code
  pub line : ℕ
  pub is_line : line_at code r.frame ≡ Some line
  pub number : entry.number ≡ length old.made
  pub added : new ≡ with_entry old next r.frame.entry (suc (r.frame.state.last - 1)) line
  pub grown : IsGrown old new

-- a world in which it was made
abbrev pub MakesEntry : World → Running → PyBaseExceptionRef → World → PyTracebackRef → Type 0
MakesEntry w r e w' entry = IsNewEntry w.codes w.store r e entry w'.store × (w' ≡ record w { store = w'.store })

-- what is brought into an activation is noted, with its entry; where nothing is, all stays
abbrev pub IsNoted : Checked → Kept → Running → Option Raising → Kept → (before after : Option Raising) → Type 0
IsNoted codes old r None new before after = (new ≡ old) × (after ≡ before)
IsNoted codes old r (Some x) new before after =
    (entry : PyTracebackRef) × IsNewEntry codes old r x.exception entry new × (after ≡ Some (record x { entry = Some entry }))

-- a machine that noted what an answer brings
abbrev pub NotedOne : Core → Halted → Answer → Core → Type 0
NotedOne m h w m' =
    (store : Kept) × (raising : Option Raising) × IsNoted m.world.codes m.world.store h.running (raising_in m.events h w) store m.raising raising
    × (m' ≡ record m { world = record m.world { store = store }; raising = raising })

-- ---- its links

-- what is handled becomes the context of an exception that gets it
abbrev pub ContextOf : Bool → (old new : Kept) → Option PyBaseExceptionRef → PyBaseExceptionRef → Type 0
ContextOf true old new handled e = IsContextualized old new handled e
ContextOf false old new handled e = new ≡ old

-- an entry stands in front of its traceback, if there is one
abbrev pub EntryOf : (old new : Kept) → PyBaseExceptionRef → Option PyTracebackRef → Type 0
EntryOf old new e None = new ≡ old
EntryOf old new e (Some entry) = IsEdited old new (as_object e) (traceback_edit (Some entry))

-- what the last event brought into a body got its links, when there were so many events
abbrev pub LinksOf : Option Raising → (events : ℕ) → (handled : Option PyBaseExceptionRef) → (old new : Kept) → Type 0
LinksOf None events handled old new = new ≡ old
LinksOf (Some x) events handled old new =
    (between : Kept) × ContextOf x.gets_context (record old { mark = events }) between handled x.exception × EntryOf between new x.exception x.entry

-- what is brought is there, and so is what is handled
pub record AreThere (objects : List Payload) (handled : Option PyBaseExceptionRef) (x : Raising) : Type 0 where
  pub exception : IsException objects (as_object x.exception)
  pub handled_there : RaisedThere objects handled
  pub entry : IfThere (IsTraceback objects) (traceback_object x.entry)

abbrev pub CanLink : Core → Option Raising → Type 0
CanLink m None = Unit {0}
CanLink m (Some x) = AreThere m.world.store.made (topmost m.slots) x

-- a machine in which it got them
abbrev pub Linked : Core → Core → Type 0
Linked m m' =
    (store : Kept) × LinksOf m.raising (length m.events) (topmost m.slots) m.world.store store × (m' ≡ record m { world = record m.world { store = store } })
