-- What holds of every step and every run.
use Rattle.std.specs.Prelude.{ℕ, ◌≤◌, ◌<◌, ◌-◌, ◌≡◌, Bool, true, Option, Some, None, List, [], ◌∷◌, slice_get, length}
use Rattle.py_code.specs.declared.code.PyCode.{PyCode}
use Rattle.py_objects.specs.declared.refs.PyBaseExceptionRef.{PyBaseExceptionRef}
use Rattle.py_objects.specs.declared.payload.Payload.{Payload}
use Rattle.py_objects.specs.declared.payload.Payload.TheVariants as payload
use Rattle.py_objects.specs.Objects.{Obj, HasPayload, AllBelow, numbers, number_if, as_object}
use Rattle.py_objects.specs.Growth.{Grows}
use Rattle.py_objects.specs.declared.event.Ending.TheVariants as ending
use Rattle.py_objects.specs.Own.{Own, Makes, Resumes, Asks, Gets, Rounds, Yields, Ends}
use Rattle.py_objects.specs.Telling.{ThrowTest, under_any}
use Rattle.py_check.specs.declared.annotated.Annotated.{Annotated}
use Rattle.py_check.specs.Depths.{deepest}
use Rattle.py_rows.specs.declared.expect.Expect.{Expect}
use Rattle.py_rows.specs.declared.expect.Expect.TheVariants as expect
use Rattle.py_rows.specs.States.{Setting, State, Step, Goes, Tells, Stuck, Move, Plainly, Loads, Decides, Manages, Resolves, Exits}
use Rattle.py_rows.specs.Slot.{KeepsSlot}
use Rattle.py_check.specs.declared.note.Kind.TheVariants as kind
use Rattle.py_rows.specs.Constants.{HasConstant}
use Rattle.py_rows.specs.Answers.{HasKind}
use Rattle.py_rows.specs.Receiving.{moves}
use Rattle.py_check.specs.Running.{is_generator}
use Rattle.py_rows.specs.Questions.{UnitAsks, UnitYields}
use Rattle.py_rows.specs.RunOfRows.{IsUnder, Steps, Runs, started}
use Rattle.py_rows.specs.Below.{HearsBelow, TellsBelow, HoldsBelow}
use Rattle.py_rows.specs.Standing.{IsOf, IsStanding}
use Rattle.py_rows.specs.Fitting.{FitsAt}
use Rattle.py_rows.specs.Sound.{IsSound}

-- what a step leads to has a property, and isn't nothing
abbrev pub LeadsTo : (State → Type 0) → Step → Type 0
LeadsTo P (Goes t) = P t
LeadsTo P (Tells x t) = P t
LeadsTo P Stuck = ⊥

-- an exception is there
abbrev pub RaisedThere : List Payload → Option PyBaseExceptionRef → Type 0
RaisedThere objects None = Unit {0}
RaisedThere objects (Some e) = HasKind objects (as_object e) kind.Exc

-- a step that a move leads to has a property, whichever object it loads or is told, whether or not one is a manager, and whatever payload it
-- has; what it decides by is a truth value
abbrev pub Always : List Payload → (Step → Type 0) → Move → Type 0
Always objects P (Plainly step) = P step
Always objects P (Loads c f) = (v : Obj) → HasConstant objects v c → P (f v)
Always objects P (Decides v f) = ((b : Bool) × HasPayload objects v (payload.Bool b)) × ((b : Bool) → P (f b))
Always objects P (Manages m f) = (b : Bool) → P (f b)
Always objects P (Resolves v f) = (p : Payload) → P (f p)
Always objects P (Exits e f) = RaisedThere objects e × ((t v b : Obj) → P (f t v b))

-- so has the state that it leads to
abbrev pub AlwaysLeads : List Payload → (State → Type 0) → Move → Type 0
AlwaysLeads objects P m = Always objects (LeadsTo P) m

-- an event is one that its unit may tell: what is asked, its instruction may ask; only YieldValue yields, in a generator's code; and a frame that ends by a raise
-- ends by an exception
abbrev pub MayTell : List Payload → PyCode → Own → Type 0
MayTell objects code Makes = Unit {0}
MayTell objects code (Resumes k h) = Unit {0}
MayTell objects code (Asks at r own) = UnitAsks (slice_get code.code.instructions.items at) r
MayTell objects code (Gets k w) = Unit {0}
MayTell objects code (Rounds at) = Unit {0}
MayTell objects code (Yields at v) = UnitYields (slice_get code.code.instructions.items at) × (is_generator code.code.flags ≡ true)
MayTell objects code (Ends at (ending.Return v)) = Unit {0}
MayTell objects code (Ends at (ending.Raise e)) = HasKind objects (as_object e) kind.Exc

-- the same of several events
abbrev pub AllMayTell : List Payload → PyCode → List Own → Type 0
AllMayTell objects code [] = Unit {0}
AllMayTell objects code (x ∷ xs) = MayTell objects code x × AllMayTell objects code xs

-- the stack and the blocks are within the sizes
abbrev pub IsWithin : ℕ → ℕ → State → Type 0
IsWithin max depth s = (length s.stack ≤ max) × (length s.blocks ≤ depth)

-- a frame that expects this goes on by itself
abbrev pub IsMoving : Expect → Type 0
IsMoving expect.Start = ⊥
IsMoving expect.Go = Unit {0}
IsMoving (expect.Answer w) = ⊥
IsMoving expect.Resume = ⊥
IsMoving (expect.Heard w) = Unit {0}
IsMoving expect.Ended = ⊥

-- a code with its table of names, its globals and its closure, into which exceptions are thrown whatever is handled
abbrev pub setting_of : List (List ℕ) → Obj → List Obj → Annotated → Setting
setting_of names globals closure code = record { code = code.code; names = names; globals = globals; closure = closure; throws_under = under_any }

-- a frame that fits its code and expects no input isn't stuck, and fits its code behind its step
abbrev pub NextFits : Type 0
NextFits = (objects : List Payload) (names : List (List ℕ)) (globals : Obj) (closure : List Obj) (code : Annotated) (s : State)
    → IsSound names code → FitsAt objects code s.wants s → IsMoving s.wants → AlwaysLeads objects (λ t. FitsAt objects code t.wants t) (moves (setting_of names globals closure code) s.wants s)

-- so there is a step that it can make: where not among these objects, then among more, since a constant may have to be made
abbrev pub NextGoes : Type 0
NextGoes = (objects : List Payload) (names : List (List ℕ)) (globals : Obj) (closure : List Obj) (code : Annotated) (s : State)
    → IsSound names code → FitsAt objects code s.wants s → IsMoving s.wants
    → (objects' : List Payload) × Grows objects objects' × ((xs : List Own) × (t : State) × Steps objects' (setting_of names globals closure code) s xs t)

-- it fits behind each step of a run
abbrev pub StepsFit : Type 0
StepsFit = (objects : List Payload) (names : List (List ℕ)) (globals : Obj) (closure : List Obj) (code : Annotated) (s t : State) (xs : List Own)
    → IsSound names code → FitsAt objects code s.wants s → Steps objects (setting_of names globals closure code) s xs t → FitsAt objects code t.wants t

-- each event that it tells there is one that its unit may tell
abbrev pub StepsTell : Type 0
StepsTell = (objects : List Payload) (names : List (List ℕ)) (globals : Obj) (closure : List Obj) (code : Annotated) (s t : State) (xs : List Own)
    → IsSound names code → FitsAt objects code s.wants s → Steps objects (setting_of names globals closure code) s xs t → AllMayTell objects code.code xs

-- it is within the sizes
abbrev pub FitsWithin : Type 0
FitsWithin = (objects : List Payload) (names : List (List ℕ)) (code : Annotated) (s : State)
    → IsSound names code → FitsAt objects code s.wants s → IsWithin code.code.code.max_stackdepth (deepest code.notes) s

-- the slot holds the exception of the innermost handler, or what it held at first
abbrev pub SlotKept : Type 0
SlotKept = (objects : List Payload) (setting : Setting) (first : Option PyBaseExceptionRef) (s t : State) (xs : List Own) → KeepsSlot first s → Steps objects setting s xs t → KeepsSlot first t

-- a frame that hasn't begun fits its code
abbrev pub StartFits : Type 0
StartFits = (objects : List Payload) (names : List (List ℕ)) (code : Annotated) (slot : Option PyBaseExceptionRef) (args : List Obj) → IsSound names code → FitsAt objects code expect.Start (started code.code slot args)

-- what fits goes on to fit as objects are added
abbrev pub FitsGrow : Type 0
FitsGrow = (objects objects' : List Payload) (code : Annotated) (s : State) → Grows objects objects' → FitsAt objects code s.wants s → FitsAt objects' code s.wants s

-- a run goes over to more objects
abbrev pub RunsGrow : Type 0
RunsGrow = (objects objects' : List Payload) (setting : Setting) (s t : State) (xs : List Own) → Grows objects objects' → Runs objects setting s xs t → Runs objects' setting s xs t

-- a test lets each of these events throw in, whatever is handled
abbrev pub LetsThrough : ThrowTest → List Own → Type 0
LetsThrough throws [] = Unit {0}
LetsThrough throws (x ∷ xs) = ((h : Option PyBaseExceptionRef) → IsUnder throws h x) × LetsThrough throws xs

-- a run goes over to each test that lets its events through
abbrev pub RunsGoUnder : Type 0
RunsGoUnder = (objects : List Payload) (setting : Setting) (throws : ThrowTest) (s t : State) (xs : List Own)
    → LetsThrough throws xs → Runs objects setting s xs t → Runs objects (record setting { throws_under = throws }) s xs t

-- a frame that hasn't begun stands where it begins
abbrev pub StartStands : Type 0
StartStands = (code : PyCode) (slot : Option PyBaseExceptionRef) (args : List Obj) → IsStanding slot (started code slot args)

-- it stands somewhere behind each step
abbrev pub StepsStand : Type 0
StepsStand = (objects : List Payload) (setting : Setting) (first : Option PyBaseExceptionRef) (s t : State) (xs : List Own) → IsStanding first s → Steps objects setting s xs t → IsStanding first t

-- each event that a step tells is of the unit that was begun last
abbrev pub EventsTold : Type 0
EventsTold = (objects : List Payload) (setting : Setting) (first : Option PyBaseExceptionRef) (s t : State) (x : Own) → IsStanding first s → Steps objects setting s (x ∷ []) t → IsOf (t.last - 1) t x

-- each silent step leads to a later unit
abbrev pub SilentLater : Type 0
SilentLater = (objects : List Payload) (setting : Setting) (first : Option PyBaseExceptionRef) (s t : State) → IsStanding first s → Steps objects setting s [] t → (s.at < t.at) × (t.wants ≡ expect.Go)

-- a frame that hasn't begun holds its arguments and what is in the slot
abbrev pub StartBelow : Type 0
StartBelow = (n : ℕ) (code : PyCode) (slot : Option PyBaseExceptionRef) (args : List Obj) → AllBelow n (number_if slot) → AllBelow n (numbers args) → HoldsBelow n (started code slot args)

-- where the globals, all that a frame holds and all that it hears are objects, so is all that it tells and holds behind a step
abbrev pub StepsBelow : Type 0
StepsBelow = (objects : List Payload) (setting : Setting) (s t : State) (xs : List Own) → setting.globals.number < length objects → HoldsBelow (length objects) s → HearsBelow (length objects) xs → Steps objects setting s xs t
    → TellsBelow (length objects) xs × HoldsBelow (length objects) t

-- a run of a sound code fits its notes, wherever it comes to
abbrev pub RunsFit : Type 0
RunsFit = (objects : List Payload) (names : List (List ℕ)) (globals : Obj) (closure : List Obj) (code : Annotated) (slot : Option PyBaseExceptionRef) (args : List Obj) (t : State) (xs : List Own)
    → IsSound names code → Runs objects (setting_of names globals closure code) (started code.code slot args) xs t → FitsAt objects code t.wants t

-- and tells what its units may tell
abbrev pub RunsTell : Type 0
RunsTell = (objects : List Payload) (names : List (List ℕ)) (globals : Obj) (closure : List Obj) (code : Annotated) (slot : Option PyBaseExceptionRef) (args : List Obj) (t : State) (xs : List Own)
    → IsSound names code → Runs objects (setting_of names globals closure code) (started code.code slot args) xs t → AllMayTell objects code.code xs

-- where the globals, the arguments, what is in the slot and all that a run hears are objects, so is all that it tells
abbrev pub RunsBelow : Type 0
RunsBelow = (objects : List Payload) (setting : Setting) (slot : Option PyBaseExceptionRef) (args : List Obj) (t : State) (xs : List Own) → setting.globals.number < length objects → AllBelow (length objects) (number_if slot) → AllBelow (length objects) (numbers args)
    → HearsBelow (length objects) xs → Runs objects setting (started setting.code slot args) xs t → TellsBelow (length objects) xs

-- the slot is kept wherever a run comes to
abbrev pub RunsKeepSlot : Type 0
RunsKeepSlot = (objects : List Payload) (setting : Setting) (slot : Option PyBaseExceptionRef) (args : List Obj) (t : State) (xs : List Own)
    → Runs objects setting (started setting.code slot args) xs t → KeepsSlot slot t

-- where a run ends the slot holds what it held at first
abbrev pub EndsKeepSlot : Type 0
EndsKeepSlot = (objects : List Payload) (setting : Setting) (slot : Option PyBaseExceptionRef) (args : List Obj) (t : State) (xs : List Own)
    → Runs objects setting (started setting.code slot args) xs t → t.wants ≡ expect.Ended → t.slot ≡ slot
