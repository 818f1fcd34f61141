-- Which links exceptions get in a run (Python Language Reference, 3.2.13.1 and 7.8). An exception gets what is handled as its context where an answer makes
-- it, where a statement raises it, and where it is thrown into a generator. Its traceback gets an entry in front in each body that it is raised in. Each link is
-- a change that comes of one event, made as soon as that is there. What an exit is told of an exception is the traceback that this has by then.
use Rattle.std.specs.Prelude.{ℕ, zero, suc, ◌==◌, ◌≤◌, nat_le, Bool, true, false, not, ◌&&◌, ◌||◌, Option, Some, None, List, [], ◌∷◌, ◌++◌, ◌≡◌, ◌⊎◌, eqb, filter, length, map, slice_get}
use Rattle.std.specs.Option.{option_or}
use Rattle.py_code.specs.declared.code.PyCode.{PyCode}
use Rattle.py_code.specs.Codes.{Codes}
use Rattle.py_objects.specs.declared.refs.FrameRef.{FrameRef}
use Rattle.py_objects.specs.declared.refs.PyBaseExceptionRef.{PyBaseExceptionRef}
use Rattle.py_objects.specs.declared.payload.ExceptionBody.{ExceptionBody}
use Rattle.py_objects.specs.declared.payload.FunctionBody.{FunctionBody}
use Rattle.py_objects.specs.declared.payload.Payload.{Payload}
use Rattle.py_objects.specs.declared.payload.Payload.TheVariants as payload
use Rattle.py_objects.specs.declared.edit.Edit.{Edit}
use Rattle.py_objects.specs.declared.edit.Edit.TheVariants as edit
use Rattle.py_objects.specs.declared.edit.LinkField.TheVariants as link
use Rattle.py_objects.specs.declared.edit.Change.{Change}
use Rattle.py_objects.specs.declared.request.Request.{Request}
use Rattle.py_objects.specs.declared.request.Request.TheVariants as request
use Rattle.py_objects.specs.declared.event.GotAnswer.{GotAnswer}
use Rattle.py_objects.specs.declared.event.GotAnswer.TheVariants as got
use Rattle.py_objects.specs.declared.event.ResumeHow.{ResumeHow}
use Rattle.py_objects.specs.declared.event.ResumeHow.TheVariants as how
use Rattle.py_objects.specs.declared.event.Event.{Event}
use Rattle.py_objects.specs.declared.event.Event.TheVariants as event
use Rattle.py_objects.specs.Objects.{Obj, AllBelow, HasPayload, event_numbers, is_among, as_exception, as_object, class_object}
use Rattle.py_objects.specs.FrameEntries.{frames_in}
use Rattle.py_objects.specs.Edits.{edit_numbers}
use Rattle.py_objects.specs.Changes.{store_at}
use Rattle.py_objects.specs.Own.{Own, Resumes, own_events}
use Rattle.py_objects.specs.Telling.{ThrowTest}
use Rattle.py_exceptions.specs.Walks.{link_at, IsFirstTo}
use Rattle.py_run.specs.Run.{Act, Activation, State, start, after, handled_among}
use Rattle.py_run.specs.Raises.{is_raising}
use Rattle.py_run.specs.declared.journal.Journal.{Journal}

-- an edit of one object
abbrev pub ObjectEdit : Type 0
ObjectEdit = Obj × Edit

-- whether an edit sets the context of an exception, or its traceback
abbrev pub is_link : Edit → Bool
is_link (edit.Link link.Context v) = true
is_link (edit.Link link.Traceback v) = true
is_link _ = false

-- the links that were set when there were so many events
abbrev pub links_at : ℕ → List Change → List Change
links_at n changes = filter (λ c. (c.after == n) && is_link c.edit) changes

-- these changes set links alone, in order, when there were from m to n events
abbrev pub AreLinks : (m n : ℕ) → List Change → Type 0
AreLinks m n [] = Unit {0}
AreLinks m n (c ∷ cs) = (is_link c.edit ≡ true) × (m ≤ c.after) × (c.after ≤ n) × AreLinks c.after n cs

-- edits, as changes that were made then
abbrev pub noted : ℕ → List ObjectEdit → List Change
noted n edits = map (λ (x : ObjectEdit). record { after = n; object = x.0; edit = x.1 }) edits

-- ---- the context

-- the link that leads to an exception is cut, where one was found
abbrev pub cut : Option Obj → List ObjectEdit
cut None = []
cut (Some x) = (x, edit.Link link.Context None) ∷ []

-- an exception gets another one as its context, and the first one on the way from that along contexts that leads to it loses its link; where both are
-- the same one nothing changes
abbrev pub unless_same : Bool → List Payload → (handled exc : Obj) → List ObjectEdit → Type 0
unless_same true now handled exc edits = edits ≡ []
unless_same false now handled exc edits =
    (found : Option Obj) × IsFirstTo (link_at link.Context now) handled exc found × (edits ≡ cut found ++ (exc, edit.Link link.Context (Some handled)) ∷ [])

-- it gets what is handled as its context, if anything is
abbrev pub GivesContext : List Payload → Option PyBaseExceptionRef → PyBaseExceptionRef → List ObjectEdit → Type 0
GivesContext now None e edits = edits ≡ []
GivesContext now (Some h) e edits = unless_same (h.number == e.number) now (as_object h) (as_object e) edits

-- ---- what was named

-- the numbers that events name
abbrev pub named_by : List Event → List ℕ
named_by [] = []
named_by (e ∷ es) = event_numbers e ++ named_by es

-- the numbers that changes name
abbrev pub named_in : List Change → List ℕ
named_in [] = []
named_in (c ∷ cs) = c.object.number ∷ (edit_numbers c.edit ++ named_in cs)

-- whether an exception is named by none of these events: the answer that raises it has made it
abbrev pub is_fresh : List Event → PyBaseExceptionRef → Bool
is_fresh before e = not (is_among e.number (named_by before))

-- whether both are the same exception, or both none
abbrev pub same_exception : (h g : Option PyBaseExceptionRef) → Bool
same_exception None None = true
same_exception (Some h) (Some g) = eqb h.number g.number
same_exception _ _ = false

-- a test that lets the event of one number throw in under what is handled there, and all others whatever is handled
abbrev pub thrown_under : ℕ → Option PyBaseExceptionRef → ThrowTest
thrown_under event h = λ k g. not (k == event) || same_exception h g

-- what an activation of a function with these arguments may tell, where exceptions are thrown in under what a test lets through
abbrev pub MayUnder : Type 1
MayUnder = ThrowTest → Obj → List Obj → List Own → Type 0

-- where an event comes: the events before, by which the state is this, the objects as they are, and the changes until then
pub record Scene : Type 0 where
  pub before : List Event
  pub state : State
  pub now : List Payload
  pub changed : List Change

-- the activation of a number handles this where the event that comes enters it
abbrev pub HandlesThen : MayUnder → Scene → (act : ℕ) → ResumeHow → Option PyBaseExceptionRef → Type 0
HandlesThen may z zero how h = ⊥
HandlesThen may z (suc i) how h =
    (x : Activation) × (slice_get z.state.made i ≡ Some x)
    × may (thrown_under (length z.before) h) x.function x.args (own_events (suc i) z.before ++ Resumes (length z.before) how ∷ [])

-- an exception gets its context, or it has come from elsewhere
abbrev pub GetsContext : Bool → Scene → PyBaseExceptionRef → List ObjectEdit → Type 0
GetsContext true z e edits = GivesContext z.now (handled_among z.state.stack) e edits
GetsContext false z e edits = edits ≡ []

-- ---- the entry of a traceback

-- the line of a unit of a code, by the numbers of both
abbrev pub Lines : Type 0
Lines = (code at : ℕ) → Option ℕ

-- the line of a unit of this code
abbrev pub line_of : Option PyCode → (at : ℕ) → Option ℕ
line_of None at = None
line_of (Some c) at = slice_get c.code.locations.items at

-- those of codes
abbrev pub lines_in : Codes → Lines
lines_in codes code at = line_of (slice_get codes.codes code) at

-- this is the frame of an activation, one of these that were made: it is of the code of its function, and frames stand among the objects in the order in
-- which their activations were made
pub record IsFrameOf (objects : List Payload) (made : List Activation) (act : ℕ) (frame : FrameRef) : Type 0 where
  pub at : ℕ
  pub numbered : act ≡ suc at
  pub activation : Activation
  pub is_made : slice_get made at ≡ Some activation
  pub body : FunctionBody
  pub is_function : HasPayload objects activation.function (payload.Function body)
  pub entry : HasPayload objects (record { number = frame.number }) (payload.Frame body.code)
  pub made_with : slice_get (frames_in objects) at ≡ Some frame.number

module _ (lines : Lines) (made : List Payload) where
  -- an exception gets a new entry in front of the traceback that it has: the activation's frame, the place after the unit that asked, and that unit's
  -- line. Its number is above all that was named so far
  pub record PutsEntry (z : Scene) (act at : ℕ) (e : PyBaseExceptionRef) (edits : List ObjectEdit) : Type 0 where
    pub frame : FrameRef
    pub is_frame : IsFrameOf made z.state.made act frame
    pub line : ℕ
    pub is_line : lines is_frame.body.code at ≡ Some line
    pub entry : Obj
    pub has : HasPayload made entry (payload.Traceback (record { next = link_at link.Traceback z.now (as_object e); frame = frame; lasti = suc at; lineno = line }))
    pub newer : AllBelow entry.number (named_by z.before ++ named_in z.changed)
    pub puts : edits ≡ (as_object e, edit.Link link.Traceback (Some entry)) ∷ []

  -- it is raised by the unit of an activation: it gets its context, unless it has come from elsewhere, and then its entry
  pub record Raises (fresh : Bool) (z : Scene) (act at : ℕ) (e : PyBaseExceptionRef) (edits : List ObjectEdit) : Type 0 where
    pub contexts : List ObjectEdit
    pub gets : GetsContext fresh z e contexts
    pub entries : List ObjectEdit
    pub puts : PutsEntry z act at e entries
    pub both : edits ≡ contexts ++ entries

  -- what is answered where a statement has asked for what it raises is raised; else it isn't
  abbrev pub RaisesIf : Bool → Scene → (act at : ℕ) → Obj → List ObjectEdit → Type 0
  RaisesIf true z act at v edits = Raises true z act at (as_exception v) edits
  RaisesIf false z act at v edits = edits ≡ []

  -- the edits that come of an answer in the body that asked this by this unit: an exception that the answer has made gets its context there
  abbrev pub ComeOfAnswer : Option Request → Scene → (act at : ℕ) → GotAnswer → List ObjectEdit → Type 0
  ComeOfAnswer asked z act at (got.Value v) edits = RaisesIf (is_raising asked) z act at v edits
  ComeOfAnswer asked z act at (got.Stop v) edits = edits ≡ []
  ComeOfAnswer asked z act at (got.Raise e) edits = Raises (is_fresh z.before e) z act at e edits

  -- the same in the innermost activation
  abbrev pub ComeOfTop : List Act → Scene → (act : ℕ) → GotAnswer → List ObjectEdit → Type 0
  ComeOfTop [] z act w edits = ⊥
  ComeOfTop (top ∷ rest) z act w edits = ComeOfAnswer top.asks z act top.at w edits

-- ---- what an exit is told

-- an exit is told of no exception: by three None, which may be three objects
abbrev pub IsToldNone : List Payload → (c e t : Obj) → Type 0
IsToldNone made c e t = HasPayload made c payload.None × HasPayload made e payload.None × HasPayload made t payload.None

-- an object is what an exit is told as the traceback of an exception: the one that this has now, else a None
abbrev pub IsToldNow : List Payload → Option Obj → Obj → Type 0
IsToldNow made None t = HasPayload made t payload.None
IsToldNow made (Some known) t = t ≡ known

-- an exit is told an exception: its class, itself, and its traceback
abbrev pub IsToldOf : (made now : List Payload) → (c e t : Obj) → Type 0
IsToldOf made now c e t =
    (body : ExceptionBody) × HasPayload made e (payload.Exception body) × (c ≡ class_object body.class) × IsToldNow made (link_at link.Traceback now e) t

-- a question tells what it may: an exit is told of an exception, or of none
abbrev pub AsksNow : (made now : List Payload) → Request → Type 0
AsksNow made now (request.Exit x c e t) = IsToldNone made c e t ⊎ IsToldOf made now c e t
AsksNow made now _ = Unit {0}

-- so does an event, where it asks one
abbrev pub TellsNow : (made now : List Payload) → Event → Type 0
TellsNow made now (event.Ask a r own at) = AsksNow made now r
TellsNow made now _ = Unit {0}

-- ---- what comes of an event

module _ (may : MayUnder) (lines : Lines) (made : List Payload) where
  -- the edits that come of an event
  abbrev pub ComeOf : Scene → Event → List ObjectEdit → Type 0
  ComeOf z (event.Drive d) edits = edits ≡ []
  ComeOf z (event.Result d w) edits = edits ≡ []
  ComeOf z (event.Make a f vs) edits = edits ≡ []
  ComeOf z (event.Resume a how.Start) edits = edits ≡ []
  ComeOf z (event.Resume a (how.Send v)) edits = edits ≡ []
  ComeOf z (event.Resume a (how.Throw e)) edits =
      (h : Option PyBaseExceptionRef) × HandlesThen may z a (how.Throw e) h × GivesContext z.now (option_or h (handled_among z.state.stack)) e edits
  ComeOf z (event.Ask a r own at) edits = edits ≡ []
  ComeOf z (event.Got a w) edits = ComeOfTop lines made z.state.stack z a w edits
  ComeOf z (event.Round a at) edits = edits ≡ []
  ComeOf z (event.Yield a v at) edits = edits ≡ []
  ComeOf z (event.End a e at) edits = edits ≡ []

  module _ (changes : List Change) where
    -- where the event comes that follows these
    abbrev pub scene_at : List Event → State → Scene
    scene_at before s = record {
      before = before;
      state = s;
      now = store_at made changes (length before);
      changed = filter (λ c. nat_le c.after (length before)) changes;
    }

    -- the links that were set when an event was there are those that come of it
    abbrev pub HasLinksOf : List Event → State → Event → Type 0
    HasLinksOf before s e =
        (edits : List ObjectEdit) × ComeOf (scene_at before s) e edits × (links_at (suc (length before)) changes ≡ noted (suc (length before)) edits)

    -- so do those of events that follow others, and each tells what it may
    abbrev pub LinksCome : List Event → State → List Event → Type 0
    LinksCome before s [] = Unit {0}
    LinksCome before s (e ∷ es) =
        TellsNow made (store_at made changes (length before)) e × HasLinksOf before s e × LinksCome (before ++ e ∷ []) (after s e) es

-- the changes of a journal are the links that come of its events, and nothing else, and exits are told of what the exceptions have by then
pub record HasLinks (may : MayUnder) (j : Journal) : Type 0 where
  pub come : LinksCome may (lines_in j.codes) j.objects j.changes [] start j.events
  pub alone : AreLinks 1 (length j.events) j.changes
