-- What the machine promises of requests: the course that the code makes is one that the definitions have.
use Rattle.std.specs.Prelude.{ℕ, ◌<◌, ◌≤◌, false, true, Option, Some, None, List, [], ◌≡◌, length, map}
use Rattle.py_code.specs.declared.names.NameId.{NameId}
use Rattle.py_objects.specs.declared.refs.PyBaseExceptionRef.{PyBaseExceptionRef}
use Rattle.py_objects.specs.declared.payload.Payload.{Payload}
use Rattle.py_objects.specs.declared.payload.Payload.TheVariants as payload
use Rattle.py_objects.specs.declared.payload.CoroBody.{CoroBody}
use Rattle.py_objects.specs.declared.payload.CoroKind.{CoroKind}
use Rattle.py_objects.specs.declared.payload.Fault.{Fault}
use Rattle.py_objects.specs.declared.payload.ManagerBody.{ManagerBody}
use Rattle.py_objects.specs.Edits.{Kept}
use Rattle.py_objects.specs.declared.request.Request.{Request}
use Rattle.py_objects.specs.declared.request.Request.TheVariants as request
use Rattle.py_objects.specs.declared.event.Event.{Event}
use Rattle.py_objects.specs.declared.event.GotAnswer.{GotAnswer}
use Rattle.py_objects.specs.declared.event.GotAnswer.TheVariants as got
use Rattle.py_objects.specs.declared.event.ResumeHow.{ResumeHow}
use Rattle.py_objects.specs.declared.event.ResumeHow.TheVariants as how
use Rattle.py_objects.specs.Objects.{Obj, Name, HasPayload, AllBelow, AllFit, AreNamed, as_object, got_numbers, is_among, numbers_if, request_numbers}
use Rattle.py_objects.specs.Growth.{Grows}
use Rattle.py_check.specs.declared.note.Kind.TheVariants as kind
use Rattle.py_rows.specs.Asked.{name_in}
use Rattle.py_rows.specs.Signature.{characters}
use Rattle.py_rows.specs.Answers.{HasKind}
use Rattle.py_answers.specs.Answers.{Raised, This, Reply, Fails, Passes, Yields, Stops, Closes, for_body, IsRaise, GivesValue, GivesRaise, GivesBody}
use Rattle.py_frame.specs.declared.input.Answer.{Answer}
use Rattle.py_frame.specs.declared.input.Answer.TheVariants as given
use Rattle.py_frame.specs.Steps.{got_of}
use Rattle.py_coro.specs.declared.refusal.CoroRefusal.{CoroRefusal}
use Rattle.py_coro.specs.Modes.{Mode, Fresh, Suspended as Left, Running, Closed, Row, Stops as RowStops, Raises as RowRaises, Done as RowDone, Starts as RowStarts, Sends as RowSends, Throws as RowThrows, Exits as RowExits, Refuses as RowRefuses, thrown}
use Rattle.py_coro.specs.Refusals.{refused, word_of}
use Rattle.py_run.specs.Calls.{Course, Says, Enters, Begins, Sends, Throws, Setting, ComesTo, CallsFunction, exit_of, refusal}
use Rattle.py_vm.specs.declared.calls.Course.{Course as MadeCourse}
use Rattle.py_vm.specs.declared.calls.Course.TheVariants as course
use Rattle.py_vm.specs.declared.calls.Standing.{Standing}
use Rattle.py_vm.specs.declared.reply.Reply.{Reply as MadeReply}
use Rattle.py_vm.specs.declared.reply.Reply.TheVariants as made
use Rattle.py_vm.specs.declared.generators.KeptGenerator.{KeptGenerator}
use Rattle.py_vm.specs.Codes.{Checked, signatures_of}
use Rattle.py_vm.specs.Generators.{changed_at, entered_at, generator_asked, is_close, kept_at, modes_of, shut}

-- an answer that the machine makes: a value, or a raise
abbrev pub IsHeard : Answer → Type 0
IsHeard (given.Value v) = Unit {0}
IsHeard (given.Stop v) = ⊥
IsHeard (given.Fresh e) = Unit {0}
IsHeard (given.Passed e) = Unit {0}

-- what is raised is an exception
abbrev pub RaisesThere : List Payload → GotAnswer → Type 0
RaisesThere objects (got.Value v) = Unit {0}
RaisesThere objects (got.Stop v) = Unit {0}
RaisesThere objects (got.Raise e) = HasKind objects (as_object e) kind.Exc

-- an exception that an answer made is after these
abbrev pub IsMadeAfter : List Payload → Answer → Type 0
IsMadeAfter objects (given.Value v) = Unit {0}
IsMadeAfter objects (given.Stop v) = Unit {0}
IsMadeAfter objects (given.Fresh e) = length objects ≤ e.number
IsMadeAfter objects (given.Passed e) = Unit {0}

-- an answer gives the reply, whatever happened before, and names objects
pub record GivesReply (old new : List Payload) (reply : Reply) (w : Answer) : Type 0 where
  pub gives : (before : List Event) → AreNamed old before → GivesBody new before reply (got_of w)
  pub below : AllBelow (length new) (got_numbers (got_of w))
  pub heard : IsHeard w
  pub raises : RaisesThere new (got_of w)
  pub later : IsMadeAfter old w

-- a reply that is the same to a body and to a drive gives a value
pub record RepliesValue (old new : List Payload) (reply : Reply) (v : Obj) : Type 0 where
  pub plain : for_body reply ≡ reply
  pub gives : (before : List Event) → AreNamed old before → GivesValue new before reply v
  pub below : v.number < length new

-- or raises an exception
pub record RepliesRaise (old new : List Payload) (reply : Reply) (e : PyBaseExceptionRef) : Type 0 where
  pub plain : for_body reply ≡ reply
  pub gives : (before : List Event) → AreNamed old before → GivesRaise new before reply e
  pub below : e.number < length new
  pub raises : HasKind new (as_object e) kind.Exc

-- what a question is answered is the reply, whatever happened before, and names objects: an exception that the answer made is new, and one that came
-- from elsewhere is the very one that the reply says
abbrev pub IsReplied : (old new : List Payload) → Reply → MadeReply → Type 0
IsReplied old new reply (made.Value v) = RepliesValue old new reply v
IsReplied old new reply (made.Fresh e) = RepliesRaise old new reply e × (length old ≤ e.number)
IsReplied old new reply (made.Passed e) = RepliesRaise old new reply e × (reply ≡ Passes (This e))
IsReplied old new reply (made.Yields v) = (reply ≡ Yields v) × (v.number < length new)
IsReplied old new reply (made.Stops v) = (reply ≡ Stops v) × AllBelow (length new) (numbers_if v)
IsReplied old new reply made.Closes = reply ≡ Closes

-- an exception that came from elsewhere is among these numbers
abbrev pub IsPassedBy : List ℕ → MadeReply → Type 0
IsPassedBy names (made.Value v) = Unit {0}
IsPassedBy names (made.Fresh e) = Unit {0}
IsPassedBy names (made.Passed e) = is_among e.number names ≡ true
IsPassedBy names (made.Yields v) = Unit {0}
IsPassedBy names (made.Stops v) = Unit {0}
IsPassedBy names made.Closes = Unit {0}

-- what is replied is the raise of this fault
abbrev pub IsRaiseOf : Fault → (old new : Kept) → MadeReply → Type 0
IsRaiseOf fault old new w = IsReplied old.made new.made (Fails fault.kind fault.text) w

-- an answer gives each reply that it was made for
abbrev pub GivesAny : (old new : Kept) → MadeReply → Answer → Type 0
GivesAny old new w a =
    (before : List Payload) (reply : Reply) → Grows before old.made → AllFit old.made → IsReplied before old.made reply w
    → GivesReply before new.made reply a

-- the value that says why a generator stopped is there
abbrev pub NamesThere : List Payload → MadeReply → Type 0
NamesThere objects (made.Value v) = Unit {0}
NamesThere objects (made.Fresh e) = Unit {0}
NamesThere objects (made.Passed e) = Unit {0}
NamesThere objects (made.Yields v) = Unit {0}
NamesThere objects (made.Stops v) = AllBelow (length objects) (numbers_if v)
NamesThere objects made.Closes = Unit {0}

-- where a question stands, among these codes and generators
abbrev pub setting_by : Checked → List KeptGenerator → Standing → Setting
setting_by codes generators at = record { signatures = signatures_of codes; depth = at.depth; handled = at.handled; generators = modes_of generators }

-- the generator that an answer at once closes, if it does
abbrev pub closed_if : Reply → Obj → Option Obj
closed_if Closes g = Some g
closed_if _ g = None

abbrev pub closed_of : Request → Reply → Option Obj
closed_of (request.Close g) reply = closed_if reply g
closed_of _ reply = None

-- the generators behind an answer at once
abbrev pub shut_if : Option Obj → List KeptGenerator → List KeptGenerator
shut_if None list = list
shut_if (Some g) list = changed_at g shut list

-- a generator in this mode may be entered by a throw
abbrev pub TakesThrows : Mode → Type 0
TakesThrows Fresh = Unit {0}
TakesThrows Left = Unit {0}
TakesThrows Running = ⊥
TakesThrows Closed = ⊥

-- an exception is the one that is thrown
pub record IsThrown (old new : List Payload) (raise : Raised) (e : PyBaseExceptionRef) : Type 0 where
  pub is : (before : List Event) → AreNamed old before → IsRaise new before raise e
  pub raises : HasKind new (as_object e) kind.Exc
  pub below : e.number < length new

-- a request enters a generator like this
abbrev pub EntersBy : Setting → (old new : List Payload) → Request → KeptGenerator → ResumeHow → Type 0
EntersBy at old new r x how.Start = ComesTo at old r (Begins x.act) × (x.generator.mode ≡ Fresh)
EntersBy at old new r x (how.Send v) = ComesTo at old r (Sends x.act v) × (x.generator.mode ≡ Left) × (v.number < length new)
EntersBy at old new r x (how.Throw e) = (raise : Raised) × ComesTo at old r (Throws x.act raise) × IsThrown old new raise e × TakesThrows x.generator.mode

-- a request enters the generator that this object is of these, which become those
pub record IsResumption (at : Setting) (old new : List Payload) (generators generators' : List KeptGenerator) (r : Request) (object : Obj) (h : ResumeHow) : Type 0 where
  pub asks : generator_asked r ≡ Some object
  pub kept : KeptGenerator
  pub is_kept : kept_at generators object ≡ Some kept
  pub enters : EntersBy at old new r kept h
  pub changes : generators' ≡ changed_at object (entered_at (is_close r)) generators

-- a course that was made for a request, by which a store may have got more objects, and a generator another state: what it says gives the reply,
-- and closes a generator where the request closes one that needn't be entered, and an exception that it passes is one that the request names;
-- what it makes is an activation of the function, with the arguments, and no object is new; or a generator is entered
abbrev pub IsCourse : Setting → (old new : Kept) → (generators generators' : List KeptGenerator) → Request → MadeCourse → Type 0
IsCourse at old new generators generators' r (course.Says w) =
    (reply : Reply) × ComesTo at old.made r (Says reply) × IsReplied old.made new.made reply w × (generators' ≡ shut_if (closed_of r reply) generators)
    × IsPassedBy (request_numbers r) w
IsCourse at old new generators generators' r (course.Enters f vs) = ComesTo at old.made r (Enters f vs) × (new ≡ old) × (generators' ≡ generators)
IsCourse at old new generators generators' r (course.Resumes g h) = IsResumption at old.made new.made generators generators' r g h

-- the same of the call of a function
abbrev pub IsCourseOf : Setting → (old new : Kept) → Obj → List Obj → MadeCourse → Type 0
IsCourseOf at old new f vs (course.Says w) = (reply : Reply) × CallsFunction at old.made f vs (Says reply) × IsReplied old.made new.made reply w
IsCourseOf at old new f vs (course.Enters g ws) = CallsFunction at old.made f vs (Enters g ws) × (new ≡ old)
IsCourseOf at old new f vs (course.Resumes g h) = ⊥

-- the same of the entry of a manager, and of an exit that is told this
abbrev pub IsEntryCourse : Setting → (old new : Kept) → Obj → MadeCourse → Type 0
IsEntryCourse at old new m c = (body : ManagerBody) × HasPayload old.made m (payload.Manager body) × IsCourseOf at old new body.enter [] c

abbrev pub IsExitCourse : Setting → (old new : Kept) → Obj → List Obj → MadeCourse → Type 0
IsExitCourse at old new x told c = (p : Payload) × HasPayload old.made x p × IsCourseOf at old new (exit_of p x) told c

-- a course says that a fault is raised
abbrev pub IsRefusedBy : (old new : List Payload) → Fault → MadeCourse → Type 0
IsRefusedBy old new fault (course.Says w) = IsReplied old new (Fails fault.kind fault.text) w
IsRefusedBy old new fault (course.Enters f vs) = ⊥
IsRefusedBy old new fault (course.Resumes g h) = ⊥

-- it says that a generator of this kind refuses
abbrev pub IsRefusedOf : CoroKind → CoroRefusal → (old new : Kept) → MadeCourse → Type 0
IsRefusedOf kind why old new c = IsRefusedBy old.made new.made (refused (word_of kind) why) c

-- the kind of the generator that an object is
abbrev pub IsKindOf : List Payload → Obj → CoroKind → Type 0
IsKindOf objects g kind = (body : CoroBody) → HasPayload objects g (payload.Generator body) → kind ≡ body.kind

-- where a request to a generator stands
module _ (codes : Checked) (handled : Option PyBaseExceptionRef) (depth : ℕ) where
  -- at so many activations
  abbrev pub setting_deep : List KeptGenerator → Setting
  setting_deep list = record { signatures = signatures_of codes; depth = depth; handled = handled; generators = modes_of list }

-- the course of a request to a generator is right, whatever the codes are, and whatever is handled
abbrev pub IsCourseAt : (depth : ℕ) → (old new : Kept) → (generators generators' : List KeptGenerator) → Request → MadeCourse → Type 0
IsCourseAt depth old new generators generators' r c =
    (codes : Checked) (handled : Option PyBaseExceptionRef) → IsCourse (setting_deep codes handled depth generators) old new generators generators' r c

-- an exception is thrown into a generator of this state, by this row of its table: it is raised by this reply, refused, or enters it
abbrev pub IsThrownBy : (old new : List Payload) → (generators generators' : List KeptGenerator) → Obj → PyBaseExceptionRef → (raise : MadeReply) → Row → MadeCourse → Type 0
IsThrownBy old new generators generators' g e raise RowRaises c = (c ≡ course.Says raise) × (new ≡ old) × (generators' ≡ generators)
IsThrownBy old new generators generators' g e raise RowThrows c = (c ≡ course.Resumes g (how.Throw e)) × (new ≡ old) × (generators' ≡ changed_at g (entered_at false) generators)
IsThrownBy old new generators generators' g e raise (RowRefuses r) c =
    ((body : CoroBody) → HasPayload old g (payload.Generator body) → IsRefusedBy old new (refused (word_of body.kind) r) c) × (generators' ≡ generators)
IsThrownBy old new generators generators' g e raise RowStops c = ⊥
IsThrownBy old new generators generators' g e raise RowDone c = ⊥
IsThrownBy old new generators generators' g e raise RowStarts c = ⊥
IsThrownBy old new generators generators' g e raise RowSends c = ⊥
IsThrownBy old new generators generators' g e raise RowExits c = ⊥

-- the same of one that is among these, or isn't, and then raises it
abbrev pub IsThrownAs : (depth : ℕ) → (old new : List Payload) → (generators generators' : List KeptGenerator) → Obj → PyBaseExceptionRef → (raise : MadeReply) → Option KeptGenerator → MadeCourse → Type 0
IsThrownAs depth old new generators generators' g e raise None c = IsThrownBy old new generators generators' g e raise RowRaises c
IsThrownAs depth old new generators generators' g e raise (Some x) c = IsThrownBy old new generators generators' g e raise (thrown x.generator.mode depth) c

-- an exception is thrown into the generator that an object is
abbrev pub IsThrownCourse : (depth : ℕ) → (old new : List Payload) → (generators generators' : List KeptGenerator) → Obj → PyBaseExceptionRef → (raise : MadeReply) → MadeCourse → Type 0
IsThrownCourse depth old new generators generators' g e raise c = IsThrownAs depth old new generators generators' g e raise (kept_at generators g) c

-- the course of a call that is refused like this, if it is
abbrev pub unless_refused : Option Fault → Course → Course
unless_refused None c = c
unless_refused (Some fault) c = Says (Fails fault.kind fault.text)

-- why the call of a function with so many arguments is refused, if it is
abbrev pub IsRefusal : Setting → List Payload → Obj → ℕ → Option Fault → Type 0
IsRefusal at objects f given fault = (vs : List Obj) → length vs ≡ given → CallsFunction at objects f vs (unless_refused fault (Enters f vs))

-- why so many arguments don't bind to these parameters of a function of this name, if they don't
abbrev pub IsWhy : Name → List Name → ℕ → Option Name → Type 0
IsWhy function params given text = text ≡ refusal function params given

-- the name at a place of a table, and those at several
abbrev pub name_at : List (List ℕ) → NameId → Name
name_at names id = characters (name_in names (Some id))

abbrev pub names_at : List (List ℕ) → List NameId → List Name
names_at names ids = map (λ id. characters (name_in names (Some id))) ids
