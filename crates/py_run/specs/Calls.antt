-- What questions come to: a reply, or the entry of an activation (Python Language Reference, 6.2.9.1, 6.3.4, 8.5 and 8.7): a call enters a function
-- where its arguments bind to the function's parameters, and where there is depth left, in this order; that of a generator function makes a
-- generator, which sends, throws and closes enter as its state allows. Managers are entered and left by calls of their functions.
use Rattle.std.specs.Prelude.{ℕ, Bool, true, false, Option, Some, None, List, [], ◌∷◌, ◌++◌, ◌≡◌, ◌==◌, ◌⊎◌, slice_get, length, drop, nat_le, nat_lt, if◌then◌else◌, codes, decimal}
use Rattle.py_objects.specs.declared.payload.Payload.{Payload}
use Rattle.py_objects.specs.declared.payload.Payload.TheVariants as payload
use Rattle.py_objects.specs.declared.payload.CoroBody.{CoroBody}
use Rattle.py_objects.specs.declared.payload.CoroKind.{CoroKind}
use Rattle.py_objects.specs.declared.payload.Fault.{Fault}
use Rattle.py_objects.specs.declared.payload.FunctionBody.{FunctionBody}
use Rattle.py_objects.specs.declared.payload.ManagerBody.{ManagerBody}
use Rattle.py_objects.specs.declared.error_kind.ErrorKind.TheVariants.{GeneratorExit, RecursionError, RuntimeError, TypeError}
use Rattle.py_objects.specs.declared.refs.PyBaseExceptionRef.{PyBaseExceptionRef}
use Rattle.py_objects.specs.declared.request.Keywords.TheVariants as keywords
use Rattle.py_objects.specs.declared.request.Request.{Request}
use Rattle.py_objects.specs.declared.request.Request.TheVariants as request
use Rattle.py_objects.specs.Objects.{Obj, Name, HasPayload, as_object}
use Rattle.py_objects.specs.Values.{is_none}
use Rattle.py_exceptions.specs.Normalizing.{Normalizes}
use Rattle.py_exceptions.specs.declared.ctor.Instantiate.{Instantiate}
use Rattle.py_exceptions.specs.declared.ctor.Instantiate.TheVariants as comes
use Rattle.py_coro.specs.declared.coro.CoroEnd.{CoroEnd}
use Rattle.py_coro.specs.declared.coro.CoroEnd.TheVariants as left
use Rattle.py_coro.specs.declared.coro.CoroAnswer.{CoroAnswer}
use Rattle.py_coro.specs.declared.coro.CoroAnswer.TheVariants as answer
use Rattle.py_coro.specs.declared.refusal.CoroRefusal.TheVariants as refused
use Rattle.py_coro.specs.Modes.{Mode, Fresh, Suspended, Running, Closed, Row, Stops as RowStops, Raises as RowRaises, Done as RowDone, Starts as RowStarts, Sends as RowSends, Throws as RowThrows, Exits as RowExits, Refuses as RowRefuses, most_depth, sent, thrown, closed}
use Rattle.py_coro.specs.Leaving.{Finishes}
use Rattle.py_coro.specs.Refusals.{refused as fault_of, ignoring, stopping, too_deep, word_of}
use Rattle.py_answers.specs.Answers.{Raised, This, Called, BuiltIn, Reply, Is, Fails, FailsFrom, Passes, Yields, Stops, Closes, Replies}
use Rattle.py_run.specs.Run.{Signature}
use Rattle.py_run.specs.Generators.{Generator, generator_at}

-- what a question comes to: a reply at once; an activation of this function is made, with these arguments; or the activation of this number is
-- entered: it starts, is sent a value, or is thrown an exception
pub data Course : Type 0 where
  Says : Reply → Course
  Enters : (f : Obj) → (vs : List Obj) → Course
  Begins : (a : ℕ) → Course
  Sends : (a : ℕ) → Obj → Course
  Throws : (a : ℕ) → Raised → Course

-- the text of the refusal of too many arguments
abbrev pub too_many : Name → ℕ → ℕ → Name
too_many f takes given = f ++ (codes "() takes " ++ (decimal takes ++ (codes " positional arguments but " ++ (decimal given ++ codes " were given"))))

-- a name, between quotes
abbrev pub in_quotes : Name → Name
in_quotes x = codes "'" ++ (x ++ codes "'")

-- three names or more, from one of them on
abbrev pub enumerated : List Name → Name
enumerated [] = []
enumerated (x ∷ []) = codes "and " ++ in_quotes x
enumerated (x ∷ y ∷ xs) = in_quotes x ++ (codes ", " ++ enumerated (y ∷ xs))

-- names, between quotes
abbrev pub listed : List Name → Name
listed [] = []
listed (x ∷ []) = in_quotes x
listed (x ∷ y ∷ []) = in_quotes x ++ (codes " and " ++ in_quotes y)
listed (x ∷ y ∷ z ∷ xs) = enumerated (x ∷ y ∷ z ∷ xs)

-- what stands behind a word that counts so many
abbrev pub plural : ℕ → Name
plural count = if count == 1 then [] else codes "s"

-- the text of the refusal where these parameters have no argument
abbrev pub missing : Name → List Name → Name
missing f xs = f ++ (codes "() missing " ++ (decimal (length xs) ++ (codes " required positional argument" ++ (plural (length xs) ++ (codes ": " ++ listed xs)))))

-- that text, where there are some
abbrev pub missing_if : Name → List Name → Option Name
missing_if f [] = None
missing_if f (x ∷ xs) = Some (missing f (x ∷ xs))

-- why so many arguments don't bind to these parameters, if they don't
abbrev pub refusal : Name → List Name → ℕ → Option Name
refusal f params given = if nat_lt (length params) given then Some (too_many f (length params) given) else missing_if f (drop given params)

-- an entry while so many activations run
abbrev pub entry_at : ℕ → Course → Course
entry_at depth c = if nat_le most_depth depth then Says (Fails RecursionError too_deep) else c

-- what a call comes to where its arguments are refused with this text, if they are: else this course
abbrev pub bound_by : Option Name → Course → Course
bound_by None c = c
bound_by (Some text) c = Says (Fails TypeError text)

-- the reply to who asks for the exception that is handled (Python Language Reference, 7.8): that one, or a raise where there is none
abbrev pub reraised : Option PyBaseExceptionRef → Reply
reraised None = Fails RuntimeError (codes "No active exception to reraise")
reraised (Some e) = Is (as_object e)

-- what a call comes to that binds: a function is entered, and an activation of a generator function is made, which enters nothing
abbrev pub made_at : Option CoroKind → ℕ → Course → Course
made_at None depth c = entry_at depth c
made_at (Some kind) depth c = c

-- what a question comes to depends, besides the objects, on the signatures of functions, by their codes, on how many activations count as
-- running, on the innermost exception that is handled, and on the generators
pub record Setting : Type 0 where
  pub signatures : List Signature
  pub depth : ℕ
  pub handled : Option PyBaseExceptionRef
  pub generators : List Generator

-- a fault as a course
abbrev pub failing : Fault → Course
failing f = Says (Fails f.kind f.text)

-- what is thrown is raised, where it isn't thrown into anything
abbrev pub unthrown : Course → Course
unthrown (Throws a x) = Says (Passes x)
unthrown c = c

-- a row of a generator's table as a course, where this word stands for the generator, its activation has this number, and this is what its entry
-- is handed
abbrev pub course_by : Name → (a : ℕ) → (handed : Course) → Row → Course
course_by word a handed RowStops = Says (Stops None)
course_by word a handed RowRaises = unthrown handed
course_by word a handed RowDone = Says Closes
course_by word a handed RowStarts = Begins a
course_by word a handed RowSends = handed
course_by word a handed RowThrows = handed
course_by word a handed RowExits = handed
course_by word a handed (RowRefuses r) = failing (fault_of word r)

-- what is thrown into a generator by an outcome of normalising
abbrev pub throws_by : CoroKind → Generator → (depth : ℕ) → Instantiate → Option Course
throws_by kind x depth (comes.Done e) = Some (course_by (word_of kind) x.act (Throws x.act (This e)) (thrown x.mode depth))
throws_by kind x depth (comes.Make class args) = Some (course_by (word_of kind) x.act (Throws x.act (Called class args)) (thrown x.mode depth))
throws_by kind x depth (comes.Fault f) = Some (failing f)
throws_by kind x depth comes.NoMemory = None

-- a generator where it stands; one that no call of the run made is closed
abbrev pub kept_or_closed : Obj → Option Generator → Generator
kept_or_closed g None = record { object = g; act = 0; mode = Closed }
kept_or_closed g (Some x) = x

-- what is called where control leaves by an object of this payload: the exit function of a manager, else the object
abbrev pub exit_of : Payload → Obj → Obj
exit_of (payload.Manager m) x = m.exit
exit_of _ x = x

module _ (at : Setting) (objects : List Payload) where
  -- the call of a function with these arguments
  pub record CallsFunction (f : Obj) (vs : List Obj) (c : Course) : Type 0 where
    pub body : FunctionBody
    pub entry : HasPayload objects f (payload.Function body)
    pub signature : Signature
    pub signed : slice_get at.signatures body.code ≡ Some signature
    pub is : c ≡ bound_by (refusal body.name signature.params (length vs)) (made_at signature.kind at.depth (Enters f vs))

  -- an object is a generator of this kind, which stands like this
  pub record IsKept (g : Obj) (kind : CoroKind) (x : Generator) : Type 0 where
    pub body : CoroBody
    pub entry : HasPayload objects g (payload.Generator body)
    pub kind_is : body.kind ≡ kind
    pub kept : x ≡ kept_or_closed g (generator_at at.generators g)

  -- a throw into a generator in this mode of an object, with a value or without one: one that runs is refused before these are looked at
  abbrev pub ThrowsAs : CoroKind → Generator → Mode → Obj → Option Obj → Course → Type 0
  ThrowsAs kind x Fresh k v c = (outcome : Instantiate) × Normalizes objects k v outcome × (throws_by kind x at.depth outcome ≡ Some c)
  ThrowsAs kind x Suspended k v c = (outcome : Instantiate) × Normalizes objects k v outcome × (throws_by kind x at.depth outcome ≡ Some c)
  ThrowsAs kind x Running k v c = c ≡ failing (fault_of (word_of kind) refused.Running)
  ThrowsAs kind x Closed k v c = (outcome : Instantiate) × Normalizes objects k v outcome × (throws_by kind x at.depth outcome ≡ Some c)

  -- what a send of a value to a generator comes to, what a throw does, and what a close
  abbrev pub SendsTo : Obj → Obj → Course → Type 0
  SendsTo g v c =
      (kind : CoroKind) × (x : Generator) × IsKept g kind x × (p : Payload) × HasPayload objects v p
      × (c ≡ course_by (word_of kind) x.act (Sends x.act v) (sent x.mode (is_none p) at.depth))

  abbrev pub ThrowsTo : Obj → Obj → Option Obj → Course → Type 0
  ThrowsTo g k v c = (kind : CoroKind) × (x : Generator) × IsKept g kind x × ThrowsAs kind x x.mode k v c

  abbrev pub ClosesTo : Obj → Course → Type 0
  ClosesTo g c =
      (kind : CoroKind) × (x : Generator) × IsKept g kind x
      × (c ≡ course_by (word_of kind) x.act (Throws x.act (BuiltIn GeneratorExit [])) (closed x.mode at.depth))

  -- what the entry of a manager comes to: the call of its enter function without arguments
  abbrev pub EntersTo : Obj → Course → Type 0
  EntersTo m c = (body : ManagerBody) × HasPayload objects m (payload.Manager body) × CallsFunction body.enter [] c

  -- what leaving by an exit comes to, where a function is called with what it is told
  abbrev pub ExitsTo : Obj → (told : List Obj) → Course → Type 0
  ExitsTo x told c = (p : Payload) × HasPayload objects x p × CallsFunction (exit_of p x) told c

  -- what a question comes to: a reply without an activation, what the call of a function does, where it is one without keyword arguments, what
  -- is handled, what a send, a throw without a traceback, and a close of a generator come to, or what the entry of a manager and an exit do
  abbrev pub ComesTo : Request → Course → Type 0
  ComesTo r c =
      ((reply : Reply) × (c ≡ Says reply) × Replies objects r reply)
      ⊎ ((f : Obj) × (vs : List Obj) × (r ≡ request.Call f vs keywords.None) × CallsFunction f vs c)
      ⊎ ((r ≡ request.Handled) × (c ≡ Says (reraised at.handled)))
      ⊎ ((g : Obj) × (v : Obj) × (r ≡ request.Send g v) × SendsTo g v c)
      ⊎ ((g : Obj) × (k : Obj) × (v : Option Obj) × (r ≡ request.Throw g k v None) × ThrowsTo g k v c)
      ⊎ ((g : Obj) × (r ≡ request.Close g) × ClosesTo g c)
      ⊎ ((m : Obj) × (r ≡ request.Enter m) × EntersTo m c)
      ⊎ ((x : Obj) × (k : Obj) × (v : Obj) × (t : Obj) × (r ≡ request.Exit x k v t) × ExitsTo x (k ∷ v ∷ t ∷ []) c)

-- a call is answered by how the activation of its callee was left, which yields nowhere; so are an entry and an exit
abbrev pub LeavesCalled : CoroEnd → Reply → Type 0
LeavesCalled (left.Yield v) reply = ⊥
LeavesCalled (left.Return v) reply = reply ≡ Is v
LeavesCalled (left.Raise e) reply = reply ≡ Passes (This e)

-- what a generator answers as a reply, where this word stands for it
abbrev pub reply_by : Name → CoroAnswer → Reply
reply_by word (answer.Value v) = Yields v
reply_by word (answer.Stop v) = Stops v
reply_by word answer.Closed = Closes
reply_by word (answer.Raise e) = Passes (This e)
reply_by word (answer.Convert e stop) = FailsFrom RuntimeError (stopping word stop).text e
reply_by word answer.Ignored = Fails RuntimeError (ignoring word).text

module _ (objects : List Payload) where
  -- a send, a throw or a close is answered by how the activation of the generator was left
  abbrev pub LeavesGenerator : Obj → (closing : Bool) → CoroEnd → Reply → Type 0
  LeavesGenerator g closing how reply =
      (body : CoroBody) × HasPayload objects g (payload.Generator body) × (a : CoroAnswer) × Finishes objects body.kind closing how a × (reply ≡ reply_by (word_of body.kind) a)

  -- what a question is answered where the activation that it entered was left
  abbrev pub IsDue : Request → CoroEnd → Reply → Type 0
  IsDue (request.Call f vs named) how reply = (named ≡ keywords.None) × LeavesCalled how reply
  IsDue (request.Send g v) how reply = LeavesGenerator g false how reply
  IsDue (request.Throw g k v t) how reply = (t ≡ None) × LeavesGenerator g false how reply
  IsDue (request.Close g) how reply = LeavesGenerator g true how reply
  IsDue (request.Enter m) how reply = LeavesCalled how reply
  IsDue (request.Exit x k v t) how reply = LeavesCalled how reply
  IsDue _ how reply = ⊥
