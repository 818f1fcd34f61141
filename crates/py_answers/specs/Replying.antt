-- What the functions of this crate promise: replies as the code makes them, and objects as it reads them.
use Rattle.std.specs.Int.{w128}
use Rattle.std.specs.Prelude.{FitsSigned, SomeIff, Bool, ℕ, ℤ, ◌<◌, Option, Some, None, List, ◌++◌, ◌≡◌, ◌⊎◌, length, true, false}
use Rattle.py_code.specs.Operators.{is_asked, is_compared}
use Rattle.py_objects.specs.declared.request.Request.{Request}
use Rattle.py_objects.specs.declared.request.Request.TheVariants as request
use Rattle.py_objects.specs.declared.payload.Payload.{Payload}
use Rattle.py_objects.specs.declared.payload.Payload.TheVariants as payload
use Rattle.py_code.specs.declared.operator.BinaryOperator.{BinaryOperator}
use Rattle.py_objects.specs.declared.request.Keywords.TheVariants as keywords
use Rattle.py_objects.specs.declared.payload.ClassBody.{ClassBody}
use Rattle.py_objects.specs.declared.payload.CoroBody.{CoroBody}
use Rattle.py_objects.specs.declared.payload.ExceptionBody.{ExceptionBody}
use Rattle.py_objects.specs.declared.payload.FunctionBody.{FunctionBody}
use Rattle.py_objects.specs.declared.payload.ManagerBody.{ManagerBody}
use Rattle.py_objects.specs.declared.event.Event.{Event}
use Rattle.py_objects.specs.Objects.{Obj, Name, HasPayload, class_object, numbers, AllBelow, AreNamed, IsClassObject, IsFunction}
use Rattle.py_objects.specs.Positional.{is_positional, is_bare}
use Rattle.py_objects.specs.Pairs.{Pairs}
use Rattle.py_answers.specs.declared.reply.Reply.{Reply as MadeReply}
use Rattle.py_answers.specs.declared.reply.Reply.TheVariants as made
use Rattle.py_answers.specs.declared.answering.Answered.{Answered}
use Rattle.py_answers.specs.declared.answering.Answered.TheVariants as answered
use Rattle.py_answers.specs.Readable.{Links, AreLinks, with_links}
use Rattle.py_answers.specs.Answers.{Calls, CallsAs, CallsExit, Fails, GivesValue, Has, Is, IsTypeName, Lacks, Makes, RefusesEntry, Replies, Reply, difference, less, not_supported, operated, sum, whole}

-- the requests that are answered, by a reply or by the machine: of calls those without keyword arguments, of throws those without a traceback
abbrev pub is_answered : Request → Bool
is_answered (request.Binary op a b) = is_asked op
is_answered (request.Compare op a b) = is_compared op
is_answered (request.Global globals x) = true
is_answered (request.Match e c) = true
is_answered (request.Show v) = true
is_answered (request.Truth v) = true
is_answered (request.Unbound x) = true
is_answered (request.Raisable v) = true
is_answered request.Handled = true
is_answered (request.Call f vs named) = is_positional named
is_answered (request.Send g v) = true
is_answered (request.Throw g c v t) = is_bare t
is_answered (request.Close g) = true
is_answered (request.Enter m) = true
is_answered (request.NoExit m) = true
is_answered (request.Exit x c e t) = true
is_answered _ = false

-- the reply that a made one is
abbrev pub reply_of : MadeReply → Reply
reply_of made.None = Has payload.None
reply_of (made.Bool b) = Has (payload.Bool b)
reply_of (made.Int n) = Has (payload.Int n)
reply_of (made.Is v) = Is v
reply_of (made.Str s) = Has (payload.Str s)
reply_of (made.Makes class args) = Makes class args
reply_of (made.Fails kind text) = Fails kind text

-- what holds of a reply holds of the one that is made
abbrev pub Says : (Reply → Type 0) → MadeReply → Type 0
Says holds reply = holds (reply_of reply)

-- a number among replies fits its bits
abbrev pub IsSized : MadeReply → Type 0
IsSized made.None = Unit {0}
IsSized (made.Bool b) = Unit {0}
IsSized (made.Int n) = FitsSigned w128 n
IsSized (made.Is v) = Unit {0}
IsSized (made.Str s) = Unit {0}
IsSized (made.Makes class args) = Unit {0}
IsSized (made.Fails kind text) = Unit {0}

-- an object is what a reply says, whatever happened before, and is there
pub record IsValueOf (old new : List Payload) (reply : Reply) (v : Obj) : Type 0 where
  pub gives : (before : List Event) → AreNamed old before → GivesValue new before reply v
  pub below : v.number < length new

-- whether a payload is a generator's
abbrev pub is_generator : Payload → Bool
is_generator (payload.Generator b) = true
is_generator _ = false

-- an object is a generator
abbrev pub IsGenerator : List Payload → Obj → Type 0
IsGenerator objects g = (b : CoroBody) × HasPayload objects g (payload.Generator b)

-- an object is a manager
abbrev pub IsManager : List Payload → Obj → Type 0
IsManager objects m = (b : ManagerBody) × HasPayload objects m (payload.Manager b)

-- control may leave by the call of a function: of the exit function of a manager, or of an exit that is one itself
abbrev pub IsLeft : List Payload → Obj → Type 0
IsLeft objects x = IsManager objects x ⊎ IsFunction objects x

-- requests that a machine answers by what it runs: the one for what is handled, calls of functions, sends, throws and closes of generators,
-- entries of managers, and exits by the call of a function
abbrev pub IsOfMachine : List Payload → Request → Type 0
IsOfMachine objects r =
    (r ≡ request.Handled)
    ⊎ ((f : Obj) × (vs : List Obj) × (b : FunctionBody) × (r ≡ request.Call f vs keywords.None) × HasPayload objects f (payload.Function b))
    ⊎ ((g : Obj) × (v : Obj) × (r ≡ request.Send g v) × IsGenerator objects g)
    ⊎ ((g : Obj) × (c : Obj) × (v : Option Obj) × (r ≡ request.Throw g c v None) × IsGenerator objects g)
    ⊎ ((g : Obj) × (r ≡ request.Close g) × IsGenerator objects g)
    ⊎ ((m : Obj) × (r ≡ request.Enter m) × IsManager objects m)
    ⊎ ((x : Obj) × (c : Obj) × (e : Obj) × (t : Obj) × (r ≡ request.Exit x c e t) × IsLeft objects x)

-- what a request is answered among these objects, after which there may be more by then: an object that is what the reply says, the raise that
-- the reply is, or nothing, where a machine answers it or memory ran out
abbrev pub IsAnsweredBy : (old new : List Payload) → Request → Answered → Type 0
IsAnsweredBy old new r (answered.Done v) = (reply : Reply) × Replies old r reply × IsValueOf old new reply v
IsAnsweredBy old new r (answered.Fault f) = Replies old r (Fails f.kind f.text)
IsAnsweredBy old new r (answered.Raise kind args) = ⊥
IsAnsweredBy old new r (answered.Passed e) = ⊥
IsAnsweredBy old new r answered.Machine = IsOfMachine old r
IsAnsweredBy old new r answered.NoMemory = Unit {0}

-- what gives a reply among these objects, after which there may be more by then
abbrev pub IsGiven : (old new : List Payload) → Reply → Answered → Type 0
IsGiven old new reply (answered.Done v) = IsValueOf old new reply v
IsGiven old new reply (answered.Fault f) = reply ≡ Fails f.kind f.text
IsGiven old new reply (answered.Raise kind args) = ⊥
IsGiven old new reply (answered.Passed e) = ⊥
IsGiven old new reply answered.Machine = ⊥
IsGiven old new reply answered.NoMemory = Unit {0}

-- a reply is the one to a request; where there is none, a machine answers it
abbrev pub IsReplied : List Payload → Request → Option MadeReply → Type 0
IsReplied objects r None = IsOfMachine objects r
IsReplied objects r (Some reply) = Replies objects r (reply_of reply) × IsSized reply

-- a reply is the one to the call of an attribute of this name, which generators have; where there is none, a generator is called
abbrev pub IsLackReplied : List Payload → Name → Obj → Option MadeReply → Type 0
IsLackReplied objects name g None = IsGenerator objects g
IsLackReplied objects name g (Some reply) = Lacks objects name g (reply_of reply) × IsSized reply

-- a reply is the one to a call; where there is none, a function is called
abbrev pub IsCallReplied : List Payload → Obj → List Obj → Option MadeReply → Type 0
IsCallReplied objects f vs None = IsFunction objects f
IsCallReplied objects f vs (Some reply) = Calls objects f vs (reply_of reply) × IsSized reply

-- a reply is the one to an entry; where there is none, a manager is entered
abbrev pub IsEntryReplied : List Payload → Obj → Option MadeReply → Type 0
IsEntryReplied objects m None = IsManager objects m
IsEntryReplied objects m (Some reply) = RefusesEntry objects m (reply_of reply) × IsSized reply

-- a reply is the one where control leaves by an exit that is told this; where there is none, a function is called
abbrev pub IsExitReplied : List Payload → Obj → List Obj → Option MadeReply → Type 0
IsExitReplied objects x told None = IsLeft objects x
IsExitReplied objects x told (Some reply) = CallsExit objects x told (reply_of reply) × IsSized reply

-- the objects among the replies that requests have are there
abbrev pub IsThere : List Payload → Reply → Type 0
IsThere objects (Has p) = Unit {0}
IsThere objects (Is v) = v.number < length objects
IsThere objects (Makes class args) = IsClassObject objects (class_object class) × AllBelow (length objects) (numbers args)
IsThere objects (Fails kind text) = Unit {0}
IsThere objects _ = ⊥

-- two texts as one, where both are there
abbrev pub joined : Option Name → Option Name → Option Name
joined None b = None
joined (Some s) None = None
joined (Some s) (Some t) = Some (s ++ t)

-- the sum of two payloads, whatever their types are called
abbrev pub IsSum : List Payload → Payload → Payload → Reply → Type 0
IsSum objects p q reply = (left : Name) × (right : Name) × IsTypeName objects p left × IsTypeName objects q right × (reply ≡ sum p q left right)

-- their difference
abbrev pub IsDifference : List Payload → Payload → Payload → Reply → Type 0
IsDifference objects p q reply = (left : Name) × (right : Name) × IsTypeName objects p left × IsTypeName objects q right × (reply ≡ difference p q left right)

-- whether one is less than the other
abbrev pub IsLess : List Payload → Payload → Payload → Reply → Type 0
IsLess objects p q reply = (left : Name) × (right : Name) × IsTypeName objects p left × IsTypeName objects q right × (reply ≡ less p q left right)

-- the reply of an operator at two payloads
abbrev pub IsOperated : List Payload → BinaryOperator → Payload → Payload → Reply → Type 0
IsOperated objects op p q reply =
    (left : Name) × (right : Name) × IsTypeName objects p left × IsTypeName objects q right × (operated op p q left right ≡ Some reply)

-- a number's reply, where it fits its bits or not
abbrev pub IsWhole : Option ℤ → Reply → Type 0
IsWhole number reply = (n : ℤ) → SomeIff number (FitsSigned w128 n) n → reply ≡ whole n

-- the reply to the call of what is a class, if it is one
abbrev pub IsClassCalled : List Payload → Obj → Payload → List Obj → Reply → Type 0
IsClassCalled objects f p vs reply = (c : ClassBody) → p ≡ payload.Class c → CallsAs objects f (payload.Class c) vs reply

-- the refusal of the operator or comparison with this sign
abbrev pub IsRefused : List Payload → List ℕ → Payload → Payload → Reply → Type 0
IsRefused objects sign p q reply = (left : Name) × (right : Name) × IsTypeName objects p left × IsTypeName objects q right × (reply ≡ not_supported sign left right)

-- payloads that may differ in the pairs of a dict, or in the links of an exception, alone
abbrev pub IsLike : List Payload → Payload → Payload → Type 0
IsLike objects p q =
    (q ≡ p)
    ⊎ ((ps : Pairs) × (qs : Pairs) × (p ≡ payload.Dict ps) × (q ≡ payload.Dict qs))
    ⊎ ((e : ExceptionBody) × (l : Links) × (p ≡ payload.Exception e) × (q ≡ payload.Exception (with_links l e)) × AreLinks objects e l)

-- what an object is read as: what it was made as, except the pairs of a dict and the links of an exception
abbrev pub IsRead : List Payload → Obj → Payload → Type 0
IsRead objects o q = (p : Payload) × HasPayload objects o p × IsLike objects p q
