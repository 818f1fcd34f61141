-- What frames ask the machine answers, and its answers are as they are wanted.
use Rattle.std.proofs.Common.{◌≡◌, ℕ, List, Bool, true, false, Some, None, Ok, inl, inr, refl, sym, subst}
use Rattle.std.specs.Prelude.{Option, slice_get}
use Rattle.py_code.specs.declared.code.PyCode.{PyCode}
use Rattle.py_code.specs.declared.unit.CodeUnit.{CodeUnit}
use Rattle.py_objects.specs.declared.refs.PyBaseExceptionRef.{PyBaseExceptionRef}
use Rattle.py_objects.specs.declared.payload.Payload.{Payload}
use Rattle.py_objects.specs.declared.payload.Payload.TheVariants as payload
use Rattle.py_objects.specs.declared.payload.ClassBody.{ClassBody}
use Rattle.py_objects.specs.declared.request.Request.{Request}
use Rattle.py_objects.specs.declared.request.Request.TheVariants as request
use Rattle.py_objects.specs.declared.event.Event.{Event}
use Rattle.py_objects.specs.declared.event.GotAnswer.{GotAnswer}
use Rattle.py_objects.specs.declared.event.GotAnswer.TheVariants as got
use Rattle.py_objects.specs.Objects.{Obj, HasPayload, as_object, as_exception}
use Rattle.py_check.specs.declared.note.Kind.TheVariants as kind
use Rattle.py_rows.specs.declared.expect.Wanted.{Wanted}
use Rattle.py_rows.specs.declared.expect.Wanted.TheVariants as want
use Rattle.py_rows.specs.Answers.{HasKind, wanted, IsValue, IsAnswer}
use Rattle.py_rows.specs.Questions.{UnitAsks}
use Rattle.py_rows.specs.Laws.{RaisedThere}
use Rattle.py_exceptions.specs.declared.ctor.ExceptionCtor.TheVariants as ctor
use Rattle.py_exceptions.specs.Raisable.{ClassTaken, IsTakenFor}
use Rattle.py_answers.specs.Answers.{Raised, This, Called, BuiltIn, Reply, Has, Is, Makes, Creates, Fails, FailsFrom, Passes, Yields, Stops, Closes, MatchesAs, MatchesClass, Raises, Replies, GivesBody}
use Rattle.py_answers.specs.Replying.{is_answered}
use Rattle.py_run.specs.Calls.{Says, Setting, reraised, ComesTo}
use Rattle.py_vm.specs.Codes.{UnitIsAnswered, CodeIsAnswered}
use Rattle.py_vm.specs.Courses.{RaisesThere}

-- ---- what a frame asks

-- what a unit may ask is answered
unit_is_answered : (found : Option CodeUnit) → ((u : CodeUnit) → found ≡ Some u → UnitIsAnswered u) → (q : Request) → UnitAsks found q → is_answered q ≡ true
unit_is_answered None answered q asks = absurd asks
unit_is_answered (Some u) answered q asks = answered u refl q asks

-- what a frame asks is answered, since its unit may ask it
pub asked_answered : (code : PyCode) → CodeIsAnswered code → (q : Request) (at : ℕ) → UnitAsks (slice_get code.code.instructions.items at) q → is_answered q ≡ true
asked_answered code answered q at asks = unit_is_answered (slice_get code.code.instructions.items at) (answered.units at) q asks

-- ---- what suits a question

-- an answer is wanted where any object is, if what it raises is an exception
pub any_wanted : (objects : List Payload) (before : List Event) (reply : Reply) (g : GotAnswer) → RaisesThere objects g → GivesBody objects before reply g → IsAnswer objects (want.Of kind.Any) g
any_wanted objects before reply (got.Value v) raises gives = tt
any_wanted objects before reply (got.Stop v) raises gives = absurd gives
any_wanted objects before reply (got.Raise e) raises gives = raises

-- what is raised is an exception
abbrev IsRaisable : List Payload → Raised → Type 0
IsRaisable objects (This e) = HasKind objects (as_object e) kind.Exc
IsRaisable objects (Called class args) = Unit {0}
IsRaisable objects (BuiltIn kind args) = Unit {0}

-- what gives a reply is as it is wanted
abbrev IsSuited : List Payload → Wanted → Reply → Type 0
IsSuited objects w (Has p) = (v : Obj) → HasPayload objects v p → IsValue objects w v
IsSuited objects w (Is v) = IsValue objects w v
IsSuited objects w (Makes class args) = (v : Obj) → HasKind objects v kind.Exc → IsValue objects w v
IsSuited objects w (Creates b) = (v : Obj) → HasPayload objects v (payload.Generator b) → IsValue objects w v
IsSuited objects w (Fails kind text) = Unit {0}
IsSuited objects w (FailsFrom kind text cause) = Unit {0}
IsSuited objects w (Passes x) = IsRaisable objects x
IsSuited objects w (Yields v) = IsValue objects w v
IsSuited objects w (Stops v) = Unit {0}
IsSuited objects w Closes = (v : Obj) → HasPayload objects v payload.None → IsValue objects w v

-- an answer that gives a reply that suits is one that is wanted
suited_given : (objects : List Payload) (before : List Event) (w : Wanted) (reply : Reply) (g : GotAnswer) → IsSuited objects w reply → GivesBody objects before reply g → IsAnswer objects w g
suited_given objects before w (Has p) (got.Value v) suited gives = suited v gives
suited_given objects before w (Has p) (got.Raise e) suited gives = absurd gives
suited_given objects before w (Is u) (got.Value v) suited gives = subst (IsValue objects w) (sym gives) suited
suited_given objects before w (Is u) (got.Raise e) suited gives = absurd gives
suited_given objects before w (Makes class args) (got.Value v) suited gives = suited v (_, gives.2.entry)
suited_given objects before w (Makes class args) (got.Raise e) suited gives = absurd gives
suited_given objects before w (Creates b) (got.Value v) suited gives = suited v gives.1
suited_given objects before w (Creates b) (got.Raise e) suited gives = absurd gives
suited_given objects before w (Fails kind text) (got.Value v) suited gives = absurd gives
suited_given objects before w (Fails kind text) (got.Raise e) suited gives = (_, gives.made.entry)
suited_given objects before w (FailsFrom kind text cause) (got.Value v) suited gives = absurd gives
suited_given objects before w (FailsFrom kind text cause) (got.Raise e) suited gives = (_, gives.entry)
suited_given objects before w (Passes x) (got.Value v) suited gives = absurd gives
suited_given objects before w (Passes (This x)) (got.Raise e) suited gives = subst (λ (y : PyBaseExceptionRef). HasKind objects (as_object y) kind.Exc) (sym gives) suited
suited_given objects before w (Passes (Called class args)) (got.Raise e) suited gives = (_, gives.2.entry)
suited_given objects before w (Passes (BuiltIn kind args)) (got.Raise e) suited gives = (_, gives.2.2.entry)
suited_given objects before w (Yields u) (got.Value v) suited gives = subst (IsValue objects w) (sym gives) suited
suited_given objects before w (Yields u) (got.Raise e) suited gives = absurd gives
suited_given objects before w (Stops u) (got.Value v) suited gives = absurd gives
suited_given objects before w (Stops u) (got.Raise e) suited gives = (_, gives.2.2.entry)
suited_given objects before w Closes (got.Value v) suited gives = suited v gives
suited_given objects before w Closes (got.Raise e) suited gives = absurd gives
suited_given objects before w reply (got.Stop v) suited gives = absurd gives

-- whether an exception is caught is a truth value
class_suited : (objects : List Payload) (p : Payload) (c : Obj) (b : Bool) (reply : Reply) → MatchesClass objects p c b reply → IsSuited objects want.Truth reply
class_suited objects p c true reply (b, caught, is) = subst (IsSuited objects want.Truth) (sym is) (λ v has. (b, has))
class_suited objects p c false reply is = subst (IsSuited objects want.Truth) (sym is) tt

-- so what is replied to who asks whether an exception is caught suits
match_suited : (objects : List Payload) (p : Payload) (c : Obj) (q : Payload) (reply : Reply) → MatchesAs objects p c q reply → IsSuited objects want.Truth reply
match_suited objects p c (payload.Class d) reply (b, derived, matches) = class_suited objects p c b reply matches
match_suited objects p c _ reply is = subst (IsSuited objects want.Truth) (sym is) tt

-- a class is taken for no exception
class_not_taken : (objects : List Payload) (u : Obj) (c : ClassBody) (b : Bool) (e : PyBaseExceptionRef) → ClassTaken objects u c b (Ok (ctor.Instance e)) → ⊥
class_not_taken objects u c true e taken = absurd (cc taken)
class_not_taken objects u c false e taken = taken

-- what is taken for an exception is one
pub taken_there : (objects : List Payload) (u : Obj) (p : Payload) (e : PyBaseExceptionRef) → HasPayload objects u p → IsTakenFor objects u p (Ok (ctor.Instance e)) → HasKind objects (as_object e) kind.Exc
taken_there objects u (payload.Class c) e has (b, derived, taken) = absurd (class_not_taken objects u c b e taken)
taken_there objects u (payload.Exception x) e has taken =
    let same : e ≡ as_exception u = cc taken in
    (x, subst (λ (y : PyBaseExceptionRef). HasPayload objects (as_object y) (payload.Exception x)) (sym same) has)
taken_there objects u _ e has taken = absurd taken

-- what is raised is an exception
raised_suited : (objects : List Payload) (u : Obj) (reply : Reply) → Raises objects u reply → IsSuited objects (want.Of kind.Exc) reply
raised_suited objects u reply (inl (ctor.Class class, taken, is)) = subst (IsSuited objects (want.Of kind.Exc)) (sym is) (λ v made. made)
raised_suited objects u reply (inl (ctor.Instance e, (p, has, taken), is)) = subst (IsSuited objects (want.Of kind.Exc)) (sym is) (taken_there objects u p e has taken)
raised_suited objects u reply (inr (f, taken, is)) = subst (IsSuited objects (want.Of kind.Exc)) (sym is) tt

-- each reply suits its question
replies_wanted : (objects : List Payload) (before : List Event) (q : Request) (reply : Reply) (g : GotAnswer) → RaisesThere objects g → Replies objects q reply → GivesBody objects before reply g → IsAnswer objects (wanted q) g
replies_wanted objects before (request.Truth u) reply g raises (p, has, is) gives = suited_given objects before want.Truth reply g (subst (IsSuited objects want.Truth) (sym is) (λ v truth. (_, truth))) gives
replies_wanted objects before (request.Match e c) reply g raises (p, q, has_p, has_q, matches) gives = suited_given objects before want.Truth reply g (match_suited objects p c q reply matches) gives
replies_wanted objects before (request.Unbound x) reply g raises is gives = suited_given objects before want.NoValue reply g (subst (IsSuited objects want.NoValue) (sym is) tt) gives
replies_wanted objects before (request.Raisable u) reply g raises said gives = suited_given objects before (want.Of kind.Exc) reply g (raised_suited objects u reply said) gives
replies_wanted objects before (request.Binary op a b) reply g raises said gives = any_wanted objects before reply g raises gives
replies_wanted objects before (request.Compare op a b) reply g raises said gives = any_wanted objects before reply g raises gives
replies_wanted objects before (request.Global globals x) reply g raises said gives = any_wanted objects before reply g raises gives
replies_wanted objects before (request.Show u) reply g raises said gives = any_wanted objects before reply g raises gives
replies_wanted objects before (request.Call f vs named) reply g raises said gives = any_wanted objects before reply g raises gives
replies_wanted objects before (request.Send o v) reply g raises said gives = any_wanted objects before reply g raises gives
replies_wanted objects before (request.Throw o c v t) reply g raises said gives = any_wanted objects before reply g raises gives
replies_wanted objects before (request.Close o) reply g raises said gives = any_wanted objects before reply g raises gives
replies_wanted objects before (request.Enter m) reply g raises said gives = any_wanted objects before reply g raises gives
replies_wanted objects before (request.Exit x c e t) reply g raises said gives = any_wanted objects before reply g raises gives
replies_wanted objects before (request.NoExit m) reply g raises (p, has, (n, named, is)) gives = suited_given objects before want.NoValue reply g (subst (IsSuited objects want.NoValue) (sym is) tt) gives
replies_wanted objects before _ reply g raises replies gives = absurd replies

-- what is handled is an exception
handled_suited : (objects : List Payload) (handled : Option PyBaseExceptionRef) → RaisedThere objects handled → IsSuited objects (want.Of kind.Exc) (reraised handled)
handled_suited objects None there = tt
handled_suited objects (Some e) there = there

-- what a question comes to suits it
module _ (at : Setting) (objects : List Payload) (before : List Event) (q : Request) (reply : Reply) (g : GotAnswer) (there : RaisedThere objects at.handled) (raises : RaisesThere objects g)
    (gives : GivesBody objects before reply g) where
  -- it is one that wants any object
  of_any : (r : Request) → q ≡ r → wanted r ≡ want.Of kind.Any → IsAnswer objects (wanted q) g
  of_any r is any = subst (λ x. IsAnswer objects (wanted x) g) (sym is) (subst (λ w. IsAnswer objects w g) (sym any) (any_wanted objects before reply g raises gives))

  pub said_wanted : ComesTo at objects q (Says reply) → IsAnswer objects (wanted q) g
  said_wanted (inl (other, is, replies)) =
      let same : other ≡ reply = cc in
      replies_wanted objects before q reply g raises (subst (Replies objects q) same replies) gives
  said_wanted (inr (inl (f, vs, is, calls))) = of_any _ is refl
  said_wanted (inr (inr (inl (is, says)))) =
      let same : reraised at.handled ≡ reply = cc in
      suited_given objects before (wanted q) reply g (subst (λ r. IsSuited objects (wanted r) reply) (sym is) (subst (IsSuited objects (want.Of kind.Exc)) same (handled_suited objects at.handled there))) gives
  said_wanted (inr (inr (inr (inl (o, v, is, sends))))) = of_any _ is refl
  said_wanted (inr (inr (inr (inr (inl (o, k, v, is, throws)))))) = of_any _ is refl
  said_wanted (inr (inr (inr (inr (inr (inl (o, is, closes))))))) = of_any _ is refl
  said_wanted (inr (inr (inr (inr (inr (inr (inl (o, is, enters)))))))) = of_any _ is refl
  said_wanted (inr (inr (inr (inr (inr (inr (inr (x, k, v, t, is, leaves)))))))) = of_any _ is refl
