-- Replies go over to more objects.
use Rattle.std.proofs.Common.{◌≡◌, List, [], ◌∷◌, ◌||◌, Bool, true, false, eqb, Some, Ok, Err, inl, inr, sym, ap, ◌∙◌}
use Rattle.std.specs.Prelude.{Option, Result, slice_get, codes}
use Rattle.py_objects.specs.declared.refs.PyBaseExceptionRef.{PyBaseExceptionRef}
use Rattle.py_objects.specs.declared.payload.Payload.{Payload}
use Rattle.py_objects.specs.declared.payload.Payload.TheVariants as payload
use Rattle.py_objects.specs.declared.payload.ClassBody.{ClassBody}
use Rattle.py_objects.specs.declared.payload.CoroBody.{CoroBody}
use Rattle.py_objects.specs.declared.error_kind.ErrorKind.{ErrorKind}
use Rattle.py_objects.specs.declared.request.Request.{Request}
use Rattle.py_objects.specs.declared.request.Request.TheVariants as request
use Rattle.py_objects.specs.declared.event.GotAnswer.{GotAnswer}
use Rattle.py_objects.specs.declared.event.GotAnswer.TheVariants as got
use Rattle.py_objects.specs.declared.event.DriveAnswer.{DriveAnswer}
use Rattle.py_objects.specs.declared.event.DriveAnswer.TheVariants as answer
use Rattle.py_objects.specs.declared.event.Event.{Event}
use Rattle.py_code.specs.declared.operator.ComparisonOperator.{ComparisonOperator}
use Rattle.py_code.specs.declared.operator.ComparisonOperator.TheVariants as comparison
use Rattle.py_objects.specs.Values.{both, same_value, same_key}
use Rattle.py_objects.specs.Objects.{Obj, Name, HasPayload, as_object}
use Rattle.py_objects.specs.Attrs.{Attrs}
use Rattle.py_objects.specs.Growth.{Grows, GrowsPlainly}
use Rattle.py_objects.proofs.AncestryLemmas.{derived_grows}
use Rattle.py_objects.proofs.GrowthLemmas.{payload_grown, declared_stays, new_stays, plainly_grows}
use Rattle.py_objects.specs.declared.refs.PyTypeRef.{PyTypeRef}
use Rattle.py_exceptions.specs.declared.ctor.ExceptionCtor.{ExceptionCtor}
use Rattle.py_exceptions.specs.declared.ctor.CtorFault.{CtorFault}
use Rattle.py_exceptions.specs.declared.ctor.CtorFault.TheVariants as ctor_fault
use Rattle.py_exceptions.specs.Raisable.{ClassTaken, IsTaken, IsTakenFor}
use Rattle.py_exceptions.specs.Deriving.{IsInstanceOf}
use Rattle.py_exceptions.proofs.TypeNamesLemmas.{type_name_grows}
use Rattle.py_answers.specs.Answers.{Raised, This, Called, BuiltIn, Reply, Has, Is, Makes, Creates, Fails, FailsFrom, Passes, truth, found, Compares, MatchesAs, MatchesClass, Raises, IsRefusedCall, Calls, CallsAs, CallsClass, IsLacking, Lacks, LacksAs, no_protocol, no_exit, IsRefusedBy, RefusesEntry, RefusesExit, CallsExit, Replies}
use Rattle.py_answers.specs.Answers.{IsRaised, IsRaisedFrom, IsRaise, IsInstance, IsCalled, IsCreated, for_body, GivesValue, GivesRaise, GivesBody, GivesDrive}

-- objects that are there are one key as before
same_key_grows : (objects objects' : List Payload) (a b : Obj) (p q : Payload) → Grows objects objects' → HasPayload objects a p → HasPayload objects b q
    → same_key objects' a b ≡ same_key objects a b
same_key_grows objects objects' a b p q grows has_p has_q =
    let test : Option Payload → Option Payload → Bool = λ x y. eqb a.number b.number || both same_value x y in
    let now : same_key objects' a b ≡ test (Some p) (Some q) = ap (λ x. test x (slice_get objects' b.number)) (payload_grown objects objects' a p grows has_p) ∙ ap (test (Some p)) (payload_grown objects objects' b q grows has_q) in
    let before : same_key objects a b ≡ test (Some p) (Some q) = ap (λ x. test x (slice_get objects b.number)) has_p ∙ ap (test (Some p)) has_q in
    now ∙ sym before

-- what a comparison comes to stays
compares_grow : (objects objects' : List Payload) (op : ComparisonOperator) (a b : Obj) (reply : Reply) → Grows objects objects' → Compares objects op a b reply → Compares objects' op a b reply
compares_grow objects objects' comparison.Less a b reply grows (p, q, left, right, has_p, has_q, is_left, is_right, is) = (
  p,
  q,
  left,
  right,
  payload_grown objects objects' a p grows has_p,
  payload_grown objects objects' b q grows has_q,
  type_name_grows objects objects' p left grows is_left,
  type_name_grows objects objects' q right grows is_right,
  is,
)
compares_grow objects objects' comparison.Equal a b reply grows (p, q, has_p, has_q, is) = (
  p,
  q,
  payload_grown objects objects' a p grows has_p,
  payload_grown objects objects' b q grows has_q,
  is ∙ ap truth (sym (same_key_grows objects objects' a b p q grows has_p has_q)),
)
compares_grow objects objects' _ a b reply grows is = absurd is

-- so does what an exception is an instance of
pub instance_of_grows : (objects objects' : List Payload) (p : Payload) (c : Obj) (b : Bool) → Grows objects objects' → IsInstanceOf objects p c b → IsInstanceOf objects' p c b
instance_of_grows objects objects' (payload.Exception e) c b grows (body, has, is) = (body, payload_grown objects objects' _ _ grows has, is)
instance_of_grows objects objects' _ c b grows is = is

-- and whether a class is one of exceptions, and what it catches
class_matches_grow : (objects objects' : List Payload) (p : Payload) (c : Obj) (b : Bool) (reply : Reply) → Grows objects objects' → MatchesClass objects p c b reply → MatchesClass objects' p c b reply
class_matches_grow objects objects' p c true reply grows (b, caught, is) = (b, instance_of_grows objects objects' p c b grows caught, is)
class_matches_grow objects objects' p c false reply grows is = is

-- so what is replied to who asks whether an exception is caught stays
matches_grow : (objects objects' : List Payload) (p : Payload) (c : Obj) (q : Payload) (reply : Reply) → GrowsPlainly objects objects' → MatchesAs objects p c q reply → MatchesAs objects' p c q reply
matches_grow objects objects' p c (payload.Class d) reply grows (b, derived, matches) =
    let more : Grows objects objects' = plainly_grows objects objects' grows in
    (b, derived_grows objects objects' c _ b grows derived, class_matches_grow objects objects' p c b reply more matches)
matches_grow objects objects' p c _ reply grows is = is

-- what a class is taken for stays
class_taken_grows : (objects objects' : List Payload) (v : Obj) (c : ClassBody) (b : Bool) (taken : Result ExceptionCtor CtorFault) → ClassTaken objects v c b taken → ClassTaken objects' v c b taken
class_taken_grows objects objects' v c true taken is = is
class_taken_grows objects objects' v c false (Ok k) is = is
class_taken_grows objects objects' v c false (Err (ctor_fault.NotException f)) is = is
class_taken_grows objects objects' v c false (Err ctor_fault.NoMemory) is = is

-- and what any object is taken for
taken_for_grows : (objects objects' : List Payload) (v : Obj) (p : Payload) (taken : Result ExceptionCtor CtorFault) → GrowsPlainly objects objects' → IsTakenFor objects v p taken → IsTakenFor objects' v p taken
taken_for_grows objects objects' v (payload.Class c) taken grows (b, derived, is) = (b, derived_grows objects objects' v _ b grows derived, class_taken_grows objects objects' v c b taken is)
taken_for_grows objects objects' v (payload.Exception e) taken grows is = is
taken_for_grows objects objects' v p (Ok c) grows is = is
taken_for_grows objects objects' v p (Err (ctor_fault.NotException f)) grows (n, named, is) = (n, type_name_grows objects objects' p n (plainly_grows objects objects' grows) named, is)
taken_for_grows objects objects' v p (Err ctor_fault.NoMemory) grows is = is

-- so what an object is taken for, whatever its payload, stays
pub taken_grows : (objects objects' : List Payload) (v : Obj) (taken : Result ExceptionCtor CtorFault) → GrowsPlainly objects objects' → IsTaken objects v taken → IsTaken objects' v taken
taken_grows objects objects' v taken grows (p, has, is) = (p, payload_grown objects objects' v p (plainly_grows objects objects' grows) has, taken_for_grows objects objects' v p taken grows is)

-- so what it is raised as stays
raises_grow : (objects objects' : List Payload) (v : Obj) (reply : Reply) → GrowsPlainly objects objects' → Raises objects v reply → Raises objects' v reply
raises_grow objects objects' v reply grows (inl (c, taken, is)) = inl (c, taken_grows objects objects' v (Ok c) grows taken, is)
raises_grow objects objects' v reply grows (inr (f, taken, is)) = inr (f, taken_grows objects objects' v (Err (ctor_fault.NotException f)) grows taken, is)

-- and what its call makes
refused_call_grows : (objects objects' : List Payload) (p : Payload) (reply : Reply) → GrowsPlainly objects objects' → IsRefusedCall objects p reply → IsRefusedCall objects' p reply
refused_call_grows objects objects' p reply grows (n, named, is) = (n, type_name_grows objects objects' p n (plainly_grows objects objects' grows) named, is)

-- what the call of a class comes to stays
class_call_grows : (objects objects' : List Payload) (f : Obj) (c : ClassBody) (vs : List Obj) (b : Bool) (reply : Reply) → GrowsPlainly objects objects' → CallsClass objects f c vs b reply → CallsClass objects' f c vs b reply
class_call_grows objects objects' f c vs true reply grows is = is
class_call_grows objects objects' f c vs false reply grows refused = refused_call_grows objects objects' (payload.Class c) reply grows refused

-- and what the call of an object with this payload comes to
calls_as_grow : (objects objects' : List Payload) (f : Obj) (p : Payload) (vs : List Obj) (reply : Reply) → GrowsPlainly objects objects' → CallsAs objects f p vs reply → CallsAs objects' f p vs reply
calls_as_grow objects objects' f (payload.Class c) vs reply grows (b, derived, calls) =
    (b, derived_grows objects objects' f _ b grows derived, class_call_grows objects objects' f c vs b reply grows calls)
calls_as_grow objects objects' f (payload.Function b) vs reply grows calls = absurd calls
calls_as_grow objects objects' f (payload.Builtin b) vs reply grows is = is
calls_as_grow objects objects' f p vs reply grows refused = refused_call_grows objects objects' p reply grows refused

-- so what the call of an object comes to stays
calls_grow : (objects objects' : List Payload) (f : Obj) (vs : List Obj) (reply : Reply) → GrowsPlainly objects objects' → Calls objects f vs reply → Calls objects' f vs reply
calls_grow objects objects' f vs reply grows (p, has, calls) = (p, payload_grown objects objects' f p (plainly_grows objects objects' grows) has, calls_as_grow objects objects' f p vs reply grows calls)

-- so does the refusal of an attribute that isn't there
lacking_grows : (objects objects' : List Payload) (name : Name) (p : Payload) (reply : Reply) → GrowsPlainly objects objects' → IsLacking objects name p reply → IsLacking objects' name p reply
lacking_grows objects objects' name p reply grows (n, named, is) = (n, type_name_grows objects objects' p n (plainly_grows objects objects' grows) named, is)

lacks_as_grow : (objects objects' : List Payload) (name : Name) (p : Payload) (reply : Reply) → GrowsPlainly objects objects' → LacksAs objects name p reply → LacksAs objects' name p reply
lacks_as_grow objects objects' name (payload.Generator g) reply grows lacks = absurd lacks
lacks_as_grow objects objects' name p reply grows lacking = lacking_grows objects objects' name p reply grows lacking

lacks_grow : (objects objects' : List Payload) (name : Name) (g : Obj) (reply : Reply) → GrowsPlainly objects objects' → Lacks objects name g reply → Lacks objects' name g reply
lacks_grow objects objects' name g reply grows (p, has, lacks) =
    (p, payload_grown objects objects' g p (plainly_grows objects objects' grows) has, lacks_as_grow objects objects' name p reply grows lacks)

-- and the refusal by a text
refused_by_grows : (objects objects' : List Payload) (text : Name → Name) (p : Payload) (reply : Reply) → GrowsPlainly objects objects' → IsRefusedBy objects text p reply → IsRefusedBy objects' text p reply
refused_by_grows objects objects' text p reply grows (n, named, is) = (n, type_name_grows objects objects' p n (plainly_grows objects objects' grows) named, is)

-- so does that of an entry, and of a missing exit
refused_entry_grows : (objects objects' : List Payload) (m : Obj) (reply : Reply) → GrowsPlainly objects objects' → RefusesEntry objects m reply → RefusesEntry objects' m reply
refused_entry_grows objects objects' m reply grows (p, has, none, refused) =
    (p, payload_grown objects objects' m p (plainly_grows objects objects' grows) has, none, refused_by_grows objects objects' no_protocol p reply grows refused)

refused_exit_grows : (objects objects' : List Payload) (m : Obj) (reply : Reply) → GrowsPlainly objects objects' → RefusesExit objects m reply → RefusesExit objects' m reply
refused_exit_grows objects objects' m reply grows (p, has, refused) =
    (p, payload_grown objects objects' m p (plainly_grows objects objects' grows) has, refused_by_grows objects objects' no_exit p reply grows refused)

-- and what an exit comes to that is no manager
exit_grows : (objects objects' : List Payload) (x : Obj) (told : List Obj) (reply : Reply) → GrowsPlainly objects objects' → CallsExit objects x told reply → CallsExit objects' x told reply
exit_grows objects objects' x told reply grows (p, has, none, calls) =
    (p, payload_grown objects objects' x p (plainly_grows objects objects' grows) has, none, calls_as_grow objects objects' x p told reply grows calls)

-- so do replies, as more objects come that declare nothing
pub replies_grow : (objects objects' : List Payload) (r : Request) (reply : Reply) → GrowsPlainly objects objects' → Replies objects r reply → Replies objects' r reply
replies_grow objects objects' (request.Binary op a b) reply grows (p, q, left, right, has_p, has_q, is_left, is_right, is) =
    let more : Grows objects objects' = plainly_grows objects objects' grows in (
      p,
      q,
      left,
      right,
      payload_grown objects objects' a p more has_p,
      payload_grown objects objects' b q more has_q,
      type_name_grows objects objects' p left more is_left,
      type_name_grows objects objects' q right more is_right,
      is,
    )
replies_grow objects objects' (request.Compare op a b) reply grows compares = compares_grow objects objects' op a b reply (plainly_grows objects objects' grows) compares
replies_grow objects objects' (request.Truth v) reply grows (p, has, is) = (p, payload_grown objects objects' v p (plainly_grows objects objects' grows) has, is)
replies_grow objects objects' (request.Match e c) reply grows (p, q, has_p, has_q, matches) =
    let more : Grows objects objects' = plainly_grows objects objects' grows in
    (p, q, payload_grown objects objects' e p more has_p, payload_grown objects objects' c q more has_q, matches_grow objects objects' p c q reply grows matches)
replies_grow objects objects' (request.Global globals x) reply grows is = is ∙ ap (found x) (sym (declared_stays objects objects' x grows))
replies_grow objects objects' (request.Show v) reply grows is = is
replies_grow objects objects' (request.Unbound x) reply grows is = is
replies_grow objects objects' (request.Raisable v) reply grows raises = raises_grow objects objects' v reply grows raises
replies_grow objects objects' (request.Call f vs named) reply grows (none, calls) = (none, calls_grow objects objects' f vs reply grows calls)
replies_grow objects objects' (request.Send g v) reply grows lacks = lacks_grow objects objects' (codes "send") g reply grows lacks
replies_grow objects objects' (request.Throw g c v t) reply grows lacks = lacks_grow objects objects' (codes "throw") g reply grows lacks
replies_grow objects objects' (request.Close g) reply grows lacks = lacks_grow objects objects' (codes "close") g reply grows lacks
replies_grow objects objects' (request.Enter m) reply grows refused = refused_entry_grows objects objects' m reply grows refused
replies_grow objects objects' (request.NoExit m) reply grows refused = refused_exit_grows objects objects' m reply grows refused
replies_grow objects objects' (request.Exit x c e t) reply grows calls = exit_grows objects objects' x (c ∷ e ∷ t ∷ []) reply grows calls
replies_grow objects objects' _ reply grows is = absurd is

-- a new exception still is one
instance_grows : (objects objects' : List Payload) (before : List Event) (class : PyTypeRef) (args : List Obj) (attrs : Attrs) (v : Obj)
    → GrowsPlainly objects objects' → IsInstance objects before class args attrs v → IsInstance objects' before class args attrs v
instance_grows objects objects' before class args attrs v grows made =
    let more : Grows objects objects' = plainly_grows objects objects' grows in
    record { new = new_stays objects objects' before v.number grows made.new; args = made.args; entry = payload_grown objects objects' _ _ more made.entry; are = payload_grown objects objects' _ _ more made.are }

-- so is what the call of a class made
called_grows : (objects objects' : List Payload) (before : List Event) (class : PyTypeRef) (args : List Obj) (v : Obj)
    → GrowsPlainly objects objects' → IsCalled objects before class args v → IsCalled objects' before class args v
called_grows objects objects' before class args v grows (os, derived, made) =
    (os, derived_grows objects objects' _ _ os grows derived, instance_grows objects objects' before class _ _ v grows made)

-- and what was raised with a text
raised_grows : (objects objects' : List Payload) (before : List Event) (kind : ErrorKind) (text : Name) (e : PyBaseExceptionRef)
    → GrowsPlainly objects objects' → IsRaised objects before kind text e → IsRaised objects' before kind text e
raised_grows objects objects' before kind text e grows raised = record {
  class = raised.class;
  is_class = declared_stays objects objects' _ grows ∙ raised.is_class;
  argument = raised.argument;
  message = payload_grown objects objects' _ _ (plainly_grows objects objects' grows) raised.message;
  made = instance_grows objects objects' before raised.class (raised.argument ∷ []) [] (as_object e) grows raised.made;
}

-- and with a cause
raised_from_grows : (objects objects' : List Payload) (before : List Event) (kind : ErrorKind) (text : Name) (cause e : PyBaseExceptionRef)
    → GrowsPlainly objects objects' → IsRaisedFrom objects before kind text cause e → IsRaisedFrom objects' before kind text cause e
raised_from_grows objects objects' before kind text cause e grows raised =
    let more : Grows objects objects' = plainly_grows objects objects' grows in record {
      class = raised.class;
      is_class = declared_stays objects objects' _ grows ∙ raised.is_class;
      argument = raised.argument;
      message = payload_grown objects objects' _ _ more raised.message;
      new = new_stays objects objects' before e.number grows raised.new;
      args = raised.args;
      entry = payload_grown objects objects' _ _ more raised.entry;
      are = payload_grown objects objects' _ _ more raised.are;
    }

-- and what was raised, whichever it is
pub raise_grows : (objects objects' : List Payload) (before : List Event) (x : Raised) (e : PyBaseExceptionRef) → GrowsPlainly objects objects' → IsRaise objects before x e → IsRaise objects' before x e
raise_grows objects objects' before (This y) e grows is = is
raise_grows objects objects' before (Called class args) e grows called = called_grows objects objects' before class args (as_object e) grows called
raise_grows objects objects' before (BuiltIn kind args) e grows (class, is_class, called) =
    (class, declared_stays objects objects' _ grows ∙ is_class, called_grows objects objects' before class args (as_object e) grows called)

-- a new generator still is one
created_grows : (objects objects' : List Payload) (before : List Event) (b : CoroBody) (v : Obj) → GrowsPlainly objects objects' → IsCreated objects before b v → IsCreated objects' before b v
created_grows objects objects' before b v grows (new, has) = (new_stays objects objects' before v.number grows new, payload_grown objects objects' v _ (plainly_grows objects objects' grows) has)

-- a value still is what a reply says
gives_value_grow : (objects objects' : List Payload) (before : List Event) (reply : Reply) (v : Obj) → GrowsPlainly objects objects' → GivesValue objects before reply v → GivesValue objects' before reply v
gives_value_grow objects objects' before (Has p) v grows gives = payload_grown objects objects' v p (plainly_grows objects objects' grows) gives
gives_value_grow objects objects' before (Is w) v grows gives = gives
gives_value_grow objects objects' before (Makes class args) v grows gives = called_grows objects objects' before class args v grows gives
gives_value_grow objects objects' before (Creates b) v grows gives = created_grows objects objects' before b v grows gives
gives_value_grow objects objects' before _ v grows gives = absurd gives

-- and an exception the one that it raises
gives_raise_grow : (objects objects' : List Payload) (before : List Event) (reply : Reply) (e : PyBaseExceptionRef) → GrowsPlainly objects objects' → GivesRaise objects before reply e → GivesRaise objects' before reply e
gives_raise_grow objects objects' before (Fails kind text) e grows gives = raised_grows objects objects' before kind text e grows gives
gives_raise_grow objects objects' before (FailsFrom kind text cause) e grows gives = raised_from_grows objects objects' before kind text cause e grows gives
gives_raise_grow objects objects' before (Passes x) e grows gives = raise_grows objects objects' before x e grows gives
gives_raise_grow objects objects' before _ e grows gives = absurd gives

-- so the answer that a body gets gives the reply as before
pub gives_body_grow : (objects objects' : List Payload) (before : List Event) (reply : Reply) (w : GotAnswer) → GrowsPlainly objects objects' → GivesBody objects before reply w → GivesBody objects' before reply w
gives_body_grow objects objects' before reply (got.Value v) grows gives = gives_value_grow objects objects' before (for_body reply) v grows gives
gives_body_grow objects objects' before reply (got.Stop v) grows gives = absurd gives
gives_body_grow objects objects' before reply (got.Raise e) grows gives = gives_raise_grow objects objects' before (for_body reply) e grows gives

-- and so does the result of a drive
pub gives_drive_grow : (objects objects' : List Payload) (before : List Event) (reply : Reply) (w : DriveAnswer) → GrowsPlainly objects objects' → GivesDrive objects before reply w → GivesDrive objects' before reply w
gives_drive_grow objects objects' before reply (answer.Returns v) grows gives = gives_value_grow objects objects' before reply v grows gives
gives_drive_grow objects objects' before reply (answer.Yields v) grows gives = gives
gives_drive_grow objects objects' before reply (answer.Stops v) grows gives = gives
gives_drive_grow objects objects' before reply answer.Closes grows gives = gives
gives_drive_grow objects objects' before reply (answer.Raises e) grows gives = gives_raise_grow objects objects' before reply e grows gives
gives_drive_grow objects objects' before reply (answer.Reported text) grows gives = absurd gives
