-- In one list of objects one thing comes of what is raised and of what is thrown, and a generator that was left has one answer.
use Rattle.std.proofs.Common.{◌≡◌, ◌⊎◌, Bool, true, false, Option, Some, None, Ok, Err, List, Result, sym, ap, subst, ◌∙◌, inl, inr, IsErrAnd}
use Rattle.py_objects.specs.declared.refs.PyBaseExceptionRef.{PyBaseExceptionRef}
use Rattle.py_objects.specs.declared.refs.PyTypeRef.{PyTypeRef}
use Rattle.py_objects.specs.declared.payload.Payload.{Payload}
use Rattle.py_objects.specs.declared.payload.Payload.TheVariants as payload
use Rattle.py_objects.specs.declared.payload.ClassBody.{ClassBody}
use Rattle.py_objects.specs.declared.payload.ExceptionBody.{ExceptionBody}
use Rattle.py_objects.specs.declared.payload.Fault.{Fault}
use Rattle.py_objects.specs.declared.payload.CoroKind.{CoroKind}
use Rattle.py_objects.specs.declared.payload.CoroKind.TheVariants as coro
use Rattle.py_objects.specs.declared.error_kind.ErrorKind.{ErrorKind}
use Rattle.py_objects.specs.declared.error_kind.ErrorKind.TheVariants.{BaseException, GeneratorExit, StopAsyncIteration, StopIteration}
use Rattle.py_objects.specs.ErrorKinds.{name_of}
use Rattle.py_objects.specs.Objects.{Obj, HasPayload, as_exception, as_object, class_object}
use Rattle.py_objects.specs.Values.{class_body_of, exception_of}
use Rattle.py_objects.specs.Ancestry.{IsDerived}
use Rattle.py_exceptions.specs.declared.ctor.ExceptionCtor.{ExceptionCtor}
use Rattle.py_exceptions.specs.declared.ctor.ExceptionCtor.TheVariants as ctor
use Rattle.py_exceptions.specs.declared.ctor.CtorFault.{CtorFault}
use Rattle.py_exceptions.specs.declared.ctor.CtorFault.TheVariants as fault
use Rattle.py_exceptions.specs.declared.ctor.Instantiate.TheVariants as comes
use Rattle.py_exceptions.specs.Raisable.{not_exception, IsNotException, ClassTaken, TakenAs, IsTakenFor, IsTaken}
use Rattle.py_exceptions.specs.Instantiating.{instantiated, instance_with, StandsFor, ClassWith, InstantiatesAs}
use Rattle.py_exceptions.specs.Deriving.{IsInstanceOf}
use Rattle.py_exceptions.specs.Normalizing.{NormalizesWith, Normalizes}
use Rattle.py_coro.specs.declared.coro.CoroEnd.{CoroEnd}
use Rattle.py_coro.specs.declared.coro.CoroEnd.TheVariants as left
use Rattle.py_coro.specs.Leaving.{stop_of, ConvertsAs, IsOfClass, yielded, returned, Finishes}
use Rattle.py_once.specs.Laws.{AtMostOne}
use Rattle.py_once.proofs.PayloadsOnce.{said_once, by_one, one_payload, by_payload, one_exception, one_tuple, type_name_once, derived_once, instance_once}

-- memory didn't run out
abbrev pub HasRoom : Result ExceptionCtor CtorFault → Type 0
HasRoom (Err fault.NoMemory) = ⊥
HasRoom _ = Unit {0}

module _ (objects : List Payload) where
  -- ---- what objects are taken for

  refused_once : (p : Payload) (t t' : Result ExceptionCtor CtorFault) → HasRoom t → HasRoom t'
      → IsErrAnd t (IsNotException objects p) → IsErrAnd t' (IsNotException objects p) → t ≡ t'
  refused_once p (Err (fault.NotException f)) (Err (fault.NotException g)) room room' (n, typed, is) (m, typed', is') =
      ap (λ n. Err (fault.NotException n)) (is ∙ (ap not_exception (type_name_once objects p n m typed typed') ∙ sym is'))
  refused_once p (Err fault.NoMemory) t' room room' a b = absurd room
  refused_once p t (Err fault.NoMemory) room room' a b = absurd room'
  refused_once p (Ok c) t' room room' a b = absurd a
  refused_once p t (Ok c) room room' a b = absurd b

  class_taken_once : (v : Obj) (c : ClassBody) (b : Bool) (t t' : Result ExceptionCtor CtorFault) → HasRoom t → HasRoom t'
      → ClassTaken objects v c b t → ClassTaken objects v c b t' → t ≡ t'
  class_taken_once v c true t t' room room' is is' = is ∙ sym is'
  class_taken_once v c false t t' room room' a b = refused_once (payload.Class c) t t' room room' a b

  taken_as_once : (v : Obj) (p : Payload) (c : Option ClassBody) (e : Option ExceptionBody) (t t' : Result ExceptionCtor CtorFault)
      → HasRoom t → HasRoom t' → TakenAs objects v p c e t → TakenAs objects v p c e t' → t ≡ t'
  taken_as_once v p None None t t' room room' a b = refused_once p t t' room room' a b
  taken_as_once v p None (Some e) t t' room room' is is' = is ∙ sym is'
  taken_as_once v p (Some c) e t t' room room' (b, derived, a) (b', derived', a') =
      class_taken_once v c b t t' room room' a
      (subst (λ x. ClassTaken objects v c x t') (derived_once objects v (name_of BaseException) b' b derived' derived) a')

  -- where memory doesn't run out, an object is taken for one thing
  pub taken_once : (v : Obj) (t t' : Result ExceptionCtor CtorFault) → HasRoom t → HasRoom t' → IsTaken objects v t → IsTaken objects v t' → t ≡ t'
  taken_once v t t' room room' (p, has, a) (q, has', a') =
      taken_as_once v p (class_body_of p) (exception_of p) t t' room room' a
      (subst (λ x. IsTakenFor objects v x t') (one_payload objects v q p has' has) a')

  -- so what it is taken for, and its refusal, say one thing
  pub by_taken : {A : Type 0} (v : Obj) (R : ExceptionCtor → A → Type 0) (S : Fault → A → Type 0)
      → ((c : ExceptionCtor) → AtMostOne (R c)) → ((f : Fault) → AtMostOne (S f))
      → AtMostOne
      (λ x. ((c : ExceptionCtor) × IsTaken objects v (Ok c) × R c x) ⊎ ((f : Fault) × IsTaken objects v (Err (fault.NotException f)) × S f x))
  by_taken v R S one_r one_s x y (inl (c, is, a)) (inl (d, is', b)) =
      let same : d ≡ c = cc (taken_once v (Ok c) (Ok d) tt tt is is') in one_r c x y a (subst (λ z. R z y) same b)
  by_taken v R S one_r one_s x y (inl (c, is, a)) (inr (f, is', b)) = absurd (cc (taken_once v (Ok c) (Err (fault.NotException f)) tt tt is is'))
  by_taken v R S one_r one_s x y (inr (f, is, a)) (inl (c, is', b)) = absurd (cc (taken_once v (Ok c) (Err (fault.NotException f)) tt tt is' is))
  by_taken v R S one_r one_s x y (inr (f, is, a)) (inr (g, is', b)) =
      let same : g ≡ f = cc (taken_once v (Err (fault.NotException f)) (Err (fault.NotException g)) tt tt is is') in
      one_s f x y a (subst (λ z. S z y) same b)

  -- ---- what is thrown

  stands_once : (v : Obj) (p : Payload) → AtMostOne (StandsFor objects v p)
  stands_once v (payload.Exception e) vs ws has has' = one_tuple objects e.args vs ws has has'
  stands_once v _ vs ws is is' = is ∙ sym is'

  class_with_once : (class : PyTypeRef) (v : Obj) (p : Payload) (b : Bool) → AtMostOne (ClassWith objects class v p b)
  class_with_once class v p true = said_once (comes.Done (as_exception v))
  class_with_once class v p false =
      by_one (StandsFor objects v p) (λ vs o. o ≡ comes.Make class vs) (stands_once v p) (λ vs. said_once (comes.Make class vs))

  instantiates_as_once : (c : ExceptionCtor) (v : Obj) (p : Payload) → AtMostOne (InstantiatesAs objects c v p)
  instantiates_as_once (ctor.Class class) v p =
      by_one (IsInstanceOf objects p (class_object class)) (ClassWith objects class v p)
      (instance_once objects p (class_object class)) (class_with_once class v p)
  instantiates_as_once (ctor.Instance e) v p = said_once (instance_with e (exception_of p))

  normalizes_with_once : (c : ExceptionCtor) (v : Option Obj) → AtMostOne (NormalizesWith objects c v)
  normalizes_with_once c None = said_once (instantiated c)
  normalizes_with_once c (Some v) = by_payload objects v (InstantiatesAs objects c v) (instantiates_as_once c v)

  -- one thing comes of what is thrown
  pub normalizes_once : (thrown : Obj) (v : Option Obj) → AtMostOne (Normalizes objects thrown v)
  normalizes_once thrown v =
      by_taken thrown (λ c. NormalizesWith objects c v) (λ f o. o ≡ comes.Fault f)
      (λ c. normalizes_with_once c v) (λ f. said_once (comes.Fault f))

  -- ---- generators that were left

  of_kind_once : (e : PyBaseExceptionRef) (kind : ErrorKind) → AtMostOne (IsOfClass objects e kind)
  of_kind_once e kind =
      by_one (λ body. HasPayload objects (as_object e) (payload.Exception body)) (λ body. IsDerived objects (class_object body.class) (name_of kind))
      (one_exception objects (as_object e)) (λ body. derived_once objects (class_object body.class) (name_of kind))

  stops_once : (e : PyBaseExceptionRef) → AtMostOne (λ stop. (stops : Bool) × IsOfClass objects e StopIteration stops × (stop ≡ stop_of stops false))
  stops_once e =
      by_one (IsOfClass objects e StopIteration) (λ stops stop. stop ≡ stop_of stops false)
      (of_kind_once e StopIteration) (λ stops. said_once (stop_of stops false))

  converts_once : (kind : CoroKind) (e : PyBaseExceptionRef) → AtMostOne (ConvertsAs objects kind e)
  converts_once coro.Generator e = stops_once e
  converts_once coro.Coroutine e = stops_once e
  converts_once coro.AsyncGen e = λ x y (stops, later, is, is_later, stop) (stops', later', is', is_later', stop').
      let first : stops ≡ stops' = of_kind_once e StopIteration stops stops' is is' in
      let second : later ≡ later' = of_kind_once e StopAsyncIteration later later' is_later is_later' in
      cc

  -- one answers one thing
  pub finishes_once : (kind : CoroKind) (closing : Bool) (how : CoroEnd) → AtMostOne (Finishes objects kind closing how)
  finishes_once kind closing (left.Yield v) = said_once (yielded closing v)
  finishes_once kind closing (left.Return v) = by_payload objects v (λ p a. a ≡ returned closing v p) (λ p. said_once (returned closing v p))
  finishes_once kind closing (left.Raise e) = λ a a' (stop, exits, converts, is_exit, is) (stop', exits', converts', is_exit', is').
      let stops : stop ≡ stop' = converts_once kind e stop stop' converts converts' in
      let exit : exits ≡ exits' = of_kind_once e GeneratorExit exits exits' is_exit is_exit' in
      cc
