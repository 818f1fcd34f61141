-- The same comes of what is raised and of what is thrown, and generators that were left alike answer the same, where objects are alike.
use Rattle.std.proofs.Common.{◌≡◌, Bool, true, false, Option, Some, None, Ok, Err, List, Result, refl, sym, ap, ◌∙◌, inl, inr, IsErrAnd}
use Rattle.py_objects.specs.declared.refs.PyBaseExceptionRef.{PyBaseExceptionRef}
use Rattle.py_objects.specs.declared.refs.PyTypeRef.{PyTypeRef}
use Rattle.py_objects.specs.declared.payload.Payload.{Payload}
use Rattle.py_objects.specs.declared.payload.Payload.TheVariants as payload
use Rattle.py_objects.specs.declared.payload.ClassBody.{ClassBody}
use Rattle.py_objects.specs.declared.payload.CoroKind.{CoroKind}
use Rattle.py_objects.specs.declared.payload.CoroKind.TheVariants as coro
use Rattle.py_objects.specs.declared.error_kind.ErrorKind.{ErrorKind}
use Rattle.py_objects.specs.declared.error_kind.ErrorKind.TheVariants.{BaseException, GeneratorExit, StopAsyncIteration, StopIteration}
use Rattle.py_objects.specs.ErrorKinds.{name_of}
use Rattle.py_objects.specs.Objects.{Obj, HasPayload, IsClassObject, as_object, class_object}
use Rattle.py_objects.specs.Values.{is_none}
use Rattle.py_exceptions.specs.declared.ctor.ExceptionCtor.{ExceptionCtor}
use Rattle.py_exceptions.specs.declared.ctor.ExceptionCtor.TheVariants as ctor
use Rattle.py_exceptions.specs.declared.ctor.CtorFault.{CtorFault}
use Rattle.py_exceptions.specs.declared.ctor.CtorFault.TheVariants as fault
use Rattle.py_exceptions.specs.declared.ctor.Instantiate.{Instantiate}
use Rattle.py_exceptions.specs.Raisable.{not_exception, IsNotException, ClassTaken, IsTakenFor, IsTaken}
use Rattle.py_exceptions.specs.Instantiating.{instantiated, StandsFor, ClassWith, InstantiatesAs, Instantiates}
use Rattle.py_exceptions.specs.Normalizing.{NormalizesWith, Normalizes}
use Rattle.py_coro.specs.declared.coro.CoroEnd.{CoroEnd}
use Rattle.py_coro.specs.declared.coro.CoroEnd.TheVariants as left
use Rattle.py_coro.specs.declared.coro.CoroAnswer.{CoroAnswer}
use Rattle.py_coro.specs.Leaving.{stop_of, ConvertsAs, IsOfClass, yielded, value_if, returned, raised, Finishes}
use Rattle.py_agreement.specs.Agreement.{Relation, SameException, SameMaybe, SameAll}
use Rattle.py_determined.specs.Alike.{Alike, AreAlike}
use Rattle.py_determined.specs.Sameness.{SameCtor, SameInstance, SameLeft, SameCoroAnswer}
use Rattle.py_determined.proofs.AlikeLemmas.{seen_same, type_names_agree, derived_agree, instances_agree}

module _ (S : Relation) (objects objects' : List Payload) (alike : AreAlike S objects objects') where
  -- ---- what objects are taken for

  -- a class that is taken for itself is there
  abbrev pub IsThere : ExceptionCtor → Type 0
  IsThere (ctor.Class c) = IsClassObject objects (class_object c)
  IsThere (ctor.Instance e) = Unit {0}

  -- two objects are taken for the same; nothing is said where memory ran out
  abbrev pub SameTaken : Result ExceptionCtor CtorFault → Result ExceptionCtor CtorFault → Type 0
  SameTaken (Err fault.NoMemory) _ = Unit {0}
  SameTaken _ (Err fault.NoMemory) = Unit {0}
  SameTaken (Ok c) (Ok d) = SameCtor S c d × IsThere c
  SameTaken (Err (fault.NotException f)) (Err (fault.NotException g)) = f ≡ g
  SameTaken _ _ = ⊥

  -- alike payloads are refused by one text
  refused_agree : (p q : Payload) (t t' : Result ExceptionCtor CtorFault) → Alike S objects objects' p q
      → IsErrAnd t (IsNotException objects p) → IsErrAnd t' (IsNotException objects' q) → SameTaken t t'
  refused_agree p q (Ok c) t' s a b = absurd a
  refused_agree p q (Err f) (Ok d) s a b = absurd b
  refused_agree p q (Err fault.NoMemory) (Err g) s a b = tt
  refused_agree p q (Err (fault.NotException f)) (Err fault.NoMemory) s a b = tt
  refused_agree p q (Err (fault.NotException f)) (Err (fault.NotException g)) s (n, is, e) (m, is', e') =
      e ∙ ap not_exception (type_names_agree S objects objects' alike p q n m s is is') ∙ sym e'

  class_agree : (v w : Obj) (x y : ClassBody) (b : Bool) (t t' : Result ExceptionCtor CtorFault) → S v w → HasPayload objects v (payload.Class x)
      → Alike S objects objects' (payload.Class x) (payload.Class y) → ClassTaken objects v x b t → ClassTaken objects' w y b t' → SameTaken t t'
  class_agree v w x y true t t' same has s a a' = rw (a, a') (same, (x, has))
  class_agree v w x y false t t' same has s a a' = refused_agree (payload.Class x) (payload.Class y) t t' s a a'

  taken_as_agree : (p q : Payload) (v w : Obj) (t t' : Result ExceptionCtor CtorFault) → S v w → HasPayload objects v p → Alike S objects objects' p q
      → IsTakenFor objects v p t → IsTakenFor objects' w q t' → SameTaken t t'
  taken_as_agree (payload.Class c) (payload.Class d) v w t t' same has s (b, is, a) (b', is', a') =
      class_agree v w c d b t t' same has s a (rw (← derived_agree S objects objects' alike v w (name_of BaseException) b b' same is is') at a')
  taken_as_agree (payload.Exception e) (payload.Exception f) v w t t' same has s a a' = rw (a, a') (same, tt)
  taken_as_agree (payload.Class c) _ v w t t' same has s a a' = absurd s
  taken_as_agree _ (payload.Class d) v w t t' same has s a a' = absurd s
  taken_as_agree (payload.Exception e) _ v w t t' same has s a a' = absurd s
  taken_as_agree _ (payload.Exception f) v w t t' same has s a a' = absurd s
  taken_as_agree p q v w t t' same has s a a' = refused_agree p q t t' s a a'

  -- related objects are taken for the same
  pub taken_agree : (v w : Obj) (t t' : Result ExceptionCtor CtorFault) → S v w → IsTaken objects v t → IsTaken objects' w t' → SameTaken t t'
  taken_agree v w t t' same (p, has, a) (q, has', a') = taken_as_agree p q v w t t' same has (alike.payloads v w p q same has has') a a'

  -- ---- what is thrown

  -- alike values stand for related arguments
  stands_agree : (p q : Payload) (v w : Obj) (vs ws : List Obj) → S v w → Alike S objects objects' p q → StandsFor objects v p vs → StandsFor objects' w q ws → SameAll S vs ws
  stands_agree payload.None payload.None v w vs ws same s a a' = rw (a, a') tt
  stands_agree (payload.Exception e) (payload.Exception f) v w vs ws same s a a' = s.arguments vs ws a a'
  stands_agree payload.None _ v w vs ws same s a a' = absurd s
  stands_agree _ payload.None v w vs ws same s a a' = absurd s
  stands_agree (payload.Tuple us) _ v w vs ws same s a a' = absurd s
  stands_agree _ (payload.Tuple us) v w vs ws same s a a' = absurd s
  stands_agree (payload.Exception e) _ v w vs ws same s a a' = absurd s
  stands_agree _ (payload.Exception f) v w vs ws same s a a' = absurd s
  stands_agree _ _ v w vs ws same s a a' = rw (a, a') (same, tt)

  -- what a class with a value raises is that value on both sides, or a new exception with its arguments
  class_with_agree : (b : Bool) (c d : PyTypeRef) (v w : Obj) (p q : Payload) (o o' : Instantiate) → S (class_object c) (class_object d) → S v w → Alike S objects objects' p q
      → ClassWith objects c v p b o → ClassWith objects' d w q b o' → SameInstance S o o'
  class_with_agree true c d v w p q o o' same_c same s a a' = rw (a, a') same
  class_with_agree false c d v w p q o o' same_c same s (vs, is, a) (ws, is', a') = rw (a, a') (same_c, stands_agree p q v w vs ws same s is is')

  -- an exception with a value: both are refused, or both are themselves
  instance_with_agree : (p q : Payload) (e f : PyBaseExceptionRef) (v w : Obj) (o o' : Instantiate) → SameException S e f → Alike S objects objects' p q
      → InstantiatesAs objects (ctor.Instance e) v p o → InstantiatesAs objects' (ctor.Instance f) w q o' → SameInstance S o o'
  instance_with_agree (payload.Exception x) (payload.Exception y) e f v w o o' same s a a' = rw (a, a') refl
  instance_with_agree (payload.Exception x) _ e f v w o o' same s a a' = absurd s
  instance_with_agree _ (payload.Exception y) e f v w o o' same s a a' = absurd s
  instance_with_agree _ _ e f v w o o' same s a a' = rw (a, a') same

  with_value_agree : (c d : ExceptionCtor) (v w : Obj) (o o' : Instantiate) → SameCtor S c d → IsThere c → S v w → Instantiates objects c v o → Instantiates objects' d w o' → SameInstance S o o'
  with_value_agree (ctor.Class c) (ctor.Class d) v w o o' same (x, there) same_v (p, has, (b, is, a)) (q, has', (b', is', a')) =
      let s : Alike S objects objects' p q = alike.payloads v w p q same_v has has' in
      class_with_agree b c d v w p q o o' same same_v s a (rw (← instances_agree S objects objects' alike p q (class_object c) (class_object d) x b b' s same there is is') at a')
  with_value_agree (ctor.Instance e) (ctor.Instance f) v w o o' same there same_v (p, has, a) (q, has', a') =
      instance_with_agree p q e f v w o o' same (alike.payloads v w p q same_v has has') a a'
  with_value_agree _ _ v w o o' same there same_v a a' = absurd same

  instantiated_agree : (c d : ExceptionCtor) → SameCtor S c d → SameInstance S (instantiated c) (instantiated d)
  instantiated_agree (ctor.Class c) (ctor.Class d) same = (same, tt)
  instantiated_agree (ctor.Instance e) (ctor.Instance f) same = same
  instantiated_agree _ _ same = absurd same

  normalizes_with_agree : (c d : ExceptionCtor) (v v' : Option Obj) (o o' : Instantiate) → SameCtor S c d → IsThere c → SameMaybe S v v'
      → NormalizesWith objects c v o → NormalizesWith objects' d v' o' → SameInstance S o o'
  normalizes_with_agree c d None None o o' same there s a a' = rw (a, a') (instantiated_agree c d same)
  normalizes_with_agree c d (Some v) (Some w) o o' same there s a a' = with_value_agree c d v w o o' same there s a a'
  normalizes_with_agree c d _ _ o o' same there s a a' = absurd s

  -- the same comes of what is thrown
  pub normalizes_agree : (c c' : Obj) (v v' : Option Obj) (o o' : Instantiate) → S c c' → SameMaybe S v v' → Normalizes objects c v o → Normalizes objects' c' v' o' → SameInstance S o o'
  normalizes_agree c c' v v' o o' same s (inl (x, is, a)) (inl (y, is', a')) =
      let taken : SameTaken (Ok x) (Ok y) = taken_agree c c' (Ok x) (Ok y) same is is' in
      normalizes_with_agree x y v v' o o' taken.0 taken.1 s a a'
  normalizes_agree c c' v v' o o' same s (inl (x, is, a)) (inr (g, is', a')) = absurd (taken_agree c c' (Ok x) (Err (fault.NotException g)) same is is')
  normalizes_agree c c' v v' o o' same s (inr (f, is, a)) (inl (y, is', a')) = absurd (taken_agree c c' (Err (fault.NotException f)) (Ok y) same is is')
  normalizes_agree c c' v v' o o' same s (inr (f, is, a)) (inr (g, is', a')) = rw (a, a') (taken_agree c c' (Err (fault.NotException f)) (Err (fault.NotException g)) same is is')

  -- ---- generators that were left

  -- related exceptions are of a built-in class on both sides, or on none
  of_class_agree : (e f : PyBaseExceptionRef) (kind : ErrorKind) (b b' : Bool) → SameException S e f → IsOfClass objects e kind b → IsOfClass objects' f kind b' → b ≡ b'
  of_class_agree e f kind b b' same (x, has, is) (y, has', is') =
      derived_agree S objects objects' alike (class_object x.class) (class_object y.class) (name_of kind) b b'
      (alike.payloads (as_object e) (as_object f) (payload.Exception x) (payload.Exception y) same has has').class is is'

  -- they are converted as one stop on both sides out of one kind, or on none
  converted_agree : (kind : CoroKind) (e f : PyBaseExceptionRef) (stop stop' : Option ErrorKind) → SameException S e f → ConvertsAs objects kind e stop → ConvertsAs objects' kind f stop' → stop ≡ stop'
  converted_agree coro.Generator e f stop stop' same (stops, is_stop, is) (stops', is_stop', is') =
      is ∙ (ap (λ (x : Bool). stop_of x false) (of_class_agree e f StopIteration stops stops' same is_stop is_stop') ∙ sym is')
  converted_agree coro.Coroutine e f stop stop' same (stops, is_stop, is) (stops', is_stop', is') =
      is ∙ (ap (λ (x : Bool). stop_of x false) (of_class_agree e f StopIteration stops stops' same is_stop is_stop') ∙ sym is')
  converted_agree coro.AsyncGen e f stop stop' same (stops, stops_async, is_stop, is_async, is) (stops', stops_async', is_stop', is_async', is') =
      is
      ∙ (ap (λ (x : Bool). stop_of x stops_async) (of_class_agree e f StopIteration stops stops' same is_stop is_stop')
      ∙ (ap (λ (x : Bool). stop_of stops' x) (of_class_agree e f StopAsyncIteration stops_async stops_async' same is_async is_async') ∙ sym is'))

  yielded_agree : (closing : Bool) (v w : Obj) → S v w → SameCoroAnswer S (yielded closing v) (yielded closing w)
  yielded_agree true v w same = tt
  yielded_agree false v w same = same

  value_agree : (b : Bool) (v w : Obj) → S v w → SameMaybe S (value_if v b) (value_if w b)
  value_agree true v w same = tt
  value_agree false v w same = same

  returned_agree : (closing : Bool) (v w : Obj) (p q : Payload) → is_none p ≡ is_none q → S v w → SameCoroAnswer S (returned closing v p) (returned closing w q)
  returned_agree true v w p q e same = tt
  returned_agree false v w p q e same = rw e (value_agree (is_none q) v w same)

  raised_agree : (closing : Bool) (stop : Option ErrorKind) (exits : Bool) (e f : PyBaseExceptionRef) → SameException S e f → SameCoroAnswer S (raised closing e stop exits) (raised closing f stop exits)
  raised_agree true (Some stop) exits e f same = (same, refl)
  raised_agree true None true e f same = tt
  raised_agree true None false e f same = same
  raised_agree false (Some stop) exits e f same = (same, refl)
  raised_agree false None exits e f same = same

  -- generators of one kind that were left alike answer the same
  pub finishes_agree : (kind : CoroKind) (closing : Bool) (how how' : CoroEnd) (a a' : CoroAnswer) → SameLeft S how how' → Finishes objects kind closing how a → Finishes objects' kind closing how' a'
      → SameCoroAnswer S a a'
  finishes_agree kind closing (left.Yield v) (left.Yield w) a a' same is is' = rw (is, is') (yielded_agree closing v w same)
  finishes_agree kind closing (left.Return v) (left.Return w) a a' same (p, has, is) (q, has', is') =
      rw (is, is') (returned_agree closing v w p q (ap (λ x. x.none) (seen_same S objects objects' alike p q (alike.payloads v w p q same has has'))) same)
  finishes_agree kind closing (left.Raise e) (left.Raise f) a a' same (stop, exits, is_stop, is_exit, is) (stop', exits', is_stop', is_exit', is') =
      rw (is, is', converted_agree kind e f stop stop' same is_stop is_stop', of_class_agree e f GeneratorExit exits exits' same is_exit is_exit')
      (raised_agree closing stop' exits' e f same)
  finishes_agree kind closing _ _ a a' same is is' = absurd same
