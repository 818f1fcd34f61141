-- The same question has the same reply, where objects are alike.
use Rattle.std.proofs.Common.{◌≡◌, ◌∷◌, [], Bool, true, false, Option, Some, None, Ok, Err, List, ℤ, ◌+ℤ◌, ◌-ℤ◌, refl, sym, ap, subst, inl, inr, if◌then◌else◌}
use Rattle.std.specs.Prelude.{codes}
use Rattle.std.proofs.lemmas.Option.{same_Some}
use Rattle.py_code.specs.Range.{in_range}
use Rattle.py_code.specs.BuiltinNames.{builtin_name}
use Rattle.py_code.specs.declared.operator.BinaryOperator.{BinaryOperator}
use Rattle.py_code.specs.declared.operator.BinaryOperator.TheVariants as binary
use Rattle.py_code.specs.declared.operator.ComparisonOperator.{ComparisonOperator}
use Rattle.py_code.specs.declared.operator.ComparisonOperator.TheVariants as comparison
use Rattle.py_objects.specs.declared.payload.Payload.{Payload}
use Rattle.py_objects.specs.declared.payload.Payload.TheVariants as payload
use Rattle.py_objects.specs.declared.payload.ClassBody.{ClassBody}
use Rattle.py_objects.specs.declared.error_kind.ErrorKind.{ErrorKind}
use Rattle.py_objects.specs.declared.error_kind.ErrorKind.TheVariants.{AttributeError, BaseException, OverflowError, TypeError, UnboundLocalError}
use Rattle.py_objects.specs.declared.request.Request.{Request}
use Rattle.py_objects.specs.declared.request.Request.TheVariants as request
use Rattle.py_objects.specs.declared.request.Keywords.TheVariants as keywords
use Rattle.py_objects.specs.ErrorKinds.{name_of}
use Rattle.py_objects.specs.Objects.{Obj, Name, HasPayload, declared}
use Rattle.py_objects.specs.Values.{number_of, text_of}
use Rattle.py_exceptions.specs.declared.ctor.ExceptionCtor.{ExceptionCtor}
use Rattle.py_exceptions.specs.declared.ctor.ExceptionCtor.TheVariants as ctor
use Rattle.py_exceptions.specs.declared.ctor.CtorFault.TheVariants as fault
use Rattle.py_answers.specs.Answers.{Reply, Has, Fails, IsTypeName, whole, on_both, sum, difference, operated, truth, less, Compares, MatchesClass, MatchesAs, found, unbound_text, raised_as, Raises, not_callable, bad_arguments, CallsClass, CallsAs, no_attribute, LacksAs, Lacks, no_protocol, no_exit, Replies}
use Rattle.py_agreement.specs.Agreement.{Relation, SameMaybe, SameAll, has_literal}
use Rattle.py_determined.specs.Alike.{Alike, AreAlike}
use Rattle.py_determined.specs.Sameness.{SameAsked, SameCtor, SameReply}
use Rattle.py_determined.proofs.AlikeLemmas.{seen, seen_same, keys_agree, type_names_agree, derived_agree, instances_agree}
use Rattle.py_determined.proofs.ExceptionsAgree.{SameTaken, taken_agree}

-- ---- replies that name no object

-- a value that a literal stands for, or the raise of a new exception with a text
abbrev IsPlainReply : Reply → Type 0
IsPlainReply (Has p) = has_literal p ≡ true
IsPlainReply (Fails kind text) = Unit {0}
IsPlainReply _ = ⊥

-- a choice by whether both values are there is plain where its replies are
on_both_plain : {A : Type 0} (x y : Option A) (f : A → A → Reply) (other : Reply) → ((a b : A) → IsPlainReply (f a b)) → IsPlainReply other → IsPlainReply (on_both x y f other)
on_both_plain None y f other plain or_plain = or_plain
on_both_plain (Some x) None f other plain or_plain = or_plain
on_both_plain (Some x) (Some y) f other plain or_plain = plain x y

whole_plain : (n : ℤ) → IsPlainReply (whole n)
whole_plain n = by (in_range n)
  where
    by : (b : Bool) → IsPlainReply (if b then Has (payload.Int n) else Fails OverflowError (codes "integer out of range"))
    by true = refl
    by false = tt

sum_plain : (p q : Payload) (n m : Name) → IsPlainReply (sum p q n m)
sum_plain p q n m = on_both_plain (text_of p) (text_of q) _ _ (λ s t. refl) (on_both_plain (number_of p) (number_of q) _ _ (λ x y. whole_plain (x +ℤ y)) tt)

difference_plain : (p q : Payload) (n m : Name) → IsPlainReply (difference p q n m)
difference_plain p q n m = on_both_plain (number_of p) (number_of q) _ _ (λ x y. whole_plain (x -ℤ y)) tt

less_plain : (p q : Payload) (n m : Name) → IsPlainReply (less p q n m)
less_plain p q n m = on_both_plain (number_of p) (number_of q) _ _ (λ x y. refl) (on_both_plain (text_of p) (text_of q) _ _ (λ s t. refl) tt)

-- operands of which the same is seen, of types of the same names
module _ (p q p' q' : Payload) (n m n' m' : Name) (first : seen p ≡ seen p') (second : seen q ≡ seen q') (left : n ≡ n') (right : m ≡ m') where
  numbers_first : number_of p ≡ number_of p'
  numbers_first = ap (λ x. x.number) first

  numbers_second : number_of q ≡ number_of q'
  numbers_second = ap (λ x. x.number) second

  texts_first : text_of p ≡ text_of p'
  texts_first = ap (λ x. x.text) first

  texts_second : text_of q ≡ text_of q'
  texts_second = ap (λ x. x.text) second

  sum_same : sum p q n m ≡ sum p' q' n' m'
  sum_same = cc (numbers_first, numbers_second, texts_first, texts_second)

  difference_same : difference p q n m ≡ difference p' q' n' m'
  difference_same = cc (numbers_first, numbers_second)

  less_same : less p q n m ≡ less p' q' n' m'
  less_same = cc (numbers_first, numbers_second, texts_first, texts_second)

module _ (S : Relation) (objects objects' : List Payload) (alike : AreAlike S objects objects') where
  -- one that names no object is the same in both runs
  plain_same : (reply : Reply) → IsPlainReply reply → SameReply S reply reply
  plain_same (Has p) plain = (refl, plain)
  plain_same (Fails kind text) plain = (refl, refl)
  plain_same _ plain = absurd plain

  -- two replies that say the same and name no object
  plain_agree : (x y reply reply' : Reply) → IsPlainReply x → x ≡ y → reply ≡ x → reply' ≡ y → SameReply S reply reply'
  plain_agree x y reply reply' plain same is is' = rw (is, is') (subst (λ z. SameReply S x z) same (plain_same x plain))

  -- refusals of alike payloads, by the name of the type
  refused_agree : (kind : ErrorKind) (text : Name → Name) (p q : Payload) (reply reply' : Reply) → Alike S objects objects' p q
      → (n : Name) × IsTypeName objects p n × (reply ≡ Fails kind (text n)) → (m : Name) × IsTypeName objects' q m × (reply' ≡ Fails kind (text m)) → SameReply S reply reply'
  refused_agree kind text p q reply reply' s (n, is, a) (m, is', a') =
      plain_agree (Fails kind (text n)) (Fails kind (text m)) reply reply' tt (ap (λ x. Fails kind (text x)) (type_names_agree S objects objects' alike p q n m s is is')) a a'

  -- ---- operators and comparisons

  operated_agree : (op : BinaryOperator) (p q p' q' : Payload) (n m n' m' : Name) (reply reply' : Reply) → seen p ≡ seen p' → seen q ≡ seen q' → n ≡ n' → m ≡ m'
      → operated op p q n m ≡ Some reply → operated op p' q' n' m' ≡ Some reply' → SameReply S reply reply'
  operated_agree binary.Add p q p' q' n m n' m' reply reply' first second left right is is' =
      plain_agree _ _ reply reply' (sum_plain p q n m) (sum_same p q p' q' n m n' m' first second left right) (sym (same_Some _ _ is)) (sym (same_Some _ _ is'))
  operated_agree binary.Subtract p q p' q' n m n' m' reply reply' first second left right is is' =
      plain_agree _ _ reply reply' (difference_plain p q n m) (difference_same p q p' q' n m n' m' first second left right) (sym (same_Some _ _ is)) (sym (same_Some _ _ is'))
  operated_agree _ p q p' q' n m n' m' reply reply' first second left right is is' = absurd (cc is)

  compares_agree : (op : ComparisonOperator) (a b a' b' : Obj) (reply reply' : Reply) → S a a' → S b b' → Compares objects op a b reply → Compares objects' op a' b' reply' → SameReply S reply reply'
  compares_agree comparison.Less a b a' b' reply reply' same_a same_b (p, q, n, m, has_p, has_q, is_n, is_m, is) (p', q', n', m', has_p', has_q', is_n', is_m', is') =
      let first : Alike S objects objects' p p' = alike.payloads a a' p p' same_a has_p has_p' in
      let second : Alike S objects objects' q q' = alike.payloads b b' q q' same_b has_q has_q' in
      plain_agree _ _ reply reply' (less_plain p q n m)
      (less_same p q p' q' n m n' m' (seen_same S objects objects' alike p p' first) (seen_same S objects objects' alike q q' second)
      (type_names_agree S objects objects' alike p p' n n' first is_n is_n') (type_names_agree S objects objects' alike q q' m m' second is_m is_m')) is is'
  compares_agree comparison.Equal a b a' b' reply reply' same_a same_b (p, q, has_p, has_q, is) (p', q', has_p', has_q', is') =
      plain_agree _ _ reply reply' refl (ap truth (keys_agree S objects objects' alike a b a' b' p q p' q' same_a same_b has_p has_q has_p' has_q')) is is'
  compares_agree _ a b a' b' reply reply' same_a same_b told told' = absurd told

  -- ---- matches

  matches_class_agree : (p q : Payload) (c d : Obj) (x : ClassBody) (b : Bool) (reply reply' : Reply) → Alike S objects objects' p q → S c d → HasPayload objects c (payload.Class x)
      → MatchesClass objects p c b reply → MatchesClass objects' q d b reply' → SameReply S reply reply'
  matches_class_agree p q c d x true reply reply' s same has (b, is, a) (b', is', a') =
      plain_agree _ _ reply reply' refl (ap truth (instances_agree S objects objects' alike p q c d x b b' s same has is is')) a a'
  matches_class_agree p q c d x false reply reply' s same has a a' = plain_agree _ _ reply reply' tt refl a a'

  matches_as_agree : (u w : Payload) (p q : Payload) (c d : Obj) (reply reply' : Reply) → Alike S objects objects' u w → Alike S objects objects' p q → S c d
      → MatchesAs objects p c u reply → MatchesAs objects' q d w reply' → SameReply S reply reply'
  matches_as_agree (payload.Class x) (payload.Class y) p q c d reply reply' s same_p same (b, is, a) (b', is', a') =
      matches_class_agree p q c d is.0 b reply reply' same_p same is.1 a (rw (← derived_agree S objects objects' alike c d (name_of BaseException) b b' same is is') at a')
  matches_as_agree (payload.Class x) _ p q c d reply reply' s same_p same a a' = absurd s
  matches_as_agree _ (payload.Class y) p q c d reply reply' s same_p same a a' = absurd s
  matches_as_agree _ _ p q c d reply reply' s same_p same a a' = plain_agree _ _ reply reply' tt refl a a'

  -- ---- names, and what is raised

  found_agree : (x : Name) (v w : Option Obj) → SameMaybe S v w → SameReply S (found x v) (found x w)
  found_agree x None None s = (refl, refl)
  found_agree x (Some v) (Some w) s = s
  found_agree x _ _ s = absurd s

  raised_as_agree : (c d : ExceptionCtor) → SameCtor S c d → SameReply S (raised_as c) (raised_as d)
  raised_as_agree (ctor.Class c) (ctor.Class d) s = (s, tt)
  raised_as_agree (ctor.Instance e) (ctor.Instance f) s = s
  raised_as_agree _ _ s = absurd s

  -- related objects are raised as the same, or both are refused
  raises_agree : (v w : Obj) (reply reply' : Reply) → S v w → Raises objects v reply → Raises objects' w reply' → SameReply S reply reply'
  raises_agree v w reply reply' same (inl (c, is, a)) (inl (d, is', a')) =
      let taken : SameTaken S objects objects' alike (Ok c) (Ok d) = taken_agree S objects objects' alike v w (Ok c) (Ok d) same is is' in
      rw (a, a') (raised_as_agree c d taken.0)
  raises_agree v w reply reply' same (inl (c, is, a)) (inr (g, is', a')) = absurd (taken_agree S objects objects' alike v w (Ok c) (Err (fault.NotException g)) same is is')
  raises_agree v w reply reply' same (inr (f, is, a)) (inl (d, is', a')) = absurd (taken_agree S objects objects' alike v w (Err (fault.NotException f)) (Ok d) same is is')
  raises_agree v w reply reply' same (inr (f, is, a)) (inr (g, is', a')) =
      plain_agree _ _ reply reply' tt (ap (λ x. Fails x.kind x.text) (taken_agree S objects objects' alike v w (Err (fault.NotException f)) (Err (fault.NotException g)) same is is')) a a'

  -- ---- calls

  calls_class_agree : (f g : Obj) (c d : ClassBody) (vs ws : List Obj) (b : Bool) (reply reply' : Reply) → Alike S objects objects' (payload.Class c) (payload.Class d) → S f g → SameAll S vs ws
      → CallsClass objects f c vs b reply → CallsClass objects' g d ws b reply' → SameReply S reply reply'
  calls_class_agree f g c d vs ws true reply reply' s same same_vs a a' = rw (a, a') (same, same_vs)
  calls_class_agree f g c d vs ws false reply reply' s same same_vs a a' = refused_agree TypeError not_callable (payload.Class c) (payload.Class d) reply reply' s a a'

  calls_as_agree : (p q : Payload) (f g : Obj) (vs ws : List Obj) (reply reply' : Reply) → Alike S objects objects' p q → S f g → SameAll S vs ws
      → CallsAs objects f p vs reply → CallsAs objects' g q ws reply' → SameReply S reply reply'
  calls_as_agree (payload.Class c) (payload.Class d) f g vs ws reply reply' s same same_vs (b, is, a) (b', is', a') =
      calls_class_agree f g c d vs ws b reply reply' s same same_vs a (rw (← derived_agree S objects objects' alike f g (name_of BaseException) b b' same is is') at a')
  calls_as_agree (payload.Builtin x) (payload.Builtin y) f g vs ws reply reply' s same same_vs a a' =
      plain_agree _ _ reply reply' tt (ap (λ z. Fails TypeError (bad_arguments (builtin_name z))) s) a a'
  calls_as_agree (payload.Class c) _ f g vs ws reply reply' s same same_vs a a' = absurd s
  calls_as_agree _ (payload.Class d) f g vs ws reply reply' s same same_vs a a' = absurd s
  calls_as_agree (payload.Builtin x) _ f g vs ws reply reply' s same same_vs a a' = absurd s
  calls_as_agree _ (payload.Builtin y) f g vs ws reply reply' s same same_vs a a' = absurd s
  calls_as_agree (payload.Function x) _ f g vs ws reply reply' s same same_vs a a' = absurd a
  calls_as_agree _ (payload.Function y) f g vs ws reply reply' s same same_vs a a' = absurd a'
  calls_as_agree p q f g vs ws reply reply' s same same_vs a a' = refused_agree TypeError not_callable p q reply reply' s a a'

  lacks_as_agree : (p q : Payload) (x : Name) (reply reply' : Reply) → Alike S objects objects' p q → LacksAs objects x p reply → LacksAs objects' x q reply' → SameReply S reply reply'
  lacks_as_agree (payload.Generator g) _ x reply reply' s a a' = absurd a
  lacks_as_agree _ (payload.Generator h) x reply reply' s a a' = absurd a'
  lacks_as_agree p q x reply reply' s a a' = refused_agree AttributeError (λ n. no_attribute n x) p q reply reply' s a a'

  lacks_agree : (x : Name) (g h : Obj) (reply reply' : Reply) → S g h → Lacks objects x g reply → Lacks objects' x h reply' → SameReply S reply reply'
  lacks_agree x g h reply reply' same (p, has, a) (q, has', a') = lacks_as_agree p q x reply reply' (alike.payloads g h p q same has has') a a'

  -- ---- replies

  -- the same question has the same reply
  pub replies_agree : (r r' : Request) (reply reply' : Reply) → SameAsked S r r' → Replies objects r reply → Replies objects' r' reply' → SameReply S reply reply'
  replies_agree (request.Binary op a b) (request.Binary op' a' b') reply reply' same (p, q, n, m, has_p, has_q, is_n, is_m, is) (p', q', n', m', has_p', has_q', is_n', is_m', is') =
      let first : Alike S objects objects' p p' = alike.payloads a a' p p' same.0.1 has_p has_p' in
      let second : Alike S objects objects' q q' = alike.payloads b b' q q' same.0.2 has_q has_q' in
      operated_agree op p q p' q' n m n' m' reply reply' (seen_same S objects objects' alike p p' first) (seen_same S objects objects' alike q q' second)
      (type_names_agree S objects objects' alike p p' n n' first is_n is_n') (type_names_agree S objects objects' alike q q' m m' second is_m is_m')
      is (rw same.0.0 is')
  replies_agree (request.Compare op a b) (request.Compare op' a' b') reply reply' same told told' =
      compares_agree op a b a' b' reply reply' same.0.1 same.0.2 told (rw (← same.0.0) at told')
  replies_agree (request.Truth v) (request.Truth w) reply reply' same (p, has, is) (q, has', is') =
      plain_agree _ _ reply reply' refl (ap (λ x. truth x.truth) (seen_same S objects objects' alike p q (alike.payloads v w p q same.0 has has'))) is is'
  replies_agree (request.Match e c) (request.Match f d) reply reply' same (p, u, has_p, has_u, a) (q, w, has_q, has_w, a') =
      matches_as_agree u w p q c d reply reply' (alike.payloads c d u w same.0.1 has_u has_w) (alike.payloads e f p q same.0.0 has_p has_q) same.0.1 a a'
  replies_agree (request.Global d x) (request.Global d' y) reply reply' same is is' =
      rw (is, is', same.0) (found_agree y (declared objects y) (declared objects' y) (alike.declares y))
  replies_agree (request.Show v) (request.Show w) reply reply' same is is' = plain_agree _ _ reply reply' refl refl is is'
  replies_agree (request.Unbound x) (request.Unbound y) reply reply' same is is' = plain_agree _ _ reply reply' tt (ap (λ n. Fails UnboundLocalError (unbound_text n)) same.0) is is'
  replies_agree (request.Raisable v) (request.Raisable w) reply reply' same told told' = raises_agree v w reply reply' same.0 told told'
  replies_agree (request.Call f vs keywords.None) (request.Call g ws keywords.None) reply reply' same (e, (p, has, a)) (e', (q, has', a')) =
      calls_as_agree p q f g vs ws reply reply' (alike.payloads f g p q same.0.0 has has') same.0.0 same.0.1 a a'
  replies_agree (request.Send g v) (request.Send h w) reply reply' same told told' = lacks_agree (codes "send") g h reply reply' same.0.0 told told'
  replies_agree (request.Throw g c v t) (request.Throw h d w u) reply reply' same told told' = lacks_agree (codes "throw") g h reply reply' same.0.0 told told'
  replies_agree (request.Close g) (request.Close h) reply reply' same told told' = lacks_agree (codes "close") g h reply reply' same.0 told told'
  replies_agree (request.Enter v) (request.Enter w) reply reply' same (p, has, other, a) (q, has', other', a') =
      refused_agree TypeError no_protocol p q reply reply' (alike.payloads v w p q same.0 has has') a a'
  replies_agree (request.NoExit v) (request.NoExit w) reply reply' same (p, has, a) (q, has', a') =
      refused_agree TypeError no_exit p q reply reply' (alike.payloads v w p q same.0 has has') a a'
  replies_agree (request.Exit v c e t) (request.Exit w d f u) reply reply' same (p, has, other, a) (q, has', other', a') =
      calls_as_agree p q v w (c ∷ e ∷ t ∷ []) (d ∷ f ∷ u ∷ []) reply reply' (alike.payloads v w p q same.0.0 has has') same.0.0 (same.0.1, (same.0.2, (same.1, tt))) a a'
  replies_agree request.Handled _ reply reply' same told told' = absurd told
  replies_agree _ _ reply reply' same told told' = absurd same.0
