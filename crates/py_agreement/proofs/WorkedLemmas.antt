-- Which short lists of events agree.
use Rattle.std.proofs.Common.{◌≡◌, ℕ, List, true, false, refl, ap, inl, inr}
use Rattle.std.specs.Prelude.{eqb, slice_get}
use Rattle.std.proofs.lemmas.Bool.{eqb-true, eq-eqb, false≢true, or_cases, or_left, or_right}
use Rattle.std.proofs.lemmas.Bool.Decides.{Decides-int_eq}
use Rattle.std.proofs.lemmas.Slice.Eq.{bytes_eq-Decides}
use Rattle.py_objects.specs.declared.payload.Payload.{Payload}
use Rattle.py_objects.specs.declared.payload.Payload.TheVariants as payload
use Rattle.py_objects.specs.declared.payload.ExceptionBody.{ExceptionBody}
use Rattle.py_objects.specs.Callees.{builtin_of, is_manager}
use Rattle.py_objects.specs.Objects.{Obj, HasPayload, as_exception, as_object}
use Rattle.py_objects.specs.Growth.{Grows}
use Rattle.py_objects.specs.Values.{both}
use Rattle.py_objects.proofs.GrowthLemmas.{payload_grown}
use Rattle.py_agreement.specs.Agreement.{by_test, has_literal}
use Rattle.py_agreement.specs.Worked.{same_literal, is_like, NoOperandsSwapped, NoOtherShown, NoOtherHandled, NoQuestionForEnd, NoOtherEnd, NothingBehindAnswers, NumbersAreFree, ScenesAreFaithful}

-- objects that are the same by their numbers are one
one : (v w : Obj) → by_test eqb v w → v ≡ w
one v w same = ap (λ (n : ℕ). record { number = n }) (eqb-true v.number w.number same)

itself : (v : Obj) → by_test eqb v v
itself v = eq-eqb v.number v.number refl

pub no_operands_swapped : NoOperandsSwapped
no_operands_swapped a b at at' other agree = other (one a b agree.0.1)

pub no_other_shown : NoOtherShown
no_other_shown u v w i j at at' other agree = other (one v w (agree (itself u)).0)

pub no_other_handled : NoOtherHandled
no_other_handled v e f at at' other agree = other (ap as_exception (one (as_object e) (as_object f) agree.1))

pub no_question_for_end : NoQuestionForEnd
no_question_for_end v at at' agree = agree

pub no_other_end : NoOtherEnd
no_other_end v w at at' other agree = other (one v w agree.0)

pub nothing_behind_answers : NothingBehindAnswers
nothing_behind_answers v w i j ts us other same = absurd (other (one v w same))

pub numbers_are_free : NumbersAreFree
numbers_are_free v w = (itself v, tt, λ same. (itself w, tt))

-- payloads of one literal are one
one_literal : (p q : Payload) → same_literal p q ≡ true → p ≡ q
one_literal payload.None payload.None e = refl
one_literal (payload.Bool true) (payload.Bool true) e = refl
one_literal (payload.Bool false) (payload.Bool false) e = refl
one_literal (payload.Int m) (payload.Int n) e = ap payload.Int ((Decides-int_eq m n).0 e)
one_literal (payload.Str s) (payload.Str t) e = ap payload.Str ((bytes_eq-Decides s t).0 e)
one_literal _ _ e = absurd (false≢true e)

literal_itself : (p : Payload) → has_literal p ≡ true → same_literal p p ≡ true
literal_itself payload.None e = refl
literal_itself (payload.Bool true) e = refl
literal_itself (payload.Bool false) e = refl
literal_itself (payload.Int n) e = (Decides-int_eq n n).1 refl
literal_itself (payload.Str s) e = (bytes_eq-Decides s s).1 refl
literal_itself _ e = absurd (false≢true e)

-- objects that pass the test have one payload
one_payload : (objects objects' : List Payload) (v w : Obj) (p q : Payload) → Grows objects objects' → by_test (is_like objects objects') v w → HasPayload objects v p → HasPayload objects' w q → p ≡ q
one_payload objects objects' v w p q grows like has has' =
    elim (or_cases (eqb v.number w.number) (both same_literal (slice_get objects v.number) (slice_get objects' w.number)) like) [
      | inl same ↦ let e : v.number ≡ w.number = eqb-true v.number w.number same in let there : HasPayload objects' v p = payload_grown objects objects' v p grows has in cc (there, has')
      | inr same ↦ one_literal p q (rw (has, has') at same)
    ]

like_itself : (objects objects' : List Payload) (n m : ℕ) → n ≡ m → is_like objects objects' n m ≡ true
like_itself objects objects' n m e = or_left (eqb n m) _ (eq-eqb n m e)

pub scenes_are_faithful : ScenesAreFaithful
scenes_are_faithful scene scene' grows =
    let same_payload : (v w : Obj) (p q : Payload) → _ = λ v w p q. one_payload scene.objects scene'.objects v w p q grows in
    record {
      literals = λ p v w is has has'. or_right (eqb v.number w.number) _ (rw (has, has') (literal_itself p is));
      truths = λ v w b c like has has'. let same : payload.Bool b ≡ payload.Bool c = same_payload v w _ _ like has has' in cc;
      classes = λ e f body body' like has has'.
          let same : payload.Exception body ≡ payload.Exception body' = same_payload (as_object e) (as_object f) _ _ like has has' in
          let same_body : body ≡ body' = cc in
          like_itself scene.objects scene'.objects body.class.number body'.class.number (ap (λ (b : ExceptionBody). b.class.number) same_body);
      builtins = λ v w p q like has has'. ap builtin_of (same_payload v w p q like has has');
      managers = λ v w p q like has has'. ap is_manager (same_payload v w p q like has has');
    }
