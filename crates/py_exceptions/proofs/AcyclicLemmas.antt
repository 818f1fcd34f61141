-- Contexts that lead back to no exception still lead back to none where one more is linked.
use Rattle.std.proofs.Common.{◌≡◌, ◌≢◌, ℕ, zero, suc, ◌<◌, ◌≤◌, ◌⊎◌, inl, inr, refl, sym, ap, subst, ◌∙◌, arith, Some}
use Rattle.std.specs.Prelude.{Option, None, Bool, true, false, ◌==◌}
use Rattle.std.proofs.lemmas.Bool.{cases_eq, cases_lt, eq-eqb}
use Rattle.std.proofs.lemmas.Option.{same_Some}
use Rattle.py_objects.specs.declared.refs.PyBaseExceptionRef.{PyBaseExceptionRef}
use Rattle.py_objects.specs.declared.edit.LinkField.TheVariants as link
use Rattle.py_objects.specs.Objects.{Obj, as_object}
use Rattle.py_objects.specs.Edits.{Kept, objects_of, with_edit, IsEdited}
use Rattle.py_exceptions.specs.Walks.{link_at, on_link, led, IsFirstTo, IsAcyclic}
use Rattle.py_exceptions.specs.Contexts.{context_edit, IsContextualized, LosesContext, IsLinked, IsLinkedUnless}
use Rattle.py_exceptions.proofs.WalksLemmas.{same_object, first_step, taken, plus, plus_is, ended}
use Rattle.py_exceptions.proofs.LinksLemmas.{context_is}
use Rattle.py_exceptions.proofs.ContextsLemmas.{context_set, context_stays, context_kept}
use Rattle.py_exceptions.proofs.TracebacksLemmas.{edited_objects}

-- behind some steps the walk is that of where they lead
joined : (step : Obj → Option Obj) (v u : Obj) (i : ℕ) → led step i v ≡ Some u → (k : ℕ) → led step (plus k i) v ≡ led step k u
unfolding plus
joined step v u i here zero = here
joined step v u i here (suc k) = ap (on_link step) (joined step v u i here k)

-- where a walk comes back to its beginning, it comes back to each object on it
round : (step : Obj → Option Obj) (v u : Obj) (n m : ℕ) → led step (suc n) v ≡ Some v → led step m v ≡ Some u → led step (suc n) u ≡ Some u
round step v u n m back here =
    sym (joined step v u m here (suc n))
    ∙ ap (λ (l : ℕ). led step l v) (plus_is (suc n) m ∙ omega arith ∙ sym (plus_is m (suc n)))
    ∙ joined step v v (suc n) back m ∙ here

module _ (old new : Obj → Option Obj) (t exc : Obj) (other : t.number ≡ exc.number → ⊥) where
  differs : Some t ≢ Some exc
  differs e = other (ap (λ v. v.number) (same_Some t exc e))

  -- the walk from t goes as before, so far as the objects on it lead where they led
  same_to : (n : ℕ) → ((k : ℕ) (u : Obj) → k < n → led old k t ≡ Some u → new u ≡ old u) → (k : ℕ) → k ≤ n → led new k t ≡ led old k t
  same_to n leads zero le = refl
  same_to n leads (suc k) le = ap (on_link new) (same_to n leads k (omega arith)) ∙ by (led old k t) refl
    where
      by : (r : Option Obj) → led old k t ≡ r → on_link new r ≡ on_link old r
      by None is = refl
      by (Some u) is = leads k u (omega arith) is

  -- it is not at exc before it is led there
  not_yet : (n : ℕ) → ((m : ℕ) → m < n → led old (suc m) t ≢ Some exc) → (k : ℕ) → k ≤ n → led old k t ≢ Some exc
  not_yet n none zero le = differs
  not_yet n none (suc k) le = none k (omega arith)

  is_other : (u : Obj) (r : Option Obj) → r ≡ Some u → r ≢ Some exc → u.number ≡ exc.number → ⊥
  is_other u r is apart same = apart (is ∙ ap Some (same_object u exc same))

  -- where nothing is found, all leads where it led except exc
  module _ (none : (m : ℕ) → led old (suc m) t ≢ Some exc) (rest : (v : Obj) → (v.number ≡ exc.number → ⊥) → new v ≡ old v) where
    never_there : (k : ℕ) → led old k t ≢ Some exc
    never_there k = not_yet k (λ m lt. none m) k (omega arith)

    away_none : (k : ℕ) → led new k t ≢ Some exc
    away_none k e = never_there k (sym (same_to k (λ j u lt is. rest u (is_other u (led old j t) is (never_there j))) k (omega arith)) ∙ e)

  -- where x is found, the walk ends there
  module _ (x : Obj) (n : ℕ) (here : led old n t ≡ Some x) (on : old x ≡ Some exc) (none : (m : ℕ) → m < n → led old (suc m) t ≢ Some exc)
      (cut : new x ≡ None) (rest : (v : Obj) → (v.number ≡ exc.number → ⊥) → (v.number ≡ x.number → ⊥) → new v ≡ old v) where
    not_x : (k : ℕ) (u : Obj) → k < n → led old k t ≡ Some u → u.number ≡ x.number → ⊥
    not_x k u lt is same = none k lt (ap (on_link old) (is ∙ ap Some (same_object u x same)) ∙ on)

    as_it_went : (k : ℕ) → k ≤ n → led new k t ≡ led old k t
    as_it_went = same_to n (λ k u lt is. rest u (is_other u (led old k t) is (not_yet n none k (omega arith))) (not_x k u lt is))

    ends : led new (suc n) t ≡ None
    ends = ap (on_link new) (as_it_went n (omega arith) ∙ here) ∙ cut

    away_some : (k : ℕ) → led new k t ≢ Some exc
    away_some k e = by k e (cases_lt n k)
      where
        by : (k : ℕ) → led new k t ≡ Some exc → (n < k) ⊎ (k ≤ n) → ⊥
        by k e (inl lt) = let gone = ended new t (suc n) ends k (omega arith) in cc
        by k e (inr le) = not_yet n none k le (sym (as_it_went k le) ∙ e)

  -- no walk comes back, where that from t doesn't come to exc
  module _ (acyclic : IsAcyclic old) (away : (k : ℕ) → led new k t ≢ Some exc) (linked : (new exc ≡ Some t) ⊎ (new exc ≡ old exc))
      (leads : (v u : Obj) → (v.number ≡ exc.number → ⊥) → new v ≡ Some u → new v ≡ old v) (v : Obj) (n : ℕ) (back : led new (suc n) v ≡ Some v) where
    on_way : (m : ℕ) → m ≤ n → (u w : Obj) → led new m v ≡ Some u → new u ≡ Some w → new u ≡ old u
    on_way m le u w at on = by (cases_eq u.number exc.number)
      where
        by_link : u ≡ exc → (new exc ≡ Some t) ⊎ (new exc ≡ old exc) → new u ≡ old u
        by_link is (inl to_t) = absurd (away n (sym (first_step new exc t n to_t) ∙ round new v exc n m back (at ∙ ap Some is)))
        by_link is (inr kept) = ap new is ∙ kept ∙ sym (ap old is)

        by : (u.number ≡ exc.number) ⊎ (u.number ≡ exc.number → ⊥) → new u ≡ old u
        by (inl same) = by_link (same_object u exc same) linked
        by (inr apart) = leads u w apart on

    as_before : (m : ℕ) → m ≤ suc n → led old m v ≡ led new m v
    as_before zero le = refl
    as_before (suc m) le =
        let step = taken new v n v back m (omega arith) in
        ap (on_link old) (as_before m (omega arith) ∙ step.2) ∙ sym (on_way m (omega arith) step.0 step.1 step.2 step.3) ∙ sym (ap (on_link new) step.2)

    pub no_round : ⊥
    no_round = acyclic v n (as_before (suc n) (omega arith) ∙ back)

-- ---- stores

module _ (old new : Kept) (t exc : Obj) (other : t.number ≡ exc.number → ⊥) (acyclic : IsAcyclic (link_at link.Context (objects_of old))) where
  abbrev was : Obj → Option Obj
  was = link_at link.Context (objects_of old)

  abbrev now : Obj → Option Obj
  now = link_at link.Context (objects_of new)

  -- the last edit, of exc
  module _ (between : Kept) (set : IsEdited between new exc (context_edit (Some t))) where
    abbrev mid : Obj → Option Obj
    mid = link_at link.Context (objects_of between)

    behind : (v : Obj) → now v ≡ link_at link.Context (with_edit (objects_of between) exc (context_edit (Some t))) v
    behind v = ap (λ l. link_at link.Context l v) (edited_objects between new exc (context_edit (Some t)) set)

    set_exc : mid exc ≡ was exc → (now exc ≡ Some t) ⊎ (now exc ≡ was exc)
    set_exc same = by (context_kept (objects_of between) exc (Some t))
      where
        by : (link_at link.Context (with_edit (objects_of between) exc (context_edit (Some t))) exc ≡ Some t)
            ⊎ (link_at link.Context (with_edit (objects_of between) exc (context_edit (Some t))) exc ≡ mid exc) → (now exc ≡ Some t) ⊎ (now exc ≡ was exc)
        by (inl e) = inl (behind exc ∙ e)
        by (inr e) = inr (behind exc ∙ e ∙ same)

    set_rest : (v : Obj) → (v.number ≡ exc.number → ⊥) → now v ≡ mid v
    set_rest v apart = behind v ∙ context_stays (objects_of between) exc (Some t) v (λ e. apart (sym e))

  linked_none : (between : Kept) → IsEdited between new exc (context_edit (Some t)) → between ≡ old → ((m : ℕ) → led was (suc m) t ≢ Some exc) → IsAcyclic now
  linked_none between set same none v n back =
      let mid_was : (v : Obj) → link_at link.Context (objects_of between) v ≡ was v = λ v. ap (λ (s : Kept). link_at link.Context (objects_of s) v) same in
      let rest : (v : Obj) → (v.number ≡ exc.number → ⊥) → now v ≡ was v = λ v apart. set_rest between set v apart ∙ mid_was v in
      no_round was now t exc other acyclic (away_none was now t exc other none rest) (set_exc between set (mid_was exc)) (λ v u apart on. rest v apart) v n back

  linked_some : (between : Kept) → IsEdited between new exc (context_edit (Some t)) → (x : Obj) → IsEdited old between x (context_edit None)
      → (n : ℕ) → led was n t ≡ Some x → was x ≡ Some exc → ((m : ℕ) → m < n → led was (suc m) t ≢ Some exc) → IsAcyclic now
  linked_some between set x cut k here on none v n back =
      let apart_x : x.number ≡ exc.number → ⊥ = λ e. acyclic x 0 (on ∙ ap Some (sym (same_object x exc e))) in
      let gone : now x ≡ None = set_rest between set x apart_x ∙ mid_behind x ∙ context_set (objects_of old) x None (context_is (objects_of old) x exc on) in
      let rest : (v : Obj) → (v.number ≡ exc.number → ⊥) → (v.number ≡ x.number → ⊥) → now v ≡ was v =
      λ v apart far. set_rest between set v apart ∙ mid_behind v ∙ context_stays (objects_of old) x None v (λ e. far (sym e)) in
      let mid_exc : link_at link.Context (objects_of between) exc ≡ was exc = mid_behind exc ∙ context_stays (objects_of old) x None exc apart_x in
      no_round was now t exc other acyclic (away_some was now t exc other x k here on none gone rest) (set_exc between set mid_exc)
      (λ v u apart on. rest v apart (λ e. let one = ap now (same_object v x e) in cc)) v n back
    where
      mid_behind : (v : Obj) → link_at link.Context (objects_of between) v ≡ link_at link.Context (with_edit (objects_of old) x (context_edit None)) v
      mid_behind v = ap (λ l. link_at link.Context l v) (edited_objects old between x (context_edit None) cut)

  linked_acyclic : IsLinked old new t exc → IsAcyclic now
  linked_acyclic linked = by linked.found linked.first linked.cut
    where
      by : (found : Option Obj) → IsFirstTo was t exc found → LosesContext old linked.between found → IsAcyclic now
      by None first cut = linked_none linked.between linked.set cut first
      by (Some x) first cut = linked_some linked.between linked.set x cut first.0 first.1 first.2 first.3

-- contexts stay acyclic
pub contextualized_acyclic : (old new : Kept) (handled : Option PyBaseExceptionRef) (exc : PyBaseExceptionRef)
    → IsContextualized old new handled exc → IsAcyclic (link_at link.Context (objects_of old)) → IsAcyclic (link_at link.Context (objects_of new))
contextualized_acyclic old new None exc same acyclic = subst (λ (s : Kept). IsAcyclic (link_at link.Context (objects_of s))) (sym same) acyclic
contextualized_acyclic old new (Some t) exc is acyclic = by (t.number == exc.number) refl is
  where
    by : (b : Bool) → (t.number == exc.number) ≡ b → IsLinkedUnless b old new (as_object t) (as_object exc) → IsAcyclic (link_at link.Context (objects_of new))
    by true at same = subst (λ (s : Kept). IsAcyclic (link_at link.Context (objects_of s))) (sym same) acyclic
    by false at linked = linked_acyclic old new (as_object t) (as_object exc) (λ e. let yes = eq-eqb t.number exc.number e in cc) acyclic linked
