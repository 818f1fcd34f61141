-- By each event the tracebacks that exceptions have stay those of their last raises.
use Rattle.std.proofs.Common.{◌≡◌, ◌++◌, ◌||◌, ◌∙◌, ◌⊎◌, ℕ, inl, inr, List, [], ◌∷◌, Bool, true, false, Some, None, eqb, eq-eqb, ne_eqb, refl, sym, ap, subst, length, append-nil, append_assoc, arith}
use Rattle.std.specs.Prelude.{Option, is_none, option_map, slice_get}
use Rattle.std.proofs.lemmas.Bool.{cases_eq}
use Rattle.py_objects.specs.declared.payload.Payload.{Payload}
use Rattle.py_objects.specs.declared.payload.Payload.TheVariants as payload
use Rattle.py_objects.specs.declared.payload.ExceptionBody.{ExceptionBody}
use Rattle.py_objects.specs.declared.edit.Change.{Change}
use Rattle.py_objects.specs.declared.edit.LinkField.TheVariants as link
use Rattle.py_objects.specs.declared.event.Event.{Event}
use Rattle.py_objects.specs.Objects.{Obj, HasPayload, IsTraceback, event_numbers, is_among}
use Rattle.py_objects.specs.Changes.{store_at}
use Rattle.py_objects.proofs.NewLemmas.{not_among}
use Rattle.py_exceptions.specs.Walks.{link_in}
use Rattle.py_answers.proofs.ReadingLemmas.{one_payload}
use Rattle.py_run.specs.Links.{IsToldNone, IsToldNow, named_by, named_in}
use Rattle.py_run.proofs.FirstLemmas.{below_behind, below_front}
use Rattle.py_run.proofs.LinksLemmas.{IsBelow}
use Rattle.py_run.proofs.NamedLemmas.{among_joined}
use Rattle.py_run.proofs.TracebackLemmas.{due_by}
use Rattle.py_determined.specs.Alike.{numbered}
use Rattle.py_determined.specs.Raises.{Raise, raise_of, raises_of, with_traceback}
use Rattle.py_determined.proofs.EntriesTold.{AreOfRaises, Effect, IsOfRaise, IsOfTold, IsPlain, LeavesAll, RaisesOne, TellsExit, behind, has_behind, has_traceback, plain_named}
use Rattle.py_determined.proofs.NamedBefore.{IsKnown, TellsIt, either}
use Rattle.py_determined.proofs.Pairing.{IsBare, is_bare}
use Rattle.py_determined.proofs.RaisesLemmas.{told_other, told_same, with_told}

named_joined : (es fs : List Event) → named_by (es ++ fs) ≡ named_by es ++ named_by fs
named_joined [] fs = refl
named_joined (x ∷ es) fs = ap (λ l. event_numbers x ++ l) (named_joined es fs) ∙ sym (append_assoc (event_numbers x) (named_by es) (named_by fs))

-- what is named behind one event more
named_on : (n : ℕ) (es : List Event) (e : Event) → is_among n (named_by (es ++ e ∷ [])) ≡ (is_among n (named_by es) || is_among n (event_numbers e))
named_on n es e =
    ap (is_among n) (named_joined es (e ∷ []) ∙ ap (λ l. named_by es ++ l) (append-nil (event_numbers e))) ∙ among_joined n (named_by es) (event_numbers e)

pub no_value : (o : Option Obj) → is_none o ≡ true → o ≡ None
no_value None is = refl
no_value (Some v) is = absurd (cc is)

module _ (objects : List Payload) where
  -- no object has two entries of which only one may be
  apart_by : (test : Payload → Bool) (v : Obj) (p q : Payload) → HasPayload objects v p → HasPayload objects v q → test p ≡ true → test q ≡ false → ⊥
  apart_by test v p q has has' passes fails = cc (sym passes ∙ ap test (one_payload objects v.number p q has has') ∙ fails)

  abbrev is_exception : Payload → Bool
  is_exception (payload.Exception e) = true
  is_exception _ = false

  abbrev is_traceback : Payload → Bool
  is_traceback (payload.Traceback t) = true
  is_traceback _ = false

  pub no_bare_traceback : (v : Obj) → IsBare objects v → IsTraceback objects v → ⊥
  no_bare_traceback v (p, has, bare) (t, has') = apart_by is_bare v p (payload.Traceback t) has has' bare refl

  no_traceback_exception : (v : Obj) (b : ExceptionBody) → IsTraceback objects v → HasPayload objects v (payload.Exception b) → ⊥
  no_traceback_exception v b (t, has) has' = apart_by is_traceback v (payload.Traceback t) (payload.Exception b) has has' refl refl

  no_none_exception : (v : Obj) (b : ExceptionBody) → HasPayload objects v payload.None → HasPayload objects v (payload.Exception b) → ⊥
  no_none_exception v b has has' = apart_by is_exception v (payload.Exception b) payload.None has' has refl refl

  no_none_traceback : (v : Obj) → HasPayload objects v payload.None → IsTraceback objects v → ⊥
  no_none_traceback v has (t, has') = apart_by is_traceback v (payload.Traceback t) payload.None has' has refl refl

module _ (objects : List Payload) (changes : List Change) (before : List Event) (e : Event) (of : AreOfRaises objects changes before)
    (known : (n : ℕ) → is_among n (event_numbers e) ≡ true → IsKnown objects before e (numbered n)) where
  abbrev has : Obj → Option Obj
  has v = has_behind objects changes before v

  abbrev then_has : Obj → Option Obj
  then_has v = has_behind objects changes (behind objects changes before e) v

  -- a traceback that none named is named still by none, unless an exit is told it
  still_unnamed : (t : Obj) → IsTraceback objects t → is_among t.number (named_by before) ≡ false → (TellsIt e t → ⊥) → is_among t.number (named_by (before ++ e ∷ [])) ≡ false
  still_unnamed t traceback unnamed untold = named_on t.number before e ∙ (ap (λ b. b || is_among t.number (event_numbers e)) unnamed ∙ by (is_among t.number (event_numbers e)) refl)
    where
      by : (b : Bool) → is_among t.number (event_numbers e) ≡ b → is_among t.number (event_numbers e) ≡ false
      by false is = is
      by true is = elim (known t.number is) [
        | inl named ↦ absurd (cc (sym named ∙ unnamed))
        | inr (inl bare) ↦ absurd (no_bare_traceback objects t bare traceback)
        | inr (inr told) ↦ absurd (untold told)
      ]

  -- what is so of an exception that the event leaves as it is
  stays_of : (v : Obj) (r : Option Raise) → then_has v ≡ has v → ((t : Obj) → IsTraceback objects t → has v ≡ Some t → TellsIt e t → ⊥) → IsOfRaise objects changes before v r
      → IsOfRaise objects changes (before ++ e ∷ []) v r
  stays_of v None same untold none = same ∙ none
  stays_of v (Some x) same untold of_raise = by x.traceback of_raise
    where
      by : (told : Option Obj) → IsOfTold objects changes before v told → IsOfTold objects changes (before ++ e ∷ []) v told
      by None (t, is, traceback, unnamed) = (t, same ∙ is, traceback, still_unnamed t traceback unnamed (untold t traceback is))
      by (Some t) (is, traceback) = (same ∙ is, traceback)

  -- no other exception is named, where no exit is told one as a traceback
  stays_plain : ((t : Obj) (b : ExceptionBody) → TellsIt e t → HasPayload objects t (payload.Exception b) → ⊥)
      → (v : Obj) (b : ExceptionBody) → HasPayload objects v (payload.Exception b) → is_among v.number (named_by (before ++ e ∷ [])) ≡ true → b.traceback ≡ None
  stays_plain untold v b there among = elim (either (is_among v.number (named_by before)) (is_among v.number (event_numbers e)) (sym (named_on v.number before e) ∙ among)) [
    | inl named ↦ of.plain v b there named
    | inr names ↦ elim (known v.number names) [
      | inl named ↦ of.plain v b there named
      | inr (inl (p, is, bare)) ↦ no_value b.traceback (sym (ap is_bare (one_payload objects v.number p (payload.Exception b) is there)) ∙ bare)
      | inr (inr told) ↦ absurd (untold v b told there)
    ]
  ]

  left : LeavesAll objects changes before e → AreOfRaises objects changes (before ++ e ∷ [])
  left l = record {
    each = λ v plain. subst (λ xs. IsOfRaise objects changes (before ++ e ∷ []) v (raise_of v xs)) (sym l.raises)
        (stays_of v (raise_of v (raises_of before)) (l.same v) (λ t traceback is told. l.tells_none t told) (of.each v plain));
    apart = λ v w t plain plain' is is'. of.apart v w t plain plain' (sym (l.same v) ∙ is) (sym (l.same w) ∙ is');
    plain = stays_plain (λ t b told there. l.tells_none t told);
  }

  module _ (r : RaisesOne objects changes before e) where
    -- the entry is named by nothing
    entry_unnamed : (b : ExceptionBody) → HasPayload objects r.v (payload.Exception b) → is_among r.entry.number (named_by (before ++ e ∷ [])) ≡ false
    entry_unnamed b there =
        let past : is_among r.entry.number (named_by before) ≡ false = not_among r.entry.number r.entry.number (named_by before) (below_front r.entry.number (named_by before) (named_in (due_by (length before) changes)) r.newer) (omega arith) in
        let other : eqb r.entry.number r.v.number ≡ false =
        ne_eqb r.entry.number r.v.number (λ same. no_traceback_exception objects r.entry b r.is_traceback (subst (λ n. slice_get objects n ≡ Some (payload.Exception b)) (sym same) there)) in
        named_on r.entry.number before e ∙ (ap (λ b. b || is_among r.entry.number (event_numbers e)) past ∙ (ap (is_among r.entry.number) r.names ∙ ap (λ b. b || false) other))

    -- no other exception has it
    entry_apart : (w : Obj) → IsPlain objects changes w → has w ≡ Some r.entry → ⊥
    entry_apart w plain is =
        let below : IsBelow r.entry.number (has w) =
        plain_named objects changes r.entry.number (length before) (below_behind r.entry.number (named_by before) (named_in (due_by (length before) changes)) r.newer) w plain in
        let low = subst (IsBelow r.entry.number) is below in omega (arith, low)

    raised_each : (v : Obj) → IsPlain objects changes v → (r.v.number ≡ v.number) ⊎ (r.v.number ≡ v.number → ⊥) → IsOfRaise objects changes (before ++ e ∷ []) v (raise_of v (record { exception = r.v; traceback = None } ∷ raises_of before))
    raised_each v (b, there, bare) (inl same) =
        rw (eq-eqb r.v.number v.number same)
        (r.entry, r.here v same (b, there, bare), r.is_traceback, entry_unnamed b (subst (λ n. slice_get objects n ≡ Some (payload.Exception b)) (sym same) there))
    raised_each v plain (inr other) =
        rw (ne_eqb r.v.number v.number other) (stays_of v (raise_of v (raises_of before)) (r.elsewhere v other) (λ t traceback is told. r.tells_none t told) (of.each v plain))

    raised_apart : (v w t : Obj) → IsPlain objects changes v → IsPlain objects changes w → then_has v ≡ Some t → then_has w ≡ Some t → (r.v.number ≡ v.number) ⊎ (r.v.number ≡ v.number → ⊥)
        → (r.v.number ≡ w.number) ⊎ (r.v.number ≡ w.number → ⊥) → v.number ≡ w.number
    raised_apart v w t plain plain' is is' (inl same) (inl same') = sym same ∙ same'
    raised_apart v w t plain plain' is is' (inl same) (inr other) =
        absurd (entry_apart w plain' (sym (r.elsewhere w other) ∙ (is' ∙ (sym is ∙ r.here v same plain))))
    raised_apart v w t plain plain' is is' (inr other) (inl same) =
        absurd (entry_apart v plain (sym (r.elsewhere v other) ∙ (is ∙ (sym is' ∙ r.here w same plain'))))
    raised_apart v w t plain plain' is is' (inr other) (inr other') = of.apart v w t plain plain' (sym (r.elsewhere v other) ∙ is) (sym (r.elsewhere w other') ∙ is')

    raised : AreOfRaises objects changes (before ++ e ∷ [])
    raised = record {
      each = λ v plain. subst (λ xs. IsOfRaise objects changes (before ++ e ∷ []) v (raise_of v xs)) (sym r.raises) (raised_each v plain (cases_eq r.v.number v.number));
      apart = λ v w t plain plain' is is'. raised_apart v w t plain plain' is is' (cases_eq r.v.number v.number) (cases_eq r.v.number w.number);
      plain = stays_plain (λ t b told there. r.tells_none t told);
    }

  module _ (x : TellsExit objects changes before e) where
    -- what an exit is told as a traceback is a None, or what the exception has
    abbrev IsSorted : Type 0
    IsSorted = HasPayload objects x.t payload.None ⊎ (IsPlain objects changes x.u × IsTraceback objects x.t × (has x.u ≡ Some x.t))

    sorted : IsToldNone objects x.c x.u x.t ⊎ (IsPlain objects changes x.u × IsToldNow objects (has x.u) x.t) → IsSorted
    sorted (inl none) = inl none.2
    sorted (inr (plain, told)) = by (has x.u) refl told
      where
        by : (o : Option Obj) → has x.u ≡ o → IsToldNow objects o x.t → IsSorted
        by None is none = inl none
        by (Some t) is same =
            let here : has x.u ≡ Some x.t = is ∙ ap Some (sym same) in
            inr (plain, has_traceback objects changes before x.u x.t (raise_of x.u (raises_of before)) (of.each x.u plain) here, here)

    -- of the exception that it is told of, the traceback was told
    here_each : (v : Obj) → IsPlain objects changes v → x.u.number ≡ v.number → IsToldNone objects x.c x.u x.t ⊎ (IsPlain objects changes x.u × IsToldNow objects (has x.u) x.t)
        → (r : Option Raise) → IsOfRaise objects changes before v r → IsOfRaise objects changes (before ++ e ∷ []) v (option_map (with_told x.t) r)
    here_each v (b, there, bare) same (inl none) r of_raise = absurd (no_none_exception objects x.u b none.1 (subst (λ n. slice_get objects n ≡ Some (payload.Exception b)) (sym same) there))
    here_each v plain same (inr (plain', told)) None none = x.same v ∙ none
    here_each v plain same (inr (plain', told)) (Some y) of_raise = by y.traceback of_raise
      where
        has_same : has x.u ≡ has v
        has_same = ap (λ n. link_in link.Traceback (slice_get (store_at objects changes (length before)) n)) same

        told_it : (s : Obj) → has v ≡ Some s → IsTraceback objects s → (then_has v ≡ Some x.t) × IsTraceback objects x.t
        told_it s is traceback =
            let one : x.t ≡ s = subst (λ o. IsToldNow objects o x.t) (has_same ∙ is) told in
            (x.same v ∙ (is ∙ ap Some (sym one)), subst (λ (z : Obj). IsTraceback objects z) (sym one) traceback)

        by : (told : Option Obj) → IsOfTold objects changes before v told → (then_has v ≡ Some x.t) × IsTraceback objects x.t
        by None (s, is, traceback, unnamed) = told_it s is traceback
        by (Some s) (is, traceback) = told_it s is traceback

    -- no other exception has that
    untold : (v : Obj) → IsPlain objects changes v → (x.u.number ≡ v.number → ⊥) → IsSorted → (t : Obj) → IsTraceback objects t → has v ≡ Some t → TellsIt e t → ⊥
    untold v plain other (inl none) t traceback is told = no_none_traceback objects x.t none (subst (λ (z : Obj). IsTraceback objects z) (x.tells t told) traceback)
    untold v plain other (inr (plain', traceback', here)) t traceback is told = other (of.apart x.u v x.t plain' plain here (is ∙ ap Some (x.tells t told)))

    told_each : (v : Obj) → IsPlain objects changes v → (x.u.number ≡ v.number) ⊎ (x.u.number ≡ v.number → ⊥) → IsOfRaise objects changes (before ++ e ∷ []) v (raise_of v (with_traceback x.u x.t (raises_of before)))
    told_each v plain (inl same) =
        subst (IsOfRaise objects changes (before ++ e ∷ []) v) (sym (told_same v x.u x.t (raises_of before) same))
        (here_each v plain same x.told (raise_of v (raises_of before)) (of.each v plain))
    told_each v plain (inr other) =
        subst (IsOfRaise objects changes (before ++ e ∷ []) v) (sym (told_other v x.u x.t (raises_of before) other))
        (stays_of v (raise_of v (raises_of before)) (x.same v) (untold v plain other (sorted x.told)) (of.each v plain))

    -- what is told is no exception
    no_exception : IsSorted → (b : ExceptionBody) → HasPayload objects x.t (payload.Exception b) → ⊥
    no_exception (inl none) b there = no_none_exception objects x.t b none there
    no_exception (inr (plain, traceback, here)) b there = no_traceback_exception objects x.t b traceback there

    told : AreOfRaises objects changes (before ++ e ∷ [])
    told = record {
      each = λ v plain. subst (λ xs. IsOfRaise objects changes (before ++ e ∷ []) v (raise_of v xs)) (sym x.raises) (told_each v plain (cases_eq x.u.number v.number));
      apart = λ v w t plain plain' is is'. of.apart v w t plain plain' (sym (x.same v) ∙ is) (sym (x.same w) ∙ is');
      plain = stays_plain (λ t b told there. no_exception (sorted x.told) b (subst (λ (z : Obj). HasPayload objects z (payload.Exception b)) (x.tells t told) there));
    }

  -- so they are behind the event
  pub still_of_raises : Effect objects changes before e → AreOfRaises objects changes (before ++ e ∷ [])
  still_of_raises (inl l) = left l
  still_of_raises (inr (inl r)) = raised r
  still_of_raises (inr (inr x)) = told x
