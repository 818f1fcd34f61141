-- Reports that are worked by hand.
use Rattle.std.proofs.Common.{◌≡◌, ℕ, zero, suc, ◌<◌, ◌⊎◌, inl, inr, List, [], ◌∷◌, ◌++◌, Some, get_or, length, refl, sym, ap, ◌∙◌, arith}
use Rattle.std.specs.Prelude.{Option, None, chars, codes, decimal, slice_get}
use Rattle.std.proofs.lemmas.Fmt.{decimal_digit}
use Rattle.std.proofs.lemmas.Option.{same_Some}
use Rattle.std.proofs.lemmas.Str.{chars-encodes}
use Rattle.py_objects.specs.declared.edit.LinkField.TheVariants as link
use Rattle.py_objects.specs.Objects.{Obj}
use Rattle.py_exceptions.specs.Walks.{led, link_at, on_link}
use Rattle.py_exceptions.specs.Orders.{IsOrder}
use Rattle.py_reports.specs.Chains.{before_at}
use Rattle.py_reports.specs.Lines.{without_ends}
use Rattle.py_reports.specs.Reports.{IsReport}
use Rattle.py_reports.specs.SyntaxLines.{trimmed_line}
use Rattle.py_reports.specs.Worked.{after_its_cause, after_its_context, caused, caused_by_itself, first, followed, last, last_alone, misread, object, round, suppressed, traced, with_its_line, with_misread, with_traceback}
use Rattle.py_reports.proofs.ReportsLemmas.{one_report}

-- a walk that ends at once, or comes back at once
one_met : (step : Obj → Option Obj) (v : Obj) → (step v ≡ None) ⊎ (step v ≡ Some v) → IsOrder step v (v ∷ [])
one_met step v leads = record { along = along; once = λ i j p q same. omega arith; ends = ends leads; some = omega arith }
  where
    along : (i : ℕ) → i < length (v ∷ []) → slice_get (v ∷ []) i ≡ led step i v
    along zero low = refl
    along (suc i) low = absurd (omega arith)

    ends : (step v ≡ None) ⊎ (step v ≡ Some v) → (step v ≡ None) ⊎ ((j : ℕ) × (j < length (v ∷ [])) × (step v ≡ slice_get (v ∷ []) j))
    ends (inl none) = inl none
    ends (inr back) = inr (0, omega arith, back)

-- a walk to another object, from where it ends, or comes back
two_met : (step : Obj → Option Obj) (v w : Obj) → (v ≡ w → ⊥) → step v ≡ Some w → (step w ≡ None) ⊎ (step w ≡ Some v) → IsOrder step v (v ∷ w ∷ [])
two_met step v w apart leads on = record { along = along; once = once; ends = ends on; some = omega arith }
  where
    along : (i : ℕ) → i < length (v ∷ w ∷ []) → slice_get (v ∷ w ∷ []) i ≡ led step i v
    along zero low = refl
    along (suc zero) low = sym leads
    along (suc (suc i)) low = absurd (omega arith)

    once : (i j : ℕ) → i < length (v ∷ w ∷ []) → j < length (v ∷ w ∷ []) → slice_get (v ∷ w ∷ []) i ≡ slice_get (v ∷ w ∷ []) j → i ≡ j
    once zero zero p q same = refl
    once zero (suc zero) p q same = absurd (apart (same_Some v w same))
    once (suc zero) zero p q same = absurd (apart (sym (same_Some w v same)))
    once (suc zero) (suc zero) p q same = refl
    once (suc (suc i)) j p q same = absurd (omega arith)
    once i (suc (suc j)) p q same = absurd (omega arith)

    ends : (step w ≡ None) ⊎ (step w ≡ Some v)
        → (on_link step (step v) ≡ None) ⊎ ((j : ℕ) × (j < length (v ∷ w ∷ [])) × (on_link step (step v) ≡ slice_get (v ∷ w ∷ []) j))
    ends (inl none) = inl (ap (on_link step) leads ∙ none)
    ends (inr back) = inr (0, omega arith, ap (on_link step) leads ∙ back)

others : last ≡ first → ⊥
others same = let numbers : ◌≡◌ {A = ℕ} 7 6 = ap (λ (o : Obj). o.number) same in absurd (omega arith)

pub with_cause : IsReport caused last after_its_cause
unfolding lib.Utf8.encode
with_cause = (
  _,
  (last ∷ first ∷ [], two_met (before_at caused.objects) last first others refl (inl refl), refl),
  (_, _, ([], _, refl, (_, ([], refl, refl), refl), refl), (_, ([], refl, refl), refl), refl),
)

pub with_context : IsReport followed last after_its_context
unfolding lib.Utf8.encode
with_context = (
  _,
  (last ∷ first ∷ [], two_met (before_at followed.objects) last first others refl (inl refl), refl),
  (_, _, ([], _, refl, (_, ([], refl, refl), refl), refl), (_, ([], refl, refl), refl), refl),
)

pub round_and_round : IsReport round last after_its_context
unfolding lib.Utf8.encode
round_and_round = (
  _,
  (last ∷ first ∷ [], two_met (before_at round.objects) last first others refl (inr refl), refl),
  (_, _, ([], _, refl, (_, ([], refl, refl), refl), refl), (_, ([], refl, refl), refl), refl),
)

pub without_context : IsReport suppressed last last_alone
unfolding lib.Utf8.encode
without_context =
    (_, (last ∷ [], one_met (before_at suppressed.objects) last (inl refl), refl), ([], _, refl, (_, ([], refl, refl), refl), refl))

pub its_own_cause : IsReport caused_by_itself last last_alone
unfolding lib.Utf8.encode
its_own_cause =
    (_, (last ∷ [], one_met (before_at caused_by_itself.objects) last (inr refl), refl), ([], _, refl, (_, ([], refl, refl), refl), refl))

pub with_entry : IsReport traced last with_traceback
unfolding lib.Utf8.encode
with_entry = (
  _,
  (last ∷ [], one_met (before_at traced.objects) last (inl refl), refl),
  ([], _, refl, (_, (object 8 ∷ [], one_met (link_at link.Next traced.objects) (object 8) (inl refl), refl), refl), two),
)
  where
    two : with_traceback ≡ codes "Traceback (most recent call last):\n  File \"<script>\", line " ++ (((decimal 2 ++ codes ", in f\n    raise e\n") ++ []) ++ codes "ValueError: b\n")
    two =
        ap (λ (digits : List ℕ). codes "Traceback (most recent call last):\n  File \"<script>\", line " ++ (((digits ++ codes ", in f\n    raise e\n") ++ []) ++ codes "ValueError: b\n"))
        (sym (decimal_digit 2 (omega arith)))

pub shows_its_line : IsReport with_misread misread with_its_line
unfolding lib.Utf8.encode
shows_its_line = (
  _,
  (misread ∷ [], one_met (before_at with_misread.objects) misread (inl refl), refl),
  ([], _, refl, (_, ([], refl, refl), refl), lines),
)
  where
    -- the number of the line, and the characters of its text
    shown : List ℕ → List ℕ → List ℕ
    shown digits text =
        codes "  File \"f.py\", line " ++ (digits ++ codes "\n")
        ++ trimmed_line (without_ends text) 7 0 ++ codes "SyntaxError: invalid syntax\n"

    lines : with_its_line ≡ shown (decimal 3) (chars (codes "  x = = 1\n"))
    lines =
        ap (λ (digits : List ℕ). shown digits (codes "  x = = 1\n")) (sym (decimal_digit 3 (omega arith)))
        ∙ ap (shown (decimal 3)) (sym (chars-encodes (codes "  x = = 1\n") refl))

pub stops_early : IsReport caused last last_alone → ⊥
stops_early short =
    let same = one_report caused last after_its_cause last_alone with_cause short in
    let character : ◌≡◌ {A = ℕ} 97 98 = ap (λ (text : List ℕ). get_or text 12 0) same in
    absurd (omega arith)
