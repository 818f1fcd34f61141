-- How words are cut at a byte, and what their pieces mean.
use Rattle.std.proofs.Common.{◌≡◌, ◌<◌, ◌≤◌, ◌+◌, ℕ, suc, zero, List, [], ◌∷◌, ◌++◌, Bool, true, false, Some, None, refl, sym, ap, ◌∙◌, length, take, drop, take_all, map, get_or, arith, length-drop, one-add}
use Rattle.std.specs.Prelude.{◌==◌, Option, option_map}
use Rattle.std.specs.List.{prefix_len}
use Rattle.std.proofs.lemmas.Grind.{take_at_read}
use Rattle.std.proofs.lemmas.List.{drop_all, map-append}
use Rattle.std.proofs.lemmas.List.Sums.{prefix_len-le-length}
use Rattle.py_lines.specs.PartFinding.{is_other}
use Rattle.py_lines.specs.Parts.{cut_at, onto_first, each, one_more}

pub other_within : (mark : ℕ) (bs : List ℕ) → prefix_len (is_other mark) bs ≤ length bs
other_within mark bs = prefix_len-le-length (is_other mark) bs

-- ---- one cut

-- the words behind the first cut
abbrev after : ℕ → List ℕ → List (List ℕ)
after mark [] = []
after mark (b ∷ bs) = cut_at mark bs

abbrev first_len : ℕ → List ℕ → ℕ
first_len mark w = prefix_len (is_other mark) w

more_front : (mark b : ℕ) (bs : List ℕ) → (b == mark) ≡ false → first_len mark (b ∷ bs) ≡ suc (first_len mark bs)
more_front mark b bs e = rw e (one-add _)

no_front : (mark b : ℕ) (bs : List ℕ) → (b == mark) ≡ true → first_len mark (b ∷ bs) ≡ 0
no_front mark b bs e = rw e refl

cut_here : (mark b : ℕ) (bs : List ℕ) → (b == mark) ≡ true → cut_at mark (b ∷ bs) ≡ [] ∷ cut_at mark bs
cut_here mark b bs e = rw e refl

cut_later : (mark b : ℕ) (bs : List ℕ) → (b == mark) ≡ false → cut_at mark (b ∷ bs) ≡ onto_first b (cut_at mark bs)
cut_later mark b bs e = rw e refl

abbrev parted : ℕ → List ℕ → ℕ → List (List ℕ)
parted mark w n = take n w ∷ after mark (drop n w)

cut_front : (mark : ℕ) (w : List ℕ) → cut_at mark w ≡ parted mark w (first_len mark w)
cut_front mark [] = refl
cut_front mark (b ∷ bs) = go (b == mark) refl (cut_front mark bs)
  where
    go : (p : Bool) → (b == mark) ≡ p → cut_at mark bs ≡ parted mark bs (first_len mark bs) → cut_at mark (b ∷ bs) ≡ parted mark (b ∷ bs) (first_len mark (b ∷ bs))
    go true e ih = cut_here mark b bs e ∙ sym (ap (parted mark (b ∷ bs)) (no_front mark b bs e))
    go false e ih = cut_later mark b bs e ∙ ap (onto_first b) ih ∙ sym (ap (parted mark (b ∷ bs)) (more_front mark b bs e))

pub cut_none : (mark n : ℕ) (w rest : List ℕ) → n ≡ first_len mark w → rest ≡ drop n w → length rest ≡ 0 → cut_at mark w ≡ w ∷ []
cut_none mark n w rest is back none =
    let past : length w ≤ n = omega (arith, ap length back, none, length-drop n w) in
    cut_front mark w ∙ ap (parted mark w) (sym is) ∙ ap (λ bs. take n w ∷ after mark bs) (drop_all n w past) ∙ ap (λ f. f ∷ []) (take_all n w past)

pub cut_some : (mark n b : ℕ) (w front rest behind : List ℕ) → n ≡ first_len mark w → front ≡ take n w → rest ≡ drop n w → rest ≡ b ∷ behind
    → (cut_at mark w ≡ front ∷ cut_at mark behind) × (length behind < length w)
cut_some mark n b w front rest behind is first back cut =
    let here : drop n w ≡ b ∷ behind = sym back ∙ cut in (
      cut_front mark w ∙ ap (parted mark w) (sym is) ∙ ap (λ bs. take n w ∷ after mark bs) here ∙ ap (λ f. f ∷ cut_at mark behind) (sym first),
      omega (arith, ap length here, length-drop n w),
    )

-- ---- what each of some words means

abbrev with_last : {X : Type 0} → Option (List X) → Option X → Option (List X)
with_last (Some xs) (Some x) = Some (xs ++ x ∷ [])
with_last xs x = None

last_more : {X : Type 0} (o : Option X) (xs : Option (List X)) (x : Option X) → one_more o (with_last xs x) ≡ with_last (one_more o xs) x
last_more (Some y) (Some xs) (Some x) = refl
last_more (Some y) (Some xs) None = refl
last_more (Some y) None (Some x) = refl
last_more (Some y) None None = refl
last_more None (Some xs) (Some x) = refl
last_more None (Some xs) None = refl
last_more None None (Some x) = refl
last_more None None None = refl

no_more : {X : Type 0} (x : Option X) → one_more x (Some []) ≡ with_last (Some []) x
no_more (Some x) = refl
no_more None = refl

each_last : {X : Type 0} (f : List ℕ → Option X) (ws : List (List ℕ)) (w : List ℕ) → each f (ws ++ w ∷ []) ≡ with_last (each f ws) (f w)
each_last f [] w = no_more (f w)
each_last f (v ∷ ws) w = ap (one_more (f v)) (each_last f ws w) ∙ last_more (f v) (each f ws) (f w)

none_before : {X : Type 0} (x : Option X) → one_more x None ≡ None
none_before (Some x) = refl
none_before None = refl

module _ {A X Y : Type 0} (view : A → List ℕ) (f : List ℕ → Option X) (shown : Y → X) where
  -- one more word that means something
  pub push_each : (toks : List A) (i : ℕ) (d : A) (ys new : List Y) (y : Y) (r : Option Y) → i < length toks → Some (map shown ys) ≡ each f (map view (take i toks)) → r ≡ Some y
      → option_map shown r ≡ f (view (get_or toks i d)) → new ≡ ys ++ y ∷ [] → Some (map shown new) ≡ each f (map view (take (i + 1) toks))
  push_each toks i d ys new y r low h is means grown =
      let here : Some (shown y) ≡ f (view (get_or toks i d)) = sym (ap (option_map shown) is) ∙ means in
      ap (λ zs. Some (map shown zs)) grown ∙ ap Some (map-append shown ys (y ∷ [])) ∙ ap (λ o. with_last o (Some (shown y))) h
      ∙ ap (with_last (each f (map view (take i toks)))) here ∙ sym (each_last f (map view (take i toks)) (view (get_or toks i d)))
      ∙ ap (each f) (sym (ap (map view) ((take_at_read toks i d low).1) ∙ map-append view (take i toks) (get_or toks i d ∷ [])))

  none_of : (toks : List A) (i : ℕ) (d : A) → i < length toks → None ≡ f (view (get_or toks i d)) → None ≡ each f (map view toks)
  none_of [] i d low none = absurd (omega (arith, low))
  none_of (t ∷ toks) zero d low none = ap (λ o. one_more o (each f (map view toks))) none
  none_of (t ∷ toks) (suc i) d low none = sym (none_before (f (view t))) ∙ ap (one_more (f (view t))) (none_of toks i d (omega (arith, low)) none)

  -- one that means nothing
  pub none_each : (toks : List A) (i : ℕ) (d : A) (r : Option Y) → i < length toks → r ≡ None → option_map shown r ≡ f (view (get_or toks i d)) → None ≡ each f (map view toks)
  none_each toks i d r low is means = none_of toks i d low (sym (ap (option_map shown) is) ∙ means)
