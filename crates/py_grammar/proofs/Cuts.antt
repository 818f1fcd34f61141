-- How the first line is cut off.
use Rattle.std.proofs.Common.{◌≡◌, ◌<◌, ℕ, suc, List, [], ◌∷◌, ◌++◌, Bool, true, false, cond, refl, sym, ap, ◌∙◌, length, take, drop, arith, length-drop, one-add}
use Rattle.std.specs.Prelude.{◌==◌}
use Rattle.std.specs.List.{prefix_len}
use Rattle.py_grammar.specs.Lines.{lines, in_first}
use Rattle.py_grammar.specs.Pieces.{is_within, without_cr}

-- what stands behind the first LF, with the line before it
abbrev pub cut : List ℕ → List ℕ → List (List ℕ)
cut line [] = line ∷ []
cut line (b ∷ more) = without_cr line ∷ lines more

in_first_cut : (b c : ℕ) (line rest : List ℕ) → in_first b (cut (c ∷ line) rest) ≡ cut (b ∷ c ∷ line) rest
in_first_cut b c line [] = refl
in_first_cut b c line (d ∷ more) = refl

in_first_end : (b : ℕ) (more : List ℕ) (p : Bool) → (b == 13) ≡ p → cond p ([] ∷ lines more) ((b ∷ []) ∷ lines more) ≡ cond p [] (b ∷ []) ∷ lines more
in_first_end b more true h = refl
in_first_end b more false h = refl

-- the lines of bytes are cut at the first LF
pub cut_first : (b : ℕ) (bs : List ℕ) → lines (b ∷ bs) ≡ cut (take (prefix_len is_within (b ∷ bs)) (b ∷ bs)) (drop (prefix_len is_within (b ∷ bs)) (b ∷ bs))
cut_first b [] = go (b == 10) refl
  where
    go : (p : Bool) → (b == 10) ≡ p → lines (b ∷ []) ≡ cut (take (prefix_len is_within (b ∷ [])) (b ∷ [])) (drop (prefix_len is_within (b ∷ [])) (b ∷ []))
    go true h = rw h refl
    go false h = rw h refl
cut_first b (c ∷ cs) = go (b == 10) refl (c == 10) refl (cut_first c cs)
  where
    step : (b == 10) ≡ false → (c == 10) ≡ false → lines (b ∷ c ∷ cs) ≡ in_first b (lines (c ∷ cs))
    step h k = rw (h, k) refl

    size : (x : ℕ) (xs : List ℕ) → (x == 10) ≡ false → prefix_len is_within (x ∷ xs) ≡ suc (prefix_len is_within xs)
    size x xs k = rw k (one-add _)

    go : (p : Bool) → (b == 10) ≡ p → (q : Bool) → (c == 10) ≡ q
        → lines (c ∷ cs) ≡ cut (take (prefix_len is_within (c ∷ cs)) (c ∷ cs)) (drop (prefix_len is_within (c ∷ cs)) (c ∷ cs))
        → lines (b ∷ c ∷ cs) ≡ cut (take (prefix_len is_within (b ∷ c ∷ cs)) (b ∷ c ∷ cs)) (drop (prefix_len is_within (b ∷ c ∷ cs)) (b ∷ c ∷ cs))
    go true h q k ih = rw h refl
    go false h true k ih = rw (h, k) (in_first_end b cs (b == 13) refl)
    go false h false k ih =
        step h k ∙ ap (in_first b) (ih ∙ ap (λ n. cut (take n (c ∷ cs)) (drop n (c ∷ cs))) (size c cs k)) ∙ in_first_cut b c (take (prefix_len is_within cs) cs) (drop (prefix_len is_within cs) cs)
        ∙ sym (ap (λ n. cut (take n (b ∷ c ∷ cs)) (drop n (b ∷ c ∷ cs))) (size b (c ∷ cs) h ∙ ap suc (size c cs k)))

-- a line that ends with another byte stays
chop_no : (x : ℕ) (front : List ℕ) → (x == 13) ≡ false → without_cr (front ++ x ∷ []) ≡ front ++ x ∷ []
chop_no x [] h = rw h refl
chop_no x (b ∷ []) h = ap (λ y. b ∷ y) (chop_no x [] h)
chop_no x (b ∷ c ∷ front) h = ap (λ y. b ∷ y) (chop_no x (c ∷ front) h)

-- a CR at the end goes
pub chop_yes : (front : List ℕ) → without_cr (front ++ 13 ∷ []) ≡ front
chop_yes [] = refl
chop_yes (b ∷ []) = refl
chop_yes (b ∷ c ∷ front) = ap (λ y. b ∷ y) (chop_yes (c ∷ front))

-- the same for the last byte that the program has split off
pub chopped_yes : (line front : List ℕ) (x : ℕ) → line ≡ front ++ x ∷ [] → x ≡ 13 → front ≡ without_cr line
chopped_yes line front x e h = sym (ap without_cr (e ∙ ap (λ y. front ++ y ∷ []) h) ∙ chop_yes front)

pub chopped_no : (line front : List ℕ) (x : ℕ) → line ≡ front ++ x ∷ [] → (x == 13) ≡ false → line ≡ without_cr line
chopped_no line front x e h = e ∙ sym (ap without_cr e ∙ chop_no x front h)

pub chopped_none : (line : List ℕ) → length line ≡ 0 → line ≡ without_cr line
chopped_none [] e = refl
chopped_none (b ∷ bs) e = absurd (omega (arith, e))

-- the cut, for the front and the rest that the program has split off
pub cut_line : (bytes line more : List ℕ) (n : ℕ) → n ≡ prefix_len is_within bytes → line ≡ take n bytes → more ≡ drop n bytes → (length bytes ≡ 0 → ⊥)
    → lines bytes ≡ cut line more
cut_line [] line more n e f g h = absurd (h refl)
cut_line (b ∷ bs) line more n e f g h =
    cut_first b bs ∙ ap (λ k. cut (take k (b ∷ bs)) (drop k (b ∷ bs))) (sym e) ∙ ap (λ l. cut l (drop n (b ∷ bs))) (sym f) ∙ ap (cut line) (sym g)

-- the last line, which no LF ends
pub cut_end : (bytes line more : List ℕ) (n : ℕ) → n ≡ prefix_len is_within bytes → line ≡ take n bytes → more ≡ drop n bytes → (length bytes ≡ 0 → ⊥)
    → length more ≡ 0
    → (lines bytes ≡ line ∷ lines more) × (length more < length bytes)
cut_end bytes line [] n e f g h k = (cut_line bytes line [] n e f g h, size bytes h)
  where
    size : (bs : List ℕ) → (length bs ≡ 0 → ⊥) → length {A = ℕ} [] < length bs
    size [] q = absurd (q refl)
    size (b ∷ bs) q = omega arith
cut_end bytes line (b ∷ bs) n e f g h k = absurd (omega (arith, k))

-- a line that an LF ends
pub cut_lf : (bytes line more rest chop : List ℕ) (x n : ℕ) → n ≡ prefix_len is_within bytes → line ≡ take n bytes → more ≡ drop n bytes
    → (length bytes ≡ 0 → ⊥) → more ≡ x ∷ rest → chop ≡ without_cr line
    → (lines bytes ≡ chop ∷ lines rest) × (length rest < length bytes)
cut_lf bytes line more rest chop x n e f g h k m = (
  cut_line bytes line more n e f g h ∙ ap (cut line) k ∙ ap (λ l. l ∷ lines rest) (sym m),
  omega (arith, ap length k, ap length g, length-drop n bytes),
)
