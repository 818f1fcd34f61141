-- The text that a word in quotes spells.
use Rattle.std.proofs.Common.{◌≡◌, ◌≢◌, ℕ, List, [], ◌∷◌, ◌++◌, Bool, true, false, Some, None, refl, sym, ap, ◌∙◌}
use Rattle.std.specs.Prelude.{◌==◌, ◌&&◌, if◌then◌else◌, Option, option_map}
use Rattle.std.specs.List.{list_all}
use Rattle.std.proofs.Math.Bool.{and-true}
use Rattle.std.proofs.lemmas.Bool.{eq-eqb, ne_eqb}
use Rattle.py_lines.specs.Words.{stands_in_text, closed_text, quoted_text}

-- one more byte in front, where it may stand there
abbrev grown : ℕ → Bool → Option (List ℕ) → Option (List ℕ)
grown b p text = if p then option_map (λ cs. b ∷ cs) text else None

closed_more : (b : ℕ) (text : List ℕ) (last : ℕ) → closed_text (b ∷ (text ++ last ∷ [])) ≡ grown b (stands_in_text b) (closed_text (text ++ last ∷ []))
closed_more b [] last = refl
closed_more b (c ∷ text) last = refl

-- a text up to its last byte
closed_last : (text : List ℕ) (last : ℕ) → closed_text (text ++ last ∷ []) ≡ (if (last == 39) && list_all stands_in_text text then Some text else None)
closed_last [] last = ap (λ q. if q then Some [] else None) (sym (and-true (last == 39)))
closed_last (b ∷ text) last = closed_more b text last ∙ (ap (grown b (stands_in_text b)) (closed_last text last) ∙ go (stands_in_text b) (last == 39) (list_all stands_in_text text))
  where
    go : (p q r : Bool) → grown b p (if q && r then Some text else None) ≡ (if q && (p && r) then Some (b ∷ text) else None)
    go true true true = refl
    go true true false = refl
    go true false r = refl
    go false true r = refl
    go false false r = refl

-- the same for a word that the program has split
module _ (word rest text : List ℕ) (first last : ℕ) (w : word ≡ first ∷ rest) (f : first ≡ 39) (r : rest ≡ text ++ last ∷ []) where
  quoted_split : quoted_text word ≡ (if (last == 39) && list_all stands_in_text text then Some text else None)
  quoted_split = ap quoted_text (w ∙ ap (λ b. b ∷ rest) f) ∙ (ap closed_text r ∙ closed_last text last)

  pub quoted_yes : last ≡ 39 → list_all stands_in_text text ≡ true → Some text ≡ quoted_text word
  quoted_yes l all = sym (quoted_split ∙ rw (eq-eqb last 39 l, all) refl)

  pub quoted_open : last ≢ 39 → None ≡ quoted_text word
  quoted_open l = sym (quoted_split ∙ rw (ne_eqb last 39 l) refl)

  pub quoted_no : last ≡ 39 → list_all stands_in_text text ≡ false → None ≡ quoted_text word
  quoted_no l all = sym (quoted_split ∙ rw (eq-eqb last 39 l, all) refl)
