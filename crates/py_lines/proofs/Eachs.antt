-- Lists of findings, one token after another, as a loop goes over the tokens.
use Rattle.std.proofs.Common.{◌≡◌, ◌≢◌, ◌<◌, ◌+◌, ℕ, suc, zero, List, [], ◌∷◌, ◌++◌, Some, None, sym, ap, ◌∙◌, subst, length, take, map, get_or, arith}
use Rattle.std.specs.Prelude.{Option}
use Rattle.std.proofs.lemmas.List.{map-append}
use Rattle.std.proofs.lemmas.Grind.{take_at_read}
use Rattle.py_lines.specs.Finding.{Prints}

module _ {A T X : Type 0} (view : A → T) (printing : X → T) where
  -- one more token that prints one more finding
  pub push_at : (toks : List A) (i : ℕ) (d : A) (xs new : List X) (x : X) (r : Option X) → i < length toks → map view (take i toks) ≡ map printing xs
      → r ≡ Some x → Prints printing (view (get_or toks i d)) r → new ≡ xs ++ x ∷ [] → map view (take (i + 1) toks) ≡ map printing new
  push_at toks i d xs new x r low h is found grown =
      let k : view (get_or toks i d) ≡ printing x = subst (Prints printing (view (get_or toks i d))) is found in
      ap (map view) ((take_at_read toks i d low).1) ∙ map-append view (take i toks) (get_or toks i d ∷ []) ∙ ap (λ l. l ++ view (get_or toks i d) ∷ []) h ∙ ap (λ t. map printing xs ++ t ∷ []) k
      ∙ sym (map-append printing xs (x ∷ [])) ∙ ap (map printing) (sym grown)

  not_all : (toks : List A) (i : ℕ) (d : A) → i < length toks → ((x : X) → view (get_or toks i d) ≢ printing x) → (xs : List X) → map view toks ≢ map printing xs
  not_all [] i d low none xs e = absurd (omega arith)
  not_all (t ∷ toks) i d low none [] e = cc
  not_all (t ∷ toks) zero d low none (x ∷ xs) e = none x (cc)
  not_all (t ∷ toks) (suc i) d low none (x ∷ xs) e = not_all toks i d (omega arith) none xs (cc)

  -- a token that no finding prints
  pub none_at : (toks : List A) (i : ℕ) (d : A) (r : Option X) → i < length toks → r ≡ None → Prints printing (view (get_or toks i d)) r → (xs : List X) → map view toks ≢ map printing xs
  none_at toks i d r low is found = not_all toks i d low (subst (Prints printing (view (get_or toks i d))) is found)
