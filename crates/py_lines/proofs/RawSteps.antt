-- What readers of raw constants find, step by step.
use Rattle.std.proofs.Common.{◌≡◌, ◌≢◌, ◌<◌, ◌≤◌, ◌+◌, ℕ, List, [], ◌∷◌, ◌++◌, true, false, sym, ap, ◌∙◌, subst, length, drop, drop-drop, arith}
use Rattle.std.proofs.lemmas.List.{length-drop, drop_all}
use Rattle.py_lines.specs.declared.constant.RawAtom.{RawAtom}
use Rattle.py_lines.specs.declared.constant.RawConst.{RawConst}
use Rattle.py_lines.specs.declared.constant.RawConst.TheVariants as constant
use Rattle.py_lines.specs.Finding.{begins_closed}
use Rattle.py_lines.specs.Meaning.{Meaning, Open, Close}
use Rattle.py_lines.specs.RawFinding.{NoneBefore, IsBefore}
use Rattle.py_lines.specs.RawLines.{const_tokens, consts_tokens, raw_atom_token, tuple_tokens}
use Rattle.py_lines.proofs.Fronts.{below_end, closed_rest, not_closed}
use Rattle.py_lines.proofs.RawConsts.{items_tokens, items_more, items_end, no_tuple_behind, no_tuple_empty, consts_more, no_consts_behind}

-- ---- tuples

module _ (ts : List Meaning) (at : ℕ) (xs : List RawAtom) (is : ts ≡ items_tokens xs (drop at ts)) where
  pub tuple_end : begins_closed (drop at ts) ≡ true → IsBefore tuple_tokens ts xs (at + 1)
  tuple_end closes =
      let here : drop at ts ≡ Close ∷ drop (at + 1) ts = closed_rest (drop at ts) closes ∙ ap (λ us. Close ∷ us) (drop-drop 1 at ts) in
      (is ∙ ap (items_tokens xs) here ∙ items_end xs (drop (at + 1) ts), omega arith, omega (arith, below_end at ts Close _ here))

  -- neither an item nor the end
  no_tuple_rest : (rest : List Meaning) → begins_closed rest ≡ false → NoneBefore (λ a us. raw_atom_token a ∷ us) rest → NoneBefore tuple_tokens rest
  no_tuple_rest rest open_rest none [] us e = not_closed rest open_rest us e
  no_tuple_rest rest open_rest none (y ∷ ys) us e = none y _ e

  pub no_tuple_at : begins_closed (drop at ts) ≡ false → NoneBefore (λ a us. raw_atom_token a ∷ us) (drop at ts) → NoneBefore tuple_tokens ts
  no_tuple_at open_rest none = subst (NoneBefore tuple_tokens) (sym is) (no_tuple_behind xs (drop at ts) (no_tuple_rest (drop at ts) open_rest none))

  pub no_tuple_end : length ts ≤ at → NoneBefore tuple_tokens ts
  no_tuple_end past = subst (NoneBefore tuple_tokens) (sym is) (no_tuple_behind xs (drop at ts) (subst (NoneBefore tuple_tokens) (sym (drop_all at ts past)) no_tuple_empty))

  pub item_step : (a : RawAtom) (new : List RawAtom) → new ≡ xs ++ a ∷ [] → drop at ts ≡ raw_atom_token a ∷ drop 1 (drop at ts) → ts ≡ items_tokens new (drop (at + 1) ts)
  item_step a new grown here =
      is ∙ ap (items_tokens xs) (here ∙ ap (λ us. raw_atom_token a ∷ us) (drop-drop 1 at ts)) ∙ sym (items_more xs a (drop (at + 1) ts)) ∙ ap (λ ys. items_tokens ys (drop (at + 1) ts)) (sym grown)

-- ---- constants

pub tuple_before : (ts : List Meaning) (xs : List RawAtom) (n : ℕ) → IsBefore tuple_tokens ts xs n → IsBefore const_tokens (Open ∷ ts) (constant.Tuple xs) (n + 1)
tuple_before ts xs n (is, some, within) =
    let count : drop n ts ≡ drop (n + 1) (Open ∷ ts) = drop-drop n 1 (Open ∷ ts) ∙ ap (λ k. drop k (Open ∷ ts)) (omega arith) in
    (ap (λ us. Open ∷ us) is ∙ ap (λ us. Open ∷ tuple_tokens xs us) count, omega arith, omega (arith, within))

module _ (ts : List Meaning) (at : ℕ) (cs : List RawConst) (is : ts ≡ consts_tokens cs (drop at ts)) where
  pub const_step : (used : ℕ) (c : RawConst) (new : List RawConst) → new ≡ cs ++ c ∷ [] → at ≤ length ts → IsBefore const_tokens (drop at ts) c used
      → (at + used ≤ length ts) × (ts ≡ consts_tokens new (drop (at + used) ts))
  const_step used c new grown low (same, some, within) =
      let here : drop at ts ≡ const_tokens c (drop (at + used) ts) = same ∙ ap (const_tokens c) (drop-drop used at ts) in (
        omega (arith, low, within, length-drop at ts),
        is ∙ ap (consts_tokens cs) here ∙ sym (consts_more cs c (drop (at + used) ts)) ∙ ap (λ ds. consts_tokens ds (drop (at + used) ts)) (sym grown),
      )

  pub no_consts_at : at < length ts → NoneBefore const_tokens (drop at ts) → (ds : List RawConst) → ts ≢ consts_tokens ds []
  no_consts_at less none ds e = no_consts_behind cs (drop at ts) left none ds (sym is ∙ e)
    where
      left : drop at ts ≢ []
      left empty = let long : length (drop at ts) ≡ 0 = ap length empty in omega (arith, long, length-drop at ts, less)

  pub consts_end : length ts ≤ at → ts ≡ consts_tokens cs []
  consts_end past = is ∙ ap (consts_tokens cs) (drop_all at ts past)
