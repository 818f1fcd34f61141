-- A text in UTF-8, one character more.
use Rattle.std.proofs.Common.{◌≡◌, ◌<◌, ◌+◌, ℕ, List, [], ◌∷◌, ◌++◌, true, refl, sym, ap, ◌∙◌, length, take, get_or, append-nil, append_assoc}
use Rattle.std.specs.Prelude.{encode_utf8, encode_utf8_all}
use Rattle.std.specs.Char.{IsScalar}
use Rattle.std.proofs.Math.Utf8.{scalars}
use Rattle.std.proofs.lemmas.Bool.{and_from, and_parts}
use Rattle.std.proofs.lemmas.List.{take_more}
use Rattle.std.proofs.lemmas.Str.{encodes-append}

-- one more character
encode_more : (text : List ℕ) (i c : ℕ) → i < length text → c ≡ get_or text i c → encode_utf8_all (take (i + 1) text) ≡ encode_utf8_all (take i text) ++ encode_utf8 c
encode_more text i c low is =
    ap encode_utf8_all (take_more text i c low ∙ ap (λ (d : ℕ). take i text ++ d ∷ []) (sym is))
    ∙ encodes-append (take i text) (c ∷ []) ∙ ap (λ (bs : List ℕ). encode_utf8_all (take i text) ++ bs) (append-nil (encode_utf8 c))

-- the same behind bytes that were there
pub spelled_more : (before now next : List ℕ) (text : List ℕ) (i c : ℕ) → i < length text → c ≡ get_or text i c
    → now ≡ before ++ encode_utf8_all (take i text) → next ≡ now ++ encode_utf8 c → next ≡ before ++ encode_utf8_all (take (i + 1) text)
spelled_more before now next text i c low is spelled one =
    one ∙ ap (λ (bs : List ℕ). bs ++ encode_utf8 c) spelled ∙ append_assoc before (encode_utf8_all (take i text)) (encode_utf8 c)
    ∙ ap (λ (bs : List ℕ). before ++ bs) (sym (encode_more text i c low is))

scalars-last : (xs : List ℕ) (c : ℕ) → scalars xs ≡ true → IsScalar c → scalars (xs ++ c ∷ []) ≡ true
scalars-last [] c all one = and_from _ _ one refl
scalars-last (x ∷ xs) c all one = and_from _ _ (and_parts _ _ all).0 (scalars-last xs c (and_parts _ _ all).1 one)

pub scalars_more : (text : List ℕ) (i c : ℕ) → i < length text → c ≡ get_or text i c → scalars (take i text) ≡ true → IsScalar c → scalars (take (i + 1) text) ≡ true
scalars_more text i c low is all one = rw (take_more text i c low, ← is) (scalars-last (take i text) c all one)
