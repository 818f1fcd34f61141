-- What line of a raw code is not found among tokens, from what is not found among those behind its word.
use Rattle.std.proofs.Common.{◌≡◌, ◌≢◌, ℕ, List, [], ◌∷◌, None, refl, map}
use Rattle.std.specs.Prelude.{Option, codes}
use Rattle.py_lines.specs.declared.constant.RawConst.{RawConst}
use Rattle.py_code.specs.declared.instruction.Instruction.{Instruction}
use Rattle.py_lines.specs.declared.unit.RawNote.{RawNote}
use Rattle.py_lines.specs.declared.flag.RawFlag.{RawFlag}
use Rattle.py_lines.specs.declared.raw.RawLine.{RawLine}
use Rattle.py_lines.specs.declared.raw.RawLine.TheVariants as raw
use Rattle.py_lines.specs.Finding.{Prints}
use Rattle.py_lines.specs.Meaning.{Meaning, Word}
use Rattle.py_lines.specs.RawLines.{byte_token, consts_tokens, counts_tokens, flag_token, note_tokens, raw_tokens, small_token, unit_tokens}
use Rattle.py_lines.proofs.Alike.{other_word}
use Rattle.py_lines.proofs.Finds.{none_prints}

pub no_flags : (ts : List Meaning) (r : Option (List RawFlag)) → r ≡ None → Prints (map flag_token) ts r → (l : RawLine) → Word (codes "flags") ∷ ts ≢ raw_tokens l
no_flags ts r is found (raw.Flags fs) e = none_prints (map flag_token) ts r is found fs (cc)
no_flags ts r is found l e = other_word _ _ refl _ _ e

pub no_counts : (ts : List Meaning) (r : Option (ℕ × ℕ × ℕ)) → r ≡ None → Prints counts_tokens ts r
    → (l : RawLine) → Word (codes "counts") ∷ ts ≢ raw_tokens l
no_counts ts r is found (raw.Counts p a k) e = none_prints counts_tokens ts r is found (p, a, k) (cc)
no_counts ts r is found l e = other_word _ _ refl _ _ e

pub no_consts : (ts : List Meaning) (r : Option (List RawConst)) → r ≡ None → Prints (λ cs. consts_tokens cs []) ts r → (l : RawLine) → Word (codes "consts") ∷ ts ≢ raw_tokens l
no_consts ts r is found (raw.Consts cs) e = none_prints (λ cs. consts_tokens cs []) ts r is found cs (cc)
no_consts ts r is found l e = other_word _ _ refl _ _ e

pub no_unit : (ts : List Meaning) (r : Option (Instruction × ℕ × RawNote)) → r ≡ None → Prints unit_tokens ts r
    → (l : RawLine) → Word (codes "u") ∷ ts ≢ raw_tokens l
no_unit ts r is found (raw.Unit i a n) e = none_prints unit_tokens ts r is found (i, a, n) (cc)
no_unit ts r is found l e = other_word _ _ refl _ _ e

-- an instruction with no argument and note behind it
pub no_whole_unit : (t : Meaning) (ts all : List Meaning) (r : Option (ℕ × RawNote)) → all ≡ t ∷ ts → r ≡ None → Prints (λ p. byte_token p.0 ∷ note_tokens p.1) ts r
    → (x : Instruction × ℕ × RawNote) → all ≢ unit_tokens x
no_whole_unit t ts all r cut is found x e = none_prints (λ p. byte_token p.0 ∷ note_tokens p.1) ts r is found (x.1, x.2) (cc)

-- a number with no two behind it is not the first of three
pub no_three_smalls : (t : Meaning) (ts all : List Meaning) (r : Option (ℕ × ℕ)) → all ≡ t ∷ ts → r ≡ None → Prints (λ p. small_token p.0 ∷ small_token p.1 ∷ []) ts r
    → (x : ℕ × ℕ × ℕ) → all ≢ counts_tokens x
no_three_smalls t ts all r cut is found x e = none_prints (λ p. small_token p.0 ∷ small_token p.1 ∷ []) ts r is found (x.1, x.2) (cc)
