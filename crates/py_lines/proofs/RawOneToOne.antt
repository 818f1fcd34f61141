-- That no two lines of raw codes print the same tokens.
use Rattle.std.proofs.Common.{◌≡◌, ◌≢◌, List, [], ◌∷◌, refl, sym, ap, ◌∙◌, bytes_eq, Some, None}
use Rattle.std.specs.Prelude.{Option}
use Rattle.std.specs.List.{find}
use Rattle.py_lines.specs.declared.flag.RawFlag.{RawFlag}
use Rattle.py_lines.specs.declared.flag.RawFlag.TheVariants as flag
use Rattle.py_lines.specs.declared.raw.RawLine.{RawLine}
use Rattle.py_lines.specs.declared.raw.RawLine.TheVariants as raw
use Rattle.py_lines.specs.Meaning.{Meaning, Key, Word}
use Rattle.py_lines.specs.RawLines.{flag_text, flag_token, raw_tokens}
use Rattle.py_lines.specs.Words.{is_byte, is_small}
use Rattle.py_lines.proofs.Alike.{same_all, same_names, other_word}
use Rattle.py_lines.proofs.Counts.{same_count}
use Rattle.py_lines.proofs.Instructions.{same_instruction}
use Rattle.py_lines.proofs.RawConsts.{one_consts}
use Rattle.py_lines.proofs.Units.{same_note}

-- the flag that prints a token
abbrev all_flags : List RawFlag
all_flags = flag.Gen ∷ flag.Coro ∷ flag.VarArgs ∷ flag.VarKw ∷ flag.NewLocals ∷ flag.Optimized ∷ []

abbrev token_flag : Meaning → Option RawFlag
token_flag (Key k) = Some flag.Gen
token_flag (Word w) = find (λ f. bytes_eq w (flag_text f)) all_flags
token_flag t = None

flag_back : (f : RawFlag) → token_flag (flag_token f) ≡ Some f
flag_back flag.Gen = refl
flag_back f = refl

same_flag : (f g : RawFlag) → flag_token f ≡ flag_token g → f ≡ g
same_flag f g e = let h : Some f ≡ Some g = sym (flag_back f) ∙ ap token_flag e ∙ flag_back g in cc h

-- a token that is no flag
pub no_flag : (t : Meaning) → token_flag t ≡ None → (f : RawFlag) → t ≢ flag_token f
no_flag t none f e = let h : None ≡ Some f = sym none ∙ ap token_flag e ∙ flag_back f in cc h

pub same_raw : (r s : RawLine) → raw_tokens r ≡ raw_tokens s → r ≡ s
same_raw (raw.Flags fs) (raw.Flags gs) e = ap raw.Flags (same_all flag_token same_flag fs gs (cc))
same_raw (raw.Counts p a k) (raw.Counts q b l) e =
    let h : p ≡ q = same_count is_small p q (cc) in
    let i : a ≡ b = same_count is_small a b (cc) in
    let j : k ≡ l = same_count is_small k l (cc) in
    cc
same_raw (raw.Vars xs) (raw.Vars ys) e = ap raw.Vars (same_names xs ys (cc))
same_raw (raw.Cells xs) (raw.Cells ys) e = ap raw.Cells (same_names xs ys (cc))
same_raw (raw.Frees xs) (raw.Frees ys) e = ap raw.Frees (same_names xs ys (cc))
same_raw (raw.Names xs) (raw.Names ys) e = ap raw.Names (same_names xs ys (cc))
same_raw (raw.Consts cs) (raw.Consts ds) e = ap raw.Consts (one_consts cs ds (cc))
same_raw (raw.Unit i a m) (raw.Unit j b n) e =
    let g : i ≡ j = same_instruction i j (cc) in
    let h : a ≡ b = same_count is_byte a b (cc) in
    let k : m ≡ n = same_note m n (cc) in
    cc
same_raw (raw.Depth m) (raw.Depth n) e = ap raw.Depth (same_count is_small m n (cc))
same_raw r s e = absurd (other_word _ _ refl _ _ e)
