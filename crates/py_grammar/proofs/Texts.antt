-- The bytes of a script are UTF-8: so is each of its lines.
use Rattle.std.proofs.Common.{◌≡◌, ◌<◌, ℕ, zero, suc, List, [], ◌∷◌, ◌++◌, Bool, true, false, cond, Option, Some, None, refl, sym, ap, ◌∙◌, subst, append_assoc, append-nil, arith, Bor, Ok, Err}
use Rattle.std.specs.Prelude.{◌==◌, ◌&&◌, chars, Result, encode_utf8_all, option_map}
use Rattle.std.specs.List.{AllZip}
use Rattle.std.specs.Result.{MatchResult}
use Rattle.std.specs.Str.{IsAscii, IsUtf8, IsValidUpTo, valid_up_to}
use Rattle.std.specs.declared.str.Utf8Error.{Utf8Error}
use Rattle.std.proofs.lemmas.Bool.{and_parts, eqb-true}
use Rattle.std.proofs.lemmas.Str.{IsUtf8-append, IsUtf8-from_ascii, IsUtf8-nil, chars-encodes}
use Rattle.py_lines.specs.Line.{LineRead, Blank, Said, Malformed}
use Rattle.py_lines.specs.Laws.{ReadsText}
use Rattle.py_lines.specs.Reading.{IsReadAs}
use Rattle.py_grammar.specs.declared.script.Script.{Script}
use Rattle.py_grammar.specs.Grammar.{Row, row}
use Rattle.py_grammar.specs.Lines.{at_lf, in_first, lines}
use Rattle.py_grammar.specs.Script.{Text, IsScript, rows_from}

-- the characters of such bytes have them
pub encoded : (bytes : List ℕ) → IsUtf8 bytes → encode_utf8_all (chars bytes) ≡ bytes
encoded bytes (cs, (scalars, is)) = ap encode_utf8_all (ap chars (sym is) ∙ chars-encodes cs scalars) ∙ is

-- each of these is UTF-8
abbrev AreUtf8 : Text → Type 0
AreUtf8 [] = Unit {0}
AreUtf8 (l ∷ ls) = IsUtf8 l × AreUtf8 ls

-- lines behind the beginning of the first of them
abbrev begun : List ℕ → Text → Text
begun p [] = p ∷ []
begun p (l ∷ ls) = (p ++ l) ∷ ls

one_byte : (b : ℕ) → b < 128 → IsUtf8 (b ∷ [])
one_byte b low = IsUtf8-from_ascii (b ∷ []) only
  where
    only : IsAscii (b ∷ [])
    only zero = low
    only (suc i) = omega arith

same_begun : (b : ℕ) (p : List ℕ) (ls : Text) → begun p (in_first b ls) ≡ begun (p ++ b ∷ []) ls
same_begun b p [] = refl
same_begun b p (l ∷ ls) = ap (λ x. x ∷ ls) (sym (append_assoc p (b ∷ []) l))

nothing_begun : (ls : Text) → AreUtf8 ls → AreUtf8 (begun [] ls)
nothing_begun [] are = (IsUtf8-nil, tt)
nothing_begun (l ∷ ls) are = are

-- an LF ends a line that is empty
ended : (bs : List ℕ) → at_lf bs ≡ true → (ls : Text) × (lines bs ≡ [] ∷ ls)
ended [] h = absurd (cc h)
ended (b ∷ bs) h = (lines bs, ap (λ p. cond p ([] ∷ lines bs) (cond (at_lf bs && (b == 13)) (lines bs) (in_first b (lines bs)))) h)

-- so are bytes whose lines are
bytes_from : (bytes p : List ℕ) → AreUtf8 (begun p (lines bytes)) → IsUtf8 (p ++ bytes)
bytes_from [] p are = subst IsUtf8 (sym (append-nil p)) are.0
bytes_from (b ∷ bs) p are = go (b == 10) refl (at_lf bs && (b == 13)) refl are (bytes_from bs)
  where
    go : (x : Bool) → (b == 10) ≡ x → (y : Bool) → (at_lf bs && (b == 13)) ≡ y → AreUtf8 (begun p (cond x ([] ∷ lines bs) (cond y (lines bs) (in_first b (lines bs)))))
        → ((q : List ℕ) → AreUtf8 (begun q (lines bs)) → IsUtf8 (q ++ bs)) → IsUtf8 (p ++ b ∷ bs)
    go true e y f are more =
        let here : b ≡ 10 = eqb-true b 10 e in
        IsUtf8-append p (b ∷ bs) (subst IsUtf8 (append-nil p) are.0) (IsUtf8-append (b ∷ []) bs (one_byte b (omega (arith, here))) (more [] (nothing_begun (lines bs) are.1)))
    go false e true f are more =
        let (lf, cr) = and_parts (at_lf bs) (b == 13) f in
        let here : b ≡ 13 = eqb-true b 13 cr in
        let (ls, is) = ended bs lf in
        let behind : AreUtf8 (begun p ([] ∷ ls)) = subst (λ (ts : Text). AreUtf8 (begun p ts)) is are in
        IsUtf8-append p (b ∷ bs) (subst IsUtf8 (append-nil p) behind.0)
        (IsUtf8-append (b ∷ []) bs (one_byte b (omega (arith, here))) (more [] (subst (λ (ts : Text). AreUtf8 (begun [] ts)) (sym is) (IsUtf8-nil, behind.1))))
    go false e false f are more = subst IsUtf8 (append_assoc p (b ∷ []) bs) (more (p ++ b ∷ []) (subst AreUtf8 (same_begun b p (lines bs)) are))

-- lines that are all read
read_all : ReadsText → (text : Text) (reads : List LineRead) (n : ℕ) (rows : List Row) → AllZip IsReadAs text reads → rows_from n reads ≡ Some rows → AreUtf8 text
read_all law [] [] n rows are some = tt
read_all law (l ∷ text) (Malformed ∷ reads) n rows are some = absurd (cc some)
read_all law (l ∷ text) (Blank ∷ reads) n rows are some = (law l Blank are.0 (λ e. cc e), read_all law text reads (suc n) rows are.1 some)
read_all law (l ∷ text) (Said x ∷ reads) n rows are some =
    let (more, is) = behind (rows_from (suc n) reads) some in
    (law l (Said x) are.0 (λ e. cc e), read_all law text reads (suc n) more are.1 is)
  where
    behind : (o : Option (List Row)) → option_map (λ rs. row n x ∷ rs) o ≡ Some rows → (more : List Row) × (o ≡ Some more)
    behind None h = absurd (cc h)
    behind (Some more) h = (more, refl)
read_all law _ _ n rows are some = absurd are

pub script_is_utf8 : ReadsText → (bytes : List ℕ) (s : Script) → IsScript bytes s → IsUtf8 bytes
script_is_utf8 law bytes s is = bytes_from bytes [] (nothing_begun (lines bytes) (read_all law (lines bytes) is.reads 1 _ is.read is.spelled))

-- the library reads such bytes
pub is_read : (bytes : List ℕ) (r : Result (Bor (List ℕ)) Utf8Error) → MatchResult r (λ s. (s.now ≡ bytes) × IsUtf8 bytes) (λ e. ¬ (IsUtf8 bytes) × IsValidUpTo bytes (valid_up_to e)) → IsUtf8 bytes
    → ((s : Bor (List ℕ)) → r ≡ Ok s → ⊥) → ⊥
is_read bytes (Ok s) read text none = none s refl
is_read bytes (Err e) read text none = read.0 text
