-- A raw code keeps the rules or one of its units breaks one first, and its code does what it does.
use Rattle.std.proofs.Common.{◌≡◌, ◌⊎◌, ⊎_elim, inl, inr, ℕ, List, subst}
use Rattle.py_code.specs.declared.literal.Literal.{Literal}
use Rattle.py_check.specs.declared.annotated.Annotated.{Annotated}
use Rattle.py_check.specs.Sheet.{Sheet, sheet_of}
use Rattle.py_check.specs.Typing.{IsTyped}
use Rattle.py_check.specs.Breaking.{BreaksFirst}
use Rattle.py_check.proofs.BreakingLemmas.{none_breaks, one_breaks, some_breaks}
use Rattle.py_grammar.specs.declared.raw_block.RawBlock.{RawBlock}
use Rattle.py_grammar.specs.WellFormed.{IsWellCoded}
use Rattle.py_raw.specs.declared.earlier.Earlier.{Earlier}
use Rattle.py_raw.specs.RawSheet.{AreLiteralsOf, raw_sheet, KeepsRules, BreaksRule}
use Rattle.py_raw.specs.Assembled.{IsAssembled}
use Rattle.py_raw.proofs.LiteralLemmas.{literals_by, same_constants}
use Rattle.py_raw.proofs.ReadingLemmas.{breaks_alike}

-- ---- of what is assembled

pub keeps_assembled : (table : List (List ℕ)) (earlier : Earlier) (a : Annotated) (b : RawBlock) → IsAssembled table earlier.names a b
    → IsTyped earlier.shapes (sheet_of a) → KeepsRules earlier b
keeps_assembled table earlier a b is typed = (is.literals, is.are_literals, subst (IsTyped earlier.shapes) is.sheet typed)

pub breaks_assembled : (table : List (List ℕ)) (earlier : Earlier) (a : Annotated) (b : RawBlock) (at : ℕ) → IsAssembled table earlier.names a b
    → BreaksFirst earlier.shapes (sheet_of a) at → BreaksRule earlier b at
breaks_assembled table earlier a b at is breaks =
    (is.literals, is.are_literals, subst (λ (s : Sheet). BreaksFirst earlier.shapes s at) is.sheet breaks)

-- ---- of raw codes

-- what breaks first with some literals does with any others that are those of the constants
breaks_with : (earlier : Earlier) (b : RawBlock) (at : ℕ) (ks ls : List Literal) → AreLiteralsOf earlier.names b.consts ks
    → AreLiteralsOf earlier.names b.consts ls → BreaksFirst earlier.shapes (raw_sheet b ks) at → BreaksFirst earlier.shapes (raw_sheet b ls) at
breaks_with earlier b at ks ls are also = breaks_alike earlier.shapes (raw_sheet b ks) ls (same_constants earlier.names b.consts ls ks also are) at

pub keeps_not_breaks : (earlier : Earlier) (b : RawBlock) (at : ℕ) → KeepsRules earlier b → BreaksRule earlier b at → ⊥
keeps_not_breaks earlier b at (ks, are, typed) (ls, also, breaks) =
    none_breaks earlier.shapes (raw_sheet b ks) at typed (breaks_with earlier b at ls ks also are breaks)

pub one_rule_breaks : (earlier : Earlier) (b : RawBlock) (m n : ℕ) → BreaksRule earlier b m → BreaksRule earlier b n → m ≡ n
one_rule_breaks earlier b m n (ks, are, breaks) (ls, also, too) =
    one_breaks earlier.shapes (raw_sheet b ks) m n breaks (breaks_with earlier b n ls ks also are too)

pub keeps_or_breaks : (earlier : Earlier) (b : RawBlock) → IsWellCoded earlier.names b → KeepsRules earlier b ⊎ ((at : ℕ) × BreaksRule earlier b at)
keeps_or_breaks earlier b coded =
    let (ls, are) = literals_by earlier.names b.consts coded.consts in
    ⊎_elim (λ typed. inl (ls, are, typed)) (λ (at, breaks). inr (at, (ls, are, breaks))) (some_breaks earlier.shapes (raw_sheet b ls))
