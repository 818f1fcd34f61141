-- What follows from the rules, of raw codes.
use Rattle.std.specs.Prelude.{◌≡◌, ◌⊎◌, ℕ}
use Rattle.py_grammar.specs.declared.raw_block.RawBlock.{RawBlock}
use Rattle.py_grammar.specs.WellFormed.{IsWellCoded}
use Rattle.py_raw.specs.declared.earlier.Earlier.{Earlier}
use Rattle.py_raw.specs.RawSheet.{KeepsRules, BreaksRule}

-- a raw code that a script may have keeps the rules, or a unit breaks one first
abbrev pub KeepsOrBreaksRule : Type 0
KeepsOrBreaksRule =
    (earlier : Earlier) (b : RawBlock) → IsWellCoded earlier.names b → KeepsRules earlier b ⊎ ((at : ℕ) × BreaksRule earlier b at)

-- at most one unit is the first that breaks a rule
abbrev pub OneBreaksRule : Type 0
OneBreaksRule = (earlier : Earlier) (b : RawBlock) (m n : ℕ) → BreaksRule earlier b m → BreaksRule earlier b n → m ≡ n

-- in a raw code that keeps the rules no unit breaks one
abbrev pub NoneBreaksRule : Type 0
NoneBreaksRule = (earlier : Earlier) (b : RawBlock) (at : ℕ) → KeepsRules earlier b → BreaksRule earlier b at → ⊥
