-- What is so of each text that is made from a seed, with at most 10,000 groups.
use Rattle.std.specs.Prelude.{ℕ, ◌≤◌, ◌^◌, length}
use Rattle.py_grammar.specs.Script.{SpellsSome}
use Rattle.py_make.specs.Made.{made_text, most_groups}

-- each is a script
abbrev pub AreScripts : Type 0
AreScripts = (seed count : ℕ) → count ≤ most_groups → SpellsSome (made_text seed count)

-- of at most 2^20 bytes
abbrev pub AreShort : Type 0
AreShort = (seed count : ℕ) → count ≤ most_groups → length (made_text seed count) ≤ 2 ^ 20
