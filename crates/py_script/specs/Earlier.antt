-- What later codes of a script read of earlier ones: the names, which constants give, and how many free names each has, which the rules
-- ask.
use Rattle.std.specs.Prelude.{ℕ, List, length, map, take}
use Rattle.py_grammar.specs.Grammar.{Coded, OfBody, OfRaw, coded_name}
use Rattle.py_raw.specs.declared.earlier.Earlier.{Earlier}

-- how many free names a code has: that of a body has none so far
abbrev pub free_names : Coded → ℕ
free_names (OfBody t) = 0
free_names (OfRaw b) = length b.frees

-- their names and how many free names each has
abbrev pub earlier_of : List Coded → Earlier
earlier_of coded = record { names = map coded_name coded; shapes = map free_names coded }

-- those of the codes before a place
abbrev pub earlier_before : List Coded → ℕ → Earlier
earlier_before coded i = earlier_of (take i coded)
