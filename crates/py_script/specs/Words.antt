-- What the words of a command line ask for.
use Rattle.std.specs.Prelude.{ℕ, ◌≤◌, List, [], ◌∷◌, Option, Some, None, bytes_eq, codes, nat_le, if◌then◌else◌}
use Rattle.py_lines.specs.Words.{short_number}
use Rattle.py_make.specs.Made.{most_groups}
use Rattle.py_script.specs.declared.words.Command.{Command}
use Rattle.py_script.specs.declared.words.Command.TheVariants as command

-- a run of so many turns, where a word spells them
abbrev pub run_of : Option ℕ → Command
run_of (Some turns) = command.Run turns
run_of None = command.Usage

-- the script of a seed, with so many groups, where two words spell these numbers and there aren't too many
abbrev pub made_of : Option ℕ → Option ℕ → Command
made_of (Some seed) (Some count) = if nat_le count most_groups then command.Make seed count else command.Usage
made_of (Some seed) None = command.Usage
made_of None count = command.Usage

-- `run` alone, with the turns that it has then, or `run` with its turns; `make` with a seed and a count. Each number is digits of at most 64 bits. All
-- other words ask for nothing
abbrev pub command_in : List (List ℕ) → Command
command_in [] = command.Usage
command_in (word ∷ []) = if bytes_eq word (codes "run") then command.Run 1000000 else command.Usage
command_in (word ∷ turns ∷ []) = if bytes_eq word (codes "run") then run_of (short_number turns) else command.Usage
command_in (word ∷ seed ∷ count ∷ []) = if bytes_eq word (codes "make") then made_of (short_number seed) (short_number count) else command.Usage
command_in (word ∷ seed ∷ count ∷ next ∷ more) = command.Usage

-- a script that is asked for has few enough groups
abbrev pub HasFewGroups : Command → Type 0
HasFewGroups (command.Run turns) = Unit {0}
HasFewGroups (command.Make seed count) = count ≤ most_groups
HasFewGroups command.Usage = Unit {0}
