use Rattle.std.proofs.Common.{◌≡◌, ◌++◌, length, map}
use Rattle.py_lines.specs.Tokens.{tokens_of}
use Rattle.py_lines.specs.Meaning.{meaning}
use Rattle.py_lines.specs.Senses.{meaning_of}
use Rattle.py_lines.proofs.meaning.meanings_of.Given as goal

abbrev pub invariant-loop-token : goal.invariant-loop-token
invariant-loop-token l = map meaning_of l.meanings.items ++ map meaning (tokens_of l.rest) ≡ map meaning (tokens_of l.line)

abbrev pub decreases-loop-token : goal.decreases-loop-token
decreases-loop-token l = length l.rest
