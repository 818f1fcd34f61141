use Rattle.std.proofs.Common.{◌≡◌, ◌++◌, length}
use Rattle.py_lines.specs.PartFinding.{words_view}
use Rattle.py_lines.specs.Parts.{cut_at}
use Rattle.py_lines.proofs.piece.words_between.Given as goal

abbrev pub invariant-loop-front : goal.invariant-loop-front
invariant-loop-front l = words_view l.words.items ++ cut_at l.mark l.rest ≡ cut_at l.mark l.word

abbrev pub decreases-loop-front : goal.decreases-loop-front
decreases-loop-front l = length l.rest
