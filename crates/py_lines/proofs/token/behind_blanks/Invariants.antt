use Rattle.std.proofs.Common.{◌≡◌, ◌≤◌, length}
use Rattle.py_lines.specs.Comments.{is_comment}
use Rattle.py_lines.specs.Tokens.{tokens_of}
use Rattle.py_lines.proofs.token.behind_blanks.Given as goal

abbrev pub invariant-loop-rest : goal.invariant-loop-rest
invariant-loop-rest l = (tokens_of l.rest ≡ tokens_of l.bytes) × (is_comment l.rest ≡ is_comment l.bytes) × (length l.rest ≤ length l.bytes)

abbrev pub decreases-loop-rest : goal.decreases-loop-rest
decreases-loop-rest l = length l.rest
