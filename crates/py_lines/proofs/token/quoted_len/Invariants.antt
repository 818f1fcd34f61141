use Rattle.std.proofs.Common.{◌≡◌, ◌+◌, length}
use Rattle.py_lines.specs.Pieces.{quoted_len}
use Rattle.py_lines.proofs.token.quoted_len.Given as goal

abbrev pub invariant-loop-first : goal.invariant-loop-first
invariant-loop-first l = (l.before + quoted_len l.rest ≡ quoted_len l.bytes) × (l.before + length l.rest ≡ length l.bytes)

abbrev pub decreases-loop-first : goal.decreases-loop-first
decreases-loop-first l = length l.rest
