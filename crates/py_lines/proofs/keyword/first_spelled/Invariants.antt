use Rattle.std.proofs.Common.{◌≡◌, bytes_eq, length}
use Rattle.std.specs.List.{find}
use Rattle.py_lines.specs.Keywords.{keyword_text}
use Rattle.py_lines.proofs.keyword.first_spelled.Given as goal

abbrev pub invariant-loop-first : goal.invariant-loop-first
invariant-loop-first l = find (λ k. bytes_eq l.word (keyword_text k)) l.rest ≡ find (λ k. bytes_eq l.word (keyword_text k)) l.keywords

abbrev pub decreases-loop-first : goal.decreases-loop-first
decreases-loop-first l = length l.rest
