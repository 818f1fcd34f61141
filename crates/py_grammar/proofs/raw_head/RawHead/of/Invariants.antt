use Rattle.std.proofs.Common.{◌≡◌}
use Rattle.py_grammar.specs.RawText.{head_of, with_lines}
use Rattle.py_grammar.proofs.raw_head.RawHead.of.Given as goal

-- what the lines that are left say with those that are gone
abbrev pub invariant-loop-line : goal.invariant-loop-line
invariant-loop-line l = with_lines l.rest.items l.head ≡ head_of l.fn.lines

abbrev pub decreases-loop-line : goal.decreases-loop-line
decreases-loop-line l = goal.left-loop-line l
