use Rattle.std.proofs.Common.{◌≡◌, length}
use Rattle.py_grammar.specs.Rules.{all_differ}
use Rattle.py_grammar.proofs.rules.all_differ.Given as goal

abbrev pub invariant-loop-first : goal.invariant-loop-first
invariant-loop-first l = all_differ l.names ≡ all_differ l.rest

abbrev pub decreases-loop-first : goal.decreases-loop-first
decreases-loop-first l = length l.rest
