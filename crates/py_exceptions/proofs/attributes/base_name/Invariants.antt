use Rattle.std.proofs.Common.{◌≡◌, cond, length}
use Rattle.py_exceptions.specs.Repr.{has}
use Rattle.py_exceptions.specs.Said.{base_name}
use Rattle.py_exceptions.proofs.attributes.base_name.Given as goal

abbrev pub invariant-loop-c : goal.invariant-loop-c
invariant-loop-c l = base_name l.path ≡ cond (has 47 l.rest) (base_name l.rest) l.name

abbrev pub decreases-loop-c : goal.decreases-loop-c
decreases-loop-c l = length l.rest
