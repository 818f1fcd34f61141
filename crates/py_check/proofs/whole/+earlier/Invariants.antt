use Rattle.std.proofs.Common.{◌≡◌, true, take}
use Rattle.std.specs.List.{list_all}
use Rattle.py_code.specs.Literals.{literals_of}
use Rattle.py_check.specs.Constants.{is_earlier}
use Rattle.py_check.proofs.EarlierLemmas.{weight, weigh}
use Rattle.py_check.proofs.whole.+earlier.Given as goal

abbrev pub decreases-are_earlier : goal.decreases-are_earlier
decreases-are_earlier l = weigh (literals_of l.constants.now)

abbrev pub decreases-is_earlier : goal.decreases-is_earlier
decreases-is_earlier l = weight l.literal.now

abbrev pub invariant-are_earlier-loop-place : goal.invariant-are_earlier-loop-place
invariant-are_earlier-loop-place l = list_all (is_earlier l.count) (take l.place (literals_of l.constants)) ≡ true
