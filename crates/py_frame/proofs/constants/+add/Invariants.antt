use Rattle.std.proofs.Common.{◌≡◌, take}
use Rattle.py_code.specs.Literals.{literals_of}
use Rattle.py_check.proofs.EarlierLemmas.{weight, weigh}
use Rattle.py_frame.specs.Added.{AddsConstants}
use Rattle.py_frame.specs.UnitSteps.{AreConstants}
use Rattle.py_frame.proofs.constants.+add.Given as goal

abbrev pub decreases-add : goal.decreases-add
decreases-add l = weight l.literal.now

abbrev pub decreases-add_items : goal.decreases-add_items
decreases-add_items l = weigh (literals_of l.literals.now)

abbrev pub invariant-add_items-loop-place : goal.invariant-add_items-loop-place
invariant-add_items-loop-place l = record {
  adds : AddsConstants l.fn.store.made l.store.made;
  others : l.store ≡ record l.fn.store { made = l.store.made };
  are : AreConstants l.store.made l.objects (take l.place (literals_of l.literals));
}
