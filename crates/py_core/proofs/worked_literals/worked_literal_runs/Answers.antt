use Rattle.std.proofs.Common.{refl}
use Rattle.py_meaning.specs.Worked.{object}
use Rattle.py_core.proofs.LiteralsLemmas.{literals_spelled, value_spelled, literals_whole, value_whole, value_fails}
use Rattle.py_core.proofs.worked_literals.worked_literal_runs.Goals as goal

pub returns : goal.returns
returns c = record {
  literals_spelled = literals_spelled;
  value_spelled = value_spelled;
  two_objects = literals_whole (object 4) (object 5) refl refl;
  one_object = literals_whole (object 4) (object 4) refl refl;
  one_value_is_one = value_whole (object 4) refl;
  or_the_other = value_whole (object 5) refl;
  one_value_is_not_two = value_fails;
}
