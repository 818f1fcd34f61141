use Rattle.py_script.proofs.Broken.{none_broken, one_broken, scripts_keep_or_break, some_is_broken}
use Rattle.py_script.proofs.laws.laws_of_refusals.Goals as goal

pub returns : goal.returns
returns c = record { some = some_is_broken; scripts = scripts_keep_or_break; never_both = none_broken; one = one_broken }
