use Rattle.py_make.proofs.ScriptLemmas.{are_scripts}
use Rattle.py_make.proofs.LengthLemmas.{are_short}
use Rattle.py_make.proofs.laws.laws_of_made.Goals as goal

pub returns-clause-scripts : goal.returns-clause-scripts
returns-clause-scripts c = are_scripts

pub returns-clause-short : goal.returns-clause-short
returns-clause-short c = are_short
