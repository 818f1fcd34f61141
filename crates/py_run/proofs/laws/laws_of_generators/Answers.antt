use Rattle.py_run.proofs.GeneratorsLemmas.{generators_kept}
use Rattle.py_run.proofs.laws.laws_of_generators.Goals as goal

pub returns-clause-keeps : goal.returns-clause-keeps
returns-clause-keeps c = generators_kept
