use Rattle.py_exceptions.proofs.AcyclicLemmas.{contextualized_acyclic}
use Rattle.py_exceptions.proofs.laws.laws_of_links.Goals as goal

pub returns : goal.returns
returns c = record { acyclic = contextualized_acyclic }
