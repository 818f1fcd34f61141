use Rattle.py_meaning.proofs.ComparedLemmas.{no_other_answer, no_other_order, no_other_identity}
use Rattle.py_meaning.proofs.compared.worked_runs.Goals as goal

pub returns : goal.returns
returns c = record { no_other_answer = no_other_answer; no_other_order = no_other_order; no_other_identity = no_other_identity }
