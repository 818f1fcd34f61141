use Rattle.py_core.proofs.NamesLemmas.{spelled, raising_whole, answering_fails}
use Rattle.py_core.proofs.worked_names.worked_name_runs.Goals as goal

pub returns : goal.returns
returns c = record { spelled = spelled; raises = raising_whole; not_answered = answering_fails }
