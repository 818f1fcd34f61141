use Rattle.py_script.proofs.Statuses.{answer_counts, answer_refuses, answer_runs, written_counts}
use Rattle.py_script.proofs.Settled.{answer_settles}
use Rattle.py_script.specs.Steps.{result_in}
use Rattle.py_script.proofs.command.run_script.Goals as goal

pub returns-clause-complete : goal.returns-clause-complete
returns-clause-complete g c = answer_runs _ _ c.args.turns c.answer_of.result c.answer_of.ensures.answer

pub returns-clause-refused : goal.returns-clause-refused
returns-clause-refused g c = answer_refuses _ _ c.args.turns c.answer_of.result c.answer_of.ensures.answer

pub returns-clause-settled : goal.returns-clause-settled
returns-clause-settled g c = answer_settles _ _ c.args.turns c.answer_of.result c.answer_of.ensures.answer

pub returns-clause-read_fault : goal.returns-clause-read_fault
returns-clause-read_fault g c = answer_counts _ _ c.args.turns c.answer_of.result c.answer_of.ensures.answer

pub returns-clause-write_fault : goal.returns-clause-write_fault
returns-clause-write_fault g c = written_counts _ _ (result_in c.answer_of.result) c.answer_of.ensures.written
