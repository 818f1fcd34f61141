use Rattle.py_script.specs.Words.{command_in}
use Rattle.py_script.proofs.Statuses.{command_written_counts, ending_counts, ending_refuses, ending_runs}
use Rattle.py_script.proofs.Settled.{ending_settles}
use Rattle.py_script.proofs.command.run_command.Goals as goal

pub returns-clause-complete : goal.returns-clause-complete
returns-clause-complete g c = ending_runs _ _ c.args.words.now c.result_of-result.result c.result_of-result.ensures.ending

pub returns-clause-refused : goal.returns-clause-refused
returns-clause-refused g c = ending_refuses _ _ c.args.words.now c.result_of-result.result c.result_of-result.ensures.ending

pub returns-clause-settled : goal.returns-clause-settled
returns-clause-settled g c = ending_settles _ _ c.args.words.now c.result_of-result.result c.result_of-result.ensures.ending

pub returns-clause-read_fault : goal.returns-clause-read_fault
returns-clause-read_fault g c = ending_counts _ _ c.args.words.now c.result_of-result.result c.result_of-result.ensures.ending

pub returns-clause-write_fault : goal.returns-clause-write_fault
returns-clause-write_fault g c = command_written_counts _ _ (command_in c.args.words.now) _ _ c.result_of-result.result c.result_of-result.ensures.ending c.result_of-result.ensures.written
