use Rattle.py_make.specs.Made.{made_text}
use Rattle.made_runs.proofs.Runs.{are_core}
use Rattle.py_script.proofs.Summarized.{made_ends}
use Rattle.py_script.proofs.making.make.Goals as goal

pub returns-in-Ok-clause-ends : goal.returns-in-Ok-clause-ends
returns-in-Ok-clause-ends g c = made_ends (made_text c.args.seed c.args.count) c.in-Ok.journal _ (are_core c.args.seed c.args.count c.requires) c.in-Ok.ensures c.write_summary.ensures.run
