-- The answers to the laws: each text that is made has a whole run, and no raw code and no report.
use Rattle.made_runs.proofs.Runs.{have_runs, are_core}
use Rattle.made_runs.proofs.laws.laws_of_made_runs.Goals as goal

pub returns : goal.returns
returns c = record { runs = have_runs; core = are_core }
