use Rattle.py_run.specs.Coming.{nothing}
use Rattle.py_run.proofs.PastLemmas.{past_is}
use Rattle.py_run.proofs.RunLemmas.{comes_front, comes_grow, comes_more, comes_on}
use Rattle.py_run.proofs.NestingLemmas.{nested}
use Rattle.py_run.proofs.CutLemmas.{cut_where_it_runs}
use Rattle.py_run.proofs.laws.laws_of_runs.Goals as goal

pub returns-clause-past : goal.returns-clause-past
returns-clause-past c = past_is

pub returns-clause-grow : goal.returns-clause-grow
returns-clause-grow c = λ plan objects objects' events grows comes. comes_grow plan objects objects' nothing events grows comes

pub returns-clause-more : goal.returns-clause-more
returns-clause-more c = λ plan more objects events comes. comes_more plan more objects events comes

pub returns-clause-on : goal.returns-clause-on
returns-clause-on c = λ plan objects events e comes may. comes_on plan objects nothing events e comes may

pub returns-clause-fronts : goal.returns-clause-fronts
returns-clause-fronts c = λ plan objects front more comes. comes_front plan objects nothing front more comes

pub returns-clause-nest : goal.returns-clause-nest
returns-clause-nest c = nested

pub returns-clause-cut : goal.returns-clause-cut
returns-clause-cut c = cut_where_it_runs
