use Rattle.py_following.proofs.Complete.{runs_are_followed}
use Rattle.py_following.proofs.Following.{followed_are_runs}
use Rattle.py_following.proofs.laws.laws_of_following.Goals as goal

pub returns-clause-sound : goal.returns-clause-sound
returns-clause-sound c = followed_are_runs

pub returns-clause-complete : goal.returns-clause-complete
returns-clause-complete c = runs_are_followed
