use Rattle.py_places.proofs.Folding.{decided}
use Rattle.py_places.proofs.laws.laws_of_places.Goals as goal

pub returns : goal.returns
returns c = record { decided = decided }
