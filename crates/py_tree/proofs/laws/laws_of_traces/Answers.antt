use Rattle.py_tree.proofs.Carry.{traces_carry}
use Rattle.py_tree.proofs.laws.laws_of_traces.Goals as goal

pub returns : goal.returns
returns c = record { carry = traces_carry }
