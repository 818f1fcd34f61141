use Rattle.py_tree.proofs.Exprs.{operation_of}
use Rattle.worked_host.proofs.function.operation.Goals as goal

pub returns : goal.returns
returns c = operation_of c.args.operator c.args.operands
