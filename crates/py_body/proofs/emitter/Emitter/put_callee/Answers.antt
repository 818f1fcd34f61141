use Rattle.std.proofs.Common.{arith}
use Rattle.py_body.specs.Emitting.{scope_of}
use Rattle.py_body.proofs.ExpressionLemmas.{over-add}
use Rattle.py_body.proofs.emitter.Emitter.put_callee.Goals as goal

pub returns-in_ok-load_literal-in-Some-clause-above : goal.returns-in_ok-load_literal-in-Some-clause-above
returns-in_ok-load_literal-in-Some-clause-above c = rw c.in-Some.is (over-add c.args.above 1 (scope_of c.args.at.now.scope.now), omega arith)
