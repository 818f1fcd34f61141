use Rattle.py_tree.specs.ExprViews.{exprs_of}
use Rattle.py_body.specs.Emitting.{scope_of}
use Rattle.py_body.proofs.StatementLemmas.{do_emits}
use Rattle.py_body.proofs.emitter.Emitter.compile_do.Goals as goal

pub returns-clause-code : goal.returns-clause-code
returns-clause-code c = do_emits c.args.self.now.labels (scope_of c.args.at.now.scope.now) c.args.at.now.line c.args.operator (exprs_of c.args.operands.now) c.in_ok-compile_operation.ensures.code c.in_ok-put_plain.ensures.code
