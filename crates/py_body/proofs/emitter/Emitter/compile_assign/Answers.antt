use Rattle.py_tree.specs.ExprViews.{expr_of}
use Rattle.py_body.specs.Emitting.{scope_of}
use Rattle.py_body.proofs.StatementLemmas.{assign_emits}
use Rattle.py_body.proofs.emitter.Emitter.compile_assign.Goals as goal

pub returns-clause-code : goal.returns-clause-code
returns-clause-code c = assign_emits c.args.self.now.labels (scope_of c.args.at.now.scope.now) c.args.at.now.line c.args.name.now (expr_of c.args.expr.now) c.in_ok-compile_expr.ensures.code c.in_ok-put_local.ensures.code
