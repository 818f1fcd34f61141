use Rattle.py_tree.specs.ExprViews.{expr_of}
use Rattle.py_body.specs.Emitting.{scope_of}
use Rattle.py_body.proofs.StatementLemmas.{taken_emits}
use Rattle.py_body.proofs.emitter.Emitter.compile_taken.Goals as goal

pub returns-clause-code : goal.returns-clause-code
returns-clause-code c = taken_emits (scope_of c.args.at.now.scope.now) c.args.at.now.line (expr_of c.args.expr.now) c.args.op c.args.arg c.in_ok-compile_expr.ensures.code c.in_ok-put_plain.ensures.code
