use Rattle.std.proofs.Common.{arith}
use Rattle.py_tree.specs.ExprViews.{expr_of}
use Rattle.py_tree.specs.Views.{suite_of}
use Rattle.py_body.proofs.SizeLemmas.{expr_most, suite_most}
use Rattle.py_body.proofs.emitter.Emitter.exit_label.Goals as goal

pub size_of_suite-size-requires : goal.size_of_suite-size-requires
size_of_suite-size-requires c =
    suite_most c.requires.fits.0 c.weights-weights.result c.args.self.now.labels c.args.self.now.others c.requires.fits.1 (suite_of c.args.suite.now) c.weights-weights.ensures c.requires.low.0 c.requires.low.1
    c.requires.fits.2
    (omega (arith, c.requires.few))

pub size_of_expr-value-requires : goal.size_of_expr-value-requires
size_of_expr-value-requires c =
    expr_most c.weights-weights.result c.args.self.now.labels c.args.self.now.others (expr_of c.args.expr.now) c.weights-weights.ensures c.requires.low.0 c.requires.low.1 (omega (arith, c.requires.few))
