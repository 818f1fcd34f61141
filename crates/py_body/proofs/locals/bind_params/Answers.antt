use Rattle.std.proofs.Common.{List, ap, ◌∙◌}
use Rattle.py_tree.specs.Tree.{Name}
use Rattle.py_tree.specs.Binding.{bound}
use Rattle.py_body.proofs.Parameters.{param_more}
use Rattle.py_body.proofs.locals.bind_params.Goals as goal

pub loop-param-preserved : goal.loop-param-preserved
loop-param-preserved c =
    c.in_ok-bind.ensures ∙ ap (λ (names : List Name). bound names c.param-item.result) c.loop-param.invariant
    ∙ param_more c.args.params.now c.loop-param.param-index c.param-item.result c.requires.differ c.loop-param-test.true c.param-item.is
