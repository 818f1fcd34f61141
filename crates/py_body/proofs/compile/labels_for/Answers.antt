use Rattle.std.proofs.Common.{◌+◌, arith}
use Rattle.py_tree.specs.Views.{suite_of}
use Rattle.py_body.proofs.SizeLemmas.{body_fits, wider}
use Rattle.py_body.proofs.compile.labels_for.Goals as goal

pub returns-then-width_for-labels-clause-room : goal.returns-then-width_for-labels-clause-room
returns-then-width_for-labels-clause-room c =
    let fits = wider c.width_for.result c.loop-labels.labels (c.size_with-size.result + 1) c.if-width_for-labels.true c.loop-labels.invariant c.width_for.ensures.room in
    omega (arith, fits, c.size_with-size.ensures.size)

pub returns-clause-room : goal.returns-clause-room
returns-clause-room c = body_fits c.requires.fits.0 c.args.others (suite_of c.args.suite.now) c.requires.others c.requires.fits.1 c.requires.few
