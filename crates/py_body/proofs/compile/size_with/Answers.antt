use Rattle.std.proofs.Common.{false, add-one}
use Rattle.py_tree.specs.Views.{suite_of}
use Rattle.py_body.proofs.SizeLemmas.{suite_most}
use Rattle.py_body.proofs.compile.size_with.Goals as goal

pub size_of_suite-requires : goal.size_of_suite-requires
size_of_suite-requires c =
    suite_most c.requires.fits.0 _ c.args.labels c.args.others false (suite_of c.args.suite.now) (λ k. record { jump = add-one c.args.labels k; index = add-one c.args.others k; plain = 1 }) c.requires.low.0
    c.requires.low.1 c.requires.fits.1
    c.requires.few
