use Rattle.std.proofs.Common.{false, arith}
use Rattle.py_tree.specs.Views.{suite_of}
use Rattle.py_body.specs.Sizes.{counted}
use Rattle.py_body.proofs.SizeLemmas.{suite_size}
use Rattle.py_body.proofs.compile.others_for.Goals as goal

pub size_of_suite-used-requires : goal.size_of_suite-used-requires
size_of_suite-used-requires c =
    let most = suite_size c.requires.fits.0 counted (record { jump = omega arith; index = omega arith; plain = omega arith }) false (suite_of c.args.suite.now) c.requires.fits.1 in
    omega (arith, most, c.requires.few)
