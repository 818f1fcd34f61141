use Rattle.std.proofs.Common.{◌≡◌, suc, arith}
use Rattle.py_check.proofs.operands.op_right_before.Goals as goal

pub returns-in-Some : goal.returns-in-Some
returns-in-Some c =
    let before : c.args.at ≡ suc c.in-Some.before = omega (arith, c.in-Some.ensures) in
    rw (before) c.op_at.ensures
