use Rattle.std.proofs.Common.{◌≡◌, ℕ, suc, ◌+◌, ◌-◌, List, true, refl, sym, ◌∙◌, slice_get, arith}
use Rattle.py_code.specs.declared.unit.CodeUnit.{CodeUnit}
use Rattle.py_check.specs.Operands.{prefixes, is_prefix_there}
use Rattle.py_check.proofs.operands.prefixes.Goals as goal

-- a prefix is one more
one_more : (units : List CodeUnit) (n m : ℕ) → n ≡ suc m → is_prefix_there (slice_get units m) ≡ true → prefixes units n ≡ prefixes units m + 1
one_more units n m is prefix = rw (is, prefix) refl

pub count-preserved : goal.count-preserved
count-preserved c =
    let place : c.args.at - 1 - c.count.count ≡ c.args.at - (c.count.count + 1) = omega arith in
    let before : c.args.at - c.count.count ≡ suc (c.args.at - 1 - c.count.count) = omega (arith, c.count-test.true) in
    let more = one_more c.args.units.now (c.args.at - c.count.count) (c.args.at - 1 - c.count.count) before (sym c.is_prefix_there.ensures ∙ c.if-is_prefix_there.true) in
    (omega (arith, c.count-test.true), rw (← place) (omega (arith, more, c.count.invariant.1)))
