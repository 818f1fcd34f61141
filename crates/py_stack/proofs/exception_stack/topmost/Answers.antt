use Rattle.std.proofs.Common.{◌-◌, Some, length, take, arith, length-take}
use Rattle.std.specs.Prelude.{None}
use Rattle.py_stack.proofs.SlotsLemmas.{ends_in, topmost_last, topmost_lower}
use Rattle.py_stack.proofs.exception_stack.topmost.Goals as goal

pub returns-in-Some : goal.returns-in-Some
returns-in-Some c =
    let left = c.slots_left.left.now in
    c.slots_left.invariant.same (Some c.in-Some.exception)
    (topmost_last left (take (length left - 1) left) c.in-Some.exception (ends_in left _ c.in-len1-up.len_at_least c.in-Some.is))

pub slots_left-preserved : goal.slots_left-preserved
slots_left-preserved c =
    let left = c.slots_left.left.now in
    record {
      same = λ found top. c.slots_left.invariant.same found
          (topmost_lower left (take (length left - 1) left) found (ends_in left None c.in-len1-up.len_at_least c.in_default-slot.is) top);
      few = omega (arith, length-take (length left - 1) left);
    }
