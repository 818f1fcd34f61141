use Rattle.std.proofs.Common.{◌≡◌, ◌≤◌, ◌<◌, ◌-◌, length, take, drop, arith, ◌∙◌}
use Rattle.std.proofs.lemmas.Grind.{common_steps}
use Rattle.py_outside.proofs.Moves.{appended_more}
use Rattle.py_outside.proofs.writing.write_bytes.Goals as goal

pub loop-done-preserved : goal.loop-done-preserved
loop-done-preserved g c =
    let piece : length (take (length c.args.bytes.now - c.loop-done.done) (drop c.loop-done.done c.args.bytes.now)) ≡ length c.args.bytes.now - c.loop-done.done = grind (arith, common_steps) in
    let bound : c.in_ok-done.field-0 ≤ length c.args.bytes.now - c.loop-done.done = grind (arith, common_steps, c.in_ok-done.ensures.bound) in
    let more : 0 < length c.args.bytes.now - c.loop-done.done = omega arith in
    record {
      within = omega (arith, bound, c.loop-done.invariant.within);
      appended = appended_more _ _ _ _ _ _ c.loop-done.invariant.within bound c.loop-done.invariant.appended c.in_ok-done.ensures.bytes;
      later = omega (arith, c.loop-done.invariant.later, c.write.ensures.cause.later);
      same = λ sure. (c.write.ensures.sure (rw piece more) (rw piece (c.loop-done.invariant.sure sure))).same ∙ c.loop-done.invariant.same sure;
      sure = λ sure. omega (arith, c.loop-done.invariant.sure sure, c.in_ok-done.ensures.still);
    }
