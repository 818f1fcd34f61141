use Rattle.std.proofs.Common.{length}
use Rattle.py_reports.specs.Inside.{step_at}
use Rattle.py_reports.proofs.WalkLemmas.{absent_by, found_by, met_order, numbers_seen, one_more_met, smaller, step_within}
use Rattle.py_reports.proofs.order.order.Goals as goal

pub returns-then-not-is_new : goal.returns-then-not-is_new
returns-then-not-is_new c =
    met_order (step_at c.args.way c.args.objects.now) c.args.from c.walk.met c.walk.next c.in-Some.object c.walk.seen.keys c.in-Some.is c.walk.invariant.seen c.walk.invariant.walked
    (found_by _ _ c.in_ok-is_new.ensures.added c.if-not-is_new.true)

pub walk-smaller : goal.walk-smaller
walk-smaller c =
    smaller (step_at c.args.way c.args.objects.now) c.args.from (length c.args.objects.now) (step_within c.args.way c.args.objects.now) c.walk.met c.walk.next c.in-Some.object c.in-Some.is
    c.walk.invariant.walked c.push.new.self c.in_ok-push.ensures.added

pub walk-preserved : goal.walk-preserved
walk-preserved c =
    let absent = absent_by _ _ c.in_ok-is_new.ensures.added c.if-not-is_new.false in
    record {
      walked = one_more_met (step_at c.args.way c.args.objects.now) c.args.from c.walk.met c.push.new.self c.walk.next c.follow-next.result c.in-Some.object c.walk.seen.keys c.in-Some.is
          c.walk.invariant.seen c.in_ok-push.ensures.added c.follow-next.ensures absent c.walk.invariant.walked;
      seen = numbers_seen c.walk.met c.push.new.self c.walk.seen.keys c.insert.new.self.keys c.in-Some.object c.walk.invariant.seen c.in_ok-push.ensures.added c.in_ok-is_new.ensures.keys absent;
    }
