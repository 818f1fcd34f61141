use Rattle.std.proofs.Common.{ap, sym, ◌∙◌}
use Rattle.py_objects.specs.Edits.{store_at}
use Rattle.py_objects.proofs.DueLemmas.{none_made, all_left, order_more, one_made, later_more}
use Rattle.py_objects.proofs.due.make_due.Goals as goal

pub returns-then-change-event-clause-made : goal.returns-then-change-event-clause-made
returns-then-change-event-clause-made c =
    let at = c.loop-change.invariant in
    sym (none_made c.args.event c.in-Some.change.now _ _ c.in-Some.ensures.cases.0 at.order c.loop-change.payloads c.if-change-event.true) ∙ at.made

pub returns-then-change-event-clause-left : goal.returns-then-change-event-clause-left
returns-then-change-event-clause-left c =
    let at = c.loop-change.invariant in
    sym (all_left c.args.event c.in-Some.change.now _ _ c.in-Some.ensures.cases.0 at.order c.if-change-event.true) ∙ at.left

pub loop-change-preserved : goal.loop-change-preserved
loop-change-preserved c =
    let at = c.loop-change.invariant in
    let first = c.in-Some.ensures.cases.0 in
    let k = c.args.event in
    let change = c.in-Some.change.now in
    let low = c.if-change-event.false in
    record {
      order = order_more k change _ _ first at.order;
      made = ap (λ objects. store_at objects c.in-Some.more.now k) c.in_ok-edit_where_it_fits.ensures ∙ (sym (one_made k change _ _ first at.order c.loop-change.payloads low) ∙ at.made);
      left = sym (later_more k change _ _ first at.order low) ∙ at.left;
    }
