use Rattle.std.proofs.Common.{◌∙◌, ap, sym, arith, add-one, Some}
use Rattle.py_objects.specs.Edits.{objects_of}
use Rattle.py_exceptions.specs.Walks.{link_at, on_link}
use Rattle.py_exceptions.proofs.WalksLemmas.{none_left, one_more, same_object}
use Rattle.py_exceptions.proofs.LinksLemmas.{spent}
use Rattle.py_exceptions.proofs.links.first_to.Goals as goal

pub returns-in_err-next : goal.returns-in_err-next
returns-in_err-next c =
    rw c.from_residual.ensures
    (none_left (link_at c.args.field (objects_of c.args.store.now)) c.args.from c.args.to c.loop-step.at c.loop-step._step
    c.loop-step.invariant.here (sym c.link.ensures ∙ c.in_err-next.was) c.loop-step.invariant.none)

pub returns-then-next-to : goal.returns-then-next-to
returns-then-next-to c = (
  c.loop-step._step,
  c.loop-step.invariant.here,
  sym c.link.ensures ∙ c.in_ok-next.was ∙ ap Some (same_object c.in_ok-next.next c.args.to c.if-next-to.true),
  c.loop-step.invariant.none,
)

pub loop-step-preserved : goal.loop-step-preserved
loop-step-preserved c =
    let on = sym c.link.ensures ∙ c.in_ok-next.was in
    record {
      here = rw add-one (ap (on_link (link_at c.args.field (objects_of c.args.store.now))) c.loop-step.invariant.here ∙ on);
      none = λ m lt.
          one_more (link_at c.args.field (objects_of c.args.store.now)) c.args.from c.args.to c.loop-step.at c.in_ok-next.next c.loop-step._step
          c.loop-step.invariant.here on c.if-next-to.false c.loop-step.invariant.none m (omega arith);
    }

pub returns : goal.returns
returns c =
    spent c.args.store.now c.args.field c.args.from c.args.to c.loop-step._step c.len-step-end.result
    c.loop-step-test.false c.len-step-end.ensures c.loop-step.invariant.none
