use Rattle.std.proofs.Common.{◌∙◌, ap, sym, add-one, arith, Some}
use Rattle.py_objects.specs.Edits.{objects_of}
use Rattle.py_exceptions.specs.Nexts.{next_at}
use Rattle.py_exceptions.specs.Walks.{on_link}
use Rattle.py_exceptions.proofs.OrdersLemmas.{last_is_met, never_met, not_met}
use Rattle.py_exceptions.proofs.WalksLemmas.{same_object}
use Rattle.py_exceptions.proofs.traceback_iter.is_met.Goals as goal

pub returns-then-at-object : goal.returns-then-at-object
returns-then-at-object c =
    (c.loop-step._step, omega arith, c.loop-step.invariant.here ∙ ap Some (same_object c.loop-step.at c.args.object c.if-at-object.true))

pub returns-in_default : goal.returns-in_default
returns-in_default c = λ j le.
    never_met (next_at (objects_of c.args.store.now)) c.args.from c.loop-step._step c.loop-step.at c.args.object c.loop-step.invariant.here (sym c.link.ensures ∙ c.in_default.is)
    c.if-at-object.false c.loop-step.invariant.none j

pub loop-step-preserved : goal.loop-step-preserved
loop-step-preserved c = record {
  here = rw add-one (ap (on_link (next_at (objects_of c.args.store.now))) c.loop-step.invariant.here ∙ sym c.link.ensures ∙ c.in-Some.is);
  none = λ j lt.
      not_met (next_at (objects_of c.args.store.now)) c.args.from c.loop-step._step c.loop-step.at c.args.object c.loop-step.invariant.here c.if-at-object.false
      c.loop-step.invariant.none j (omega arith);
}

pub returns : goal.returns
returns c =
    last_is_met (next_at (objects_of c.args.store.now)) c.args.from c.args.links c.loop-step._step c.loop-step.at c.args.object (omega arith) c.loop-step.invariant.here
    c.loop-step.invariant.none
