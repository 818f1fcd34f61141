use Rattle.std.proofs.Common.{sym}
use Rattle.py_objects.proofs.DueLemmas.{none_made, all_left}
use Rattle.py_script.specs.Writing.{latest}
use Rattle.py_script.proofs.journal.go_on.Goals as goal

pub returns-then-first-event-clause-made : goal.returns-then-first-event-clause-made
returns-then-first-event-clause-made c =
    sym (none_made c.args.event c.in-Some.first.now _ _ c.in-Some.ensures.cases.0 c.requires (latest c.args.made.now c.args.changed.now) c.if-first-event.true)

pub returns-then-first-event-clause-left : goal.returns-then-first-event-clause-left
returns-then-first-event-clause-left c = sym (all_left c.args.event c.in-Some.first.now _ _ c.in-Some.ensures.cases.0 c.requires c.if-first-event.true)
