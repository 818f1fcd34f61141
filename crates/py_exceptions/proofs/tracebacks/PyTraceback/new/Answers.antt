use Rattle.std.proofs.Common.{ap, ◌∙◌}
use Rattle.std.specs.Prelude.{Option}
use Rattle.py_objects.specs.declared.payload.Payload.TheVariants as payload
use Rattle.py_objects.specs.Objects.{Obj}
use Rattle.py_objects.specs.Growth.{with_object}
use Rattle.py_objects.proofs.GrownLemmas.{still_grown}
use Rattle.py_exceptions.proofs.TracebacksLemmas.{entry_grows}
use Rattle.py_exceptions.proofs.tracebacks.PyTraceback.new.Goals as goal

pub returns-in_err-entry-clause-grows : goal.returns-in_err-entry-clause-grows
returns-in_err-entry-clause-grows c = still_grown _ _ c.in_err-entry.ensures.err

pub returns-clause-grows : goal.returns-clause-grows
returns-clause-grows c =
    entry_grows c.args.store.now c.add.new.self c.args.next c.args.frame c.args.lasti c.args.lineno c.requires.next c.requires.frame
    (c.in_ok-entry.ensures.added
    ∙ ap (λ (t : Option Obj). with_object c.args.store.now (payload.Traceback (record { next = t; frame = c.args.frame; lasti = c.args.lasti; lineno = c.args.lineno }))) c.traceback_object.ensures)
