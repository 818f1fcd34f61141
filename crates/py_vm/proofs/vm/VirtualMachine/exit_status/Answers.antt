use Rattle.std.proofs.Common.{List, sym, ap, ◌∙◌}
use Rattle.py_objects.specs.declared.payload.Payload.{Payload}
use Rattle.py_objects.specs.Edits.{objects_of}
use Rattle.py_run.specs.Exits.{exit_of, status_of}
use Rattle.py_vm.specs.declared.machinery.Core.{Core}
use Rattle.py_vm.proofs.ReportingLemmas.{objects_are}
use Rattle.py_vm.proofs.vm.VirtualMachine.exit_status.Goals as goal

pub returns : goal.returns
returns c = rw (← c.self.view_is)
    (λ works. c.status.ensures ∙ ap status_of (c.of.ensures ∙ ap (λ (l : List Payload). exit_of l c.args.exc)
    (c.objects.ensures ∙ ap (λ (m : Core). objects_of m.world.store) c.deref.ensures ∙ sym (objects_are c.self.inside.core.value (c.self.invariant works)))))
