use Rattle.std.specs.Prelude.{◌≡◌, Err}
use Rattle.std.proofs.Common.{ap, ◌∙◌}
use Rattle.py_vm.specs.declared.fault.VmFault.TheVariants as vm_fault
use Rattle.py_script.proofs.Answering.{answered_cut_unwritten}
use Rattle.py_script.proofs.command.answer_of.Goals as goal

pub returns-in_err-write_text-in-Err-OutOfTurns-clause-answer :
    goal.returns-in_err-write_text-in-Err-OutOfTurns-clause-answer
returns-in_err-write_text-in-Err-OutOfTurns-clause-answer g c =
    let out : c.in-Ok.ran.1 ≡ Err vm_fault.OutOfTurns = c.in-Err-OutOfTurns.is ∙ ap Err (rw c.in-Err-OutOfTurns.is at c.in-Err-OutOfTurns.field-0-is) in
    answered_cut_unwritten _ _ (g.K.Sink.seen c.args.sink.now) (g.K.Sink.seen c.write_text-in-Err-OutOfTurns.new.sink) _ c.in_ok-script.script c.in-Ok.ran.0 c.in_err-write_text-in-Err-OutOfTurns.field-0.0 _
    c.from_residual-in_err-write_text-in-Err-OutOfTurns.ensures.1 c.in_ok-script.ensures.reading (rw out at c.in-Ok.ensures.ran) c.in_err-write_text-in-Err-OutOfTurns.ensures.writing
