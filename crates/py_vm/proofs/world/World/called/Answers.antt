use Rattle.py_vm.proofs.CallsLemmas.{refused_course, entered_course}
use Rattle.py_vm.proofs.world.World.called.Goals as goal

pub returns-in_ok-raised-in-Some-clause-course : goal.returns-in_ok-raised-in-Some-clause-course
returns-in_ok-raised-in-Some-clause-course c =
    refused_course _ c.args.self.now.store c.raised.new.self.store c.args.callee c.args.args.now c.in-Some.fault _ (rw (c.len.ensures, c.in-Some.is) at c.in_ok-fault.ensures)
    c.in_ok-raised-in-Some.ensures.given

pub returns-in_ok-copy-in-None-clause-course : goal.returns-in_ok-copy-in-None-clause-course
returns-in_ok-copy-in-None-clause-course c =
    entered_course _ c.args.self.now.store c.args.callee c.args.args.now _ (rw (c.len.ensures, c.in-None.is) at c.in_ok-fault.ensures) c.in_ok-copy-in-None.ensures
