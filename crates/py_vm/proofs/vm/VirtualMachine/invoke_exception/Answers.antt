use Rattle.py_vm.specs.Invoking.{calling}
use Rattle.py_vm.proofs.InvokingLemmas.{invoked, return_or_raise}
use Rattle.py_vm.proofs.vm.VirtualMachine.invoke_exception.Goals as goal

pub exception_of-requires : goal.exception_of-requires
exception_of-requires c = return_or_raise c.call_class.new.self.objects c.in_ok-answer.answer c.in_ok-answer.ensures.made

pub returns-clause-invokes : goal.returns-clause-invokes
returns-clause-invokes c works =
    invoked (calling c.args.class c.args.args) c.args.turns c.args.self.now c.call_class.new.self c.in_ok-answer.answer c.exception_of.result
    (record { done = c.in_ok-answer.ensures.done; ends = c.in_ok-answer.ensures.answer; generators = c.in_ok-answer.ensures.generators }) c.in_ok-answer.ensures.made
    c.exception_of.ensures
