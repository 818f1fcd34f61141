use Rattle.std.proofs.Common.{[], subst}
use Rattle.py_objects.specs.declared.request.Keywords.TheVariants as keywords
use Rattle.py_objects.specs.declared.request.Request.TheVariants as request
use Rattle.py_objects.specs.Objects.{Obj}
use Rattle.py_run.specs.Run.{Requests}
use Rattle.py_vm.specs.Machine.{Adds}
use Rattle.py_vm.proofs.InvokingLemmas.{is_called}
use Rattle.py_vm.proofs.vm.VirtualMachine.call_class.Goals as goal

pub returns-clause-made : goal.returns-clause-made
returns-clause-made c =
    is_called c.self.inside.core.value c.args.self.now c.ask.new.self c.args.class c.args.args c.ask.result c.self.view_is c.self.invariant c.requires.class
    (λ is. (c.ask.ensures.failed is).0)
    (λ works. subst (λ (v : Obj). Adds (Requests (request.Call v c.args.args keywords.None)) [] c.args.self.now c.ask.new.self) c.from.ensures (c.ask.ensures.adds works []))
    c.ask.ensures.done c.ask.ensures.answer
