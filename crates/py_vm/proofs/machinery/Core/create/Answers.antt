use Rattle.std.proofs.Common.{refl, sym}
use Rattle.py_objects.specs.declared.payload.Payload.TheVariants as payload
use Rattle.py_objects.proofs.GrownLemmas.{added_grown, still_grown}
use Rattle.py_frame.proofs.RunningLemmas.{erred}
use Rattle.py_vm.specs.declared.machinery.Core.{Core}
use Rattle.py_vm.proofs.CallsLemmas.{code_not_none}
use Rattle.py_vm.proofs.LeavingLemmas.{new_not_kept}
use Rattle.py_vm.proofs.PartsLemmas.{grew_halts}
use Rattle.py_vm.proofs.machinery.Core.create.Goals as goal

pub unreachable-requires : goal.unreachable-requires
unreachable-requires c =
    code_not_none c.args.self.now.world.codes c.args.self.now.world.store.made c.args.function c.function_body-body.result.now c.requires.can.runnable
    c.function_body-body.ensures (sym (rw c.in_default.is at c.get.ensures))

pub returns-in_err-object-clause-err : goal.returns-in_err-object-clause-err
returns-in_err-object-clause-err c =
    let m : Core = c.args.self.now in
    erred _ _ (grew_halts m c.add.new.self m.world.generators m.frames m.callers m.slots m.stage (still_grown m.world.store c.add.new.self c.in_err-object.ensures.err))

pub push-requires : goal.push-requires
push-requires c = record { other = new_not_kept c.args.self.now.world.store.made c.args.self.now.world.generators c.in_ok-object.object c.requires.can.generators c.in_ok-object.ensures.number }

pub returns-in_err-push-clause-err : goal.returns-in_err-push-clause-err
returns-in_err-push-clause-err c =
    let m : Core = c.args.self.now in
    erred _ _ (grew_halts m c.add.new.self c.push.new.self m.frames m.callers m.slots m.stage
    (added_grown m.world.store c.add.new.self (payload.Generator _) c.in_ok-object.ensures.added refl refl (λ fit. tt) (λ fit. tt)))
