use Rattle.std.proofs.Common.{refl}
use Rattle.py_objects.proofs.GrownLemmas.{grown_refl}
use Rattle.py_frame.proofs.RunningLemmas.{erred}
use Rattle.py_vm.specs.declared.machinery.Core.{Core}
use Rattle.py_vm.proofs.PartsLemmas.{grew_halts, staged_halts, raising_halts}
use Rattle.py_vm.proofs.machinery.Core.resume.Goals as goal

pub returns-in_err-push-clause-err : goal.returns-in_err-push-clause-err
returns-in_err-push-clause-err c =
    let m : Core = record c.args.self.now { raising = c.by_throw-self.result } in
    let n : Core = c.set_stage.new.self in
    let taken = grew_halts m m.world.store c.take.new.self m.frames m.callers m.slots m.stage (grown_refl m.world.store) in
    erred _ _ (raising_halts c.args.self.now _ c.by_throw-self.result (staged_halts m _ n _ c.push.new.self n.slots n.events taken c.set_stage.ensures refl))

pub returns-in_err-push_exception-clause-err : goal.returns-in_err-push_exception-clause-err
returns-in_err-push_exception-clause-err c =
    let m : Core = record c.args.self.now { raising = c.by_throw-self.result } in
    let n : Core = c.set_stage.new.self in
    let taken = grew_halts m m.world.store c.take.new.self m.frames m.callers m.slots m.stage (grown_refl m.world.store) in
    erred _ _ (raising_halts c.args.self.now _ c.by_throw-self.result (staged_halts m _ n _ c.push.new.self c.push_exception.new.self n.events taken c.set_stage.ensures refl))

pub returns-in_err-push-2-clause-err : goal.returns-in_err-push-2-clause-err
returns-in_err-push-2-clause-err c =
    let m : Core = record c.args.self.now { raising = c.by_throw-self.result } in
    let n : Core = c.set_stage.new.self in
    let taken = grew_halts m m.world.store c.take.new.self m.frames m.callers m.slots m.stage (grown_refl m.world.store) in
    erred _ _ (raising_halts c.args.self.now _ c.by_throw-self.result (staged_halts m _ n _ c.push.new.self c.push_exception.new.self c.push-2.new.self taken c.set_stage.ensures c.in_err-push-2.ensures.err))
