use Rattle.std.proofs.Common.{refl}
use Rattle.py_frame.proofs.RunningLemmas.{erred}
use Rattle.py_vm.specs.declared.machinery.Core.{Core}
use Rattle.py_vm.proofs.PartsLemmas.{halts_refl, staged_halts}
use Rattle.py_vm.proofs.machinery.Core.enter.Goals as goal

pub returns-in_err-push-clause-err : goal.returns-in_err-push-clause-err
returns-in_err-push-clause-err c =
    let n : Core = c.set_stage.new.self in
    erred _ _ (staged_halts c.args.self.now c.args.self.now n _ c.push.new.self n.slots n.events (halts_refl c.args.self.now) c.set_stage.ensures refl)

pub returns-in_err-push-2-clause-err : goal.returns-in_err-push-2-clause-err
returns-in_err-push-2-clause-err c =
    let n : Core = c.set_stage.new.self in
    erred _ _ (staged_halts c.args.self.now c.args.self.now n _ c.push.new.self n.slots c.push-2.new.self (halts_refl c.args.self.now) c.set_stage.ensures c.in_err-push-2.ensures.err)
