use Rattle.py_frame.proofs.RunningLemmas.{erred}
use Rattle.py_vm.proofs.PartsLemmas.{untold_halts}
use Rattle.py_vm.proofs.machinery.Core.rounded.Goals as goal

pub returns-in_err-push-clause-err : goal.returns-in_err-push-clause-err
returns-in_err-push-clause-err c = erred _ _ (untold_halts c.args.self.now c.set_stage.new.self _ c.push.new.self c.set_stage.ensures c.in_err-push.ensures.err)
