use Rattle.std.proofs.lemmas.Result.{IfOk-weaker}
use Rattle.py_vm.proofs.WorldLemmas.{leaves_by}
use Rattle.py_vm.proofs.world.World.exited.Goals as goal

pub called-requires-clause-function : goal.called-requires-clause-function
called-requires-clause-function c = let (p, has, is, function) = c.exit_function-function.ensures in function

pub returns-clause-course : goal.returns-clause-course
returns-clause-course c =
    IfOk-weaker c.called.result _ _
    (leaves_by c.args.self.now c.called.new.self c.args.at c.args.exit c.exit_function-function.result c.args.told.now c.exit_function-function.ensures) c.called.ensures.course
