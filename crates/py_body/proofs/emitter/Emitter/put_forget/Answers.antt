use Rattle.py_body.specs.Emitting.{scope_of}
use Rattle.py_body.proofs.ProtectedLemmas.{forget_emits}
use Rattle.py_body.proofs.emitter.Emitter.put_forget.Goals as goal

pub returns-clause-code : goal.returns-clause-code
returns-clause-code c = forget_emits (scope_of c.args.at.now.scope.now) c.args.at.now.line c.args.name.now c.in_ok-put_const.ensures.code c.in_ok-put_local.ensures.code c.in_ok-put_local-2.ensures.code
