use Rattle.py_body.specs.Emitting.{scope_of}
use Rattle.py_body.proofs.StatementLemmas.{reraise_emits}
use Rattle.py_body.proofs.emitter.Emitter.compile_reraise.Goals as goal

pub returns-clause-code : goal.returns-clause-code
returns-clause-code c = reraise_emits c.args.self.now.labels (scope_of c.args.at.now.scope.now) c.args.at.now.line c.in_ok-put_raise.ensures.code
