use Rattle.std.proofs.lemmas.Result.{on_ok_weaker}
use Rattle.py_laid.specs.Code.{Scope, over}
use Rattle.py_body.specs.Emitting.{draft_of, scope_of}
use Rattle.py_body.proofs.ScopeLemmas.{over_shallow}
use Rattle.py_body.proofs.Operands.{plain_emits}
use Rattle.py_body.proofs.emitter.Emitter.put_plain.Goals as goal

pub returns-clause-code : goal.returns-clause-code
returns-clause-code c =
    let scope : Scope = over c.args.above (scope_of c.args.at.now.scope.now) in
    on_ok_weaker c.put.result
    (plain_emits (draft_of c.args.self.now) (draft_of c.put.new.self) scope c.args.at.now.line c.args.op c.args.arg c.requires.plain c.requires.small
    (over_shallow c.args.above (scope_of c.args.at.now.scope.now) c.requires.depth))
    c.put.ensures.put
