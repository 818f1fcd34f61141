use Rattle.std.proofs.Common.{ℕ, subst}
use Rattle.py_code.specs.declared.instruction.Instruction.TheVariants.{TestOperation}
use Rattle.py_laid.specs.Code.{over}
use Rattle.py_body.specs.Emitting.{draft_of, scope_of, EmitsPlain}
use Rattle.py_body.proofs.ProtectedLemmas.{match_emits}
use Rattle.py_body.proofs.emitter.Emitter.put_match.Goals as goal

pub returns-clause-code : goal.returns-clause-code
returns-clause-code c =
    match_emits (scope_of c.args.at.now.scope.now) c.args.at.now.line c.args.class.now c.args.target.now c.args.other c.in_ok-put_plain.ensures.code c.in_ok-put_load.ensures.code
    (subst (λ (n : ℕ). EmitsPlain (draft_of c.put_load.new.self) (draft_of c.put_plain-2.new.self) (over 3 (scope_of c.args.at.now.scope.now)) c.args.at.now.line TestOperation n) c.into.ensures.0
    c.in_ok-put_plain-2.ensures.code)
    c.in_ok-put_jump.ensures.code c.in_ok-put_target.ensures.code
