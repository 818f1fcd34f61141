use Rattle.std.proofs.Common.{ℤ, List, ℕ, subst, rules}
use Rattle.std.specs.Int.{w128}
use Rattle.std.specs.Prelude.{FitsSigned, OnOk}
use Rattle.std.proofs.lemmas.Int.{to_z-of_z}
use Rattle.py_code.specs.declared.instruction.Instruction.TheVariants.{LoadConst}
use Rattle.py_code.specs.declared.literal.Literal.{Int as IntLiteral, Str as StrLiteral}
use Rattle.py_laid.specs.Code.{Scope, over}
use Rattle.py_body.specs.Emitting.{draft_of, scope_of}
use Rattle.py_body.specs.Emitting.{EmitsConst}
use Rattle.py_body.proofs.emitter.Emitter.compile_atom.Goals as goal

pub returns-in-None-clause-code : goal.returns-in-None-clause-code
returns-in-None-clause-code c = rw c.in-None.is c.load_literal.ensures.code

pub returns-in-Bool-clause-code : goal.returns-in-Bool-clause-code
returns-in-Bool-clause-code c = rw c.in-Bool.is c.load_literal-in-Bool.ensures.code

pub returns-in-Int-clause-code : goal.returns-in-Int-clause-code
returns-in-Int-clause-code c =
    let fits : FitsSigned w128 c.in-Int.number = search rules in
    let scope : Scope = over c.args.above (scope_of c.args.at.now.scope.now) in
    rw c.in-Int.is
    (subst (λ (n : ℤ). OnOk c.load_literal-in-Int.result (EmitsConst (draft_of c.args.self.now) (draft_of c.load_literal-in-Int.new.self) scope c.args.at.now.line LoadConst (IntLiteral n)))
    (to_z-of_z w128 c.in-Int.number fits) c.load_literal-in-Int.ensures.code)

pub returns-in_ok-text-in-Str-clause-code : goal.returns-in_ok-text-in-Str-clause-code
returns-in_ok-text-in-Str-clause-code c =
    let scope : Scope = over c.args.above (scope_of c.args.at.now.scope.now) in
    rw c.in-Str.is
    (subst (λ (text : List ℕ). OnOk c.load_literal-in-Str.result (EmitsConst (draft_of c.args.self.now) (draft_of c.load_literal-in-Str.new.self) scope c.args.at.now.line LoadConst (StrLiteral text)))
    c.in_ok-text-in-Str.ensures c.load_literal-in-Str.ensures.code)
