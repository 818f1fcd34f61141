use Rattle.std.proofs.Common.{subst, sym}
use Rattle.py_code.specs.declared.instruction.Instruction.TheVariants.{ReturnConst}
use Rattle.py_code.specs.declared.literal.Literal.{None as NoneLiteral}
use Rattle.py_tree.specs.Views.{suite_of, tree_of}
use Rattle.py_laid.specs.Code.{Scope}
use Rattle.py_body.specs.Emitting.{draft_of, EmitsConst, EmitsSuite, SuiteIn}
use Rattle.py_body.proofs.BodyLemmas.{body_emits}
use Rattle.py_body.proofs.compile.emit_all.Goals as goal

pub compile_suite-requires-clause-fits : goal.compile_suite-requires-clause-fits
compile_suite-requires-clause-fits c = subst (λ (i : Scope). SuiteIn i (suite_of c.args.body.now.suite)) (sym c.entry-scope.ensures) c.requires.compilable.fits

pub returns : goal.returns
returns c =
    body_emits (tree_of c.args.body.now)
    (subst (λ (i : Scope). EmitsSuite c.args.emitter.now.labels (draft_of c.args.emitter.now) (draft_of c.compile_suite.new.self) i (suite_of c.args.body.now.suite)) c.entry-scope.ensures
    c.in_ok-compile_suite.ensures.code)
    (subst (λ (i : Scope). EmitsConst (draft_of c.compile_suite.new.self) (draft_of c.put_const.new.self) i c.args.body.now.line ReturnConst NoneLiteral) c.entry-scope.ensures
    c.in_ok-put_const.ensures.code)
