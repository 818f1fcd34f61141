use Rattle.std.proofs.Common.{◌≡◌, ◌++◌, ◌∷◌, [], ◌%◌, ◌^◌, ℕ, ap, ◌∙◌}
use Rattle.py_code.specs.Literals.{literals_of}
use Rattle.std.proofs.lemmas.Result.{on_ok_weaker}
use Rattle.py_laid.specs.Code.{Scope, over}
use Rattle.py_body.specs.Emitting.{Draft, draft_of, scope_of}
use Rattle.py_body.proofs.ScopeLemmas.{over_shallow}
use Rattle.py_body.specs.Emitting.{put}
use Rattle.py_body.proofs.Operands.{const_emits}
use Rattle.py_body.proofs.emitter.Emitter.put_const.Goals as goal

pub returns-clause-code : goal.returns-clause-code
returns-clause-code c =
    let old : Draft = draft_of c.args.self.now in
    let scope : Scope = over c.args.above (scope_of c.args.at.now.scope.now) in
    let pushed : literals_of c.push.new.self ≡ old.parts.constants ++ c.args.literal ∷ [] = c.in_ok-push.ensures.added in
    on_ok_weaker c.put.result
    (λ is. const_emits old (draft_of c.put.new.self) scope c.args.at.now.line c.args.op c.args.literal c.index_of-arg.result c.requires.plain c.requires.no_code c.requires.low
    (over_shallow c.args.above (scope_of c.args.at.now.scope.now) c.requires.depth) (c.index_of-arg.ensures ∙ ap (λ (n : ℕ). n % 2 ^ 32) c.len.ensures)
    (is ∙ λ k. put old.others c.args.op c.index_of-arg.result scope c.args.at.now.line (record old { parts = record old.parts { constants = pushed k } })))
    c.put.ensures.put
