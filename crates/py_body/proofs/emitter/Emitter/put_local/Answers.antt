use Rattle.std.proofs.Common.{◌≡◌, ◌%◌, ◌^◌, ℕ, ap, ◌∙◌}
use Rattle.std.specs.Prelude.{unwrap_or}
use Rattle.std.proofs.lemmas.Result.{on_ok_weaker}
use Rattle.py_laid.specs.Code.{Scope, over}
use Rattle.py_body.specs.Emitting.{Draft, draft_of, scope_of}
use Rattle.py_body.proofs.ScopeLemmas.{over_shallow}
use Rattle.py_laid.specs.Code.{place}
use Rattle.py_body.proofs.Places.{place_position}
use Rattle.py_body.proofs.Operands.{local_emits}
use Rattle.py_body.proofs.emitter.Emitter.put_local.Goals as goal

pub returns-clause-code : goal.returns-clause-code
returns-clause-code c =
    let old : Draft = draft_of c.args.self.now in
    let scope : Scope = over c.args.above (scope_of c.args.at.now.scope.now) in
    let at : c.unwrap_or-place.result ≡ place old.parts.vars c.args.name.now =
    c.unwrap_or-place.ensures ∙ (λ k. unwrap_or (c.place.ensures.place k) (c.len.ensures k)) ∙ place_position old.parts.vars c.args.name.now in
    on_ok_weaker c.put.result
    (local_emits old (draft_of c.put.new.self) scope c.args.at.now.line c.args.op c.args.name.now c.index_of-arg.result c.requires.plain c.requires.low
    (over_shallow c.args.above (scope_of c.args.at.now.scope.now) c.requires.depth)
    (c.index_of-arg.ensures ∙ ap (λ (n : ℕ). n % 2 ^ 32) at))
    c.put.ensures.put
