use Rattle.std.proofs.Common.{◌≡◌, ℕ, replicate, ap, sym, ◌∙◌}
use Rattle.py_check.specs.declared.note.Kind.TheVariants.{Any}
use Rattle.py_check.specs.declared.note.Note.TheVariants.{Live}
use Rattle.py_laid.specs.Code.{over}
use Rattle.py_body.specs.Emitting.{scope_of}
use Rattle.py_body.proofs.ScopeLemmas.{over_blocks, over_depth}
use Rattle.py_body.proofs.scope.note_of.Goals as goal

pub returns : goal.returns
returns c =
    let scope = scope_of c.args.scope.now in
    let kinds : c.in_ok-kinds.kinds ≡ replicate (over c.args.above scope).depth Any = c.in_ok-kinds.ensures ∙ ap (λ (n : ℕ). replicate n Any) (sym (over_depth c.args.above scope)) in
    let blocks : c.in_ok-blocks.blocks ≡ (over c.args.above scope).blocks = c.in_ok-blocks.ensures ∙ sym (over_blocks c.args.above scope) in
    λ k. Live (kinds k) (blocks k)
