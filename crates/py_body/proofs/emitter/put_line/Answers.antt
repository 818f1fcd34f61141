use Rattle.std.proofs.Common.{List, ℕ, [], ◌∷◌, ◌++◌, ap, ◌∙◌}
use Rattle.py_body.proofs.ListLemmas.{replicate_more}
use Rattle.py_body.proofs.emitter.put_line.Goals as goal

pub loop-unit-preserved : goal.loop-unit-preserved
loop-unit-preserved c = c.in_ok-push.ensures.items ∙ ap (λ (l : List ℕ). l ++ c.args.line ∷ []) c.loop-unit.invariant ∙ replicate_more c.args.locations.now.items c.loop-unit._unit c.args.line
