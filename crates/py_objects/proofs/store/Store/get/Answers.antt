use Rattle.std.proofs.Common.{◌<◌, ℕ, sym, subst, ◌∙◌}
use Rattle.py_objects.proofs.StoreLemmas.{length-made, read_now, read_at}
use Rattle.py_objects.proofs.store.Store.get.Goals as goal

pub index-requires : goal.index-requires
index-requires c =
    let long = length-made _ _ _ _ _ c.self.invariant.0 c.args.self.now c.self.view_is in
    subst (λ (n : ℕ). c.args.object.number < n) (long ∙ sym c.self.inside.payloads.ok.0) c.requires

pub returns-clause-now : goal.returns-clause-now
returns-clause-now c = read_now _ _ _ _ _ c.self.invariant.0 c.args.self.now c.self.view_is c.args.object c.index.result.now c.requires c.index.ensures

pub returns-clause-at : goal.returns-clause-at
returns-clause-at c = read_at _ _ _ _ _ c.self.invariant.0 c.args.self.now c.self.view_is c.args.object c.index.result.now c.requires c.index.ensures
