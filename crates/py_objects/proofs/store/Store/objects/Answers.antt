use Rattle.std.proofs.Common.{sym, ◌∙◌}
use Rattle.py_objects.proofs.StoreLemmas.{objects-now}
use Rattle.py_objects.proofs.store.Store.objects.Goals as goal

pub returns : goal.returns
returns c = c.as_slice.ensures.value ∙ sym (objects-now _ _ _ _ _ c.self.invariant.0 c.args.self.now c.self.view_is)
