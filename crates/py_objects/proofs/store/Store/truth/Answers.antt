use Rattle.std.proofs.Common.{◌∙◌}
use Rattle.py_objects.proofs.StoreLemmas.{truth_as_made}
use Rattle.py_objects.proofs.SingletonsLemmas.{own_truth_if}
use Rattle.py_objects.proofs.store.Store.truth.Goals as goal

pub returns-clause-first : goal.returns-clause-first
returns-clause-first c = rw c.as_slice.ensures.value at c.first_truth.ensures ∙ truth_as_made _ _ _ _ _ c.self.invariant.0 c.args.self.now c.self.view_is c.args.value

pub returns-clause-has : goal.returns-clause-has
returns-clause-has c = own_truth_if c.args.value c.args.self.now.made c.first_truth.result (returns-clause-first c)
