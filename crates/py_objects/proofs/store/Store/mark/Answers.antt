use Rattle.std.proofs.Common.{◌≤◌, ℕ, sym, ap, subst}
use Rattle.py_objects.proofs.OriginalsLemmas.{IsKept-later}
use Rattle.py_objects.proofs.store.Store.mark.Goals as goal

pub invariant_of-self : goal.invariant_of-self
invariant_of-self c =
    let later = subst (λ (n : ℕ). n ≤ c.args.after) (sym (ap (λ s. s.mark) c.self.view_is)) c.requires in
    (IsKept-later _ _ _ _ c.self.invariant.0 c.args.after later, c.self.invariant.1)
