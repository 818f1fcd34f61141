use Rattle.std.proofs.Common.{◌<◌, ◌∙◌, ℕ, length, set, ap, sym, subst, arith}
use Rattle.std.specs.Prelude.{slice_get}
use Rattle.py_objects.proofs.StoreLemmas.{restored_put, within_put}
use Rattle.py_objects.proofs.store.Store.into_history.Goals as goal

pub put_back-requires : goal.put_back-requires
put_back-requires c =
    let below = c.loop-original.invariant.within 0 c.in-Some.original (ap (λ l. slice_get l 0) c.in-Some.ensures.steps.0) in
    subst (λ (n : ℕ). c.in-Some.original.number < n) (ap length (sym c.as_mut_slice.ensures.value)) below

pub loop-original-preserved : goal.loop-original-preserved
loop-original-preserved c =
    let now = c.loop-original in
    let o = c.in-Some.original in
    let first = c.in-Some.ensures.steps.0 in
    let put = c.put_back.ensures ∙ ap (λ l. set l o.number o.payload) c.as_mut_slice.ensures.value in
    record {
      rest = restored_put now.payloads _ _ o first now.invariant.within c.put_back.new.payloads put ∙ now.invariant.rest;
      within = within_put now.payloads _ _ o first now.invariant.within c.put_back.new.payloads put;
      all = let was = now.invariant.all in let gone = c.in-Some.ensures.steps.1 in let short = ap length first in omega arith;
    }
