use Rattle.std.proofs.Common.{◌≡◌, ◌∙◌, Some, sym, ap, subst}
use Rattle.std.specs.Prelude.{Bool}
use Rattle.py_objects.specs.declared.payload.Payload.TheVariants as payload
use Rattle.py_objects.specs.Objects.{HasPayload}
use Rattle.py_frame.proofs.ObjectsLemmas.{truth_of, truth_found, is_truth}
use Rattle.py_frame.proofs.objects.truth.Goals as goal

pub unreachable-requires : goal.unreachable-requires
unreachable-requires c =
    let (b, is, has) = truth_found c.args.store.now.made c.args.store.now.changes c.args.value _ c.requires c.get.ensures.now in
    c.in_default.not-Bool b (is_truth _ b is)

pub returns : goal.returns
returns c =
    let (b, is, has) = truth_found c.args.store.now.made c.args.store.now.changes c.args.value _ c.requires c.get.ensures.now in
    let read : Some c.in-Bool.truth ≡ Some b = sym (ap truth_of c.in-Bool.is) ∙ is in
    let same : b ≡ c.in-Bool.truth = cc in
    subst (λ (t : Bool). HasPayload c.args.store.now.made c.args.value (payload.Bool t)) same has
