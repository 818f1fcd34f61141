use Rattle.std.proofs.Common.{◌++◌, sym, ap, subst, length}
use Rattle.std.proofs.lemmas.Option.{slice_get_within}
use Rattle.py_objects.specs.declared.payload.Payload.TheVariants as payload
use Rattle.py_objects.specs.Objects.{AllBelow, IsMade, attr_numbers, numbers_if, payload_numbers}
use Rattle.py_vm.specs.Machine.{Machine}
use Rattle.machine_tests.proofs.AddedLemmas.{added, class_on, cause_on, cause_below}
use Rattle.machine_tests.proofs.printing.add_error.Goals as goal

pub add_object-requires-3-clause-below : goal.add_object-requires-3-clause-below
add_object-requires-3-clause-below c =
    let text = ap (λ (m : Machine). m.objects) c.in-Ok.ensures.1.1 in
    let args = ap (λ (m : Machine). m.objects) c.in-Ok-add_object.ensures.1.1 in
    let class = class_on _ _ _ _ args (class_on _ _ _ _ text c.requires.class) in
    let cause = cause_on _ _ _ _ args (cause_on _ _ _ _ text c.requires.cause) in
    subst (λ b. AllBelow (length c.add_object-2.new.self.objects) (payload_numbers (payload.Exception b))) (sym c.in_ok-new.ensures) (
      slice_get_within _ _ _ class.1,
      (
        slice_get_within _ _ _ (added _ _ _ _ args c.in-Ok-add_object.ensures.1.0),
        subst (λ attrs. AllBelow (length c.add_object-2.new.self.objects) (numbers_if c.args.cause ++ attr_numbers attrs)) (sym c.new.ensures) (cause_below _ _ cause),
      ),
    )

pub add_object-requires-3-clause-made : goal.add_object-requires-3-clause-made
add_object-requires-3-clause-made c =
    let text = ap (λ (m : Machine). m.objects) c.in-Ok.ensures.1.1 in
    let args = ap (λ (m : Machine). m.objects) c.in-Ok-add_object.ensures.1.1 in
    let class = class_on _ _ _ _ args (class_on _ _ _ _ text c.requires.class) in
    subst (λ b. IsMade c.add_object-2.new.self.objects (payload.Exception b)) (sym c.in_ok-new.ensures) (record {
      class = class.0;
      is_class = class.1;
      arguments = _;
      are_arguments = added _ _ _ _ args c.in-Ok-add_object.ensures.1.0;
      cause = cause_on _ _ _ _ args (cause_on _ _ _ _ text c.requires.cause);
      context = tt;
      traceback = tt;
    })

pub returns-clause-class : goal.returns-clause-class
returns-clause-class c =
    let text = ap (λ (m : Machine). m.objects) c.in-Ok.ensures.1.1 in
    let args = ap (λ (m : Machine). m.objects) c.in-Ok-add_object.ensures.1.1 in
    let error = ap (λ (m : Machine). m.objects) c.in-Ok-add_object-2.ensures.1.1 in
    class_on _ _ _ _ error (class_on _ _ _ _ args (class_on _ _ _ _ text c.requires.class))

pub returns-clause-error : goal.returns-clause-error
returns-clause-error c = (_, added _ _ _ _ (ap (λ (m : Machine). m.objects) c.in-Ok-add_object-2.ensures.1.1) c.in-Ok-add_object-2.ensures.1.0)
