-- What is among a new machine's objects, and what stays there as others are added.
use Rattle.std.proofs.Common.{◌≡◌, ◌++◌, ℕ, List, [], ◌∷◌, refl, sym, ap, subst, ◌∙◌, length}
use Rattle.std.specs.Prelude.{Option, Some, None, slice_get}
use Rattle.std.proofs.lemmas.Option.{slice_get_within}
use Rattle.py_objects.specs.declared.payload.Payload.{Payload}
use Rattle.py_objects.specs.Objects.{Obj, AllBelow, HasPayload, IfThere, IsClassObject, IsException, numbers_if}
use Rattle.py_objects.proofs.GrowthLemmas.{payload_grown}
use Rattle.py_objects.proofs.NewLemmas.{newest}
use Rattle.py_vm.specs.Machine.{Machine, new_machine}

-- ValueError is a class of a new machine
pub value_error : (m : Machine) (names : List (List ℕ)) → m ≡ new_machine names → IsClassObject m.objects (record { number = 27 })
value_error m names new = subst (λ (o : Machine). IsClassObject o.objects (record { number = 27 })) (sym new) (_, refl)

-- what was added has its payload
pub added : (old new : List Payload) (p : Payload) (v : Obj) → new ≡ old ++ p ∷ [] → v.number ≡ length old → HasPayload new v p
added old new p v more last = ap (λ os. slice_get os v.number) more ∙ ap (slice_get (old ++ p ∷ [])) last ∙ newest old p

-- a class, and what may be an exception, stay that
pub class_on : (old new : List Payload) (p : Payload) (v : Obj) → new ≡ old ++ p ∷ [] → IsClassObject old v → IsClassObject new v
class_on old new p v more (c, is) = (c, payload_grown old new v _ (p ∷ [], more) is)

pub cause_on : (old new : List Payload) (p : Payload) (cause : Option Obj) → new ≡ old ++ p ∷ [] → IfThere (IsException old) cause → IfThere (IsException new) cause
cause_on old new p None more _ = tt
cause_on old new p (Some v) more (e, is) = (e, payload_grown old new v _ (p ∷ [], more) is)

-- a cause is there
pub cause_below : (objects : List Payload) (cause : Option Obj) → IfThere (IsException objects) cause → AllBelow (length objects) (numbers_if cause ++ [])
cause_below objects None _ = tt
cause_below objects (Some v) (e, is) = (slice_get_within objects v.number _ is, tt)
