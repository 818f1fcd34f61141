-- What holds of the objects of the store that is worked by hand.
use Rattle.std.proofs.Common.{◌≡◌, ◌<◌, ℕ, zero, suc, [], ◌∷◌, refl, ap, ◌∙◌, arith}
use Rattle.std.specs.Prelude.{true, false, pos}
use Rattle.py_objects.specs.declared.payload.Payload.TheVariants as payload
use Rattle.py_objects.specs.Edits.{Kept, changed_by, objects_of}
use Rattle.py_exceptions.specs.Parts.{HasParts}
use Rattle.crate_tests.specs.Exit.{object, base_class, exit_class, bare_class, exit_body, exit_objects, IsExit}

-- the parts of each are there
pub exit_parts : (i : ℕ) → i < 9 → HasParts exit_objects (object i)
exit_parts zero low = (payload.None, refl, tt)
exit_parts (suc zero) low = (payload.Bool false, refl, tt)
exit_parts (suc (suc zero)) low = (payload.Bool true, refl, tt)
exit_parts (suc (suc (suc zero))) low = (payload.Class base_class, refl, tt)
exit_parts (suc (suc (suc (suc zero)))) low = (payload.Class exit_class, refl, tt)
exit_parts (suc (suc (suc (suc (suc zero))))) low = (payload.Int (pos 3), refl, tt)
exit_parts (suc (suc (suc (suc (suc (suc zero)))))) low = (payload.Tuple (object 5 ∷ []), refl, tt)
exit_parts (suc (suc (suc (suc (suc (suc (suc zero))))))) low = (payload.Exception exit_body, refl, ((exit_class, refl), (object 5 ∷ [], refl)))
exit_parts (suc (suc (suc (suc (suc (suc (suc (suc zero)))))))) low = (payload.Class bare_class, refl, tt)
exit_parts (suc (suc (suc (suc (suc (suc (suc (suc (suc i))))))))) low = absurd (omega (arith, low))

-- the objects of the store, as they are
pub exit_now : (store : Kept) → IsExit store → objects_of store ≡ exit_objects
exit_now store is = ap (changed_by store.made) is.unchanged ∙ is.made
