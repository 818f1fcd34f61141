use Rattle.std.proofs.Common.{zero, suc, [], ◌∷◌, subst}
use Rattle.std.proofs.lemmas.Option.{same_Some}
use Rattle.py_objects.specs.declared.payload.Payload.{Payload}
use Rattle.py_objects.specs.declared.payload.Payload.TheVariants as payload
use Rattle.py_objects.specs.Objects.{AllFit, AllBelow, IsMade, payload_numbers}

-- None names nothing
none_fits : AllFit (payload.None ∷ [])
none_fits zero p is = subst (λ (q : Payload). AllBelow 1 (payload_numbers q) × IsMade (payload.None ∷ []) q) (same_Some payload.None p is) (tt, tt)
none_fits (suc i) p is = absurd (cc is)
