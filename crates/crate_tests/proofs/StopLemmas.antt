-- The objects of the store that has a StopAsyncIteration fit.
use Rattle.std.proofs.Common.{zero, suc, [], subst, refl, arith}
use Rattle.std.proofs.lemmas.Option.{same_Some}
use Rattle.py_objects.specs.declared.payload.Payload.{Payload}
use Rattle.py_objects.specs.declared.payload.Payload.TheVariants as payload
use Rattle.py_objects.specs.Objects.{AllFit, AllBelow, IsMade, payload_numbers}
use Rattle.crate_tests.specs.Stop.{stop_class, stop_body, stop_objects}

-- each names what is there
abbrev Fits : Payload → Type 0
Fits q = AllBelow 4 (payload_numbers q) × IsMade stop_objects q

pub stop_fits : AllFit stop_objects
stop_fits zero p is = subst Fits (same_Some payload.None p is) (tt, tt)
stop_fits (suc zero) p is = subst Fits (same_Some (payload.Class stop_class) p is) (tt, tt)
stop_fits (suc (suc zero)) p is = subst Fits (same_Some (payload.Tuple []) p is) (tt, tt)
stop_fits (suc (suc (suc zero))) p is =
    subst Fits (same_Some (payload.Exception stop_body) p is) (
      (omega arith, (omega arith, tt)),
      record {
        class = stop_class;
        is_class = refl;
        arguments = [];
        are_arguments = refl;
        cause = tt;
        context = tt;
        traceback = tt;
      },
    )
stop_fits (suc (suc (suc (suc i)))) p is = absurd (cc is)
