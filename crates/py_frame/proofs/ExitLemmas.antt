-- What exits are told, as objects grow.
use Rattle.std.proofs.Common.{◌≡◌, ◌<◌, ◌⊎◌, List, None, Some, inl, inr, sym, subst, length, arith}
use Rattle.std.specs.Prelude.{Option}
use Rattle.py_objects.specs.declared.refs.PyBaseExceptionRef.{PyBaseExceptionRef}
use Rattle.py_objects.specs.declared.payload.Payload.{Payload}
use Rattle.py_objects.specs.declared.payload.Payload.TheVariants as payload
use Rattle.py_objects.specs.declared.payload.ExceptionBody.{ExceptionBody}
use Rattle.py_objects.specs.Objects.{Obj, HasPayload, IsTraceback, as_object, class_object}
use Rattle.py_objects.specs.Growth.{Grows}
use Rattle.py_objects.specs.Edits.{Kept}
use Rattle.py_rows.specs.RunOfRows.{IsExit}
use Rattle.py_objects.proofs.GrowthLemmas.{payload_grown, grows_on, length_grown}
use Rattle.py_frame.specs.Exits.{IsTold, TellsTraceback}

-- three new objects
pub exit_none : (b c d : List Payload) (t v w : Obj) → Grows b c → Grows c d → HasPayload b t payload.None → HasPayload c v payload.None → HasPayload d w payload.None → IsExit d None t v w
exit_none b c d t v w g h x y z = (payload_grown b d t payload.None (grows_on b c d g h) x, payload_grown c d v payload.None h y, z)

-- what is told as a traceback is a None or a traceback
told_as : (before behind : Kept) (t : Option Obj) (w : Obj) → Grows before.made behind.made → IsTold before behind t w → HasPayload behind.made w payload.None ⊎ IsTraceback behind.made w
told_as before behind None w grows told = inl told
told_as before behind (Some t) w grows (inl ((body, has), same)) = inr (body, payload_grown before.made behind.made w (payload.Traceback body) grows (subst (λ (v : Obj). HasPayload before.made v (payload.Traceback body)) (sym same) has))
told_as before behind (Some t) w grows (inr (other, is_none)) = inl is_none

-- an exception between its class and what is told as its traceback
pub exit_raised : (before behind : Kept) (e : PyBaseExceptionRef) (t v w : Obj) → Grows before.made behind.made → v ≡ as_object e
    → (body : ExceptionBody) × HasPayload before.made v (payload.Exception body) × (t ≡ class_object body.class) × (t.number < length before.made) → TellsTraceback before behind v w → IsExit behind.made (Some e) t v w
exit_raised before behind e t v w grows same (body, has, class, below) (last, has_last, told) =
    (same, (body, payload_grown before.made behind.made v (payload.Exception body) grows has, class), omega (arith, below, length_grown before.made behind.made grows), told_as before behind last w grows told)
