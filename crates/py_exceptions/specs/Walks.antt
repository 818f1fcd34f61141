-- The links of exceptions and of the entries of tracebacks, and walks along them (Python Language Reference, 3.2 and 7.8).
use Rattle.std.specs.Prelude.{ℕ, zero, suc, ◌<◌, Option, Some, None, List, ◌≡◌, ◌≢◌, slice_get}
use Rattle.py_objects.specs.declared.payload.Payload.{Payload}
use Rattle.py_objects.specs.declared.payload.Payload.TheVariants as payload
use Rattle.py_objects.specs.declared.edit.LinkField.{LinkField}
use Rattle.py_objects.specs.declared.edit.LinkField.TheVariants as link
use Rattle.py_objects.specs.Objects.{Obj}

-- the cause of an exception, where a payload is one that has it
abbrev pub cause_of : Payload → Option Obj
cause_of (payload.Exception e) = e.cause
cause_of _ = None

-- its context
abbrev pub context_of : Payload → Option Obj
context_of (payload.Exception e) = e.context
context_of _ = None

-- its traceback
abbrev pub traceback_of : Payload → Option Obj
traceback_of (payload.Exception e) = e.traceback
traceback_of _ = None

-- what an entry of a traceback leads on to
abbrev pub next_of : Payload → Option Obj
next_of (payload.Traceback t) = t.next
next_of _ = None

-- what a link of a payload leads to
abbrev pub link_of : LinkField → Payload → Option Obj
link_of link.Cause p = cause_of p
link_of link.Context p = context_of p
link_of link.Traceback p = traceback_of p
link_of link.Next p = next_of p

-- the same, where there is a payload
abbrev pub link_in : LinkField → Option Payload → Option Obj
link_in field None = None
link_in field (Some p) = link_of field p

-- what a link of an object leads to
abbrev pub link_at : LinkField → List Payload → Obj → Option Obj
link_at field objects v = link_in field (slice_get objects v.number)

-- one step more, where the steps before led somewhere
abbrev pub on_link : (Obj → Option Obj) → Option Obj → Option Obj
on_link step None = None
on_link step (Some v) = step v

-- where so many steps lead from an object
abbrev pub led : (Obj → Option Obj) → ℕ → Obj → Option Obj
led step zero v = Some v
led step (suc n) v = on_link step (led step n v)

-- some number of steps leads from one object to another
abbrev pub Reaches : (Obj → Option Obj) → Obj → Obj → Type 0
Reaches step from to = (n : ℕ) × (led step n from ≡ Some to)

-- the first object, on the way from one, whose link leads to another, or none where no link on the way does; an object that is
-- met again leads only where it led before, so it does no harm that this speaks of any number of steps
abbrev pub IsFirstTo : (Obj → Option Obj) → Obj → Obj → Option Obj → Type 0
IsFirstTo step from to None = (n : ℕ) → led step (suc n) from ≢ Some to
IsFirstTo step from to (Some x) =
    (n : ℕ) × (led step n from ≡ Some x) × (step x ≡ Some to) × ((m : ℕ) → m < n → led step (suc m) from ≢ Some to)

-- no walk comes back to where it began
abbrev pub IsAcyclic : (Obj → Option Obj) → Type 0
IsAcyclic step = (v : Obj) (n : ℕ) → led step (suc n) v ≢ Some v
