-- What a frame needs of the objects that are there, and what it adds to them.
use Rattle.std.specs.Prelude.{ℕ, ◌+◌, ◌<◌, ◌≡◌, ◌++◌, Some, List, length, slice_get}
use Rattle.py_objects.specs.declared.payload.Payload.{Payload}
use Rattle.py_objects.specs.declared.payload.Payload.TheVariants as payload
use Rattle.py_objects.specs.declared.payload.ExceptionBody.{ExceptionBody}
use Rattle.py_objects.specs.Objects.{Obj, AllBelow, HasPayload, numbers}

-- the class of each exception is an object that is there, of whatever kind
abbrev pub ClassesAreThere : List Payload → Type 0
ClassesAreThere objects = (v : Obj) (e : ExceptionBody) → HasPayload objects v (payload.Exception e) → e.class.number < length objects

-- what an entry of this number may be, where it is that of a constant: a tuple holds objects that were there before, and all others name none
abbrev pub IsOfConstant : ℕ → Payload → Type 0
IsOfConstant n payload.None = Unit {0}
IsOfConstant n (payload.Bool b) = Unit {0}
IsOfConstant n (payload.Int i) = Unit {0}
IsOfConstant n (payload.Str s) = Unit {0}
IsOfConstant n (payload.Tuple vs) = AllBelow n (numbers vs)
IsOfConstant n (payload.Builtin f) = Unit {0}
IsOfConstant n (payload.Code c) = Unit {0}
IsOfConstant n _ = ⊥

-- more objects came, each of which is what a constant is
pub record AddsConstants (old new : List Payload) : Type 0 where
  pub more : List Payload
  pub is : new ≡ old ++ more
  pub constants : (i : ℕ) (p : Payload) → slice_get more i ≡ Some p → IsOfConstant (length old + i) p
