-- Which objects are those of constants.
use Rattle.std.specs.Prelude.{ℕ, ◌<◌, ◌≡◌, List, [], ◌∷◌}
use Rattle.py_code.specs.Literals.{Constant, Constants, none, truth, number, text, tuple, code, builtin, no_more, constant}
use Rattle.py_objects.specs.declared.payload.Payload.{Payload}
use Rattle.py_objects.specs.declared.payload.Payload.TheVariants as payload
use Rattle.py_objects.specs.Objects.{Obj, HasPayload}

abbrev mutual
  -- an object is one of a constant: that of a tuple holds older ones, each of which is one of the item at its place
  pub HasConstant : List Payload → Obj → Constant → Type 0
  HasConstant objects v none = HasPayload objects v payload.None
  HasConstant objects v (truth b) = HasPayload objects v (payload.Bool b)
  HasConstant objects v (number n) = HasPayload objects v (payload.Int n)
  HasConstant objects v (text s) = HasPayload objects v (payload.Str s)
  HasConstant objects v (tuple cs) = (vs : List Obj) × HasPayload objects v (payload.Tuple vs) × HaveConstants objects v.number vs cs
  HasConstant objects v (code n) = HasPayload objects v (payload.Code n)
  HasConstant objects v (builtin f) = HasPayload objects v (payload.Builtin f)

  -- objects of numbers below this one are those of constants, one of each
  pub HaveConstants : List Payload → ℕ → List Obj → Constants → Type 0
  HaveConstants objects n vs no_more = vs ≡ []
  HaveConstants objects n vs (constant c cs) =
      (w : Obj) × (ws : List Obj) × (vs ≡ w ∷ ws) × (w.number < n) × HasConstant objects w c × HaveConstants objects n ws cs
