-- Constants, and lists of them.
use Rattle.std.specs.Prelude.{◌≡◌, ℕ, ℤ, Bool, true, false, List, [], ◌∷◌, map}
use Rattle.py_code.specs.declared.literal.BuiltinFn.{BuiltinFn}
use Rattle.py_code.specs.declared.literal.Literal.{Literal, None as NoneLiteral, Bool as BoolLiteral, Int as IntLiteral, Str as StrLiteral, Tuple' as TupleLiteral, Code as CodeLiteral, Builtin as BuiltinLiteral, Row_of-Literal, end_of-Literal, more_of-Literal}
use Rattle.py_code.specs.declared.literal.LiteralList.{LiteralList, out-LiteralList}

-- the constants in order
abbrev pub literals_of : LiteralList → List Literal
literals_of list = (out-LiteralList list).items.items

-- whether a constant is a text
abbrev pub is_text : Literal → Bool
is_text (StrLiteral s) = true
is_text _ = false

mutual
  -- a constant as plain data, apart from the memory that it lies in
  pub data Constant : Type 0 where
    none : Constant
    truth : Bool → Constant
    number : ℤ → Constant
    text : List ℕ → Constant
    tuple : Constants → Constant
    code : ℕ → Constant
    builtin : BuiltinFn → Constant

  -- constants in order
  pub data Constants : Type 0 where
    no_more : Constants
    constant : Constant → Constants → Constants

abbrev mutual
  -- what a literal stands for
  pub constant_of : Literal → Constant
  constant_of NoneLiteral = none
  constant_of (BoolLiteral b) = truth b
  constant_of (IntLiteral z) = number z
  constant_of (StrLiteral s) = text s
  constant_of (TupleLiteral shape items) = tuple (constants_in items)
  constant_of (CodeLiteral c) = code c
  constant_of (BuiltinLiteral f) = builtin f

  pub constants_in : {m : _} → Row_of-Literal m → Constants
  constants_in end_of-Literal = no_more
  constants_in (more_of-Literal item items) = constant (constant_of item) (constants_in items)

-- constants of a list, in order
abbrev pub in_order : List Constant → Constants
in_order [] = no_more
in_order (c ∷ cs) = constant c (in_order cs)

-- two lists stand for the same constants
abbrev pub AreSame : (left right : LiteralList) → Type 0
AreSame left right = map constant_of (literals_of left) ≡ map constant_of (literals_of right)
