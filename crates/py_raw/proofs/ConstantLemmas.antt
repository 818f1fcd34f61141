-- What is read of a literal is read of the constant that it stands for.
use Rattle.std.proofs.Common.{◌≡◌, ℕ, suc, Bool, true, false, ◌&&◌, refl, ap, ap₂, length}
use Rattle.std.specs.Prelude.{nat_lt, if◌then◌else◌}
use Rattle.std.specs.List.{list_all}
use Rattle.py_code.specs.declared.literal.Literal.{Literal, None as NoneLiteral, Bool as BoolLiteral, Int as IntLiteral, Str as StrLiteral, Tuple' as TupleLiteral, Code as CodeLiteral, Builtin as BuiltinLiteral, Row_of-Literal, end_of-Literal, more_of-Literal, items-the_row-Literal}
use Rattle.py_code.specs.Literals.{Constant, Constants, text, tuple, code, builtin, no_more, constant, constant_of, constants_in, is_text}
use Rattle.py_check.specs.Constants.{kind_of, is_earlier, are_earlier}
use Rattle.py_check.specs.Running.{is_driving, is_loaded, are_loaded}
use Rattle.py_check.specs.declared.note.Kind.{Kind}
use Rattle.py_check.specs.declared.note.Kind.TheVariants as kind

-- ---- its kind

abbrev is_text_in : Constant → Bool
is_text_in (text s) = true
is_text_in _ = false

abbrev texts_in : Constants → Bool
texts_in no_more = true
texts_in (constant c cs) = is_text_in c && texts_in cs

abbrev count_in : Constants → ℕ
count_in no_more = 0
count_in (constant c cs) = suc (count_in cs)

abbrev pub kind_in : Constant → Kind
kind_in (text s) = kind.Str
kind_in (tuple cs) = if texts_in cs then kind.Names (count_in cs) else kind.Tuple
kind_in (code n) = kind.Code n
kind_in _ = kind.Any

is_text_read : (l : Literal) → is_text l ≡ is_text_in (constant_of l)
is_text_read NoneLiteral = refl
is_text_read (BoolLiteral b) = refl
is_text_read (IntLiteral n) = refl
is_text_read (StrLiteral s) = refl
is_text_read (TupleLiteral shape items) = refl
is_text_read (CodeLiteral n) = refl
is_text_read (BuiltinLiteral f) = refl

texts_read : {m : _} (items : Row_of-Literal m) → list_all is_text (items-the_row-Literal _ items) ≡ texts_in (constants_in items)
texts_read end_of-Literal = refl
texts_read (more_of-Literal item items) = ap₂ ◌&&◌ (is_text_read item) (texts_read items)

count_read : {m : _} (items : Row_of-Literal m) → length (items-the_row-Literal _ items) ≡ count_in (constants_in items)
count_read end_of-Literal = refl
count_read (more_of-Literal item items) = ap suc (count_read items)

pub kind_read : (l : Literal) → kind_of l ≡ kind_in (constant_of l)
kind_read NoneLiteral = refl
kind_read (BoolLiteral b) = refl
kind_read (IntLiteral n) = refl
kind_read (StrLiteral s) = refl
kind_read (TupleLiteral shape items) =
    ap₂ (λ (all : Bool) (n : ℕ). if all then kind.Names n else kind.Tuple) (texts_read items) (count_read items)
kind_read (CodeLiteral n) = refl
kind_read (BuiltinLiteral f) = refl

-- ---- whether its codes are earlier ones

abbrev mutual
  pub earlier_in : ℕ → Constant → Bool
  earlier_in count (tuple cs) = all_earlier_in count cs
  earlier_in count (code n) = nat_lt n count
  earlier_in count _ = true

  pub all_earlier_in : ℕ → Constants → Bool
  all_earlier_in count no_more = true
  all_earlier_in count (constant c cs) = earlier_in count c && all_earlier_in count cs

mutual
  pub earlier_read : (count : ℕ) (l : Literal) → is_earlier count l ≡ earlier_in count (constant_of l)
  earlier_read count NoneLiteral = refl
  earlier_read count (BoolLiteral b) = refl
  earlier_read count (IntLiteral n) = refl
  earlier_read count (StrLiteral s) = refl
  earlier_read count (TupleLiteral shape items) = all_earlier_read count items
  earlier_read count (CodeLiteral n) = refl
  earlier_read count (BuiltinLiteral f) = refl

  all_earlier_read : {m : _} (count : ℕ) (items : Row_of-Literal m) → are_earlier count items ≡ all_earlier_in count (constants_in items)
  all_earlier_read count end_of-Literal = refl
  all_earlier_read count (more_of-Literal item items) = ap₂ ◌&&◌ (earlier_read count item) (all_earlier_read count items)

-- ---- whether it is loaded

abbrev mutual
  pub loaded_in : Constant → Bool
  loaded_in (tuple cs) = all_loaded_in cs
  loaded_in (builtin f) = is_driving f
  loaded_in _ = true

  pub all_loaded_in : Constants → Bool
  all_loaded_in no_more = true
  all_loaded_in (constant c cs) = loaded_in c && all_loaded_in cs

mutual
  pub loaded_read : (l : Literal) → is_loaded l ≡ loaded_in (constant_of l)
  loaded_read NoneLiteral = refl
  loaded_read (BoolLiteral b) = refl
  loaded_read (IntLiteral n) = refl
  loaded_read (StrLiteral s) = refl
  loaded_read (TupleLiteral shape items) = all_loaded_read items
  loaded_read (CodeLiteral n) = refl
  loaded_read (BuiltinLiteral f) = refl

  all_loaded_read : {m : _} (items : Row_of-Literal m) → are_loaded items ≡ all_loaded_in (constants_in items)
  all_loaded_read end_of-Literal = refl
  all_loaded_read (more_of-Literal item items) = ap₂ ◌&&◌ (loaded_read item) (all_loaded_read items)
