-- What an exception can be made again from: a tuple of its class, its arguments, and a dict of its attributes where it has any.
use Rattle.std.specs.Prelude.{ℕ, suc, ◌+◌, Option, Some, None, List, [], ◌∷◌, ◌≡◌, codes, length, if◌then◌else◌}
use Rattle.py_objects.specs.declared.refs.PyBaseExceptionRef.{PyBaseExceptionRef}
use Rattle.py_objects.specs.declared.payload.Payload.{Payload}
use Rattle.py_objects.specs.declared.payload.Payload.TheVariants as payload
use Rattle.py_objects.specs.declared.payload.ExceptionBody.{ExceptionBody}
use Rattle.py_objects.specs.declared.error_kind.ErrorKind.TheVariants.{OSError}
use Rattle.py_objects.specs.ErrorKinds.{name_of}
use Rattle.py_objects.specs.Objects.{Obj, HasPayload, as_object, class_object, numbers, attr_numbers, AllBelow, IsClassObject}
use Rattle.py_objects.specs.Attrs.{Attrs}
use Rattle.py_objects.specs.Pairs.{Pairs}
use Rattle.py_objects.specs.Ancestry.{derives_from}
use Rattle.py_objects.specs.Edits.{Kept, objects_of}
use Rattle.py_objects.specs.Growth.{with_object}
use Rattle.py_exceptions.specs.Repr.{payload_of, items_of}
use Rattle.py_exceptions.specs.Said.{attribute}
use Rattle.py_exceptions.specs.Keeping.{os_args}

-- these files, where they are there, the second one only after a first
abbrev pub file_args : Option Obj → Option Obj → List Obj
file_args None second = []
file_args (Some first) None = first ∷ []
file_args (Some first) (Some second) = first ∷ second ∷ []

-- those of an OSError as it is
abbrev pub files_at : List Payload → ExceptionBody → List Obj
files_at objects e = file_args (attribute objects e (codes "filename")) (attribute objects e (codes "filename2"))

-- two arguments with these files after them
abbrev pub two_and : List Obj → List Obj → Option (List Obj)
two_and files (number ∷ message ∷ []) = Some (number ∷ message ∷ files)
two_and files vs = None

-- the arguments that stand in place of an exception's own: an OSError that has from two to five gives the first two, and then its
-- files, and each other exception its own
abbrev pub remade_args : List Payload → ExceptionBody → Option (List Obj)
remade_args objects e =
    if derives_from objects (class_object e.class) (name_of OSError)
    then two_and (files_at objects e) (os_args (items_of (payload_of objects e.args)))
    else None

-- they name objects below a number
abbrev pub AreArgsBelow : ℕ → Option (List Obj) → Type 0
AreArgsBelow n None = Unit {0}
AreArgsBelow n (Some vs) = AllBelow n (numbers vs)

-- a store with a tuple of other arguments, where there are any
abbrev pub with_args : Kept → Option (List Obj) → Kept
with_args s None = s
with_args s (Some vs) = with_object s (payload.Tuple vs)

-- the tuple of the arguments: the new one, or the exception's own
abbrev pub args_object : Kept → Obj → Option (List Obj) → Obj
args_object s args None = args
args_object s args (Some vs) = record { number = length s.made }

-- a store with the names of attributes, each a new text, in order
abbrev pub with_names : Kept → Attrs → Kept
with_names s [] = s
with_names s (a ∷ attrs) = with_names (with_object s (payload.Str a.0)) attrs

-- the pairs of attributes whose names have numbers from one on
abbrev pub keyed_from : ℕ → Attrs → Pairs
keyed_from n [] = []
keyed_from n (a ∷ attrs) = (record { number = n }, a.1) ∷ keyed_from (suc n) attrs

-- a store with a dict of attributes, where there are any
abbrev pub with_dict : Kept → Attrs → Kept
with_dict s [] = s
with_dict s (a ∷ attrs) = with_object (with_names s (a ∷ attrs)) (payload.Dict (keyed_from (length s.made) (a ∷ attrs)))

-- that dict
abbrev pub dict_object : Kept → Attrs → Option Obj
dict_object s [] = None
dict_object s (a ∷ attrs) = Some (record { number = length (with_names s (a ∷ attrs)).made })

-- the class and the arguments of an exception, and its dict where it has one
abbrev pub tuple_parts : Obj → Obj → Option Obj → List Obj
tuple_parts class args None = class ∷ args ∷ []
tuple_parts class args (Some dict) = class ∷ args ∷ dict ∷ []

-- a store with a tuple of a class, of arguments that are its own or others, and of attributes, after what that needs
abbrev pub with_parts : Kept → (class own : Obj) → Option (List Obj) → Attrs → Kept
with_parts s class own args attrs =
    with_object (with_dict (with_args s args) attrs) (payload.Tuple (tuple_parts class (args_object s own args) (dict_object (with_args s args) attrs)))

-- a store with such a tuple for an exception
abbrev pub with_reduction : Kept → ExceptionBody → Kept
with_reduction s e = with_parts s (class_object e.class) e.args (remade_args (objects_of s) e) e.attrs

-- an exception was reduced to an object, the last one
abbrev pub IsReduced : Kept → Kept → PyBaseExceptionRef → Obj → Type 0
IsReduced old new exc v =
    (e : ExceptionBody) × HasPayload (objects_of old) (as_object exc) (payload.Exception e) × (new ≡ with_reduction old e)
    × (v.number + 1 ≡ length new.made)

-- what an exception names is there: its class, the tuple of its arguments with its items, and the values of its attributes
pub record HasAllParts (s : Kept) (e : ExceptionBody) : Type 0 where
  pub class : IsClassObject (objects_of s) (class_object e.class)
  pub arguments : List Obj
  pub are_arguments : HasPayload (objects_of s) e.args (payload.Tuple arguments)
  pub items : AllBelow (length s.made) (numbers arguments)
  pub values : AllBelow (length s.made) (attr_numbers e.attrs)

-- so it is of an exception that can be reduced
abbrev pub IsReducible : Kept → PyBaseExceptionRef → Type 0
IsReducible s exc = (e : ExceptionBody) × HasPayload (objects_of s) (as_object exc) (payload.Exception e) × HasAllParts s e
