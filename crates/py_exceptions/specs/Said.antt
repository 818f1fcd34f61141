-- What an exception says (Python Library Reference, Built-in Exceptions), where it is known what the objects in it are as texts, and what
-- represents them.
use Rattle.std.specs.Prelude.{ℕ, Option, Some, None, List, [], ◌∷◌, ◌++◌, codes, encode_utf8_all, if◌then◌else◌}
use Rattle.py_objects.specs.declared.payload.Payload.{Payload}
use Rattle.py_objects.specs.declared.payload.Payload.TheVariants as payload
use Rattle.py_objects.specs.declared.payload.ExceptionBody.{ExceptionBody}
use Rattle.py_objects.specs.declared.error_kind.ErrorKind.TheVariants.{KeyError, OSError, SyntaxError}
use Rattle.py_objects.specs.ErrorKinds.{name_of}
use Rattle.py_objects.specs.Objects.{Obj, Name, class_object}
use Rattle.py_objects.specs.Attrs.{value_of}
use Rattle.py_objects.specs.Values.{text_of}
use Rattle.py_objects.specs.Ancestry.{derives_from}
use Rattle.py_exceptions.specs.Repr.{payload_of, has, in_parentheses}

-- an object with this entry, where it isn't None
abbrev pub unless_none : Obj → Option Payload → Option Obj
unless_none v (Some payload.None) = None
unless_none v _ = Some v

abbrev pub given : List Payload → Option Obj → Option Obj
given objects None = None
given objects (Some v) = unless_none v (payload_of objects v)

-- an attribute of an exception, where it has one that isn't None
abbrev pub attribute : List Payload → ExceptionBody → Name → Option Obj
attribute objects e x = given objects (value_of x e.attrs)

-- the characters of an entry that is a text
abbrev pub text_in : Option Payload → Option Name
text_in None = None
text_in (Some p) = text_of p

-- those of an object, where there is one that is a text
abbrev pub text_at : List Payload → Option Obj → Option Name
text_at objects None = None
text_at objects (Some v) = text_in (payload_of objects v)

-- the part of a path behind its last /
abbrev pub base_name : Name → Name
base_name [] = []
base_name (c ∷ cs) = if has 47 (c ∷ cs) then base_name cs else c ∷ cs

-- the files of an OSError, the second one behind an arrow
abbrev pub second_file : (Obj → List ℕ) → Option Obj → List ℕ
second_file repr None = []
second_file repr (Some v) = codes " -> " ++ repr v

abbrev pub file_and : (Obj → List ℕ) → Option Obj → Option Obj → List ℕ
file_and repr None second = []
file_and repr (Some v) second = codes ": " ++ (repr v ++ second_file repr second)

abbrev pub files : (Obj → List ℕ) → List Payload → ExceptionBody → List ℕ
files repr objects e = file_and repr (attribute objects e (codes "filename")) (attribute objects e (codes "filename2"))

-- the number of a line, where it is known, between these words
abbrev pub line_between : (Obj → List ℕ) → List ℕ → List ℕ → Option Obj → List ℕ
line_between str front back None = []
line_between str front back (Some v) = front ++ (str v ++ back)

-- where a SyntaxError was found: in a file, and at a line
abbrev pub found_at : (Obj → List ℕ) → Option Name → Option Obj → List ℕ
found_at str None line = line_between str (codes " (line ") (codes ")") line
found_at str (Some path) line = codes " (" ++ (encode_utf8_all (base_name path) ++ (line_between str (codes ", line ") [] line ++ codes ")"))

abbrev pub whereabouts : (Obj → List ℕ) → List Payload → ExceptionBody → List ℕ
whereabouts str objects e = found_at str (text_at objects (attribute objects e (codes "filename"))) (attribute objects e (codes "lineno"))

-- any exception with these arguments: nothing without one, a single one as a text, several in parentheses
abbrev pub said : (Obj → List ℕ) → (Obj → List ℕ) → List Obj → List ℕ
said str repr [] = []
said str repr (v ∷ []) = str v
said str repr (v ∷ w ∷ vs) = in_parentheses (Some repr) (v ∷ w ∷ vs)

-- a KeyError with one argument: what represents it
abbrev pub key_said : (Obj → List ℕ) → (Obj → List ℕ) → List Obj → List ℕ
key_said str repr (v ∷ []) = repr v
key_said str repr vs = said str repr vs

module _ (str repr : Obj → List ℕ) (objects : List Payload) (e : ExceptionBody) where
  -- an OSError with two arguments: its number, its message, and its files
  abbrev pub os_said : List Obj → List ℕ
  os_said (number ∷ message ∷ []) = codes "[Errno " ++ (str number ++ (codes "] " ++ (str message ++ files repr objects e)))
  os_said vs = said str repr vs

  -- a SyntaxError with one argument: what represents it, and where it was found
  abbrev pub syntax_said : List Obj → List ℕ
  syntax_said (v ∷ []) = repr v ++ whereabouts str objects e
  syntax_said vs = said str repr vs

  -- an exception with these arguments, by its class
  abbrev pub said_by : List Obj → List ℕ
  said_by vs =
      if derives_from objects (class_object e.class) (name_of KeyError) then key_said str repr vs
      else (if derives_from objects (class_object e.class) (name_of OSError) then os_said vs
      else (if derives_from objects (class_object e.class) (name_of SyntaxError) then syntax_said vs
      else said str repr vs))
