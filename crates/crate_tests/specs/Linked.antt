-- A store worked by hand: three exceptions without links, and two entries of a traceback.
use Rattle.std.specs.Prelude.{ℕ, Option, Some, None, List, [], ◌∷◌, ◌≡◌}
use Rattle.py_objects.specs.declared.refs.PyBaseExceptionRef.{PyBaseExceptionRef}
use Rattle.py_objects.specs.declared.refs.PyTracebackRef.{PyTracebackRef}
use Rattle.py_objects.specs.declared.payload.Payload.{Payload}
use Rattle.py_objects.specs.declared.payload.Payload.TheVariants as payload
use Rattle.py_objects.specs.declared.payload.ExceptionBody.{ExceptionBody}
use Rattle.py_objects.specs.declared.payload.TracebackBody.{TracebackBody}
use Rattle.py_objects.specs.Objects.{Obj, HasPayload, as_object, IsTraceback}
use Rattle.py_objects.specs.Refs.{object_of_traceback}
use Rattle.py_objects.specs.Values.{new_exception}
use Rattle.py_objects.specs.Edits.{Kept}
use Rattle.crate_tests.specs.Exit.{object, base_class}

-- each exception
abbrev pub bare_body : ExceptionBody
bare_body = new_exception (record { number = 1 }) (object 2)

-- an entry of a traceback in the frame
abbrev pub entry_body : Option Obj → (lasti lineno : ℕ) → TracebackBody
entry_body next lasti lineno = record { next = next; frame = record { number = 6 }; lasti = lasti; lineno = lineno }

-- the entries: the last one, and the one that leads on to it
abbrev pub last_entry : TracebackBody
last_entry = entry_body None 3 5

abbrev pub first_entry : TracebackBody
first_entry = entry_body (Some (object 7)) 4 8

-- its objects: the last one is another tuple of arguments
abbrev pub linked_objects : List Payload
linked_objects =
    payload.None ∷ payload.Class base_class ∷ payload.Tuple [] ∷ payload.Exception bare_body ∷ payload.Exception bare_body ∷ payload.Exception bare_body
    ∷ payload.Frame 0 ∷ payload.Traceback last_entry ∷ payload.Traceback first_entry ∷ payload.Tuple (object 0 ∷ []) ∷ []

-- a store of these
abbrev pub AreLinked : Kept → Type 0
AreLinked store = store.made ≡ linked_objects

-- in which nothing was changed
pub record IsFresh (store : Kept) : Type 0 where
  pub made : AreLinked store
  pub unchanged : store.changes ≡ []

-- a store of one object, in which nothing was changed
pub record IsNew (store : Kept) : Type 0 where
  pub made : store.made ≡ payload.None ∷ []
  pub unchanged : store.changes ≡ []

-- one of the exceptions
abbrev pub IsOneOfThree : PyBaseExceptionRef → Type 0
IsOneOfThree e = HasPayload linked_objects (as_object e) (payload.Exception bare_body)

-- one of the entries
abbrev pub IsOneOfTwo : PyTracebackRef → Type 0
IsOneOfTwo t = IsTraceback linked_objects (object_of_traceback t)
