-- What the functions that write a journal's text promise each other.
use Rattle.std.specs.Prelude.{ℕ, ◌≤◌, ◌≡◌, Option, Some, None, List, ◌++◌, codes}
use Rattle.py_objects.specs.declared.edit.Change.{Change}
use Rattle.py_objects.specs.declared.payload.Payload.{Payload}
use Rattle.py_objects.specs.declared.refs.PyBaseExceptionRef.{PyBaseExceptionRef}
use Rattle.py_objects.specs.Edits.{store_at}
use Rattle.py_objects.specs.Due.{AreInOrder}
use Rattle.py_exceptions.specs.Writing.{raised_text}
use Rattle.py_meaning.specs.Text.{numbered}

-- the line of a drive that ends by a raise
abbrev pub raised_line : List Payload → ℕ → PyBaseExceptionRef → List ℕ
raised_line objects d e = numbered d (codes " raises " ++ raised_text objects e)

-- the objects as they were made, until some are there that changed
abbrev pub latest : List Payload → Option (List Payload) → List Payload
latest made None = made
latest made (Some changed) = changed

-- the latest objects are those before with the changes that are due at an event
abbrev pub HasDue : List Payload → Option (List Payload) → Option (List Payload) → List Change → ℕ → Type 0
HasDue made before after changes k = latest made after ≡ store_at (latest made before) changes k

-- from an event on, these objects and the changes that are left tell the objects at each event
pub record AreLeft (made now : List Payload) (changes left : List Change) (k : ℕ) : Type 0 where
  pub order : AreInOrder left
  pub at : (j : ℕ) → k ≤ j → store_at made changes j ≡ store_at now left j
