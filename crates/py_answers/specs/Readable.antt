-- Objects that answers can read.
use Rattle.std.specs.Prelude.{ℕ, Bool, Option, Some, List, ◌≡◌, ◌⊎◌, slice_get}
use Rattle.py_objects.specs.declared.payload.Payload.{Payload}
use Rattle.py_objects.specs.declared.payload.ExceptionBody.{ExceptionBody}
use Rattle.py_objects.specs.declared.edit.Edit.{Edit}
use Rattle.py_objects.specs.declared.edit.Edit.TheVariants as edit
use Rattle.py_objects.specs.declared.edit.LinkField.{LinkField}
use Rattle.py_objects.specs.declared.edit.LinkField.TheVariants as link
use Rattle.py_objects.specs.declared.edit.Change.{Change}
use Rattle.py_objects.specs.Objects.{Obj, AllFit, IfThere, IsException, IsTraceback}
use Rattle.py_objects.specs.Originals.{IsDict}
use Rattle.py_objects.specs.Edits.{Kept}

-- the links of an exception, and whether its context is left out of what is printed
pub record Links : Type 0 where
  pub cause : Option Obj
  pub context : Option Obj
  pub suppress : Bool
  pub traceback : Option Obj

-- those that it has
abbrev pub links_of : ExceptionBody → Links
links_of e = record { cause = e.cause; context = e.context; suppress = e.suppress; traceback = e.traceback }

-- an exception with these
abbrev pub with_links : Links → ExceptionBody → ExceptionBody
with_links l e = record e { cause = l.cause; context = l.context; suppress = l.suppress; traceback = l.traceback }

-- each link is one that the exception was made with, or leads to an object of its kind
pub record AreLinks (objects : List Payload) (e : ExceptionBody) (l : Links) : Type 0 where
  pub cause : (l.cause ≡ e.cause) ⊎ IfThere (IsException objects) l.cause
  pub context : (l.context ≡ e.context) ⊎ IfThere (IsException objects) l.context
  pub traceback : (l.traceback ≡ e.traceback) ⊎ IfThere (IsTraceback objects) l.traceback

-- an edit of a link: it leads to an object of its kind, or is taken away
abbrev pub SetsField : List Payload → LinkField → Option Obj → Type 0
SetsField objects link.Cause v = IfThere (IsException objects) v
SetsField objects link.Context v = IfThere (IsException objects) v
SetsField objects link.Traceback v = IfThere (IsTraceback objects) v
SetsField objects link.Next v = ⊥

-- an edit of a link, or of whether the context is left out of what is printed
abbrev pub SetsLink : List Payload → Edit → Type 0
SetsLink objects x = ((field : LinkField) × (v : Option Obj) × (x ≡ edit.Link field v) × SetsField objects field v) ⊎ ((b : Bool) × (x ≡ edit.Flag b))

-- a change of what no answer reads: of a dict, or of the links of an exception
abbrev pub IsUnread : List Payload → Change → Type 0
IsUnread objects c = IsDict objects c.object ⊎ (IsException objects c.object × SetsLink objects c.edit)

-- each change is one of what no answer reads
abbrev pub ChangeUnread : List Payload → List Change → Type 0
ChangeUnread objects changes = (i : ℕ) (c : Change) → slice_get changes i ≡ Some c → IsUnread objects c

-- objects that answers can read: no change is of more than dicts and links of exceptions, and each entry fits
pub record IsReadable (store : Kept) : Type 0 where
  pub unread : ChangeUnread store.made store.changes
  pub fit : AllFit store.made
