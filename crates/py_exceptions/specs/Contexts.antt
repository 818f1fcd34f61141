-- What happens to the context of an exception that comes while another is handled (Python Language Reference, 7.8 and 8.4).
use Rattle.std.specs.Prelude.{Option, Some, None, Bool, true, false, ◌≡◌, ◌==◌}
use Rattle.py_objects.specs.declared.refs.PyBaseExceptionRef.{PyBaseExceptionRef}
use Rattle.py_objects.specs.declared.edit.Edit.{Edit}
use Rattle.py_objects.specs.declared.edit.Edit.TheVariants as edit
use Rattle.py_objects.specs.declared.edit.LinkField.TheVariants as link
use Rattle.py_objects.specs.Objects.{Obj, as_object}
use Rattle.py_objects.specs.Edits.{Kept, objects_of, IsEdited}
use Rattle.py_exceptions.specs.Walks.{link_at, IsAcyclic, IsFirstTo}

-- the edit that sets a context, or takes it off
abbrev pub context_edit : Option Obj → Edit
context_edit v = edit.Link link.Context v

-- an object lost its context, where there is one
abbrev pub LosesContext : Kept → Kept → Option Obj → Type 0
LosesContext old new None = new ≡ old
LosesContext old new (Some x) = IsEdited old new x (context_edit None)

-- the handled exception became the context of another; the first one on the way of contexts from the handled one that had the
-- other for its context lost it before
pub record IsLinked (old new : Kept) (handled exc : Obj) : Type 0 where
  pub found : Option Obj
  pub first : IsFirstTo (link_at link.Context (objects_of old)) handled exc found
  pub between : Kept
  pub cut : LosesContext old between found
  pub set : IsEdited between new exc (context_edit (Some handled))

-- the same where the exception is not the handled one itself, else nothing
abbrev pub IsLinkedUnless : Bool → Kept → Kept → (handled exc : Obj) → Type 0
IsLinkedUnless true old new handled exc = new ≡ old
IsLinkedUnless false old new handled exc = IsLinked old new handled exc

-- what happens as an exception comes while another is handled, or none
abbrev pub IsContextualized : Kept → Kept → Option PyBaseExceptionRef → PyBaseExceptionRef → Type 0
IsContextualized old new None exc = new ≡ old
IsContextualized old new (Some t) exc = IsLinkedUnless (t.number == exc.number) old new (as_object t) (as_object exc)

-- contexts that lead back to no exception still lead back to none, whatever exception comes
abbrev pub ContextsStayAcyclic : Type 0
ContextsStayAcyclic =
    (old new : Kept) (handled : Option PyBaseExceptionRef) (exc : PyBaseExceptionRef) → IsContextualized old new handled exc
    → IsAcyclic (link_at link.Context (objects_of old)) → IsAcyclic (link_at link.Context (objects_of new))
