-- What changes do to payloads, and the objects of a run at each of its events.
use Rattle.std.specs.Prelude.{ℕ, nat_le, Option, Some, None, List, [], ◌∷◌, slice_get, slice_set, filter}
use Rattle.py_objects.specs.declared.payload.Payload.{Payload}
use Rattle.py_objects.specs.declared.payload.Payload.TheVariants as payload
use Rattle.py_objects.specs.declared.payload.ExceptionBody.{ExceptionBody}
use Rattle.py_objects.specs.declared.payload.TracebackBody.{TracebackBody}
use Rattle.py_objects.specs.declared.edit.Edit.{Edit}
use Rattle.py_objects.specs.declared.edit.Edit.TheVariants as edit
use Rattle.py_objects.specs.declared.edit.LinkField.{LinkField}
use Rattle.py_objects.specs.declared.edit.LinkField.TheVariants as link
use Rattle.py_objects.specs.declared.edit.Change.{Change}
use Rattle.py_objects.specs.Objects.{Obj, Name}
use Rattle.py_objects.specs.Attrs.{Attrs, inserted, without}
use Rattle.py_objects.specs.Keys.{put, dropped}

-- an exception with a link set; a traceback's link is none of its
abbrev pub linked : LinkField → Option Obj → ExceptionBody → ExceptionBody
linked link.Cause v e = record e { cause = v }
linked link.Context v e = record e { context = v }
linked link.Traceback v e = record e { traceback = v }
linked link.Next v e = e

-- a traceback with its link set; an exception's links are none of its
abbrev pub led_on : LinkField → Option Obj → TracebackBody → TracebackBody
led_on link.Next v t = record t { next = v }
led_on _ v t = t

-- attributes with one set or deleted
abbrev pub with_attr : Name → Option Obj → Attrs → Attrs
with_attr x None attrs = without x attrs
with_attr x (Some v) attrs = inserted x v attrs

-- an exception after an edit
abbrev pub edited_exception : Edit → ExceptionBody → ExceptionBody
edited_exception (edit.Link field v) e = linked field v e
edited_exception (edit.Flag b) e = record e { suppress = b }
edited_exception (edit.Args v) e = record e { args = v }
edited_exception (edit.Attr x v) e = record e { attrs = with_attr x v e.attrs }
edited_exception _ e = e

-- an exception with an attribute set
abbrev pub attr_set : Name → Obj → ExceptionBody → ExceptionBody
attr_set x v e = edited_exception (edit.Attr x (Some v)) e

-- a traceback after an edit
abbrev pub edited_traceback : Edit → TracebackBody → TracebackBody
edited_traceback (edit.Link field v) t = led_on field v t
edited_traceback _ t = t

-- a dict's pairs after an edit, where these are the objects
abbrev pub edited_pairs : List Payload → Edit → List (Obj × Obj) → List (Obj × Obj)
edited_pairs objects (edit.Put k v) ps = put objects k v ps
edited_pairs objects (edit.Drop k) ps = dropped objects k ps
edited_pairs objects _ ps = ps

-- a payload after an edit; one that the edit doesn't fit stays
abbrev pub edited : List Payload → Edit → Payload → Payload
edited objects x payload.None = payload.None
edited objects x (payload.Bool b) = payload.Bool b
edited objects x (payload.Int n) = payload.Int n
edited objects x (payload.Str s) = payload.Str s
edited objects x (payload.Tuple vs) = payload.Tuple vs
edited objects x (payload.Dict ps) = payload.Dict (edited_pairs objects x ps)
edited objects x (payload.Class c) = payload.Class c
edited objects x (payload.Function f) = payload.Function f
edited objects x (payload.Builtin f) = payload.Builtin f
edited objects x (payload.Code n) = payload.Code n
edited objects x (payload.Manager m) = payload.Manager m
edited objects x (payload.Frame c) = payload.Frame c
edited objects x (payload.Generator g) = payload.Generator g
edited objects x (payload.Exception e) = payload.Exception (edited_exception x e)
edited objects x (payload.Traceback t) = payload.Traceback (edited_traceback x t)

-- an entry after an edit, where there is one
abbrev pub edited_entry : List Payload → Edit → ℕ → Option Payload → List Payload
edited_entry objects x i None = objects
edited_entry objects x i (Some p) = slice_set objects i (edited objects x p)

-- the objects after an edit of one of them
abbrev pub with_edit : List Payload → Obj → Edit → List Payload
with_edit objects o x = edited_entry objects x o.number (slice_get objects o.number)

-- the objects after changes, in order
abbrev pub changed_by : List Payload → List Change → List Payload
changed_by objects [] = objects
changed_by objects (c ∷ cs) = changed_by (with_edit objects c.object c.edit) cs

-- the objects of a run at an event, from how they were made: the changes that were made by then have been made
abbrev pub store_at : List Payload → List Change → ℕ → List Payload
store_at made changes k = changed_by made (filter (λ c. nat_le c.after k) changes)
