use Rattle.std.proofs.Common.{Option, length, sym, subst, ap, ◌∙◌}
use Rattle.py_objects.specs.declared.edit.Edit.TheVariants as edit
use Rattle.py_objects.specs.declared.edit.LinkField.TheVariants as link
use Rattle.py_objects.specs.declared.payload.Payload.TheVariants as payload
use Rattle.py_objects.specs.Objects.{Obj, AllBelow, numbers_if}
use Rattle.py_objects.specs.Refs.{object_of_traceback}
use Rattle.py_objects.proofs.ChangesLemmas.{now_within}
use Rattle.py_exceptions.specs.Walks.{link_in}
use Rattle.py_exceptions.proofs.LinksLemmas.{edited_is, traceback_within}
use Rattle.py_exceptions.proofs.traceback_entry.set_next.Goals as goal

pub change-requires-clause-within : goal.change-requires-clause-within
change-requires-clause-within c = rw c.from.ensures (now_within c.args.store.now (object_of_traceback c.args.entry) _ c.requires.entry.1)

pub change-requires-clause-named : goal.change-requires-clause-named
change-requires-clause-named c =
    subst (λ (t : Option Obj). AllBelow (length c.args.store.now.made) (numbers_if t)) (sym c.traceback_object-link.ensures)
    (traceback_within c.args.store.now _ c.requires.value)

pub returns-clause-now : goal.returns-clause-now
returns-clause-now c =
    ap (link_in link.Next)
    (edited_is c.args.store.now c.change.new.self (object_of_traceback c.args.entry) (edit.Link link.Next c.traceback_object-link.result) (payload.Traceback c.requires.entry.0) c.requires.entry.1
    (rw c.from.ensures at c.change.ensures.edited))
    ∙ c.traceback_object-link.ensures
