use Rattle.std.proofs.Common.{Option, length, sym, subst}
use Rattle.py_objects.specs.declared.edit.Edit.TheVariants as edit
use Rattle.py_objects.specs.declared.edit.LinkField.TheVariants as link
use Rattle.py_objects.specs.Objects.{Obj, as_object, numbers_if, AllBelow}
use Rattle.py_objects.specs.Edits.{objects_of, IsEdited}
use Rattle.py_objects.proofs.ChangesLemmas.{now_within}
use Rattle.py_exceptions.proofs.TracebacksLemmas.{traceback_below, link_sets, set_has}
use Rattle.py_exceptions.proofs.base_exception.PyBaseExceptionRefBaseException.set_traceback.Goals as goal

pub change-requires-clause-within : goal.change-requires-clause-within
change-requires-clause-within c = rw c.from.ensures (now_within c.args.store.now (as_object c.args.self.now) _ c.requires.exception.1)

pub change-requires-clause-named : goal.change-requires-clause-named
change-requires-clause-named c =
    subst (λ (t : Option Obj). AllBelow (length c.args.store.now.made) (numbers_if t)) (sym c.traceback_object-link.ensures)
    (traceback_below c.args.store.now.made _ c.requires.traceback)

pub returns-clause-set : goal.returns-clause-set
returns-clause-set c =
    link_sets c.args.store.now c.change.new.self c.args.self.now c.args.tb c.requires.exception
    (subst (λ (t : Option Obj). IsEdited c.args.store.now c.change.new.self (as_object c.args.self.now) (edit.Link link.Traceback t)) c.traceback_object-link.ensures (rw c.from.ensures at c.change.ensures.edited))

pub returns-clause-now : goal.returns-clause-now
returns-clause-now c = set_has (objects_of c.args.store.now) (objects_of c.change.new.self) c.args.self.now c.args.tb (returns-clause-set c)
