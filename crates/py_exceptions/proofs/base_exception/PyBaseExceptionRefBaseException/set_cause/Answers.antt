use Rattle.std.proofs.Common.{◌∙◌, ap, sym, refl, true}
use Rattle.py_objects.specs.declared.edit.Edit.TheVariants as edit
use Rattle.py_objects.specs.declared.edit.LinkField.TheVariants as link
use Rattle.py_objects.specs.Objects.{as_object}
use Rattle.py_objects.specs.Edits.{edited_exception}
use Rattle.py_exceptions.specs.Walks.{link_in}
use Rattle.py_exceptions.proofs.LinksLemmas.{still_exception}
use Rattle.py_exceptions.proofs.base_exception.PyBaseExceptionRefBaseException.set_cause.Goals as goal

pub change_exception-requires-clause-exception : goal.change_exception-requires-clause-exception
change_exception-requires-clause-exception c =
    still_exception c.args.store.now c.set_link.new.store (as_object c.args.self.now) (as_object c.args.self.now) _ c.set_link.ensures.edited c.requires.exception

pub returns-clause-now : goal.returns-clause-now
returns-clause-now c =
    let (e, was, has) = c.change_exception.ensures.now in
    ap (link_in link.Cause) has ∙ sym (ap (link_in link.Cause) was) ∙ c.set_link.ensures.now

pub returns-clause-suppressed : goal.returns-clause-suppressed
returns-clause-suppressed c = let (e, was, has) = c.change_exception.ensures.now in (edited_exception (edit.Flag true) e, has, refl)
