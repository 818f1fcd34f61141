use Rattle.std.proofs.Common.{refl}
use Rattle.py_objects.specs.declared.edit.Edit.TheVariants as edit
use Rattle.py_objects.specs.Edits.{edited_exception}
use Rattle.py_exceptions.proofs.base_exception.PyBaseExceptionRefBaseException.set_suppress_context.Goals as goal

pub returns-clause-now : goal.returns-clause-now
returns-clause-now c = let (e, was, has) = c.change_exception.ensures.now in (edited_exception (edit.Flag c.args.b) e, has, refl)
