use Rattle.std.proofs.Common.{refl}
use Rattle.py_objects.specs.declared.edit.Edit.TheVariants as edit
use Rattle.py_objects.specs.Edits.{edited_exception}
use Rattle.py_objects.proofs.ChangesLemmas.{now_within}
use Rattle.py_exceptions.proofs.base_exception.PyBaseExceptionRefBaseException.set_args.Goals as goal

pub change_exception-requires-clause-named : goal.change_exception-requires-clause-named
change_exception-requires-clause-named c = (now_within c.args.store.now c.args.args _ c.requires.args.1, tt)

pub returns-clause-now : goal.returns-clause-now
returns-clause-now c = let (e, was, has) = c.change_exception.ensures.now in (edited_exception (edit.Args c.args.args) e, has, refl)
