use Rattle.std.proofs.Common.{Option, subst}
use Rattle.py_objects.specs.Objects.{Obj, IfThere, IsException}
use Rattle.py_objects.specs.Edits.{objects_of}
use Rattle.py_exceptions.proofs.contexts.cut.Goals as goal

pub change_exception-requires-clause-exception : goal.change_exception-requires-clause-exception
change_exception-requires-clause-exception c =
    subst (λ (v : Option Obj). IfThere (IsException (objects_of c.args.store.now)) v) c.in-Some.is c.requires.exception
