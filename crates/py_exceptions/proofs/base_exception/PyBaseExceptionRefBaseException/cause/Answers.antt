use Rattle.std.proofs.Common.{◌∙◌, ap, sym}
use Rattle.py_objects.specs.declared.edit.LinkField.TheVariants as link
use Rattle.py_exceptions.specs.Walks.{link_in}
use Rattle.py_exceptions.proofs.base_exception.PyBaseExceptionRefBaseException.cause.Goals as goal

pub returns : goal.returns
returns c = ap (link_in link.Cause) c.exception_body.ensures ∙ sym c.as_exception.ensures
