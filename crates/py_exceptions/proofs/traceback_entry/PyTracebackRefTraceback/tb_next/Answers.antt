use Rattle.std.proofs.Common.{◌∙◌, ap, sym}
use Rattle.py_objects.specs.declared.edit.LinkField.TheVariants as link
use Rattle.py_exceptions.specs.Walks.{link_in}
use Rattle.py_exceptions.proofs.traceback_entry.PyTracebackRefTraceback.tb_next.Goals as goal

pub returns : goal.returns
returns c = ap (link_in link.Next) c.traceback_body.ensures ∙ sym c.as_traceback.ensures
