use Rattle.std.proofs.Common.{◌∙◌}
use Rattle.py_lines.proofs.Comments.{utf8_read}
use Rattle.py_lines.proofs.comment.is_utf8.Goals as goal

pub returns : goal.returns
returns c = c.is_ok.ensures.value ∙ utf8_read c.args.bytes.now c.from_utf8.result c.from_utf8.ensures.cases
