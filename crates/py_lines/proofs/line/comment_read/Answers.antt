use Rattle.py_lines.proofs.Readings.{bad_comment}
use Rattle.py_lines.proofs.line.comment_read.Goals as goal

pub returns-else-is_utf8 : goal.returns-else-is_utf8
returns-else-is_utf8 c = bad_comment c.args.bytes.now c.requires c.if-is_utf8.ensures
