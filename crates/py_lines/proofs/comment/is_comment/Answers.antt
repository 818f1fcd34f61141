use Rattle.py_lines.proofs.Comments.{comment_first}
use Rattle.py_lines.proofs.comment.is_comment.Goals as goal

pub returns-in-Some : goal.returns-in-Some
returns-in-Some c =
    comment_first c.args.line.now c.behind_blanks.result.now c.in-Some.field-0-1.now c.in-Some.first.now c.behind_blanks.ensures.comment c.behind_blanks.ensures.front
    c.in-Some.ensures.cases.0
