use Rattle.std.proofs.Common.{one-add}
use Rattle.py_lines.proofs.Lexing.{word_cut}
use Rattle.py_lines.proofs.token.first_token.Goals as goal

pub returns-in-None : goal.returns-in-None
returns-in-None c =
    word_cut _ c.behind_blanks-rest.result.now c.in_ok-first.more.now _ _ c.in_ok-first.first.now c.first_len.result _ c.in_ok-first.ensures.cases.0
    c.behind_blanks-rest.ensures.same c.behind_blanks-rest.ensures.shorter c.behind_blanks-rest.ensures.front c.in-None.ensures c.first_len.ensures.is (one-add _)
    c.split_at.ensures.front c.split_at.ensures.back
