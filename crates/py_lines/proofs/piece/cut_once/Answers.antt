use Rattle.std.proofs.Common.{rules, ◌≡◌, length}
use Rattle.py_lines.proofs.Cutting.{cut_none, cut_some}
use Rattle.py_lines.proofs.piece.cut_once.Goals as goal

pub returns-in_default : goal.returns-in_default
returns-in_default c =
    let none : length c.split_at.result.1.now ≡ 0 = search rules in
    cut_none c.args.mark c.front_len.result c.args.word.now c.split_at.result.1.now c.front_len.ensures.is c.split_at.ensures.back none

pub returns : goal.returns
returns c =
    cut_some c.args.mark c.front_len.result c.in-Some.field-0-0.now c.args.word.now c.split_at.result.0.now c.split_at.result.1.now c.in-Some.behind.now c.front_len.ensures.is c.split_at.ensures.front
    c.split_at.ensures.back c.in-Some.ensures.cases.0
