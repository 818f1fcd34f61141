use Rattle.std.proofs.Common.{arith, rules}
use Rattle.std.proofs.lemmas.List.Sums.{prefix_len-le-length}
use Rattle.py_grammar.specs.Pieces.{is_within}
use Rattle.py_grammar.proofs.Cuts.{cut_end, cut_lf}
use Rattle.py_grammar.proofs.lines.first_line.Goals as goal

pub split_at-requires : goal.split_at-requires
split_at-requires c = omega (arith, prefix_len-le-length is_within c.args.bytes.now, c.line_len.ensures)

pub returns-in-None : goal.returns-in-None
returns-in-None c =
    cut_end c.args.bytes.now c.split_at.result.0.now c.split_at.result.1.now c.line_len.result c.line_len.ensures c.split_at.ensures.front c.split_at.ensures.back
    (λ e. search (rules, e, c.is_empty.ensures, c.if-is_empty.false)) c.in-None.ensures.cases

pub returns-in-Some : goal.returns-in-Some
returns-in-Some c =
    cut_lf c.args.bytes.now c.split_at.result.0.now c.split_at.result.1.now c.in-Some.more.now c.chopped.result.now c.in-Some.field-0-0.now
    c.line_len.result c.line_len.ensures c.split_at.ensures.front c.split_at.ensures.back
    (λ e. search (rules, e, c.is_empty.ensures, c.if-is_empty.false)) c.in-Some.ensures.cases.0 c.chopped.ensures
