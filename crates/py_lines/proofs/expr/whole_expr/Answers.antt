use Rattle.std.proofs.Common.{rules, ◌<◌, map, length, arith}
use Rattle.py_lines.specs.Senses.{meaning_of}
use Rattle.py_tree.specs.ExprViews.{expr_of}
use Rattle.py_lines.specs.Finding.{Fronts}
use Rattle.py_lines.proofs.Fronts.{none_whole, as_many}
use Rattle.py_lines.proofs.expr.whole_expr.Goals as goal

pub returns-then-used-tokens : goal.returns-then-used-tokens
returns-then-used-tokens c =
    let one : Fronts 64 (map meaning_of c.args.tokens.now) (expr_of c.in-Some.expr) c.in-Some.used = search rules in
    let less : c.in-Some.used < length c.args.tokens.now = search rules in
    none_whole 64 (map meaning_of c.args.tokens.now) (expr_of c.in-Some.expr) c.in-Some.used one (omega (arith, less, as_many c.args.tokens.now))
