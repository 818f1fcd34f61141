use Rattle.std.proofs.Common.{rules, ◌≡◌, ◌≢◌, map, drop, ap, sym, ◌∙◌}
use Rattle.std.specs.Prelude.{Option}
use Rattle.std.proofs.lemmas.List.{drop-map}
use Rattle.py_tree.specs.Tree.{Name}
use Rattle.py_tree.specs.ExprViews.{expr_of}
use Rattle.py_lines.specs.Finding.{Fronts}
use Rattle.py_lines.specs.Senses.{meaning_of}
use Rattle.py_lines.specs.Printing.{expr_tokens, target_tokens}
use Rattle.py_lines.proofs.Expressions.{one_expr}
use Rattle.py_lines.proofs.Finds.{none_prints}
use Rattle.py_lines.proofs.head.expr_and_target.Goals as goal

pub returns-in_default-2 : goal.returns-in_default-2
returns-in_default-2 c =
    let ts = map meaning_of c.args.tokens.now in
    let one : Fronts 64 ts (expr_of c.in-Some.expr) c.in-Some.used = search rules in
    let rest : map meaning_of c.from.result.now ≡ drop c.in-Some.used ts = ap (map meaning_of) c.from.ensures ∙ sym (drop-map meaning_of c.in-Some.used c.args.tokens.now) in
    let none : (x : Option Name) → map meaning_of c.from.result.now ≢ target_tokens x = none_prints target_tokens _ _ c.in_default-2.is c.in_ok-target.ensures in
    λ z low same. none z.1 (rest ∙ (one_expr (expr_of c.in-Some.expr) z.0 (drop c.in-Some.used ts) (target_tokens z.1) (sym one.0 ∙ same)).1)

pub returns : goal.returns
returns c =
    let ts = map meaning_of c.args.tokens.now in
    let one : Fronts 64 ts (expr_of c.in-Some.expr) c.in-Some.used = search rules in
    let rest : map meaning_of c.from.result.now ≡ drop c.in-Some.used ts = ap (map meaning_of) c.from.ensures ∙ sym (drop-map meaning_of c.in-Some.used c.args.tokens.now) in
    let found : map meaning_of c.from.result.now ≡ target_tokens c.in-Some-2.target = search rules in
    (one.0 ∙ ap (expr_tokens (expr_of c.in-Some.expr)) (sym rest ∙ found), one.1)
