use Rattle.std.proofs.Common.{rules, [], ◌∷◌, List, Some, map, ap, subst, ◌∙◌}
use Rattle.py_tree.specs.Tree.{Expr}
use Rattle.py_tree.specs.declared.expr.Expr.{Atom, Operation}
use Rattle.py_tree.proofs.Exprs.{operation_of}
use Rattle.py_lines.specs.declared.keyword.Keyword.TheVariants as keyword
use Rattle.py_lines.specs.Finding.{ShowsExpr}
use Rattle.py_lines.specs.Meaning.{Meaning, Key}
use Rattle.py_lines.specs.Senses.{meaning_of}
use Rattle.py_lines.specs.Printing.{expr_tokens}
use Rattle.py_lines.specs.Reading.{ExprIsLow}
use Rattle.py_lines.proofs.Finds.{no_do, no_do_atom}
use Rattle.py_lines.proofs.plain.do_of.Goals as goal

pub returns-in_default : goal.returns-in_default
returns-in_default c = no_do (map meaning_of c.args.rest.now) _ c.in_default.is c.in_ok-expr.ensures

pub returns-in-Operation : goal.returns-in-Operation
returns-in-Operation c =
    let found : ShowsExpr (map meaning_of c.args.rest.now) (Some (Operation c.in-Operation.operator c.in-Operation.operands)) = search rules in
    let is = operation_of c.in-Operation.operator c.in-Operation.operands in
    (ap (λ (ts : List Meaning). Key keyword.Do ∷ ts) (found.0 ∙ ap (λ (e : Expr). expr_tokens e []) is), subst ExprIsLow is found.1)

pub returns : goal.returns
returns c =
    let found : ShowsExpr (map meaning_of c.args.rest.now) (Some (Atom c.in-Atom.field-0)) = search rules in
    no_do_atom (map meaning_of c.args.rest.now) c.in-Atom.field-0 found.0
