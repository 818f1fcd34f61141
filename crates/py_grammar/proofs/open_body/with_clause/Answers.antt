use Rattle.std.proofs.Common.{rules}
use Rattle.py_tree.specs.declared.stmt.StmtForm.TheViews.{the_lemmas}
use Rattle.py_grammar.proofs.open_body.with_clause.Goals as goal

-- the clause that the program makes is one of plain fields
pub returns : goal.returns
returns c =
    let added = c.in_ok-push.ensures.added in
    search (rules, the_lemmas)
