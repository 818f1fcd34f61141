use Rattle.std.proofs.Common.{◌≡◌, List, ap, sym, ◌∙◌, option_copied, option_map, slice_get, rules}
use Rattle.std.proofs.lemmas.Option.{gets}
use Rattle.py_tree.specs.declared.stmt.Stmt.{Stmt}
use Rattle.py_tree.specs.declared.stmt.StmtList.{out-StmtList}
use Rattle.py_tree.specs.Tree.{Suite}
use Rattle.py_tree.specs.Suites.{line_of, suite_item}
use Rattle.py_tree.proofs.Trees.{suite_out, item_of_suite}
use Rattle.py_tree.proofs.stmt.StmtList.get.Goals as goal

pub returns : goal.returns
returns c =
    let items : List Stmt = (out-StmtList c.args.self.now).items.items in
    let here : option_copied c.get.result ≡ slice_get items c.args.at = search (rules, gets) in
    ap (option_map line_of) here ∙ sym (item_of_suite items c.args.at) ∙ sym (ap (λ (s : Suite). suite_item s c.args.at) (suite_out c.args.self.now))
