use Rattle.std.proofs.Common.{◌≡◌, List, ap, sym, ◌∙◌, option_copied, option_map, slice_get, rules}
use Rattle.std.proofs.lemmas.Option.{gets}
use Rattle.py_tree.specs.declared.stmt.Clause.{Clause}
use Rattle.py_tree.specs.declared.stmt.ClauseList.{out-ClauseList}
use Rattle.py_tree.specs.Tree.{Clauses}
use Rattle.py_tree.specs.Suites.{handler_of, clauses_item}
use Rattle.py_tree.proofs.Trees.{clauses_out, item_of_clauses}
use Rattle.py_tree.proofs.stmt.ClauseList.get.Goals as goal

pub returns : goal.returns
returns c =
    let items : List Clause = (out-ClauseList c.args.self.now).items.items in
    let here : option_copied c.get.result ≡ slice_get items c.args.at = search (rules, gets) in
    ap (option_map handler_of) here ∙ sym (item_of_clauses items c.args.at) ∙ sym (ap (λ (s : Clauses). clauses_item s c.args.at) (clauses_out c.args.self.now))
