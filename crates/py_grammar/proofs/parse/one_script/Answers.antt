use Rattle.py_grammar.proofs.Verdicts.{script_or_bad, one_tree, not_both, one_bad_line}
use Rattle.py_grammar.proofs.parse.one_script.Goals as goal

pub returns-clause-script_or_bad : goal.returns-clause-script_or_bad
returns-clause-script_or_bad c = script_or_bad c.laws_of_lines.ensures.some_way c.args.bytes.now

pub returns-clause-one_tree : goal.returns-clause-one_tree
returns-clause-one_tree c = one_tree c.args.bytes.now

pub returns-clause-not_both : goal.returns-clause-not_both
returns-clause-not_both c = not_both c.args.bytes.now

pub returns-clause-one_bad : goal.returns-clause-one_bad
returns-clause-one_bad c = one_bad_line c.args.bytes.now
