use Rattle.py_grammar.proofs.Verdicts.{answer_only_scripts, answer_bad}
use Rattle.py_grammar.proofs.parse.parse_lines.Goals as goal

pub returns-clause-only_scripts : goal.returns-clause-only_scripts
returns-clause-only_scripts c = answer_only_scripts c.args.bytes.now c.read_lines.result c.read_lines.ensures

pub returns-clause-bad : goal.returns-clause-bad
returns-clause-bad c = answer_bad c.args.bytes.now c.read_lines.result c.read_lines.ensures
