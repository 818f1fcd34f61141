use Rattle.std.proofs.Common.{rules}
use Rattle.py_code.specs.Replacing.{text_given}
use Rattle.py_code.proofs.ReplacingLemmas.{all_are}
use Rattle.py_code.proofs.replace.name_or.Goals as goal

pub returns-in_ok-intern-in-Some-clause-some : goal.returns-in_ok-intern-in-Some-clause-some
returns-in_ok-intern-in-Some-clause-some c = all_are (text_given c.args.given) c.args.names.now c.intern.new.self (search rules)
