use Rattle.py_raw.proofs.RuleLemmas.{keeps_not_breaks, keeps_or_breaks, one_rule_breaks}
use Rattle.py_raw.proofs.laws.laws_of_raw_codes.Goals as goal

pub returns-clause-some_breaks : goal.returns-clause-some_breaks
returns-clause-some_breaks c = keeps_or_breaks

pub returns-clause-one_breaks : goal.returns-clause-one_breaks
returns-clause-one_breaks c = one_rule_breaks

pub returns-clause-none_breaks : goal.returns-clause-none_breaks
returns-clause-none_breaks c = keeps_not_breaks
