use Rattle.py_lines.proofs.OneToOne.{same_line}
use Rattle.py_lines.proofs.Readings.{one_way, some_way}
use Rattle.py_lines.proofs.TokenFinders.{read_back}
use Rattle.py_lines.proofs.Utf8.{line_is_utf8}
use Rattle.py_lines.proofs.laws.laws_of_lines.Goals as goal

pub returns-clause-keywords : goal.returns-clause-keywords
returns-clause-keywords c = read_back

pub returns-clause-one_line : goal.returns-clause-one_line
returns-clause-one_line c = same_line

pub returns-clause-one_way : goal.returns-clause-one_way
returns-clause-one_way c = one_way

pub returns-clause-some_way : goal.returns-clause-some_way
returns-clause-some_way c = some_way

pub returns-clause-text : goal.returns-clause-text
returns-clause-text c = line_is_utf8
