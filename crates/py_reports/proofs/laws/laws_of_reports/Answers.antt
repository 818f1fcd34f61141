use Rattle.py_reports.proofs.ChainsLemmas.{stands_once}
use Rattle.py_reports.proofs.ReportsLemmas.{is_told, one_report}
use Rattle.py_reports.proofs.laws.laws_of_reports.Goals as goal

pub returns-clause-told : goal.returns-clause-told
returns-clause-told c = is_told

pub returns-clause-once : goal.returns-clause-once
returns-clause-once c = stands_once

pub returns-clause-one : goal.returns-clause-one
returns-clause-one c = one_report
