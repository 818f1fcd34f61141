use Rattle.py_reports.proofs.LinesLemmas.{return_cut, return_kept}
use Rattle.py_reports.proofs.lines.without_return.Goals as goal

pub returns-then-last-eq13 : goal.returns-then-last-eq13
returns-then-last-eq13 c = return_cut _ _ _ c.in-Some.ensures.cases.0 c.if-last-eq13.true

pub returns-else-last-eq13 : goal.returns-else-last-eq13
returns-else-last-eq13 c = return_kept _ _ _ c.in-Some.ensures.cases.0 c.if-last-eq13.false
