use Rattle.std.proofs.Common.{sym, ◌∙◌}
use Rattle.py_reports.proofs.LinesLemmas.{end_cut, end_kept}
use Rattle.py_reports.proofs.lines.without_ends.Goals as goal

pub returns-then-last-ne10 : goal.returns-then-last-ne10
returns-then-last-ne10 c = sym (end_kept _ _ _ c.in-Some.ensures.cases.0 c.if-last-ne10.true) ∙ c.each.invariant

pub each-preserved : goal.each-preserved
each-preserved c = sym (end_cut _ _ _ c.in-Some.ensures.cases.0 c.if-last-ne10.false) ∙ c.each.invariant
