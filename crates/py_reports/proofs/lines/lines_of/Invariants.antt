use Rattle.py_reports.proofs.LinesLemmas.{IsCut}
use Rattle.py_reports.proofs.lines.lines_of.Given as goal

abbrev pub invariant-loop-c : goal.invariant-loop-c
invariant-loop-c l = IsCut l.text l.lines l.line.items l.c-index
