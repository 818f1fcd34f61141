use Rattle.std.proofs.Common.{◌≡◌, drop}
use Rattle.py_reports.specs.Scenes.{lines_at}
use Rattle.py_reports.proofs.source.lines_at.Given as goal

abbrev pub invariant-loop-source : goal.invariant-loop-source
invariant-loop-source l = lines_at (drop l.source-index l.sources) l.path ≡ lines_at l.sources l.path
