use Rattle.std.proofs.Common.{◌≡◌, take, map}
use Rattle.py_raw.specs.RawSheet.{line_of}
use Rattle.py_raw.proofs.units.locations_of.Given as goal

abbrev pub invariant-loop-unit : goal.invariant-loop-unit
invariant-loop-unit l = l.lines.items ≡ map line_of (take l.unit-index l.units)
