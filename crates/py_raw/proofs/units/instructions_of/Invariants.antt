use Rattle.std.proofs.Common.{◌≡◌, take, map}
use Rattle.py_raw.specs.RawSheet.{unit_of}
use Rattle.py_raw.proofs.units.instructions_of.Given as goal

abbrev pub invariant-loop-unit : goal.invariant-loop-unit
invariant-loop-unit l = l.instructions.items ≡ map unit_of (take l.unit-index l.units)
