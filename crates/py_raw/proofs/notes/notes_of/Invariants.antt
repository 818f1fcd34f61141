use Rattle.std.proofs.Common.{◌≡◌, take, map}
use Rattle.py_raw.specs.RawSheet.{note_at}
use Rattle.py_raw.proofs.notes.notes_of.Given as goal

abbrev pub invariant-loop-unit : goal.invariant-loop-unit
invariant-loop-unit l = l.notes ≡ map note_at (take l.unit-index l.units)
