use Rattle.std.proofs.Common.{◌≡◌, map, take}
use Rattle.frame_tests.specs.Codes.{note_of}
use Rattle.frame_tests.proofs.codes.notes.Given as goal

abbrev pub invariant-loop-row : goal.invariant-loop-row
invariant-loop-row l = l.made ≡ map note_of (take l.row-index l.rows)
