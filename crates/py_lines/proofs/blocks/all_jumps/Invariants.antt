use Rattle.std.proofs.Common.{◌≡◌, map, take}
use Rattle.py_lines.specs.Parts.{Jump}
use Rattle.py_lines.specs.Senses.{piece_view}
use Rattle.py_lines.proofs.blocks.all_jumps.Given as goal

abbrev pub invariant-loop-piece : goal.invariant-loop-piece
invariant-loop-piece l = map piece_view (take l.piece-index l.pieces) ≡ map Jump l.jumps
