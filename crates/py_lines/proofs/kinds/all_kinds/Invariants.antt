use Rattle.std.proofs.Common.{◌≡◌, map, take}
use Rattle.py_lines.specs.RawLines.{kind_pieces}
use Rattle.py_lines.specs.Senses.{pieces_view}
use Rattle.py_lines.proofs.kinds.all_kinds.Given as goal

abbrev pub invariant-loop-pieces : goal.invariant-loop-pieces
invariant-loop-pieces l = map pieces_view (take l.pieces-index l.parts) ≡ map kind_pieces l.kinds
