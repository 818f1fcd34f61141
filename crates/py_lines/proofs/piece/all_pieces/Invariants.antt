use Rattle.std.proofs.Common.{◌≡◌, Some, map, take}
use Rattle.py_lines.specs.PartFinding.{words_view}
use Rattle.py_lines.specs.Parts.{each, piece_of}
use Rattle.py_lines.specs.Senses.{piece_view}
use Rattle.py_lines.proofs.piece.all_pieces.Given as goal

abbrev pub invariant-loop-word : goal.invariant-loop-word
invariant-loop-word l = Some (map piece_view l.pieces.items) ≡ each piece_of (words_view (take l.word-index l.words))
