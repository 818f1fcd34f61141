use Rattle.std.proofs.Common.{◌≡◌, Some, map, take}
use Rattle.py_lines.specs.PartFinding.{words_view}
use Rattle.py_lines.specs.Parts.{each, pieces_of}
use Rattle.py_lines.specs.Senses.{pieces_view}
use Rattle.py_lines.proofs.piece.all_lists.Given as goal

abbrev pub invariant-loop-word : goal.invariant-loop-word
invariant-loop-word l = Some (map pieces_view l.lists.items) ≡ each pieces_of (words_view (take l.word-index l.words))
