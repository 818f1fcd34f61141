use Rattle.std.proofs.Common.{List, map, subst}
use Rattle.std.specs.Global.{Vec}
use Rattle.py_lines.specs.declared.piece.Piece.{Piece}
use Rattle.py_lines.specs.Finding.{Prints}
use Rattle.py_lines.specs.RawLines.{kind_pieces}
use Rattle.py_lines.specs.Senses.{piece_view, pieces_view}
use Rattle.py_lines.proofs.Eachs.{none_at}
use Rattle.py_lines.proofs.kinds.all_kinds.Goals as goal

pub returns-in-None : goal.returns-in-None
returns-in-None c =
    let found = subst (λ (ps : List Piece). Prints kind_pieces (map piece_view ps) c.kind_of.result) c.as_slice.ensures.value c.kind_of.ensures in
    none_at pieces_view kind_pieces _ _ _ _ c.loop-pieces-test.true c.in-None.is (subst (λ (ps : Vec Piece). Prints kind_pieces (pieces_view ps) c.kind_of.result) c.pieces-item.is found)
