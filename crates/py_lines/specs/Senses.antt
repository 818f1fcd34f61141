-- What tokens mean as the program finds it.
use Rattle.std.specs.Prelude.{List, map}
use Rattle.std.specs.Global.{Vec}
use Rattle.py_lines.specs.declared.piece.Piece.{Piece as OwnPiece}
use Rattle.py_lines.specs.declared.piece.Piece.TheVariants as own_piece
use Rattle.py_lines.specs.declared.meaning.Sense.{Sense}
use Rattle.py_lines.specs.declared.meaning.Sense.TheVariants as sense
use Rattle.py_lines.specs.Meaning.{Meaning, Open, Close, Equals, Key, Word, Number, Text, Drive, Ref, Dash, Parts}
use Rattle.py_lines.specs.Parts.{Piece, Letters, Count, Jump, parts_of}

-- a meaning of the program apart from where its bytes stand
abbrev pub meaning_of : Sense → Meaning
meaning_of sense.Open = Open
meaning_of sense.Close = Close
meaning_of sense.Equals = Equals
meaning_of (sense.Key k) = Key k
meaning_of (sense.Word w) = Word w.now
meaning_of (sense.Number n) = Number n
meaning_of (sense.Text t) = Text t.now
meaning_of (sense.Drive n) = Drive n
meaning_of (sense.Ref w) = Ref w.now
meaning_of sense.Dash = Dash
meaning_of (sense.Parts w) = Parts (parts_of w.now)

-- a piece of the program, likewise, and lists of those
abbrev pub piece_view : OwnPiece → Piece
piece_view (own_piece.Letters w) = Letters w.now
piece_view (own_piece.Count n) = Count n
piece_view (own_piece.Jump p) = Jump p

abbrev pub pieces_view : Vec OwnPiece → List Piece
pieces_view ps = map piece_view ps.items
