use Rattle.std.specs.Prelude.{ℕ, List}
use Rattle.std.specs.Borrow.{Bor}
use Rattle.py_lines.specs.Parts.{piece_of}
use Rattle.py_lines.specs.Senses.{piece_view}
use Rattle.py_lines.proofs.Cutting.{none_each, push_each}
use Rattle.py_lines.proofs.piece.all_pieces.Goals as goal

pub returns-in-None : goal.returns-in-None
returns-in-None c = none_each (λ (w : Bor (List ℕ)). w.now) piece_of piece_view _ _ _ _ c.loop-word-test.true c.in-None.is c.piece_of.ensures

pub loop-word-preserved : goal.loop-word-preserved
loop-word-preserved c = push_each (λ (w : Bor (List ℕ)). w.now) piece_of piece_view _ _ _ _ _ _ _ c.loop-word-test.true c.loop-word.invariant c.in-Some.is c.piece_of.ensures c.in_ok-push-in-Some.ensures.items
