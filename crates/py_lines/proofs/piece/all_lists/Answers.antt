use Rattle.std.specs.Prelude.{ℕ, List}
use Rattle.std.specs.Borrow.{Bor}
use Rattle.py_lines.specs.Parts.{pieces_of}
use Rattle.py_lines.specs.Senses.{pieces_view}
use Rattle.py_lines.proofs.Cutting.{none_each, push_each}
use Rattle.py_lines.proofs.piece.all_lists.Goals as goal

pub returns-in-None : goal.returns-in-None
returns-in-None c = none_each (λ (w : Bor (List ℕ)). w.now) pieces_of pieces_view _ _ _ _ c.loop-word-test.true c.in-None.is c.in_ok-pieces.ensures

pub loop-word-preserved : goal.loop-word-preserved
loop-word-preserved c = push_each (λ (w : Bor (List ℕ)). w.now) pieces_of pieces_view _ _ _ _ _ _ _ c.loop-word-test.true c.loop-word.invariant c.in-Some.is c.in_ok-pieces.ensures c.in_ok-push-in-Some.ensures.items
