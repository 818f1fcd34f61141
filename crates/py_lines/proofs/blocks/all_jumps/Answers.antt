use Rattle.py_lines.specs.Parts.{Jump}
use Rattle.py_lines.specs.Senses.{piece_view}
use Rattle.py_lines.proofs.Eachs.{none_at}
use Rattle.py_lines.proofs.blocks.all_jumps.Goals as goal

pub returns-in-None : goal.returns-in-None
returns-in-None c = none_at piece_view Jump _ _ _ _ c.loop-piece-test.true c.in-None.is c.jump_of.ensures
