use Rattle.py_lines.proofs.BlockPieces.{no_blocks}
use Rattle.py_lines.proofs.blocks.blocks_of.Goals as goal

pub returns-in_default : goal.returns-in_default
returns-in_default c = no_blocks c.args.token.now c.in_default.not-Dash c.in_default.not-Parts
