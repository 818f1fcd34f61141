use Rattle.py_lines.proofs.Instructions.{found_instruction}
use Rattle.py_lines.proofs.instruction.instruction_of.Goals as goal

pub returns : goal.returns
returns c = found_instruction c.args.word.now c.first_spelled.result c.first_spelled.ensures
