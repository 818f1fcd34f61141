use Rattle.std.proofs.Common.{◌≡◌, bytes_eq, length}
use Rattle.std.specs.List.{find}
use Rattle.py_lines.specs.Instructions.{instruction_text}
use Rattle.py_lines.proofs.instruction.first_spelled.Given as goal

abbrev pub invariant-loop-first : goal.invariant-loop-first
invariant-loop-first l = find (λ i. bytes_eq l.word (instruction_text i)) l.rest ≡ find (λ i. bytes_eq l.word (instruction_text i)) l.instructions

abbrev pub decreases-loop-first : goal.decreases-loop-first
decreases-loop-first l = length l.rest
