use Rattle.std.proofs.Common.{◌≡◌, drop}
use Rattle.py_code.specs.Units.{decoded_from}
use Rattle.py_code.proofs.code.PyCode.decoded.Given as goal

abbrev pub invariant-loop-place : goal.invariant-loop-place
invariant-loop-place l =
    decoded_from l.state l.place (drop l.place l.self.code.instructions.items)
    ≡ decoded_from 0 l.at (drop l.at l.self.code.instructions.items)
