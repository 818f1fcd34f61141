use Rattle.std.proofs.Common.{take}
use Rattle.py_code.specs.Literals.{literals_of}
use Rattle.py_raw.specs.RawSheet.{AreLiteralsOf}
use Rattle.py_raw.proofs.constants.literals_of.Given as goal

abbrev pub invariant-loop-constant : goal.invariant-loop-constant
invariant-loop-constant l = AreLiteralsOf l.earlier (take l.constant-index l.constants) (literals_of l.literals)
