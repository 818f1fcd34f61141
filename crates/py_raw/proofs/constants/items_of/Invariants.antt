use Rattle.std.proofs.Common.{◌≡◌, take, map}
use Rattle.py_code.specs.Literals.{constant_of, literals_of}
use Rattle.py_raw.specs.RawSheet.{plain_constant}
use Rattle.py_raw.proofs.constants.items_of.Given as goal

abbrev pub invariant-loop-atom : goal.invariant-loop-atom
invariant-loop-atom l = map constant_of (literals_of l.items) ≡ map plain_constant (take l.atom-index l.atoms)
