use Rattle.std.proofs.Common.{◌≡◌, take, map}
use Rattle.py_code.specs.Literals.{constant_of, literals_of}
use Rattle.py_code.proofs.literal.+copy.Given as goal

abbrev pub invariant-LiteralList::copy-loop-literal : goal.invariant-LiteralList::copy-loop-literal
invariant-LiteralList::copy-loop-literal l = map constant_of (literals_of l.copy) ≡ map constant_of (take l.literal-index l.literal-items)
