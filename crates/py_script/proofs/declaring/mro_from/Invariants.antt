use Rattle.std.proofs.Common.{◌≡◌, ◌∷◌, take}
use Rattle.py_script.proofs.declaring.mro_from.Given as goal

abbrev pub invariant-loop-class : goal.invariant-loop-class
invariant-loop-class l = l.mro ≡ l.fn.base ∷ take l.class-index l.class-items
