use Rattle.std.proofs.Common.{◌≡◌, map, take}
use Rattle.py_objects.specs.Objects.{class_object}
use Rattle.py_exceptions.specs.Classes.{class_of}
use Rattle.py_exceptions.proofs.zoo.ExceptionZoo.mro.Given as goal

-- the classes of the bases so far
abbrev pub invariant-loop-base : goal.invariant-loop-base
invariant-loop-base l = l.mro ≡ map (λ base. class_object (class_of l.self base)) (take l.base-index l.base-items)
