use Rattle.std.proofs.Common.{◌≡◌, ◌++◌, map, take}
use Rattle.py_objects.specs.ErrorKinds.{error_kinds}
use Rattle.py_exceptions.specs.Classes.{class_payload}
use Rattle.py_exceptions.proofs.ClassesLemmas.{declarations}
use Rattle.py_exceptions.proofs.zoo.ExceptionZoo.extend.Given as goal

-- the classes so far are there, and their names are declared
abbrev pub invariant-loop-kind : goal.invariant-loop-kind
invariant-loop-kind l = record {
  added : l.store ≡ record l.initial.store { made = l.initial.store.made ++ map (class_payload l.zoo) (take l.kind-index error_kinds) };
  declared : l.declarations ≡ declarations l.zoo (take l.kind-index error_kinds);
}
