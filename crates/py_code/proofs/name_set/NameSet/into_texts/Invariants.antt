use Rattle.std.proofs.Common.{◌≡◌, ◌++◌, map}
use Rattle.py_code.proofs.name_set.NameSet.into_texts.Given as goal

abbrev pub invariant-loop-name : goal.invariant-loop-name
invariant-loop-name l = l.texts ++ map (λ name. name.items) l.name-iterator ≡ l.fn.self
