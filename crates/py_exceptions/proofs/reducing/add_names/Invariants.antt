use Rattle.py_exceptions.proofs.ReducingLemmas.{AreNamedTo}
use Rattle.py_exceptions.proofs.reducing.add_names.Given as goal

abbrev pub invariant-loop-place : goal.invariant-loop-place
invariant-loop-place l = AreNamedTo l.fn.store l.store l.attrs l.place l.pairs
