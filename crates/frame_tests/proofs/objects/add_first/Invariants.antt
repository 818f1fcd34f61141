use Rattle.std.proofs.Common.{◌≡◌, ◌++◌, [], map, take}
use Rattle.py_objects.specs.Singletons.{singletons}
use Rattle.frame_tests.specs.FirstObjects.{payload_of}
use Rattle.frame_tests.specs.declared.tables.TheConstants.{FIRST}
use Rattle.frame_tests.proofs.objects.add_first.Given as goal

abbrev pub invariant-loop-first : goal.invariant-loop-first
invariant-loop-first l = record {
  made : l.store.made ≡ singletons ++ map payload_of (take l.first-index FIRST);
  changes : l.store.changes ≡ [];
}
