use Rattle.std.proofs.Common.{◌≡◌, length}
use Rattle.std.specs.Vec.Iter.{into_iter_items, into_iter_len}
use Rattle.py_objects.specs.Originals.{restored, AreWithin}
use Rattle.py_objects.proofs.store.Store.into_history.Given as goal

-- the originals that are left make of the payloads what all of them made
abbrev pub invariant-loop-original : goal.invariant-loop-original
invariant-loop-original l = record {
  rest : restored (into_iter_items l.original-iterator) l.payloads.items ≡ restored (into_iter_items l.initial.original-iterator) l.initial.payloads.items;
  within : AreWithin (into_iter_items l.original-iterator) l.payloads.items;
  all : into_iter_len l.original-iterator ≡ length (into_iter_items l.original-iterator);
}
