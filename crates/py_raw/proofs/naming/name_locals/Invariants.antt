use Rattle.std.proofs.Common.{◌+◌, length, take}
use Rattle.py_laid.specs.Fits.{Continues}
use Rattle.py_laid.specs.Naming.{NamesAll}
use Rattle.py_raw.specs.RawSheet.{locals_of}
use Rattle.py_raw.proofs.naming.name_locals.Given as goal

abbrev pub invariant-loop-text : goal.invariant-loop-text
invariant-loop-text l = record {
  named : NamesAll l.names l.ids.items (take (length l.block.params + l.text-index) (locals_of l.block));
  grows : Continues l.fn.names l.names;
}
