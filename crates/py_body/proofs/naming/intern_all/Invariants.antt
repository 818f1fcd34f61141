use Rattle.std.proofs.Common.{take}
use Rattle.py_laid.specs.Naming.{NamesAll}
use Rattle.py_laid.specs.Fits.{Continues}
use Rattle.py_body.proofs.naming.intern_all.Given as goal

abbrev pub invariant-loop-text : goal.invariant-loop-text
invariant-loop-text l = record {
  named : NamesAll l.names l.ids.items (take l.text-index l.texts);
  grows : Continues l.fn.names l.names;
}
