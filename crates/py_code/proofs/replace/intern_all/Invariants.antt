use Rattle.std.proofs.Common.{◌≡◌, map, take}
use Rattle.py_code.specs.Literals.{literals_of}
use Rattle.py_code.specs.Names.{all_interned}
use Rattle.py_code.specs.Replacing.{AreNames, text_bytes}
use Rattle.py_code.proofs.replace.intern_all.Given as goal

abbrev pub invariant-loop-literal : goal.invariant-loop-literal
invariant-loop-literal l = record {
  named : AreNames l.names l.ids.items (map text_bytes (take l.literal-index (literals_of l.texts)));
  table : l.names ≡ all_interned l.fn.names (map text_bytes (take l.literal-index (literals_of l.texts)));
}
