use Rattle.std.proofs.Common.{◌≡◌, map, take}
use Rattle.py_grammar.specs.Grammar.{codes_in}
use Rattle.py_grammar.specs.Script.{decl_of}
use Rattle.py_script.specs.Loaded.{AreReady}
use Rattle.py_script.specs.Earlier.{earlier_of}
use Rattle.py_script.proofs.loading.codes_for.Given as goal

abbrev pub invariant-loop-declaration : goal.invariant-loop-declaration
invariant-loop-declaration l = record {
  ready : AreReady (codes_in (map decl_of (take l.declaration-index l.declarations))) (record { names = l.names; codes = l.codes.items });
  earlier : l.earlier ≡ earlier_of (codes_in (map decl_of (take l.declaration-index l.declarations)));
}
