use Rattle.std.proofs.Common.{◌≡◌, ◌≤◌, length, map, take}
use Rattle.py_grammar.specs.Grammar.{codes_in}
use Rattle.py_grammar.specs.Script.{decl_of}
use Rattle.py_script.specs.Loaded.{HasObjects}
use Rattle.py_script.proofs.declaring.add_declarations.Given as goal

abbrev pub invariant-loop-declaration : goal.invariant-loop-declaration
invariant-loop-declaration l = record {
  added : HasObjects (map decl_of (take l.declaration-index l.declarations)) l.fn.vm l.vm;
  number : l.code ≡ length (codes_in (map decl_of (take l.declaration-index l.declarations)));
  few : l.code ≤ l.declaration-index;
}
