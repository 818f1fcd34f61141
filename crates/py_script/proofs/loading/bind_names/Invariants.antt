use Rattle.std.proofs.Common.{◌≡◌, false, map, take}
use Rattle.py_grammar.specs.Script.{decl_of}
use Rattle.py_script.specs.Session.{AreBindings, OnlyGrew}
use Rattle.py_script.proofs.loading.bind_names.Given as goal

abbrev pub invariant-loop-declaration : goal.invariant-loop-declaration
invariant-loop-declaration l = record {
  works : l.vm.failed ≡ false;
  grew : OnlyGrew l.fn.vm l.vm;
  bindings : AreBindings l.vm.objects (map decl_of (take l.declaration-index l.declarations)) l.pairs;
}
