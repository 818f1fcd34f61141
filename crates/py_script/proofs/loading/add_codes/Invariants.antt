use Rattle.std.proofs.Common.{◌≡◌, ◌++◌}
use Rattle.py_script.specs.Loaded.{AreLoadable, with_codes}
use Rattle.py_script.proofs.loading.add_codes.Given as goal

abbrev pub invariant-loop-code : goal.invariant-loop-code
invariant-loop-code l = record {
  is : l.vm ≡ with_codes l.fn.vm l.yielded;
  loadable : AreLoadable (record l.fn.vm.checked { codes = l.fn.vm.checked.codes ++ l.yielded }) l.code-iterator.rest.items;
}
