use Rattle.std.proofs.Common.{ap, sym, ◌∙◌}
use Rattle.std.specs.Prelude.{option_copied}
use Rattle.py_vm.proofs.CallsLemmas.{manager_read}
use Rattle.py_vm.proofs.ReadingLemmas.{manager_is}
use Rattle.py_vm.proofs.reading.manager_body.Goals as goal

pub returns : goal.returns
returns c =
    manager_read c.args.store.now.made c.args.manager c.entry.result.now c.in-Some.body.now c.entry.ensures
    (manager_is c.entry.result.now c.in-Some.body.now (sym c.manager.ensures ∙ ap option_copied c.in-Some.is))
