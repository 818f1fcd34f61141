use Rattle.std.proofs.Common.{ap, sym, ◌∙◌}
use Rattle.std.specs.Prelude.{option_copied}
use Rattle.py_vm.proofs.CallsLemmas.{function_left, manager_read}
use Rattle.py_vm.proofs.ReadingLemmas.{manager_is, no_manager}
use Rattle.py_vm.proofs.WorldLemmas.{exits_by_manager, exits_itself}
use Rattle.py_vm.proofs.world.World.exit_function.Goals as goal

pub returns-in-Some : goal.returns-in-Some
returns-in-Some c =
    let has = manager_read c.args.self.now.store.made c.args.exit c.entry.result.now c.in-Some.body.now c.entry.ensures
    (manager_is c.entry.result.now c.in-Some.body.now (sym c.manager.ensures ∙ ap option_copied c.in-Some.is)) in
    exits_by_manager c.args.self.now.store.made c.args.exit c.in-Some.body.now has (c.requires.readable.fit c.args.exit.number _ has).1.1

pub returns-in-None : goal.returns-in-None
returns-in-None c =
    exits_itself c.args.self.now.store.made c.args.exit
    (function_left c.args.self.now.store.made c.args.exit c.entry.result.now c.requires.exit c.entry.ensures
    (λ b. no_manager c.entry.result.now b (sym c.manager.ensures ∙ ap option_copied c.in-None.is)))
