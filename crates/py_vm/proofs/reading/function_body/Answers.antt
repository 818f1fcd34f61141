use Rattle.std.proofs.Common.{ap, sym, ◌∙◌}
use Rattle.std.specs.Prelude.{option_copied}
use Rattle.py_vm.proofs.CallsLemmas.{function_read}
use Rattle.py_vm.proofs.ReadingLemmas.{function_is}
use Rattle.py_vm.proofs.reading.function_body.Goals as goal

pub returns : goal.returns
returns c =
    function_read c.args.store.now.made c.args.function c.entry.result.now c.in-Some.body.now c.entry.ensures
    (function_is c.entry.result.now c.in-Some.body.now (sym c.function.ensures ∙ ap option_copied c.in-Some.is))
