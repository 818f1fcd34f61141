use Rattle.std.proofs.Common.{ap, ◌∙◌}
use Rattle.std.proofs.lemmas.Result.{IfOk-weaker}
use Rattle.py_reports.specs.Chains.{chained}
use Rattle.py_reports.proofs.chain.chain_of.Goals as goal

pub returns : goal.returns
returns c =
    IfOk-weaker c.chain_up.result _ _ (λ chain is. (c.in_ok-met.met, c.in_ok-met.ensures, is ∙ ap (chained c.args.objects.now) c.as_slice.ensures)) c.chain_up.ensures
