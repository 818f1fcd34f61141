use Rattle.std.proofs.Common.{ap, ◌∙◌}
use Rattle.std.specs.Prelude.{encode_utf8_all}
use Rattle.std.proofs.lemmas.Result.{IfOk-weaker}
use Rattle.std.proofs.lemmas.Str.{encodes-chars}
use Rattle.py_vm.proofs.reporting.text_in.Goals as goal

pub returns : goal.returns
returns c = IfOk-weaker c.text_of_str.result _ _ (λ text is. ap encode_utf8_all is ∙ encodes-chars _ c.as_str.utf8 ∙ c.as_str.ensures.value) c.text_of_str.ensures
