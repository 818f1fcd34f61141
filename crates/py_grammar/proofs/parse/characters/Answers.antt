use Rattle.std.proofs.Common.{◌∙◌, ap}
use Rattle.std.specs.Prelude.{chars, encode_utf8_all}
use Rattle.py_grammar.proofs.Texts.{encoded, is_read}
use Rattle.py_grammar.proofs.parse.characters.Goals as goal

pub unreachable-requires : goal.unreachable-requires
unreachable-requires c = is_read c.args.bytes.now c.from_utf8.result c.from_utf8.ensures.cases c.requires c.in_default.not-Ok

pub returns : goal.returns
returns c = ap encode_utf8_all (c.in_ok-text.ensures ∙ ap chars c.in-Ok.ensures.cases.0) ∙ encoded c.args.bytes.now c.requires
