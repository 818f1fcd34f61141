use Rattle.std.proofs.Common.{rules}
use Rattle.std.proofs.lemmas.Str.{chars_from_encodes}
use Rattle.py_code.proofs.text.text_of_str.Goals as goal

-- src/text.rt:30:1
pub returns : goal.returns
returns c = search (rules, chars_from_encodes)
