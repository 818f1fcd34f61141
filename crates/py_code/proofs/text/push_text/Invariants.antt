use Rattle.std.proofs.Common.{◌≡◌, ◌++◌, take}
use Rattle.py_code.proofs.text.push_text.Given as goal

abbrev pub invariant-loop-character : goal.invariant-loop-character
invariant-loop-character l = l.text ≡ l.initial.text ++ take l.character-index l.character-items
