use Rattle.std.proofs.Common.{◌≡◌, length}
use Rattle.std.specs.Prelude.{bytes_eq}
use Rattle.py_objects.proofs.error_kind.is_word.Given as goal

abbrev pub invariant-loop-character : goal.invariant-loop-character
invariant-loop-character l = bytes_eq l.text l.word ≡ bytes_eq l.characters l.bytes

abbrev pub decreases-loop-character : goal.decreases-loop-character
decreases-loop-character l = length l.characters
