use Rattle.std.proofs.Common.{◌≡◌, take}
use Rattle.py_raw.specs.RawSheet.{flags_of}
use Rattle.py_raw.proofs.flags.flags_of.Given as goal

abbrev pub invariant-loop-word : goal.invariant-loop-word
invariant-loop-word l = l.flags ≡ flags_of (take l.word-index l.words)
