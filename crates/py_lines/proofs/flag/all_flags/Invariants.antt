use Rattle.std.proofs.Common.{◌≡◌, take, map}
use Rattle.py_lines.specs.RawLines.{flag_token}
use Rattle.py_lines.specs.Senses.{meaning_of}
use Rattle.py_lines.proofs.flag.all_flags.Given as goal

abbrev pub invariant-loop-token : goal.invariant-loop-token
invariant-loop-token l = map meaning_of (take l.token-index l.tokens) ≡ map flag_token l.flags
