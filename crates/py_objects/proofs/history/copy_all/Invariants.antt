use Rattle.std.proofs.Common.{◌≡◌, take}
use Rattle.py_objects.proofs.history.copy_all.Given as goal

abbrev pub invariant-loop-payload : goal.invariant-loop-payload
invariant-loop-payload l = l.copy.items ≡ take l.payload-index l.payloads
