use Rattle.std.proofs.Common.{refl}
use Rattle.frame_tests.proofs.InputLemmas.{caught, fails}
use Rattle.frame_tests.proofs.inputs.answer.Goals as goal

pub returns-in-Fails : goal.returns-in-Fails
returns-in-Fails c = rw c.exception.ensures (fails c.args.wanted)

pub returns-in-Exception : goal.returns-in-Exception
returns-in-Exception c = rw (c.value-in-Exception.ensures, c.if-is_exception.ensures refl) caught
