use Rattle.frame_tests.proofs.InputLemmas.{thrown_first, thrown_later}
use Rattle.frame_tests.proofs.inputs.input.Goals as goal

pub returns-in-Throw : goal.returns-in-Throw
returns-in-Throw c = rw (c.exception.ensures, c.in-Start.is) thrown_first

pub returns-in-Throw-said : goal.returns-in-Throw-said
returns-in-Throw-said c = rw (c.exception-in-Throw-said.ensures, c.in-Resume.is) thrown_later
