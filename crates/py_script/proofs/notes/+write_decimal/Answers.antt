use Rattle.std.proofs.Common.{arith}
use Rattle.std.proofs.lemmas.Fmt.{decimal_digit, decimal_step}
use Rattle.py_script.proofs.NoteLemmas.{two_pieces}
use Rattle.py_script.proofs.notes.+write_decimal.Goals as goal

pub returns-then-number-lt10-clause-whole : goal.returns-then-number-lt10-clause-whole
returns-then-number-lt10-clause-whole g t c = rw (decimal_digit c.args.number c.if-number-lt10.true) c.write_bytes.ensures.whole

pub returns-clause-whole : goal.returns-clause-whole
returns-clause-whole g t c =
    two_pieces _ _ _ _ _ _ _ (decimal_step c.args.number (omega arith) (omega arith)) c.in_ok-write_decimal.ensures.whole c.write_bytes-2.ensures.whole
