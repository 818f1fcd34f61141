use Rattle.std.proofs.Common.{refl}
use Rattle.py_code.proofs.LiteralLemmas.{same_tuple}
use Rattle.py_code.proofs.literal.+copy.Goals as goal

pub Literal::copy-returns-in_ok-copy-in-Tuple : goal.Literal::copy-returns-in_ok-copy-in-Tuple
Literal::copy-returns-in_ok-copy-in-Tuple t c = same_tuple c.in_ok-copy-in-Tuple.field-0 c.in-Tuple.items _ c.args.self.now refl c.in-Tuple.is c.in_ok-copy-in-Tuple.ensures
