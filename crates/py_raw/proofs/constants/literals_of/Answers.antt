use Rattle.py_code.specs.Literals.{literals_of}
use Rattle.py_raw.proofs.LiteralLemmas.{literals_more}
use Rattle.py_raw.proofs.constants.literals_of.Goals as goal

pub loop-constant-preserved : goal.loop-constant-preserved
loop-constant-preserved c =
    literals_more c.args.earlier.now c.args.constants.now (literals_of c.loop-constant.literals) (literals_of c.push.new.self) c.loop-constant.constant-index
    c.constant-item.result c.in_ok-literal.literal c.loop-constant-test.true c.constant-item.is c.loop-constant.invariant c.in_ok-literal.ensures
    c.in_ok-push.ensures.added
