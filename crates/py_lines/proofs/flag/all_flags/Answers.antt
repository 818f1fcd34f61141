use Rattle.py_lines.specs.RawLines.{flag_token}
use Rattle.py_lines.specs.Senses.{meaning_of}
use Rattle.py_lines.proofs.Eachs.{none_at, push_at}
use Rattle.py_lines.proofs.flag.all_flags.Goals as goal

pub returns-in-None : goal.returns-in-None
returns-in-None c = none_at meaning_of flag_token _ _ _ _ c.loop-token-test.true c.in-None.is c.flag_of.ensures

pub loop-token-preserved : goal.loop-token-preserved
loop-token-preserved c = push_at meaning_of flag_token _ _ _ _ _ _ _ c.loop-token-test.true c.loop-token.invariant c.in-Some.is c.flag_of.ensures c.in_ok-push-in-Some.ensures.added
