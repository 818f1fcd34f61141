use Rattle.std.proofs.lemmas.Result.{IfOk-weaker}
use Rattle.py_answers.specs.Replying.{reply_of}
use Rattle.py_answers.proofs.ReadingLemmas.{operated_as_made, read_made}
use Rattle.py_answers.proofs.arithmetic.binary.Goals as goal

pub operate-requires-clause-left_made : goal.operate-requires-clause-left_made
operate-requires-clause-left_made c = read_made _ c.args.left _ c.requires.readable.fit c.entry-first.ensures

pub operate-requires-clause-right_made : goal.operate-requires-clause-right_made
operate-requires-clause-right_made c = read_made _ c.args.right _ c.requires.readable.fit c.entry-second.ensures

pub returns-clause-reply : goal.returns-clause-reply
returns-clause-reply c =
    IfOk-weaker c.operate.result _ _
    (λ reply is. operated_as_made c.args.store.now.made c.args.op c.args.left c.args.right c.entry-first.result.now c.entry-second.result.now (reply_of reply) c.entry-first.ensures c.entry-second.ensures is)
    c.operate.ensures.reply
