use Rattle.std.proofs.lemmas.Result.{IfOk-weaker}
use Rattle.py_answers.specs.Replying.{reply_of}
use Rattle.py_answers.proofs.ReadingLemmas.{read_made, less_as_made}
use Rattle.py_answers.proofs.comparison.compare.Goals as goal

pub less-requires-clause-left_made : goal.less-requires-clause-left_made
less-requires-clause-left_made c = read_made _ c.args.left _ c.requires.readable.fit c.entry-first.ensures

pub less-requires-clause-right_made : goal.less-requires-clause-right_made
less-requires-clause-right_made c = read_made _ c.args.right _ c.requires.readable.fit c.entry-second.ensures

pub returns-in-Less-clause-reply : goal.returns-in-Less-clause-reply
returns-in-Less-clause-reply c =
    rw c.in-Less.is
    (IfOk-weaker c.less.result _ _ (λ reply is. less_as_made _ c.args.left c.args.right _ _ (reply_of reply) c.entry-first.ensures c.entry-second.ensures is) c.less.ensures.reply)
