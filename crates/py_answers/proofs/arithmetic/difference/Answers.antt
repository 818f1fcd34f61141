use Rattle.std.proofs.Common.{◌∙◌, sym}
use Rattle.std.proofs.lemmas.Int.{to_z-of_z}
use Rattle.std.proofs.lemmas.Result.{IfOk-weaker}
use Rattle.std.specs.Int.{w128}
use Rattle.py_answers.specs.Replying.{reply_of}
use Rattle.py_answers.proofs.AnswersLemmas.{numbers_subtracted}
use Rattle.py_answers.proofs.arithmetic.difference.Goals as goal

pub returns-clause-reply : goal.returns-clause-reply
returns-clause-reply c =
    IfOk-weaker c.whole.result _ _
    (λ reply is. numbers_subtracted c.args.store.now.made c.args.left.now c.args.right.now c.in-Some-Some.first c.in-Some-Some.second (reply_of reply) c.requires.left_made c.requires.right_made
    (sym c.number.ensures.value ∙ c.in-Some-Some.is-0) (sym c.number-2.ensures.value ∙ c.in-Some-Some.is-1) (is _ (rw (to_z-of_z w128 c.in-Some-Some.first c.in-Some-Some.ensures.fits, to_z-of_z w128 c.in-Some-Some.second c.in-Some-Some.ensures'.fits) at c.checked_sub.ensures))) c.whole.ensures.reply
