use Rattle.py_agreement.specs.Agreement.{by_test}
use Rattle.py_determined.proofs.ExceptionsAgree.{normalizes_agree, finishes_agree}
use Rattle.py_determined.proofs.AnswersAgree.{replies_agree}
use Rattle.py_determined.proofs.laws.laws_of_answers.Goals as goal

pub returns : goal.returns
returns c = record {
  replies = λ same objects objects' alike r r' reply reply' asked told told'. replies_agree (by_test same) objects objects' alike r r' reply reply' asked told told';
  thrown = λ same objects objects' alike c c' v v' o o' s s' told told'. normalizes_agree (by_test same) objects objects' alike c c' v v' o o' s s' told told';
  finished = λ same objects objects' alike kind closing how how' a a' s told told'. finishes_agree (by_test same) objects objects' alike kind closing how how' a a' s told told';
}
