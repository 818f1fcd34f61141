use Rattle.py_once.proofs.ThrownOnce.{normalizes_once, finishes_once}
use Rattle.py_once.proofs.OneReply.{replies_once}
use Rattle.py_once.proofs.OneCourse.{comes_once, due_once}
use Rattle.py_once.proofs.OneAnswer.{opens_once, starts_once, replied_once, answered_once, formed_once}
use Rattle.py_once.proofs.laws.laws_of_answers_once.Goals as goal

pub returns : goal.returns
returns c = record {
  replies = λ objects r. replies_once objects r;
  normalizes = λ objects thrown v. normalizes_once objects thrown v;
  finishes = λ objects kind closing how. finishes_once objects kind closing how;
  comes = λ at objects r. comes_once objects at r;
  due = λ objects r how. due_once objects r how;
  opens = λ plan objects p. opens_once objects plan p;
  starts = λ plan objects p phase. starts_once objects plan p phase;
  replied = λ plan objects p phase r. replied_once objects plan p phase r;
  answered = λ plan objects p. answered_once objects plan p;
  formed = λ plan objects p. formed_once objects plan p;
}
