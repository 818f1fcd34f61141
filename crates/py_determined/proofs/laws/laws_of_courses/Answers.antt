use Rattle.py_agreement.specs.Agreement.{by_test}
use Rattle.py_determined.proofs.CoursesAgree.{courses_agree, due_agree}
use Rattle.py_determined.proofs.laws.laws_of_courses.Goals as goal

pub returns : goal.returns
returns c = record {
  courses = λ same objects objects' alike at at' r r' c c' same_at same_r comes comes'. courses_agree (by_test same) objects objects' alike at at' r r' c c' same_at same_r comes comes';
  due = λ same objects objects' alike r r' how how' reply reply' same_r same_how due due'. due_agree (by_test same) objects objects' alike r r' how how' reply reply' same_r same_how due due';
}
