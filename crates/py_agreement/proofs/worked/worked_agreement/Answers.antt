use Rattle.py_agreement.proofs.WorkedLemmas.{no_operands_swapped, no_other_shown, no_other_handled, no_question_for_end, no_other_end, nothing_behind_answers, numbers_are_free, scenes_are_faithful}
use Rattle.py_agreement.proofs.worked.worked_agreement.Goals as goal

pub returns : goal.returns
returns c = record {
  no_operands_swapped = no_operands_swapped;
  no_other_shown = no_other_shown;
  no_other_handled = no_other_handled;
  no_question_for_end = no_question_for_end;
  no_other_end = no_other_end;
  nothing_behind_answers = nothing_behind_answers;
  numbers_are_free = numbers_are_free;
  faithful = scenes_are_faithful;
}
