use Rattle.py_meaning.proofs.WorkedShowLemmas.{spelled, any_none, text, no_show_dropped, no_show_twice, no_other_value, no_other_answer, no_other_end, raise_ends, raise_text, no_show_behind_a_raise}
use Rattle.py_objects.specs.Singletons.{none_object}
use Rattle.py_meaning.specs.Worked.{object}
use Rattle.std.proofs.Common.{refl}
use Rattle.py_meaning.proofs.worked_show.worked_shows.Goals as goal

pub returns-clause-spelled : goal.returns-clause-spelled
returns-clause-spelled c = spelled

pub returns-clause-is_run : goal.returns-clause-is_run
returns-clause-is_run c = any_none none_object (object 7) refl refl

pub returns-clause-text : goal.returns-clause-text
returns-clause-text c = text

pub returns-clause-any_none_is_returned : goal.returns-clause-any_none_is_returned
returns-clause-any_none_is_returned c = any_none

pub returns-clause-no_show_dropped : goal.returns-clause-no_show_dropped
returns-clause-no_show_dropped c = no_show_dropped

pub returns-clause-no_show_twice : goal.returns-clause-no_show_twice
returns-clause-no_show_twice c = no_show_twice

pub returns-clause-no_other_value_shown : goal.returns-clause-no_other_value_shown
returns-clause-no_other_value_shown c = no_other_value

pub returns-clause-no_end_by_the_shown_value : goal.returns-clause-no_end_by_the_shown_value
returns-clause-no_end_by_the_shown_value c = no_other_end

pub returns-clause-raise_ends : goal.returns-clause-raise_ends
returns-clause-raise_ends c = raise_ends

pub returns-clause-raise_text : goal.returns-clause-raise_text
returns-clause-raise_text c = raise_text

pub returns-clause-no_statement_behind_a_raise : goal.returns-clause-no_statement_behind_a_raise
returns-clause-no_statement_behind_a_raise c = no_show_behind_a_raise

pub returns-clause-no_answer_but_none : goal.returns-clause-no_answer_but_none
returns-clause-no_answer_but_none c = no_other_answer
