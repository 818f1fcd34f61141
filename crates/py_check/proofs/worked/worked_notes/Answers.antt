use Rattle.std.proofs.Common.{refl}
use Rattle.py_check.proofs.WorkedLemmas.{typed, breaks, breaks_whole}
use Rattle.py_check.proofs.worked.worked_notes.Goals as goal

pub returns-clause-sum_keeps : goal.returns-clause-sum_keeps
returns-clause-sum_keeps c = typed _ refl refl

pub returns-clause-too_deep : goal.returns-clause-too_deep
returns-clause-too_deep c = breaks _ _ refl refl refl

pub returns-clause-missing_note : goal.returns-clause-missing_note
returns-clause-missing_note c = breaks_whole _ refl

pub returns-clause-wrong_kind : goal.returns-clause-wrong_kind
returns-clause-wrong_kind c = breaks_whole _ refl

pub returns-clause-dead_note : goal.returns-clause-dead_note
returns-clause-dead_note c = breaks _ _ refl refl refl

pub returns-clause-no_local : goal.returns-clause-no_local
returns-clause-no_local c = breaks _ _ refl refl refl

pub returns-clause-no_operator : goal.returns-clause-no_operator
returns-clause-no_operator c = breaks _ _ refl refl refl

pub returns-clause-no_constant : goal.returns-clause-no_constant
returns-clause-no_constant c = breaks_whole _ refl

pub returns-clause-no_value : goal.returns-clause-no_value
returns-clause-no_value c = breaks _ _ refl refl refl

pub returns-clause-sets_no_local : goal.returns-clause-sets_no_local
returns-clause-sets_no_local c = breaks _ _ refl refl refl

pub returns-clause-sets_a_local_to_nothing : goal.returns-clause-sets_a_local_to_nothing
returns-clause-sets_a_local_to_nothing c = breaks _ _ refl refl refl

pub returns-clause-returns_no_value : goal.returns-clause-returns_no_value
returns-clause-returns_no_value c = breaks _ _ refl refl refl

pub returns-clause-no_end : goal.returns-clause-no_end
returns-clause-no_end c = breaks _ _ refl refl refl

pub returns-clause-subtracts : goal.returns-clause-subtracts
returns-clause-subtracts c = typed _ refl refl

pub returns-clause-multiplies : goal.returns-clause-multiplies
returns-clause-multiplies c = typed _ refl refl

pub returns-clause-compares : goal.returns-clause-compares
returns-clause-compares c = typed _ refl refl

pub returns-clause-compares_otherwise : goal.returns-clause-compares_otherwise
returns-clause-compares_otherwise c = breaks _ _ refl refl refl

pub returns-clause-global : goal.returns-clause-global
returns-clause-global c = typed _ refl refl

pub returns-clause-no_global : goal.returns-clause-no_global
returns-clause-no_global c = breaks_whole _ refl

pub returns-clause-loads_truth : goal.returns-clause-loads_truth
returns-clause-loads_truth c truth = typed _ refl refl

pub returns-clause-loads_builtin : goal.returns-clause-loads_builtin
returns-clause-loads_builtin c f = typed _ refl refl

pub returns-clause-no_earlier_code : goal.returns-clause-no_earlier_code
returns-clause-no_earlier_code c = breaks_whole _ refl

pub returns-clause-three_prefixes : goal.returns-clause-three_prefixes
returns-clause-three_prefixes c = typed _ refl refl

pub returns-clause-four_prefixes : goal.returns-clause-four_prefixes
returns-clause-four_prefixes c = breaks _ _ refl refl refl

pub returns-clause-prefix_counts : goal.returns-clause-prefix_counts
returns-clause-prefix_counts c = breaks _ _ refl refl refl

pub returns-clause-text : goal.returns-clause-text
returns-clause-text c text = typed _ refl refl

pub returns-clause-number : goal.returns-clause-number
returns-clause-number c n = breaks_whole _ refl

pub returns-clause-texts : goal.returns-clause-texts
returns-clause-texts c text = refl

pub returns-clause-other_tuple : goal.returns-clause-other_tuple
returns-clause-other_tuple c text n = refl
