use Rattle.std.proofs.Common.{refl}
use Rattle.py_check.proofs.WorkedLemmas.{typed, typed_behind, breaks, breaks_behind, breaks_whole}
use Rattle.py_check.proofs.rules_worked.worked_rules.Goals as goal

pub returns-clause-cell : goal.returns-clause-cell
returns-clause-cell c = typed _ refl refl

pub returns-clause-no_cell : goal.returns-clause-no_cell
returns-clause-no_cell c = breaks_whole _ refl

pub returns-clause-free_cell : goal.returns-clause-free_cell
returns-clause-free_cell c = typed _ refl refl

pub returns-clause-own_cell : goal.returns-clause-own_cell
returns-clause-own_cell c = breaks_whole _ refl

pub returns-clause-appends : goal.returns-clause-appends
returns-clause-appends c = typed _ refl refl

pub returns-clause-appends_to_a_set : goal.returns-clause-appends_to_a_set
returns-clause-appends_to_a_set c = breaks _ _ refl refl refl

pub returns-clause-appends_below : goal.returns-clause-appends_below
returns-clause-appends_below c = breaks _ _ refl refl refl

pub returns-clause-joins : goal.returns-clause-joins
returns-clause-joins c = typed _ refl refl

pub returns-clause-joins_a_value : goal.returns-clause-joins_a_value
returns-clause-joins_a_value c = breaks _ _ refl refl refl

pub returns-clause-a_list_is_no_set : goal.returns-clause-a_list_is_no_set
returns-clause-a_list_is_no_set c = breaks_whole _ refl

pub returns-clause-calls_by_name : goal.returns-clause-calls_by_name
returns-clause-calls_by_name c = typed _ refl refl

pub returns-clause-a_name_too_many : goal.returns-clause-a_name_too_many
returns-clause-a_name_too_many c = breaks _ _ refl refl refl

pub returns-clause-no_names : goal.returns-clause-no_names
returns-clause-no_names c = breaks _ _ refl refl refl

pub returns-clause-makes_function : goal.returns-clause-makes_function
returns-clause-makes_function c = typed_behind _ _ refl refl

pub returns-clause-no_code : goal.returns-clause-no_code
returns-clause-no_code c = breaks _ _ refl refl refl

pub returns-clause-makes_closure : goal.returns-clause-makes_closure
returns-clause-makes_closure c = typed_behind _ _ refl refl

pub returns-clause-no_closure : goal.returns-clause-no_closure
returns-clause-no_closure c = breaks_behind _ _ _ refl refl refl

pub returns-clause-a_cell_too_many : goal.returns-clause-a_cell_too_many
returns-clause-a_cell_too_many c = breaks_behind _ _ _ refl refl refl

pub returns-clause-loads_earlier_code : goal.returns-clause-loads_earlier_code
returns-clause-loads_earlier_code c = typed_behind _ _ refl refl

pub returns-clause-loads_itself : goal.returns-clause-loads_itself
returns-clause-loads_itself c = breaks_behind _ _ _ refl refl refl

pub returns-clause-iterates : goal.returns-clause-iterates
returns-clause-iterates c = typed _ refl refl

pub returns-clause-iterator_stays : goal.returns-clause-iterator_stays
returns-clause-iterator_stays c = breaks _ _ refl refl refl

pub returns-clause-delegates : goal.returns-clause-delegates
returns-clause-delegates c = typed _ refl refl

pub returns-clause-delegates_behind_a_yield : goal.returns-clause-delegates_behind_a_yield
returns-clause-delegates_behind_a_yield c = breaks _ _ refl refl refl
