use Rattle.py_grammar.proofs.WorkedLemmas.{no_builtin_again, no_call_of_class, no_call_of_manager, no_class_as_enter, no_manager_as_base, no_own_base, no_second_class, no_throw_of_manager, small_is_script}
use Rattle.py_grammar.proofs.worked.worked_scripts.Goals as goal

pub returns-clause-small_is_script : goal.returns-clause-small_is_script
returns-clause-small_is_script c = small_is_script

pub returns-clause-no_own_base : goal.returns-clause-no_own_base
returns-clause-no_own_base c = no_own_base

pub returns-clause-no_manager_as_base : goal.returns-clause-no_manager_as_base
returns-clause-no_manager_as_base c = no_manager_as_base

pub returns-clause-no_second_class : goal.returns-clause-no_second_class
returns-clause-no_second_class c = no_second_class

pub returns-clause-no_builtin_again : goal.returns-clause-no_builtin_again
returns-clause-no_builtin_again c = no_builtin_again

pub returns-clause-no_class_as_enter : goal.returns-clause-no_class_as_enter
returns-clause-no_class_as_enter c = no_class_as_enter

pub returns-clause-no_call_of_class : goal.returns-clause-no_call_of_class
returns-clause-no_call_of_class c = no_call_of_class

pub returns-clause-no_call_of_manager : goal.returns-clause-no_call_of_manager
returns-clause-no_call_of_manager c = no_call_of_manager

pub returns-clause-no_throw_of_manager : goal.returns-clause-no_throw_of_manager
returns-clause-no_throw_of_manager c = no_throw_of_manager
