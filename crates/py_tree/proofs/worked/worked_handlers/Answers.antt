use Rattle.py_tree.proofs.WorkedHandlerLemmas.{finally_handles, no_finally_forgets, raised_again, not_by_the_clause, name_is_forgotten}
use Rattle.py_tree.proofs.worked.worked_handlers.Goals as goal

pub returns-clause-handles : goal.returns-clause-handles
returns-clause-handles c = finally_handles

pub returns-clause-no_finally_forgets : goal.returns-clause-no_finally_forgets
returns-clause-no_finally_forgets c = no_finally_forgets

pub returns-clause-raised_again : goal.returns-clause-raised_again
returns-clause-raised_again c = raised_again

pub returns-clause-not_by_the_clause : goal.returns-clause-not_by_the_clause
returns-clause-not_by_the_clause c = not_by_the_clause

pub returns-clause-forgotten : goal.returns-clause-forgotten
returns-clause-forgotten c = name_is_forgotten
