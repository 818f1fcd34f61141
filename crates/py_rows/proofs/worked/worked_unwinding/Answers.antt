use Rattle.std.proofs.Common.{refl}
use Rattle.py_rows.specs.Unwinding.{unwinds}
use Rattle.py_rows.proofs.worked.worked_unwinding.Goals as goal

pub returns-clause-raise_in_loop : goal.returns-clause-raise_in_loop
unfolding unwinds
returns-clause-raise_in_loop c = refl

pub returns-clause-return_in_loop : goal.returns-clause-return_in_loop
unfolding unwinds
returns-clause-return_in_loop c = refl

pub returns-clause-break_in_loop : goal.returns-clause-break_in_loop
unfolding unwinds
returns-clause-break_in_loop c = refl

pub returns-clause-continue_in_loop : goal.returns-clause-continue_in_loop
unfolding unwinds
returns-clause-continue_in_loop c = refl

pub returns-clause-raise_in_try : goal.returns-clause-raise_in_try
unfolding unwinds
returns-clause-raise_in_try c = refl

pub returns-clause-return_in_try : goal.returns-clause-return_in_try
unfolding unwinds
returns-clause-return_in_try c = refl

pub returns-clause-break_in_try : goal.returns-clause-break_in_try
unfolding unwinds
returns-clause-break_in_try c = refl

pub returns-clause-continue_in_try : goal.returns-clause-continue_in_try
unfolding unwinds
returns-clause-continue_in_try c = refl

pub returns-clause-raise_in_finally : goal.returns-clause-raise_in_finally
unfolding unwinds
returns-clause-raise_in_finally c = refl

pub returns-clause-return_in_finally : goal.returns-clause-return_in_finally
unfolding unwinds
returns-clause-return_in_finally c = refl

pub returns-clause-break_in_finally : goal.returns-clause-break_in_finally
unfolding unwinds
returns-clause-break_in_finally c = refl

pub returns-clause-continue_in_finally : goal.returns-clause-continue_in_finally
unfolding unwinds
returns-clause-continue_in_finally c = refl

pub returns-clause-raise_in_finally_handler : goal.returns-clause-raise_in_finally_handler
unfolding unwinds
returns-clause-raise_in_finally_handler c = refl

pub returns-clause-return_in_finally_handler : goal.returns-clause-return_in_finally_handler
unfolding unwinds
returns-clause-return_in_finally_handler c = refl

pub returns-clause-break_in_finally_handler : goal.returns-clause-break_in_finally_handler
unfolding unwinds
returns-clause-break_in_finally_handler c = refl

pub returns-clause-continue_in_finally_handler : goal.returns-clause-continue_in_finally_handler
unfolding unwinds
returns-clause-continue_in_finally_handler c = refl

pub returns-clause-raise_in_except_handler : goal.returns-clause-raise_in_except_handler
unfolding unwinds
returns-clause-raise_in_except_handler c = refl

pub returns-clause-return_in_except_handler : goal.returns-clause-return_in_except_handler
unfolding unwinds
returns-clause-return_in_except_handler c = refl

pub returns-clause-break_in_except_handler : goal.returns-clause-break_in_except_handler
unfolding unwinds
returns-clause-break_in_except_handler c = refl

pub returns-clause-continue_in_except_handler : goal.returns-clause-continue_in_except_handler
unfolding unwinds
returns-clause-continue_in_except_handler c = refl

pub returns-clause-handler_ends : goal.returns-clause-handler_ends
unfolding unwinds
returns-clause-handler_ends c = λ setting. refl

pub returns-clause-block_ends : goal.returns-clause-block_ends
unfolding unwinds
returns-clause-block_ends c = λ setting. refl

pub returns-clause-finally_ends : goal.returns-clause-finally_ends
unfolding unwinds
returns-clause-finally_ends c = λ setting. refl

pub returns-clause-raise_behind_finally : goal.returns-clause-raise_behind_finally
unfolding unwinds
returns-clause-raise_behind_finally c = λ setting. refl

pub returns-clause-return_behind_finally : goal.returns-clause-return_behind_finally
unfolding unwinds
returns-clause-return_behind_finally c = λ setting. refl

pub returns-clause-break_behind_finally : goal.returns-clause-break_behind_finally
unfolding unwinds
returns-clause-break_behind_finally c = λ setting. refl

pub returns-clause-continue_behind_finally : goal.returns-clause-continue_behind_finally
unfolding unwinds
returns-clause-continue_behind_finally c = λ setting. refl

pub returns-clause-exit_called : goal.returns-clause-exit_called
unfolding unwinds
returns-clause-exit_called c = λ t v b. refl

pub returns-clause-exit_covered : goal.returns-clause-exit_covered
unfolding unwinds
returns-clause-exit_covered c = λ t v b. refl

pub returns-clause-no_exit : goal.returns-clause-no_exit
unfolding unwinds
returns-clause-no_exit c = λ t v b. refl

pub returns-clause-exit_answered : goal.returns-clause-exit_answered
unfolding unwinds
returns-clause-exit_answered c = λ setting. refl

pub returns-clause-raise_behind_exit : goal.returns-clause-raise_behind_exit
unfolding unwinds
returns-clause-raise_behind_exit c = λ setting. refl

pub returns-clause-return_behind_exit : goal.returns-clause-return_behind_exit
unfolding unwinds
returns-clause-return_behind_exit c = λ setting. refl

pub returns-clause-break_behind_exit : goal.returns-clause-break_behind_exit
unfolding unwinds
returns-clause-break_behind_exit c = λ setting. refl

pub returns-clause-continue_behind_exit : goal.returns-clause-continue_behind_exit
unfolding unwinds
returns-clause-continue_behind_exit c = λ setting. refl

pub returns-clause-raise_goes_on : goal.returns-clause-raise_goes_on
unfolding unwinds
returns-clause-raise_goes_on c = refl

pub returns-clause-raise_ends : goal.returns-clause-raise_ends
unfolding unwinds
returns-clause-raise_ends c = refl
