use Rattle.std.proofs.Common.{refl}
use Rattle.py_check.proofs.WorkedLemmas.{typed, breaks, breaks_whole}
use Rattle.py_check.proofs.raw_worked.worked_raw.Goals as goal

pub returns-clause-label_behind_prefix : goal.returns-clause-label_behind_prefix
returns-clause-label_behind_prefix c = breaks _ _ refl refl refl

pub returns-clause-return_alone : goal.returns-clause-return_alone
returns-clause-return_alone c = typed _ refl refl

pub returns-clause-room : goal.returns-clause-room
returns-clause-room c = typed _ refl refl

pub returns-clause-no_room : goal.returns-clause-no_room
returns-clause-no_room c = breaks_whole _ refl

pub returns-clause-none_is_no_tuple : goal.returns-clause-none_is_no_tuple
returns-clause-none_is_no_tuple c = breaks_whole _ refl

pub returns-clause-pops_nothing : goal.returns-clause-pops_nothing
returns-clause-pops_nothing c = breaks_whole _ refl

pub returns-clause-breaks_no_loop : goal.returns-clause-breaks_no_loop
returns-clause-breaks_no_loop c = breaks_whole _ refl

pub returns-clause-yields_in_no_generator : goal.returns-clause-yields_in_no_generator
returns-clause-yields_in_no_generator c = breaks _ _ refl refl refl

pub returns-clause-prefix_at_the_end : goal.returns-clause-prefix_at_the_end
returns-clause-prefix_at_the_end c = breaks_whole _ refl

pub returns-clause-pops_no_exception : goal.returns-clause-pops_no_exception
returns-clause-pops_no_exception c = breaks_whole _ refl

pub returns-clause-manages_async : goal.returns-clause-manages_async
returns-clause-manages_async c = typed _ refl refl

pub returns-clause-loops_async : goal.returns-clause-loops_async
returns-clause-loops_async c = typed _ refl refl

pub returns-clause-loops_otherwise : goal.returns-clause-loops_otherwise
returns-clause-loops_otherwise c = breaks _ _ refl refl refl
