use Rattle.py_laid.proofs.Tracing.{runs_are_traces}
use Rattle.py_laid.proofs.TypingCode.{laid_code_is_typed}
use Rattle.py_laid.proofs.Fitting.{laid_code_fits}
use Rattle.py_laid.proofs.Uses.{laid_code_is_compiled}
use Rattle.py_laid.proofs.Slot.{questions_name_slot}
use Rattle.py_laid.proofs.laws.laws_of_laid_code.Goals as goal

pub returns-clause-runs_are_traces : goal.returns-clause-runs_are_traces
returns-clause-runs_are_traces c = runs_are_traces

pub returns-clause-typed : goal.returns-clause-typed
returns-clause-typed c = laid_code_is_typed

pub returns-clause-fits : goal.returns-clause-fits
returns-clause-fits c = laid_code_fits

pub returns-clause-uses : goal.returns-clause-uses
returns-clause-uses c = laid_code_is_compiled

pub returns-clause-slot : goal.returns-clause-slot
returns-clause-slot c = questions_name_slot
