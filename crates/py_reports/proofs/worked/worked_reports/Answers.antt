use Rattle.py_reports.proofs.WorkedLemmas.{its_own_cause, round_and_round, shows_its_line, stops_early, with_cause, with_context, with_entry, without_context}
use Rattle.py_reports.proofs.worked.worked_reports.Goals as goal

pub returns-clause-cause : goal.returns-clause-cause
returns-clause-cause c = with_cause

pub returns-clause-context : goal.returns-clause-context
returns-clause-context c = with_context

pub returns-clause-suppressed_context : goal.returns-clause-suppressed_context
returns-clause-suppressed_context c = without_context

pub returns-clause-loop_of_contexts : goal.returns-clause-loop_of_contexts
returns-clause-loop_of_contexts c = round_and_round

pub returns-clause-own_cause : goal.returns-clause-own_cause
returns-clause-own_cause c = its_own_cause

pub returns-clause-traceback : goal.returns-clause-traceback
returns-clause-traceback c = with_entry

pub returns-clause-syntax_error : goal.returns-clause-syntax_error
returns-clause-syntax_error c = shows_its_line

pub returns-clause-stops_early : goal.returns-clause-stops_early
returns-clause-stops_early c = stops_early
