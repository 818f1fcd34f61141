use Rattle.py_meaning.proofs.WorkedReportLemmas.{spelled, is_run, text, without_a_source, no_source_line_left_out, no_other_line, no_traceback_left_out, no_empty_report, no_raise_in_its_place, no_value_in_its_place, no_report_of_a_call}
use Rattle.py_meaning.proofs.worked_report.worked_report_drives.Goals as goal

pub returns-clause-spelled : goal.returns-clause-spelled
returns-clause-spelled c = spelled

pub returns-clause-is_run : goal.returns-clause-is_run
returns-clause-is_run c k has = is_run k has

pub returns-clause-text : goal.returns-clause-text
returns-clause-text c k = text k

pub returns-clause-without_a_source : goal.returns-clause-without_a_source
returns-clause-without_a_source c k has = without_a_source k has

pub returns-clause-no_source_line_left_out : goal.returns-clause-no_source_line_left_out
returns-clause-no_source_line_left_out c k j = no_source_line_left_out c.laws_of_reports.ensures.one k j

pub returns-clause-no_other_line : goal.returns-clause-no_other_line
returns-clause-no_other_line c k j = no_other_line c.laws_of_reports.ensures.one k j

pub returns-clause-no_traceback_left_out : goal.returns-clause-no_traceback_left_out
returns-clause-no_traceback_left_out c k j = no_traceback_left_out c.laws_of_reports.ensures.one k j

pub returns-clause-no_empty_report : goal.returns-clause-no_empty_report
returns-clause-no_empty_report c k j = no_empty_report c.laws_of_reports.ensures.one k j

pub returns-clause-no_raise_in_its_place : goal.returns-clause-no_raise_in_its_place
returns-clause-no_raise_in_its_place c k j = no_raise_in_its_place k j

pub returns-clause-no_value_in_its_place : goal.returns-clause-no_value_in_its_place
returns-clause-no_value_in_its_place c k j = no_value_in_its_place k j

pub returns-clause-no_report_of_a_call : goal.returns-clause-no_report_of_a_call
returns-clause-no_report_of_a_call c text r = no_report_of_a_call text r
