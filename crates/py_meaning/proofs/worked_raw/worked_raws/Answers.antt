use Rattle.std.proofs.Common.{refl}
use Rattle.py_meaning.proofs.WorkedRawLemmas.{spelled, is_run, text, tells_anything, no_entry, no_other_code, no_other_name, not_core}
use Rattle.py_meaning.proofs.worked_raw.worked_raws.Goals as goal

pub returns-clause-spelled : goal.returns-clause-spelled
returns-clause-spelled c = spelled

pub returns-clause-is_run : goal.returns-clause-is_run
returns-clause-is_run c = is_run

pub returns-clause-text : goal.returns-clause-text
returns-clause-text c = text

pub returns-clause-counted : goal.returns-clause-counted
returns-clause-counted c = refl

pub returns-clause-uncounted : goal.returns-clause-uncounted
returns-clause-uncounted c = refl

pub returns-clause-generating : goal.returns-clause-generating
returns-clause-generating c = refl

pub returns-clause-no_entry_with_more_arguments : goal.returns-clause-no_entry_with_more_arguments
returns-clause-no_entry_with_more_arguments c = no_entry

pub returns-clause-no_other_code : goal.returns-clause-no_other_code
returns-clause-no_other_code c = no_other_code

pub returns-clause-no_other_name : goal.returns-clause-no_other_name
returns-clause-no_other_name c = no_other_name

pub returns-clause-tells_anything : goal.returns-clause-tells_anything
returns-clause-tells_anything c = tells_anything

pub returns-clause-is_not_core : goal.returns-clause-is_not_core
returns-clause-is_not_core c = not_core

pub returns-clause-is_core : goal.returns-clause-is_core
returns-clause-is_core c = record { declares = refl; drives_plainly = refl }
