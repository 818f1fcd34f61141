use Rattle.py_objects.proofs.OwnLemmas.{gets_numbered, resumes_numbered, worked_numbers, answer_numbered}
use Rattle.py_objects.proofs.laws.laws_of_own_events.Goals as goal

pub returns-clause-gets : goal.returns-clause-gets
returns-clause-gets c = gets_numbered

pub returns-clause-resumes : goal.returns-clause-resumes
returns-clause-resumes c = resumes_numbered

pub returns-clause-worked : goal.returns-clause-worked
returns-clause-worked c = worked_numbers

pub returns-clause-answered : goal.returns-clause-answered
returns-clause-answered c = answer_numbered
