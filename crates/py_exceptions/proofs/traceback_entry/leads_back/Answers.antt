use Rattle.std.proofs.Common.{Option, sym, subst, ◌∙◌}
use Rattle.py_objects.specs.declared.refs.PyTracebackRef.{PyTracebackRef}
use Rattle.py_objects.specs.Refs.{object_of_traceback}
use Rattle.py_objects.specs.Edits.{objects_of}
use Rattle.py_exceptions.specs.Nexts.{next_at, LeadsBack}
use Rattle.py_exceptions.proofs.LinksLemmas.{found_reaches, none_reaches}
use Rattle.py_exceptions.proofs.traceback_entry.leads_back.Goals as goal

pub returns-clause-yes : goal.returns-clause-yes
returns-clause-yes c is =
    subst (λ (v : Option PyTracebackRef). LeadsBack (objects_of c.args.store.now) c.args.entry v) (sym c.in-Some.is)
    (found_reaches (next_at (objects_of c.args.store.now)) (object_of_traceback c.in-Some.from) (object_of_traceback c.args.entry) c.first_to.result
    (rw (c.from.ensures, c.from-2.ensures) at c.first_to.ensures) (sym c.is_some.ensures ∙ is))

pub returns-clause-no : goal.returns-clause-no
returns-clause-no c is back =
    none_reaches (next_at (objects_of c.args.store.now)) (object_of_traceback c.in-Some.from) (object_of_traceback c.args.entry) c.first_to.result
    (rw (c.from.ensures, c.from-2.ensures) at c.first_to.ensures) (sym c.is_some.ensures ∙ is) c.if-from-entry.false
    (subst (λ (v : Option PyTracebackRef). LeadsBack (objects_of c.args.store.now) c.args.entry v) c.in-Some.is back)
