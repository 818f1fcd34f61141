use Rattle.py_objects.specs.Objects.{as_object}
use Rattle.py_objects.specs.Edits.{objects_of}
use Rattle.py_objects.proofs.ChangesLemmas.{now_within}
use Rattle.py_exceptions.proofs.ContextsLemmas.{still_cut}
use Rattle.py_exceptions.proofs.LinksLemmas.{found_is}
use Rattle.py_exceptions.proofs.contexts.link_context.Goals as goal

pub cut-requires-clause-exception : goal.cut-requires-clause-exception
cut-requires-clause-exception c = found_is (objects_of c.args.store.now) _ _ c.first_to-found.result c.first_to-found.ensures

pub change_exception-requires-clause-exception : goal.change_exception-requires-clause-exception
change_exception-requires-clause-exception c =
    still_cut c.args.store.now c.cut.new.store c.first_to-found.result (as_object c.args.exc) c.cut.ensures.cut c.requires.exception

pub change_exception-requires-clause-named : goal.change_exception-requires-clause-named
change_exception-requires-clause-named c =
    rw c.from-handled.ensures (
      now_within c.cut.new.store (as_object c.args.handled) _
          (still_cut c.args.store.now c.cut.new.store c.first_to-found.result (as_object c.args.handled) c.cut.ensures.cut c.requires.handled).1,
      tt,
    )

pub returns-clause-linked : goal.returns-clause-linked
returns-clause-linked c = record {
  found = c.first_to-found.result;
  first = rw (c.from-handled.ensures, c.from.ensures) at c.first_to-found.ensures;
  between = c.cut.new.store;
  cut = c.cut.ensures.cut;
  set = rw c.from-handled.ensures at c.change_exception.ensures.edited;
}
