use Rattle.std.proofs.Common.{Option, length, sym, subst}
use Rattle.py_objects.specs.Objects.{Obj, numbers_if, AllBelow}
use Rattle.py_objects.specs.Edits.{objects_of}
use Rattle.py_exceptions.proofs.LinksLemmas.{exception_within, fits_link, link_leads}
use Rattle.py_exceptions.proofs.links.set_link.Goals as goal

pub change_exception-requires-clause-named : goal.change_exception-requires-clause-named
change_exception-requires-clause-named c =
    subst (λ (v : Option Obj). AllBelow (length c.args.store.now.made) (numbers_if v)) (sym c.exception_object-link.ensures)
    (exception_within c.args.store.now _ c.requires.value)

pub change_exception-requires-clause-fits : goal.change_exception-requires-clause-fits
change_exception-requires-clause-fits c = fits_link c.args.field _ c.requires.field

pub returns-clause-now : goal.returns-clause-now
returns-clause-now c =
    link_leads (objects_of c.args.store.now) (objects_of c.change_exception.new.store) c.args.exc c.args.field c.args.value _ c.requires.field
    c.exception_object-link.ensures c.change_exception.ensures.now
