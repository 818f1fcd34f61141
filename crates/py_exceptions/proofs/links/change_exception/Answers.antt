use Rattle.py_objects.specs.declared.payload.Payload.TheVariants as payload
use Rattle.py_objects.specs.Objects.{as_object}
use Rattle.py_objects.proofs.ChangesLemmas.{now_within}
use Rattle.py_exceptions.proofs.LinksLemmas.{edited_is, fits_now}
use Rattle.py_exceptions.proofs.links.change_exception.Goals as goal

pub change-requires-clause-within : goal.change-requires-clause-within
change-requires-clause-within c = rw c.from.ensures (now_within c.args.store.now (as_object c.args.exc) _ c.requires.exception.1)

pub change-requires-clause-fits : goal.change-requires-clause-fits
change-requires-clause-fits c = rw c.from.ensures (fits_now c.args.store.now (as_object c.args.exc) c.args.edit c.requires.exception c.requires.fits)

pub returns-clause-now : goal.returns-clause-now
returns-clause-now c = (
  c.requires.exception.0,
  c.requires.exception.1,
  edited_is c.args.store.now c.change.new.self (as_object c.args.exc) c.args.edit (payload.Exception c.requires.exception.0) c.requires.exception.1
      (rw c.from.ensures at c.change.ensures.edited),
)
