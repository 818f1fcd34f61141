use Rattle.py_body.proofs.emitter.+put_units.Given as goal

abbrev pub decreases-put_units : goal.decreases-put_units
decreases-put_units l = l.width
