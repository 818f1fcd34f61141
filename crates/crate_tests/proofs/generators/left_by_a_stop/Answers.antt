use Rattle.std.proofs.Common.{List, ap, subst, sym, slice_get}
use Rattle.py_objects.specs.declared.payload.Payload.{Payload}
use Rattle.py_objects.specs.Objects.{AllFit}
use Rattle.crate_tests.specs.Stop.{stop_body}
use Rattle.crate_tests.proofs.StopLemmas.{stop_fits}
use Rattle.crate_tests.proofs.generators.left_by_a_stop.Goals as goal

pub finish-requires-clause-fit : goal.finish-requires-clause-fit
finish-requires-clause-fit c = subst AllFit (sym c.requires) stop_fits

pub finish-requires-clause-read : goal.finish-requires-clause-read
finish-requires-clause-read c = (stop_body, ap (λ (objects : List Payload). slice_get objects 3) c.requires)
