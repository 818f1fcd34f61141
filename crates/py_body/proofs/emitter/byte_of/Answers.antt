use Rattle.std.proofs.Common.{◌<◌, subst, sym}
use Rattle.py_body.proofs.Spelled.{power_fits}
use Rattle.py_body.proofs.emitter.byte_of.Goals as goal

pub pow-requires : goal.pow-requires
pow-requires c = (power_fits c.args.width c.requires).1

pub nonzero_div-result : goal.nonzero_div-result
nonzero_div-result c = subst (λ n. 0 < n) (sym c.pow.ensures) (power_fits c.args.width c.requires).0
