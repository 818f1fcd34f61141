use Rattle.std.proofs.Common.{◌≡◌, take}
use Rattle.py_body.proofs.locals.bind_params.Given as goal

abbrev pub invariant-loop-param : goal.invariant-loop-param
invariant-loop-param l = l.names ≡ take l.param-index l.params
