use Rattle.std.proofs.Common.{List, ap, slice_get}
use Rattle.py_objects.specs.declared.payload.Payload.{Payload}
use Rattle.crate_tests.specs.Exit.{exit_body}
use Rattle.crate_tests.proofs.exceptions.kinds.Goals as goal

pub is_gen_exit-requires : goal.is_gen_exit-requires
is_gen_exit-requires c = (exit_body, ap (λ (objects : List Payload). slice_get objects 7) c.requires.made)
