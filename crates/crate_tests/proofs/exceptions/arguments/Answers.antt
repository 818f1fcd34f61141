use Rattle.std.proofs.Common.{List, [], ◌∷◌, refl, ap, slice_get}
use Rattle.py_objects.specs.declared.payload.Payload.{Payload}
use Rattle.crate_tests.specs.Exit.{object, exit_body}
use Rattle.crate_tests.proofs.ExitLemmas.{exit_now}
use Rattle.crate_tests.proofs.exceptions.arguments.Goals as goal

pub args-requires : goal.args-requires
args-requires c = (exit_body, ap (λ (objects : List Payload). slice_get objects 7) (exit_now c.args.store.now c.requires))

pub get_arg-requires : goal.get_arg-requires
get_arg-requires c =
    let now = exit_now c.args.store.now c.requires in
    (object 5 ∷ [], (object 6, (exit_body, ap (λ (objects : List Payload). slice_get objects 7) now, refl), ap (λ (objects : List Payload). slice_get objects 6) now))
