use Rattle.std.proofs.Common.{Some, ap, refl, sym, subst, ◌∙◌}
use Rattle.std.specs.Prelude.{slice_set}
use Rattle.py_objects.specs.Edits.{objects_of}
use Rattle.py_objects.specs.Objects.{IfThere, IsException}
use Rattle.py_stack.specs.Slots.{topmost, Slots}
use Rattle.py_exceptions.specs.Links.{exception_object}
use Rattle.crate_tests.proofs.LinkedLemmas.{contextualized_made, exception_there}
use Rattle.crate_tests.proofs.exception_links.come.Goals as goal

pub contextualize_exception-requires-clause-exception : goal.contextualize_exception-requires-clause-exception
contextualize_exception-requires-clause-exception c = exception_there c.args.store.now (record { number = 5 }) c.requires.made refl

pub contextualize_exception-requires-clause-handled : goal.contextualize_exception-requires-clause-handled
contextualize_exception-requires-clause-handled c =
    subst (λ (slots : Slots). IfThere (IsException (objects_of c.args.store.now)) (exception_object (topmost slots)))
    (sym (c.set_exception.ensures.set ∙ ap (λ (slots : Slots). slice_set slots 0 (Some (record { number = 3 }))) c.new-stack.ensures))
    (exception_there c.args.store.now (record { number = 3 }) c.requires.made refl)

pub returns : goal.returns
returns c =
    contextualized_made c.args.store.now c.contextualize_exception.new.store (topmost c.set_exception.new.self) (record { number = 5 })
    c.contextualize_exception.ensures.contextualized ∙ c.requires.made
