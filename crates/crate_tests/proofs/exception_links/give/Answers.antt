use Rattle.std.proofs.Common.{List, ap, refl, slice_get, ◌∙◌}
use Rattle.py_objects.specs.declared.payload.Payload.{Payload}
use Rattle.crate_tests.specs.Linked.{last_entry}
use Rattle.crate_tests.proofs.LinkedLemmas.{args_there, exception_there}
use Rattle.crate_tests.proofs.exception_links.give.Goals as goal

pub set_cause-requires-clause-exception : goal.set_cause-requires-clause-exception
set_cause-requires-clause-exception c = exception_there c.args.store.now (record { number = 3 }) c.requires.made refl

pub set_cause-requires-clause-cause : goal.set_cause-requires-clause-cause
set_cause-requires-clause-cause c = exception_there c.args.store.now (record { number = 4 }) c.requires.made refl

pub set_context-requires-clause-context : goal.set_context-requires-clause-context
set_context-requires-clause-context c =
    exception_there c.set_cause.new.store (record { number = 5 }) (c.set_cause.ensures.edited.suppressed.made ∙ c.set_cause.ensures.edited.linked.made ∙ c.requires.made) refl

pub set_args-requires-clause-args : goal.set_args-requires-clause-args
set_args-requires-clause-args c =
    args_there c.set_context.new.store (c.set_context.ensures.edited.made ∙ c.set_cause.ensures.edited.suppressed.made ∙ c.set_cause.ensures.edited.linked.made ∙ c.requires.made)

pub with_traceback-requires-clause-traceback : goal.with_traceback-requires-clause-traceback
with_traceback-requires-clause-traceback c =
    (last_entry, ap (λ (os : List Payload). slice_get os 7) (c.set_args.ensures.edited.made ∙ c.set_context.ensures.edited.made ∙ c.set_cause.ensures.edited.suppressed.made ∙ c.set_cause.ensures.edited.linked.made ∙ c.requires.made))
