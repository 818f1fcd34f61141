use Rattle.std.proofs.Common.{Option, ◌∙◌, sym, subst}
use Rattle.py_objects.specs.declared.refs.PyBaseExceptionRef.{PyBaseExceptionRef}
use Rattle.py_objects.specs.Objects.{IfThere, IsException}
use Rattle.py_objects.specs.Edits.{objects_of}
use Rattle.py_exceptions.specs.Contexts.{IsContextualized}
use Rattle.py_exceptions.specs.Links.{exception_object}
use Rattle.py_exceptions.proofs.ContextsLemmas.{linked_is}
use Rattle.py_exceptions.proofs.contexts.contextualize_exception.Goals as goal

pub link_context-requires-clause-handled : goal.link_context-requires-clause-handled
link_context-requires-clause-handled c =
    subst (λ (t : Option PyBaseExceptionRef). IfThere (IsException (objects_of c.args.store.now)) (exception_object t))
    (sym c.topmost_exception.ensures.value ∙ c.in-Some.is) c.requires.handled

pub returns-clause-contextualized : goal.returns-clause-contextualized
returns-clause-contextualized c =
    subst (λ (t : Option PyBaseExceptionRef). IsContextualized c.args.store.now c.link_context.new.store t c.args.exc)
    (sym c.in-Some.is ∙ c.topmost_exception.ensures.value)
    (linked_is c.args.store.now c.link_context.new.store c.in-Some.handled c.args.exc c.if-handled-exc.false c.link_context.ensures.linked)
