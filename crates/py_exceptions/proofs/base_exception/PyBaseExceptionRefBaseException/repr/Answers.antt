use Rattle.std.proofs.Common.{◌≡◌, ◌++◌, ◌∙◌, List, ℕ, ap, subst}
use Rattle.std.specs.Prelude.{IfOk, chars}
use Rattle.py_objects.specs.declared.payload.Payload.{Payload}
use Rattle.py_objects.specs.Objects.{Obj, as_object}
use Rattle.py_objects.specs.Edits.{objects_of}
use Rattle.py_exceptions.specs.Texts.{repr}
use Rattle.py_exceptions.proofs.base_exception.PyBaseExceptionRefBaseException.repr.Goals as goal

pub returns : goal.returns
returns c =
    let objects : List Payload = objects_of c.args.store.now in
    let written : c.as_str.result.now ≡ repr objects (as_object c.args.self.now) =
    c.as_str.ensures.value
    ∙ (c.in_ok-push_whole_repr.ensures
    ∙ (ap (λ (front : List ℕ). front ++ repr c.objects.result.now c.from.result) c.new-out.ensures.bytes
    ∙ (ap (λ (exception : Obj). repr c.objects.result.now exception) c.from.ensures
    ∙ ap (λ (os : List Payload). repr os (as_object c.args.self.now)) c.objects.ensures))) in
    subst (λ (bytes : List ℕ). IfOk c.text_of_str.result (λ text. text ≡ chars bytes)) written c.text_of_str.ensures
