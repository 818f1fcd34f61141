use Rattle.std.proofs.Common.{◌∙◌, ap, ◌++◌, ◌∷◌, [], List, sym, subst}
use Rattle.std.proofs.lemmas.Result.{IfOk-weaker}
use Rattle.py_objects.specs.Objects.{Obj, class_object, IsClassObject}
use Rattle.py_objects.proofs.GrownLemmas.{still_grown, grown_trans}
use Rattle.py_exceptions.specs.Making.{IsNewText}
use Rattle.py_exceptions.proofs.MakingLemmas.{built_in_class, cause_stays, class_stays, text_grows, exception_new}
use Rattle.py_exceptions.proofs.making.with_text.Goals as goal

pub returns-in_err-argument-clause-grows : goal.returns-in_err-argument-clause-grows
returns-in_err-argument-clause-grows c = still_grown _ _ c.in_err-argument.ensures.err

pub returns-in_err-push-clause-grows : goal.returns-in_err-push-clause-grows
returns-in_err-push-clause-grows c = text_grows _ _ _ c.in_ok-argument.ensures.added

pub add_exception-requires-clause-class : goal.add_exception-requires-clause-class
add_exception-requires-clause-class c =
    class_stays c.args.store.now c.add.new.self c.class-class.result (text_grows _ _ _ c.in_ok-argument.ensures.added)
    (subst (λ class. IsClassObject c.args.store.now.made (class_object class)) (sym c.class-class.ensures)
    (built_in_class c.args.zoo.now c.args.store.now.made c.args.fault.now.kind c.requires.classes))

pub add_exception-requires-clause-cause : goal.add_exception-requires-clause-cause
add_exception-requires-clause-cause c = cause_stays c.args.store.now c.add.new.self c.args.cause (text_grows _ _ _ c.in_ok-argument.ensures.added) c.requires.cause

pub returns-clause-grows : goal.returns-clause-grows
returns-clause-grows c = grown_trans _ _ _ (text_grows _ _ _ c.in_ok-argument.ensures.added) c.add_exception.ensures.grows

pub returns-clause-made : goal.returns-clause-made
returns-clause-made c =
    let old = c.args.store.now.made in
    let new = c.add_exception.new.store.made in
    IfOk-weaker c.add_exception.result _ _
    (λ e made. subst (λ class. IsNewText old new class c.args.fault.now.text c.args.cause e) c.class-class.ensures
    (subst (λ text. IsNewText old new c.class-class.result text c.args.cause e) c.in_ok-text.ensures
    (exception_new c.args.store.now c.add.new.self c.add_exception.new.store c.class-class.result c.in_ok-text.text c.in_ok-argument.argument _ c.args.cause _ e
    c.in_ok-argument.ensures.added c.in_ok-argument.ensures.number
    (c.in_ok-push.ensures.added ∙ ap (λ (l : List Obj). l ++ c.in_ok-argument.argument ∷ []) c.new-items.ensures) c.new.ensures c.add_exception.ensures.grows made)))
    c.add_exception.ensures.made
