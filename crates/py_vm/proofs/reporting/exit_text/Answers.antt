use Rattle.std.proofs.Common.{◌≡◌, ◌++◌, List, sym, ap, subst, ◌∙◌, codes}
use Rattle.std.specs.Prelude.{encode_utf8_all}
use Rattle.std.proofs.lemmas.Result.{IfOk-weaker}
use Rattle.py_objects.specs.declared.payload.Payload.{Payload}
use Rattle.py_exceptions.specs.Texts.{repr, str}
use Rattle.py_run.specs.declared.exit.Exit.{Exit}
use Rattle.py_run.specs.declared.exit.Exit.TheVariants as exit
use Rattle.py_run.specs.Exits.{exit_of, PrintsAt}
use Rattle.py_vm.proofs.reporting.exit_text.Goals as goal

pub returns-in-Says : goal.returns-in-Says
returns-in-Says c =
    let how : exit.Says c.in-Says.object ≡ exit_of c.args.scene.now.objects c.args.exception =
    sym c.in-Says.is ∙ c.of.ensures ∙ ap (λ (l : List Payload). exit_of l c.args.exception) c.objects.ensures in
    IfOk-weaker c.str_line.result _ _
    (λ text is. subst (λ (x : Exit). PrintsAt c.args.scene.now c.args.exception x (encode_utf8_all text)) how
    (is ∙ ap (λ (l : List Payload). str l c.in-Says.object ++ codes "\n") c.objects-in-Says.ensures))
    c.str_line.ensures

pub returns-in-Shows : goal.returns-in-Shows
returns-in-Shows c =
    let how : exit.Shows c.in-Shows.object ≡ exit_of c.args.scene.now.objects c.args.exception =
    sym c.in-Shows.is ∙ c.of.ensures ∙ ap (λ (l : List Payload). exit_of l c.args.exception) c.objects.ensures in
    IfOk-weaker c.repr_line.result _ _
    (λ text is. subst (λ (x : Exit). PrintsAt c.args.scene.now c.args.exception x (encode_utf8_all text)) how
    (is ∙ ap (λ (l : List Payload). repr l c.in-Shows.object ++ codes "\n") c.objects-in-Shows.ensures))
    c.repr_line.ensures
