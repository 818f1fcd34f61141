-- What holds of each of the codes of a body.
use Rattle.std.proofs.Common.{◌≡◌, List, [], ◌∷◌, ◌++◌, Some, ◌∙◌, sym, ap, subst}
use Rattle.std.specs.Prelude.{Option, option_to_list}
use Rattle.py_check.specs.declared.annotated.Annotated.{Annotated}
use Rattle.py_body.specs.Codes.{Each}

behind_others : (P : Annotated → Type 0) (front : List Annotated) (code : Annotated) → Each P (front ++ code ∷ []) → P code
behind_others P [] code each = each.0
behind_others P (other ∷ front) code each = behind_others P front code each.1

-- it holds of the last one, as it is taken off their list
pub last_of_each : (P : Annotated → Type 0) (codes all front : List Annotated) (last : Option Annotated) (code : Annotated)
    → all ≡ codes → all ≡ front ++ option_to_list last → last ≡ Some code → Each P codes → P code
last_of_each P codes all front last code same parts is each =
    behind_others P front code (subst (Each P) (sym same ∙ parts ∙ ap (λ (o : Option Annotated). front ++ option_to_list o) is) each)
