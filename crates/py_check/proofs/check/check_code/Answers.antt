use Rattle.std.proofs.Common.{◌≡◌, ℕ, List, Some, ap, ◌∙◌, subst}
use Rattle.py_check.specs.Sheet.{sheet_of}
use Rattle.py_check.specs.Breaking.{BreaksFirst}
use Rattle.py_check.proofs.check.check_code.Goals as goal

pub returns-in-Some-clause-breaks : goal.returns-in-Some-clause-breaks
returns-in-Some-clause-breaks c = λ at e.
    let same : c.in-Some.at ≡ at = cc e in
    let found : c.in_ok-at.field-0 ≡ Some at = c.in-Some.is ∙ ap Some same in
    subst (λ (l : List ℕ). BreaksFirst l (sheet_of c.args.code) at) c.as_slice.ensures (c.in_ok-at.ensures.first at found)
