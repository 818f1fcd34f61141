-- Lines of units.
use Rattle.std.proofs.Common.{◌≡◌, ◌∙◌, ◌-◌, ◌≤◌, ℕ, List, Some, refl, ap, length, get_or, arith}
use Rattle.std.specs.Prelude.{slice_get}
use Rattle.std.proofs.lemmas.Option.{slice_get_read}
use Rattle.py_code.specs.declared.code.PyCode.{PyCode}
use Rattle.py_check.specs.declared.annotated.Annotated.{Annotated}
use Rattle.py_check.specs.Sheet.{sheet_of}
use Rattle.py_check.specs.Typing.{IsTyped}
use Rattle.py_rows.proofs.TypingLemmas.{IsWhole, typed_whole}

-- the line of the last unit that was begun, at first that of the first unit
pub location_there : (code : Annotated) (py : PyCode) (at index line : ℕ) → (shapes : List ℕ) × IsTyped shapes (sheet_of code) → py ≡ code.code → at ≤ length code.code.code.instructions.items → index ≡ at - 1
    → line ≡ get_or py.code.locations.items index line → slice_get code.code.code.locations.items (at - 1) ≡ Some line
location_there code py at index line (shapes, typed) same within is read =
    let whole : IsWhole code = typed_whole shapes code typed in
    let lines : List ℕ = code.code.code.locations.items in
    let found : line ≡ get_or lines (at - 1) line = read ∙ ap (λ (k : PyCode). get_or k.code.locations.items index line) same ∙ ap (λ (n : ℕ). get_or lines n line) is in
    slice_get_read lines (length lines) (at - 1) line refl (omega (arith, whole.some, whole.locations)) found
