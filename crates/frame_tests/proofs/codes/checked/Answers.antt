use Rattle.std.proofs.Common.{ℕ, List, [], ap, subst, sym, ◌∙◌}
use Rattle.std.specs.Prelude.{Err}
use Rattle.py_check.specs.declared.annotated.Annotated.{Annotated}
use Rattle.py_check.specs.Sheet.{sheet_of}
use Rattle.py_check.specs.Breaking.{BreaksFirst}
use Rattle.py_check.specs.Running.{AllRun}
use Rattle.py_check.proofs.BreakingLemmas.{none_breaks}
use Rattle.frame_tests.proofs.TableLemmas.{runs_of, typed_of}
use Rattle.frame_tests.proofs.codes.checked.Goals as goal

pub unreachable-requires : goal.unreachable-requires
unreachable-requires c =
    let at = c.in-Err-Breaks.field-0-0 in
    let breaks = subst (λ (shapes : List ℕ). BreaksFirst shapes (sheet_of c.in_ok-code.code) at) c.new-shapes.ensures (c.check_code.ensures.breaks at (c.in-Err-Breaks.is ∙ ap Err c.in-Err-Breaks.field-0-is)) in
    none_breaks [] (sheet_of c.in_ok-code.code) at (typed_of c.args.rows.now c.in_ok-code.code c.requires c.in_ok-code.ensures) breaks

pub returns-in-Ok-clause-runs : goal.returns-in-Ok-clause-runs
returns-in-Ok-clause-runs c =
    subst (λ (code : Annotated). AllRun (sheet_of code)) (sym c.in-Ok.ensures.ok) (runs_of c.args.rows.now c.in_ok-code.code c.requires c.in_ok-code.ensures)
