-- Tables of codes.
use Rattle.std.proofs.Common.{◌≡◌, List, [], true, length, sym, subst}
use Rattle.std.proofs.lemmas.Bool.{and_parts}
use Rattle.py_check.specs.declared.annotated.Annotated.{Annotated}
use Rattle.py_check.specs.Sheet.{sheet_of}
use Rattle.py_check.specs.WholeCode.{keeps_whole}
use Rattle.py_check.specs.Typing.{IsTyped, keeps_at}
use Rattle.py_check.specs.Running.{AllRun, runs_at}
use Rattle.py_check.proofs.WorkedLemmas.{all_below, each_passes, typed}
use Rattle.frame_tests.specs.Codes.{IsCodeOf, keeps_rules, sheet}
use Rattle.frame_tests.specs.declared.tables.Row.{Row}

-- the code of a table whose notes keep the rules is typed
pub typed_of : (rows : List Row) (code : Annotated) → keeps_rules rows ≡ true → IsCodeOf rows code → IsTyped [] (sheet_of code)
typed_of rows code kept of =
    let kept_each = (and_parts _ (all_below (runs_at (sheet rows)) (length (sheet rows).units)) kept).0 in
    let parts = and_parts (keeps_whole [] (sheet rows)) (all_below (keeps_at [] (sheet rows)) (length (sheet rows).units)) kept_each in
    subst (IsTyped []) (sym of.read) (typed (sheet rows) parts.0 parts.1)

-- and its units run
pub runs_of : (rows : List Row) (code : Annotated) → keeps_rules rows ≡ true → IsCodeOf rows code → AllRun (sheet_of code)
runs_of rows code kept of =
    let all = (and_parts _ (all_below (runs_at (sheet rows)) (length (sheet rows).units)) kept).1 in
    let each : AllRun (sheet rows) = λ at below. each_passes (runs_at (sheet rows)) (length (sheet rows).units) at all below in
    subst AllRun (sym of.read) each
