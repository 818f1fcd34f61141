use Rattle.std.proofs.Common.{◌≡◌, ◌<◌, ◌+◌, ℕ, zero, suc, List, true, false, length, get_or, refl, sym, ap, ◌∙◌, below_more, arith}
use Rattle.std.proofs.lemmas.Bool.{and_from}
use Rattle.std.proofs.lemmas.Option.{slice_get-get_or}
use Rattle.py_code.specs.declared.unit.CodeUnit.{CodeUnit}
use Rattle.py_code.specs.Units.{with_byte, is_prefix}
use Rattle.py_check.specs.Sheet.{Sheet, sheet_of}
use Rattle.py_check.specs.Operands.{carried}
use Rattle.py_check.specs.WholeCode.{keeps_whole}
use Rattle.py_check.specs.Typing.{keeps_at}
use Rattle.py_check.specs.Breaking.{keeps}
use Rattle.py_check.proofs.BreakingLemmas.{keeps_typed}
use Rattle.py_check.proofs.check.first_break.Goals as goal
use Rattle.py_check.proofs.check.first_break.Goals.{then-not-is_prefix, else-not-is_prefix}

-- a prefix carries its byte on, another unit nothing
carried_on : (units : List CodeUnit) (at n : ℕ) (d : CodeUnit) → n ≡ suc at → at < length units → is_prefix (get_or units at d).op ≡ true → carried units n ≡ with_byte (carried units at) (get_or units at d).arg
carried_on units at n d is below prefix = rw (is, slice_get-get_or units at d below, prefix) refl

carried_no_more : (units : List CodeUnit) (at n : ℕ) (d : CodeUnit) → n ≡ suc at → at < length units → is_prefix (get_or units at d).op ≡ false → carried units n ≡ 0
carried_no_more units at n d is below prefix = rw (is, slice_get-get_or units at d below, prefix) refl

-- a unit that keeps the rules on units keeps all, where the whole code keeps its own
keeps_here : (shapes : List ℕ) (sheet : Sheet) (at : ℕ) → keeps_whole shapes sheet ≡ true → keeps_at shapes sheet at ≡ true → keeps shapes sheet at ≡ true
keeps_here shapes sheet zero whole here = and_from (keeps_whole shapes sheet) (keeps_at shapes sheet 0) whole here
keeps_here shapes sheet (suc at) whole here = here

pub loop-at-preserved : goal.loop-at-preserved
loop-at-preserved c =
    let units = c.as_slice-units.result.now in
    let next : c.loop-at.at + 1 ≡ suc c.loop-at.at = omega arith in
    let here : keeps_at c.args.shapes.now (sheet_of c.args.code.now) c.loop-at.at ≡ true = sym c.in_ok-keeps_at.ensures ∙ c.if-not-branch.false in (
      c.loop-at.invariant.0,
      elim c.if-not-is_prefix.branch [
        | then-not-is_prefix w ↦
            w.state-is ∙ w.reset.ensures ∙ sym (carried_no_more units c.loop-at.at (c.loop-at.at + 1) _ next c.loop-at-test.true (sym c.is_prefix.ensures ∙ w.if-not-is_prefix.true))
        | else-not-is_prefix w ↦
            w.state-is ∙ c.extend-arg.ensures.state ∙ rw (c.loop-at.invariant.1) (sym (carried_on units c.loop-at.at (c.loop-at.at + 1) _ next c.loop-at-test.true (sym c.is_prefix.ensures ∙ w.if-not-is_prefix.false)))
      ],
      below_more _ _ c.loop-at.invariant.2 (keeps_here c.args.shapes.now (sheet_of c.args.code.now) c.loop-at.at c.loop-at.invariant.0 here),
    )

pub returns-clause-none : goal.returns-clause-none
returns-clause-none c =
    λ found. keeps_typed c.args.shapes.now (sheet_of c.args.code.now) c.loop-at.invariant.0
    (λ k below. c.loop-at.invariant.2 k (omega (arith, below, c.loop-at-test.false, ap length c.as_slice-units.ensures.value)))
