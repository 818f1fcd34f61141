use Rattle.std.proofs.Common.{◌-◌, ◌++◌, take, drop, Bool, ◌&&◌, refl, ap, ◌∙◌, arith, length-append}
use Rattle.std.proofs.Math.Bool.{and-false}
use Rattle.py_check.specs.Notes.{kinds_fit}
use Rattle.py_check.proofs.FittingLemmas.{are, too_few, in_two}
use Rattle.py_check.proofs.kinds.behind_run.Goals as goal

pub returns-then-others-rest : goal.returns-then-others-rest
returns-then-others-rest c =
    λ more. too_few (c.args.front.now ++ c.args.rest.now) c.args.run.count c.args.run.kind more (omega (arith, c.min-first.ensures, c.if-others-rest.true, length-append c.args.front.now c.args.rest.now))

pub returns-then-not-kinds_are : goal.returns-then-not-kinds_are
returns-then-not-kinds_are c =
    λ more.
    in_two c.args.front.now c.args.rest.now c.args.run.count c.min-first.result c.args.run.kind more c.min-first.ensures (omega (arith, c.if-others-rest.false))
    ∙ rw (← c.split_at.ensures.front, ← c.kinds_are.ensures, c.if-not-kinds_are.true) refl

pub returns-then-not-kinds_are-2 : goal.returns-then-not-kinds_are-2
returns-then-not-kinds_are-2 c =
    λ more.
    in_two c.args.front.now c.args.rest.now c.args.run.count c.min-first.result c.args.run.kind more c.min-first.ensures (omega (arith, c.if-others-rest.false))
    ∙ rw (← c.split_at-2.ensures.front, ← c.kinds_are-2.ensures, c.if-not-kinds_are-2.true) (ap (λ (b : Bool). b && kinds_fit (drop c.min-first.result c.args.front.now ++ drop (c.args.run.count - c.min-first.result) c.args.rest.now) more) (and-false (are c.args.run.kind (take c.min-first.result c.args.front.now))))

pub returns : goal.returns
returns c =
    λ more.
    in_two c.args.front.now c.args.rest.now c.args.run.count c.min-first.result c.args.run.kind more c.min-first.ensures (omega (arith, c.if-others-rest.false))
    ∙ rw (← c.split_at.ensures.front, ← c.kinds_are.ensures, c.if-not-kinds_are.false, ← c.split_at-2.ensures.front, ← c.kinds_are-2.ensures, c.if-not-kinds_are-2.false, c.split_at.ensures.back, c.split_at-2.ensures.back) refl
