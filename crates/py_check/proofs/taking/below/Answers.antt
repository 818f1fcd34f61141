use Rattle.std.proofs.Common.{◌≡◌, length, true, false, nat_le, refl, ◌∙◌, arith}
use Rattle.std.proofs.lemmas.Bool.Decides.{nat_tests}
use Rattle.py_check.specs.Landing.{top_level}
use Rattle.py_check.proofs.TakingLemmas.{takes_short, takes_there}
use Rattle.py_check.proofs.taking.below.Goals as goal

pub returns-then-count-kinds : goal.returns-then-count-kinds
returns-then-count-kinds c = λ rest. takes_short c.args.count c.args.of c.args.kinds.now c.args.blocks.now rest c.if-count-kinds.true

pub returns-then-not-kinds_are : goal.returns-then-not-kinds_are
returns-then-not-kinds_are c =
    λ rest.
    takes_there c.args.count c.args.of c.args.kinds.now c.args.blocks.now rest c.if-count-kinds.false
    ∙ rw (← c.split_at.ensures.front, ← c.kinds_are.ensures, c.if-not-kinds_are.true) refl

pub returns-then-rest-top_level : goal.returns-then-rest-top_level
returns-then-rest-top_level c =
    λ rest.
    let low : nat_le (top_level c.args.blocks.now) (length c.split_at.result.1.now) ≡ false = grind (arith, nat_tests, c.top_level.ensures, c.if-rest-top_level.true) in
    takes_there c.args.count c.args.of c.args.kinds.now c.args.blocks.now rest c.if-count-kinds.false
    ∙ rw (← c.split_at.ensures.front, ← c.kinds_are.ensures, c.if-not-kinds_are.false, ← c.split_at.ensures.back, low) refl

pub returns : goal.returns
returns c =
    λ rest.
    let high : nat_le (top_level c.args.blocks.now) (length c.split_at.result.1.now) ≡ true = grind (arith, nat_tests, c.top_level.ensures, c.if-rest-top_level.false) in
    takes_there c.args.count c.args.of c.args.kinds.now c.args.blocks.now rest c.if-count-kinds.false
    ∙ rw (← c.split_at.ensures.front, ← c.kinds_are.ensures, c.if-not-kinds_are.false, ← c.split_at.ensures.back, high) refl
