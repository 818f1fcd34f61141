use Rattle.std.proofs.Common.{rules, ◌∙◌, ap, arith, map, subst, sym}
use Rattle.std.proofs.lemmas.List.{drop-map}
use Rattle.py_lines.specs.RawFinding.{IsBefore, NoneBefore}
use Rattle.py_lines.specs.RawLines.{const_tokens}
use Rattle.py_lines.specs.Senses.{meaning_of}
use Rattle.py_lines.proofs.Fronts.{as_many}
use Rattle.py_lines.proofs.RawSteps.{const_step, no_consts_at, consts_end}
use Rattle.py_lines.proofs.constant.all_consts.Goals as goal

pub returns-in_default : goal.returns-in_default
returns-in_default c =
    let rest = drop-map meaning_of c.loop-at.at c.args.tokens.now ∙ ap (map meaning_of) (sym c.from-rest.ensures) in
    let none : NoneBefore const_tokens (map meaning_of c.from-rest.result.now) = search rules in
    no_consts_at (map meaning_of c.args.tokens.now) c.loop-at.at c.loop-at.consts c.loop-at.invariant.tokens (omega (arith, c.loop-at-test.true, as_many c.args.tokens.now))
    (subst (NoneBefore const_tokens) (sym rest) none)

pub returns : goal.returns
returns c = consts_end (map meaning_of c.args.tokens.now) c.loop-at.at c.loop-at.consts c.loop-at.invariant.tokens (omega (arith, c.loop-at-test.false, as_many c.args.tokens.now))

pub loop-at-preserved : goal.loop-at-preserved
loop-at-preserved c =
    let rest = drop-map meaning_of c.loop-at.at c.args.tokens.now ∙ ap (map meaning_of) (sym c.from-rest.ensures) in
    let found : IsBefore const_tokens (map meaning_of c.from-rest.result.now) c.in-Some.constant c.in-Some.used = search rules in
    let step = const_step (map meaning_of c.args.tokens.now) c.loop-at.at c.loop-at.consts c.loop-at.invariant.tokens c.in-Some.used c.in-Some.constant c.push.new.self c.in_ok-push.ensures.added
    (omega (arith, c.loop-at.invariant.within, as_many c.args.tokens.now)) (subst (λ us. IsBefore const_tokens us c.in-Some.constant c.in-Some.used) (sym rest) found) in
    record { within = omega (arith, step.0, as_many c.args.tokens.now); tokens = step.1 }
