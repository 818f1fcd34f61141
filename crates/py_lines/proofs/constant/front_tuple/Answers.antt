use Rattle.std.proofs.Common.{rules, ◌≡◌, ◌∷◌, ◌∙◌, ap, arith, drop, map, subst, sym}
use Rattle.std.proofs.lemmas.List.{drop-map}
use Rattle.py_lines.specs.Finding.{begins_closed}
use Rattle.py_lines.specs.RawFinding.{NoneBefore}
use Rattle.py_lines.specs.RawLines.{raw_atom_token}
use Rattle.py_lines.specs.Senses.{meaning_of}
use Rattle.py_lines.proofs.Fronts.{as_many}
use Rattle.py_lines.proofs.RawSteps.{tuple_end, no_tuple_at, no_tuple_end, item_step}
use Rattle.py_lines.proofs.constant.front_tuple.Goals as goal

pub returns-then-closes : goal.returns-then-closes
returns-then-closes c =
    let rest = drop-map meaning_of c.loop-at.at c.args.tokens.now ∙ ap (map meaning_of) (sym c.from-rest.ensures) in
    tuple_end (map meaning_of c.args.tokens.now) c.loop-at.at c.loop-at.items c.loop-at.invariant.tokens (ap begins_closed rest ∙ sym c.closes.ensures ∙ c.if-closes.true)

pub returns-in_default : goal.returns-in_default
returns-in_default c =
    let rest = drop-map meaning_of c.loop-at.at c.args.tokens.now ∙ ap (map meaning_of) (sym c.from-rest.ensures) in
    let none : NoneBefore (λ a us. raw_atom_token a ∷ us) (map meaning_of c.from-rest.result.now) = search rules in
    no_tuple_at (map meaning_of c.args.tokens.now) c.loop-at.at c.loop-at.items c.loop-at.invariant.tokens (ap begins_closed rest ∙ sym c.closes.ensures ∙ c.if-closes.false)
    (subst (NoneBefore (λ a us. raw_atom_token a ∷ us)) (sym rest) none)

pub returns : goal.returns
returns c =
    no_tuple_end (map meaning_of c.args.tokens.now) c.loop-at.at c.loop-at.items c.loop-at.invariant.tokens (omega (arith, c.loop-at-test.false, as_many c.args.tokens.now))

pub loop-at-preserved : goal.loop-at-preserved
loop-at-preserved c =
    let rest = drop-map meaning_of c.loop-at.at c.args.tokens.now ∙ ap (map meaning_of) (sym c.from-rest.ensures) in
    let found : map meaning_of c.from-rest.result.now ≡ raw_atom_token c.in-Some.item ∷ drop 1 (map meaning_of c.from-rest.result.now) = search rules in
    record {
      within = omega (arith, c.loop-at-test.true);
      tokens = item_step (map meaning_of c.args.tokens.now) c.loop-at.at c.loop-at.items c.loop-at.invariant.tokens c.in-Some.item _ c.in_ok-push.ensures.added
          (rest ∙ found ∙ ap (λ us. raw_atom_token c.in-Some.item ∷ drop 1 us) (sym rest));
    }
