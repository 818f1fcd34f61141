use Rattle.std.proofs.Common.{◌≡◌, ◌<◌, ◌≤◌, true, List, ℕ, length, get_or, ap, ◌∙◌, subst}
use Rattle.std.proofs.Math.Utf8.{scalars}
use Rattle.std.proofs.lemmas.List.{take_all}
use Rattle.std.proofs.lemmas.Str.{chars-encodes}
use Rattle.py_code.proofs.TextLemmas.{spelled_more, scalars_more}
use Rattle.py_code.proofs.text.push_utf8.Goals as goal

pub loop-character-preserved : goal.loop-character-preserved
loop-character-preserved c =
    let items = c.as_slice-character-items.ensures in
    let low : c.loop-character.character-index < length c.args.text.now = subst (λ (l : List ℕ). c.loop-character.character-index < length l) items c.loop-character-test.true in
    let here : c.character-item.result ≡ get_or c.args.text.now c.loop-character.character-index c.character-item.result =
    c.character-item.is ∙ ap (λ (l : List ℕ). get_or l c.loop-character.character-index c.character-item.result) items in
    record {
      spelled = spelled_more _ _ _ c.args.text.now c.loop-character.character-index c.character-item.result low here c.loop-character.invariant.spelled c.in_ok-push_character.ensures.text;
      scalars = scalars_more c.args.text.now c.loop-character.character-index c.character-item.result low here c.loop-character.invariant.scalars c.in_ok-push_character.ensures.scalar;
    }

pub returns-clause-spells : goal.returns-clause-spells
returns-clause-spells c =
    let high : length c.args.text.now ≤ c.loop-character.character-index = subst (λ (l : List ℕ). length l ≤ c.loop-character.character-index) c.as_slice-character-items.ensures c.loop-character-test.false in
    chars-encodes c.args.text.now (subst (λ (l : List ℕ). scalars l ≡ true) (take_all c.loop-character.character-index c.args.text.now high) c.loop-character.invariant.scalars)
