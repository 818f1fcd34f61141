use Rattle.std.proofs.Common.{◌∙◌, sym, refl, ap}
use Rattle.std.proofs.lemmas.Int.{to_z-of_z}
use Rattle.std.specs.Int.{w128}
use Rattle.std.specs.Prelude.{option_copied}
use Rattle.py_answers.proofs.AnswersLemmas.{numbers_compared, texts_compared}
use Rattle.py_answers.proofs.comparison.less.Goals as goal

pub returns-in-Some-Some-clause-reply : goal.returns-in-Some-Some-clause-reply
returns-in-Some-Some-clause-reply c =
    rw (to_z-of_z w128 c.in-Some-Some.first c.in-Some-Some.ensures.fits, to_z-of_z w128 c.in-Some-Some.second c.in-Some-Some.ensures'.fits)
    (numbers_compared c.args.store.now.made c.args.left.now c.args.right.now c.in-Some-Some.first c.in-Some-Some.second _ c.requires.left_made c.requires.right_made
    (sym c.number.ensures.value ∙ c.in-Some-Some.is-0) (sym c.number-2.ensures.value ∙ c.in-Some-Some.is-1) refl)

pub returns-in-Some-Some-2-clause-reply : goal.returns-in-Some-Some-2-clause-reply
returns-in-Some-Some-2-clause-reply c =
    texts_compared c.args.store.now.made c.args.left.now c.args.right.now _ _ c.comes_before.result c.requires.left_made c.requires.right_made
    (sym c.text.ensures ∙ ap option_copied c.in-Some-Some-2.is-0) (sym c.text-2.ensures ∙ ap option_copied c.in-Some-Some-2.is-1) c.comes_before.ensures
