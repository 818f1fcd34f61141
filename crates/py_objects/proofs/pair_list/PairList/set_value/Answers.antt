use Rattle.std.proofs.Common.{◌<◌, length, sym, ap, ◌∙◌, subst}
use Rattle.py_objects.specs.Pairs.{Pairs, with_value}
use Rattle.py_objects.proofs.PairsLemmas.{with_value-set}
use Rattle.py_objects.proofs.pair_list.PairList.set_value.Goals as goal

pub returns : goal.returns
returns c =
    let within = subst (λ (ps : Pairs). c.args.at < length ps) (sym c.self.view_is) c.requires in
    with_value-set c.self.inside.items.items c.args.at c.args.value c.index.result.now within c.index.ensures
    ∙ ap (λ ps. with_value ps c.args.at c.args.value) c.self.view_is
