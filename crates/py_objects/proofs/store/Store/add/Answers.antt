use Rattle.std.proofs.Common.{◌∙◌, ◌∷◌, ◌++◌, [], ap, refl, sym}
use Rattle.py_objects.specs.Originals.{may_change}
use Rattle.py_objects.specs.Singletons.{none_object}
use Rattle.py_objects.proofs.StoreLemmas.{noted-copy, length-made, invariant_added, view_added}
use Rattle.py_objects.proofs.store.Store.add.Goals as goal

pub invariant_of-self-2 : goal.invariant_of-self-2
invariant_of-self-2 c =
    invariant_added _ _ _ _ _ c.self.invariant.0 c.args.self.now c.self.view_is none_object c.self.invariant.1
    c.args.payload (may_change c.args.payload) refl c.requires _ _
    (noted-copy _ _ _ _ _ _ _ c.keep.ensures c.in_ok-copy.ensures.originals (c.len-number.ensures ∙ c.self.inside.payloads.ok.0) c.in_ok-copy.ensures.copy)
    (c.push_reserved.ensures.items ∙ ap (λ l. l ++ c.args.payload ∷ []) c.in_ok-copy.ensures.payloads)

pub returns-clause-added : goal.returns-clause-added
returns-clause-added c =
    view_added _ _ _ _ _ c.self.invariant.0 c.args.self.now c.self.view_is none_object c.self.invariant.1
    c.args.payload (may_change c.args.payload) refl c.requires _ _
    (noted-copy _ _ _ _ _ _ _ c.keep.ensures c.in_ok-copy.ensures.originals (c.len-number.ensures ∙ c.self.inside.payloads.ok.0) c.in_ok-copy.ensures.copy)
    (c.push_reserved.ensures.items ∙ ap (λ l. l ++ c.args.payload ∷ []) c.in_ok-copy.ensures.payloads)

pub returns-clause-number : goal.returns-clause-number
returns-clause-number c =
    c.len-number.ensures ∙ c.self.inside.payloads.ok.0 ∙ sym (length-made _ _ _ _ _ c.self.invariant.0 c.args.self.now c.self.view_is)
