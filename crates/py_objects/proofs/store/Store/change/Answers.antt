use Rattle.std.proofs.Common.{◌∙◌, List, ap, refl, subst, sym}
use Rattle.py_objects.specs.Edits.{with_edit}
use Rattle.py_objects.specs.Originals.{FitsEntry}
use Rattle.py_objects.specs.declared.payload.Payload.{Payload}
use Rattle.py_objects.specs.Singletons.{none_object}
use Rattle.py_objects.proofs.StoreLemmas.{fits_entry, invariant_edited, view_edited}
use Rattle.py_objects.proofs.store.Store.change.Goals as goal

pub edit_in_place-requires-clause-fits : goal.edit_in_place-requires-clause-fits
edit_in_place-requires-clause-fits c =
    subst (λ (l : List Payload). FitsEntry l c.args.object c.args.edit) (sym c.as_mut_slice.ensures.value)
    (fits_entry _ _ _ _ _ c.self.invariant.0 c.args.self.now c.self.view_is c.args.object c.args.edit c.requires.within c.requires.fits)

pub invariant_of-self : goal.invariant_of-self
invariant_of-self c =
    invariant_edited _ _ _ _ _ c.self.invariant.0 c.args.self.now c.self.view_is c.args.object c.args.edit c.requires.within c.requires.fits
    none_object c.self.invariant.1 c.requires.named c.self.inside.payloads c.edit_in_place.new.payloads c.push_reserved.new.self.items refl
    (c.edit_in_place.ensures ∙ ap (λ l. with_edit l c.args.object c.args.edit) c.as_mut_slice.ensures.value) c.push_reserved.ensures.items

pub returns-clause-edited : goal.returns-clause-edited
returns-clause-edited c =
    view_edited _ _ _ _ _ c.self.invariant.0 c.args.self.now c.self.view_is c.args.object c.args.edit c.requires.within c.requires.fits
    none_object c.self.invariant.1 c.requires.named c.self.inside.payloads c.edit_in_place.new.payloads c.push_reserved.new.self.items refl
    (c.edit_in_place.ensures ∙ ap (λ l. with_edit l c.args.object c.args.edit) c.as_mut_slice.ensures.value) c.push_reserved.ensures.items _
