use Rattle.std.proofs.Common.{◌∙◌, ◌∷◌, ◌++◌, [], List, ap, refl, subst, sym}
use Rattle.py_objects.specs.Edits.{with_edit}
use Rattle.py_objects.specs.Originals.{FitsEntry}
use Rattle.py_objects.specs.declared.edit.Change.{Change}
use Rattle.py_objects.specs.declared.payload.Payload.{Payload}
use Rattle.py_objects.specs.Singletons.{none_object}
use Rattle.py_objects.proofs.StoreLemmas.{fits_entry, invariant_edited, view_edited}
use Rattle.py_objects.proofs.store.Store.grow.Goals as goal

pub edit_any-requires : goal.edit_any-requires
edit_any-requires c =
    subst (λ (l : List Payload). FitsEntry l c.args.object c.args.edit) (sym c.as_mut_slice.ensures.value)
    (fits_entry _ _ _ _ _ c.self.invariant.0 c.args.self.now c.self.view_is c.args.object c.args.edit c.requires.within c.requires.fits)

pub invariant_of-self-2 : goal.invariant_of-self-2
invariant_of-self-2 c =
    let note : Change = record { after = c.self.inside.mark; object = c.args.object; edit = c.args.edit } in
    invariant_edited _ _ _ _ _ c.self.invariant.0 c.args.self.now c.self.view_is c.args.object c.args.edit c.requires.within c.requires.fits
    none_object c.self.invariant.1 c.requires.named c.self.inside.payloads c.edit_any.new.payloads c.push_reserved.new.self.items refl
    (c.in_ok-edit_any.ensures.edited ∙ ap (λ l. with_edit l c.args.object c.args.edit) c.as_mut_slice.ensures.value)
    (c.push_reserved.ensures.items ∙ ap (λ l. l ++ note ∷ []) c.in_ok-reserve.ensures.items)

pub returns-clause-edited : goal.returns-clause-edited
returns-clause-edited c =
    let note : Change = record { after = c.self.inside.mark; object = c.args.object; edit = c.args.edit } in
    view_edited _ _ _ _ _ c.self.invariant.0 c.args.self.now c.self.view_is c.args.object c.args.edit c.requires.within c.requires.fits
    none_object c.self.invariant.1 c.requires.named c.self.inside.payloads c.edit_any.new.payloads c.push_reserved.new.self.items refl
    (c.in_ok-edit_any.ensures.edited ∙ ap (λ l. with_edit l c.args.object c.args.edit) c.as_mut_slice.ensures.value)
    (c.push_reserved.ensures.items ∙ ap (λ l. l ++ note ∷ []) c.in_ok-reserve.ensures.items) _
