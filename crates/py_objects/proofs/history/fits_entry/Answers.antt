use Rattle.std.proofs.Common.{◌≡◌, ℕ, zero, suc, List, [], ◌∷◌, Some, refl, ap, ◌∙◌}
use Rattle.std.specs.Prelude.{slice_get, slice_set}
use Rattle.std.proofs.lemmas.Option.{slice_get_read}
use Rattle.py_objects.specs.declared.edit.Edit.{Edit}
use Rattle.py_objects.specs.declared.payload.Payload.{Payload}
use Rattle.py_objects.specs.Objects.{Obj}
use Rattle.py_objects.specs.Edits.{edited, edited_entry, with_edit}
use Rattle.py_objects.proofs.history.fits_entry.Goals as goal

-- what an entry is, written back, changes nothing
written_back : (xs : List Payload) (i : ℕ) (p : Payload) → slice_get xs i ≡ Some p → slice_set xs i p ≡ xs
written_back [] i p at = cc
written_back (x ∷ xs) zero p at = let e : x ≡ p = cc in cc
written_back (x ∷ xs) (suc i) p at = ap (λ ys. x ∷ ys) (written_back xs i p at)

-- nor does an edit that leaves the entry as it is
unedited : (objects : List Payload) (o : Obj) (x : Edit) (p : Payload) → slice_get objects o.number ≡ Some p → edited objects x p ≡ p → with_edit objects o x ≡ objects
unedited objects o x p at stays = ap (edited_entry objects x o.number) at ∙ (ap (slice_set objects o.number) stays ∙ written_back objects o.number p at)

pub returns-in-Some-clause-stays : goal.returns-in-Some-clause-stays
returns-in-Some-clause-stays c unfit =
    let there = c.in-Some.ensures.lookup in
    unedited c.args.payloads.now c.args.object c.args.edit.now c.in-Some.payload.now
    (slice_get_read c.args.payloads.now _ c.args.object.number c.in-Some.payload.now refl there.3.0 there.1) (c.fits.ensures.stays unfit c.args.payloads.now)
