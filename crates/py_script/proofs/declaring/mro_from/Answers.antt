use Rattle.std.proofs.Common.{◌≡◌, ◌∙◌, ◌∷◌, List, [], Some, ap, arith, sym}
use Rattle.std.specs.Prelude.{slice_get}
use Rattle.std.proofs.lemmas.List.{take_all}
use Rattle.py_objects.specs.declared.payload.Payload.{Payload}
use Rattle.py_objects.specs.declared.payload.Payload.TheVariants as payload
use Rattle.py_objects.specs.declared.edit.Change.{Change}
use Rattle.py_objects.specs.Objects.{Obj, HasPayload}
use Rattle.py_objects.specs.Edits.{Kept, changed_by, objects_of}
use Rattle.py_script.proofs.declaring.mro_from.Goals as goal

-- an object of a store without changes is as it was made
as_made : (s : Kept) (objects : List Payload) (v : Obj) (p : Payload) → s.made ≡ objects → s.changes ≡ [] → slice_get (objects_of s) v.number ≡ Some p → HasPayload objects v p
as_made s objects v p made none is =
    ap (λ (os : List Payload). slice_get os v.number) (sym made) ∙ (ap (λ (cs : List Change). slice_get (changed_by s.made cs) v.number) (sym none) ∙ is)

pub unreachable-requires : goal.unreachable-requires
unreachable-requires c =
    let (body, has) = c.requires.class in
    let is = as_made c.store.result.now c.args.vm.now.objects c.args.base c.get.result.now c.store.ensures.objects (c.store.ensures.changes ∙ c.requires.unchanged) c.get.ensures.now in
    let same : Some c.get.result.now ≡ Some (payload.Class body) = sym is ∙ has in
    c.in_default.not-Class body (cc same)

pub returns : goal.returns
returns c =
    let is = as_made c.store.result.now c.args.vm.now.objects c.args.base c.get.result.now c.store.ensures.objects (c.store.ensures.changes ∙ c.requires.unchanged) c.get.ensures.now in
    let all = take_all c.loop-class.class-index c.as_slice-class-items.result.now (omega (arith, c.loop-class-test.false)) in (
      c.in-Class.body,
      is ∙ ap Some c.in-Class.is,
      c.loop-class.invariant ∙ ap (λ xs. c.args.base ∷ xs) (all ∙ (c.as_slice-class-items.ensures ∙ ap (λ b. b.mro) c.value.ensures)),
    )
