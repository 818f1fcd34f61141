-- What loads a constant.
use Rattle.std.proofs.Common.{◌≡◌, ◌∙◌, ◌+◌, ◌<◌, ℕ, zero, suc, ◌++◌, List, [], ◌∷◌, Some, refl, sym, ap, subst, length, map, take, arith}
use Rattle.std.specs.Prelude.{slice_get, Result, Ok, Err, IfOk, OnOk, OnErr}
use Rattle.py_code.specs.declared.literal.Literal.{Literal, Tuple}
use Rattle.py_code.specs.declared.literal.LiteralList.{LiteralList}
use Rattle.py_code.specs.Literals.{Constant, constant_of, in_order, literals_of}
use Rattle.py_code.proofs.LiteralLemmas.{constant_of-tuple}
use Rattle.py_code.proofs.NamesLemmas.{slice_get-append_last}
use Rattle.py_objects.specs.declared.payload.Payload.{Payload}
use Rattle.py_objects.specs.declared.payload.Payload.TheVariants as payload
use Rattle.py_objects.specs.Objects.{Obj, HasPayload, AllBelow, numbers}
use Rattle.py_objects.specs.Growth.{Grows}
use Rattle.py_objects.specs.Edits.{Kept}
use Rattle.py_objects.proofs.GrowthLemmas.{length_grown}
use Rattle.py_rows.specs.Constants.{HasConstant, HaveConstants}
use Rattle.py_rows.proofs.ConstantLemmas.{constant_there, constants_grown, constants_below}
use Rattle.py_frame.specs.UnitSteps.{AreConstants}
use Rattle.py_frame.specs.Added.{AddsConstants, IsOfConstant}
use Rattle.py_frame.proofs.AddedLemmas.{adds_grow, adds_none, adds_one}

-- a new object has the payload that it was made with
pub add_has : {E : Type 0} (r : Result Obj E) (old new : Kept) (p : Payload) → IfOk r (λ v. v.number ≡ length old.made) → OnOk r (new ≡ record old { made = old.made ++ p ∷ [] }) → IfOk r (λ v. HasPayload new.made v p)
add_has (Ok v) old new p number added = rw (ap (λ (s : Kept). s.made) added, number) (slice_get-append_last old.made p)
add_has (Err e) old new p number added = tt

-- what adds an entry that is a constant's, or wants memory and adds none, adds constants
pub add_adds : {A E : Type 0} (r : Result A E) (old new : Kept) (p : Payload) → IsOfConstant (length old.made) p → OnOk r (new ≡ record old { made = old.made ++ p ∷ [] }) → OnErr r (new ≡ old) → AddsConstants old.made new.made
add_adds (Ok v) old new p is added err = rw (ap (λ (s : Kept). s.made) added) (adds_one old.made p is)
add_adds (Err e) old new p is added err = rw (ap (λ (s : Kept). s.made) err) (adds_none old.made)

-- objects of constants that stand below a number have numbers below it
items_below : (objects : List Payload) (n : ℕ) (vs : List Obj) (cs : List Constant) → HaveConstants objects n vs (in_order cs) → AllBelow n (numbers vs)
items_below objects n vs [] are = subst (λ (us : List Obj). AllBelow n (numbers us)) (sym are) tt
items_below objects n vs (c ∷ cs) (w, ws, is, below, has, are) = subst (λ (us : List Obj). AllBelow n (numbers us)) (sym is) (below, items_below objects n ws cs are)

pub tuple_below : (objects : List Payload) (vs : List Obj) (xs : List Literal) → AreConstants objects vs xs → AllBelow (length objects) (numbers vs)
tuple_below objects vs xs are = items_below objects (length objects) vs (map constant_of xs) are

-- the object of a tuple, behind those of its items
pub tuple_added : {E : Type 0} (r : Result Obj E) (before new : List Payload) (vs : List Obj) (items : LiteralList) (l : Literal) → l ≡ Tuple items → AddsConstants before new
    → AreConstants before vs (literals_of items) → IfOk r (λ v. v.number ≡ length before) → IfOk r (λ v. HasPayload new v (payload.Tuple vs)) → IfOk r (λ v. HasConstant new v (constant_of l))
tuple_added (Ok v) before new vs items l is adds are number has =
    let cs = in_order (map constant_of (literals_of items)) in
    let older : HaveConstants new v.number vs cs = subst (λ (n : ℕ). HaveConstants new n vs cs) (sym number) (constants_grown before new (length before) vs cs (adds_grow before new adds) are) in
    subst (HasConstant new v) (sym (constant_of-tuple items l is)) (vs, has, older)
tuple_added (Err e) before new vs items l is adds are number has = tt

-- one more object, and its constant, after the others
one_behind : (objects : List Payload) (n : ℕ) (vs : List Obj) (cs : List Constant) (w : Obj) (c : Constant) → HaveConstants objects n vs (in_order cs) → w.number < n → HasConstant objects w c
    → HaveConstants objects n (vs ++ w ∷ []) (in_order (cs ++ c ∷ []))
one_behind objects n vs [] w c are below has = (w, [], ap (λ (us : List Obj). us ++ w ∷ []) are, below, has, refl)
one_behind objects n vs (d ∷ cs) w c (x, ws, is, before, one, are) below has =
    (x, ws ++ w ∷ [], ap (λ (us : List Obj). us ++ w ∷ []) is, before, one, one_behind objects n ws cs w c are below has)

-- the constants up to the next place
next_taken : (xs : List Literal) (i : ℕ) (x : Literal) → slice_get xs i ≡ Some x → map constant_of (take (i + 1) xs) ≡ map constant_of (take i xs) ++ constant_of x ∷ []
next_taken [] i x here = cc
next_taken (y ∷ ys) zero x here = let same : y ≡ x = cc in ap (λ (z : Literal). constant_of z ∷ []) same
next_taken (y ∷ ys) (suc i) x here =
    let next : suc i + 1 ≡ suc (i + 1) = omega arith in
    ap (λ (n : ℕ). map constant_of (take n (y ∷ ys))) next ∙ ap (λ (cs : List Constant). constant_of y ∷ cs) (next_taken ys i x here)

pub items_more : (before new : List Payload) (vs ws : List Obj) (xs : List Literal) (i : ℕ) (w : Obj) (x : Literal) → AddsConstants before new → slice_get xs i ≡ Some x
    → AreConstants before vs (take i xs) → HasConstant new w (constant_of x) → ws ≡ vs ++ w ∷ [] → AreConstants new ws (take (i + 1) xs)
items_more before new vs ws xs i w x adds here are has more =
    let grows : Grows before new = adds_grow before new adds in
    let cs = map constant_of (take i xs) in
    let older : HaveConstants new (length new) vs (in_order cs) = constants_below new (length before) (length new) vs (in_order cs) (omega (arith, length_grown before new grows)) (constants_grown before new (length before) vs (in_order cs) grows are) in
    let all : HaveConstants new (length new) (vs ++ w ∷ []) (in_order (cs ++ constant_of x ∷ [])) = one_behind new (length new) vs cs w (constant_of x) older (constant_there new w (constant_of x) has) has in
    rw (more, next_taken xs i x here) all
