-- Objects of journals worked by hand: those of declarations, and others behind them.
use Rattle.std.proofs.Common.{◌≡◌, ◌+◌, ◌++◌, ℕ, zero, suc, List, [], ◌∷◌, Some, None, length, refl, sym, ap, ◌∙◌, subst, arith, inl, inr}
use Rattle.std.specs.Prelude.{Option, slice_get}
use Rattle.py_objects.specs.declared.payload.Payload.{Payload}
use Rattle.py_objects.specs.declared.payload.Payload.TheVariants as payload
use Rattle.py_objects.specs.Objects.{Obj, Name, HasPayload, declares, declared, AllFit}
use Rattle.py_objects.proofs.GrowthLemmas.{declared_grown, slice_get_split}
use Rattle.py_objects.proofs.NewLemmas.{declared_within}
use Rattle.py_grammar.specs.Grammar.{Decl}
use Rattle.py_run.specs.First.{first_objects}
use Rattle.py_meaning.specs.Whole.{AreObjects}
use Rattle.py_meaning.specs.Worked.{object}
use Rattle.py_meaning.proofs.Entries.{objects_more}

-- what is there is one thing
pub some_is : {X : Type 0} (x y : X) → Some x ≡ Some y → x ≡ y
some_is x y e = cc

-- P holds of each element
abbrev pub Each : {X : Type 0} → (X → Type 0) → List X → Type 0
Each P [] = Unit {0}
Each P (x ∷ xs) = P x × Each P xs

pub each_at : {X : Type 0} (P : X → Type 0) (xs : List X) → Each P xs → (i : ℕ) (x : X) → slice_get xs i ≡ Some x → P x
each_at P [] h i x e = absurd cc
each_at P (y ∷ ys) h zero x e = subst P (some_is y x e) h.0
each_at P (y ∷ ys) h (suc i) x e = each_at P ys h.1 i x e

-- what is declared behind the first objects isn't among them
pub not_before : (store : List Payload) (x : Name) (own : List Payload) → store ≡ first_objects ++ own → declared store x ≡ Some (object 0) → declared first_objects x ≡ None
not_before store x own is found = go (declared first_objects x) refl
  where
    go : (o : Option Obj) → declared first_objects x ≡ o → declared first_objects x ≡ None
    go None e = e
    go (Some v) e =
        let low = declared_within first_objects x v e in
        let same : Some v ≡ Some (object 0) = sym (declared_grown first_objects store x v (own, is) e) ∙ found in
        let number : v.number ≡ length first_objects + 0 = ap (λ (w : Obj). w.number) (some_is v (object 0) same) in
        absurd (omega (arith, low, number))

-- an entry that is no function, no class and no manager
abbrev pub DeclaresNothing : Payload → Type 0
DeclaresNothing (payload.Function b) = ⊥
DeclaresNothing (payload.Class b) = ⊥
DeclaresNothing (payload.Manager b) = ⊥
DeclaresNothing _ = Unit {0}

declares_nothing : (p : Payload) (x : Name) → DeclaresNothing p → declares p ≡ Some x → ⊥
declares_nothing (payload.Function b) x plain says = plain
declares_nothing (payload.Class b) x plain says = plain
declares_nothing (payload.Manager b) x plain says = plain
declares_nothing _ x plain says = cc says

-- a script's objects stay so with such entries behind them
pub objects_behind : (ds : List Decl) (objects rest store : List Payload) → store ≡ objects ++ rest → AreObjects ds objects → Each DeclaresNothing rest → AllFit store → AreObjects ds store
objects_behind ds objects rest store is are plain fit = objects_more ds objects store (rest, is) are before fit
  where
    before : (v : Obj) (p : Payload) (x : Name) → declares p ≡ Some x → HasPayload store v p → HasPayload objects v p
    before v p x says has = elim (slice_get_split objects rest v.number p (ap (λ os. slice_get os v.number) (sym is) ∙ has)) [
      | inl old ↦ old
      | inr new ↦ absurd (declares_nothing p x (each_at DeclaresNothing rest plain _ p new) says)
    ]
