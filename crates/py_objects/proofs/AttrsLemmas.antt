-- Attributes that an indexed map of vectors of characters holds.
use Rattle.std.proofs.Common.{◌≡◌, ℕ, List, [], ◌∷◌, Bool, true, false, cond, Vec, refl, ap}
use Rattle.std.specs.Prelude.{bytes_eq}
use Rattle.std.specs.List.{AllZip}
use Rattle.std.specs.Map.{lookup, remove_entry}
use Rattle.indexmap.specs.IndexMap.{insert_entry}
use Rattle.py_objects.specs.Refs.{Obj, Name}
use Rattle.py_objects.specs.Attrs.{inserted, without, value_of}
use Rattle.py_objects.specs.AttrEntries.{attrs_of}

module _ {A : Type 0} where
  -- an insertion sets the value of the key's name
  pub attrs_of-insert_entry : (k : Vec ℕ A) (v : Obj) (es : List (Vec ℕ A × Obj))
      → attrs_of (insert_entry (λ a b. bytes_eq a.items b.items) es k v) ≡ inserted k.items v (attrs_of es)
  attrs_of-insert_entry k v [] = refl
  attrs_of-insert_entry k v (e ∷ es) = by (bytes_eq k.items e.0.items) (attrs_of-insert_entry k v es)
    where
      by : (b : Bool) → attrs_of (insert_entry (λ a b. bytes_eq a.items b.items) es k v) ≡ inserted k.items v (attrs_of es)
          → attrs_of (cond b ((e.0, v) ∷ es) (e ∷ insert_entry (λ a b. bytes_eq a.items b.items) es k v))
          ≡ cond b ((e.0.items, v) ∷ attrs_of es) ((e.0.items, e.1) ∷ inserted k.items v (attrs_of es))
      by true rest = refl
      by false rest = ap (λ l. (e.0.items, e.1) ∷ l) rest

  -- a look-up by a name gives its value
  pub value_of-attrs_of : (x : Name) (es : List (Vec ℕ A × Obj)) → lookup (λ k. bytes_eq x k.items) es ≡ value_of x (attrs_of es)
  value_of-attrs_of x [] = refl
  value_of-attrs_of x (e ∷ es) = rw (value_of-attrs_of x es)

  -- a removal takes the name off
  pub attrs_of-remove_entry : (x : Name) (es : List (Vec ℕ A × Obj))
      → attrs_of (remove_entry (λ k. bytes_eq x k.items) es) ≡ without x (attrs_of es)
  attrs_of-remove_entry x [] = refl
  attrs_of-remove_entry x (e ∷ es) = by (bytes_eq x e.0.items) (attrs_of-remove_entry x es)
    where
      by : (b : Bool) → attrs_of (remove_entry (λ k. bytes_eq x k.items) es) ≡ without x (attrs_of es)
          → attrs_of (cond b es (e ∷ remove_entry (λ k. bytes_eq x k.items) es))
          ≡ cond b (attrs_of es) ((e.0.items, e.1) ∷ without x (attrs_of es))
      by true rest = refl
      by false rest = ap (λ l. (e.0.items, e.1) ∷ l) rest

  -- clones hold the same attributes
  pub attrs_of-clones : (C : Vec ℕ A → Vec ℕ A → Type 0) (D : Obj → Obj → Type 0)
      → ((k l : Vec ℕ A) → C k l → l.items ≡ k.items) → ((v w : Obj) → D v w → w ≡ v)
      → (es fs : List (Vec ℕ A × Obj)) → AllZip (λ p q. C p.0 q.0 × D p.1 q.1) es fs → attrs_of fs ≡ attrs_of es
  attrs_of-clones C D names values [] [] all = refl
  attrs_of-clones C D names values [] (f ∷ fs) all = absurd all
  attrs_of-clones C D names values (e ∷ es) [] all = absurd all
  attrs_of-clones C D names values (e ∷ es) (f ∷ fs) all =
      let name = names e.0 f.0 all.0.0 in
      let value = values e.1 f.1 all.0.1 in
      let rest = attrs_of-clones C D names values es fs all.1 in
      cc
