-- Whether what an exception names is there.
use Rattle.std.proofs.Common.{◌≡◌, ◌<◌, ◌≤◌, ◌+◌, ℕ, Bool, true, false, List, [], ◌∷◌, take, length, refl, sym, ap, subst, ◌∙◌, arith}
use Rattle.std.specs.Prelude.{Some, Decides, nat_lt, slice_get, ◌&&◌}
use Rattle.std.specs.List.{list_all}
use Rattle.std.proofs.lemmas.Bool.Decides.{nat_tests, Decides-ltb}
use Rattle.std.proofs.lemmas.List.Folds.{list_all_at, list_all_more}
use Rattle.std.proofs.lemmas.Option.{same_Some, slice_get_within, get_or_from_slice_get}
use Rattle.py_objects.specs.declared.payload.Payload.{Payload}
use Rattle.py_objects.specs.declared.payload.Payload.TheVariants as payload
use Rattle.py_objects.specs.declared.payload.ExceptionBody.{ExceptionBody}
use Rattle.py_objects.specs.Attrs.{Attrs}
use Rattle.py_objects.specs.Edits.{Kept, objects_of}
use Rattle.py_objects.specs.Objects.{Obj, Name, HasPayload, numbers, attr_numbers, class_object, AllBelow, IsClassObject}
use Rattle.py_objects.specs.Values.{tuple_of}
use Rattle.py_exceptions.specs.Reducing.{HasAllParts}
use Rattle.py_exceptions.specs.Repr.{payload_of}

-- what reads as a tuple is one
pub tuple_there : (objects : List Payload) (v : Obj) (p : Payload) (vs : List Obj) → Some p ≡ payload_of objects v → Some vs ≡ tuple_of p
    → HasPayload objects v (payload.Tuple vs)
tuple_there objects v p vs at reads = sym at ∙ ap Some (is p reads)
  where
    is : (q : Payload) → Some vs ≡ tuple_of q → q ≡ payload.Tuple vs
    is (payload.Tuple ws) same = ap payload.Tuple (sym (same_Some vs ws same))
    is _ same = absurd (cc same)

-- both are decided by two tests
both : {P Q : Type 0} (a b : Bool) → Decides a P → Decides b Q → Decides (a && b) (P × Q)
both true b p q = (λ yes. (p.0 refl, q.0 yes), λ h. q.1 h.1)
both false b p q = (λ yes. cc, λ h. p.1 h.0)

items_decided : (n : ℕ) (vs : List Obj) → Decides (list_all (λ v. nat_lt v.number n) vs) (AllBelow n (numbers vs))
items_decided n [] = (λ yes. tt, λ below. refl)
items_decided n (v ∷ vs) = both (nat_lt v.number n) _ (Decides-ltb v.number n) (items_decided n vs)

-- ---- attributes whose values are below a number

module _ (n : ℕ) (attrs : Attrs) where
  abbrev is_below : Name × Obj → Bool
  is_below a = nat_lt a.1.number n

  -- one of them fails
  pub value_fails : (i : ℕ) (a : Name × Obj) → slice_get attrs i ≡ Some a → n ≤ a.1.number → list_all is_below attrs ≡ false
  value_fails i a at high =
      let fails : is_below a ≡ false = grind (arith, nat_tests) in
      list_all_at is_below attrs i a (slice_get_within attrs i a at) (ap is_below (get_or_from_slice_get attrs i a a at) ∙ fails)

  -- one more of them holds
  pub value_holds : (i : ℕ) (a : Name × Obj) → slice_get attrs i ≡ Some a → a.1.number < n → list_all is_below (take i attrs) ≡ true
      → list_all is_below (take (i + 1) attrs) ≡ true
  value_holds i a at low so_far =
      let holds : is_below a ≡ true = grind (arith, nat_tests) in
      list_all_more is_below attrs i a (slice_get_within attrs i a at)
      ∙ (rw (so_far, ap is_below (get_or_from_slice_get attrs i a a at), holds) refl)

values_decided : (n : ℕ) (attrs : Attrs) → Decides (list_all (λ a. nat_lt a.1.number n) attrs) (AllBelow n (attr_numbers attrs))
values_decided n [] = (λ yes. tt, λ below. refl)
values_decided n (a ∷ attrs) = both (nat_lt a.1.number n) _ (Decides-ltb a.1.number n) (values_decided n attrs)

-- ---- what an exception names

module _ (s : Kept) (e : ExceptionBody) (vs : List Obj) (are : HasPayload (objects_of s) e.args (payload.Tuple vs)) where
  abbrev items_there : Bool
  items_there = list_all (λ v. nat_lt v.number (length s.made)) vs

  same_items : (parts : HasAllParts s e) → parts.arguments ≡ vs
  same_items parts = one (same_Some _ _ (sym parts.are_arguments ∙ are))
    where
      one : {xs : List Obj} → payload.Tuple xs ≡ payload.Tuple vs → xs ≡ vs
      one same = cc

  -- an argument isn't there
  pub items_fail : items_there ≡ false → HasAllParts s e → ⊥
  items_fail fails parts =
      let holds = (items_decided (length s.made) vs).1 (subst (λ (xs : List Obj). AllBelow (length s.made) (numbers xs)) (same_items parts) parts.items) in
      cc

  -- the values of the attributes decide the rest
  pub parts_decided : IsClassObject (objects_of s) (class_object e.class) → items_there ≡ true
      → Decides (list_all (λ a. nat_lt a.1.number (length s.made)) e.attrs) (HasAllParts s e)
  parts_decided class items = (
    λ yes. record {
      class = class;
      arguments = vs;
      are_arguments = are;
      items = (items_decided (length s.made) vs).0 items;
      values = (values_decided (length s.made) e.attrs).0 yes;
    },
    λ parts. (values_decided (length s.made) e.attrs).1 parts.values,
  )
