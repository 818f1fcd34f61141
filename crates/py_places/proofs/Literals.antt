-- A literal more: the first object of its payload, and the choices of what its number stands for.
use Rattle.std.proofs.Common.{◌≡◌, ◌<◌, ◌≤◌, ◌+◌, ◌-◌, ℕ, zero, suc, Bool, true, false, cond, List, [], ◌∷◌, ◌++◌, Some, None, refl, sym, subst, ap, ◌∙◌, length, length-append, slice_get, eqb, nat_lt, ltb, int_le, ℤ, arith, eq-eqb, ne_eqb, eqb-true, ltb-true, if◌then◌else◌}
use Rattle.std.proofs.lemmas.Bool.{eqb-false, ltb-false, le-ltb}
use Rattle.std.proofs.lemmas.Int.{ints}
use Rattle.std.proofs.lemmas.Slice.Eq.{bytes_eq-Decides}
use Rattle.py_code.proofs.NamesLemmas.{slice_get-append_last, slice_get-append_before}
use Rattle.py_objects.specs.declared.payload.Payload.{Payload}
use Rattle.py_objects.specs.declared.payload.Payload.TheVariants as payload
use Rattle.py_objects.specs.Objects.{Obj, HasPayload}
use Rattle.py_objects.specs.Values.{same_number}
use Rattle.py_places.specs.Cells.{Cell, Like, Cells, same_literal, first_from, first_of, cell_at, next_number}
use Rattle.py_places.specs.Standing.{Standing, Same, MayBe, first_unused, IsChoice}
use Rattle.py_places.proofs.Fits.{ObjScoped}

-- ---- payloads

same_integer : (m n : ℤ) → same_number m n ≡ true → m ≡ n
same_integer m n e = grind (arith, ints)

-- payloads of one literal are one
pub same_of : (p q : Payload) → same_literal p q ≡ true → p ≡ q
same_of payload.None payload.None e = refl
same_of (payload.Bool true) (payload.Bool true) e = refl
same_of (payload.Bool false) (payload.Bool false) e = refl
same_of (payload.Int m) (payload.Int n) e = ap payload.Int (same_integer m n e)
same_of (payload.Str s) (payload.Str t) e = ap payload.Str ((bytes_eq-Decides s t).0 e)
same_of _ _ e = absurd (cc e)

-- the payload of a literal is of itself
abbrev pub IsLiteralPayload : Payload → Type 0
IsLiteralPayload p = same_literal p p ≡ true

pub none_literal : IsLiteralPayload payload.None
none_literal = refl

pub bool_literal : (b : Bool) → IsLiteralPayload (payload.Bool b)
bool_literal true = refl
bool_literal false = refl

pub int_literal : (n : ℤ) → IsLiteralPayload (payload.Int n)
int_literal n = let whole : int_le n n ≡ true = grind (arith, ints) in rw whole refl

pub str_literal : (s : List ℕ) → IsLiteralPayload (payload.Str s)
str_literal s = (bytes_eq-Decides s s).1 refl

-- ---- the first object of a literal

found_at : (i : ℕ) (objects : List Payload) (p : Payload) (w : Obj) → first_from i objects p ≡ Some w
    → (k : ℕ) × (w.number ≡ i + k) × (slice_get objects k ≡ Some p)
found_at i [] p w e = absurd (cc e)
found_at i (q ∷ qs) p w e = by (same_literal q p) refl e (λ e1. found_at (suc i) qs p w e1)
  where
    by : (b : Bool) → same_literal q p ≡ b → cond b (Some (record { number = i })) (first_from (suc i) qs p) ≡ Some w
        → (first_from (suc i) qs p ≡ Some w → (k : ℕ) × (w.number ≡ suc i + k) × (slice_get qs k ≡ Some p))
        → (k : ℕ) × (w.number ≡ i + k) × (slice_get (q ∷ qs) k ≡ Some p)
    by true is e1 on =
        let one : record { number = i } ≡ w = cc e1 in
        let at : i ≡ w.number = ap (λ (v : Obj). v.number) one in
        (0, omega (arith, at), ap Some (same_of q p is))
    by false is e1 on = let (k, at, has) = on e1 in (suc k, omega (arith, at), has)

-- the first object of a literal has its payload
pub first_has : (objects : List Payload) (p : Payload) (w : Obj) → first_of objects p ≡ Some w → HasPayload objects w p
first_has objects p w e =
    let (k, at, has) = found_at 0 objects p w e in
    let same : k ≡ w.number = omega (arith, at) in
    subst (λ j. slice_get objects j ≡ Some p) same has

none_at : (i : ℕ) (objects : List Payload) (p : Payload) → IsLiteralPayload p → (k : ℕ) → first_from i objects p ≡ None → slice_get objects k ≡ Some p → ⊥
none_at i [] p one k e has = absurd (cc has)
none_at i (q ∷ qs) p one zero e has =
    let same : q ≡ p = cc has in
    let found : same_literal q p ≡ true = subst (λ r. same_literal r p ≡ true) (sym same) one in
    absurd (cc (subst (λ b. cond b (Some (record { number = i })) (first_from (suc i) qs p) ≡ None) found e))
none_at i (q ∷ qs) p one (suc k) e has = by (same_literal q p) e (λ e1. none_at (suc i) qs p one k e1 has)
  where
    by : (b : Bool) → cond b (Some (record { number = i })) (first_from (suc i) qs p) ≡ None → (first_from (suc i) qs p ≡ None → ⊥) → ⊥
    by true e1 on = absurd (cc e1)
    by false e1 on = on e1

-- where a literal has no first object, it has none
pub none_has : (objects : List Payload) (p : Payload) (v : Obj) → IsLiteralPayload p → first_of objects p ≡ None → HasPayload objects v p → ⊥
none_has objects p v one e has = none_at 0 objects p one v.number e has

-- ---- a number that stands for another object

abbrev pub update : Standing → ℕ → Obj → Standing
update σ n w v = if eqb v.number n then w else σ v

pub same_update : (σ : Standing) (n : ℕ) (w : Obj) → Same n σ (update σ n w)
same_update σ n w v below =
    let other : eqb v.number n ≡ false = ne_eqb v.number n (λ is. absurd (omega (arith, below, is))) in
    ap (λ b. cond b w (σ v)) (sym other)

pub update_at : (σ : Standing) (v w : Obj) → update σ v.number w v ≡ w
update_at σ v w = ap (λ b. cond b w (σ v)) (eq-eqb v.number v.number refl)

-- a number that all choices which agree below n let stand for the same is below n
pub scoped_below : (n : ℕ) (v : Obj) → ObjScoped n v → v.number < n
scoped_below n v scoped = by (ltb v.number n) refl
  where
    zero_all : Standing
    zero_all u = record { number = 0 }

    one_at : Standing
    one_at u = if eqb u.number v.number then record { number = 1 } else record { number = 0 }

    by : (b : Bool) → ltb v.number n ≡ b → v.number < n
    by true is = ltb-true v.number n is
    by false is =
        let far : n ≤ v.number = ltb-false v.number n is in
        let agree : Same n zero_all one_at = λ u below.
        sym (ap (λ b. cond b (record { number = 1 }) (record { number = 0 })) (ne_eqb u.number v.number (λ e. absurd (omega (arith, below, far, e))))) in
        let same : record { number = 0 } ≡ one_at v = scoped zero_all one_at agree in
        let one : one_at v ≡ record { number = 1 } = ap (λ b. cond b (record { number = 1 }) (record { number = 0 })) (eq-eqb v.number v.number refl) in
        let number : 0 ≡ 1 = ap (λ (u : Obj). u.number) (same ∙ one) in
        absurd (omega (arith, number))

-- ---- a cell more

module _ (objects : List Payload) where
  pub first_more : (cells : Cells) (x : Cell) → first_unused objects (cells ++ x ∷ []) ≡ suc (first_unused objects cells)
  first_more cells x = let more : length (cells ++ x ∷ []) ≡ length cells + 1 = length-append cells (x ∷ []) in omega (arith, more)

  -- those that are there stay
  pub cell_before : (cells : Cells) (x : Cell) (v : Obj) → v.number < first_unused objects cells → cell_at objects (cells ++ x ∷ []) v ≡ cell_at objects cells v
  cell_before cells x v below = by (nat_lt v.number (length objects)) refl
    where
      by : (b : Bool) → nat_lt v.number (length objects) ≡ b
          → cond b None (slice_get (cells ++ x ∷ []) (v.number - length objects)) ≡ cond b None (slice_get cells (v.number - length objects))
      by true is = refl
      by false is =
          let far : length objects ≤ v.number = ltb-false v.number (length objects) is in
          slice_get-append_before cells x (v.number - length objects) (omega (arith, below, far))

  -- the new one is that of the next number
  pub cell_last : (cells : Cells) (x : Cell) → cell_at objects (cells ++ x ∷ []) (next_number objects cells) ≡ Some x
  cell_last cells x =
      let far : nat_lt (first_unused objects cells) (length objects) ≡ false = le-ltb (first_unused objects cells) (length objects) (omega arith) in
      let place : first_unused objects cells - length objects ≡ length cells = omega arith in
      ap (λ b. cond b None (slice_get (cells ++ x ∷ []) (first_unused objects cells - length objects))) far
      ∙ (ap (slice_get (cells ++ x ∷ [])) place ∙ slice_get-append_last cells x)

  -- a number that is used with a cell more was used, or is the next one
  cell_number : (cells : Cells) (x : Cell) (v : Obj) → v.number < first_unused objects (cells ++ x ∷ []) → eqb v.number (first_unused objects cells) ≡ false
      → v.number < first_unused objects cells
  cell_number cells x v below is =
      let apart = eqb-false v.number (first_unused objects cells) is in
      let more = first_more cells x in
      omega (arith, below, apart, more)

  -- a choice goes on to one where the next number stands for any object with the payload of the cell
  pub choose_more : (cells : Cells) (σ : Standing) (p : Payload) (u w : Obj) → IsLiteralPayload p → HasPayload objects u p → HasPayload objects w p
      → IsChoice objects cells σ
      → IsChoice objects (cells ++ Like u ∷ []) (update σ (first_unused objects cells) w)
  choose_more cells σ p u w one has_u has_w choice v below = by (eqb v.number (first_unused objects cells)) refl
    where
      by : (b : Bool) → eqb v.number (first_unused objects cells) ≡ b → MayBe objects (cell_at objects (cells ++ Like u ∷ []) v) v (cond b w (σ v))
      by true is =
          let at : v.number ≡ first_unused objects cells = eqb-true v.number (first_unused objects cells) is in
          let next : next_number objects cells ≡ v = ap (λ n. record { number = n }) (sym at) in
          let cell : cell_at objects (cells ++ Like u ∷ []) v ≡ Some (Like u) =
          subst (λ y. cell_at objects (cells ++ Like u ∷ []) y ≡ Some (Like u)) next (cell_last cells (Like u)) in
          subst (λ c. MayBe objects c v w) (sym cell) (p, has_u, has_w, one)
      by false is =
          let low : v.number < first_unused objects cells = cell_number cells (Like u) v below is in
          subst (λ c. MayBe objects c v (σ v)) (sym (cell_before cells (Like u) v low)) (choice v low)

  -- a choice with a cell more is one without it
  pub choose_less : (cells : Cells) (x : Cell) (σ : Standing) → IsChoice objects (cells ++ x ∷ []) σ → IsChoice objects cells σ
  choose_less cells x σ choice v low =
      let more = first_more cells x in
      subst (λ c. MayBe objects c v (σ v)) (cell_before cells x v low) (choice v (omega (arith, low, more)))

  -- by which the next number stands for what has the payload of the cell
  pub choice_last : (cells : Cells) (p : Payload) (u : Obj) (σ : Standing) → HasPayload objects u p → IsChoice objects (cells ++ Like u ∷ []) σ
      → HasPayload objects (σ (next_number objects cells)) p
  choice_last cells p u σ has choice =
      let more = first_more cells (Like u) in
      let (q, has_u, has_it, one) = subst (λ c. MayBe objects c (next_number objects cells) (σ (next_number objects cells))) (cell_last cells (Like u))
      (choice (next_number objects cells) (omega (arith, more))) in
      let same : q ≡ p = cc (has, has_u) in
      subst (λ r. HasPayload objects (σ (next_number objects cells)) r) same has_it
