-- Changes in the order of their events, made one event after another.
use Rattle.std.proofs.Common.{◌≡◌, ◌↔◌, ◌+◌, ℕ, suc, ◌<◌, ◌≤◌, Bool, true, false, List, [], ◌∷◌, ◌++◌, refl, ap, subst, ◌∙◌, arith, filter, nat_le, nat_lt}
use Rattle.std.specs.List.{IsAllAdjacentAnswer}
use Rattle.std.proofs.lemmas.Bool.Decides.{nat_tests}
use Rattle.std.proofs.lemmas.List.Kept.{IsNonDecreasingBy-filter}
use Rattle.std.proofs.lemmas.List.Sorted.{IsNonDecreasingBy-from_all_adjacent}
use Rattle.py_objects.specs.declared.edit.Change.{Change}
use Rattle.py_objects.specs.declared.payload.Payload.{Payload}
use Rattle.py_objects.specs.Edits.{changed_by, store_at, with_edit}
use Rattle.py_objects.specs.Due.{AreInOrder, later}

-- ---- numbers of events

not_due : (a k : ℕ) → k < a → nat_le a k ≡ false
not_due a k high = grind (arith, nat_tests)

above : (a k : ℕ) → nat_le a k ≡ false → nat_lt k a ≡ true
above a k high = grind (arith, nat_tests)

past : (a b k : ℕ) → nat_le a k ≡ false → a ≤ b → nat_le b k ≡ false
past a b k high le = grind (arith, nat_tests)

is_due : (a k : ℕ) → a ≤ k → nat_le a k ≡ true
is_due a k low = grind (arith, nat_tests)

not_above : (a k : ℕ) → nat_le a k ≡ true → nat_lt k a ≡ false
not_above a k low = grind (arith, nat_tests)

due_on : (a k j : ℕ) → nat_le a k ≡ true → k ≤ j → nat_le a j ≡ true
due_on a k j low le = grind (arith, nat_tests)

-- ---- lists in order

is_low : (a b : ℕ) → true ≡ nat_le a b → a ≤ b
is_low a b low = grind (arith, nat_tests)

is_high : (a b : ℕ) → false ≡ nat_le a b → b < a
is_high a b high = grind (arith, nat_tests)

-- they are in order exactly where each is of no later event than the next one
pub order_decided : (cs : List Change) (b : Bool) → IsAllAdjacentAnswer (λ x y r. r ≡ nat_le x.after y.after) cs b → b ≡ true ↔ AreInOrder cs
order_decided cs true each =
    (λ _. IsNonDecreasingBy-from_all_adjacent (λ c. c.after) cs (λ k d within. is_low _ _ (each k d within)), λ _. refl)
order_decided [] false (k, within, apart) = absurd (omega arith)
order_decided (c ∷ cs) false (k, within, apart) =
    (λ never. absurd cc, λ order. absurd (omega (arith, is_high _ _ (apart c), order k (k + 1) c (omega arith) within)))

order_tail : (c : Change) (cs : List Change) → AreInOrder (c ∷ cs) → AreInOrder cs
order_tail c cs order i j d le within = order (suc i) (suc j) d (omega arith) (omega arith)

order_next : (c e : Change) (cs : List Change) → AreInOrder (c ∷ e ∷ cs) → c.after ≤ e.after
order_next c e cs order = order 0 1 c (omega arith) (omega arith)

-- where the first is of a later event, none is due, and all are left
none_due : (k : ℕ) (c : Change) (cs : List Change) → AreInOrder (c ∷ cs) → nat_le c.after k ≡ false → filter (λ d. nat_le d.after k) (c ∷ cs) ≡ []
none_due k c [] order high = rw high refl
none_due k c (e ∷ cs) order high =
    rw high (none_due k e cs (order_tail c (e ∷ cs) order) (past c.after e.after k high (order_next c e cs order)))

all_later : (k : ℕ) (c : Change) (cs : List Change) → AreInOrder (c ∷ cs) → nat_le c.after k ≡ false → later k (c ∷ cs) ≡ c ∷ cs
all_later k c [] order high = rw (above c.after k high) refl
all_later k c (e ∷ cs) order high =
    rw (above c.after k high) (ap (λ l. c ∷ l) (all_later k e cs (order_tail c (e ∷ cs) order) (past c.after e.after k high (order_next c e cs order))))

pub order_later : (k : ℕ) (cs : List Change) → AreInOrder cs → AreInOrder (later k cs)
order_later k cs order = IsNonDecreasingBy-filter (λ c. c.after) (λ c. nat_lt k c.after) cs order

module _ (k : ℕ) (c : Change) (all more : List Change) (first : all ≡ c ∷ more) (order : AreInOrder all) where
  -- a first change that is of a later event
  pub none_made : (objects : List Payload) → k < c.after → store_at objects all k ≡ objects
  none_made objects high = rw first (ap (changed_by objects) (none_due k c more (subst AreInOrder first order) (not_due c.after k high)))

  pub all_left : k < c.after → later k all ≡ all
  all_left high = rw first (all_later k c more (subst AreInOrder first order) (not_due c.after k high))

  -- one that is due
  pub order_more : AreInOrder more
  order_more = order_tail c more (subst AreInOrder first order)

  pub one_made : (objects : List Payload) → c.after ≤ k → store_at objects all k ≡ store_at (with_edit objects c.object c.edit) more k
  one_made objects low = rw (first, is_due c.after k low) refl

  pub later_more : c.after ≤ k → later k all ≡ later k more
  later_more low = rw (first, not_above c.after k (is_due c.after k low)) refl

-- ---- one event after another

changed_by-both : (objects : List Payload) (cs ds : List Change) → changed_by objects (cs ++ ds) ≡ changed_by (changed_by objects cs) ds
changed_by-both objects [] ds = refl
changed_by-both objects (c ∷ cs) ds = changed_by-both (with_edit objects c.object c.edit) cs ds

-- what is due by an event is what was due by an earlier one, and then what is due of the others
due_parts : (k j : ℕ) (cs : List Change) → AreInOrder cs → k ≤ j
    → filter (λ c. nat_le c.after j) cs ≡ filter (λ c. nat_le c.after k) cs ++ filter (λ c. nat_le c.after j) (later k cs)
due_parts k j [] order le = refl
due_parts k j (c ∷ cs) order le = by (nat_le c.after k) refl (due_parts k j cs (order_tail c cs order) le)
  where
    by : (b : Bool) → nat_le c.after k ≡ b
        → filter (λ d. nat_le d.after j) cs ≡ filter (λ d. nat_le d.after k) cs ++ filter (λ d. nat_le d.after j) (later k cs)
        → filter (λ d. nat_le d.after j) (c ∷ cs) ≡ filter (λ d. nat_le d.after k) (c ∷ cs) ++ filter (λ d. nat_le d.after j) (later k (c ∷ cs))
    by true is rest = rw (is, not_above c.after k is, due_on c.after k j is le) (ap (λ l. c ∷ l) rest)
    by false is rest = rw (none_due k c cs order is, all_later k c cs order is) refl

-- so the objects at an event are those at an earlier one, with the changes that are left
pub store_on : (objects : List Payload) (k j : ℕ) (cs : List Change) → AreInOrder cs → k ≤ j → store_at objects cs j ≡ store_at (store_at objects cs k) (later k cs) j
store_on objects k j cs order le =
    ap (changed_by objects) (due_parts k j cs order le) ∙ changed_by-both objects (filter (λ c. nat_le c.after k) cs) (filter (λ c. nat_le c.after j) (later k cs))
