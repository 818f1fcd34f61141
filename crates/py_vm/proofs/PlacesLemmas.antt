-- Where generators stand in their list.
use Rattle.std.proofs.Common.{◌≡◌, ◌<◌, ◌≤◌, ◌+◌, ◌++◌, ℕ, zero, suc, List, [], ◌∷◌, Bool, true, false, cond, not, ◌||◌, Some, None, inl, inr, refl, sym, ap, subst, ◌∙◌, map, length, arith, ◌⊎◌}
use Rattle.std.specs.Prelude.{slice_get, Option, Result, Ok, Err, OnOk, OnErr, eqb, nat_lt, position, slice_index_or, slice_set, if◌then◌else◌}
use Rattle.std.specs.List.{list_any, position_or_len}
use Rattle.std.proofs.lemmas.Bool.{ltb-true, ltb-false}
use Rattle.std.proofs.lemmas.Bool.Decides.{eqb_tells}
use Rattle.std.proofs.lemmas.List.{length-map, map-append}
use Rattle.std.proofs.lemmas.Option.{none-some, same_Some, get_or_from_slice_get}
use Rattle.indexmap.specs.IndexSet.{insert_key}
use Rattle.py_objects.specs.Objects.{Obj}
use Rattle.py_vm.specs.declared.generators.KeptGenerator.{KeptGenerator}
use Rattle.py_objects.specs.declared.refs.PyBaseExceptionRef.{PyBaseExceptionRef}
use Rattle.py_coro.specs.declared.coro.Begin.{Begin}
use Rattle.py_coro.specs.Modes.{Row, Running, thrown}
use Rattle.py_coro.specs.Coros.{State, behind, begun, is_running, left_by}
use Rattle.py_coro.specs.declared.coro.CoroEnd.{CoroEnd}
use Rattle.py_coro.specs.declared.refusal.CoroRefusal.{CoroRefusal}
use Rattle.py_coro.specs.Leaving.{mode_behind}
use Rattle.py_vm.specs.declared.stage.Suspended.{Suspended}
use Rattle.py_vm.specs.Generators.{changed_at, kept_at, kept_in, place_of, settled, with_state, without_activation, IsCalledOn, IsRunningNow, IsThrownInto}

-- the number of a generator's object
abbrev pub number_of : KeptGenerator → ℕ
number_of x = x.object.number

-- whether a generator is this object
abbrev is_it : Obj → KeptGenerator → Bool
is_it g x = eqb g.number x.object.number

-- numbers are the same either way
same_way : (n m : ℕ) → eqb n m ≡ eqb m n
same_way n m = by (eqb_tells n m) (eqb_tells m n)
  where
    by : ((eqb n m ≡ true) × (n ≡ m)) ⊎ ((eqb n m ≡ false) × (n ≡ m → ⊥)) → ((eqb m n ≡ true) × (m ≡ n)) ⊎ ((eqb m n ≡ false) × (m ≡ n → ⊥)) → eqb n m ≡ eqb m n
    by (inl a) (inl b) = a.0 ∙ sym b.0
    by (inl a) (inr b) = absurd (b.1 (sym a.1))
    by (inr a) (inl b) = absurd (a.1 (sym b.1))
    by (inr a) (inr b) = a.0 ∙ sym b.0

-- the place among the numbers is the one among the generators
numbers_place : (g : Obj) (list : List KeptGenerator) → position_or_len (eqb g.number) (map number_of list) ≡ position_or_len (is_it g) list
numbers_place g [] = refl
numbers_place g (x ∷ xs) = ap (λ n. cond (not (eqb g.number x.object.number)) (1 + n) 0) (numbers_place g xs)

pub place_among : (g : Obj) (list : List KeptGenerator) (keys : List ℕ) → keys ≡ map number_of list → position (eqb g.number) keys ≡ place_of list g
place_among g list keys are =
    ap (position (eqb g.number)) are
    ∙ ap (λ n. cond (nat_lt n (length (map number_of list))) (Some n) None) (numbers_place g list)
    ∙ ap (λ n. cond (nat_lt (position_or_len (is_it g) list) n) (Some (position_or_len (is_it g) list)) None) (length-map list number_of)

-- the generator that an object is stands at a place, where it may be changed
pub record StandsAt (g : Obj) (list : List KeptGenerator) (at : ℕ) (x : KeptGenerator) : Type 0 where
  pub here : slice_get list at ≡ Some x
  pub kept : kept_at list g ≡ Some x
  pub changes : (f : KeptGenerator → KeptGenerator) → slice_set list at (f x) ≡ changed_at g f list

at_first : (g : Obj) (list : List KeptGenerator) → position_or_len (is_it g) list < length list → (x : KeptGenerator) × StandsAt g list (position_or_len (is_it g) list) x
at_first g [] low = absurd (omega arith)
at_first g (x ∷ xs) low = by (is_it g x) refl low (at_first g xs)
  where
    by : (b : Bool) → is_it g x ≡ b → cond (not b) (1 + position_or_len (is_it g) xs) 0 < suc (length xs)
        → (position_or_len (is_it g) xs < length xs → (y : KeptGenerator) × StandsAt g xs (position_or_len (is_it g) xs) y)
        → (y : KeptGenerator) × StandsAt g (x ∷ xs) (cond (not b) (1 + position_or_len (is_it g) xs) 0) y
    by true is low later =
        let it : eqb x.object.number g.number ≡ true = same_way x.object.number g.number ∙ is in
        (x, record { here = refl; kept = rw (it) refl; changes = λ f. rw (it) refl })
    by false is low later =
        let n : ℕ = position_or_len (is_it g) xs in
        let other : eqb x.object.number g.number ≡ false = same_way x.object.number g.number ∙ is in
        let next : suc n ≡ 1 + n = omega arith in
        let it = later (omega arith) in
        (it.0, subst (λ k. StandsAt g (x ∷ xs) k it.0) next (record { here = it.1.here; kept = rw (other) it.1.kept; changes = λ f. rw (other) (ap (λ l. x ∷ l) (it.1.changes f)) }))

pub stands_at : (g : Obj) (list : List KeptGenerator) (at : ℕ) → place_of list g ≡ Some at → (x : KeptGenerator) × StandsAt g list at x
stands_at g list at is = by (nat_lt (position_or_len (is_it g) list) (length list)) refl is
  where
    by : (b : Bool) → nat_lt (position_or_len (is_it g) list) (length list) ≡ b → cond b (Some (position_or_len (is_it g) list)) None ≡ Some at → (x : KeptGenerator) × StandsAt g list at x
    by true low is =
        let it = at_first g list (ltb-true _ _ low) in
        (it.0, subst (λ k. StandsAt g list k it.0) (same_Some _ _ is) it.1)
    by false low is = absurd (cc is)

-- one that stands nowhere isn't there
past_all : (g : Obj) (list : List KeptGenerator) → length list ≤ position_or_len (is_it g) list → kept_at list g ≡ None
past_all g [] past = refl
past_all g (x ∷ xs) past = by (is_it g x) refl past (past_all g xs)
  where
    by : (b : Bool) → is_it g x ≡ b → suc (length xs) ≤ cond (not b) (1 + position_or_len (is_it g) xs) 0
        → (length xs ≤ position_or_len (is_it g) xs → kept_at xs g ≡ None) → kept_at (x ∷ xs) g ≡ None
    by true is past later = absurd (omega arith)
    by false is past later =
        let other : eqb x.object.number g.number ≡ false = same_way x.object.number g.number ∙ is in
        rw (other) (later (omega arith))

pub stands_nowhere : (g : Obj) (list : List KeptGenerator) → place_of list g ≡ None → kept_at list g ≡ None
stands_nowhere g list none = by (nat_lt (position_or_len (is_it g) list) (length list)) refl none
  where
    by : (b : Bool) → nat_lt (position_or_len (is_it g) list) (length list) ≡ b → cond b (Some (position_or_len (is_it g) list)) None ≡ None → kept_at list g ≡ None
    by true low none = absurd (cc none)
    by false past none = past_all g list (ltb-false _ _ past)

-- none of the numbers is one that isn't there
none_any : (g : Obj) (list : List KeptGenerator) → kept_at list g ≡ None → list_any (eqb g.number) (map number_of list) ≡ false
none_any g [] none = refl
none_any g (x ∷ xs) none = by (is_it g x) refl none (none_any g xs)
  where
    by : (b : Bool) → is_it g x ≡ b → (if eqb x.object.number g.number then Some x else kept_at xs g) ≡ None
        → (kept_at xs g ≡ None → list_any (eqb g.number) (map number_of xs) ≡ false) → (b || list_any (eqb g.number) (map number_of xs)) ≡ false
    by true is none later =
        let it : eqb x.object.number g.number ≡ true = same_way x.object.number g.number ∙ is in
        absurd (cc (rw it at none))
    by false is none later =
        let other : eqb x.object.number g.number ≡ false = same_way x.object.number g.number ∙ is in
        later (rw other at none)

-- one more, which isn't there yet
pub numbers_more : (list : List KeptGenerator) (x : KeptGenerator) (keys new : List ℕ) → keys ≡ map number_of list → kept_at list x.object ≡ None
    → new ≡ insert_key eqb keys x.object.number → new ≡ map number_of (list ++ x ∷ [])
numbers_more list x keys new are none inserted =
    inserted ∙ ap (λ ks. insert_key eqb ks x.object.number) are
    ∙ ap (λ b. cond b (map number_of list) (map number_of list ++ x.object.number ∷ [])) (none_any x.object list none)
    ∙ sym (map-append number_of list (x ∷ []))

-- the numbers stay where one changes whose object stays
pub numbers_set : (list : List KeptGenerator) (at : ℕ) (x y : KeptGenerator) → slice_get list at ≡ Some x → y.object ≡ x.object → map number_of (slice_set list at y) ≡ map number_of list
numbers_set [] at x y here same = absurd (cc here)
numbers_set (z ∷ zs) zero x y here same = ap (λ (o : Obj). o.number ∷ map number_of zs) (same ∙ ap (λ (k : KeptGenerator). k.object) (sym (same_Some _ _ here)))
numbers_set (z ∷ zs) (suc at) x y here same = ap (λ l. z.object.number ∷ l) (numbers_set zs at x y here same)

-- what is read at its place stands there
pub read_at : (g : Obj) (list : List KeptGenerator) (at : ℕ) (x : KeptGenerator) → place_of list g ≡ Some at → x ≡ slice_index_or list at x → StandsAt g list at x
read_at g list at x is read =
    let it = stands_at g list at is in
    subst (StandsAt g list at) (sym (read ∙ get_or_from_slice_get list at it.0 x it.1.here)) it.1

-- it stands there of the same list, seen another way
pub read_in : (g : Obj) (items list : List KeptGenerator) (at : ℕ) (x : KeptGenerator) → items ≡ list → place_of list g ≡ Some at → x ≡ slice_index_or items at x → StandsAt g list at x
read_in g items list at x same is read = read_at g list at x is (subst (λ l. x ≡ slice_index_or l at x) same read)

-- the numbers stay where the one that is read changes, and its object stays
pub numbers_kept : (g : Obj) (items list : List KeptGenerator) (keys : List ℕ) (at : ℕ) (x y : KeptGenerator) → items ≡ list → keys ≡ map number_of items → place_of list g ≡ Some at
    → x ≡ slice_index_or items at x → y.object ≡ x.object → keys ≡ map number_of (slice_set items at y)
numbers_kept g items list keys at x y same are is read object =
    are ∙ sym (numbers_set items at x y (subst (λ l. slice_get l at ≡ Some x) (sym same) (read_in g items list at x same is read).here) object)

-- the list where the one that is read changes
pub set_there : (g : Obj) (items list : List KeptGenerator) (at : ℕ) (x : KeptGenerator) (f : KeptGenerator → KeptGenerator) → items ≡ list → place_of list g ≡ Some at
    → x ≡ slice_index_or items at x → slice_set items at (f x) ≡ changed_at g f list
set_there g items list at x f same is read = ap (λ l. slice_set l at (f x)) same ∙ (read_in g items list at x same is read).changes f

-- nothing changes where it isn't there
pub changed_nowhere : (g : Obj) (f : KeptGenerator → KeptGenerator) (list : List KeptGenerator) → kept_at list g ≡ None → changed_at g f list ≡ list
changed_nowhere g f [] none = refl
changed_nowhere g f (x ∷ xs) none = by (eqb x.object.number g.number) refl none (changed_nowhere g f xs)
  where
    by : (b : Bool) → eqb x.object.number g.number ≡ b → cond b (Some x) (kept_at xs g) ≡ None → (kept_at xs g ≡ None → changed_at g f xs ≡ xs) → cond b (f x ∷ xs) (x ∷ changed_at g f xs) ≡ x ∷ xs
    by true is none later = absurd (cc none)
    by false is none later = ap (λ l. x ∷ l) (later none)

-- a call of one that is there
pub called_there : (g : Obj) (row : State → Row) (items list : List KeptGenerator) (at : ℕ) (x : KeptGenerator) (new : State) (b : Begin) → items ≡ list → place_of list g ≡ Some at
    → x ≡ slice_index_or items at x → ((e : PyBaseExceptionRef) → b ≡ begun e (row x.generator)) → new ≡ behind (row x.generator) x.generator
    → IsCalledOn g row list (slice_set items at (record x { generator = new })) (Some b)
called_there g row items list at x new b same is read answers left = (
  x,
  (read_in g items list at x same is read).kept,
  answers,
  ap (λ t. slice_set items at (record x { generator = t })) left ∙ set_there g items list at x (with_state (λ t. behind (row t) t)) same is read,
)

-- a call of one that isn't there
pub called_nowhere : (g : Obj) (row : State → Row) (list : List KeptGenerator) (r : Option Begin) → None ≡ place_of list g → r ≡ None → IsCalledOn g row list list r
called_nowhere g row list r is none = subst (IsCalledOn g row list list) (sym none) (stands_nowhere g list (sym is), refl)

-- a throw into one that is there
pub thrown_there : (g : Obj) (e : PyBaseExceptionRef) (depth : ℕ) (items list : List KeptGenerator) (at : ℕ) (x : KeptGenerator) (new : State) (b : Begin) → items ≡ list
    → place_of list g ≡ Some at
    → x ≡ slice_index_or items at x → b ≡ begun e (thrown x.generator.mode depth) → new ≡ behind (thrown x.generator.mode depth) x.generator
    → IsThrownInto g e depth list (slice_set items at (record x { generator = new })) (Some b)
thrown_there g e depth items list at x new b same is read answers left = (
  x,
  (read_in g items list at x same is read).kept,
  answers,
  ap (λ t. slice_set items at (record x { generator = t })) left ∙ set_there g items list at x (with_state (λ t. behind (thrown t.mode depth) t)) same is read,
)

-- a throw into one that isn't there
pub thrown_nowhere : (g : Obj) (e : PyBaseExceptionRef) (depth : ℕ) (list : List KeptGenerator) (r : Option Begin) → None ≡ place_of list g → r ≡ None → IsThrownInto g e depth list list r
thrown_nowhere g e depth list r is none = subst (IsThrownInto g e depth list list) (sym none) (stands_nowhere g list (sym is), refl)

-- it is the one that is read there
pub read_one : (g : Obj) (items list : List KeptGenerator) (at : ℕ) (x y : KeptGenerator) → items ≡ list → place_of list g ≡ Some at → x ≡ slice_index_or items at x → kept_at list g ≡ Some y → x ≡ y
read_one g items list at x y same is read kept = same_Some _ _ (sym (read_in g items list at x same is read).kept ∙ kept)

-- so where it runs, the one that is read does
pub runs_there : (g : Obj) (items list : List KeptGenerator) (at : ℕ) (x : KeptGenerator) → items ≡ list → place_of list g ≡ Some at → x ≡ slice_index_or items at x
    → IsRunningNow list g → x.generator.mode ≡ Running
runs_there g items list at x same is read (y, kept, runs) = ap (λ (k : KeptGenerator). k.generator.mode) (read_one g items list at x y same is read kept) ∙ runs

-- what isn't there doesn't run
pub nowhere_runs : (g : Obj) (list : List KeptGenerator) → None ≡ place_of list g → IsRunningNow list g → ⊥
nowhere_runs g list is (x, kept, runs) = none-some _ (sym (stands_nowhere g list (sym is)) ∙ kept)

-- one that may be thrown into doesn't run, and one that refuses that does
pub thrown_free : {A : Type 0} (g : Obj) (items list : List KeptGenerator) (at : ℕ) (x : KeptGenerator) (r : Result A CoroRefusal) → items ≡ list → place_of list g ≡ Some at
    → x ≡ slice_index_or items at x → OnOk r (is_running x.generator.mode ≡ false) → OnOk r (IsRunningNow list g → ⊥)
thrown_free g items list at x (Ok a) same is read free = λ runs. absurd (cc (sym (ap is_running (runs_there g items list at x same is read runs)) ∙ free))
thrown_free g items list at x (Err e) same is read free = free

pub thrown_running : {A : Type 0} (g : Obj) (items list : List KeptGenerator) (at : ℕ) (x : KeptGenerator) (r : Result A CoroRefusal) → items ≡ list → place_of list g ≡ Some at
    → x ≡ slice_index_or items at x → OnErr r (x.generator.mode ≡ Running) → OnErr r (IsRunningNow list g)
thrown_running g items list at x (Ok a) same is read runs = runs
thrown_running g items list at x (Err e) same is read runs = (x, (read_in g items list at x same is read).kept, runs)

-- one that was entered and left
pub settled_there : (g : Obj) (left : Suspended) (how : CoroEnd) (items list : List KeptGenerator) (at : ℕ) (x : KeptGenerator) (new : State) (kept : Option Suspended) → items ≡ list
    → place_of list g ≡ Some at
    → x ≡ slice_index_or items at x → new ≡ left_by how x.generator → kept ≡ kept_in (mode_behind x.generator.closing how) left
    → slice_set items at (record x { generator = new; suspended = kept }) ≡ changed_at g (settled left how) list
settled_there g left how items list at x new kept same is read leaves keeps =
    ap (λ t. slice_set items at (record x { generator = t; suspended = kept })) leaves
    ∙ ap (λ k. slice_set items at (record x { generator = left_by how x.generator; suspended = k })) keeps
    ∙ set_there g items list at x (settled left how) same is read

-- one whose activation was taken
pub taken_there : (g : Obj) (items list : List KeptGenerator) (at : ℕ) (x : KeptGenerator) (kept : Option Suspended) → items ≡ list → place_of list g ≡ Some at
    → x ≡ slice_index_or items at x → kept ≡ None
    → slice_set items at (record x { suspended = kept }) ≡ changed_at g without_activation list
taken_there g items list at x kept same is read none =
    ap (λ k. slice_set items at (record x { suspended = k })) none ∙ set_there g items list at x without_activation same is read
