-- What objects of a kind are besides, and among more objects.
use Rattle.std.proofs.Common.{◌≡◌, ℕ, List, [], ◌∷◌, true, ◌||◌, refl, ap, subst, length, suc, ⊎_elim, arith}
use Rattle.std.specs.List.{list_all}
use Rattle.std.specs.Prelude.{nat_lt, replicate, slice_get, drop, zero, ◌++◌, ◌-◌}
use Rattle.std.proofs.lemmas.Bool.{and_parts, or_cases, ltb-true, lt-ltb}
use Rattle.py_objects.specs.declared.payload.Payload.{Payload}
use Rattle.py_objects.specs.Objects.{Obj}
use Rattle.py_check.specs.declared.note.Kind.{Kind}
use Rattle.py_check.specs.declared.note.Kind.TheVariants as kind
use Rattle.py_check.specs.Notes.{same_kind, plain_kind, kind_fits, kinds_fit}
use Rattle.py_check.proofs.NoteLemmas.{same_kinds}
use Rattle.py_code.specs.Bottom.{bottom}
use Rattle.py_check.specs.Taking.{at_place, picked, moved_kinds}
use Rattle.py_rows.specs.Answers.{HasKind}
use Rattle.py_rows.specs.Fitting.{HaveKinds}

-- what an object plainly is
plainly_is : (objects : List Payload) (v : Obj) (k : Kind) → HasKind objects v k → HasKind objects v (plain_kind k)
plainly_is objects v kind.Any is = is
plainly_is objects v kind.Str is = is
plainly_is objects v kind.Tuple is = is
plainly_is objects v kind.List is = is
plainly_is objects v kind.Set is = is
plainly_is objects v kind.Dict is = is
plainly_is objects v kind.Exc is = is
plainly_is objects v kind.Cell is = is
plainly_is objects v (kind.Cells n) is = absurd is
plainly_is objects v (kind.Names n) (vs, has, count, texts) = (vs, has)
plainly_is objects v (kind.Code c) is = is

-- an object is of each kind that its own fits
pub kind_fitted : (objects : List Payload) (v : Obj) (k l : Kind) → HasKind objects v k → kind_fits k l ≡ true → HasKind objects v l
kind_fitted objects v k l is fits =
    ⊎_elim
    (λ some.
    ⊎_elim
    (λ same. subst (HasKind objects v) (same_kinds k l same) is)
    (λ plain. subst (HasKind objects v) (same_kinds (plain_kind k) l plain) (plainly_is objects v k is))
    (or_cases (same_kind k l) (same_kind (plain_kind k) l) some))
    (λ any. subst (HasKind objects v) (same_kinds kind.Any l any) tt)
    (or_cases (same_kind k l || same_kind (plain_kind k) l) (same_kind kind.Any l) fits)

-- so are several
pub kinds_fitted : (objects : List Payload) (vs : List Obj) (ks ls : List Kind) → HaveKinds objects vs ks → kinds_fit ks ls ≡ true → HaveKinds objects vs ls
kinds_fitted objects [] [] [] are fit = tt
kinds_fitted objects [] [] (l ∷ ls) are fit = cc
kinds_fitted objects [] (k ∷ ks) ls are fit = absurd are
kinds_fitted objects (v ∷ vs) [] ls are fit = absurd are
kinds_fitted objects (v ∷ vs) (k ∷ ks) [] are fit = cc
kinds_fitted objects (v ∷ vs) (k ∷ ks) (l ∷ ls) are fit =
    let parts = and_parts (kind_fits k l) (kinds_fit ks ls) fit in
    (kind_fitted objects v k l are.0 parts.0, kinds_fitted objects vs ks ls are.1 parts.1)

-- there is a kind for each object
pub kinds_counted : (objects : List Payload) (vs : List Obj) (ks : List Kind) → HaveKinds objects vs ks → length vs ≡ length ks
kinds_counted objects [] [] are = refl
kinds_counted objects [] (k ∷ ks) are = absurd are
kinds_counted objects (v ∷ vs) [] are = absurd are
kinds_counted objects (v ∷ vs) (k ∷ ks) are = ap suc (kinds_counted objects vs ks are.1)

-- the lower values are of the lower kinds
pub kinds_dropped : (objects : List Payload) (n : ℕ) (vs : List Obj) (ks : List Kind) → HaveKinds objects vs ks → HaveKinds objects (drop n vs) (drop n ks)
kinds_dropped objects zero vs ks are = are
kinds_dropped objects (suc n) [] [] are = tt
kinds_dropped objects (suc n) [] (k ∷ ks) are = absurd are
kinds_dropped objects (suc n) (v ∷ vs) [] are = absurd are
kinds_dropped objects (suc n) (v ∷ vs) (k ∷ ks) are = kinds_dropped objects n vs ks are.1

-- those above a level are gone
pub kinds_under : (objects : List Payload) (l m : ℕ) (vs : List Obj) (ks : List Kind) → m ≡ l → HaveKinds objects vs ks → HaveKinds objects (bottom m vs) (bottom l ks)
kinds_under objects l m vs ks level are =
    let count : length vs ≡ length ks = kinds_counted objects vs ks are in
    let same : length vs - m ≡ length ks - l = omega (arith, level, count) in
    subst (λ (n : ℕ). HaveKinds objects (drop (length vs - m) vs) (drop n ks)) same (kinds_dropped objects (length vs - m) vs ks are)

-- one behind the other
pub kinds_joined : (objects : List Payload) (vs ws : List Obj) (ks ls : List Kind) → HaveKinds objects vs ks → HaveKinds objects ws ls → HaveKinds objects (vs ++ ws) (ks ++ ls)
kinds_joined objects [] ws [] ls are more = more
kinds_joined objects [] ws (k ∷ ks) ls are more = absurd are
kinds_joined objects (v ∷ vs) ws [] ls are more = absurd are
kinds_joined objects (v ∷ vs) ws (k ∷ ks) ls are more = (are.0, kinds_joined objects vs ws ks ls are.1 more)

-- those at the same places
kinds_at_place : (objects : List Payload) (p : ℕ) (vs : List Obj) (ks : List Kind) → HaveKinds objects vs ks → HaveKinds objects (at_place (slice_get vs p)) (at_place (slice_get ks p))
kinds_at_place objects p [] [] are = tt
kinds_at_place objects p [] (k ∷ ks) are = absurd are
kinds_at_place objects p (v ∷ vs) [] are = absurd are
kinds_at_place objects zero (v ∷ vs) (k ∷ ks) are = (are.0, tt)
kinds_at_place objects (suc p) (v ∷ vs) (k ∷ ks) are = kinds_at_place objects p vs ks are.1

kinds_picked : (objects : List Payload) (ps : List ℕ) (vs : List Obj) (ks : List Kind) → HaveKinds objects vs ks → HaveKinds objects (picked ps vs) (picked ps ks)
kinds_picked objects [] vs ks are = tt
kinds_picked objects (p ∷ ps) vs ks are =
    kinds_joined objects (at_place (slice_get vs p)) (picked ps vs) (at_place (slice_get ks p)) (picked ps ks) (kinds_at_place objects p vs ks are) (kinds_picked objects ps vs ks are)

-- copies are of any kind
place_any : (objects : List Payload) (p : ℕ) (vs : List Obj) → nat_lt p (length vs) ≡ true → HaveKinds objects (at_place (slice_get vs p)) (kind.Any ∷ [])
place_any objects p [] there = absurd (omega (arith, ltb-true p 0 there))
place_any objects zero (v ∷ vs) there = (tt, tt)
place_any objects (suc p) (v ∷ vs) there = place_any objects p vs (lt-ltb p (length vs) (omega (arith, ltb-true (suc p) (suc (length vs)) there)))

copies_any : (objects : List Payload) (ps : List ℕ) (vs : List Obj) → list_all (λ p. nat_lt p (length vs)) ps ≡ true → HaveKinds objects (picked ps vs) (replicate (length ps) kind.Any)
copies_any objects [] vs there = tt
copies_any objects (p ∷ ps) vs there =
    let parts = and_parts (nat_lt p (length vs)) (list_all (λ q. nat_lt q (length vs)) ps) there in
    kinds_joined objects (at_place (slice_get vs p)) (picked ps vs) (kind.Any ∷ []) (replicate (length ps) kind.Any) (place_any objects p vs parts.0) (copies_any objects ps vs parts.1)

-- entries that come, copied or moved
pub kinds_moved : (objects : List Payload) (n : ℕ) (ps : List ℕ) (vs : List Obj) (ks : List Kind) → list_all (λ p. nat_lt p (length vs)) ps ≡ true → HaveKinds objects vs ks → HaveKinds objects (picked ps vs) (moved_kinds n ps ks)
kinds_moved objects zero ps vs ks there are = copies_any objects ps vs there
kinds_moved objects (suc n) ps vs ks there are = kinds_picked objects ps vs ks are
