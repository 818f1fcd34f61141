-- Objects that come behind others: what stays as it is.
use Rattle.std.proofs.Common.{◌≡◌, ◌+◌, ◌++◌, ℕ, zero, suc, List, [], ◌∷◌, Some, append_assoc, ◌<◌, ◌≤◌, ◌-◌, Bool, true, false, cond, refl, sym, ap, subst, ◌∙◌, length, length-append, append-nil, arith, ◌⊎◌, inl, inr}
use Rattle.std.specs.Prelude.{slice_get, Option, None}
use Rattle.py_objects.specs.declared.payload.Payload.{Payload}
use Rattle.py_objects.specs.Objects.{Obj, HasPayload, Name, declares, is_name, declared_from, declared, payload_numbers, AllBelow, AreClasses, IsMade, AllFit, IfThere, IsNew}
use Rattle.py_objects.specs.Growth.{Grows, GrowsPlainly}
use Rattle.py_objects.specs.declared.payload.Payload.TheVariants as payload
use Rattle.py_objects.specs.declared.event.Event.{Event}

-- an entry stays where it is as more comes behind
pub slice_get_grown : {A : Type 0} (xs ys : List A) (i : ℕ) (x : A) → slice_get xs i ≡ Some x → slice_get (xs ++ ys) i ≡ Some x
slice_get_grown [] ys i x here = cc
slice_get_grown (z ∷ zs) ys zero x here = here
slice_get_grown (z ∷ zs) ys (suc i) x here = slice_get_grown zs ys i x here

-- an entry behind others
pub slice_get_behind : {A : Type 0} (xs ys : List A) (i : ℕ) → slice_get (xs ++ ys) (length xs + i) ≡ slice_get ys i
slice_get_behind [] ys i = ap (slice_get ys) (let same : 0 + i ≡ i = omega arith in same)
slice_get_behind (x ∷ xs) ys i =
    ap (slice_get ((x ∷ xs) ++ ys)) (let same : suc (length xs) + i ≡ suc (length xs + i) = omega arith in same) ∙ slice_get_behind xs ys i

-- a payload stays as objects grow
pub payload_grown : (objects objects' : List Payload) (v : Obj) (p : Payload) → Grows objects objects' → HasPayload objects v p → HasPayload objects' v p
payload_grown objects objects' v p (more, is) has = rw is (slice_get_grown objects more v.number p has)

pub grows_on : (a b c : List Payload) → Grows a b → Grows b c → Grows a c
grows_on a b c (xs, x) (ys, y) = (xs ++ ys, rw (y, x) (append_assoc a xs ys))

-- what is below stays below more
pub below_more : (n m : ℕ) (ks : List ℕ) → n ≤ m → AllBelow n ks → AllBelow m ks
below_more n m [] more below = tt
below_more n m (k ∷ ks) more below = (let here : k < n = below.0 in omega (arith, here), below_more n m ks more below.1)

-- an entry of a longer list is one of its front, or one behind it
pub slice_get_split : {A : Type 0} (xs ys : List A) (i : ℕ) (x : A) → slice_get (xs ++ ys) i ≡ Some x → (slice_get xs i ≡ Some x) ⊎ (slice_get ys (i - length xs) ≡ Some x)
slice_get_split [] ys i x here = let same : i - 0 ≡ i = omega arith in inr (rw same here)
slice_get_split (z ∷ zs) ys zero x here = inl here
slice_get_split (z ∷ zs) ys (suc i) x here =
    let same : suc i - suc (length zs) ≡ i - length zs = omega arith in
    elim (slice_get_split zs ys i x here) [ inl front ↦ inl front | inr back ↦ inr (rw same back) ]

-- more objects are not fewer
pub length_grown : (objects objects' : List Payload) → Grows objects objects' → length objects ≤ length objects'
length_grown objects objects' (more, is) = omega (arith, ap length is, length-append objects more)

-- the first object of a name stays the first, wherever the numbering begins
declared_from_grown : (i : ℕ) (objects more : List Payload) (n : Name) (v : Obj) → declared_from i objects n ≡ Some v → declared_from i (objects ++ more) n ≡ Some v
declared_from_grown i [] more n v is = cc
declared_from_grown i (p ∷ ps) more n v is =
    let P : Bool → Type 0 = λ b. cond b (Some (record { number = i })) (declared_from (suc i) ps n) ≡ Some v → cond b (Some (record { number = i })) (declared_from (suc i) (ps ++ more) n) ≡ Some v in
    let cases : (b : Bool) → P b = λ b. elim b as P [ true ↦ λ h. h | false ↦ λ h. declared_from_grown (suc i) ps more n v h ] in
    cases (is_name n (declares p)) is

-- the same, of all objects
pub declared_grown : (objects objects' : List Payload) (n : Name) (v : Obj) → Grows objects objects' → declared objects n ≡ Some v → declared objects' n ≡ Some v
declared_grown objects objects' n v (more, same) is = rw same (declared_from_grown 0 objects more n v is)

-- what holds of an object, where there is one, may be weakened
there_grown : {P Q : Obj → Type 0} (v : Option Obj) → ((w : Obj) → P w → Q w) → IfThere P v → IfThere Q v
there_grown None f there = tt
there_grown (Some v) f there = f v there

-- classes stay classes
pub classes_grown : (objects objects' : List Payload) (vs : List Obj) → Grows objects objects' → AreClasses objects vs → AreClasses objects' vs
classes_grown objects objects' [] grows classes = tt
classes_grown objects objects' (v ∷ vs) grows ((c, is), more) = ((c, payload_grown objects objects' _ _ grows is), classes_grown objects objects' vs grows more)

-- an entry's objects are of their kinds also among more objects
pub made_grown : (objects objects' : List Payload) (p : Payload) → Grows objects objects' → IsMade objects p → IsMade objects' p
made_grown objects objects' (payload.Class c) grows made = classes_grown objects objects' c.mro grows made
made_grown objects objects' (payload.Manager m) grows ((f, is_enter), (g, is_exit)) =
    ((f, payload_grown objects objects' _ _ grows is_enter), (g, payload_grown objects objects' _ _ grows is_exit))
made_grown objects objects' (payload.Exception e) grows made = record {
  class = made.class;
  is_class = payload_grown objects objects' _ _ grows made.is_class;
  arguments = made.arguments;
  are_arguments = payload_grown objects objects' _ _ grows made.are_arguments;
  cause = there_grown e.cause (λ v (b, is). (b, payload_grown objects objects' _ _ grows is)) made.cause;
  context = there_grown e.context (λ v (b, is). (b, payload_grown objects objects' _ _ grows is)) made.context;
  traceback = there_grown e.traceback (λ v (b, is). (b, payload_grown objects objects' _ _ grows is)) made.traceback;
}
made_grown objects objects' (payload.Traceback t) grows (is_next, (c, is_frame)) =
    (there_grown t.next (λ v (b, is). (b, payload_grown objects objects' _ _ grows is)) is_next, (c, payload_grown objects objects' _ _ grows is_frame))
made_grown objects objects' _ grows made = tt

-- plain growth is growth
pub plainly_grows : (old new : List Payload) → GrowsPlainly old new → Grows old new
plainly_grows old new grows = (grows.more, grows.is)

-- nothing more is plain growth
pub grows_plainly_refl : (objects : List Payload) → GrowsPlainly objects objects
grows_plainly_refl objects = record { more = []; is = sym (append-nil objects); plain = λ i p here. cc; fit = λ fit. fit }

-- plain growth and plain growth are plain growth
pub grows_plainly_trans : (old mid new : List Payload) → GrowsPlainly old mid → GrowsPlainly mid new → GrowsPlainly old new
grows_plainly_trans old mid new first second = record {
  more = first.more ++ second.more;
  is = second.is ∙ ap (λ os. os ++ second.more) first.is ∙ append_assoc old first.more second.more;
  plain = λ i p here. elim (slice_get_split first.more second.more i p here) [ inl front ↦ first.plain i p front | inr back ↦ second.plain _ p back ];
  fit = λ fit. second.fit (first.fit fit);
}

-- the entry of a list of one
pub one_entry : {A : Type 0} (x y : A) (i : ℕ) → slice_get (x ∷ []) i ≡ Some y → x ≡ y
one_entry x y zero here = cc
one_entry x y (suc i) here = absurd (cc here)

-- a payload that declares nothing and names objects that are there, of the kinds that it needs
pub grows_plainly_by : (objects : List Payload) (q : Payload) → declares q ≡ None → (AllFit objects → AllBelow (length objects) (payload_numbers q)) → (AllFit objects → IsMade objects q) → GrowsPlainly objects (objects ++ q ∷ [])
grows_plainly_by objects q plain below made =
    let grows : Grows objects (objects ++ q ∷ []) = (q ∷ [], refl) in
    let longer : length objects ≤ length (objects ++ q ∷ []) = length_grown _ _ grows in
    let Fits : Payload → Type 0 = λ p. AllBelow (length (objects ++ q ∷ [])) (payload_numbers p) × IsMade (objects ++ q ∷ []) p in
    record {
      more = q ∷ [];
      is = refl;
      plain = λ i p here. subst (λ (r : Payload). declares r ≡ None) (one_entry q p i here) plain;
      fit = λ fit i p here. elim (slice_get_split objects (q ∷ []) i p here) [
        | inl front ↦ (below_more _ _ _ longer (fit i p front).0, made_grown _ _ p grows (fit i p front).1)
        | inr back ↦ subst Fits (one_entry q p _ back) (below_more _ _ _ longer (below fit), made_grown _ _ q grows (made fit))
      ];
    }

-- objects that declare nothing are declared under no name
declared_from_plain : (i : ℕ) (more : List Payload) (n : Name) → ((j : ℕ) (p : Payload) → slice_get more j ≡ Some p → declares p ≡ None) → declared_from i more n ≡ None
declared_from_plain i [] n plain = refl
declared_from_plain i (p ∷ ps) n plain =
    let none : declares p ≡ None = plain 0 p refl in
    ap (λ d. cond (is_name n d) (Some (record { number = i })) (declared_from (suc i) ps n)) none ∙ declared_from_plain (suc i) ps n (λ j q here. plain (suc j) q here)

declared_from_stays : (i : ℕ) (objects more : List Payload) (n : Name) → ((j : ℕ) (p : Payload) → slice_get more j ≡ Some p → declares p ≡ None)
    → declared_from i (objects ++ more) n ≡ declared_from i objects n
declared_from_stays i [] more n plain = declared_from_plain i more n plain
declared_from_stays i (p ∷ ps) more n plain = ap (λ d. cond (is_name n (declares p)) (Some (record { number = i })) d) (declared_from_stays (suc i) ps more n plain)

-- the objects that are declared stay
pub declared_stays : (objects objects' : List Payload) (n : Name) → GrowsPlainly objects objects' → declared objects' n ≡ declared objects n
declared_stays objects objects' n grows = ap (λ os. declared os n) grows.is ∙ declared_from_stays 0 objects grows.more n grows.plain

-- what was new stays new
pub new_stays : (objects objects' : List Payload) (before : List Event) (n : ℕ) → GrowsPlainly objects objects' → IsNew objects before n → IsNew objects' before n
new_stays objects objects' before n grows new = record {
  unnamed = new.unnamed;
  undeclared = λ x v is. new.undeclared x v (sym (declared_stays objects objects' x grows) ∙ is);
}
