-- What each run begins with: what the first objects are, and what is declared among them and behind them.
use Rattle.std.proofs.Common.{◌≡◌, ◌+◌, ℕ, zero, suc, List, [], ◌∷◌, ◌++◌, length, Bool, true, false, cond, Some, None, refl, sym, ap, ◌∙◌, subst, arith, inl}
use Rattle.std.specs.Prelude.{slice_get}
use Rattle.std.proofs.lemmas.Slice.Eq.{bytes_eq-Decides}
use Rattle.py_objects.specs.declared.payload.Payload.{Payload}
use Rattle.py_objects.specs.declared.payload.Payload.TheVariants as payload
use Rattle.py_objects.specs.declared.error_kind.ErrorKind.{ErrorKind}
use Rattle.py_objects.specs.Objects.{Obj, Name, declares, is_name, declared, declared_from}
use Rattle.py_objects.specs.Singletons.{singletons}
use Rattle.py_exceptions.specs.Classes.{class_of, first_classes, HaveClasses}
use Rattle.py_exceptions.proofs.ClassesLemmas.{classes_grown}
use Rattle.py_run.specs.First.{first_objects}
use Rattle.py_run.proofs.FirstLemmas.{each_first, first_fit, first_have}
use Rattle.py_meaning.specs.Whole.{AreObjects}

-- ---- the first objects

-- a first object is no function and no manager, and a class only where that of a kind stands
abbrev IsFirst : ℕ → Payload → Type 0
IsFirst n (payload.Class b) = (kind : ErrorKind) × (n ≡ (class_of first_classes kind).number)
IsFirst n (payload.Function b) = ⊥
IsFirst n (payload.Manager b) = ⊥
IsFirst n _ = Unit {0}

are_first : (n : ℕ) (p : Payload) → slice_get first_objects n ≡ Some p → IsFirst n p
are_first n p is = each_first IsFirst single (λ kind. (kind, refl)) (λ i. tt) n p is
  where
    single : (i : ℕ) (q : Payload) → slice_get singletons i ≡ Some q → IsFirst i q
    single zero q at = subst (IsFirst 0) (let same : payload.None ≡ q = cc in same) tt
    single (suc zero) q at = subst (IsFirst 1) (let same : payload.Bool false ≡ q = cc in same) tt
    single (suc (suc zero)) q at = subst (IsFirst 2) (let same : payload.Bool true ≡ q = cc in same) tt
    single (suc (suc (suc i))) q at = absurd (cc at)

-- the class of each kind is there, whatever comes behind
pub have_classes : (own : List Payload) → HaveClasses first_classes (first_objects ++ own)
have_classes own = classes_grown first_classes first_objects (first_objects ++ own) (own, refl) first_have

-- the first objects are those of no declarations
pub none_declared : AreObjects [] first_objects
none_declared = record {
  functions = λ i t none. absurd (cc none);
  classes = λ i c b none. absurd (cc none);
  managers = λ i m e x none. absurd (cc none);
  builtins = λ kind. (class_of first_classes kind, first_have kind);
  only_functions = λ f b is. absurd (are_first f.number (payload.Function b) is);
  only_classes = λ c b is.
      let (kind, at) = are_first c.number (payload.Class b) is in
      inl (kind, (first_have kind).is_declared ∙ ap (λ n. Some (record { number = n })) (sym at));
  only_managers = λ m b is. absurd (are_first m.number (payload.Manager b) is);
  fit = first_fit;
}

-- ---- what is declared

-- a name that the objects in front don't declare is declared as by those behind them
declared_behind : (i : ℕ) (front own : List Payload) (x : Name) → declared_from i front x ≡ None
    → declared_from i (front ++ own) x ≡ declared_from (i + length front) own x
declared_behind i [] own x none = ap (λ n. declared_from n own x) (let e : i ≡ i + 0 = omega arith in e)
declared_behind i (p ∷ front) own x none =
    let P : Bool → Type 0 = λ b. cond b (Some (record { number = i })) (declared_from (suc i) front x) ≡ None
    → cond b (Some (record { number = i })) (declared_from (suc i) (front ++ own) x) ≡ declared_from (i + suc (length front)) own x in
    let here : P true = λ h. absurd (cc h) in
    let there : P false = λ h.
    declared_behind (suc i) front own x h ∙ ap (λ n. declared_from n own x) (let e : suc i + length front ≡ i + suc (length front) = omega arith in e) in
    let cases : (b : Bool) → P b = λ b. elim b as P [ true ↦ here | false ↦ there ] in
    cases (is_name x (declares p)) none

-- an object behind those that don't declare its name is the one that is declared under it
pub newest_declared : (objects : List Payload) (p : Payload) (x : Name) → declared objects x ≡ None → declares p ≡ Some x
    → declared (objects ++ p ∷ []) x ≡ Some (record { number = length objects })
newest_declared objects p x none says =
    let hit : is_name x (declares p) ≡ true = ap (is_name x) says ∙ (bytes_eq-Decides x x).1 refl in
    declared_behind 0 objects (p ∷ []) x none
    ∙ (ap (λ b. cond b (Some (record { number = 0 + length objects })) None) hit
    ∙ ap (λ n. Some (record { number = n })) (let e : 0 + length objects ≡ length objects = omega arith in e))

-- what is declared under a name has it
pub declares_it : (i : ℕ) (store : List Payload) (x : Name) (v : Obj) → declared_from i store x ≡ Some v
    → (k : ℕ) × (p : Payload) × (v.number ≡ i + k) × (slice_get store k ≡ Some p) × (is_name x (declares p) ≡ true)
declares_it i [] x v e = absurd (cc e)
declares_it i (p ∷ store) x v e = go (is_name x (declares p)) refl e (declares_it (suc i) store x v)
  where
    go : (b : Bool) → is_name x (declares p) ≡ b → cond b (Some (record { number = i })) (declared_from (suc i) store x) ≡ Some v
        → (declared_from (suc i) store x ≡ Some v → (k : ℕ) × (q : Payload) × (v.number ≡ suc i + k) × (slice_get store k ≡ Some q) × (is_name x (declares q) ≡ true))
        → (k : ℕ) × (q : Payload) × (v.number ≡ i + k) × (slice_get (p ∷ store) k ≡ Some q) × (is_name x (declares q) ≡ true)
    go true hit e later = let number : i ≡ v.number = number_of e in (0, p, omega (arith, number), refl, hit)
      where
        number_of : Some (record { number = i }) ≡ Some v → i ≡ v.number
        number_of same = let one : record { number = i } ≡ v = cc same in ap (λ (v : Obj). v.number) one
    go false miss e later = let (k, q, number, here, hit) = later e in (suc k, q, omega (arith, number), here, hit)
