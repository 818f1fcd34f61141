-- The built-in classes stand one behind the other, each behind its bases.
use Rattle.std.proofs.Common.{◌≡◌, ◌<◌, ◌≤◌, ◌+◌, ◌++◌, ℕ, suc, List, [], ◌∷◌, Bool, true, false, cond, Some, map, refl, sym, ap, ◌∙◌, subst, length, length-append, append-nil, length-take-le, append_assoc, take, drop, take-append-drop, drop-cons, get_or, eqb, arith, inl, inr}
use Rattle.std.proofs.lemmas.Bool.{and_parts, eqb-true, ltb-true}
use Rattle.std.specs.Prelude.{None, slice_get, option_map, bytes_eq, nat_lt}
use Rattle.std.specs.List.{AllZip, list_all}
use Rattle.std.proofs.lemmas.List.{length-map, take_all, take_more, map_push}
use Rattle.std.proofs.lemmas.Option.{slice_get-map, slice_get-get_or}
use Rattle.py_objects.specs.Refs.{Obj, Name}
use Rattle.py_objects.specs.declared.refs.PyTypeRef.{PyTypeRef}
use Rattle.py_objects.specs.declared.payload.Payload.{Payload}
use Rattle.py_objects.specs.declared.error_kind.ErrorKind.{ErrorKind}
use Rattle.py_objects.specs.ErrorKinds.{name_of, bases_of, error_kinds}
use Rattle.py_objects.specs.ErrorPlaces.{place_in, place_of}
use Rattle.py_objects.specs.Objects.{HasPayload, class_object, declared, declared_from, is_name, numbers, AllBelow, AreClasses}
use Rattle.py_objects.specs.Attrs.{Attrs, inserted, value_of}
use Rattle.py_objects.specs.Edits.{Kept}
use Rattle.py_objects.specs.Growth.{Grows, with_object}
use Rattle.py_objects.proofs.ErrorKindsLemmas.{placed, place_at, each_kind, place_below, are_placed, all_placed}
use Rattle.py_objects.proofs.GrowthLemmas.{slice_get_grown, slice_get_behind, payload_grown, declared_grown}
use Rattle.py_exceptions.specs.declared.zoo.ExceptionZoo.{ExceptionZoo}
use Rattle.py_exceptions.specs.BuiltIn.{IsClassOf}
use Rattle.py_exceptions.specs.Classes.{class_of, mro_of, class_payload, class_payloads, classes_behind, declarations_of, AreBegun, DeclareNothing, HaveClasses, IsAddedOrNot}

-- ---- the names of the classes

-- the name of a kind, with its class
abbrev pub named : ExceptionZoo → ErrorKind → (Name × Obj)
named zoo kind = (name_of kind, class_object (class_of zoo kind))

abbrev pub declarations : ExceptionZoo → List ErrorKind → Attrs
declarations zoo kinds = map (named zoo) kinds

-- the first class of a name among these is declared under it
declared_at : (zoo : ExceptionZoo) (n : Name) (kinds : List ErrorKind) (i : ℕ) (more : List Payload) → place_in n kinds < length kinds
    → declared_from i (map (class_payload zoo) kinds ++ more) n ≡ Some (record { number = i + place_in n kinds })
declared_at zoo n [] i more low = absurd (omega (arith, low))
declared_at zoo n (k ∷ kinds) i more low =
    let P : Bool → Type 0 = λ b. cond b 0 (suc (place_in n kinds)) < suc (length kinds)
    → cond b (Some (record { number = i })) (declared_from (suc i) (map (class_payload zoo) kinds ++ more) n) ≡ Some (record { number = i + cond b 0 (suc (place_in n kinds)) }) in
    let here : P true = λ h. ap (λ m. Some (record { number = m })) (let same : i ≡ i + 0 = omega arith in same) in
    let there : P false = λ h.
    declared_at zoo n kinds (suc i) more (omega (arith, h)) ∙ ap (λ m. Some (record { number = m })) (let same : suc i + place_in n kinds ≡ i + suc (place_in n kinds) = omega arith in same) in
    let cases : (b : Bool) → P b = λ b. elim b as P [ true ↦ here | false ↦ there ] in
    cases (bytes_eq n (name_of k)) low

-- what these names have for a name is what is declared under it, where nothing else is
value_from : (zoo : ExceptionZoo) (n : Name) (i : ℕ) (kinds : List ErrorKind) (more : List Payload) → are_placed i kinds ≡ true → ((j : ℕ) → declared_from j more n ≡ None)
    → value_of n (declarations zoo kinds) ≡ declared_from (zoo.first + i) (map (class_payload zoo) kinds ++ more) n
value_from zoo n i [] more stand none = sym (none (zoo.first + i))
value_from zoo n i (k ∷ kinds) more stand none =
    let parts = and_parts (eqb (place_of k) i) (are_placed (suc i) kinds) stand in
    let here : place_of k ≡ i = eqb-true (place_of k) i parts.0 in
    let next : zoo.first + suc i ≡ suc (zoo.first + i) = omega arith in
    let rest : value_of n (declarations zoo kinds) ≡ declared_from (suc (zoo.first + i)) (map (class_payload zoo) kinds ++ more) n =
    value_from zoo n (suc i) kinds more parts.1 none ∙ ap (λ m. declared_from m (map (class_payload zoo) kinds ++ more) n) next in
    ap (λ m. cond (bytes_eq n (name_of k)) (Some (record { number = zoo.first + m })) (value_of n (declarations zoo kinds))) here
    ∙ ap (cond (bytes_eq n (name_of k)) (Some (record { number = zoo.first + i }))) rest

-- the names of the classes have for a name what is declared under it, where nothing else is
pub value_declared : (zoo : ExceptionZoo) (n : Name) (more : List Payload) → ((j : ℕ) → declared_from j more n ≡ None)
    → value_of n (declarations_of zoo) ≡ declared_from zoo.first (class_payloads zoo ++ more) n
value_declared zoo n more none =
    let start : zoo.first + 0 ≡ zoo.first = omega arith in
    value_from zoo n 0 error_kinds more all_placed none ∙ ap (λ m. declared_from m (class_payloads zoo ++ more) n) start

-- a new name goes last
pub inserted_last : (zoo : ExceptionZoo) (kind : ErrorKind) (before after : List ErrorKind) (v : Obj) → place_in (name_of kind) (before ++ kind ∷ after) ≡ length before
    → inserted (name_of kind) v (declarations zoo before) ≡ declarations zoo before ++ (name_of kind, v) ∷ []
inserted_last zoo kind [] after v place = refl
inserted_last zoo kind (k ∷ before) after v place =
    let n : Name = name_of kind in
    let rest : Attrs = declarations zoo before in
    let P : Bool → Type 0 = λ b. cond b 0 (suc (place_in n (before ++ kind ∷ after))) ≡ suc (length before)
    → cond b ((name_of k, v) ∷ rest) (named zoo k ∷ inserted n v rest) ≡ named zoo k ∷ (rest ++ (n, v) ∷ []) in
    let here : P true = λ h. absurd (omega (arith, h)) in
    let there : P false = λ h. ap (λ attrs. named zoo k ∷ attrs) (inserted_last zoo kind before after v (omega (arith, h))) in
    let cases : (b : Bool) → P b = λ b. elim b as P [ true ↦ here | false ↦ there ] in
    cases (bytes_eq n (name_of k)) place

-- ---- the bases of the classes

-- whether each of these stands in front of a place
abbrev stand_before : ℕ → List ErrorKind → Bool
stand_before i kinds = list_all (λ base. nat_lt (place_of base) i) kinds

-- a class stands behind its bases
bases_before : (kind : ErrorKind) → stand_before (place_of kind) (bases_of kind) ≡ true
bases_before kind = each_kind (λ k. stand_before (place_of k) (bases_of k)) refl kind

below_by : (zoo : ExceptionZoo) (i : ℕ) (kinds : List ErrorKind) → stand_before i kinds ≡ true
    → AllBelow (zoo.first + i) (numbers (map (λ base. class_object (class_of zoo base)) kinds))
below_by zoo i [] before = tt
below_by zoo i (k ∷ kinds) before =
    let parts = and_parts (nat_lt (place_of k) i) (stand_before i kinds) before in
    let low : place_of k < i = ltb-true (place_of k) i parts.0 in
    (omega (arith, low), below_by zoo i kinds parts.1)

-- its bases are below it
pub mro_below : (zoo : ExceptionZoo) (kind : ErrorKind) → AllBelow (zoo.first + place_of kind) (numbers (mro_of zoo kind))
mro_below zoo kind = below_by zoo (place_of kind) (bases_of kind) (bases_before kind)

-- ---- the classes behind objects that declare nothing

-- what is declared behind objects that declare nothing
pub declared_behind : (i : ℕ) (old more : List Payload) (n : Name) → DeclareNothing old → declared_from i (old ++ more) n ≡ declared_from (i + length old) more n
declared_behind i [] more n nothing = ap (λ m. declared_from m more n) (let same : i ≡ i + 0 = omega arith in same)
declared_behind i (p ∷ old) more n nothing =
    ap (λ d. cond (is_name n d) (Some (record { number = i })) (declared_from (suc i) (old ++ more) n)) (nothing 0 p refl)
    ∙ declared_behind (suc i) old more n (λ j q at. nothing (suc j) q at)
    ∙ ap (λ m. declared_from m more n) (let same : suc i + length old ≡ i + suc (length old) = omega arith in same)

module _ (zoo : ExceptionZoo) (old more : List Payload) (first : zoo.first ≡ length old) (nothing : DeclareNothing old) where
  abbrev objects : List Payload
  objects = old ++ (class_payloads zoo ++ more)

  pub entry_there : (kind : ErrorKind) → HasPayload objects (class_object (class_of zoo kind)) (class_payload zoo kind)
  entry_there kind =
      ap (λ n. slice_get objects (n + place_of kind)) first
      ∙ slice_get_behind old (class_payloads zoo ++ more) (place_of kind)
      ∙ slice_get_grown (class_payloads zoo) more (place_of kind) (class_payload zoo kind)
      (slice_get-map (class_payload zoo) error_kinds (place_of kind) ∙ ap (option_map (class_payload zoo)) (placed kind))

  declared_there : (kind : ErrorKind) → declared objects (name_of kind) ≡ Some (class_object (class_of zoo kind))
  declared_there kind =
      declared_behind 0 old (class_payloads zoo ++ more) (name_of kind) nothing
      ∙ ap (λ n. declared_from n (class_payloads zoo ++ more) (name_of kind)) (let same : 0 + length old ≡ zoo.first = omega (arith, first) in same)
      ∙ declared_at zoo (name_of kind) error_kinds zoo.first more (place_below kind)

  bases_there : (kinds : List ErrorKind) → AllZip (λ base v. declared objects (name_of base) ≡ Some v) kinds (map (λ base. class_object (class_of zoo base)) kinds)
  bases_there [] = tt
  bases_there (k ∷ kinds) = (declared_there k, bases_there kinds)

  -- each built-in class is there
  pub classes_there : HaveClasses zoo objects
  classes_there kind = record { mro = mro_of zoo kind; entry = entry_there kind; is_declared = declared_there kind; bases = bases_there (bases_of kind) }

  classes_among : (kinds : List ErrorKind) → AreClasses objects (map (λ base. class_object (class_of zoo base)) kinds)
  classes_among [] = tt
  classes_among (k ∷ kinds) = ((record { name = name_of k; mro = mro_of zoo k }, entry_there k), classes_among kinds)

  -- its bases are classes
  pub mro_there : (kind : ErrorKind) → AreClasses objects (mro_of zoo kind)
  mro_there kind = classes_among (bases_of kind)

-- ---- one class more

-- a store with the classes of these behind its objects
abbrev pub with_classes : ExceptionZoo → Kept → List ErrorKind → Kept
with_classes zoo s kinds = record s { made = s.made ++ map (class_payload zoo) kinds }

module _ (zoo : ExceptionZoo) (s0 s1 : Kept) (kinds : List ErrorKind) (are : kinds ≡ error_kinds) (i : ℕ) (d : ErrorKind) (low : i < length kinds)
    (so_far : s1 ≡ with_classes zoo s0 (take i error_kinds)) where
  abbrev kind : ErrorKind
  kind = get_or kinds i d

  at : slice_get error_kinds i ≡ Some kind
  at = ap (λ ks. slice_get ks i) (sym are) ∙ slice_get-get_or kinds i d low

  within : i < length error_kinds
  within = subst (λ (ks : List ErrorKind). i < length ks) are low

  -- it stands behind the others
  pub place_next : zoo.first ≡ length s0.made → length s1.made ≡ zoo.first + place_of kind
  place_next first =
      let made : length s1.made ≡ length s0.made + length (map (class_payload zoo) (take i error_kinds)) =
      ap (λ (s : Kept). length s.made) so_far ∙ length-append s0.made (map (class_payload zoo) (take i error_kinds)) in
      let long : length (map (class_payload zoo) (take i error_kinds)) ≡ i =
      length-map (take i error_kinds) (class_payload zoo) ∙ length-take-le i error_kinds (omega (arith, within)) in
      let place : place_of kind ≡ i = place_at i kind at in
      omega (arith, first, made, long, place)

  last_kind : take (i + 1) error_kinds ≡ take i error_kinds ++ kind ∷ []
  last_kind = take_more error_kinds i d within ∙ ap (λ ks. take i error_kinds ++ get_or ks i d ∷ []) (sym are)

  -- the classes with that one
  pub classes_next : (s2 : Kept) → s2 ≡ with_object s1 (class_payload zoo kind) → s2 ≡ with_classes zoo s0 (take (i + 1) error_kinds)
  classes_next s2 added =
      let f : ErrorKind → Payload = class_payload zoo in
      let made : s1.made ++ f kind ∷ [] ≡ s0.made ++ map f (take (i + 1) error_kinds) =
      ap (λ (s : Kept). s.made ++ f kind ∷ []) so_far
      ∙ append_assoc s0.made (map f (take i error_kinds)) (f kind ∷ [])
      ∙ ap (λ ps. s0.made ++ ps) (sym (map_push f (take i error_kinds) kind) ∙ ap (map f) (sym last_kind)) in
      added ∙ ap (λ (s : Kept). record s { made = s1.made ++ f kind ∷ [] }) so_far ∙ ap (λ ps. let s : Kept = record s0 { made = ps } in s) made

  -- the names with its name
  pub names_next : (before after : Attrs) → before ≡ declarations zoo (take i error_kinds) → after ≡ inserted (name_of kind) (class_object (class_of zoo kind)) before
      → after ≡ declarations zoo (take (i + 1) error_kinds)
  names_next before after names added =
      let class : Obj = class_object (class_of zoo kind) in
      let split : error_kinds ≡ take i error_kinds ++ kind ∷ drop (suc i) error_kinds =
      sym (take-append-drop i error_kinds) ∙ ap (λ ks. take i error_kinds ++ ks) (drop-cons error_kinds i d within ∙ ap (λ ks. get_or ks i d ∷ drop (suc i) error_kinds) (sym are)) in
      let place : place_in (name_of kind) (take i error_kinds ++ kind ∷ drop (suc i) error_kinds) ≡ length (take i error_kinds) =
      ap (place_in (name_of kind)) (sym split) ∙ place_at i kind at ∙ sym (length-take-le i error_kinds (omega (arith, within))) in
      added ∙ ap (inserted (name_of kind) class) names ∙ inserted_last zoo kind (take i error_kinds) (drop (suc i) error_kinds) class place
      ∙ sym (map_push (named zoo) (take i error_kinds) kind) ∙ ap (declarations zoo) (sym last_kind)

-- ---- memory that runs out

-- so many classes and names are there
begun : (zoo : ExceptionZoo) (s0 s2 : Kept) (names : Attrs) (n m : ℕ) → m ≤ n → n ≤ m + 1 → zoo.first ≡ length s0.made → s2 ≡ with_classes zoo s0 (take n error_kinds)
    → names ≡ declarations zoo (take m error_kinds) → AreBegun s0 s2 names
begun zoo s0 s2 names n m there but_one first added declared =
    let same : zoo ≡ classes_behind s0 = ap (λ (k : ℕ). let z : ExceptionZoo = record { first = k } in z) first in
    record {
      classes = n;
      added = added ∙ ap (λ (z : ExceptionZoo). with_classes z s0 (take n error_kinds)) same;
      named = m;
      there = there;
      but_one = but_one;
      declared = declared ∙ ap (λ (z : ExceptionZoo). declarations z (take m error_kinds)) same;
    }

-- also where the class of a kind is the next, or isn't
pub begun_next : (zoo : ExceptionZoo) (s0 s1 s2 : Kept) (kinds : List ErrorKind) → kinds ≡ error_kinds → (i : ℕ) (d : ErrorKind) → i < length kinds
    → s1 ≡ with_classes zoo s0 (take i error_kinds) → zoo.first ≡ length s0.made → IsAddedOrNot s1 s2 (class_payload zoo (get_or kinds i d))
    → (before after : Attrs) → before ≡ declarations zoo (take i error_kinds) → after ≡ before → AreBegun s0 s2 after
begun_next zoo s0 s1 s2 kinds are i d low so_far first (inl same) before after names kept = begun zoo s0 s2 after i i (omega arith) (omega arith) first (same ∙ so_far) (kept ∙ names)
begun_next zoo s0 s1 s2 kinds are i d low so_far first (inr added) before after names kept =
    begun zoo s0 s2 after (i + 1) i (omega arith) (omega arith) first (classes_next zoo s0 s1 kinds are i d low so_far s2 added) (kept ∙ names)

-- the classes of all kinds
pub classes_last : (zoo : ExceptionZoo) (s0 s1 : Kept) (i : ℕ) → length error_kinds ≤ i → s1 ≡ with_classes zoo s0 (take i error_kinds) → s1 ≡ record s0 { made = s0.made ++ class_payloads zoo }
classes_last zoo s0 s1 i past so_far = so_far ∙ ap (with_classes zoo s0) (take_all i error_kinds past)

-- are there
pub classes_added : (zoo : ExceptionZoo) (s0 s1 : Kept) → zoo.first ≡ length s0.made → DeclareNothing s0.made → s1 ≡ record s0 { made = s0.made ++ class_payloads zoo } → HaveClasses zoo s1.made
classes_added zoo s0 s1 first nothing added =
    let made : s1.made ≡ s0.made ++ (class_payloads zoo ++ []) = ap (λ (s : Kept). s.made) added ∙ ap (λ ps. s0.made ++ ps) (sym (append-nil (class_payloads zoo))) in
    subst (HaveClasses zoo) (sym made) (classes_there zoo s0.made [] first nothing)

-- ---- more objects

bases_grown : (old new : List Payload) (kinds : List ErrorKind) (vs : List Obj) → Grows old new
    → AllZip (λ base v. declared old (name_of base) ≡ Some v) kinds vs → AllZip (λ base v. declared new (name_of base) ≡ Some v) kinds vs
bases_grown old new [] [] grows bases = tt
bases_grown old new [] (v ∷ vs) grows bases = absurd bases
bases_grown old new (k ∷ kinds) [] grows bases = absurd bases
bases_grown old new (k ∷ kinds) (v ∷ vs) grows (is, bases) =
    (declared_grown old new (name_of k) v grows is, bases_grown old new kinds vs grows bases)

-- a built-in class stays one
pub class_grown : (objects objects' : List Payload) (kind : ErrorKind) (class : PyTypeRef) → Grows objects objects' → IsClassOf objects kind class → IsClassOf objects' kind class
class_grown objects objects' kind class grows is = record {
  mro = is.mro;
  entry = payload_grown objects objects' _ _ grows is.entry;
  is_declared = declared_grown objects objects' _ _ grows is.is_declared;
  bases = bases_grown objects objects' (bases_of kind) is.mro grows is.bases;
}

pub classes_grown : (zoo : ExceptionZoo) (objects objects' : List Payload) → Grows objects objects' → HaveClasses zoo objects → HaveClasses zoo objects'
classes_grown zoo objects objects' grows classes kind = class_grown objects objects' kind (class_of zoo kind) grows (classes kind)
