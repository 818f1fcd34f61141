-- The objects that come as an exception is reduced.
use Rattle.std.proofs.Common.{◌≡◌, ◌<◌, ◌≤◌, ◌+◌, ◌++◌, ℕ, zero, suc, Bool, true, false, List, [], ◌∷◌, drop, refl, sym, ap, subst, ◌∙◌, append_assoc, append-nil, length, length-append, arith}
use Rattle.std.specs.Prelude.{Option, Some, None, Result, Ok, Err, IfOk, OnOk, OnErr, bytes_eq, codes, cond, slice_get}
use Rattle.std.proofs.lemmas.List.{drop_all}
use Rattle.std.proofs.lemmas.Option.{same_Some}
use Rattle.py_objects.specs.declared.refs.PyBaseExceptionRef.{PyBaseExceptionRef}
use Rattle.py_objects.specs.declared.payload.Payload.{Payload}
use Rattle.py_objects.specs.declared.payload.Payload.TheVariants as payload
use Rattle.py_objects.specs.declared.payload.ExceptionBody.{ExceptionBody}
use Rattle.py_objects.specs.declared.error_kind.ErrorKind.TheVariants.{OSError}
use Rattle.py_objects.specs.ErrorKinds.{name_of}
use Rattle.py_objects.specs.Objects.{Obj, Name, HasPayload, as_object, class_object, numbers, numbers_if, attr_numbers, pair_numbers, AllBelow}
use Rattle.py_objects.specs.Attrs.{Attrs, value_of}
use Rattle.py_objects.specs.Pairs.{Pairs}
use Rattle.py_objects.specs.Ancestry.{derives_from}
use Rattle.py_objects.specs.Growth.{IsGrown, with_object}
use Rattle.py_objects.specs.Edits.{Kept, objects_of}
use Rattle.py_objects.proofs.GrowthLemmas.{below_more, length_grown}
use Rattle.py_objects.proofs.GrownLemmas.{objects_grow, still_grown, grown_trans, added_grown, added_made, added_below}
use Rattle.py_exceptions.specs.Keeping.{os_args}
use Rattle.py_exceptions.specs.Repr.{payload_of, items_of}
use Rattle.py_exceptions.specs.Said.{attribute, given, unless_none}
use Rattle.py_exceptions.specs.Reducing.{file_args, files_at, two_and, remade_args, with_args, args_object, with_names, keyed_from, with_dict, dict_object, tuple_parts, with_parts, with_reduction, AreArgsBelow, HasAllParts, IsReduced, IsReducible}
use Rattle.py_exceptions.proofs.MakingLemmas.{kept_below, text_grows, tuple_grows}

-- what is said of an exception holds of what it is
pub all_parts : (s : Kept) (exc : PyBaseExceptionRef) (e : ExceptionBody) → IsReducible s exc → HasPayload (objects_of s) (as_object exc) (payload.Exception e) → HasAllParts s e
all_parts s exc e (b, has, parts) at = subst (HasAllParts s) (same_exception (same_Some _ _ (sym has ∙ at))) parts
  where
    same_exception : payload.Exception b ≡ payload.Exception e → b ≡ e
    same_exception same = cc

-- ---- arguments

unless_none_below : (n : ℕ) (v : Obj) (r : Option Payload) → v.number < n → AllBelow n (numbers_if (unless_none v r))
unless_none_below n v None lt = (lt, tt)
unless_none_below n v (Some payload.None) lt = tt
unless_none_below n v (Some _) lt = (lt, tt)

given_below : (n : ℕ) (objects : List Payload) (v : Option Obj) → AllBelow n (numbers_if v) → AllBelow n (numbers_if (given objects v))
given_below n objects None below = tt
given_below n objects (Some v) below = unless_none_below n v (payload_of objects v) below.0

value_below : (n : ℕ) (x : Name) (attrs : Attrs) → AllBelow n (attr_numbers attrs) → AllBelow n (numbers_if (value_of x attrs))
value_below n x [] below = tt
value_below n x (a ∷ attrs) below = by (bytes_eq x a.0) (value_below n x attrs below.1)
  where
    by : (b : Bool) → AllBelow n (numbers_if (value_of x attrs)) → AllBelow n (numbers_if (cond b (Some a.1) (value_of x attrs)))
    by true rest = (below.0, tt)
    by false rest = rest

attribute_below : (n : ℕ) (objects : List Payload) (e : ExceptionBody) (x : Name) → AllBelow n (attr_numbers e.attrs) → AllBelow n (numbers_if (attribute objects e x))
attribute_below n objects e x below = given_below n objects (value_of x e.attrs) (value_below n x e.attrs below)

file_args_below : (n : ℕ) (first second : Option Obj) → AllBelow n (numbers_if first) → AllBelow n (numbers_if second) → AllBelow n (numbers (file_args first second))
file_args_below n None second f g = tt
file_args_below n (Some first) None f g = (f.0, tt)
file_args_below n (Some first) (Some second) f g = (f.0, (g.0, tt))

two_and_below : (n : ℕ) (files vs : List Obj) → AllBelow n (numbers files) → AllBelow n (numbers vs) → AreArgsBelow n (two_and files vs)
two_and_below n files [] f below = tt
two_and_below n files (v ∷ []) f below = tt
two_and_below n files (v ∷ w ∷ []) f below = (below.0, (below.1.0, f))
two_and_below n files (v ∷ w ∷ u ∷ us) f below = tt

-- the arguments that stand in place of an exception's own name what those and its attributes name
pub remade_below : (n : ℕ) (objects : List Payload) (e : ExceptionBody) (arguments : List Obj) → HasPayload objects e.args (payload.Tuple arguments)
    → AllBelow n (numbers arguments) → AllBelow n (attr_numbers e.attrs) → AreArgsBelow n (remade_args objects e)
remade_below n objects e arguments has items values = by (derives_from objects (class_object e.class) (name_of OSError))
  where
    files_below : AllBelow n (numbers (files_at objects e))
    files_below =
        file_args_below n (attribute objects e (codes "filename")) (attribute objects e (codes "filename2"))
        (attribute_below n objects e (codes "filename") values) (attribute_below n objects e (codes "filename2") values)

    kept : AllBelow n (numbers (os_args (items_of (payload_of objects e.args))))
    kept = kept_below n true (items_of (payload_of objects e.args)) (subst (λ (r : Option Payload). AllBelow n (numbers (items_of r))) (sym has) items)

    by : (b : Bool) → AreArgsBelow n (cond b (two_and (files_at objects e) (os_args (items_of (payload_of objects e.args)))) None)
    by true = two_and_below n (files_at objects e) (os_args (items_of (payload_of objects e.args))) files_below kept
    by false = tt

pub args_grow : (s new : Kept) (args : Option (List Obj)) → AreArgsBelow (length s.made) args → new ≡ with_args s args → IsGrown s new
args_grow s new None below is = still_grown s new is
args_grow s new (Some vs) below is = tuple_grows s new vs below is

-- a tuple was added, or memory ran out
pub tuple_tried : {E : Type 0} (s new : Kept) (vs : List Obj) (r : Result Obj E) → AllBelow (length s.made) (numbers vs) → OnOk r (new ≡ with_object s (payload.Tuple vs))
    → OnErr r (new ≡ s) → IsGrown s new
tuple_tried s new vs (Ok v) below added err = tuple_grows s new vs below added
tuple_tried s new vs (Err e) below added err = still_grown s new err

-- the tuple of the arguments is there then
args_there : (s new : Kept) (own : Obj) (args : Option (List Obj)) → own.number < length s.made → new ≡ with_args s args → (args_object s own args).number < length new.made
args_there s new own None lt is = let same = ap (λ (k : Kept). length k.made) is in omega arith
args_there s new own (Some vs) lt is = added_below s new (payload.Tuple vs) (length s.made) is refl

-- ---- attributes

-- what is left of a list from one of its places on
dropped : {A : Type 0} (xs : List A) (i : ℕ) (x : A) → slice_get xs i ≡ Some x → drop i xs ≡ x ∷ drop (suc i) xs
dropped [] i x at = cc
dropped (y ∷ xs) zero x at = let same = same_Some y x at in ap (λ z. z ∷ xs) same
dropped (y ∷ xs) (suc i) x at = dropped xs i x at

length-with_names : (s : Kept) (attrs : Attrs) → length (with_names s attrs).made ≡ length s.made + length attrs
length-with_names s [] = omega arith
length-with_names s (a ∷ attrs) =
    let rest = length-with_names (with_object s (payload.Str a.0)) attrs in
    let one = length-append s.made (payload.Str a.0 ∷ []) in
    omega arith

-- a pair of a new text and a value comes to the pairs
keyed_on : (pairs : Pairs) (s new : Kept) (a : Name × Obj) (rest : Attrs) (key : Obj) → key.number ≡ length s.made → new ≡ with_object s (payload.Str a.0)
    → (pairs ++ (key, a.1) ∷ []) ++ keyed_from (length new.made) rest ≡ pairs ++ keyed_from (length s.made) (a ∷ rest)
keyed_on pairs s new a rest key last added =
    let long : length new.made ≡ suc (length s.made) = ap length (added_made s new (payload.Str a.0) added) ∙ length-append s.made (payload.Str a.0 ∷ []) ∙ omega arith in
    append_assoc pairs ((key, a.1) ∷ []) (keyed_from (length new.made) rest)
    ∙ ap (λ (n : ℕ). pairs ++ (key, a.1) ∷ keyed_from n rest) long
    ∙ ap (λ (n : ℕ). let v : Obj = record { number = n } in pairs ++ (v, a.1) ∷ keyed_from (suc (length s.made)) rest) last

-- the names that stand before a place came to a store, and the pairs are theirs; what is left is still to come
pub record AreNamedTo (first s : Kept) (attrs : Attrs) (place : ℕ) (pairs : Pairs) : Type 0 where
  pub names : with_names s (drop place attrs) ≡ with_names first attrs
  pub keyed : pairs ++ keyed_from (length s.made) (drop place attrs) ≡ keyed_from (length first.made) attrs
  pub grown : IsGrown first s

-- one more came
pub named_on : (first s new : Kept) (attrs : Attrs) (place : ℕ) (pairs more : Pairs) (a : Name × Obj) (key : Obj) → slice_get attrs place ≡ Some a
    → new ≡ with_object s (payload.Str a.0) → key.number ≡ length s.made → more ≡ pairs ++ (key, a.1) ∷ [] → AreNamedTo first s attrs place pairs
    → AreNamedTo first new attrs (suc place) more
named_on first s new attrs place pairs more a key at added last pushed so_far =
    let left : drop place attrs ≡ a ∷ drop (suc place) attrs = dropped attrs place a at in
    record {
      names = ap (λ (k : Kept). with_names k (drop (suc place) attrs)) added ∙ ap (with_names s) (sym left) ∙ so_far.names;
      keyed =
          ap (λ (ps : Pairs). ps ++ keyed_from (length new.made) (drop (suc place) attrs)) pushed ∙ keyed_on pairs s new a (drop (suc place) attrs) key last added
          ∙ ap (λ (l : Attrs). pairs ++ keyed_from (length s.made) l) (sym left) ∙ so_far.keyed;
      grown = grown_trans first s new so_far.grown (text_grows s new a.0 added);
    }

-- all came
pub all_named : (first s : Kept) (attrs : Attrs) (place : ℕ) (pairs : Pairs) → length attrs ≤ place → AreNamedTo first s attrs place pairs
    → (s ≡ with_names first attrs) × (pairs ≡ keyed_from (length first.made) attrs)
all_named first s attrs place pairs all so_far =
    let none : drop place attrs ≡ [] = drop_all place attrs all in (
      ap (with_names s) (sym none) ∙ so_far.names,
      sym (append-nil pairs) ∙ ap (λ (l : Attrs). pairs ++ keyed_from (length s.made) l) (sym none) ∙ so_far.keyed,
    )

keyed_below : (n m : ℕ) (attrs : Attrs) → n + length attrs ≤ m → AllBelow m (attr_numbers attrs) → AllBelow m (pair_numbers (keyed_from n attrs))
keyed_below n m [] le below = tt
keyed_below n m (a ∷ attrs) le below = (omega arith, (below.0, keyed_below (suc n) m attrs (omega arith) below.1))

-- a dict of the pairs of names that were added
pub dict_below : (s s1 : Kept) (attrs : Attrs) (pairs : Pairs) → AllBelow (length s.made) (attr_numbers attrs) → s1 ≡ with_names s attrs → pairs ≡ keyed_from (length s.made) attrs
    → AllBelow (length s1.made) (pair_numbers pairs)
dict_below s s1 attrs pairs below names keyed =
    let long : length s1.made ≡ length s.made + length attrs = ap (λ (k : Kept). length k.made) names ∙ length-with_names s attrs in
    subst (λ (ps : Pairs). AllBelow (length s1.made) (pair_numbers ps)) (sym keyed)
    (keyed_below (length s.made) (length s1.made) attrs (omega arith) (below_more (length s.made) (length s1.made) (attr_numbers attrs) (omega arith) below))

pub dict_grows : (s1 s2 : Kept) (pairs : Pairs) → AllBelow (length s1.made) (pair_numbers pairs) → s2 ≡ with_object s1 (payload.Dict pairs) → IsGrown s1 s2
dict_grows s1 s2 pairs below added = added_grown s1 s2 (payload.Dict pairs) added refl refl (λ fit. below) (λ fit. tt)

-- ---- the whole

dict_there : (s new : Kept) (attrs : Attrs) → new ≡ with_dict s attrs → AllBelow (length new.made) (numbers_if (dict_object s attrs))
dict_there s new [] is = tt
dict_there s new (a ∷ attrs) is = (added_below (with_names s (a ∷ attrs)) new (payload.Dict (keyed_from (length s.made) (a ∷ attrs))) _ is refl, tt)

parts_below : (n : ℕ) (class args : Obj) (dict : Option Obj) → class.number < n → args.number < n → AllBelow n (numbers_if dict) → AllBelow n (numbers (tuple_parts class args dict))
parts_below n class args None c a d = (c, (a, tt))
parts_below n class args (Some dict) c a d = (c, (a, (d.0, tt)))

-- what stands in the tuple is there
pub whole_below : (s s1 s2 : Kept) (class own args : Obj) (remade : Option (List Obj)) (attrs : Attrs) (dict : Option Obj) (parts : List Obj) → IsGrown s s1 → IsGrown s1 s2
    → class.number < length s.made → own.number < length s.made → s1 ≡ with_args s remade → args ≡ args_object s own remade → s2 ≡ with_dict s1 attrs
    → dict ≡ dict_object s1 attrs → parts ≡ tuple_parts class args dict → AllBelow (length s2.made) (numbers parts)
whole_below s s1 s2 class own args remade attrs dict parts first second named owned args_added are_args dict_added is_dict are_parts =
    let one : length s.made ≤ length s1.made = length_grown _ _ (objects_grow s s1 first) in
    let two : length s1.made ≤ length s2.made = length_grown _ _ (objects_grow s1 s2 second) in
    let there : args.number < length s1.made = subst (λ (v : Obj). v.number < length s1.made) (sym are_args) (args_there s s1 own remade owned args_added) in
    subst (λ (vs : List Obj). AllBelow (length s2.made) (numbers vs)) (sym are_parts)
    (parts_below (length s2.made) class args dict (omega arith) (omega arith)
    (subst (λ (v : Option Obj). AllBelow (length s2.made) (numbers_if v)) (sym is_dict) (dict_there s1 s2 attrs dict_added)))

-- and with it the store is whole
pub whole_is : (s s1 s2 : Kept) (class own args : Obj) (remade : Option (List Obj)) (attrs : Attrs) (dict : Option Obj) (parts : List Obj)
    → s1 ≡ with_args s remade → args ≡ args_object s own remade → s2 ≡ with_dict s1 attrs → dict ≡ dict_object s1 attrs → parts ≡ tuple_parts class args dict
    → with_object s2 (payload.Tuple parts) ≡ with_parts s class own remade attrs
whole_is s s1 s2 class own args remade attrs dict parts args_added are_args dict_added is_dict are_parts =
    rw (are_parts, is_dict, dict_added, are_args, args_added) refl

-- the tuple is the last then
pub last_tried : {E : Type 0} (s new : Kept) (vs : List Obj) (r : Result Obj E) → IfOk r (λ v. v.number ≡ length s.made) → OnOk r (new ≡ with_object s (payload.Tuple vs))
    → IfOk r (λ v. v.number + 1 ≡ length new.made)
last_tried s new vs (Ok v) last added =
    let long = ap length (added_made s new (payload.Tuple vs) added) ∙ length-append s.made (payload.Tuple vs ∷ []) in
    omega arith
last_tried s new vs (Err e) last added = tt

-- so an exception was reduced, unless memory ran out
pub reduced_tried : {E : Type 0} (s new : Kept) (exc : PyBaseExceptionRef) (e : ExceptionBody) (r : Result Obj E) → HasPayload (objects_of s) (as_object exc) (payload.Exception e)
    → OnOk r (new ≡ with_reduction s e) → IfOk r (λ v. v.number + 1 ≡ length new.made) → IfOk r (IsReduced s new exc)
reduced_tried s new exc e (Ok v) has added last = (e, has, added, last)
reduced_tried s new exc e (Err x) has added last = tt
