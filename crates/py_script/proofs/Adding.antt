-- One declaration more of a list that is gone through in order.
use Rattle.std.proofs.Common.{◌≡◌, ◌<◌, ◌≤◌, ◌+◌, ℕ, List, [], ◌∷◌, ◌++◌, length, take, drop, get_or, Some, None, refl, sym, ap, ◌∙◌, subst, arith, length-append, append_assoc, take-append-drop}
use Rattle.std.specs.Prelude.{map, slice_get}
use Rattle.std.proofs.lemmas.List.{map-append, length-map, length-take-le, take-append-le, take_all}
use Rattle.py_objects.specs.declared.payload.Payload.{Payload}
use Rattle.py_objects.specs.declared.payload.Payload.TheVariants as payload
use Rattle.py_objects.specs.Objects.{declared}
use Rattle.py_objects.proofs.GrowthLemmas.{slice_get_grown}
use Rattle.py_grammar.specs.declared.script.Declaration.{Declaration}
use Rattle.py_grammar.specs.Grammar.{Decl, Coded, decl_name, codes_in}
use Rattle.py_grammar.specs.Script.{decl_of}
use Rattle.py_grammar.specs.WellFormed.{IsWellDeclared}
use Rattle.py_grammar.proofs.Tables.{codes_in-append}
use Rattle.py_run.specs.First.{first_objects}
use Rattle.py_vm.specs.Machine.{Machine}
use Rattle.py_meaning.specs.Whole.{AreObjects}
use Rattle.py_meaning.specs.Entries.{AreWellDeclared, IsFoundedOn, IsEntryOf}
use Rattle.py_script.specs.Loaded.{HasNone, HasObjects}
use Rattle.py_meaning.proofs.Behind.{none_declared}
use Rattle.py_script.proofs.Declarations.{entry_mapped, entry_read, front_more}
use Rattle.py_meaning.proofs.Entries.{MayBeAdded, entry_added, founded, new_name, one_declared}

-- no declaration was gone through yet
pub nothing_added : (vm : Machine) → vm.objects ≡ first_objects → HasObjects [] vm vm
nothing_added vm first = record { none = subst HasNone (sym first) refl; are = subst (AreObjects []) (sym first) none_declared; others = refl }

module _ (ds : List Declaration) (i : ℕ) (d : Declaration) (low : i < length ds) (is : d ≡ get_or ds i d) where
  abbrev front : List Decl
  front = map decl_of (take i ds)

  pub there : slice_get (map decl_of ds) i ≡ Some (decl_of d)
  there = entry_mapped decl_of ds i d (entry_read ds i d low is)

  -- the codes up to it
  pub codes_more : codes_in (map decl_of (take (i + 1) ds)) ≡ codes_in front ++ codes_in (decl_of d ∷ [])
  codes_more = ap codes_in (front_more decl_of ds i d low is) ∙ codes_in-append front (decl_of d ∷ [])

  -- all of them are those before it, its own, and those after it
  pub codes_whole : codes_in (map decl_of ds) ≡ codes_in front ++ (codes_in (decl_of d ∷ []) ++ codes_in (map decl_of (drop (i + 1) ds)))
  codes_whole =
      ap (λ (xs : List Declaration). codes_in (map decl_of xs)) (sym (take-append-drop (i + 1) ds))
      ∙ (ap codes_in (map-append decl_of (take (i + 1) ds) (drop (i + 1) ds)) ∙ (codes_in-append (map decl_of (take (i + 1) ds)) (map decl_of (drop (i + 1) ds))
      ∙ (ap (λ (ks : List Coded). ks ++ codes_in (map decl_of (drop (i + 1) ds))) codes_more ∙ append_assoc (codes_in front) (codes_in (decl_of d ∷ [])) (codes_in (map decl_of (drop (i + 1) ds))))))

  -- they are no more than all
  pub few_codes : length (codes_in front) + length (codes_in (decl_of d ∷ [])) ≤ length (codes_in (map decl_of ds))
  few_codes =
      let own : List Coded = codes_in (decl_of d ∷ []) in
      let others : List Coded = codes_in (map decl_of (drop (i + 1) ds)) in
      let all = ap length codes_whole ∙ length-append (codes_in front) (own ++ others) in
      let behind = length-append own others in
      omega (arith, all, behind)

  module _ (well : AreWellDeclared (map decl_of ds)) where
    -- those in front of it are the first of all
    pub front_is : take i (map decl_of ds) ≡ front
    front_is =
        let whole : map decl_of ds ≡ front ++ map decl_of (drop i ds) = ap (map decl_of) (sym (take-append-drop i ds)) ∙ map-append decl_of (take i ds) (drop i ds) in
        let size : length front ≡ i = length-map (take i ds) decl_of ∙ length-take-le i ds (omega (arith, low)) in
        ap (take i) whole ∙ (take-append-le i front (map decl_of (drop i ds)) (omega (arith, size)) ∙ take_all i front (omega (arith, size)))

    -- it keeps the rules behind them
    pub well_next : IsWellDeclared front (decl_of d)
    well_next = subst (λ (xs : List Decl). IsWellDeclared xs (decl_of d)) front_is (well.each i (decl_of d) there)

    new_next : (objects : List Payload) → AreObjects front objects → declared objects (decl_name (decl_of d)) ≡ None
    new_next objects are = new_name (map decl_of ds) i (decl_of d) objects well there (subst (λ (xs : List Decl). AreObjects xs objects) (sym front_is) are)

    -- what it is founded on is there
    pub founded_next : (objects : List Payload) → AreObjects front objects → IsFoundedOn objects (decl_of d)
    founded_next objects are = founded front objects are (decl_of d) well_next.founded

    -- its entry may be added
    pub entry_next : (objects : List Payload) (codes : ℕ) (n : ℕ) (p : Payload) → AreObjects front objects → n ≡ length (codes_in front) → length (codes_in (map decl_of ds)) ≤ codes → IsEntryOf objects n (decl_of d) p → MayBeAdded objects codes p
    entry_next objects codes n p are same enough entry = entry_added objects codes n (decl_of d) p are.fit (founded_next objects are) entry (omega (arith, few_codes, same, enough))

    -- and with it these are the objects of one more
    pub added_next : (old now new : Machine) (n : ℕ) (p : Payload) → HasObjects front old now → n ≡ length (codes_in front) → IsEntryOf now.objects n (decl_of d) p
        → new ≡ record now { objects = now.objects ++ p ∷ [] } → HasObjects (map decl_of (take (i + 1) ds)) old new
    added_next old now new n p has same entry made =
        let objects : now.objects ++ p ∷ [] ≡ new.objects = ap (λ (m : Machine). m.objects) (sym made) in
        let are : AreObjects (front ++ decl_of d ∷ []) (now.objects ++ p ∷ []) =
        one_declared front now.objects (decl_of d) p has.are (new_next now.objects has.are) (founded_next now.objects has.are) (subst (λ (k : ℕ). IsEntryOf now.objects k (decl_of d) p) same entry) in
        record {
          none = subst HasNone objects (slice_get_grown now.objects (p ∷ []) 0 payload.None has.none);
          are = subst (λ (os : List Payload). AreObjects (map decl_of (take (i + 1) ds)) os) objects (subst (λ (xs : List Decl). AreObjects xs (now.objects ++ p ∷ [])) (sym (front_more decl_of ds i d low is)) are);
          others = made ∙ (ap (λ (m : Machine). let k : Machine = record m { objects = now.objects ++ p ∷ [] } in k) has.others ∙ ap (λ (os : List Payload). let k : Machine = record old { objects = os } in k) objects);
        }
