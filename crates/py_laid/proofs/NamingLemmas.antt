-- The names of a code in a table that grows.
use Rattle.std.proofs.Common.{◌≡◌, ◌<◌, ℕ, zero, suc, List, [], ◌∷◌, ◌++◌, Some, refl, ap, ◌∙◌, subst, length, map, take, arith, length-append}
use Rattle.std.specs.Prelude.{Option, option_map, chars, slice_get, encode_utf8_all}
use Rattle.std.proofs.Math.Seq.{take-append_seam}
use Rattle.py_code.specs.declared.code.PyCode.{PyCode}
use Rattle.py_code.specs.declared.names.NameId.{NameId}
use Rattle.py_rows.specs.Asked.{name_in}
use Rattle.py_rows.specs.Signature.{characters, params_of}
use Rattle.py_tree.specs.Tree.{Name, Tree}
use Rattle.py_tree.specs.Binding.{locals_of}
use Rattle.py_laid.specs.Fits.{Continues}
use Rattle.py_laid.specs.Naming.{IsNameOf, NamesAll, IsNamed}
use Rattle.py_laid.proofs.BindingLemmas.{Continues-bound_by}

pub slice_get-front : {A : Type 0} (xs ys : List A) (i : ℕ) → i < length xs → slice_get (xs ++ ys) i ≡ slice_get xs i
slice_get-front [] ys i low = absurd (omega (arith, low))
slice_get-front (x ∷ xs) ys zero low = refl
slice_get-front (x ∷ xs) ys (suc i) low = slice_get-front xs ys i (omega (arith, low))

-- a name stays one as the table grows
pub IsNameOf-grown : (old new : List (List ℕ)) (id : NameId) (text : List ℕ) → Continues old new → IsNameOf old id text → IsNameOf new id text
IsNameOf-grown old new id text (more, is) (low, here) = (omega (arith, low, ap length is, length-append old more), rw is (slice_get-front old more id.index low ∙ here))

pub NamesAll-grown : (old new : List (List ℕ)) (ids : List NameId) (xs : List Name) → Continues old new → NamesAll old ids xs → NamesAll new ids xs
NamesAll-grown old new [] [] grows named = tt
NamesAll-grown old new [] (x ∷ xs) grows named = absurd named
NamesAll-grown old new (id ∷ ids) [] grows named = absurd named
NamesAll-grown old new (id ∷ ids) (x ∷ xs) grows ((one, spells), rest) = ((IsNameOf-grown old new id (encode_utf8_all x) grows one, spells), NamesAll-grown old new ids xs grows rest)

-- each is a place in the table
pub NamesAll-below : (table : List (List ℕ)) (ids : List NameId) (xs : List Name) (i : ℕ) (id : NameId) → NamesAll table ids xs → slice_get ids i ≡ Some id → id.index < length table
NamesAll-below table [] xs i id named here = absurd (cc)
NamesAll-below table (a ∷ ids) [] i id named here = absurd named
NamesAll-below table (a ∷ ids) (x ∷ xs) zero id ((one, spells), rest) here = let same : a ≡ id = cc in subst (λ (n : NameId). n.index < length table) same one.0
NamesAll-below table (a ∷ ids) (x ∷ xs) (suc i) id (one, rest) here = NamesAll-below table ids xs i id rest here

named_params : (table : List (List ℕ)) (ids : List NameId) (xs : List Name) (n : ℕ) → NamesAll table ids xs → map (λ id. characters (name_in table (Some id))) (take n ids) ≡ take n xs
named_params table [] [] zero named = refl
named_params table [] [] (suc n) named = refl
named_params table [] (x ∷ xs) n named = absurd named
named_params table (id ∷ ids) [] n named = absurd named
named_params table (id ∷ ids) (x ∷ xs) zero named = refl
named_params table (id ∷ ids) (x ∷ xs) (suc n) (((low, is), spells), rest) =
    let one : characters (name_in table (Some id)) ≡ x = ap (λ (o : Option (List ℕ)). characters (option_map chars o)) is ∙ spells in
    let others = named_params table ids xs n rest in
    λ k. one k ∷ others k

-- the first locals of a body are its parameters
params_first : (t : Tree) → take (length t.params) (locals_of t) ≡ t.params
params_first t =
    let (more, is) = Continues-bound_by t.suite t.params in
    ap (take (length t.params)) is ∙ take-append_seam t.params more

-- the parameters of a code that is named for a body
pub params_named : (table : List (List ℕ)) (globals : List Name) (code : PyCode) (t : Tree) → code.code.arg_count ≡ length t.params → IsNamed table globals code t → params_of table code ≡ t.params
params_named table globals code t arity named =
    ap (λ (n : ℕ). map (λ id. characters (name_in table (Some id))) (take n code.code.varnames.items)) arity
    ∙ named_params table code.code.varnames.items (locals_of t) (length t.params) named.varnames ∙ params_first t
