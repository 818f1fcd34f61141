-- Names in a table that grows.
use Rattle.std.proofs.Common.{◌≡◌, ◌<◌, ◌+◌, ℕ, suc, List, [], ◌∷◌, ◌++◌, Bool, true, false, cond, Some, refl, sym, ap, ◌∙◌, subst, length, take, get_or, append-nil}
use Rattle.std.specs.Prelude.{slice_get, bytes_eq, codes, encode_utf8_all}
use Rattle.std.specs.List.{list_any}
use Rattle.std.proofs.lemmas.List.{take_more}
use Rattle.std.proofs.lemmas.Option.{slice_get_within}
use Rattle.py_code.specs.declared.code.CodeObject.{CodeObject}
use Rattle.py_code.specs.declared.code.PyCode.{PyCode}
use Rattle.py_code.specs.declared.names.NameId.{NameId}
use Rattle.py_code.specs.Names.{interned}
use Rattle.py_tree.specs.Tree.{Name, Tree}
use Rattle.py_tree.specs.Binding.{locals_of}
use Rattle.py_laid.specs.Fits.{Continues}
use Rattle.py_laid.specs.Naming.{IsNameOf, IsNameFor, NamesAll, IsNamed}
use Rattle.py_laid.proofs.BindingLemmas.{Continues-trans}
use Rattle.py_laid.proofs.NamingLemmas.{NamesAll-grown}

pub Continues-interned : (table : List (List ℕ)) (text : List ℕ) → Continues table (interned table text)
Continues-interned table text = by (list_any (bytes_eq text) table)
  where
    by : (b : Bool) → Continues table (cond b table (table ++ text ∷ []))
    by true = ([], sym (append-nil table))
    by false = (text ∷ [], refl)

-- a table that had a text interned, and then went on
pub Continues-names : (old path_known name_known vars_known : List (List ℕ)) (text : List ℕ) → path_known ≡ interned old text → Continues path_known name_known
    → Continues name_known vars_known → Continues old vars_known
Continues-names old path_known name_known vars_known text is grown grown_more =
    Continues-trans old path_known vars_known (subst (Continues old) (sym is) (Continues-interned old text)) (Continues-trans path_known name_known vars_known grown grown_more)

-- a text that stands in the table has a name
pub is_name_of : (table : List (List ℕ)) (id : NameId) (text : List ℕ) → slice_get table id.index ≡ Some text → IsNameOf table id text
is_name_of table id text here = (slice_get_within table id.index text here, here)

NamesAll-last : (table : List (List ℕ)) (ids : List NameId) (xs : List Name) (id : NameId) (x : Name) → NamesAll table ids xs → IsNameFor table id x → NamesAll table (ids ++ id ∷ []) (xs ++ x ∷ [])
NamesAll-last table [] [] id x named one = (one, tt)
NamesAll-last table [] (y ∷ ys) id x named one = absurd named
NamesAll-last table (i ∷ ids) [] id x named one = absurd named
NamesAll-last table (i ∷ ids) (y ∷ ys) id x (first, rest) one = (first, NamesAll-last table ids ys id x rest one)

pub names_more : (old new : List (List ℕ)) (ids : List NameId) (texts : List Name) (i : ℕ) (id : NameId) (x : Name) → i < length texts → x ≡ get_or texts i x → Continues old new
    → NamesAll old ids (take i texts) → IsNameFor new id x → NamesAll new (ids ++ id ∷ []) (take (i + 1) texts)
names_more old new ids texts i id x low is grows named one =
    let more : take (i + 1) texts ≡ take i texts ++ x ∷ [] = take_more texts i x low ∙ ap (λ (y : Name). take i texts ++ y ∷ []) (sym is) in
    rw more (NamesAll-last new ids (take i texts) id x (NamesAll-grown old new ids (take i texts) grows named) one)

pub length-NamesAll : (table : List (List ℕ)) (ids : List NameId) (xs : List Name) → NamesAll table ids xs → length ids ≡ length xs
length-NamesAll table [] [] named = refl
length-NamesAll table [] (x ∷ xs) named = absurd named
length-NamesAll table (id ∷ ids) [] named = absurd named
length-NamesAll table (id ∷ ids) (x ∷ xs) (one, rest) = ap suc (length-NamesAll table ids xs rest)

-- the names that a code was given
pub named_code : (table : List (List ℕ)) (globals : List Name) (code : PyCode) (object : CodeObject) (t : Tree) → code.code ≡ object
    → IsNameOf table object.source_path (codes "<script>") → IsNameOf table object.obj_name (encode_utf8_all t.name)
    → NamesAll table object.names.items globals → NamesAll table object.varnames.items (locals_of t) → IsNamed table globals code t
named_code table globals code object t same path name names vars = record {
  source_path = subst (λ (o : CodeObject). IsNameOf table o.source_path (codes "<script>")) (sym same) path;
  obj_name = subst (λ (o : CodeObject). IsNameOf table o.obj_name (encode_utf8_all t.name)) (sym same) name;
  names = subst (λ (o : CodeObject). NamesAll table o.names.items globals) (sym same) names;
  varnames = subst (λ (o : CodeObject). NamesAll table o.varnames.items (locals_of t)) (sym same) vars;
}
