-- The names of locals: of parameters, and after them of others.
use Rattle.std.proofs.Common.{◌≡◌, ◌<◌, ◌+◌, ℕ, List, [], ◌∷◌, ◌++◌, sym, ◌∙◌, length, take, get_or, arith, add_assoc, get_or-append-add, length-append}
use Rattle.py_code.specs.declared.names.NameId.{NameId}
use Rattle.py_tree.specs.Tree.{Name}
use Rattle.py_laid.specs.Fits.{Continues}
use Rattle.py_laid.specs.Naming.{IsNameFor, NamesAll}
use Rattle.py_body.proofs.NamingLemmas.{names_more}

-- one more of the others has a name
pub locals_more : (old new : List (List ℕ)) (ids : List NameId) (params vars : List Name) (i : ℕ) (id : NameId) (x : Name) → i < length vars
    → x ≡ get_or vars i x → Continues old new → NamesAll old ids (take (length params + i) (params ++ vars))
    → IsNameFor new id x → NamesAll new (ids ++ id ∷ []) (take (length params + (i + 1)) (params ++ vars))
locals_more old new ids params vars i id x low there grows named one =
    rw (← add_assoc (length params) i 1)
    (names_more old new ids (params ++ vars) (length params + i) id x (omega (arith, low, length-append params vars))
    (there ∙ sym (get_or-append-add params vars i x)) grows named one)
