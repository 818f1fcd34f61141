-- What edits leave of the bounds on the numbers that dicts name.
use Rattle.std.proofs.Common.{◌≡◌, ℕ, zero, suc, ◌<◌, ◌≤◌, Option, Some, None, List, [], ◌∷◌, ◌++◌, set, slice_get, refl, arith}
use Rattle.std.specs.Prelude.{remove}
use Rattle.py_objects.specs.declared.payload.Payload.{Payload}
use Rattle.py_objects.specs.declared.payload.Payload.TheVariants as payload
use Rattle.py_objects.specs.declared.edit.Edit.{Edit}
use Rattle.py_objects.specs.declared.edit.Edit.TheVariants as edit
use Rattle.py_objects.specs.declared.edit.Change.{Change}
use Rattle.py_objects.specs.Objects.{Obj, AllBelow, pair_numbers, payload_numbers}
use Rattle.py_objects.specs.Pairs.{Pairs, with_value}
use Rattle.py_objects.specs.Keys.{place_of_key, put_at, dropped_at}
use Rattle.py_objects.specs.Edits.{edited, edited_entry, edit_numbers, with_edit}
use Rattle.py_objects.specs.Originals.{dict_numbers, DictsBelow, ChangesBelow}
use Rattle.py_objects.proofs.GrowthLemmas.{below_more}

-- ---- a higher bound

pub DictsBelow-more : (n m : ℕ) (ps : List Payload) → n ≤ m → DictsBelow n ps → DictsBelow m ps
DictsBelow-more n m [] le below = tt
DictsBelow-more n m (p ∷ ps) le below = (below_more n m (dict_numbers p) le below.0, DictsBelow-more n m ps le below.1)

pub ChangesBelow-more : (n m : ℕ) (cs : List Change) → n ≤ m → ChangesBelow n cs → ChangesBelow m cs
ChangesBelow-more n m [] le below = tt
ChangesBelow-more n m (c ∷ cs) le below =
    (omega (arith, below.0), below_more n m (edit_numbers c.edit) le below.1, ChangesBelow-more n m cs le below.2)

-- ---- one more

pub DictsBelow-append : (n : ℕ) (ps : List Payload) (p : Payload) → DictsBelow n ps → AllBelow n (dict_numbers p) → DictsBelow n (ps ++ p ∷ [])
DictsBelow-append n [] p below last = (last, tt)
DictsBelow-append n (q ∷ ps) p below last = (below.0, DictsBelow-append n ps p below.1 last)

pub ChangesBelow-append : (n : ℕ) (cs : List Change) (c : Change) → ChangesBelow n cs → c.object.number < n → AllBelow n (edit_numbers c.edit)
    → ChangesBelow n (cs ++ c ∷ [])
ChangesBelow-append n [] c below within named = (within, named, tt)
ChangesBelow-append n (d ∷ cs) c below within named = (below.0, below.1, ChangesBelow-append n cs c below.2 within named)

-- the numbers that a dict names are among those that its payload names
pub dict_numbers-payload : (n : ℕ) (p : Payload) → AllBelow n (payload_numbers p) → AllBelow n (dict_numbers p)
dict_numbers-payload n (payload.Dict ps) below = below
dict_numbers-payload n _ below = tt

-- ---- edits of pairs

pair_numbers-append : (n : ℕ) (ps : Pairs) (k v : Obj) → AllBelow n (pair_numbers ps) → k.number < n → v.number < n → AllBelow n (pair_numbers (ps ++ (k, v) ∷ []))
pair_numbers-append n [] k v below first second = (first, (second, tt))
pair_numbers-append n (p ∷ ps) k v below first second = (below.0, (below.1.0, pair_numbers-append n ps k v below.1.1 first second))

pair_numbers-with_value : (n : ℕ) (ps : Pairs) (i : ℕ) (v : Obj) → AllBelow n (pair_numbers ps) → v.number < n → AllBelow n (pair_numbers (with_value ps i v))
pair_numbers-with_value n [] i v below second = tt
pair_numbers-with_value n (p ∷ ps) zero v below second = (below.0, (second, below.1.1))
pair_numbers-with_value n (p ∷ ps) (suc i) v below second = (below.0, (below.1.0, pair_numbers-with_value n ps i v below.1.1 second))

pair_numbers-remove : (n : ℕ) (ps : Pairs) (i : ℕ) → AllBelow n (pair_numbers ps) → AllBelow n (pair_numbers (remove ps i))
pair_numbers-remove n [] zero below = tt
pair_numbers-remove n [] (suc i) below = tt
pair_numbers-remove n (p ∷ ps) zero below = below.1.1
pair_numbers-remove n (p ∷ ps) (suc i) below = (below.0, (below.1.0, pair_numbers-remove n ps i below.1.1))

pair_numbers-put : (n : ℕ) (ps : Pairs) (k v : Obj) (place : Option ℕ) → AllBelow n (pair_numbers ps) → k.number < n → v.number < n
    → AllBelow n (pair_numbers (put_at place k v ps))
pair_numbers-put n ps k v None below first second = pair_numbers-append n ps k v below first second
pair_numbers-put n ps k v (Some i) below first second = pair_numbers-with_value n ps i v below second

pair_numbers-dropped : (n : ℕ) (ps : Pairs) (place : Option ℕ) → AllBelow n (pair_numbers ps) → AllBelow n (pair_numbers (dropped_at place ps))
pair_numbers-dropped n ps None below = below
pair_numbers-dropped n ps (Some i) below = pair_numbers-remove n ps i below

-- ---- edits of payloads

edited_dict : (n : ℕ) (objects : List Payload) (x : Edit) (ps : Pairs) → AllBelow n (edit_numbers x) → AllBelow n (pair_numbers ps)
    → AllBelow n (dict_numbers (edited objects x (payload.Dict ps)))
edited_dict n objects (edit.Link field v) ps named below = below
edited_dict n objects (edit.Flag b) ps named below = below
edited_dict n objects (edit.Args v) ps named below = below
edited_dict n objects (edit.Attr x v) ps named below = below
edited_dict n objects (edit.Append v) ps named below = below
edited_dict n objects (edit.SetAt i v) ps named below = below
edited_dict n objects (edit.RemoveAt i) ps named below = below
edited_dict n objects (edit.Put k v) ps named below = pair_numbers-put n ps k v (place_of_key objects k ps) below named.0 named.1.0
edited_dict n objects (edit.Drop k) ps named below = pair_numbers-dropped n ps (place_of_key objects k ps) below
edited_dict n objects (edit.Cell v) ps named below = below
edited_dict n objects (edit.Place i) ps named below = below
edited_dict n objects (edit.State s) ps named below = below

edited_below : (n : ℕ) (objects : List Payload) (x : Edit) (p : Payload) → AllBelow n (edit_numbers x) → AllBelow n (dict_numbers p)
    → AllBelow n (dict_numbers (edited objects x p))
edited_below n objects x (payload.Dict ps) named below = edited_dict n objects x ps named below
edited_below n objects x _ named below = tt

-- ---- edits of objects

pub dict_below : (n : ℕ) (ps : List Payload) (i : ℕ) (p : Payload) → DictsBelow n ps → slice_get ps i ≡ Some p → AllBelow n (dict_numbers p)
dict_below n [] i p below at = absurd (cc)
dict_below n (q ∷ ps) zero p below at = let same : q ≡ p = cc in rw (← same) below.0
dict_below n (q ∷ ps) (suc i) p below at = dict_below n ps i p below.1 at

DictsBelow-set : (n : ℕ) (ps : List Payload) (i : ℕ) (p : Payload) → DictsBelow n ps → AllBelow n (dict_numbers p) → DictsBelow n (set ps i p)
DictsBelow-set n [] i p below is = tt
DictsBelow-set n (q ∷ ps) zero p below is = (is, below.1)
DictsBelow-set n (q ∷ ps) (suc i) p below is = (below.0, DictsBelow-set n ps i p below.1 is)

pub DictsBelow-with_edit : (n : ℕ) (objects : List Payload) (o : Obj) (x : Edit) → DictsBelow n objects → AllBelow n (edit_numbers x) → DictsBelow n (with_edit objects o x)
DictsBelow-with_edit n objects o x below named = by (slice_get objects o.number) refl
  where
    by : (p : Option Payload) → slice_get objects o.number ≡ p → DictsBelow n (edited_entry objects x o.number p)
    by None at = below
    by (Some p) at = DictsBelow-set n objects o.number (edited objects x p) below (edited_below n objects x p named (dict_below n objects o.number p below at))
