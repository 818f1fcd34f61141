-- How a store keeps what its objects were made as: it has the objects as they are, and those that may change also as they
-- were made.
use Rattle.std.specs.Prelude.{ℕ, ◌<◌, ◌≤◌, Option, Some, None, List, [], ◌∷◌, ◌++◌, Bool, true, false, ◌||◌, eqb, ◌≡◌, slice_get, slice_set, length, IfSome, if◌then◌else◌}
use Rattle.py_objects.specs.declared.payload.Payload.{Payload}
use Rattle.py_objects.specs.declared.payload.Payload.TheVariants as payload
use Rattle.py_objects.specs.declared.edit.Change.{Change}
use Rattle.py_objects.specs.declared.edit.Edit.{Edit}
use Rattle.py_objects.specs.declared.store.Original.{Original}
use Rattle.py_objects.specs.Objects.{Obj, HasPayload, AllBelow, pair_numbers}
use Rattle.py_objects.specs.Pairs.{Pairs}
use Rattle.py_objects.specs.Keys.{place_of_key}
use Rattle.py_objects.specs.Edits.{EditFits, FitsException, FitsTraceback, edit_numbers, changed_by}

-- whether some edit fits a payload of this kind
abbrev pub may_change : Payload → Bool
may_change payload.None = false
may_change (payload.Bool b) = false
may_change (payload.Int n) = false
may_change (payload.Str s) = false
may_change (payload.Tuple vs) = false
may_change (payload.Dict ps) = true
may_change (payload.Class c) = false
may_change (payload.Function f) = false
may_change (payload.Builtin f) = false
may_change (payload.Code n) = false
may_change (payload.Manager m) = false
may_change (payload.Frame c) = false
may_change (payload.Generator g) = false
may_change (payload.Exception e) = true
may_change (payload.Traceback t) = true

-- a payload, where it may change
abbrev pub original_of : Payload → Option Payload
original_of p = if may_change p then Some p else None

-- the originals and behind them that of the object with this number, where there is one
abbrev pub with_copy : List Original → ℕ → Option Payload → List Original
with_copy os n None = os
with_copy os n (Some p) = os ++ record { number = n; payload = p } ∷ []

-- the objects as they were made
abbrev pub restored : List Original → List Payload → List Payload
restored [] now = now
restored (o ∷ os) now = restored os (slice_set now o.number o.payload)

-- whether one of these was made with this number
abbrev pub has_original : ℕ → List Original → Bool
has_original n [] = false
has_original n (o ∷ os) = eqb n o.number || has_original n os

-- each of these is an object
abbrev pub AreWithin : List Original → List Payload → Type 0
AreWithin os now = (i : ℕ) (o : Original) → slice_get os i ≡ Some o → o.number < length now

-- each object that may change is among these, and each of these is an object
pub record HaveOriginals (os : List Original) (now : List Payload) : Type 0 where
  pub within : AreWithin os now
  pub each : (n : ℕ) (p : Payload) → slice_get now n ≡ Some p → may_change p ≡ true → has_original n os ≡ true

-- no change was made behind a later event
abbrev pub AreMarked : ℕ → List Change → Type 0
AreMarked mark [] = Unit {0}
AreMarked mark (c ∷ cs) = (c.after ≤ mark) × AreMarked mark cs

-- the numbers that the pairs of a dict name
abbrev pub dict_numbers : Payload → List ℕ
dict_numbers (payload.Dict ps) = pair_numbers ps
dict_numbers _ = []

-- each pair of a dict names objects below a number
abbrev pub DictsBelow : ℕ → List Payload → Type 0
DictsBelow n [] = Unit {0}
DictsBelow n (p ∷ ps) = AllBelow n (dict_numbers p) × DictsBelow n ps

-- each change is of an object below a number, and names such objects
abbrev pub ChangesBelow : ℕ → List Change → Type 0
ChangesBelow n [] = Unit {0}
ChangesBelow n (c ∷ cs) = (c.object.number < n) × AllBelow n (edit_numbers c.edit) × ChangesBelow n cs

-- what a store keeps: the objects as they are, those that may change also as they were made, and the changes
pub record IsKept (os : List Original) (now : List Payload) (cs : List Change) (mark : ℕ) : Type 0 where
  pub originals : HaveOriginals os now
  pub marked : AreMarked mark cs
  pub changed : now ≡ changed_by (restored os now) cs
  -- keys and edits name objects that are there, so an object that comes changes no earlier change
  pub dicts : DictsBelow (length now) (restored os now)
  pub changes : ChangesBelow (length now) cs

-- an edit fits an exception or a traceback
abbrev pub FitsBody : Edit → Payload → Type 0
FitsBody x (payload.Exception e) = FitsException x
FitsBody x (payload.Traceback t) = FitsTraceback x
FitsBody x _ = ⊥

-- an edit fits the payload of an object
abbrev pub FitsEntry : List Payload → Obj → Edit → Type 0
FitsEntry objects o x = (p : Payload) × HasPayload objects o p × EditFits x p

-- an object is a dict
abbrev pub IsDict : List Payload → Obj → Type 0
IsDict objects o = (ps : Pairs) × HasPayload objects o (payload.Dict ps)

-- where a key stands in an object that is a dict
abbrev pub IsPlaceIn : List Payload → Obj → Obj → Option ℕ → Type 0
IsPlaceIn objects o k place =
    (ps : Pairs) → HasPayload objects o (payload.Dict ps) → (place ≡ place_of_key objects k ps) × IfSome place (λ at. at < length ps)
