-- Which objects of two runs are related: the relation that their events determine.
use Rattle.std.specs.Prelude.{ℕ, true, Some, List, [], ◌∷◌, ◌++◌, ◌≡◌, ◌⊎◌}
use Rattle.py_objects.specs.declared.payload.Payload.{Payload}
use Rattle.py_objects.specs.declared.request.Request.{Request}
use Rattle.py_objects.specs.declared.request.Request.TheVariants as request
use Rattle.py_objects.specs.declared.event.Event.{Event}
use Rattle.py_objects.specs.declared.event.Event.TheVariants as event
use Rattle.py_objects.specs.Objects.{Obj, Name, HasPayload, declared, event_numbers, number_if, request_numbers}
use Rattle.py_agreement.specs.Agreement.{Relation, has_literal}

-- numbers that stand at one place, as far as both lists go
abbrev pub paired : List ℕ → List ℕ → List (ℕ × ℕ)
paired [] js = []
paired (i ∷ is) [] = []
paired (i ∷ is) (j ∷ js) = (i, j) ∷ paired is js

-- the numbers of the values that a question names: all but that of the dict in which a name is looked up
abbrev pub asked_numbers : Request → List ℕ
asked_numbers (request.Global d x) = []
asked_numbers r = request_numbers r

-- those of the values that an event names
abbrev pub value_numbers : Event → List ℕ
value_numbers (event.Ask a r own at) = number_if own ++ asked_numbers r
value_numbers e = event_numbers e

-- the numbers of the values that two lists of events name at one place, as far as both go
abbrev pub pairs_of : List Event → List Event → List (ℕ × ℕ)
pairs_of [] fs = []
pairs_of (e ∷ es) [] = []
pairs_of (e ∷ es) (f ∷ fs) = paired (value_numbers e) (value_numbers f) ++ pairs_of es fs

-- two objects whose numbers are one of the pairs
abbrev pub IsPair : List (ℕ × ℕ) → Obj → Obj → Type 0
IsPair [] v w = ⊥
IsPair (p ∷ ps) v w = ((v.number ≡ p.0) × (w.number ≡ p.1)) ⊎ IsPair ps v w

module _ (objects objects' : List Payload) where
  -- two objects that one literal may stand for
  abbrev pub IsOfLiteral : Obj → Obj → Type 0
  IsOfLiteral v w = (p : Payload) × (has_literal p ≡ true) × HasPayload objects v p × HasPayload objects' w p

  -- two that are declared under one name
  abbrev pub IsOfName : Obj → Obj → Type 0
  IsOfName v w = (x : Name) × (declared objects x ≡ Some v) × (declared objects' x ≡ Some w)

  -- two objects are related: one literal may stand for both, they are declared under one name, or the events name them at one place
  abbrev pub Related : List (ℕ × ℕ) → Obj → Obj → Type 0
  Related pairs v w = IsOfLiteral v w ⊎ (IsOfName v w ⊎ IsPair pairs v w)

  -- those that two lists of events relate
  abbrev pub Paired : List Event → List Event → Relation
  Paired es fs = Related (pairs_of es fs)
