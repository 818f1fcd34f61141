-- The own events of an activation, checked one after another.
use Rattle.std.specs.Prelude.{ℕ, ◌==◌, Bool, true, false, Option, Some, None, List, [], ◌∷◌, ◌≡◌, length, if◌then◌else◌}
use Rattle.py_objects.specs.declared.payload.Payload.{Payload}
use Rattle.py_objects.specs.Objects.{Obj, AllBelow, numbers, got_numbers, how_numbers}
use Rattle.py_objects.specs.Own.{Own, Makes, Resumes, Asks, Gets, Rounds, Yields, Ends}
use Rattle.py_tree.specs.Tree.{Tree}
use Rattle.py_tree.specs.Scene.{anywhere}
use Rattle.py_tree.specs.Trace.{IsTrace}
use Rattle.py_places.specs.Place.{Starting, Place, place}
use Rattle.py_places.specs.Stepping.{step}

-- the place of an activation of a function with these arguments that was made: there are as many as the function has parameters
abbrev pub made : Tree → List Obj → Option Place
made t args = if length args == length t.params then Some (place [] (Starting t args)) else None

module _ (objects : List Payload) (globals : Obj) where
  -- the place behind some events
  abbrev pub run_on : Option Place → List Own → Option Place
  run_on None es = None
  run_on (Some p) [] = Some p
  run_on (Some p) (e ∷ es) = run_on (step objects globals p e) es

  abbrev pub is_there : Option Place → Bool
  is_there None = false
  is_there (Some p) = true

  -- whether these are, one after another, what an activation may tell
  abbrev pub accepts : Tree → List Obj → List Own → Bool
  accepts t args [] = false
  accepts t args (Makes ∷ es) = is_there (run_on (made t args) es)
  accepts t args (_ ∷ es) = false

-- what an activation hears are objects that are there
abbrev pub HearsBelow : ℕ → Own → Type 0
HearsBelow n Makes = Unit {0}
HearsBelow n (Resumes k w) = AllBelow n (how_numbers w)
HearsBelow n (Asks at r h) = Unit {0}
HearsBelow n (Gets k w) = AllBelow n (got_numbers w)
HearsBelow n (Rounds at) = Unit {0}
HearsBelow n (Yields at v) = Unit {0}
HearsBelow n (Ends at e) = Unit {0}

abbrev pub AllHear : ℕ → List Own → Type 0
AllHear n [] = Unit {0}
AllHear n (e ∷ es) = HearsBelow n e × AllHear n es

-- the own events of an activation are accepted just where they are a trace of its body
abbrev pub Decided : Type 0
Decided = (objects : List Payload) (globals : Obj) (t : Tree) (args : List Obj) (es : List Own)
    → AllBelow (length objects) (numbers args) → AllHear (length objects) es
    → (accepts objects globals t args es ≡ true → IsTrace (anywhere objects globals) t args es)
    × (IsTrace (anywhere objects globals) t args es → accepts objects globals t args es ≡ true)
