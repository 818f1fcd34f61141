-- The slots of handled exceptions, the top first.
use Rattle.std.specs.Prelude.{Option, Some, None, List, [], ◌∷◌, ◌++◌, ◌≡◌}
use Rattle.std.specs.Option.{option_or}
use Rattle.py_objects.specs.declared.refs.PyBaseExceptionRef.{PyBaseExceptionRef}

-- each slot may hold an exception
abbrev pub Slots : Type 0
Slots = List (Option PyBaseExceptionRef)

-- what the top slot holds
abbrev pub top_of : Slots → Option PyBaseExceptionRef
top_of [] = None
top_of (slot ∷ slots) = slot

-- the exception of the first slot from the top that holds one
abbrev pub topmost : Slots → Option PyBaseExceptionRef
topmost [] = None
topmost (slot ∷ slots) = option_or slot (topmost slots)

-- none of these holds one
abbrev pub AreEmpty : Slots → Type 0
AreEmpty [] = Unit {0}
AreEmpty (slot ∷ slots) = (slot ≡ None) × AreEmpty slots

-- the exception that is being handled: that of a slot above which all are empty, or none where each is empty
abbrev pub IsTopmost : Slots → Option PyBaseExceptionRef → Type 0
IsTopmost slots None = AreEmpty slots
IsTopmost slots (Some e) = (above : Slots) × (below : Slots) × AreEmpty above × (slots ≡ above ++ Some e ∷ below)
