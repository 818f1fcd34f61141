-- The text of events by objects that never change.
use Rattle.std.proofs.Common.{◌≡◌, ◌+◌, ℕ, List, [], ◌∷◌, ◌++◌, refl, ap}
use Rattle.std.specs.Prelude.{flat_map}
use Rattle.py_objects.specs.declared.payload.Payload.{Payload}
use Rattle.py_objects.specs.declared.event.Event.{Event}
use Rattle.py_meaning.specs.Text.{event_text, events_text, text_from}

-- what is written of events by objects that never change
abbrev pub plain_text : List Payload → List Event → List ℕ
plain_text objects events = flat_map (event_text objects) events

unchanged_from : (objects : List Payload) (k : ℕ) (events : List Event) → text_from objects [] k events ≡ plain_text objects events
unchanged_from objects k [] = refl
unchanged_from objects k (e ∷ es) = ap (λ rest. event_text objects e ++ rest) (unchanged_from objects (k + 1) es)

pub unchanged : (objects : List Payload) (events : List Event) → events_text objects [] events ≡ plain_text objects events
unchanged objects events = unchanged_from objects 0 events
