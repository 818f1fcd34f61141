-- The past behind some events.
use Rattle.std.proofs.Common.{◌≡◌, List, [], ◌∷◌, ◌++◌, refl, sym, ◌∙◌, append_assoc, append-nil}
use Rattle.py_objects.specs.declared.event.Event.{Event}
use Rattle.py_run.specs.Run.{Plan, start, state_after}
use Rattle.py_run.specs.Coming.{Past, nothing, past_after}
use Rattle.py_run.specs.Past.{past_behind}
use Rattle.py_run.specs.Laws.{PastIsOfEvents}

-- events behind a past add themselves
pub past_events_from : (plan : Plan) (p : Past) (es : List Event) → (past_behind plan p es).events ≡ p.events ++ es
past_events_from plan p [] = sym (append-nil p.events)
past_events_from plan p (e ∷ es) = past_events_from plan (past_after plan p e) es ∙ append_assoc p.events (e ∷ []) es

-- and its state goes on by them
pub past_state_from : (plan : Plan) (p : Past) (es : List Event) → (past_behind plan p es).state ≡ state_after p.state es
past_state_from plan p [] = refl
past_state_from plan p (e ∷ es) = past_state_from plan (past_after plan p e) es

-- the past behind some events has these
pub past_events : (plan : Plan) (events : List Event) → (past_behind plan nothing events).events ≡ events
past_events plan events = past_events_from plan nothing events

-- and the state behind them
pub past_state : (plan : Plan) (events : List Event) → (past_behind plan nothing events).state ≡ state_after start events
past_state plan events = past_state_from plan nothing events

-- both
pub past_is : PastIsOfEvents
past_is plan events = (past_events plan events, past_state plan events)

-- the past behind a list and another one
pub past_lists : (plan : Plan) (p : Past) (es more : List Event) → past_behind plan p (es ++ more) ≡ past_behind plan (past_behind plan p es) more
past_lists plan p [] more = refl
past_lists plan p (e ∷ es) more = past_lists plan (past_after plan p e) es more

-- the past behind one more event
pub past_on : (plan : Plan) (p : Past) (es : List Event) (e : Event) → past_behind plan p (es ++ e ∷ []) ≡ past_after plan (past_behind plan p es) e
past_on plan p es e = past_lists plan p es (e ∷ [])
