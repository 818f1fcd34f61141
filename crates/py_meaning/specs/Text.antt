-- The text of a journal: a line for each value that is shown and for each result of a drive, in order.
use Rattle.std.specs.Prelude.{ℕ, ◌+◌, Option, Some, None, List, [], ◌∷◌, ◌++◌, codes, decimal, encode_utf8_all}
use Rattle.py_objects.specs.declared.payload.Payload.{Payload}
use Rattle.py_objects.specs.declared.payload.Payload.TheVariants as payload
use Rattle.py_objects.specs.declared.request.Request.{Request}
use Rattle.py_objects.specs.declared.request.Request.TheVariants as request
use Rattle.py_objects.specs.declared.event.DriveAnswer.{DriveAnswer}
use Rattle.py_objects.specs.declared.event.DriveAnswer.TheVariants as answer
use Rattle.py_objects.specs.declared.event.Event.{Event}
use Rattle.py_objects.specs.declared.event.Event.TheVariants as event
use Rattle.py_objects.specs.declared.edit.Change.{Change}
use Rattle.py_objects.specs.Objects.{Obj, as_object}
use Rattle.py_objects.specs.Changes.{store_at}
use Rattle.py_run.specs.declared.journal.Journal.{Journal}
use Rattle.py_exceptions.specs.Repr.{payload_of}
use Rattle.py_exceptions.specs.Texts.{raised, repr}

-- a line of a drive
abbrev pub numbered : ℕ → List ℕ → List ℕ
numbered d text = decimal d ++ (text ++ codes "\n")

-- what is written of a drive's answer; a report stands for itself
abbrev pub result_text : List Payload → ℕ → DriveAnswer → List ℕ
result_text objects d (answer.Returns v) = numbered d (codes " returns " ++ repr objects v)
result_text objects d (answer.Yields v) = numbered d (codes " yields " ++ repr objects v)
result_text objects d (answer.Stops None) = numbered d (codes " stops None")
result_text objects d (answer.Stops (Some v)) = numbered d (codes " stops " ++ repr objects v)
result_text objects d answer.Closes = numbered d (codes " closes")
result_text objects d (answer.Raises e) = numbered d (codes " raises " ++ raised objects (payload_of objects (as_object e)))
result_text objects d (answer.Reported text) = encode_utf8_all text

-- what is written of a value that is shown: a line, unless it is None
abbrev pub shown_line : List Payload → Obj → Option Payload → List ℕ
shown_line objects v (Some payload.None) = []
shown_line objects v _ = repr objects v ++ codes "\n"

-- what is written of a request
abbrev pub request_text : List Payload → Request → List ℕ
request_text objects (request.Show v) = shown_line objects v (payload_of objects v)
request_text objects _ = []

-- what is written of an event, where these are the objects at it
abbrev pub event_text : List Payload → Event → List ℕ
event_text objects (event.Result d w) = result_text objects d w
event_text objects (event.Ask a r own at) = request_text objects r
event_text objects _ = []

-- the text of events, in order, the first of which has this number: each is told by the objects as they are at it
abbrev pub text_from : List Payload → List Change → ℕ → List Event → List ℕ
text_from made changes k [] = []
text_from made changes k (e ∷ es) = event_text (store_at made changes k) e ++ text_from made changes (k + 1) es

-- the text of all events, which are numbered from 0
abbrev pub events_text : List Payload → List Change → List Event → List ℕ
events_text made changes events = text_from made changes 0 events

-- the text of a journal
abbrev pub text_of : Journal → List ℕ
text_of j = events_text j.objects j.changes j.events
