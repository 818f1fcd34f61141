-- What the drives of a run came to, by its events, and the line that says so.
use Rattle.std.specs.Prelude.{ℕ, Bool, true, false, List, ◌++◌, length, codes, decimal}
use Rattle.std.specs.List.{count_by}
use Rattle.py_objects.specs.declared.event.Event.{Event}
use Rattle.py_objects.specs.declared.event.Event.TheVariants as event
use Rattle.py_objects.specs.declared.event.DriveAnswer.{DriveAnswer}
use Rattle.py_objects.specs.declared.event.DriveAnswer.TheVariants as answer
use Rattle.py_make.specs.declared.summary.Summary.{Summary}
use Rattle.py_make.specs.declared.summary.Tally.{Tally}
use Rattle.py_make.specs.declared.summary.Tally.TheVariants as tally

-- whether the answer of a drive is of a kind
abbrev pub is_return : DriveAnswer → Bool
is_return (answer.Returns v) = true
is_return _ = false

abbrev pub is_yield : DriveAnswer → Bool
is_yield (answer.Yields v) = true
is_yield _ = false

abbrev pub is_stop : DriveAnswer → Bool
is_stop (answer.Stops v) = true
is_stop _ = false

abbrev pub is_close : DriveAnswer → Bool
is_close answer.Closes = true
is_close _ = false

abbrev pub is_raise : DriveAnswer → Bool
is_raise (answer.Raises e) = true
is_raise _ = false

-- whether the result of a drive counts, and whether its beginning does
abbrev pub counts_result : Tally → DriveAnswer → Bool
counts_result tally.Drives w = false
counts_result tally.Returns w = is_return w
counts_result tally.Yields w = is_yield w
counts_result tally.Stops w = is_stop w
counts_result tally.Closes w = is_close w
counts_result tally.Raises w = is_raise w

abbrev pub counts_drive : Tally → Bool
counts_drive tally.Drives = true
counts_drive _ = false

-- whether an event counts
abbrev pub counts : Tally → Event → Bool
counts t (event.Drive d) = counts_drive t
counts t (event.Result d w) = counts_result t w
counts t _ = false

-- how many of these events do
abbrev pub count : Tally → List Event → ℕ
count t events = count_by (counts t) events

-- the counts of these events
abbrev pub summary_of : List Event → Summary
summary_of events = record {
  drives = count tally.Drives events;
  events = length events;
  returns = count tally.Returns events;
  yields = count tally.Yields events;
  stops = count tally.Stops events;
  closes = count tally.Closes events;
  raises = count tally.Raises events;
}

-- a count after its name
abbrev pub named : List ℕ → ℕ → List ℕ
named name n = name ++ decimal n

-- the line of the counts
abbrev pub summary_text : Summary → List ℕ
summary_text s =
    named (codes "drives ") s.drives ++ (named (codes " events ") s.events ++ (named (codes " returns ") s.returns ++ (named (codes " yields ") s.yields
    ++ (named (codes " stops ") s.stops ++ (named (codes " closes ") s.closes ++ (named (codes " raises ") s.raises ++ codes "\n"))))))
