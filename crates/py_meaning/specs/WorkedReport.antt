-- A script with a report, worked by hand: its journal, whose report tells the exception that the drive before it raised, and journals that look like it
-- and are none.
use Rattle.std.specs.Prelude.{ℕ, None, Some, List, [], ◌∷◌, ◌++◌, ◌≡◌, codes}
use Rattle.py_code.specs.Codes.{Codes}
use Rattle.py_objects.specs.declared.payload.Payload.{Payload}
use Rattle.py_objects.specs.declared.edit.Change.{Change}
use Rattle.py_objects.specs.declared.edit.LinkField.TheVariants as link
use Rattle.py_objects.specs.declared.error_kind.ErrorKind.TheVariants.{NameError}
use Rattle.py_objects.specs.declared.event.GotAnswer.TheVariants as got
use Rattle.py_objects.specs.declared.event.Ending.TheVariants as ending
use Rattle.py_objects.specs.declared.event.DriveAnswer.{DriveAnswer}
use Rattle.py_objects.specs.declared.event.DriveAnswer.TheVariants as answer
use Rattle.py_objects.specs.declared.event.Event.{Event}
use Rattle.py_objects.specs.declared.event.Event.TheVariants as event
use Rattle.py_objects.specs.Objects.{Name}
use Rattle.py_lines.specs.declared.drive.DriveLine.{DriveLine}
use Rattle.py_lines.specs.declared.drive.DriveLine.TheVariants as drive
use Rattle.py_reports.specs.Scenes.{SourceLines}
use Rattle.py_run.specs.declared.journal.Journal.{Journal}
use Rattle.py_run.specs.Links.{lines_in}
use Rattle.py_meaning.specs.Reported.{sources_of}
use Rattle.py_meaning.specs.Whole.{IsJournalOf, IsRunOf}
use Rattle.py_meaning.specs.Worked.{object, exception}
use Rattle.py_meaning.specs.WorkedLoop.{asked, objects_with, raised_objects, unknown_decls}
use Rattle.py_meaning.specs.WorkedContext.{entry, linked}

-- the bytes of the script; it declares what the one with an unknown name does
abbrev pub script : List ℕ
script = codes "def f\nshow z\nend\ncall f\nreport 1\n"

-- what it drives: call f / report 1
abbrev pub drives : List DriveLine
drives = drive.Call (codes "f") [] ∷ drive.Report 1 ∷ []

-- the objects that the run adds behind the frame, 3: those of the raise of NameError, 4 to 6, and the entry of its traceback, 7
abbrev pub run_objects : List Payload
run_objects = raised_objects NameError ++ entry None 1 2 ∷ []

abbrev pub objects : List Payload
objects = objects_with run_objects

-- NameError answers the name, which ends the body and the drive; these events follow
abbrev pub raised : List Event → List Event
raised events = asked (event.Got 1 (got.Raise (exception 6)) ∷ event.End 1 (ending.Raise (exception 6)) 0 ∷ event.Result 1 (answer.Raises (exception 6)) ∷ events)

-- the second drive comes to this
abbrev pub events : DriveAnswer → List Event
events w = raised (event.Drive 2 ∷ event.Result 2 w ∷ [])

-- the first drive is told a report, though it is a call
abbrev pub call_reported : Name → List Event
call_reported text = asked (event.Got 1 (got.Raise (exception 6)) ∷ event.End 1 (ending.Raise (exception 6)) 0 ∷ event.Result 1 (answer.Reported text) ∷ [])

-- the exception gets its entry, which nothing takes away
abbrev pub links : List Change
links = linked link.Traceback 5 (object 6) (object 7) ∷ []

-- the journal where the second drive comes to this
abbrev pub journal : Codes → DriveAnswer → Journal
journal k w = record { events = events w; objects = objects; changes = links; codes = k }

-- its report
abbrev pub report : Name
report = codes "Traceback (most recent call last):\n  File \"<script>\", line 2, in f\n    show z\nNameError: name 'z' is not defined\n"

-- the same without the source line
abbrev pub without_source : Name
without_source = codes "Traceback (most recent call last):\n  File \"<script>\", line 2, in f\nNameError: name 'z' is not defined\n"

-- the same with another line
abbrev pub with_other_line : Name
with_other_line = codes "Traceback (most recent call last):\n  File \"<script>\", line 1, in f\n    show z\nNameError: name 'z' is not defined\n"

-- its last line
abbrev pub last_line : Name
last_line = codes "NameError: name 'z' is not defined\n"

-- the code of f has this line
abbrev pub HasLine : Codes → Type 0
HasLine k = lines_in k 0 0 ≡ Some 2

-- the journal with this answer is one of the script, with these source texts, whatever codes have that line
abbrev pub ComesWith : List SourceLines → DriveAnswer → Type 0
ComesWith sources w = (k : Codes) → HasLine k → IsJournalOf unknown_decls drives sources (journal k w)

-- it is one with the script's own text
abbrev pub ComesTo : DriveAnswer → Type 0
ComesTo w = ComesWith (sources_of script) w

-- it is none
abbrev pub NeverComesTo : DriveAnswer → Type 0
NeverComesTo w = (k : Codes) → IsJournalOf unknown_decls drives (sources_of script) (journal k w) → ⊥

-- a call comes to no report
abbrev pub NoCallReports : Type 0
NoCallReports = (text : Name) → IsRunOf unknown_decls drives objects (call_reported text) → ⊥
