-- Which texts the drives of a run tell (Python Language Reference, 7.8). Each is the report of the exception that its drive names, what the report says
-- of that alone, or what is printed where it ends a program, in the store of its event: no link changes between the beginning of such a drive and its
-- result.
use Rattle.std.specs.Prelude.{ℕ, Some, None, List, [], ◌∷◌, ◌++◌, ◌≡◌, length, encode_utf8_all}
use Rattle.py_objects.specs.declared.payload.Payload.{Payload}
use Rattle.py_objects.specs.declared.edit.Change.{Change}
use Rattle.py_objects.specs.declared.event.DriveAnswer.TheVariants as answer
use Rattle.py_objects.specs.declared.event.Event.{Event}
use Rattle.py_objects.specs.declared.event.Event.TheVariants as event
use Rattle.py_objects.specs.Objects.{Name, as_object}
use Rattle.py_objects.specs.Changes.{store_at}
use Rattle.py_reports.specs.declared.place.Place.{Place}
use Rattle.py_reports.specs.Parts.{IsPartText}
use Rattle.py_reports.specs.Reports.{IsReport}
use Rattle.py_reports.specs.Scenes.{Scene, SourceLines, scene_with}
use Rattle.py_run.specs.declared.drive.Told.{Told}
use Rattle.py_run.specs.declared.drive.Told.TheVariants as told
use Rattle.py_run.specs.Exits.{IsExitText}
use Rattle.py_run.specs.Run.{Plan, start, state_after, reporting}

-- where codes were written: the table of names, their places in it, and source texts
pub record Origins : Type 0 where
  pub names : List (List ℕ)
  pub places : List Place
  pub sources : List SourceLines

-- what reports are made of, where these are the objects
abbrev pub scene_among : Origins → List Payload → Scene
scene_among o objects = scene_with objects o.names o.places o.sources

-- a text is what a drive tells: the report of an exception, which is empty where there is none, a part of it, or what a program's end prints
abbrev pub IsReportText : Scene → Told → Name → Type 0
IsReportText scene (told.Report None) text = text ≡ []
IsReportText scene (told.Report (Some e)) text = IsReport scene (as_object e) (encode_utf8_all text)
IsReportText scene (told.Part e) text = IsPartText scene e text
IsReportText scene (told.Exit e) text = IsExitText scene e text

-- behind other events, the text of each report is that of what its drive has told, in the store of its event
abbrev pub AreReported : Plan → Origins → (made : List Payload) → List Change → (before events : List Event) → Type 0
AreReported plan origins made changes before events =
    (front back : List Event) (d : ℕ) (text : Name) (t : Told)
    → events ≡ front ++ event.Result d (answer.Reported text) ∷ back → reporting plan (state_after start (before ++ front)) ≡ Some t
    → IsReportText (scene_among origins (store_at made changes (length (before ++ front)))) t text
