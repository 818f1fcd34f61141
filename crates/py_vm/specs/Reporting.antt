-- Drives by which a host has a text told of an exception, and what they leave.
use Rattle.std.specs.Prelude.{List, length, [], ◌∷◌, ◌+◌, ◌++◌, ◌≡◌}
use Rattle.py_objects.specs.declared.payload.Payload.{Payload}
use Rattle.py_objects.specs.declared.event.DriveAnswer.TheVariants as answer
use Rattle.py_objects.specs.declared.event.Event.TheVariants as event
use Rattle.py_objects.specs.Objects.{Name}
use Rattle.py_objects.specs.Changes.{store_at}
use Rattle.py_objects.specs.Edits.{objects_of}
use Rattle.py_reports.specs.Scenes.{SourceLines}
use Rattle.py_run.specs.declared.drive.Told.{Told}
use Rattle.py_run.specs.Reports.{scene_among, IsReportText}
use Rattle.py_vm.specs.declared.machinery.Core.{Core}
use Rattle.py_vm.specs.Codes.{origins_of}
use Rattle.py_vm.specs.Machine.{Machine}

-- the objects of a machine as they are
abbrev pub objects_now : Machine → List Payload
objects_now m = store_at m.objects m.changes (length m.events)

-- a text is what is told of them, with these source texts
abbrev pub IsTextOf : Machine → List SourceLines → Told → Name → Type 0
IsTextOf m sources t text = IsReportText (scene_among (origins_of m.checked sources) (objects_now m)) t text

-- ---- what the functions inside the crate promise each other

-- the drive is told its text
abbrev pub reported_by : Core → Name → Core
reported_by m text = record m { events = m.events ++ event.Result (m.done + 1) (answer.Reported text) ∷ []; done = m.done + 1 }

-- a text is what is told of the objects as they are
abbrev pub IsTextIn : Core → List SourceLines → Told → Name → Type 0
IsTextIn m sources t text = IsReportText (scene_among (origins_of m.world.codes sources) (objects_of m.world.store)) t text

-- and the drive is told it
abbrev pub IsToldReport : Core → List SourceLines → Told → Name → Core → Type 0
IsToldReport m sources t text m' = IsTextIn m sources t text × (m' ≡ reported_by m text)
