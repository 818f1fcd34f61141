-- What reports are made of: objects, places of codes by their numbers, the table of names, and source texts.
use Rattle.std.specs.Prelude.{ℕ, Option, Some, None, List, [], ◌∷◌, bytes_eq, if◌then◌else◌, slice_get, encode_utf8_all}
use Rattle.py_code.specs.declared.names.NameId.{NameId}
use Rattle.py_objects.specs.declared.payload.Payload.{Payload}
use Rattle.py_objects.specs.declared.payload.Payload.TheVariants as payload
use Rattle.py_objects.specs.declared.refs.FrameRef.{FrameRef}
use Rattle.py_objects.specs.Objects.{Name}
use Rattle.py_objects.specs.Refs.{frame_object}
use Rattle.py_objects.specs.Edits.{objects_of, Kept}
use Rattle.py_exceptions.specs.Repr.{payload_of}
use Rattle.py_reports.specs.declared.place.Place.{Place}
use Rattle.py_reports.specs.Lines.{lines_of}

-- a source text: its path in UTF-8, and its lines
pub record SourceLines : Type 0 where
  pub path : List ℕ
  pub lines : List Name

-- the source of this text
abbrev pub source_of : Name → Name → SourceLines
source_of path text = record { path = encode_utf8_all path; lines = lines_of text }

-- what a report is made of, together
pub record Scene : Type 0 where
  pub objects : List Payload
  pub names : List (List ℕ)
  pub places : List Place
  pub sources : List SourceLines

-- these objects, names, places and sources
abbrev pub scene_with : List Payload → List (List ℕ) → List Place → List SourceLines → Scene
scene_with objects names places sources = record { objects = objects; names = names; places = places; sources = sources }

-- the same of a store
abbrev pub scene_of : Kept → List (List ℕ) → List Place → List SourceLines → Scene
scene_of store names places sources = scene_with (objects_of store) names places sources

-- the lines of the first source that has a path
abbrev pub lines_at : List SourceLines → List ℕ → List Name
lines_at [] path = []
lines_at (s ∷ sources) path = if bytes_eq s.path path then s.lines else lines_at sources path

-- the bytes of a name, where the table has it
abbrev pub bytes_or_none : Option (List ℕ) → List ℕ
bytes_or_none None = []
bytes_or_none (Some bytes) = bytes

-- a name in the table
abbrev pub name_at : List (List ℕ) → NameId → List ℕ
name_at names id = bytes_or_none (slice_get names id.index)

-- the path of a code, where its place is known
abbrev pub path_in : List (List ℕ) → Option Place → List ℕ
path_in names None = []
path_in names (Some place) = name_at names place.source_path

-- its name
abbrev pub name_in : List (List ℕ) → Option Place → List ℕ
name_in names None = []
name_in names (Some place) = name_at names place.obj_name

-- the place of the code of a frame with this payload
abbrev pub place_in : List Place → Option Payload → Option Place
place_in places (Some (payload.Frame code)) = slice_get places code
place_in places _ = None

-- the same of a frame, as an object
abbrev pub place_of : Scene → FrameRef → Option Place
place_of scene frame = place_in scene.places (payload_of scene.objects (frame_object frame))
