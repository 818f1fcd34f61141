-- The traceback of an exception, as it is printed (Python Language Reference, 4.2).
use Rattle.std.specs.Prelude.{ℕ, Option, Some, None, List, [], ◌∷◌, ◌++◌, ◌≡◌, codes, decimal, encode_utf8_all}
use Rattle.py_objects.specs.declared.payload.Payload.{Payload}
use Rattle.py_objects.specs.declared.payload.Payload.TheVariants as payload
use Rattle.py_objects.specs.declared.edit.LinkField.TheVariants as link
use Rattle.py_objects.specs.Objects.{Obj, Name}
use Rattle.py_exceptions.specs.Repr.{payload_of}
use Rattle.py_exceptions.specs.Walks.{link_at}
use Rattle.py_exceptions.specs.Orders.{IsOrder}
use Rattle.py_reports.specs.declared.place.Place.{Place}
use Rattle.py_reports.specs.Lines.{line_at, without_front}
use Rattle.py_reports.specs.Scenes.{lines_at, name_in, path_in, place_of, Scene, SourceLines}

-- a file and a line in it
abbrev pub file_line : List ℕ → List ℕ → List ℕ
file_line path line = codes "  File \"" ++ (path ++ (codes "\", line " ++ line))

-- a line of a source text, without spaces and tabs at its front, where it is known
abbrev pub source_line : Option Name → List ℕ
source_line None = []
source_line (Some line) = codes "    " ++ (encode_utf8_all (without_front (codes " \t") line) ++ codes "\n")

-- a line of a file, in a code of this name, and its source
abbrev pub place_text : List SourceLines → List ℕ → List ℕ → ℕ → List ℕ
place_text sources path name line =
    file_line path (decimal line) ++ (codes ", in " ++ (name ++ (codes "\n" ++ source_line (line_at (lines_at sources path) line))))

-- an entry with this place
abbrev pub placed_text : Scene → Option Place → ℕ → List ℕ
placed_text scene place line = place_text scene.sources (path_in scene.names place) (name_in scene.names place) line

-- an entry with this payload; nothing stands for what is none
abbrev pub entry_in : Scene → Option Payload → List ℕ
entry_in scene (Some (payload.Traceback t)) = placed_text scene (place_of scene t.frame) t.lineno
entry_in scene _ = []

-- an entry, as an object
abbrev pub entry_at : Scene → Obj → List ℕ
entry_at scene v = entry_in scene (payload_of scene.objects v)

-- entries, one after another
abbrev pub entries_text : Scene → List Obj → List ℕ
entries_text scene [] = []
entries_text scene (v ∷ vs) = entry_at scene v ++ entries_text scene vs

-- the line before the entries, where there are any, and the entries
abbrev pub traceback_text : Scene → List Obj → List ℕ
traceback_text scene [] = []
traceback_text scene (v ∷ vs) = codes "Traceback (most recent call last):\n" ++ entries_text scene (v ∷ vs)

-- the entries of a traceback are these: those along its links, each once
abbrev pub HasEntries : List Payload → Option Obj → List Obj → Type 0
HasEntries objects None vs = vs ≡ []
HasEntries objects (Some traceback) vs = IsOrder (link_at link.Next objects) traceback vs
