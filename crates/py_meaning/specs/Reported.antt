-- Where the codes of a script were written, as its reports tell it: in the script, each under its own name (Python Language Reference, 4.2).
use Rattle.std.specs.Prelude.{ℕ, suc, List, [], ◌∷◌, codes, map, encode_utf8_all}
use Rattle.py_objects.specs.Objects.{Name}
use Rattle.py_grammar.specs.Grammar.{Coded, coded_name}
use Rattle.py_reports.specs.declared.place.Place.{Place}
use Rattle.py_reports.specs.Scenes.{SourceLines, source_of}
use Rattle.py_run.specs.Reports.{Origins}

-- the path of each script
abbrev pub script_path : Name
script_path = codes "<script>"

-- the source texts of a script: its own, under that path
abbrev pub sources_of : (text : Name) → List SourceLines
sources_of text = source_of script_path text ∷ []

-- that path, and the names of codes behind it, in order
abbrev pub names_of : List Coded → List (List ℕ)
names_of coded = encode_utf8_all script_path ∷ map (λ c. encode_utf8_all (coded_name c)) coded

-- each code has the path, which comes first, and its own name, of which the first has this place
abbrev pub places_from : ℕ → List Coded → List Place
places_from k [] = []
places_from k (c ∷ coded) = record { source_path = record { index = 0 }; obj_name = record { index = k } } ∷ places_from (suc k) coded

-- where these codes were written, with source texts
abbrev pub origins_of : List Coded → List SourceLines → Origins
origins_of coded sources = record { names = names_of coded; places = places_from 1 coded; sources = sources }
