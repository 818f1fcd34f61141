-- The report of an exception: it, and those before it, the one that came first at the top (Python Language Reference, 7.8).
use Rattle.std.specs.Prelude.{ℕ, List, [], ◌∷◌, ◌++◌, ◌≡◌, codes, encode_utf8_all}
use Rattle.py_objects.specs.declared.refs.PyBaseExceptionRef.{PyBaseExceptionRef}
use Rattle.py_objects.specs.Objects.{Obj, Name, as_object}
use Rattle.py_reports.specs.declared.chain.Chained.{Chained}
use Rattle.py_reports.specs.declared.chain.Sentence.{Sentence}
use Rattle.py_reports.specs.declared.chain.Sentence.TheVariants as sentence
use Rattle.py_reports.specs.Chains.{IsChain}
use Rattle.py_reports.specs.Parts.{IsPart}
use Rattle.py_reports.specs.Scenes.{Scene}

-- the sentence between two exceptions
abbrev pub sentence_text : Sentence → List ℕ
sentence_text sentence.Nothing = []
sentence_text sentence.Cause = codes "\nThe above exception was the direct cause of the following exception:\n\n"
sentence_text sentence.Context = codes "\nDuring handling of the above exception, another exception occurred:\n\n"

-- this is what is printed of an exception, with the sentence before it
abbrev pub IsPiece : Scene → Chained → List ℕ → Type 0
IsPiece scene c text = (part : List ℕ) × IsPart scene c.exception part × (text ≡ sentence_text c.sentence ++ part)

-- this is what is printed of exceptions, of which the first one comes last
abbrev pub IsText : Scene → List Chained → List ℕ → Type 0
IsText scene [] text = text ≡ []
IsText scene (c ∷ cs) text = (before : List ℕ) × (piece : List ℕ) × IsText scene cs before × IsPiece scene c piece × (text ≡ before ++ piece)

-- this is the report of an exception
abbrev pub IsReport : Scene → Obj → List ℕ → Type 0
IsReport scene v text = (cs : List Chained) × IsChain scene.objects v cs × IsText scene cs text

-- this text is the report of an exception
abbrev pub IsReportText : Scene → PyBaseExceptionRef → Name → Type 0
IsReportText scene exc text = IsReport scene (as_object exc) (encode_utf8_all text)
