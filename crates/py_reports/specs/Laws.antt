-- What holds of every report.
use Rattle.std.specs.Prelude.{ℕ, Some, List, [], ◌∷◌, ◌++◌, ◌≡◌, slice_get, encode_utf8_all}
use Rattle.py_objects.specs.declared.refs.PyBaseExceptionRef.{PyBaseExceptionRef}
use Rattle.py_objects.specs.declared.payload.Payload.{Payload}
use Rattle.py_objects.specs.Objects.{Obj, Name, as_object}
use Rattle.py_reports.specs.declared.chain.Chained.{Chained}
use Rattle.py_reports.specs.declared.stage.Stage.TheVariants as stage
use Rattle.py_reports.specs.Chains.{IsChain}
use Rattle.py_reports.specs.Reports.{IsReport}
use Rattle.py_reports.specs.Scenes.{Scene}
use Rattle.py_reports.specs.Steps.{ArePieces}

-- pieces in UTF-8, one after another
abbrev pub pieces_text : List Name → List ℕ
pieces_text [] = []
pieces_text (text ∷ texts) = encode_utf8_all text ++ pieces_text texts

-- the pieces of all steps over one scene are the whole report
abbrev pub IsTold : Type 0
IsTold =
    (scene : Scene) (exc : PyBaseExceptionRef) (texts : List Name) → ArePieces scene (stage.New exc) texts
    → IsReport scene (as_object exc) (pieces_text texts)

-- two places in a report have different exceptions
abbrev pub OneStandsOnce : Type 0
OneStandsOnce =
    (objects : List Payload) (v : Obj) (cs : List Chained) (i j : ℕ) (c d : Chained) → IsChain objects v cs
    → slice_get cs i ≡ Some c → slice_get cs j ≡ Some d → c.exception ≡ d.exception → i ≡ j

-- of one exception there is one report, where nothing changes
abbrev pub OneReport : Type 0
OneReport = (scene : Scene) (v : Obj) (one other : List ℕ) → IsReport scene v one → IsReport scene v other → one ≡ other
