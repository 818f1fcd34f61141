-- A report step by step.
use Rattle.std.specs.Prelude.{ℕ, List, [], ◌∷◌, ◌++◌, ◌≡◌, encode_utf8_all}
use Rattle.py_objects.specs.declared.payload.Payload.{Payload}
use Rattle.py_objects.specs.Objects.{Name, as_object}
use Rattle.py_objects.specs.Edits.{Kept}
use Rattle.py_reports.specs.declared.chain.Chained.{Chained}
use Rattle.py_reports.specs.declared.stage.ReportStep.{ReportStep}
use Rattle.py_reports.specs.declared.stage.ReportStep.TheVariants as step
use Rattle.py_reports.specs.declared.stage.Stage.{Stage}
use Rattle.py_reports.specs.declared.stage.Stage.TheVariants as stage
use Rattle.py_reports.specs.declared.place.Place.{Place}
use Rattle.py_reports.specs.Chains.{IsChain}
use Rattle.py_reports.specs.Reports.{IsPiece}
use Rattle.py_reports.specs.Scenes.{scene_of, Scene, SourceLines}

-- these are still to come, the next one last: at first those of the walk, by the links as they are then
abbrev pub AreToCome : List Payload → Stage → List Chained → Type 0
AreToCome objects (stage.New exc) cs = IsChain objects (as_object exc) cs
AreToCome objects (stage.Begun left) cs = cs ≡ left

-- what a step answers, and what it leaves: the next piece, or the end exactly where none is left. Without memory nothing changes.
-- No text is asked for
abbrev pub IsStep : Scene → Stage → ReportStep → Stage → Type 0
IsStep scene old (step.Piece text) new =
    (rest : List Chained) × (next : Chained) × AreToCome scene.objects old (rest ++ next ∷ []) × IsPiece scene next (encode_utf8_all text)
    × (new ≡ stage.Begun rest)
IsStep scene old (step.AskStr v) new = ⊥
IsStep scene old step.Done new = AreToCome scene.objects old [] × (new ≡ stage.Begun [])
IsStep scene old step.NoMemory new = new ≡ old

-- the same in a store, with these names, places and sources
abbrev pub IsStepIn : Kept → List (List ℕ) → List Place → List SourceLines → Stage → ReportStep → Stage → Type 0
IsStepIn store names places sources old answer new = IsStep (scene_of store names places sources) old answer new

-- these are the pieces of all steps from a stage to the end, over one scene
abbrev pub ArePieces : Scene → Stage → List Name → Type 0
ArePieces scene old [] = (new : Stage) × IsStep scene old step.Done new
ArePieces scene old (text ∷ texts) = (new : Stage) × IsStep scene old (step.Piece text) new × ArePieces scene new texts
