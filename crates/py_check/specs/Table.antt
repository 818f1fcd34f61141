-- What the checker's table of effects stands for.
use Rattle.std.specs.Prelude.{ℕ, List, [], ◌∷◌, Some, None, replicate}
use Rattle.py_code.specs.declared.instruction.Instruction.{Instruction}
use Rattle.py_code.specs.declared.instruction.Instruction.TheVariants.{Duplicate, Duplicate2, Rotate2, Rotate3, Reverse}
use Rattle.py_check.specs.declared.note.Kind.TheVariants as kind
use Rattle.py_check.specs.declared.table.Effect.{Effect}
use Rattle.py_check.specs.declared.table.Effect.TheVariants as effect
use Rattle.py_check.specs.Effects as table

-- the places whose entries come in the place of those that go
abbrev pub places_by : Instruction → ℕ → List ℕ
places_by Duplicate i = 0 ∷ []
places_by Duplicate2 i = 0 ∷ 1 ∷ []
places_by Rotate2 i = 1 ∷ 0 ∷ []
places_by Rotate3 i = 1 ∷ 2 ∷ 0 ∷ []
places_by Reverse n = table.places_down n
places_by _ i = []

-- an entry of the checker's table, as the definitions have it
abbrev pub effect_of : Instruction → ℕ → Effect → table.Effect
effect_of op i (effect.Moves n) = table.Moves n (places_by op i)
effect_of op i (effect.Gives n of k) = table.AsksOnce (replicate n of) (Some k)
effect_of op i (effect.Does n) = table.AsksOnce (replicate n kind.Any) None
effect_of op i effect.Formats = table.AsksOnce (kind.Any ∷ kind.Str ∷ []) (Some kind.Any)
effect_of op i (effect.Takes n m k) = table.Takes n (replicate m k)
effect_of op i effect.Other = table.Other
