-- The frames among objects.
use Rattle.std.specs.Prelude.{ℕ, suc, List, [], ◌∷◌, Bool, true, false, if◌then◌else◌}
use Rattle.py_objects.specs.declared.payload.Payload.{Payload}
use Rattle.py_objects.specs.declared.payload.Payload.TheVariants as payload

-- whether an entry is a frame
abbrev pub is_frame : Payload → Bool
is_frame (payload.Frame code) = true
is_frame _ = false

-- the numbers of the frames among entries, in order, where the first entry has this number
abbrev pub frames_from : ℕ → List Payload → List ℕ
frames_from i [] = []
frames_from i (p ∷ ps) = if is_frame p then i ∷ frames_from (suc i) ps else frames_from (suc i) ps

-- the numbers of the frames among all objects, in order
abbrev pub frames_in : List Payload → List ℕ
frames_in objects = frames_from 0 objects
