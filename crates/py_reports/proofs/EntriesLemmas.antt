-- The entries of a traceback, as they are printed.
use Rattle.std.proofs.Common.{◌≡◌, List, [], ◌∷◌, ◌++◌, false, length, refl}
use Rattle.std.specs.Prelude.{◌==◌, codes}
use Rattle.py_objects.specs.Objects.{Obj}
use Rattle.py_reports.specs.Entries.{entries_text, traceback_text}
use Rattle.py_reports.specs.Scenes.{Scene}

-- where there are any, a line stands before them
pub some_entries : (scene : Scene) (vs : List Obj) → (length vs == 0) ≡ false → traceback_text scene vs ≡ codes "Traceback (most recent call last):\n" ++ entries_text scene vs
some_entries scene [] some = cc
some_entries scene (v ∷ vs) some = refl
