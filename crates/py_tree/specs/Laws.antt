-- What holds of every trace.
use Rattle.std.specs.Prelude.{ℕ, true, Option, List, ◌∷◌, ◌++◌, ◌≡◌}
use Rattle.py_objects.specs.declared.refs.PyBaseExceptionRef.{PyBaseExceptionRef}
use Rattle.py_objects.specs.Objects.{Obj}
use Rattle.py_objects.specs.Growth.{Grows}
use Rattle.py_objects.specs.Own.{Own}
use Rattle.py_tree.specs.Tree.{Tree}
use Rattle.py_tree.specs.Scene.{Scene}
use Rattle.py_tree.specs.Trace.{IsTrace}

-- a scene with the same globals, in which there may be more objects, more units that may ask, and more events that may throw in
pub record Widens (scene scene' : Scene) : Type 0 where
  pub objects : Grows scene.objects scene'.objects
  pub globals : scene.globals ≡ scene'.globals
  pub units : (at line : ℕ) → scene.is_of at line ≡ true → scene'.is_of at line ≡ true
  pub throws : (event : ℕ) (h : Option PyBaseExceptionRef) → scene.throws_under event h ≡ true → scene'.throws_under event h ≡ true

-- a trace that goes on is one as far as it has come, also in a wider scene
abbrev pub TracesCarry : Type 0
TracesCarry = (scene scene' : Scene) (t : Tree) (args : List Obj) (x : Own) (ts more : List Own) → Widens scene scene' → IsTrace scene t args ((x ∷ ts) ++ more) → IsTrace scene' t args (x ∷ ts)
