-- What two traces of one tree have in common.
use Rattle.std.specs.Prelude.{Bool, List, ℕ}
use Rattle.py_objects.specs.Objects.{Obj}
use Rattle.py_objects.specs.Own.{Own}
use Rattle.py_tree.specs.Scene.{Scene}
use Rattle.py_tree.specs.Trace.{IsTrace}
use Rattle.py_tree.specs.Tree.{Tree}
use Rattle.py_agreement.specs.Agreement.{Agree, IsFaithful, SameAll, by_test}

-- two traces of one tree, in scenes of which bodies see the same and with related arguments, agree as far as both go
abbrev pub TracesAgree : Type 0
TracesAgree =
    (same : ℕ → ℕ → Bool) (s s' : Scene) (t : Tree) (vs ws : List Obj) (ts us : List Own)
    → IsFaithful (by_test same) s s' → SameAll (by_test same) vs ws → IsTrace s t vs ts → IsTrace s' t ws us → Agree (by_test same) ts us
