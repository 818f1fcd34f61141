-- The own events of an activation as a trace of its body.
use Rattle.std.specs.Prelude.{ℕ, true, None, List, [], ◌∷◌, ◌≡◌, ◌⊎◌, length}
use Rattle.py_objects.specs.declared.payload.Payload.TheVariants as payload
use Rattle.py_objects.specs.declared.event.ResumeHow.{ResumeHow}
use Rattle.py_objects.specs.declared.event.ResumeHow.TheVariants as how
use Rattle.py_objects.specs.declared.event.Ending.{Ending}
use Rattle.py_objects.specs.declared.event.Ending.TheVariants as ending
use Rattle.py_objects.specs.Objects.{Obj, HasPayload}
use Rattle.py_objects.specs.Own.{Own, Makes, Resumes, Ends}
use Rattle.py_tree.specs.declared.body.BodyKind.TheVariants.{Generator}
use Rattle.py_tree.specs.Tree.{Tree}
use Rattle.py_tree.specs.Binding.{Env, start_env}
use Rattle.py_tree.specs.Scene.{Scene}
use Rattle.py_tree.specs.Outcome.{Outcome, Normal, Returns, Raises, Cut, RunsSuite}

-- the end of an activation, by whatever unit, or nothing where the trace is cut in front of it
abbrev pub Ended : Ending → List Own → Type 0
Ended e ts = (ts ≡ []) ⊎ ((at : ℕ) × (ts ≡ Ends at e ∷ []))

-- how an outcome of a body ends its trace: a body that comes to its end returns None
abbrev pub EndsBy : Scene → Env → Outcome → ℕ → List Own → Type 0
EndsBy scene env Normal k ts = (ts ≡ []) ⊎ ((v : Obj) × HasPayload scene.objects v payload.None × Ended (ending.Return v) ts)
EndsBy scene env (Returns v) k ts = Ended (ending.Return v) ts
EndsBy scene env (Raises e) k ts = Ended (ending.Raise e) ts
EndsBy scene env Cut k ts = ts ≡ []
EndsBy scene env _ k ts = ⊥

-- what may follow the first entry of an activation: where it starts, what its body may tell, and the end by the body's outcome. Into a
-- generator that hasn't started an exception may be thrown, too, while it handles nothing: then it ends by that, and no statement runs
abbrev pub Entered : Scene → Tree → List Obj → ℕ → ResumeHow → List Own → Type 0
Entered scene t args k how.Start ts = RunsSuite scene t.suite (start_env t args) None k ts (EndsBy scene)
Entered scene t args k (how.Send v) ts = ⊥
Entered scene t args k (how.Throw e) ts = (t.kind ≡ Generator) × (scene.throws_under k None ≡ true) × Ended (ending.Raise e) ts

-- what may follow the making of an activation
abbrev pub IsBegun : Scene → Tree → List Obj → List Own → Type 0
IsBegun scene t args [] = Unit {0}
IsBegun scene t args (Resumes k h ∷ ts) = Entered scene t args k h ts
IsBegun scene t args _ = ⊥

-- the own events of an activation of the function with these arguments: it is made with as many as it has parameters, and entered
-- (Python Language Reference, 6.2.9.1)
abbrev pub IsTrace : Scene → Tree → List Obj → List Own → Type 0
IsTrace scene t args ts = (length args ≡ length t.params) × ((us : List Own) × (ts ≡ Makes ∷ us) × IsBegun scene t args us)
