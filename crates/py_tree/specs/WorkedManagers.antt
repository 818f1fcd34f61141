-- Small trees with managers: what their exits are asked, and what goes on behind them.
use Rattle.std.specs.Prelude.{ℕ, Some, None, List, [], ◌∷◌, true, false, codes, eqb}
use Rattle.py_objects.specs.declared.refs.PyBaseExceptionRef.{PyBaseExceptionRef}
use Rattle.py_objects.specs.declared.payload.Payload.TheVariants as payload
use Rattle.py_objects.specs.declared.payload.ManagerBody.{ManagerBody}
use Rattle.py_objects.specs.declared.payload.ExceptionBody.{ExceptionBody}
use Rattle.py_objects.specs.declared.request.Request.TheVariants as request
use Rattle.py_objects.specs.declared.event.ResumeHow.TheVariants as how
use Rattle.py_objects.specs.declared.event.GotAnswer.TheVariants as got
use Rattle.py_objects.specs.declared.event.Ending.TheVariants as ending
use Rattle.py_objects.specs.Objects.{Obj, HasPayload, as_object, class_object}
use Rattle.py_objects.specs.Own.{Own, Makes, Resumes, Asks, Gets, Ends}
use Rattle.py_objects.specs.Telling.{under_any}
use Rattle.py_tree.specs.declared.expr.Atom.TheVariants as atom
use Rattle.py_tree.specs.Tree.{Name, Leaf, Return, Reraise, Show, With, nothing, first, Tree}
use Rattle.py_tree.specs.Scene.{Scene}
use Rattle.py_tree.specs.Trace.{IsTrace}
use Rattle.py_tree.specs.Worked.{function}
use Rattle.py_tree.specs.WorkedHandlers.{none_object, x_name}

-- the name of a manager
abbrev pub m_name : Name
m_name = codes "M"

abbrev pub manager_object : Obj
manager_object = record { number = 2 }

abbrev pub raised : PyBaseExceptionRef
raised = record { number = 3 }

-- where object 0 is None, object 1 is True, object 2 is a manager and object 3 is an exception, and each unit asks for a statement of the line
-- that its place is
abbrev pub managing : ManagerBody → ExceptionBody → Obj → Scene
managing m x globals = record { objects = payload.None ∷ payload.Bool true ∷ payload.Manager m ∷ payload.Exception x ∷ []; globals = globals; is_of = λ at line. eqb at line; throws_under = under_any }

-- ---- what an exit swallows

-- with M as x / show None / end / show x
abbrev pub shows_in_with : Tree
shows_in_with = function (first 2 (With (Leaf (atom.Name m_name)) (Some x_name) (first 3 (Show (Leaf atom.None)) nothing)) (first 5 (Show (Leaf (atom.Name x_name))) nothing))

-- the exit is told the exception, which it handles, and t; its answer is true, so that the function goes on behind the with, where x is
-- what the manager gave and nothing is handled
abbrev pub SwallowedIsTrace : Type 0
SwallowedIsTrace = (body : ManagerBody) (x : ExceptionBody) (globals v t w u : Obj)
    → IsTrace (managing body x globals) shows_in_with []
    (Makes ∷ Resumes 2 how.Start ∷ Asks 2 (request.Global globals m_name) None ∷ Gets 3 (got.Value manager_object) ∷ Asks 2 (request.Enter manager_object) None ∷ Gets 4 (got.Value v)
    ∷ Asks 3 (request.Show none_object) None ∷ Gets 5 (got.Raise raised) ∷ Asks 2 (request.Exit manager_object (class_object x.class) (as_object raised) t) (Some raised) ∷ Gets 6 (got.Value w)
    ∷ Asks 2 (request.Truth w) None ∷ Gets 7 (got.Value (record { number = 1 })) ∷ Asks 5 (request.Show v) None ∷ Gets 8 (got.Value u) ∷ Ends 0 (ending.Return none_object) ∷ [])

-- ---- what an exit doesn't

-- with M / return None / end
abbrev pub returns_in_with : Tree
returns_in_with = function (first 2 (With (Leaf (atom.Name m_name)) None (first 3 (Return (Leaf atom.None)) nothing)) nothing)

-- what it tells up to where the manager is entered
abbrev pub entered_events : ℕ → ℕ → ℕ → Obj → Obj → Obj → List Own → List Own
entered_events k a b globals m v behind =
    Makes ∷ Resumes k how.Start ∷ Asks a (request.Global globals m_name) None ∷ Gets 3 (got.Value m) ∷ Asks b (request.Enter m) None ∷ Gets 4 (got.Value v) ∷ behind

-- the exit is told None three times, and the function returns, whatever the answer is
abbrev pub LeftByReturnIsTrace : Type 0
LeftByReturnIsTrace = (body : ManagerBody) (x : ExceptionBody) (globals v w : Obj)
    → IsTrace (managing body x globals) returns_in_with []
    (entered_events 2 2 2 globals manager_object v
    (Asks 2 (request.Exit manager_object none_object none_object none_object) None ∷ Gets 5 (got.Value w) ∷ Ends 0 (ending.Return none_object) ∷ []))

-- it doesn't return before the exit was asked
abbrev pub NoExitSkipped : Type 0
NoExitSkipped = (scene : Scene) (k a b at : ℕ) (m v w : Obj) → IsTrace scene returns_in_with [] (entered_events k a b scene.globals m v (Ends at (ending.Return w) ∷ [])) → ⊥

-- and the answer isn't tested, so that nothing swallows the return
abbrev pub NoReturnSwallowed : Type 0
NoReturnSwallowed = (scene : Scene) (k a b c at : ℕ) (m v r s t w : Obj)
    → IsTrace scene returns_in_with [] (entered_events k a b scene.globals m v (Asks c (request.Exit m r s t) None ∷ Gets 5 (got.Value w) ∷ Asks at (request.Truth w) None ∷ [])) → ⊥

-- ---- what a raise comes to

-- with M / reraise / end
abbrev pub raises_in_with : Tree
raises_in_with = function (first 2 (With (Leaf (atom.Name m_name)) None (first 3 Reraise nothing)) nothing)

-- what it tells up to where its body raises
abbrev pub raised_events : ℕ → ℕ → ℕ → ℕ → Obj → Obj → Obj → PyBaseExceptionRef → List Own → List Own
raised_events k a b c globals m v e behind = entered_events k a b globals m v (Asks c request.Handled None ∷ Gets 5 (got.Raise e) ∷ behind)

-- it doesn't end by the raise before the exit was asked
abbrev pub NoExitSkippedByRaise : Type 0
NoExitSkippedByRaise = (scene : Scene) (k a b c at : ℕ) (m v : Obj) (e : PyBaseExceptionRef)
    → IsTrace scene raises_in_with [] (raised_events k a b c scene.globals m v e (Ends at (ending.Raise e) ∷ [])) → ⊥

-- the exit isn't asked as if nothing were handled
abbrev pub NoExitUnhandled : Type 0
NoExitUnhandled = (scene : Scene) (k a b c at : ℕ) (m v r s t : Obj) (e : PyBaseExceptionRef)
    → IsTrace scene raises_in_with [] (raised_events k a b c scene.globals m v e (Asks at (request.Exit m r s t) None ∷ [])) → ⊥

-- and where its answer isn't true, the function doesn't return
abbrev pub NoRaiseSwallowed : Type 0
NoRaiseSwallowed = (scene : Scene) (k a b c d f at : ℕ) (m v r s t w u z : Obj) (e : PyBaseExceptionRef) → HasPayload scene.objects u (payload.Bool false)
    → IsTrace scene raises_in_with []
    (raised_events k a b c scene.globals m v e
    (Asks d (request.Exit m r s t) (Some e) ∷ Gets 6 (got.Value w) ∷ Asks f (request.Truth w) None ∷ Gets 7 (got.Value u) ∷ Ends at (ending.Return z) ∷ [])) → ⊥
