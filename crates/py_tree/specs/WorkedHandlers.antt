-- Small trees with handlers: which exception is handled where, from which line what is asked, and what a clause forgets.
use Rattle.std.specs.Prelude.{ℕ, Some, None, List, [], ◌∷◌, ◌≡◌, true, false, codes, eqb}
use Rattle.py_objects.specs.declared.refs.PyBaseExceptionRef.{PyBaseExceptionRef}
use Rattle.py_objects.specs.declared.payload.Payload.TheVariants as payload
use Rattle.py_objects.specs.declared.request.Request.TheVariants as request
use Rattle.py_objects.specs.declared.event.ResumeHow.TheVariants as how
use Rattle.py_objects.specs.declared.event.GotAnswer.TheVariants as got
use Rattle.py_objects.specs.declared.event.Ending.TheVariants as ending
use Rattle.py_objects.specs.Objects.{Obj, HasPayload, as_object}
use Rattle.py_objects.specs.Own.{Own, Makes, Resumes, Asks, Gets, Ends}
use Rattle.py_objects.specs.Telling.{under_any}
use Rattle.py_tree.specs.declared.expr.Atom.TheVariants as atom
use Rattle.py_tree.specs.Tree.{Name, Leaf, Show, Pass, TryExcept, TryFinally, nothing, first, no_more, clause, Tree}
use Rattle.py_tree.specs.Scene.{Scene}
use Rattle.py_tree.specs.Trace.{IsTrace}
use Rattle.py_tree.specs.Worked.{e_name, function}

-- where object 0 is None, object 1 is True and object 2 is False, and each unit asks for a statement of the line that its place is
abbrev pub by_line : Obj → Scene
by_line globals = record { objects = payload.None ∷ payload.Bool true ∷ payload.Bool false ∷ []; globals = globals; is_of = λ at line. eqb at line; throws_under = under_any }

abbrev pub none_object : Obj
none_object = record { number = 0 }

-- ---- what a finally handles

-- try / show None / finally / show None / end
abbrev pub shows_twice : Tree
shows_twice = function (first 2 (TryFinally (first 3 (Show (Leaf atom.None)) nothing) (first 5 (Show (Leaf atom.None)) nothing)) nothing)

-- a finally that a raise enters handles it, and passes it on
abbrev pub FinallyHandles : Type 0
FinallyHandles = (globals u : Obj) (e : PyBaseExceptionRef)
    → IsTrace (by_line globals) shows_twice []
    (Makes ∷ Resumes 2 how.Start ∷ Asks 3 (request.Show none_object) None ∷ Gets 4 (got.Raise e)
    ∷ Asks 5 (request.Show none_object) (Some e) ∷ Gets 6 (got.Value u) ∷ Ends 9 (ending.Raise e) ∷ [])

-- it doesn't ask as if nothing were handled
abbrev pub NoFinallyForgets : Type 0
NoFinallyForgets = (scene : Scene) (k at l after : ℕ) (v : Obj) (e : PyBaseExceptionRef)
    → IsTrace scene shows_twice [] (Makes ∷ Resumes k how.Start ∷ Asks at (request.Show v) None ∷ Gets l (got.Raise e) ∷ Asks after (request.Show v) None ∷ []) → ⊥

-- ---- where no clause fits

-- try / show None / except E / pass / end
abbrev pub passes_over : Tree
passes_over = function (first 2 (TryExcept (first 3 (Show (Leaf atom.None)) nothing) (clause 4 e_name None (first 5 Pass nothing) no_more)) nothing)

-- what it tells where the show raises e and u answers the test, up to where the exception is asked for by a unit at a place
abbrev pub passed_events : ℕ → Obj → Obj → Obj → Obj → Obj → PyBaseExceptionRef → List Own → List Own
passed_events at globals v w m u e behind =
    Makes ∷ Resumes 2 how.Start ∷ Asks 3 (request.Show v) None ∷ Gets 4 (got.Raise e) ∷ Asks 4 (request.Global globals e_name) (Some e) ∷ Gets 6 (got.Value w)
    ∷ Asks 4 (request.Match (as_object e) w) (Some e) ∷ Gets 8 (got.Value m) ∷ Asks 4 (request.Truth m) (Some e) ∷ Gets 10 (got.Value u) ∷ Asks at request.Handled (Some e) ∷ behind

-- the exception is raised again, by the line of the try
abbrev pub RaisedAgain : Type 0
RaisedAgain = (globals w m : Obj) (e : PyBaseExceptionRef)
    → IsTrace (by_line globals) passes_over [] (passed_events 2 globals none_object w m (record { number = 2 }) e (Gets 11 (got.Value (as_object e)) ∷ Ends 0 (ending.Raise e) ∷ []))

-- and not by that of the clause
abbrev pub NotByTheClause : Type 0
NotByTheClause = (scene : Scene) (v w m u : Obj) (e : PyBaseExceptionRef) → scene.is_of 4 2 ≡ false → HasPayload scene.objects u (payload.Bool false)
    → IsTrace scene passes_over [] (passed_events 4 scene.globals v w m u e []) → ⊥

-- ---- what a clause forgets

abbrev pub x_name : Name
x_name = codes "x"

-- try / show None / except E as x / pass / end / show x
abbrev pub forgets : Tree
forgets = function (first 2 (TryExcept (first 3 (Show (Leaf atom.None)) nothing) (clause 4 e_name (Some x_name) (first 5 Pass nothing) no_more)) (first 7 (Show (Leaf (atom.Name x_name))) nothing))

-- behind its clause the name is unset, and nothing is handled
abbrev pub NameIsForgotten : Type 0
NameIsForgotten = (globals w m : Obj) (e f : PyBaseExceptionRef)
    → IsTrace (by_line globals) forgets []
    (Makes ∷ Resumes 2 how.Start ∷ Asks 3 (request.Show none_object) None ∷ Gets 4 (got.Raise e) ∷ Asks 4 (request.Global globals e_name) (Some e) ∷ Gets 6 (got.Value w)
    ∷ Asks 4 (request.Match (as_object e) w) (Some e) ∷ Gets 8 (got.Value m) ∷ Asks 4 (request.Truth m) (Some e) ∷ Gets 10 (got.Value (record { number = 1 }))
    ∷ Asks 7 (request.Unbound x_name) None ∷ Gets 11 (got.Raise f) ∷ Ends 0 (ending.Raise f) ∷ [])
