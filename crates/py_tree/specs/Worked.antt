-- Small trees, and what they may and may not tell.
use Rattle.std.specs.Prelude.{ℕ, Some, None, List, [], ◌∷◌, true, codes}
use Rattle.py_objects.specs.declared.refs.PyBaseExceptionRef.{PyBaseExceptionRef}
use Rattle.py_objects.specs.declared.payload.Payload.TheVariants as payload
use Rattle.py_objects.specs.declared.request.Request.TheVariants as request
use Rattle.py_objects.specs.declared.event.ResumeHow.TheVariants as how
use Rattle.py_objects.specs.declared.event.GotAnswer.TheVariants as got
use Rattle.py_objects.specs.declared.event.Ending.TheVariants as ending
use Rattle.py_objects.specs.Objects.{Obj, HasPayload, as_object}
use Rattle.py_objects.specs.Own.{Own, Makes, Resumes, Asks, Gets, Rounds, Ends}
use Rattle.py_tree.specs.declared.body.BodyKind.TheVariants.{Function}
use Rattle.py_tree.specs.declared.expr.Atom.TheVariants as atom
use Rattle.py_tree.specs.Tree.{Name, Leaf, Return, Show, Raise, Break, Pass, While, TryExcept, TryFinally, Suite, nothing, first, no_more, clause, Tree}
use Rattle.py_tree.specs.Scene.{Scene, anywhere}
use Rattle.py_tree.specs.Outcome.{Handled}
use Rattle.py_tree.specs.Trace.{IsTrace}

-- a function of these statements
abbrev pub function : Suite → Tree
function s = record { kind = Function; name = codes "f"; params = []; suite = s; line = 1 }

-- the name of a class
abbrev pub e_name : Name
e_name = codes "E"

-- try / return None / finally / show None / end
abbrev pub shows_behind : Tree
shows_behind = function (first 2 (TryFinally (first 3 (Return (Leaf atom.None)) nothing) (first 5 (Show (Leaf atom.None)) nothing)) nothing)

-- it doesn't return before it has shown
abbrev pub NoFinallySkipped : Type 0
NoFinallySkipped = (scene : Scene) (k at : ℕ) (v : Obj) → IsTrace scene shows_behind [] (Makes ∷ Resumes k how.Start ∷ Ends at (ending.Return v) ∷ []) → ⊥

-- so it goes where it has shown, if object 0 is None
abbrev pub ShownIsTrace : Type 0
ShownIsTrace = (globals u : Obj)
    → IsTrace (anywhere (payload.None ∷ []) globals) shows_behind []
    (Makes ∷ Resumes 2 how.Start ∷ Asks 1 (request.Show (record { number = 0 })) None ∷ Gets 4 (got.Value u) ∷ Ends 5 (ending.Return (record { number = 0 })) ∷ [])

-- while True / try / break / finally / show None / end / end
abbrev pub breaks_behind : Tree
breaks_behind = function (first 2 (While (Leaf (atom.Bool true)) (first 3 (TryFinally (first 4 Break nothing) (first 6 (Show (Leaf atom.None)) nothing)) nothing)) nothing)

-- nor does it leave its loop before it has shown
abbrev pub NoFinallyBrokenOutOf : Type 0
NoFinallyBrokenOutOf = (scene : Scene) (k l r a at : ℕ) (v w u : Obj) → HasPayload scene.objects w (payload.Bool true)
    → IsTrace scene breaks_behind [] (Makes ∷ Resumes k how.Start ∷ Rounds r ∷ Asks a (request.Truth v) None ∷ Gets l (got.Value w) ∷ Ends at (ending.Return u) ∷ []) → ⊥

-- so it goes where it has shown, if object 0 is None and object 1 is True
abbrev pub LeftIsTrace : Type 0
LeftIsTrace = (globals u : Obj)
    → IsTrace (anywhere (payload.None ∷ payload.Bool true ∷ []) globals) breaks_behind []
    (Makes ∷ Resumes 2 how.Start ∷ Rounds 3 ∷ Asks 4 (request.Truth (record { number = 1 })) None ∷ Gets 5 (got.Value (record { number = 1 })) ∷ Asks 6 (request.Show (record { number = 0 })) None
    ∷ Gets 7 (got.Value u) ∷ Ends 8 (ending.Return (record { number = 0 })) ∷ [])

-- try / raise E / finally / return None / end
abbrev pub returns_behind : Tree
returns_behind = function (first 2 (TryFinally (first 3 (Raise (Leaf (atom.Name e_name))) nothing) (first 5 (Return (Leaf atom.None)) nothing)) nothing)

-- the return takes the place of the exception
abbrev pub NoExceptionLetOut : Type 0
NoExceptionLetOut = (scene : Scene) (k l m a b c : ℕ) (v w : Obj) (e : PyBaseExceptionRef)
    → IsTrace scene returns_behind []
    (Makes ∷ Resumes k how.Start ∷ Asks a (request.Global scene.globals e_name) None ∷ Gets l (got.Value v)
    ∷ Asks b (request.Raisable v) None ∷ Gets m (got.Value w) ∷ Ends c (ending.Raise e) ∷ []) → ⊥

-- so it goes with the return, if object 0 is None
abbrev pub ReturnedIsTrace : Type 0
ReturnedIsTrace = (globals v w : Obj)
    → IsTrace (anywhere (payload.None ∷ []) globals) returns_behind []
    (Makes ∷ Resumes 2 how.Start ∷ Asks 1 (request.Global globals e_name) None ∷ Gets 4 (got.Value v) ∷ Asks 2 (request.Raisable v) None ∷ Gets 6 (got.Value w)
    ∷ Ends 9 (ending.Return (record { number = 0 })) ∷ [])

-- try / show None / except E / pass / end / show None
abbrev pub shows_in_try : Tree
shows_in_try = function (first 2 (TryExcept (first 3 (Show (Leaf atom.None)) nothing) (clause 4 e_name None (first 5 Pass nothing) no_more)) (first 7 (Show (Leaf atom.None)) nothing))

-- what it tells where the first show raises e: w is the clause's class, m answers whether it matches, u whether m is true, and the last show asks
-- while h is handled
abbrev pub handled_events : Obj → Obj → Obj → Obj → Obj → PyBaseExceptionRef → Handled → List Own
handled_events globals v w m u e h =
    Makes ∷ Resumes 2 how.Start ∷ Asks 1 (request.Show v) None ∷ Gets 4 (got.Raise e) ∷ Asks 5 (request.Global globals e_name) (Some e) ∷ Gets 6 (got.Value w)
    ∷ Asks 6 (request.Match (as_object e) w) (Some e) ∷ Gets 8 (got.Value m) ∷ Asks 7 (request.Truth m) (Some e) ∷ Gets 10 (got.Value u) ∷ Asks 11 (request.Show v) h ∷ []

-- behind the clause nothing is handled
abbrev pub NoExceptionStays : Type 0
NoExceptionStays = (scene : Scene) (v w m u : Obj) (e f : PyBaseExceptionRef) → IsTrace scene shows_in_try [] (handled_events scene.globals v w m u e (Some f)) → ⊥

-- and so it goes where object 0 is None and object 1 is True
abbrev pub HandledIsTrace : Type 0
HandledIsTrace = (globals w m : Obj) (e : PyBaseExceptionRef)
    → IsTrace (anywhere (payload.None ∷ payload.Bool true ∷ []) globals) shows_in_try [] (handled_events globals (record { number = 0 }) w m (record { number = 1 }) e None)
