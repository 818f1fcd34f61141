-- Where parts of a tree come to: bodies of traces, statements in order, tries with a finally, clauses, tries with clauses, and
-- withs.
use Rattle.std.specs.Prelude.{ℕ, Bool, true, false, Option, Some, None, List, [], ◌∷◌, ◌≡◌, ◌≢◌, ◌⊎◌}
use Rattle.py_objects.specs.declared.refs.PyBaseExceptionRef.{PyBaseExceptionRef}
use Rattle.py_objects.specs.declared.payload.Payload.{Payload}
use Rattle.py_objects.specs.declared.payload.Payload.TheVariants as payload
use Rattle.py_objects.specs.declared.payload.ManagerBody.{ManagerBody}
use Rattle.py_objects.specs.declared.request.Request.TheVariants as request
use Rattle.py_objects.specs.declared.event.ResumeHow.TheVariants as how
use Rattle.py_objects.specs.Objects.{Obj, HasPayload, as_object}
use Rattle.py_objects.specs.Callees.{is_manager}
use Rattle.py_objects.specs.Own.{Own, Resumes}
use Rattle.py_objects.specs.Telling.{Given, Failed, Stopped, AfterValue}
use Rattle.py_tree.specs.declared.expr.Atom.TheVariants as atom
use Rattle.py_tree.specs.Tree.{Name, Expr, Form, TryExcept, TryFinally, With as WithForm, Suite, first, Clauses, no_more, clause, Tree}
use Rattle.py_tree.specs.Binding.{Env, find_local, bind, start_env}
use Rattle.py_tree.specs.Scene.{Scene}
use Rattle.py_tree.specs.Trace.{EndsBy, IsBegun}
use Rattle.py_tree.specs.Outcome.{Outcome, Normal, Breaks, Continues, Returns, Raises, Cut, Handled, Runner, Handles, By_truth, Requests, Loads, Evaluates, Leaves, LeavesBy, Runs, RunsSuite, Tries}

-- a point of a run: the locals, the outcome, the number of the event heard last, and the events that are left
pub record Point : Type 0 where
  pub env : Env
  pub outcome : Outcome
  pub event : ℕ
  pub left : List Own

-- a part of a tree may come to this point, from these locals, while h is handled
abbrev pub Reaches : Runner → Env → Handled → ℕ → List Own → Point → Type 0
Reaches part env h event ts p = part env h event ts (λ env1 o i rest. p ≡ record { env = env1; outcome = o; event = i; left = rest })

-- what is handled behind an outcome, where h was handled before
abbrev pub handled_behind : Outcome → Handled → Handled
handled_behind Normal h = h
handled_behind Breaks h = h
handled_behind Continues h = h
handled_behind (Returns v) h = h
handled_behind (Raises x) h = Some x
handled_behind Cut h = h

-- a finally that ended at a point, behind a pending outcome, passes that on where it ended normally; any other ending replaces it
abbrev pub IsPassedOn : Outcome → Point → Point → Type 0
IsPassedOn pending final whole = ((final.outcome ≡ Normal) × (whole ≡ record final { outcome = pending })) ⊎ ((final.outcome ≢ Normal) × (whole ≡ final))

-- a trace that is started comes from a point that the body comes to
abbrev pub TracesComeToPoints : Type 0
TracesComeToPoints = (scene : Scene) (t : Tree) (args : List Obj) (k : ℕ) (ts : List Own) → IsBegun scene t args (Resumes k how.Start ∷ ts)
    → (p : Point) × Reaches (RunsSuite scene t.suite) (start_env t args) None k ts p × EndsBy scene p.env p.outcome p.event p.left

-- statements in order come to what those behind the first come to, from where it came to its end, or to what it came to else; or they are cut in front
abbrev pub StatementsGoOn : Type 0
StatementsGoOn = (scene : Scene) (n : ℕ) (f : Form) (more : Suite) (env : Env) (h : Handled) (event : ℕ) (ts : List Own) (whole : Point)
    → Reaches (RunsSuite scene (first n f more)) env h event ts whole
    → ((ts ≡ []) × (whole ≡ record { env = env; outcome = Cut; event = event; left = [] }))
    ⊎ ((p : Point) × Reaches (Runs scene n f) env h event ts p
    × (((p.outcome ≡ Normal) × Reaches (RunsSuite scene more) p.env h p.event p.left whole) ⊎ ((p.outcome ≢ Normal) × (whole ≡ p))))

-- where the body of a try comes to a point, whatever its outcome, and its finally goes on from there to another, the try comes to what is
-- passed on; and where its body is cut, so is the try
abbrev pub FinallyPassesOn : Type 0
FinallyPassesOn = (scene : Scene) (line : ℕ) (s t : Suite) (env : Env) (h : Handled) (event : ℕ) (ts : List Own) (body final whole : Point)
    → Reaches (RunsSuite scene s) env h event ts body → body.outcome ≢ Cut
    → Reaches (RunsSuite scene t) body.env (handled_behind body.outcome h) body.event body.left final → IsPassedOn body.outcome final whole
    → Reaches (Runs scene line (TryFinally s t)) env h event ts whole

abbrev pub CutStaysCut : Type 0
CutStaysCut = (scene : Scene) (line : ℕ) (s t : Suite) (env : Env) (h : Handled) (event : ℕ) (ts : List Own) (body : Point)
    → Reaches (RunsSuite scene s) env h event ts body → body.outcome ≡ Cut → Reaches (Runs scene line (TryFinally s t)) env h event ts body

-- and it comes to nothing else: behind each outcome of its body its finally has run
abbrev pub FinallyIsRun : Type 0
FinallyIsRun = (scene : Scene) (line : ℕ) (s t : Suite) (env : Env) (h : Handled) (event : ℕ) (ts : List Own) (whole : Point)
    → Reaches (Runs scene line (TryFinally s t)) env h event ts whole
    → (body : Point) × Reaches (RunsSuite scene s) env h event ts body
    × (((body.outcome ≡ Cut) × (whole ≡ body))
    ⊎ ((body.outcome ≢ Cut) × ((final : Point) × Reaches (RunsSuite scene t) body.env (handled_behind body.outcome h) body.event body.left final × IsPassedOn body.outcome final whole)))

-- however the suite of a clause ends, behind it the name that the clause binds is unset
abbrev pub NameIsUnset : Type 0
NameIsUnset = (scene : Scene) (x : Name) (s : Suite) (env : Env) (h : Handled) (event : ℕ) (ts : List Own) (whole : Point)
    → Reaches (Handles (Some x) (RunsSuite scene s)) env h event ts whole → whole.outcome ≢ Cut → find_local x whole.env ≡ Some None

-- all else is as the suite left it
pub record IsButFor (x : Name) (suite whole : Point) : Type 0 where
  pub outcome : whole.outcome ≡ suite.outcome
  pub event : whole.event ≡ suite.event
  pub left : whole.left ≡ suite.left
  pub others : (y : Name) → y ≢ x → find_local y whole.env ≡ find_local y suite.env

abbrev pub ClauseEndsAsSuite : Type 0
ClauseEndsAsSuite = (scene : Scene) (x : Name) (s : Suite) (env : Env) (h : Handled) (event : ℕ) (ts : List Own) (whole : Point)
    → Reaches (Handles (Some x) (RunsSuite scene s)) env h event ts whole → whole.outcome ≢ Cut
    → (suite : Point) × Reaches (RunsSuite scene s) env h event ts suite × IsButFor x suite whole

-- and wherever the suite may end, the clause does
abbrev pub SuiteEndsClause : Type 0
SuiteEndsClause = (scene : Scene) (x : Name) (s : Suite) (env : Env) (h : Handled) (event : ℕ) (ts : List Own) (suite : Point)
    → Reaches (RunsSuite scene s) env h event ts suite → suite.outcome ≢ Cut
    → (whole : Point) × Reaches (Handles (Some x) (RunsSuite scene s)) env h event ts whole × IsButFor x suite whole

-- ---- tries with clauses

-- a try with clauses comes to what its body came to, unless that raised; then to what its clauses come to, while the exception is handled
abbrev pub ClausesRunOnRaise : Type 0
ClausesRunOnRaise = (scene : Scene) (line : ℕ) (s : Suite) (cs : Clauses) (env : Env) (h : Handled) (event : ℕ) (ts : List Own) (whole : Point)
    → Reaches (Runs scene line (TryExcept s cs)) env h event ts whole
    → (body : Point) × Reaches (RunsSuite scene s) env h event ts body
    × (((e : PyBaseExceptionRef) × (body.outcome ≡ Raises e) × Reaches (Tries scene line cs e) body.env (Some e) body.event body.left whole)
    ⊎ (((e : PyBaseExceptionRef) → body.outcome ≢ Raises e) × (whole ≡ body)))

-- a question was cut, or its answer was a raise, and the locals are as before
abbrev pub IsStopped : Env → Point → Type 0
IsStopped env whole = (whole.env ≡ env) × ((whole.outcome ≡ Cut) ⊎ ((f : PyBaseExceptionRef) × (whole.outcome ≡ Raises f)))

-- a value is given, by the time that the event of this number was heard last, and these events are left
abbrev pub Gives : Obj → ℕ → List Own → AfterValue
Gives v i rest w j ts = (w ≡ Given v) × (j ≡ i) × (ts ≡ rest)

-- the class that a clause of this line names is loaded, whether the exception is of it is asked, and then the truth of the answer, which is b;
-- by then the event of this number was heard last, and these are left
pub record IsMatched (scene : Scene) (line : ℕ) (c : Name) (e : PyBaseExceptionRef) (env : Env) (h : Handled) (event : ℕ) (ts : List Own) (b : Bool) (i : ℕ) (rest : List Own) : Type 0 where
  pub class : Obj
  pub loaded : ℕ
  pub behind_class : List Own
  pub loads : Loads scene line env h (atom.Name c) event ts (Gives class loaded behind_class)
  pub answer : Obj
  pub answered : ℕ
  pub behind_answer : List Own
  pub matches : Requests scene line (request.Match (as_object e) class) h loaded behind_class (Gives answer answered behind_answer)
  pub truth : Obj
  pub is : HasPayload scene.objects truth (payload.Bool b)
  pub tests : Requests scene line (request.Truth answer) h answered behind_answer (Gives truth i rest)

-- what the first clause comes to, whose suite is begun with the exception bound, or those behind it, by whether it matched
abbrev pub FirstDecides : Scene → ℕ → Option Name → Suite → Clauses → PyBaseExceptionRef → Env → Handled → Bool → ℕ → List Own → Point → Type 0
FirstDecides scene line x s more e env h true event ts whole = Reaches (Handles x (RunsSuite scene s)) (bind x (as_object e) env) h event ts whole
FirstDecides scene line x s more e env h false event ts whole = Reaches (Tries scene line more e) env h event ts whole

-- clauses come to what stopped a question of the first one, or else its suite runs where it matched, and those behind it are tried where it didn't
abbrev pub FirstClauseDecides : Type 0
FirstClauseDecides = (scene : Scene) (line n : ℕ) (c : Name) (x : Option Name) (s : Suite) (more : Clauses) (e : PyBaseExceptionRef) (env : Env) (h : Handled) (event : ℕ) (ts : List Own) (whole : Point)
    → Reaches (Tries scene line (clause n c x s more) e) env h event ts whole
    → IsStopped env whole ⊎ ((b : Bool) × (i : ℕ) × (rest : List Own) × IsMatched scene n c e env h event ts b i rest × FirstDecides scene line x s more e env h b i rest whole)

-- where no clause is left some exception is raised, or the telling is cut; which exception this law leaves open: the answer to Handled says it
abbrev pub NoClauseRaises : Type 0
NoClauseRaises = (scene : Scene) (line : ℕ) (e : PyBaseExceptionRef) (env : Env) (h : Handled) (event : ℕ) (ts : List Own) (whole : Point)
    → Reaches (Tries scene line no_more e) env h event ts whole → IsStopped env whole

-- ---- withs

-- the manager m is evaluated and entered by a with of this line, and v is its answer; by then the event of this number was heard last, and these
-- are left
pub record IsEntered (scene : Scene) (line : ℕ) (a : Expr) (m v : Obj) (env : Env) (h : Handled) (event : ℕ) (ts : List Own) (i : ℕ) (rest : List Own) : Type 0 where
  pub loaded : ℕ
  pub behind_atom : List Own
  pub loads : Evaluates scene line env h a event ts (Gives m loaded behind_atom)
  pub enters : Requests scene line (request.Enter m) h loaded behind_atom (Gives v i rest)

-- an exit behind no raise is answered, whatever the answer is, and the body's outcome goes on
abbrev pub ExitPasses : Scene → ℕ → Obj → Handled → Point → Point → Type 0
ExitPasses scene line m h body whole =
    (w : Obj) × (i : ℕ) × (rest : List Own) × Leaves scene line m h body.event body.left (Gives w i rest) × (whole ≡ record body { event = i; left = rest })

-- an exit behind the raise of e is answered, and the truth of the answer says whether e goes on
pub record ExitDecides (scene : Scene) (line : ℕ) (m : Obj) (e : PyBaseExceptionRef) (h : Handled) (body whole : Point) : Type 0 where
  pub answer : Obj
  pub answered : ℕ
  pub behind_answer : List Own
  pub leaves : LeavesBy scene line m e body.event body.left (Gives answer answered behind_answer)
  pub truth : Obj
  pub swallows : Bool
  pub is : HasPayload scene.objects truth (payload.Bool swallows)
  pub tests : Requests scene line (request.Truth answer) h answered behind_answer (Gives truth whole.event whole.left)
  pub env : whole.env ≡ body.env
  pub outcome : By_truth swallows (whole.outcome ≡ Normal) (whole.outcome ≡ Raises e)

-- what a with comes to behind its body, where no question of its exit stops it
abbrev pub ExitEnds : Scene → ℕ → Obj → Handled → Point → Point → Type 0
ExitEnds scene line m h body whole =
    ((body.outcome ≡ Cut) × (whole ≡ body))
    ⊎ (((e : PyBaseExceptionRef) × (body.outcome ≡ Raises e) × ExitDecides scene line m e h body whole)
    ⊎ ((body.outcome ≢ Cut) × ((e : PyBaseExceptionRef) → body.outcome ≢ Raises e) × ExitPasses scene line m h body whole))

-- a question stops the whole there: it is cut, or answered by a raise, which is the outcome then
abbrev pub Stops : Env → Point → AfterValue
Stops env whole (Given v) event ts = ⊥
Stops env whole (Failed e) event ts = whole ≡ record { env = env; outcome = Raises e; event = event; left = ts }
Stops env whole Stopped event ts = whole ≡ record { env = env; outcome = Cut; event = event; left = ts }

-- behind the entry of m nothing more is told, or m is no manager, and the question for its exit stops the with
abbrev pub LacksExit : Scene → ℕ → Obj → Env → Handled → ℕ → List Own → Point → Type 0
LacksExit scene line m env h event ts whole =
    ((ts ≡ []) × (whole ≡ record { env = env; outcome = Cut; event = event; left = [] }))
    ⊎ ((p : Payload) × HasPayload scene.objects m p × (is_manager p ≡ false) × Requests scene line (request.NoExit m) h event ts (Stops env whole))

-- a with is stopped in front of its body: at the expression of its manager, at its entry, or behind that
abbrev pub EntryStops : Scene → ℕ → Expr → Env → Handled → ℕ → List Own → Point → Type 0
EntryStops scene line a env h event ts whole =
    Evaluates scene line env h a event ts (Stops env whole)
    ⊎ (((m : Obj) × (i : ℕ) × (mid : List Own) × Evaluates scene line env h a event ts (Gives m i mid) × Requests scene line (request.Enter m) h i mid (Stops env whole))
    ⊎ ((m : Obj) × (v : Obj) × (i : ℕ) × (rest : List Own) × IsEntered scene line a m v env h event ts i rest × LacksExit scene line m env h i rest whole))

-- behind the raise of e the exit stops the with, or the test of its answer does
abbrev pub ExitStopsRaise : Scene → ℕ → Obj → PyBaseExceptionRef → Handled → Point → Point → Type 0
ExitStopsRaise scene line m e h body whole =
    LeavesBy scene line m e body.event body.left (Stops body.env whole)
    ⊎ ((w : Obj) × (i : ℕ) × (rest : List Own) × LeavesBy scene line m e body.event body.left (Gives w i rest) × Requests scene line (request.Truth w) h i rest (Stops body.env whole))

-- behind its body a with is stopped at the exit
abbrev pub ExitStops : Scene → ℕ → Obj → Handled → Point → Point → Type 0
ExitStops scene line m h body whole =
    ((e : PyBaseExceptionRef) × (body.outcome ≡ Raises e) × ExitStopsRaise scene line m e h body whole)
    ⊎ ((body.outcome ≢ Cut) × ((e : PyBaseExceptionRef) → body.outcome ≢ Raises e) × Leaves scene line m h body.event body.left (Stops body.env whole))

-- a with is stopped in front of its body, or its body runs, with the value bound or dropped, and behind it the exit is asked, and stops the with
-- or ends it
abbrev pub ExitIsAsked : Type 0
ExitIsAsked = (scene : Scene) (line : ℕ) (a : Expr) (x : Option Name) (s : Suite) (env : Env) (h : Handled) (event : ℕ) (ts : List Own) (whole : Point)
    → Reaches (Runs scene line (WithForm a x s)) env h event ts whole
    → EntryStops scene line a env h event ts whole
    ⊎ ((m : Obj) × (v : Obj) × (i : ℕ) × (rest : List Own) × IsEntered scene line a m v env h event ts i rest
    × ((p : Payload) × HasPayload scene.objects m p × (is_manager p ≡ true))
    × ((body : Point) × Reaches (RunsSuite scene s) (bind x v env) h i rest body × (ExitStops scene line m h body whole ⊎ ExitEnds scene line m h body whole)))

-- and wherever its body may end behind the entry of a manager, and the exit be answered, the with does
abbrev pub ExitGoesOn : Type 0
ExitGoesOn = (scene : Scene) (line : ℕ) (a : Expr) (x : Option Name) (s : Suite) (env : Env) (h : Handled) (event : ℕ) (ts : List Own) (m v : Obj) (manager : ManagerBody) (i : ℕ) (rest : List Own) (body whole : Point)
    → IsEntered scene line a m v env h event ts i rest → HasPayload scene.objects m (payload.Manager manager)
    → Reaches (RunsSuite scene s) (bind x v env) h i rest body → ExitEnds scene line m h body whole
    → Reaches (Runs scene line (WithForm a x s)) env h event ts whole
