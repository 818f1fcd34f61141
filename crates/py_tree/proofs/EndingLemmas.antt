-- Where tries with a finally come to, what a clause leaves unset, and which clause runs.
use Rattle.std.proofs.Common.{◌≡◌, ◌≢◌, ◌⊎◌, ℕ, List, [], ◌∷◌, Bool, true, false, cond, Option, Some, None, inl, inr, refl, sym, ap, subst, ◌∙◌}
use Rattle.std.specs.Prelude.{bytes_eq}
use Rattle.std.proofs.lemmas.Slice.Eq.{bytes_eq-Decides}
use Rattle.py_objects.specs.Own.{Own, Gets}
use Rattle.py_objects.specs.declared.refs.PyBaseExceptionRef.{PyBaseExceptionRef}
use Rattle.py_objects.specs.declared.request.Request.TheVariants as request
use Rattle.py_objects.specs.Objects.{Obj, as_exception, as_object}
use Rattle.py_objects.specs.declared.request.Request.{Request}
use Rattle.py_objects.specs.declared.event.GotAnswer.{GotAnswer}
use Rattle.py_objects.specs.declared.event.GotAnswer.TheVariants as got
use Rattle.py_objects.specs.Telling.{Answers}
use Rattle.py_tree.specs.Tree.{Name, Suite, Clauses}
use Rattle.py_tree.specs.Binding.{Env, find_local, set_local, bind, start_env}
use Rattle.py_tree.specs.Scene.{Scene}
use Rattle.py_tree.specs.Trace.{EndsBy}
use Rattle.py_tree.specs.Outcome.{Outcome, Normal, Breaks, Continues, Returns, Raises, Cut, Handled, After, Runner, Behind_finally, On_finally, Finally, Forgets, Handles, RunsSuite, Tries, Use, By_truth, On_raise, Requests, Named, On_normal, Runs}
use Rattle.py_tree.specs.Endings.{Point, Reaches, TracesComeToPoints, StatementsGoOn, handled_behind, IsPassedOn, FinallyPassesOn, CutStaysCut, FinallyIsRun, NameIsUnset, IsButFor, ClauseEndsAsSuite, SuiteEndsClause, ClausesRunOnRaise, IsStopped, Gives, FirstDecides, FirstClauseDecides, NoClauseRaises}
use Rattle.py_tree.proofs.Reaching.{RunnerEnds, runs_end, suite_ends, forgets_end}

-- just at a point
abbrev pub At : Point → After
At e env o event ts = e ≡ record { env = env; outcome = o; event = event; left = ts }

-- what holds at a point
abbrev Here : After → Point → Type 0
Here K e = K e.env e.outcome e.event e.left

-- a part of a tree comes to a point where what follows holds
pub comes : (part : Runner) → RunnerEnds part → (env : Env) (h : Handled) (event : ℕ) (ts : List Own) (K : After) → part env h event ts K → (e : Point) × Reaches part env h event ts e × Here K e
comes part ends env h event ts K k =
    let c = ends env h event ts K k in
    let e : Point = record { env = c.env; outcome = c.outcome; event = c.event; left = c.left } in
    (e, c.instead (At e) refl, c.here)

-- and where it comes to one at which something holds, that may follow
pub follows : (part : Runner) → RunnerEnds part → (env : Env) (h : Handled) (event : ℕ) (ts : List Own) (e : Point) (K : After) → Reaches part env h event ts e → Here K e → part env h event ts K
follows part ends env h event ts e K k here =
    let c = ends env h event ts (At e) k in
    c.instead K (subst (λ (a : Point). Here K a) c.here here)

-- ---- traces, and statements in order

pub traces_come_to_points : TracesComeToPoints
traces_come_to_points scene t args k ts begun = comes (RunsSuite scene t.suite) (suite_ends scene t.suite) (start_env t args) None k ts (EndsBy scene) begun

-- behind the first of them
goes_on : (Next : Env → ℕ → List Own → Type 0) (whole : Point) (env : Env) (o : Outcome) (event : ℕ) (ts : List Own) → On_normal (At whole) Next env o event ts
    → ((o ≡ Normal) × Next env event ts) ⊎ ((o ≢ Normal) × At whole env o event ts)
goes_on Next whole env Normal event ts k = inl (refl, k)
goes_on Next whole env Breaks event ts k = inr (λ e. absurd (cc e), k)
goes_on Next whole env Continues event ts k = inr (λ e. absurd (cc e), k)
goes_on Next whole env (Returns v) event ts k = inr (λ e. absurd (cc e), k)
goes_on Next whole env (Raises x) event ts k = inr (λ e. absurd (cc e), k)
goes_on Next whole env Cut event ts k = inr (λ e. absurd (cc e), k)

pub statements_go_on : StatementsGoOn
statements_go_on scene n f more env h event ts whole (inl (none, k)) = inl (none, k)
statements_go_on scene n f more env h event ts whole (inr run) =
    let (p, comes_to, here) = comes (Runs scene n f) (runs_end scene f n) env h event ts (On_normal (At whole) (λ env1 i mid. RunsSuite scene more env1 h i mid (At whole))) run in
    inr (p, comes_to, goes_on (λ env1 i mid. RunsSuite scene more env1 h i mid (At whole)) whole p.env p.outcome p.event p.left here)

-- ---- a finally behind each outcome

-- whether an outcome is that of what is cut
is_cut : (o : Outcome) → (o ≡ Cut) ⊎ (o ≢ Cut)
is_cut Normal = inr (λ e. absurd (cc e))
is_cut Breaks = inr (λ e. absurd (cc e))
is_cut Continues = inr (λ e. absurd (cc e))
is_cut (Returns v) = inr (λ e. absurd (cc e))
is_cut (Raises x) = inr (λ e. absurd (cc e))
is_cut Cut = inl refl

-- what a finally came to is passed on
passed : (pending o : Outcome) (env : Env) (event : ℕ) (ts : List Own) (whole : Point) → Behind_finally (At whole) pending env o event ts → IsPassedOn pending (record { env = env; outcome = o; event = event; left = ts }) whole
passed pending Normal env event ts whole k = inl (refl, k)
passed pending Breaks env event ts whole k = inr (λ e. absurd (cc e), k)
passed pending Continues env event ts whole k = inr (λ e. absurd (cc e), k)
passed pending (Returns v) env event ts whole k = inr (λ e. absurd (cc e), k)
passed pending (Raises x) env event ts whole k = inr (λ e. absurd (cc e), k)
passed pending Cut env event ts whole k = inr (λ e. absurd (cc e), k)

-- and so it may follow
passes : (pending o : Outcome) (env : Env) (event : ℕ) (ts : List Own) (whole : Point) → IsPassedOn pending (record { env = env; outcome = o; event = event; left = ts }) whole → Behind_finally (At whole) pending env o event ts
passes pending Normal env event ts whole (inl (normal, k)) = k
passes pending Breaks env event ts whole (inl (normal, k)) = absurd (cc normal)
passes pending Continues env event ts whole (inl (normal, k)) = absurd (cc normal)
passes pending (Returns v) env event ts whole (inl (normal, k)) = absurd (cc normal)
passes pending (Raises x) env event ts whole (inl (normal, k)) = absurd (cc normal)
passes pending Cut env event ts whole (inl (normal, k)) = absurd (cc normal)
passes pending Normal env event ts whole (inr (other, k)) = absurd (other refl)
passes pending Breaks env event ts whole (inr (other, k)) = k
passes pending Continues env event ts whole (inr (other, k)) = k
passes pending (Returns v) env event ts whole (inr (other, k)) = k
passes pending (Raises x) env event ts whole (inr (other, k)) = k
passes pending Cut env event ts whole (inr (other, k)) = k

module _ (final : Runner) (ends : RunnerEnds final) (h : Handled) (whole : Point) where
  -- the finally runs behind an outcome
  abbrev RunsBehind : Outcome → Env → ℕ → List Own → Type 0
  RunsBehind o env event ts = (e : Point) × Reaches final env (handled_behind o h) event ts e × IsPassedOn o e whole

  runs_behind : (o : Outcome) (env : Env) (event : ℕ) (ts : List Own) → final env (handled_behind o h) event ts (Behind_finally (At whole) o) → RunsBehind o env event ts
  runs_behind o env event ts k =
      let (e, run, here) = comes final ends env (handled_behind o h) event ts (Behind_finally (At whole) o) k in
      (e, run, passed o e.outcome e.env e.event e.left whole here)

  behind_runs : (o : Outcome) (env : Env) (event : ℕ) (ts : List Own) → RunsBehind o env event ts → final env (handled_behind o h) event ts (Behind_finally (At whole) o)
  behind_runs o env event ts (e, run, is) = follows final ends env (handled_behind o h) event ts e (Behind_finally (At whole) o) run (passes o e.outcome e.env e.event e.left whole is)

  -- so it does behind each outcome but Cut
  on_runs : (o : Outcome) (env : Env) (event : ℕ) (ts : List Own) → o ≢ Cut → On_finally final h (At whole) env o event ts → RunsBehind o env event ts
  on_runs Normal env event ts ended k = runs_behind Normal env event ts k
  on_runs Breaks env event ts ended k = runs_behind Breaks env event ts k
  on_runs Continues env event ts ended k = runs_behind Continues env event ts k
  on_runs (Returns v) env event ts ended k = runs_behind (Returns v) env event ts k
  on_runs (Raises x) env event ts ended k = runs_behind (Raises x) env event ts k
  on_runs Cut env event ts ended k = absurd (ended refl)

  runs_on : (o : Outcome) (env : Env) (event : ℕ) (ts : List Own) → o ≢ Cut → RunsBehind o env event ts → On_finally final h (At whole) env o event ts
  runs_on Normal env event ts ended k = behind_runs Normal env event ts k
  runs_on Breaks env event ts ended k = behind_runs Breaks env event ts k
  runs_on Continues env event ts ended k = behind_runs Continues env event ts k
  runs_on (Returns v) env event ts ended k = behind_runs (Returns v) env event ts k
  runs_on (Raises x) env event ts ended k = behind_runs (Raises x) env event ts k
  runs_on Cut env event ts ended k = absurd (ended refl)

  -- a cut goes on as itself
  cut_on : (o : Outcome) (env : Env) (event : ℕ) (ts : List Own) → o ≡ Cut → On_finally final h (At whole) env o event ts → At whole env o event ts
  cut_on Normal env event ts cut k = absurd (cc cut)
  cut_on Breaks env event ts cut k = absurd (cc cut)
  cut_on Continues env event ts cut k = absurd (cc cut)
  cut_on (Returns v) env event ts cut k = absurd (cc cut)
  cut_on (Raises x) env event ts cut k = absurd (cc cut)
  cut_on Cut env event ts cut k = k

  on_cut : (o : Outcome) (env : Env) (event : ℕ) (ts : List Own) → o ≡ Cut → At whole env o event ts → On_finally final h (At whole) env o event ts
  on_cut Normal env event ts cut k = absurd (cc cut)
  on_cut Breaks env event ts cut k = absurd (cc cut)
  on_cut Continues env event ts cut k = absurd (cc cut)
  on_cut (Returns v) env event ts cut k = absurd (cc cut)
  on_cut (Raises x) env event ts cut k = absurd (cc cut)
  on_cut Cut env event ts cut k = k

  -- what a body and its finally come to
  whole_comes : (body : Runner) → RunnerEnds body → (env : Env) (event : ℕ) (ts : List Own) → Reaches (Finally body final) env h event ts whole
      → (e : Point) × Reaches body env h event ts e × (((e.outcome ≡ Cut) × (whole ≡ e)) ⊎ ((e.outcome ≢ Cut) × RunsBehind e.outcome e.env e.event e.left))
  whole_comes body bodies env event ts k =
      let (e, run, here) = comes body bodies env h event ts (On_finally final h (At whole)) k in
      (e, run, elim (is_cut e.outcome) [ inl cut ↦ inl (cut, cut_on e.outcome e.env e.event e.left cut here) | inr ended ↦ inr (ended, on_runs e.outcome e.env e.event e.left ended here) ])

-- ---- the laws

pub finally_passes_on : FinallyPassesOn
finally_passes_on scene line s t env h event ts body final whole run ended run_final is =
    follows (RunsSuite scene s) (suite_ends scene s) env h event ts body (On_finally (RunsSuite scene t) h (At whole)) run
    (runs_on (RunsSuite scene t) (suite_ends scene t) h whole body.outcome body.env body.event body.left ended (final, run_final, is))

pub cut_stays_cut : CutStaysCut
cut_stays_cut scene line s t env h event ts body run cut =
    follows (RunsSuite scene s) (suite_ends scene s) env h event ts body (On_finally (RunsSuite scene t) h (At body)) run
    (on_cut (RunsSuite scene t) (suite_ends scene t) h body body.outcome body.env body.event body.left cut refl)

pub finally_is_run : FinallyIsRun
finally_is_run scene line s t env h event ts whole run = whole_comes (RunsSuite scene t) (suite_ends scene t) h whole (RunsSuite scene s) (suite_ends scene s) env event ts run

-- ---- what a clause forgets

-- a local that is unset
unset : (x : Name) (env : Env) → find_local x (set_local x None env) ≡ Some None
unset x [] = ap (λ (b : Bool). cond b (Some None) None) ((bytes_eq-Decides x x).1 refl)
unset x (p ∷ env) = by (bytes_eq x p.0) refl (unset x env)
  where
    by : (b : Bool) → bytes_eq x p.0 ≡ b → find_local x (set_local x None env) ≡ Some None → find_local x (cond b ((p.0, None) ∷ env) (p ∷ set_local x None env)) ≡ Some None
    by true same later = ap (λ (b : Bool). cond b (Some None) (find_local x env)) same
    by false other later = ap (λ (b : Bool). cond b (Some p.1) (find_local x (set_local x None env))) other ∙ later

-- a name that is another, and the locals of other names
is_other : (y x : Name) → y ≢ x → bytes_eq y x ≡ false
is_other y x other = by (bytes_eq y x) refl
  where
    by : (b : Bool) → bytes_eq y x ≡ b → b ≡ false
    by true same = absurd (other ((bytes_eq-Decides y x).0 same))
    by false differs = refl

others_stay : (x y : Name) (env : Env) → y ≢ x → find_local y (set_local x None env) ≡ find_local y env
others_stay x y [] other = ap (λ (b : Bool). cond b (Some None) None) (is_other y x other)
others_stay x y (p ∷ env) other = by (bytes_eq x p.0) refl (others_stay x y env other)
  where
    by : (b : Bool) → bytes_eq x p.0 ≡ b → find_local y (set_local x None env) ≡ find_local y env
        → find_local y (cond b ((p.0, None) ∷ env) (p ∷ set_local x None env)) ≡ cond (bytes_eq y p.0) (Some p.1) (find_local y env)
    by true same later =
        let first : x ≡ p.0 = (bytes_eq-Decides x p.0).0 same in
        let free : bytes_eq y p.0 ≡ false = is_other y p.0 (λ is. other (is ∙ sym first)) in
        ap (λ (b : Bool). cond b (Some None) (find_local y env)) free ∙ sym (ap (λ (b : Bool). cond b (Some p.1) (find_local y env)) free)
    by false free later = ap (λ (found : Option (Option Obj)). cond (bytes_eq y p.0) (Some p.1) found) later

-- a point at which a name is unset
abbrev without : Name → Point → Point
without x e = record e { env = set_local x None e.env }

is_but_for : (x : Name) (suite whole : Point) → whole ≡ without x suite → IsButFor x suite whole
is_but_for x suite whole is = record {
  outcome = ap (λ (e : Point). e.outcome) is;
  event = ap (λ (e : Point). e.event) is;
  left = ap (λ (e : Point). e.left) is;
  others = λ y other. ap (λ (e : Point). find_local y e.env) is ∙ others_stay x y suite.env other;
}

-- what is passed on behind a suite whose name is forgotten
forgotten : (x : Name) (suite whole e : Point) → e ≡ record { env = set_local x None suite.env; outcome = Normal; event = suite.event; left = suite.left } → IsPassedOn suite.outcome e whole → whole ≡ without x suite
forgotten x suite whole e run (inl (normal, is)) = is ∙ ap (λ (a : Point). let b : Point = record a { outcome = suite.outcome } in b) run
forgotten x suite whole e run (inr (other, is)) = absurd (other (ap (λ (a : Point). a.outcome) run))

clause_comes : (scene : Scene) (x : Name) (s : Suite) (env : Env) (h : Handled) (event : ℕ) (ts : List Own) (whole : Point)
    → Reaches (Handles (Some x) (RunsSuite scene s)) env h event ts whole → whole.outcome ≢ Cut
    → (suite : Point) × Reaches (RunsSuite scene s) env h event ts suite × (whole ≡ without x suite)
clause_comes scene x s env h event ts whole run ended =
    let (suite, comes_to, behind) = whole_comes (Forgets x) (forgets_end x) h whole (RunsSuite scene s) (suite_ends scene s) env event ts run in
    (suite, comes_to, elim behind [ inl cut ↦ absurd (ended (ap (λ (e : Point). e.outcome) cut.1 ∙ cut.0)) | inr last ↦ forgotten x suite whole last.1.0 last.1.1 last.1.2 ])

pub name_is_unset : NameIsUnset
name_is_unset scene x s env h event ts whole run ended =
    let (suite, comes_to, is) = clause_comes scene x s env h event ts whole run ended in
    ap (λ (e : Point). find_local x e.env) is ∙ unset x suite.env

pub clause_ends_as_suite : ClauseEndsAsSuite
clause_ends_as_suite scene x s env h event ts whole run ended =
    let (suite, comes_to, is) = clause_comes scene x s env h event ts whole run ended in
    (suite, comes_to, is_but_for x suite whole is)

pub suite_ends_clause : SuiteEndsClause
suite_ends_clause scene x s env h event ts suite run ended =
    let forgets : Point = record { env = set_local x None suite.env; outcome = Normal; event = suite.event; left = suite.left } in (
      without x suite,
      follows (RunsSuite scene s) (suite_ends scene s) env h event ts suite (On_finally (Forgets x) h (At (without x suite))) run
          (runs_on (Forgets x) (forgets_end x) h (without x suite) suite.outcome suite.env suite.event suite.left ended (forgets, refl, inl (refl, refl))),
      is_but_for x suite (without x suite) refl,
    )

-- ---- clauses

-- behind the body of a try with clauses
caught : (Caught : PyBaseExceptionRef → Env → ℕ → List Own → Type 0) (whole : Point) (env : Env) (o : Outcome) (event : ℕ) (ts : List Own) → On_raise (At whole) Caught env o event ts
    → ((e : PyBaseExceptionRef) × (o ≡ Raises e) × Caught e env event ts) ⊎ (((e : PyBaseExceptionRef) → o ≢ Raises e) × At whole env o event ts)
caught Caught whole env Normal event ts k = inr (λ e is. absurd (cc is), k)
caught Caught whole env Breaks event ts k = inr (λ e is. absurd (cc is), k)
caught Caught whole env Continues event ts k = inr (λ e is. absurd (cc is), k)
caught Caught whole env (Returns v) event ts k = inr (λ e is. absurd (cc is), k)
caught Caught whole env (Raises e) event ts k = inl (e, refl, k)
caught Caught whole env Cut event ts k = inr (λ e is. absurd (cc is), k)

pub clauses_run_on_raise : ClausesRunOnRaise
clauses_run_on_raise scene line s cs env h event ts whole run =
    let (body, comes_to, here) = comes (RunsSuite scene s) (suite_ends scene s) env h event ts (On_raise (At whole) (λ e env1 i mid. Tries scene line cs e env1 (Some e) i mid (At whole))) run in
    (body, comes_to, caught (λ e env1 i mid. Tries scene line cs e env1 (Some e) i mid (At whole)) whole body.env body.outcome body.event body.left here)

-- what stopped at a point
stopped_at : (env : Env) (whole : Point) (event : ℕ) (rest : List Own) → At whole env Cut event rest → IsStopped env whole
stopped_at env whole event rest k = (ap (λ (p : Point). p.env) k, inl (ap (λ (p : Point). p.outcome) k))

module _ (scene : Scene) (env : Env) (h : Handled) (whole : Point) (R : Type 0) where
  -- what follows the value that answers a request
  answered : (line : ℕ) (r : Request) (event : ℕ) (ts : List Own) (Next : Obj → ℕ → List Own → Type 0) → Requests scene line r h event ts (Use env (At whole) Next)
      → ((v : Obj) (i : ℕ) (rest : List Own) → Requests scene line r h event ts (Gives v i rest) → Next v i rest → IsStopped env whole ⊎ R) → IsStopped env whole ⊎ R
  answered line r event ts Next (inl (e, k)) on = inl (stopped_at env whole event [] k)
  answered line r event ts Next (inr (at, mid, is, e, inl (e2, k))) on = inl (stopped_at env whole event [] k)
  answered line r event ts Next (inr (at, mid, is, e, inr (i, w, rest, e2, k))) on = by w e2 k
    where
      by : (w : GotAnswer) → mid ≡ Gets i w ∷ rest → Answers w i rest (Use env (At whole) Next) → IsStopped env whole ⊎ R
      by (got.Value v) told k = on v i rest (inr (at, mid, is, e, inr (i, got.Value v, rest, told, (refl, refl, refl)))) k
      by (got.Stop v) told k = absurd k
      by (got.Raise f) told k = inl (ap (λ (p : Point). p.env) k, inr (f, ap (λ (p : Point). p.outcome) k))

  -- what follows a name that is loaded
  loaded : (line : ℕ) (found : Option (Option Obj)) (x : Name) (event : ℕ) (ts : List Own) (Next : Obj → ℕ → List Own → Type 0) → Named scene line found x h event ts (Use env (At whole) Next)
      → ((v : Obj) (i : ℕ) (rest : List Own) → Named scene line found x h event ts (Gives v i rest) → Next v i rest → IsStopped env whole ⊎ R) → IsStopped env whole ⊎ R
  loaded line None x event ts Next k on = answered line (request.Global scene.globals x) event ts Next k on
  loaded line (Some None) x event ts Next k on = answered line (request.Unbound x) event ts Next k on
  loaded line (Some (Some v)) x event ts Next k on = on v event ts (refl, refl, refl) k

-- by whether it matched
decided : (scene : Scene) (line : ℕ) (x : Option Name) (s : Suite) (more : Clauses) (e : PyBaseExceptionRef) (env : Env) (h : Handled) (whole : Point) (b : Bool) (i : ℕ) (rest : List Own)
    → By_truth b (Handles x (RunsSuite scene s) (bind x (as_object e) env) h i rest (At whole)) (Tries scene line more e env h i rest (At whole)) → FirstDecides scene line x s more e env h b i rest whole
decided scene line x s more e env h whole true i rest k = k
decided scene line x s more e env h whole false i rest k = k

pub first_clause_decides : FirstClauseDecides
first_clause_decides scene line n c x s more e env h event ts whole k =
    loaded scene env h whole _ n (find_local c env) c event ts _ k (λ v i mid loads k1.
    answered scene env h whole _ n (request.Match (as_object e) v) i mid _ k1 (λ m j mid2 matches k2.
    answered scene env h whole _ n (request.Truth m) j mid2 _ k2 (λ u l rest tests k3.
    inr (
      k3.0,
      l,
      rest,
      record {
        class = v;
        loaded = i;
        behind_class = mid;
        loads = loads;
        answer = m;
        answered = j;
        behind_answer = mid2;
        matches = matches;
        truth = u;
        is = k3.1;
        tests = tests;
      },
      decided scene line x s more e env h whole k3.0 l rest k3.2,
    ))))

pub no_clause_raises : NoClauseRaises
no_clause_raises scene line e env h event ts whole k =
    elim (answered scene env h whole (IsStopped env whole) line request.Handled event ts _ k (λ v i rest asked raised. inr (ap (λ (p : Point). p.env) raised, inr (as_exception v, ap (λ (p : Point). p.outcome) raised))))
    [ inl stopped ↦ stopped | inr stopped ↦ stopped ]
