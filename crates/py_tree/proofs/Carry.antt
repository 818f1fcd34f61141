-- What a tree may tell goes over to any front of its events, to what follows more weakly, and to a wider scene.
use Rattle.std.proofs.Common.{◌≡◌, ℕ, zero, suc, Bool, true, false, List, [], ◌∷◌, ◌++◌, Some, None, refl, ap, subst, ◌∙◌, inl, inr}
use Rattle.std.specs.Prelude.{Option}
use Rattle.py_objects.specs.declared.refs.PyBaseExceptionRef.{PyBaseExceptionRef}
use Rattle.py_objects.specs.declared.payload.Payload.{Payload}
use Rattle.py_objects.specs.declared.payload.Payload.TheVariants as payload
use Rattle.py_objects.specs.declared.request.Request.{Request}
use Rattle.py_objects.specs.declared.request.Request.TheVariants as request
use Rattle.py_objects.specs.declared.event.GotAnswer.{GotAnswer}
use Rattle.py_objects.specs.declared.event.GotAnswer.TheVariants as got
use Rattle.py_objects.specs.declared.event.ResumeHow.{ResumeHow}
use Rattle.py_objects.specs.declared.event.ResumeHow.TheVariants as how
use Rattle.py_objects.specs.declared.event.Ending.{Ending}
use Rattle.py_objects.specs.Objects.{Obj, as_exception, as_object, class_object}
use Rattle.py_objects.specs.Callees.{call_request, is_manager}
use Rattle.py_objects.specs.Own.{Own, Makes, Resumes, Asks, Gets, Rounds, Yields, Ends}
use Rattle.py_objects.specs.Telling.{Value, Given, Failed, Stopped, AfterValue, IsLiteral, Answers, Answered, GoesOn, Resumed, Rounded}
use Rattle.py_tree.specs.declared.expr.Atom.{Atom}
use Rattle.py_tree.specs.declared.expr.Atom.TheVariants as atom
use Rattle.py_tree.specs.Operators.{Way, Asks_one, Asks_two, Calls_it, Yields_it, way_of}
use Rattle.py_tree.specs.Tree.{Name, Expr, Leaf, Operate, Exprs, no_operands, operand, Form, Assign, Do, Show, Return, Raise, Reraise, Break, Continue, Pass, If, IfElse, While, TryExcept, TryFinally, With as WithForm, Suite, nothing, first, Clauses, no_more, clause, Tree}
use Rattle.py_tree.specs.Binding.{Env, find_local, set_local, bind}
use Rattle.py_tree.specs.Scene.{Scene}
use Rattle.py_tree.specs.Outcome.{Outcome, Normal, Breaks, Continues, Returns, Raises, Cut, Handled, After, Runner, With, Use, By_truth, Requests, Suspends, Named, Loads, Calls, Finishes, Evaluates, EvaluatesAll, Tests, Chooses, On_normal, On_turn, On_raise, behind, Behind_finally, On_finally, Finally, Forgets, Handles, Loops, Leaves, LeavesBy, On_exit, Manages, Reraises, Runs, RunsSuite, Tries}
use Rattle.py_tree.specs.Trace.{Ended, EndsBy, Entered, IsBegun, IsTrace}
use Rattle.py_tree.specs.Laws.{Widens, TracesCarry}
use Rattle.py_objects.proofs.GrowthLemmas.{payload_grown}

empty_front : {X : Type 0} (ts more : List X) → ts ++ more ≡ [] → ts ≡ []
empty_front [] more e = refl
empty_front (t ∷ ts) more e = absurd (cc e)

-- a value goes over to a front
abbrev ValueGoes : List Own → AfterValue → AfterValue → Type 0
ValueGoes more K K' = (v : Value) (event : ℕ) (rest : List Own) → K v event (rest ++ more) → K' v event rest

-- what follows goes over to a front
abbrev Goes : List Own → After → After → Type 0
Goes more K K' = (env : Env) (o : Outcome) (event : ℕ) (rest : List Own) → K env o event (rest ++ more) → K' env o event rest

-- what follows goes over to a front, and may be cut
record Carries (more : List Own) (K K' : After) : Type 0 where
  goes : Goes more K K'
  cut : (env : Env) (event : ℕ) → K' env Cut event []

-- ---- events

answers_go : (w : GotAnswer) (event : ℕ) (ts more : List Own) (K K' : AfterValue) → ValueGoes more K K' → Answers w event (ts ++ more) K → Answers w event ts K'
answers_go (got.Value v) event ts more K K' goes k = goes (Given v) event ts k
answers_go (got.Stop v) event ts more K K' goes k = k
answers_go (got.Raise e) event ts more K K' goes k = goes (Failed e) event ts k

answered_goes : (event : ℕ) (ts more : List Own) (K K' : AfterValue) → ValueGoes more K K' → K' Stopped event [] → Answered event (ts ++ more) K → Answered event ts K'
answered_goes event [] more K K' goes cut told = inl (refl, cut)
answered_goes event (t ∷ ts) more K K' goes cut (inl (e, k)) = absurd (cc e)
answered_goes event (t ∷ ts) more K K' goes cut (inr (i, w, mid, e, k)) =
    let same : t ≡ Gets i w = cc e in
    let behind : mid ≡ ts ++ more = cc e in
    inr (i, w, ts, ap (λ x. x ∷ ts) same, answers_go w i ts more K K' goes (subst (λ (l : List Own). Answers w i l K) behind k))

module _ (throws throws' : ℕ → Bool) (lets : (i : ℕ) → throws i ≡ true → throws' i ≡ true) where
  on_goes : (w : ResumeHow) (event : ℕ) (ts more : List Own) (K K' : AfterValue) → ValueGoes more K K' → GoesOn throws w event (ts ++ more) K → GoesOn throws' w event ts K'
  on_goes how.Start event ts more K K' goes k = k
  on_goes (how.Send v) event ts more K K' goes k = goes (Given v) event ts k
  on_goes (how.Throw e) event ts more K K' goes (may, k) = (lets event may, goes (Failed e) event ts k)

  resumed_goes : (event : ℕ) (ts more : List Own) (K K' : AfterValue) → ValueGoes more K K' → K' Stopped event [] → Resumed throws event (ts ++ more) K → Resumed throws' event ts K'
  resumed_goes event [] more K K' goes cut told = inl (refl, cut)
  resumed_goes event (t ∷ ts) more K K' goes cut (inl (e, k)) = absurd (cc e)
  resumed_goes event (t ∷ ts) more K K' goes cut (inr (i, w, mid, e, k)) =
      let same : t ≡ Resumes i w = cc e in
      let behind : mid ≡ ts ++ more = cc e in
      inr (i, w, ts, ap (λ x. x ∷ ts) same, on_goes w i ts more K K' goes (subst (λ (l : List Own). GoesOn throws w i l K) behind k))

rounded_goes : (ts more : List Own) (cut cut' : Type 0) (next next' : List Own → Type 0) → cut' → ((rest : List Own) → next (rest ++ more) → next' rest) → Rounded (ts ++ more) cut next → Rounded ts cut' next'
rounded_goes [] more cut cut' next next' stops on told = inl (refl, stops)
rounded_goes (t ∷ ts) more cut cut' next next' stops on (inl (e, k)) = absurd (cc e)
rounded_goes (t ∷ ts) more cut cut' next next' stops on (inr (at, mid, e, k)) =
    let same : t ≡ Rounds at = cc e in
    let behind : mid ≡ ts ++ more = cc e in
    inr (at, ts, ap (λ x. x ∷ ts) same, on ts (subst next behind k))

with_goes : (more : List Own) (K K' : AfterValue) (next next' : Obj → ℕ → List Own → Type 0) → ValueGoes more K K' → ((v : Obj) (event : ℕ) (rest : List Own) → next v event (rest ++ more) → next' v event rest) → ValueGoes more (With K next) (With K' next')
with_goes more K K' next next' goes on (Given v) event rest k = on v event rest k
with_goes more K K' next next' goes on (Failed e) event rest k = goes (Failed e) event rest k
with_goes more K K' next next' goes on Stopped event rest k = goes Stopped event rest k

use_goes : (env : Env) (more : List Own) (K K' : After) (next next' : Obj → ℕ → List Own → Type 0) → Goes more K K' → ((v : Obj) (event : ℕ) (rest : List Own) → next v event (rest ++ more) → next' v event rest) → ValueGoes more (Use env K next) (Use env K' next')
use_goes env more K K' next next' goes on (Given v) event rest k = on v event rest k
use_goes env more K K' next next' goes on (Failed e) event rest k = goes env (Raises e) event rest k
use_goes env more K K' next next' goes on Stopped event rest k = goes env Cut event rest k

by_truth_goes : (b : Bool) (P P' Q Q' : Type 0) → (P → P') → (Q → Q') → By_truth b P Q → By_truth b P' Q'
by_truth_goes true P P' Q Q' f g k = f k
by_truth_goes false P P' Q Q' f g k = g k

-- ---- what follows

normal_goes : (more : List Own) (K K' : After) (next next' : Env → ℕ → List Own → Type 0) → Carries more K K' → ((env : Env) (event : ℕ) (rest : List Own) → next env event (rest ++ more) → next' env event rest) → Carries more (On_normal K next) (On_normal K' next')
normal_goes more K K' next next' carries on = record { goes = by; cut = carries.cut }
  where
    by : Goes more (On_normal K next) (On_normal K' next')
    by env Normal event rest k = on env event rest k
    by env Breaks event rest k = carries.goes env Breaks event rest k
    by env Continues event rest k = carries.goes env Continues event rest k
    by env (Returns v) event rest k = carries.goes env (Returns v) event rest k
    by env (Raises e) event rest k = carries.goes env (Raises e) event rest k
    by env Cut event rest k = carries.goes env Cut event rest k

turn_goes : (more : List Own) (K K' : After) (next next' : Env → ℕ → List Own → Type 0) → Carries more K K' → ((env : Env) (event : ℕ) (rest : List Own) → next env event (rest ++ more) → next' env event rest) → Carries more (On_turn K next) (On_turn K' next')
turn_goes more K K' next next' carries on = record { goes = by; cut = carries.cut }
  where
    by : Goes more (On_turn K next) (On_turn K' next')
    by env Normal event rest k = on env event rest k
    by env Breaks event rest k = carries.goes env Normal event rest k
    by env Continues event rest k = on env event rest k
    by env (Returns v) event rest k = carries.goes env (Returns v) event rest k
    by env (Raises e) event rest k = carries.goes env (Raises e) event rest k
    by env Cut event rest k = carries.goes env Cut event rest k

module _ (scene scene' : Scene) (widens : Widens scene scene') (more : List Own) where
  -- ---- loads and requests

  literal_goes : (p : Payload) (event : ℕ) (ts : List Own) (K K' : AfterValue) → ValueGoes more K K' → K' Stopped event [] → IsLiteral scene.objects p event (ts ++ more) K → IsLiteral scene'.objects p event ts K'
  literal_goes p event ts K K' goes cut (inl (e, k)) = inl (empty_front ts more e, cut)
  literal_goes p event ts K K' goes cut (inr (v, has, k)) = inr (v, payload_grown scene.objects scene'.objects v p widens.objects has, goes (Given v) event ts k)

  requests_go : (line : ℕ) (r : Request) (h : Handled) (event : ℕ) (ts : List Own) (K K' : AfterValue) → ValueGoes more K K' → K' Stopped event []
      → Requests scene line r h event (ts ++ more) K → Requests scene' line r h event ts K'
  requests_go line r h event [] K K' goes cut told = inl (refl, cut)
  requests_go line r h event (t ∷ ts) K K' goes cut (inl (e, k)) = absurd (cc e)
  requests_go line r h event (t ∷ ts) K K' goes cut (inr (at, mid, is, e, k)) =
      let same : t ≡ Asks at r h = cc e in
      let behind : mid ≡ ts ++ more = cc e in
      inr (at, ts, widens.units at line is, ap (λ x. x ∷ ts) same, answered_goes event ts more K K' goes cut (subst (λ (l : List Own). Answered event l K) behind k))

  suspends_go : (line : ℕ) (v : Obj) (h : Handled) (event : ℕ) (ts : List Own) (K K' : AfterValue) → ValueGoes more K K' → K' Stopped event []
      → Suspends scene line v h event (ts ++ more) K → Suspends scene' line v h event ts K'
  suspends_go line v h event [] K K' goes cut told = inl (refl, cut)
  suspends_go line v h event (t ∷ ts) K K' goes cut (inl (e, k)) = absurd (cc e)
  suspends_go line v h event (t ∷ ts) K K' goes cut (inr (at, mid, is, e, k)) =
      let same : t ≡ Yields at v = cc e in
      let behind : mid ≡ ts ++ more = cc e in
      let throws : ℕ → Bool = λ (i : ℕ). scene.throws_under i h in
      let gone = resumed_goes throws (λ i. scene'.throws_under i h) (λ i may. widens.throws i h may) event ts more K K' goes cut (subst (λ (l : List Own). Resumed throws event l K) behind k) in
      inr (at, ts, widens.units at line is, ap (λ x. x ∷ ts) same, gone)

  calls_go : (line : ℕ) (f : Obj) (vs : List Obj) (h : Handled) (event : ℕ) (ts : List Own) (K K' : AfterValue) → ValueGoes more K K' → K' Stopped event []
      → Calls scene line f vs h event (ts ++ more) K → Calls scene' line f vs h event ts K'
  calls_go line f vs h event ts K K' goes cut (inl (e, k)) = inl (empty_front ts more e, cut)
  calls_go line f vs h event ts K K' goes cut (inr (p, has, told)) = inr (p, payload_grown scene.objects scene'.objects f p widens.objects has, requests_go line (call_request p f vs) h event ts K K' goes cut told)

  named_goes : (line : ℕ) (found : Option (Option Obj)) (x : Name) (h : Handled) (event : ℕ) (ts : List Own) (K K' : AfterValue) → ValueGoes more K K' → K' Stopped event []
      → Named scene line found x h event (ts ++ more) K → Named scene' line found x h event ts K'
  named_goes line None x h event ts K K' goes cut k = subst (λ (g : Obj). Requests scene' line (request.Global g x) h event ts K') widens.globals (requests_go line (request.Global scene.globals x) h event ts K K' goes cut k)
  named_goes line (Some None) x h event ts K K' goes cut k = requests_go line (request.Unbound x) h event ts K K' goes cut k
  named_goes line (Some (Some v)) x h event ts K K' goes cut k = goes (Given v) event ts k

  loads_go : (line : ℕ) (env : Env) (h : Handled) (a : Atom) (event : ℕ) (ts : List Own) (K K' : AfterValue) → ValueGoes more K K' → K' Stopped event []
      → Loads scene line env h a event (ts ++ more) K → Loads scene' line env h a event ts K'
  loads_go line env h atom.None event ts K K' goes cut k = literal_goes payload.None event ts K K' goes cut k
  loads_go line env h (atom.Bool b) event ts K K' goes cut k = literal_goes (payload.Bool b) event ts K K' goes cut k
  loads_go line env h (atom.Int n) event ts K K' goes cut k = literal_goes (payload.Int n) event ts K K' goes cut k
  loads_go line env h (atom.Str s) event ts K K' goes cut k = literal_goes (payload.Str s) event ts K K' goes cut k
  loads_go line env h (atom.Name x) event ts K K' goes cut k = named_goes line (find_local x env) x h event ts K K' goes cut k

  -- what an operator does with its values
  finishes_goes : (way : Way) (line : ℕ) (vs : List Obj) (h : Handled) (event : ℕ) (ts : List Own) (K K' : AfterValue) → ValueGoes more K K' → ((i : ℕ) → K' Stopped i [])
      → Finishes scene line way vs h event (ts ++ more) K → Finishes scene' line way vs h event ts K'
  finishes_goes (Asks_one r) line (v ∷ []) h event ts K K' goes cut k = requests_go line (r v) h event ts K K' goes (cut event) k
  finishes_goes (Asks_two r) line (v ∷ w ∷ []) h event ts K K' goes cut k = requests_go line (r v w) h event ts K K' goes (cut event) k
  finishes_goes Calls_it line (f ∷ vs) h event ts K K' goes cut k = calls_go line f vs h event ts K K' goes (cut event) k
  finishes_goes Yields_it line (v ∷ []) h event ts K K' goes cut k = suspends_go line v h event ts K K' goes (cut event) k
  finishes_goes way line vs h event ts K K' goes cut k = (empty_front ts more k.0, cut event)

  mutual
    -- the value of an expression
    evaluates_goes : (e : Expr) (line : ℕ) (env : Env) (h : Handled) (event : ℕ) (ts : List Own) (K K' : AfterValue) → ValueGoes more K K' → ((i : ℕ) → K' Stopped i [])
        → Evaluates scene line env h e event (ts ++ more) K → Evaluates scene' line env h e event ts K'
    evaluates_goes (Leaf a) line env h event ts K K' goes cut k = loads_go line env h a event ts K K' goes (cut event) k
    evaluates_goes (Operate o es) line env h event ts K K' goes cut k =
        all_go es line env h event ts K K' _ _ goes cut (λ vs i rest told. finishes_goes (way_of o) line vs h i rest K K' goes cut told) k

    all_go : (es : Exprs) (line : ℕ) (env : Env) (h : Handled) (event : ℕ) (ts : List Own) (K K' : AfterValue) (next next' : List Obj → ℕ → List Own → Type 0) → ValueGoes more K K' → ((i : ℕ) → K' Stopped i [])
        → ((vs : List Obj) (i : ℕ) (rest : List Own) → next vs i (rest ++ more) → next' vs i rest) → EvaluatesAll scene line env h es event (ts ++ more) K next → EvaluatesAll scene' line env h es event ts K' next'
    all_go no_operands line env h event ts K K' next next' goes cut on k = on [] event ts k
    all_go (operand e es) line env h event ts K K' next next' goes cut on k =
        evaluates_goes e line env h event ts _ _
        (with_goes more K K' _ _ goes (λ v i rest told. all_go es line env h i rest K K' (λ vs. next (v ∷ vs)) (λ vs. next' (v ∷ vs)) goes cut (λ vs. on (v ∷ vs)) told)) cut k

  -- a statement's expression, and what is asked for it: a value is taken, and what comes in its place is the statement's end
  taken_goes : (line : ℕ) (env : Env) (h : Handled) (e : Expr) (event : ℕ) (ts : List Own) (K K' : After) (next next' : Obj → ℕ → List Own → Type 0) → Carries more K K'
      → ((v : Obj) (i : ℕ) (rest : List Own) → next v i (rest ++ more) → next' v i rest) → Evaluates scene line env h e event (ts ++ more) (Use env K next) → Evaluates scene' line env h e event ts (Use env K' next')
  taken_goes line env h e event ts K K' next next' carries on k = evaluates_goes e line env h event ts _ _ (use_goes env more K K' _ _ carries.goes on) (carries.cut env) k

  asked_goes : (line : ℕ) (env : Env) (h : Handled) (r : Request) (event : ℕ) (ts : List Own) (K K' : After) (next next' : Obj → ℕ → List Own → Type 0) → Carries more K K'
      → ((v : Obj) (i : ℕ) (rest : List Own) → next v i (rest ++ more) → next' v i rest) → Requests scene line r h event (ts ++ more) (Use env K next) → Requests scene' line r h event ts (Use env K' next')
  asked_goes line env h r event ts K K' next next' carries on k = requests_go line r h event ts _ _ (use_goes env more K K' _ _ carries.goes on) (carries.cut env event) k

  tests_go : (line : ℕ) (env : Env) (h : Handled) (v : Obj) (event : ℕ) (ts : List Own) (K K' : After) (next next' : Bool → ℕ → List Own → Type 0) → Carries more K K'
      → ((b : Bool) (i : ℕ) (rest : List Own) → next b i (rest ++ more) → next' b i rest) → Tests scene line env h v event (ts ++ more) K next → Tests scene' line env h v event ts K' next'
  tests_go line env h v event ts K K' next next' carries on k =
      asked_goes line env h (request.Truth v) event ts K K' _ _ carries
      (λ w i rest (b, has, told). (b, payload_grown scene.objects scene'.objects w (payload.Bool b) widens.objects has, on b i rest told)) k

  chooses_go : (line : ℕ) (env : Env) (h : Handled) (a : Expr) (event : ℕ) (ts : List Own) (K K' : After) (next next' : Bool → ℕ → List Own → Type 0) → Carries more K K'
      → ((b : Bool) (i : ℕ) (rest : List Own) → next b i (rest ++ more) → next' b i rest) → Chooses scene line env h a event (ts ++ more) K next → Chooses scene' line env h a event ts K' next'
  chooses_go line env h a event ts K K' next next' carries on k =
      taken_goes line env h a event ts K K' _ _ carries (λ v i rest told. tests_go line env h v i rest K K' next next' carries on told) k

  -- ---- statements

  -- a part of a tree goes over to a front
  abbrev RunnerGoes : Runner → Runner → Type 1
  RunnerGoes body body' = (env : Env) (h : Handled) (event : ℕ) (ts : List Own) (K K' : After) → Carries more K K' → body env h event (ts ++ more) K → body' env h event ts K'

  loops_go : (line : ℕ) (a : Expr) (body body' : Runner) → RunnerGoes body body' → (n : ℕ) → RunnerGoes (Loops scene line a body n) (Loops scene' line a body' n)
  loops_go line a body body' runs zero env h event ts K K' carries k =
      rounded_goes ts more _ _ _ _ (carries.cut env event)
      (λ mid told. chooses_go line env h a event mid K K' _ _ carries (λ b i rest chosen. by_truth_goes b _ _ _ _ (λ never. never) (carries.goes env Normal i rest) chosen) told) k
  loops_go line a body body' runs (suc n) env h event ts K K' carries k =
      rounded_goes ts more _ _ _ _ (carries.cut env event)
      (λ mid told. chooses_go line env h a event mid K K' _ _ carries
      (λ b i rest chosen. by_truth_goes b _ _ _ _
      (runs env h i rest _ _ (turn_goes more K K' _ _ carries (λ env1 j left again. loops_go line a body body' runs n env1 h j left K K' carries again)))
      (carries.goes env Normal i rest) chosen) told) k

  behind_goes : (o : Outcome) (K K' : After) → Carries more K K' → Carries more (Behind_finally K o) (Behind_finally K' o)
  behind_goes o K K' carries = record { goes = λ env o2 event rest k. carries.goes env (behind o o2) event rest k; cut = carries.cut }

  on_finally_goes : (final final' : Runner) (h : Handled) (K K' : After) → RunnerGoes final final' → Carries more K K' → Carries more (On_finally final h K) (On_finally final' h K')
  on_finally_goes final final' h K K' goes carries = record { goes = by; cut = carries.cut }
    where
      by : Goes more (On_finally final h K) (On_finally final' h K')
      by env Normal event rest k = goes env h event rest _ _ (behind_goes Normal K K' carries) k
      by env Breaks event rest k = goes env h event rest _ _ (behind_goes Breaks K K' carries) k
      by env Continues event rest k = goes env h event rest _ _ (behind_goes Continues K K' carries) k
      by env (Returns v) event rest k = goes env h event rest _ _ (behind_goes (Returns v) K K' carries) k
      by env (Raises e) event rest k = goes env (Some e) event rest _ _ (behind_goes (Raises e) K K' carries) k
      by env Cut event rest k = carries.goes env Cut event rest k

  finally_goes : (body body' final final' : Runner) → RunnerGoes body body' → RunnerGoes final final' → RunnerGoes (Finally body final) (Finally body' final')
  finally_goes body body' final final' runs ends env h event ts K K' carries k = runs env h event ts _ _ (on_finally_goes final final' h K K' ends carries) k

  forgets_go : (x : Name) → RunnerGoes (Forgets x) (Forgets x)
  forgets_go x env h event ts K K' carries k = carries.goes (set_local x None env) Normal event ts k

  handles_go : (x : Option Name) (suite suite' : Runner) → RunnerGoes suite suite' → RunnerGoes (Handles x suite) (Handles x suite')
  handles_go None suite suite' runs env h event ts K K' carries k = runs env h event ts K K' carries k
  handles_go (Some x) suite suite' runs env h event ts K K' carries k = finally_goes suite suite' (Forgets x) (Forgets x) runs (forgets_go x) env h event ts K K' carries k

  on_raise_goes : (K K' : After) (caught caught' : PyBaseExceptionRef → Env → ℕ → List Own → Type 0) → Carries more K K'
      → ((e : PyBaseExceptionRef) (env : Env) (event : ℕ) (rest : List Own) → caught e env event (rest ++ more) → caught' e env event rest) → Carries more (On_raise K caught) (On_raise K' caught')
  on_raise_goes K K' caught caught' carries on = record { goes = by; cut = carries.cut }
    where
      by : Goes more (On_raise K caught) (On_raise K' caught')
      by env Normal event rest k = carries.goes env Normal event rest k
      by env Breaks event rest k = carries.goes env Breaks event rest k
      by env Continues event rest k = carries.goes env Continues event rest k
      by env (Returns v) event rest k = carries.goes env (Returns v) event rest k
      by env (Raises e) event rest k = on e env event rest k
      by env Cut event rest k = carries.goes env Cut event rest k

  reraises_go : (line : ℕ) → RunnerGoes (Reraises scene line) (Reraises scene' line)
  reraises_go line env h event ts K K' carries k =
      asked_goes line env h request.Handled event ts K K' _ _ carries (λ v i rest done. carries.goes env (Raises (as_exception v)) i rest done) k

  leaves_go : (line : ℕ) (m : Obj) (h : Handled) (event : ℕ) (ts : List Own) (K K' : AfterValue) → ValueGoes more K K' → K' Stopped event []
      → Leaves scene line m h event (ts ++ more) K → Leaves scene' line m h event ts K'
  leaves_go line m h event ts K K' goes cut (inl (e, k)) = inl (empty_front ts more e, cut)
  leaves_go line m h event ts K K' goes cut (inr (c, v, t, is_c, is_v, is_t, told)) =
      let same : (o : Obj) → _ = λ o. payload_grown scene.objects scene'.objects o payload.None widens.objects in
      inr (c, v, t, same c is_c, same v is_v, same t is_t, requests_go line (request.Exit m c v t) h event ts K K' goes cut told)

  leaves_by_goes : (line : ℕ) (m : Obj) (e : PyBaseExceptionRef) (event : ℕ) (ts : List Own) (K K' : AfterValue) → ValueGoes more K K' → K' Stopped event []
      → LeavesBy scene line m e event (ts ++ more) K → LeavesBy scene' line m e event ts K'
  leaves_by_goes line m e event ts K K' goes cut (inl (none, k)) = inl (empty_front ts more none, cut)
  leaves_by_goes line m e event ts K K' goes cut (inr (body, t, has, told)) =
      inr (
        body,
        t,
        payload_grown scene.objects scene'.objects (as_object e) (payload.Exception body) widens.objects has,
        requests_go line (request.Exit m (class_object body.class) (as_object e) t) (Some e) event ts K K' goes cut told,
      )

  -- behind an exit without a raise
  left_goes : (line : ℕ) (m : Obj) (h : Handled) (env : Env) (o : Outcome) (event : ℕ) (ts : List Own) (K K' : After) → Carries more K K'
      → Leaves scene line m h event (ts ++ more) (Use env K (λ w. K env o)) → Leaves scene' line m h event ts (Use env K' (λ w. K' env o))
  left_goes line m h env o event ts K K' carries k =
      leaves_go line m h event ts _ _ (use_goes env more K K' _ _ carries.goes (λ w i rest done. carries.goes env o i rest done)) (carries.cut env event) k

  on_exit_goes : (line : ℕ) (m : Obj) (h : Handled) (K K' : After) → Carries more K K' → Carries more (On_exit scene line m h K) (On_exit scene' line m h K')
  on_exit_goes line m h K K' carries = record { goes = by; cut = carries.cut }
    where
      by : Goes more (On_exit scene line m h K) (On_exit scene' line m h K')
      by env Normal event rest k = left_goes line m h env Normal event rest K K' carries k
      by env Breaks event rest k = left_goes line m h env Breaks event rest K K' carries k
      by env Continues event rest k = left_goes line m h env Continues event rest K K' carries k
      by env (Returns v) event rest k = left_goes line m h env (Returns v) event rest K K' carries k
      by env (Raises e) event rest k =
          leaves_by_goes line m e event rest _ _
          (use_goes env more K K' _ _ carries.goes
          (λ w i mid told. tests_go line env h w i mid K K' _ _ carries
          (λ b j left chosen. by_truth_goes b _ _ _ _ (carries.goes env Normal j left) (carries.goes env (Raises e) j left) chosen) told)) (carries.cut env event) k
      by env Cut event rest k = carries.goes env Cut event rest k

  manages_goes : (line : ℕ) (m : Obj) (x : Option Name) (v : Obj) (body body' : Runner) → RunnerGoes body body' → RunnerGoes (Manages scene line m x v body) (Manages scene' line m x v body')
  manages_goes line m x v body body' runs env h event ts K K' carries (inl (e, k)) = inl (empty_front ts more e, carries.cut env event)
  manages_goes line m x v body body' runs env h event ts K K' carries (inr (p, has, k)) =
      inr (
        p,
        payload_grown scene.objects scene'.objects m p widens.objects has,
        by_truth_goes (is_manager p) _ _ _ _ (runs (bind x v env) h event ts _ _ (on_exit_goes line m h K K' carries))
            (asked_goes line env h (request.NoExit m) event ts K K' _ _ carries (λ u i mid never. never)) k,
      )

  mutual
    runs_go : (f : Form) (line : ℕ) → RunnerGoes (Runs scene line f) (Runs scene' line f)
    runs_go (Assign x e) line env h event ts K K' carries k =
        evaluates_goes e line env h event ts _ _ (use_goes env more K K' _ _ carries.goes (λ v i rest done. carries.goes (set_local x (Some v) env) Normal i rest done)) (carries.cut env) k
    runs_go (Do o es) line env h event ts K K' carries k =
        evaluates_goes (Operate o es) line env h event ts _ _ (use_goes env more K K' _ _ carries.goes (λ v i rest done. carries.goes env Normal i rest done)) (carries.cut env) k
    runs_go (Show a) line env h event ts K K' carries k =
        taken_goes line env h a event ts K K' _ _ carries
        (λ v i rest told. asked_goes line env h (request.Show v) i rest K K' _ _ carries (λ u j left done. carries.goes env Normal j left done) told) k
    runs_go (Return a) line env h event ts K K' carries k = taken_goes line env h a event ts K K' _ _ carries (λ v i rest done. carries.goes env (Returns v) i rest done) k
    runs_go (Raise a) line env h event ts K K' carries k =
        taken_goes line env h a event ts K K' _ _ carries
        (λ v i rest told. asked_goes line env h (request.Raisable v) i rest K K' _ _ carries (λ w j left done. carries.goes env (Raises (as_exception w)) j left done) told) k
    runs_go Reraise line env h event ts K K' carries k = reraises_go line env h event ts K K' carries k
    runs_go Break line env h event ts K K' carries k = carries.goes env Breaks event ts k
    runs_go Continue line env h event ts K K' carries k = carries.goes env Continues event ts k
    runs_go Pass line env h event ts K K' carries k = carries.goes env Normal event ts k
    runs_go (If a s) line env h event ts K K' carries k =
        chooses_go line env h a event ts K K' _ _ carries (λ b i rest chosen. by_truth_goes b _ _ _ _ (suite_goes s env h i rest K K' carries) (carries.goes env Normal i rest) chosen) k
    runs_go (IfElse a s t) line env h event ts K K' carries k =
        chooses_go line env h a event ts K K' _ _ carries (λ b i rest chosen. by_truth_goes b _ _ _ _ (suite_goes s env h i rest K K' carries) (suite_goes t env h i rest K K' carries) chosen) k
    runs_go (While a s) line env h event ts K K' carries (n, k) =
        (n, loops_go line a (RunsSuite scene s) (RunsSuite scene' s) (λ env1 h1 i mid K1 K1' carries1 told. suite_goes s env1 h1 i mid K1 K1' carries1 told) n env h event ts K K' carries k)
    runs_go (TryExcept s cs) line env h event ts K K' carries k =
        suite_goes s env h event ts _ _ (on_raise_goes K K' _ _ carries (λ e env1 i rest told. tries_go cs line e env1 (Some e) i rest K K' carries told)) k
    runs_go (TryFinally s t) line env h event ts K K' carries k =
        finally_goes (RunsSuite scene s) (RunsSuite scene' s) (RunsSuite scene t) (RunsSuite scene' t) (λ env1 h1 i mid K1 K1' carries1 told. suite_goes s env1 h1 i mid K1 K1' carries1 told)
        (λ env1 h1 i mid K1 K1' carries1 told. suite_goes t env1 h1 i mid K1 K1' carries1 told) env h event ts K K' carries k
    runs_go (WithForm a x s) line env h event ts K K' carries k =
        taken_goes line env h a event ts K K' _ _ carries
        (λ m i mid told. asked_goes line env h (request.Enter m) i mid K K' _ _ carries
        (λ v j rest run. manages_goes line m x v (RunsSuite scene s) (RunsSuite scene' s) (λ env1 h1 i1 mid1 K1 K1' carries1 told1. suite_goes s env1 h1 i1 mid1 K1 K1' carries1 told1)
        env h j rest K K' carries run) told) k

    -- the law for statements, where what follows may be cut anywhere
    suite_goes : (s : Suite) → RunnerGoes (RunsSuite scene s) (RunsSuite scene' s)
    suite_goes nothing env h event ts K K' carries (inl (e, k)) = inl (empty_front ts more e, carries.cut env event)
    suite_goes nothing env h event ts K K' carries (inr k) = inr (carries.goes env Normal event ts k)
    suite_goes (first n f rest) env h event ts K K' carries (inl (e, k)) = inl (empty_front ts more e, carries.cut env event)
    suite_goes (first n f rest) env h event ts K K' carries (inr k) =
        inr (runs_go f n env h event ts _ _ (normal_goes more K K' _ _ carries (λ env1 i mid told. suite_goes rest env1 h i mid K K' carries told)) k)

    tries_go : (cs : Clauses) (line : ℕ) (e : PyBaseExceptionRef) → RunnerGoes (Tries scene line cs e) (Tries scene' line cs e)
    tries_go no_more line e env h event ts K K' carries k = reraises_go line env h event ts K K' carries k
    tries_go (clause n c x s rest) line e env h event ts K K' carries k =
        taken_goes n env h (Leaf (atom.Name c)) event ts K K' _ _ carries
        (λ v i mid told. asked_goes n env h (request.Match (as_object e) v) i mid K K' _ _ carries
        (λ w j mid2 tested. tests_go n env h w j mid2 K K' _ _ carries
        (λ b l mid3 chosen. by_truth_goes b _ _ _ _
        (handles_go x (RunsSuite scene s) (RunsSuite scene' s) (λ env1 h1 m mid4 K1 K1' carries1 told1. suite_goes s env1 h1 m mid4 K1 K1' carries1 told1) (bind x (as_object e) env) h l mid3 K K' carries)
        (tries_go rest line e env h l mid3 K K' carries) chosen) tested) told) k

  -- ---- traces

  ended_goes : (e : Ending) (rest : List Own) → Ended e (rest ++ more) → Ended e rest
  ended_goes e [] k = inl refl
  ended_goes e (x ∷ rest) (inl k) = absurd (cc k)
  ended_goes e (x ∷ rest) (inr (at, k)) =
      let same : x ≡ Ends at e = cc k in
      let none : rest ++ more ≡ [] = cc k in
      inr (at, ap (λ y. y ∷ rest) same ∙ ap (λ l. Ends at e ∷ l) (empty_front rest more none))

  ends_go : Goes more (EndsBy scene) (EndsBy scene')
  ends_go env Normal event rest (inl e) = inl (empty_front rest more e)
  ends_go env Normal event rest (inr (v, has, k)) = inr (v, payload_grown scene.objects scene'.objects v payload.None widens.objects has, ended_goes _ rest k)
  ends_go env Breaks event rest k = k
  ends_go env Continues event rest k = k
  ends_go env (Returns v) event rest k = ended_goes _ rest k
  ends_go env (Raises e) event rest k = ended_goes _ rest k
  ends_go env Cut event rest k = empty_front rest more k

  entered_goes : (t : Tree) (args : List Obj) (event : ℕ) (w : ResumeHow) (ts : List Own) → Entered scene t args event w (ts ++ more) → Entered scene' t args event w ts
  entered_goes t args event how.Start ts k = suite_goes t.suite _ None event ts _ _ (record { goes = ends_go; cut = λ env i. refl }) k
  entered_goes t args event (how.Send v) ts k = k
  entered_goes t args event (how.Throw e) ts (is, may, k) = (is, widens.throws event None may, ended_goes _ ts k)

  begun_goes : (t : Tree) (args : List Obj) (ts : List Own) → IsBegun scene t args (ts ++ more) → IsBegun scene' t args ts
  begun_goes t args [] k = tt
  begun_goes t args (Makes ∷ ts) k = k
  begun_goes t args (Resumes event h ∷ ts) k = entered_goes t args event h ts k
  begun_goes t args (Asks at r own ∷ ts) k = k
  begun_goes t args (Gets event w ∷ ts) k = k
  begun_goes t args (Rounds at ∷ ts) k = k
  begun_goes t args (Yields at v ∷ ts) k = k
  begun_goes t args (Ends at e ∷ ts) k = k

  -- a trace that goes on is a trace as far as it has come
  trace_goes : (t : Tree) (args : List Obj) (x : Own) (ts : List Own) → IsTrace scene t args ((x ∷ ts) ++ more) → IsTrace scene' t args (x ∷ ts)
  trace_goes t args x ts (arity, (us, e, k)) =
      let same : x ≡ Makes = cc e in
      let behind : us ≡ ts ++ more = cc e in
      (arity, (ts, ap (λ y. y ∷ ts) same, begun_goes t args ts (subst (λ (l : List Own). IsBegun scene t args l) behind k)))

pub traces_carry : TracesCarry
traces_carry scene scene' t args x ts more widens told = trace_goes scene scene' widens more t args x ts told
