-- Bodies look names up in the dict of the globals alone.
use Rattle.std.proofs.Common.{◌≡◌, ◌⊎◌, ℕ, zero, suc, inl, inr, Bool, true, false, List, [], ◌∷◌, Some, None, sym, subst}
use Rattle.std.specs.Prelude.{Option}
use Rattle.py_code.specs.declared.literal.BuiltinFn.{BuiltinFn}
use Rattle.py_code.specs.declared.literal.BuiltinFn.TheVariants as builtin
use Rattle.py_objects.specs.declared.refs.PyBaseExceptionRef.{PyBaseExceptionRef}
use Rattle.py_objects.specs.declared.payload.Payload.{Payload}
use Rattle.py_objects.specs.declared.payload.Payload.TheVariants as payload
use Rattle.py_objects.specs.declared.request.Request.{Request}
use Rattle.py_objects.specs.declared.request.Request.TheVariants as request
use Rattle.py_objects.specs.declared.event.Ending.{Ending}
use Rattle.py_objects.specs.declared.event.GotAnswer.{GotAnswer}
use Rattle.py_objects.specs.declared.event.GotAnswer.TheVariants as got
use Rattle.py_objects.specs.declared.event.ResumeHow.{ResumeHow}
use Rattle.py_objects.specs.declared.event.ResumeHow.TheVariants as how
use Rattle.py_objects.specs.Objects.{Obj, as_exception, as_object, class_object}
use Rattle.py_objects.specs.Callees.{send_request, throw_request, close_request, builtin_of, own_request, or_call, call_request, is_manager}
use Rattle.py_objects.specs.Own.{Own, Resumes}
use Rattle.py_objects.specs.Telling.{Value, Given, Failed, Stopped, AfterValue, IsLiteral, Answers, Answered, Asked, GoesOn, Resumed, Yielded, Rounded}
use Rattle.py_tree.specs.declared.expr.Atom.{Atom}
use Rattle.py_tree.specs.declared.expr.Atom.TheVariants as atom
use Rattle.py_tree.specs.declared.expr.Operator.{Operator}
use Rattle.py_tree.specs.declared.expr.Operator.TheVariants as operator
use Rattle.py_tree.specs.Operators.{Way, Asks_one, Asks_two, Calls_it, Yields_it, way_of}
use Rattle.py_tree.specs.Tree.{Name, Expr, Leaf, Operate, Exprs, no_operands, operand, Form, Assign, Do, Show, Return, Raise, Reraise, Break, Continue, Pass, If, IfElse, While, TryExcept, TryFinally, With as WithForm, Suite, nothing, first, Clauses, no_more, clause, Tree}
use Rattle.py_tree.specs.Binding.{Env, find_local, set_local, bind}
use Rattle.py_tree.specs.Scene.{Scene}
use Rattle.py_tree.specs.Outcome.{Outcome, Normal, Breaks, Continues, Returns, Raises, Cut, Handled, After, Runner, With, Use, By_truth, Requests, Named, Loads, Calls, Finishes, Evaluates, EvaluatesAll, Tests, Chooses, On_normal, On_turn, On_raise, behind, Behind_finally, On_finally, Finally, Forgets, Handles, Loops, Leaves, On_exit, Manages, Reraises, Runs, RunsSuite, Tries}
use Rattle.py_tree.specs.Trace.{Ended, EndsBy, Entered, IsBegun, IsTrace}
use Rattle.py_determined.proofs.NamedBefore.{AsksIn, EachAsks}

-- D is what holds of that dict
module _ (D : Obj → Type 0) where
  -- what is told so
  abbrev Good : (ℕ → List Own → Type 0) → Type 0
  Good P = (i : ℕ) (ts : List Own) → P i ts → EachAsks D ts

  abbrev GoodValues : AfterValue → Type 0
  GoodValues K = (v : Value) → Good (K v)

  abbrev GoodAfter : After → Type 0
  GoodAfter K = (env : Env) (o : Outcome) → Good (K env o)

  abbrev GoodRunner : Runner → Type 1
  GoodRunner body = (env : Env) (h : Handled) (K : After) → GoodAfter K → Good (λ i ts. body env h i ts K)

  ends : (ts : List Own) → ts ≡ [] → EachAsks D ts
  ends ts is = subst (EachAsks D) (sym is) tt

  -- ---- words of tellings

  cut_good : (cut : ℕ → Type 0) (P : ℕ → List Own → Type 0) → Good P → Good (λ i ts. ((ts ≡ []) × cut i) ⊎ P i ts)
  cut_good cut P good i ts (inl ended) = ends ts ended.0
  cut_good cut P good i ts (inr told) = good i ts told

  answers_good : (w : GotAnswer) (K : AfterValue) → GoodValues K → Good (λ i ts. Answers w i ts K)
  answers_good (got.Value v) K good = good (Given v)
  answers_good (got.Raise e) K good = good (Failed e)
  answers_good (got.Stop v) K good = λ i ts never. absurd never

  answered_good : (K : AfterValue) → GoodValues K → Good (λ i ts. Answered i ts K)
  answered_good K good = cut_good _ _ (λ i ts (k, w, mid, is, told). subst (EachAsks D) (sym is) (answers_good w K good k mid told))

  asked_good : (units : ℕ → Bool) (r : Request) (h : Handled) (K : AfterValue) → AsksIn D r → GoodValues K → Good (λ i ts. Asked units r h i ts K)
  asked_good units r h K bare good = cut_good _ _ (λ i ts (at, mid, of_line, is, told). subst (EachAsks D) (sym is) (bare, answered_good K good i mid told))

  goes_good : (throws : ℕ → Bool) (w : ResumeHow) (K : AfterValue) → GoodValues K → Good (λ i ts. GoesOn throws w i ts K)
  goes_good throws how.Start K good = λ i ts never. absurd never
  goes_good throws (how.Send v) K good = good (Given v)
  goes_good throws (how.Throw e) K good = λ i ts told. good (Failed e) i ts told.1

  resumed_good : (throws : ℕ → Bool) (K : AfterValue) → GoodValues K → Good (λ i ts. Resumed throws i ts K)
  resumed_good throws K good = cut_good _ _ (λ i ts (k, w, mid, is, goes). subst (EachAsks D) (sym is) (goes_good throws w K good k mid goes))

  yielded_good : (units throws : ℕ → Bool) (v : Obj) (K : AfterValue) → GoodValues K → Good (λ i ts. Yielded units throws v i ts K)
  yielded_good units throws v K good = cut_good _ _ (λ i ts (at, mid, of_line, is, told). subst (EachAsks D) (sym is) (resumed_good throws K good i mid told))

  rounded_good : (cut : ℕ → Type 0) (P : ℕ → List Own → Type 0) → Good P → Good (λ i ts. Rounded ts (cut i) (P i))
  rounded_good cut P good = cut_good _ _ (λ i ts (at, mid, is, told). subst (EachAsks D) (sym is) (good i mid told))

  literal_good : (store : List Payload) (p : Payload) (K : AfterValue) → GoodValues K → Good (λ i ts. IsLiteral store p i ts K)
  literal_good store p K good = cut_good _ _ (λ i ts (v, has, told). good (Given v) i ts told)

  -- ---- what follows

  with_good : (K : AfterValue) (next : Obj → ℕ → List Own → Type 0) → GoodValues K → ((v : Obj) → Good (next v)) → GoodValues (With K next)
  with_good K next good on (Given v) = on v
  with_good K next good on (Failed e) = good (Failed e)
  with_good K next good on Stopped = good Stopped

  use_good : (env : Env) (K : After) (next : Obj → ℕ → List Own → Type 0) → GoodAfter K → ((v : Obj) → Good (next v)) → GoodValues (Use env K next)
  use_good env K next good on (Given v) = on v
  use_good env K next good on (Failed e) = good env (Raises e)
  use_good env K next good on Stopped = good env Cut

  truth_good : (b : Bool) (P Q : ℕ → List Own → Type 0) → Good P → Good Q → Good (λ i ts. By_truth b (P i ts) (Q i ts))
  truth_good true P Q held failed = held
  truth_good false P Q held failed = failed

  normal_good : (K : After) (next : Env → ℕ → List Own → Type 0) → GoodAfter K → ((env : Env) → Good (next env)) → GoodAfter (On_normal K next)
  normal_good K next good on env Normal = on env
  normal_good K next good on env Breaks = good env Breaks
  normal_good K next good on env Continues = good env Continues
  normal_good K next good on env (Returns v) = good env (Returns v)
  normal_good K next good on env (Raises e) = good env (Raises e)
  normal_good K next good on env Cut = good env Cut

  turn_good : (K : After) (next : Env → ℕ → List Own → Type 0) → GoodAfter K → ((env : Env) → Good (next env)) → GoodAfter (On_turn K next)
  turn_good K next good on env Normal = on env
  turn_good K next good on env Breaks = good env Normal
  turn_good K next good on env Continues = on env
  turn_good K next good on env (Returns v) = good env (Returns v)
  turn_good K next good on env (Raises e) = good env (Raises e)
  turn_good K next good on env Cut = good env Cut

  raise_good : (K : After) (caught : PyBaseExceptionRef → Env → ℕ → List Own → Type 0) → GoodAfter K → ((e : PyBaseExceptionRef) (env : Env) → Good (caught e env)) → GoodAfter (On_raise K caught)
  raise_good K caught good on env Normal = good env Normal
  raise_good K caught good on env Breaks = good env Breaks
  raise_good K caught good on env Continues = good env Continues
  raise_good K caught good on env (Returns v) = good env (Returns v)
  raise_good K caught good on env (Raises e) = on e env
  raise_good K caught good on env Cut = good env Cut

  behind_good : (K : After) (o : Outcome) → GoodAfter K → GoodAfter (Behind_finally K o)
  behind_good K o good env o2 = good env (behind o o2)

  on_finally_good : (final : Runner) (h : Handled) (K : After) → GoodRunner final → GoodAfter K → GoodAfter (On_finally final h K)
  on_finally_good final h K runs good env Normal = runs env h _ (behind_good K Normal good)
  on_finally_good final h K runs good env Breaks = runs env h _ (behind_good K Breaks good)
  on_finally_good final h K runs good env Continues = runs env h _ (behind_good K Continues good)
  on_finally_good final h K runs good env (Returns v) = runs env h _ (behind_good K (Returns v) good)
  on_finally_good final h K runs good env (Raises e) = runs env (Some e) _ (behind_good K (Raises e) good)
  on_finally_good final h K runs good env Cut = good env Cut

  finally_good : (body final : Runner) → GoodRunner body → GoodRunner final → GoodRunner (Finally body final)
  finally_good body final runs last env h K good = runs env h _ (on_finally_good final h K last good)

  handles_good : (x : Option Name) (suite : Runner) → GoodRunner suite → GoodRunner (Handles x suite)
  handles_good None suite runs = runs
  handles_good (Some x) suite runs = finally_good suite (Forgets x) runs (λ env h K good. good (set_local x None env) Normal)

  -- ---- what a call asks

  send_bare : (f : Obj) (vs us : List Obj) → AsksIn D (or_call f vs (send_request us))
  send_bare f vs [] = tt
  send_bare f vs (g ∷ []) = tt
  send_bare f vs (g ∷ v ∷ []) = tt
  send_bare f vs (g ∷ v ∷ w ∷ us) = tt

  throw_bare : (f : Obj) (vs us : List Obj) → AsksIn D (or_call f vs (throw_request us))
  throw_bare f vs [] = tt
  throw_bare f vs (g ∷ []) = tt
  throw_bare f vs (g ∷ c ∷ []) = tt
  throw_bare f vs (g ∷ c ∷ v ∷ []) = tt
  throw_bare f vs (g ∷ c ∷ v ∷ w ∷ us) = tt

  close_bare : (f : Obj) (vs us : List Obj) → AsksIn D (or_call f vs (close_request us))
  close_bare f vs [] = tt
  close_bare f vs (g ∷ []) = tt
  close_bare f vs (g ∷ v ∷ us) = tt

  own_bare : (b : Option BuiltinFn) (f : Obj) (vs : List Obj) → AsksIn D (or_call f vs (own_request b vs))
  own_bare None f vs = tt
  own_bare (Some builtin.Send) f vs = send_bare f vs vs
  own_bare (Some builtin.Throw) f vs = throw_bare f vs vs
  own_bare (Some builtin.Close) f vs = close_bare f vs vs
  own_bare (Some _) f vs = tt

  -- ---- operators

  abbrev AskBare : Way → Type 0
  AskBare (Asks_one r) = (v : Obj) → AsksIn D (r v)
  AskBare (Asks_two r) = (v w : Obj) → AsksIn D (r v w)
  AskBare way = Unit {0}

  ask_bare : (o : Operator) → AskBare (way_of o)
  ask_bare operator.Add = λ v w. tt
  ask_bare operator.Sub = λ v w. tt
  ask_bare operator.Lt = λ v w. tt
  ask_bare operator.Eq = λ v w. tt
  ask_bare operator.Send = λ v w. tt
  ask_bare operator.Throw = λ v w. tt
  ask_bare operator.Close = λ v. tt
  ask_bare o = tt

  module _ (scene : Scene) (globals : D scene.globals) where
    -- ---- loads and requests

    requests_good : (line : ℕ) (r : Request) (h : Handled) (K : AfterValue) → AsksIn D r → GoodValues K → Good (λ i ts. Requests scene line r h i ts K)
    requests_good line r h K bare good = asked_good (λ at. scene.is_of at line) r h K bare good

    named_good : (line : ℕ) (found : Option (Option Obj)) (x : Name) (h : Handled) (K : AfterValue) → GoodValues K → Good (λ i ts. Named scene line found x h i ts K)
    named_good line None x h K good = requests_good line (request.Global scene.globals x) h K globals good
    named_good line (Some None) x h K good = requests_good line (request.Unbound x) h K tt good
    named_good line (Some (Some v)) x h K good = good (Given v)

    loads_good : (line : ℕ) (env : Env) (h : Handled) (a : Atom) (K : AfterValue) → GoodValues K → Good (λ i ts. Loads scene line env h a i ts K)
    loads_good line env h atom.None K good = literal_good scene.objects payload.None K good
    loads_good line env h (atom.Bool b) K good = literal_good scene.objects (payload.Bool b) K good
    loads_good line env h (atom.Int n) K good = literal_good scene.objects (payload.Int n) K good
    loads_good line env h (atom.Str s) K good = literal_good scene.objects (payload.Str s) K good
    loads_good line env h (atom.Name x) K good = named_good line (find_local x env) x h K good

    calls_good : (line : ℕ) (f : Obj) (vs : List Obj) (h : Handled) (K : AfterValue) → GoodValues K → Good (λ i ts. Calls scene line f vs h i ts K)
    calls_good line f vs h K good = cut_good _ _ (λ i ts (p, has, told). requests_good line (call_request p f vs) h K (own_bare (builtin_of p) f vs) good i ts told)

    finishes_good : (way : Way) → AskBare way → (line : ℕ) (vs : List Obj) (h : Handled) (K : AfterValue) → GoodValues K → Good (λ i ts. Finishes scene line way vs h i ts K)
    finishes_good (Asks_one r) bare line (v ∷ []) h K good = requests_good line (r v) h K (bare v) good
    finishes_good (Asks_two r) bare line (v ∷ w ∷ []) h K good = requests_good line (r v w) h K (bare v w) good
    finishes_good Calls_it bare line (f ∷ vs) h K good = calls_good line f vs h K good
    finishes_good Yields_it bare line (v ∷ []) h K good = yielded_good (λ at. scene.is_of at line) (λ i. scene.throws_under i h) v K good
    finishes_good way bare line vs h K good = λ i ts told. ends ts told.0

    mutual
      evaluates_good : (e : Expr) (line : ℕ) (env : Env) (h : Handled) (K : AfterValue) → GoodValues K → Good (λ i ts. Evaluates scene line env h e i ts K)
      evaluates_good (Leaf a) line env h K good = loads_good line env h a K good
      evaluates_good (Operate o es) line env h K good = all_good es line env h K _ good (λ vs. finishes_good (way_of o) (ask_bare o) line vs h K good)

      all_good : (es : Exprs) (line : ℕ) (env : Env) (h : Handled) (K : AfterValue) (next : List Obj → ℕ → List Own → Type 0) → GoodValues K → ((vs : List Obj) → Good (next vs))
          → Good (λ i ts. EvaluatesAll scene line env h es i ts K next)
      all_good no_operands line env h K next good on = on []
      all_good (operand e es) line env h K next good on =
          evaluates_good e line env h _ (with_good K _ good (λ v. all_good es line env h K (λ vs. next (v ∷ vs)) good (λ vs. on (v ∷ vs))))

    -- a statement's expression, and what is asked for it
    taken_good : (line : ℕ) (env : Env) (h : Handled) (a : Expr) (K : After) (next : Obj → ℕ → List Own → Type 0) → GoodAfter K → ((v : Obj) → Good (next v))
        → Good (λ i ts. Evaluates scene line env h a i ts (Use env K next))
    taken_good line env h a K next good on = evaluates_good a line env h _ (use_good env K next good on)

    answer_good : (line : ℕ) (env : Env) (h : Handled) (r : Request) (K : After) (next : Obj → ℕ → List Own → Type 0) → AsksIn D r → GoodAfter K → ((v : Obj) → Good (next v))
        → Good (λ i ts. Requests scene line r h i ts (Use env K next))
    answer_good line env h r K next bare good on = requests_good line r h _ bare (use_good env K next good on)

    tests_good : (line : ℕ) (env : Env) (h : Handled) (v : Obj) (K : After) (next : Bool → ℕ → List Own → Type 0) → GoodAfter K → ((b : Bool) → Good (next b)) → Good (λ i ts. Tests scene line env h v i ts K next)
    tests_good line env h v K next good on = answer_good line env h (request.Truth v) K _ tt good (λ w i ts (b, has, told). on b i ts told)

    chooses_good : (line : ℕ) (env : Env) (h : Handled) (a : Expr) (K : After) (next : Bool → ℕ → List Own → Type 0) → GoodAfter K → ((b : Bool) → Good (next b)) → Good (λ i ts. Chooses scene line env h a i ts K next)
    chooses_good line env h a K next good on = taken_good line env h a K _ good (λ v. tests_good line env h v K next good on)

    -- ---- statements

    rounds_good : (line : ℕ) (a : Expr) (env : Env) (h : Handled) (K : After) (P : ℕ → List Own → Type 0) → GoodAfter K → Good P
        → Good (λ i ts. Rounded ts (K env Cut i []) (λ mid. Chooses scene line env h a i mid K (λ b k left. By_truth b (P k left) (K env Normal k left))))
    rounds_good line a env h K P good turns = rounded_good _ _ (chooses_good line env h a K _ good (λ b. truth_good b _ _ turns (good env Normal)))

    loops_good : (line : ℕ) (a : Expr) (body : Runner) → GoodRunner body → (n : ℕ) → GoodRunner (Loops scene line a body n)
    loops_good line a body runs zero env h K good = rounds_good line a env h K _ good (λ i ts never. absurd never)
    loops_good line a body runs (suc n) env h K good = rounds_good line a env h K _ good (runs env h _ (turn_good K _ good (λ env1. loops_good line a body runs n env1 h K good)))

    reraises_good : (line : ℕ) → GoodRunner (Reraises scene line)
    reraises_good line env h K good = answer_good line env h request.Handled K _ tt good (λ v. good env (Raises (as_exception v)))

    leaves_good : (line : ℕ) (m : Obj) (h : Handled) (env : Env) (o : Outcome) (K : After) → GoodAfter K → Good (λ i ts. Leaves scene line m h i ts (Use env K (λ w. K env o)))
    leaves_good line m h env o K good =
        cut_good _ _ (λ i ts (c, v, t, is_c, is_v, is_t, told). answer_good line env h (request.Exit m c v t) K _ tt good (λ w. good env o) i ts told)

    exit_good : (line : ℕ) (m : Obj) (h : Handled) (K : After) → GoodAfter K → GoodAfter (On_exit scene line m h K)
    exit_good line m h K good env Normal = leaves_good line m h env Normal K good
    exit_good line m h K good env Breaks = leaves_good line m h env Breaks K good
    exit_good line m h K good env Continues = leaves_good line m h env Continues K good
    exit_good line m h K good env (Returns v) = leaves_good line m h env (Returns v) K good
    exit_good line m h K good env (Raises e) =
        cut_good _ _ (λ i ts (body, t, has, told). answer_good line env (Some e) (request.Exit m (class_object body.class) (as_object e) t) K _ tt good
        (λ w. tests_good line env h w K _ good (λ b. truth_good b _ _ (good env Normal) (good env (Raises e)))) i ts told)
    exit_good line m h K good env Cut = good env Cut

    manages_good : (line : ℕ) (m : Obj) (x : Option Name) (v : Obj) (body : Runner) → GoodRunner body → GoodRunner (Manages scene line m x v body)
    manages_good line m x v body runs env h K good =
        cut_good _ _ (λ i ts (p, has, told). truth_good (is_manager p) _ _ (runs (bind x v env) h _ (exit_good line m h K good))
        (answer_good line env h (request.NoExit m) K _ tt good (λ u k mid never. absurd never)) i ts told)

    mutual
      runs_good : (f : Form) (line : ℕ) → GoodRunner (Runs scene line f)
      runs_good (Assign x e) line env h K good = taken_good line env h e K _ good (λ v. good (set_local x (Some v) env) Normal)
      runs_good (Do o es) line env h K good = taken_good line env h (Operate o es) K _ good (λ v. good env Normal)
      runs_good (Show a) line env h K good = taken_good line env h a K _ good (λ v. answer_good line env h (request.Show v) K _ tt good (λ u. good env Normal))
      runs_good (Return a) line env h K good = taken_good line env h a K _ good (λ v. good env (Returns v))
      runs_good (Raise a) line env h K good = taken_good line env h a K _ good (λ v. answer_good line env h (request.Raisable v) K _ tt good (λ w. good env (Raises (as_exception w))))
      runs_good Reraise line env h K good = reraises_good line env h K good
      runs_good Break line env h K good = good env Breaks
      runs_good Continue line env h K good = good env Continues
      runs_good Pass line env h K good = good env Normal
      runs_good (If a s) line env h K good = chooses_good line env h a K _ good (λ b. truth_good b _ _ (suites_good s env h K good) (good env Normal))
      runs_good (IfElse a s t) line env h K good = chooses_good line env h a K _ good (λ b. truth_good b _ _ (suites_good s env h K good) (suites_good t env h K good))
      runs_good (While a s) line env h K good = λ i ts (n, told). loops_good line a (RunsSuite scene s) (suites_good s) n env h K good i ts told
      runs_good (TryExcept s cs) line env h K good = suites_good s env h _ (raise_good K _ good (λ e env1. tries_good cs line e env1 (Some e) K good))
      runs_good (TryFinally s t) line env h K good = finally_good (RunsSuite scene s) (RunsSuite scene t) (suites_good s) (suites_good t) env h K good
      runs_good (WithForm a x s) line env h K good =
          taken_good line env h a K _ good
          (λ m. answer_good line env h (request.Enter m) K _ tt good (λ v. manages_good line m x v (RunsSuite scene s) (suites_good s) env h K good))

      suites_good : (s : Suite) → GoodRunner (RunsSuite scene s)
      suites_good nothing env h K good = cut_good _ _ (good env Normal)
      suites_good (first n f rest) env h K good = cut_good _ _ (runs_good f n env h _ (normal_good K _ good (λ env1. suites_good rest env1 h K good)))

      tries_good : (cs : Clauses) (line : ℕ) (e : PyBaseExceptionRef) → GoodRunner (Tries scene line cs e)
      tries_good no_more line e env h K good = reraises_good line env h K good
      tries_good (clause n c x s rest) line e env h K good =
          taken_good n env h (Leaf (atom.Name c)) K _ good
          (λ v. answer_good n env h (request.Match (as_object e) v) K _ tt good
          (λ w. tests_good n env h w K _ good
          (λ b. truth_good b _ _ (handles_good x (RunsSuite scene s) (suites_good s) (bind x (as_object e) env) h K good) (tries_good rest line e env h K good))))

    -- ---- traces

    ended_good : (e : Ending) (ts : List Own) → Ended e ts → EachAsks D ts
    ended_good e ts (inl is) = ends ts is
    ended_good e ts (inr (at, is)) = subst (EachAsks D) (sym is) tt

    last_good : GoodAfter (EndsBy scene)
    last_good env Normal i ts (inl is) = ends ts is
    last_good env Normal i ts (inr (v, has, ended)) = ended_good _ ts ended
    last_good env Breaks i ts never = absurd never
    last_good env Continues i ts never = absurd never
    last_good env (Returns v) i ts ended = ended_good _ ts ended
    last_good env (Raises e) i ts ended = ended_good _ ts ended
    last_good env Cut i ts is = ends ts is

    entered_good : (t : Tree) (vs : List Obj) (k : ℕ) (w : ResumeHow) (ts : List Own) → Entered scene t vs k w ts → EachAsks D ts
    entered_good t vs k how.Start ts told = suites_good t.suite _ None _ last_good k ts told
    entered_good t vs k (how.Send v) ts never = absurd never
    entered_good t vs k (how.Throw e) ts told = ended_good _ ts told.2

    begun_good : (t : Tree) (vs : List Obj) (ts : List Own) → IsBegun scene t vs ts → EachAsks D ts
    begun_good t vs [] told = tt
    begun_good t vs (Resumes k w ∷ ts) told = entered_good t vs k w ts told
    begun_good t vs (_ ∷ ts) told = absurd told

    pub trace_good : (t : Tree) (vs : List Obj) (ts : List Own) → IsTrace scene t vs ts → EachAsks D ts
    trace_good t vs ts (arity, (us, is, told)) = subst (EachAsks D) (sym is) (begun_good t vs us told)
