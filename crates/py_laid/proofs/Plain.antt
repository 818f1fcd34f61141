-- Laid statements without blocks of their own run as those of the tree: what is bound, dropped, shown, returned or raised,
-- jumps out of loops, suites behind a test, and statements in order.
use Rattle.std.proofs.Common.{◌<◌, ◌≤◌, ℕ, List, [], ◌∷◌, Bool, refl, sym, subst, arith, inl, inr}
use Rattle.std.specs.Prelude.{Some, None}
use Rattle.py_code.specs.declared.instruction.Instruction.{Instruction}
use Rattle.py_objects.specs.declared.request.Request.TheVariants.{Raisable, Show as Shows}
use Rattle.py_objects.specs.Objects.{Obj, as_exception}
use Rattle.py_objects.specs.Own.{Own}
use Rattle.py_rows.specs.declared.block.UnwindReason.{UnwindReason}
use Rattle.py_rows.specs.declared.block.UnwindReason.TheVariants as reason
use Rattle.py_rows.specs.Handled.{handled_in}
use Rattle.py_rows.specs.Unwinding.{unwinds}
use Rattle.py_tree.specs.declared.expr.Operator.{Operator}
use Rattle.py_tree.specs.Tree.{Name, Expr, Operate, Exprs, Form, Assign, Do, Show, Return, Raise, Reraise, Break, Continue, Pass, IfElse, Suite, nothing, first}
use Rattle.py_tree.specs.Binding.{Env, set_local}
use Rattle.py_tree.specs.Outcome.{Outcome, Normal, Breaks, Continues, Returns, Raises, Cut, Runner, Use, Evaluates, Requests, By_truth, Chooses, On_normal, Runs, RunsSuite}
use Rattle.py_laid.specs.Code.{Around, Scope, on, Stands, LaidTaken, LaidBreak, LaidContinue, LaidBranch, LaidForm, LaidSuite}
use Rattle.py_laid.proofs.Env.{env_of}
use Rattle.py_laid.proofs.Decoding.{begun, Execution, From, TellsFrom, parts_of, scene_of, step_left}
use Rattle.py_laid.proofs.Places.{stands_bound, expr_bound, target_bound, suite_bound}
use Rattle.py_laid.proofs.Lands.{Context, RunsFrom, May, outcome_of, use_passes}
use Rattle.py_laid.proofs.Asking.{asked_run, asked_once_run}
use Rattle.py_laid.proofs.Loads.{TestsBy, true_stays}
use Rattle.py_laid.proofs.Operating.{expr_run, chooses_run}
use Rattle.py_laid.proofs.Units.{chosen_cut, suite_pauses, target_run, jump_run, leaves_run, raised_run, reraises_run}

module _ (ex : Execution) (scope : Scope) where
  pub assign_run : (line at to : ℕ) (x : Name) (e : Expr) → LaidForm (parts_of ex) scope line (Assign x e) at to → RunsFrom ex scope.around at to (Runs (scene_of ex) line (Assign x e))
  assign_run line at to x e (stores, loads, binds) c low high later now last m event ts most same run =
      let after : stores < to = target_bound (parts_of ex) scope line (Some x) stores to binds in
      let env : Env = env_of ex.vars now.locals in
      expr_run ex c now same line e (Use env c.K (λ v. c.K (set_local x (Some v) env) Normal)) (use_passes ex c env _) scope at stores [] last m event ts most low (omega (arith, high, after)) loads run
      (λ v i. c.lands.pauses (set_local x (Some v) env) Normal i tt)
      (λ v j i us less more.
      target_run ex scope line stores to (Some x) binds v c.base c.blocks now c.limit (λ env1. c.K env1 Normal) (λ env1 l. c.lands.pauses env1 Normal l tt) later stores j i us
      (omega (arith, less, most)) same more)

  pub do_run : (line at to : ℕ) (o : Operator) (es : Exprs) → LaidForm (parts_of ex) scope line (Do o es) at to → RunsFrom ex scope.around at to (Runs (scene_of ex) line (Do o es))
  do_run line at to o es (drops, loads, pops) c low high later now last m event ts most same run =
      let after : drops < to = target_bound (parts_of ex) scope line None drops to pops in
      let env : Env = env_of ex.vars now.locals in
      expr_run ex c now same line (Operate o es) (Use env c.K (λ v. c.K env Normal)) (use_passes ex c env _) scope at drops [] last m event ts most low (omega (arith, high, after)) loads run
      (λ v i. c.lands.pauses env Normal i tt)
      (λ v j i us less more.
      target_run ex scope line drops to None pops v c.base c.blocks now c.limit (λ env1. c.K env1 Normal) (λ env1 l. c.lands.pauses env1 Normal l tt) later drops j i us
      (omega (arith, less, most)) same more)

  -- an expression, then the unit that takes it: V says what that tells, and may be cut at its front
  taken_run : (line at to : ℕ) (a : Expr) {op : Instruction} {arg : ℕ} (V : Obj → Runner) → LaidTaken (parts_of ex) scope line a op arg at to
      → ((c : Context ex scope.around) (env : Env) (v : Obj) (event : ℕ) → V v env (handled_in None c.blocks) event [] c.K)
      → ((asks : ℕ) (v : Obj) → Stands (parts_of ex) (on scope) line asks op arg to → (c : Context ex scope.around) → c.low ≤ asks → to ≤ c.high
      → TellsFrom ex to c.base c.blocks c.limit (λ env. c.K env Normal)
      → TellsFrom ex asks (v ∷ c.base) c.blocks c.limit (λ env event ts. V v env (handled_in None c.blocks) event ts c.K))
      → RunsFrom ex scope.around at to (λ env h event ts K. Evaluates (scene_of ex) line env h a event ts (Use env K (λ v i mid. V v env h i mid K)))
  taken_run line at to a V (asks, loads, stands) stops unit c low high later now last m event ts most same run =
      let before : at < asks = expr_bound (parts_of ex) a scope line at asks loads in
      let after : asks < to = stands_bound (parts_of ex) stands in
      let env : Env = env_of ex.vars now.locals in
      expr_run ex c now same line a (Use env c.K (λ v i mid. V v env (handled_in None c.blocks) i mid c.K)) (use_passes ex c env _) scope at asks [] last m event ts most low (omega (arith, high, after)) loads run
      (stops c env) (λ v j i us less more. unit asks v stands c (omega (arith, low, before)) high later now asks j i us (omega (arith, less, most)) same more)

  pub show_run : (line at to : ℕ) (a : Expr) → LaidForm (parts_of ex) scope line (Show a) at to → RunsFrom ex scope.around at to (Runs (scene_of ex) line (Show a))
  show_run line at to a laid =
      taken_run line at to a (λ v env h event ts K. Requests (scene_of ex) line (Shows v) h event ts (Use env K (λ u. K env Normal))) laid (λ c env v event. inl (refl, c.lands.pauses env Cut event tt))
      (λ asks v stands c low high later now last m event ts most same run.
      asked_once_run ex c now same _ (use_passes ex c (env_of ex.vars now.locals) _) stands (Shows v) (v ∷ c.base) [] last m event ts most low high (λ k p. refl) run (λ u. c.base) (λ k p u. refl)
      (λ u i. c.lands.pauses _ Normal i tt) (λ u j i us less done. later now to j i us (omega (arith, less, most)) same done))

  pub return_run : (line at to : ℕ) (a : Expr) → LaidForm (parts_of ex) scope line (Return a) at to → RunsFrom ex scope.around at to (Runs (scene_of ex) line (Return a))
  return_run line at to a laid =
      taken_run line at to a (λ v env h event ts K. K env (Returns v) event ts) laid (λ c env v event. c.lands.pauses env (Returns v) event tt)
      (λ asks v stands c low high later now last m event ts most same run.
      leaves_run ex c now now stands (reason.Returning v) (v ∷ c.base) c.blocks last m event ts tt most low high same (λ k p. refl) run)

  pub raise_run : (line at to : ℕ) (a : Expr) → LaidForm (parts_of ex) scope line (Raise a) at to → RunsFrom ex scope.around at to (Runs (scene_of ex) line (Raise a))
  raise_run line at to a laid =
      taken_run line at to a (λ v env h event ts K. Requests (scene_of ex) line (Raisable v) h event ts (Use env K (λ w. K env (Raises (as_exception w))))) laid
      (λ c env v event. inl (refl, c.lands.pauses env Cut event tt))
      (λ asks v stands c low high later now last m event ts most same run.
      asked_run ex c now same _ (use_passes ex c (env_of ex.vars now.locals) _) stands (Raisable v) (v ∷ c.base) [] last m event ts most low high (λ k p. refl) run
      (λ w i value. c.lands.pauses _ (Raises (as_exception w)) i tt)
      (λ w k p j i us from is_next less value left.
      raised_run ex c now same [] w k p j i us (omega (arith, low, from)) (omega (arith, high, is_next)) (omega (arith, less, most))
      (step_left ex j (unwinds (reason.Raising (as_exception w)) (begun k p c.base c.blocks now)) us left)))

  pub reraise_run : (line at to : ℕ) → LaidForm (parts_of ex) scope line Reraise at to → RunsFrom ex scope.around at to (Runs (scene_of ex) line Reraise)
  reraise_run line at to stands c low high later now last m event ts most same run = reraises_run ex c now same stands [] last m event ts most low high run

  pub pass_run : (line at to : ℕ) → LaidForm (parts_of ex) scope line Pass at to → RunsFrom ex scope.around at to (Runs (scene_of ex) line Pass)
  pass_run line at to is_at c low high later now last m event ts most same run = later now last m event ts most same (subst (λ (b : ℕ). From ex m b last c.base c.blocks now ts) (sym is_at) run)

  -- ---- suites

  -- a suite that is jumped over, unless `stays` says otherwise of the truth of the value
  pub branch_run : {op : Instruction} (stays : Bool → Bool) → TestsBy ex op stays → (line at to : ℕ) (a : Expr) (s : Suite)
      → ((begins : ℕ) → LaidSuite (parts_of ex) scope s begins to → RunsFrom ex scope.around begins to (RunsSuite (scene_of ex) s))
      → LaidBranch (parts_of ex) scope line a op (λ begins next. LaidSuite (parts_of ex) scope s begins next) at to → RunsFrom ex scope.around at to
      (λ env h event ts K. Chooses (scene_of ex) line env h a event ts K (λ b i mid. By_truth (stays b) (RunsSuite (scene_of ex) s env h i mid K) (K env Normal i mid)))
  branch_run stays tests line at to a s runs (asks, begins, loads, jumps, suite) c low high later now last m event ts most same run =
      let before : at < asks = expr_bound (parts_of ex) a scope line at asks loads in
      let after : asks < begins = stands_bound (parts_of ex) jumps in
      let order : begins ≤ to = suite_bound (parts_of ex) scope s begins to suite in
      let env : Env = env_of ex.vars now.locals in
      chooses_run ex c now same stays tests
      (λ b i mid. By_truth b (RunsSuite (scene_of ex) s env (handled_in None c.blocks) i mid c.K) (c.K env Normal i mid)) begins to m most order (omega (arith, order, high))
      (λ b i. chosen_cut (RunsSuite (scene_of ex) s env (handled_in None c.blocks) i [] c.K) (c.K env Normal i [])
      (suite_pauses ex s env (handled_in None c.blocks) i c.K (λ env1. c.lands.pauses env1 Normal i tt) (λ env1. c.lands.pauses env1 Cut i tt)) (c.lands.pauses env Normal i tt) b)
      (λ l j i us less more. runs begins suite c (omega (arith, low, before, after)) high later now l j i us (omega (arith, less, most)) same more)
      (λ l j i us less more. later now l j i us (omega (arith, less, most)) same more)
      scope line a at last asks event ts low loads jumps run

  pub if_else_run : (line at to : ℕ) (a : Expr) (s t : Suite)
      → ((begins leaves : ℕ) → LaidSuite (parts_of ex) scope s begins leaves → RunsFrom ex scope.around begins leaves (RunsSuite (scene_of ex) s))
      → ((other : ℕ) → LaidSuite (parts_of ex) scope t other to → RunsFrom ex scope.around other to (RunsSuite (scene_of ex) t))
      → LaidForm (parts_of ex) scope line (IfElse a s t) at to → RunsFrom ex scope.around at to (Runs (scene_of ex) line (IfElse a s t))
  if_else_run line at to a s t runs others (asks, begins, leaves, other, loads, jumps, suite, leave, rest) c low high later now last m event ts most same run =
      let before : at < asks = expr_bound (parts_of ex) a scope line at asks loads in
      let after : asks < begins = stands_bound (parts_of ex) jumps in
      let order : begins ≤ leaves = suite_bound (parts_of ex) scope s begins leaves suite in
      let over : leaves < other = stands_bound (parts_of ex) leave in
      let behind : other ≤ to = suite_bound (parts_of ex) scope t other to rest in
      let env : Env = env_of ex.vars now.locals in
      chooses_run ex c now same (λ b. b) (true_stays ex)
      (λ b i mid. By_truth b (RunsSuite (scene_of ex) s env (handled_in None c.blocks) i mid c.K) (RunsSuite (scene_of ex) t env (handled_in None c.blocks) i mid c.K))
      begins other m most (omega (arith, order, over)) (omega (arith, order, over, behind, high))
      (λ b i. chosen_cut (RunsSuite (scene_of ex) s env (handled_in None c.blocks) i [] c.K) (RunsSuite (scene_of ex) t env (handled_in None c.blocks) i [] c.K)
      (suite_pauses ex s env (handled_in None c.blocks) i c.K (λ env1. c.lands.pauses env1 Normal i tt) (λ env1. c.lands.pauses env1 Cut i tt))
      (suite_pauses ex t env (handled_in None c.blocks) i c.K (λ env1. c.lands.pauses env1 Normal i tt) (λ env1. c.lands.pauses env1 Cut i tt)) b)
      (λ l j i us less more.
      runs begins leaves suite c (omega (arith, low, before, after)) (omega (arith, high, over, behind))
      (jump_run ex leave behind c.base c.blocks c.limit (λ env1. c.K env1 Normal) (λ env1 n. c.lands.pauses env1 Normal n tt) later) now l j i us (omega (arith, less, most)) same more)
      (λ l j i us less more. others other rest c (omega (arith, low, before, after, order, over)) high later now l j i us (omega (arith, less, most)) same more)
      scope line a at last asks event ts low loads jumps run

  pub nothing_run : (at to : ℕ) → LaidSuite (parts_of ex) scope nothing at to → RunsFrom ex scope.around at to (RunsSuite (scene_of ex) nothing)
  nothing_run at to is_at c low high later now last m event ts most same run = inr (pass_run 0 at to is_at c low high later now last m event ts most same run)

module _ (ex : Execution) (around : Around) where
  -- what follows a statement of a sequence
  module _ (c : Context ex around) (more : Suite) where
    abbrev next : Env → ℕ → List Own → Type 0
    next env event ts = RunsSuite (scene_of ex) more env (handled_in None c.blocks) event ts c.K

    -- behind the statement a telling may be cut
    next_pauses : (env : Env) (o : Outcome) (event : ℕ) → May around o → On_normal c.K next env o event []
    next_pauses env Normal event may = suite_pauses ex more env (handled_in None c.blocks) event c.K (λ env1. c.lands.pauses env1 Normal event tt) (λ env1. c.lands.pauses env1 Cut event tt)
    next_pauses env Breaks event may = c.lands.pauses env Breaks event may
    next_pauses env Continues event may = c.lands.pauses env Continues event may
    next_pauses env (Returns v) event may = c.lands.pauses env (Returns v) event tt
    next_pauses env (Raises e) event may = c.lands.pauses env (Raises e) event tt
    next_pauses env Cut event may = c.lands.pauses env Cut event tt

    -- a reason passes by the other statements
    next_leaves : (r : UnwindReason) (env : Env) (event : ℕ) (ts : List Own) → c.K env (outcome_of r) event ts → On_normal c.K next env (outcome_of r) event ts
    next_leaves (reason.Break to) env event ts told = told
    next_leaves (reason.Continue to) env event ts told = told
    next_leaves (reason.Returning v) env event ts told = told
    next_leaves (reason.Raising e) env event ts told = told

    -- where the statement runs
    abbrev next_context : Context ex around
    next_context = record {
      low = c.low;
      high = c.high;
      base = c.base;
      blocks = c.blocks;
      limit = c.limit;
      K = On_normal c.K next;
      lands = record {
        pauses = next_pauses;
        unwinds = λ r extra k prefix now m event ts targets bare low high less same step.
            next_leaves r (env_of ex.vars now.locals) event ts (c.lands.unwinds r extra k prefix now m event ts targets bare low high less same step);
      };
    }

  -- a statement, then the others
  pub first_run : (line at mid to : ℕ) (f : Form) (more : Suite) → at ≤ mid → mid ≤ to → RunsFrom ex around at mid (Runs (scene_of ex) line f)
      → RunsFrom ex around mid to (RunsSuite (scene_of ex) more)
      → RunsFrom ex around at to (RunsSuite (scene_of ex) (first line f more))
  first_run line at mid to f more before after runs others c low high later now last m event ts most same run =
      inr (runs (next_context c more) low (omega (arith, after, high)) (others c (omega (arith, low, before)) high later) now last m event ts most same run)

module _ (ex : Execution) where
  pub break_run : (around : Around) (scope : Scope) (line at to : ℕ) → LaidBreak (parts_of ex) scope around line at to → RunsFrom ex around at to (Runs (scene_of ex) line Break)
  break_run None scope line at to laid c low high later now last m event ts most same run = absurd laid
  break_run (Some l) scope line at to stands c low high later now last m event ts most same run =
      leaves_run ex c now now stands (reason.Break l.stop) c.base c.blocks last m event ts refl most low high same (λ k p. refl) run

  pub continue_run : (around : Around) (scope : Scope) (line at to : ℕ) → LaidContinue (parts_of ex) scope around line at to → RunsFrom ex around at to (Runs (scene_of ex) line Continue)
  continue_run None scope line at to laid c low high later now last m event ts most same run = absurd laid
  continue_run (Some l) scope line at to stands c low high later now last m event ts most same run =
      leaves_run ex c now now stands (reason.Continue l.again) c.base c.blocks last m event ts refl most low high same (λ k p. refl) run
