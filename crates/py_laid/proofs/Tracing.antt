-- A run of code that is laid for a tree is a trace of it: the frame starts, its suite runs where no block is open, and its end
-- is the outcome's; or it ends by what is thrown in before its start.
use Rattle.std.proofs.Common.{◌≡◌, ℕ, zero, suc, List, [], ◌∷◌, ◌++◌, Bool, true, false, ◌||◌, refl, sym, ap, ◌∙◌, subst, length, le_refl, inl, inr}
use Rattle.std.specs.Prelude.{Option, None, ◌==◌}
use Rattle.py_code.specs.declared.instruction.Instruction.TheVariants.{ReturnConst}
use Rattle.py_code.specs.declared.literal.Literal.{None as NoneLiteral}
use Rattle.py_objects.specs.declared.refs.PyBaseExceptionRef.{PyBaseExceptionRef}
use Rattle.py_objects.specs.declared.payload.Payload.{Payload}
use Rattle.py_objects.specs.declared.payload.Payload.TheVariants as payload
use Rattle.py_objects.specs.declared.event.ResumeHow.TheVariants as how
use Rattle.py_objects.specs.declared.event.GotAnswer.TheVariants as got
use Rattle.py_objects.specs.declared.event.Ending.TheVariants as ending
use Rattle.py_objects.specs.Objects.{Obj}
use Rattle.py_objects.specs.Own.{Own, Resumes, Ends}
use Rattle.py_objects.specs.Telling.{ThrowTest}
use Rattle.py_check.specs.declared.annotated.Annotated.{Annotated}
use Rattle.py_rows.specs.declared.block.UnwindReason.{UnwindReason}
use Rattle.py_rows.specs.declared.block.UnwindReason.TheVariants as reason
use Rattle.py_rows.specs.declared.expect.Expect.{Expect}
use Rattle.py_rows.specs.declared.expect.Expect.TheVariants as expect
use Rattle.py_rows.specs.States.{State, Stuck, waiting}
use Rattle.py_rows.specs.Unwinding.{unwind, unwinds}
use Rattle.py_rows.specs.RunOfRows.{Hears, IsUnder, filled, started}
use Rattle.py_rows.specs.Signature.{kind_by}
use Rattle.py_code.specs.declared.flags.TheConstants.CodeFlags.{IS_GENERATOR, IS_COROUTINE}
use Rattle.py_check.specs.WholeCode.{counts_if}
use Rattle.py_tree.specs.declared.body.BodyKind.{BodyKind}
use Rattle.py_tree.specs.declared.body.BodyKind.TheVariants.{Function, Generator}
use Rattle.py_tree.specs.Tree.{Name, Tree, seen_as}
use Rattle.py_tree.specs.Binding.{Env, locals_of, start_env}
use Rattle.py_tree.specs.Outcome.{Outcome, Normal, Breaks, Continues, Returns, Raises, Cut, RunsSuite}
use Rattle.py_tree.specs.Trace.{Ended, EndsBy, IsBegun}
use Rattle.py_laid.specs.Code.{Scope, entry, StandsConst, IsLaid}
use Rattle.py_laid.specs.Naming.{NamesAll}
use Rattle.py_laid.specs.Laws.{RunsAreTraces}
use Rattle.py_rows.proofs.StepLemmas.{length-filled}
use Rattle.py_laid.proofs.Env.{env_of, begun-env_of}
use Rattle.py_laid.proofs.Reaching.{run_steps}
use Rattle.py_laid.proofs.Decoding.{Now, begun, Execution, setting_of, Told, Behind, TellsFrom, step_left, parts_of, scene_of}
use Rattle.py_laid.proofs.Lands.{Context, May, Targets, outcome_of}
use Rattle.py_laid.proofs.Asking.{unwinds_left}
use Rattle.py_laid.proofs.Loads.{const_run}
use Rattle.py_laid.proofs.Running.{suite_run}

-- a code into whose frames exceptions are thrown before they begin is that of a generator, where its flags are those of the kind
thrown_kind : (generator coroutine : Bool) (kind : BodyKind) → kind_by generator coroutine ≡ seen_as kind → (generator || coroutine) ≡ true → kind ≡ Generator
thrown_kind false false kind is thrown = absurd (cc thrown)
thrown_kind generator coroutine Generator is thrown = refl
thrown_kind true false Function is thrown = absurd (cc is)
thrown_kind false true Function is thrown = absurd (cc is)
thrown_kind true true Function is thrown = absurd (cc is)

module _ (ex : Execution) where
  -- a frame that has ended tells no more
  ended_run : (n : ℕ) (s : State) (ts : List Own) → Told ex n (waiting expect.Ended s) ts → ts ≡ []
  ended_run zero s ts run = run
  ended_run (suc n) s ts (inl stuck) = absurd (step_left ex n Stuck ts stuck)
  ended_run (suc n) s ts (inr (x, w, mid, never, under, is, run)) = absurd never

  -- the end of a body
  end_pauses : (env : Env) (o : Outcome) (event : ℕ) → May None o → EndsBy (scene_of ex) env o event []
  end_pauses env Normal event may = inl refl
  end_pauses env Breaks event may = may
  end_pauses env Continues event may = may
  end_pauses env (Returns v) event may = inl refl
  end_pauses env (Raises e) event may = inl refl
  end_pauses env Cut event may = refl

  -- where no block is left a frame ends
  end_unwinds : (r : UnwindReason) (stack : List Obj) (k prefix : ℕ) (now : Now) (m event : ℕ) (ts : List Own) → Targets None r
      → Behind ex m (unwind r [] (begun k prefix stack [] now)) ts → EndsBy (scene_of ex) (env_of ex.vars now.locals) (outcome_of r) event ts
  end_unwinds (reason.Break t) stack k prefix now m event ts targets step = targets
  end_unwinds (reason.Continue t) stack k prefix now m event ts targets step = targets
  end_unwinds (reason.Returning v) stack k prefix now m event ts targets (mid, is, rest) =
      let none = ended_run m (begun k prefix stack [] now) mid rest in
      inr (k, is ∙ ap (λ (us : List Own). Ends k (ending.Return v) ∷ us) none)
  end_unwinds (reason.Raising e) stack k prefix now m event ts targets (mid, is, rest) =
      let none = ended_run m (begun k prefix stack [] now) mid rest in
      inr (k, is ∙ ap (λ (us : List Own). Ends k (ending.Raise e) ∷ us) none)

  -- where the whole body runs
  abbrev end_context : ℕ → ℕ → Context ex None
  end_context high n = record {
    low = 0;
    high = high;
    base = [];
    blocks = [];
    limit = n;
    K = EndsBy (scene_of ex);
    lands = record { pauses = end_pauses; unwinds = λ r extra k prefix now m event ts targets bare below above less same step. end_unwinds r (extra ++ []) k prefix now m event ts targets step };
  }

  -- the return of None at the end
  none_run : (scope : Scope) (line at to n : ℕ) → StandsConst (parts_of ex) scope line at ReturnConst NoneLiteral to → TellsFrom ex at [] [] n (λ env. EndsBy (scene_of ex) env Normal)
  none_run scope line at to n stands now last m event ts most same run =
      const_run ex stands payload.None (λ k q b v. unwinds (reason.Returning v) (begun k q [] [] now)) [] [] now last m ts (λ v has. has) (λ i k q. refl) run
      (λ none. inl none)
      (λ v k q j from is_next less has step. inr (v, has, end_unwinds (reason.Returning v) [] k q now j event ts tt (unwinds_left ex (reason.Returning v) k q [] [] now j ts step)))

module _ (globals : List Name) (code : Annotated) (t : Tree) (table : List (List ℕ)) (dict : Obj) (closure : List Obj) (objects : List Payload) (throws : ThrowTest) (laid : IsLaid globals code t)
    (globals_named : NamesAll table code.code.code.names.items globals) (locals_named : NamesAll table code.code.code.varnames.items (locals_of t)) where
  abbrev ex : Execution
  ex = record { objects = objects; code = code; table = table; dict = dict; closure = closure; throws = throws; globals = globals; vars = locals_of t; locals_named = locals_named; globals_named = globals_named }

  -- where the frame has started
  suite_told : (slot : Option PyBaseExceptionRef) (args : List Obj) (n event : ℕ) (ts : List Own) → Told ex n (waiting expect.Go (started code.code slot args)) ts
      → RunsSuite (scene_of ex) t.suite (start_env t args) None event ts (EndsBy (scene_of ex))
  suite_told slot args n event ts run =
      let now : Now = record { locals = filled (length code.code.code.varnames.items) args; slot = slot } in
      let long : length now.locals ≡ length (locals_of t) = length-filled (length code.code.code.varnames.items) args ∙ laid.locals in
      let env : env_of (locals_of t) now.locals ≡ start_env t args = ap (λ (k : ℕ). env_of (locals_of t) (filled k args)) laid.locals ∙ sym (begun-env_of (locals_of t) args) in
      let (ends, suite, stands) = laid.laid in
      let told = suite_run ex t.suite (entry t.kind) 0 ends suite (end_context ex ends n) (le_refl 0) (le_refl ends) (none_run ex (entry t.kind) t.line ends _ n stands) now 0 n event ts (le_refl n) long run in
      subst (λ (e : Env). RunsSuite (scene_of ex) t.suite e None event ts (EndsBy (scene_of ex))) env told

  -- what is thrown into a frame that hasn't begun ends it
  thrown_told : (slot : Option PyBaseExceptionRef) (args : List Obj) (e : PyBaseExceptionRef) (n : ℕ) (ts : List Own) → Told ex n (waiting (expect.Heard (got.Raise e)) (started code.code slot args)) ts
      → Ended (ending.Raise e) ts
  unfolding unwinds
  thrown_told slot args e zero ts none = inl none
  thrown_told slot args e (suc n) ts (inl move) =
      let (mid, is, rest) = step_left ex n (unwinds (reason.Raising e) (waiting expect.Go (started code.code slot args))) ts move in
      inr (0, is ∙ ap (λ (us : List Own). Ends 0 (ending.Raise e) ∷ us) (ended_run ex n (waiting expect.Go (started code.code slot args)) mid rest))
  thrown_told slot args e (suc n) ts (inr (x, w, mid, never, under, is, run)) = absurd never

  -- a frame that hasn't begun starts, or ends by what is thrown in
  entered_told : (slot : Option PyBaseExceptionRef) (args : List Obj) (n : ℕ) (x : Own) (y : Expect) (ts : List Own) → Hears objects (setting_of ex) expect.Start x y
      → IsUnder throws None x → Told ex n (waiting y (started code.code slot args)) ts → IsBegun (scene_of ex) t args (x ∷ ts)
  entered_told slot args n (Resumes event how.Start) y ts is under run =
      suite_told slot args n event ts (subst (λ (z : Expect). Told ex n (waiting z (started code.code slot args)) ts) is run)
  entered_told slot args n (Resumes event (how.Throw e)) y ts (exception, is, thrown) under run = (
    thrown_kind (counts_if code.code.code.flags IS_GENERATOR == 1) (counts_if code.code.code.flags IS_COROUTINE == 1) t.kind laid.kind thrown,
    under,
    thrown_told slot args e n ts (subst (λ (z : Expect). Told ex n (waiting z (started code.code slot args)) ts) is run),
  )
  entered_told slot args n _ y ts never under run = absurd never

  -- a run of the code has told a beginning of what the body tells
  begun_run : (slot : Option PyBaseExceptionRef) (args : List Obj) (n : ℕ) (ts : List Own) → Told ex n (started code.code slot args) ts → IsBegun (scene_of ex) t args ts
  begun_run slot args zero ts none = subst (IsBegun (scene_of ex) t args) (sym none) tt
  begun_run slot args (suc n) ts (inl stuck) = absurd (step_left ex n Stuck ts stuck)
  begun_run slot args (suc n) ts (inr (x, w, mid, hears, under, is, run)) = subst (IsBegun (scene_of ex) t args) (sym is) (entered_told slot args n x w mid hears under run)

-- each run of the rows, whole or cut, is a trace in which each unit asks for a statement of its line
pub runs_are_traces : RunsAreTraces
runs_are_traces globals code t table dict closure objects throws slot args ts s laid globals_named locals_named same run =
    let (n, told) = run_steps objects (record { code = code.code; names = table; globals = dict; closure = closure; throws_under = throws }) (started code.code slot args) s ts run in
    (same, (ts, refl, begun_run globals code t table dict closure objects throws laid globals_named locals_named slot args n ts told))
