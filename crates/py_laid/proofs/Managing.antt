-- A laid with runs as that of the tree: the manager stays under the block of the body, and is left however the body is.
use Rattle.std.proofs.Common.{◌≡◌, ◌<◌, ◌≤◌, ℕ, zero, suc, List, [], ◌∷◌, ◌++◌, Bool, true, false, cond, refl, sym, ap, ◌∙◌, subst, length, arith, inl, inr}
use Rattle.std.specs.Prelude.{Option, Some, None, ◌⊎◌, slice_get, ◌==◌, nat_lt}
use Rattle.std.proofs.lemmas.Bool.{eq-eqb}
use Rattle.py_code.specs.Bottom.{bottom}
use Rattle.py_code.specs.declared.unit.CodeUnit.{CodeUnit}
use Rattle.py_code.specs.declared.instruction.Instruction.TheVariants as op
use Rattle.py_objects.specs.declared.refs.PyBaseExceptionRef.{PyBaseExceptionRef}
use Rattle.py_objects.specs.declared.payload.Payload.{Payload}
use Rattle.py_objects.specs.declared.payload.Payload.TheVariants as payload
use Rattle.py_objects.specs.declared.request.Request.TheVariants as request
use Rattle.py_objects.specs.declared.event.GotAnswer.{GotAnswer}
use Rattle.py_objects.specs.declared.event.GotAnswer.TheVariants as got
use Rattle.py_objects.specs.Objects.{Obj, HasPayload, as_object, class_object}
use Rattle.py_objects.specs.Callees.{is_manager}
use Rattle.py_objects.specs.Own.{Own, Rounds}
use Rattle.py_objects.specs.Telling.{AfterValue, Stopped, Answers, Answered}
use Rattle.py_rows.specs.declared.block.Block.{Block}
use Rattle.py_rows.specs.declared.block.BlockType.{BlockType}
use Rattle.py_rows.specs.declared.block.BlockType.TheVariants as typ
use Rattle.py_rows.specs.declared.block.UnwindReason.{UnwindReason}
use Rattle.py_rows.specs.declared.block.UnwindReason.TheVariants as reason
use Rattle.py_rows.specs.declared.expect.Expect.{Expect}
use Rattle.py_rows.specs.declared.expect.Expect.TheVariants as expect
use Rattle.py_rows.specs.declared.expect.Wanted.TheVariants as want
use Rattle.py_rows.specs.States.{State, Step, Goes, Tells, Stuck, Move, Plainly, Exits, waiting, jumps, landed}
use Rattle.py_rows.specs.Handled.{entered_by, entered_if, handled_in}
use Rattle.py_rows.specs.Unwinding.{unwind, unwinds, meets, left, left_handler}
use Rattle.py_rows.specs.Answers.{IsAnswer}
use Rattle.py_rows.specs.Rows.{asks, raised_by, takes_off, where_there, finishes, unit_move}
use Rattle.py_rows.specs.Receiving.{entered as entered_at, asks_again, passes_if}
use Rattle.py_rows.specs.RunOfRows.{IsExit}
use Rattle.py_tree.specs.Tree.{Name, Expr}
use Rattle.py_tree.specs.Binding.{Env, bind}
use Rattle.py_tree.specs.Scene.{Scene}
use Rattle.py_tree.specs.Outcome.{Outcome, Normal, Breaks, Continues, Returns, Raises, Cut, Handled, Runner, Use, Evaluates, Requests, Tests, By_truth, Leaves, LeavesBy, On_exit, Manages}
use Rattle.py_laid.specs.Code.{Around, Scope, on, before_finally, in_finally, Stands, LaidExpr, LaidTarget, LaidWith}
use Rattle.py_laid.specs.Fits.{is_line}
use Rattle.py_laid.proofs.Env.{env_of}
use Rattle.py_laid.proofs.Decoding.{Now, running, begun, Execution, setting_of, Told, From, Left, Behind, TellsFrom, parts_of, scene_of, step_left, silent_run}
use Rattle.py_laid.proofs.Places.{stands_bound, expr_bound, target_bound}
use Rattle.py_laid.proofs.Lands.{Context, RunsFrom, Pauses, May, Targets, Bare, outcome_of, targets_may, bottom-under, use_passes, ahead}
use Rattle.py_laid.proofs.Asking.{heard, exits_run, asked_run, asked_over_run}
use Rattle.py_laid.proofs.Operating.{expr_run}
use Rattle.py_laid.proofs.Units.{target_run, leaves_run, raised_run}
use Rattle.py_laid.proofs.Trying.{TargetsIf, outcome_if}

-- a manager is left as its exit is told
untold : (scene : Scene) (line : ℕ) (m : Obj) (h : Handled) (event : ℕ) (ts : List Own) (V : AfterValue)
    → ((ts ≡ []) × V Stopped event []) ⊎ ((t : Obj) × (v : Obj) × (b : Obj) × IsExit scene.objects None t v b × Requests scene line (request.Exit m t v b) h event ts V)
    → Leaves scene line m h event ts V
untold scene line m h event ts V (inl cut) = inl cut
untold scene line m h event ts V (inr (t, v, b, is, asked)) = inr (t, v, b, is.0, is.1, is.2, asked)

told_raise : (scene : Scene) (line : ℕ) (m : Obj) (e : PyBaseExceptionRef) (event : ℕ) (ts : List Own) (V : AfterValue)
    → ((ts ≡ []) × V Stopped event []) ⊎ ((t : Obj) × (v : Obj) × (b : Obj) × IsExit scene.objects (Some e) t v b × Requests scene line (request.Exit m t v b) (Some e) event ts V)
    → LeavesBy scene line m e event ts V
told_raise scene line m e event ts V (inl cut) = inl cut
told_raise scene line m e event ts V (inr (t, v, b, is, asked)) =
    let (body, has, is_class) = is.1 in
    inr (
      body,
      b,
      subst (λ (w : Obj). HasPayload scene.objects w (payload.Exception body)) is.0 has,
      subst (λ (w : Obj). Requests scene line (request.Exit m (class_object body.class) w b) (Some e) event ts V) is.0
          (subst (λ (w : Obj). Requests scene line (request.Exit m w v b) (Some e) event ts V) is_class asked),
    )

module _ (ex : Execution) where
  -- ---- units that have asked before

  -- a state in which the unit that runs has had so many answers
  abbrev phased : ℕ → State → State
  phased n s = record s { phase = n; wants = expect.Go }

  -- the next unit begins anew
  unit_anew : (phase : ℕ) (u : Option CodeUnit) (s : State) → unit_move (setting_of ex) u (phased phase s) ≡ unit_move (setting_of ex) u (phased 0 s)
  unit_anew phase None s = refl
  unit_anew phase (Some u) s = refl

  told_anew : (phase n : ℕ) (s : State) (ts : List Own) → Told ex n (phased phase s) ts → Told ex n (phased 0 s) ts
  told_anew phase zero s ts run = run
  told_anew phase (suc n) s ts (inl move) = inl (subst (λ (moved : Move). Left ex n moved ts) (unit_anew phase (slice_get ex.code.code.code.instructions.items s.at) s) move)
  told_anew phase (suc n) s ts (inr (x, w, mid, never, under, is, run)) = absurd never

  -- an ended one tells nothing
  ended_anew : (phase n : ℕ) (s : State) (ts : List Own) → Told ex n (waiting expect.Ended (phased phase s)) ts → Told ex n (waiting expect.Ended (phased 0 s)) ts
  ended_anew phase zero s ts run = run
  ended_anew phase (suc n) s ts (inl stuck) = absurd (step_left ex n Stuck ts stuck)
  ended_anew phase (suc n) s ts (inr (x, w, mid, never, under, is, run)) = absurd never

  jumps_anew : (phase n to : ℕ) (s : State) (ts : List Own) → Behind ex n (jumps to (phased phase s)) ts → Behind ex n (jumps to (phased 0 s)) ts
  jumps_anew phase n to s ts step = by (nat_lt s.at to) step
    where
      by : (b : Bool) → Behind ex n (cond b (Goes (landed to (phased phase s))) (Tells (Rounds s.at) (landed to (phased phase s)))) ts
          → Behind ex n (cond b (Goes (landed to (phased 0 s))) (Tells (Rounds s.at) (landed to (phased 0 s)))) ts
      by true step = told_anew phase n (landed to s) ts step
      by false (mid, is, run) = (mid, is, told_anew phase n (landed to s) mid run)

  -- a raise leaves the blocks as it does from a unit's first question
  raise_anew : (e : PyBaseExceptionRef) (phase n : ℕ) (blocks : List Block) (s : State) (ts : List Own)
      → Behind ex n (unwind (reason.Raising e) blocks (phased phase s)) ts → Behind ex n (unwind (reason.Raising e) blocks (phased 0 s)) ts
  raise_anew e phase n [] s ts (mid, is, run) = (mid, is, ended_anew phase n s mid run)
  raise_anew e phase n (b ∷ outer) s ts step = by b.typ b.level (λ t. raise_anew e phase n outer t ts) step
    where
      by : (t : BlockType) (level : ℕ) → ((u : State) → Behind ex n (unwind (reason.Raising e) outer (phased phase u)) ts → Behind ex n (unwind (reason.Raising e) outer (phased 0 u)) ts)
          → Behind ex n (meets (reason.Raising e) t level outer (phased phase s) (λ u. unwind (reason.Raising e) outer u)) ts
          → Behind ex n (meets (reason.Raising e) t level outer (phased 0 s) (λ u. unwind (reason.Raising e) outer u)) ts
      by typ.Loop level more step = more (left level outer s) step
      by (typ.TryExcept handler) level more step =
          jumps_anew phase n handler (record s { stack = as_object e ∷ bottom level s.stack; blocks = record { typ = typ.ExceptHandler e s.slot; level = level } ∷ outer; slot = Some e }) ts step
      by (typ.Finally handler) level more step =
          jumps_anew phase n handler (record s { stack = bottom level s.stack; blocks = record { typ = typ.FinallyHandler (Some (reason.Raising e)) s.slot; level = level } ∷ outer; slot = Some e }) ts step
      by (typ.FinallyHandler r kept) level more step = more (left_handler level kept outer s) step
      by (typ.ExceptHandler e2 kept) level more step = more (left_handler level kept outer s) step

  -- ---- the exit of a manager, however its body was left

  module _ (around : Around) (c : Context ex around) (scope : Scope) (line handler ends to : ℕ) (m : Obj) (starts : Stands (parts_of ex) (in_finally (on scope)) line handler op.WithCleanupStart 0 ends)
      (done : Stands (parts_of ex) (on (in_finally (on scope))) line ends op.WithCleanupFinish 0 to) (low : c.low ≤ handler) (high : to ≤ c.high)
      (later : TellsFrom ex to c.base c.blocks c.limit (λ env. c.K env Normal)) where
    begins : handler < ends
    begins = stands_bound (parts_of ex) starts

    leaves : ends < to
    leaves = stands_bound (parts_of ex) done

    abbrev h : Handled
    h = handled_in None c.blocks

    -- its block, while it runs
    abbrev handling : Option UnwindReason → Handled → Block
    handling r kept = record { typ = typ.FinallyHandler r kept; level = suc (length c.base) }

    -- the frame behind it
    abbrev restored : Now → Handled → Now
    restored now kept = record { locals = now.locals; slot = kept }

    -- it lies right under its block
    on_top : (length (m ∷ c.base) == suc (length c.base)) ≡ true
    on_top = eq-eqb (suc (length c.base)) (suc (length c.base)) refl

    -- an exit neither breaks nor continues
    exit_pauses : (env : Env) (o : Outcome) (event : ℕ) → May None o → c.K env o event []
    exit_pauses env Normal event may = c.lands.pauses env Normal event tt
    exit_pauses env Breaks event may = absurd may
    exit_pauses env Continues event may = absurd may
    exit_pauses env (Returns v) event may = c.lands.pauses env (Returns v) event tt
    exit_pauses env (Raises e) event may = c.lands.pauses env (Raises e) event tt
    exit_pauses env Cut event may = c.lands.pauses env Cut event tt

    exit_unwinds : (r : Option UnwindReason) (kept : Handled) (r2 : UnwindReason) (extra : List Obj) (k prefix : ℕ) (now : Now) (n event : ℕ) (ts : List Own) → Targets None r2 → Bare r2 extra
        → c.low ≤ k → k < c.high → n < c.limit → length now.locals ≡ length ex.vars
        → Behind ex n (unwind r2 (handling r kept ∷ c.blocks) (begun k prefix (extra ++ m ∷ c.base) (handling r kept ∷ c.blocks) now)) ts → c.K (env_of ex.vars now.locals) (outcome_of r2) event ts
    exit_unwinds r kept (reason.Break t) extra k prefix now n event ts targets bare below above less same step = absurd targets
    exit_unwinds r kept (reason.Continue t) extra k prefix now n event ts targets bare below above less same step = absurd targets
    exit_unwinds r kept (reason.Returning v) extra k prefix now n event ts targets bare below above less same step =
        c.lands.unwinds (reason.Returning v) (m ∷ []) k prefix (restored now kept) n event ts tt tt below above less same
        (subst (λ (stack : List Obj). Behind ex n (unwind (reason.Returning v) c.blocks (begun k prefix stack c.blocks (restored now kept))) ts) (bottom-under extra (m ∷ c.base)) step)
    exit_unwinds r kept (reason.Raising e) extra k prefix now n event ts targets bare below above less same step =
        c.lands.unwinds (reason.Raising e) (m ∷ []) k prefix (restored now kept) n event ts tt tt below above less same
        (subst (λ (stack : List Obj). Behind ex n (unwind (reason.Raising e) c.blocks (begun k prefix stack c.blocks (restored now kept))) ts) (bottom-under extra (m ∷ c.base)) step)

    -- where the exit runs
    abbrev exit_context : Option UnwindReason → Handled → Context ex None
    exit_context r kept = record {
      low = c.low;
      high = c.high;
      base = m ∷ c.base;
      blocks = handling r kept ∷ c.blocks;
      limit = c.limit;
      K = c.K;
      lands = record { pauses = exit_pauses; unwinds = exit_unwinds r kept };
    }

    -- the exit is called, and answers
    called_run : (r : Option UnwindReason) (kept : Handled) (now : Now) → length now.locals ≡ length ex.vars → (next : Obj → ℕ → List Own → Type 0) (last n event : ℕ) (ts : List Own) → n ≤ c.limit
        → From ex n handler last (m ∷ c.base) (handling r kept ∷ c.blocks) now ts → ((w : Obj) (i : ℕ) → next w i [])
        → ((w : Obj) (j i : ℕ) (us : List Own) → j < n → From ex j ends ends (w ∷ m ∷ c.base) (handling r kept ∷ c.blocks) now us → next w i us)
        → ((ts ≡ []) × c.K (env_of ex.vars now.locals) Cut event [])
        ⊎ ((t : Obj) × (v : Obj) × (b : Obj) × IsExit ex.objects (raised_by r) t v b
        × Requests (scene_of ex) line (request.Exit m t v b) (entered_if r h) event ts (Use (env_of ex.vars now.locals) c.K next))
    called_run r kept now same next last n event ts most run stops more =
        exits_run ex (exit_context r kept) now same (Use (env_of ex.vars now.locals) c.K next) (use_passes ex (exit_context r kept) (env_of ex.vars now.locals) next) starts
        (raised_by r) (λ t v b. request.Exit m t v b) (m ∷ c.base) [] last n event ts most low (omega (arith, leaves, high))
        (λ k p i. Exits (raised_by r)
        (λ t v b. where_there (on_top i) (takes_off (bottom-under [] (m ∷ c.base) i) (λ x rest. asks (request.Exit x t v b) (begun k p (m ∷ c.base) (handling r kept ∷ c.blocks) now)))))
        run (λ w. w ∷ m ∷ c.base) (λ k p w. refl) stops more

    -- its end, by the reason for which it was called
    ends_run : (r : Option UnwindReason) (kept : Handled) → TargetsIf around r → (raised_by r ≡ None) → (w : Obj)
        → TellsFrom ex ends (w ∷ m ∷ c.base) (handling r kept ∷ c.blocks) c.limit (λ env. c.K env (outcome_if r))
    ends_run None kept targets none w now last n event ts few same run =
        silent_run ex done (w ∷ m ∷ c.base) c.base (handling None kept ∷ c.blocks) c.blocks now (restored now kept)
        (λ k p. ap (λ (b : Bool). Plainly (where_there b (finishes None w (begun k p c.base c.blocks (restored now kept))))) on_top)
        c.limit (λ env. c.K env Normal) (λ env i. c.lands.pauses env Normal i tt) later last n event ts few same run
    ends_run (Some (reason.Returning v)) kept targets none w now last n event ts few same run =
        leaves_run ex c now (restored now kept) done (reason.Returning v) (w ∷ m ∷ c.base) (handling (Some (reason.Returning v)) kept ∷ c.blocks) last n event ts targets few (omega (arith, low, begins)) high same
        (λ k p. ap (λ (b : Bool). Plainly (where_there b (unwinds (reason.Returning v) (begun k p c.base c.blocks (restored now kept))))) on_top) run
    ends_run (Some (reason.Break t)) kept targets none w now last n event ts few same run =
        leaves_run ex c now (restored now kept) done (reason.Break t) (w ∷ m ∷ c.base) (handling (Some (reason.Break t)) kept ∷ c.blocks) last n event ts targets few (omega (arith, low, begins)) high same
        (λ k p. ap (λ (b : Bool). Plainly (where_there b (unwinds (reason.Break t) (begun k p c.base c.blocks (restored now kept))))) on_top) run
    ends_run (Some (reason.Continue t)) kept targets none w now last n event ts few same run =
        leaves_run ex c now (restored now kept) done (reason.Continue t) (w ∷ m ∷ c.base) (handling (Some (reason.Continue t)) kept ∷ c.blocks) last n event ts targets few (omega (arith, low, begins)) high same
        (λ k p. ap (λ (b : Bool). Plainly (where_there b (unwinds (reason.Continue t) (begun k p c.base c.blocks (restored now kept))))) on_top) run
    ends_run (Some (reason.Raising e)) kept targets none w now last n event ts few same run = absurd (cc)

    -- what follows the truth of its answer to a raise
    abbrev Passed : PyBaseExceptionRef → Env → Bool → ℕ → List Own → Type 0
    Passed e env b i us = By_truth b (c.K env Normal i us) (c.K env (Raises e) i us)

    passed_pauses : (e : PyBaseExceptionRef) (env : Env) (b : Bool) (i : ℕ) → Passed e env b i []
    passed_pauses e env true i = c.lands.pauses env Normal i tt
    passed_pauses e env false i = c.lands.pauses env (Raises e) i tt

    -- the raise is over, or goes on
    passed_run : (e : PyBaseExceptionRef) (kept : Handled) (now : Now) → length now.locals ≡ length ex.vars → (b : Bool) (k p n i : ℕ) (us : List Own) → c.low ≤ k → suc k ≡ to → n < c.limit
        → Behind ex n (passes_if b (as_object e) (begun k p c.base c.blocks (restored now kept))) us → Passed e (env_of ex.vars now.locals) b i us
    passed_run e kept now same true k p n i us below is_next less step =
        later (restored now kept) (suc k) n i us (omega (arith, less)) same (subst (λ (at : ℕ). From ex n at (suc k) c.base c.blocks (restored now kept) us) is_next step)
    passed_run e kept now same false k p n i us below is_next less step = raised_run ex c (restored now kept) same [] (as_object e) k p n i us below (omega (arith, high, is_next)) less step

    -- its answer to a raise is tested
    tests_run : (e : PyBaseExceptionRef) (kept : Handled) (w : Obj) (now : Now) (last n i : ℕ) (us : List Own) → n ≤ c.limit → length now.locals ≡ length ex.vars
        → From ex n ends last (w ∷ m ∷ c.base) (handling (Some (reason.Raising e)) kept ∷ c.blocks) now us
        → Tests (scene_of ex) line (env_of ex.vars now.locals) h w i us c.K (Passed e (env_of ex.vars now.locals))
    tests_run e kept w now last n i us most same run =
        asked_over_run ex c (restored now kept) same _ (use_passes ex c (env_of ex.vars now.locals) _) done (request.Truth w) (w ∷ m ∷ c.base)
        (handling (Some (reason.Raising e)) kept ∷ c.blocks) now (as_object e ∷ []) last n i us most (omega (arith, low, begins)) high
        (λ k p. ap (λ (b : Bool). Plainly (where_there b (finishes (Some (reason.Raising e)) w (begun k p c.base c.blocks (restored now kept))))) on_top) run
        (λ v j (b, has). (b, has, passed_pauses e (env_of ex.vars now.locals) b j))
        (λ v k p j l rest from is_next fewer value (step, (b, has, is), left).
        (b, has, passed_run e kept now same b k p j l rest (omega (arith, low, begins, from)) is_next (omega (arith, fewer, most)) (subst (λ (s : Step). Behind ex j s rest) (sym is) left)))

    -- the exit, however it is entered
    exit_run : (r : Option UnwindReason) (kept : Handled) → TargetsIf around r
        → TellsFrom ex handler (m ∷ c.base) (handling r kept ∷ c.blocks) c.limit (λ env. On_exit (scene_of ex) line m h c.K env (outcome_if r))
    exit_run None kept targets now last n event ts most same run =
        let env : Env = env_of ex.vars now.locals in
        untold (scene_of ex) line m h event ts (Use env c.K (λ w. c.K env Normal))
        (called_run None kept now same (λ w. c.K env Normal) last n event ts most run (λ w i. c.lands.pauses env Normal i tt)
        (λ w j i us fewer more. ends_run None kept targets refl w now ends j i us (omega (arith, fewer, most)) same more))
    exit_run (Some (reason.Returning v)) kept targets now last n event ts most same run =
        let env : Env = env_of ex.vars now.locals in
        untold (scene_of ex) line m h event ts (Use env c.K (λ w. c.K env (Returns v)))
        (called_run (Some (reason.Returning v)) kept now same (λ w. c.K env (Returns v)) last n event ts most run (λ w i. c.lands.pauses env (Returns v) i tt)
        (λ w j i us fewer more. ends_run (Some (reason.Returning v)) kept targets refl w now ends j i us (omega (arith, fewer, most)) same more))
    exit_run (Some (reason.Break t)) kept targets now last n event ts most same run =
        let env : Env = env_of ex.vars now.locals in
        untold (scene_of ex) line m h event ts (Use env c.K (λ w. c.K env Breaks))
        (called_run (Some (reason.Break t)) kept now same (λ w. c.K env Breaks) last n event ts most run (λ w i. c.lands.pauses env Breaks i (targets_may around (reason.Break t) targets))
        (λ w j i us fewer more. ends_run (Some (reason.Break t)) kept targets refl w now ends j i us (omega (arith, fewer, most)) same more))
    exit_run (Some (reason.Continue t)) kept targets now last n event ts most same run =
        let env : Env = env_of ex.vars now.locals in
        untold (scene_of ex) line m h event ts (Use env c.K (λ w. c.K env Continues))
        (called_run (Some (reason.Continue t)) kept now same (λ w. c.K env Continues) last n event ts most run (λ w i. c.lands.pauses env Continues i (targets_may around (reason.Continue t) targets))
        (λ w j i us fewer more. ends_run (Some (reason.Continue t)) kept targets refl w now ends j i us (omega (arith, fewer, most)) same more))
    exit_run (Some (reason.Raising e)) kept targets now last n event ts most same run =
        let env : Env = env_of ex.vars now.locals in
        told_raise (scene_of ex) line m e event ts (Use env c.K (λ w i mid. Tests (scene_of ex) line env h w i mid c.K (Passed e env)))
        (called_run (Some (reason.Raising e)) kept now same (λ w i mid. Tests (scene_of ex) line env h w i mid c.K (Passed e env)) last n event ts most run
        (λ w i. inl (refl, c.lands.pauses env Cut i tt))
        (λ w j i us fewer more. tests_run e kept w now ends j i us (omega (arith, fewer, most)) same more))

    -- ---- the body

    body_pauses : (env : Env) (o : Outcome) (event : ℕ) → May around o → On_exit (scene_of ex) line m h c.K env o event []
    body_pauses env Normal event may = inl (refl, c.lands.pauses env Cut event tt)
    body_pauses env Breaks event may = inl (refl, c.lands.pauses env Cut event tt)
    body_pauses env Continues event may = inl (refl, c.lands.pauses env Cut event tt)
    body_pauses env (Returns v) event may = inl (refl, c.lands.pauses env Cut event tt)
    body_pauses env (Raises e) event may = inl (refl, c.lands.pauses env Cut event tt)
    body_pauses env Cut event may = c.lands.pauses env Cut event tt

    -- the block of the body
    abbrev guarded : Block
    guarded = record { typ = typ.Finally handler; level = suc (length c.base) }

    -- the frame in front of the exit
    abbrev entered : UnwindReason → Now → Now
    entered r now = record { locals = now.locals; slot = entered_by r now.slot }

    -- the body is left, and the exit takes the reason
    body_unwinds : (r : UnwindReason) (extra : List Obj) (k prefix : ℕ) (now : Now) (n event : ℕ) (ts : List Own) → Targets around r → Bare r extra
        → c.low ≤ k → k < handler → n < c.limit → length now.locals ≡ length ex.vars
        → Behind ex n (unwind r (guarded ∷ c.blocks) (begun k prefix (extra ++ m ∷ c.base) (guarded ∷ c.blocks) now)) ts
        → On_exit (scene_of ex) line m h c.K (env_of ex.vars now.locals) (outcome_of r) event ts
    body_unwinds r extra k prefix now n event ts targets bare below above less same step =
        exit_run (Some r) now.slot targets (entered r now) (suc k) n event ts (omega (arith, less)) same
        (ahead ex handler k (suc k) prefix (m ∷ c.base) (handling (Some r) now.slot ∷ c.blocks) (entered r now) n ts above
        (subst (λ (stack : List Obj). Behind ex n (jumps handler (begun k prefix stack (handling (Some r) now.slot ∷ c.blocks) (entered r now))) ts) (bottom-under extra (m ∷ c.base)) step))

    -- where the body runs
    abbrev body_context : Context ex around
    body_context = record {
      low = c.low;
      high = handler;
      base = m ∷ c.base;
      blocks = guarded ∷ c.blocks;
      limit = c.limit;
      K = On_exit (scene_of ex) line m h c.K;
      lands = record { pauses = body_pauses; unwinds = body_unwinds };
    }

    -- the normal end of the body
    body_ends_run : {inner outer : Scope} {leaves enters : ℕ} → Stands (parts_of ex) inner line leaves op.PopBlock 0 enters → Stands (parts_of ex) outer line enters op.EnterFinally 0 handler
        → TellsFrom ex leaves (m ∷ c.base) (guarded ∷ c.blocks) c.limit (λ env. On_exit (scene_of ex) line m h c.K env Normal)
    body_ends_run pops enter now last n event ts few same run =
        silent_run ex pops (m ∷ c.base) (m ∷ c.base) (guarded ∷ c.blocks) c.blocks now now
        (λ k p. ap (λ (stack : List Obj). Plainly (Goes (running (suc k) (suc k) 0 stack c.blocks now))) (bottom-under [] (m ∷ c.base)))
        c.limit (λ env. On_exit (scene_of ex) line m h c.K env Normal) (λ env i. body_pauses env Normal i tt)
        (λ now1 last1 n1 event1 ts1 few1 same1 run1.
        silent_run ex enter (m ∷ c.base) (m ∷ c.base) c.blocks (handling None now1.slot ∷ c.blocks) now1 now1 (λ k p. refl)
        c.limit (λ env. On_exit (scene_of ex) line m h c.K env Normal) (λ env i. body_pauses env Normal i tt) (exit_run None now1.slot tt) last1 n1 event1 ts1 few1 same1 run1)
        last n event ts few same run

  -- ---- the entry

  -- a raise behind a unit's second question leaves the blocks
  unwinds_phased : (e : PyBaseExceptionRef) (n : ℕ) (s : State) (ts : List Own) → Behind ex n (unwinds (reason.Raising e) (phased 1 s)) ts
      → Behind ex n (unwind (reason.Raising e) s.blocks (phased 1 s)) ts
  unfolding unwinds
  unwinds_phased e n s ts step = step

  module _ {around : Around} (c : Context ex around) (now : Now) (same : length now.locals ≡ length ex.vars) (m : Obj) (k p : ℕ) (below : c.low ≤ k) (above : k < c.high) where
    abbrev env : Env
    env = env_of ex.vars now.locals

    -- what asks a second time, over an object that stays
    abbrev asker : State
    asker = phased 1 (begun k p (m ∷ c.base) c.blocks now)

    -- no value answers that an object has no exit
    raises_run : (g : GotAnswer) (n event : ℕ) (us : List Own) → n < c.limit → IsAnswer ex.objects want.NoValue g → Told ex n (waiting (expect.Heard g) asker) us
        → Answers g event us (Use env c.K (λ u i mid. ⊥))
    raises_run (got.Value v) n event us less never run = absurd never
    raises_run (got.Stop v) n event us less never run = absurd never
    raises_run (got.Raise e) zero event us less exception run = subst (λ (l : List Own). c.K env (Raises e) event l) (sym run) (c.lands.pauses env (Raises e) event tt)
    raises_run (got.Raise e) (suc n) event us less exception (inl move) =
        c.lands.unwinds (reason.Raising e) (m ∷ []) k p now n event us tt tt below above (omega (arith, less)) same
        (raise_anew e 1 n c.blocks (begun k p (m ∷ c.base) c.blocks now) us
        (unwinds_phased e n (begun k p (m ∷ c.base) c.blocks now) us (step_left ex n (unwinds (reason.Raising e) asker) us move)))
    raises_run (got.Raise e) (suc n) event us less exception (inr (x, w, mid, never, under, is, run)) = absurd never

    no_exit_run : (n event : ℕ) (us : List Own) → n < c.limit → Told ex n (waiting (expect.Answer want.NoValue) asker) us → Answered event us (Use env c.K (λ u i mid. ⊥))
    no_exit_run zero event us less run = inl (run, c.lands.pauses env Cut event tt)
    no_exit_run (suc n) event us less (inl stuck) = absurd (step_left ex n Stuck us stuck)
    no_exit_run (suc n) event us less (inr (x, w, mid, hears, under, is, run)) =
        let (number, g, is_got, answer, is_heard) = heard ex.objects (setting_of ex) want.NoValue x w hears in
        inr (number, g, mid, is ∙ ap (λ (y : Own). y ∷ mid) is_got, raises_run g n number mid (omega (arith, less)) answer (subst (λ (y : Expect). Told ex n (waiting y asker) mid) is_heard run))

  -- a with, whose body runs as it should
  module _ (around : Around) (scope : Scope) (line at to : ℕ) (a : Expr) (x : Option Name) (body : Runner) (paused : Pauses ex body) (sets binds begins leaves enters handler ends : ℕ)
      (load : LaidExpr (parts_of ex) scope line a at sets) (set_up : Stands (parts_of ex) (on scope) line sets op.SetupWith handler binds)
      (binding : LaidTarget (parts_of ex) (before_finally handler (on scope)) line x binds begins) (order : begins ≤ leaves) (runs : RunsFrom ex around begins leaves body)
      (pops : Stands (parts_of ex) (before_finally handler (on scope)) line leaves op.PopBlock 0 enters) (enter : Stands (parts_of ex) (on scope) line enters op.EnterFinally 0 handler)
      (starts : Stands (parts_of ex) (in_finally (on scope)) line handler op.WithCleanupStart 0 ends) (done : Stands (parts_of ex) (on (in_finally (on scope))) line ends op.WithCleanupFinish 0 to)
      (c : Context ex around) (low : c.low ≤ at) (high : to ≤ c.high) (later : TellsFrom ex to c.base c.blocks c.limit (λ env. c.K env Normal)) where
    loads : at < sets
    loads = expr_bound (parts_of ex) a scope line at sets load

    sets_up : sets < binds
    sets_up = stands_bound (parts_of ex) set_up

    binds_it : binds < begins
    binds_it = target_bound (parts_of ex) (before_finally handler (on scope)) line x binds begins binding

    popped : leaves < enters
    popped = stands_bound (parts_of ex) pops

    entered_it : enters < handler
    entered_it = stands_bound (parts_of ex) enter

    starts_it : handler < ends
    starts_it = stands_bound (parts_of ex) starts

    ends_it : ends < to
    ends_it = stands_bound (parts_of ex) done

    after : c.low ≤ handler
    after = omega (arith, low, loads, sets_up, binds_it, order, popped, entered_it)

    abbrev handled_now : Handled
    handled_now = handled_in None c.blocks

    -- the body, behind the binding of what the entry gave
    inside_run : (m v : Obj) (now : Now) (last n event : ℕ) (ts : List Own) → n ≤ c.limit → length now.locals ≡ length ex.vars
        → From ex n binds last (v ∷ m ∷ c.base) (guarded around c scope line handler ends to m starts done after high later ∷ c.blocks) now ts
        → body (bind x v (env_of ex.vars now.locals)) handled_now event ts (On_exit (scene_of ex) line m handled_now c.K)
    inside_run m v now last n event ts most same run =
        target_run ex (before_finally handler (on scope)) line binds begins x binding v (m ∷ c.base) (guarded around c scope line handler ends to m starts done after high later ∷ c.blocks) now c.limit
        (λ env1 i us. body env1 handled_now i us (On_exit (scene_of ex) line m handled_now c.K))
        (λ env1 i. paused env1 handled_now i _ (λ env2. inl (refl, c.lands.pauses env2 Cut i tt)) (λ env2. c.lands.pauses env2 Cut i tt))
        (runs (body_context around c scope line handler ends to m starts done after high later) (omega (arith, low, loads, sets_up, binds_it)) (omega (arith, popped, entered_it))
        (body_ends_run around c scope line handler ends to m starts done after high later pops enter)) last n event ts most same run

    -- behind the entry: a manager's body, or the question for the exit that is missing
    entry_run : (m v : Obj) (now : Now) (k p n event : ℕ) (ts : List Own) → sets ≤ k → suc k ≡ binds → n < c.limit → length now.locals ≡ length ex.vars → (q : Payload) (b : Bool) → is_manager q ≡ b
        → Behind ex n (cond b (entered_at handler v (begun k p (m ∷ c.base) c.blocks now)) (asks_again (request.NoExit m) (begun k p (m ∷ c.base) c.blocks now))) ts
        → By_truth b (body (bind x v (env_of ex.vars now.locals)) handled_now event ts (On_exit (scene_of ex) line m handled_now c.K))
        (Requests (scene_of ex) line (request.NoExit m) handled_now event ts (Use (env_of ex.vars now.locals) c.K (λ u i mid. ⊥)))
    entry_run m v now k p n event ts from is_next less same q true is step =
        inside_run m v now (suc k) n event ts (omega (arith, less)) same
        (subst (λ (next : ℕ). From ex n next (suc k) (v ∷ m ∷ c.base) (guarded around c scope line handler ends to m starts done after high later ∷ c.blocks) now ts) is_next step)
    entry_run m v now k p n event ts from is_next less same q false is (mid, is_asked, run) =
        inr (
          k,
          mid,
          ap (is_line line) (set_up.lined k from (omega (arith, is_next))) ∙ eq-eqb line line refl,
          is_asked,
          no_exit_run c now same m k p (omega (arith, low, loads, from)) (omega (arith, is_next, high, binds_it, order, popped, entered_it, starts_it, ends_it)) n event mid less run,
        )

    pub managed_run : TellsFrom ex at c.base c.blocks c.limit (λ env event ts. Evaluates (scene_of ex) line env handled_now a event ts
        (Use env c.K (λ m i mid. Requests (scene_of ex) line (request.Enter m) handled_now i mid (Use env c.K (λ v j rest. Manages (scene_of ex) line m x v body env handled_now j rest c.K)))))
    managed_run now last n event ts most same run =
        let env : Env = env_of ex.vars now.locals in
        expr_run ex c now same line a
        (Use env c.K (λ m i mid. Requests (scene_of ex) line (request.Enter m) handled_now i mid (Use env c.K (λ v j rest. Manages (scene_of ex) line m x v body env handled_now j rest c.K))))
        (use_passes ex c env _) scope at sets [] last n event ts most low (omega (arith, high, sets_up, binds_it, order, popped, entered_it, starts_it, ends_it)) load run
        (λ m i. inl (refl, c.lands.pauses env Cut i tt))
        (λ m j i us less more.
        asked_run ex c now same (Use env c.K (λ v l rest. Manages (scene_of ex) line m x v body env handled_now l rest c.K)) (use_passes ex c env _) set_up (request.Enter m) (m ∷ c.base) (m ∷ []) sets j i us
        (omega (arith, less, most)) (omega (arith, low, loads)) (omega (arith, high, binds_it, order, popped, entered_it, starts_it, ends_it)) (λ k p. refl) more
        (λ v l value. inl (refl, c.lands.pauses env Cut l tt))
        (λ v k p g l rest from is_next fewer value (chosen, (b, (q, has, is), same_step), step).
        inr (
          q,
          has,
          subst (λ (t : Bool). By_truth t (body (bind x v env) handled_now l rest (On_exit (scene_of ex) line m handled_now c.K)) (Requests (scene_of ex) line (request.NoExit m) handled_now l rest (Use env c.K (λ u i2 mid. ⊥))))
              (sym is)
              (entry_run m v now k p g l rest from is_next (omega (arith, fewer, less, most)) same q b is (subst (λ (s : Step). Behind ex g s rest) (sym same_step) step)),
        )))

  pub with_run : (around : Around) (scope : Scope) (line at to : ℕ) (a : Expr) (x : Option Name) (body : Runner) (B : Scope → ℕ → ℕ → Type 0)
      → ((within : Scope) (from upto : ℕ) → B within from upto → from ≤ upto) → Pauses ex body
      → ((handler from upto : ℕ) → B (before_finally handler (on scope)) from upto → RunsFrom ex around from upto body) → LaidWith (parts_of ex) scope line a x B at to
      → RunsFrom ex around at to (λ env h event ts K. Evaluates (scene_of ex) line env h a event ts
      (Use env K (λ m i mid. Requests (scene_of ex) line (request.Enter m) h i mid (Use env K (λ v j rest. Manages (scene_of ex) line m x v body env h j rest K)))))
  with_run around scope line at to a x body B order paused runs (sets, binds, begins, leaves, enters, handler, ends, load, set_up, binding, suite, pops, enter, starts, done) c low high later =
      managed_run around scope line at to a x body paused sets binds begins leaves enters handler ends load set_up binding (order (before_finally handler (on scope)) begins leaves suite)
      (runs handler begins leaves suite) pops enter starts done c low high later
