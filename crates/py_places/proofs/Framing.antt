-- Behind an outcome among frames: what each frame makes of one.
use Rattle.std.proofs.Common.{ℕ, List, ◌∷◌, Some, None, refl, ap, ◌∙◌}
use Rattle.py_objects.specs.declared.refs.PyBaseExceptionRef.{PyBaseExceptionRef}
use Rattle.py_objects.specs.declared.payload.Payload.{Payload}
use Rattle.py_objects.specs.declared.request.Request.TheVariants as request
use Rattle.py_objects.specs.Objects.{Obj, as_object}
use Rattle.py_tree.specs.declared.expr.Atom.TheVariants as atom
use Rattle.py_tree.specs.Tree.{Name, Expr, Suite, Clauses, no_more, clause}
use Rattle.py_tree.specs.Binding.{Env, set_local}
use Rattle.py_tree.specs.Outcome.{Outcome, Normal, Breaks, Continues, Returns, Raises, Cut, Handled, behind, RunsSuite, Tries}
use Rattle.py_tree.specs.Trace.{EndsBy}
use Rattle.py_places.specs.Cells.{Cells}
use Rattle.py_places.specs.Place.{Catches, Swallows, Tested, Raised, Classed, Passed, Frame, Frames, Behind, Turn, Final, Passing, Catch, Forget, Exit, Requests, Nothing_more, Value, Raise, Stuck, Turning, Leaving, Leaving_by, Ending_by, Place, place}
use Rattle.py_places.specs.Silent.{Back, asking, on_normal, on_turn, on_final, passing, on_catch, forgetting, on_exit, last_of, try_clauses}
use Rattle.py_places.specs.Standing.{first_unused, for_exception, for_handled, for_env, for_outcome, for_frames, for_rest}
use Rattle.py_places.specs.Telling.{scene, follows, Tells}
use Rattle.py_places.proofs.Fits.{EnvScoped, HandledScoped, OutcomeScoped, FramesScoped, Fits, FitsIf, BackFits, GoFits}
use Rattle.py_places.proofs.Scopes.{ExceptionScoped, longer, handled_scoped, raised_scoped, returned_scoped, behind_for, both_scoped, catches_scoped, swallows_scoped, tested_scoped, classed_scoped, passed_scoped, frame_scoped, behind_scoped, passing_frame, behind_handled, turn_handled, final_handled, passing_outcome, exit_handled, exit_manager, leaving_scoped, leaving_by_scoped, turning_scoped, ending_scoped, value_scoped, raise_scoped}
use Rattle.py_places.proofs.Locals.{set_for, unset_scoped}
use Rattle.py_places.proofs.Combining.{here, told_same}
use Rattle.py_places.proofs.Loading.{asking_fits, load_fits}

module _ (objects : List Payload) (globals : Obj) where
  -- ---- the clauses of a try

  pub try_clauses_fits : (line : ℕ) (cs : Clauses) (e : PyBaseExceptionRef) (env : Env) (h : Handled) (fs : Frames) (cells : Cells)
      → ExceptionScoped (first_unused objects cells) e → EnvScoped (first_unused objects cells) env → HandledScoped (first_unused objects cells) h
      → FramesScoped (first_unused objects cells) fs
      → FitsIf objects globals cells (try_clauses objects line cs e env h fs cells)
      (λ σ k ts. Tries (scene objects globals) line cs (for_exception σ e) (for_env σ env) (for_handled σ h) k ts (follows objects globals (for_frames σ fs)))
  try_clauses_fits line no_more e env h fs cells sx se sh sf =
      asking_fits objects globals (Requests request.Handled) env h Raised fs cells tt se sh (λ σ σ' same. refl) (λ σ σ' same. refl) sf
  try_clauses_fits line (clause n c x s more) e env h fs cells sx se sh sf =
      load_fits objects globals (atom.Name c) n env h (Classed line x s more e) fs cells
      (λ v cells1. asking env h (Requests (request.Match (as_object e) v)) (Tested (Catches line x s more e)) fs cells1)
      se sh (classed_scoped _ line x s more e sx) sf
      (λ v cells1 le sv.
      let sx1 : ExceptionScoped (first_unused objects cells1) e = longer objects cells cells1 le sx in
      let sc = tested_scoped _ (Catches line x s more e) (catches_scoped _ line x s more e sx1) in
      asking_fits objects globals (Requests (request.Match (as_object e) v)) env h (Tested (Catches line x s more e)) fs cells1 tt
      (longer objects cells cells1 le se) (longer objects cells cells1 le sh)
      (λ σ σ' same. ap (λ u. Requests (request.Match (as_object u) (σ v))) (sx1 σ σ' same)
      ∙ ap (λ u. Requests (request.Match (σ' (as_object e)) u)) (sv σ σ' same)) sc (longer objects cells cells1 le sf))

  -- ---- the end of a body

  pub last_fits : (o : Outcome) (env : Env) (cells : Cells) → OutcomeScoped (first_unused objects cells) o
      → FitsIf objects globals cells (last_of o cells) (λ σ. EndsBy (scene objects globals) (for_env σ env) (for_outcome σ o))
  last_fits Normal env cells so = here objects globals cells (Ending_by Nothing_more) (λ σ σ' same. refl) tt
  last_fits Breaks env cells so = λ σ choice k ts told. told
  last_fits Continues env cells so = λ σ choice k ts told. told
  last_fits (Returns v) env cells so =
      here objects globals cells (Ending_by (Value v))
      (ending_scoped _ (Value v) (value_scoped _ v (returned_scoped _ v so))) tt
  last_fits (Raises e) env cells so =
      here objects globals cells (Ending_by (Raise e))
      (ending_scoped _ (Raise e) (raise_scoped _ e (raised_scoped _ e so))) tt
  last_fits Cut env cells so = here objects globals cells Stuck (λ σ σ' same. refl) tt

  -- ---- frames

  module _ (fs : Frames) (back : Back) (fits : BackFits objects globals fs back) where
    -- a frame is passed by
    passes : (f : Frame) (env : Env) (o : Outcome) (cells : Cells) → EnvScoped (first_unused objects cells) env
        → FramesScoped (first_unused objects cells) (f ∷ fs) → OutcomeScoped (first_unused objects cells) o
        → FitsIf objects globals cells (back env o cells) (λ σ. follows objects globals (for_frames σ fs) (for_env σ env) (for_outcome σ o))
    passes f env o cells se sf so = fits env o cells se (behind_scoped _ f fs sf) so

    pub normal_back : (h : Handled) (more : Suite) (go : Env → Cells → Place) → GoFits objects globals more fs h go
        → BackFits objects globals (Behind h more ∷ fs) (on_normal back go)
    normal_back h more go goes env Normal cells se sf so =
        goes env cells se (behind_handled _ h more fs sf) (behind_scoped _ (Behind h more) fs sf)
    normal_back h more go goes env Breaks cells se sf so = passes (Behind h more) env Breaks cells se sf so
    normal_back h more go goes env Continues cells se sf so = passes (Behind h more) env Continues cells se sf so
    normal_back h more go goes env (Returns v) cells se sf so = passes (Behind h more) env (Returns v) cells se sf so
    normal_back h more go goes env (Raises e) cells se sf so = passes (Behind h more) env (Raises e) cells se sf so
    normal_back h more go goes env Cut cells se sf so = passes (Behind h more) env Cut cells se sf so

    -- a loop has another round
    turning_fits : (h : Handled) (line : ℕ) (e : Expr) (s : Suite) (env : Env) (cells : Cells) → EnvScoped (first_unused objects cells) env
        → FramesScoped (first_unused objects cells) (Turn h line e s ∷ fs)
        → Fits objects globals cells (place cells (Turning env h line e s fs)) (λ σ. Tells objects globals (for_rest σ (Turning env h line e s fs)))
    turning_fits h line e s env cells se sf =
        here objects globals cells (Turning env h line e s fs)
        (turning_scoped _ env h line e s fs se (turn_handled _ h line e s fs sf)
        (behind_scoped _ (Turn h line e s) fs sf)) tt

    pub turn_back : (h : Handled) (line : ℕ) (e : Expr) (s : Suite)
        → BackFits objects globals (Turn h line e s ∷ fs) (on_turn back (λ env cells. place cells (Turning env h line e s fs)))
    turn_back h line e s env Normal cells se sf so = turning_fits h line e s env cells se sf
    turn_back h line e s env Breaks cells se sf so = passes (Turn h line e s) env Normal cells se sf (λ σ σ' same. refl)
    turn_back h line e s env Continues cells se sf so = turning_fits h line e s env cells se sf
    turn_back h line e s env (Returns v) cells se sf so = passes (Turn h line e s) env (Returns v) cells se sf so
    turn_back h line e s env (Raises x) cells se sf so = passes (Turn h line e s) env (Raises x) cells se sf so
    turn_back h line e s env Cut cells se sf so = passes (Turn h line e s) env Cut cells se sf so

    pub final_back : (h : Handled) (t : Suite) (go : Outcome → Handled → Env → Cells → Place)
        → ((o : Outcome) (h1 : Handled) → GoFits objects globals t (Passing o ∷ fs) h1 (go o h1))
        → BackFits objects globals (Final h t ∷ fs) (on_final back h go)
    final_back h t go goes env o cells se sf so = by o so
      where
        sfs : FramesScoped (first_unused objects cells) fs
        sfs = behind_scoped _ (Final h t) fs sf

        sh : HandledScoped (first_unused objects cells) h
        sh = final_handled _ h t fs sf

        -- the suite runs while this is handled, and the outcome passes on behind it
        runs : (o1 : Outcome) (h1 : Handled) → OutcomeScoped (first_unused objects cells) o1 → HandledScoped (first_unused objects cells) h1
            → Fits objects globals cells (go o1 h1 env cells)
            (λ σ k ts. RunsSuite (scene objects globals) t (for_env σ env) (for_handled σ h1) k ts
            (follows objects globals (for_frames σ (Passing o1 ∷ fs))))
        runs o1 h1 so1 sh1 = goes o1 h1 env cells se sh1 (frame_scoped _ (Passing o1) fs (passing_frame _ o1 so1) sfs)

        by : (o1 : Outcome) → OutcomeScoped (first_unused objects cells) o1
            → FitsIf objects globals cells (on_final back h go env o1 cells)
            (λ σ. follows objects globals (for_frames σ (Final h t ∷ fs)) (for_env σ env) (for_outcome σ o1))
        by Normal so1 = runs Normal h so1 sh
        by Breaks so1 = runs Breaks h so1 sh
        by Continues so1 = runs Continues h so1 sh
        by (Returns v) so1 = runs (Returns v) h so1 sh
        by (Raises e) so1 = runs (Raises e) (Some e) so1 (handled_scoped _ e (raised_scoped _ e so1))
        by Cut so1 = fits env Cut cells se sfs so1

    pub passing_back : (o : Outcome) → BackFits objects globals (Passing o ∷ fs) (passing back o)
    passing_back o env o2 cells se sf so2 =
        told_same objects globals cells (back env (behind o o2) cells)
        (λ σ. follows objects globals (for_frames σ fs) (for_env σ env) (for_outcome σ (behind o o2)))
        (λ σ. follows objects globals (for_frames σ (Passing o ∷ fs)) (for_env σ env) (for_outcome σ o2))
        (λ σ. ap (follows objects globals (for_frames σ fs) (for_env σ env)) (behind_for σ o o2))
        (fits env (behind o o2) cells se (behind_scoped _ (Passing o) fs sf)
        (both_scoped _ o o2 (passing_outcome _ o fs sf) so2))

    pub catch_back : (line : ℕ) (cs : Clauses)
        → BackFits objects globals (Catch line cs ∷ fs) (on_catch back (λ e env cells. try_clauses objects line cs e env (Some e) fs cells))
    catch_back line cs env Normal cells se sf so = passes (Catch line cs) env Normal cells se sf so
    catch_back line cs env Breaks cells se sf so = passes (Catch line cs) env Breaks cells se sf so
    catch_back line cs env Continues cells se sf so = passes (Catch line cs) env Continues cells se sf so
    catch_back line cs env (Returns v) cells se sf so = passes (Catch line cs) env (Returns v) cells se sf so
    catch_back line cs env (Raises e) cells se sf so =
        let sx = raised_scoped _ e so in
        try_clauses_fits line cs e env (Some e) fs cells sx se (handled_scoped _ e sx) (behind_scoped _ (Catch line cs) fs sf)
    catch_back line cs env Cut cells se sf so = passes (Catch line cs) env Cut cells se sf so

    -- a name is forgotten, then an outcome passes on
    forgot : (h : Handled) (x : Name) (o : Outcome) (env : Env) (cells : Cells) → EnvScoped (first_unused objects cells) env
        → FramesScoped (first_unused objects cells) (Forget h x ∷ fs) → OutcomeScoped (first_unused objects cells) o
        → FitsIf objects globals cells (back (set_local x None env) o cells)
        (λ σ. follows objects globals (for_frames σ fs) (set_local x None (for_env σ env)) (for_outcome σ o))
    forgot h x o env cells se sf so =
        told_same objects globals cells (back (set_local x None env) o cells)
        (λ σ. follows objects globals (for_frames σ fs) (for_env σ (set_local x None env)) (for_outcome σ o))
        (λ σ. follows objects globals (for_frames σ fs) (set_local x None (for_env σ env)) (for_outcome σ o))
        (λ σ. ap (λ e. follows objects globals (for_frames σ fs) e (for_outcome σ o)) (set_for σ x None env))
        (fits (set_local x None env) o cells (unset_scoped _ x env se) (behind_scoped _ (Forget h x) fs sf) so)

    pub forget_back : (h : Handled) (x : Name) → BackFits objects globals (Forget h x ∷ fs) (forgetting back x)
    forget_back h x env Normal cells se sf so = forgot h x Normal env cells se sf so
    forget_back h x env Breaks cells se sf so = forgot h x Breaks env cells se sf so
    forget_back h x env Continues cells se sf so = forgot h x Continues env cells se sf so
    forget_back h x env (Returns v) cells se sf so = forgot h x (Returns v) env cells se sf so
    forget_back h x env (Raises e) cells se sf so = forgot h x (Raises e) env cells se sf so
    forget_back h x env Cut cells se sf so = passes (Forget h x) env Cut cells se sf so

    -- the manager of a with is left, behind which an outcome passes on
    left : (h : Handled) (line : ℕ) (m : Obj) (o : Outcome) (env : Env) (cells : Cells) → EnvScoped (first_unused objects cells) env
        → FramesScoped (first_unused objects cells) (Exit h line m ∷ fs) → OutcomeScoped (first_unused objects cells) o
        → Fits objects globals cells (place cells (Leaving env h m (Passed o) fs))
        (λ σ. Tells objects globals (for_rest σ (Leaving env h m (Passed o) fs)))
    left h line m o env cells se sf so =
        here objects globals cells (Leaving env h m (Passed o) fs)
        (leaving_scoped _ env h (Passed o) fs se (exit_handled _ h line m fs sf)
        (passed_scoped _ o so) (behind_scoped _ (Exit h line m) fs sf) m
        (exit_manager _ h line m fs sf)) tt

    pub exit_back : (h : Handled) (line : ℕ) (m : Obj) → BackFits objects globals (Exit h line m ∷ fs) (on_exit back h m fs)
    exit_back h line m env Normal cells se sf so = left h line m Normal env cells se sf so
    exit_back h line m env Breaks cells se sf so = left h line m Breaks env cells se sf so
    exit_back h line m env Continues cells se sf so = left h line m Continues env cells se sf so
    exit_back h line m env (Returns v) cells se sf so = left h line m (Returns v) env cells se sf so
    exit_back h line m env (Raises e) cells se sf so =
        let sx = raised_scoped _ e so in
        here objects globals cells (Leaving_by env h m e (Tested (Swallows e)) fs)
        (leaving_by_scoped _ env h (Tested (Swallows e)) fs se (exit_handled _ h line m fs sf)
        (tested_scoped _ (Swallows e) (swallows_scoped _ e sx))
        (behind_scoped _ (Exit h line m) fs sf) m e (exit_manager _ h line m fs sf) sx) tt
    exit_back h line m env Cut cells se sf so = passes (Exit h line m) env Cut cells se sf so
