-- A place behind a value tells what follows the value.
use Rattle.std.proofs.Common.{◌≡◌, ℕ, Bool, true, false, List, [], ◌∷◌, ◌++◌, Option, Some, None, refl, sym, subst, ap, ◌∙◌, inl, inr, slice_get}
use Rattle.py_objects.specs.declared.refs.PyBaseExceptionRef.{PyBaseExceptionRef}
use Rattle.py_objects.specs.declared.payload.Payload.{Payload}
use Rattle.py_objects.specs.declared.payload.Payload.TheVariants as payload
use Rattle.py_objects.specs.declared.request.Request.TheVariants as request
use Rattle.py_objects.specs.Callees.{is_manager}
use Rattle.py_objects.specs.Objects.{Obj, HasPayload, as_exception, as_object}
use Rattle.py_objects.specs.Own.{Own}
use Rattle.py_tree.specs.Tree.{Name, Suite, Clauses}
use Rattle.py_tree.specs.Binding.{Env, set_local, bind}
use Rattle.py_tree.specs.Outcome.{Normal, Returns, Raises, Handled, Use, By_truth, On_exit, Manages, Requests as RequestsOf, RunsSuite}
use Rattle.py_places.specs.Cells.{Cells, entry_of}
use Rattle.py_places.specs.Place.{Choice, Branches, Branches_else, Turns, Catches, Swallows, Then, Stored, Shown, Returned, Raising, Raised, Tested, Told, Classed, Entering, Entered, Refused, Passed, Operand, Turn, Forget, Exit, Frames, Requests, Asking, Place, place}
use Rattle.py_places.specs.Silent.{operands, enter, resume}
use Rattle.py_places.specs.Stepping.{choose, by_told, managing, by_manager, proceed}
use Rattle.py_places.specs.Standing.{Standing, first_unused, IsChoice, for_exception, for_handled, for_env, for_choice, for_then, for_frames}
use Rattle.py_places.specs.Telling.{scene, follows, chosen, next}
use Rattle.py_places.proofs.Fits.{ObjScoped, EnvScoped, HandledScoped, ChoiceScoped, ThenScoped, FramesScoped, TellsBy, Fits, FitsIf}
use Rattle.py_places.proofs.Scopes.{ExceptionScoped, always, returns_scoped, raises_scoped, exception_object, one_more_scoped, catches_scoped, told_scoped, tested_scoped, entered_scoped, frame_scoped, turn_frame, forget_frame, exit_frame}
use Rattle.py_places.proofs.Locals.{set_for, bind_for, set_value_scoped, bind_scoped}
use Rattle.py_places.proofs.Literals.{scoped_below}
use Rattle.py_places.proofs.Combining.{all_cut, told_by, told_if, told_same, stuck}
use Rattle.py_places.proofs.Loading.{asking_fits}
use Rattle.py_places.proofs.Evaluating.{entry_stands, TellsOperands, one_more, operands_fits}
use Rattle.py_places.proofs.Framing.{try_clauses_fits}
use Rattle.py_places.proofs.Entering.{enter_fits, resume_fits}

module _ (objects : List Payload) (globals : Obj) where
  -- ---- a truth value decides

  caught_scoped : (n line : ℕ) (x : Option Name) (s : Suite) (more : Clauses) (e : PyBaseExceptionRef) → ChoiceScoped n (Catches line x s more e)
      → ExceptionScoped n e
  caught_scoped n line x s more e sc σ σ' same = cc (sc σ σ' same)

  swallowed_scoped : (n : ℕ) (e : PyBaseExceptionRef) → ChoiceScoped n (Swallows e) → ExceptionScoped n e
  swallowed_scoped n e sc σ σ' same = cc (sc σ σ' same)

  -- a suite is entered among frames
  abbrev Runs : Suite → Env → Handled → Frames → TellsBy
  Runs s env h fs σ k ts = RunsSuite (scene objects globals) s (for_env σ env) (for_handled σ h) k ts (follows objects globals (for_frames σ fs))

  suite_fits : (s : Suite) (env : Env) (h : Handled) (fs : Frames) (cells : Cells) → EnvScoped (first_unused objects cells) env
      → HandledScoped (first_unused objects cells) h → FramesScoped (first_unused objects cells) fs
      → Fits objects globals cells (enter objects s fs (resume objects fs) env h cells) (Runs s env h fs)
  suite_fits s env h fs cells se sh sf = enter_fits objects globals s fs (resume objects fs) h (resume_fits objects globals fs) env cells se sh sf

  -- the same where locals are said in other words
  pub suite_as : (s : Suite) (env : Env) (to : Standing → Env) (h : Handled) (fs : Frames) (cells : Cells) → ((σ : Standing) → for_env σ env ≡ to σ)
      → EnvScoped (first_unused objects cells) env → HandledScoped (first_unused objects cells) h → FramesScoped (first_unused objects cells) fs
      → Fits objects globals cells (enter objects s fs (resume objects fs) env h cells)
      (λ σ k ts. RunsSuite (scene objects globals) s (to σ) (for_handled σ h) k ts (follows objects globals (for_frames σ fs)))
  suite_as s env to h fs cells same se sh sf =
      told_same objects globals cells (Some (enter objects s fs (resume objects fs) env h cells)) (Runs s env h fs)
      (λ σ k ts. RunsSuite (scene objects globals) s (to σ) (for_handled σ h) k ts (follows objects globals (for_frames σ fs)))
      (λ σ. ap (λ x k ts. RunsSuite (scene objects globals) s x (for_handled σ h) k ts (follows objects globals (for_frames σ fs))) (same σ))
      (suite_fits s env h fs cells se sh sf)

  choose_fits : (ch : Choice) (b : Bool) (env : Env) (h : Handled) (fs : Frames) (cells : Cells) → ChoiceScoped (first_unused objects cells) ch
      → EnvScoped (first_unused objects cells) env → HandledScoped (first_unused objects cells) h → FramesScoped (first_unused objects cells) fs
      → FitsIf objects globals cells (choose objects ch b env h fs cells)
      (λ σ. chosen objects globals (for_choice σ ch) b (for_env σ env) (for_handled σ h) (for_frames σ fs))
  choose_fits (Branches s) true env h fs cells sc se sh sf = suite_fits s env h fs cells se sh sf
  choose_fits (Branches s) false env h fs cells sc se sh sf = resume_fits objects globals fs env Normal cells se sf (always _ Normal)
  choose_fits (Branches_else s t) true env h fs cells sc se sh sf = suite_fits s env h fs cells se sh sf
  choose_fits (Branches_else s t) false env h fs cells sc se sh sf = suite_fits t env h fs cells se sh sf
  choose_fits (Turns line e s) true env h fs cells sc se sh sf =
      suite_fits s env h (Turn h line e s ∷ fs) cells se sh
      (frame_scoped _ (Turn h line e s) fs (turn_frame _ h line e s sh) sf)
  choose_fits (Turns line e s) false env h fs cells sc se sh sf = resume_fits objects globals fs env Normal cells se sf (always _ Normal)
  choose_fits (Catches line None s more e) true env h fs cells sc se sh sf = suite_fits s env h fs cells se sh sf
  choose_fits (Catches line (Some x) s more e) true env h fs cells sc se sh sf =
      suite_as s (set_local x (Some (as_object e)) env) (λ σ. set_local x (Some (as_object (for_exception σ e))) (for_env σ env)) h (Forget h x ∷ fs) cells
      (λ σ. set_for σ x (Some (as_object e)) env)
      (set_value_scoped _ x (as_object e) env
      (exception_object _ e (caught_scoped _ line (Some x) s more e sc)) se) sh
      (frame_scoped _ (Forget h x) fs (forget_frame _ h x sh) sf)
  choose_fits (Catches line None s more e) false env h fs cells sc se sh sf =
      try_clauses_fits objects globals line more e env h fs cells (caught_scoped _ line None s more e sc) se sh sf
  choose_fits (Catches line (Some x) s more e) false env h fs cells sc se sh sf =
      try_clauses_fits objects globals line more e env h fs cells (caught_scoped _ line (Some x) s more e sc) se sh sf
  choose_fits (Swallows e) true env h fs cells sc se sh sf = resume_fits objects globals fs env Normal cells se sf (always _ Normal)
  choose_fits (Swallows e) false env h fs cells sc se sh sf =
      resume_fits objects globals fs env (Raises e) cells se sf (raises_scoped _ e (swallowed_scoped _ e sc))

  -- ---- a value is given

  -- an object that stands for itself
  abbrev pub Stays : Cells → Obj → Type 0
  Stays cells v = (σ : Standing) → IsChoice objects cells σ → σ v ≡ v

  -- what is told of an object is told of one that is the same by each choice
  pub same_object : (cells : Cells) (v w : Standing → Obj) (m : Option Place) (P : Standing → Obj → ℕ → List Own → Type 0)
      → ((σ : Standing) → IsChoice objects cells σ → v σ ≡ w σ) → FitsIf objects globals cells m (λ σ. P σ (v σ))
      → FitsIf objects globals cells m (λ σ. P σ (w σ))
  same_object cells v w None P same f = λ σ choice k ts told. f σ choice k ts (subst (λ u. P σ u k ts) (sym (same σ choice)) told)
  same_object cells v w (Some m) P same f =
      told_by objects globals cells m (λ σ. P σ (v σ)) (λ σ. P σ (w σ)) (λ σ choice k ts told. subst (λ u. P σ u k ts) (same σ choice) told)
      (λ σ choice k e ts told. subst (λ u. P σ u k (e ∷ ts)) (sym (same σ choice)) told) f

  -- what follows a value
  abbrev pub NextOf : Then → Env → Handled → Frames → Standing → Obj → ℕ → List Own → Type 0
  NextOf th env h fs σ v = next objects globals (for_then σ th) (for_env σ env) (for_handled σ h) (for_frames σ fs) v

  told_fits : (p : Option Payload) (ch : Choice) (v : Obj) (env : Env) (h : Handled) (fs : Frames) (cells : Cells) → slice_get objects v.number ≡ p
      → ChoiceScoped (first_unused objects cells) ch → EnvScoped (first_unused objects cells) env → HandledScoped (first_unused objects cells) h
      → FramesScoped (first_unused objects cells) fs → FitsIf objects globals cells (by_told objects p ch env h fs cells) (λ σ. NextOf (Told ch) env h fs σ v)
  told_fits (Some (payload.Bool b)) ch v env h fs cells is sc se sh sf =
      told_if objects globals cells (choose objects ch b env h fs cells)
      (λ σ. chosen objects globals (for_choice σ ch) b (for_env σ env) (for_handled σ h) (for_frames σ fs)) (λ σ. NextOf (Told ch) env h fs σ v)
      (λ σ k ts told. (b, is, told))
      (λ σ k ts told. let same : told.0 ≡ b = cc (sym told.1 ∙ is) in
      subst (λ c. chosen objects globals (for_choice σ ch) c (for_env σ env) (for_handled σ h) (for_frames σ fs) k ts) same told.2)
      (choose_fits ch b env h fs cells sc se sh sf)
  told_fits _ ch v env h fs cells is sc se sh sf = λ σ choice k ts told. absurd (cc (sym told.1 ∙ is))

  -- ---- a manager was entered

  abbrev ManagesOf : ℕ → Obj → Option Name → Suite → Obj → Env → Handled → Frames → TellsBy
  ManagesOf line m x s v env h fs σ k ts =
      Manages (scene objects globals) line (σ m) x (σ v) (RunsSuite (scene objects globals) s) (for_env σ env) (for_handled σ h) k ts
      (follows objects globals (for_frames σ fs))

  -- what is told of a manager, or of what is none
  abbrev Managed : Bool → ℕ → Obj → Option Name → Suite → Obj → Env → Handled → Frames → TellsBy
  Managed b line m x s v env h fs σ k ts =
      By_truth b
      (RunsSuite (scene objects globals) s (bind x (σ v) (for_env σ env)) (for_handled σ h) k ts
      (On_exit (scene objects globals) line (σ m) (for_handled σ h) (follows objects globals (for_frames σ fs))))
      (RequestsOf (scene objects globals) line (request.NoExit (σ m)) (for_handled σ h) k ts
      (Use (for_env σ env) (follows objects globals (for_frames σ fs)) (λ u i mid. ⊥)))

  managing_fits : (b : Bool) (line : ℕ) (m : Obj) (x : Option Name) (s : Suite) (v : Obj) (env : Env) (h : Handled) (fs : Frames) (cells : Cells)
      → ObjScoped (first_unused objects cells) m → ObjScoped (first_unused objects cells) v → EnvScoped (first_unused objects cells) env
      → HandledScoped (first_unused objects cells) h → FramesScoped (first_unused objects cells) fs
      → FitsIf objects globals cells (managing objects b line m x s v env h fs cells) (Managed b line m x s v env h fs)
  managing_fits true line m x s v env h fs cells sm sv se sh sf =
      suite_as s (bind x v env) (λ σ. bind x (σ v) (for_env σ env)) h (Exit h line m ∷ fs) cells (λ σ. bind_for σ x v env)
      (bind_scoped _ x v env sv se) sh
      (frame_scoped _ (Exit h line m) fs (exit_frame _ h line m sh sm) sf)
  managing_fits false line m x s v env h fs cells sm sv se sh sf =
      asking_fits objects globals (Requests (request.NoExit m)) env h Refused fs cells tt se sh
      (λ σ σ' same. ap (λ w. Requests (request.NoExit w)) (sm σ σ' same))
      (always _ Refused) sf

  manager_fits : (p : Option Payload) (line : ℕ) (m : Obj) (x : Option Name) (s : Suite) (v : Obj) (env : Env) (h : Handled) (fs : Frames) (cells : Cells)
      → entry_of objects cells m ≡ p → ObjScoped (first_unused objects cells) m → ObjScoped (first_unused objects cells) v
      → EnvScoped (first_unused objects cells) env
      → HandledScoped (first_unused objects cells) h → FramesScoped (first_unused objects cells) fs
      → FitsIf objects globals cells (by_manager objects p line m x s v env h fs cells) (ManagesOf line m x s v env h fs)
  manager_fits None line m x s v env h fs cells is sm sv se sh sf =
      stuck objects globals cells (ManagesOf line m x s v env h fs)
      (λ σ choice k. inl (refl, all_cut objects globals (for_frames σ fs) (for_env σ env) k)) never
    where
      never : (σ : Standing) → IsChoice objects cells σ → (k : ℕ) (e : Own) (ts : List Own) → ManagesOf line m x s v env h fs σ k (e ∷ ts) → ⊥
      never σ choice k e ts (inl (none, told)) = absurd (cc none)
      never σ choice k e ts (inr (p, has, told)) =
          absurd (cc (sym is ∙ (entry_stands objects globals cells m σ (scoped_below _ m sm) choice ∙ has)))
  manager_fits (Some p) line m x s v env h fs cells is sm sv se sh sf =
      by (is_manager p) refl
    where
      has_it : (σ : Standing) → IsChoice objects cells σ → HasPayload objects (σ m) p
      has_it σ choice = sym (entry_stands objects globals cells m σ (scoped_below _ m sm) choice) ∙ is

      back : (σ : Standing) → IsChoice objects cells σ → (k : ℕ) (e : Own) (ts : List Own) → ManagesOf line m x s v env h fs σ k (e ∷ ts)
          → Managed (is_manager p) line m x s v env h fs σ k (e ∷ ts)
      back σ choice k e ts (inl (none, told)) = absurd (cc none)
      back σ choice k e ts (inr (q, has, told)) =
          let same : q ≡ p = cc (has, has_it σ choice) in
          subst (λ r. Managed (is_manager r) line m x s v env h fs σ k (e ∷ ts)) same told

      into : (n : Place) (b : Bool) → is_manager p ≡ b → Fits objects globals cells n (Managed b line m x s v env h fs)
          → Fits objects globals cells n (ManagesOf line m x s v env h fs)
      into n b is_b f =
          told_by objects globals cells n (Managed (is_manager p) line m x s v env h fs) (ManagesOf line m x s v env h fs)
          (λ σ choice k ts told. inr (p, has_it σ choice, told)) back
          (subst (λ c. Fits objects globals cells n (Managed c line m x s v env h fs)) (sym is_b) f)

      by : (b : Bool) → is_manager p ≡ b → FitsIf objects globals cells (managing objects b line m x s v env h fs cells) (ManagesOf line m x s v env h fs)
      by true is_b =
          into (enter objects s (Exit h line m ∷ fs) (resume objects (Exit h line m ∷ fs)) (bind x v env) h cells) true is_b
          (managing_fits true line m x s v env h fs cells sm sv se sh sf)
      by false is_b =
          into (place cells (Asking env h (Requests (request.NoExit m)) Refused fs)) false is_b (managing_fits false line m x s v env h fs cells sm sv se sh sf)

  -- ---- whatever a value becomes

  value_fits : (th : Then) (v : Obj) (env : Env) (h : Handled) (fs : Frames) (cells : Cells) → Stays cells v → ThenScoped (first_unused objects cells) th
      → ObjScoped (first_unused objects cells) v → EnvScoped (first_unused objects cells) env → HandledScoped (first_unused objects cells) h
      → FramesScoped (first_unused objects cells) fs → FitsIf objects globals cells (proceed objects th v env h fs cells) (λ σ. NextOf th env h fs σ (σ v))
  value_fits (Stored t) v env h fs cells stays st sv se sh sf =
      told_same objects globals cells (resume objects fs (bind t v env) Normal cells)
      (λ σ. follows objects globals (for_frames σ fs) (for_env σ (bind t v env)) Normal)
      (λ σ. NextOf (Stored t) env h fs σ (σ v)) (λ σ. ap (λ x. follows objects globals (for_frames σ fs) x Normal) (bind_for σ t v env))
      (resume_fits objects globals fs (bind t v env) Normal cells (bind_scoped _ t v env sv se) sf (always _ Normal))
  value_fits Shown v env h fs cells stays st sv se sh sf =
      asking_fits objects globals (Requests (request.Show v)) env h (Stored None) fs cells tt se sh
      (λ σ σ' same. ap (λ w. Requests (request.Show w)) (sv σ σ' same))
      (always _ (Stored None)) sf
  value_fits Returned v env h fs cells stays st sv se sh sf = resume_fits objects globals fs env (Returns v) cells se sf (returns_scoped _ v sv)
  value_fits Raising v env h fs cells stays st sv se sh sf =
      asking_fits objects globals (Requests (request.Raisable v)) env h Raised fs cells tt se sh
      (λ σ σ' same. ap (λ w. Requests (request.Raisable w)) (sv σ σ' same))
      (always _ Raised) sf
  value_fits Raised v env h fs cells stays st sv se sh sf =
      resume_fits objects globals fs env (Raises (as_exception v)) cells se sf (raises_scoped _ (as_exception v) (λ σ σ' same. ap as_exception (sv σ σ' same)))
  value_fits (Tested ch) v env h fs cells stays st sv se sh sf =
      asking_fits objects globals (Requests (request.Truth v)) env h (Told ch) fs cells tt se sh
      (λ σ σ' same. ap (λ w. Requests (request.Truth w)) (sv σ σ' same))
      (told_scoped _ ch (λ σ σ' same. cc (st σ σ' same))) sf
  value_fits (Told ch) v env h fs cells stays st sv se sh sf =
      same_object cells (λ σ. v) (λ σ. σ v) (by_told objects (slice_get objects v.number) ch env h fs cells) (NextOf (Told ch) env h fs)
      (λ σ choice. sym (stays σ choice))
      (told_fits (slice_get objects v.number) ch v env h fs cells refl (λ σ σ' same. cc (st σ σ' same)) se sh sf)
  value_fits (Classed line x s more e) v env h fs cells stays st sv se sh sf =
      asking_fits objects globals (Requests (request.Match (as_object e) v)) env h (Tested (Catches line x s more e)) fs cells tt se sh
      (λ σ σ' same. ap (λ w. Requests (request.Match w (σ v))) (exception_object _ e sx σ σ' same)
      ∙ ap (λ w. Requests (request.Match (σ' (as_object e)) w)) (sv σ σ' same))
      (tested_scoped _ (Catches line x s more e) (catches_scoped _ line x s more e sx)) sf
    where
      sx : ExceptionScoped (first_unused objects cells) e
      sx σ σ' same = cc (st σ σ' same)
  value_fits (Entering line x s) v env h fs cells stays st sv se sh sf =
      asking_fits objects globals (Requests (request.Enter v)) env h (Entered line v x s) fs cells tt se sh
      (λ σ σ' same. ap (λ w. Requests (request.Enter w)) (sv σ σ' same))
      (entered_scoped _ line v x s sv) sf
  value_fits (Entered line m x s) v env h fs cells stays st sv se sh sf =
      manager_fits (entry_of objects cells m) line m x s v env h fs cells refl (λ σ σ' same. cc (st σ σ' same)) sv se sh sf
  value_fits Refused v env h fs cells stays st sv se sh sf = λ σ choice k ts told. told
  value_fits (Passed o) v env h fs cells stays st sv se sh sf = resume_fits objects globals fs env o cells se sf (λ σ σ' same. cc (st σ σ' same))
  value_fits (Operand line o front es th) v env h fs cells stays st sv se sh sf =
      told_same objects globals cells (operands objects line o (front ++ v ∷ []) es env h th fs cells)
      (TellsOperands objects globals line o (front ++ v ∷ []) es env h th fs)
      (λ σ. NextOf (Operand line o front es th) env h fs σ (σ v)) (one_more objects globals line o front v es env h th fs)
      (operands_fits objects globals es line o (front ++ v ∷ []) env h th fs cells (one_more_scoped _ front v (λ σ σ' same. cc (st σ σ' same)) sv) se sh
      (λ σ σ' same. cc (st σ σ' same)) sf)

  -- the place behind a value, wherever there is one
  pub proceed_fits : (th : Then) (v : Obj) (env : Env) (h : Handled) (fs : Frames) (cells : Cells) → Stays cells v → ThenScoped (first_unused objects cells) th
      → ObjScoped (first_unused objects cells) v → EnvScoped (first_unused objects cells) env → HandledScoped (first_unused objects cells) h
      → FramesScoped (first_unused objects cells) fs → FitsIf objects globals cells (proceed objects th v env h fs cells) (λ σ. NextOf th env h fs σ v)
  proceed_fits th v env h fs cells stays st sv se sh sf =
      same_object cells (λ σ. σ v) (λ σ. v) (proceed objects th v env h fs cells) (NextOf th env h fs) stays
      (value_fits th v env h fs cells stays st sv se sh sf)
