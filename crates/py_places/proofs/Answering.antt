-- What an answer, an entry of a body that yielded and a round leave of a place.
use Rattle.std.proofs.Common.{◌≡◌, ◌<◌, ℕ, Bool, true, List, ◌∷◌, refl, subst, ap, inl, inr, length, arith}
use Rattle.py_objects.specs.declared.refs.PyBaseExceptionRef.{PyBaseExceptionRef}
use Rattle.py_objects.specs.declared.payload.Payload.{Payload}
use Rattle.py_objects.specs.declared.request.Request.TheVariants as request
use Rattle.py_objects.specs.declared.event.GotAnswer.{GotAnswer}
use Rattle.py_objects.specs.declared.event.GotAnswer.TheVariants as got
use Rattle.py_objects.specs.declared.event.ResumeHow.{ResumeHow}
use Rattle.py_objects.specs.declared.event.ResumeHow.TheVariants as how
use Rattle.py_objects.specs.Objects.{Obj, as_exception, as_object}
use Rattle.py_objects.specs.Own.{Own, Resumes, Gets, Rounds}
use Rattle.py_objects.specs.Telling.{AfterValue, Answers, Answered, GoesOn, Resumed}
use Rattle.py_tree.specs.Tree.{Expr, Suite}
use Rattle.py_tree.specs.Binding.{Env}
use Rattle.py_tree.specs.Outcome.{Raises, Handled, Chooses}
use Rattle.py_places.specs.Cells.{Cells}
use Rattle.py_places.specs.Place.{Turns, Then, Tested, Told, Frames, Requests, Waiting, Suspended, Turning}
use Rattle.py_places.specs.Silent.{testing, evaluate, resume}
use Rattle.py_places.specs.Stepping.{proceed}
use Rattle.py_places.specs.Standing.{Standing, first_unused, for_handled, for_env, for_frames}
use Rattle.py_places.specs.Telling.{scene, follows, chosen}
use Rattle.py_places.specs.Checking.{HearsBelow}
use Rattle.py_places.proofs.Fits.{ObjScoped, EnvScoped, HandledScoped, FramesScoped, RestScoped, TellsBy, FitsIf, GoesTo}
use Rattle.py_places.proofs.Scopes.{ExceptionScoped, longer, always, raises_scoped}
use Rattle.py_places.proofs.Combining.{UseNext}
use Rattle.py_places.proofs.Loading.{asking_fits}
use Rattle.py_places.proofs.Choices.{stays}
use Rattle.py_places.proofs.Rounds.{turns_out, turns_in}
use Rattle.py_places.proofs.Proceeding.{same_object, NextOf, proceed_fits}
use Rattle.py_places.proofs.Evaluating.{evaluate_fits}
use Rattle.py_places.proofs.Entering.{resume_fits}
use Rattle.py_places.proofs.Events.{StepsAt, never_steps, fit_steps}

answered_out : (k i : ℕ) (w : GotAnswer) (ts : List Own) (K : AfterValue) → Answered k (Gets i w ∷ ts) K → Answers w i ts K
answered_out k i w ts K (inl (none, told)) = absurd (cc none)
answered_out k i w ts K (inr (i1, w1, mid, same, told)) =
    let answer : w1 ≡ w = cc same in
    let number : i1 ≡ i = cc same in
    let left : mid ≡ ts = cc same in
    subst (λ us. Answers w i us K) left (subst (λ j. Answers w j mid K) number (subst (λ x. Answers x i1 mid K) answer told))

resumed_out : (throws : ℕ → Bool) (k i : ℕ) (w : ResumeHow) (ts : List Own) (K : AfterValue) → Resumed throws k (Resumes i w ∷ ts) K
    → GoesOn throws w i ts K
resumed_out throws k i w ts K (inl (none, told)) = absurd (cc none)
resumed_out throws k i w ts K (inr (i1, w1, mid, same, told)) =
    let entry : w1 ≡ w = cc same in
    let number : i1 ≡ i = cc same in
    let left : mid ≡ ts = cc same in
    subst (λ us. GoesOn throws w i us K) left (subst (λ j. GoesOn throws w j mid K) number (subst (λ x. GoesOn throws x i1 mid K) entry told))

module _ (objects : List Payload) (globals : Obj) where
  -- ---- answers and entries

  -- an object's number is below the first that isn't used
  pub heard_below : (cells : Cells) (v : Obj) → v.number < length objects → ObjScoped (first_unused objects cells) v
  heard_below cells v low σ σ' same = same v (omega (arith, low))

  pub heard_exception : (cells : Cells) (e : PyBaseExceptionRef) → e.number < length objects → ExceptionScoped (first_unused objects cells) e
  heard_exception cells e low σ σ' same = ap as_exception (heard_below cells (as_object e) low σ σ' same)

  module _ (env : Env) (h : Handled) (th : Then) (fs : Frames) (cells : Cells) (s : RestScoped (first_unused objects cells) (Waiting env h th fs)) where
    -- what is told behind a value that is heard, and behind an exception
    abbrev BehindValue : Obj → TellsBy
    BehindValue v σ = NextOf objects globals th env h fs σ v

    abbrev BehindRaise : PyBaseExceptionRef → TellsBy
    BehindRaise e σ = follows objects globals (for_frames σ fs) (for_env σ env) (Raises e)

    given_fits : (v : Obj) → v.number < length objects → FitsIf objects globals cells (proceed objects th v env h fs cells) (BehindValue v)
    given_fits v low =
        proceed_fits objects globals th v env h fs cells (stays objects cells v low) (λ σ σ' same. cc (s σ σ' same)) (heard_below cells v low)
        (λ σ σ' same. cc (s σ σ' same)) (λ σ σ' same. cc (s σ σ' same)) (λ σ σ' same. cc (s σ σ' same))

    thrown_fits : (e : PyBaseExceptionRef) → e.number < length objects
        → FitsIf objects globals cells (resume objects fs env (Raises e) cells) (BehindRaise e)
    thrown_fits e low =
        same_object objects globals cells (λ σ. σ (as_object e)) (λ σ. as_object e) (resume objects fs env (Raises e) cells)
        (λ σ w. BehindRaise (as_exception w) σ) (stays objects cells (as_object e) low)
        (resume_fits objects globals fs env (Raises e) cells (λ σ σ' same. cc (s σ σ' same)) (λ σ σ' same. cc (s σ σ' same))
        (raises_scoped _ e (heard_exception cells e low)))

    -- what is told of a value that is awaited
    abbrev Awaits : Standing → AfterValue
    Awaits = UseNext objects globals th env h fs

    pub answer_steps : (i : ℕ) (w : GotAnswer) → HearsBelow (length objects) (Gets i w) → StepsAt objects globals (Waiting env h th fs) (Gets i w) cells
    answer_steps i (got.Value v) low =
        fit_steps objects globals cells (Waiting env h th fs) (Gets i (got.Value v)) (proceed objects th v env h fs cells) (BehindValue v)
        (given_fits v low.0) (λ σ k ts told. inr (i, got.Value v, ts, refl, told))
        (λ σ k ts told. answered_out k i (got.Value v) ts (Awaits σ) told)
    answer_steps i (got.Raise e) low =
        fit_steps objects globals cells (Waiting env h th fs) (Gets i (got.Raise e)) (resume objects fs env (Raises e) cells) (BehindRaise e)
        (thrown_fits e low.0) (λ σ k ts told. inr (i, got.Raise e, ts, refl, told))
        (λ σ k ts told. answered_out k i (got.Raise e) ts (Awaits σ) told)
    answer_steps i (got.Stop v) low =
        never_steps objects globals cells (Waiting env h th fs) (Gets i (got.Stop v))
        (λ σ choice k ts told. answered_out k i (got.Stop v) ts (Awaits σ) told)

    pub entry_steps : (i : ℕ) (w : ResumeHow) → HearsBelow (length objects) (Resumes i w)
        → StepsAt objects globals (Suspended env h th fs) (Resumes i w) cells
    entry_steps i (how.Send v) low =
        fit_steps objects globals cells (Suspended env h th fs) (Resumes i (how.Send v)) (proceed objects th v env h fs cells) (BehindValue v)
        (given_fits v low.0) (λ σ k ts told. inr (i, how.Send v, ts, refl, told))
        (λ σ k ts told. resumed_out (λ j. true) k i (how.Send v) ts (Awaits σ) told)
    entry_steps i (how.Throw e) low =
        fit_steps objects globals cells (Suspended env h th fs) (Resumes i (how.Throw e)) (resume objects fs env (Raises e) cells) (BehindRaise e)
        (thrown_fits e low.0) (λ σ k ts told. inr (i, how.Throw e, ts, refl, (refl, told)))
        (λ σ k ts told. (resumed_out (λ j. true) k i (how.Throw e) ts (Awaits σ) told).1)
    entry_steps i how.Start low =
        never_steps objects globals cells (Suspended env h th fs) (Resumes i how.Start)
        (λ σ choice k ts told. resumed_out (λ j. true) k i how.Start ts (Awaits σ) told)

  -- ---- rounds

  pub round_steps : (env : Env) (h : Handled) (line : ℕ) (e : Expr) (s : Suite) (fs : Frames) (at : ℕ) (cells : Cells)
      → RestScoped (first_unused objects cells) (Turning env h line e s fs) → StepsAt objects globals (Turning env h line e s fs) (Rounds at) cells
  round_steps env h line e s fs at cells sr =
      fit_steps objects globals cells (Turning env h line e s fs) (Rounds at)
      (evaluate objects line e env h (Tested (Turns line e s)) fs cells (testing (Turns line e s) env h fs))
      (λ σ k ts. Chooses (scene objects globals) line (for_env σ env) (for_handled σ h) e k ts (follows objects globals (for_frames σ fs))
      (λ b. chosen objects globals (Turns line e s) b (for_env σ env) (for_handled σ h) (for_frames σ fs)))
      (evaluate_fits objects globals e line env h (Tested (Turns line e s)) fs cells (testing (Turns line e s) env h fs) se sh
      (always _ (Tested (Turns line e s))) sf goes)
      (λ σ k ts told. turns_in objects globals line e s (for_handled σ h) (for_frames σ fs) (for_env σ env) k at ts told)
      (λ σ k ts told. (turns_out objects globals line e s (for_handled σ h) (for_frames σ fs) told.0 (for_env σ env) k (Rounds at) ts told.1).2)
    where
      se : EnvScoped (first_unused objects cells) env
      se σ σ' same = cc (sr σ σ' same)

      sh : HandledScoped (first_unused objects cells) h
      sh σ σ' same = cc (sr σ σ' same)

      sf : FramesScoped (first_unused objects cells) fs
      sf σ σ' same = cc (sr σ σ' same)

      goes : GoesTo objects globals (Tested (Turns line e s)) env h fs (testing (Turns line e s) env h fs) cells
      goes v cells1 le sv =
          asking_fits objects globals (Requests (request.Truth v)) env h (Told (Turns line e s)) fs cells1 tt (longer objects cells cells1 le se)
          (longer objects cells cells1 le sh) (λ σ σ' same. ap (λ w. Requests (request.Truth w)) (sv σ σ' same))
          (always _ (Told (Turns line e s))) (longer objects cells cells1 le sf)
