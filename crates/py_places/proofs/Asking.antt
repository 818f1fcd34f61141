-- What a request, an exit and a yield leave of a place.
use Rattle.std.proofs.Common.{◌≡◌, ◌<◌, ℕ, List, ◌∷◌, Option, Some, refl, sym, subst, ap, ◌∙◌, inl, inr}
use Rattle.py_objects.specs.declared.refs.PyBaseExceptionRef.{PyBaseExceptionRef}
use Rattle.py_objects.specs.declared.payload.Payload.{Payload}
use Rattle.py_objects.specs.declared.request.Request.{Request}
use Rattle.py_objects.specs.declared.request.Request.TheVariants as request
use Rattle.py_objects.specs.Objects.{Obj, as_object, class_object}
use Rattle.py_objects.specs.Own.{Own, Asks, Yields}
use Rattle.py_tree.specs.Binding.{Env}
use Rattle.py_tree.specs.Outcome.{Handled}
use Rattle.py_places.specs.Cells.{Cells}
use Rattle.py_places.specs.Place.{Then, Frames, Question, Asking, Waiting, Yielding, Suspended, Leaving, Leaving_by}
use Rattle.py_places.specs.Stepping.{meet, meet_handled, meet_question, meet_exit, meet_exit_by}
use Rattle.py_places.specs.Standing.{Standing, first_unused, IsChoice, for_exception, for_handled, for_question}
use Rattle.py_places.specs.Telling.{request_of}
use Rattle.py_places.proofs.Fits.{Scoped, ObjScoped, HandledScoped, RestScoped, IsAskableQuestion}
use Rattle.py_places.proofs.Scopes.{ExceptionScoped}
use Rattle.py_places.proofs.Literals.{scoped_below}
use Rattle.py_places.proofs.Choices.{MeetsIf, IsMet, meets_none, meets_as, meets, is_met, handled_more, handled_met}
use Rattle.py_places.proofs.Meeting.{question_more, question_met, IsExit, exit_more, exit_met, IsExitBy, exit_by_more, exit_by_met}
use Rattle.py_places.proofs.Events.{TellsAt, StepsAt, met_steps}

module _ (objects : List Payload) (globals : Obj) where
  -- ---- what is handled, which an event that asks names first

  abbrev handled_in : Handled → Handled → Cells → Option Cells
  handled_in h own cells = meet_handled objects h own (Some cells)

  handled_first : (h own : Handled) (cells : Cells) → HandledScoped (first_unused objects cells) h
      → MeetsIf objects cells (handled_in h own cells) (λ σ. for_handled σ h ≡ own)
  handled_first h own cells sh =
      meets_as objects cells (handled_in h own cells) (λ σ. Unit {0} × (for_handled σ h ≡ own)) (λ σ. for_handled σ h ≡ own) (λ σ k. k.1)
      (handled_more objects h own cells (Some cells) (λ σ. Unit {0}) sh (meets_none objects cells (λ σ. Unit {0}) (λ σ choice. tt)))

  first_handled : (h own : Handled) (cells : Cells) (σ : Standing) → HandledScoped (first_unused objects cells) h → IsChoice objects cells σ
      → for_handled σ h ≡ own → IsMet objects cells σ (handled_in h own cells)
  first_handled h own cells σ sh choice is =
      subst (λ o. IsMet objects cells σ (handled_in h o cells)) is (handled_met objects h cells σ (Some cells) sh (cells, refl, choice, refl))

  -- a request that is told by a choice is an event's where what is asked and what is handled are
  asks_so : (at : ℕ) (r r1 : Request) (h own : Handled) (ts : List Own) → h ≡ own → r1 ≡ r → Asks at r own ∷ ts ≡ Asks at r1 h ∷ ts
  asks_so at r r1 h own ts is_h is_r = ap (λ o. Asks at r o ∷ ts) (sym is_h) ∙ ap (λ x. Asks at x h ∷ ts) (sym is_r)

  -- ---- requests

  module _ (env : Env) (h : Handled) (th : Then) (fs : Frames) (at : ℕ) (r : Request) (own : Handled) (cells : Cells) where
    -- what is told behind the request
    abbrev ToldBehind : Standing → ℕ → List Own → Type 0
    ToldBehind = TellsAt objects globals (Waiting env h th fs)

    answered_as : (σ : Standing) (k : ℕ) (mid ts : List Own) → mid ≡ ts → ToldBehind σ k mid → ToldBehind σ k ts
    answered_as σ k mid ts left told = subst (λ us. ToldBehind σ k us) left told

    -- the question is what the place asks, while this is handled
    abbrev Questioned : Question → Standing → Type 0
    Questioned q σ = (for_handled σ h ≡ own) × (request_of globals (for_question σ q) ≡ r)

    pub asking_steps : (q : Question) → RestScoped (first_unused objects cells) (Asking env h q th fs) → IsAskableQuestion q
        → StepsAt objects globals (Asking env h q th fs) (Asks at r own) cells
    asking_steps q s asks =
        met_steps objects globals cells (Asking env h q th fs) (Waiting env h th fs) (Asks at r own)
        (meet_question objects globals q r (handled_in h own cells))
        (Questioned q) (λ σ σ' same. cc (s σ σ' same)) tt
        (question_more objects globals q r cells (handled_in h own cells) (λ σ. for_handled σ h ≡ own) sq (handled_first h own cells sh))
        (λ σ choice k. subst (λ x. IsMet objects cells σ (meet_question objects globals q x (handled_in h own cells))) k.1
        (question_met objects globals q cells σ (handled_in h own cells) asks sq (first_handled h own cells σ sh choice k.0)))
        (λ σ k ts is told. inr (at, ts, refl, asks_so at r (request_of globals (for_question σ q)) (for_handled σ h) own ts is.0 is.1, told)) out
      where
        sq : Scoped (first_unused objects cells) (λ σ. for_question σ q)
        sq σ σ' same = cc (s σ σ' same)

        sh : HandledScoped (first_unused objects cells) h
        sh σ σ' same = cc (s σ σ' same)

        out : (σ : Standing) (k : ℕ) (ts : List Own) → TellsAt objects globals (Asking env h q th fs) σ k (Asks at r own ∷ ts)
            → Questioned q σ × ToldBehind σ k ts
        out σ k ts (inl (none, told)) = absurd (cc none)
        out σ k ts (inr (at1, mid, unit, same, told)) = ((cc same, cc same), answered_as σ k mid ts (cc same) told)

    -- the request is the exit of the manager, while this is handled
    abbrev Left : Obj → Standing → Type 0
    Left m σ = (for_handled σ h ≡ own) × IsExit objects (σ m) r

    pub leaving_steps : (m : Obj) → RestScoped (first_unused objects cells) (Leaving env h m th fs)
        → StepsAt objects globals (Leaving env h m th fs) (Asks at r own) cells
    leaving_steps m s =
        met_steps objects globals cells (Leaving env h m th fs) (Waiting env h th fs) (Asks at r own) (meet_exit objects m r (handled_in h own cells))
        (Left m) (λ σ σ' same. cc (s σ σ' same)) tt
        (exit_more objects m r cells (handled_in h own cells) (λ σ. for_handled σ h ≡ own) sm (handled_first h own cells sh))
        (λ σ choice k. exit_met objects m r cells σ (handled_in h own cells) sm k.1 (first_handled h own cells σ sh choice k.0)) into out
      where
        sm : ObjScoped (first_unused objects cells) m
        sm σ σ' same = cc (s σ σ' same)

        sh : HandledScoped (first_unused objects cells) h
        sh σ σ' same = cc (s σ σ' same)

        into : (σ : Standing) (k : ℕ) (ts : List Own) → Left m σ → ToldBehind σ k ts → TellsAt objects globals (Leaving env h m th fs) σ k (Asks at r own ∷ ts)
        into σ k ts (is, exit) told =
            let r1 : Request = request.Exit (σ m) exit.class exit.value exit.traceback in
            let asked : Asks at r own ∷ ts ≡ Asks at r1 (for_handled σ h) ∷ ts = asks_so at r r1 (for_handled σ h) own ts is (sym exit.is) in
            inr (exit.class, exit.value, exit.traceback, exit.no_class, exit.no_value, exit.no_traceback, inr (at, ts, refl, asked, told))

        out : (σ : Standing) (k : ℕ) (ts : List Own) → TellsAt objects globals (Leaving env h m th fs) σ k (Asks at r own ∷ ts) → Left m σ × ToldBehind σ k ts
        out σ k ts (inl (none, told)) = absurd (cc none)
        out σ k ts (inr (c, v, t, is_c, is_v, is_t, inl (none, told))) = absurd (cc none)
        out σ k ts (inr (c, v, t, is_c, is_v, is_t, inr (at1, mid, unit, same, told))) = (
          (cc same, record { class = c; value = v; traceback = t; no_class = is_c; no_value = is_v; no_traceback = is_t; is = cc same }),
          answered_as σ k mid ts (cc same) told,
        )

    -- and that by a raise, which is handled meanwhile
    abbrev LeftBy : Obj → PyBaseExceptionRef → Standing → Type 0
    LeftBy m e σ = (for_handled σ (Some e) ≡ own) × IsExitBy objects (σ m) (for_exception σ e) r

    pub leaving_by_steps : (m : Obj) (e : PyBaseExceptionRef) → RestScoped (first_unused objects cells) (Leaving_by env h m e th fs)
        → StepsAt objects globals (Leaving_by env h m e th fs) (Asks at r own) cells
    leaving_by_steps m e s =
        met_steps objects globals cells (Leaving_by env h m e th fs) (Waiting env h th fs) (Asks at r own)
        (meet_exit_by objects m e r (handled_in (Some e) own cells))
        (LeftBy m e) (λ σ σ' same. cc (s σ σ' same)) tt
        (exit_by_more objects m e r cells (handled_in (Some e) own cells) (λ σ. for_handled σ (Some e) ≡ own) sm sx (handled_first (Some e) own cells sh))
        (λ σ choice k. exit_by_met objects m e r cells σ (handled_in (Some e) own cells) sm sx k.1 (first_handled (Some e) own cells σ sh choice k.0)) into out
      where
        sm : ObjScoped (first_unused objects cells) m
        sm σ σ' same = cc (s σ σ' same)

        sx : ExceptionScoped (first_unused objects cells) e
        sx σ σ' same = cc (s σ σ' same)

        sh : HandledScoped (first_unused objects cells) (Some e)
        sh σ σ' same = ap Some (sx σ σ' same)

        into : (σ : Standing) (k : ℕ) (ts : List Own) → LeftBy m e σ → ToldBehind σ k ts
            → TellsAt objects globals (Leaving_by env h m e th fs) σ k (Asks at r own ∷ ts)
        into σ k ts (is, exit) told =
            let r1 : Request = request.Exit (σ m) (class_object exit.body.class) (as_object (for_exception σ e)) exit.traceback in
            let asked : Asks at r own ∷ ts ≡ Asks at r1 (for_handled σ (Some e)) ∷ ts = asks_so at r r1 (for_handled σ (Some e)) own ts is (sym exit.is) in
            inr (exit.body, exit.traceback, exit.has, inr (at, ts, refl, asked, told))

        out : (σ : Standing) (k : ℕ) (ts : List Own) → TellsAt objects globals (Leaving_by env h m e th fs) σ k (Asks at r own ∷ ts)
            → LeftBy m e σ × ToldBehind σ k ts
        out σ k ts (inl (none, told)) = absurd (cc none)
        out σ k ts (inr (body, t, has, inl (none, told))) = absurd (cc none)
        out σ k ts (inr (body, t, has, inr (at1, mid, unit, same, told))) =
            ((cc same, record { body = body; traceback = t; has = has; is = cc same }), answered_as σ k mid ts (cc same) told)

  -- ---- yields

  pub yielding_steps : (env : Env) (h : Handled) (v : Obj) (th : Then) (fs : Frames) (at : ℕ) (w : Obj) (cells : Cells)
      → RestScoped (first_unused objects cells) (Yielding env h v th fs) → StepsAt objects globals (Yielding env h v th fs) (Yields at w) cells
  yielding_steps env h v th fs at w cells s =
      met_steps objects globals cells (Yielding env h v th fs) (Suspended env h th fs) (Yields at w) (meet objects v w cells) (λ σ. σ v ≡ w)
      (λ σ σ' same. cc (s σ σ' same)) tt (meets objects cells v w low) (λ σ choice is. is_met objects cells v w σ low choice is)
      (λ σ k ts is told. inr (at, ts, refl, ap (λ u. Yields at u ∷ ts) (sym is), told)) out
    where
      low : v.number < first_unused objects cells
      low = scoped_below _ v (λ σ σ' same. cc (s σ σ' same))

      out : (σ : Standing) (k : ℕ) (ts : List Own) → TellsAt objects globals (Yielding env h v th fs) σ k (Yields at w ∷ ts)
          → (σ v ≡ w) × TellsAt objects globals (Suspended env h th fs) σ k ts
      out σ k ts (inl (none, told)) = absurd (cc none)
      out σ k ts (inr (at1, mid, unit, same, told)) =
          let left : mid ≡ ts = cc same in (cc same, subst (λ us. TellsAt objects globals (Suspended env h th fs) σ k us) left told)
