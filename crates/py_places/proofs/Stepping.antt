-- What an event leaves of a place: it is told there just where a choice tells it, and what it leaves tells just what may follow.
use Rattle.std.proofs.Common.{◌≡◌, ◌<◌, ℕ, Bool, true, false, cond, List, [], ◌∷◌, Some, None, refl, sym, subst, ap, ◌∙◌, inl, inr, length}
use Rattle.py_objects.specs.declared.refs.PyBaseExceptionRef.{PyBaseExceptionRef}
use Rattle.py_objects.specs.declared.payload.Payload.{Payload}
use Rattle.py_objects.specs.declared.payload.Payload.TheVariants as payload
use Rattle.py_objects.specs.declared.event.ResumeHow.TheVariants as how
use Rattle.py_objects.specs.declared.event.Ending.{Ending}
use Rattle.py_objects.specs.declared.event.Ending.TheVariants as ending
use Rattle.py_objects.specs.Objects.{Obj, HasPayload, as_exception, as_object}
use Rattle.py_objects.specs.Own.{Own, Resumes, Asks, Gets, Rounds, Yields, Ends}
use Rattle.py_tree.specs.declared.body.BodyKind.{BodyKind}
use Rattle.py_tree.specs.declared.body.BodyKind.TheVariants.{Function, Generator}
use Rattle.py_tree.specs.Tree.{Name, Tree}
use Rattle.py_tree.specs.Binding.{begun, locals_of, start_env}
use Rattle.py_tree.specs.Outcome.{Normal, RunsSuite}
use Rattle.py_tree.specs.Trace.{Ended, EndsBy}
use Rattle.py_places.specs.Cells.{Cells}
use Rattle.py_places.specs.Place.{Last, Nothing_more, Value, Raise, Rest, Stuck, Starting, Asking, Waiting, Yielding, Suspended, Turning, Leaving, Leaving_by, Ending_by, Place, place}
use Rattle.py_places.specs.Silent.{enter, resume}
use Rattle.py_places.specs.Stepping.{meet, is_none, if_met, thrown_first, step_rest, step}
use Rattle.py_places.specs.Standing.{Standing, first_unused, IsChoice, for_exception, for_handled, for_all, for_env, for_frames, for_rest}
use Rattle.py_places.specs.Telling.{scene, Tells}
use Rattle.py_places.specs.Checking.{HearsBelow}
use Rattle.py_places.proofs.Fits.{EnvScoped, RestScoped, AsksKnown, TellsBy, FitsIf, Leaves}
use Rattle.py_places.proofs.Scopes.{AllScoped, always, raise_scoped, ending_scoped}
use Rattle.py_places.proofs.Literals.{scoped_below}
use Rattle.py_places.proofs.Combining.{all_cut, here, told_by}
use Rattle.py_places.proofs.Choices.{stays, exception_below, meets_none, meets, is_met}
use Rattle.py_places.proofs.Meeting.{none_has, has_none}
use Rattle.py_places.proofs.Rounds.{turns_out}
use Rattle.py_places.proofs.Proceeding.{suite_as}
use Rattle.py_places.proofs.Events.{TellsAt, Steps, StepsAt, never_steps, fit_steps, met_steps}
use Rattle.py_places.proofs.Asking.{asking_steps, leaving_steps, leaving_by_steps, yielding_steps}
use Rattle.py_places.proofs.Answering.{heard_exception, answer_steps, entry_steps, round_steps}

-- ---- the locals at the entry

begun_for : (σ : Standing) (xs : List Name) (vs : List Obj) → for_env σ (begun xs vs) ≡ begun xs (for_all σ vs)
begun_for σ [] vs = refl
begun_for σ (x ∷ xs) [] = ap (λ env. (x, None) ∷ env) (begun_for σ xs [])
begun_for σ (x ∷ xs) (v ∷ vs) = ap (λ env. (x, Some (σ v)) ∷ env) (begun_for σ xs vs)

start_scoped : (n : ℕ) (t : Tree) (args : List Obj) → AllScoped n args → EnvScoped n (start_env t args)
start_scoped n t args s σ σ' same = begun_for σ (locals_of t) args ∙ (ap (begun (locals_of t)) (s σ σ' same) ∙ sym (begun_for σ' (locals_of t) args))

module _ (objects : List Payload) (globals : Obj) where
  -- ---- ends

  -- the end of a body that comes to its end, where this tells whether the object is None
  normal_steps : (at : ℕ) (w : Obj) (cells : Cells) (b : Bool) → is_none objects w ≡ b
      → Steps objects globals cells (Ending_by Nothing_more) (Ends at (ending.Return w)) (cond b (Some (place cells Stuck)) None)
  normal_steps at w cells true is =
      met_steps objects globals cells (Ending_by Nothing_more) Stuck (Ends at (ending.Return w)) (Some cells) (λ σ. Unit {0}) (always _ Stuck) tt
      (meets_none objects cells (λ σ. Unit {0}) (λ σ choice. tt)) (λ σ choice none. (cells, refl, choice, refl))
      (λ σ k ts none left. inr (w, none_has objects w is, inr (at, ap (λ l. Ends at (ending.Return w) ∷ l) left))) out
    where
      out : (σ : Standing) (k : ℕ) (ts : List Own) → EndsBy (scene objects globals) [] Normal k (Ends at (ending.Return w) ∷ ts) → Unit {0} × (ts ≡ [])
      out σ k ts (inl none) = absurd (cc none)
      out σ k ts (inr (v, has, inl none)) = absurd (cc none)
      out σ k ts (inr (v, has, inr (at1, same))) = (tt, cc same)
  normal_steps at w cells false is = never_steps objects globals cells (Ending_by Nothing_more) (Ends at (ending.Return w)) never
    where
      never : (σ : Standing) → IsChoice objects cells σ → (k : ℕ) (ts : List Own)
          → EndsBy (scene objects globals) [] Normal k (Ends at (ending.Return w) ∷ ts) → ⊥
      never σ choice k ts (inl none) = absurd (cc none)
      never σ choice k ts (inr (v, has, inl none)) = absurd (cc none)
      never σ choice k ts (inr (v, has, inr (at1, same))) =
          let which : v ≡ w = cc same in
          absurd (cc (sym is ∙ has_none objects w (subst (λ u. HasPayload objects u payload.None) which has)))

  -- one that ends by what an object of the place stands for
  ended_steps : (l : Last) (v w : Obj) (en : Ending) (to : Obj → Ending) (at : ℕ) (cells : Cells) → v.number < first_unused objects cells
      → en ≡ to w → ((u : Obj) → to u ≡ to w → u ≡ w)
      → ((σ : Standing) (k : ℕ) (ts : List Own) → Ended (to (σ v)) ts → TellsAt objects globals (Ending_by l) σ k ts)
      → ((σ : Standing) (k : ℕ) (ts : List Own) → TellsAt objects globals (Ending_by l) σ k ts → Ended (to (σ v)) ts)
      → Steps objects globals cells (Ending_by l) (Ends at en) (if_met objects Stuck (meet objects v w cells))
  ended_steps l v w en to at cells low is one into out =
      met_steps objects globals cells (Ending_by l) Stuck (Ends at en) (meet objects v w cells) (λ σ. σ v ≡ w)
      (always _ Stuck) tt (meets objects cells v w low) (λ σ choice same. is_met objects cells v w σ low choice same)
      (λ σ k ts same left. into σ k (Ends at en ∷ ts) (inr (at, ap (λ l1. Ends at en ∷ l1) left ∙ ap (λ x. Ends at x ∷ []) (is ∙ ap to (sym same)))))
      (λ σ k ts told. back σ ts (out σ k (Ends at en ∷ ts) told))
    where
      back : (σ : Standing) (ts : List Own) → Ended (to (σ v)) (Ends at en ∷ ts) → (σ v ≡ w) × (ts ≡ [])
      back σ ts (inl none) = absurd (cc none)
      back σ ts (inr (at1, same)) = let end : to (σ v) ≡ en = cc same in (one (σ v) (end ∙ is), cc same)

  value_steps : (v w : Obj) (at : ℕ) (cells : Cells) → RestScoped (first_unused objects cells) (Ending_by (Value v))
      → StepsAt objects globals (Ending_by (Value v)) (Ends at (ending.Return w)) cells
  value_steps v w at cells s =
      ended_steps (Value v) v w (ending.Return w) ending.Return at cells (scoped_below _ v (λ σ σ' same. cc (s σ σ' same))) refl (λ u same. cc same)
      (λ σ k ts told. told) (λ σ k ts told. told)

  raise_steps : (e f : PyBaseExceptionRef) (at : ℕ) (cells : Cells) → RestScoped (first_unused objects cells) (Ending_by (Raise e))
      → StepsAt objects globals (Ending_by (Raise e)) (Ends at (ending.Raise f)) cells
  raise_steps e f at cells s =
      ended_steps (Raise e) (as_object e) (as_object f) (ending.Raise f) (λ w. ending.Raise (as_exception w)) at cells
      (exception_below objects _ e (λ σ σ' same. cc (s σ σ' same))) refl
      (λ u same. let one : as_exception u ≡ f = cc same in ap as_object one) (λ σ k ts told. told) (λ σ k ts told. told)

  -- ---- how an activation starts

  start_steps : (t : Tree) (args : List Obj) (i : ℕ) (cells : Cells) → RestScoped (first_unused objects cells) (Starting t args)
      → StepsAt objects globals (Starting t args) (Resumes i how.Start) cells
  start_steps t args i cells s =
      fit_steps objects globals cells (Starting t args) (Resumes i how.Start)
      (Some (enter objects t.suite [] (resume objects []) (start_env t args) None cells))
      (λ σ k ts. RunsSuite (scene objects globals) t.suite (start_env t (for_all σ args)) None k ts (EndsBy (scene objects globals)))
      (suite_as objects globals t.suite (start_env t args) (λ σ. start_env t (for_all σ args)) None [] cells (λ σ. begun_for σ (locals_of t) args)
      (start_scoped _ t args (λ σ σ' same. cc (s σ σ' same))) (always _ None) (always _ []))
      (λ σ k ts told. told) (λ σ k ts told. told)

  -- what may follow a throw into an activation that hasn't started
  abbrev ThrownInto : Tree → PyBaseExceptionRef → TellsBy
  ThrownInto t e σ k ts = (t.kind ≡ Generator) × (true ≡ true) × Ended (ending.Raise e) ts

  first_fits : (t : Tree) (e : PyBaseExceptionRef) (cells : Cells) → e.number < length objects → (kind : BodyKind) → t.kind ≡ kind
      → FitsIf objects globals cells (thrown_first objects kind e cells) (ThrownInto t e)
  first_fits t e cells low Function is = λ σ choice k ts told. absurd (cc (sym is ∙ told.0))
  first_fits t e cells low Generator is =
      told_by objects globals cells (place cells (Ending_by (Raise e))) (λ σ k ts. Ended (ending.Raise (for_exception σ e)) ts) (ThrownInto t e)
      (λ σ choice k ts told. (is, refl, subst (λ x. Ended (ending.Raise x) ts) (itself σ choice) told))
      (λ σ choice k d ts told. subst (λ x. Ended (ending.Raise x) (d ∷ ts)) (sym (itself σ choice)) told.2)
      (here objects globals cells (Ending_by (Raise e)) (ending_scoped _ (Raise e) (raise_scoped _ e (heard_exception objects globals cells e low))) tt)
    where
      itself : (σ : Standing) → IsChoice objects cells σ → for_exception σ e ≡ e
      itself σ choice = ap as_exception (stays objects cells (as_object e) low σ choice)

  throw_steps : (t : Tree) (args : List Obj) (i : ℕ) (e : PyBaseExceptionRef) (cells : Cells) → e.number < length objects
      → StepsAt objects globals (Starting t args) (Resumes i (how.Throw e)) cells
  throw_steps t args i e cells low =
      fit_steps objects globals cells (Starting t args) (Resumes i (how.Throw e)) (thrown_first objects t.kind e cells) (ThrownInto t e)
      (first_fits t e cells low t.kind refl) (λ σ k ts told. told) (λ σ k ts told. told)

  -- ---- the law of a step

  rest_leaves : (r : Rest) (e : Own) (cells : Cells) (p : Place) → RestScoped (first_unused objects cells) r → AsksKnown r
      → HearsBelow (length objects) e → step_rest objects globals r e cells ≡ Some p → Leaves objects globals (place cells r) e p
  rest_leaves (Starting t args) (Resumes i how.Start) cells p s a low is = (start_steps t args i cells s).leaves p is
  rest_leaves (Starting t args) (Resumes i (how.Throw e)) cells p s a low is = (throw_steps t args i e cells low.0).leaves p is
  rest_leaves (Asking env h q th fs) (Asks at r own) cells p s a low is = (asking_steps objects globals env h th fs at r own cells q s a).leaves p is
  rest_leaves (Waiting env h th fs) (Gets i w) cells p s a low is = (answer_steps objects globals env h th fs cells s i w low).leaves p is
  rest_leaves (Yielding env h v th fs) (Yields at w) cells p s a low is = (yielding_steps objects globals env h v th fs at w cells s).leaves p is
  rest_leaves (Suspended env h th fs) (Resumes i w) cells p s a low is =
      (entry_steps objects globals env h th fs cells (λ σ σ' same. cc (s σ σ' same)) i w low).leaves p is
  rest_leaves (Turning env h line e body fs) (Rounds at) cells p s a low is =
      (round_steps objects globals env h line e body fs at cells s).leaves p is
  rest_leaves (Leaving env h m th fs) (Asks at r own) cells p s a low is = (leaving_steps objects globals env h th fs at r own cells m s).leaves p is
  rest_leaves (Leaving_by env h m e th fs) (Asks at r own) cells p s a low is =
      (leaving_by_steps objects globals env h th fs at r own cells m e s).leaves p is
  rest_leaves (Ending_by Nothing_more) (Ends at (ending.Return w)) cells p s a low is = (normal_steps at w cells (is_none objects w) refl).leaves p is
  rest_leaves (Ending_by (Value v)) (Ends at (ending.Return w)) cells p s a low is = (value_steps v w at cells s).leaves p is
  rest_leaves (Ending_by (Raise e)) (Ends at (ending.Raise f)) cells p s a low is = (raise_steps e f at cells s).leaves p is
  rest_leaves _ _ cells p s a low is = absurd (cc is)

  pub step_leaves : (p : Place) (e : Own) (p1 : Place) → RestScoped (first_unused objects p.cells) p.rest → AsksKnown p.rest → HearsBelow (length objects) e
      → step objects globals p e ≡ Some p1 → Leaves objects globals p e p1
  step_leaves p e p1 s a low is = rest_leaves p.rest e p.cells p1 s a low is

  -- ---- and wherever a choice tells an event, there is a step

  abbrev Stepped : Rest → Own → Cells → Type 0
  Stepped r e cells = (p : Place) × (step_rest objects globals r e cells ≡ Some p)

  rest_steps : (r : Rest) (e : Own) (cells : Cells) (σ : Standing) (k : ℕ) (ts : List Own) → RestScoped (first_unused objects cells) r → AsksKnown r
      → HearsBelow (length objects) e → IsChoice objects cells σ → TellsAt objects globals r σ k (e ∷ ts) → Stepped r e cells
  rest_steps Stuck e cells σ k ts s a low choice told = absurd (cc told)
  rest_steps (Starting t args) (Resumes i how.Start) cells σ k ts s a low choice told = (start_steps t args i cells s).some σ choice k ts told
  rest_steps (Starting t args) (Resumes i (how.Throw e)) cells σ k ts s a low choice told =
      (throw_steps t args i e cells low.0).some σ choice k ts told
  rest_steps (Starting t args) _ cells σ k ts s a low choice told = absurd told
  rest_steps (Asking env h q th fs) (Asks at r own) cells σ k ts s a low choice told =
      (asking_steps objects globals env h th fs at r own cells q s a).some σ choice k ts told
  rest_steps (Asking env h q th fs) _ cells σ k ts s a low choice (inl (none, told)) = absurd (cc none)
  rest_steps (Asking env h q th fs) _ cells σ k ts s a low choice (inr (at, mid, unit, same, told)) = absurd (cc same)
  rest_steps (Waiting env h th fs) (Gets i w) cells σ k ts s a low choice told =
      (answer_steps objects globals env h th fs cells s i w low).some σ choice k ts told
  rest_steps (Waiting env h th fs) _ cells σ k ts s a low choice (inl (none, told)) = absurd (cc none)
  rest_steps (Waiting env h th fs) _ cells σ k ts s a low choice (inr (i, w, mid, same, told)) = absurd (cc same)
  rest_steps (Yielding env h v th fs) (Yields at w) cells σ k ts s a low choice told =
      (yielding_steps objects globals env h v th fs at w cells s).some σ choice k ts told
  rest_steps (Yielding env h v th fs) _ cells σ k ts s a low choice (inl (none, told)) = absurd (cc none)
  rest_steps (Yielding env h v th fs) _ cells σ k ts s a low choice (inr (at, mid, unit, same, told)) = absurd (cc same)
  rest_steps (Suspended env h th fs) (Resumes i w) cells σ k ts s a low choice told =
      (entry_steps objects globals env h th fs cells (λ σ1 σ2 same. cc (s σ1 σ2 same)) i w low).some σ choice k ts told
  rest_steps (Suspended env h th fs) _ cells σ k ts s a low choice (inl (none, told)) = absurd (cc none)
  rest_steps (Suspended env h th fs) _ cells σ k ts s a low choice (inr (i, w, mid, same, told)) = absurd (cc same)
  rest_steps (Turning env h line e body fs) (Rounds at) cells σ k ts s a low choice told =
      (round_steps objects globals env h line e body fs at cells s).some σ choice k ts told
  rest_steps (Turning env h line e body fs) d cells σ k ts s a low choice (n, told) =
      let out = turns_out objects globals line e body (for_handled σ h) (for_frames σ fs) n (for_env σ env) k d ts told in absurd (cc out.1)
  rest_steps (Leaving env h m th fs) (Asks at r own) cells σ k ts s a low choice told =
      (leaving_steps objects globals env h th fs at r own cells m s).some σ choice k ts told
  rest_steps (Leaving env h m th fs) _ cells σ k ts s a low choice (inl (none, told)) = absurd (cc none)
  rest_steps (Leaving env h m th fs) _ cells σ k ts s a low choice (inr (c, v, t, is_c, is_v, is_t, inl (none, told))) = absurd (cc none)
  rest_steps (Leaving env h m th fs) _ cells σ k ts s a low choice (inr (c, v, t, is_c, is_v, is_t, inr (at, mid, unit, same, told))) =
      absurd (cc same)
  rest_steps (Leaving_by env h m e th fs) (Asks at r own) cells σ k ts s a low choice told =
      (leaving_by_steps objects globals env h th fs at r own cells m e s).some σ choice k ts told
  rest_steps (Leaving_by env h m e th fs) _ cells σ k ts s a low choice (inl (none, told)) = absurd (cc none)
  rest_steps (Leaving_by env h m e th fs) _ cells σ k ts s a low choice (inr (body, t, has, inl (none, told))) = absurd (cc none)
  rest_steps (Leaving_by env h m e th fs) _ cells σ k ts s a low choice (inr (body, t, has, inr (at, mid, unit, same, told))) = absurd (cc same)
  rest_steps (Ending_by Nothing_more) (Ends at (ending.Return w)) cells σ k ts s a low choice told =
      (normal_steps at w cells (is_none objects w) refl).some σ choice k ts told
  rest_steps (Ending_by Nothing_more) _ cells σ k ts s a low choice (inl none) = absurd (cc none)
  rest_steps (Ending_by Nothing_more) _ cells σ k ts s a low choice (inr (v, has, inl none)) = absurd (cc none)
  rest_steps (Ending_by Nothing_more) _ cells σ k ts s a low choice (inr (v, has, inr (at, same))) = absurd (cc same)
  rest_steps (Ending_by (Value v)) (Ends at (ending.Return w)) cells σ k ts s a low choice told = (value_steps v w at cells s).some σ choice k ts told
  rest_steps (Ending_by (Value v)) _ cells σ k ts s a low choice (inl none) = absurd (cc none)
  rest_steps (Ending_by (Value v)) _ cells σ k ts s a low choice (inr (at, same)) = absurd (cc same)
  rest_steps (Ending_by (Raise e)) (Ends at (ending.Raise f)) cells σ k ts s a low choice told = (raise_steps e f at cells s).some σ choice k ts told
  rest_steps (Ending_by (Raise e)) _ cells σ k ts s a low choice (inl none) = absurd (cc none)
  rest_steps (Ending_by (Raise e)) _ cells σ k ts s a low choice (inr (at, same)) = absurd (cc same)

  pub steps : (p : Place) (e : Own) (ts : List Own) (σ : Standing) (k : ℕ) → RestScoped (first_unused objects p.cells) p.rest → AsksKnown p.rest
      → HearsBelow (length objects) e → IsChoice objects p.cells σ → Tells objects globals (for_rest σ p.rest) k (e ∷ ts)
      → (p1 : Place) × (step objects globals p e ≡ Some p1)
  steps p e ts σ k s a low choice told = rest_steps p.rest e p.cells σ k ts s a low choice told

  -- a place may be cut
  pub rest_cut : (r : Rest) (k : ℕ) → Tells objects globals r k []
  rest_cut Stuck k = refl
  rest_cut (Starting t args) k = tt
  rest_cut (Asking env h q th fs) k = inl (refl, all_cut objects globals fs env k)
  rest_cut (Waiting env h th fs) k = inl (refl, all_cut objects globals fs env k)
  rest_cut (Yielding env h v th fs) k = inl (refl, all_cut objects globals fs env k)
  rest_cut (Suspended env h th fs) k = inl (refl, all_cut objects globals fs env k)
  rest_cut (Turning env h line e s fs) k = (0, inl (refl, all_cut objects globals fs env k))
  rest_cut (Leaving env h m th fs) k = inl (refl, all_cut objects globals fs env k)
  rest_cut (Leaving_by env h m e th fs) k = inl (refl, all_cut objects globals fs env k)
  rest_cut (Ending_by Nothing_more) k = inl refl
  rest_cut (Ending_by (Value v)) k = inl refl
  rest_cut (Ending_by (Raise e)) k = inl refl
