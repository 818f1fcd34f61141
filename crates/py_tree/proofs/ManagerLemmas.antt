-- What a with comes to: what stops it, and what its exit leads to.
use Rattle.std.proofs.Common.{◌≡◌, ◌≢◌, ◌⊎◌, ℕ, List, Bool, true, false, Option, inl, inr, refl, sym, ap, subst, ◌∙◌}
use Rattle.py_objects.specs.Own.{Own}
use Rattle.py_objects.specs.declared.refs.PyBaseExceptionRef.{PyBaseExceptionRef}
use Rattle.py_objects.specs.declared.request.Request.TheVariants as request
use Rattle.py_objects.specs.declared.payload.Payload.{Payload}
use Rattle.py_objects.specs.declared.payload.Payload.TheVariants as payload
use Rattle.py_objects.specs.Objects.{Obj, HasPayload}
use Rattle.py_objects.specs.Callees.{is_manager}
use Rattle.py_objects.specs.Telling.{Value, Given, Failed, Stopped, AfterValue}
use Rattle.py_tree.specs.Tree.{Name, Expr, Suite}
use Rattle.py_tree.specs.Binding.{Env, bind}
use Rattle.py_tree.specs.Scene.{Scene}
use Rattle.py_tree.specs.Outcome.{Outcome, Normal, Breaks, Continues, Returns, Raises, Cut, Handled, RunsSuite, Use, By_truth, Requests, Evaluates, Leaves, LeavesBy, On_exit, Manages}
use Rattle.py_tree.specs.Endings.{Point, Reaches, Gives, Stops, IsEntered, EntryStops, ExitPasses, ExitDecides, ExitStopsRaise, ExitStops, ExitEnds, ExitIsAsked, ExitGoesOn}
use Rattle.py_tree.proofs.Reaching.{GivesOne, suite_ends, evaluates_gives, requests_give, leaves_give, leaves_by_gives}
use Rattle.py_tree.proofs.EndingLemmas.{At, comes, follows}

-- what was told stops the whole, or it gives a value, and the next follows
told_once : (Told : AfterValue → Type 0) (env : Env) (whole : Point) (Next : Obj → ℕ → List Own → Type 0) → GivesOne Told (Use env (At whole) Next)
    → Told (Stops env whole) ⊎ ((v : Obj) × (i : ℕ) × (rest : List Own) × Told (Gives v i rest) × Next v i rest)
told_once Told env whole Next g = by g.value g.event g.left g.here g.instead
  where
    by : (w : Value) (event : ℕ) (rest : List Own) → Use env (At whole) Next w event rest → ((K : AfterValue) → K w event rest → Told K)
        → Told (Stops env whole) ⊎ ((v : Obj) × (i : ℕ) × (rest : List Own) × Told (Gives v i rest) × Next v i rest)
    by (Given v) event rest k instead = inr (v, event, rest, instead (Gives v event rest) (refl, refl, refl), k)
    by (Failed e) event rest k instead = inl (instead (Stops env whole) k)
    by Stopped event rest k instead = inl (instead (Stops env whole) k)

module _ (scene : Scene) (line : ℕ) (m : Obj) (h : Handled) (whole : Point) where
  -- behind an exit without a raise
  exit_passes : (env : Env) (o : Outcome) (event : ℕ) (ts : List Own) → Leaves scene line m h event ts (Use env (At whole) (λ w. At whole env o))
      → Leaves scene line m h event ts (Stops env whole) ⊎ ExitPasses scene line m h (record { env = env; outcome = o; event = event; left = ts }) whole
  exit_passes env o event ts k = told_once (λ K. Leaves scene line m h event ts K) env whole (λ w. At whole env o) (leaves_give scene line m h event ts _ k)

  -- by the truth of an exit's answer
  outcome_is : (b : Bool) (env : Env) (e : PyBaseExceptionRef) (i : ℕ) (rest : List Own) → By_truth b (At whole env Normal i rest) (At whole env (Raises e) i rest)
      → (whole.env ≡ env) × (whole.event ≡ i) × (whole.left ≡ rest) × By_truth b (whole.outcome ≡ Normal) (whole.outcome ≡ Raises e)
  outcome_is true env e i rest k = (ap (λ (p : Point). p.env) k, ap (λ (p : Point). p.event) k, ap (λ (p : Point). p.left) k, ap (λ (p : Point). p.outcome) k)
  outcome_is false env e i rest k = (ap (λ (p : Point). p.env) k, ap (λ (p : Point). p.event) k, ap (λ (p : Point). p.left) k, ap (λ (p : Point). p.outcome) k)

  -- what follows the test of an exit's answer
  abbrev Behind_test : Env → PyBaseExceptionRef → Obj → ℕ → List Own → Type 0
  Behind_test env e u j rest = (b : Bool) × HasPayload scene.objects u (payload.Bool b) × By_truth b (At whole env Normal j rest) (At whole env (Raises e) j rest)

  abbrev Behind_exit : Env → PyBaseExceptionRef → Obj → ℕ → List Own → Type 0
  Behind_exit env e w i mid = Requests scene line (request.Truth w) h i mid (Use env (At whole) (Behind_test env e))

  -- behind the exit of a raise
  abbrev DecidesOrStops : Env → PyBaseExceptionRef → ℕ → List Own → Type 0
  DecidesOrStops env e event ts =
      let body : Point = record { env = env; outcome = Raises e; event = event; left = ts } in
      ExitStopsRaise scene line m e h body whole ⊎ ExitDecides scene line m e h body whole

  tested : (env : Env) (e : PyBaseExceptionRef) (event : ℕ) (ts : List Own) (w : Obj) (i : ℕ) (mid : List Own) → LeavesBy scene line m e event ts (Gives w i mid)
      → Requests scene line (request.Truth w) h i mid (Stops env whole)
      ⊎ ((u : Obj) × (j : ℕ) × (rest : List Own) × Requests scene line (request.Truth w) h i mid (Gives u j rest) × Behind_test env e u j rest)
      → DecidesOrStops env e event ts
  tested env e event ts w i mid leaves (inl stopped) = inl (inr (w, i, mid, leaves, stopped))
  tested env e event ts w i mid leaves (inr (u, j, rest, tests, (b, is, k))) =
      let (same_env, same_event, same_left, outcome) = outcome_is b env e j rest k in
      inr (record {
        answer = w;
        answered = i;
        behind_answer = mid;
        leaves = leaves;
        truth = u;
        swallows = b;
        is = is;
        tests = subst (λ (l : List Own). Requests scene line (request.Truth w) h i mid (Gives u whole.event l)) (sym same_left)
            (subst (λ (n : ℕ). Requests scene line (request.Truth w) h i mid (Gives u n rest)) (sym same_event) tests);
        env = same_env;
        outcome = outcome;
      })

  asked_by_raise : (env : Env) (e : PyBaseExceptionRef) (event : ℕ) (ts : List Own)
      → LeavesBy scene line m e event ts (Stops env whole) ⊎ ((w : Obj) × (i : ℕ) × (mid : List Own) × LeavesBy scene line m e event ts (Gives w i mid) × Behind_exit env e w i mid)
      → DecidesOrStops env e event ts
  asked_by_raise env e event ts (inl stopped) = inl (inl stopped)
  asked_by_raise env e event ts (inr (w, i, mid, leaves, k)) =
      tested env e event ts w i mid leaves
      (told_once (λ K. Requests scene line (request.Truth w) h i mid K) env whole (Behind_test env e) (requests_give scene line (request.Truth w) h i mid _ k))

  exit_decides : (env : Env) (e : PyBaseExceptionRef) (event : ℕ) (ts : List Own) → On_exit scene line m h (At whole) env (Raises e) event ts → DecidesOrStops env e event ts
  exit_decides env e event ts k =
      asked_by_raise env e event ts (told_once (λ K. LeavesBy scene line m e event ts K) env whole (Behind_exit env e) (leaves_by_gives scene line m e event ts _ k))

  -- behind each outcome of the body
  abbrev StopsOrEnds : Point → Type 0
  StopsOrEnds body = ExitStops scene line m h body whole ⊎ ExitEnds scene line m h body whole

  plainly : (env : Env) (o : Outcome) (event : ℕ) (ts : List Own) → o ≢ Cut → ((e : PyBaseExceptionRef) → o ≢ Raises e)
      → Leaves scene line m h event ts (Use env (At whole) (λ w. At whole env o)) → StopsOrEnds (record { env = env; outcome = o; event = event; left = ts })
  plainly env o event ts ended other k = elim (exit_passes env o event ts k) [ inl stopped ↦ inl (inr (ended, other, stopped)) | inr is ↦ inr (inr (inr (ended, other, is))) ]

  exit_ends : (env : Env) (o : Outcome) (event : ℕ) (ts : List Own) → On_exit scene line m h (At whole) env o event ts → StopsOrEnds (record { env = env; outcome = o; event = event; left = ts })
  exit_ends env Normal event ts k = plainly env Normal event ts (λ cut. absurd (cc cut)) (λ e same. absurd (cc same)) k
  exit_ends env Breaks event ts k = plainly env Breaks event ts (λ cut. absurd (cc cut)) (λ e same. absurd (cc same)) k
  exit_ends env Continues event ts k = plainly env Continues event ts (λ cut. absurd (cc cut)) (λ e same. absurd (cc same)) k
  exit_ends env (Returns v) event ts k = plainly env (Returns v) event ts (λ cut. absurd (cc cut)) (λ e same. absurd (cc same)) k
  exit_ends env (Raises e) event ts k = elim (exit_decides env e event ts k) [ inl stopped ↦ inl (inl (e, refl, stopped)) | inr is ↦ inr (inr (inl (e, refl, is))) ]
  exit_ends env Cut event ts k = inr (inl (refl, k))

  -- the body of a with, and its exit
  body_and_exit : (x : Option Name) (v : Obj) (s : Suite) (env : Env) (i : ℕ) (rest : List Own) → RunsSuite scene s (bind x v env) h i rest (On_exit scene line m h (At whole))
      → (body : Point) × Reaches (RunsSuite scene s) (bind x v env) h i rest body × StopsOrEnds body
  body_and_exit x v s env i rest run =
      let (body, comes_to, here) = comes (RunsSuite scene s) (suite_ends scene s) (bind x v env) h i rest (On_exit scene line m h (At whole)) run in
      (body, comes_to, exit_ends body.env body.outcome body.event body.left here)

module _ (scene : Scene) (line : ℕ) (a : Expr) (x : Option Name) (s : Suite) (env : Env) (h : Handled) (event : ℕ) (ts : List Own) (whole : Point) where
  -- what a with comes to behind an entry
  abbrev WithEnds : Type 0
  WithEnds =
      (m : Obj) × (v : Obj) × (i : ℕ) × (rest : List Own) × IsEntered scene line a m v env h event ts i rest
      × ((p : Payload) × HasPayload scene.objects m p × (is_manager p ≡ true))
      × ((body : Point) × Reaches (RunsSuite scene s) (bind x v env) h i rest body × (ExitStops scene line m h body whole ⊎ ExitEnds scene line m h body whole))

  abbrev StopsOrWith : Type 0
  StopsOrWith = EntryStops scene line a env h event ts whole ⊎ WithEnds

  -- by whether it is a manager
  managed : (m v : Obj) (i : ℕ) (rest : List Own) → IsEntered scene line a m v env h event ts i rest → (p : Payload) → HasPayload scene.objects m p → (b : Bool) → is_manager p ≡ b
      → By_truth b (RunsSuite scene s (bind x v env) h i rest (On_exit scene line m h (At whole))) (Requests scene line (request.NoExit m) h i rest (Use env (At whole) (λ u j mid. ⊥)))
      → StopsOrWith
  managed m v i rest is p has true same run = inr (m, v, i, rest, is, (p, has, same), body_and_exit scene line m h whole x v s env i rest run)
  managed m v i rest is p has false same asked =
      elim (told_once (λ K. Requests scene line (request.NoExit m) h i rest K) env whole (λ u j mid. ⊥) (requests_give scene line (request.NoExit m) h i rest _ asked))
      [ inl stopped ↦ inl (inr (inr (m, v, i, rest, is, inr (p, has, same, stopped)))) | inr given ↦ absurd given.4 ]

  entered : (m v : Obj) (i : ℕ) (rest : List Own) → IsEntered scene line a m v env h event ts i rest → Manages scene line m x v (RunsSuite scene s) env h i rest (At whole) → StopsOrWith
  entered m v i rest is (inl (none, k)) = inl (inr (inr (m, v, i, rest, is, inl (none, k))))
  entered m v i rest is (inr (p, has, k)) = managed m v i rest is p has (is_manager p) refl k

  -- what follows the load
  abbrev Behind_entry : Obj → Obj → ℕ → List Own → Type 0
  Behind_entry m v j rest = Manages scene line m x v (RunsSuite scene s) env h j rest (At whole)

  abbrev Behind_load : Obj → ℕ → List Own → Type 0
  Behind_load m i mid = Requests scene line (request.Enter m) h i mid (Use env (At whole) (Behind_entry m))

  by_entry : (m : Obj) (j : ℕ) (mid : List Own) → Evaluates scene line env h a event ts (Gives m j mid)
      → Requests scene line (request.Enter m) h j mid (Stops env whole)
      ⊎ ((v : Obj) × (i : ℕ) × (rest : List Own) × Requests scene line (request.Enter m) h j mid (Gives v i rest) × Behind_entry m v i rest)
      → StopsOrWith
  by_entry m j mid loads (inl stopped) = inl (inr (inl (m, j, mid, loads, stopped)))
  by_entry m j mid loads (inr (v, i, rest, enters, k)) = entered m v i rest (record { loaded = j; behind_atom = mid; loads = loads; enters = enters }) k

  by_load : Evaluates scene line env h a event ts (Stops env whole) ⊎ ((m : Obj) × (j : ℕ) × (mid : List Own) × Evaluates scene line env h a event ts (Gives m j mid) × Behind_load m j mid)
      → StopsOrWith
  by_load (inl stopped) = inl (inl stopped)
  by_load (inr (m, j, mid, loads, k)) =
      by_entry m j mid loads (told_once (λ K. Requests scene line (request.Enter m) h j mid K) env whole (Behind_entry m) (requests_give scene line (request.Enter m) h j mid _ k))

pub exit_is_asked : ExitIsAsked
exit_is_asked scene line a x s env h event ts whole k =
    by_load scene line a x s env h event ts whole
    (told_once (λ K. Evaluates scene line env h a event ts K) env whole (Behind_load scene line a x s env h event ts whole) (evaluates_gives scene a line env h event ts _ k))

-- what follows a value that is given
gives : (Told : AfterValue → Type 0) (v : Obj) (i : ℕ) (rest : List Own) → GivesOne Told (Gives v i rest) → (K : AfterValue) → K (Given v) i rest → Told K
gives Told v i rest g K k =
    let (value, event, left) = g.here in
    g.instead K (subst (λ (w : Value). K w g.event g.left) (sym value) (subst (λ (j : ℕ). K (Given v) j g.left) (sym event) (subst (λ (l : List Own). K (Given v) i l) (sym left) k)))

module _ (scene : Scene) (line : ℕ) (m : Obj) (h : Handled) (whole : Point) where
  passes_exit : (env : Env) (o : Outcome) (event : ℕ) (ts : List Own) → ExitPasses scene line m h (record { env = env; outcome = o; event = event; left = ts }) whole
      → Leaves scene line m h event ts (Use env (At whole) (λ w. At whole env o))
  passes_exit env o event ts (w, i, rest, leaves, is) =
      gives (λ K. Leaves scene line m h event ts K) w i rest (leaves_give scene line m h event ts _ leaves) (Use env (At whole) (λ w. At whole env o)) is

  -- where a point is by its parts
  is_at : (env : Env) (o : Outcome) → whole.env ≡ env → whole.outcome ≡ o → At whole env o whole.event whole.left
  is_at env o same outcome =
      ap (λ (q : Env). let p : Point = record whole { env = q } in p) same ∙ ap (λ (q : Outcome). let p : Point = record whole { env = env; outcome = q } in p) outcome

  by_answer : (b : Bool) (env : Env) (e : PyBaseExceptionRef) → whole.env ≡ env → By_truth b (whole.outcome ≡ Normal) (whole.outcome ≡ Raises e)
      → By_truth b (At whole env Normal whole.event whole.left) (At whole env (Raises e) whole.event whole.left)
  by_answer true env e same outcome = is_at env Normal same outcome
  by_answer false env e same outcome = is_at env (Raises e) same outcome

  decides_exit : (env : Env) (e : PyBaseExceptionRef) (event : ℕ) (ts : List Own) → ExitDecides scene line m e h (record { env = env; outcome = Raises e; event = event; left = ts }) whole
      → On_exit scene line m h (At whole) env (Raises e) event ts
  decides_exit env e event ts d =
      gives (λ K. LeavesBy scene line m e event ts K) d.answer d.answered d.behind_answer (leaves_by_gives scene line m e event ts _ d.leaves) _
      (gives (λ K. Requests scene line (request.Truth d.answer) h d.answered d.behind_answer K) d.truth whole.event whole.left
      (requests_give scene line (request.Truth d.answer) h d.answered d.behind_answer _ d.tests) _ (d.swallows, d.is, by_answer d.swallows env e d.env d.outcome))

  ends_exit : (env : Env) (o : Outcome) (event : ℕ) (ts : List Own) → ExitEnds scene line m h (record { env = env; outcome = o; event = event; left = ts }) whole
      → On_exit scene line m h (At whole) env o event ts
  ends_exit env Normal event ts (inl (cut, is)) = absurd (cc cut)
  ends_exit env Normal event ts (inr (inl (e, same, is))) = absurd (cc same)
  ends_exit env Normal event ts (inr (inr (ended, other, is))) = passes_exit env Normal event ts is
  ends_exit env Breaks event ts (inl (cut, is)) = absurd (cc cut)
  ends_exit env Breaks event ts (inr (inl (e, same, is))) = absurd (cc same)
  ends_exit env Breaks event ts (inr (inr (ended, other, is))) = passes_exit env Breaks event ts is
  ends_exit env Continues event ts (inl (cut, is)) = absurd (cc cut)
  ends_exit env Continues event ts (inr (inl (e, same, is))) = absurd (cc same)
  ends_exit env Continues event ts (inr (inr (ended, other, is))) = passes_exit env Continues event ts is
  ends_exit env (Returns v) event ts (inl (cut, is)) = absurd (cc cut)
  ends_exit env (Returns v) event ts (inr (inl (e, same, is))) = absurd (cc same)
  ends_exit env (Returns v) event ts (inr (inr (ended, other, is))) = passes_exit env (Returns v) event ts is
  ends_exit env (Raises e) event ts (inl (cut, is)) = absurd (cc cut)
  ends_exit env (Raises e) event ts (inr (inl (x, same, is))) =
      let raised : x ≡ e = cc same in
      decides_exit env e event ts (subst (λ (y : PyBaseExceptionRef). ExitDecides scene line m y h (record { env = env; outcome = Raises e; event = event; left = ts }) whole) raised is)
  ends_exit env (Raises e) event ts (inr (inr (ended, other, is))) = absurd (other e refl)
  ends_exit env Cut event ts (inl (cut, is)) = is
  ends_exit env Cut event ts (inr (inl (e, same, is))) = absurd (cc same)
  ends_exit env Cut event ts (inr (inr (ended, other, is))) = absurd (ended refl)

pub exit_goes_on : ExitGoesOn
exit_goes_on scene line a x s env h event ts m v manager i rest body whole is has run ends =
    gives (λ K. Evaluates scene line env h a event ts K) m is.loaded is.behind_atom (evaluates_gives scene a line env h event ts _ is.loads)
    (Use env (At whole) (λ m i mid. Requests scene line (request.Enter m) h i mid (Use env (At whole) (λ v j left. Manages scene line m x v (RunsSuite scene s) env h j left (At whole)))))
    (gives (λ K. Requests scene line (request.Enter m) h is.loaded is.behind_atom K) v i rest (requests_give scene line (request.Enter m) h is.loaded is.behind_atom _ is.enters)
    (Use env (At whole) (λ v j left. Manages scene line m x v (RunsSuite scene s) env h j left (At whole)))
    (inr (
      payload.Manager manager,
      has,
      follows (RunsSuite scene s) (suite_ends scene s) (bind x v env) h i rest body (On_exit scene line m h (At whole)) run
          (ends_exit scene line m h whole body.env body.outcome body.event body.left ends),
    )))
