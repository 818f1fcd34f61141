-- Two traces of one tree agree, form by form, where bodies see the same of related objects.
use Rattle.std.proofs.Common.{◌≡◌, ℕ, zero, suc, Bool, true, false, List, [], ◌∷◌, Some, None, refl, subst, inl, inr}
use Rattle.std.specs.Prelude.{Option}
use Rattle.py_code.specs.declared.literal.BuiltinFn.{BuiltinFn}
use Rattle.py_code.specs.declared.literal.BuiltinFn.TheVariants as builtin
use Rattle.py_objects.specs.declared.refs.PyBaseExceptionRef.{PyBaseExceptionRef}
use Rattle.py_objects.specs.declared.payload.Payload.{Payload}
use Rattle.py_objects.specs.declared.payload.Payload.TheVariants as payload
use Rattle.py_objects.specs.declared.request.Request.{Request}
use Rattle.py_objects.specs.declared.request.Request.TheVariants as request
use Rattle.py_objects.specs.declared.event.ResumeHow.{ResumeHow}
use Rattle.py_objects.specs.declared.event.ResumeHow.TheVariants as how
use Rattle.py_objects.specs.declared.event.Ending.{Ending}
use Rattle.py_objects.specs.declared.event.Ending.TheVariants as ending
use Rattle.py_objects.specs.Objects.{Obj, as_exception, as_object, class_object}
use Rattle.py_objects.specs.Callees.{send_request, throw_request, close_request, builtin_of, own_request, or_call, call_request, is_manager}
use Rattle.py_objects.specs.Own.{Own, Makes, Resumes, Ends}
use Rattle.py_objects.specs.Telling.{Given, Failed, Stopped, AfterValue, IsLiteral, Rounded}
use Rattle.py_tree.specs.declared.expr.Atom.{Atom}
use Rattle.py_tree.specs.declared.expr.Atom.TheVariants as atom
use Rattle.py_tree.specs.declared.expr.Operator.{Operator}
use Rattle.py_tree.specs.declared.expr.Operator.TheVariants as operator
use Rattle.py_tree.specs.Operators.{Way, Asks_one, Asks_two, Calls_it, Yields_it, way_of}
use Rattle.py_tree.specs.Tree.{Name, Expr, Leaf, Operate, Exprs, no_operands, operand, Form, Assign, Do, Show, Return, Raise, Reraise, Break, Continue, Pass, If, IfElse, While, TryExcept, TryFinally, With as WithForm, Suite, nothing, first, Clauses, no_more, clause, Tree}
use Rattle.py_tree.specs.Binding.{Env, find_local, set_local, bind, locals_of}
use Rattle.py_tree.specs.Scene.{Scene}
use Rattle.py_tree.specs.Outcome.{Outcome, Normal, Breaks, Continues, Returns, Raises, Cut, Handled, After, Runner, With, Use, By_truth, Requests, Named, Loads, Calls, Finishes, Evaluates, EvaluatesAll, Tests, Chooses, On_normal, On_turn, On_raise, behind, Behind_finally, On_finally, Finally, Forgets, Handles, Loops, Leaves, LeavesBy, On_exit, Manages, Reraises, Runs, RunsSuite, Tries}
use Rattle.py_tree.specs.Trace.{Ended, EndsBy, Entered, IsBegun, IsTrace}
use Rattle.py_agreement.specs.Agreement.{Relation, SameException, SameMaybe, SameHandled, SameAll, SameRequest, SameHow, SameEnding, Agree, SameEnv, has_literal, IsFaithful}
use Rattle.py_agreement.proofs.AgreementLemmas.{Agreeing, left_ends, right_ends, both_tell, cut_agree, ValuesAgree, asked_agree, yielded_agree, rounded_agree, find_same, set_same, bind_same, begun_same}

module _ (S : Relation) where
  -- ---- calls

  send_same : (vs ws : List Obj) → SameAll S vs ws → SameMaybe (SameRequest S) (send_request vs) (send_request ws)
  send_same [] [] s = tt
  send_same (g ∷ []) (g' ∷ []) s = tt
  send_same (g ∷ v ∷ []) (g' ∷ w ∷ []) s = (s.0, s.1.0)
  send_same (g ∷ v ∷ x ∷ vs) (g' ∷ w ∷ y ∷ ws) s = tt
  send_same (g ∷ []) (g' ∷ w ∷ ws) s = absurd s.1
  send_same (g ∷ v ∷ vs) (g' ∷ []) s = absurd s.1
  send_same (g ∷ v ∷ []) (g' ∷ w ∷ y ∷ ws) s = absurd s.1.1
  send_same (g ∷ v ∷ x ∷ vs) (g' ∷ w ∷ []) s = absurd s.1.1
  send_same _ _ s = absurd s

  throw_same : (vs ws : List Obj) → SameAll S vs ws → SameMaybe (SameRequest S) (throw_request vs) (throw_request ws)
  throw_same [] [] s = tt
  throw_same (g ∷ []) (g' ∷ []) s = tt
  throw_same (g ∷ c ∷ []) (g' ∷ c' ∷ []) s = (s.0, s.1.0, tt, tt)
  throw_same (g ∷ c ∷ v ∷ []) (g' ∷ c' ∷ w ∷ []) s = (s.0, s.1.0, s.1.1.0, tt)
  throw_same (g ∷ c ∷ v ∷ x ∷ vs) (g' ∷ c' ∷ w ∷ y ∷ ws) s = tt
  throw_same (g ∷ []) (g' ∷ w ∷ ws) s = absurd s.1
  throw_same (g ∷ v ∷ vs) (g' ∷ []) s = absurd s.1
  throw_same (g ∷ c ∷ []) (g' ∷ c' ∷ w ∷ ws) s = absurd s.1.1
  throw_same (g ∷ c ∷ v ∷ vs) (g' ∷ c' ∷ []) s = absurd s.1.1
  throw_same (g ∷ c ∷ v ∷ []) (g' ∷ c' ∷ w ∷ y ∷ ws) s = absurd s.1.1.1
  throw_same (g ∷ c ∷ v ∷ x ∷ vs) (g' ∷ c' ∷ w ∷ []) s = absurd s.1.1.1
  throw_same _ _ s = absurd s

  close_same : (vs ws : List Obj) → SameAll S vs ws → SameMaybe (SameRequest S) (close_request vs) (close_request ws)
  close_same [] [] s = tt
  close_same (g ∷ []) (g' ∷ []) s = s.0
  close_same (g ∷ v ∷ vs) (g' ∷ w ∷ ws) s = tt
  close_same (g ∷ []) (g' ∷ w ∷ ws) s = absurd s.1
  close_same (g ∷ v ∷ vs) (g' ∷ []) s = absurd s.1
  close_same _ _ s = absurd s

  own_same : (f : Option BuiltinFn) (vs ws : List Obj) → SameAll S vs ws → SameMaybe (SameRequest S) (own_request f vs) (own_request f ws)
  own_same None vs ws s = tt
  own_same (Some builtin.Send) vs ws s = send_same vs ws s
  own_same (Some builtin.Throw) vs ws s = throw_same vs ws s
  own_same (Some builtin.Close) vs ws s = close_same vs ws s
  own_same (Some _) vs ws s = tt

  or_call_same : (f g : Obj) (vs ws : List Obj) (r r' : Option Request) → S f g → SameAll S vs ws → SameMaybe (SameRequest S) r r' → SameRequest S (or_call f vs r) (or_call g ws r')
  or_call_same f g vs ws None None same_f same_vs s = (same_f, same_vs)
  or_call_same f g vs ws (Some r) (Some r') same_f same_vs s = s
  or_call_same f g vs ws _ _ same_f same_vs s = absurd s

  call_same : (p q : Payload) (f g : Obj) (vs ws : List Obj) → builtin_of p ≡ builtin_of q → S f g → SameAll S vs ws → SameRequest S (call_request p f vs) (call_request q g ws)
  call_same p q f g vs ws e same_f same_vs =
      or_call_same f g vs ws _ _ same_f same_vs
      (subst (λ (b : Option BuiltinFn). SameMaybe (SameRequest S) (own_request (builtin_of p) vs) (own_request b ws)) e (own_same (builtin_of p) vs ws same_vs))

  -- ---- operators

  -- of related objects an operator asks the same
  abbrev Respects : Way → Type 0
  Respects (Asks_one r) = (v w : Obj) → S v w → SameRequest S (r v) (r w)
  Respects (Asks_two r) = (v w x y : Obj) → S v w → S x y → SameRequest S (r v x) (r w y)
  Respects way = Unit {0}

  respects : (o : Operator) → Respects (way_of o)
  respects operator.Add = λ v w x y s t. (refl, s, t)
  respects operator.Sub = λ v w x y s t. (refl, s, t)
  respects operator.Lt = λ v w x y s t. (refl, s, t)
  respects operator.Eq = λ v w x y s t. (refl, s, t)
  respects operator.Send = λ v w x y s t. (s, t)
  respects operator.Throw = λ v w x y s t. (s, t, tt, tt)
  respects operator.Close = λ v w s. s
  respects o = tt

  -- ---- outcomes

  -- the same outcome, by related objects
  abbrev SameOutcome : Outcome → Outcome → Type 0
  SameOutcome Normal Normal = Unit {0}
  SameOutcome Breaks Breaks = Unit {0}
  SameOutcome Continues Continues = Unit {0}
  SameOutcome (Returns v) (Returns w) = S v w
  SameOutcome (Raises e) (Raises f) = SameException S e f
  SameOutcome Cut Cut = Unit {0}
  SameOutcome _ _ = ⊥

  -- behind the same outcome what may follow agrees
  abbrev EndsAgree : After → After → Type 0
  EndsAgree K K' = (env env' : Env) (o o' : Outcome) → SameEnv S env env' → SameOutcome o o' → Agreeing S (K env o) (K' env' o')

  -- from the same locals, while the same exception is handled, two parts of trees agree
  abbrev RunnersAgree : Runner → Runner → Type 1
  RunnersAgree body body' = (env env' : Env) (h h' : Handled) (K K' : After) → SameEnv S env env' → SameHandled S h h' → EndsAgree K K'
      → Agreeing S (λ i ts. body env h i ts K) (λ j us. body' env' h' j us K')

  with_agree : (K K' : AfterValue) (next next' : Obj → ℕ → List Own → Type 0) → ValuesAgree S K K' → ((v w : Obj) → S v w → Agreeing S (next v) (next' w)) → ValuesAgree S (With K next) (With K' next')
  with_agree K K' next next' agree on (Given v) (Given w) s = on v w s
  with_agree K K' next next' agree on (Failed e) (Failed f) s = agree (Failed e) (Failed f) s
  with_agree K K' next next' agree on Stopped Stopped s = agree Stopped Stopped s
  with_agree K K' next next' agree on _ _ s = absurd s

  use_agree : (env env' : Env) (K K' : After) (next next' : Obj → ℕ → List Own → Type 0) → SameEnv S env env' → EndsAgree K K' → ((v w : Obj) → S v w → Agreeing S (next v) (next' w)) → ValuesAgree S (Use env K next) (Use env' K' next')
  use_agree env env' K K' next next' same_env agree on (Given v) (Given w) s = on v w s
  use_agree env env' K K' next next' same_env agree on (Failed e) (Failed f) s = agree env env' (Raises e) (Raises f) same_env s
  use_agree env env' K K' next next' same_env agree on Stopped Stopped s = agree env env' Cut Cut same_env s
  use_agree env env' K K' next next' same_env agree on _ _ s = absurd s

  by_truth_agree : (b c : Bool) (P P' Q Q' : ℕ → List Own → Type 0) → b ≡ c → Agreeing S P P' → Agreeing S Q Q' → Agreeing S (λ i ts. By_truth b (P i ts) (Q i ts)) (λ j us. By_truth c (P' j us) (Q' j us))
  by_truth_agree true true P P' Q Q' e held failed = held
  by_truth_agree false false P P' Q Q' e held failed = failed
  by_truth_agree true false P P' Q Q' e held failed = absurd (cc e)
  by_truth_agree false true P P' Q Q' e held failed = absurd (cc e)

  normal_agree : (K K' : After) (next next' : Env → ℕ → List Own → Type 0) → EndsAgree K K' → ((env env' : Env) → SameEnv S env env' → Agreeing S (next env) (next' env')) → EndsAgree (On_normal K next) (On_normal K' next')
  normal_agree K K' next next' agree on env env' Normal Normal same_env same_o = on env env' same_env
  normal_agree K K' next next' agree on env env' Breaks Breaks same_env same_o = agree env env' Breaks Breaks same_env same_o
  normal_agree K K' next next' agree on env env' Continues Continues same_env same_o = agree env env' Continues Continues same_env same_o
  normal_agree K K' next next' agree on env env' (Returns v) (Returns w) same_env same_o = agree env env' (Returns v) (Returns w) same_env same_o
  normal_agree K K' next next' agree on env env' (Raises e) (Raises f) same_env same_o = agree env env' (Raises e) (Raises f) same_env same_o
  normal_agree K K' next next' agree on env env' Cut Cut same_env same_o = agree env env' Cut Cut same_env same_o
  normal_agree K K' next next' agree on env env' _ _ same_env same_o = absurd same_o

  turns_agree : (K K' : After) (next next' : Env → ℕ → List Own → Type 0) → EndsAgree K K' → ((env env' : Env) → SameEnv S env env' → Agreeing S (next env) (next' env')) → EndsAgree (On_turn K next) (On_turn K' next')
  turns_agree K K' next next' agree on env env' Normal Normal same_env same_o = on env env' same_env
  turns_agree K K' next next' agree on env env' Breaks Breaks same_env same_o = agree env env' Normal Normal same_env same_o
  turns_agree K K' next next' agree on env env' Continues Continues same_env same_o = on env env' same_env
  turns_agree K K' next next' agree on env env' (Returns v) (Returns w) same_env same_o = agree env env' (Returns v) (Returns w) same_env same_o
  turns_agree K K' next next' agree on env env' (Raises e) (Raises f) same_env same_o = agree env env' (Raises e) (Raises f) same_env same_o
  turns_agree K K' next next' agree on env env' Cut Cut same_env same_o = agree env env' Cut Cut same_env same_o
  turns_agree K K' next next' agree on env env' _ _ same_env same_o = absurd same_o

  raises_agree : (K K' : After) (caught caught' : PyBaseExceptionRef → Env → ℕ → List Own → Type 0) → EndsAgree K K'
      → ((e f : PyBaseExceptionRef) (env env' : Env) → SameException S e f → SameEnv S env env' → Agreeing S (caught e env) (caught' f env')) → EndsAgree (On_raise K caught) (On_raise K' caught')
  raises_agree K K' caught caught' agree on env env' Normal Normal same_env same_o = agree env env' Normal Normal same_env same_o
  raises_agree K K' caught caught' agree on env env' Breaks Breaks same_env same_o = agree env env' Breaks Breaks same_env same_o
  raises_agree K K' caught caught' agree on env env' Continues Continues same_env same_o = agree env env' Continues Continues same_env same_o
  raises_agree K K' caught caught' agree on env env' (Returns v) (Returns w) same_env same_o = agree env env' (Returns v) (Returns w) same_env same_o
  raises_agree K K' caught caught' agree on env env' (Raises e) (Raises f) same_env same_o = on e f env env' same_o same_env
  raises_agree K K' caught caught' agree on env env' Cut Cut same_env same_o = agree env env' Cut Cut same_env same_o
  raises_agree K K' caught caught' agree on env env' _ _ same_env same_o = absurd same_o

  -- the outcome of a body and its finally
  behind_same : (o o' p p' : Outcome) → SameOutcome o o' → SameOutcome p p' → SameOutcome (behind o p) (behind o' p')
  behind_same o o' Normal Normal same_o same_p = same_o
  behind_same o o' Breaks Breaks same_o same_p = same_p
  behind_same o o' Continues Continues same_o same_p = same_p
  behind_same o o' (Returns v) (Returns w) same_o same_p = same_p
  behind_same o o' (Raises e) (Raises f) same_o same_p = same_p
  behind_same o o' Cut Cut same_o same_p = same_p
  behind_same o o' _ _ same_o same_p = absurd same_p

  behind_agree : (K K' : After) (o o' : Outcome) → SameOutcome o o' → EndsAgree K K' → EndsAgree (Behind_finally K o) (Behind_finally K' o')
  behind_agree K K' o o' same_o agree env env' p p' same_env same_p = agree env env' (behind o p) (behind o' p') same_env (behind_same o o' p p' same_o same_p)

  on_finally_agree : (final final' : Runner) (h h' : Handled) (K K' : After) → RunnersAgree final final' → SameHandled S h h' → EndsAgree K K' → EndsAgree (On_finally final h K) (On_finally final' h' K')
  on_finally_agree final final' h h' K K' ends same_h agree env env' Normal Normal same_env same_o = ends env env' h h' _ _ same_env same_h (behind_agree K K' Normal Normal same_o agree)
  on_finally_agree final final' h h' K K' ends same_h agree env env' Breaks Breaks same_env same_o = ends env env' h h' _ _ same_env same_h (behind_agree K K' Breaks Breaks same_o agree)
  on_finally_agree final final' h h' K K' ends same_h agree env env' Continues Continues same_env same_o = ends env env' h h' _ _ same_env same_h (behind_agree K K' Continues Continues same_o agree)
  on_finally_agree final final' h h' K K' ends same_h agree env env' (Returns v) (Returns w) same_env same_o = ends env env' h h' _ _ same_env same_h (behind_agree K K' (Returns v) (Returns w) same_o agree)
  on_finally_agree final final' h h' K K' ends same_h agree env env' (Raises e) (Raises f) same_env same_o = ends env env' (Some e) (Some f) _ _ same_env same_o (behind_agree K K' (Raises e) (Raises f) same_o agree)
  on_finally_agree final final' h h' K K' ends same_h agree env env' Cut Cut same_env same_o = agree env env' Cut Cut same_env same_o
  on_finally_agree final final' h h' K K' ends same_h agree env env' _ _ same_env same_o = absurd same_o

  finally_agree : (body body' final final' : Runner) → RunnersAgree body body' → RunnersAgree final final' → RunnersAgree (Finally body final) (Finally body' final')
  finally_agree body body' final final' runs ends env env' h h' K K' same_env same_h agree = runs env env' h h' _ _ same_env same_h (on_finally_agree final final' h h' K K' ends same_h agree)

  forgets_agree : (x : Name) → RunnersAgree (Forgets x) (Forgets x)
  forgets_agree x env env' h h' K K' same_env same_h agree = agree (set_local x None env) (set_local x None env') Normal Normal (set_same S x None None env env' tt same_env) tt

  handles_agree : (x : Option Name) (suite suite' : Runner) → RunnersAgree suite suite' → RunnersAgree (Handles x suite) (Handles x suite')
  handles_agree None suite suite' runs env env' h h' K K' same_env same_h agree = runs env env' h h' K K' same_env same_h agree
  handles_agree (Some x) suite suite' runs env env' h h' K K' same_env same_h agree = finally_agree suite suite' (Forgets x) (Forgets x) runs (forgets_agree x) env env' h h' K K' same_env same_h agree

  module _ (scene scene' : Scene) (faithful : IsFaithful S scene scene') where
    -- ---- loads and requests

    literals_agree : (p : Payload) (K K' : AfterValue) → has_literal p ≡ true → ValuesAgree S K K' → Agreeing S (λ i ts. IsLiteral scene.objects p i ts K) (λ j us. IsLiteral scene'.objects p j us K')
    literals_agree p K K' is agree =
        cut_agree S _ _ _ _ (λ i j ts us (v, has, a) (w, has', b). agree (Given v) (Given w) (faithful.literals p v w is has has') i j ts us a b)

    requests_agree : (line : ℕ) (r r' : Request) (h h' : Handled) (K K' : AfterValue) → SameRequest S r r' → SameHandled S h h' → ValuesAgree S K K'
        → Agreeing S (λ i ts. Requests scene line r h i ts K) (λ j us. Requests scene' line r' h' j us K')
    requests_agree line r r' h h' K K' same_r same_h agree = asked_agree S (λ at. scene.is_of at line) (λ at. scene'.is_of at line) r r' h h' K K' same_r same_h agree

    named_agree : (line : ℕ) (found found' : Option (Option Obj)) (x : Name) (h h' : Handled) (K K' : AfterValue) → SameMaybe (SameMaybe S) found found' → SameHandled S h h' → ValuesAgree S K K'
        → Agreeing S (λ i ts. Named scene line found x h i ts K) (λ j us. Named scene' line found' x h' j us K')
    named_agree line None None x h h' K K' s same_h agree = requests_agree line (request.Global scene.globals x) (request.Global scene'.globals x) h h' K K' refl same_h agree
    named_agree line (Some None) (Some None) x h h' K K' s same_h agree = requests_agree line (request.Unbound x) (request.Unbound x) h h' K K' refl same_h agree
    named_agree line (Some (Some v)) (Some (Some w)) x h h' K K' s same_h agree = agree (Given v) (Given w) s
    named_agree line _ _ x h h' K K' s same_h agree = absurd s

    loads_agree : (line : ℕ) (env env' : Env) (h h' : Handled) (a : Atom) (K K' : AfterValue) → SameEnv S env env' → SameHandled S h h' → ValuesAgree S K K'
        → Agreeing S (λ i ts. Loads scene line env h a i ts K) (λ j us. Loads scene' line env' h' a j us K')
    loads_agree line env env' h h' atom.None K K' same_env same_h agree = literals_agree payload.None K K' refl agree
    loads_agree line env env' h h' (atom.Bool b) K K' same_env same_h agree = literals_agree (payload.Bool b) K K' refl agree
    loads_agree line env env' h h' (atom.Int n) K K' same_env same_h agree = literals_agree (payload.Int n) K K' refl agree
    loads_agree line env env' h h' (atom.Str s) K K' same_env same_h agree = literals_agree (payload.Str s) K K' refl agree
    loads_agree line env env' h h' (atom.Name x) K K' same_env same_h agree = named_agree line (find_local x env) (find_local x env') x h h' K K' (find_same S x env env' same_env) same_h agree

    calls_agree : (line : ℕ) (f g : Obj) (vs ws : List Obj) (h h' : Handled) (K K' : AfterValue) → S f g → SameAll S vs ws → SameHandled S h h' → ValuesAgree S K K'
        → Agreeing S (λ i ts. Calls scene line f vs h i ts K) (λ j us. Calls scene' line g ws h' j us K')
    calls_agree line f g vs ws h h' K K' same_f same_vs same_h agree =
        cut_agree S _ _ _ _
        (λ i j ts us (p, has, a) (q, has', b). requests_agree line _ _ h h' K K' (call_same p q f g vs ws (faithful.builtins f g p q same_f has has') same_f same_vs) same_h agree i j ts us a b)

    finishes_agree : (way : Way) → Respects way → (line : ℕ) (vs ws : List Obj) (h h' : Handled) (K K' : AfterValue) → SameAll S vs ws → SameHandled S h h' → ValuesAgree S K K'
        → Agreeing S (λ i ts. Finishes scene line way vs h i ts K) (λ j us. Finishes scene' line way ws h' j us K')
    finishes_agree (Asks_one r) is line (v ∷ []) (w ∷ []) h h' K K' s same_h agree = requests_agree line (r v) (r w) h h' K K' (is v w s.0) same_h agree
    finishes_agree (Asks_two r) is line (v ∷ x ∷ []) (w ∷ y ∷ []) h h' K K' s same_h agree = requests_agree line (r v x) (r w y) h h' K K' (is v w x y s.0 s.1.0) same_h agree
    finishes_agree Calls_it is line (f ∷ vs) (g ∷ ws) h h' K K' s same_h agree = calls_agree line f g vs ws h h' K K' s.0 s.1 same_h agree
    finishes_agree Yields_it is line (v ∷ []) (w ∷ []) h h' K K' s same_h agree = yielded_agree S (λ i. scene.throws_under i h) (λ i. scene'.throws_under i h') (λ at. scene.is_of at line) (λ at. scene'.is_of at line) v w K K' s.0 agree
    finishes_agree (Asks_one r) is line (v ∷ []) [] h h' K K' s same_h agree = absurd s
    finishes_agree (Asks_one r) is line (v ∷ []) (w ∷ y ∷ ws) h h' K K' s same_h agree = absurd s.1
    finishes_agree (Asks_two r) is line (v ∷ x ∷ []) [] h h' K K' s same_h agree = absurd s
    finishes_agree (Asks_two r) is line (v ∷ x ∷ []) (w ∷ []) h h' K K' s same_h agree = absurd s.1
    finishes_agree (Asks_two r) is line (v ∷ x ∷ []) (w ∷ y ∷ z ∷ ws) h h' K K' s same_h agree = absurd s.1.1
    finishes_agree Calls_it is line (f ∷ vs) [] h h' K K' s same_h agree = absurd s
    finishes_agree Yields_it is line (v ∷ []) [] h h' K K' s same_h agree = absurd s
    finishes_agree Yields_it is line (v ∷ []) (w ∷ y ∷ ws) h h' K K' s same_h agree = absurd s.1
    finishes_agree way is line vs ws h h' K K' s same_h agree = λ i j ts us told told'. left_ends S ts us told.0

    mutual
      evaluates_agree : (e : Expr) (line : ℕ) (env env' : Env) (h h' : Handled) (K K' : AfterValue) → SameEnv S env env' → SameHandled S h h' → ValuesAgree S K K'
          → Agreeing S (λ i ts. Evaluates scene line env h e i ts K) (λ j us. Evaluates scene' line env' h' e j us K')
      evaluates_agree (Leaf a) line env env' h h' K K' same_env same_h agree = loads_agree line env env' h h' a K K' same_env same_h agree
      evaluates_agree (Operate o es) line env env' h h' K K' same_env same_h agree =
          all_agree es line env env' h h' K K' _ _ same_env same_h agree (λ vs ws same_vs. finishes_agree (way_of o) (respects o) line vs ws h h' K K' same_vs same_h agree)

      all_agree : (es : Exprs) (line : ℕ) (env env' : Env) (h h' : Handled) (K K' : AfterValue) (next next' : List Obj → ℕ → List Own → Type 0) → SameEnv S env env' → SameHandled S h h' → ValuesAgree S K K'
          → ((vs ws : List Obj) → SameAll S vs ws → Agreeing S (next vs) (next' ws))
          → Agreeing S (λ i ts. EvaluatesAll scene line env h es i ts K next) (λ j us. EvaluatesAll scene' line env' h' es j us K' next')
      all_agree no_operands line env env' h h' K K' next next' same_env same_h agree on = on [] [] tt
      all_agree (operand e es) line env env' h h' K K' next next' same_env same_h agree on =
          evaluates_agree e line env env' h h' _ _ same_env same_h
          (with_agree K K' _ _ agree
          (λ v w s. all_agree es line env env' h h' K K' (λ vs. next (v ∷ vs)) (λ ws. next' (w ∷ ws)) same_env same_h agree (λ vs ws same_vs. on (v ∷ vs) (w ∷ ws) (s, same_vs))))

    -- a statement's expression, and what is asked for it: a value is taken, and what comes in its place is the statement's end
    taken_agree : (line : ℕ) (env env' : Env) (h h' : Handled) (a : Expr) (K K' : After) (next next' : Obj → ℕ → List Own → Type 0) → SameEnv S env env' → SameHandled S h h' → EndsAgree K K'
        → ((v w : Obj) → S v w → Agreeing S (next v) (next' w)) → Agreeing S (λ i ts. Evaluates scene line env h a i ts (Use env K next)) (λ j us. Evaluates scene' line env' h' a j us (Use env' K' next'))
    taken_agree line env env' h h' a K K' next next' same_env same_h agree on = evaluates_agree a line env env' h h' _ _ same_env same_h (use_agree env env' K K' next next' same_env agree on)

    answer_agree : (line : ℕ) (env env' : Env) (h h' : Handled) (r r' : Request) (K K' : After) (next next' : Obj → ℕ → List Own → Type 0) → SameRequest S r r' → SameEnv S env env' → SameHandled S h h' → EndsAgree K K'
        → ((v w : Obj) → S v w → Agreeing S (next v) (next' w)) → Agreeing S (λ i ts. Requests scene line r h i ts (Use env K next)) (λ j us. Requests scene' line r' h' j us (Use env' K' next'))
    answer_agree line env env' h h' r r' K K' next next' same_r same_env same_h agree on = requests_agree line r r' h h' _ _ same_r same_h (use_agree env env' K K' next next' same_env agree on)

    tests_agree : (line : ℕ) (env env' : Env) (h h' : Handled) (v w : Obj) (K K' : After) (next next' : Bool → ℕ → List Own → Type 0) → S v w → SameEnv S env env' → SameHandled S h h' → EndsAgree K K'
        → ((b c : Bool) → b ≡ c → Agreeing S (next b) (next' c)) → Agreeing S (λ i ts. Tests scene line env h v i ts K next) (λ j us. Tests scene' line env' h' w j us K' next')
    tests_agree line env env' h h' v w K K' next next' s same_env same_h agree on =
        answer_agree line env env' h h' (request.Truth v) (request.Truth w) K K' _ _ s same_env same_h agree
        (λ x y same_x i j ts us (b, has, a) (c, has', d). on b c (faithful.truths x y b c same_x has has') i j ts us a d)

    chooses_agree : (line : ℕ) (env env' : Env) (h h' : Handled) (a : Expr) (K K' : After) (next next' : Bool → ℕ → List Own → Type 0) → SameEnv S env env' → SameHandled S h h' → EndsAgree K K'
        → ((b c : Bool) → b ≡ c → Agreeing S (next b) (next' c)) → Agreeing S (λ i ts. Chooses scene line env h a i ts K next) (λ j us. Chooses scene' line env' h' a j us K' next')
    chooses_agree line env env' h h' a K K' next next' same_env same_h agree on =
        taken_agree line env env' h h' a K K' _ _ same_env same_h agree (λ v w s. tests_agree line env env' h h' v w K K' next next' s same_env same_h agree on)

    -- ---- statements

    -- a round of a loop, the test, and where it is true what agrees
    rounds_agree : (line : ℕ) (a : Expr) (env env' : Env) (h h' : Handled) (K K' : After) (P Q : ℕ → List Own → Type 0) → SameEnv S env env' → SameHandled S h h' → EndsAgree K K' → Agreeing S P Q
        → Agreeing S (λ i ts. Rounded ts (K env Cut i []) (λ mid. Chooses scene line env h a i mid K (λ b k left. By_truth b (P k left) (K env Normal k left))))
        (λ j us. Rounded us (K' env' Cut j []) (λ mid. Chooses scene' line env' h' a j mid K' (λ b k left. By_truth b (Q k left) (K' env' Normal k left))))
    rounds_agree line a env env' h h' K K' P Q same_env same_h agree turns =
        rounded_agree S _ _ _ _ (chooses_agree line env env' h h' a K K' _ _ same_env same_h agree (λ b c e. by_truth_agree b c _ _ _ _ e turns (agree env env' Normal Normal same_env tt)))

    loops_agree : (line : ℕ) (a : Expr) (body body' : Runner) → RunnersAgree body body' → (n m : ℕ) → RunnersAgree (Loops scene line a body n) (Loops scene' line a body' m)
    loops_agree line a body body' runs zero zero env env' h h' K K' same_env same_h agree = rounds_agree line a env env' h h' K K' _ _ same_env same_h agree (λ i j ts us never told. absurd never)
    loops_agree line a body body' runs zero (suc m) env env' h h' K K' same_env same_h agree = rounds_agree line a env env' h h' K K' _ _ same_env same_h agree (λ i j ts us never told. absurd never)
    loops_agree line a body body' runs (suc n) zero env env' h h' K K' same_env same_h agree = rounds_agree line a env env' h h' K K' _ _ same_env same_h agree (λ i j ts us told never. absurd never)
    loops_agree line a body body' runs (suc n) (suc m) env env' h h' K K' same_env same_h agree =
        rounds_agree line a env env' h h' K K' _ _ same_env same_h agree
        (runs env env' h h' _ _ same_env same_h (turns_agree K K' _ _ agree (λ env1 env1' same_env1. loops_agree line a body body' runs n m env1 env1' h h' K K' same_env1 same_h agree)))

    reraises_agree : (line : ℕ) → RunnersAgree (Reraises scene line) (Reraises scene' line)
    reraises_agree line env env' h h' K K' same_env same_h agree =
        answer_agree line env env' h h' request.Handled request.Handled K K' _ _ tt same_env same_h agree (λ v w s. agree env env' (Raises (as_exception v)) (Raises (as_exception w)) same_env s)

    leaves_agree : (line : ℕ) (m m' : Obj) (h h' : Handled) (K K' : AfterValue) → S m m' → SameHandled S h h' → ValuesAgree S K K' → Agreeing S (λ i ts. Leaves scene line m h i ts K) (λ j us. Leaves scene' line m' h' j us K')
    leaves_agree line m m' h h' K K' same_m same_h agree =
        cut_agree S _ _ _ _
        (λ i j ts us (c, v, t, is_c, is_v, is_t, a) (c', v', t', is_c', is_v', is_t', b). requests_agree line (request.Exit m c v t) (request.Exit m' c' v' t') h h' K K'
        (same_m, faithful.literals payload.None c c' refl is_c is_c', faithful.literals payload.None v v' refl is_v is_v') same_h agree i j ts us a b)

    leaves_by_agree : (line : ℕ) (m m' : Obj) (e f : PyBaseExceptionRef) (K K' : AfterValue) → S m m' → SameException S e f → ValuesAgree S K K' → Agreeing S (λ i ts. LeavesBy scene line m e i ts K) (λ j us. LeavesBy scene' line m' f j us K')
    leaves_by_agree line m m' e f K K' same_m same agree =
        cut_agree S _ _ _ _
        (λ i j ts us (body, t, has, a) (body', t', has', b). requests_agree line (request.Exit m (class_object body.class) (as_object e) t) (request.Exit m' (class_object body'.class) (as_object f) t') (Some e) (Some f) K K'
        (same_m, faithful.classes e f body body' same has has', same) same agree i j ts us a b)

    -- behind an exit without a raise
    left_agree : (line : ℕ) (m m' : Obj) (h h' : Handled) (env env' : Env) (o o' : Outcome) (K K' : After) → S m m' → SameHandled S h h' → SameEnv S env env' → SameOutcome o o' → EndsAgree K K'
        → Agreeing S (λ i ts. Leaves scene line m h i ts (Use env K (λ w. K env o))) (λ j us. Leaves scene' line m' h' j us (Use env' K' (λ w. K' env' o')))
    left_agree line m m' h h' env env' o o' K K' same_m same_h same_env same_o agree = leaves_agree line m m' h h' _ _ same_m same_h (use_agree env env' K K' _ _ same_env agree (λ v w s. agree env env' o o' same_env same_o))

    on_exit_agree : (line : ℕ) (m m' : Obj) (h h' : Handled) (K K' : After) → S m m' → SameHandled S h h' → EndsAgree K K' → EndsAgree (On_exit scene line m h K) (On_exit scene' line m' h' K')
    on_exit_agree line m m' h h' K K' same_m same_h agree env env' Normal Normal same_env same_o = left_agree line m m' h h' env env' Normal Normal K K' same_m same_h same_env same_o agree
    on_exit_agree line m m' h h' K K' same_m same_h agree env env' Breaks Breaks same_env same_o = left_agree line m m' h h' env env' Breaks Breaks K K' same_m same_h same_env same_o agree
    on_exit_agree line m m' h h' K K' same_m same_h agree env env' Continues Continues same_env same_o = left_agree line m m' h h' env env' Continues Continues K K' same_m same_h same_env same_o agree
    on_exit_agree line m m' h h' K K' same_m same_h agree env env' (Returns v) (Returns w) same_env same_o = left_agree line m m' h h' env env' (Returns v) (Returns w) K K' same_m same_h same_env same_o agree
    on_exit_agree line m m' h h' K K' same_m same_h agree env env' (Raises e) (Raises f) same_env same_o =
        leaves_by_agree line m m' e f _ _ same_m same_o
        (use_agree env env' K K' _ _ same_env agree
        (λ v w s. tests_agree line env env' h h' v w K K' _ _ s same_env same_h agree
        (λ b c same. by_truth_agree b c _ _ _ _ same (agree env env' Normal Normal same_env tt) (agree env env' (Raises e) (Raises f) same_env same_o))))
    on_exit_agree line m m' h h' K K' same_m same_h agree env env' Cut Cut same_env same_o = agree env env' Cut Cut same_env same_o
    on_exit_agree line m m' h h' K K' same_m same_h agree env env' _ _ same_env same_o = absurd same_o

    manages_agree : (line : ℕ) (m m' : Obj) (x : Option Name) (v v' : Obj) (body body' : Runner) → S m m' → S v v' → RunnersAgree body body' → RunnersAgree (Manages scene line m x v body) (Manages scene' line m' x v' body')
    manages_agree line m m' x v v' body body' same_m same_v runs env env' h h' K K' same_env same_h agree =
        cut_agree S _ _ _ _
        (λ i j ts us (p, has, a) (q, has', b). by_truth_agree (is_manager p) (is_manager q) _ _ _ _ (faithful.managers m m' p q same_m has has')
        (runs (bind x v env) (bind x v' env') h h' _ _ (bind_same S x v v' env env' same_v same_env) same_h (on_exit_agree line m m' h h' K K' same_m same_h agree))
        (answer_agree line env env' h h' (request.NoExit m) (request.NoExit m') K K' _ _ same_m same_env same_h agree (λ u w s k l mid mid' never told. absurd never)) i j ts us a b)

    mutual
      runs_agree : (f : Form) (line : ℕ) → RunnersAgree (Runs scene line f) (Runs scene' line f)
      runs_agree (Assign x e) line env env' h h' K K' same_env same_h agree =
          evaluates_agree e line env env' h h' _ _ same_env same_h
          (use_agree env env' K K' _ _ same_env agree (λ v w s. agree (set_local x (Some v) env) (set_local x (Some w) env') Normal Normal (set_same S x (Some v) (Some w) env env' s same_env) tt))
      runs_agree (Do o es) line env env' h h' K K' same_env same_h agree = evaluates_agree (Operate o es) line env env' h h' _ _ same_env same_h (use_agree env env' K K' _ _ same_env agree (λ v w s. agree env env' Normal Normal same_env tt))
      runs_agree (Show a) line env env' h h' K K' same_env same_h agree =
          taken_agree line env env' h h' a K K' _ _ same_env same_h agree
          (λ v w s. answer_agree line env env' h h' (request.Show v) (request.Show w) K K' _ _ s same_env same_h agree (λ u u' same_u. agree env env' Normal Normal same_env tt))
      runs_agree (Return a) line env env' h h' K K' same_env same_h agree = taken_agree line env env' h h' a K K' _ _ same_env same_h agree (λ v w s. agree env env' (Returns v) (Returns w) same_env s)
      runs_agree (Raise a) line env env' h h' K K' same_env same_h agree =
          taken_agree line env env' h h' a K K' _ _ same_env same_h agree
          (λ v w s. answer_agree line env env' h h' (request.Raisable v) (request.Raisable w) K K' _ _ s same_env same_h agree
          (λ u u' same_u. agree env env' (Raises (as_exception u)) (Raises (as_exception u')) same_env same_u))
      runs_agree Reraise line env env' h h' K K' same_env same_h agree = reraises_agree line env env' h h' K K' same_env same_h agree
      runs_agree Break line env env' h h' K K' same_env same_h agree = agree env env' Breaks Breaks same_env tt
      runs_agree Continue line env env' h h' K K' same_env same_h agree = agree env env' Continues Continues same_env tt
      runs_agree Pass line env env' h h' K K' same_env same_h agree = agree env env' Normal Normal same_env tt
      runs_agree (If a s) line env env' h h' K K' same_env same_h agree =
          chooses_agree line env env' h h' a K K' _ _ same_env same_h agree (λ b c e. by_truth_agree b c _ _ _ _ e (suites_agree s env env' h h' K K' same_env same_h agree) (agree env env' Normal Normal same_env tt))
      runs_agree (IfElse a s t) line env env' h h' K K' same_env same_h agree =
          chooses_agree line env env' h h' a K K' _ _ same_env same_h agree
          (λ b c e. by_truth_agree b c _ _ _ _ e (suites_agree s env env' h h' K K' same_env same_h agree) (suites_agree t env env' h h' K K' same_env same_h agree))
      runs_agree (While a s) line env env' h h' K K' same_env same_h agree =
          λ i j ts us (n, told) (m, told'). loops_agree line a (RunsSuite scene s) (RunsSuite scene' s) (suites_agree s) n m env env' h h' K K' same_env same_h agree i j ts us told told'
      runs_agree (TryExcept s cs) line env env' h h' K K' same_env same_h agree =
          suites_agree s env env' h h' _ _ same_env same_h (raises_agree K K' _ _ agree (λ e f env1 env1' same same_env1. tries_agree cs line e f same env1 env1' (Some e) (Some f) K K' same_env1 same agree))
      runs_agree (TryFinally s t) line env env' h h' K K' same_env same_h agree =
          finally_agree (RunsSuite scene s) (RunsSuite scene' s) (RunsSuite scene t) (RunsSuite scene' t) (suites_agree s) (suites_agree t) env env' h h' K K' same_env same_h agree
      runs_agree (WithForm a x s) line env env' h h' K K' same_env same_h agree =
          taken_agree line env env' h h' a K K' _ _ same_env same_h agree
          (λ m m' same_m. answer_agree line env env' h h' (request.Enter m) (request.Enter m') K K' _ _ same_m same_env same_h agree
          (λ v v' same_v. manages_agree line m m' x v v' (RunsSuite scene s) (RunsSuite scene' s) same_m same_v (suites_agree s) env env' h h' K K' same_env same_h agree))

      suites_agree : (s : Suite) → RunnersAgree (RunsSuite scene s) (RunsSuite scene' s)
      suites_agree nothing env env' h h' K K' same_env same_h agree = cut_agree S _ _ _ _ (agree env env' Normal Normal same_env tt)
      suites_agree (first n f rest) env env' h h' K K' same_env same_h agree =
          cut_agree S _ _ _ _ (runs_agree f n env env' h h' _ _ same_env same_h (normal_agree K K' _ _ agree (λ env1 env1' same_env1. suites_agree rest env1 env1' h h' K K' same_env1 same_h agree)))

      tries_agree : (cs : Clauses) (line : ℕ) (e f : PyBaseExceptionRef) → SameException S e f → RunnersAgree (Tries scene line cs e) (Tries scene' line cs f)
      tries_agree no_more line e f same env env' h h' K K' same_env same_h agree = reraises_agree line env env' h h' K K' same_env same_h agree
      tries_agree (clause n c x s rest) line e f same env env' h h' K K' same_env same_h agree =
          taken_agree n env env' h h' (Leaf (atom.Name c)) K K' _ _ same_env same_h agree
          (λ v v' same_v. answer_agree n env env' h h' (request.Match (as_object e) v) (request.Match (as_object f) v') K K' _ _ (same, same_v) same_env same_h agree
          (λ w w' same_w. tests_agree n env env' h h' w w' K K' _ _ same_w same_env same_h agree
          (λ b d matched. by_truth_agree b d _ _ _ _ matched
          (handles_agree x (RunsSuite scene s) (RunsSuite scene' s) (suites_agree s) (bind x (as_object e) env) (bind x (as_object f) env') h h' K K' (bind_same S x (as_object e) (as_object f) env env' same same_env) same_h agree)
          (tries_agree rest line e f same env env' h h' K K' same_env same_h agree))))

    -- ---- traces

    ended_agree : (e f : Ending) (ts us : List Own) → SameEnding S e f → Ended e ts → Ended f us → Agree S ts us
    ended_agree e f ts us s (inl a) told = left_ends S ts us a
    ended_agree e f ts us s (inr a) (inl b) = right_ends S ts us b
    ended_agree e f ts us s (inr (at, a)) (inr (at', b)) = both_tell S (Ends at e) (Ends at' f) ts us [] [] a b (s, tt)

    -- bodies that come to their ends
    none_agree : (env env' : Env) → Agreeing S (EndsBy scene env Normal) (EndsBy scene' env' Normal)
    none_agree env env' i j ts us (inl a) told = left_ends S ts us a
    none_agree env env' i j ts us (inr a) (inl b) = right_ends S ts us b
    none_agree env env' i j ts us (inr (v, has, a)) (inr (w, has', b)) = ended_agree (ending.Return v) (ending.Return w) ts us (faithful.literals payload.None v w refl has has') a b

    ends_agree : EndsAgree (EndsBy scene) (EndsBy scene')
    ends_agree env env' Normal Normal same_env same_o = none_agree env env'
    ends_agree env env' Breaks Breaks same_env same_o = λ i j ts us a b. absurd a
    ends_agree env env' Continues Continues same_env same_o = λ i j ts us a b. absurd a
    ends_agree env env' (Returns v) (Returns w) same_env same_o = λ i j ts us a b. ended_agree (ending.Return v) (ending.Return w) ts us same_o a b
    ends_agree env env' (Raises e) (Raises f) same_env same_o = λ i j ts us a b. ended_agree (ending.Raise e) (ending.Raise f) ts us same_o a b
    ends_agree env env' Cut Cut same_env same_o = λ i j ts us a b. left_ends S ts us a
    ends_agree env env' _ _ same_env same_o = absurd same_o

    entered_agree : (t : Tree) (vs ws : List Obj) (i j : ℕ) (w w' : ResumeHow) (ts us : List Own) → SameAll S vs ws → SameHow S w w' → Entered scene t vs i w ts → Entered scene' t ws j w' us → Agree S ts us
    entered_agree t vs ws i j how.Start how.Start ts us same s a b = suites_agree t.suite _ _ None None _ _ (begun_same S (locals_of t) vs ws same) tt ends_agree i j ts us a b
    entered_agree t vs ws i j (how.Send v) (how.Send w) ts us same s a b = absurd a
    entered_agree t vs ws i j (how.Throw e) (how.Throw f) ts us same s a b = ended_agree (ending.Raise e) (ending.Raise f) ts us s a.2 b.2
    entered_agree t vs ws i j _ _ ts us same s a b = absurd s

    begun_agree : (t : Tree) (vs ws : List Obj) (ts us : List Own) → SameAll S vs ws → IsBegun scene t vs ts → IsBegun scene' t ws us → Agree S ts us
    begun_agree t vs ws [] us same a b = tt
    begun_agree t vs ws (x ∷ ts) [] same a b = tt
    begun_agree t vs ws (Resumes i w ∷ ts) (Resumes j w' ∷ us) same a b = λ s. entered_agree t vs ws i j w w' ts us same s a b
    begun_agree t vs ws (Resumes i w ∷ ts) (_ ∷ us) same a b = absurd b
    begun_agree t vs ws (_ ∷ ts) (y ∷ us) same a b = absurd a

    pub traces_agree : (t : Tree) (vs ws : List Obj) (ts us : List Own) → SameAll S vs ws → IsTrace scene t vs ts → IsTrace scene' t ws us → Agree S ts us
    traces_agree t vs ws ts us same (arity, (mid, e, a)) (arity', (mid', f, b)) = both_tell S Makes Makes ts us mid mid' e f (begun_agree t vs ws mid mid' same a b)
