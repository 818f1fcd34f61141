-- What a tree may do. Each relation takes what may follow as its last argument: Runs scene line form env h event ts K says that the
-- form, begun with the locals env while the exception h is handled, and behind the event of this number, which was heard last, may tell the events
-- at the front of ts, and that K holds of the locals, the outcome, the event heard last by then, and the events behind. It may be cut
-- where nothing is left to tell.
-- (Python Language Reference, 3.3.9, 4.1, 4.2, 4.3, 6.2.9, 6.3.4, 6.10, 6.16, 7 and 8.1, 8.2, 8.4, 8.5)
use Rattle.std.specs.Prelude.{ℕ, zero, suc, Bool, true, false, Option, Some, None, List, [], ◌∷◌, ◌≡◌, ◌⊎◌}
use Rattle.py_objects.specs.declared.refs.PyBaseExceptionRef.{PyBaseExceptionRef}
use Rattle.py_objects.specs.declared.payload.Payload.{Payload}
use Rattle.py_objects.specs.declared.payload.Payload.TheVariants as payload
use Rattle.py_objects.specs.declared.payload.ExceptionBody.{ExceptionBody}
use Rattle.py_objects.specs.declared.request.Request.{Request}
use Rattle.py_objects.specs.declared.request.Request.TheVariants as request
use Rattle.py_objects.specs.Objects.{Obj, HasPayload, as_exception, as_object, class_object}
use Rattle.py_objects.specs.Own.{Own}
use Rattle.py_objects.specs.Callees.{call_request, is_manager}
use Rattle.py_objects.specs.Telling.{Given, Failed, Stopped, AfterValue, IsLiteral, Asked, Yielded, Rounded}
use Rattle.py_tree.specs.declared.expr.Atom.{Atom}
use Rattle.py_tree.specs.declared.expr.Atom.TheVariants as atom
use Rattle.py_tree.specs.Operators.{Way, Asks_one, Asks_two, Calls_it, Yields_it, way_of}
use Rattle.py_tree.specs.Tree.{Name, Expr, Leaf, Operate, Exprs, no_operands, operand, Form, Assign, Do, Show, Return, Raise, Reraise, Break, Continue, Pass, If, IfElse, While, TryExcept, TryFinally, With as WithForm, Suite, nothing, first, Clauses, no_more, clause}
use Rattle.py_tree.specs.Binding.{Env, find_local, set_local, bind}
use Rattle.py_tree.specs.Scene.{Scene}

-- what a statement comes to
pub data Outcome : Type 0 where
  Normal Breaks Continues : Outcome
  Returns : Obj → Outcome
  Raises : PyBaseExceptionRef → Outcome
  Cut : Outcome  -- the telling ends inside of it

-- the exception that is handled, if any
abbrev pub Handled : Type 0
Handled = Option PyBaseExceptionRef

-- what may follow a part of a tree: it takes the locals, the outcome, the number of the event heard last, and the events behind
abbrev pub After : Type 1
After = Env → Outcome → ℕ → List Own → Type 0

-- what a part of a tree may do, from these locals, while this exception is handled
abbrev pub Runner : Type 1
Runner = Env → Handled → ℕ → List Own → After → Type 0

-- ---- values

-- a value goes on; any other end is the whole's
abbrev pub With : AfterValue → (Obj → ℕ → List Own → Type 0) → AfterValue
With K next (Given v) event ts = next v event ts
With K next (Failed e) event ts = K (Failed e) event ts
With K next Stopped event ts = K Stopped event ts

-- a value goes on; any other end is the statement's
abbrev pub Use : Env → After → (Obj → ℕ → List Own → Type 0) → AfterValue
Use env K next (Given v) event ts = next v event ts
Use env K next (Failed e) event ts = K env (Raises e) event ts
Use env K next Stopped event ts = K env Cut event ts

-- what holds by a truth value
abbrev pub By_truth : Bool → Type 0 → Type 0 → Type 0
By_truth true P Q = P
By_truth false P Q = Q

module _ (scene : Scene) where
  -- a request for a statement of a line
  abbrev pub Requests : ℕ → Request → Handled → ℕ → List Own → AfterValue → Type 0
  Requests line r h event ts K = Asked (λ at. scene.is_of at line) r h event ts K

  -- a yield of a statement of a line
  abbrev pub Suspends : ℕ → Obj → Handled → ℕ → List Own → AfterValue → Type 0
  Suspends line v h event ts K = Yielded (λ at. scene.is_of at line) (λ i. scene.throws_under i h) v event ts K

  -- a name by its local: a set one is its object, an unset one is asked for, and so is a name that is no local
  abbrev pub Named : ℕ → Option (Option Obj) → Name → Handled → ℕ → List Own → AfterValue → Type 0
  Named line None x h event ts K = Requests line (request.Global scene.globals x) h event ts K
  Named line (Some None) x h event ts K = Requests line (request.Unbound x) h event ts K
  Named line (Some (Some v)) x h event ts K = K (Given v) event ts

  -- an atom's object
  abbrev pub Loads : ℕ → Env → Handled → Atom → ℕ → List Own → AfterValue → Type 0
  Loads line env h atom.None event ts K = IsLiteral scene.objects payload.None event ts K
  Loads line env h (atom.Bool b) event ts K = IsLiteral scene.objects (payload.Bool b) event ts K
  Loads line env h (atom.Int n) event ts K = IsLiteral scene.objects (payload.Int n) event ts K
  Loads line env h (atom.Str s) event ts K = IsLiteral scene.objects (payload.Str s) event ts K
  Loads line env h (atom.Name x) event ts K = Named line (find_local x env) x h event ts K

  -- the request that the call of an object comes to, by its payload
  abbrev pub Calls : ℕ → Obj → List Obj → Handled → ℕ → List Own → AfterValue → Type 0
  Calls line f vs h event ts K = ((ts ≡ []) × K Stopped event []) ⊎ ((p : Payload) × HasPayload scene.objects f p × Requests line (call_request p f vs) h event ts K)

  -- what an operator does with the values of its operands; where these aren't as many as it takes the telling is cut
  abbrev pub Finishes : ℕ → Way → List Obj → Handled → ℕ → List Own → AfterValue → Type 0
  Finishes line (Asks_one r) (v ∷ []) h event ts K = Requests line (r v) h event ts K
  Finishes line (Asks_two r) (v ∷ w ∷ []) h event ts K = Requests line (r v w) h event ts K
  Finishes line Calls_it (f ∷ vs) h event ts K = Calls line f vs h event ts K
  Finishes line Yields_it (v ∷ []) h event ts K = Suspends line v h event ts K
  Finishes line way vs h event ts K = (ts ≡ []) × K Stopped event []

  abbrev mutual
    -- the value of an expression: operands from the left, then what the operator does with them
    pub Evaluates : ℕ → Env → Handled → Expr → ℕ → List Own → AfterValue → Type 0
    Evaluates line env h (Leaf a) event ts K = Loads line env h a event ts K
    Evaluates line env h (Operate o es) event ts K = EvaluatesAll line env h es event ts K (λ vs i mid. Finishes line (way_of o) vs h i mid K)

    pub EvaluatesAll : ℕ → Env → Handled → Exprs → ℕ → List Own → AfterValue → (List Obj → ℕ → List Own → Type 0) → Type 0
    EvaluatesAll line env h no_operands event ts K next = next [] event ts
    EvaluatesAll line env h (operand e es) event ts K next = Evaluates line env h e event ts (With K (λ v i mid. EvaluatesAll line env h es i mid K (λ vs. next (v ∷ vs))))

  -- the truth of an object, which is asked for and answered by a truth value
  abbrev pub Tests : ℕ → Env → Handled → Obj → ℕ → List Own → After → (Bool → ℕ → List Own → Type 0) → Type 0
  Tests line env h v event ts K next =
      Requests line (request.Truth v) h event ts (Use env K (λ w i mid. (b : Bool) × HasPayload scene.objects w (payload.Bool b) × next b i mid))

  -- an expression is evaluated and tested
  abbrev pub Chooses : ℕ → Env → Handled → Expr → ℕ → List Own → After → (Bool → ℕ → List Own → Type 0) → Type 0
  Chooses line env h e event ts K next = Evaluates line env h e event ts (Use env K (λ v i mid. Tests line env h v i mid K next))

-- ---- what follows the parts of a statement

-- behind a statement of a sequence: the next one where it came to its end, else its outcome is that of all
abbrev pub On_normal : After → (Env → ℕ → List Own → Type 0) → After
On_normal K next env Normal event ts = next env event ts
On_normal K next env Breaks event ts = K env Breaks event ts
On_normal K next env Continues event ts = K env Continues event ts
On_normal K next env (Returns v) event ts = K env (Returns v) event ts
On_normal K next env (Raises e) event ts = K env (Raises e) event ts
On_normal K next env Cut event ts = K env Cut event ts

-- behind the body of a loop: another round, or the loop's end, else the body's outcome is the loop's
abbrev pub On_turn : After → (Env → ℕ → List Own → Type 0) → After
On_turn K again env Normal event ts = again env event ts
On_turn K again env Breaks event ts = K env Normal event ts
On_turn K again env Continues event ts = again env event ts
On_turn K again env (Returns v) event ts = K env (Returns v) event ts
On_turn K again env (Raises e) event ts = K env (Raises e) event ts
On_turn K again env Cut event ts = K env Cut event ts

-- behind a body with clauses, which run where it raised
abbrev pub On_raise : After → (PyBaseExceptionRef → Env → ℕ → List Own → Type 0) → After
On_raise K handle env Normal event ts = K env Normal event ts
On_raise K handle env Breaks event ts = K env Breaks event ts
On_raise K handle env Continues event ts = K env Continues event ts
On_raise K handle env (Returns v) event ts = K env (Returns v) event ts
On_raise K handle env (Raises e) event ts = handle e env event ts
On_raise K handle env Cut event ts = K env Cut event ts

-- the outcome of a body and its finally: that of the finally, unless it is normal
abbrev pub behind : Outcome → Outcome → Outcome
behind o Normal = o
behind o Breaks = Breaks
behind o Continues = Continues
behind o (Returns v) = Returns v
behind o (Raises e) = Raises e
behind o Cut = Cut

-- behind a finally that follows an outcome
abbrev pub Behind_finally : After → Outcome → After
Behind_finally K o env o2 event ts = K env (behind o o2) event ts

-- behind the body of a finally, which runs unless that was cut, and handles the exception that it raised
abbrev pub On_finally : Runner → Handled → After → After
On_finally final h K env Normal event ts = final env h event ts (Behind_finally K Normal)
On_finally final h K env Breaks event ts = final env h event ts (Behind_finally K Breaks)
On_finally final h K env Continues event ts = final env h event ts (Behind_finally K Continues)
On_finally final h K env (Returns v) event ts = final env h event ts (Behind_finally K (Returns v))
On_finally final h K env (Raises e) event ts = final env (Some e) event ts (Behind_finally K (Raises e))
On_finally final h K env Cut event ts = K env Cut event ts

-- a body, then its finally
abbrev pub Finally : Runner → Runner → Runner
Finally body final env h event ts K = body env h event ts (On_finally final h K)

-- a local is unset, whether it was set or not
abbrev pub Forgets : Name → Runner
Forgets x env h event ts K = K (set_local x None env) Normal event ts

-- the suite of a clause, behind which a name that the clause binds is forgotten
abbrev pub Handles : Option Name → Runner → Runner
Handles None suite env h event ts K = suite env h event ts K
Handles (Some x) suite env h event ts K = Finally suite (Forgets x) env h event ts K

-- ---- managers

module _ (scene : Scene) where
  -- a manager is left without a raise: its exit takes None three times
  abbrev pub Leaves : ℕ → Obj → Handled → ℕ → List Own → AfterValue → Type 0
  Leaves line m h event ts K =
      ((ts ≡ []) × K Stopped event []) ⊎ ((c : Obj) × (v : Obj) × (t : Obj)
      × HasPayload scene.objects c payload.None × HasPayload scene.objects v payload.None × HasPayload scene.objects t payload.None × Requests scene line (request.Exit m c v t) h event ts K)

  -- a manager is left by the raise of e, which is handled meanwhile: its exit takes the class of e, e, and an object that is left open here
  abbrev pub LeavesBy : ℕ → Obj → PyBaseExceptionRef → ℕ → List Own → AfterValue → Type 0
  LeavesBy line m e event ts K =
      ((ts ≡ []) × K Stopped event []) ⊎ ((body : ExceptionBody) × (t : Obj) × HasPayload scene.objects (as_object e) (payload.Exception body)
      × Requests scene line (request.Exit m (class_object body.class) (as_object e) t) (Some e) event ts K)

  -- behind the body of a with, whose manager is left unless that was cut: a raise goes on unless the exit's answer is true, any other
  -- outcome goes on whatever the answer is
  abbrev pub On_exit : ℕ → Obj → Handled → After → After
  On_exit line m h K env Normal event ts = Leaves line m h event ts (Use env K (λ w. K env Normal))
  On_exit line m h K env Breaks event ts = Leaves line m h event ts (Use env K (λ w. K env Breaks))
  On_exit line m h K env Continues event ts = Leaves line m h event ts (Use env K (λ w. K env Continues))
  On_exit line m h K env (Returns v) event ts = Leaves line m h event ts (Use env K (λ w. K env (Returns v)))
  On_exit line m h K env (Raises e) event ts =
      LeavesBy line m e event ts (Use env K (λ w i mid. Tests scene line env h w i mid K (λ b j rest. By_truth b (K env Normal j rest) (K env (Raises e) j rest))))
  On_exit line m h K env Cut event ts = K env Cut event ts

  -- behind the entry of m, which gave v: the body, with v bound or dropped, then the exit; where m is no manager its exit is missing,
  -- which no value answers
  abbrev pub Manages : ℕ → Obj → Option Name → Obj → Runner → Runner
  Manages line m x v body env h event ts K =
      ((ts ≡ []) × K env Cut event []) ⊎ ((p : Payload) × HasPayload scene.objects m p
      × By_truth (is_manager p) (body (bind x v env) h event ts (On_exit line m h K)) (Requests scene line (request.NoExit m) h event ts (Use env K (λ u i mid. ⊥))))

-- ---- statements

module _ (scene : Scene) where
  -- a loop whose body is begun at most n times: a round, the test, and where it is true the body and the loop again
  abbrev pub Loops : ℕ → Expr → Runner → ℕ → Runner
  Loops line a body zero env h event ts K =
      Rounded ts (K env Cut event []) (λ mid. Chooses scene line env h a event mid K (λ b i left. By_truth b ⊥ (K env Normal i left)))
  Loops line a body (suc n) env h event ts K =
      Rounded ts (K env Cut event []) (λ mid. Chooses scene line env h a event mid K
      (λ b i left. By_truth b (body env h i left (On_turn K (λ env1 j rest. Loops line a body n env1 h j rest K))) (K env Normal i left)))

  -- the exception that is handled is raised again
  abbrev pub Reraises : ℕ → Runner
  Reraises line env h event ts K = Requests scene line request.Handled h event ts (Use env K (λ v. K env (Raises (as_exception v))))

  abbrev mutual
    -- a statement of a line
    pub Runs : ℕ → Form → Runner
    Runs line (Assign x e) env h event ts K = Evaluates scene line env h e event ts (Use env K (λ v. K (set_local x (Some v) env) Normal))
    Runs line (Do o es) env h event ts K = Evaluates scene line env h (Operate o es) event ts (Use env K (λ v. K env Normal))
    Runs line (Show a) env h event ts K =
        Evaluates scene line env h a event ts (Use env K (λ v i mid. Requests scene line (request.Show v) h i mid (Use env K (λ u. K env Normal))))
    Runs line (Return a) env h event ts K = Evaluates scene line env h a event ts (Use env K (λ v. K env (Returns v)))
    Runs line (Raise a) env h event ts K =
        Evaluates scene line env h a event ts (Use env K (λ v i mid. Requests scene line (request.Raisable v) h i mid (Use env K (λ w. K env (Raises (as_exception w))))))
    Runs line Reraise env h event ts K = Reraises line env h event ts K
    Runs line Break env h event ts K = K env Breaks event ts
    Runs line Continue env h event ts K = K env Continues event ts
    Runs line Pass env h event ts K = K env Normal event ts
    Runs line (If a s) env h event ts K =
        Chooses scene line env h a event ts K (λ b i mid. By_truth b (RunsSuite s env h i mid K) (K env Normal i mid))
    Runs line (IfElse a s t) env h event ts K =
        Chooses scene line env h a event ts K (λ b i mid. By_truth b (RunsSuite s env h i mid K) (RunsSuite t env h i mid K))
    Runs line (While a s) env h event ts K = (n : ℕ) × Loops line a (RunsSuite s) n env h event ts K
    Runs line (TryExcept s cs) env h event ts K = RunsSuite s env h event ts (On_raise K (λ e env1 i mid. Tries line cs e env1 (Some e) i mid K))
    Runs line (TryFinally s t) env h event ts K = Finally (RunsSuite s) (RunsSuite t) env h event ts K
    Runs line (WithForm a x s) env h event ts K =
        Evaluates scene line env h a event ts (Use env K (λ m i mid. Requests scene line (request.Enter m) h i mid (Use env K (λ v j rest. Manages scene line m x v (RunsSuite s) env h j rest K))))

    -- statements in order
    pub RunsSuite : Suite → Runner
    RunsSuite nothing env h event ts K = ((ts ≡ []) × K env Cut event []) ⊎ K env Normal event ts
    RunsSuite (first n f more) env h event ts K =
        ((ts ≡ []) × K env Cut event []) ⊎ Runs n f env h event ts (On_normal K (λ env1 i mid. RunsSuite more env1 h i mid K))

    -- the clauses of a try of a line, in order, at an exception: the first one whose class it matches, else it is raised again
    pub Tries : ℕ → Clauses → PyBaseExceptionRef → Runner
    Tries line no_more e env h event ts K = Reraises line env h event ts K
    Tries line (clause n c x s more) e env h event ts K =
        Loads scene n env h (atom.Name c) event ts (Use env K (λ v i mid. Requests scene n (request.Match (as_object e) v) h i mid (Use env K
        (λ w j mid2. Tests scene n env h w j mid2 K (λ b k mid3. By_truth b (Handles x (RunsSuite s) (bind x (as_object e) env) h k mid3 K) (Tries line more e env h k mid3 K))))))
