-- Laid expressions run as those of the tree: operands are evaluated from the left, and their values lie on the stack in order
-- when the unit asks; what lies below them stays.
use Rattle.std.proofs.Common.{◌≡◌, ◌<◌, ◌≤◌, ℕ, suc, Bool, List, [], ◌∷◌, ◌++◌, true, false, refl, sym, ap, ◌∙◌, subst, length, take, drop, reverse, arith, le_refl, append_assoc, length-append, inl, inr}
use Rattle.std.proofs.Math.Seq.{take-append_seam, drop-append_seam}
use Rattle.std.specs.Prelude.{Option, Some, None}
use Rattle.std.proofs.lemmas.List.{length-reverse, reverse-append, reverse-reverse}
use Rattle.py_code.specs.declared.instruction.Instruction.{Instruction}
use Rattle.py_code.specs.declared.instruction.Instruction.TheVariants.{CallFunctionPositional, YieldValue}
use Rattle.py_code.specs.declared.literal.BuiltinFn.{BuiltinFn}
use Rattle.py_objects.specs.declared.payload.Payload.{Payload}
use Rattle.py_objects.specs.declared.payload.Payload.TheVariants as payload
use Rattle.py_objects.specs.declared.request.Request.{Request}
use Rattle.py_objects.specs.Objects.{Obj, HasPayload}
use Rattle.py_objects.specs.Callees.{call_request}
use Rattle.py_objects.specs.Own.{Own}
use Rattle.py_objects.specs.Telling.{Given, Stopped, AfterValue}
use Rattle.py_rows.specs.declared.block.Block.{Block}
use Rattle.py_rows.specs.States.{Setting, Goes, Plainly}
use Rattle.py_rows.specs.Handled.{handled_in}
use Rattle.py_rows.specs.Rows.{reaches, asks, calls, act}
use Rattle.py_rows.specs.Receiving.{answered}
use Rattle.py_rows.proofs.TakingLemmas.{reached}
use Rattle.py_tree.specs.declared.body.BodyKind.{BodyKind}
use Rattle.py_tree.specs.declared.body.BodyKind.TheVariants.{Generator}
use Rattle.py_tree.specs.declared.expr.Operator.{Operator}
use Rattle.py_tree.specs.declared.expr.Operator.TheVariants as operator
use Rattle.py_tree.specs.Tree.{Expr, Leaf, Operate, Exprs, no_operands, operand}
use Rattle.py_tree.specs.Operators.{Way, Asks_one, Asks_two, Calls_it, Yields_it, way_of}
use Rattle.py_tree.specs.Compilable.{OperandsFit, operands}
use Rattle.py_tree.specs.Binding.{Env}
use Rattle.py_tree.specs.Scene.{Scene}
use Rattle.py_tree.specs.Outcome.{Cut, Handled, With, Use, Requests, Tests, Chooses, Calls, Finishes, Evaluates, EvaluatesAll}
use Rattle.py_laid.specs.Code.{Around, Scope, on, over, under, Stands, LaidCallee, LaidExpr, LaidExprs}
use Rattle.py_laid.specs.Operators.{Coding, By, Driven, Called, Yielded, coding_of, callee_of, instruction_of, argument_of}
use Rattle.py_laid.proofs.Env.{env_of}
use Rattle.py_laid.proofs.Decoding.{Now, running, begun, Execution, setting_of, From, parts_of, scene_of}
use Rattle.py_laid.proofs.Places.{stands_bound, expr_bound, exprs_bound}
use Rattle.py_laid.proofs.Lands.{Context, PassesOn, with_passes, use_passes}
use Rattle.py_laid.proofs.Asking.{asked_once_run, resolved_run, yields_run}
use Rattle.py_laid.proofs.Loads.{TestsBy, const_run, cut_load, atom_run, tests_run}
use Rattle.py_laid.proofs.UnitLemmas.{Some-injective}

-- ---- values on a stack, the last on top

reverse-onto : (v : Obj) (vs stack : List Obj) → reverse vs ++ v ∷ stack ≡ reverse (v ∷ vs) ++ stack
reverse-onto v vs stack = sym (ap (λ (l : List Obj). l ++ stack) (reverse-append (v ∷ []) vs) ∙ append_assoc (reverse vs) (v ∷ []) stack)

-- so many values are taken, and they are those
reaches-reverse : (vs stack : List Obj) → reaches (length vs) (reverse vs ++ stack) ≡ true
reaches-reverse vs stack = reached (length vs) (reverse vs ++ stack) (omega (arith, length-append (reverse vs) stack, length-reverse vs))

take-reverse : (vs stack : List Obj) → reverse (take (length vs) (reverse vs ++ stack)) ≡ vs
take-reverse vs stack = ap (λ (n : ℕ). reverse (take n (reverse vs ++ stack))) (sym (length-reverse vs)) ∙ ap reverse (take-append_seam (reverse vs) stack) ∙ reverse-reverse vs

drop-reverse : (vs stack : List Obj) → drop (length vs) (reverse vs ++ stack) ≡ stack
drop-reverse vs stack = ap (λ (n : ℕ). drop n (reverse vs ++ stack)) (sym (length-reverse vs)) ∙ drop-append_seam (reverse vs) stack

-- ---- cuts

-- what an operator does may be cut at its front
cut_finish : (scene : Scene) (line : ℕ) (way : Way) (vs : List Obj) (h : Handled) (event : ℕ) (V : AfterValue) → V Stopped event [] → Finishes scene line way vs h event [] V
cut_finish scene line (Asks_one r) (v ∷ []) h event V stopped = inl (refl, stopped)
cut_finish scene line (Asks_two r) (v ∷ w ∷ []) h event V stopped = inl (refl, stopped)
cut_finish scene line Calls_it (f ∷ vs) h event V stopped = inl (refl, stopped)
cut_finish scene line Yields_it (v ∷ []) h event V stopped = inl (refl, stopped)
cut_finish scene line way vs h event V stopped = (refl, stopped)

-- an expression that tells nothing is cut, or is a local's load
mutual
  pub cut_expr : (e : Expr) (scene : Scene) (line : ℕ) (env : Env) (h : Handled) (event : ℕ) (V : AfterValue) → V Stopped event [] → ((v : Obj) → V (Given v) event []) → Evaluates scene line env h e event [] V
  cut_expr (Leaf a) scene line env h event V stopped stops = cut_load scene line env h a event V stopped stops
  cut_expr (Operate o es) scene line env h event V stopped stops = cut_exprs es scene line env h event V _ stopped (λ vs. cut_finish scene line (way_of o) vs h event V stopped)

  pub cut_exprs : (es : Exprs) (scene : Scene) (line : ℕ) (env : Env) (h : Handled) (event : ℕ) (V : AfterValue) (next : List Obj → ℕ → List Own → Type 0) → V Stopped event []
      → ((vs : List Obj) → next vs event []) → EvaluatesAll scene line env h es event [] V next
  cut_exprs no_operands scene line env h event V next stopped stops = stops []
  cut_exprs (operand e es) scene line env h event V next stopped stops =
      cut_expr e scene line env h event (With V _) stopped (λ v. cut_exprs es scene line env h event V (λ vs. next (v ∷ vs)) stopped (λ vs. stops (v ∷ vs)))

-- the call of an object of a known payload asks what it comes to
settled : (scene : Scene) (line : ℕ) (h : Handled) (g : Obj) (p : Payload) (vs : List Obj) (r : Request) (event : ℕ) (ts : List Own) (V : AfterValue) → HasPayload scene.objects g p
    → call_request p g vs ≡ r → Calls scene line g vs h event ts V → Requests scene line r h event ts V
settled scene line h g p vs r event ts V has comes (inl (none, k)) = inl (none, k)
settled scene line h g p vs r event ts V has comes (inr (q, is, told)) =
    let same : q ≡ p = Some-injective q p (sym is ∙ has) in
    subst (λ (s : Request). Requests scene line s h event ts V) (ap (λ (s : Payload). call_request s g vs) same ∙ comes) told

-- a way takes so many values
abbrev Counts : Way → ℕ → Type 0
Counts (Asks_one r) n = n ≡ 1
Counts (Asks_two r) n = n ≡ 2
Counts Calls_it n = 1 ≤ n
Counts Yields_it n = n ≡ 1

counted : (kind : BodyKind) (way : Way) (es : Exprs) (n : ℕ) → n ≡ operands es → OperandsFit kind way es → Counts way n
counted kind (Asks_one r) es n same fits = same ∙ fits
counted kind (Asks_two r) es n same fits = same ∙ fits
counted kind Calls_it es n same fits = omega (arith, same, fits.0)
counted kind Yields_it es n same fits = same ∙ fits.1

-- ---- what the unit of an operator makes of its values

-- a unit asks this of values, and its answer is pushed
abbrev MakesBy : Way → Instruction → ℕ → Type 0
MakesBy (Asks_one r) i arg =
    (setting : Setting) (k p : ℕ) (stack : List Obj) (blocks : List Block) (now : Now) (v : Obj)
    → (act setting i arg (begun k p (v ∷ stack) blocks now) ≡ Plainly (asks (r v) (begun k p stack blocks now)))
    × ((u : Obj) → answered i arg u (begun k p stack blocks now) ≡ Plainly (Goes (running (suc k) (suc k) 0 (u ∷ stack) blocks now)))
MakesBy (Asks_two r) i arg =
    (setting : Setting) (k p : ℕ) (stack : List Obj) (blocks : List Block) (now : Now) (v w : Obj)
    → (act setting i arg (begun k p (w ∷ v ∷ stack) blocks now) ≡ Plainly (asks (r v w) (begun k p stack blocks now)))
    × ((u : Obj) → answered i arg u (begun k p stack blocks now) ≡ Plainly (Goes (running (suc k) (suc k) 0 (u ∷ stack) blocks now)))
MakesBy way i arg = ⊥

-- the call of a function of the machine's own asks this of values
abbrev MakesDriven : Way → BuiltinFn → Type 0
MakesDriven (Asks_one r) fn = (g v : Obj) → call_request (payload.Builtin fn) g (v ∷ []) ≡ r v
MakesDriven (Asks_two r) fn = (g v w : Obj) → call_request (payload.Builtin fn) g (v ∷ w ∷ []) ≡ r v w
MakesDriven way fn = ⊥

-- so does the code of an operator what it does by the tree
abbrev Makes : Way → Coding → Type 0
Makes way (By i arg) = MakesBy way i arg
Makes way (Driven fn) = MakesDriven way fn
Makes Calls_it Called = Unit {0}
Makes Yields_it Yielded = Unit {0}
Makes way coding = ⊥

makes : (o : Operator) → Makes (way_of o) (coding_of o)
makes operator.Add = λ setting k p stack blocks now v w. (refl, λ u. refl)
makes operator.Sub = λ setting k p stack blocks now v w. (refl, λ u. refl)
makes operator.Lt = λ setting k p stack blocks now v w. (refl, λ u. refl)
makes operator.Eq = λ setting k p stack blocks now v w. (refl, λ u. refl)
makes operator.Send = λ g v w. refl
makes operator.Throw = λ g v w. refl
makes operator.Close = λ g v. refl
makes operator.Yield = tt
makes operator.Call = tt

module _ (ex : Execution) {around : Around} (c : Context ex around) (now : Now) (same : length now.locals ≡ length ex.vars) (line : ℕ) where
  abbrev env : Env
  env = env_of ex.vars now.locals

  abbrev h : Handled
  h = handled_in None c.blocks

  -- what lies on the stack behind operands: the function that may stand under them, the values below, and those of the context
  abbrev below : Option Obj → List Obj → List Obj
  below None extra = extra
  below (Some g) extra = g ∷ extra

  module _ (V : AfterValue) (passes : PassesOn ex c env V) (scope : Scope) (asks to : ℕ) (extra : List Obj) (n : ℕ) (most : n ≤ c.limit) (low : c.low ≤ asks) (high : to ≤ c.high)
      (stops : (u : Obj) (i : ℕ) → V (Given u) i [])
      (later : (u : Obj) (m i : ℕ) (us : List Own) → m < n → From ex m to to (u ∷ extra ++ c.base) c.blocks now us → V (Given u) i us) where
    -- a unit that asks of its values
    by_run : (way : Way) (i : Instruction) (arg : ℕ) → MakesBy way i arg → Stands (parts_of ex) scope line asks i arg to → (vs : List Obj) (l m event : ℕ) (us : List Own) → Counts way (length vs) → m ≤ n
        → From ex m asks l (reverse vs ++ (extra ++ c.base)) c.blocks now us → Finishes (scene_of ex) line way vs h event us V
    by_run (Asks_one r) i arg is stands (v ∷ []) l m event us count few run =
        asked_once_run ex c now same V passes stands (r v) (v ∷ extra ++ c.base) extra l m event us (omega (arith, few, most)) low high
        (λ k p. (is (setting_of ex) k p (extra ++ c.base) c.blocks now v).0) run
        (λ u. u ∷ extra ++ c.base) (λ k p u. (is (setting_of ex) k p (extra ++ c.base) c.blocks now v).1 u) stops (λ u j g left least goes. later u j g left (omega (arith, least, few)) goes)
    by_run (Asks_two r) i arg is stands (v ∷ w ∷ []) l m event us count few run =
        asked_once_run ex c now same V passes stands (r v w) (w ∷ v ∷ extra ++ c.base) extra l m event us (omega (arith, few, most)) low high
        (λ k p. (is (setting_of ex) k p (extra ++ c.base) c.blocks now v w).0) run
        (λ u. u ∷ extra ++ c.base) (λ k p u. (is (setting_of ex) k p (extra ++ c.base) c.blocks now v w).1 u) stops (λ u j g left least goes. later u j g left (omega (arith, least, few)) goes)
    by_run Calls_it i arg is stands vs l m event us count few run = absurd is
    by_run Yields_it i arg is stands vs l m event us count few run = absurd is
    by_run way i arg is stands vs l m event us count few run = absurd (omega (arith, count))

    -- a call asks what it comes to, by the payload of its callee
    called_run : (g : Obj) (vs : List Obj) → Stands (parts_of ex) scope line asks CallFunctionPositional (length vs) to → (l m event : ℕ) (us : List Own) → m ≤ n
        → From ex m asks l (reverse vs ++ g ∷ (extra ++ c.base)) c.blocks now us → Calls (scene_of ex) line g vs h event us V
    called_run g vs stands l m event us few run =
        resolved_run ex c now same V passes stands g (λ (q : Payload). call_request q g vs) (reverse (g ∷ vs) ++ (extra ++ c.base)) extra l m event us (omega (arith, few, most)) low high
        (λ k p q. calls (take-reverse (g ∷ vs) (extra ++ c.base) q) (reaches-reverse (g ∷ vs) (extra ++ c.base) q) (begun k p (drop-reverse (g ∷ vs) (extra ++ c.base) q) c.blocks now))
        (subst (λ (st : List Obj). From ex m asks l st c.blocks now us) (reverse-onto g vs (extra ++ c.base)) run)
        (λ u. u ∷ extra ++ c.base) (λ k p u. refl) stops (λ u j e left least goes. later u j e left (omega (arith, least, few)) goes)

    -- the call of a function of the machine's own asks the request that it comes to
    driven_run : (way : Way) (fn : BuiltinFn) → MakesDriven way fn → (g : Obj) → HasPayload ex.objects g (payload.Builtin fn) → (vs : List Obj) → Stands (parts_of ex) scope line asks CallFunctionPositional (length vs) to
        → (l m event : ℕ) (us : List Own) → Counts way (length vs) → m ≤ n
        → From ex m asks l (reverse vs ++ g ∷ (extra ++ c.base)) c.blocks now us → Finishes (scene_of ex) line way vs h event us V
    driven_run (Asks_one r) fn is g has (v ∷ []) stands l m event us count few run =
        settled (scene_of ex) line h g (payload.Builtin fn) (v ∷ []) (r v) event us V has (is g v) (called_run g (v ∷ []) stands l m event us few run)
    driven_run (Asks_two r) fn is g has (v ∷ w ∷ []) stands l m event us count few run =
        settled (scene_of ex) line h g (payload.Builtin fn) (v ∷ w ∷ []) (r v w) event us V has (is g v w) (called_run g (v ∷ w ∷ []) stands l m event us few run)
    driven_run Calls_it fn is g has vs stands l m event us count few run = absurd is
    driven_run Yields_it fn is g has vs stands l m event us count few run = absurd is
    driven_run way fn is g has vs stands l m event us count few run = absurd (omega (arith, count))

  calls_run : (es : Exprs) (V : AfterValue) → PassesOn ex c env V → (scope : Scope) (asks to : ℕ) (extra : List Obj) (n : ℕ) → n ≤ c.limit → c.low ≤ asks → to ≤ c.high
      → Stands (parts_of ex) (over (operands es) scope) line asks CallFunctionPositional (argument_of Called (operands es)) to
      → ((u : Obj) (i : ℕ) → V (Given u) i [])
      → ((u : Obj) (m i : ℕ) (us : List Own) → m < n → From ex m to to (u ∷ extra ++ c.base) c.blocks now us → V (Given u) i us)
      → (vs : List Obj) (l m event : ℕ) (us : List Own) → length vs ≡ operands es → (1 ≤ operands es) × (operands es ≤ 256) → m ≤ n
      → From ex m asks l (reverse vs ++ (extra ++ c.base)) c.blocks now us → Finishes (scene_of ex) line Calls_it vs h event us V
  calls_run es V passes scope asks to extra n most low high stands stops later [] l m event us long fits few run = absurd (omega (arith, long, fits.0))
  calls_run es V passes scope asks to extra n most low high stands stops later (g ∷ vs) l m event us long fits few run =
      called_run V passes (over (operands es) scope) asks to extra n most low high stops later g vs
      (subst (λ (count : ℕ). Stands (parts_of ex) (over (operands es) scope) line asks CallFunctionPositional (argument_of Called count) to) (sym long) stands) l m event us few
      (subst (λ (st : List Obj). From ex m asks l st c.blocks now us) (sym (reverse-onto g vs (extra ++ c.base))) run)

  yielded_run : (es : Exprs) (V : AfterValue) → PassesOn ex c env V → (scope : Scope) (asks to : ℕ) (extra : List Obj) (n : ℕ) → n ≤ c.limit → c.low ≤ asks → to ≤ c.high
      → Stands (parts_of ex) (over (operands es) scope) line asks YieldValue 0 to
      → ((u : Obj) (i : ℕ) → V (Given u) i [])
      → ((u : Obj) (m i : ℕ) (us : List Own) → m < n → From ex m to to (u ∷ extra ++ c.base) c.blocks now us → V (Given u) i us)
      → (vs : List Obj) (l m event : ℕ) (us : List Own) → length vs ≡ operands es → (scope.kind ≡ Generator) × (operands es ≡ 1) → m ≤ n
      → From ex m asks l (reverse vs ++ (extra ++ c.base)) c.blocks now us → Finishes (scene_of ex) line Yields_it vs h event us V
  yielded_run es V passes scope asks to extra n most low high stands stops later (v ∷ []) l m event us long fits few run =
      yields_run ex c now same V passes stands v extra l m event us (omega (arith, few, most)) low high run stops (λ u j i left fewer goes. later u j i left (omega (arith, fewer, few)) goes)
  yielded_run es V passes scope asks to extra n most low high stands stops later vs l m event us long fits few run = absurd (omega (arith, long, fits.1))

  -- operands push their values in order, or one of them raises
  abbrev RunsAll : Exprs → Type 1
  RunsAll es = (V : AfterValue) → PassesOn ex c env V → (scope : Scope) (next : List Obj → ℕ → List Own → Type 0) (at last to n : ℕ) (extra : List Obj) (event : ℕ) (ts : List Own)
      → LaidExprs (parts_of ex) scope line es at to
      → n ≤ c.limit → c.low ≤ at → to ≤ c.high → From ex n at last (extra ++ c.base) c.blocks now ts
      → ((vs : List Obj) (i : ℕ) → next vs i [])
      → ((vs : List Obj) (l m i : ℕ) (us : List Own) → length vs ≡ operands es → m ≤ n → From ex m to l (reverse vs ++ (extra ++ c.base)) c.blocks now us → next vs i us)
      → EvaluatesAll (scene_of ex) line env h es event ts V next

  -- what the code of an operator does, whose operands run as they should
  operation_run : (es : Exprs) → RunsAll es → (way : Way) (coding : Coding) → Makes way coding → (V : AfterValue) → PassesOn ex c env V → (scope : Scope) (at to : ℕ) (extra : List Obj) (last n event : ℕ) (ts : List Own)
      → n ≤ c.limit → c.low ≤ at → to ≤ c.high → OperandsFit scope.kind way es → (begins asks : ℕ) → LaidCallee (parts_of ex) (callee_of coding) scope line at begins
      → LaidExprs (parts_of ex) (under (callee_of coding) scope) line es begins asks
      → Stands (parts_of ex) (over (operands es) (under (callee_of coding) scope)) line asks (instruction_of coding) (argument_of coding (operands es)) to
      → From ex n at last (extra ++ c.base) c.blocks now ts
      → ((v : Obj) (i : ℕ) → V (Given v) i [])
      → ((v : Obj) (m i : ℕ) (us : List Own) → m < n → From ex m to to (v ∷ extra ++ c.base) c.blocks now us → V (Given v) i us)
      → EvaluatesAll (scene_of ex) line env h es event ts V (λ vs i mid. Finishes (scene_of ex) line way vs h i mid V)
  operation_run es runs way (By op arg) is V passes scope at to extra last n event ts most low high fits begins asks is_at all stands run stops later =
      let order : begins ≤ asks = exprs_bound (parts_of ex) es scope line begins asks all in
      runs V passes scope (λ vs i mid. Finishes (scene_of ex) line way vs h i mid V) begins last asks n extra event ts all most (omega (arith, low, is_at))
      (omega (arith, stands_bound (parts_of ex) stands, high)) (subst (λ (b : ℕ). From ex n b last (extra ++ c.base) c.blocks now ts) (sym is_at) run)
      (λ vs i. cut_finish (scene_of ex) line way vs h i V (passes.stopped i))
      (λ vs l m i us long few done. by_run V passes (over (operands es) scope) asks to extra n most (omega (arith, low, is_at, order)) high stops later way op arg is stands vs l m i us
      (counted scope.kind way es (length vs) long fits) few done)
  operation_run es runs way (Driven fn) is V passes scope at to extra last n event ts most low high fits begins asks callee all stands run stops later =
      let before : at < begins = stands_bound (parts_of ex) callee.1 in
      let order : begins ≤ asks = exprs_bound (parts_of ex) es (on scope) line begins asks all in
      const_run ex callee (payload.Builtin fn) (λ k q b v. Goes (running b b 0 (v ∷ extra ++ c.base) c.blocks now)) (extra ++ c.base) c.blocks now last n ts (λ v has. has) (λ i k q. refl) run
      (λ none. subst (λ (us : List Own). EvaluatesAll (scene_of ex) line env h es event us V (λ vs i mid. Finishes (scene_of ex) line way vs h i mid V)) (sym none)
      (cut_exprs es (scene_of ex) line env h event V _ (passes.stopped event) (λ vs. cut_finish (scene_of ex) line way vs h event V (passes.stopped event))))
      (λ g k q m from is_next less has more.
      runs V passes (on scope) (λ vs i mid. Finishes (scene_of ex) line way vs h i mid V) begins begins asks m (g ∷ extra) event ts all (omega (arith, less, most)) (omega (arith, low, before))
      (omega (arith, stands_bound (parts_of ex) stands, high)) more
      (λ vs i. cut_finish (scene_of ex) line way vs h i V (passes.stopped i))
      (λ vs l j i us long few done. driven_run V passes (over (operands es) (on scope)) asks to extra n most (omega (arith, low, before, order)) high stops later way fn is g has vs
      (subst (λ (count : ℕ). Stands (parts_of ex) (over (operands es) (on scope)) line asks CallFunctionPositional count to) (sym long) stands) l j i us
      (counted scope.kind way es (length vs) long fits) (omega (arith, few, less)) done))
  operation_run es runs Calls_it Called is V passes scope at to extra last n event ts most low high fits begins asks is_at all stands run stops later =
      let order : begins ≤ asks = exprs_bound (parts_of ex) es scope line begins asks all in
      runs V passes scope (λ vs i mid. Finishes (scene_of ex) line Calls_it vs h i mid V) begins last asks n extra event ts all most (omega (arith, low, is_at))
      (omega (arith, stands_bound (parts_of ex) stands, high)) (subst (λ (b : ℕ). From ex n b last (extra ++ c.base) c.blocks now ts) (sym is_at) run)
      (λ vs i. cut_finish (scene_of ex) line Calls_it vs h i V (passes.stopped i))
      (λ vs l m i us long few done. calls_run es V passes scope asks to extra n most (omega (arith, low, is_at, order)) high stands stops later vs l m i us long fits few done)
  operation_run es runs Yields_it Yielded is V passes scope at to extra last n event ts most low high fits begins asks is_at all stands run stops later =
      let order : begins ≤ asks = exprs_bound (parts_of ex) es scope line begins asks all in
      runs V passes scope (λ vs i mid. Finishes (scene_of ex) line Yields_it vs h i mid V) begins last asks n extra event ts all most (omega (arith, low, is_at))
      (omega (arith, stands_bound (parts_of ex) stands, high)) (subst (λ (b : ℕ). From ex n b last (extra ++ c.base) c.blocks now ts) (sym is_at) run)
      (λ vs i. cut_finish (scene_of ex) line Yields_it vs h i V (passes.stopped i))
      (λ vs l m i us long few done. yielded_run es V passes scope asks to extra n most (omega (arith, low, is_at, order)) high stands stops later vs l m i us long fits few done)
  operation_run es runs way coding is V passes scope at to extra last n event ts most low high fits begins asks callee all stands run stops later = absurd is

  mutual
    -- an expression pushes its value, or raises, whatever lies below
    pub expr_run : (e : Expr) (V : AfterValue) → PassesOn ex c env V → (scope : Scope) (at to : ℕ) (extra : List Obj) (last n event : ℕ) (ts : List Own)
        → n ≤ c.limit → c.low ≤ at → to ≤ c.high → LaidExpr (parts_of ex) scope line e at to → From ex n at last (extra ++ c.base) c.blocks now ts
        → ((v : Obj) (i : ℕ) → V (Given v) i [])
        → ((v : Obj) (m i : ℕ) (us : List Own) → m < n → From ex m to to (v ∷ extra ++ c.base) c.blocks now us → V (Given v) i us)
        → Evaluates (scene_of ex) line env h e event ts V
    expr_run (Leaf a) V passes scope at to extra last n event ts most low high laid run stops later =
        atom_run ex c now same V passes scope line at to extra last n event ts most low high run stops later a laid
    expr_run (Operate o es) V passes scope at to extra last n event ts most low high (begins, asks, fits, callee, all, stands) run stops later =
        operation_run es (exprs_run es) (way_of o) (coding_of o) (makes o) V passes scope at to extra last n event ts most low high fits begins asks callee all stands run stops later

    exprs_run : (es : Exprs) → RunsAll es
    exprs_run no_operands V passes scope next at last to n extra event ts is_at most low high run stops later =
        later [] last n event ts refl (le_refl n) (subst (λ (p : ℕ). From ex n p last (extra ++ c.base) c.blocks now ts) (sym is_at) run)
    exprs_run (operand e es) V passes scope next at last to n extra event ts (mid, one, rest) most low high run stops later =
        let before : at < mid = expr_bound (parts_of ex) e scope line at mid one in
        let after : mid ≤ to = exprs_bound (parts_of ex) es (on scope) line mid to rest in
        expr_run e (With V (λ v i us. EvaluatesAll (scene_of ex) line env h es i us V (λ vs. next (v ∷ vs))))
        (with_passes ex c env V _ passes) scope at mid extra last n event ts most low (omega (arith, after, high)) one run
        (λ v i. cut_exprs es (scene_of ex) line env h i V (λ vs. next (v ∷ vs)) (passes.stopped i) (λ vs. stops (v ∷ vs) i))
        (λ v m i us less more.
        exprs_run es V passes (on scope) (λ vs. next (v ∷ vs)) mid mid to m (v ∷ extra) i us rest (omega (arith, less, most)) (omega (arith, low, before)) high more
        (λ vs j. stops (v ∷ vs) j)
        (λ vs l j g left long few done. later (v ∷ vs) l j g left (ap suc long) (omega (arith, few, less))
        (subst (λ (st : List Obj). From ex j to l st c.blocks now left) (reverse-onto v vs (extra ++ c.base)) done)))

module _ (ex : Execution) {around : Around} (c : Context ex around) (now : Now) (same : length now.locals ≡ length ex.vars) where
  abbrev env2 : Env
  env2 = env_of ex.vars now.locals

  abbrev h2 : Handled
  h2 = handled_in None c.blocks

  -- an expression is evaluated and tested
  pub chooses_run : {op : Instruction} (stays : Bool → Bool) → TestsBy ex op stays → (next : Bool → ℕ → List Own → Type 0) (inside label n : ℕ) → n ≤ c.limit → inside ≤ label → inside ≤ c.high → ((b : Bool) (i : ℕ) → next b i [])
      → ((last m i : ℕ) (us : List Own) → m < n → From ex m inside last c.base c.blocks now us → next true i us)
      → ((last m i : ℕ) (us : List Own) → m < n → From ex m label last c.base c.blocks now us → next false i us)
      → (scope : Scope) (line : ℕ) (a : Expr) (at last asks event : ℕ) (ts : List Own) → c.low ≤ at → LaidExpr (parts_of ex) scope line a at asks
      → Stands (parts_of ex) (on scope) line asks op label inside
      → From ex n at last c.base c.blocks now ts → Chooses (scene_of ex) line env2 h2 a event ts c.K (λ b. next (stays b))
  chooses_run stays tests next inside label n most forward high stops is_true is_false scope line a at last asks event ts low laid stands run =
      let before : at < asks = expr_bound (parts_of ex) a scope line at asks laid in
      let after : asks < inside = stands_bound (parts_of ex) stands in
      expr_run ex c now same line a (Use env2 c.K (λ v i mid. Tests (scene_of ex) line env2 h2 v i mid c.K (λ b. next (stays b)))) (use_passes ex c env2 _) scope at asks [] last n event ts most low (omega (arith, after, high)) laid run
      (λ v i. inl (refl, c.lands.pauses env2 Cut i tt))
      (λ v m i us less more. tests_run ex c now same next inside label [] n most forward high stops is_true is_false stays tests stands v asks m i us (omega (arith, less)) (omega (arith, low, before)) more)
