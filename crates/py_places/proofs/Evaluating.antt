-- An expression is evaluated: its operands from the left, then what its operator does with their values.
use Rattle.std.proofs.Common.{◌≡◌, ◌<◌, ℕ, List, [], ◌∷◌, ◌++◌, Option, Some, None, refl, sym, subst, inl, inr, ap, ◌∙◌, append-nil, append_assoc}
use Rattle.std.specs.Prelude.{slice_get}
use Rattle.std.proofs.Math.Path.{fun_ext}
use Rattle.py_code.specs.declared.literal.BuiltinFn.{BuiltinFn}
use Rattle.py_code.specs.declared.literal.BuiltinFn.TheVariants as builtin
use Rattle.py_objects.specs.declared.payload.Payload.{Payload}
use Rattle.py_objects.specs.declared.request.Request.{Request}
use Rattle.py_objects.specs.Callees.{own_request, or_call, builtin_of, call_request}
use Rattle.py_objects.specs.Objects.{Obj, HasPayload}
use Rattle.py_objects.specs.Own.{Own}
use Rattle.py_objects.specs.Telling.{Value, Given, Failed, Stopped, AfterValue}
use Rattle.py_tree.specs.declared.expr.Operator.{Operator}
use Rattle.py_tree.specs.declared.expr.Operator.TheVariants as operator
use Rattle.py_tree.specs.Operators.{Way, Asks_one, Asks_two, Calls_it, Yields_it, way_of}
use Rattle.py_tree.specs.Tree.{Expr, Leaf, Operate, Exprs, no_operands, operand}
use Rattle.py_tree.specs.Binding.{Env}
use Rattle.py_tree.specs.Outcome.{After, Handled, With, Use, Requests as RequestsOf, Calls, Finishes, Evaluates, EvaluatesAll}
use Rattle.py_places.specs.Cells.{Cell, Like, Is, Cells, cell_at, entry_by, entry_of}
use Rattle.py_places.specs.Place.{Then, Operand, Frames, Requests, Asking, Yielding, Stuck, place}
use Rattle.py_places.specs.Silent.{Goes, calling, finish, evaluate, operands}
use Rattle.py_places.specs.Standing.{Standing, first_unused, MayBe, IsChoice, for_handled, for_all, for_env, for_request, for_then, for_frames}
use Rattle.py_places.specs.Telling.{scene, follows, next}
use Rattle.py_places.proofs.Fits.{Scoped, EnvScoped, HandledScoped, ThenScoped, FramesScoped, ObjScoped, IsAskable, TellsBy, Fits, FitsIf, GoesTo}
use Rattle.py_places.proofs.Scopes.{AllScoped, longer, one_more_for, one_more_scoped, head_scoped, tail_scoped, operand_scoped, yielding_scoped}
use Rattle.py_places.proofs.Literals.{scoped_below}
use Rattle.py_places.proofs.Combining.{all_cut, UseNext, here, told_by, told_same, stuck}
use Rattle.py_places.proofs.Loading.{asking_fits, load_fits}

-- ---- the requests of operators and of calls

-- what an operator asks is a request that bodies make, of what its operands stand for
abbrev pub IsWay : Way → Type 0
IsWay (Asks_one r) = (v : Obj) → IsAskable (r v) × ((σ : Standing) → for_request σ (r v) ≡ r (σ v))
IsWay (Asks_two r) = (v w : Obj) → IsAskable (r v w) × ((σ : Standing) → for_request σ (r v w) ≡ r (σ v) (σ w))
IsWay Calls_it = Unit {0}
IsWay Yields_it = Unit {0}

pub is_way : (o : Operator) → IsWay (way_of o)
is_way operator.Add = λ v w. (tt, λ σ. refl)
is_way operator.Sub = λ v w. (tt, λ σ. refl)
is_way operator.Lt = λ v w. (tt, λ σ. refl)
is_way operator.Eq = λ v w. (tt, λ σ. refl)
is_way operator.Send = λ v w. (tt, λ σ. refl)
is_way operator.Throw = λ v w. (tt, λ σ. refl)
is_way operator.Close = λ v. (tt, λ σ. refl)
is_way operator.Yield = tt
is_way operator.Call = tt

own_for : (σ : Standing) (b : Option BuiltinFn) (f : Obj) (vs : List Obj)
    → for_request σ (or_call f vs (own_request b vs)) ≡ or_call (σ f) (for_all σ vs) (own_request b (for_all σ vs))
own_for σ None f vs = refl
own_for σ (Some builtin.Send) f (g ∷ v ∷ []) = refl
own_for σ (Some builtin.Throw) f (g ∷ c ∷ []) = refl
own_for σ (Some builtin.Throw) f (g ∷ c ∷ v ∷ []) = refl
own_for σ (Some builtin.Close) f (g ∷ []) = refl
own_for σ (Some _) f vs = refl

-- a call asks of what its operands stand for what it asks of them
pub call_for : (σ : Standing) (p : Payload) (f : Obj) (vs : List Obj) → for_request σ (call_request p f vs) ≡ call_request p (σ f) (for_all σ vs)
call_for σ p f vs = own_for σ (builtin_of p) f vs

own_asks : (b : Option BuiltinFn) (f : Obj) (vs : List Obj) → IsAskable (or_call f vs (own_request b vs))
own_asks None f vs = tt
own_asks (Some builtin.Send) f (g ∷ v ∷ []) = tt
own_asks (Some builtin.Throw) f (g ∷ c ∷ []) = tt
own_asks (Some builtin.Throw) f (g ∷ c ∷ v ∷ []) = tt
own_asks (Some builtin.Close) f (g ∷ []) = tt
own_asks (Some _) f vs = tt

pub call_asks : (p : Payload) (f : Obj) (vs : List Obj) → IsAskable (call_request p f vs)
call_asks p f vs = own_asks (builtin_of p) f vs

module _ (objects : List Payload) (globals : Obj) where
  -- what a number stands for has the payload of its entry
  pub entry_stands : (cells : Cells) (v : Obj) (σ : Standing) → v.number < first_unused objects cells → IsChoice objects cells σ
      → entry_of objects cells v ≡ slice_get objects (σ v).number
  entry_stands cells v σ below choice = by (cell_at objects cells v) (choice v below)
    where
      by : (c : Option Cell) → MayBe objects c v (σ v) → entry_by objects c v ≡ slice_get objects (σ v).number
      by None is = ap (λ (u : Obj). slice_get objects u.number) (sym is)
      by (Some (Like u)) (p, has_u, has_it, one) = has_u ∙ sym has_it
      by (Some (Is u)) is = ap (λ (w : Obj). slice_get objects w.number) (sym is)

  module _ (env : Env) (h : Handled) (th : Then) (fs : Frames) (cells : Cells)
      (se : EnvScoped (first_unused objects cells) env) (sh : HandledScoped (first_unused objects cells) h)
      (st : ThenScoped (first_unused objects cells) th) (sf : FramesScoped (first_unused objects cells) fs) where
    -- what is told of a request, and of a call with these arguments
    abbrev TellsRequest : (Standing → Request) → TellsBy
    TellsRequest r σ k ts = RequestsOf (scene objects globals) 0 (r σ) (for_handled σ h) k ts (UseNext objects globals th env h fs σ)

    abbrev TellsCall : Obj → List Obj → TellsBy
    TellsCall f vs σ k ts = Calls (scene objects globals) 0 (σ f) (for_all σ vs) (for_handled σ h) k ts (UseNext objects globals th env h fs σ)

    -- a call where these have these objects
    abbrev call_by : Payload → Obj → List Obj → Standing → Request
    call_by p f vs σ = call_request p (σ f) (for_all σ vs)

    -- nothing is done with values that aren't as many as an operator takes
    cut_fits : Fits objects globals cells (place cells Stuck) (λ σ k ts. (ts ≡ []) × UseNext objects globals th env h fs σ Stopped k [])
    cut_fits =
        stuck objects globals cells (λ σ k ts. (ts ≡ []) × UseNext objects globals th env h fs σ Stopped k [])
        (λ σ choice k. (refl, all_cut objects globals (for_frames σ fs) (for_env σ env) k)) (λ σ choice k e ts told. absurd (cc told.0))

    -- a request, which is this where numbers stand for objects
    request_fits : (r : Request) (to : Standing → Request) → IsAskable r → ((σ : Standing) → for_request σ r ≡ to σ)
        → Scoped (first_unused objects cells) to → Fits objects globals cells (place cells (Asking env h (Requests r) th fs)) (TellsRequest to)
    request_fits r to asks is sr =
        told_same objects globals cells (Some (place cells (Asking env h (Requests r) th fs))) (TellsRequest (λ σ. for_request σ r)) (TellsRequest to)
        (λ σ. ap (λ q. TellsRequest (λ σ'. q) σ) (is σ))
        (asking_fits objects globals (Requests r) env h th fs cells asks se sh (λ σ σ' same. ap Requests (is σ ∙ (sr σ σ' same ∙ sym (is σ')))) st sf)

    -- a call of what has this entry, if it has one
    calling_fits : (f : Obj) (vs : List Obj) → ObjScoped (first_unused objects cells) f → AllScoped (first_unused objects cells) vs
        → (found : Option Payload) → entry_of objects cells f ≡ found
        → FitsIf objects globals cells (calling objects found f vs env h th fs cells) (TellsCall f vs)
    calling_fits f vs sv svs None is =
        stuck objects globals cells (TellsCall f vs) (λ σ choice k. inl (refl, all_cut objects globals (for_frames σ fs) (for_env σ env) k)) never
      where
        never : (σ : Standing) → IsChoice objects cells σ → (k : ℕ) (e : Own) (ts : List Own) → TellsCall f vs σ k (e ∷ ts) → ⊥
        never σ choice k e ts (inl (none, told)) = absurd (cc none)
        never σ choice k e ts (inr (p, has, told)) = absurd (cc (sym is ∙ (entry_stands cells f σ (scoped_below _ f sv) choice ∙ has)))
    calling_fits f vs sv svs (Some p) is =
        told_by objects globals cells (place cells (Asking env h (Requests (call_request p f vs)) th fs)) (TellsRequest (call_by p f vs)) (TellsCall f vs)
        (λ σ choice k ts told. inr (p, has_it σ choice, told)) back
        (request_fits (call_request p f vs) (call_by p f vs) (call_asks p f vs) (λ σ. call_for σ p f vs)
        (λ σ σ' same. ap (λ g. call_request p g (for_all σ vs)) (sv σ σ' same) ∙ ap (call_request p (σ' f)) (svs σ σ' same)))
      where
        has_it : (σ : Standing) → IsChoice objects cells σ → HasPayload objects (σ f) p
        has_it σ choice = sym (entry_stands cells f σ (scoped_below _ f sv) choice) ∙ is

        back : (σ : Standing) → IsChoice objects cells σ → (k : ℕ) (e : Own) (ts : List Own) → TellsCall f vs σ k (e ∷ ts)
            → TellsRequest (call_by p f vs) σ k (e ∷ ts)
        back σ choice k e ts (inl (none, told)) = absurd (cc none)
        back σ choice k e ts (inr (q, has, told)) =
            let same : q ≡ p = cc (has, has_it σ choice) in
            subst (λ r. TellsRequest (call_by r f vs) σ k (e ∷ ts)) same told

    -- what an operator does with the values of its operands
    finish_fits : (way : Way) (vs : List Obj) → IsWay way → AllScoped (first_unused objects cells) vs
        → FitsIf objects globals cells (finish objects way vs env h th fs cells)
        (λ σ k ts. Finishes (scene objects globals) 0 way (for_all σ vs) (for_handled σ h) k ts (UseNext objects globals th env h fs σ))
    finish_fits (Asks_one r) (v ∷ []) way svs =
        let sv = head_scoped _ v [] svs in
        request_fits (r v) (λ σ. r (σ v)) (way v).0 (way v).1 (λ σ σ' same. ap r (sv σ σ' same))
    finish_fits (Asks_two r) (v ∷ w ∷ []) way svs =
        let sv = head_scoped _ v (w ∷ []) svs in
        let sw = head_scoped _ w [] (tail_scoped _ v (w ∷ []) svs) in
        request_fits (r v w) (λ σ. r (σ v) (σ w)) (way v w).0 (way v w).1
        (λ σ σ' same. ap (λ u. r u (σ w)) (sv σ σ' same) ∙ ap (r (σ' v)) (sw σ σ' same))
    finish_fits Calls_it (f ∷ vs) way svs = calling_fits f vs (head_scoped _ f vs svs) (tail_scoped _ f vs svs) (entry_of objects cells f) refl
    finish_fits Yields_it (v ∷ []) way svs =
        here objects globals cells (Yielding env h v th fs) (yielding_scoped _ env h th fs se sh st sf v (head_scoped _ v [] svs)) tt
    finish_fits _ vs way svs = cut_fits

  -- ---- operands

  -- what follows an operand takes its value, and else is as before
  with_use : (env : Env) (K : After) (next1 next2 : Obj → ℕ → List Own → Type 0) → Use env K next2 ≡ With (Use env K next1) next2
  with_use env K next1 next2 = fun_ext by
    where
      by : (v : Value) → Use env K next2 v ≡ With (Use env K next1) next2 v
      by (Given v) = refl
      by (Failed e) = refl
      by Stopped = refl

  -- what is told of an expression, of operands behind whose values this is told, and of the values of all operands
  abbrev pub TellsValue : ℕ → Expr → Env → Handled → Then → Frames → TellsBy
  TellsValue line e env h th fs σ k ts =
      Evaluates (scene objects globals) line (for_env σ env) (for_handled σ h) e k ts (UseNext objects globals th env h fs σ)

  abbrev pub TellsAll : ℕ → Exprs → Env → Handled → Then → Frames → Standing → (List Obj → ℕ → List Own → Type 0) → ℕ → List Own → Type 0
  TellsAll line es env h th fs σ N k ts =
      EvaluatesAll (scene objects globals) line (for_env σ env) (for_handled σ h) es k ts (UseNext objects globals th env h fs σ) N

  abbrev pub TellsFinish : ℕ → Operator → Env → Handled → Then → Frames → Standing → List Obj → ℕ → List Own → Type 0
  TellsFinish line o env h th fs σ vs k ts =
      Finishes (scene objects globals) line (way_of o) vs (for_handled σ h) k ts (UseNext objects globals th env h fs σ)

  -- what is told of operands behind these, which have their values
  abbrev pub TellsOperands : ℕ → Operator → List Obj → Exprs → Env → Handled → Then → Frames → TellsBy
  TellsOperands line o front es env h th fs σ =
      TellsAll line es env h th fs σ (λ vs. TellsFinish line o env h th fs σ (for_all σ front ++ vs))

  -- an operand more has its value
  pub one_more : (line : ℕ) (o : Operator) (front : List Obj) (v : Obj) (es : Exprs) (env : Env) (h : Handled) (th : Then) (fs : Frames) (σ : Standing)
      → TellsOperands line o (front ++ v ∷ []) es env h th fs σ ≡ UseNext objects globals (Operand line o front es th) env h fs σ (Given (σ v))
  one_more line o front v es env h th fs σ =
      ap (TellsAll line es env h th fs σ) (fun_ext (λ ws. ap (TellsFinish line o env h th fs σ) (values ws)))
    where
      values : (ws : List Obj) → for_all σ (front ++ v ∷ []) ++ ws ≡ for_all σ front ++ σ v ∷ ws
      values ws = ap (λ vs. vs ++ ws) (one_more_for σ front v) ∙ append_assoc (for_all σ front) (σ v ∷ []) ws

  -- operands are told as the first of them, which becomes one of these
  first_operand : (line : ℕ) (o : Operator) (front : List Obj) (e : Expr) (es : Exprs) (env : Env) (h : Handled) (th : Then) (fs : Frames) (σ : Standing)
      → TellsValue line e env h (Operand line o front es th) fs σ ≡ TellsOperands line o front (operand e es) env h th fs σ
  first_operand line o front e es env h th fs σ =
      ap TellsBefore (with_use (for_env σ env) (follows objects globals (for_frames σ fs))
      (next objects globals (for_then σ th) (for_env σ env) (for_handled σ h) (for_frames σ fs))
      (next objects globals (for_then σ (Operand line o front es th)) (for_env σ env) (for_handled σ h) (for_frames σ fs)))
    where
      TellsBefore : AfterValue → ℕ → List Own → Type 0
      TellsBefore K k ts = Evaluates (scene objects globals) line (for_env σ env) (for_handled σ h) e k ts K

  mutual
    pub evaluate_fits : (e : Expr) (line : ℕ) (env : Env) (h : Handled) (th : Then) (fs : Frames) (cells : Cells) (go : Goes)
        → EnvScoped (first_unused objects cells) env → HandledScoped (first_unused objects cells) h
        → ThenScoped (first_unused objects cells) th → FramesScoped (first_unused objects cells) fs → GoesTo objects globals th env h fs go cells
        → FitsIf objects globals cells (evaluate objects line e env h th fs cells go) (TellsValue line e env h th fs)
    evaluate_fits (Leaf a) line env h th fs cells go se sh st sf goes = load_fits objects globals a line env h th fs cells go se sh st sf goes
    evaluate_fits (Operate o es) line env h th fs cells go se sh st sf goes =
        operands_fits es line o [] env h th fs cells (λ σ σ' same. refl) se sh st sf

    pub operands_fits : (es : Exprs) (line : ℕ) (o : Operator) (front : List Obj) (env : Env) (h : Handled) (th : Then) (fs : Frames) (cells : Cells)
        → AllScoped (first_unused objects cells) front → EnvScoped (first_unused objects cells) env → HandledScoped (first_unused objects cells) h
        → ThenScoped (first_unused objects cells) th → FramesScoped (first_unused objects cells) fs
        → FitsIf objects globals cells (operands objects line o front es env h th fs cells) (TellsOperands line o front es env h th fs)
    operands_fits no_operands line o front env h th fs cells sv se sh st sf =
        told_same objects globals cells (finish objects (way_of o) front env h th fs cells) (λ σ. TellsFinish 0 o env h th fs σ (for_all σ front))
        (TellsOperands line o front no_operands env h th fs) (λ σ. ap (TellsFinish 0 o env h th fs σ) (sym (append-nil (for_all σ front))))
        (finish_fits env h th fs cells se sh st sf (way_of o) front (is_way o) sv)
    operands_fits (operand e es) line o front env h th fs cells sv se sh st sf =
        told_same objects globals cells (operands objects line o front (operand e es) env h th fs cells)
        (TellsValue line e env h (Operand line o front es th) fs) (TellsOperands line o front (operand e es) env h th fs)
        (first_operand line o front e es env h th fs)
        (evaluate_fits e line env h (Operand line o front es th) fs cells (λ v cells1. operands objects line o (front ++ v ∷ []) es env h th fs cells1)
        se sh (operand_scoped _ line o front es th sv st) sf
        (λ v cells1 le sv1. told_same objects globals cells1 (operands objects line o (front ++ v ∷ []) es env h th fs cells1)
        (TellsOperands line o (front ++ v ∷ []) es env h th fs) (λ σ. UseNext objects globals (Operand line o front es th) env h fs σ (Given (σ v)))
        (one_more line o front v es env h th fs)
        (operands_fits es line o (front ++ v ∷ []) env h th fs cells1 (one_more_scoped _ front v (longer objects cells cells1 le sv) sv1)
        (longer objects cells cells1 le se) (longer objects cells cells1 le sh) (longer objects cells cells1 le st) (longer objects cells cells1 le sf))))
