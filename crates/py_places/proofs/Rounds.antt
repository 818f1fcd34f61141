-- A loop tells a round first, then what its test and its turn do, however many turns there are.
use Rattle.std.proofs.Common.{◌≡◌, ℕ, zero, suc, Bool, true, false, List, ◌∷◌, refl, sym, subst, inl, inr}
use Rattle.py_objects.specs.declared.payload.Payload.{Payload}
use Rattle.py_objects.specs.declared.payload.Payload.TheVariants as payload
use Rattle.py_objects.specs.declared.request.Request.TheVariants as request
use Rattle.py_objects.specs.Objects.{Obj, HasPayload}
use Rattle.py_objects.specs.Own.{Own, Rounds}
use Rattle.py_objects.specs.Telling.{Value, Given, Failed, Stopped, AfterValue}
use Rattle.py_tree.specs.Tree.{Expr, Suite}
use Rattle.py_tree.specs.Binding.{Env}
use Rattle.py_tree.specs.Scene.{Scene}
use Rattle.py_tree.specs.Outcome.{Outcome, Normal, Breaks, Continues, Returns, Raises, Cut, Handled, After, Use, By_truth, On_turn, Requests, Evaluates, Tests, Chooses, Loops, RunsSuite}
use Rattle.py_tree.proofs.Reaching.{GivesOne, requests_give, evaluates_gives, suite_ends}
use Rattle.py_places.specs.Place.{Turns, Turn, Frames}
use Rattle.py_places.specs.Telling.{scene, follows, chosen}

-- what holds behind a truth value
abbrev AfterTruth : Type 1
AfterTruth = Bool → ℕ → List Own → Type 0

-- what is told with K behind it is told with one of several in its stead, where what holds there by K holds by one of them
value_picks : (Told : AfterValue → Type 0) (N : Type 0) (K : AfterValue) (K' : N → AfterValue) → GivesOne Told K
    → ((v : Value) (k : ℕ) (ts : List Own) → K v k ts → (n : N) × K' n v k ts) → (n : N) × Told (K' n)
value_picks Told N K K' g pick = let (n, told) = pick g.value g.event g.left g.here in (n, g.instead (K' n) told)

-- the same behind a choice, whose other ends stay
module _ (sc : Scene) (line : ℕ) (env : Env) (h : Handled) (K : After) (N : Type 0) (any : N) (Next : AfterTruth) (Next' : N → AfterTruth)
    (pick : (b : Bool) (k : ℕ) (ts : List Own) → Next b k ts → (n : N) × Next' n b k ts) where
  abbrev Answer : AfterTruth → AfterValue
  Answer next = Use env K (λ w k ts. (b : Bool) × HasPayload sc.objects w (payload.Bool b) × next b k ts)

  answer_picks : (v : Value) (k : ℕ) (ts : List Own) → Answer Next v k ts → (n : N) × Answer (Next' n) v k ts
  answer_picks (Given w) k ts (b, has, told) = let (n, told1) = pick b k ts told in (n, (b, has, told1))
  answer_picks (Failed e) k ts told = (any, told)
  answer_picks Stopped k ts told = (any, told)

  abbrev Test : AfterTruth → AfterValue
  Test next = Use env K (λ v k ts. Tests sc line env h v k ts K next)

  test_picks : (v : Value) (k : ℕ) (ts : List Own) → Test Next v k ts → (n : N) × Test (Next' n) v k ts
  test_picks (Given v) k ts told =
      value_picks (λ K1. Requests sc line (request.Truth v) h k ts K1) N (Answer Next) (λ n. Answer (Next' n))
      (requests_give sc line (request.Truth v) h k ts (Answer Next) told) answer_picks
  test_picks (Failed e) k ts told = (any, told)
  test_picks Stopped k ts told = (any, told)

  chooses_picks : (e : Expr) (k : ℕ) (ts : List Own) → Chooses sc line env h e k ts K Next → (n : N) × Chooses sc line env h e k ts K (Next' n)
  chooses_picks e k ts told =
      value_picks (λ K1. Evaluates sc line env h e k ts K1) N (Test Next) (λ n. Test (Next' n))
      (evaluates_gives sc e line env h k ts (Test Next) told) test_picks

-- so behind the turn of a loop, whose other ends stay
turn_picks : (K : After) (N : Type 0) (any : N) (again : Env → ℕ → List Own → Type 0) (again' : N → Env → ℕ → List Own → Type 0)
    → ((env : Env) (k : ℕ) (ts : List Own) → again env k ts → (n : N) × again' n env k ts)
    → (env : Env) (o : Outcome) (k : ℕ) (ts : List Own) → On_turn K again env o k ts → (n : N) × On_turn K (again' n) env o k ts
turn_picks K N any again again' pick env Normal k ts told = pick env k ts told
turn_picks K N any again again' pick env Breaks k ts told = (any, told)
turn_picks K N any again again' pick env Continues k ts told = pick env k ts told
turn_picks K N any again again' pick env (Returns v) k ts told = (any, told)
turn_picks K N any again again' pick env (Raises e) k ts told = (any, told)
turn_picks K N any again again' pick env Cut k ts told = (any, told)

module _ (objects : List Payload) (globals : Obj) (line : ℕ) (e : Expr) (s : Suite) (h : Handled) (fs : Frames) where
  abbrev Whole : After
  Whole = follows objects globals fs

  -- a loop of at most this many turns
  abbrev LoopsIn : ℕ → Env → ℕ → List Own → Type 0
  LoopsIn n env k ts = Loops (scene objects globals) line e (RunsSuite (scene objects globals) s) n env h k ts Whole

  -- behind its test, where a turn of it can be begun that has at most this many behind
  abbrev BehindTest : ℕ → Env → AfterTruth
  BehindTest n env b k ts =
      By_truth b (RunsSuite (scene objects globals) s env h k ts (On_turn Whole (λ env1 j us. LoopsIn n env1 j us))) (Whole env Normal k ts)

  abbrev Chosen : Env → AfterTruth
  Chosen env b k ts = chosen objects globals (Turns line e s) b env h fs k ts

  -- a round of a loop, and its test
  abbrev RoundOf : Env → ℕ → Own → List Own → Type 0
  RoundOf env k d ts = (at : ℕ) × (d ≡ Rounds at) × Chooses (scene objects globals) line env h e k ts Whole (Chosen env)

  behind_in : (env : Env) (b : Bool) (k : ℕ) (ts : List Own) → Chosen env b k ts → (n : ℕ) × BehindTest n env b k ts
  behind_in env true k ts told =
      let p = suite_ends (scene objects globals) s env h k ts (follows objects globals (Turn h line e s ∷ fs)) told in
      let (n, there) = turn_picks Whole ℕ 0 (λ env1 j us. (n : ℕ) × LoopsIn n env1 j us) (λ n env1 j us. LoopsIn n env1 j us)
      (λ env1 j us again. again) p.env p.outcome p.event p.left p.here in
      (n, p.instead (On_turn Whole (λ env1 j us. LoopsIn n env1 j us)) there)
  behind_in env false k ts told = (0, told)

  behind_out : (n : ℕ) (env : Env) (b : Bool) (k : ℕ) (ts : List Own) → BehindTest n env b k ts → (i : Unit {0}) × Chosen env b k ts
  behind_out n env true k ts told =
      let p = suite_ends (scene objects globals) s env h k ts (On_turn Whole (λ env1 j us. LoopsIn n env1 j us)) told in
      let (i, there) = turn_picks Whole (Unit {0}) tt (λ env1 j us. LoopsIn n env1 j us) (λ i env1 j us. (n : ℕ) × LoopsIn n env1 j us)
      (λ env1 j us again. (tt, (n, again))) p.env p.outcome p.event p.left p.here in
      (tt, p.instead (follows objects globals (Turn h line e s ∷ fs)) there)
  behind_out n env false k ts told = (tt, told)

  never_out : (env : Env) (b : Bool) (k : ℕ) (ts : List Own) → By_truth b ⊥ (Whole env Normal k ts) → (i : Unit {0}) × Chosen env b k ts
  never_out env true k ts told = absurd told
  never_out env false k ts told = (tt, told)

  pub turns_out : (n : ℕ) (env : Env) (k : ℕ) (d : Own) (ts : List Own) → LoopsIn n env k (d ∷ ts) → RoundOf env k d ts
  turns_out zero env k d ts (inl (none, cut)) = absurd (cc none)
  turns_out zero env k d ts (inr (at, mid, is, told)) =
      let same : mid ≡ ts = cc (sym is) in
      let (i, there) = chooses_picks (scene objects globals) line env h Whole (Unit {0}) tt (λ b j us. By_truth b ⊥ (Whole env Normal j us))
      (λ i. Chosen env) (never_out env) e k mid told in
      (at, cc is, subst (λ us. Chooses (scene objects globals) line env h e k us Whole (Chosen env)) same there)
  turns_out (suc n) env k d ts (inl (none, cut)) = absurd (cc none)
  turns_out (suc n) env k d ts (inr (at, mid, is, told)) =
      let same : mid ≡ ts = cc (sym is) in
      let (i, there) = chooses_picks (scene objects globals) line env h Whole (Unit {0}) tt (BehindTest n env) (λ i. Chosen env)
      (behind_out n env) e k mid told in
      (at, cc is, subst (λ us. Chooses (scene objects globals) line env h e k us Whole (Chosen env)) same there)

  pub turns_in : (env : Env) (k at : ℕ) (ts : List Own) → Chooses (scene objects globals) line env h e k ts Whole (Chosen env)
      → (n : ℕ) × LoopsIn n env k (Rounds at ∷ ts)
  turns_in env k at ts told =
      let (n, there) = chooses_picks (scene objects globals) line env h Whole ℕ 0 (Chosen env) (λ n. BehindTest n env) (behind_in env) e k ts told in
      (suc n, inr (at, ts, refl, there))
