-- What an activation tells next, behind the same events, where all that it tells agrees.
use Rattle.std.proofs.Common.{◌≡◌, ◌<◌, ◌+◌, ℕ, zero, suc, inl, inr, List, [], ◌∷◌, ◌++◌, Bool, true, false, eqb, length, length-append, Some, None, refl, sym, ap, subst, arith}
use Rattle.std.specs.Prelude.{Option, slice_get, drop, if◌then◌else◌}
use Rattle.std.proofs.lemmas.Option.{same_Some}
use Rattle.py_objects.specs.declared.payload.Payload.{Payload}
use Rattle.py_objects.specs.declared.refs.PyBaseExceptionRef.{PyBaseExceptionRef}
use Rattle.py_objects.specs.declared.request.Request.{Request}
use Rattle.py_objects.specs.declared.request.Request.TheVariants as request
use Rattle.py_objects.specs.declared.event.Event.{Event}
use Rattle.py_objects.specs.declared.event.Event.TheVariants as event
use Rattle.py_objects.specs.Objects.{Obj}
use Rattle.py_objects.specs.Own.{Own, Makes, Resumes, Asks, Gets, Rounds, Yields, Ends, whose, own_of, own_if, told_by, own_from}
use Rattle.py_objects.proofs.GrowthLemmas.{slice_get_grown}
use Rattle.py_run.specs.Run.{Plan, Phase, Idle, Asking, Going, Made, Due, Act, Activation, State, after, state_after, top_asks, IsTop, question}
use Rattle.py_run.specs.Generators.{Generator, generator_at, answered, value_of, returned_by}
use Rattle.py_run.specs.Coming.{Past, nothing, past_after, MayCome, Comes}
use Rattle.py_run.specs.Past.{past_behind}
use Rattle.py_run.proofs.OwnLemmas.{told_by_own}
use Rattle.py_run.proofs.GeneratorsLemmas.{entries, entries_on, entries_running, entries_closed, entries_settled}
use Rattle.py_run.proofs.CoursesLemmas.{IsEntering, IsResumed, resumed}
use Rattle.py_agreement.specs.Agreement.{Relation, SameHandled, SameRequest, SameEnding, Agree}
use Rattle.py_determined.specs.Events.{SameEvent, SameEvents}
use Rattle.py_determined.proofs.SameStates.{SameActivation, SameActivations}

-- ---- the number of an activation that runs

-- running activations have numbers from 1 on
abbrev pub ArePositive : List Act → Type 0
ArePositive [] = Unit {0}
ArePositive (x ∷ stack) = (0 < x.number) × ArePositive stack

-- so have those of generators
abbrev pub OfPositive : List (Obj × ℕ) → Type 0
OfPositive [] = Unit {0}
OfPositive (x ∷ xs) = (0 < x.1) × OfPositive xs

pub record IsPositive (p : Past) : Type 0 where
  pub stack : ArePositive p.state.stack
  pub generators : OfPositive (entries p.generators)
  pub made : (f : Obj) → p.state.phase ≡ Made f → 0 < length p.state.made

positive_on : (xs : List (Obj × ℕ)) (x : Obj × ℕ) → 0 < x.1 → OfPositive xs → OfPositive (xs ++ x ∷ [])
positive_on [] x here are = (here, tt)
positive_on (y ∷ xs) x here are = (are.0, positive_on xs x here are.1)

positive_found : (g : Obj) (xs : List Generator) (x : Generator) → OfPositive (entries xs) → generator_at xs g ≡ Some x → 0 < x.act
positive_found g [] x are found = absurd (cc found)
positive_found g (y ∷ xs) x are found = pick (eqb y.object.number g.number) found (positive_found g xs x are.1)
  where
    pick : (b : Bool) → (if b then Some y else generator_at xs g) ≡ Some x → (generator_at xs g ≡ Some x → 0 < x.act) → 0 < x.act
    pick true found rest = subst (λ (z : Generator). 0 < z.act) (same_Some y x found) are.0
    pick false found rest = rest found

entering_positive : (b : ℕ) (xs : List Generator) (r : Request) → OfPositive (entries xs) → IsEntering xs b r → 0 < b
entering_positive b xs (request.Send g v) are is = subst (λ n. 0 < n) is.act (positive_found g xs is.generator are is.found)
entering_positive b xs (request.Throw g k v t) are is = subst (λ n. 0 < n) is.act (positive_found g xs is.generator are is.found)
entering_positive b xs (request.Close g) are is = subst (λ n. 0 < n) is.act (positive_found g xs is.generator are is.found)
entering_positive b xs _ are is = absurd is

-- an activation that is entered has a number from 1 on
resumed_positive : (plan : Plan) (p : Past) (b : ℕ) → IsPositive p → IsResumed plan p b → 0 < b
resumed_positive plan p b n (inl (f, made, last)) = subst (λ m. 0 < m) (sym last) (n.made f made)
resumed_positive plan p b n (inr (asks, (r, open_, is))) = entering_positive b p.generators r n.generators is

positive_asks : (stack : List Act) (r : Option Request) (own : Option PyBaseExceptionRef) (at : ℕ) → ArePositive stack → ArePositive (top_asks r own at stack)
positive_asks [] r own at are = are
positive_asks (x ∷ stack) r own at are = are

positive_left : (stack : List Act) → ArePositive stack → ArePositive (drop 1 stack)
positive_left [] are = are
positive_left (x ∷ stack) are = are.1

answered_positive : (q : Option Request) (phase : Phase) (made : ℕ) (v : Option Obj) (xs : List Generator) → ((f : Obj) → phase ≡ Made f → 0 < made) → OfPositive (entries xs)
    → OfPositive (entries (answered q phase made v xs))
answered_positive q Idle made v xs some are = are
answered_positive q Asking made v xs some are = subst OfPositive (sym (entries_closed q xs)) are
answered_positive q Going made v xs some are = are
answered_positive q (Made f) made None xs some are = are
answered_positive q (Made f) made (Some v) xs some are = subst OfPositive (sym (entries_on xs _)) (positive_on (entries xs) (v, made) (some f refl) are)
answered_positive q (Due how) made v xs some are = subst OfPositive (sym (entries_settled q how xs)) are

module _ (plan : Plan) (objects : List Payload) where
  positive_after : (p : Past) (e : Event) → MayCome plan objects p e → IsPositive p → IsPositive (past_after plan p e)
  positive_after p (event.Drive d) may n = record { stack = n.stack; generators = n.generators; made = λ f is. absurd (cc is) }
  positive_after p (event.Result d w) may n = record {
    stack = n.stack;
    generators = answered_positive (question plan p.state) p.state.phase (length p.state.made) (returned_by w) p.generators n.made n.generators;
    made = λ f is. absurd (cc is);
  }
  positive_after p (event.Make a f vs) may n = record {
    stack = n.stack;
    generators = n.generators;
    made = λ g is.
        let more : length (p.state.made ++ record { function = f; args = vs } ∷ []) ≡ length p.state.made + 1 = length-append p.state.made (record { function = f; args = vs } ∷ []) in omega (arith, more);
  }
  positive_after p (event.Resume a h) may n = record {
    stack = (resumed_positive plan p a n (resumed plan objects p a h may), n.stack);
    generators = subst OfPositive (sym (entries_running a p.generators)) n.generators;
    made = λ f is. absurd (cc is);
  }
  positive_after p (event.Ask a r own at) may n = record { stack = positive_asks p.state.stack (Some r) own at n.stack; generators = n.generators; made = λ f is. absurd (cc is) }
  positive_after p (event.Got a w) may n = record {
    stack = positive_asks p.state.stack None None 0 n.stack;
    generators = answered_positive (question plan p.state) p.state.phase (length p.state.made) (value_of w) p.generators n.made n.generators;
    made = λ f is. absurd (cc is);
  }
  positive_after p (event.Round a at) may n = record { stack = n.stack; generators = n.generators; made = n.made }
  positive_after p (event.Yield a v at) may n = record { stack = positive_left p.state.stack n.stack; generators = n.generators; made = λ f is. absurd (cc is) }
  positive_after p (event.End a e at) may n = record { stack = positive_left p.state.stack n.stack; generators = n.generators; made = λ f is. absurd (cc is) }

  positive_from : (p : Past) (es : List Event) → Comes plan objects p es → IsPositive p → IsPositive (past_behind plan p es)
  positive_from p [] comes n = n
  positive_from p (e ∷ es) comes n = positive_from (past_after plan p e) es comes.1 (positive_after p e comes.0 n)

  -- so it is in a run
  pub positive_behind : (es : List Event) → Comes plan objects nothing es → IsPositive (past_behind plan nothing es)
  positive_behind es comes = positive_from nothing es comes (record { stack = tt; generators = tt; made = λ f is. absurd (cc is) })

-- the innermost one has a number from 1 on
pub top_positive : (a : ℕ) (stack : List Act) → ArePositive stack → IsTop a stack → 0 < a
top_positive a [] are top = absurd top
top_positive a (x ∷ stack) are top = subst (λ n. 0 < n) top are.0

-- ---- activations that were made

-- one that was made stays
pub made_stays : (s : State) (es : List Event) (i : ℕ) (x : Activation) → slice_get s.made i ≡ Some x → slice_get (state_after s es).made i ≡ Some x
made_stays s [] i x found = found
made_stays s (event.Make a f vs ∷ es) i x found = made_stays (after s (event.Make a f vs)) es i x (slice_get_grown s.made (record { function = f; args = vs } ∷ []) i x found)
made_stays s (e ∷ es) i x found = made_stays (after s e) es i x found

-- two of one number
pub record AreFound (S : Relation) (xs ys : List Activation) (i : ℕ) : Type 0 where
  pub first : Activation
  pub second : Activation
  pub is_first : slice_get xs i ≡ Some first
  pub is_second : slice_get ys i ≡ Some second
  pub same : SameActivation S first second

-- each number below the count has one on both sides
pub both_found : (S : Relation) (xs ys : List Activation) (i : ℕ) → i < length xs → SameActivations S xs ys → AreFound S xs ys i
both_found S [] ys i within s = absurd (omega (arith, within))
both_found S (x ∷ xs) (y ∷ ys) zero within s = record { first = x; second = y; is_first = refl; is_second = refl; same = s.0 }
both_found S (x ∷ xs) (y ∷ ys) (suc i) within s =
    let rest = both_found S xs ys i (omega (arith, within)) s.1 in record { first = rest.first; second = rest.second; is_first = rest.is_first; is_second = rest.is_second; same = rest.same }
both_found S (x ∷ xs) [] i within s = absurd s

-- ---- what they tell

-- an event that an activation tells, and doesn't hear
abbrev pub IsTelling : Event → Type 0
IsTelling (event.Ask a r own at) = Unit {0}
IsTelling (event.Round a at) = Unit {0}
IsTelling (event.Yield a v at) = Unit {0}
IsTelling (event.End a e at) = Unit {0}
IsTelling _ = ⊥

module _ (S : Relation) where
  -- an event that no activation tells or hears adds nothing
  told_none : (b c : Bool) (ts us : List Own) → Agree S (own_if b [] ++ ts) (own_if c [] ++ us) → Agree S ts us
  told_none true true ts us agree = agree
  told_none true false ts us agree = agree
  told_none false true ts us agree = agree
  told_none false false ts us agree = agree

  -- one that an activation tells or hears adds to both sides, or to neither
  told_one : (b c : Bool) (t u : Own) (ts us : List Own) → b ≡ c → (Agree S (t ∷ ts) (u ∷ us) → Agree S ts us) → Agree S (own_if b (t ∷ []) ++ ts) (own_if c (u ∷ []) ++ us) → Agree S ts us
  told_one true true t u ts us e on agree = on agree
  told_one false false t u ts us e on agree = agree
  told_one true false t u ts us e on agree = absurd (cc e)
  told_one false true t u ts us e on agree = absurd (cc e)

  -- behind the same event the rest agrees
  told_on : (a k : ℕ) (x y : Event) (ts us : List Own) → SameEvent S x y → Agree S (told_by a k x ++ ts) (told_by a k y ++ us) → Agree S ts us
  unfolding told_by
  told_on a k (event.Drive d) (event.Drive d') ts us s agree = told_none (eqb a 0) (eqb a 0) ts us agree
  told_on a k (event.Result d w) (event.Result d' w') ts us s agree = told_none (eqb a 0) (eqb a 0) ts us agree
  told_on a k (event.Make b f vs) (event.Make c g ws) ts us s agree = told_one (eqb a b) (eqb a c) Makes Makes ts us (ap (eqb a) s.0) (λ told. told) agree
  told_on a k (event.Resume b h) (event.Resume c h') ts us s agree = told_one (eqb a b) (eqb a c) (Resumes k h) (Resumes k h') ts us (ap (eqb a) s.0) (λ told. told s.1) agree
  told_on a k (event.Ask b r own at) (event.Ask c r' own' at') ts us s agree =
      told_one (eqb a b) (eqb a c) (Asks at r own) (Asks at' r' own') ts us (ap (eqb a) s.0) (λ told. told.2) agree
  told_on a k (event.Got b w) (event.Got c w') ts us s agree = told_one (eqb a b) (eqb a c) (Gets k w) (Gets k w') ts us (ap (eqb a) s.0) (λ told. told s.1) agree
  told_on a k (event.Round b at) (event.Round c at') ts us s agree = told_one (eqb a b) (eqb a c) (Rounds at) (Rounds at') ts us (ap (eqb a) s) (λ told. told) agree
  told_on a k (event.Yield b v at) (event.Yield c w at') ts us s agree = told_one (eqb a b) (eqb a c) (Yields at v) (Yields at' w) ts us (ap (eqb a) s.0) (λ told. told.1) agree
  told_on a k (event.End b e at) (event.End c f at') ts us s agree = told_one (eqb a b) (eqb a c) (Ends at e) (Ends at' f) ts us (ap (eqb a) s.0) (λ told. told.1) agree
  told_on a k _ _ ts us s agree = absurd s

  -- behind the same events it does
  pub told_behind : (a k : ℕ) (es fs more more' : List Event) → length es ≡ length fs → SameEvents S es fs → Agree S (own_from a k (es ++ more)) (own_from a k (fs ++ more'))
      → (j : ℕ) × Agree S (own_from a j more) (own_from a j more')
  unfolding own_from
  told_behind a k [] [] more more' count s agree = (k, agree)
  told_behind a k (x ∷ es) (y ∷ fs) more more' count s agree =
      told_behind a (suc k) es fs more more' (omega (arith, count)) s.1 (told_on a k x y (own_from a (suc k) (es ++ more)) (own_from a (suc k) (fs ++ more')) s.0 agree)
  told_behind a k [] (y ∷ fs) more more' count s agree = absurd (omega (arith, count))
  told_behind a k (x ∷ es) [] more more' count s agree = absurd (omega (arith, count))

  -- the first of it are events of its own
  pub told_first : (a j : ℕ) (e f : Event) (es fs : List Event) → a ≡ whose e → a ≡ whose f → Agree S (own_from a j (e ∷ es)) (own_from a j (f ∷ fs))
      → Agree S (own_of j e ++ own_from a (suc j) es) (own_of j f ++ own_from a (suc j) fs)
  unfolding own_from
  told_first a j e f es fs own own' agree =
      subst (λ l. Agree S (l ++ own_from a (suc j) es) (own_of j f ++ own_from a (suc j) fs)) (told_by_own a j e own)
      (subst (λ l. Agree S (told_by a j e ++ own_from a (suc j) es) (l ++ own_from a (suc j) fs)) (told_by_own a j f own') agree)

  -- two of them agree
  abbrev pub SameTelling : Event → Event → Type 0
  SameTelling (event.Ask a r own at) (event.Ask b r' own' at') = SameRequest S r r' × SameHandled S own own'
  SameTelling (event.Round a at) (event.Round b at') = Unit {0}
  SameTelling (event.Yield a v at) (event.Yield b w at') = S v w
  SameTelling (event.End a e at) (event.End b f at') = SameEnding S e f
  SameTelling _ _ = ⊥

  -- where all that is told agrees, what is told first does
  pub telling_same : (j : ℕ) (e f : Event) (ts us : List Own) → IsTelling e → IsTelling f → Agree S (own_of j e ++ ts) (own_of j f ++ us) → SameTelling e f
  telling_same j (event.Ask a r own at) (event.Ask b r' own' at') ts us told told' agree = (agree.0, agree.1)
  telling_same j (event.Round a at) (event.Round b at') ts us told told' agree = tt
  telling_same j (event.Yield a v at) (event.Yield b w at') ts us told told' agree = agree.0
  telling_same j (event.End a e at) (event.End b f at') ts us told told' agree = agree.0
  telling_same j (event.Ask a r own at) (event.Round b at') ts us told told' agree = absurd agree
  telling_same j (event.Ask a r own at) (event.Yield b w at') ts us told told' agree = absurd agree
  telling_same j (event.Ask a r own at) (event.End b f at') ts us told told' agree = absurd agree
  telling_same j (event.Round a at) (event.Ask b r' own' at') ts us told told' agree = absurd agree
  telling_same j (event.Round a at) (event.Yield b w at') ts us told told' agree = absurd agree
  telling_same j (event.Round a at) (event.End b f at') ts us told told' agree = absurd agree
  telling_same j (event.Yield a v at) (event.Ask b r' own' at') ts us told told' agree = absurd agree
  telling_same j (event.Yield a v at) (event.Round b at') ts us told told' agree = absurd agree
  telling_same j (event.Yield a v at) (event.End b f at') ts us told told' agree = absurd agree
  telling_same j (event.End a e at) (event.Ask b r' own' at') ts us told told' agree = absurd agree
  telling_same j (event.End a e at) (event.Round b at') ts us told told' agree = absurd agree
  telling_same j (event.End a e at) (event.Yield b w at') ts us told told' agree = absurd agree
  telling_same j (event.Drive d) f ts us told told' agree = absurd told
  telling_same j (event.Result d w) f ts us told told' agree = absurd told
  telling_same j (event.Make a g vs) f ts us told told' agree = absurd told
  telling_same j (event.Resume a h) f ts us told told' agree = absurd told
  telling_same j (event.Got a w) f ts us told told' agree = absurd told
  telling_same j _ _ ts us told told' agree = absurd told'
