-- Activations are numbered in the order in which they are made, and what one told is cut inside only where it still runs.
use Rattle.std.proofs.Common.{◌≡◌, ◌<◌, ◌≤◌, ◌+◌, ◌⊎◌, ℕ, suc, Option, List, [], ◌∷◌, ◌++◌, Bool, true, false, eqb, Some, None, inl, inr, refl, sym, ap, subst, ◌∙◌, length, length-append, arith, nat_lt}
use Rattle.std.specs.Prelude.{drop}
use Rattle.std.specs.List.{Any}
use Rattle.std.proofs.lemmas.Bool.{eqb-false, eqb-true, ltb-false, ltb-true, ne_eqb}
use Rattle.std.proofs.lemmas.Option.{slice_get_within}
use Rattle.py_objects.specs.declared.payload.Payload.{Payload}
use Rattle.py_objects.specs.declared.refs.PyBaseExceptionRef.{PyBaseExceptionRef}
use Rattle.py_objects.specs.declared.request.Request.{Request}
use Rattle.py_objects.specs.declared.request.Request.TheVariants as request
use Rattle.py_objects.specs.declared.event.Event.{Event}
use Rattle.py_objects.specs.declared.event.Event.TheVariants as event
use Rattle.py_objects.specs.Objects.{Obj}
use Rattle.py_objects.specs.Own.{Makes, whose, own_events}
use Rattle.py_run.specs.Run.{Plan, Phase, Idle, Asking, Going, Made, Due, Act, Activation, State, start, after, state_after, top_asks, IsTop, question}
use Rattle.py_run.specs.Generators.{Generator, answered, value_of, returned_by}
use Rattle.py_run.specs.Coming.{Past, nothing, past_after, MayCome, Comes}
use Rattle.py_run.specs.Past.{past_behind}
use Rattle.py_run.specs.Laws.{IsLeftOff, CutWhereItRuns}
use Rattle.py_run.proofs.PastLemmas.{past_events, past_state}
use Rattle.py_run.proofs.OwnLemmas.{own_events-nil, own_events_other, own_events_own}
use Rattle.py_run.proofs.GeneratorsLemmas.{entries, entries_on, entries_running, entries_closed, entries_settled, AreMade, made_more, made_on, made_found}
use Rattle.py_run.proofs.CoursesLemmas.{IsEntering, IsResumed, resumed}

-- ---- numbers

-- running activations were made among so many
abbrev pub AreBelow : ℕ → List Act → Type 0
AreBelow made [] = Unit {0}
AreBelow made (x ∷ stack) = (x.number ≤ made) × AreBelow made stack

-- each activation that runs, and each of a generator, was made
pub record IsNumbered (p : Past) : Type 0 where
  pub stack : AreBelow (length p.state.made) p.state.stack
  pub generators : AreMade (length p.state.made) (entries p.generators)

-- so was one that is entered
entering_made : (made b : ℕ) (xs : List Generator) (r : Request) → AreMade made (entries xs) → IsEntering xs b r → b ≤ made
entering_made made b xs (request.Send g v) are is = let here = made_found made g xs is.generator are is.found in let act = is.act in omega (arith, here, act)
entering_made made b xs (request.Throw g k v t) are is = let here = made_found made g xs is.generator are is.found in let act = is.act in omega (arith, here, act)
entering_made made b xs (request.Close g) are is = let here = made_found made g xs is.generator are is.found in let act = is.act in omega (arith, here, act)
entering_made made b xs _ are is = absurd is

-- so was one that is entered, however it is
pub resumed_made : (plan : Plan) (p : Past) (b : ℕ) → IsNumbered p → IsResumed plan p b → b ≤ length p.state.made
resumed_made plan p b numbered (inl (f, made, last)) = omega (arith, last)
resumed_made plan p b numbered (inr (asks, (r, open_, is))) = entering_made (length p.state.made) b p.generators r numbered.generators is

-- running ones stay below more
below_more : (m n : ℕ) (stack : List Act) → m ≤ n → AreBelow m stack → AreBelow n stack
below_more m n [] more below = tt
below_more m n (x ∷ stack) more below = let here = below.0 in (omega (arith, here, more), below_more m n stack more below.1)

-- whatever the innermost asks
below_asks : (made : ℕ) (stack : List Act) (r : Option Request) (own : Option PyBaseExceptionRef) (at : ℕ) → AreBelow made stack → AreBelow made (top_asks r own at stack)
below_asks made [] r own at below = below
below_asks made (x ∷ stack) r own at below = below

-- and where it is left
below_left : (made : ℕ) (stack : List Act) → AreBelow made stack → AreBelow made (drop 1 stack)
below_left made [] below = below
below_left made (x ∷ stack) below = below.1

-- the innermost one was made
top_made : (made a : ℕ) (stack : List Act) → AreBelow made stack → IsTop a stack → a ≤ made
top_made made a [] below top = absurd top
top_made made a (x ∷ stack) below top = let here = below.0 in omega (arith, here, top)

-- an answer leaves generators of activations that were made
answered_made : (q : Option Request) (phase : Phase) (made : ℕ) (v : Option Obj) (xs : List Generator) → AreMade made (entries xs) → AreMade made (entries (answered q phase made v xs))
answered_made q Idle made v xs are = are
answered_made q Asking made v xs are = subst (AreMade made) (sym (entries_closed q xs)) are
answered_made q Going made v xs are = are
answered_made q (Made f) made None xs are = are
answered_made q (Made f) made (Some v) xs are = subst (AreMade made) (sym (entries_on xs _)) (made_on made (entries xs) (v, made) (omega arith) are)
answered_made q (Due how) made v xs are = subst (AreMade made) (sym (entries_settled q how xs)) are

-- one more is made
one_more : (made : List Activation) (x : Activation) → length (made ++ x ∷ []) ≡ length made + 1
one_more made x = length-append made (x ∷ [])

module _ (plan : Plan) (objects : List Payload) where
  -- behind one more event
  numbered_after : (p : Past) (e : Event) → MayCome plan objects p e → IsNumbered p → IsNumbered (past_after plan p e)
  numbered_after p (event.Drive d) may n = record { stack = n.stack; generators = n.generators }
  numbered_after p (event.Result d w) may n =
      record { stack = n.stack; generators = answered_made (question plan p.state) p.state.phase (length p.state.made) (returned_by w) p.generators n.generators }
  numbered_after p (event.Make a f vs) may n =
      let more = one_more p.state.made (record { function = f; args = vs }) in
      record {
        stack = below_more (length p.state.made) (length (p.state.made ++ record { function = f; args = vs } ∷ [])) p.state.stack (omega (arith, more)) n.stack;
        generators = made_more (length p.state.made) (length (p.state.made ++ record { function = f; args = vs } ∷ [])) (entries p.generators) (omega (arith, more)) n.generators;
      }
  numbered_after p (event.Resume a h) may n = record {
    stack = (resumed_made plan p a n (resumed plan objects p a h may), n.stack);
    generators = subst (AreMade (length p.state.made)) (sym (entries_running a p.generators)) n.generators;
  }
  numbered_after p (event.Ask a r own at) may n = record { stack = below_asks (length p.state.made) p.state.stack (Some r) own at n.stack; generators = n.generators }
  numbered_after p (event.Got a w) may n = record {
    stack = below_asks (length p.state.made) p.state.stack None None 0 n.stack;
    generators = answered_made (question plan p.state) p.state.phase (length p.state.made) (value_of w) p.generators n.generators;
  }
  numbered_after p (event.Round a at) may n = record { stack = n.stack; generators = n.generators }
  numbered_after p (event.Yield a v at) may n = record { stack = below_left (length p.state.made) p.state.stack n.stack; generators = n.generators }
  numbered_after p (event.End a e at) may n = record { stack = below_left (length p.state.made) p.state.stack n.stack; generators = n.generators }

  -- and behind more of them
  numbered_from : (p : Past) (es : List Event) → Comes plan objects p es → IsNumbered p → IsNumbered (past_behind plan p es)
  numbered_from p [] comes n = n
  numbered_from p (e ∷ es) comes n = numbered_from (past_after plan p e) es comes.1 (numbered_after p e comes.0 n)

  -- so it is in a run
  pub numbered_behind : (es : List Event) → Comes plan objects nothing es → IsNumbered (past_behind plan nothing es)
  numbered_behind es comes = numbered_from nothing es comes (record { stack = tt; generators = tt })

-- ---- what activations told

-- an activation runs
abbrev Runs : ℕ → List Act → Type 0
Runs b [] = ⊥
Runs b (x ∷ stack) = (x.number ≡ b) ⊎ Runs b stack

-- whatever the innermost asks
runs_asks : (b : ℕ) (stack : List Act) (r : Option Request) (own : Option PyBaseExceptionRef) (at : ℕ) → Runs b stack → Runs b (top_asks r own at stack)
runs_asks b [] r own at runs = runs
runs_asks b (x ∷ stack) r own at runs = runs

-- and where another one is left
runs_left : (a b : ℕ) (stack : List Act) → IsTop a stack → (b ≡ a → ⊥) → Runs b stack → Runs b (drop 1 stack)
runs_left a b [] top other runs = absurd runs
runs_left a b (x ∷ stack) top other (inl is) = absurd (other (sym is ∙ top))
runs_left a b (x ∷ stack) top other (inr runs) = runs

-- the innermost one does
top_runs : (a b : ℕ) (stack : List Act) → IsTop a stack → b ≡ a → Runs b stack
top_runs a b [] top is = absurd top
top_runs a b (x ∷ stack) top is = inl (top ∙ sym is)

-- it is one of these
any_runs : (b : ℕ) (stack : List Act) → Runs b stack → Any (λ (x : Act). x.number ≡ b) stack
any_runs b [] runs = absurd runs
any_runs b (x ∷ stack) (inl is) = (0, x, omega arith, refl, is)
any_runs b (x ∷ stack) (inr runs) = let (k, y, within, there, is) = any_runs b stack runs in (suc k, y, omega (arith, within), there, is)

-- what an activation told is cut off, or it runs
abbrev IsCutAt : ℕ → Past → Type 0
IsCutAt b p = IsLeftOff (own_events b p.events) ⊎ Runs b p.state.stack

-- that is so of each that was made, and others told nothing
record IsCut (p : Past) : Type 0 where
  untold : (b : ℕ) → length p.state.made < b → own_events b p.events ≡ []
  cut : (i : ℕ) → i < length p.state.made → IsCutAt (suc i) p

-- an activation that told nothing more, and still runs if it ran
cut_other : (b : ℕ) (p q : Past) → own_events b q.events ≡ own_events b p.events → (Runs b p.state.stack → Runs b q.state.stack) → IsCutAt b p → IsCutAt b q
cut_other b p q same still (inl off) = inl (subst IsLeftOff (sym same) off)
cut_other b p q same still (inr runs) = inr (still runs)

-- a place that isn't the last one is before it
below_last : (i n : ℕ) → i < n + 1 → (i ≡ n → ⊥) → i < n
below_last i n within apart = pick (nat_lt i n) refl
  where
    pick : (b : Bool) → nat_lt i n ≡ b → i < n
    pick true is = ltb-true i n is
    pick false is = let high : n ≤ i = ltb-false i n is in absurd (apart (omega (arith, within, high)))

module _ (plan : Plan) where
  -- behind an event of an activation that was made, or of none
  cut_on : (p : Past) (e : Event) → whose e ≤ length p.state.made → (after p.state e).made ≡ p.state.made
      → ((b : ℕ) → (b ≡ whose e → ⊥) → Runs b p.state.stack → Runs b (after p.state e).stack) → ((b : ℕ) → b ≡ whose e → 0 < b → IsCutAt b (past_after plan p e)) → IsCut p
      → IsCut (past_after plan p e)
  cut_on p e low made still own c = record {
    untold = λ b more.
        let here : length p.state.made < b = subst (λ l. length l < b) made more in
        own_events_other b p.events e (ne_eqb b (whose e) (λ is. absurd (omega (arith, low, here, is)))) ∙ c.untold b here;
    cut = λ i within. pick i (subst (λ l. i < length l) made within) (eqb (suc i) (whose e)) refl;
  }
    where
      pick : (i : ℕ) → i < length p.state.made → (b : Bool) → eqb (suc i) (whose e) ≡ b → IsCutAt (suc i) (past_after plan p e)
      pick i within true is = own (suc i) (eqb-true (suc i) (whose e) is) (omega arith)
      pick i within false is = cut_other (suc i) p (past_after plan p e) (own_events_other (suc i) p.events e is) (still (suc i) (eqb-false (suc i) (whose e) is)) (c.cut i within)

  -- behind the making of one
  cut_made : (p : Past) (a : ℕ) (f : Obj) (vs : List Obj) → a ≡ suc (length p.state.made) → IsCut p → IsCut (past_after plan p (event.Make a f vs))
  cut_made p a f vs next c = record {
    untold = λ b more.
        let there : length (p.state.made ++ record { function = f; args = vs } ∷ []) < b = more in
        other b (omega (arith, there, sum, next)) ∙ c.untold b (omega (arith, there, sum));
    cut = λ i within. let there : i < length (p.state.made ++ record { function = f; args = vs } ∷ []) = within in pick i (omega (arith, there, sum)) (eqb (suc i) a) refl;
  }
    where
      sum : length (p.state.made ++ record { function = f; args = vs } ∷ []) ≡ length p.state.made + 1
      sum = one_more p.state.made (record { function = f; args = vs })

      other : (b : ℕ) → a < b → own_events b (p.events ++ event.Make a f vs ∷ []) ≡ own_events b p.events
      other b apart = own_events_other b p.events (event.Make a f vs) (ne_eqb b a (λ is. absurd (omega (arith, apart, is))))

      pick : (i : ℕ) → i < length p.state.made + 1 → (b : Bool) → eqb (suc i) a ≡ b → IsCutAt (suc i) (past_after plan p (event.Make a f vs))
      pick i within true is =
          let own : suc i ≡ a = eqb-true (suc i) a is in
          let before : own_events (suc i) p.events ≡ [] = c.untold (suc i) (omega (arith, own, next)) in
          inl (inl (own_events_own (suc i) p.events (event.Make a f vs) own ∙ ap (λ l. l ++ Makes ∷ []) before))
      pick i within false is =
          let apart : suc i ≡ a → ⊥ = eqb-false (suc i) a is in
          let low : i < length p.state.made = below_last i (length p.state.made) within (λ same. apart (ap suc same ∙ sym next)) in
          cut_other (suc i) p (past_after plan p (event.Make a f vs)) (own_events_other (suc i) p.events (event.Make a f vs) is) (λ runs. runs) (c.cut i low)

  -- behind an event of none
  cut_outside : (p : Past) (e : Event) → whose e ≡ 0 → (after p.state e).made ≡ p.state.made → (after p.state e).stack ≡ p.state.stack → IsCut p → IsCut (past_after plan p e)
  cut_outside p e none made stack c = cut_on p e (omega (arith, none)) made (λ b other runs. subst (Runs b) (sym stack) runs) (λ b is some. absurd (omega (arith, is, some, none))) c

  module _ (objects : List Payload) where
    -- behind one more event
    cut_after : (p : Past) (e : Event) → MayCome plan objects p e → IsNumbered p → IsCut p → IsCut (past_after plan p e)
    cut_after p (event.Drive d) may n c = cut_outside p (event.Drive d) refl refl refl c
    cut_after p (event.Result d w) may n c = cut_outside p (event.Result d w) refl refl refl c
    cut_after p (event.Make a f vs) (next, opens) n c = cut_made p a f vs next c
    cut_after p (event.Resume a h) may n c =
        cut_on p (event.Resume a h) (resumed_made plan p a n (resumed plan objects p a h may)) refl (λ b other runs. inr runs) (λ b is some. inr (inl (sym is))) c
    cut_after p (event.Ask a r own at) (going, top) n c =
        cut_on p (event.Ask a r own at) (top_made (length p.state.made) a p.state.stack n.stack top) refl (λ b other runs. runs_asks b p.state.stack (Some r) own at runs)
        (λ b is some. inr (runs_asks b p.state.stack (Some r) own at (top_runs a b p.state.stack top is))) c
    cut_after p (event.Got a w) (top, answers) n c =
        cut_on p (event.Got a w) (top_made (length p.state.made) a p.state.stack n.stack top) refl (λ b other runs. runs_asks b p.state.stack None None 0 runs)
        (λ b is some. inr (runs_asks b p.state.stack None None 0 (top_runs a b p.state.stack top is))) c
    cut_after p (event.Round a at) (going, top) n c =
        cut_on p (event.Round a at) (top_made (length p.state.made) a p.state.stack n.stack top) refl (λ b other runs. runs) (λ b is some. inr (top_runs a b p.state.stack top is)) c
    cut_after p (event.Yield a v at) (going, top) n c =
        cut_on p (event.Yield a v at) (top_made (length p.state.made) a p.state.stack n.stack top) refl (λ b other runs. runs_left a b p.state.stack top other runs)
        (λ b is some. inl (inr (inl (own_events b p.events, at, v, own_events_own b p.events (event.Yield a v at) is)))) c
    cut_after p (event.End a e at) (going, top) n c =
        cut_on p (event.End a e at) (top_made (length p.state.made) a p.state.stack n.stack top) refl (λ b other runs. runs_left a b p.state.stack top other runs)
        (λ b is some. inl (inr (inr (own_events b p.events, at, e, own_events_own b p.events (event.End a e at) is)))) c

    cut_from : (p : Past) (es : List Event) → Comes plan objects p es → IsNumbered p → IsCut p → IsCut (past_behind plan p es)
    cut_from p [] comes n c = c
    cut_from p (e ∷ es) comes n c = cut_from (past_after plan p e) es comes.1 (numbered_after plan objects p e comes.0 n) (cut_after p e comes.0 n c)

    -- so it is in a run
    cut_behind : (es : List Event) → Comes plan objects nothing es → IsCut (past_behind plan nothing es)
    cut_behind es comes = cut_from nothing es comes (record { stack = tt; generators = tt }) (record { untold = λ b more. own_events-nil b; cut = λ i within. absurd (omega (arith, within)) })

-- what activations told is cut inside only where they run
pub cut_where_it_runs : CutWhereItRuns
cut_where_it_runs plan objects events i a comes here =
    let whole = cut_behind plan objects events comes in
    let within : i < length (state_after start events).made = slice_get_within (state_after start events).made i a here in
    elim (whole.cut i (subst (λ (s : State). i < length s.made) (sym (past_state plan events)) within)) [
      | inl off ↦ inl (subst (λ es. IsLeftOff (own_events (suc i) es)) (past_events plan events) off)
      | inr runs ↦ inr (any_runs (suc i) (state_after start events).stack (subst (λ (s : State). Runs (suc i) s.stack) (past_state plan events) runs))
    ]
