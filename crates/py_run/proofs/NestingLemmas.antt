-- An activation is left where it was entered: none that is entered inside of it is itself, since it runs, and they are left before it.
use Rattle.std.proofs.Common.{◌≡◌, ◌<◌, ◌≤◌, ◌+◌, ◌⊎◌, ℕ, Option, List, [], ◌∷◌, ◌++◌, Bool, true, false, eqb, Some, None, inl, inr, refl, sym, ap, subst, ◌∙◌, length, length-append, arith}
use Rattle.std.specs.Prelude.{drop, option_map, slice_get, if◌then◌else◌}
use Rattle.std.proofs.lemmas.Bool.{eq-eqb}
use Rattle.std.proofs.lemmas.Option.{same_Some}
use Rattle.py_objects.specs.declared.payload.Payload.{Payload}
use Rattle.py_objects.specs.declared.refs.PyBaseExceptionRef.{PyBaseExceptionRef}
use Rattle.py_objects.specs.declared.request.Request.{Request}
use Rattle.py_objects.specs.declared.request.Request.TheVariants as request
use Rattle.py_objects.specs.declared.event.ResumeHow.{ResumeHow}
use Rattle.py_objects.specs.declared.event.Event.{Event}
use Rattle.py_objects.specs.declared.event.Event.TheVariants as event
use Rattle.py_objects.specs.Objects.{Obj}
use Rattle.py_coro.specs.declared.coro.CoroEnd.{CoroEnd}
use Rattle.py_coro.specs.declared.coro.CoroEnd.TheVariants as left
use Rattle.py_coro.specs.Modes.{Mode, Fresh, Running}
use Rattle.py_coro.specs.Leaving.{mode_behind}
use Rattle.py_run.specs.Run.{Plan, Phase, Idle, Asking, Going, Made, Due, Act, State, start, after, state_after, top_asks, left_by, IsTop, open_in, entered_in, question, handled_among}
use Rattle.py_run.specs.Generators.{Generator, generator_at, running_at, with_mode, unentered, closed_by, settled, created, answered, value_of, generators_after}
use Rattle.py_run.specs.Coming.{Past, nothing, past_after, setting, MayCome, Comes}
use Rattle.py_run.specs.Past.{past_behind}
use Rattle.py_run.specs.Laws.{Leaves, NoneLeaves, IsBack, ActivationsNest}
use Rattle.py_run.proofs.PastLemmas.{past_state, past_lists, past_on}
use Rattle.py_run.proofs.RunLemmas.{comes_front, comes_rest}
use Rattle.py_run.proofs.GeneratorsLemmas.{entries, act_in, act_found, entries_running, entries_changed, entries_settled, entries_on}
use Rattle.py_run.proofs.CoursesLemmas.{IsIdle, IsEntering, IsResumed, resumed}
use Rattle.py_run.proofs.BoundLemmas.{IsMaking, enters_call}
use Rattle.py_run.proofs.CutLemmas.{IsNumbered, resumed_made, numbered_behind}

-- ---- generators whose activation runs

-- each generator of this activation runs
abbrev AreRunning : ℕ → List Generator → Type 0
AreRunning a [] = Unit {0}
AreRunning a (x ∷ xs) = (x.act ≡ a → x.mode ≡ Running) × AreRunning a xs

-- where another activation is entered, they still do, and where this one is, they do from here on
running_enters : (a b : ℕ) (xs : List Generator) → (a ≡ b) ⊎ AreRunning a xs → AreRunning a (running_at b xs)
running_enters a b [] run = tt
running_enters a b (x ∷ xs) run = (λ is. pick (eqb x.act b) refl is run, running_enters a b xs (rest run))
  where
    pick : (c : Bool) → eqb x.act b ≡ c → (if c then record x { mode = Running } else x).act ≡ a → (a ≡ b) ⊎ AreRunning a (x ∷ xs) → (if c then record x { mode = Running } else x).mode ≡ Running
    pick true same is run = refl
    pick false same is (inl here) = let clash : true ≡ false = sym (eq-eqb x.act b (is ∙ here)) ∙ same in absurd (cc clash)
    pick false same is (inr run) = run.0 is

    rest : (a ≡ b) ⊎ AreRunning a (x ∷ xs) → (a ≡ b) ⊎ AreRunning a xs
    rest (inl here) = inl here
    rest (inr run) = inr run.1

-- a close without an entry leaves them running
running_closes : (a : ℕ) (g : Obj) (xs : List Generator) → AreRunning a xs → AreRunning a (with_mode g unentered xs)
running_closes a g [] run = tt
running_closes a g (x ∷ xs) run = pick (eqb x.object.number g.number) (running_closes a g xs run.1)
  where
    pick : (b : Bool) → AreRunning a (with_mode g unentered xs) → AreRunning a (if b then record x { mode = unentered x.mode } ∷ xs else x ∷ with_mode g unentered xs)
    pick true rest = (λ is. ap unentered (run.0 is), run.1)
    pick false rest = (run.0, rest)

-- and so does what settles a generator of another activation
running_settles : (a : ℕ) (g : Obj) (f : Mode → Mode) (xs : List Generator) → (act_in (entries xs) g ≡ Some a → ⊥) → AreRunning a xs → AreRunning a (with_mode g f xs)
running_settles a g f [] other run = tt
running_settles a g f (x ∷ xs) other run = pick (eqb x.object.number g.number) other (λ other. running_settles a g f xs other run.1)
  where
    pick : (b : Bool) → ((if b then Some x.act else act_in (entries xs) g) ≡ Some a → ⊥) → ((act_in (entries xs) g ≡ Some a → ⊥) → AreRunning a (with_mode g f xs))
        → AreRunning a (if b then record x { mode = f x.mode } ∷ xs else x ∷ with_mode g f xs)
    pick true other rest = (λ is. absurd (other (ap Some is)), run.1)
    pick false other rest = (run.0, rest other)

-- with a generator of another activation behind them
running_on : (a : ℕ) (x : Generator) (xs : List Generator) → (x.act ≡ a → ⊥) → AreRunning a xs → AreRunning a (xs ++ x ∷ [])
running_on a x [] other run = (λ is. absurd (other is), tt)
running_on a x (y ∷ xs) other run = (run.0, running_on a x xs other run.1)

-- the one that is found runs, if it is of this activation
running_found : (a : ℕ) (g : Obj) (xs : List Generator) (x : Generator) → AreRunning a xs → generator_at xs g ≡ Some x → x.act ≡ a → x.mode ≡ Running
running_found a g [] x run found is = absurd (cc found)
running_found a g (y ∷ xs) x run found is = pick (eqb y.object.number g.number) found (running_found a g xs x run.1)
  where
    pick : (b : Bool) → (if b then Some y else generator_at xs g) ≡ Some x → (generator_at xs g ≡ Some x → x.act ≡ a → x.mode ≡ Running) → x.mode ≡ Running
    pick true found rest = subst (λ (z : Generator). z.act ≡ a → z.mode ≡ Running) (same_Some y x found) run.0 is
    pick false found rest = rest found is

-- ---- questions for other activations

-- a question isn't for the generator of this activation
abbrev Spares : ℕ → List (Obj × ℕ) → Option Request → Type 0
Spares a es (Some (request.Send g v)) = act_in es g ≡ Some a → ⊥
Spares a es (Some (request.Throw g k v t)) = act_in es g ≡ Some a → ⊥
Spares a es (Some (request.Close g)) = act_in es g ≡ Some a → ⊥
Spares a es _ = Unit {0}

-- that of the innermost activation, where one runs
abbrev SparesTop : ℕ → List (Obj × ℕ) → List Act → Type 0
SparesTop a es [] = Unit {0}
SparesTop a es (x ∷ stack) = Spares a es x.asks

-- a new generator of another activation is none of this one's
found_on : (a : ℕ) (g : Obj) (e : Obj × ℕ) (es : List (Obj × ℕ)) → (e.1 ≡ a → ⊥) → (act_in es g ≡ Some a → ⊥) → act_in (es ++ e ∷ []) g ≡ Some a → ⊥
found_on a g e [] other spares = pick (eqb e.0.number g.number)
  where
    pick : (b : Bool) → (if b then Some e.1 else None) ≡ Some a → ⊥
    pick true is = other (same_Some e.1 a is)
    pick false is = cc is
found_on a g e (x ∷ es) other spares = pick (eqb x.0.number g.number) spares (found_on a g e es other)
  where
    pick : (b : Bool) → ((if b then Some x.1 else act_in es g) ≡ Some a → ⊥) → ((act_in es g ≡ Some a → ⊥) → act_in (es ++ e ∷ []) g ≡ Some a → ⊥)
        → (if b then Some x.1 else act_in (es ++ e ∷ []) g) ≡ Some a → ⊥
    pick true spares rest is = spares is
    pick false spares rest is = rest spares is

-- so questions that spare it still do
spares_on : (a : ℕ) (e : Obj × ℕ) (es : List (Obj × ℕ)) (q : Option Request) → (e.1 ≡ a → ⊥) → Spares a es q → Spares a (es ++ e ∷ []) q
spares_on a e es None other spares = tt
spares_on a e es (Some (request.Send g v)) other spares = found_on a g e es other spares
spares_on a e es (Some (request.Throw g k v t)) other spares = found_on a g e es other spares
spares_on a e es (Some (request.Close g)) other spares = found_on a g e es other spares
spares_on a e es (Some _) other spares = tt

-- ---- where an activation runs

-- among running activations is the one of this number; those inside of it are others, which were entered by questions for others, and outside of it
-- are these
abbrev IsAmong : ℕ → (outer : List Act) → List (Obj × ℕ) → List Act → Type 0
IsAmong a outer es [] = ⊥
IsAmong a outer es (x ∷ stack) = ((x.number ≡ a) × (stack ≡ outer)) ⊎ ((x.number ≡ a → ⊥) × SparesTop a es stack × IsAmong a outer es stack)

-- with a new generator of another activation
among_on : (a : ℕ) (outer : List Act) (e : Obj × ℕ) (es : List (Obj × ℕ)) (stack : List Act) → (e.1 ≡ a → ⊥) → IsAmong a outer es stack → IsAmong a outer (es ++ e ∷ []) stack
among_on a outer e es [] other among = among
among_on a outer e es (x ∷ stack) other (inl here) = inl here
among_on a outer e es (x ∷ stack) other (inr (apart, spares, among)) = inr (apart, top stack spares, among_on a outer e es stack other among)
  where
    top : (stack : List Act) → SparesTop a es stack → SparesTop a (es ++ e ∷ []) stack
    top [] spares = tt
    top (y ∷ stack) spares = spares_on a e es y.asks other spares

-- what the innermost asks changes nothing
among_asks : (a : ℕ) (outer : List Act) (es : List (Obj × ℕ)) (stack : List Act) (r : Option Request) (own : Option PyBaseExceptionRef) (at : ℕ) → IsAmong a outer es stack
    → IsAmong a outer es (top_asks r own at stack)
among_asks a outer es [] r own at among = among
among_asks a outer es (x ∷ stack) r own at (inl here) = inl here
among_asks a outer es (x ∷ stack) r own at (inr among) = inr among

-- where another one is left, it still runs, and the open question is for another one
among_leaves : (a b : ℕ) (outer : List Act) (es : List (Obj × ℕ)) (stack : List Act) → IsTop b stack → (b ≡ a → ⊥) → IsAmong a outer es stack
    → IsAmong a outer es (drop 1 stack) × SparesTop a es (drop 1 stack)
among_leaves a b outer es [] top other among = absurd among
among_leaves a b outer es (x ∷ stack) top other (inl here) = absurd (other (sym top ∙ here.0))
among_leaves a b outer es (x ∷ stack) top other (inr (apart, spares, among)) = (among, spares)

-- where it is left itself, those outside of it run on
among_left : (a b : ℕ) (outer : List Act) (es : List (Obj × ℕ)) (stack : List Act) → IsTop b stack → b ≡ a → IsAmong a outer es stack → drop 1 stack ≡ outer
among_left a b outer es [] top own among = absurd among
among_left a b outer es (x ∷ stack) top own (inl here) = here.1
among_left a b outer es (x ∷ stack) top own (inr (apart, spares, among)) = absurd (apart (top ∙ own))

-- it isn't there where none runs
not_alone : (a : ℕ) (outer : List Act) (es : List (Obj × ℕ)) (stack : List Act) → IsAmong a outer es stack → stack ≡ [] → ⊥
not_alone a outer es stack among empty = subst (IsAmong a outer es) empty among

-- inside of an activation that was entered at another state: it runs, and so does its generator; what is made from here on is another one, what is left
-- was entered by a question for another one, and no drive got its result
record IsInside (a : ℕ) (old : State) (new : State) (xs : List Generator) : Type 0 where
  among : IsAmong a old.stack (entries xs) new.stack
  runs : AreRunning a xs
  counted : a ≤ length new.made
  made : (f : Obj) → new.phase ≡ Made f → (a < length new.made) × SparesTop a (entries xs) new.stack
  due : (how : CoroEnd) → new.phase ≡ Due how → SparesTop a (entries xs) new.stack
  same_done : new.done ≡ old.done

-- nothing was just made where a question is asked
asking_made : (f : Obj) → Asking ≡ Made f → ⊥
asking_made f is = cc is

-- a question isn't due where it is asked
asking_due : (how : CoroEnd) → Asking ≡ Due how → ⊥
asking_due how is = cc is

-- nothing was just made where an activation goes on
going_made : (f : Obj) → Going ≡ Made f → ⊥
going_made f is = cc is

-- nor is an answer due there
going_due : (how : CoroEnd) → Going ≡ Due how → ⊥
going_due how is = cc is

-- nothing was just made where an answer is due
due_made : (how : CoroEnd) (f : Obj) → Due how ≡ Made f → ⊥
due_made how f is = cc is

-- nor is one due where something was made
made_due : (f : Obj) (how : CoroEnd) → Made f ≡ Due how → ⊥
made_due f how is = cc is

-- inside, where an activation goes on or a question was asked, nothing was just made or left
inside_by : (a : ℕ) (old new : State) (xs : List Generator) → (new.phase ≡ Going) ⊎ (new.phase ≡ Asking) → IsAmong a old.stack (entries xs) new.stack → AreRunning a xs → a ≤ length new.made
    → new.done ≡ old.done
    → IsInside a old new xs
inside_by a old new xs (inl going) among runs counted done =
    record { among = among; runs = runs; counted = counted; made = λ f is. absurd (going_made f (sym going ∙ is)); due = λ how is. absurd (going_due how (sym going ∙ is)); same_done = done }
inside_by a old new xs (inr asking) among runs counted done =
    record { among = among; runs = runs; counted = counted; made = λ f is. absurd (asking_made f (sym asking ∙ is)); due = λ how is. absurd (asking_due how (sym asking ∙ is)); same_done = done }

-- ---- as events come

-- where a question of a generator that doesn't run enters an activation, that is another one than the one that runs, and so is the question's
idle_apart : (a b : ℕ) (xs : List Generator) (g : Obj) → AreRunning a xs → IsIdle xs g b → (b ≡ a → ⊥) × (act_in (entries xs) g ≡ Some a → ⊥)
idle_apart a b xs g runs is =
    let apart : is.generator.act ≡ a → ⊥ = λ own. is.idle (running_found a g xs is.generator runs is.found own) in
    let act : act_in (entries xs) g ≡ Some is.generator.act = act_found g xs ∙ ap (option_map (λ (x : Generator). x.act)) is.found in
    (λ own. apart (is.act ∙ own), λ own. apart (same_Some is.generator.act a (sym act ∙ own)))

-- so it is for each question that enters one
entering_apart : (a b : ℕ) (xs : List Generator) (r : Request) → AreRunning a xs → IsEntering xs b r → (b ≡ a → ⊥) × Spares a (entries xs) (Some r)
entering_apart a b xs (request.Send g v) runs is = idle_apart a b xs g runs is
entering_apart a b xs (request.Throw g k v t) runs is = idle_apart a b xs g runs is
entering_apart a b xs (request.Close g) runs is = idle_apart a b xs g runs is
entering_apart a b xs _ runs is = absurd is

-- a new activation is another one
later_apart : (a b n : ℕ) → a < n → b ≡ n → b ≡ a → ⊥
later_apart a b n more is same = absurd (omega (arith, more, is, same))

-- a question that makes an activation is no generator's
making_spares : (objects : List Payload) (a : ℕ) (es : List (Obj × ℕ)) (r : Request) (f : Obj) (vs : List Obj) → IsMaking objects r f vs → Spares a es (Some r)
making_spares objects a es (request.Call g ws named) f vs made = tt
making_spares objects a es (request.Enter m) f vs made = tt
making_spares objects a es (request.Exit x k v t) f vs made = tt
making_spares objects a es _ f vs made = absurd made

-- the question of a stack that isn't empty is its innermost activation's
top_spares : (plan : Plan) (a : ℕ) (es : List (Obj × ℕ)) (outer : List Act) (s : State) (r : Request) → IsAmong a outer es s.stack → question plan s ≡ Some r → Spares a es (Some r)
    → SparesTop a es s.stack
top_spares plan a es outer s r among is spares = go s.stack among is
  where
    go : (stack : List Act) → IsAmong a outer es stack → open_in (slice_get plan.asked s.done) stack ≡ Some r → SparesTop a es stack
    go [] among is = absurd among
    go (x ∷ stack) among is = subst (Spares a es) (sym is) spares

-- the open question is that of the innermost activation
question_spares : (plan : Plan) (a : ℕ) (es : List (Obj × ℕ)) (outer : List Act) (s : State) → IsAmong a outer es s.stack → SparesTop a es s.stack → Spares a es (question plan s)
question_spares plan a es outer s among spares = go s.stack among spares
  where
    go : (stack : List Act) → IsAmong a outer es stack → SparesTop a es stack → Spares a es (open_in (slice_get plan.asked s.done) stack)
    go [] among spares = absurd among
    go (x ∷ stack) among spares = spares

-- what an answer leaves of generators that run, and of where an activation runs
record IsLeft (a : ℕ) (outer stack : List Act) (xs : List Generator) : Type 0 where
  runs : AreRunning a xs
  among : IsAmong a outer (entries xs) stack

-- generators with the same entries
left_same : (a : ℕ) (outer stack : List Act) (xs ys : List Generator) → entries ys ≡ entries xs → AreRunning a ys → IsAmong a outer (entries xs) stack → IsLeft a outer stack ys
left_same a outer stack xs ys same runs among = record { runs = runs; among = subst (λ es. IsAmong a outer es stack) (sym same) among }

-- an answer without an entry
closed_left : (a : ℕ) (outer stack : List Act) (q : Option Request) (xs : List Generator) → AreRunning a xs → IsAmong a outer (entries xs) stack → IsLeft a outer stack (closed_by q xs)
closed_left a outer stack None xs runs among = record { runs = runs; among = among }
closed_left a outer stack (Some (request.Close g)) xs runs among = left_same a outer stack xs (with_mode g unentered xs) (entries_changed g unentered xs) (running_closes a g xs runs) among
closed_left a outer stack (Some _) xs runs among = record { runs = runs; among = among }

-- one behind an entry
settled_left : (a : ℕ) (outer stack : List Act) (q : Option Request) (how : CoroEnd) (xs : List Generator) → Spares a (entries xs) q → AreRunning a xs → IsAmong a outer (entries xs) stack
    → IsLeft a outer stack (settled q how xs)
settled_left a outer stack None how xs spares runs among = record { runs = runs; among = among }
settled_left a outer stack (Some (request.Send g v)) how xs spares runs among =
    left_same a outer stack xs (settled (Some (request.Send g v)) how xs) (entries_settled (Some (request.Send g v)) how xs) (running_settles a g (λ m. mode_behind false how) xs spares runs) among
settled_left a outer stack (Some (request.Throw g k v t)) how xs spares runs among =
    left_same a outer stack xs (settled (Some (request.Throw g k v t)) how xs) (entries_settled (Some (request.Throw g k v t)) how xs)
    (running_settles a g (λ m. mode_behind false how) xs spares runs) among
settled_left a outer stack (Some (request.Close g)) how xs spares runs among =
    left_same a outer stack xs (settled (Some (request.Close g)) how xs) (entries_settled (Some (request.Close g)) how xs) (running_settles a g (λ m. mode_behind true how) xs spares runs) among
settled_left a outer stack (Some _) how xs spares runs among = record { runs = runs; among = among }

-- one that makes a generator
created_left : (a : ℕ) (outer stack : List Act) (made : ℕ) (v : Option Obj) (xs : List Generator) → a < made → AreRunning a xs → IsAmong a outer (entries xs) stack
    → IsLeft a outer stack (created made v xs)
created_left a outer stack made None xs more runs among = record { runs = runs; among = among }
created_left a outer stack made (Some v) xs more runs among = record {
  runs = running_on a (record { object = v; act = made; mode = Fresh }) xs (later_apart a made made more refl) runs;
  among = subst (λ es. IsAmong a outer es stack) (sym (entries_on xs (record { object = v; act = made; mode = Fresh })))
      (among_on a outer (v, made) (entries xs) stack (later_apart a made made more refl) among);
}

-- each of them, by the phase
answered_left : (plan : Plan) (a : ℕ) (old s : State) (xs : List Generator) (phase : Phase) (v : Option Obj) → s.phase ≡ phase → IsInside a old s xs
    → IsLeft a old.stack s.stack (answered (question plan s) phase (length s.made) v xs)
answered_left plan a old s xs Idle v is i = record { runs = i.runs; among = i.among }
answered_left plan a old s xs Asking v is i = closed_left a old.stack s.stack (question plan s) xs i.runs i.among
answered_left plan a old s xs Going v is i = record { runs = i.runs; among = i.among }
answered_left plan a old s xs (Made f) v is i = created_left a old.stack s.stack (length s.made) v xs (i.made f is).0 i.runs i.among
answered_left plan a old s xs (Due how) v is i = settled_left a old.stack s.stack (question plan s) how xs (question_spares plan a (entries xs) old.stack s i.among (i.due how is)) i.runs i.among

module _ (plan : Plan) (objects : List Payload) where
  -- behind its entry
  entered_inside : (a : ℕ) (h : ResumeHow) (p : Past) → IsNumbered p → MayCome plan objects p (event.Resume a h) → IsInside a p.state (after p.state (event.Resume a h)) (running_at a p.generators)
  entered_inside a h p numbered may =
      inside_by a p.state (after p.state (event.Resume a h)) (running_at a p.generators) (inl refl) (inl (refl, refl)) (running_enters a a p.generators (inl refl))
      (resumed_made plan p a numbered (resumed plan objects p a h may)) refl

  -- behind the entry of another one
  entered_more : (a b : ℕ) (h : ResumeHow) (old : State) (p : Past) → (b ≡ a → ⊥) → SparesTop a (entries p.generators) p.state.stack → IsInside a old p.state p.generators
      → IsInside a old (after p.state (event.Resume b h)) (running_at b p.generators)
  entered_more a b h old p apart spares i =
      let same : entries (running_at b p.generators) ≡ entries p.generators = entries_running b p.generators in
      inside_by a old (after p.state (event.Resume b h)) (running_at b p.generators) (inl refl)
      (subst (λ es. IsAmong a old.stack es (record { number = b; asks = None; own = None; at = 0 } ∷ p.state.stack)) (sym same) (inr (apart, spares, i.among)))
      (running_enters a b p.generators (inr i.runs)) i.counted i.same_done

  -- which it is, however it is entered
  resumed_inside : (a b : ℕ) (h : ResumeHow) (old : State) (p : Past) → IsResumed plan p b → IsInside a old p.state p.generators
      → IsInside a old (after p.state (event.Resume b h)) (running_at b p.generators)
  resumed_inside a b h old p (inl (f, made, last)) i = entered_more a b h old p (later_apart a b (length p.state.made) (i.made f made).0 last) (i.made f made).1 i
  resumed_inside a b h old p (inr (asks, (r, open_, is))) i =
      let apart = entering_apart a b p.generators r i.runs is in
      entered_more a b h old p apart.0 (top_spares plan a (entries p.generators) old.stack p.state r i.among open_ apart.1) i

  -- behind one more event, which doesn't leave it
  inside_after : (a : ℕ) (old : State) (p : Past) (e : Event) → MayCome plan objects p e → (Leaves a e → ⊥) → IsInside a old p.state p.generators
      → IsInside a old (after p.state e) (past_after plan p e).generators
  inside_after a old p (event.Drive d) may stays i = inside_by a old (after p.state (event.Drive d)) p.generators (inr refl) i.among i.runs i.counted i.same_done
  inside_after a old p (event.Result d w) (next, alone, answers) stays i = absurd (not_alone a old.stack (entries p.generators) p.state.stack i.among alone)
  inside_after a old p (event.Make b f vs) (next, opens) stays i =
      let more : length (p.state.made ++ record { function = f; args = vs } ∷ []) ≡ length p.state.made + 1 = length-append p.state.made (record { function = f; args = vs } ∷ []) in
      let here : a ≤ length p.state.made = i.counted in
      let call = enters_call (setting plan p) objects opens.1.0 f vs opens.1.2 in
      record {
        among = i.among;
        runs = i.runs;
        counted = omega (arith, more, here);
        made = λ g is. (omega (arith, more, here), top_spares plan a (entries p.generators) old.stack p.state opens.1.0 i.among opens.1.1 (making_spares objects a (entries p.generators) opens.1.0 f vs call.0));
        due = λ how is. absurd (made_due f how is);
        same_done = i.same_done;
      }
  inside_after a old p (event.Resume b h) may stays i = resumed_inside a b h old p (resumed plan objects p b h may) i
  inside_after a old p (event.Ask b r own at) may stays i =
      inside_by a old (after p.state (event.Ask b r own at)) p.generators (inr refl) (among_asks a old.stack (entries p.generators) p.state.stack (Some r) own at i.among) i.runs i.counted i.same_done
  inside_after a old p (event.Got b w) may stays i =
      let still = answered_left plan a old p.state p.generators p.state.phase (value_of w) refl i in
      inside_by a old (after p.state (event.Got b w)) (generators_after plan p.state p.generators (event.Got b w)) (inl refl)
      (among_asks a old.stack _ p.state.stack None None 0 still.among) still.runs i.counted i.same_done
  inside_after a old p (event.Round b at) may stays i = i
  inside_after a old p (event.Yield b v at) (going, top) stays i =
      let still = among_leaves a b old.stack (entries p.generators) p.state.stack top stays i.among in
      record { among = still.0; runs = i.runs; counted = i.counted; made = λ f is. absurd (due_made (left.Yield v) f is); due = λ how is. still.1; same_done = i.same_done }
  inside_after a old p (event.End b e at) (going, top) stays i =
      let still = among_leaves a b old.stack (entries p.generators) p.state.stack top stays i.among in
      record { among = still.0; runs = i.runs; counted = i.counted; made = λ f is. absurd (due_made (left_by e) f is); due = λ how is. still.1; same_done = i.same_done }

  -- behind more of them
  inside_behind : (a : ℕ) (old : State) (p : Past) (es : List Event) → Comes plan objects p es → NoneLeaves a es → IsInside a old p.state p.generators
      → IsInside a old (past_behind plan p es).state (past_behind plan p es).generators
  inside_behind a old p [] comes stay i = i
  inside_behind a old p (e ∷ es) comes stay i = inside_behind a old (past_after plan p e) es comes.1 stay.1 (inside_after a old p e comes.0 stay.0 i)

  -- behind the event that leaves it
  left_stack : (a : ℕ) (old : State) (p : Past) (e : Event) → MayCome plan objects p e → Leaves a e → IsInside a old p.state p.generators → (after p.state e).stack ≡ old.stack
  left_stack a old p (event.Yield b v at) (going, top) leaves i = among_left a b old.stack (entries p.generators) p.state.stack top leaves i.among
  left_stack a old p (event.End b e at) (going, top) leaves i = among_left a b old.stack (entries p.generators) p.state.stack top leaves i.among
  left_stack a old p _ may leaves i = absurd leaves

  -- a drive gets no result by that
  left_done : (a : ℕ) (s : State) (e : Event) → Leaves a e → (after s e).done ≡ s.done
  left_done a s (event.Yield b v at) leaves = refl
  left_done a s (event.End b e at) leaves = refl
  left_done a s _ leaves = absurd leaves

  -- so where no drive got its result, and the same activations run, the run is where it was
  is_back : (old new : State) → new.stack ≡ old.stack → new.done ≡ old.done → IsBack plan old new
  is_back old new stack done =
      let drive : slice_get plan.asked new.done ≡ slice_get plan.asked old.done = ap (slice_get plan.asked) done in
      record {
        same_done = done;
        same_stack = stack;
        same_question = ap (λ q. open_in q new.stack) drive ∙ ap (open_in (slice_get plan.asked old.done)) stack;
        same_depth = ap (λ q. entered_in q + length new.stack) drive ∙ ap (λ (l : List Act). entered_in (slice_get plan.asked old.done) + length l) stack;
        same_handled = ap handled_among stack;
      }

  -- so it is behind an event that leaves the activation
  left_back : (a : ℕ) (old : State) (p : Past) (e : Event) → MayCome plan objects p e → Leaves a e → IsInside a old p.state p.generators → IsBack plan old (after p.state e)
  left_back a old p e may leaves i = is_back old (after p.state e) (left_stack a old p e may leaves i) (left_done a p.state e leaves ∙ i.same_done)

  -- activations nest, behind any past of a run
  nested_behind : (p : Past) (inside : List Event) (a : ℕ) (h : ResumeHow) (last : Event) → IsNumbered p → Comes plan objects p (event.Resume a h ∷ (inside ++ last ∷ []))
      → NoneLeaves a inside → Leaves a last
      → IsBack plan p.state (past_behind plan p (event.Resume a h ∷ (inside ++ last ∷ []))).state
  nested_behind p inside a h last numbered comes stay leaves =
      let entered : Past = past_after plan p (event.Resume a h) in
      let within = inside_behind a p.state entered inside (comes_front plan objects entered inside (last ∷ []) comes.1) stay (entered_inside a h p numbered comes.0) in
      let ends = comes_rest plan objects entered inside (last ∷ []) comes.1 in
      subst (λ (q : Past). IsBack plan p.state q.state) (sym (past_on plan entered inside last)) (left_back a p.state (past_behind plan entered inside) last ends.0 leaves within)

-- activations nest, behind the start
pub nested : ActivationsNest
nested plan objects front inside a h last comes stay leaves =
    let part : List Event = event.Resume a h ∷ (inside ++ last ∷ []) in
    let numbered : IsNumbered (past_behind plan nothing front) = numbered_behind plan objects front (comes_front plan objects nothing front part comes) in
    let back = nested_behind plan objects (past_behind plan nothing front) inside a h last numbered (comes_rest plan objects nothing front part comes) stay leaves in
    let whole : (past_behind plan (past_behind plan nothing front) part).state ≡ state_after start (front ++ part) =
    ap (λ (q : Past). q.state) (sym (past_lists plan nothing front part)) ∙ past_state plan (front ++ part) in
    subst (λ s. IsBack plan s (state_after start (front ++ part))) (past_state plan front) (subst (IsBack plan (past_behind plan nothing front).state) whole back)
