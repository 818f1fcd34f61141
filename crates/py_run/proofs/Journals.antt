-- What is said of every journal of generators worked by hand.
use Rattle.std.proofs.Common.{◌≡◌, ℕ, zero, suc, List, [], ◌∷◌, Bool, true, false, not, ◌&&◌, Some, None, inl, inr, refl, sym, ap, subst, length, eqb, cond, arith}
use Rattle.std.proofs.lemmas.Bool.{and_parts, ltb-true}
use Rattle.std.proofs.lemmas.Option.{same_Some}
use Rattle.std.specs.Prelude.{Option, slice_get, nat_lt, codes}
use Rattle.std.specs.List.{list_all}
use Rattle.py_objects.specs.declared.payload.Payload.{Payload}
use Rattle.py_objects.specs.declared.payload.Payload.TheVariants as payload
use Rattle.py_objects.specs.declared.payload.CoroBody.{CoroBody}
use Rattle.py_objects.specs.declared.payload.CoroKind.TheVariants as coro
use Rattle.py_objects.specs.declared.payload.FunctionBody.{FunctionBody}
use Rattle.py_objects.specs.declared.payload.ManagerBody.{ManagerBody}
use Rattle.py_objects.specs.declared.error_kind.ErrorKind.TheVariants.{GeneratorExit}
use Rattle.py_objects.specs.declared.request.Keywords.TheVariants as keywords
use Rattle.py_objects.specs.declared.request.Request.TheVariants as request
use Rattle.py_objects.specs.declared.event.ResumeHow.TheVariants as how
use Rattle.py_objects.specs.declared.event.DriveAnswer.TheVariants as answer
use Rattle.py_objects.specs.declared.event.Event.{Event}
use Rattle.py_objects.specs.declared.event.Event.TheVariants as event
use Rattle.py_objects.specs.Objects.{Obj, Name, HasPayload, declares, is_name, declared_from, payload_numbers, event_numbers, AllBelow, AreNamed, is_among, IsNew}
use Rattle.py_objects.specs.Values.{is_none}
use Rattle.py_coro.specs.Modes.{sent, closed}
use Rattle.py_coro.specs.Refusals.{word_of}
use Rattle.py_answers.specs.Answers.{BuiltIn, Yields}
use Rattle.py_run.specs.Run.{Signature, Posed, Plan}
use Rattle.py_run.specs.Generators.{Generator, generator_at}
use Rattle.py_run.specs.Calls.{Course, Enters, Sends, Throws, Setting, course_by, refusal, made_at, bound_by, kept_or_closed, ThrowsAs, ComesTo}
use Rattle.py_run.specs.Coming.{nothing, Comes}
use Rattle.py_run.specs.Past.{past_behind}
use Rattle.py_run.specs.Worked.{object, objects_with, plan_with, send, created, yielded}

-- ---- names and new objects, as tests

-- AllBelow as a test
abbrev are_below : ℕ → List ℕ → Bool
are_below n [] = true
are_below n (m ∷ ms) = nat_lt m n && are_below n ms

-- what it says
pub all_below : (n : ℕ) (ms : List ℕ) → are_below n ms ≡ true → AllBelow n ms
all_below n [] h = tt
all_below n (m ∷ ms) h = let (low, lower) = and_parts (nat_lt m n) _ h in (ltb-true m n low, all_below n ms lower)

-- of each of a list
each_below : {X : Type 0} (f : X → List ℕ) (n : ℕ) (xs : List X) → list_all (λ x. are_below n (f x)) xs ≡ true → (i : ℕ) (x : X) → slice_get xs i ≡ Some x → AllBelow n (f x)
each_below f n [] h i x e = absurd (cc e)
each_below f n (y ∷ ys) h zero x e = subst (λ z. AllBelow n (f z)) (same_Some y x e) (all_below n (f y) (and_parts (are_below n (f y)) _ h).0)
each_below f n (y ∷ ys) h (suc i) x e = each_below f n ys (and_parts (are_below n (f y)) _ h).1 i x e

-- every number is an object's
pub are_named : (store : List Payload) (events : List Event) → list_all (λ p. are_below (length store) (payload_numbers p)) store ≡ true
    → list_all (λ e. are_below (length store) (event_numbers e)) events ≡ true → AreNamed store events
are_named store events p h = record { in_events = each_below event_numbers (length store) events h; in_payloads = each_below payload_numbers (length store) store p }

-- IsNew as two tests
abbrev spares : ℕ → ℕ → Option Name → Bool
spares n i None = true
spares n i (Some x) = not (eqb n i)

-- of each object that is declared
abbrev are_sparing : ℕ → ℕ → List Payload → Bool
are_sparing n i [] = true
are_sparing n i (p ∷ ps) = spares n i (declares p) && are_sparing n (suc i) ps

-- what isn't true is false
not_true : (b : Bool) → not b ≡ true → b ≡ false
not_true true h = absurd (cc h)
not_true false h = refl

-- the first one that is declared under a name isn't this
chosen : (n i : ℕ) (x : Name) (d : Option Name) (rest : Option Obj) → spares n i d ≡ true → ((v : Obj) → rest ≡ Some v → eqb n v.number ≡ false) → (v : Obj)
    → cond (is_name x d) (Some (record { number = i })) rest ≡ Some v → eqb n v.number ≡ false
chosen n i x None rest h k v e = k v e
chosen n i x (Some y) rest h k v e = pick (is_name x (Some y)) e
  where
    pick : (b : Bool) → cond b (Some (record { number = i })) rest ≡ Some v → eqb n v.number ≡ false
    pick false e = k v e
    pick true e = subst (λ (w : Obj). eqb n w.number ≡ false) (same_Some _ v e) (not_true (eqb n i) h)

-- so nothing is declared that is this
undeclared : (n i : ℕ) (store : List Payload) → are_sparing n i store ≡ true → (x : Name) (v : Obj) → declared_from i store x ≡ Some v → eqb n v.number ≡ false
undeclared n i [] h x v e = absurd (cc e)
undeclared n i (p ∷ ps) h x v e =
    let both = and_parts (spares n i (declares p)) _ h in
    chosen n i x (declares p) (declared_from (suc i) ps x) both.0 (λ w f. undeclared n (suc i) ps both.1 x w f) v e

-- and no event names it
unnamed : (n : ℕ) (events : List Event) → list_all (λ e. not (is_among n (event_numbers e))) events ≡ true → (i : ℕ) (e : Event) → slice_get events i ≡ Some e → is_among n (event_numbers e) ≡ false
unnamed n [] h i e is = absurd (cc is)
unnamed n (x ∷ xs) h zero e is = subst (λ z. is_among n (event_numbers z) ≡ false) (same_Some x e is) (not_true _ (and_parts (not (is_among n (event_numbers x))) _ h).0)
unnamed n (x ∷ xs) h (suc i) e is = unnamed n xs (and_parts (not (is_among n (event_numbers x))) _ h).1 i e is

-- so it is new
pub is_new : (store : List Payload) (before : List Event) (n : ℕ) → list_all (λ e. not (is_among n (event_numbers e))) before ≡ true → are_sparing n 0 store ≡ true → IsNew store before n
is_new store before n a b = record { unnamed = unnamed n before a; undeclared = undeclared n 0 store b }

-- ---- what may come

-- what a call comes to
pub call_is : (at : Setting) (objects : List Payload) (f : Obj) (vs : List Obj) (b : FunctionBody) (s : Signature) (c : Course) → HasPayload objects f (payload.Function b)
    → slice_get at.signatures b.code ≡ Some s
    → c ≡ bound_by (refusal b.name s.params (length vs)) (made_at s.kind at.depth (Enters f vs)) → ComesTo at objects (request.Call f vs keywords.None) c
call_is at objects f vs b s c entry signed is = inr (inl (f, vs, refl, record { body = b; entry = entry; signature = s; signed = signed; is = is }))

-- what the entry of a manager comes to
pub enter_is : (at : Setting) (objects : List Payload) (m : Obj) (d : ManagerBody) (b : FunctionBody) (s : Signature) (c : Course) → HasPayload objects m (payload.Manager d)
    → HasPayload objects d.enter (payload.Function b) → slice_get at.signatures b.code ≡ Some s
    → c ≡ bound_by (refusal b.name s.params 0) (made_at s.kind at.depth (Enters d.enter [])) → ComesTo at objects (request.Enter m) c
enter_is at objects m d b s c has entry signed is =
    inr (inr (inr (inr (inr (inr (inl (m, refl, (d, has, record { body = b; entry = entry; signature = s; signed = signed; is = is }))))))))

-- and what an exit by one does
pub exit_is : (at : Setting) (objects : List Payload) (x k v t : Obj) (d : ManagerBody) (b : FunctionBody) (s : Signature) (c : Course) → HasPayload objects x (payload.Manager d)
    → HasPayload objects d.exit (payload.Function b) → slice_get at.signatures b.code ≡ Some s
    → c ≡ bound_by (refusal b.name s.params 3) (made_at s.kind at.depth (Enters d.exit (k ∷ v ∷ t ∷ []))) → ComesTo at objects (request.Exit x k v t) c
exit_is at objects x k v t d b s c has entry signed is =
    inr (inr (inr (inr (inr (inr (inr (x, k, v, t, refl, (payload.Manager d, has, record { body = b; entry = entry; signature = s; signed = signed; is = is }))))))))

-- what a send comes to
pub send_is : (at : Setting) (objects : List Payload) (g v : Obj) (b : CoroBody) (x : Generator) (p : Payload) (c : Course) → HasPayload objects g (payload.Generator b)
    → generator_at at.generators g ≡ Some x
    → HasPayload objects v p → c ≡ course_by (word_of b.kind) x.act (Sends x.act v) (sent x.mode (is_none p) at.depth) → ComesTo at objects (request.Send g v) c
send_is at objects g v b x p c entry found has is =
    inr (inr (inr (inl (g, v, refl, (b.kind, x, record { body = b; entry = entry; kind_is = refl; kept = sym (ap (kept_or_closed g) found) }, p, has, is)))))

-- what a close comes to
pub close_is : (at : Setting) (objects : List Payload) (g : Obj) (b : CoroBody) (x : Generator) (c : Course) → HasPayload objects g (payload.Generator b) → generator_at at.generators g ≡ Some x
    → c ≡ course_by (word_of b.kind) x.act (Throws x.act (BuiltIn GeneratorExit [])) (closed x.mode at.depth) → ComesTo at objects (request.Close g) c
close_is at objects g b x c entry found is =
    inr (inr (inr (inr (inr (inl (g, refl, (b.kind, x, record { body = b; entry = entry; kind_is = refl; kept = sym (ap (kept_or_closed g) found) }, is)))))))

-- what a throw comes to
pub throw_is : (at : Setting) (objects : List Payload) (g k : Obj) (v : Option Obj) (b : CoroBody) (x : Generator) (c : Course) → HasPayload objects g (payload.Generator b)
    → generator_at at.generators g ≡ Some x
    → ThrowsAs at objects b.kind x x.mode k v c → ComesTo at objects (request.Throw g k v None) c
throw_is at objects g k v b x c entry found throws =
    inr (inr (inr (inr (inl (g, k, v, refl, (b.kind, x, record { body = b; entry = entry; kind_is = refl; kept = sym (ap (kept_or_closed g) found) }, throws))))))

-- the entry of the generator
abbrev pub generator_body : CoroBody
generator_body = record { activation = 1; name = codes "g"; kind = coro.Generator }

-- the plan, the objects and the past behind the first events
module _ (signatures : List Signature) (asked : List Posed) (more : List Payload) where
  -- the call that makes the generator comes, and events that may come behind it
  pub created_comes : (rest : List Event) → IsNew (objects_with more) (event.Drive 1 ∷ event.Make 1 (object 1) [] ∷ []) 2
      → Comes (plan_with signatures asked) (objects_with more) (past_behind (plan_with signatures asked) nothing (created [])) rest
      → Comes (plan_with signatures asked) (objects_with more) nothing (created rest)
  created_comes rest new comes = (
    (refl, refl, omega arith),
    (
      (refl, (refl, (_, refl, call_is _ _ _ _ _ _ _ refl refl refl))),
      ((refl, refl, inl (_, inl (_, refl, (coro.Generator, record { body = _; entry = refl; signature = _; signed = refl; kind_is = refl }, refl)), (new, refl))), comes),
    ),
  )

-- and the first next
module _ (signatures : List Signature) (asked : List Posed) (more : List Payload) where
  abbrev plan : Plan
  plan = plan_with signatures (send (object 2) (object 0) ∷ asked)

  -- the first next yields, and events that may come behind it
  pub yielded_comes : (rest : List Event) → IsNew (objects_with more) (event.Drive 1 ∷ event.Make 1 (object 1) [] ∷ []) 2
      → Comes plan (objects_with more) (past_behind plan nothing (yielded [])) rest → Comes plan (objects_with more) nothing (yielded rest)
  yielded_comes rest new comes =
      created_comes signatures (send (object 2) (object 0) ∷ asked) more (event.Drive 2 ∷ event.Resume 1 how.Start ∷ event.Yield 1 (object 3) 1 ∷ event.Result 2 (answer.Yields (object 3)) ∷ rest) new (
        (refl, refl, omega arith),
        (
          (refl, (_, refl, send_is _ _ _ _ generator_body _ _ _ refl refl refl refl)),
          (
            (refl, refl),
            ((refl, refl, inl (Yields (object 3), inl (_, refl, (generator_body, refl, _, refl, refl)), refl)), comes),
          ),
        ),
      )
