-- What a question comes to, by its kind, and where its objects are known.
use Rattle.std.proofs.Common.{◌≡◌, ℕ, List, [], ◌∷◌, Bool, true, false, Some, None, inl, inr, refl, sym, ap, subst, ◌∙◌, ◌⊎◌, length, nat_le}
use Rattle.std.specs.Prelude.{Option, codes, if◌then◌else◌}
use Rattle.std.proofs.lemmas.Option.{same_Some}
use Rattle.py_objects.specs.declared.payload.Payload.{Payload}
use Rattle.py_objects.specs.declared.payload.Payload.TheVariants as payload
use Rattle.py_objects.specs.declared.payload.CoroBody.{CoroBody}
use Rattle.py_objects.specs.declared.payload.CoroKind.{CoroKind}
use Rattle.py_objects.specs.declared.error_kind.ErrorKind.TheVariants.{GeneratorExit, RecursionError}
use Rattle.py_objects.specs.declared.request.Keywords.TheVariants as keywords
use Rattle.py_objects.specs.declared.request.Request.{Request}
use Rattle.py_objects.specs.declared.request.Request.TheVariants as request
use Rattle.py_objects.specs.declared.event.ResumeHow.{ResumeHow}
use Rattle.py_objects.specs.declared.event.ResumeHow.TheVariants as how
use Rattle.py_objects.specs.Objects.{Obj, Name, HasPayload}
use Rattle.py_objects.specs.Values.{is_none}
use Rattle.py_exceptions.specs.declared.ctor.Instantiate.{Instantiate}
use Rattle.py_exceptions.specs.declared.ctor.Instantiate.TheVariants as comes
use Rattle.py_coro.specs.Modes.{Mode, Fresh, Suspended, Running, Closed, Row, Stops as RowStops, Raises as RowRaises, Done as RowDone, Starts as RowStarts, Sends as RowSends, Throws as RowThrows, Exits as RowExits, Refuses as RowRefuses, most_depth, sent, thrown, closed}
use Rattle.py_coro.specs.Refusals.{word_of}
use Rattle.py_answers.specs.Answers.{This, Called, BuiltIn, Reply, Fails, Lacks, LacksAs, Replies}
use Rattle.py_run.specs.Run.{Plan, Phase, Asking, Made, question}
use Rattle.py_run.specs.Generators.{Generator, generator_at}
use Rattle.py_run.specs.Calls.{kept_or_closed, Course, Says, Enters, Begins, Sends, Throws, refusal, bound_by, made_at, reraised, Setting, unthrown, course_by, throws_by, CallsFunction, ThrowsAs, SendsTo, ThrowsTo, ClosesTo, EntersTo, ExitsTo, exit_of, ComesTo}
use Rattle.py_run.specs.Coming.{Past, setting, Opens, Starts, IsEntered, IsReply, IsAnswered}

-- ---- by the kind of the question

-- what a question comes to but for a reply without an activation
abbrev pub ComesAs : Setting → List Payload → Request → Course → Type 0
ComesAs at objects (request.Call f vs named) c = (named ≡ keywords.None) × CallsFunction at objects f vs c
ComesAs at objects request.Handled c = c ≡ Says (reraised at.handled)
ComesAs at objects (request.Send g v) c = SendsTo at objects g v c
ComesAs at objects (request.Throw g k v t) c = (t ≡ None) × ThrowsTo at objects g k v c
ComesAs at objects (request.Close g) c = ClosesTo at objects g c
ComesAs at objects (request.Enter m) c = EntersTo at objects m c
ComesAs at objects (request.Exit x k v t) c = ExitsTo at objects x (k ∷ v ∷ t ∷ []) c
ComesAs at objects _ c = ⊥

-- it comes to that, or to such a reply
pub comes_as : (at : Setting) (objects : List Payload) (r : Request) (c : Course) → ComesTo at objects r c
    → ((reply : Reply) × (c ≡ Says reply) × Replies objects r reply) ⊎ ComesAs at objects r c
comes_as at objects r c (inl replies) = inl replies
comes_as at objects r c (inr (inl (f, vs, is, calls))) = inr (subst (λ q. ComesAs at objects q c) (sym is) (refl, calls))
comes_as at objects r c (inr (inr (inl (is, says)))) = inr (subst (λ q. ComesAs at objects q c) (sym is) says)
comes_as at objects r c (inr (inr (inr (inl (g, v, is, sends))))) = inr (subst (λ q. ComesAs at objects q c) (sym is) sends)
comes_as at objects r c (inr (inr (inr (inr (inl (g, k, v, is, throws)))))) = inr (subst (λ q. ComesAs at objects q c) (sym is) (refl, throws))
comes_as at objects r c (inr (inr (inr (inr (inr (inl (g, is, closes))))))) = inr (subst (λ q. ComesAs at objects q c) (sym is) closes)
comes_as at objects r c (inr (inr (inr (inr (inr (inr (inl (m, is, enters)))))))) = inr (subst (λ q. ComesAs at objects q c) (sym is) enters)
comes_as at objects r c (inr (inr (inr (inr (inr (inr (inr (x, k, v, t, is, exits)))))))) = inr (subst (λ q. ComesAs at objects q c) (sym is) exits)

-- generators lack no attribute that is asked for
not_lacking : (objects : List Payload) (name : Name) (g : Obj) (b : CoroBody) (reply : Reply) → HasPayload objects g (payload.Generator b) → Lacks objects name g reply → ⊥
not_lacking objects name g b reply is (p, has, lacks) = subst (λ q. LacksAs objects name q reply) (same_Some p (payload.Generator b) (sym has ∙ is)) lacks

-- what a send to a generator comes to
pub send_comes : (at : Setting) (objects : List Payload) (g v : Obj) (b : CoroBody) (c : Course) → HasPayload objects g (payload.Generator b) → ComesTo at objects (request.Send g v) c
    → SendsTo at objects g v c
send_comes at objects g v b c is comes = elim (comes_as at objects (request.Send g v) c comes) [
  | inl replied ↦ absurd (not_lacking objects (codes "send") g b replied.0 is replied.2)
  | inr sends ↦ sends
]

-- a throw into one
pub throw_comes : (at : Setting) (objects : List Payload) (g k : Obj) (v t : Option Obj) (b : CoroBody) (c : Course)
    → HasPayload objects g (payload.Generator b) → ComesTo at objects (request.Throw g k v t) c → ThrowsTo at objects g k v c
throw_comes at objects g k v t b c is comes = elim (comes_as at objects (request.Throw g k v t) c comes) [
  | inl replied ↦ absurd (not_lacking objects (codes "throw") g b replied.0 is replied.2)
  | inr throws ↦ throws.1
]

-- and a close of one
pub close_comes : (at : Setting) (objects : List Payload) (g : Obj) (b : CoroBody) (c : Course) → HasPayload objects g (payload.Generator b) → ComesTo at objects (request.Close g) c
    → ClosesTo at objects g c
close_comes at objects g b c is comes = elim (comes_as at objects (request.Close g) c comes) [
  | inl replied ↦ absurd (not_lacking objects (codes "close") g b replied.0 is replied.2)
  | inr closes ↦ closes
]

-- who asks for what is handled is answered by that
pub handled_comes : (at : Setting) (objects : List Payload) (c : Course) → ComesTo at objects request.Handled c → c ≡ Says (reraised at.handled)
handled_comes at objects c comes = elim (comes_as at objects request.Handled c comes) [
  | inl replied ↦ absurd replied.2
  | inr says ↦ says
]

-- the course of the question that is open
pub opened : (plan : Plan) (objects : List Payload) (p : Past) (c : Course) (r : Request) → question plan p.state ≡ Some r → Opens plan objects p c → ComesTo (setting plan p) objects r c
opened plan objects p c r is (asks, (q, open_, comes)) = subst (λ q. ComesTo (setting plan p) objects q c) (same_Some q r (sym open_ ∙ is)) comes

-- the reply to it
pub replied : (plan : Plan) (objects : List Payload) (p : Past) (reply : Reply) (r : Request) → question plan p.state ≡ Some r → IsAnswered plan objects p reply
    → IsReply plan objects p p.state.phase r reply
replied plan objects p reply r is (q, open_, answers) = subst (λ q. IsReply plan objects p p.state.phase q reply) (same_Some q r (sym open_ ∙ is)) answers

-- ---- where the objects are known

-- ---- whom a question enters

-- a course that enters no activation but this one, and makes none
abbrev pub IsOfAct : ℕ → Course → Type 0
IsOfAct a (Says reply) = Unit {0}
IsOfAct a (Enters f vs) = ⊥
IsOfAct a (Begins b) = a ≡ b
IsOfAct a (Sends b v) = a ≡ b
IsOfAct a (Throws b x) = a ≡ b

-- a reply at once
abbrev pub IsSaid : Course → Type 0
IsSaid (Says reply) = Unit {0}
IsSaid (Enters f vs) = ⊥
IsSaid (Begins b) = ⊥
IsSaid (Sends b v) = ⊥
IsSaid (Throws b x) = ⊥

-- what a row comes to is of its generator
row_of_act : (word : Name) (a : ℕ) (handed : Course) (row : Row) → IsOfAct a handed → IsOfAct a (unthrown handed) → IsOfAct a (course_by word a handed row)
row_of_act word a handed RowStops whole raised = tt
row_of_act word a handed RowRaises whole raised = raised
row_of_act word a handed RowDone whole raised = tt
row_of_act word a handed RowStarts whole raised = refl
row_of_act word a handed RowSends whole raised = whole
row_of_act word a handed RowThrows whole raised = whole
row_of_act word a handed RowExits whole raised = whole
row_of_act word a handed (RowRefuses r) whole raised = tt

-- what an outcome of normalising comes to
thrown_of_act : (kind : CoroKind) (x : Generator) (depth : ℕ) (outcome : Instantiate) (c : Course) → throws_by kind x depth outcome ≡ Some c → IsOfAct x.act c
thrown_of_act kind x depth (comes.Done e) c is = subst (IsOfAct x.act) (same_Some _ c is) (row_of_act (word_of kind) x.act (Throws x.act (This e)) (thrown x.mode depth) refl tt)
thrown_of_act kind x depth (comes.Make class args) c is = subst (IsOfAct x.act) (same_Some _ c is) (row_of_act (word_of kind) x.act (Throws x.act (Called class args)) (thrown x.mode depth) refl tt)
thrown_of_act kind x depth (comes.Fault f) c is = subst (IsOfAct x.act) (same_Some _ c is) tt
thrown_of_act kind x depth comes.NoMemory c is = absurd (cc is)

-- a throw in each mode
throws_of_act : (at : Setting) (objects : List Payload) (kind : CoroKind) (x : Generator) (m : Mode) (k : Obj) (v : Option Obj) (c : Course) → ThrowsAs at objects kind x m k v c → IsOfAct x.act c
throws_of_act at objects kind x Fresh k v c (outcome, comes, is) = thrown_of_act kind x at.depth outcome c is
throws_of_act at objects kind x Suspended k v c (outcome, comes, is) = thrown_of_act kind x at.depth outcome c is
throws_of_act at objects kind x Running k v c is = subst (IsOfAct x.act) (sym is) tt
throws_of_act at objects kind x Closed k v c (outcome, comes, is) = thrown_of_act kind x at.depth outcome c is

-- what is thrown into a closed one is raised
closed_throw : (kind : CoroKind) (x : Generator) (depth : ℕ) (outcome : Instantiate) (c : Course) → x.mode ≡ Closed → throws_by kind x depth outcome ≡ Some c → IsSaid c
closed_throw kind x depth (comes.Done e) c over is = subst IsSaid (same_Some _ c is) (subst (λ m. IsSaid (course_by (word_of kind) x.act (Throws x.act (This e)) (thrown m depth))) (sym over) tt)
closed_throw kind x depth (comes.Make class args) c over is =
    subst IsSaid (same_Some _ c is) (subst (λ m. IsSaid (course_by (word_of kind) x.act (Throws x.act (Called class args)) (thrown m depth))) (sym over) tt)
closed_throw kind x depth (comes.Fault f) c over is = subst IsSaid (same_Some _ c is) tt
closed_throw kind x depth comes.NoMemory c over is = absurd (cc is)

-- what a generator's question comes to: this generator is entered, or none, and none that runs or is closed
pub record IsOfGenerator (xs : List Generator) (g : Obj) (c : Course) : Type 0 where
  pub generator : Generator
  pub found : generator ≡ kept_or_closed g (generator_at xs g)
  pub of_act : IsOfAct generator.act c
  pub idle : generator.mode ≡ Running → IsSaid c
  pub closed : generator.mode ≡ Closed → IsSaid c

-- what a send comes to is of its generator
pub sends_of : (at : Setting) (objects : List Payload) (g v : Obj) (c : Course) → SendsTo at objects g v c → IsOfGenerator at.generators g c
sends_of at objects g v c (kind, x, kept, p, has, is) = record {
  generator = x;
  found = kept.kept;
  of_act = subst (IsOfAct x.act) (sym is) (row_of_act (word_of kind) x.act (Sends x.act v) (sent x.mode (is_none p) at.depth) refl refl);
  idle = λ runs. subst IsSaid (sym (is ∙ ap (λ m. course_by (word_of kind) x.act (Sends x.act v) (sent m (is_none p) at.depth)) runs)) tt;
  closed = λ over. subst IsSaid (sym (is ∙ ap (λ m. course_by (word_of kind) x.act (Sends x.act v) (sent m (is_none p) at.depth)) over)) tt;
}

-- so is what a throw comes to
pub throws_of : (at : Setting) (objects : List Payload) (g k : Obj) (v : Option Obj) (c : Course) → ThrowsTo at objects g k v c → IsOfGenerator at.generators g c
throws_of at objects g k v c (kind, x, kept, throws) = record {
  generator = x;
  found = kept.kept;
  of_act = throws_of_act at objects kind x x.mode k v c throws;
  idle = λ runs. subst IsSaid (sym (subst (λ m. ThrowsAs at objects kind x m k v c) runs throws)) tt;
  closed = λ over. let (outcome, comes, is) = subst (λ m. ThrowsAs at objects kind x m k v c) over throws in closed_throw kind x at.depth outcome c over is;
}

-- and what a close does
pub closes_of : (at : Setting) (objects : List Payload) (g : Obj) (c : Course) → ClosesTo at objects g c → IsOfGenerator at.generators g c
closes_of at objects g c (kind, x, kept, is) = record {
  generator = x;
  found = kept.kept;
  of_act = subst (IsOfAct x.act) (sym is) (row_of_act (word_of kind) x.act (Throws x.act (BuiltIn GeneratorExit [])) (closed x.mode at.depth) refl tt);
  idle = λ runs. subst IsSaid (sym (is ∙ ap (λ m. course_by (word_of kind) x.act (Throws x.act (BuiltIn GeneratorExit [])) (closed m at.depth)) runs)) tt;
  closed = λ over. subst IsSaid (sym (is ∙ ap (λ m. course_by (word_of kind) x.act (Throws x.act (BuiltIn GeneratorExit [])) (closed m at.depth)) over)) tt;
}

-- the activation that a course enters
abbrev pub EntersAct : ℕ → Course → Type 0
EntersAct b (Says reply) = ⊥
EntersAct b (Enters f vs) = ⊥
EntersAct b (Begins a) = a ≡ b
EntersAct b (Sends a v) = a ≡ b
EntersAct b (Throws a x) = a ≡ b

-- it is its own
enters_own : (a b : ℕ) (c : Course) → IsOfAct a c → EntersAct b c → a ≡ b
enters_own a b (Says reply) of_act enters = absurd enters
enters_own a b (Enters f vs) of_act enters = absurd enters
enters_own a b (Begins d) of_act enters = of_act ∙ enters
enters_own a b (Sends d v) of_act enters = of_act ∙ enters
enters_own a b (Throws d x) of_act enters = of_act ∙ enters

-- a reply enters none
enters_unsaid : (b : ℕ) (c : Course) → IsSaid c → EntersAct b c → ⊥
enters_unsaid b (Says reply) said enters = enters
enters_unsaid b (Enters f vs) said enters = enters
enters_unsaid b (Begins d) said enters = said
enters_unsaid b (Sends d v) said enters = said
enters_unsaid b (Throws d x) said enters = said

-- nor does a call
call_enters_none : (b : ℕ) (refused : Option Name) (kind : Option CoroKind) (depth : ℕ) (f : Obj) (vs : List Obj) → EntersAct b (bound_by refused (made_at kind depth (Enters f vs))) → ⊥
call_enters_none b (Some text) kind depth f vs enters = enters
call_enters_none b None (Some kind) depth f vs enters = enters
call_enters_none b None None depth f vs enters = pick (nat_le most_depth depth) enters
  where
    pick : (deep : Bool) → EntersAct b (if deep then Says (Fails RecursionError (codes "maximum recursion depth exceeded ")) else Enters f vs) → ⊥
    pick true enters = enters
    pick false enters = enters

-- a generator of this activation, which doesn't run
pub record IsIdle (xs : List Generator) (g : Obj) (b : ℕ) : Type 0 where
  pub generator : Generator
  pub found : generator_at xs g ≡ Some generator
  pub act : generator.act ≡ b
  pub idle : generator.mode ≡ Running → ⊥

-- a question of such a generator
abbrev pub IsEntering : List Generator → ℕ → Request → Type 0
IsEntering xs b (request.Send g v) = IsIdle xs g b
IsEntering xs b (request.Throw g k v t) = IsIdle xs g b
IsEntering xs b (request.Close g) = IsIdle xs g b
IsEntering xs b _ = ⊥

-- what a generator's question enters
idle_of : (xs : List Generator) (g : Obj) (b : ℕ) (c : Course) → IsOfGenerator xs g c → EntersAct b c → IsIdle xs g b
idle_of xs g b c of_generator enters = record {
  generator = of_generator.generator;
  found = there (generator_at xs g) refl;
  act = enters_own of_generator.generator.act b c of_generator.of_act enters;
  idle = λ runs. enters_unsaid b c (of_generator.idle runs) enters;
}
  where
    there : (o : Option Generator) → generator_at xs g ≡ o → generator_at xs g ≡ Some of_generator.generator
    there None is = absurd (enters_unsaid b c (of_generator.closed (ap (λ (x : Generator). x.mode) (of_generator.found ∙ ap (kept_or_closed g) is))) enters)
    there (Some x) is = is ∙ ap Some (sym (of_generator.found ∙ ap (kept_or_closed g) is))

-- the call of a function enters none
function_enters_none : (at : Setting) (objects : List Payload) (b : ℕ) (f : Obj) (vs : List Obj) (c : Course) → CallsFunction at objects f vs c → EntersAct b c → ⊥
function_enters_none at objects b f vs c calls enters =
    call_enters_none b (refusal calls.body.name calls.signature.params (length vs)) calls.signature.kind at.depth f vs (subst (EntersAct b) calls.is enters)

-- what any question enters
entering_as : (at : Setting) (objects : List Payload) (b : ℕ) (r : Request) (c : Course) → ComesAs at objects r c → EntersAct b c → IsEntering at.generators b r
entering_as at objects b (request.Call f vs named) c (none, calls) enters = absurd (function_enters_none at objects b f vs c calls enters)
entering_as at objects b (request.Enter m) c (body, has, calls) enters = absurd (function_enters_none at objects b body.enter [] c calls enters)
entering_as at objects b (request.Exit x k v t) c (p, has, calls) enters = absurd (function_enters_none at objects b (exit_of p x) (k ∷ v ∷ t ∷ []) c calls enters)
entering_as at objects b request.Handled c is enters = absurd (subst (EntersAct b) is enters)
entering_as at objects b (request.Send g v) c sends enters = idle_of at.generators g b c (sends_of at objects g v c sends) enters
entering_as at objects b (request.Throw g k v t) c (none, throws) enters = idle_of at.generators g b c (throws_of at objects g k v c throws) enters
entering_as at objects b (request.Close g) c closes enters = idle_of at.generators g b c (closes_of at objects g c closes) enters
entering_as at objects b _ c comes enters = absurd comes

-- so a question that enters an activation is a send, a throw or a close of its generator, which doesn't run
pub entering : (at : Setting) (objects : List Payload) (b : ℕ) (r : Request) (c : Course) → ComesTo at objects r c → EntersAct b c → IsEntering at.generators b r
entering at objects b r c comes enters = elim (comes_as at objects r c comes) [
  | inl replied ↦ absurd (subst (EntersAct b) replied.1 enters)
  | inr as_asked ↦ entering_as at objects b r c as_asked enters
]

-- an activation is entered where it was just made, or where the open question is one of its generator
abbrev pub IsResumed : Plan → Past → ℕ → Type 0
IsResumed plan p b =
    ((f : Obj) × (p.state.phase ≡ Made f) × (b ≡ length p.state.made))
    ⊎ ((p.state.phase ≡ Asking) × ((r : Request) × (question plan p.state ≡ Some r) × IsEntering p.generators b r))

-- by an open question
opens_resumed : (plan : Plan) (objects : List Payload) (p : Past) (b : ℕ) (c : Course) → EntersAct b c → Opens plan objects p c → IsResumed plan p b
opens_resumed plan objects p b c enters (asks, (r, open_, comes)) = inr (asks, (r, open_, entering (setting plan p) objects b r c comes enters))

-- by a start, in each phase
starts_resumed : (plan : Plan) (objects : List Payload) (p : Past) (phase : Phase) (b : ℕ) → p.state.phase ≡ phase → Starts plan objects p phase b → IsResumed plan p b
starts_resumed plan objects p Asking b is opens = opens_resumed plan objects p b (Begins b) refl opens
starts_resumed plan objects p (Made f) b is (last, kind) = inl (f, is, last)
starts_resumed plan objects p _ b is starts = absurd starts

-- so it is, however it is entered
pub resumed : (plan : Plan) (objects : List Payload) (p : Past) (b : ℕ) (h : ResumeHow) → IsEntered plan objects p h b → IsResumed plan p b
resumed plan objects p b how.Start starts = starts_resumed plan objects p p.state.phase b refl starts
resumed plan objects p b (how.Send v) opens = opens_resumed plan objects p b (Sends b v) refl opens
resumed plan objects p b (how.Throw e) (x, opens, raise) = opens_resumed plan objects p b (Throws b x) refl opens
