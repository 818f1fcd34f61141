-- Activations that were made have arguments that bind, and runs go over to more signatures.
use Rattle.std.proofs.Common.{◌≡◌, ◌≤◌, ℕ, zero, suc, List, [], ◌∷◌, Bool, true, false, Some, None, ◌⊎◌, inl, inr, refl, sym, ap, subst, ◌∙◌, length, arith, nat_le, nat_lt}
use Rattle.std.specs.Prelude.{Option, slice_get, drop, if◌then◌else◌, codes}
use Rattle.std.proofs.lemmas.Bool.{ltb-false}
use Rattle.py_objects.specs.declared.error_kind.ErrorKind.TheVariants.{RecursionError}
use Rattle.py_objects.specs.declared.payload.Payload.{Payload}
use Rattle.py_objects.specs.declared.payload.Payload.TheVariants as payload
use Rattle.py_objects.specs.declared.payload.FunctionBody.{FunctionBody}
use Rattle.py_objects.specs.declared.payload.ManagerBody.{ManagerBody}
use Rattle.py_objects.specs.declared.payload.CoroKind.{CoroKind}
use Rattle.py_objects.specs.declared.request.Keywords.{Keywords}
use Rattle.py_objects.specs.declared.request.Keywords.TheVariants as keywords
use Rattle.py_objects.specs.declared.request.Request.{Request}
use Rattle.py_objects.specs.declared.request.Request.TheVariants as request
use Rattle.py_objects.specs.declared.event.Event.{Event}
use Rattle.py_objects.specs.declared.event.Event.TheVariants as event
use Rattle.py_objects.specs.declared.event.ResumeHow.{ResumeHow}
use Rattle.py_objects.specs.declared.event.ResumeHow.TheVariants as how
use Rattle.py_objects.specs.Objects.{Obj, Name, HasPayload}
use Rattle.py_objects.proofs.GrowthLemmas.{slice_get_split, one_entry}
use Rattle.py_answers.specs.Answers.{Reply, Fails}
use Rattle.py_coro.specs.Modes.{Mode, Fresh, Suspended, Running, Closed, most_depth}
use Rattle.py_run.specs.Calls.{Course, Says, Enters, Begins, Sends, Throws, refusal, missing_if, too_many, made_at, bound_by, Setting, CallsFunction, exit_of, IsKept, ThrowsAs, ComesTo}
use Rattle.py_run.specs.Run.{Signature, Plan, Phase, Asking, Made, Due, Activation, State, start, after, state_after}
use Rattle.py_run.specs.Generators.{Generator, generators_after}
use Rattle.py_run.specs.Coming.{Past, nothing, past_after, setting, IsOfKind, Opens, Starts, IsEntered, IsReply, IsAnswered, IsFormed, MayCome, Comes}
use Rattle.py_run.specs.Past.{past_behind}
use Rattle.py_run.proofs.PastLemmas.{past_state}
use Rattle.py_run.proofs.CoursesLemmas.{ComesAs, comes_as, sends_of, throws_of, closes_of}

-- a function was made an activation of with as many arguments as its signature has parameters
pub record IsBound (signatures : List Signature) (objects : List Payload) (a : Activation) : Type 0 where
  pub body : FunctionBody
  pub is_function : HasPayload objects a.function (payload.Function body)
  pub signature : Signature
  pub is_signature : slice_get signatures body.code ≡ Some signature
  pub binds : length a.args ≡ length signature.params

-- nothing is missing where nothing is left
none_missing : (f : Name) (xs : List Name) (n : ℕ) → missing_if f (drop n xs) ≡ None → length xs ≤ n
none_missing f [] n none = omega arith
none_missing f (x ∷ xs) zero none = absurd (cc none)
none_missing f (x ∷ xs) (suc n) none = let rest = none_missing f xs n none in omega (arith, rest)

-- arguments that aren't refused are as many as the parameters
pub not_refused : (f : Name) (xs : List Name) (n : ℕ) → refusal f xs n ≡ None → n ≡ length xs
not_refused f xs n none = go (nat_lt (length xs) n) refl
  where
    go : (b : Bool) → b ≡ nat_lt (length xs) n → n ≡ length xs
    go true more = absurd (let clash : Some (too_many f (length xs) n) ≡ None = ap (λ c. if c then Some (too_many f (length xs) n) else missing_if f (drop n xs)) more ∙ none in cc clash)
    go false few =
        let rest : missing_if f (drop n xs) ≡ None = ap (λ c. if c then Some (too_many f (length xs) n) else missing_if f (drop n xs)) few ∙ none in
        let long : length xs ≤ n = none_missing f xs n rest in
        let short : n ≤ length xs = ltb-false (length xs) n (sym few) in
        omega (arith, long, short)

-- what enters says nothing
enters_not : (f : Obj) (vs : List Obj) (reply : Reply) → Enters f vs ≡ Says reply → ⊥
enters_not f vs reply is = cc is

-- a call that enters isn't refused
entered_binds : (refused : Option Name) (g : Obj) (ws : List Obj) (c : Course) → Enters g ws ≡ bound_by refused c → refused ≡ None
entered_binds None g ws c is = refl
entered_binds (Some text) g ws c is = absurd (enters_not g ws _ is)

-- nor is it too deep
entered_room : (deep : Bool) (g : Obj) (ws : List Obj) (reply : Reply) (c : Course) → Enters g ws ≡ (if deep then Says reply else c) → Enters g ws ≡ c
entered_room true g ws reply c is = absurd (enters_not g ws reply is)
entered_room false g ws reply c is = is

-- so what it enters is what is called
entered_is : (kind : Option CoroKind) (depth : ℕ) (refused : Option Name) (g : Obj) (ws : List Obj) (c : Course) → Enters g ws ≡ bound_by refused (made_at kind depth c) → Enters g ws ≡ c
entered_is None depth None g ws c is = entered_room (nat_le most_depth depth) g ws (Fails RecursionError (codes "maximum recursion depth exceeded ")) c is
entered_is (Some kind) depth None g ws c is = is
entered_is kind depth (Some text) g ws c is = absurd (enters_not g ws _ is)

-- what is entered by a call is a function, to whose parameters the arguments bind
pub calls_bind : (at : Setting) (objects : List Payload) (f g : Obj) (vs ws : List Obj) → CallsFunction at objects f vs (Enters g ws)
    → IsBound at.signatures objects (record { function = f; args = vs })
calls_bind at objects f g vs ws calls = record {
  body = calls.body;
  is_function = calls.entry;
  signature = calls.signature;
  is_signature = calls.signed;
  binds = not_refused calls.body.name calls.signature.params (length vs)
      (entered_binds (refusal calls.body.name calls.signature.params (length vs)) g ws (made_at calls.signature.kind at.depth (Enters f vs)) calls.is);
}

-- it is the callee, with the arguments of the call
pub calls_enter : (at : Setting) (objects : List Payload) (f g : Obj) (vs ws : List Obj) → CallsFunction at objects f vs (Enters g ws) → Enters g ws ≡ Enters f vs
calls_enter at objects f g vs ws calls = entered_is calls.signature.kind at.depth (refusal calls.body.name calls.signature.params (length vs)) g ws (Enters f vs) calls.is

-- a call that makes an activation of a function is one of it, with these arguments
function_made : (at : Setting) (objects : List Payload) (g f : Obj) (ws vs : List Obj) → CallsFunction at objects g ws (Enters f vs)
    → (f ≡ g) × (vs ≡ ws) × CallsFunction at objects f vs (Enters f vs)
function_made at objects g f ws vs calls =
    let same : Enters f vs ≡ Enters g ws = calls_enter at objects g f ws vs calls in
    let callee : f ≡ g = cc same in
    let args : vs ≡ ws = cc same in
    (callee, args, subst (λ x. CallsFunction at objects f x (Enters f vs)) (sym args) (subst (λ x. CallsFunction at objects x ws (Enters f vs)) (sym callee) calls))

-- a call that enters a function calls it, with these arguments
call_enters : (at : Setting) (objects : List Payload) (g f : Obj) (ws vs : List Obj) (named : Keywords) → named ≡ keywords.None → CallsFunction at objects g ws (Enters f vs)
    → (request.Call g ws named ≡ request.Call f vs keywords.None) × CallsFunction at objects f vs (Enters f vs)
call_enters at objects g f ws vs named none calls =
    let (callee, args, made) = function_made at objects g f ws vs calls in
    (ap (request.Call g ws) none ∙ (ap (λ x. request.Call x ws keywords.None) (sym callee) ∙ ap (λ x. request.Call f x keywords.None) (sym args)), made)

-- what a question that makes an activation of a function with these arguments asks: its call, the entry of a manager whose enter function it is, or an
-- exit by the call of it
abbrev pub IsMaking : List Payload → Request → Obj → List Obj → Type 0
IsMaking objects (request.Call g ws named) f vs = request.Call g ws named ≡ request.Call f vs keywords.None
IsMaking objects (request.Enter m) f vs = (body : ManagerBody) × HasPayload objects m (payload.Manager body) × (f ≡ body.enter) × (vs ≡ [])
IsMaking objects (request.Exit x k v t) f vs = (p : Payload) × HasPayload objects x p × (f ≡ exit_of p x) × (vs ≡ k ∷ v ∷ t ∷ [])
IsMaking objects _ f vs = ⊥

-- a question of another kind enters none
as_call : (at : Setting) (objects : List Payload) (r : Request) (f : Obj) (vs : List Obj) → ComesAs at objects r (Enters f vs)
    → IsMaking objects r f vs × CallsFunction at objects f vs (Enters f vs)
as_call at objects (request.Call g ws named) f vs (none, calls) = call_enters at objects g f ws vs named none calls
as_call at objects (request.Enter m) f vs (body, has, calls) = let (callee, args, made) = function_made at objects body.enter f [] vs calls in ((body, has, callee, args), made)
as_call at objects (request.Exit x k v t) f vs (p, has, calls) =
    let (callee, args, made) = function_made at objects (exit_of p x) f (k ∷ v ∷ t ∷ []) vs calls in ((p, has, callee, args), made)
as_call at objects request.Handled f vs is = absurd (enters_not f vs _ is)
as_call at objects (request.Send g v) f vs sends = absurd (sends_of at objects g v (Enters f vs) sends).of_act
as_call at objects (request.Throw g k v t) f vs (none, throws) = absurd (throws_of at objects g k v (Enters f vs) throws).of_act
as_call at objects (request.Close g) f vs closes = absurd (closes_of at objects g (Enters f vs) closes).of_act
as_call at objects _ f vs comes = absurd comes

-- so a question that enters a function comes to its call
pub enters_call : (at : Setting) (objects : List Payload) (r : Request) (f : Obj) (vs : List Obj) → ComesTo at objects r (Enters f vs)
    → IsMaking objects r f vs × CallsFunction at objects f vs (Enters f vs)
enters_call at objects r f vs comes = elim (comes_as at objects r (Enters f vs) comes) [
  | inl replied ↦ absurd (enters_not f vs replied.0 replied.1)
  | inr as_asked ↦ as_call at objects r f vs as_asked
]

-- each activation that was made
abbrev pub AreBound : List Signature → List Payload → List Activation → Type 0
AreBound signatures objects made = (i : ℕ) (a : Activation) → slice_get made i ≡ Some a → IsBound signatures objects a

-- they are bound behind one more event, where they were before
bound_after : (plan : Plan) (objects : List Payload) (p : Past) (e : Event) → MayCome plan objects p e → AreBound plan.signatures objects p.state.made
    → AreBound plan.signatures objects (after p.state e).made
bound_after plan objects p (event.Make a f vs) (next, (asks, (r, open_, comes))) bound = λ i x here. elim (slice_get_split p.state.made (record { function = f; args = vs } ∷ []) i x here) [
  | inl front ↦ bound i x front
  | inr back ↦ subst (IsBound plan.signatures objects) (one_entry (record { function = f; args = vs }) x _ back)
      (calls_bind (setting plan p) objects f f vs vs (enters_call (setting plan p) objects r f vs comes).1)
]
bound_after plan objects p _ may bound = bound

-- and behind more events
bound_from : (plan : Plan) (objects : List Payload) (p : Past) (es : List Event) → Comes plan objects p es → AreBound plan.signatures objects p.state.made
    → AreBound plan.signatures objects (past_behind plan p es).state.made
bound_from plan objects p [] comes bound = bound
bound_from plan objects p (e ∷ es) comes bound = bound_from plan objects (past_after plan p e) es comes.1 (bound_after plan objects p e comes.0 bound)

-- in a run each activation that was made is bound
pub comes_bound : (plan : Plan) (objects : List Payload) (events : List Event) → Comes plan objects nothing events → AreBound plan.signatures objects (state_after start events).made
comes_bound plan objects events comes =
    subst (λ (s : State). AreBound plan.signatures objects s.made) (past_state plan events) (bound_from plan objects nothing events comes (λ i a none. absurd (cc none)))

-- signatures are the same where there are more
abbrev pub AreSigned : List Signature → List Signature → Type 0
AreSigned xs ys = (i : ℕ) (s : Signature) → slice_get xs i ≡ Some s → slice_get ys i ≡ Some s

-- a question among other signatures
abbrev pub among : Setting → List Signature → Setting
among at ys = record at { signatures = ys }

module _ (at : Setting) (ys : List Signature) (objects : List Payload) (signed : AreSigned at.signatures ys) where
  -- what the call of a function comes to stays among more signatures
  calls_signed : (f : Obj) (vs : List Obj) (c : Course) → CallsFunction at objects f vs c → CallsFunction (among at ys) objects f vs c
  calls_signed f vs c calls = record { body = calls.body; entry = calls.entry; signature = calls.signature; signed = signed calls.body.code calls.signature calls.signed; is = calls.is }

  -- a generator stays one
  kept_signed : (g : Obj) (kind : CoroKind) (x : Generator) → IsKept at objects g kind x → IsKept (among at ys) objects g kind x
  kept_signed g kind x kept = record { body = kept.body; entry = kept.entry; kind_is = kept.kind_is; kept = kept.kept }

  -- what a throw comes to stays, in each mode
  throws_signed : (kind : CoroKind) (x : Generator) (m : Mode) (k : Obj) (v : Option Obj) (c : Course) → ThrowsAs at objects kind x m k v c → ThrowsAs (among at ys) objects kind x m k v c
  throws_signed kind x Fresh k v c throws = throws
  throws_signed kind x Suspended k v c throws = throws
  throws_signed kind x Running k v c throws = throws
  throws_signed kind x Closed k v c throws = throws

  -- so does what a question comes to
  comes_to_signed : (r : Request) (c : Course) → ComesTo at objects r c → ComesTo (among at ys) objects r c
  comes_to_signed r c (inl replied) = inl replied
  comes_to_signed r c (inr (inl (f, vs, is, calls))) = inr (inl (f, vs, is, calls_signed f vs c calls))
  comes_to_signed r c (inr (inr (inl asks))) = inr (inr (inl asks))
  comes_to_signed r c (inr (inr (inr (inl (g, v, is, (kind, x, kept, p, has, course)))))) = inr (inr (inr (inl (g, v, is, (kind, x, kept_signed g kind x kept, p, has, course)))))
  comes_to_signed r c (inr (inr (inr (inr (inl (g, k, v, is, (kind, x, kept, throws))))))) =
      inr (inr (inr (inr (inl (g, k, v, is, (kind, x, kept_signed g kind x kept, throws_signed kind x x.mode k v c throws))))))
  comes_to_signed r c (inr (inr (inr (inr (inr (inl (g, is, (kind, x, kept, course)))))))) = inr (inr (inr (inr (inr (inl (g, is, (kind, x, kept_signed g kind x kept, course)))))))
  comes_to_signed r c (inr (inr (inr (inr (inr (inr (inl (m, is, (body, has, calls))))))))) = inr (inr (inr (inr (inr (inr (inl (m, is, (body, has, calls_signed body.enter [] c calls))))))))
  comes_to_signed r c (inr (inr (inr (inr (inr (inr (inr (x, k, v, t, is, (p, has, calls))))))))) =
      inr (inr (inr (inr (inr (inr (inr (x, k, v, t, is, (p, has, calls_signed (exit_of p x) (k ∷ v ∷ t ∷ []) c calls))))))))

-- a plan over other signatures
abbrev pub signed_by : Plan → List Signature → Plan
signed_by plan ys = record plan { signatures = ys }

module _ (plan : Plan) (ys : List Signature) (objects : List Payload) (signed : AreSigned plan.signatures ys) where
  -- so does what the open question comes to
  opens_signed : (p : Past) (c : Course) → Opens plan objects p c → Opens (signed_by plan ys) objects p c
  opens_signed p c (asks, (r, open_, comes)) = (asks, (r, open_, comes_to_signed (setting plan p) ys objects signed r c comes))

  -- a function is of the same kind
  abbrev of_kind_signed : (f : Obj) (kind : Option CoroKind) → IsOfKind plan objects f kind → IsOfKind (signed_by plan ys) objects f kind
  of_kind_signed f kind is = record { body = is.body; entry = is.entry; signature = is.signature; signed = signed is.body.code is.signature is.signed; kind_is = is.kind_is }

  -- an activation starts as before
  starts_signed : (p : Past) (phase : Phase) (a : ℕ) → Starts plan objects p phase a → Starts (signed_by plan ys) objects p phase a
  starts_signed p Asking a opens = opens_signed p (Begins a) opens
  starts_signed p (Made f) a (last, kind) = (last, of_kind_signed f None kind)
  starts_signed p _ a starts = absurd starts

  -- so it is entered
  entered_signed : (p : Past) (h : ResumeHow) (a : ℕ) → IsEntered plan objects p h a → IsEntered (signed_by plan ys) objects p h a
  entered_signed p how.Start a starts = starts_signed p p.state.phase a starts
  entered_signed p (how.Send v) a opens = opens_signed p (Sends a v) opens
  entered_signed p (how.Throw e) a (x, opens, raise) = (x, opens_signed p (Throws a x) opens, raise)

  -- a reply stays one, in each phase
  reply_signed : (p : Past) (phase : Phase) (r : Request) (reply : Reply) → IsReply plan objects p phase r reply → IsReply (signed_by plan ys) objects p phase r reply
  reply_signed p Asking r reply comes = comes_to_signed (setting plan p) ys objects signed r (Says reply) comes
  reply_signed p (Made f) r reply (kind, of_kind, is) = (kind, of_kind_signed f (Some kind) of_kind, is)
  reply_signed p (Due how) r reply due = due
  reply_signed p _ r reply is = absurd is

  -- what the open question is answered stays
  answered_signed : (p : Past) (reply : Reply) → IsAnswered plan objects p reply → IsAnswered (signed_by plan ys) objects p reply
  answered_signed p reply (r, open_, is) = (r, open_, reply_signed p p.state.phase r reply is)

  -- so does what a drive is answered
  result_signed : (p : Past) (reply : Reply) → IsAnswered plan objects p reply ⊎ IsFormed plan objects p reply → IsAnswered (signed_by plan ys) objects p reply ⊎ IsFormed (signed_by plan ys) objects p reply
  result_signed p reply (inl answered) = inl (answered_signed p reply answered)
  result_signed p reply (inr formed) = inr formed

  -- an event that may come still may
  may_come_signed : (p : Past) (e : Event) → MayCome plan objects p e → MayCome (signed_by plan ys) objects p e
  may_come_signed p (event.Result d w) (next, alone, inl (reply, answered, gives)) = (next, alone, inl (reply, result_signed p reply answered, gives))
  may_come_signed p (event.Result d w) (next, alone, inr reported) = (next, alone, inr reported)
  may_come_signed p (event.Make a f vs) (next, opens) = (next, opens_signed p (Enters f vs) opens)
  may_come_signed p (event.Resume a h) enters = entered_signed p h a enters
  may_come_signed p (event.Got a w) (top, (reply, answered, gives)) = (top, (reply, answered_signed p reply answered, gives))
  may_come_signed p _ may = may

  -- it leaves the same generators
  same_generators : (s : State) (xs : List Generator) (e : Event) → generators_after (signed_by plan ys) s xs e ≡ generators_after plan s xs e
  same_generators s xs (event.Result d w) = refl
  same_generators s xs (event.Got a w) = refl
  same_generators s xs _ = refl

  -- a run goes over to more signatures
  pub comes_signed : (p : Past) (es : List Event) → Comes plan objects p es → Comes (signed_by plan ys) objects p es
  comes_signed p [] comes = tt
  comes_signed p (e ∷ es) comes = (
    may_come_signed p e comes.0,
    subst (λ xs. Comes (signed_by plan ys) objects (record (past_after plan p e) { generators = xs }) es) (sym (same_generators p.state p.generators e)) (comes_signed (past_after plan p e) es comes.1),
  )
