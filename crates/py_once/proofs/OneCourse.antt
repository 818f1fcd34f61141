-- A question comes to one thing in one setting, and has one reply where the activation that it entered was left.
use Rattle.std.proofs.Common.{◌≡◌, ◌⊎◌, Bool, true, false, List, [], ◌∷◌, Option, Some, inl, inr, refl, sym, subst, ap, ◌∙◌}
use Rattle.std.specs.Prelude.{slice_get, codes}
use Rattle.std.proofs.lemmas.Option.{same_Some}
use Rattle.py_objects.specs.declared.payload.Payload.{Payload}
use Rattle.py_objects.specs.declared.payload.Payload.TheVariants as payload
use Rattle.py_objects.specs.declared.payload.CoroBody.{CoroBody}
use Rattle.py_objects.specs.declared.payload.CoroKind.{CoroKind}
use Rattle.py_objects.specs.declared.payload.FunctionBody.{FunctionBody}
use Rattle.py_objects.specs.declared.error_kind.ErrorKind.TheVariants.{GeneratorExit}
use Rattle.py_objects.specs.declared.request.Request.{Request}
use Rattle.py_objects.specs.declared.request.Request.TheVariants as request
use Rattle.py_objects.specs.Objects.{Obj, Name, HasPayload}
use Rattle.py_objects.specs.Values.{is_none}
use Rattle.py_objects.specs.Callees.{is_manager}
use Rattle.py_exceptions.specs.Normalizing.{Normalizes}
use Rattle.py_exceptions.specs.declared.ctor.Instantiate.{Instantiate}
use Rattle.py_coro.specs.declared.coro.CoroEnd.{CoroEnd}
use Rattle.py_coro.specs.declared.coro.CoroEnd.TheVariants as left
use Rattle.py_coro.specs.declared.coro.CoroAnswer.{CoroAnswer}
use Rattle.py_coro.specs.declared.refusal.CoroRefusal.TheVariants as refused
use Rattle.py_coro.specs.Modes.{Mode, Fresh, Suspended, Running, Closed, sent, closed}
use Rattle.py_coro.specs.Leaving.{Finishes}
use Rattle.py_coro.specs.Refusals.{refused as fault_of, word_of}
use Rattle.py_answers.specs.Answers.{This, BuiltIn, Reply, Is, Passes, CallsAs, LacksAs, Lacks, Replies}
use Rattle.py_run.specs.Run.{Signature}
use Rattle.py_run.specs.Generators.{Generator}
use Rattle.py_run.specs.Calls.{Course, Says, Sends, Throws, reraised, Setting, failing, course_by, throws_by, exit_of, CallsFunction, IsKept, ThrowsAs, SendsTo, ThrowsTo, ClosesTo, EntersTo, ExitsTo, ComesTo, LeavesCalled, reply_by, LeavesGenerator, IsDue}
use Rattle.py_run.proofs.CoursesLemmas.{ComesAs, comes_as}
use Rattle.py_once.specs.Laws.{AtMostOne}
use Rattle.py_once.proofs.PayloadsOnce.{said_once, some_once, by_one, one_payload, by_payload, one_function, one_manager, one_generator}
use Rattle.py_once.proofs.ThrownOnce.{normalizes_once, finishes_once}
use Rattle.py_once.proofs.OneReply.{replies_once}

-- what is left by anything but a manager is called itself
exit_itself : (p : Payload) (x : Obj) → is_manager p ≡ false → exit_of p x ≡ x
exit_itself (payload.Manager m) x other = absurd (cc other)
exit_itself _ x other = refl

-- a function has one signature
pub one_signature : (signatures : List Signature) (f g : FunctionBody) (x y : Signature) → f ≡ g
    → slice_get signatures f.code ≡ Some x → slice_get signatures g.code ≡ Some y → x ≡ y
one_signature signatures f g x y same is is' = same_Some x y (sym is ∙ (ap (λ (b : FunctionBody). slice_get signatures b.code) same ∙ is'))

module _ (objects : List Payload) where
  -- ---- where activations were left

  called_once : (how : CoroEnd) → AtMostOne (LeavesCalled how)
  called_once (left.Yield v) = λ x y is is'. absurd is
  called_once (left.Return v) = said_once (Is v)
  called_once (left.Raise e) = said_once (Passes (This e))

  -- a generator of this kind answers this
  abbrev Answers : CoroKind → Bool → CoroEnd → Reply → Type 0
  Answers kind closing how reply = (a : CoroAnswer) × Finishes objects kind closing how a × (reply ≡ reply_by (word_of kind) a)

  answers_once : (kind : CoroKind) (closing : Bool) (how : CoroEnd) → AtMostOne (Answers kind closing how)
  answers_once kind closing how =
      by_one (Finishes objects kind closing how) (λ a reply. reply ≡ reply_by (word_of kind) a)
      (finishes_once objects kind closing how) (λ a. said_once (reply_by (word_of kind) a))

  generator_once : (g : Obj) (closing : Bool) (how : CoroEnd) → AtMostOne (LeavesGenerator objects g closing how)
  generator_once g closing how x y (body, has, a, finishes, is) (body', has', a', finishes', is') =
      by_one (λ b. HasPayload objects g (payload.Generator b)) (λ b. Answers b.kind closing how) (one_generator objects g)
      (λ b. answers_once b.kind closing how) x y (body, has, (a, finishes, is)) (body', has', (a', finishes', is'))

  -- one reply is due
  pub due_once : (r : Request) (how : CoroEnd) → AtMostOne (IsDue objects r how)
  due_once (request.Call f vs named) how = λ x y is is'. called_once how x y is.1 is'.1
  due_once (request.Send g v) how = generator_once g false how
  due_once (request.Throw g k v t) how = λ x y is is'. generator_once g false how x y is.1 is'.1
  due_once (request.Close g) how = generator_once g true how
  due_once (request.Enter m) how = called_once how
  due_once (request.Exit x k v t) how = called_once how
  due_once _ how = λ x y is is'. absurd is

  module _ (at : Setting) where
    -- ---- courses

    function_once : (f : Obj) (vs : List Obj) → AtMostOne (CallsFunction at objects f vs)
    function_once f vs c d calls calls' =
        let body : calls.body ≡ calls'.body = one_function objects f calls.body calls'.body calls.entry calls'.entry in
        let signature : calls.signature ≡ calls'.signature = one_signature at.signatures calls.body calls'.body _ _ body calls.signed calls'.signed in
        cc (calls.is, calls'.is)

    -- what is said of a generator, by its kind and how it stands
    by_kept : (g : Obj) (R : CoroKind → Generator → Course → Type 0) → ((kind : CoroKind) (x : Generator) → AtMostOne (R kind x))
        → AtMostOne (λ c. (kind : CoroKind) × (x : Generator) × IsKept at objects g kind x × R kind x c)
    by_kept g R once c d (kind, x, kept, is) (kind', y, kept', is') =
        let body : kept'.body ≡ kept.body = one_generator objects g kept'.body kept.body kept'.entry kept.entry in
        let kinds : kind' ≡ kind = sym kept'.kind_is ∙ (ap (λ (b : CoroBody). b.kind) body ∙ kept.kind_is) in
        let stands : y ≡ x = kept'.kept ∙ sym kept.kept in
        once kind x c d is (subst (λ z. R z x d) kinds (subst (λ z. R kind' z d) stands is'))

    -- what a send of a value of this payload comes to
    abbrev course_of : Obj → CoroKind → Generator → Payload → Course
    course_of v kind x p = course_by (word_of kind) x.act (Sends x.act v) (sent x.mode (is_none p) at.depth)

    sends_once : (g v : Obj) → AtMostOne (SendsTo at objects g v)
    sends_once g v c d (kind, x, kept, p, has, is) (kind', x', kept', p', has', is') =
        by_kept g (λ kind x c. (p : Payload) × HasPayload objects v p × (c ≡ course_of v kind x p))
        (λ kind x. by_payload objects v (λ p c. c ≡ course_of v kind x p) (λ p. said_once (course_of v kind x p)))
        c d (kind, x, kept, (p, has, is)) (kind', x', kept', (p', has', is'))

    normalized_once : (kind : CoroKind) (x : Generator) (k : Obj) (v : Option Obj)
        → AtMostOne (λ c. (o : Instantiate) × Normalizes objects k v o × (throws_by kind x at.depth o ≡ Some c))
    normalized_once kind x k v =
        by_one (Normalizes objects k v) (λ o c. throws_by kind x at.depth o ≡ Some c)
        (normalizes_once objects k v) (λ o. some_once (throws_by kind x at.depth o))

    throws_as_once : (kind : CoroKind) (x : Generator) (mode : Mode) (k : Obj) (v : Option Obj) → AtMostOne (ThrowsAs at objects kind x mode k v)
    throws_as_once kind x Fresh k v = normalized_once kind x k v
    throws_as_once kind x Suspended k v = normalized_once kind x k v
    throws_as_once kind x Running k v = said_once (failing (fault_of (word_of kind) refused.Running))
    throws_as_once kind x Closed k v = normalized_once kind x k v

    throws_once : (g k : Obj) (v : Option Obj) → AtMostOne (ThrowsTo at objects g k v)
    throws_once g k v = by_kept g (λ kind x c. ThrowsAs at objects kind x x.mode k v c) (λ kind x. throws_as_once kind x x.mode k v)

    closes_once : (g : Obj) → AtMostOne (ClosesTo at objects g)
    closes_once g =
        by_kept g (λ kind x c. c ≡ course_by (word_of kind) x.act (Throws x.act (BuiltIn GeneratorExit [])) (closed x.mode at.depth))
        (λ kind x. said_once (course_by (word_of kind) x.act (Throws x.act (BuiltIn GeneratorExit [])) (closed x.mode at.depth)))

    enters_once : (m : Obj) → AtMostOne (EntersTo at objects m)
    enters_once m =
        by_one (λ b. HasPayload objects m (payload.Manager b)) (λ b. CallsFunction at objects b.enter []) (one_manager objects m)
        (λ b. function_once b.enter [])

    exits_once : (x : Obj) (told : List Obj) → AtMostOne (ExitsTo at objects x told)
    exits_once x told = by_payload objects x (λ p. CallsFunction at objects (exit_of p x) told) (λ p. function_once (exit_of p x) told)

    as_once : (r : Request) → AtMostOne (ComesAs at objects r)
    as_once (request.Call f vs named) = λ c d is is'. function_once f vs c d is.1 is'.1
    as_once request.Handled = said_once (Says (reraised at.handled))
    as_once (request.Send g v) = sends_once g v
    as_once (request.Throw g k v t) = λ c d is is'. throws_once g k v c d is.1 is'.1
    as_once (request.Close g) = closes_once g
    as_once (request.Enter m) = enters_once m
    as_once (request.Exit x k v t) = exits_once x (k ∷ v ∷ t ∷ [])
    as_once _ = λ c d is is'. absurd is

    -- ---- what is answered at once is nothing else

    no_function : (f : Obj) (vs : List Obj) (p : Payload) (reply : Reply) (c : Course) → HasPayload objects f p → CallsAs objects f p vs reply
        → CallsFunction at objects f vs c → ⊥
    no_function f vs p reply c has replied calls =
        subst (λ q. CallsAs objects f q vs reply) (one_payload objects f p (payload.Function calls.body) has calls.entry) replied

    no_generator : (x : Name) (g : Obj) (kind : CoroKind) (y : Generator) (reply : Reply) → Lacks objects x g reply → IsKept at objects g kind y → ⊥
    no_generator x g kind y reply (p, has, lacks) kept =
        subst (λ q. LacksAs objects x q reply) (one_payload objects g p (payload.Generator kept.body) has kept.entry) lacks

    never_both : (r : Request) (reply : Reply) (c : Course) → Replies objects r reply → ComesAs at objects r c → ⊥
    never_both (request.Call f vs named) reply c (none, (p, has, replied)) (none', calls) = no_function f vs p reply c has replied calls
    never_both (request.Send g v) reply c lacks (kind, x, kept, p, has, is) = no_generator (codes "send") g kind x reply lacks kept
    never_both (request.Throw g k v t) reply c lacks (none, (kind, x, kept, is)) = no_generator (codes "throw") g kind x reply lacks kept
    never_both (request.Close g) reply c lacks (kind, x, kept, is) = no_generator (codes "close") g kind x reply lacks kept
    never_both (request.Enter m) reply c (p, has, other, refuses) (body, has', calls) =
        absurd (cc (subst (λ q. is_manager q ≡ false) (one_payload objects m p (payload.Manager body) has has') other))
    never_both (request.Exit x k v t) reply c (p, has, other, replied) (q, has', calls) =
        let itself : exit_of q x ≡ x = exit_itself q x (subst (λ z. is_manager z ≡ false) (one_payload objects x p q has has') other) in
        no_function x (k ∷ v ∷ t ∷ []) p reply c has replied (subst (λ f. CallsFunction at objects f (k ∷ v ∷ t ∷ []) c) itself calls)
    never_both request.Handled reply c replied as_asked = replied
    never_both _ reply c replied as_asked = as_asked

    came_once : (r : Request) (c d : Course) → ((reply : Reply) × (c ≡ Says reply) × Replies objects r reply) ⊎ ComesAs at objects r c
        → ((reply : Reply) × (d ≡ Says reply) × Replies objects r reply) ⊎ ComesAs at objects r d → c ≡ d
    came_once r c d (inl (reply, is, replied)) (inl (reply', is', replied')) =
        is ∙ (ap Says (replies_once objects r reply reply' replied replied') ∙ sym is')
    came_once r c d (inl (reply, is, replied)) (inr as_asked) = absurd (never_both r reply d replied as_asked)
    came_once r c d (inr as_asked) (inl (reply, is, replied)) = absurd (never_both r reply c replied as_asked)
    came_once r c d (inr a) (inr b) = as_once r c d a b

    -- a question comes to one thing
    pub comes_once : (r : Request) → AtMostOne (ComesTo at objects r)
    comes_once r c d a b = came_once r c d (comes_as at objects r c a) (comes_as at objects r d b)
