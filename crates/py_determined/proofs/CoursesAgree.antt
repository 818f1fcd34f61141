-- The same question comes to the same in two runs whose objects are alike, and has the same reply where what it entered was left the same.
use Rattle.std.proofs.Common.{◌≡◌, ℕ, suc, List, [], ◌∷◌, Bool, true, false, ◌||◌, eqb, Some, None, inl, inr, refl, sym, ap, subst, ◌∙◌, ◌⊎◌, length, nat_le}
use Rattle.std.specs.Prelude.{Option, slice_get, if◌then◌else◌, codes}
use Rattle.std.proofs.lemmas.Option.{same_Some}
use Rattle.py_objects.specs.declared.payload.Payload.{Payload}
use Rattle.py_objects.specs.declared.payload.Payload.TheVariants as payload
use Rattle.py_objects.specs.declared.payload.CoroBody.{CoroBody}
use Rattle.py_objects.specs.declared.payload.CoroKind.{CoroKind}
use Rattle.py_objects.specs.declared.payload.Fault.{Fault}
use Rattle.py_objects.specs.declared.payload.FunctionBody.{FunctionBody}
use Rattle.py_objects.specs.declared.error_kind.ErrorKind.TheVariants.{GeneratorExit, RecursionError}
use Rattle.py_objects.specs.declared.refs.PyBaseExceptionRef.{PyBaseExceptionRef}
use Rattle.py_objects.specs.declared.request.Keywords.TheVariants as keywords
use Rattle.py_objects.specs.declared.request.Request.{Request}
use Rattle.py_objects.specs.declared.request.Request.TheVariants as request
use Rattle.py_objects.specs.Objects.{Obj, Name, HasPayload}
use Rattle.py_objects.specs.Values.{is_none}
use Rattle.py_objects.specs.Callees.{is_manager}
use Rattle.py_exceptions.specs.declared.ctor.Instantiate.{Instantiate}
use Rattle.py_exceptions.specs.declared.ctor.Instantiate.TheVariants as comes
use Rattle.py_exceptions.specs.Normalizing.{Normalizes}
use Rattle.py_coro.specs.declared.coro.CoroEnd.{CoroEnd}
use Rattle.py_coro.specs.declared.coro.CoroEnd.TheVariants as left
use Rattle.py_coro.specs.declared.coro.CoroAnswer.{CoroAnswer}
use Rattle.py_coro.specs.declared.coro.CoroAnswer.TheVariants as answer
use Rattle.py_coro.specs.declared.refusal.CoroRefusal.TheVariants as refused
use Rattle.py_coro.specs.Modes.{Mode, Fresh, Suspended, Running, Closed, Row, Stops as RowStops, Raises as RowRaises, Done as RowDone, Starts as RowStarts, Sends as RowSends, Throws as RowThrows, Exits as RowExits, Refuses as RowRefuses, most_depth, sent, thrown, closed}
use Rattle.py_coro.specs.Leaving.{Finishes}
use Rattle.py_coro.specs.Refusals.{refused as fault_of, stopping, too_deep, word_of}
use Rattle.py_answers.specs.Answers.{This, Called, BuiltIn, Reply, Is, Fails, Passes, CallsAs, Calls, LacksAs, Lacks, RefusesEntry, CallsExit, Replies}
use Rattle.py_run.specs.Run.{Signature}
use Rattle.py_run.specs.Generators.{Generator, generator_at}
use Rattle.py_run.specs.Calls.{Course, Says, Enters, Sends, Throws, refusal, entry_at, bound_by, reraised, made_at, Setting, unthrown, course_by, throws_by, kept_or_closed, exit_of, CallsFunction, IsKept, ThrowsAs, SendsTo, ThrowsTo, ClosesTo, EntersTo, ExitsTo, ComesTo, LeavesCalled, reply_by, LeavesGenerator, IsDue}
use Rattle.py_run.proofs.CoursesLemmas.{ComesAs, comes_as}
use Rattle.py_agreement.specs.Agreement.{Relation, SameMaybe, SameHandled, SameAll}
use Rattle.py_determined.specs.Alike.{Alike, AreAlike}
use Rattle.py_determined.specs.Sameness.{SameAsked, SameReply, SameInstance, SameLeft, SameCoroAnswer, SameCourse, SameGenerator, SameGenerators, SameSetting}
use Rattle.py_determined.proofs.AlikeLemmas.{eqb_turned, Seen, seen, seen_same}
use Rattle.py_determined.proofs.ExceptionsAgree.{normalizes_agree, finishes_agree}
use Rattle.py_determined.proofs.AnswersAgree.{replies_agree}

-- ---- what questions see of payloads

-- whether a call enters a function
abbrev for_call : Seen → Bool
for_call x = x.function

-- whether a send, a throw and a close are answered by how one stands
abbrev for_send : Seen → Bool
for_send x = x.generator

-- whether an entry calls a function, and an exit
abbrev for_entry : Seen → Bool
for_entry x = x.manager

abbrev for_exit : Seen → Bool
for_exit x = x.function || x.manager

-- a test of what is seen of an object comes to this
abbrev Sees : List Payload → Obj → (Seen → Bool) → Bool → Type 0
Sees objects v test b = (p : Payload) × HasPayload objects v p × (test (seen p) ≡ b)

-- ---- where a question is answered at once, and where not

-- a call
not_called : (objects : List Payload) (f : Obj) (p : Payload) (vs : List Obj) (reply : Reply) → CallsAs objects f p vs reply → for_call (seen p) ≡ false
not_called objects f (payload.Function b) vs reply calls = absurd calls
not_called objects f _ vs reply calls = refl

call_replied : (objects : List Payload) (f : Obj) (vs : List Obj) (reply : Reply) → Calls objects f vs reply → Sees objects f for_call false
call_replied objects f vs reply (p, has, calls) = (p, has, not_called objects f p vs reply calls)

call_entered : (at : Setting) (objects : List Payload) (f : Obj) (vs : List Obj) (c : Course) → CallsFunction at objects f vs c → Sees objects f for_call true
call_entered at objects f vs c calls = (payload.Function calls.body, calls.entry, refl)

-- a send, a throw and a close
not_sent : (objects : List Payload) (name : Name) (p : Payload) (reply : Reply) → LacksAs objects name p reply → for_send (seen p) ≡ false
not_sent objects name (payload.Generator g) reply lacks = absurd lacks
not_sent objects name _ reply lacks = refl

send_replied : (objects : List Payload) (name : Name) (g : Obj) (reply : Reply) → Lacks objects name g reply → Sees objects g for_send false
send_replied objects name g reply (p, has, lacks) = (p, has, not_sent objects name p reply lacks)

send_entered : (at : Setting) (objects : List Payload) (g : Obj) (kind : CoroKind) (x : Generator) → IsKept at objects g kind x → Sees objects g for_send true
send_entered at objects g kind x kept = (payload.Generator kept.body, kept.entry, refl)

-- an entry
entry_replied : (objects : List Payload) (m : Obj) (reply : Reply) → RefusesEntry objects m reply → Sees objects m for_entry false
entry_replied objects m reply (p, has, other, refuses) = (p, has, other)

entry_entered : (at : Setting) (objects : List Payload) (m : Obj) (c : Course) → EntersTo at objects m c → Sees objects m for_entry true
entry_entered at objects m c (body, has, calls) = (payload.Manager body, has, refl)

-- an exit
not_left : (objects : List Payload) (x : Obj) (p : Payload) (told : List Obj) (reply : Reply) → is_manager p ≡ false → CallsAs objects x p told reply → for_exit (seen p) ≡ false
not_left objects x (payload.Function b) told reply other calls = absurd calls
not_left objects x (payload.Manager m) told reply other calls = absurd (cc other)
not_left objects x _ told reply other calls = refl

exit_replied : (objects : List Payload) (x : Obj) (told : List Obj) (reply : Reply) → CallsExit objects x told reply → Sees objects x for_exit false
exit_replied objects x told reply (p, has, other, calls) = (p, has, not_left objects x p told reply other calls)

exit_entered : (at : Setting) (objects : List Payload) (x : Obj) (told : List Obj) (c : Course) (p : Payload) → HasPayload objects x p → CallsFunction at objects (exit_of p x) told c
    → Sees objects x for_exit true
exit_entered at objects x told c (payload.Manager m) has calls = (payload.Manager m, has, refl)
exit_entered at objects x told c _ has calls = (payload.Function calls.body, calls.entry, refl)

-- ---- equations

-- one body has one signature
same_signature : (xs ys : List Signature) (f g : FunctionBody) (x y : Signature) → xs ≡ ys → f ≡ g → slice_get xs f.code ≡ Some x → slice_get ys g.code ≡ Some y → x ≡ y
same_signature xs ys f g x y same_xs same_f is is' = same_Some x y (sym is ∙ (ap (λ l. slice_get l f.code) same_xs ∙ (ap (λ (b : FunctionBody). slice_get ys b.code) same_f ∙ is')))

-- one mode has one row
same_sent : (m n : Mode) (b c : Bool) (i j : ℕ) → m ≡ n → b ≡ c → i ≡ j → sent m b i ≡ sent n c j
same_sent m n b c i j same_m same_b same_i = rw (same_m, same_b, same_i)

same_thrown : (m n : Mode) (i j : ℕ) → m ≡ n → i ≡ j → thrown m i ≡ thrown n j
same_thrown m n i j same_m same_i = rw (same_m, same_i)

same_closed : (m n : Mode) (i j : ℕ) → m ≡ n → i ≡ j → closed m i ≡ closed n j
same_closed m n i j same_m same_i = rw (same_m, same_i)

module _ (S : Relation) where
  -- ---- courses and replies by their parts

  -- courses that are equal to two that are the same are the same
  courses_are : (c c' d d' : Course) → c ≡ d → c' ≡ d' → SameCourse S d d' → SameCourse S c c'
  courses_are c c' d d' is is' s = rw (is, is') s

  replies_are : (a a' b b' : Reply) → a ≡ b → a' ≡ b' → SameReply S b b' → SameReply S a a'
  replies_are a a' b b' is is' s = rw (is, is') s

  as_many : (vs ws : List Obj) → SameAll S vs ws → length vs ≡ length ws
  as_many [] [] s = refl
  as_many (v ∷ vs) (w ∷ ws) s = ap suc (as_many vs ws s.1)
  as_many _ _ s = absurd s

  -- the course of a call
  deep_agree : (depth : ℕ) (c c' : Course) → SameCourse S c c' → SameCourse S (entry_at depth c) (entry_at depth c')
  deep_agree depth c c' s = by (nat_le most_depth depth)
    where
      by : (deep : Bool) → SameCourse S (if deep then Says (Fails RecursionError too_deep) else c) (if deep then Says (Fails RecursionError too_deep) else c')
      by true = (refl, refl)
      by false = s

  made_agree : (kind : Option CoroKind) (depth : ℕ) (c c' : Course) → SameCourse S c c' → SameCourse S (made_at kind depth c) (made_at kind depth c')
  made_agree None depth c c' s = deep_agree depth c c' s
  made_agree (Some kind) depth c c' s = s

  bound_agree : (text : Option Name) (c c' : Course) → SameCourse S c c' → SameCourse S (bound_by text c) (bound_by text c')
  bound_agree None c c' s = s
  bound_agree (Some text) c c' s = (refl, refl)

  function_agree : (f g : Obj) (vs ws : List Obj) (name name' : Name) (x y : Signature) (n m i j : ℕ) → S f g → SameAll S vs ws → name ≡ name' → x ≡ y → n ≡ m → i ≡ j
      → SameCourse S (bound_by (refusal name x.params n) (made_at x.kind i (Enters f vs))) (bound_by (refusal name' y.params m) (made_at y.kind j (Enters g ws)))
  function_agree f g vs ws name name' x y n m i j same_f same_vs same_name same_x same_n same_i =
      rw (same_name, same_x, same_n, same_i) (bound_agree (refusal name' y.params m) _ _ (made_agree y.kind j (Enters f vs) (Enters g ws) (same_f, same_vs)))

  -- what is handled
  reraised_agree : (h h' : Option PyBaseExceptionRef) → SameHandled S h h' → SameReply S (reraised h) (reraised h')
  reraised_agree None None s = (refl, refl)
  reraised_agree (Some e) (Some f) s = s
  reraised_agree _ _ s = absurd s

  -- the rows of generators
  row_agree : (word : Name) (a b : ℕ) (c c' : Course) (row : Row) → a ≡ b → SameCourse S c c' → SameCourse S (unthrown c) (unthrown c') → SameCourse S (course_by word a c row) (course_by word b c' row)
  row_agree word a b c c' RowStops same_act s raised = tt
  row_agree word a b c c' RowRaises same_act s raised = raised
  row_agree word a b c c' RowDone same_act s raised = tt
  row_agree word a b c c' RowStarts same_act s raised = same_act
  row_agree word a b c c' RowSends same_act s raised = s
  row_agree word a b c c' RowThrows same_act s raised = s
  row_agree word a b c c' RowExits same_act s raised = s
  row_agree word a b c c' (RowRefuses r) same_act s raised = (refl, refl)

  rows_agree : (kind kind' : CoroKind) (a b : ℕ) (c c' : Course) (row row' : Row) → kind ≡ kind' → row ≡ row' → a ≡ b → SameCourse S c c' → SameCourse S (unthrown c) (unthrown c')
      → SameCourse S (course_by (word_of kind) a c row) (course_by (word_of kind') b c' row')
  rows_agree kind kind' a b c c' row row' same_kind same_row same_act s raised = rw (same_kind, same_row) (row_agree (word_of kind') a b c c' row' same_act s raised)

  -- what is thrown
  outcomes_agree : (kind kind' : CoroKind) (x y : Generator) (i j : ℕ) (o o' : Instantiate) (c c' : Course) → kind ≡ kind' → SameGenerator S x y → i ≡ j → SameInstance S o o'
      → throws_by kind x i o ≡ Some c → throws_by kind' y j o' ≡ Some c' → SameCourse S c c'
  outcomes_agree kind kind' x y i j (comes.Done e) (comes.Done f) c c' same_kind same_x depth s is is' =
      courses_are c c' _ _ (sym (same_Some _ c is)) (sym (same_Some _ c' is'))
      (rows_agree kind kind' x.act y.act (Throws x.act (This e)) (Throws y.act (This f)) _ _ same_kind (same_thrown x.mode y.mode i j same_x.mode depth) same_x.act (same_x.act, s) s)
  outcomes_agree kind kind' x y i j (comes.Make d vs) (comes.Make d' ws) c c' same_kind same_x depth s is is' =
      courses_are c c' _ _ (sym (same_Some _ c is)) (sym (same_Some _ c' is'))
      (rows_agree kind kind' x.act y.act (Throws x.act (Called d vs)) (Throws y.act (Called d' ws)) _ _ same_kind (same_thrown x.mode y.mode i j same_x.mode depth) same_x.act (same_x.act, s) s)
  outcomes_agree kind kind' x y i j (comes.Fault f) (comes.Fault g) c c' same_kind same_x depth s is is' =
      courses_are c c' _ _ (sym (same_Some _ c is)) (sym (same_Some _ c' is')) (ap (λ (f : Fault). f.kind) s, ap (λ (f : Fault). f.text) s)
  outcomes_agree kind kind' x y i j _ _ c c' same_kind same_x depth s is is' = absurd s

  -- where what was entered was left
  called_agree : (how how' : CoroEnd) (reply reply' : Reply) → SameLeft S how how' → LeavesCalled how reply → LeavesCalled how' reply' → SameReply S reply reply'
  called_agree (left.Yield v) (left.Yield w) reply reply' s is is' = absurd is
  called_agree (left.Return v) (left.Return w) reply reply' s is is' = replies_are reply reply' (Is v) (Is w) is is' s
  called_agree (left.Raise e) (left.Raise f) reply reply' s is is' = replies_are reply reply' (Passes (This e)) (Passes (This f)) is is' s
  called_agree _ _ reply reply' s is is' = absurd s

  left_agree : (word : Name) (a a' : CoroAnswer) → SameCoroAnswer S a a' → SameReply S (reply_by word a) (reply_by word a')
  left_agree word (answer.Value v) (answer.Value w) s = s
  left_agree word (answer.Stop v) (answer.Stop w) s = s
  left_agree word answer.Closed answer.Closed s = tt
  left_agree word (answer.Raise e) (answer.Raise f) s = s
  left_agree word (answer.Convert e stop) (answer.Convert f stop') (s, same) = (refl, ap (λ x. (stopping word x).text) same, s)
  left_agree word answer.Ignored answer.Ignored s = (refl, refl)
  left_agree word _ _ s = absurd s

  -- where generators stand
  kept_agree : (g g' : Obj) (o o' : Option Generator) → S g g' → SameMaybe (SameGenerator S) o o' → SameGenerator S (kept_or_closed g o) (kept_or_closed g' o')
  kept_agree g g' None None same_g s = record { object = same_g; act = refl; mode = refl }
  kept_agree g g' (Some x) (Some y) same_g s = s
  kept_agree g g' _ _ same_g s = absurd s

  module _ (objects objects' : List Payload) (alike : AreAlike S objects objects') where
    -- ---- what is alike

    -- a test of what is seen of related objects comes to the same
    tests_agree : (test : Seen → Bool) (v w : Obj) (b c : Bool) → S v w → Sees objects v test b → Sees objects' w test c → b ≡ c
    tests_agree test v w b c s (p, has, is) (q, has', is') = sym is ∙ (ap test (seen_same S objects objects' alike p q (alike.payloads v w p q s has has')) ∙ is')

    -- related objects are both None, or neither is
    same_none : (v w : Obj) (p q : Payload) → S v w → HasPayload objects v p → HasPayload objects' w q → is_none p ≡ is_none q
    same_none v w p q s has has' = ap (λ x. x.none) (seen_same S objects objects' alike p q (alike.payloads v w p q s has has'))

    -- their exits are related
    alike_exits : (p q : Payload) (x y : Obj) → Alike S objects objects' p q → S x y → S (exit_of p x) (exit_of q y)
    alike_exits (payload.Manager m) (payload.Manager n) x y s same = s.2
    alike_exits (payload.Manager m) _ x y s same = absurd s
    alike_exits _ (payload.Manager n) x y s same = absurd s
    alike_exits _ _ x y s same = same

    -- the generator that related objects are
    generators_agree : (xs ys : List Generator) (g g' : Obj) (b : CoroBody) → S g g' → HasPayload objects g (payload.Generator b) → SameGenerators S xs ys
        → SameMaybe (SameGenerator S) (generator_at xs g) (generator_at ys g')
    generators_agree [] [] g g' b same_g has s = tt
    generators_agree (x ∷ xs) (y ∷ ys) g g' b same_g has s =
        here (eqb x.object.number g.number) (eqb y.object.number g'.number)
        (eqb_turned x.object.number g.number ∙ (alike.one g x.object g' y.object (payload.Generator b) same_g s.0.object has refl ∙ eqb_turned g'.number y.object.number))
        (generators_agree xs ys g g' b same_g has s.1)
      where
        here : (i j : Bool) → i ≡ j → SameMaybe (SameGenerator S) (generator_at xs g) (generator_at ys g')
            → SameMaybe (SameGenerator S) (if i then Some x else generator_at xs g) (if j then Some y else generator_at ys g')
        here true true e behind = s.0
        here false false e behind = behind
        here true false e behind = absurd (cc e)
        here false true e behind = absurd (cc e)
    generators_agree _ _ g g' b same_g has s = absurd s

    -- a reply by a generator that was left
    generator_agree : (g g' : Obj) (closing : Bool) (how how' : CoroEnd) (reply reply' : Reply) → S g g' → SameLeft S how how' → LeavesGenerator objects g closing how reply
        → LeavesGenerator objects' g' closing how' reply' → SameReply S reply reply'
    generator_agree g g' closing how how' reply reply' same_g s (b, has, a, finishes, is) (b', has', a', finishes', is') =
        let bodies : b ≡ b' = alike.payloads g g' (payload.Generator b) (payload.Generator b') same_g has has' in
        replies_are reply reply' _ _ is is'
        (subst (λ (d : CoroBody). SameReply S (reply_by (word_of b.kind) a) (reply_by (word_of d.kind) a')) bodies
        (left_agree (word_of b.kind) a a'
        (finishes_agree S objects objects' alike b.kind closing how how' a a' s finishes (subst (λ (d : CoroBody). Finishes objects' d.kind closing how' a') (sym bodies) finishes'))))

    -- the same question that was left the same is answered the same
    pub due_agree : (r r' : Request) (how how' : CoroEnd) (reply reply' : Reply) → SameAsked S r r' → SameLeft S how how' → IsDue objects r how reply → IsDue objects' r' how' reply'
        → SameReply S reply reply'
    due_agree (request.Call f vs keywords.None) (request.Call g ws keywords.None) how how' reply reply' s same due due' = called_agree how how' reply reply' same due.1 due'.1
    due_agree (request.Send g v) (request.Send g' w) how how' reply reply' s same due due' = generator_agree g g' false how how' reply reply' s.0.0 same due due'
    due_agree (request.Throw g k v t) (request.Throw g' k' v' t') how how' reply reply' s same due due' = generator_agree g g' false how how' reply reply' s.0.0 same due.1 due'.1
    due_agree (request.Close g) (request.Close g') how how' reply reply' s same due due' = generator_agree g g' true how how' reply reply' s.0 same due due'
    due_agree (request.Enter m) (request.Enter m') how how' reply reply' s same due due' = called_agree how how' reply reply' same due due'
    due_agree (request.Exit x k v t) (request.Exit x' k' v' t') how how' reply reply' s same due due' = called_agree how how' reply reply' same due due'
    due_agree (request.Call f vs keywords.None) _ how how' reply reply' s same due due' = absurd s.0
    due_agree (request.Call f vs named) _ how how' reply reply' s same due due' = absurd (cc due.0)
    due_agree (request.Send g v) _ how how' reply reply' s same due due' = absurd s.0
    due_agree (request.Throw g k v t) _ how how' reply reply' s same due due' = absurd s.0
    due_agree (request.Close g) _ how how' reply reply' s same due due' = absurd s.0
    due_agree (request.Enter m) _ how how' reply reply' s same due due' = absurd s.0
    due_agree (request.Exit x k v t) _ how how' reply reply' s same due due' = absurd s.0
    due_agree _ _ how how' reply reply' s same due due' = absurd due

    module _ (at at' : Setting) (same_at : SameSetting S at at') where
      -- ---- each course against itself

      -- a call
      calls_agree : (f g : Obj) (vs ws : List Obj) (c c' : Course) → S f g → SameAll S vs ws → CallsFunction at objects f vs c → CallsFunction at' objects' g ws c' → SameCourse S c c'
      calls_agree f g vs ws c c' same_f same_vs calls calls' =
          let bodies : calls.body ≡ calls'.body = alike.payloads f g (payload.Function calls.body) (payload.Function calls'.body) same_f calls.entry calls'.entry in
          courses_are c c' _ _ calls.is calls'.is
          (function_agree f g vs ws calls.body.name calls'.body.name calls.signature calls'.signature (length vs) (length ws) at.depth at'.depth same_f same_vs
          (ap (λ (b : FunctionBody). b.name) bodies)
          (same_signature at.signatures at'.signatures calls.body calls'.body calls.signature calls'.signature same_at.signatures bodies calls.signed calls'.signed)
          (as_many vs ws same_vs) same_at.depth)

      -- the generator that is asked, and a send to it
      kinds_agree : (g g' : Obj) (kind kind' : CoroKind) (x y : Generator) → S g g' → IsKept at objects g kind x → IsKept at' objects' g' kind' y → kind ≡ kind'
      kinds_agree g g' kind kind' x y same_g kept kept' =
          sym kept.kind_is
          ∙ (ap (λ (b : CoroBody). b.kind) (alike.payloads g g' (payload.Generator kept.body) (payload.Generator kept'.body) same_g kept.entry kept'.entry) ∙ kept'.kind_is)

      stands_agree : (g g' : Obj) (kind kind' : CoroKind) (x y : Generator) → S g g' → IsKept at objects g kind x → IsKept at' objects' g' kind' y → SameGenerator S x y
      stands_agree g g' kind kind' x y same_g kept kept' =
          subst (λ z. SameGenerator S z y) (sym kept.kept)
          (subst (λ z. SameGenerator S (kept_or_closed g (generator_at at.generators g)) z) (sym kept'.kept)
          (kept_agree g g' _ _ same_g (generators_agree at.generators at'.generators g g' kept.body same_g kept.entry same_at.generators)))

      sends_agree : (g g' v w : Obj) (c c' : Course) → S g g' → S v w → SendsTo at objects g v c → SendsTo at' objects' g' w c' → SameCourse S c c'
      sends_agree g g' v w c c' same_g same_v (kind, x, kept, p, has, is) (kind', y, kept', q, has', is') =
          let same_x : SameGenerator S x y = stands_agree g g' kind kind' x y same_g kept kept' in
          courses_are c c' _ _ is is'
          (rows_agree kind kind' x.act y.act (Sends x.act v) (Sends y.act w) _ _ (kinds_agree g g' kind kind' x y same_g kept kept')
          (same_sent x.mode y.mode (is_none p) (is_none q) at.depth at'.depth same_x.mode (same_none v w p q same_v has has') same_at.depth) same_x.act (same_x.act, same_v) (same_x.act, same_v))

      -- what comes of what is thrown
      abbrev Normalized : List Payload → CoroKind → Generator → ℕ → Obj → Option Obj → Course → Type 0
      Normalized os kind x depth k v c = (o : Instantiate) × Normalizes os k v o × (throws_by kind x depth o ≡ Some c)

      normalized_agree : (kind kind' : CoroKind) (x y : Generator) (k k' : Obj) (v v' : Option Obj) (c c' : Course) → kind ≡ kind' → SameGenerator S x y → S k k' → SameMaybe S v v'
          → Normalized objects kind x at.depth k v c → Normalized objects' kind' y at'.depth k' v' c' → SameCourse S c c'
      normalized_agree kind kind' x y k k' v v' c c' same_kind same_x same_k same_v (o, comes, is) (o', comes', is') =
          outcomes_agree kind kind' x y at.depth at'.depth o o' c c' same_kind same_x same_at.depth (normalizes_agree S objects objects' alike k k' v v' o o' same_k same_v comes comes') is is'

      thrown_agree : (kind kind' : CoroKind) (x y : Generator) (m : Mode) (k k' : Obj) (v v' : Option Obj) (c c' : Course) → kind ≡ kind' → SameGenerator S x y → S k k' → SameMaybe S v v'
          → ThrowsAs at objects kind x m k v c → ThrowsAs at' objects' kind' y m k' v' c' → SameCourse S c c'
      thrown_agree kind kind' x y Fresh k k' v v' c c' same_kind same_x same_k same_v a b = normalized_agree kind kind' x y k k' v v' c c' same_kind same_x same_k same_v a b
      thrown_agree kind kind' x y Suspended k k' v v' c c' same_kind same_x same_k same_v a b = normalized_agree kind kind' x y k k' v v' c c' same_kind same_x same_k same_v a b
      thrown_agree kind kind' x y Running k k' v v' c c' same_kind same_x same_k same_v a b = courses_are c c' _ _ a b (refl, ap (λ (z : CoroKind). (fault_of (word_of z) refused.Running).text) same_kind)
      thrown_agree kind kind' x y Closed k k' v v' c c' same_kind same_x same_k same_v a b = normalized_agree kind kind' x y k k' v v' c c' same_kind same_x same_k same_v a b

      -- a throw, and a close
      throws_agree : (g g' k k' : Obj) (v v' : Option Obj) (c c' : Course) → S g g' → S k k' → SameMaybe S v v' → ThrowsTo at objects g k v c → ThrowsTo at' objects' g' k' v' c' → SameCourse S c c'
      throws_agree g g' k k' v v' c c' same_g same_k same_v (kind, x, kept, throws) (kind', y, kept', throws') =
          let same_x : SameGenerator S x y = stands_agree g g' kind kind' x y same_g kept kept' in
          thrown_agree kind kind' x y x.mode k k' v v' c c' (kinds_agree g g' kind kind' x y same_g kept kept') same_x same_k same_v throws
          (subst (λ m. ThrowsAs at' objects' kind' y m k' v' c') (sym same_x.mode) throws')

      closes_agree : (g g' : Obj) (c c' : Course) → S g g' → ClosesTo at objects g c → ClosesTo at' objects' g' c' → SameCourse S c c'
      closes_agree g g' c c' same_g (kind, x, kept, is) (kind', y, kept', is') =
          let same_x : SameGenerator S x y = stands_agree g g' kind kind' x y same_g kept kept' in
          courses_are c c' _ _ is is'
          (rows_agree kind kind' x.act y.act (Throws x.act (BuiltIn GeneratorExit [])) (Throws y.act (BuiltIn GeneratorExit [])) _ _ (kinds_agree g g' kind kind' x y same_g kept kept')
          (same_closed x.mode y.mode at.depth at'.depth same_x.mode same_at.depth) same_x.act (same_x.act, (refl, tt)) (refl, tt))

      -- an entry, and an exit
      enters_agree : (m m' : Obj) (c c' : Course) → S m m' → EntersTo at objects m c → EntersTo at' objects' m' c' → SameCourse S c c'
      enters_agree m m' c c' same_m (b, has, calls) (b', has', calls') =
          calls_agree b.enter b'.enter [] [] c c' (alike.payloads m m' (payload.Manager b) (payload.Manager b') same_m has has').1 tt calls calls'

      exits_agree : (x x' : Obj) (told told' : List Obj) (c c' : Course) → S x x' → SameAll S told told' → ExitsTo at objects x told c → ExitsTo at' objects' x' told' c' → SameCourse S c c'
      exits_agree x x' told told' c c' same_x same_told (p, has, calls) (q, has', calls') =
          calls_agree (exit_of p x) (exit_of q x') told told' c c' (alike_exits p q x x' (alike.payloads x x' p q same_x has has') same_x) same_told calls calls'

      -- ---- by the kind of the question

      -- both enter
      both_agree : (r r' : Request) (c c' : Course) → SameAsked S r r' → ComesAs at objects r c → ComesAs at' objects' r' c' → SameCourse S c c'
      both_agree (request.Call f vs keywords.None) (request.Call g ws keywords.None) c c' s a b = calls_agree f g vs ws c c' s.0.0 s.0.1 a.1 b.1
      both_agree request.Handled request.Handled c c' s a b = courses_are c c' _ _ a b (reraised_agree at.handled at'.handled same_at.handled)
      both_agree (request.Send g v) (request.Send g' w) c c' s a b = sends_agree g g' v w c c' s.0.0 s.0.1 a b
      both_agree (request.Throw g k v t) (request.Throw g' k' v' t') c c' s a b = throws_agree g g' k k' v v' c c' s.0.0 s.0.1 s.0.2 a.1 b.1
      both_agree (request.Close g) (request.Close g') c c' s a b = closes_agree g g' c c' s.0 a b
      both_agree (request.Enter m) (request.Enter m') c c' s a b = enters_agree m m' c c' s.0 a b
      both_agree (request.Exit x k v t) (request.Exit x' k' v' t') c c' s a b =
          exits_agree x x' (k ∷ v ∷ t ∷ []) (k' ∷ v' ∷ t' ∷ []) c c' s.0.0 (s.0.1, (s.0.2, (s.1, tt))) a b
      both_agree (request.Call f vs keywords.None) _ c c' s a b = absurd s.0
      both_agree (request.Call f vs named) _ c c' s a b = absurd (cc a.0)
      both_agree request.Handled _ c c' s a b = absurd s.0
      both_agree (request.Send g v) _ c c' s a b = absurd s.0
      both_agree (request.Throw g k v t) _ c c' s a b = absurd s.0
      both_agree (request.Close g) _ c c' s a b = absurd s.0
      both_agree (request.Enter m) _ c c' s a b = absurd s.0
      both_agree (request.Exit x k v t) _ c c' s a b = absurd s.0
      both_agree _ _ c c' s a b = absurd a

      -- where one is answered at once, the other doesn't enter
      not_second : (r' r : Request) (reply : Reply) (c' : Course) → SameAsked S r r' → Replies objects r reply → ComesAs at' objects' r' c' → ⊥
      not_second (request.Call g ws keywords.None) (request.Call f vs keywords.None) reply c' s a b =
          absurd (cc (tests_agree for_call f g false true s.0.0 (call_replied objects f vs reply a.1) (call_entered at' objects' g ws c' b.1)))
      not_second request.Handled request.Handled reply c' s a b = a
      not_second (request.Send g' w) (request.Send g v) reply c' s a b =
          absurd (cc (tests_agree for_send g g' false true s.0.0 (send_replied objects (codes "send") g reply a) (send_entered at' objects' g' b.0 b.1 b.2)))
      not_second (request.Throw g' k' v' t') (request.Throw g k v t) reply c' s a b =
          absurd (cc (tests_agree for_send g g' false true s.0.0 (send_replied objects (codes "throw") g reply a) (send_entered at' objects' g' b.1.0 b.1.1 b.1.2)))
      not_second (request.Close g') (request.Close g) reply c' s a b =
          absurd (cc (tests_agree for_send g g' false true s.0 (send_replied objects (codes "close") g reply a) (send_entered at' objects' g' b.0 b.1 b.2)))
      not_second (request.Enter m') (request.Enter m) reply c' s a b = absurd (cc (tests_agree for_entry m m' false true s.0 (entry_replied objects m reply a) (entry_entered at' objects' m' c' b)))
      not_second (request.Exit x' k' v' t') (request.Exit x k v t) reply c' s a b =
          absurd
          (cc
          (tests_agree for_exit x x' false true s.0.0 (exit_replied objects x (k ∷ v ∷ t ∷ []) reply a) (exit_entered at' objects' x' (k' ∷ v' ∷ t' ∷ []) c' b.0 b.1 b.2)))
      not_second (request.Call g ws keywords.None) _ reply c' s a b = absurd s.0
      not_second (request.Call g ws named) _ reply c' s a b = absurd (cc b.0)
      not_second request.Handled (request.Call f vs keywords.None) reply c' s a b = absurd s.0
      not_second request.Handled _ reply c' s a b = absurd s.0
      not_second (request.Send g v) (request.Call f vs keywords.None) reply c' s a b = absurd s.0
      not_second (request.Send g v) _ reply c' s a b = absurd s.0
      not_second (request.Throw g k v t) (request.Call f vs keywords.None) reply c' s a b = absurd s.0
      not_second (request.Throw g k v t) _ reply c' s a b = absurd s.0
      not_second (request.Close g) (request.Call f vs keywords.None) reply c' s a b = absurd s.0
      not_second (request.Close g) _ reply c' s a b = absurd s.0
      not_second (request.Enter m) (request.Call f vs keywords.None) reply c' s a b = absurd s.0
      not_second (request.Enter m) _ reply c' s a b = absurd s.0
      not_second (request.Exit x k v t) (request.Call f vs keywords.None) reply c' s a b = absurd s.0
      not_second (request.Exit x k v t) _ reply c' s a b = absurd s.0
      not_second _ _ reply c' s a b = absurd b

      -- nor the other way round
      not_first : (r r' : Request) (reply' : Reply) (c : Course) → SameAsked S r r' → ComesAs at objects r c → Replies objects' r' reply' → ⊥
      not_first (request.Call f vs keywords.None) (request.Call g ws keywords.None) reply' c s a b =
          absurd (cc (tests_agree for_call f g true false s.0.0 (call_entered at objects f vs c a.1) (call_replied objects' g ws reply' b.1)))
      not_first request.Handled request.Handled reply' c s a b = b
      not_first (request.Send g v) (request.Send g' w) reply' c s a b =
          absurd (cc (tests_agree for_send g g' true false s.0.0 (send_entered at objects g a.0 a.1 a.2) (send_replied objects' (codes "send") g' reply' b)))
      not_first (request.Throw g k v t) (request.Throw g' k' v' t') reply' c s a b =
          absurd (cc (tests_agree for_send g g' true false s.0.0 (send_entered at objects g a.1.0 a.1.1 a.1.2) (send_replied objects' (codes "throw") g' reply' b)))
      not_first (request.Close g) (request.Close g') reply' c s a b =
          absurd (cc (tests_agree for_send g g' true false s.0 (send_entered at objects g a.0 a.1 a.2) (send_replied objects' (codes "close") g' reply' b)))
      not_first (request.Enter m) (request.Enter m') reply' c s a b = absurd (cc (tests_agree for_entry m m' true false s.0 (entry_entered at objects m c a) (entry_replied objects' m' reply' b)))
      not_first (request.Exit x k v t) (request.Exit x' k' v' t') reply' c s a b =
          absurd
          (cc
          (tests_agree for_exit x x' true false s.0.0 (exit_entered at objects x (k ∷ v ∷ t ∷ []) c a.0 a.1 a.2) (exit_replied objects' x' (k' ∷ v' ∷ t' ∷ []) reply' b)))
      not_first (request.Call f vs keywords.None) _ reply' c s a b = absurd s.0
      not_first (request.Call f vs named) _ reply' c s a b = absurd (cc a.0)
      not_first request.Handled _ reply' c s a b = absurd s.0
      not_first (request.Send g v) _ reply' c s a b = absurd s.0
      not_first (request.Throw g k v t) _ reply' c s a b = absurd s.0
      not_first (request.Close g) _ reply' c s a b = absurd s.0
      not_first (request.Enter m) _ reply' c s a b = absurd s.0
      not_first (request.Exit x k v t) _ reply' c s a b = absurd s.0
      not_first _ _ reply' c s a b = absurd a

      -- both are answered at once, or both enter
      came_agree : (r r' : Request) (c c' : Course) → SameAsked S r r' → ((reply : Reply) × (c ≡ Says reply) × Replies objects r reply) ⊎ ComesAs at objects r c
          → ((reply : Reply) × (c' ≡ Says reply) × Replies objects' r' reply) ⊎ ComesAs at' objects' r' c' → SameCourse S c c'
      came_agree r r' c c' s (inl (reply, is, a)) (inl (reply', is', b)) = courses_are c c' (Says reply) (Says reply') is is' (replies_agree S objects objects' alike r r' reply reply' s a b)
      came_agree r r' c c' s (inl (reply, is, a)) (inr b) = absurd (not_second r' r reply c' s a b)
      came_agree r r' c c' s (inr a) (inl (reply', is', b)) = absurd (not_first r r' reply' c s a b)
      came_agree r r' c c' s (inr a) (inr b) = both_agree r r' c c' s a b

    -- the same question comes to the same
    pub courses_agree : (at at' : Setting) (r r' : Request) (c c' : Course) → SameSetting S at at' → SameAsked S r r' → ComesTo at objects r c → ComesTo at' objects' r' c' → SameCourse S c c'
    courses_agree at at' r r' c c' same_at s a b = came_agree at at' same_at r r' c c' s (comes_as at objects r c a) (comes_as at' objects' r' c' b)
