-- What is said of every journal worked by hand, whose script has one function.
use Rattle.std.proofs.Common.{◌≡◌, append_assoc, ℕ, zero, suc, ◌+◌, List, [], ◌∷◌, ◌++◌, Some, None, Bool, true, false, ◌&&◌, ◌<◌, ◌≤◌, refl, sym, ap, subst, inl, inr, lit<, lit≤, ◌∙◌, arith, length, eqb, eq-eqb, ne_eqb}
use Rattle.std.proofs.lemmas.Fmt.{decimal_digit, decimal_step}
use Rattle.std.proofs.lemmas.Bool.{and_parts, ltb-true}
use Rattle.std.proofs.lemmas.Str.{encode_ascii}
use Rattle.std.proofs.lemmas.List.Sorted.{IsPermutation-refl}
use Rattle.std.specs.Prelude.{Option, encode_utf8_all, ℤ, pos, ◌+ℤ◌, codes, decimal, slice_get, map, nat_lt}
use Rattle.std.specs.List.{list_all}
use Rattle.py_objects.specs.declared.refs.PyBaseExceptionRef.{PyBaseExceptionRef}
use Rattle.py_objects.specs.declared.payload.Payload.{Payload}
use Rattle.py_objects.specs.declared.payload.Payload.TheVariants as payload
use Rattle.py_objects.specs.declared.payload.CoroKind.{CoroKind}
use Rattle.py_objects.specs.declared.payload.FunctionBody.{FunctionBody}
use Rattle.py_objects.specs.declared.error_kind.ErrorKind.{ErrorKind}
use Rattle.py_objects.specs.declared.error_kind.ErrorKind.TheVariants.{OverflowError}
use Rattle.py_code.specs.declared.operator.BinaryOperator.TheVariants as binary
use Rattle.py_objects.specs.declared.request.Keywords.TheVariants as keywords
use Rattle.py_objects.specs.declared.request.Request.{Request}
use Rattle.py_objects.specs.declared.request.Request.TheVariants.{Binary, Call as Calling, Close, Enter, Exit, Handled, Send, Throw}
use Rattle.py_objects.specs.declared.event.ResumeHow.TheVariants.{Start}
use Rattle.py_objects.specs.declared.event.GotAnswer.{GotAnswer}
use Rattle.py_objects.specs.declared.event.GotAnswer.TheVariants as got
use Rattle.py_objects.specs.declared.event.Ending.TheVariants as ending
use Rattle.py_objects.specs.declared.event.Event.{Event}
use Rattle.py_objects.specs.declared.event.Event.TheVariants as event
use Rattle.py_objects.specs.ErrorKinds.{name_of}
use Rattle.py_objects.specs.Objects.{Obj, Name, HasPayload, as_object, declares, is_name, declared, payload_numbers, event_numbers, AllBelow, IsMade, AllFit, AreNamed, IsNew, is_among}
use Rattle.py_objects.specs.Own.{Own, Makes, Resumes, Asks, Gets, Ends, own_events, own_from, told_by}
use Rattle.py_objects.specs.Telling.{AfterValue, Answered, Answers, Asked}
use Rattle.py_objects.specs.Values.{new_exception}
use Rattle.py_objects.proofs.GrowthLemmas.{below_more, length_grown, made_grown, slice_get_split}
use Rattle.py_exceptions.specs.Classes.{class_of, first_classes}
use Rattle.py_tree.specs.Tree.{Tree, seen_as}
use Rattle.py_tree.specs.Scene.{Scene, anywhere}
use Rattle.py_tree.specs.Trace.{IsTrace, IsBegun}
use Rattle.py_lines.specs.declared.drive.DriveAtom.{DriveAtom}
use Rattle.py_lines.specs.declared.drive.DriveLine.{DriveLine}
use Rattle.py_lines.specs.declared.drive.DriveLine.TheVariants as drive
use Rattle.py_lines.specs.Line.{LineRead, Said}
use Rattle.py_grammar.specs.Grammar.{Row, FunctionDecl, Coded, OfBody, Item, items_rows}
use Rattle.py_answers.specs.Answers.{This, Reply, Passes, Replies, CallsAs, GivesBody, IsRaised, sum, whole}
use Rattle.py_coro.specs.declared.coro.CoroEnd.{CoroEnd}
use Rattle.py_meaning.specs.Core.{is_plain}
use Rattle.py_meaning.proofs.CoreLemmas.{none_reported}
use Rattle.py_run.specs.declared.drive.Told.TheVariants as told
use Rattle.py_run.specs.Run.{Signature, Pose, Requests, Forms, Reports, Posed, Plan, Activation, Phase, Asking, IsTop, requested, makings, to_report, question, start, state_after}
use Rattle.py_run.specs.Calls.{Course, Says, Enters, Setting, LeavesCalled, IsDue, refusal, made_at, bound_by, CallsFunction, ComesTo}
use Rattle.py_run.specs.Coming.{Past, setting, IsOfKind, IsReply, MayCome, nothing, Comes, EachTells}
use Rattle.py_run.specs.Past.{past_behind}
use Rattle.py_run.specs.First.{first_objects}
use Rattle.py_run.proofs.FirstLemmas.{first_fit}
use Rattle.py_meaning.specs.Whole.{AreOf, AsksThis, Poses, Asks as AsksFor, AreAsked, AreGlobals, AreObjects, Tells, Traces, IsRunOf, plan_of, signature_of}
use Rattle.py_meaning.specs.Worked.{call_of, object, exception, function_entry, loaded, objects_of, entered, asked, greatest, overflowing_of, out_of_range, error_entry, error_objects, raising_by, raised, raises, overflow_by}
use Rattle.py_meaning.proofs.Behind.{declares_it, have_classes, none_declared}
use Rattle.py_meaning.proofs.Entries.{one_declared}
use Rattle.py_meaning.proofs.WorkedObjects.{some_is, Each, each_at, not_before, DeclaresNothing, objects_behind}

pub decimal_1 : decimal 1 ≡ codes "1"
decimal_1 = decimal_digit 1 (lit< tt)

pub decimal_45 : decimal 45 ≡ codes "45"
decimal_45 = decimal_step 45 (lit≤ tt) (lit< tt) ∙ ap (λ ds. ds ++ 53 ∷ []) (decimal_digit 4 (lit< tt))

-- what the lines of these items say, where no others stand between them
abbrev pub reads_of : List Item → List LineRead
reads_of items = map (λ (r : Row). Said r.line) (items_rows items)

-- AllBelow as a test
abbrev pub are_below : ℕ → List ℕ → Bool
are_below n [] = true
are_below n (m ∷ ms) = nat_lt m n && are_below n ms

-- a text of ASCII has the bytes of its characters
pub ascii_bytes : (s : Name) → list_all (λ c. nat_lt c 128) s ≡ true → encode_utf8_all s ≡ s
ascii_bytes [] h = refl
ascii_bytes (c ∷ s) h =
    let (low, lower) = and_parts (nat_lt c 128) _ h in
    let first = encode_ascii c (ltb-true c 128 low) in
    let more = ascii_bytes s lower in
    cc

pub all_below : (n : ℕ) (ms : List ℕ) → are_below n ms ≡ true → AllBelow n ms
all_below n [] h = tt
all_below n (m ∷ ms) h = let (low, lower) = and_parts (nat_lt m n) _ h in (ltb-true m n low, all_below n ms lower)

each_below : {X : Type 0} (f : X → List ℕ) (n : ℕ) (xs : List X) → list_all (λ x. are_below n (f x)) xs ≡ true → (i : ℕ) (x : X) → slice_get xs i ≡ Some x → AllBelow n (f x)
each_below f n [] h i x e = absurd cc
each_below f n (y ∷ ys) h zero x e = subst (λ z. AllBelow n (f z)) (some_is y x e) (all_below n (f y) (and_parts (are_below n (f y)) _ h).0)
each_below f n (y ∷ ys) h (suc i) x e = each_below f n ys (and_parts (are_below n (f y)) _ h).1 i x e

pub are_named : (store : List Payload) (events : List Event) → AllFit store → list_all (λ e. are_below (length store) (event_numbers e)) events ≡ true → AreNamed store events
are_named store events fit h = record { in_events = each_below event_numbers (length store) events h; in_payloads = λ i p e. (fit i p e).0 }

pub body_of : (a b : FunctionBody) → payload.Function a ≡ payload.Function b → a ≡ b
body_of a b e = cc

pub code_of : (a b : Name) (i j : ℕ) → Some (function_entry a i) ≡ Some (function_entry b j) → i ≡ j
code_of a b i j e = ap (λ (b : FunctionBody). b.code) (body_of _ _ (some_is _ _ e))

-- objects of the run with different numbers are two
pub differ : (m n : ℕ) → eqb m n ≡ false → object m ≡ object n → ⊥
differ m n other same =
    let numbers : length first_objects + m ≡ length first_objects + n = ap (λ (v : Obj). v.number) same in
    let clash : true ≡ false = sym (eq-eqb m n (let one : m ≡ n = omega (arith, numbers) in one)) ∙ other in
    cc clash

-- the question of a drive of the function with the two numbers
abbrev pub call : Posed
call = record { pose = Requests (Calling (object 0) (object 3 ∷ object 4 ∷ []) keywords.None); entered = 0 }

-- the one activation tells what it may
pub one_tells : (may : Obj → List Obj → List Own → Type 0) (f : Obj) (vs : List Obj) (events : List Event) → (state_after start events).made ≡ record { function = f; args = vs } ∷ [] → may f vs (own_events 1 events) → EachTells may events
one_tells may f vs events made t zero a e =
    let same : record { function = f; args = vs } ≡ a = some_is _ a (subst (λ (xs : List Activation). slice_get xs 0 ≡ Some a) made e) in
    subst (λ (a : Activation). may a.function a.args (own_events 1 events)) same t
one_tells may f vs events made t (suc i) a e =
    let none : slice_get (record { function = f; args = vs } ∷ []) (suc i) ≡ Some a = subst (λ (xs : List Activation). slice_get xs (suc i) ≡ Some a) made e in
    absurd cc

behind : (x : Own) (ts us : List Own) → x ∷ ts ≡ x ∷ us → ts ≡ us
behind x ts us e = cc

-- what follows the making
pub begun : (scene : Scene) (t : Tree) (vs : List Obj) (ts : List Own) → IsTrace scene t vs (Makes ∷ ts) → IsBegun scene t vs ts
begun scene t vs ts h = subst (IsBegun scene t vs) (sym (behind Makes ts _ h.1.1)) h.1.2

-- an answer that was got goes on
pub gotten : (K : AfterValue) (k i : ℕ) (w : GotAnswer) (ts : List Own) → Answered k (Gets i w ∷ ts) K → Answers w i ts K
gotten K k i w ts (inl none) = absurd (cc none.0)
gotten K k i w ts (inr (j, u, mid, is, h)) =
    let number : i ≡ j = cc is in
    let same : w ≡ u = cc is in
    let rest : ts ≡ mid = cc is in
    subst (λ (xs : List Own). Answers w i xs K) (sym rest) (subst (λ (n : ℕ). Answers w n mid K) (sym number) (subst (λ (w : GotAnswer). Answers w j mid K) (sym same) h))

-- what is asked and answered goes on as its answer, whatever is handled
pub asked_under : (units : ℕ → Bool) (h g : Option PyBaseExceptionRef) (r q : Request) (at k i : ℕ) (w : GotAnswer) (ts : List Own) (K : AfterValue) → Asked units r h k (Asks at q g ∷ Gets i w ∷ ts) K → Answers w i ts K
asked_under units h g r q at k i w ts K (inl cut) = absurd (cc cut.0)
asked_under units h g r q at k i w ts K (inr more) =
    let rest : Gets i w ∷ ts ≡ more.1 = cc more.3 in
    gotten K k i w ts (subst (λ (xs : List Own). Answered k xs K) (sym rest) more.4)

-- the same where nothing is
pub asked_so : (units : ℕ → Bool) (r q : Request) (at k i : ℕ) (w : GotAnswer) (ts : List Own) (K : AfterValue) → Asked units r None k (Asks at q None ∷ Gets i w ∷ ts) K → Answers w i ts K
asked_so units r q at k i w ts K asked = asked_under units None None r q at k i w ts K asked

-- what a drive of a script requests, unless it has something reported
pub posed_request : (store : List Payload) (events : List Event) (d : DriveLine) (x : Pose) → is_plain d ≡ true → Poses store events d x
    → (r : Request) × (requested x ≡ Some r) × AsksThis store events d r × ((makings x ≡ None) × (to_report x ≡ None))
posed_request store events d (Requests r) plain asks = (r, refl, asks, (refl, refl))
posed_request store events d (Forms x) plain asks = absurd asks
posed_request store events d (Reports (told.Report e)) plain asks = absurd (none_reported d events e plain asks)
posed_request store events d (Reports (told.Part e)) plain asks = absurd asks
posed_request store events d (Reports (told.Exit e)) plain asks = absurd asks

-- no more drives are begun than the script has
pub few_asked : (store : List Payload) (events : List Event) (ds : List DriveLine) (qs : List Posed) → AreAsked store events ds qs → length qs ≤ length ds
few_asked store events ds [] h = omega arith
few_asked store events [] (q ∷ qs) h = absurd h
few_asked store events (d ∷ ds) (q ∷ qs) h = let few = few_asked store events ds qs h.1 in omega arith

-- ---- objects behind the first ones

-- they fit, where those behind do
pub all_fit : (own : List Payload) → list_all (λ p. are_below (length (first_objects ++ own)) (payload_numbers p)) own ≡ true
    → Each (IsMade (first_objects ++ own)) own → AllFit (first_objects ++ own)
all_fit own below made i p e =
    let store = first_objects ++ own in
    elim (slice_get_split first_objects own i p e) [
      | inl first ↦
          let (named, is) = first_fit i p first in
          let longer = length_grown first_objects store (own, refl) in
          (below_more (length first_objects) (length store) (payload_numbers p) longer named, made_grown first_objects store p (own, refl) is)
      | inr behind ↦ (each_below payload_numbers (length store) own below _ p behind, each_at (IsMade store) own made _ p behind)
    ]

-- a new exception of a kind is made of what it should be
pub made_exception : (own : List Payload) (kind : ErrorKind) (args : Obj) (arguments : List Obj)
    → HasPayload (first_objects ++ own) args (payload.Tuple arguments)
    → IsMade (first_objects ++ own) (payload.Exception (new_exception (class_of first_classes kind) args))
made_exception own kind args arguments are =
    let class = have_classes own kind in
    record {
      class = record { name = name_of kind; mro = class.mro };
      is_class = class.entry;
      arguments = arguments;
      are_arguments = are;
      cause = tt;
      context = tt;
      traceback = tt;
    }

-- an entry that declares nothing is declared under no name
undeclared : (store : List Payload) (n : ℕ) (p : Payload) → slice_get store n ≡ Some p → declares p ≡ None → (x : Name) (v : Obj)
    → declared store x ≡ Some v → eqb n v.number ≡ false
undeclared store n p here plain x v e =
    let (k, q, number, there, hit) = declares_it 0 store x v e in
    ne_eqb n v.number (λ same.
    let at : n ≡ k = omega (arith, same, number) in
    let one : p ≡ q = some_is p q (sym here ∙ ap (slice_get store) at ∙ there) in
    let clash : true ≡ false = sym hit ∙ ap (λ (p : Payload). is_name x (declares p)) (sym one) ∙ ap (is_name x) plain in
    cc clash)

-- what no event in front names is new, where it declares nothing
pub is_new : (store : List Payload) (before : List Event) (n : ℕ) (p : Payload) → slice_get store n ≡ Some p → declares p ≡ None → Each (λ x. is_among n (event_numbers x) ≡ false) before → IsNew store before n
is_new store before n p here plain unnamed = record { unnamed = each_at (λ x. is_among n (event_numbers x) ≡ false) before unnamed; undeclared = undeclared store n p here plain }

-- an exception of a kind with a text, which no event in front names, is raised
pub is_raised : (own : List Payload) (before : List Event) (kind : ErrorKind) (text : Name) (argument args : Obj) (e : PyBaseExceptionRef)
    → HasPayload (first_objects ++ own) argument (payload.Str text) → HasPayload (first_objects ++ own) args (payload.Tuple (argument ∷ []))
    → HasPayload (first_objects ++ own) (as_object e) (payload.Exception (new_exception (class_of first_classes kind) args))
    → Each (λ x. is_among e.number (event_numbers x) ≡ false) before → IsRaised (first_objects ++ own) before kind text e
is_raised own before kind text argument args e message are entry unnamed = record {
  class = class_of first_classes kind;
  is_class = (have_classes own kind).is_declared;
  argument = argument;
  message = message;
  made = record {
    new = is_new (first_objects ++ own) before e.number _ entry refl unnamed;
    args = args;
    entry = entry;
    are = are;
  };
}

-- the reply to the sum of two numbers
reply_of_sum : (store : List Payload) (a b : Obj) (i j : ℤ) (reply : Reply) → HasPayload store a (payload.Int i) → HasPayload store b (payload.Int j) → Replies store (Binary binary.Add a b) reply → reply ≡ whole (i +ℤ j)
reply_of_sum store a b i j reply p q r =
    let left : r.0 ≡ payload.Int i = some_is _ _ (sym r.4 ∙ p) in
    let right : r.1 ≡ payload.Int j = some_is _ _ (sym r.5 ∙ q) in
    sym (some_is _ _ r.8) ∙ (ap (λ (x : Payload). sum x r.1 r.2 r.3) left ∙ ap (λ (x : Payload). sum (payload.Int i) x r.2 r.3) right)

-- what is no call, asks for nothing of a generator, and doesn't ask for what is handled
pub record IsPlain (r : Request) : Type 0 where
  pub no_call : (f : Obj) (vs : List Obj) → r ≡ Calling f vs keywords.None → ⊥
  pub not_handled : r ≡ Handled → ⊥
  pub no_send : (g v : Obj) → r ≡ Send g v → ⊥
  pub no_throw : (g k : Obj) (v : Option Obj) → r ≡ Throw g k v None → ⊥
  pub no_close : (g : Obj) → r ≡ Close g → ⊥
  pub no_enter : (m : Obj) → r ≡ Enter m → ⊥
  pub no_exit : (x k v t : Obj) → r ≡ Exit x k v t → ⊥

-- a sum is
pub sum_plain : (a b : Obj) → IsPlain (Binary binary.Add a b)
sum_plain a b = record { no_call = λ f vs e. cc; not_handled = λ e. cc; no_send = λ g v e. cc; no_throw = λ g k v e. cc; no_close = λ g e. cc; no_enter = λ m e. cc; no_exit = λ x k v t e. cc }

-- it comes to a reply
pub plainly : (at : Setting) (store : List Payload) (r : Request) (c : Course) → IsPlain r → ComesTo at store r c → (reply : Reply) × (c ≡ Says reply) × Replies store r reply
plainly at store r c plain (inl h) = h
plainly at store r c plain (inr (inl (f, vs, is, h))) = absurd (plain.no_call f vs is)
plainly at store r c plain (inr (inr (inl (is, says)))) = absurd (plain.not_handled is)
plainly at store r c plain (inr (inr (inr (inl (g, v, is, h))))) = absurd (plain.no_send g v is)
plainly at store r c plain (inr (inr (inr (inr (inl (g, k, v, is, h)))))) = absurd (plain.no_throw g k v is)
plainly at store r c plain (inr (inr (inr (inr (inr (inl (g, is, h))))))) = absurd (plain.no_close g is)
plainly at store r c plain (inr (inr (inr (inr (inr (inr (inl (m, is, h)))))))) = absurd (plain.no_enter m is)
plainly at store r c plain (inr (inr (inr (inr (inr (inr (inr (x, k, v, t, is, h)))))))) = absurd (plain.no_exit x k v t is)

-- which answers it
pub replied : (at : Setting) (store : List Payload) (r : Request) (reply : Reply) → IsPlain r → ComesTo at store r (Says reply) → Replies store r reply
replied at store r reply plain comes =
    let (q, is, h) = plainly at store r (Says reply) plain comes in
    let same : reply ≡ q = cc is in
    subst (Replies store r) (sym same) h

-- the call of a function comes to what the function does
pub called : (at : Setting) (store : List Payload) (f : Obj) (b : FunctionBody) (vs : List Obj) (c : Course) → HasPayload store f (payload.Function b) → ComesTo at store (Calling f vs keywords.None) c → CallsFunction at store f vs c
called at store f b vs c entry (inl (reply, is, (positional, (p, has, calls)))) =
    let same : p ≡ payload.Function b = some_is _ _ (sym has ∙ entry) in
    absurd (subst (λ (x : Payload). CallsAs store f x vs reply) same calls)
called at store f b vs c entry (inr (inr (inl (is, says)))) = absurd (cc is)
called at store f b vs c entry (inr (inr (inr (inl (g, v, is, h))))) = absurd (cc is)
called at store f b vs c entry (inr (inr (inr (inr (inl (g, k, v, is, h)))))) = absurd (cc is)
called at store f b vs c entry (inr (inr (inr (inr (inr (inl (g, is, h))))))) = absurd (cc is)
called at store f b vs c entry (inr (inr (inr (inr (inr (inr (inl (m, is, h)))))))) = absurd (cc is)
called at store f b vs c entry (inr (inr (inr (inr (inr (inr (inr (x, k, v, t, is, h)))))))) = absurd (cc is)
called at store f b vs c entry (inr (inl (g, ws, is, h))) =
    let function : f ≡ g = cc is in
    let args : vs ≡ ws = cc is in
    subst (λ (f : Obj). CallsFunction at store f vs c) (sym function) (subst (λ (vs : List Obj). CallsFunction at store g vs c) (sym args) h)

-- a call of a function comes to what its signature says
pub course_is : (at : Setting) (store : List Payload) (f : Obj) (b : FunctionBody) (s : Signature) (vs : List Obj) (c : Course) → HasPayload store f (payload.Function b) → slice_get at.signatures b.code ≡ Some s
    → CallsFunction at store f vs c → c ≡ bound_by (refusal b.name s.params (length vs)) (made_at s.kind at.depth (Enters f vs))
course_is at store f b s vs c entry signed h =
    let same : h.body ≡ b = body_of _ _ (some_is _ _ (sym h.entry ∙ entry)) in
    let is : h.signature ≡ s = some_is _ _ (sym h.signed ∙ ap (λ (x : FunctionBody). slice_get at.signatures x.code) same ∙ signed) in
    h.is ∙ ap (λ (x : FunctionBody). bound_by (refusal x.name h.signature.params (length vs)) (made_at h.signature.kind at.depth (Enters f vs))) same
    ∙ ap (λ (x : Signature). bound_by (refusal b.name x.params (length vs)) (made_at x.kind at.depth (Enters f vs))) is

-- a function comes to what its signature says, where it is called
pub runs : (at : Setting) (store : List Payload) (f : Obj) (vs : List Obj) (c : Course) (b : FunctionBody) (s : Signature) → HasPayload store f (payload.Function b) → slice_get at.signatures b.code ≡ Some s
    → c ≡ bound_by (refusal b.name s.params (length vs)) (made_at s.kind at.depth (Enters f vs)) → CallsFunction at store f vs c
runs at store f vs c b s entry signed is = record { body = b; entry = entry; signature = s; signed = signed; is = is }

-- and is of its signature's kind
abbrev pub is_of_kind : (plan : Plan) (store : List Payload) (f : Obj) (kind : Option CoroKind) (b : FunctionBody) (s : Signature)
    → HasPayload store f (payload.Function b) → slice_get plan.signatures b.code ≡ Some s → s.kind ≡ kind → IsOfKind plan store f kind
is_of_kind plan store f kind b s entry signed is = record { body = b; entry = entry; signature = s; signed = signed; kind_is = is }

-- a call is answered by how its activation was left
pub due_leaves : (store : List Payload) (r : Request) (f : Obj) (vs : List Obj) (left : CoroEnd) (reply : Reply) → r ≡ Calling f vs keywords.None → IsDue store r left reply → LeavesCalled left reply
due_leaves store r f vs left reply is due = (subst (λ (x : Request). IsDue store x left reply) is due).1

-- a line that drives asks for the call of what has its name, with objects of its arguments
pub asked_for : (store : List Payload) (events : List Event) (x : Name) (args : List DriveAtom) (f : Obj) (vs : List Obj) → AsksThis store events (drive.Call x args) (Calling f vs keywords.None)
    → (declared store x ≡ Some f) × AreOf store events args vs
asked_for store events x args f vs (g, ws, is, named, of) =
    let function : g ≡ f = cc is in
    let same : ws ≡ vs = cc is in
    (named ∙ ap Some function, subst (λ (us : List Obj). AreOf store events args us) same of)

-- what answers the question for a sum gives that
pub gives_sum : (plan : Plan) (store : List Payload) (p : Past) (a b : Obj) (i j : ℤ) (w : GotAnswer) → HasPayload store a (payload.Int i) → HasPayload store b (payload.Int j)
    → ((reply : Reply) × ((r : Request) × (Some (Binary binary.Add a b) ≡ Some r) × IsReply plan store p Asking r reply) × GivesBody store p.events reply w) → GivesBody store p.events (whole (i +ℤ j)) w
gives_sum plan store p a b i j w left right (reply, (r, asks, replies), gives) =
    let says = subst (λ (x : Request). IsReply plan store p Asking x reply) (sym (some_is _ _ asks)) replies in
    subst (λ (x : Reply). GivesBody store p.events x w)
    (reply_of_sum store a b i j reply left right (replied (setting plan p) store (Binary binary.Add a b) reply (sum_plain a b) says)) gives

-- the script's only function
module _ (t : Tree) where
  -- the objects of the script with two numbers, and more
  abbrev pub with_more : ℤ → ℤ → List Payload → List Payload
  with_more m n more = objects_of t.name (function_entry t.name 0) m n more

  -- the objects of the script behind the first ones
  abbrev pub own_with : List Payload → List Payload
  own_with more = function_entry t.name 0 ∷ payload.Str t.name ∷ payload.Dict ((object 1, object 0) ∷ []) ∷ more

  -- all its objects
  abbrev pub loaded_with : List Payload → List Payload
  loaded_with more = loaded t.name (function_entry t.name 0) more

  -- the function is declared under its name
  abbrev pub IsDeclared : List Payload → Type 0
  IsDeclared store = declared store t.name ≡ Some (object 0)

  pub fits : (more : List Payload) → list_all (λ p. are_below (length (loaded_with more)) (payload_numbers p)) (own_with more) ≡ true → Each (IsMade (loaded_with more)) more → AllFit (loaded_with more)
  fits more below made = all_fit (own_with more) below (tt, (tt, (tt, made)))

  pub are_loaded : (more : List Payload) → IsDeclared (loaded_with more) → Each DeclaresNothing more → AllFit (loaded_with more) → AreObjects (FunctionDecl t ∷ []) (loaded_with more)
  are_loaded more d plain fit =
      let function : List Payload = function_entry t.name 0 ∷ [] in
      let rest : List Payload = payload.Str t.name ∷ payload.Dict ((object 1, object 0) ∷ []) ∷ more in
      let first : AreObjects (FunctionDecl t ∷ []) (first_objects ++ function) =
      one_declared [] first_objects (FunctionDecl t) (function_entry t.name 0) none_declared (not_before (loaded_with more) t.name (own_with more) refl d) tt refl in
      objects_behind (FunctionDecl t ∷ []) (first_objects ++ function) rest (loaded_with more) (sym (append_assoc first_objects function rest)) first (tt, (tt, plain)) fit

  -- the same with two numbers
  pub are_objects : (m n : ℤ) (more : List Payload) → IsDeclared (with_more m n more) → Each DeclaresNothing more → AllFit (with_more m n more) → AreObjects (FunctionDecl t ∷ []) (with_more m n more)
  are_objects m n more d own fit = are_loaded (payload.Int m ∷ payload.Int n ∷ payload.Frame 0 ∷ more) d (tt, (tt, (tt, own))) fit

  -- the globals bind the function
  pub are_globals : (more : List Payload) → IsDeclared (loaded_with more) → AreGlobals (FunctionDecl t ∷ []) (loaded_with more) (object 2)
  are_globals more d = record { pairs = (object 1, object 0) ∷ []; dict = refl; bindings = (object 1, object 0) ∷ []; bind = ((refl, d), tt); same = IsPermutation-refl _ }

  -- the two numbers are taken
  abbrev pub Binds : List Payload → Type 0
  Binds store =
      CallsFunction (record { signatures = map signature_of (OfBody t ∷ []); depth = 0; handled = None; generators = [] }) store (object 0) (object 3 ∷ object 4 ∷ [])
      (Enters (object 0) (object 3 ∷ object 4 ∷ []))

  -- the script's function is none of generators
  pub never_suspended : (qs : List Posed) (store : List Payload) (f : Obj) (kind : CoroKind) → seen_as t.kind ≡ None → IsOfKind (plan_of (OfBody t ∷ []) qs) store f (Some kind) → ⊥
  never_suspended qs store f kind plain is = go is.body.code is.signed
    where
      go : (i : ℕ) → slice_get (map signature_of (OfBody t ∷ [])) i ≡ Some is.signature → ⊥
      go zero signed =
          let own : seen_as t.kind ≡ is.signature.kind = ap (λ (s : Signature). s.kind) (some_is _ _ signed) in
          let clash : None ≡ Some kind = sym plain ∙ own ∙ is.kind_is in
          cc clash
      go (suc i) signed = cc signed

  -- a drive of the script's call asks for the two numbers
  pub asks_numbers : (m n : ℤ) (more : List Payload) (events : List Event) → IsDeclared (with_more m n more) → AsksFor (with_more m n more) events (call_of t.name m n) call
  asks_numbers m n more events d = ((object 0, object 3 ∷ object 4 ∷ [], refl, d, (refl, (refl, tt))), refl)

  -- a run of the script whose first drive asks this
  abbrev pub plan_with : List Posed → Plan
  plan_with qs = plan_of (OfBody t ∷ []) (call ∷ qs)

  -- such a run, where its events are told to be one
  pub call_runs : (m n : ℤ) (more : List Payload) (events : List Event) → IsDeclared (with_more m n more) → Each DeclaresNothing more → AllFit (with_more m n more) → Comes (plan_with []) (with_more m n more) nothing events
      → EachTells (Traces (OfBody t ∷ []) (object 2) (with_more m n more)) events → AreNamed (with_more m n more) events → IsRunOf (FunctionDecl t ∷ []) (call_of t.name m n ∷ []) (with_more m n more) events
  call_runs m n more events d own fit comes tells named = record {
    asked = call ∷ [];
    are_asked = (asks_numbers m n more events d, tt);
    globals = object 2;
    are_globals = are_globals (payload.Int m ∷ payload.Int n ∷ payload.Frame 0 ∷ more) d;
    run = record { comes = comes; tells = tells; named = named };
    are_objects = are_objects m n more d own fit;
  }

  -- up to the question for the sum
  pub asking_comes : (qs : List Posed) (m n : ℤ) (more : List Payload) (rest : List Event) → 0 < length (call ∷ qs) → Binds (with_more m n more) → seen_as t.kind ≡ None
      → Comes (plan_with qs) (with_more m n more) (past_behind (plan_with qs) nothing (entered 1 (asked 1 (object 3) (object 4) []))) rest → Comes (plan_with qs) (with_more m n more) nothing (entered 1 (asked 1 (object 3) (object 4) rest))
  asking_comes qs m n more rest few binds plain k = (
    (refl, refl, few),
    ((refl, (refl, (_, refl, inr (inl (object 0, object 3 ∷ object 4 ∷ [], refl, binds))))), ((refl, is_of_kind _ _ _ _ _ _ refl refl plain), ((refl, refl), k))),
  )

  -- what gives the sum may answer that question
  pub sum_comes : (plan : Plan) (m n : ℤ) (more : List Payload) (p : Past) (a : ℕ) (w : GotAnswer) → p.state.phase ≡ Asking → IsTop a p.state.stack → question plan p.state ≡ Some (Binary binary.Add (object 3) (object 4))
      → GivesBody (with_more m n more) p.events (whole (m +ℤ n)) w → MayCome plan (with_more m n more) p (event.Got a w)
  sum_comes plan m n more p a w phase top asks given =
      let reply = whole (m +ℤ n) in
      let request = Binary binary.Add (object 3) (object 4) in
      let replies = subst (λ (x : Phase). IsReply plan (with_more m n more) p x request reply) (sym phase) (inl (reply, refl, (_, _, codes "int", codes "int", refl, refl, refl, refl, refl))) in
      (top, (reply, (request, asks, replies), given))

  -- an activation of the script's function tells what that may
  pub traced_by : (globals : Obj) (store : List Payload) (f : Obj) (vs : List Obj) (ts : List Own) → HasPayload store f (function_entry t.name 0) → Traces (OfBody t ∷ []) globals store f vs ts → IsTrace (anywhere store globals) t vs ts
  traced_by globals store f vs ts p h =
      let code : 0 ≡ h.0.code = code_of t.name h.0.name 0 h.0.code (sym p ∙ h.1) in
      let same : OfBody t ≡ h.2.0 = some_is _ _ (subst (λ (i : ℕ). slice_get (OfBody t ∷ []) i ≡ Some h.2.0) (sym code) h.2.1) in
      subst (λ (c : Coded). Tells (anywhere store globals) c vs ts) (sym same) h.2.2

  -- what a run of the script says of its activation
  pub traced_with : (vs : List Obj) (store : List Payload) (drives : List DriveLine) (events : List Event) → HasPayload store (object 0) (function_entry t.name 0) → slice_get (state_after start events).made 0 ≡ Some (record { function = object 0; args = vs })
      → (r : IsRunOf (FunctionDecl t ∷ []) drives store events) → IsTrace (anywhere store r.globals) t vs (own_events 1 events)
  traced_with vs store drives events p e r = traced_by r.globals store (object 0) vs (own_events 1 events) p (r.run.tells 0 (record { function = object 0; args = vs }) e)

  -- the same of an activation with two arguments
  pub traced : (store : List Payload) (drives : List DriveLine) (events : List Event) → HasPayload store (object 0) (function_entry t.name 0) → slice_get (state_after start events).made 0 ≡ Some (record { function = object 0; args = object 3 ∷ object 4 ∷ [] })
      → (r : IsRunOf (FunctionDecl t ∷ []) drives store events) → IsTrace (anywhere store r.globals) t (object 3 ∷ object 4 ∷ []) (own_events 1 events)
  traced store drives events p e r = traced_with (object 3 ∷ object 4 ∷ []) store drives events p e r

  -- the entry of the function, where it is the script's
  pub entry_of : (store : List Payload) (f : Obj) → AreObjects (FunctionDecl t ∷ []) store → declared store t.name ≡ Some f → HasPayload store f (function_entry t.name 0)
  entry_of store f h e =
      let entry = h.functions 0 (OfBody t) refl in
      subst (λ (f : Obj). HasPayload store f (function_entry t.name 0)) (some_is _ _ (sym entry.1 ∙ e)) entry.2

  -- the objects of drives that overflow, and more
  abbrev pub overflow_with : List Payload → List Payload
  overflow_with more = raising_by t.name (function_entry t.name 0) OverflowError more

  -- what is raised
  pub overflows : (n : ℕ) (more : List Payload) (before : List Event) → HasPayload (overflow_with more) (object n) (error_entry OverflowError) → Each (λ e. is_among (exception n).number (event_numbers e) ≡ false) before
      → IsRaised (overflow_with more) before OverflowError out_of_range (exception n)
  overflows n more before entry unnamed =
      is_raised (own_with (payload.Int greatest ∷ payload.Int (pos 1) ∷ payload.Frame 0 ∷ error_objects OverflowError more)) before OverflowError out_of_range (object 6) (object 7) (exception n) refl refl entry unnamed

  -- the first of the drives
  pub first_raises : (qs : List Posed) (more : List Payload) (rest : List Event) → 0 < length (call ∷ qs) → Binds (overflow_with more) → seen_as t.kind ≡ None
      → Comes (plan_with qs) (overflow_with more) (past_behind (plan_with qs) nothing (overflow_by (exception 8))) rest
      → Comes (plan_with qs) (overflow_with more) nothing (raises 1 (exception 8) rest)
  first_raises qs more rest few binds plain k =
      let asking : Past = past_behind (plan_with qs) nothing (entered 1 (asked 1 (object 3) (object 4) [])) in
      asking_comes qs greatest (pos 1) (error_objects OverflowError more) (raised 1 (exception 8) rest) few binds plain
      (sum_comes (plan_with qs) greatest (pos 1) (error_objects OverflowError more) asking 1 (got.Raise (exception 8)) refl refl refl (overflows 8 more asking.events refl (refl, (refl, (refl, (refl, tt))))), ((refl, refl), ((refl, refl, inl (Passes (This (exception 8)), inl (_, refl, (refl, refl)), refl)), k)))

  -- what the activation of a drive that raises tells, which is entered and answered by the events with these numbers
  abbrev pub RaiseIsTraced : List Payload → ℕ → ℕ → PyBaseExceptionRef → Type 0
  RaiseIsTraced more i j e =
      IsTrace (anywhere (overflow_with more) (object 2)) t (object 3 ∷ object 4 ∷ [])
      (Makes ∷ Resumes i Start ∷ Asks 2 (Binary binary.Add (object 3) (object 4)) None ∷ Gets j (got.Raise e) ∷ Ends 2 (ending.Raise e) ∷ [])

  -- its entry names what it should
  pub made_error : (more : List Payload) → IsMade (overflow_with more) (error_entry OverflowError)
  made_error more = made_exception (own_with (payload.Int greatest ∷ payload.Int (pos 1) ∷ payload.Frame 0 ∷ error_objects OverflowError more)) OverflowError (object 7) (object 6 ∷ []) refl

  overflow_fits : AllFit (overflow_with [])
  overflow_fits = fits (payload.Int greatest ∷ payload.Int (pos 1) ∷ payload.Frame 0 ∷ error_objects OverflowError []) refl (tt, (tt, (tt, (tt, (tt, (made_error [], tt))))))

  overflow_tells : RaiseIsTraced [] 2 4 (exception 8) → EachTells (Traces (OfBody t ∷ []) (object 2) (overflow_with [])) (overflow_by (exception 8))
  unfolding own_from told_by
  overflow_tells h = one_tells (Traces (OfBody t ∷ []) (object 2) (overflow_with [])) (object 0) (object 3 ∷ object 4 ∷ []) (overflow_by (exception 8)) refl (_, refl, (OfBody t, refl, h))

  -- the run of one drive that overflows
  pub overflow_is_run : IsDeclared (overflow_with []) → Binds (overflow_with []) → seen_as t.kind ≡ None → RaiseIsTraced [] 2 4 (exception 8) → IsRunOf (FunctionDecl t ∷ []) (overflowing_of t.name ∷ []) (overflow_with []) (overflow_by (exception 8))
  overflow_is_run d binds plain h =
      call_runs greatest (pos 1) (error_objects OverflowError []) (overflow_by (exception 8)) d (tt, (tt, (tt, tt))) overflow_fits (first_raises [] [] [] (lit< tt) binds plain tt) (overflow_tells h)
      (are_named (overflow_with []) (overflow_by (exception 8)) overflow_fits refl)
