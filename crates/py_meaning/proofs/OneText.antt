-- Each whole run of one call of the worked function writes the same text.
use Rattle.std.proofs.Common.{◌≡◌, ℕ, zero, suc, List, [], ◌∷◌, ◌++◌, Option, Some, None, ◌<◌, refl, sym, ap, subst, inl, ◌∙◌, ⊎_elim, arith, length, append-nil, inr}
use Rattle.std.specs.Prelude.{encode_utf8_all, ℤ, map, pos, ◌+ℤ◌, Bool, true, false, if◌then◌else◌, codes, slice_get, nat_lt}
use Rattle.std.specs.List.{list_all}
use Rattle.std.specs.Fmt.{signed_decimal}
use Rattle.py_objects.specs.declared.refs.PyBaseExceptionRef.{PyBaseExceptionRef}
use Rattle.py_objects.specs.declared.payload.Payload.{Payload}
use Rattle.py_objects.specs.declared.payload.Payload.TheVariants as payload
use Rattle.py_objects.specs.declared.error_kind.ErrorKind.{ErrorKind}
use Rattle.py_objects.specs.declared.error_kind.ErrorKind.TheVariants.{OverflowError}
use Rattle.py_code.specs.declared.operator.BinaryOperator.TheVariants as binary
use Rattle.py_code.specs.Range.{in_range}
use Rattle.py_objects.specs.declared.request.Keywords.TheVariants as keywords
use Rattle.py_objects.specs.declared.request.Request.{Request}
use Rattle.py_objects.specs.declared.request.Request.TheVariants.{Binary, Call as Calling}
use Rattle.py_objects.specs.declared.event.ResumeHow.TheVariants as how
use Rattle.py_objects.specs.declared.event.GotAnswer.{GotAnswer}
use Rattle.py_objects.specs.declared.event.GotAnswer.TheVariants as got
use Rattle.py_objects.specs.declared.event.Ending.{Ending}
use Rattle.py_objects.specs.declared.event.Ending.TheVariants as ending
use Rattle.py_objects.specs.declared.event.DriveAnswer.{DriveAnswer}
use Rattle.py_objects.specs.declared.event.DriveAnswer.TheVariants as answer
use Rattle.py_objects.specs.declared.event.Event.{Event}
use Rattle.py_objects.specs.declared.event.Event.TheVariants as event
use Rattle.py_objects.specs.ErrorKinds.{name_of}
use Rattle.py_objects.specs.Objects.{Obj, Name, HasPayload, class_object, declared}
use Rattle.py_objects.specs.Own.{Own, Asks, Gets, Ends, whose, own_of, own_from, told_by}
use Rattle.py_objects.specs.Telling.{Given, Failed, AfterValue, Asked, Answered, Answers}
use Rattle.py_grammar.specs.Grammar.{Decl, OfBody, codes_in}
use Rattle.py_tree.specs.Scene.{anywhere}
use Rattle.py_tree.specs.Trace.{IsBegun, Ended}
use Rattle.py_lines.specs.declared.drive.DriveAtom.TheVariants as atom
use Rattle.py_answers.specs.Answers.{This, Reply, Has, Is, Fails, Passes, GivesBody, GivesDrive, IsRaised, whole}
use Rattle.py_coro.specs.declared.coro.CoroEnd.{CoroEnd}
use Rattle.py_run.specs.Run.{Signature, Posed, Plan, left_by, Phase, Idle, Asking, Going, Made, Due, Act, Activation, State, start, after, state_after, makings_of, to_report_by, open_in, question, forming, reporting, entered_in, IsTop}
use Rattle.py_run.specs.Generators.{Generator}
use Rattle.py_run.specs.Calls.{Course, Says, Enters, Begins, Setting, LeavesCalled, ComesTo, CallsFunction, entry_at}
use Rattle.py_run.specs.Coming.{Past, setting, past_after, Starts, Opens, IsReply, MayCome, Comes}
use Rattle.py_meaning.specs.Whole.{AreAsked, AreOf, AsksThis, AreObjects, Traces, plan_of, signature_of}
use Rattle.py_exceptions.specs.Repr.{class_name, items_of, payload_of, repr_within, shown}
use Rattle.py_exceptions.specs.Said.{said_by}
use Rattle.py_exceptions.specs.Texts.{details, raised, str_by, str_within}
use Rattle.py_meaning.specs.Text.{events_text, numbered, result_text}
use Rattle.py_meaning.proofs.PlainText.{plain_text, unchanged}
use Rattle.py_meaning.specs.Worked.{Writes, call_of, events, exception, function, greatest, objects, out_of_range, overflow_by, overflow_objects, decls}
use Rattle.py_meaning.proofs.WorkedObjects.{some_is}
use Rattle.py_meaning.proofs.Journals.{ascii_bytes, asked_for, begun, called, course_is, decimal_1, decimal_45, due_leaves, entry_of, few_asked, gives_sum, gotten, never_suspended, plainly, posed_request, sum_plain, traced_by}
use Rattle.py_meaning.proofs.WorkedLemmas.{is_run, overflow_is_run}

-- how a drive's answer tells an ending
abbrev answer_of : Ending → DriveAnswer
answer_of (ending.Return v) = answer.Returns v
answer_of (ending.Raise e) = answer.Raises e

-- the result of a drive whose activation returned this
pub returned_so : (store : List Payload) (before : List Event) (v : Obj) (w : DriveAnswer) → GivesDrive store before (Is v) w → w ≡ answer.Returns v
returned_so store before v (answer.Returns u) gives = ap answer.Returns gives
returned_so store before v (answer.Yields u) gives = absurd (cc gives)
returned_so store before v (answer.Stops u) gives = absurd (cc gives)
returned_so store before v answer.Closes gives = absurd (cc gives)
returned_so store before v _ gives = absurd gives

-- of one whose activation raised this
raised_so : (store : List Payload) (before : List Event) (e : PyBaseExceptionRef) (w : DriveAnswer) → GivesDrive store before (Passes (This e)) w → w ≡ answer.Raises e
raised_so store before e (answer.Raises x) gives = ap answer.Raises gives
raised_so store before e (answer.Yields u) gives = absurd (cc gives)
raised_so store before e (answer.Stops u) gives = absurd (cc gives)
raised_so store before e answer.Closes gives = absurd (cc gives)
raised_so store before e _ gives = absurd gives

-- the result of a drive tells how its activation ended
answers : (store : List Payload) (before : List Event) (x : Ending) (w : DriveAnswer) (reply : Reply) → LeavesCalled (left_by x) reply → GivesDrive store before reply w → w ≡ answer_of x
answers store before (ending.Return v) w reply is gives = returned_so store before v w (subst (λ (r : Reply). GivesDrive store before r w) is gives)
answers store before (ending.Raise e) w reply is gives = raised_so store before e w (subst (λ (r : Reply). GivesDrive store before r w) is gives)

-- an answer that ends the body which gets it, by a return or by a raise
abbrev EndedBy : GotAnswer → List Own → Type 0
EndedBy (got.Value v) ts = Ended (ending.Return v) ts
EndedBy (got.Stop v) ts = ⊥
EndedBy (got.Raise e) ts = Ended (ending.Raise e) ts

asks_of : (k : ℕ) (e : Event) (at : ℕ) (r : Request) (own : Option PyBaseExceptionRef) → own_of k e ≡ Asks at r own ∷ [] → e ≡ event.Ask (whose e) r own at
asks_of k (event.Ask a r' own' at') at r own h = cc
asks_of k _ at r own h = cc

ends_of : (k : ℕ) (e : Event) (at : ℕ) (x : Ending) → own_of k e ≡ Ends at x ∷ [] → e ≡ event.End (whose e) x at
ends_of k (event.End a y at') at x h = cc
ends_of k _ at x h = cc

-- an event of the first activation stands in front of its own events
told : (k : ℕ) (e : Event) (o : Own) (es : List Event) → 1 ≡ whose e → own_of k e ≡ o ∷ [] → own_from 1 k (e ∷ es) ≡ o ∷ own_from 1 (suc k) es
unfolding own_from told_by
told k e o es w h = rw (sym w, h) refl

-- made activations stay
kept : (s : State) (es : List Event) (a : Activation) → slice_get s.made 0 ≡ Some a → slice_get (state_after s es).made 0 ≡ Some a
kept s [] a h = h
kept s (event.Make b f vs ∷ es) a h = kept (after s (event.Make b f vs)) es a (front s.made (record { function = f; args = vs } ∷ []) a h)
  where
    front : (xs ys : List Activation) (a : Activation) → slice_get xs 0 ≡ Some a → slice_get (xs ++ ys) 0 ≡ Some a
    front [] ys a h = cc
    front (x ∷ xs) ys a h = h
kept s (e ∷ es) a h = kept (after s e) es a h

-- an answer that may be given ends the body so that this line is written
abbrev WritesAt : List Payload → List ℕ → GotAnswer → Type 0
WritesAt store line w = (x : Ending) × ((ts : List Own) → EndedBy w ts → Ended x ts) × (result_text store 1 (answer_of x) ≡ line)

-- a store, the questions that are asked in a journal, two numbers, and what is written of their sum
module _ (store : List Payload) (globals : Obj) (journal : List Event) (qs : List Posed) (m n : ℤ) (line : List ℕ) (given : (before : List Event) (w : GotAnswer) → GivesBody store before (whole (m +ℤ n)) w → WritesAt store line w) where
  -- what the run is of
  abbrev plan : Plan
  plan = plan_of (codes_in decls) qs

  -- the script's function is called with the two numbers
  abbrev IsCalled : Obj → List Obj → Type 0
  IsCalled f vs = (declared store (codes "f") ≡ Some f) × AreOf store journal (atom.Int m ∷ atom.Int n ∷ []) vs

  -- what these events come to, where this is the state behind them, and these the generators
  abbrev past_with : List Event → State → List Generator → Past
  past_with before s xs = record { events = before; state = s; generators = xs }

  -- without generators
  abbrev past : List Event → State → Past
  past before s = past_with before s []

  -- this is replied to a question in this phase
  abbrev In : List Event → State → Phase → Request → Reply → Type 0
  In before s p r reply = IsReply plan store (past before s) p r reply

  -- no generator's activation is entered, where no question is open
  not_opened : (before : List Event) (s : State) (xs : List Generator) (x : Phase) (c : Course) → s.phase ≡ x → (Asking ≡ x → ⊥) → Opens plan store (past_with before s xs) c → ⊥
  not_opened before s xs x c p other (asks, more) = other (sym asks ∙ p)

  -- nor does one start, where none was made
  not_started : (before : List Event) (s : State) (xs : List Generator) (x : Phase) (a : ℕ) → s.phase ≡ x → Starts plan store (past_with before s xs) s.phase a → Starts plan store (past_with before s xs) x a
  not_started before s xs x a p h = subst (λ (y : Phase). Starts plan store (past_with before s xs) y a) p h

  idle_next : (before : List Event) (s : State) (xs : List Generator) (e : Event) → s.phase ≡ Idle → MayCome plan store (past_with before s xs) e → (e ≡ event.Drive (suc s.done)) × (s.done < length qs)
  idle_next before s xs (event.Drive d) p h = (ap event.Drive h.1, h.2)
  idle_next before s xs (event.Result d w) p (next, alone, inl (reply, inr (asks, formed), gives)) = absurd (let clash = sym asks ∙ p in cc clash)
  idle_next before s xs (event.Result d w) p (next, alone, inr (asks, reported)) = absurd (let clash = sym asks ∙ p in cc clash)
  idle_next before s xs (event.Result d w) p (next, alone, inl (reply, inl (r, asks, replies), gives)) = absurd (subst (λ (x : Phase). IsReply plan store (past_with before s xs) x r reply) p replies)
  idle_next before s xs (event.Make a f vs) p h = absurd (cc h.1.0)
  idle_next before s xs (event.Resume a how.Start) p h = absurd (not_started before s xs Idle a p h)
  idle_next before s xs (event.Resume a (how.Send v)) p h = absurd (not_opened before s xs Idle _ p (λ e. cc) h)
  idle_next before s xs (event.Resume a (how.Throw e)) p h = absurd (not_opened before s xs Idle _ p (λ e. cc) h.1)
  idle_next before s xs (event.Got a w) p (top, (reply, (r, asks, replies), gives)) = absurd (subst (λ (x : Phase). IsReply plan store (past_with before s xs) x r reply) p replies)
  idle_next before s xs (event.Ask a r own at) p h = absurd (cc h.0)
  idle_next before s xs _ p h = absurd (cc h.0)

  -- the open question enters a function, and nothing else
  abbrev Enters_only : List Event → State → Type 0
  Enters_only before s = (r : Request) (c : Course) → question plan s ≡ Some r → ComesTo (setting plan (past before s)) store r c → (f : Obj) × (vs : List Obj) × (c ≡ Enters f vs) × (r ≡ Calling f vs keywords.None)

  -- so nothing else comes of it
  entered_alone : (before : List Event) (s : State) (c : Course) → Enters_only before s → Opens plan store (past before s) c → (f : Obj) × (vs : List Obj) × (c ≡ Enters f vs)
  entered_alone before s c only (phase, (r, asks, comes)) = let (f, vs, is, calls) = only r c asks comes in (f, vs, is)

  -- a drive's question is open
  asked_next : (before : List Event) (s : State) (e : Event) → s.phase ≡ Asking → s.stack ≡ [] → (forming plan s ≡ None) × (reporting plan s ≡ None) → Enters_only before s → MayCome plan store (past before s) e
      → (f : Obj) × (vs : List Obj) × (e ≡ event.Make (suc (length s.made)) f vs) × (question plan s ≡ Some (Calling f vs keywords.None))
  asked_next before s (event.Result d w) p q none only (next, alone, inl (reply, inr (asks, (x, forms, is)), gives)) = absurd (let clash : None ≡ Some x = sym none.0 ∙ forms in cc clash)
  asked_next before s (event.Result d w) p q none only (next, alone, inr (asks, (e, reports, is))) = absurd (let clash : None ≡ Some e = sym none.1 ∙ reports in cc clash)
  asked_next before s (event.Result d w) p q none only (next, alone, inl (reply, inl (r, asks, replies), gives)) =
      let (f, vs, is, calls) = only r (Says reply) asks (subst (λ (x : Phase). In before s x r reply) p replies) in
      absurd (cc is)
  asked_next before s (event.Make a f vs) p q none only (number, (phase, (r, asks, comes))) =
      let (g, ws, is, calls) = only r (Enters f vs) asks comes in
      let function : f ≡ g = cc is in
      let args : vs ≡ ws = cc is in (
        f,
        vs,
        ap (λ (k : ℕ). event.Make k f vs) number,
        asks ∙ ap Some (calls ∙ (ap (λ (x : Obj). Calling x ws keywords.None) (sym function) ∙ ap (λ (xs : List Obj). Calling f xs keywords.None) (sym args))),
      )
  asked_next before s (event.Resume a how.Start) p q none only h = let (f, vs, is) = entered_alone before s (Begins a) only (not_started before s [] Asking a p h) in absurd (cc is)
  asked_next before s (event.Resume a (how.Send v)) p q none only h = let (f, vs, is) = entered_alone before s _ only h in absurd (cc is)
  asked_next before s (event.Resume a (how.Throw e)) p q none only h = let (f, vs, is) = entered_alone before s _ only h.1 in absurd (cc is)
  asked_next before s (event.Got a w) p q none only h = absurd (subst (IsTop a) q h.0)
  asked_next before s (event.Ask a r own at) p q none only h = absurd (cc h.0)
  asked_next before s _ p q none only h = absurd (cc h.0)

  -- the script's function makes no generator
  not_made : (before : List Event) (s : State) (f : Obj) (r : Request) (reply : Reply) → In before s (Made f) r reply → ⊥
  not_made before s f r reply (kind, is, more) = never_suspended function qs store f kind refl is

  made_next : (before : List Event) (s : State) (e : Event) (f : Obj) → s.phase ≡ Made f → MayCome plan store (past before s) e → e ≡ event.Resume (length s.made) how.Start
  made_next before s (event.Result d w) f p (next, alone, inl (reply, inr (asks, formed), gives)) = absurd (let clash = sym asks ∙ p in cc clash)
  made_next before s (event.Result d w) f p (next, alone, inr (asks, reported)) = absurd (let clash = sym asks ∙ p in cc clash)
  made_next before s (event.Result d w) f p (next, alone, inl (reply, inl (r, asks, replies), gives)) = absurd (not_made before s f r reply (subst (λ (x : Phase). In before s x r reply) p replies))
  made_next before s (event.Make a g vs) f p h = absurd (cc h.1.0)
  made_next before s (event.Resume a how.Start) f p h = ap (λ (k : ℕ). event.Resume k how.Start) (not_started before s [] (Made f) a p h).0
  made_next before s (event.Resume a (how.Send v)) f p h = absurd (not_opened before s [] (Made f) _ p (λ e. cc) h)
  made_next before s (event.Resume a (how.Throw e)) f p h = absurd (not_opened before s [] (Made f) _ p (λ e. cc) h.1)
  made_next before s (event.Got a w) f p (top, (reply, (r, asks, replies), gives)) = absurd (not_made before s f r reply (subst (λ (x : Phase). In before s x r reply) p replies))
  made_next before s (event.Ask a r own at) f p h = absurd (cc h.0)
  made_next before s _ f p h = absurd (cc h.0)

  -- the innermost activation tells something
  going_next : (before : List Event) (s : State) (k : ℕ) (e : Event) → s.phase ≡ Going → MayCome plan store (past before s) e → IsTop (whose e) s.stack × ((o : Own) × (own_of k e ≡ o ∷ []))
  going_next before s k (event.Drive d) p h = absurd (cc h.0)
  going_next before s k (event.Result d w) p (next, alone, inl (reply, inr (asks, formed), gives)) = absurd (let clash = sym asks ∙ p in cc clash)
  going_next before s k (event.Result d w) p (next, alone, inr (asks, reported)) = absurd (let clash = sym asks ∙ p in cc clash)
  going_next before s k (event.Result d w) p (next, alone, inl (reply, inl (r, asks, replies), gives)) = absurd (subst (λ (x : Phase). In before s x r reply) p replies)
  going_next before s k (event.Make a f vs) p h = absurd (cc h.1.0)
  going_next before s k (event.Resume a how.Start) p h = absurd (not_started before s [] Going a p h)
  going_next before s k (event.Resume a (how.Send v)) p h = absurd (not_opened before s [] Going _ p (λ e. cc) h)
  going_next before s k (event.Resume a (how.Throw e)) p h = absurd (not_opened before s [] Going _ p (λ e. cc) h.1)
  going_next before s k (event.Got a w) p (top, (reply, (r, asks, replies), gives)) = absurd (subst (λ (x : Phase). In before s x r reply) p replies)
  going_next before s k (event.Ask a r own at) p h = (h.1, (_, refl))
  going_next before s k _ p h = (h.1, (_, refl))

  -- an open question is answered at once, by this
  abbrev IsGot : List Event → State → Option Request → GotAnswer → Type 0
  IsGot before s asked w = (reply : Reply) × ((r : Request) × (asked ≡ Some r) × In before s Asking r reply) × GivesBody store before reply w

  -- what the only activation asks that runs
  top_asked : (s : State) (top : Act) (r : Request) → s.stack ≡ top ∷ [] → top.asks ≡ Some r → question plan s ≡ Some r
  top_asked s top r stack asks = ap (open_in (slice_get qs s.done)) stack ∙ asks

  -- a question for a sum is replied to
  replied_alone : (before : List Event) (s : State) (top : Act) (c : Course) (a b : Obj) → s.stack ≡ top ∷ [] → top.asks ≡ Some (Binary binary.Add a b) → Opens plan store (past before s) c → (reply : Reply) × (c ≡ Says reply)
  replied_alone before s top c a b q t (phase, (r, asks, comes)) =
      let sum : r ≡ Binary binary.Add a b = some_is _ _ (sym asks ∙ top_asked s top (Binary binary.Add a b) q t) in
      let (reply, is, more) = plainly (setting plan (past before s)) store (Binary binary.Add a b) c (sum_plain a b) (subst (λ (x : Request). ComesTo (setting plan (past before s)) store x c) sum comes) in
      (reply, is)

  -- an activation's question for a sum is open
  got_next : (before : List Event) (s : State) (e : Event) (top : Act) (a b : Obj) → s.phase ≡ Asking → s.stack ≡ top ∷ [] → top.asks ≡ Some (Binary binary.Add a b) → MayCome plan store (past before s) e
      → (w : GotAnswer) × (e ≡ event.Got (whose e) w) × IsTop (whose e) s.stack × IsGot before s (question plan s) w
  got_next before s (event.Result d w) top x y p q t h = absurd (cc h.1)
  got_next before s (event.Make a f vs) top x y p q t (number, opens) = let (reply, is) = replied_alone before s top (Enters f vs) x y q t opens in absurd (cc is)
  got_next before s (event.Resume a how.Start) top x y p q t h = let (reply, is) = replied_alone before s top (Begins a) x y q t (not_started before s [] Asking a p h) in absurd (cc is)
  got_next before s (event.Resume a (how.Send v)) top x y p q t h = let (reply, is) = replied_alone before s top _ x y q t h in absurd (cc is)
  got_next before s (event.Resume a (how.Throw e)) top x y p q t h = let (reply, is) = replied_alone before s top _ x y q t h.1 in absurd (cc is)
  got_next before s (event.Got a w) top x y p q t (is_top, (reply, (r, asks, replies), gives)) = (w, refl, is_top, (reply, (r, asks, subst (λ (x : Phase). In before s x r reply) p replies), gives))
  got_next before s (event.Ask a r own at) top x y p q t h = absurd (cc h.0)
  got_next before s _ top x y p q t h = absurd (cc h.0)

  -- an activation was left
  due_next : (before : List Event) (s : State) (e : Event) (left : CoroEnd) → s.phase ≡ Due left → s.stack ≡ [] → ((r : Request) → question plan s ≡ Some r → (f : Obj) × (vs : List Obj) × (r ≡ Calling f vs keywords.None))
      → MayCome plan store (past before s) e
      → (w : DriveAnswer) × (e ≡ event.Result (suc s.done) w) × ((reply : Reply) × LeavesCalled left reply × GivesDrive store before reply w)
  due_next before s (event.Result d w) left p q call (next, alone, inl (reply, inr (asks, formed), gives)) = absurd (let clash = sym asks ∙ p in cc clash)
  due_next before s (event.Result d w) left p q call (next, alone, inr (asks, reported)) = absurd (let clash = sym asks ∙ p in cc clash)
  due_next before s (event.Result d w) left p q call (next, alone, inl (reply, inl (r, asks, replies), gives)) =
      let (f, vs, calls) = call r asks in
      (w, ap (λ (k : ℕ). event.Result k w) next, (reply, due_leaves store r f vs left reply calls (subst (λ (x : Phase). In before s x r reply) p replies), gives))
  due_next before s (event.Make a f vs) left p q call h = absurd (cc h.1.0)
  due_next before s (event.Resume a how.Start) left p q call h = absurd (not_started before s [] (Due left) a p h)
  due_next before s (event.Resume a (how.Send v)) left p q call h = absurd (not_opened before s [] (Due left) _ p (λ e. cc) h)
  due_next before s (event.Resume a (how.Throw e)) left p q call h = absurd (not_opened before s [] (Due left) _ p (λ e. cc) h.1)
  due_next before s (event.Got a w) left p q call h = absurd (subst (IsTop a) q h.0)
  due_next before s (event.Ask a r own at) left p q call h = absurd (cc h.0)
  due_next before s _ left p q call h = absurd (cc h.0)

  -- a state in which so many drives are done
  abbrev at : ℕ → Phase → List Act → List Activation → State
  at count phase stack made = record { done = count; phase = phase; stack = stack; made = made }

  -- the first activation, which asks this by a unit
  abbrev act : Option Request → ℕ → Act
  act r unit = record { number = 1; asks = r; own = None; at = unit }

  -- these events may follow, and one drive is done then; in the lemmas on what stands behind an event, its own ones have the numbers
  -- that they have in the journal: the drive 0, and so on
  abbrev Follows : List Event → State → List Event → Type 0
  Follows before s es = Comes plan store (past before s) es × ((state_after s es).done ≡ 1)

  -- the script's only drive was begun
  abbrev AreCalls : Type 0
  AreCalls = AreAsked store journal (call_of (codes "f") m n ∷ []) qs

  -- its question is a call
  asks_call : (xs : List Posed) (r : Request) → AreAsked store journal (call_of (codes "f") m n ∷ []) xs → open_in (slice_get xs 0) [] ≡ Some r → (f : Obj) × (vs : List Obj) × (r ≡ Calling f vs keywords.None)
  asks_call [] r asked open_ = absurd (cc open_)
  asks_call (x ∷ xs) r asked open_ =
      let (q, requests, (f, vs, is, named, of), none) = posed_request store journal (call_of (codes "f") m n) x.pose refl asked.0.0 in (f, vs, some_is _ _ (sym open_ ∙ requests) ∙ is)

  ended : (made : List Activation) (xs : List Generator) (before es : List Event) → AreCalls → Comes plan store (past_with before (at 1 Idle [] made) xs) es → es ≡ []
  ended made xs before [] asked h = refl
  ended made xs before (e ∷ es) asked h =
      let few = few_asked store journal (call_of (codes "f") m n ∷ []) qs asked in
      let more = (idle_next before (at 1 Idle [] made) xs e refl h.0).1 in
      absurd (omega (arith, few, more))

  result_behind : (x : Ending) (made : List Activation) (before es : List Event) → AreCalls → Follows before (at 0 (Due (left_by x)) [] made) es → plain_text store es ≡ result_text store 1 (answer_of x)
  result_behind x made before [] asked h = absurd (cc h.1)
  result_behind x made before (e ∷ es) asked h =
      let c = due_next before (at 0 (Due (left_by x)) [] made) e (left_by x) refl refl (λ r open_. asks_call qs r asked open_) h.0.0 in
      let is : e ≡ event.Result 1 (answer_of x) = c.1 ∙ ap (λ (w : DriveAnswer). event.Result 1 w) (answers store before x c.0 c.2.0 c.2.1 c.2.2) in
      let none = ended made _ (before ++ event.Result 1 (answer_of x) ∷ []) es asked (subst (λ (y : Event). Comes plan store (past_after plan (past before (at 0 (Due (left_by x)) [] made)) y) es) is h.0.1) in
      subst (λ (y : Event). plain_text store (y ∷ es) ≡ result_text store 1 (answer_of x)) (sym is)
      (subst (λ (ys : List Event). plain_text store (event.Result 1 (answer_of x) ∷ ys) ≡ result_text store 1 (answer_of x)) (sym none) (append-nil (result_text store 1 (answer_of x))))

  end_behind : (x : Ending) (made : List Activation) (before es : List Event) → AreCalls → Ended x (own_from 1 5 es) → Follows before (at 0 Going (act None 0 ∷ []) made) es → plain_text store es ≡ result_text store 1 (answer_of x)
  end_behind x made before [] asked t h = absurd (cc h.1)
  end_behind x made before (e ∷ es) asked t h =
      let c = going_next before (at 0 Going (act None 0 ∷ []) made) 5 e refl h.0.0 in
      let own = told 5 e c.1.0 es c.0 c.1.1 in
      ⊎_elim (λ none. absurd cc)
      (λ some.
      let which : own_of 5 e ≡ Ends some.0 x ∷ [] = cc in
      let is : e ≡ event.End 1 x some.0 = ends_of 5 e some.0 x which ∙ ap (λ (k : ℕ). event.End k x some.0) (sym c.0) in
      subst (λ (y : Event). Follows before (at 0 Going (act None 0 ∷ []) made) (y ∷ es) → plain_text store (y ∷ es) ≡ result_text store 1 (answer_of x)) (sym is)
      (λ k. result_behind x made _ es asked (k.0.1, k.1)) h)
      t

  -- what the body gets ends it
  abbrev EndsIt : AfterValue → Type 0
  EndsIt K = ((v : Obj) (i : ℕ) (ts : List Own) → K (Given v) i ts → Ended (ending.Return v) ts) × ((e : PyBaseExceptionRef) (i : ℕ) (ts : List Own) → K (Failed e) i ts → Ended (ending.Raise e) ts)

  ends_it : (K : AfterValue) → EndsIt K → (w : GotAnswer) (i : ℕ) (ts : List Own) → Answers w i ts K → EndedBy w ts
  ends_it K k (got.Value v) i ts h = k.0 v i ts h
  ends_it K k (got.Stop v) i ts h = h
  ends_it K k (got.Raise e) i ts h = k.1 e i ts h

  got_it : (K : AfterValue) → EndsIt K → (w : GotAnswer) (ts : List Own) → Answered 2 (Gets 4 w ∷ ts) K → EndedBy w ts
  got_it K k w ts h = ends_it K k w 4 ts (gotten K 2 4 w ts h)

  -- the operands of the sum
  abbrev AreNumbers : Obj → Obj → Type 0
  AreNumbers a b = HasPayload store a (payload.Int m) × HasPayload store b (payload.Int n)

  answer_behind : (unit : ℕ) (a b : Obj) (K : AfterValue) (made : List Activation) (before es : List Event) → AreNumbers a b → AreCalls → EndsIt K → Answered 2 (own_from 1 4 es) K → Follows before (at 0 Asking (act (Some (Binary binary.Add a b)) unit ∷ []) made) es → plain_text store es ≡ line
  unfolding own_from told_by
  answer_behind unit a b K made before [] ab asked k t h = absurd (cc h.1)
  answer_behind unit a b K made before (e ∷ es) ab asked k t h =
      let c = got_next before (at 0 Asking (act (Some (Binary binary.Add a b)) unit ∷ []) made) e (act (Some (Binary binary.Add a b)) unit) a b refl refl refl h.0.0 in
      let sum = given before c.0 (gives_sum plan store (past before (at 0 Asking (act (Some (Binary binary.Add a b)) unit ∷ []) made)) a b m n c.0 ab.0 ab.1 c.3) in
      let is : e ≡ event.Got 1 c.0 = c.1 ∙ ap (λ (k : ℕ). event.Got k c.0) (sym c.2) in
      subst (λ (x : Event). Answered 2 (own_from 1 4 (x ∷ es)) K → Follows before (at 0 Asking (act (Some (Binary binary.Add a b)) unit ∷ []) made) (x ∷ es) → plain_text store (x ∷ es) ≡ line) (sym is)
      (λ u l. end_behind sum.0 made _ es asked (sum.1 (own_from 1 5 es) (got_it K k c.0 (own_from 1 5 es) u)) (l.0.1, l.1) ∙ sum.2) t h

  question_behind : (units : ℕ → Bool) (a b : Obj) (K : AfterValue) (made : List Activation) (before es : List Event) → AreNumbers a b → AreCalls → EndsIt K → Asked units (Binary binary.Add a b) None 2 (own_from 1 3 es) K → Follows before (at 0 Going (act None 0 ∷ []) made) es → plain_text store es ≡ line
  question_behind units a b K made before [] ab asked k t h = absurd (cc h.1)
  question_behind units a b K made before (e ∷ es) ab asked k t h =
      let c = going_next before (at 0 Going (act None 0 ∷ []) made) 3 e refl h.0.0 in
      let own = told 3 e c.1.0 es c.0 c.1.1 in
      ⊎_elim (λ none. let empty = none.0 in absurd cc)
      (λ some.
      let which : own_of 3 e ≡ Asks some.0 (Binary binary.Add a b) None ∷ [] = cc in
      let rest : some.1 ≡ own_from 1 4 es = cc in
      let is : e ≡ event.Ask 1 (Binary binary.Add a b) None some.0 = asks_of 3 e some.0 (Binary binary.Add a b) None which ∙ ap (λ (k : ℕ). event.Ask k (Binary binary.Add a b) None some.0) (sym c.0) in
      subst (λ (x : Event). Follows before (at 0 Going (act None 0 ∷ []) made) (x ∷ es) → plain_text store (x ∷ es) ≡ line) (sym is)
      (λ l. answer_behind some.0 a b K made _ es ab asked k (subst (λ (xs : List Own). Answered 2 xs K) rest some.4) (l.0.1, l.1)) h)
      t

  entry_behind : (f a b : Obj) (before es : List Event) → AreNumbers a b → AreCalls → IsBegun (anywhere store globals) function (a ∷ b ∷ []) (own_from 1 2 es) → Follows before (at 0 (Made f) [] (record { function = f; args = a ∷ b ∷ [] } ∷ [])) es → plain_text store es ≡ line
  unfolding own_from told_by
  entry_behind f a b before [] ab asked t h = absurd (cc h.1)
  entry_behind f a b before (e ∷ es) ab asked t h =
      subst (λ (x : Event). IsBegun (anywhere store globals) function (a ∷ b ∷ []) (own_from 1 2 (x ∷ es)) → Follows before (at 0 (Made f) [] (record { function = f; args = a ∷ b ∷ [] } ∷ [])) (x ∷ es) → plain_text store (x ∷ es) ≡ line)
      (sym (made_next before (at 0 (Made f) [] (record { function = f; args = a ∷ b ∷ [] } ∷ [])) e f refl h.0.0))
      (λ u l. question_behind _ a b _ _ _ es ab asked (λ v i ts x. ⊎_elim (λ cut. inl cut.0) (λ more. more) x, λ e i ts x. x) (⊎_elim (λ cut. inl (cut.0, refl)) (λ more. more) u) (l.0.1, l.1)) t h

  -- the first question is the script's
  first_asked : (xs : List Posed) (f : Obj) (vs : List Obj) → AreAsked store journal (call_of (codes "f") m n ∷ []) xs → open_in (slice_get xs 0) [] ≡ Some (Calling f vs keywords.None) → IsCalled f vs
  first_asked [] f vs h e = absurd cc
  first_asked (x ∷ xs) f vs h e =
      let (q, requests, asks, none) = posed_request store journal (call_of (codes "f") m n) x.pose refl h.0.0 in
      asked_for store journal (codes "f") (atom.Int m ∷ atom.Int n ∷ []) f vs (subst (AsksThis store journal (call_of (codes "f") m n)) (some_is _ _ (sym requests ∙ e)) asks)

  -- it is made by a host that has entered nothing
  none_entered : (xs : List Posed) → AreAsked store journal (call_of (codes "f") m n ∷ []) xs → entered_in (slice_get xs 0) ≡ 0
  none_entered [] h = refl
  none_entered (x ∷ xs) h = h.0.1

  -- and has no exception made, and none reported
  none_formed : (xs : List Posed) → AreAsked store journal (call_of (codes "f") m n ∷ []) xs → (makings_of (slice_get xs 0) ≡ None) × (to_report_by (slice_get xs 0) ≡ None)
  none_formed [] h = (refl, refl)
  none_formed (x ∷ xs) h = let (q, requests, asks, none) = posed_request store journal (call_of (codes "f") m n) x.pose refl h.0.0 in none

  -- with so many arguments as it takes the function is entered
  entered_by : (f : Obj) (vs : List Obj) (place : Setting) (course : Course) → AreObjects decls store → place.signatures ≡ map signature_of (codes_in decls) → place.depth ≡ 0 → IsCalled f vs → CallsFunction place store f vs course → course ≡ Enters f vs
  entered_by f [] place course o signed at_zero q calls = absurd q.1
  entered_by f (a ∷ []) place course o signed at_zero q calls = absurd q.1.1
  entered_by f (a ∷ b ∷ c ∷ vs) place course o signed at_zero q calls = absurd q.1.1.1
  entered_by f (a ∷ b ∷ []) place course o signed at_zero q calls =
      let is : course ≡ entry_at place.depth (Enters f (a ∷ b ∷ [])) =
      course_is place store f (record { name = codes "f"; code = 0 }) (signature_of (OfBody function)) (a ∷ b ∷ []) course (entry_of function store f o q.0) (ap (λ (xs : List Signature). slice_get xs 0) signed) calls in
      is ∙ ap (λ (k : ℕ). entry_at k (Enters f (a ∷ b ∷ []))) at_zero

  enters_only : (xs : List Posed) (r : Request) (course : Course) (place : Setting) → AreObjects decls store → place.signatures ≡ map signature_of (codes_in decls) → AreAsked store journal (call_of (codes "f") m n ∷ []) xs → place.depth ≡ 0
      → open_in (slice_get xs 0) [] ≡ Some r → ComesTo place store r course → (f : Obj) × (vs : List Obj) × (course ≡ Enters f vs) × (r ≡ Calling f vs keywords.None)
  enters_only [] r course place o signed h at_zero e c = absurd cc
  enters_only (x ∷ xs) r course place o signed h at_zero e c =
      let (q, requests, (f, vs, is, named, of), none) = posed_request store journal (call_of (codes "f") m n) x.pose refl h.0.0 in
      let same : r ≡ Calling f vs keywords.None = some_is _ _ (sym e ∙ requests) ∙ is in
      let comes = subst (λ (y : Request). ComesTo place store y course) same c in (
        f,
        vs,
        entered_by f vs place course o signed at_zero (named, of) (called place store f (record { name = codes "f"; code = 0 }) vs course (entry_of function store f o named) comes),
        same,
      )

  -- what the first activation that is made tells among these events, the first of which has this number
  abbrev Tells : State → ℕ → List Event → Type 0
  Tells s i es = (a : Activation) → slice_get (state_after s es).made 0 ≡ Some a → Traces (codes_in decls) globals store a.function a.args (own_from 1 i es)

  making : (f : Obj) (vs : List Obj) (before es : List Event) → AreObjects decls store → AreCalls → IsCalled f vs → Tells (at 0 Asking [] []) 1 (event.Make 1 f vs ∷ es) → Follows before (at 0 Asking [] []) (event.Make 1 f vs ∷ es) → plain_text store (event.Make 1 f vs ∷ es) ≡ line
  unfolding own_from told_by
  making f [] before es o asked q t h = absurd q.1
  making f (a ∷ []) before es o asked q t h = absurd q.1.1
  making f (a ∷ b ∷ c ∷ vs) before es o asked q t h = absurd q.1.1.1
  making f (a ∷ b ∷ []) before es o asked q t h =
      let made : Activation = record { function = f; args = a ∷ b ∷ [] } in
      let trace = traced_by function globals store f (a ∷ b ∷ []) _ (entry_of function store f o q.0) (t made (kept (at 0 (Made f) [] (made ∷ [])) es made refl)) in
      entry_behind f a b _ es (q.1.0, q.1.1.0) asked (begun (anywhere store globals) function (a ∷ b ∷ []) (own_from 1 2 es) trace) (h.0.1, h.1)

  making_behind : (before es : List Event) → AreObjects decls store → AreAsked store journal (call_of (codes "f") m n ∷ []) qs → Tells (at 0 Asking [] []) 1 es → Follows before (at 0 Asking [] []) es → plain_text store es ≡ line
  making_behind before [] o asked t h = absurd (cc h.1)
  making_behind before (e ∷ es) o asked t h =
      let none = none_entered qs asked in
      let c = asked_next before (at 0 Asking [] []) e refl refl (none_formed qs asked) (λ r course q x. enters_only qs r course (setting plan (past before (at 0 Asking [] []))) o refl asked (omega (arith, none)) q x) h.0.0 in
      subst (λ (x : Event). Tells (at 0 Asking [] []) 1 (x ∷ es) → Follows before (at 0 Asking [] []) (x ∷ es) → plain_text store (x ∷ es) ≡ line) (sym c.2)
      (λ u l. making c.0 c.1 before es o asked (first_asked qs c.0 c.1 asked c.3) u l) t h

  all_behind : (es : List Event) → AreObjects decls store → AreAsked store journal (call_of (codes "f") m n ∷ []) qs → Tells start 0 es → Follows [] start es → plain_text store es ≡ line
  unfolding own_from told_by
  all_behind [] o asked t h = absurd (cc h.1)
  all_behind (e ∷ es) o asked t h =
      let c = idle_next [] start [] e refl h.0.0 in
      subst (λ (x : Event). Tells start 0 (x ∷ es) → Follows [] start (x ∷ es) → plain_text store (x ∷ es) ≡ line) (sym c.0)
      (λ u l. making_behind (event.Drive 1 ∷ []) es o asked u (l.0.1, l.1)) t h

-- a line of the only drive
first_line : (text : List ℕ) → numbered 1 text ≡ codes "1" ++ (text ++ codes "\n")
first_line text = ap (λ (ds : List ℕ). ds ++ (text ++ codes "\n")) decimal_1

-- the value is written
of_value : (store : List Payload) (i : ℤ) (before : List Event) (w : GotAnswer) → GivesBody store before (Has (payload.Int i)) w → WritesAt store (codes "1" ++ ((codes " returns " ++ signed_decimal i) ++ codes "\n")) w
of_value store i before (got.Value v) h = (
  ending.Return v,
  λ ts t. t,
  subst (λ (p : Option Payload). numbered 1 (codes " returns " ++ shown (Some (repr_within 999 store)) store p) ≡ codes "1" ++ ((codes " returns " ++ signed_decimal i) ++ codes "\n")) (sym h) (first_line (codes " returns " ++ signed_decimal i)),
)
of_value store i before _ h = absurd h

-- the text of each sum in range
pub text_of_sum : (m n : ℤ) → in_range (m +ℤ n) ≡ true → Writes m n (codes "1 returns " ++ (signed_decimal (m +ℤ n) ++ codes "\n"))
text_of_sum m n i store es r d =
    unchanged store es ∙ all_behind store r.globals es r.asked m n _
    (λ before w g. of_value store (m +ℤ n) before w (subst (λ (b : Bool). GivesBody store before (if b then Has (payload.Int (m +ℤ n)) else Fails OverflowError out_of_range) w) i g))
    es r.are_objects r.are_asked (r.run.tells 0) (r.run.comes, d.done)

-- the class that is declared under the name of a kind has it
class_named : (ts : List Decl) (store : List Payload) (kind : ErrorKind) (c : Obj) → AreObjects ts store → declared store (name_of kind) ≡ Some c → class_name (payload_of store c) ≡ name_of kind
class_named ts store kind c o e =
    let (class, is) = o.builtins kind in
    ap (λ (c : Obj). class_name (payload_of store c)) (some_is c (class_object class) (sym e ∙ is.is_declared)) ∙ ap class_name is.entry

-- a text is itself, so deep as it may be
text_within : (k : ℕ) (store : List Payload) (v : Obj) (text : Name) → HasPayload store v (payload.Str text) → str_within k store v ≡ encode_utf8_all text
text_within zero store v text is = ap (λ (p : Option Payload). str_by None (repr_within zero store v) store p) is
text_within (suc k) store v text is = ap (λ (p : Option Payload). str_by (Some (said_by (str_within k store) (repr_within k store) store)) (repr_within (suc k) store v) store p) is

-- an exception of a kind with a text is written, as the result of any drive
pub raise_line_of : (d : ℕ) (ts : List Decl) (store : List Payload) (kind : ErrorKind) (text : Name) → list_all (λ c. nat_lt c 128) (name_of kind) ≡ true → list_all (λ c. nat_lt c 128) text ≡ true
    → AreObjects ts store → (before : List Event) (e : PyBaseExceptionRef) → IsRaised store before kind text e
    → result_text store d (answer.Raises e) ≡ numbered d (codes " raises " ++ (name_of kind ++ (codes ": " ++ text)))
raise_line_of d ts store kind text ascii_name ascii_text o before e h =
    ap (λ (p : Option Payload). numbered d (codes " raises " ++ raised store p)) h.made.entry
    ∙ (ap (λ (n : Name). numbered d (codes " raises " ++ (encode_utf8_all n ++ details store (items_of (payload_of store h.made.args))))) (class_named ts store kind (class_object h.class) o h.is_class)
    ∙ (ap (λ (p : Option Payload). numbered d (codes " raises " ++ (encode_utf8_all (name_of kind) ++ details store (items_of p)))) h.made.are
    ∙ (ap (λ (t : List ℕ). numbered d (codes " raises " ++ (encode_utf8_all (name_of kind) ++ (codes ": " ++ t)))) (text_within 1000 store h.argument text h.message)
    ∙ (ap (λ (name : List ℕ). numbered d (codes " raises " ++ (name ++ (codes ": " ++ encode_utf8_all text)))) (ascii_bytes (name_of kind) ascii_name)
    ∙ ap (λ (t : List ℕ). numbered d (codes " raises " ++ (name_of kind ++ (codes ": " ++ t)))) (ascii_bytes text ascii_text)))))

-- the same of the only drive
pub raise_line : (ts : List Decl) (store : List Payload) (kind : ErrorKind) (text : Name) → list_all (λ c. nat_lt c 128) (name_of kind) ≡ true → list_all (λ c. nat_lt c 128) text ≡ true
    → AreObjects ts store → (before : List Event) (e : PyBaseExceptionRef) → IsRaised store before kind text e
    → result_text store 1 (answer.Raises e) ≡ codes "1" ++ ((codes " raises " ++ (name_of kind ++ (codes ": " ++ text))) ++ codes "\n")
raise_line ts store kind text ascii_name ascii_text o before e h =
    raise_line_of 1 ts store kind text ascii_name ascii_text o before e h ∙ first_line (codes " raises " ++ (name_of kind ++ (codes ": " ++ text)))

-- so is a sum that is out of range
pub overflow_line : (ts : List Decl) (store : List Payload) → AreObjects ts store → (before : List Event) (e : PyBaseExceptionRef) → IsRaised store before OverflowError out_of_range e
    → result_text store 1 (answer.Raises e) ≡ codes "1 raises OverflowError: integer out of range\n"
overflow_line ts store o before e h = raise_line ts store OverflowError out_of_range refl refl o before e h

-- so is what a raise ends
of_raise : (store : List Payload) → AreObjects decls store → (before : List Event) (w : GotAnswer) → GivesBody store before (Fails OverflowError out_of_range) w → WritesAt store (codes "1 raises OverflowError: integer out of range\n") w
of_raise store o before (got.Raise e) h = (ending.Raise e, λ ts t. t, overflow_line decls store o before e h)
of_raise store o before _ h = absurd h

-- the text of each sum out of range
pub text_of_overflow : (m n : ℤ) → in_range (m +ℤ n) ≡ false → Writes m n (codes "1 raises OverflowError: integer out of range\n")
text_of_overflow m n i store es r d =
    unchanged store es ∙ all_behind store r.globals es r.asked m n _
    (λ before w g. of_raise store r.are_objects before w (subst (λ (b : Bool). GivesBody store before (if b then Has (payload.Int (m +ℤ n)) else Fails OverflowError out_of_range) w) i g))
    es r.are_objects r.are_asked (r.run.tells 0) (r.run.comes, d.done)

-- the text of the worked run, and of the one that raises
pub text : events_text objects [] events ≡ codes "1 returns 45\n"
text = text_of_sum (pos 33) (pos 12) refl objects events is_run (record { done = refl; idle = refl }) ∙ ap (λ (ds : List ℕ). codes "1 returns " ++ (ds ++ codes "\n")) decimal_45

pub overflow_text : events_text overflow_objects [] (overflow_by (exception 8)) ≡ codes "1 raises OverflowError: integer out of range\n"
overflow_text = text_of_overflow greatest (pos 1) refl overflow_objects (overflow_by (exception 8)) overflow_is_run (record { done = refl; idle = refl })
