-- What may come where drives ask alike: nothing reads the literals of a drive's question any more once an event is behind it.
use Rattle.std.proofs.Common.{◌≡◌, ◌+◌, ℕ, List, [], ◌∷◌, ◌++◌, Some, None, inl, inr, refl, sym, ap, subst, ◌∙◌, length}
use Rattle.std.specs.Prelude.{Option, slice_get, map}
use Rattle.std.proofs.lemmas.Option.{same_Some, slice_get_within}
use Rattle.py_objects.specs.declared.payload.Payload.{Payload}
use Rattle.py_objects.specs.declared.payload.CoroKind.{CoroKind}
use Rattle.py_objects.specs.declared.request.Keywords.{Keywords}
use Rattle.py_objects.specs.declared.request.Request.{Request}
use Rattle.py_objects.specs.declared.request.Request.TheVariants as request
use Rattle.py_objects.specs.declared.event.DriveAnswer.{DriveAnswer}
use Rattle.py_objects.specs.declared.event.ResumeHow.{ResumeHow}
use Rattle.py_objects.specs.declared.event.ResumeHow.TheVariants as how
use Rattle.py_objects.specs.declared.event.Event.{Event}
use Rattle.py_objects.specs.declared.event.Event.TheVariants as event
use Rattle.py_objects.specs.Objects.{Obj}
use Rattle.py_coro.specs.declared.coro.CoroEnd.{CoroEnd}
use Rattle.py_grammar.specs.Grammar.{Coded}
use Rattle.py_answers.specs.Answers.{Reply}
use Rattle.py_run.specs.Run.{Requests, Posed, Plan, Phase, Idle, Asking, Going, Made, Due, Act, State, after, open_in, requested_by, makings_of, to_report_by, entered_in, question, handled_among}
use Rattle.py_run.specs.Generators.{Generator, answered, settled, value_of, returned_by}
use Rattle.py_run.specs.Calls.{Course, Says, Enters, Begins, Sends, Throws, Setting, ComesTo, IsDue}
use Rattle.py_run.specs.Coming.{Past, past_after, setting, IsOfKind, Opens, Starts, IsEntered, IsReply, IsAnswered, IsFormed, IsReported, MayCome}
use Rattle.py_meaning.specs.Whole.{signature_of, plan_of}

-- two requests of a drive that differ at most in what nobody reads any more once an event is behind it
pub data AskAlike : Request → Request → Type 0 where
  AlikeCalls : (f g : Obj) → (vs ws : List Obj) → (named : Keywords) → AskAlike (request.Call f vs named) (request.Call g ws named)
  AlikeSends : (g v w : Obj) → AskAlike (request.Send g v) (request.Send g w)
  AlikeThrows : (g c d : Obj) → (v w t : Option Obj) → AskAlike (request.Throw g c v t) (request.Throw g d w t)
  AlikeCloses : (g : Obj) → AskAlike (request.Close g) (request.Close g)

-- what is due to one is due to the other
due_alike : (objects : List Payload) (r r' : Request) (how : CoroEnd) (reply : Reply) → AskAlike r r' → IsDue objects r' how reply → IsDue objects r how reply
due_alike objects _ _ how reply (AlikeCalls f g vs ws named) due = due
due_alike objects _ _ how reply (AlikeSends g v w) due = due
due_alike objects _ _ how reply (AlikeThrows g c d v w t) due = due
due_alike objects _ _ how reply (AlikeCloses g) due = due

-- and leaves the same generators
settled_alike : (r r' : Request) (how : CoroEnd) (xs : List Generator) → AskAlike r r' → settled (Some r) how xs ≡ settled (Some r') how xs
settled_alike _ _ how xs (AlikeCalls f g vs ws named) = refl
settled_alike _ _ how xs (AlikeSends g v w) = refl
settled_alike _ _ how xs (AlikeThrows g c d v w t) = refl
settled_alike _ _ how xs (AlikeCloses g) = refl

-- what a drive poses that requests something, and has entered nothing
abbrev pub posing : Request → Posed
posing r = record { pose = Requests r; entered = 0 }

-- the drive of a number asks alike by two lists
pub record AskBoth (asked asked' : List Posed) (n : ℕ) : Type 0 where
  pub request : Request
  pub other : Request
  pub here : slice_get asked n ≡ Some (posing request)
  pub there : slice_get asked' n ≡ Some (posing other)
  pub alike : AskAlike request other

-- where a question of this drive stands
unfoldable pub setting_by : (coded : List Coded) → Past → Option Posed → Setting
setting_by coded p q =
    record { signatures = map signature_of coded; depth = entered_in q + length p.state.stack; handled = handled_among p.state.stack; generators = p.generators }

-- a past with these generators, behind an event
unfoldable pub behind_with : Past → Event → List Generator → Past
behind_with p e xs = record { events = p.events ++ e ∷ []; state = after p.state e; generators = xs }

-- it is no drive's question that is open
abbrev pub IsBegun : State → Type 0
IsBegun s = s.phase ≡ Asking → s.stack ≡ [] → ⊥

module _ (coded : List Coded) (objects : List Payload) (asked asked' : List Posed) where
  -- two plans
  abbrev plan : Plan
  plan = plan_of coded asked

  abbrev plan' : Plan
  plan' = plan_of coded asked'

  -- a question stands where it stood
  setting_alike : (p : Past) → AskBoth asked asked' p.state.done → setting plan p ≡ setting plan' p
  unfolding setting_by
  setting_alike p both = ap (setting_by coded p) both.here ∙ sym (ap (setting_by coded p) both.there)

  -- that of a body is the same
  body_alike : (q q' : Option Posed) (stack : List Act) → (stack ≡ [] → ⊥) → open_in q stack ≡ open_in q' stack
  body_alike q q' [] some = absurd (some refl)
  body_alike q q' (a ∷ stack) some = refl

  question_alike : (s : State) → (s.stack ≡ [] → ⊥) → question plan s ≡ question plan' s
  question_alike s some = body_alike (slice_get asked s.done) (slice_get asked' s.done) s.stack some

  -- and comes to the same
  opens_alike : (p : Past) (c : Course) → AskBoth asked asked' p.state.done → IsBegun p.state → Opens plan' objects p c → Opens plan objects p c
  opens_alike p c both begun (asks, (r, open_, comes)) =
      (asks, (r, question_alike p.state (begun asks) ∙ open_, subst (λ at. ComesTo at objects r c) (sym (setting_alike p both)) comes))

  -- a function is of the same kind
  abbrev kind_alike : (f : Obj) (kind : Option CoroKind) → IsOfKind plan' objects f kind → IsOfKind plan objects f kind
  kind_alike f kind is = record { body = is.body; entry = is.entry; signature = is.signature; signed = is.signed; kind_is = is.kind_is }

  -- an activation starts as well
  starts_alike : (p : Past) (phase : Phase) (a : ℕ) → AskBoth asked asked' p.state.done → IsBegun p.state → Starts plan' objects p phase a → Starts plan objects p phase a
  starts_alike p Asking a both begun opens = opens_alike p (Begins a) both begun opens
  starts_alike p (Made f) a both begun (is, kind) = (is, kind_alike f None kind)
  starts_alike p _ a both begun starts = absurd starts

  -- it is entered as well
  entered_alike : (p : Past) (h : ResumeHow) (a : ℕ) → AskBoth asked asked' p.state.done → IsBegun p.state → IsEntered plan' objects p h a → IsEntered plan objects p h a
  entered_alike p how.Start a both begun starts = starts_alike p p.state.phase a both begun starts
  entered_alike p (how.Send v) a both begun opens = opens_alike p (Sends a v) both begun opens
  entered_alike p (how.Throw e) a both begun (x, opens, raise) = (x, opens_alike p (Throws a x) both begun opens, raise)

  -- ---- answers

  -- a reply to one question is one to the other, in each phase
  reply_alike : (p : Past) (phase : Phase) (r r' : Request) (reply : Reply) → AskBoth asked asked' p.state.done → (phase ≡ Asking → ⊥) → AskAlike r r'
      → IsReply plan' objects p phase r' reply → IsReply plan objects p phase r reply
  reply_alike p Asking r r' reply both begun alike is = absurd (begun refl)
  reply_alike p (Made f) r r' reply both begun alike (kind, of_kind, is) = (kind, kind_alike f (Some kind) of_kind, is)
  reply_alike p (Due left) r r' reply both begun alike due = due_alike objects r r' left reply alike due
  reply_alike p _ r r' reply both begun alike is = absurd is

  -- one to the same question too
  same_reply : (p : Past) (phase : Phase) (r : Request) (reply : Reply) → AskBoth asked asked' p.state.done
      → IsReply plan' objects p phase r reply → IsReply plan objects p phase r reply
  same_reply p Asking r reply both comes = subst (λ at. ComesTo at objects r (Says reply)) (sym (setting_alike p both)) comes
  same_reply p (Made f) r reply both (kind, of_kind, is) = (kind, kind_alike f (Some kind) of_kind, is)
  same_reply p (Due left) r reply both due = due
  same_reply p _ r reply both is = absurd is

  -- the question of the drive, where no body runs
  drive_asks : (s : State) (both : AskBoth asked asked' s.done) → s.stack ≡ [] → question plan s ≡ Some both.request
  drive_asks s both none = ap (open_in (slice_get asked s.done)) none ∙ ap requested_by both.here

  drive_asks' : (s : State) (both : AskBoth asked asked' s.done) → s.stack ≡ [] → question plan' s ≡ Some both.other
  drive_asks' s both none = ap (open_in (slice_get asked' s.done)) none ∙ ap requested_by both.there

  -- what the open question is answered stays
  answered_alike : (p : Past) (reply : Reply) → AskBoth asked asked' p.state.done → IsBegun p.state → IsAnswered plan' objects p reply → IsAnswered plan objects p reply
  answered_alike p reply both begun (r, open_, is) = by p.state.stack refl
    where
      by : (stack : List Act) → p.state.stack ≡ stack → IsAnswered plan objects p reply
      by [] none =
          let other : r ≡ both.other = same_Some r both.other (sym open_ ∙ drive_asks' p.state both none) in
          let same : IsReply plan' objects p p.state.phase both.other reply = subst (λ q. IsReply plan' objects p p.state.phase q reply) other is in
          (both.request, drive_asks p.state both none, reply_alike p p.state.phase both.request both.other reply both (λ asks. begun asks none) both.alike same)
      by (a ∷ stack) some =
          let runs : p.state.stack ≡ [] → ⊥ = λ (none : p.state.stack ≡ []). absurd (cc (sym some ∙ none)) in
          (r, question_alike p.state runs ∙ open_, same_reply p p.state.phase r reply both is)

  -- no drive has anything but a request
  none_formed : (p : Past) (reply : Reply) → AskBoth asked asked' p.state.done → IsFormed plan' objects p reply → ⊥
  none_formed p reply both (asks, (x, forms, is)) = absurd (cc (sym (ap makings_of both.there) ∙ forms))

  none_reported : (p : Past) (w : DriveAnswer) → AskBoth asked asked' p.state.done → IsReported plan' objects p w → ⊥
  none_reported p w both (asks, (t, reports, is)) = absurd (cc (sym (ap to_report_by both.there) ∙ reports))

  -- ---- the next event

  -- one that may come by the other list may come by this one
  pub may_alike : (p : Past) (e : Event) → AskBoth asked asked' p.state.done → IsBegun p.state → MayCome plan' objects p e → MayCome plan objects p e
  may_alike p (event.Drive d) both begun (idle, next, some) = (idle, next, slice_get_within asked p.state.done (posing both.request) both.here)
  may_alike p (event.Make a f vs) both begun (next, opens) = (next, opens_alike p (Enters f vs) both begun opens)
  may_alike p (event.Resume a h) both begun enters = entered_alike p h a both begun enters
  may_alike p (event.Got a w) both begun (top, (reply, is, gives)) = (top, (reply, answered_alike p reply both begun is, gives))
  may_alike p (event.Result d w) both begun (next, alone, inl (reply, inl is, gives)) = (next, alone, inl (reply, inl (answered_alike p reply both begun is), gives))
  may_alike p (event.Result d w) both begun (next, alone, inl (reply, inr is, gives)) = absurd (none_formed p reply both is)
  may_alike p (event.Result d w) both begun (next, alone, inr is) = absurd (none_reported p w both is)
  may_alike p (event.Ask a r own at) both begun goes = goes
  may_alike p (event.Round a at) both begun goes = goes
  may_alike p (event.Yield a v at) both begun goes = goes
  may_alike p (event.End a e at) both begun goes = goes

  -- an answer leaves the same generators, in each phase in which no drive's question is open
  phase_alike : (phase : Phase) (r r' : Request) (made : ℕ) (v : Option Obj) (xs : List Generator) → (phase ≡ Asking → ⊥) → AskAlike r r'
      → answered (Some r) phase made v xs ≡ answered (Some r') phase made v xs
  phase_alike Idle r r' made v xs begun alike = refl
  phase_alike Asking r r' made v xs begun alike = absurd (begun refl)
  phase_alike Going r r' made v xs begun alike = refl
  phase_alike (Made f) r r' made v xs begun alike = refl
  phase_alike (Due how) r r' made v xs begun alike = settled_alike r r' how xs alike

  answers_alike : (p : Past) (v : Option Obj) → AskBoth asked asked' p.state.done → IsBegun p.state
      → answered (question plan p.state) p.state.phase (length p.state.made) v p.generators
      ≡ answered (question plan' p.state) p.state.phase (length p.state.made) v p.generators
  answers_alike p v both begun = by p.state.stack refl
    where
      by : (stack : List Act) → p.state.stack ≡ stack
          → answered (question plan p.state) p.state.phase (length p.state.made) v p.generators
          ≡ answered (question plan' p.state) p.state.phase (length p.state.made) v p.generators
      by [] none =
          ap (λ q. answered q p.state.phase (length p.state.made) v p.generators) (drive_asks p.state both none)
          ∙ phase_alike p.state.phase both.request both.other (length p.state.made) v p.generators (λ asks. begun asks none) both.alike
          ∙ sym (ap (λ q. answered q p.state.phase (length p.state.made) v p.generators) (drive_asks' p.state both none))
      by (a ∷ stack) some =
          let runs : p.state.stack ≡ [] → ⊥ = λ (none : p.state.stack ≡ []). absurd (cc (sym some ∙ none)) in
          ap (λ q. answered q p.state.phase (length p.state.made) v p.generators) (question_alike p.state runs)

  -- and the past behind it is the same
  pub past_alike : (p : Past) (e : Event) → AskBoth asked asked' p.state.done → IsBegun p.state → past_after plan p e ≡ past_after plan' p e
  unfolding behind_with
  past_alike p (event.Drive d) both begun = refl
  past_alike p (event.Make a f vs) both begun = refl
  past_alike p (event.Resume a h) both begun = refl
  past_alike p (event.Got a w) both begun = ap (behind_with p (event.Got a w)) (answers_alike p (value_of w) both begun)
  past_alike p (event.Result d w) both begun = ap (behind_with p (event.Result d w)) (answers_alike p (returned_by w) both begun)
  past_alike p (event.Ask a r own at) both begun = refl
  past_alike p (event.Round a at) both begun = refl
  past_alike p (event.Yield a v at) both begun = refl
  past_alike p (event.End a e at) both begun = refl
