-- The same states and the same events make the same states, where the same question is open.
use Rattle.std.proofs.Common.{◌≡◌, ℕ, suc, ◌+◌, List, [], ◌∷◌, ◌++◌, length, Some, None, refl, sym, ap, ◌∙◌}
use Rattle.std.specs.Prelude.{Option, slice_get, drop}
use Rattle.std.specs.Option.{option_or}
use Rattle.py_objects.specs.declared.refs.PyBaseExceptionRef.{PyBaseExceptionRef}
use Rattle.py_objects.specs.declared.request.Request.{Request}
use Rattle.py_objects.specs.declared.event.Ending.{Ending}
use Rattle.py_objects.specs.declared.event.Ending.TheVariants as ending
use Rattle.py_objects.specs.declared.event.Event.{Event}
use Rattle.py_objects.specs.declared.event.Event.TheVariants as event
use Rattle.py_run.specs.Run.{Pose, Requests, Posed, Plan, Act, Activation, State, after, IsTop, top_asks, left_by, requested, makings, makings_of, to_report, to_report_by, open_in, question, entered_in, depth, handled_among}
use Rattle.py_determined.specs.Raises.{Raise}
use Rattle.py_run.specs.Coming.{Past, setting}
use Rattle.py_agreement.specs.Agreement.{Relation, SameMaybe, SameHandled, SameEnding}
use Rattle.py_determined.specs.Sameness.{SameAsked, SameLeft, SameGenerators, SameSetting}
use Rattle.py_determined.specs.Events.{SameEvent}
use Rattle.py_determined.proofs.SameStates.{SamePose, SamePosed, SameActs, SameActivation, SameActivations, SameState}

module _ (S : Relation) where
  -- ---- states

  top_same : (q q' : Option Request) (own own' : Option PyBaseExceptionRef) (at at' : ℕ) (stack stack' : List Act) → SameMaybe (SameAsked S) q q' → SameHandled S own own' → SameActs S stack stack'
      → SameActs S (top_asks q own at stack) (top_asks q' own' at' stack')
  top_same q q' own own' at at' [] [] same_q same_own s = tt
  top_same q q' own own' at at' (a ∷ stack) (b ∷ stack') same_q same_own s = (record { number = s.0.number; asks = same_q; own = same_own }, s.1)
  top_same q q' own own' at at' _ _ same_q same_own s = absurd s

  rest_same : (stack stack' : List Act) → SameActs S stack stack' → SameActs S (drop 1 stack) (drop 1 stack')
  rest_same [] [] s = tt
  rest_same (a ∷ stack) (b ∷ stack') s = s.1
  rest_same _ _ s = absurd s

  made_on : (xs ys : List Activation) (x y : Activation) → SameActivations S xs ys → SameActivation S x y → SameActivations S (xs ++ x ∷ []) (ys ++ y ∷ [])
  made_on [] [] x y s same = (same, tt)
  made_on (a ∷ xs) (b ∷ ys) x y s same = (s.0, made_on xs ys x y s.1 same)
  made_on _ _ x y s same = absurd s

  pub made_count : (xs ys : List Activation) → SameActivations S xs ys → length xs ≡ length ys
  made_count [] [] s = refl
  made_count (a ∷ xs) (b ∷ ys) s = ap suc (made_count xs ys s.1)
  made_count _ _ s = absurd s

  left_same : (e f : Ending) → SameEnding S e f → SameLeft S (left_by e) (left_by f)
  left_same (ending.Return v) (ending.Return w) s = s
  left_same (ending.Raise e) (ending.Raise f) s = s
  left_same _ _ s = absurd s

  -- the state behind the same event
  pub after_same : (s s' : State) (e f : Event) → SameState S s s' → SameEvent S e f → SameState S (after s e) (after s' f)
  after_same s s' (event.Drive d) (event.Drive d') same is = record { done = same.done; phase = tt; stack = same.stack; made = same.made }
  after_same s s' (event.Result d w) (event.Result d' w') same is = record { done = ap suc same.done; phase = tt; stack = same.stack; made = same.made }
  after_same s s' (event.Make a f vs) (event.Make b g ws) same is =
      record { done = same.done; phase = is.1; stack = same.stack; made = made_on s.made s'.made _ _ same.made (record { function = is.1; args = is.2 }) }
  after_same s s' (event.Resume a h) (event.Resume b h') same is =
      record { done = same.done; phase = tt; stack = (record { number = is.0; asks = tt; own = tt }, same.stack); made = same.made }
  after_same s s' (event.Ask a r own at) (event.Ask b r' own' at') same is =
      record { done = same.done; phase = tt; stack = top_same (Some r) (Some r') own own' at at' s.stack s'.stack is.1 is.2 same.stack; made = same.made }
  after_same s s' (event.Got a w) (event.Got b w') same is = record { done = same.done; phase = tt; stack = top_same None None None None 0 0 s.stack s'.stack tt tt same.stack; made = same.made }
  after_same s s' (event.Round a at) (event.Round b at') same is = same
  after_same s s' (event.Yield a v at) (event.Yield b w at') same is = record { done = same.done; phase = is.1; stack = rest_same s.stack s'.stack same.stack; made = same.made }
  after_same s s' (event.End a e at) (event.End b f at') same is = record { done = same.done; phase = left_same e f is.1; stack = rest_same s.stack s'.stack same.stack; made = same.made }
  after_same s s' _ _ same is = absurd is

  -- the innermost activations are of one number
  pub tops_same : (a b : ℕ) (stack stack' : List Act) → SameActs S stack stack' → IsTop a stack → IsTop b stack' → a ≡ b
  tops_same a b [] [] s top top' = absurd top
  tops_same a b (x ∷ stack) (y ∷ stack') s top top' = sym top ∙ s.0.number ∙ top'
  tops_same a b _ _ s top top' = absurd s

  -- ---- settings

  -- two drives request the same
  requested_same : (x y : Pose) → SamePose S x y → SameMaybe (SameAsked S) (requested x) (requested y)
  requested_same (Requests r) (Requests q) s = s
  requested_same _ _ s = absurd s

  -- and have no exception made of anything, and none reported
  abbrev OnlyRequests : Option Posed → Type 0
  OnlyRequests q = (makings_of q ≡ None) × (to_report_by q ≡ None)

  only_requests : (x y : Posed) → SamePose S x.pose y.pose → OnlyRequests (Some x) × OnlyRequests (Some y)
  only_requests x y s = poses x.pose y.pose s
    where
      poses : (x y : Pose) → SamePose S x y → ((makings x ≡ None) × (to_report x ≡ None)) × ((makings y ≡ None) × (to_report y ≡ None))
      poses (Requests r) (Requests q) s = ((refl, refl), (refl, refl))
      poses _ _ s = absurd s

  pub forms_none : (q q' : Option Posed) → SameMaybe (SamePosed S) q q' → OnlyRequests q × OnlyRequests q'
  forms_none None None s = ((refl, refl), (refl, refl))
  forms_none (Some p) (Some q) s = only_requests p q s.pose
  forms_none _ _ s = absurd s

  -- the innermost activation's question is the same
  pub open_same : (q q' : Option Posed) (stack stack' : List Act) → SameMaybe (SamePosed S) q q' → SameActs S stack stack' → SameMaybe (SameAsked S) (open_in q stack) (open_in q' stack')
  open_same None None [] [] posed s = tt
  open_same (Some p) (Some q) [] [] posed s = requested_same p.pose q.pose posed.pose
  open_same q q' (a ∷ stack) (b ∷ stack') posed s = s.0.asks
  open_same None (Some q) [] [] posed s = absurd posed
  open_same (Some p) None [] [] posed s = absurd posed
  open_same _ _ _ _ posed s = absurd s

  pub handled_same : (stack stack' : List Act) → SameActs S stack stack' → SameHandled S (handled_among stack) (handled_among stack')
  handled_same [] [] s = tt
  handled_same (a ∷ stack) (b ∷ stack') s = or_same a.own b.own (handled_among stack) (handled_among stack') s.0.own (handled_same stack stack' s.1)
    where
      or_same : (h h' k k' : Option PyBaseExceptionRef) → SameHandled S h h' → SameHandled S k k' → SameHandled S (option_or h k) (option_or h' k')
      or_same None None k k' s t = t
      or_same (Some e) (Some f) k k' s t = s
      or_same _ _ k k' s t = absurd s
  handled_same _ _ s = absurd s

  entered_same : (q q' : Option Posed) → SameMaybe (SamePosed S) q q' → entered_in q ≡ entered_in q'
  entered_same None None s = refl
  entered_same (Some p) (Some q) s = s.entered
  entered_same _ _ s = absurd s

  stack_count : (stack stack' : List Act) → SameActs S stack stack' → length stack ≡ length stack'
  stack_count [] [] s = refl
  stack_count (a ∷ stack) (b ∷ stack') s = ap suc (stack_count stack stack' s.1)
  stack_count _ _ s = absurd s

  module _ (plan plan' : Plan) where
    -- the same question is open, at the same depth
    pub question_same : (s s' : State) → SameMaybe (SamePosed S) (slice_get plan.asked s.done) (slice_get plan'.asked s'.done) → SameState S s s'
        → SameMaybe (SameAsked S) (question plan s) (question plan' s')
    question_same s s' posed same = open_same _ _ s.stack s'.stack posed same.stack

    depth_same : (s s' : State) → SameMaybe (SamePosed S) (slice_get plan.asked s.done) (slice_get plan'.asked s'.done) → SameState S s s' → depth plan s ≡ depth plan' s'
    depth_same s s' posed same = ap (λ n. n + length s.stack) (entered_same _ _ posed) ∙ ap (λ n. entered_in (slice_get plan'.asked s'.done) + n) (stack_count s.stack s'.stack same.stack)

    -- so it stands in the same setting
    pub setting_same : (p q : Past) → plan.signatures ≡ plan'.signatures → SameMaybe (SamePosed S) (slice_get plan.asked p.state.done) (slice_get plan'.asked q.state.done)
        → SameState S p.state q.state → SameGenerators S p.generators q.generators → SameSetting S (setting plan p) (setting plan' q)
    setting_same p q signatures posed same generators = record {
      signatures = signatures;
      depth = depth_same p.state q.state posed same;
      handled = handled_same p.state.stack q.state.stack same.stack;
      generators = generators;
    }
