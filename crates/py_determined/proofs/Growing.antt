-- What is the same over a relation is the same over one that relates more objects.
use Rattle.std.proofs.Common.{List, [], ◌∷◌, Some, None}
use Rattle.std.specs.Prelude.{Option}
use Rattle.py_objects.specs.declared.payload.Payload.{Payload}
use Rattle.py_objects.specs.declared.payload.Payload.TheVariants as payload
use Rattle.py_objects.specs.declared.refs.PyBaseExceptionRef.{PyBaseExceptionRef}
use Rattle.py_objects.specs.declared.request.Request.{Request}
use Rattle.py_objects.specs.declared.event.GotAnswer.{GotAnswer}
use Rattle.py_objects.specs.declared.event.GotAnswer.TheVariants as got
use Rattle.py_objects.specs.declared.event.ResumeHow.{ResumeHow}
use Rattle.py_objects.specs.declared.event.ResumeHow.TheVariants as how
use Rattle.py_objects.specs.declared.event.Ending.{Ending}
use Rattle.py_objects.specs.declared.event.Ending.TheVariants as ending
use Rattle.py_objects.specs.declared.event.DriveAnswer.{DriveAnswer}
use Rattle.py_objects.specs.declared.event.DriveAnswer.TheVariants as answer
use Rattle.py_objects.specs.declared.event.Event.{Event}
use Rattle.py_objects.specs.declared.event.Event.TheVariants as event
use Rattle.py_objects.specs.Objects.{Obj, as_object}
use Rattle.py_objects.specs.Attrs.{Attrs}
use Rattle.py_coro.specs.declared.coro.CoroEnd.{CoroEnd}
use Rattle.py_coro.specs.declared.coro.CoroEnd.TheVariants as left
use Rattle.py_run.specs.Run.{Pose, Requests, Posed, Phase, Idle, Asking, Going, Made, Due, Act, Activation, State}
use Rattle.py_run.specs.Generators.{Generator}
use Rattle.py_determined.specs.Raises.{Raise}
use Rattle.py_agreement.specs.Agreement.{Relation, SameException, SameMaybe, SameHandled, SameAll, SameRequest, SameAnswer, SameHow, SameEnding}
use Rattle.py_determined.specs.Alike.{SameAttrs, Alike}
use Rattle.py_determined.specs.Sameness.{SameTold, SameAsked, SameLeft, SameGenerators}
use Rattle.py_determined.specs.Events.{SameResult, SameEvent, SameEvents}
use Rattle.py_determined.proofs.SameStates.{SamePose, SamePosed, SamePhase, SameAct, SameActs, SameActivations, SameState, SameRaises}
use Rattle.py_determined.proofs.Requests.{BothAsk, BothUnbound, BothGlobal, BothBinary, BothCompare, BothTruth, BothMatch, BothHandled, BothRaisable, BothShow, BothCall, BothSend, BothThrow, BothClose, BothEnter, BothExit, BothNoExit, both_ask}

-- two that may be there, under more
pub maybe_grows : {A : Type 0} (R R' : A → A → Type 0) → ((a b : A) → R a b → R' a b) → (v w : Option A) → SameMaybe R v w → SameMaybe R' v w
maybe_grows R R' more None None s = tt
maybe_grows R R' more (Some a) (Some b) s = more a b s
maybe_grows R R' more _ _ s = absurd s

module _ (S S' : Relation) (more : (v w : Obj) → S v w → S' v w) where
  -- ---- objects

  pub all_grow : (vs ws : List Obj) → SameAll S vs ws → SameAll S' vs ws
  all_grow [] [] s = tt
  all_grow (v ∷ vs) (w ∷ ws) s = (more v w s.0, all_grow vs ws s.1)
  all_grow _ _ s = absurd s

  exceptions_grow : (e f : PyBaseExceptionRef) → SameException S e f → SameException S' e f
  exceptions_grow e f s = more (as_object e) (as_object f) s

  pub handled_grows : (h h' : Option PyBaseExceptionRef) → SameHandled S h h' → SameHandled S' h h'
  handled_grows h h' s = maybe_grows (SameException S) (SameException S') exceptions_grow h h' s

  -- ---- questions and answers

  kinds_grow : (r r' : Request) → BothAsk S r r' → SameRequest S' r r'
  kinds_grow _ _ (BothUnbound x y e) = e
  kinds_grow _ _ (BothGlobal d d' x y e) = e
  kinds_grow _ _ (BothBinary op op' a a' b b' e s t) = (e, more a a' s, more b b' t)
  kinds_grow _ _ (BothCompare op op' a a' b b' e s t) = (e, more a a' s, more b b' t)
  kinds_grow _ _ (BothTruth v w s) = more v w s
  kinds_grow _ _ (BothMatch e e' c c' s t) = (more e e' s, more c c' t)
  kinds_grow _ _ BothHandled = tt
  kinds_grow _ _ (BothRaisable v w s) = more v w s
  kinds_grow _ _ (BothShow v w s) = more v w s
  kinds_grow _ _ (BothCall f g vs ws s t) = (more f g s, all_grow vs ws t)
  kinds_grow _ _ (BothSend g g' v w s t) = (more g g' s, more v w t)
  kinds_grow _ _ (BothThrow g g' c c' v v' t t' s k x y) = (more g g' s, more c c' k, maybe_grows S S' more v v' x, maybe_grows S S' more t t' y)
  kinds_grow _ _ (BothClose g g' s) = more g g' s
  kinds_grow _ _ (BothEnter m m' s) = more m m' s
  kinds_grow _ _ (BothExit m m' c c' e e' t t' s k x) = (more m m' s, more c c' k, more e e' x)
  kinds_grow _ _ (BothNoExit m m' s) = more m m' s

  pub requests_grow : (r r' : Request) → SameRequest S r r' → SameRequest S' r r'
  requests_grow r r' s = kinds_grow r r' (both_ask S r r' s)

  -- the tracebacks that exits are told, too
  told_grows : (r r' : Request) → BothAsk S r r' → SameTold S r r' → SameTold S' r r'
  told_grows _ _ (BothExit m m' c c' e e' t t' s k x) told = more t t' told
  told_grows _ _ (BothUnbound x y e) told = tt
  told_grows _ _ (BothGlobal d d' x y e) told = tt
  told_grows _ _ (BothBinary op op' a a' b b' e s t) told = tt
  told_grows _ _ (BothCompare op op' a a' b b' e s t) told = tt
  told_grows _ _ (BothTruth v w s) told = tt
  told_grows _ _ (BothMatch e e' c c' s t) told = tt
  told_grows _ _ BothHandled told = tt
  told_grows _ _ (BothRaisable v w s) told = tt
  told_grows _ _ (BothShow v w s) told = tt
  told_grows _ _ (BothCall f g vs ws s t) told = tt
  told_grows _ _ (BothSend g g' v w s t) told = tt
  told_grows _ _ (BothThrow g g' c c' v v' t t' s k x y) told = tt
  told_grows _ _ (BothClose g g' s) told = tt
  told_grows _ _ (BothEnter m m' s) told = tt
  told_grows _ _ (BothNoExit m m' s) told = tt

  pub asked_grow : (r r' : Request) → SameAsked S r r' → SameAsked S' r r'
  asked_grow r r' s = (requests_grow r r' s.0, told_grows r r' (both_ask S r r' s.0) s.1)

  answers_grow : (w w' : GotAnswer) → SameAnswer S w w' → SameAnswer S' w w'
  answers_grow (got.Value v) (got.Value w) s = more v w s
  answers_grow (got.Stop v) (got.Stop w) s = maybe_grows S S' more v w s
  answers_grow (got.Raise e) (got.Raise f) s = exceptions_grow e f s
  answers_grow _ _ s = absurd s

  entries_grow : (h h' : ResumeHow) → SameHow S h h' → SameHow S' h h'
  entries_grow how.Start how.Start s = tt
  entries_grow (how.Send v) (how.Send w) s = more v w s
  entries_grow (how.Throw e) (how.Throw f) s = exceptions_grow e f s
  entries_grow _ _ s = absurd s

  endings_grow : (e f : Ending) → SameEnding S e f → SameEnding S' e f
  endings_grow (ending.Return v) (ending.Return w) s = more v w s
  endings_grow (ending.Raise e) (ending.Raise f) s = exceptions_grow e f s
  endings_grow _ _ s = absurd s

  results_grow : (w w' : DriveAnswer) → SameResult S w w' → SameResult S' w w'
  results_grow (answer.Returns v) (answer.Returns w) s = more v w s
  results_grow (answer.Yields v) (answer.Yields w) s = more v w s
  results_grow (answer.Stops v) (answer.Stops w) s = maybe_grows S S' more v w s
  results_grow answer.Closes answer.Closes s = tt
  results_grow (answer.Raises e) (answer.Raises f) s = exceptions_grow e f s
  results_grow (answer.Reported s) (answer.Reported t) e = e
  results_grow _ _ s = absurd s

  -- ---- events

  pub event_grows : (e f : Event) → SameEvent S e f → SameEvent S' e f
  event_grows (event.Drive d) (event.Drive d') s = s
  event_grows (event.Result d w) (event.Result d' w') s = (s.0, results_grow w w' s.1)
  event_grows (event.Make a f vs) (event.Make b g ws) s = (s.0, more f g s.1, all_grow vs ws s.2)
  event_grows (event.Resume a h) (event.Resume b h') s = (s.0, entries_grow h h' s.1)
  event_grows (event.Ask a r own at) (event.Ask b r' own' at') s = (s.0, asked_grow r r' s.1, handled_grows own own' s.2)
  event_grows (event.Got a w) (event.Got b w') s = (s.0, answers_grow w w' s.1)
  event_grows (event.Round a at) (event.Round b at') s = s
  event_grows (event.Yield a v at) (event.Yield b w at') s = (s.0, more v w s.1)
  event_grows (event.End a e at) (event.End b f at') s = (s.0, endings_grow e f s.1)
  event_grows _ _ s = absurd s

  pub events_grow : (es fs : List Event) → SameEvents S es fs → SameEvents S' es fs
  events_grow [] fs s = tt
  events_grow (e ∷ es) [] s = tt
  events_grow (e ∷ es) (f ∷ fs) s = (event_grows e f s.0, events_grow es fs s.1)

  -- ---- states

  left_grows : (how how' : CoroEnd) → SameLeft S how how' → SameLeft S' how how'
  left_grows (left.Yield v) (left.Yield w) s = more v w s
  left_grows (left.Return v) (left.Return w) s = more v w s
  left_grows (left.Raise e) (left.Raise f) s = exceptions_grow e f s
  left_grows _ _ s = absurd s

  phase_grows : (x y : Phase) → SamePhase S x y → SamePhase S' x y
  phase_grows Idle Idle s = tt
  phase_grows Asking Asking s = tt
  phase_grows Going Going s = tt
  phase_grows (Made f) (Made g) s = more f g s
  phase_grows (Due how) (Due how') s = left_grows how how' s
  phase_grows _ _ s = absurd s

  act_grows : (a b : Act) → SameAct S a b → SameAct S' a b
  act_grows a b s = record { number = s.number; asks = maybe_grows (SameAsked S) (SameAsked S') asked_grow a.asks b.asks s.asks; own = handled_grows a.own b.own s.own }

  acts_grow : (stack stack' : List Act) → SameActs S stack stack' → SameActs S' stack stack'
  acts_grow [] [] s = tt
  acts_grow (a ∷ stack) (b ∷ stack') s = (act_grows a b s.0, acts_grow stack stack' s.1)
  acts_grow _ _ s = absurd s

  activations_grow : (xs ys : List Activation) → SameActivations S xs ys → SameActivations S' xs ys
  activations_grow [] [] s = tt
  activations_grow (x ∷ xs) (y ∷ ys) s = (record { function = more x.function y.function s.0.function; args = all_grow x.args y.args s.0.args }, activations_grow xs ys s.1)
  activations_grow _ _ s = absurd s

  pub state_grows : (s s' : State) → SameState S s s' → SameState S' s s'
  state_grows s s' same =
      record { done = same.done; phase = phase_grows s.phase s'.phase same.phase; stack = acts_grow s.stack s'.stack same.stack; made = activations_grow s.made s'.made same.made }

  pose_grows : (x y : Pose) → SamePose S x y → SamePose S' x y
  pose_grows (Requests r) (Requests q) s = asked_grow r q s
  pose_grows _ _ s = absurd s

  pub posed_grows : (p q : Posed) → SamePosed S p q → SamePosed S' p q
  posed_grows p q s = record { pose = pose_grows p.pose q.pose s.pose; entered = s.entered }

  pub generators_grow : (xs ys : List Generator) → SameGenerators S xs ys → SameGenerators S' xs ys
  generators_grow [] [] s = tt
  generators_grow (x ∷ xs) (y ∷ ys) s = (record { object = more x.object y.object s.0.object; act = s.0.act; mode = s.0.mode }, generators_grow xs ys s.1)
  generators_grow _ _ s = absurd s

  pub raises_grow : (objects : List Payload) (xs ys : List Raise) → SameRaises S objects xs ys → SameRaises S' objects xs ys
  raises_grow objects [] [] s = tt
  raises_grow objects (x ∷ xs) (y ∷ ys) s = (
    record { exception = more x.exception y.exception s.0.exception; traceback = λ p has is. maybe_grows S S' more x.traceback y.traceback (s.0.traceback p has is) },
    raises_grow objects xs ys s.1,
  )
  raises_grow objects _ _ s = absurd s

  -- ---- payloads

  attrs_grow : (attrs attrs' : Attrs) → SameAttrs S attrs attrs' → SameAttrs S' attrs attrs'
  attrs_grow [] [] s = tt
  attrs_grow (a ∷ attrs) (b ∷ attrs') s = (s.0, more a.1 b.1 s.1, attrs_grow attrs attrs' s.2)
  attrs_grow _ _ s = absurd s

  module _ (objects objects' : List Payload) where
    pub alike_grows : (p q : Payload) → Alike S objects objects' p q → Alike S' objects objects' p q
    alike_grows payload.None payload.None s = tt
    alike_grows (payload.Bool b) (payload.Bool c) s = s
    alike_grows (payload.Int m) (payload.Int n) s = s
    alike_grows (payload.Str s) (payload.Str t) e = e
    alike_grows (payload.Class c) (payload.Class d) s = (s.0, all_grow c.mro d.mro s.1)
    alike_grows (payload.Function f) (payload.Function g) s = s
    alike_grows (payload.Builtin f) (payload.Builtin g) s = s
    alike_grows (payload.Manager m) (payload.Manager n) s = (s.0, more m.enter n.enter s.1, more m.exit n.exit s.2)
    alike_grows (payload.Generator g) (payload.Generator h) s = s
    alike_grows (payload.Exception e) (payload.Exception f) s = record {
      class = more _ _ s.class;
      arguments = λ vs ws has has'. all_grow vs ws (s.arguments vs ws has has');
      attrs = attrs_grow e.attrs f.attrs s.attrs;
      cause = maybe_grows S S' more e.cause f.cause s.cause;
      context = maybe_grows S S' more e.context f.context s.context;
      suppress = s.suppress;
      traceback = maybe_grows S S' more e.traceback f.traceback s.traceback;
    }
    alike_grows (payload.Traceback t) (payload.Traceback u) s = tt
    alike_grows _ _ s = absurd s
