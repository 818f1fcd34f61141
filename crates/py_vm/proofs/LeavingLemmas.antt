-- What comes of an activation that was left, or that was made.
use Rattle.std.proofs.Common.{◌≡◌, ◌<◌, ◌++◌, ℕ, List, [], ◌∷◌, Bool, true, false, Some, inl, inr, refl, sym, ap, subst, ◌∙◌, length, arith, eq-eqb, ◌||◌}
use Rattle.std.specs.Prelude.{Option, None}
use Rattle.std.proofs.lemmas.Bool.Decides.{eqb_tells}
use Rattle.py_objects.specs.declared.refs.PyBaseExceptionRef.{PyBaseExceptionRef}
use Rattle.py_objects.specs.declared.payload.Payload.{Payload}
use Rattle.py_objects.specs.declared.payload.Payload.TheVariants as payload
use Rattle.py_objects.specs.declared.payload.CoroBody.{CoroBody}
use Rattle.py_objects.specs.declared.payload.CoroKind.{CoroKind}
use Rattle.py_objects.specs.declared.payload.Fault.{Fault}
use Rattle.py_objects.specs.declared.error_kind.ErrorKind.{ErrorKind}
use Rattle.py_objects.specs.declared.error_kind.ErrorKind.TheVariants.{RuntimeError}
use Rattle.py_objects.specs.declared.request.Request.{Request}
use Rattle.py_objects.specs.declared.event.Event.{Event}
use Rattle.py_objects.specs.declared.event.DriveAnswer.{DriveAnswer}
use Rattle.py_objects.specs.Objects.{Obj, HasPayload, as_object, numbers_if, AllBelow, IsException, is_among}
use Rattle.py_objects.specs.Edits.{Kept}
use Rattle.py_objects.specs.Growth.{GrowsPlainly, IsGrown}
use Rattle.py_objects.specs.Values.{is_none}
use Rattle.py_objects.proofs.GrownLemmas.{grown_refl}
use Rattle.py_check.specs.declared.note.Kind.TheVariants as kind
use Rattle.py_rows.specs.Answers.{HasKind}
use Rattle.py_exceptions.specs.declared.zoo.ExceptionZoo.{ExceptionZoo}
use Rattle.py_exceptions.specs.Classes.{class_of, HaveClasses}
use Rattle.py_exceptions.specs.Making.{IsNewException, IsNewExceptionFrom}
use Rattle.py_answers.specs.Answers.{This, FailsFrom, Passes}
use Rattle.py_answers.specs.Replying.{IsGenerator}
use Rattle.py_answers.proofs.GivingLemmas.{fails_from_given}
use Rattle.py_coro.specs.declared.coro.CoroEnd.{CoroEnd}
use Rattle.py_coro.specs.declared.coro.CoroEnd.TheVariants as left
use Rattle.py_coro.specs.declared.coro.CoroAnswer.{CoroAnswer}
use Rattle.py_coro.specs.declared.coro.CoroAnswer.TheVariants as answer
use Rattle.py_coro.specs.Leaving.{mode_behind, raised, value_if, Finishes}
use Rattle.py_coro.specs.Coros.{AreRead}
use Rattle.py_coro.specs.Refusals.{ignoring, stopping, word_of}
use Rattle.py_frame.specs.declared.input.Answer.{Answer}
use Rattle.py_run.specs.declared.drive.Question.{Question}
use Rattle.py_run.specs.Calls.{reply_by}
use Rattle.py_run.specs.Drives.{request_of}
use Rattle.py_vm.specs.declared.reply.Reply.{Reply as MadeReply}
use Rattle.py_vm.specs.declared.reply.Reply.TheVariants as made
use Rattle.py_vm.specs.declared.generators.KeptGenerator.{KeptGenerator}
use Rattle.py_vm.specs.declared.stage.Running.{Running}
use Rattle.py_vm.specs.declared.stage.Halted.{Halted}
use Rattle.py_vm.specs.declared.stage.Suspended.{Suspended}
use Rattle.py_vm.specs.declared.stage.Stage.{Stage}
use Rattle.py_vm.specs.declared.machinery.Core.{Core}
use Rattle.py_vm.specs.declared.world.World.{World}
use Rattle.py_vm.specs.Raising.{NotedOne}
use Rattle.py_vm.specs.Courses.{IsReplied, RepliesRaise, IsPassedBy}
use Rattle.py_vm.specs.Generators.{changed_at, generator_asked, kept_at, kept_by, kept_in, settled, IsRunningNow}
use Rattle.py_vm.specs.Stands.{IsEnding}
use Rattle.py_vm.specs.Turns.{got_by, passed, Finished, IsAnswerTo, IsSettled, Questioned, Replies, SettledOne, Started, end_numbers}
use Rattle.py_vm.specs.Ready.{AreReady, FirstAsks}
use Rattle.py_vm.proofs.CallsLemmas.{raise_given}

-- ---- how an activation was left

-- what is read there is there
pub ending_read : (objects : List Payload) (how : CoroEnd) → IsEnding objects how → AreRead objects how
ending_read objects (left.Yield v) x = tt
ending_read objects (left.Return v) x = x
ending_read objects (left.Raise e) x = x.1

-- what its generator answers keeps it where that may be entered again
pub finishes_kept : (objects : List Payload) (kind : CoroKind) (closing : Bool) (how : CoroEnd) (a : CoroAnswer) (s : Suspended) → Finishes objects kind closing how a → kept_by a s ≡ kept_in (mode_behind closing how) s
finishes_kept objects kind true (left.Yield v) a s is = ap (λ x. kept_by x s) is
finishes_kept objects kind false (left.Yield v) a s is = ap (λ x. kept_by x s) is
finishes_kept objects kind true (left.Return v) a s (p, has, is) = ap (λ x. kept_by x s) is
finishes_kept objects kind false (left.Return v) a s (p, has, is) = ap (λ x. kept_by x s) is
finishes_kept objects kind true (left.Raise e) a s (stop, exits, is_converted, of_exit, is) = ap (λ x. kept_by x s) is ∙ closed stop exits
  where
    closed : (stop : Option ErrorKind) (exits : Bool) → kept_by (raised true e stop exits) s ≡ None
    closed (Some x) exits = refl
    closed None true = refl
    closed None false = refl
finishes_kept objects kind false (left.Raise e) a s (stop, exits, is_converted, of_exit, is) = ap (λ x. kept_by x s) is ∙ raises stop
  where
    raises : (stop : Option ErrorKind) → kept_by (raised false e stop exits) s ≡ None
    raises (Some x) = refl
    raises None = refl

-- what an answer names is there, and what it raises is an exception
abbrev pub AnswersThere : List Payload → CoroAnswer → Type 0
AnswersThere objects (answer.Value v) = v.number < length objects
AnswersThere objects (answer.Stop v) = AllBelow (length objects) (numbers_if v)
AnswersThere objects answer.Closed = Unit {0}
AnswersThere objects (answer.Raise e) = (e.number < length objects) × HasKind objects (as_object e) kind.Exc
AnswersThere objects (answer.Convert e stop) = IsException objects (as_object e)
AnswersThere objects answer.Ignored = Unit {0}

pub finishes_there : (objects : List Payload) (kind : CoroKind) (closing : Bool) (how : CoroEnd) (a : CoroAnswer) → IsEnding objects how → Finishes objects kind closing how a → AnswersThere objects a
finishes_there objects kind true (left.Yield v) a x is = subst (AnswersThere objects) (sym is) tt
finishes_there objects kind false (left.Yield v) a x is = subst (AnswersThere objects) (sym is) x
finishes_there objects kind true (left.Return v) a x (p, has, is) = subst (AnswersThere objects) (sym is) tt
finishes_there objects kind false (left.Return v) a x (p, has, is) = subst (AnswersThere objects) (sym is) (value (is_none p))
  where
    value : (b : Bool) → AllBelow (length objects) (numbers_if (value_if v b))
    value true = tt
    value false = (x, tt)
finishes_there objects kind closing (left.Raise e) a x (stop, exits, is_converted, of_exit, is) = subst (AnswersThere objects) (sym is) (raises closing stop exits)
  where
    raises : (closing : Bool) (stop : Option ErrorKind) (exits : Bool) → AnswersThere objects (raised closing e stop exits)
    raises true (Some y) exits = x.1
    raises false (Some y) exits = x.1
    raises true None true = tt
    raises true None false = x
    raises false None exits = x

-- ---- what a generator answers

-- a new exception with a cause replies with its text and the cause
pub raise_from_given : (old new : List Payload) (zoo : ExceptionZoo) (kind : ErrorKind) (text : List ℕ) (cause e : PyBaseExceptionRef)
    → HaveClasses zoo old → GrowsPlainly old new → IsNewExceptionFrom old new (class_of zoo kind) text cause e → RepliesRaise old new (FailsFrom kind text cause) e
raise_from_given old new zoo kind text cause e classes grows x =
    record { plain = refl; gives = λ before named. fails_from_given old new before e grows named zoo kind classes text cause x; below = x.made.below; raises = (_, x.made.entry) }

-- an exception that is there replies as itself
pub passes_given : (objects : List Payload) (e : PyBaseExceptionRef) → (e.number < length objects) × HasKind objects (as_object e) kind.Exc → RepliesRaise objects objects (Passes (This e)) e
passes_given objects e (low, raises) = record { plain = refl; gives = λ before named. refl; below = low; raises = raises }

-- a generator settles with what it answers
module _ (m : Core) (g : Obj) (s : Suspended) (how : CoroEnd) (x : KeptGenerator) (here : kept_at m.world.generators g ≡ Some x) (a : CoroAnswer) (finishes : Finishes m.world.store.made x.generator.kind x.generator.closing how a)
    (body : CoroBody) (has : HasPayload m.world.store.made g (payload.Generator body)) where
  pub settled_one : (store : Kept) (list : List KeptGenerator) (w : MadeReply) → IsGrown m.world.store store → list ≡ changed_at g (settled s how) m.world.generators
      → IsReplied m.world.store.made store.made (reply_by (word_of body.kind) a) w → IsPassedBy (end_numbers how) w
      → SettledOne m g s how w (record m { world = record m.world { store = store; generators = list } })
  settled_one store list w grown changes replied passed = (store, list, (x, here, body, has, a, finishes, grown, changes, replied, passed), refl)

-- what it answers without a new exception
abbrev pub IsAtOnce : CoroAnswer → MadeReply → Type 0
IsAtOnce (answer.Value v) w = w ≡ made.Yields v
IsAtOnce (answer.Stop v) w = w ≡ made.Stops v
IsAtOnce answer.Closed w = w ≡ made.Closes
IsAtOnce (answer.Raise e) w = w ≡ made.Passed e
IsAtOnce (answer.Convert e stop) w = ⊥
IsAtOnce answer.Ignored w = ⊥

replied_at_once : (objects : List Payload) (word : List ℕ) (a : CoroAnswer) (w : MadeReply) → AnswersThere objects a → IsAtOnce a w → IsReplied objects objects (reply_by word a) w
replied_at_once objects word (answer.Value v) w there is = subst (IsReplied objects objects (reply_by word (answer.Value v))) (sym is) (refl, there)
replied_at_once objects word (answer.Stop v) w there is = subst (IsReplied objects objects (reply_by word (answer.Stop v))) (sym is) (refl, there)
replied_at_once objects word answer.Closed w there is = subst (IsReplied objects objects (reply_by word answer.Closed)) (sym is) refl
replied_at_once objects word (answer.Raise e) w there is = subst (IsReplied objects objects (reply_by word (answer.Raise e))) (sym is) (passes_given objects e there, refl)
replied_at_once objects word (answer.Convert e stop) w there is = absurd is
replied_at_once objects word answer.Ignored w there is = absurd is

-- an exception that it raises then is the one that it was left by
passed_at_once : (objects : List Payload) (kind : CoroKind) (closing : Bool) (how : CoroEnd) (a : CoroAnswer) (w : MadeReply) → IsAtOnce a w → Finishes objects kind closing how a → IsPassedBy (end_numbers how) w
passed_at_once objects kind closing how (answer.Value v) w is finishes = subst (IsPassedBy (end_numbers how)) (sym is) tt
passed_at_once objects kind closing how (answer.Stop v) w is finishes = subst (IsPassedBy (end_numbers how)) (sym is) tt
passed_at_once objects kind closing how answer.Closed w is finishes = subst (IsPassedBy (end_numbers how)) (sym is) tt
passed_at_once objects kind closing how (answer.Raise e) w is finishes = subst (IsPassedBy (end_numbers how)) (sym is) (by how closing finishes)
  where
    by : (how : CoroEnd) (closing : Bool) → Finishes objects kind closing how (answer.Raise e) → is_among e.number (end_numbers how) ≡ true
    by (left.Yield v) true is = absurd (cc is)
    by (left.Yield v) false is = absurd (cc is)
    by (left.Return v) true (p, has, is) = absurd (cc is)
    by (left.Return v) false (p, has, is) = absurd (cc is)
    by (left.Raise x) closing (stop, exits, is_converted, of_exit, is) = raises closing stop exits is
      where
        raises : (closing : Bool) (stop : Option ErrorKind) (exits : Bool) → answer.Raise e ≡ raised closing x stop exits → is_among e.number (x.number ∷ []) ≡ true
        raises closing (Some y) exits is = absurd (cc is)
        raises true None true is = absurd (cc is)
        raises true None false is = let same : e.number ≡ x.number = cc is in ap (λ b. b || false) (eq-eqb e.number x.number same)
        raises false None exits is = let same : e.number ≡ x.number = cc is in ap (λ b. b || false) (eq-eqb e.number x.number same)
passed_at_once objects kind closing how (answer.Convert e stop) w is finishes = absurd is
passed_at_once objects kind closing how answer.Ignored w is finishes = absurd is

module _ (m : Core) (g : Obj) (s : Suspended) (how : CoroEnd) (runs : IsRunningNow m.world.generators g) (generator : IsGenerator m.world.store.made g) (ending : IsEnding m.world.store.made how) (a : CoroAnswer)
    (finishes : (x : KeptGenerator) → kept_at m.world.generators g ≡ Some x → Finishes m.world.store.made x.generator.kind x.generator.closing how a) (list : List KeptGenerator) (changes : list ≡ changed_at g (settled s how) m.world.generators) where
  -- it names objects that are there
  pub answers_there : AnswersThere m.world.store.made a
  answers_there = finishes_there m.world.store.made runs.0.generator.kind runs.0.generator.closing how a ending (finishes runs.0 runs.1)

  pub settled_by : (store : Kept) (w : MadeReply) → IsGrown m.world.store store → IsReplied m.world.store.made store.made (reply_by (word_of generator.0.kind) a) w → IsPassedBy (end_numbers how) w
      → SettledOne m g s how w (record m { world = record m.world { store = store; generators = list } })
  settled_by store w grown replied passed = settled_one m g s how runs.0 runs.1 a (finishes runs.0 runs.1) generator.0 generator.1 store list w grown changes replied passed

  pub settled_at_once : (w : MadeReply) → IsAtOnce a w → SettledOne m g s how w (record m { world = record m.world { generators = list } })
  settled_at_once w once = settled_by m.world.store w (grown_refl m.world.store) (replied_at_once m.world.store.made (word_of generator.0.kind) a w answers_there once)
      (passed_at_once m.world.store.made runs.0.generator.kind runs.0.generator.closing how a w once (finishes runs.0 runs.1))

  -- a new exception, of its kind
  module _ (kind : CoroKind) (kinds : (body : CoroBody) → HasPayload m.world.store.made g (payload.Generator body) → kind ≡ body.kind) (store : Kept) (grown : IsGrown m.world.store store)
      (classes : HaveClasses m.world.zoo m.world.store.made) (e : PyBaseExceptionRef) (fault : Fault) where
    pub settled_converted : (cause : PyBaseExceptionRef) (stop : ErrorKind) → a ≡ answer.Convert cause stop → fault ≡ stopping (word_of kind) stop → IsNewExceptionFrom m.world.store.made store.made (class_of m.world.zoo fault.kind) fault.text cause e
        → SettledOne m g s how (made.Fresh e) (record m { world = record m.world { store = store; generators = list } })
    settled_converted cause stop is text one =
        let made_so : IsNewExceptionFrom m.world.store.made store.made (class_of m.world.zoo RuntimeError) (stopping (word_of kind) stop).text cause e =
        subst (λ (f : Fault). IsNewExceptionFrom m.world.store.made store.made (class_of m.world.zoo f.kind) f.text cause e) text one in
        let replied : RepliesRaise m.world.store.made store.made (reply_by (word_of kind) (answer.Convert cause stop)) e = raise_from_given m.world.store.made store.made m.world.zoo RuntimeError _ cause e classes grown.objects made_so in
        settled_by store (made.Fresh e) grown (
          subst (λ (k : CoroKind). RepliesRaise m.world.store.made store.made (reply_by (word_of k) a) e) (kinds generator.0 generator.1)
              (subst (λ (x : CoroAnswer). RepliesRaise m.world.store.made store.made (reply_by (word_of kind) x) e) (sym is) replied),
          made_so.made.later,
        ) tt

    pub settled_ignored : a ≡ answer.Ignored → fault ≡ ignoring (word_of kind) → IsNewException m.world.store.made store.made (class_of m.world.zoo fault.kind) fault.text e
        → SettledOne m g s how (made.Fresh e) (record m { world = record m.world { store = store; generators = list } })
    settled_ignored is text one =
        let made_so : IsNewException m.world.store.made store.made (class_of m.world.zoo RuntimeError) (ignoring (word_of kind)).text e =
        subst (λ (f : Fault). IsNewException m.world.store.made store.made (class_of m.world.zoo f.kind) f.text e) text one in
        let replied : RepliesRaise m.world.store.made store.made (reply_by (word_of kind) answer.Ignored) e = raise_given m.world.store.made store.made m.world.zoo RuntimeError _ e classes grown.objects made_so in
        settled_by store (made.Fresh e) grown (
          subst (λ (k : CoroKind). RepliesRaise m.world.store.made store.made (reply_by (word_of k) a) e) (kinds generator.0 generator.1)
              (subst (λ (x : CoroAnswer). RepliesRaise m.world.store.made store.made (reply_by (word_of kind) x) e) (sym is) replied),
          made_so.made.later,
        ) tt

-- ---- whose answer it is

-- there is one
pub some_question : (w : World) (events : List Event) (d : Question) (hs : List Halted) → FirstAsks w events hs → (q : Request) × Questioned events d hs q
some_question w events d [] asks = (request_of d, refl)
some_question w events d (h ∷ hs) ((act, q, own, at, entry), traceable) = (q, (act, own, at, entry))

-- ---- who asked gets the answer

module _ (m : Core) (d : Question) (s : Suspended) (how : CoroEnd) (q : Request) (asks : Questioned m.events d m.callers q) where
  -- of a call
  pub finished_call : (a : Option DriveAnswer) (m' : Core) → None ≡ generator_asked q → Replies m (passed how) m.callers a m' → Finished m d s how a m'
  finished_call a m' none replies =
      (q, asks, m.world.store, m.world.generators, passed how, subst (λ o. IsSettled m s how o m.world.store m.world.generators (passed how)) none (refl, refl, refl), replies)

  -- or of a generator
  pub finished_generator : (g : Obj) (w : MadeReply) (n : Core) (a : Option DriveAnswer) (m' : Core) → Some g ≡ generator_asked q → SettledOne m g s how w n → Replies n w n.callers a m' → Finished m d s how a m'
  finished_generator g w n a m' is (store, list, is_settled, same) replies =
      (q, asks, store, list, w, subst (λ o. IsSettled m s how o store list w) is is_settled, subst (λ k. Replies k w k.callers a m') same replies)

-- ---- a reply

module _ (m : Core) (w : MadeReply) where
  -- the innermost caller gets it
  pub caller_replied : (hs rest : List Halted) (h : Halted) (store : Kept) (a : Answer) (n m' : Core) → hs ≡ h ∷ rest → IsAnswerTo m.world.store store w a → NotedOne (record m { world = record m.world { store = store }; callers = rest }) h a n
      → m' ≡ got_by n h.running a → Replies m w hs None m'
  caller_replied hs rest h store a n m' is answers (after, raising, noted, same) gets =
      subst (λ l. Replies m w l None m') (sym is) (refl, (store, a, answers, (after, raising, noted, gets ∙ ap (λ (y : Core). got_by y h.running a) same)))

-- ---- an activation that was made

-- a new object is no generator that is kept
pub new_not_kept : (objects : List Payload) (list : List KeptGenerator) (g : Obj) → AreReady objects list → g.number ≡ length objects → kept_at list g ≡ None
new_not_kept objects [] g ready new = refl
new_not_kept objects (x ∷ xs) g ready new = elim (eqb_tells x.object.number g.number) [
  | inl same ↦ let low : x.object.number < length objects = ready.0 in let equal : x.object.number ≡ g.number = same.1 in absurd (omega arith)
  | inr other ↦ rw (other.0) (new_not_kept objects xs g ready.2 new)
]

-- ---- whatever stage a machine was at

module _ (m : Core) (s : Stage) where
  pub replies_at : (n : Core) (w : MadeReply) (hs : List Halted) (a : Option DriveAnswer) (m' : Core) → Replies (record n { stage = s }) w hs a m' → Replies n w hs a m'
  replies_at n w [] a m' x = x
  replies_at n w (h ∷ hs) a m' x = x

  pub started_at : (r : Running) (f : Obj) (kind : Option CoroKind) (a : Option DriveAnswer) (m' : Core) → Started (record m { stage = s }) r f kind a m' → Started m r f kind a m'
  started_at r f None a m' x = x
  started_at r f (Some kind) a m' (x, store, created, replies) = (
    x,
    store,
    record { body = created.body; function = created.function; added = created.added; object = created.object; act = created.act; fresh = created.fresh; kind_is = created.kind_is; activation = created.activation },
    replies_at (record m { world = record m.world { store = store; generators = m.world.generators ++ x ∷ [] } }) (made.Value x.object) m.callers a m' replies,
  )

  pub finished_at : (d : Question) (t : Suspended) (how : CoroEnd) (a : Option DriveAnswer) (m' : Core) → Finished (record m { stage = s }) d t how a m' → Finished m d t how a m'
  finished_at d t how a m' (q, asks, store, list, w, is_settled, replies) =
      (q, asks, store, list, w, settles (generator_asked q) is_settled, replies_at (record m { world = record m.world { store = store; generators = list } }) w m.callers a m' replies)
    where
      settles : (o : Option Obj) → IsSettled (record m { stage = s }) t how o store list w → IsSettled m t how o store list w
      settles None x = x
      settles (Some g) x = x
