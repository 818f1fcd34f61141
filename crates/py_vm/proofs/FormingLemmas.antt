-- A drive by which an exception is made: what it leaves of a machine between drives, and which part of a run it adds.
use Rattle.std.proofs.Common.{◌≡◌, ◌≤◌, ◌<◌, ◌+◌, ◌++◌, ℕ, suc, List, [], ◌∷◌, true, false, Some, Ok, Err, inl, inr, refl, sym, ap, subst, ◌∙◌, length, length-append, append_assoc, append-nil, arith}
use Rattle.std.specs.Prelude.{Option, None, slice_get, take}
use Rattle.std.proofs.lemmas.Option.{slice_get_within}
use Rattle.py_objects.specs.declared.refs.PyBaseExceptionRef.{PyBaseExceptionRef}
use Rattle.py_objects.specs.declared.refs.PyTracebackRef.{PyTracebackRef}
use Rattle.py_objects.specs.declared.payload.Payload.{Payload}
use Rattle.py_objects.specs.declared.payload.Payload.TheVariants as payload
use Rattle.py_objects.specs.declared.edit.Change.{Change}
use Rattle.py_objects.specs.declared.event.Event.{Event}
use Rattle.py_objects.specs.declared.event.Event.TheVariants as event
use Rattle.py_objects.specs.declared.event.DriveAnswer.{DriveAnswer}
use Rattle.py_objects.specs.Objects.{result_numbers, AllBelow, AreNamed}
use Rattle.py_objects.specs.Edits.{Kept}
use Rattle.py_objects.specs.Growth.{Grows, GrowsPlainly}
use Rattle.py_objects.proofs.GrowthLemmas.{payload_grown, plainly_grows, grows_plainly_refl, length_grown}
use Rattle.py_objects.proofs.GrownLemmas.{grown_refl, longer_refl}
use Rattle.py_exceptions.specs.Tracebacks.{traceback_object}
use Rattle.py_answers.specs.Answers.{Reply, GivesDrive}
use Rattle.py_objects.specs.declared.edit.LinkField.TheVariants as link
use Rattle.py_answers.specs.Readable.{ChangeUnread}
use Rattle.py_answers.proofs.ReadableLemmas.{change_unread, changes_grown}
use Rattle.py_run.specs.declared.drive.Question.{Question}
use Rattle.py_run.specs.declared.drive.Question.TheVariants.{Close}
use Rattle.py_run.specs.declared.drive.Makings.{Makings}
use Rattle.py_run.specs.Normalized.{NormalizesTo}
use Rattle.py_run.specs.Run.{Posed, Plan, State, start, state_after, after, open_in, makings_of as makings_in, question}
use Rattle.py_run.specs.Generators.{Generator, closed_by}
use Rattle.py_run.specs.Coming.{Past, MayCome}
use Rattle.py_run.specs.Past.{past_behind}
use Rattle.py_run.proofs.OwnLemmas.{state_after-append}
use Rattle.py_run.proofs.RunLemmas.{normalizes_to_grow}
use Rattle.py_vm.specs.declared.stage.Stage.TheVariants as stage
use Rattle.py_vm.specs.declared.fault.VmFault.TheVariants as fault
use Rattle.py_vm.specs.declared.machinery.Core.{Core}
use Rattle.py_vm.specs.declared.normalizing.Formed.{Formed}
use Rattle.py_vm.specs.declared.normalizing.Formed.TheVariants as form
use Rattle.py_vm.specs.Codes.{plain_codes}
use Rattle.py_vm.specs.Generators.{modes_of}
use Rattle.py_vm.specs.Machine.{done_of, past_of, plan_of}
use Rattle.py_vm.specs.Normalizing.{answer_of, begun, changes_by, ended, outcome_of, forming, makings_numbers, told_by, tracing, AddsForming, CanForm, Forms, FormedOne, IsFormOf, Stopped}
use Rattle.py_vm.specs.Stands.{IsIdle, Keeps, acts_of, caller_acts, frames_at, phase_of, slots_at, seen}
use Rattle.py_vm.specs.Turns.{begun_by, result_by}
use Rattle.py_vm.proofs.ChainLemmas.{each_still, zero_outside}
use Rattle.py_vm.proofs.JournalLemmas.{marked_on, named_still, next_number}
use Rattle.py_vm.proofs.NextLemmas.{done_counted, drive_told}
use Rattle.py_vm.proofs.RowsOfLemmas.{tells_still}
use Rattle.py_vm.proofs.StandsLemmas.{grown_idle, idle_again, idle_callers, kept_idle, restored_idle, marked_append}
use Rattle.py_vm.proofs.TurnsLemmas.{begun_law}
use Rattle.py_objects.specs.FrameEntries.{frames_in}
use Rattle.py_vm.specs.Links.{IsMarked}
use Rattle.py_objects.specs.Originals.{AreMarked, ChangesBelow}
use Rattle.py_objects.proofs.BelowLemmas.{ChangesBelow-more, ChangesBelow-append}
use Rattle.py_objects.proofs.OriginalsLemmas.{AreMarked-later}

-- the drive of a script that is asked in its place, where it doesn't matter which
abbrev pub any_drive : Question
any_drive = Close (record { number = 0 })

-- ---- between drives

module _ (m : Core) (idle : IsIdle m) where
  -- nothing waits
  none : m.callers ≡ []
  none = idle_callers m idle

  pub alone : (state_after start m.events).stack ≡ []
  alone = (kept_idle m idle).follows.stack ∙ ap (acts_of m.events m.callers) idle.idle ∙ ap (caller_acts m.events) none

  pub done : done_of (seen m) ≡ m.done
  done = (kept_idle m idle).follows.done

  -- a drive may begin
  begins : Keeps m any_drive stage.Begins
  begins =
      let k = kept_idle m idle in
      record {
        follows = record { done = k.follows.done; phase = k.follows.phase ∙ ap phase_of idle.idle; stack = k.follows.stack ∙ ap (acts_of m.events m.callers) idle.idle; made = k.follows.made };
        stored = k.stored;
        marked = k.marked;
        runnable = k.runnable;
        told = k.told;
        kept = k.kept;
        nested = record { apart = k.nested.apart; frames = k.nested.frames ∙ ap (frames_at m.callers) idle.idle; slots = k.nested.slots ∙ ap (slots_at m.callers) idle.idle };
        at_stage = none;
      }

  -- no more drives are done than there are events
  pub done_within : m.done ≤ length m.events
  done_within = done_counted m any_drive stage.Begins begins

  -- nor with one event more
  pub done_more : m.done ≤ length (m.events ++ event.Drive (m.done + 1) ∷ [])
  done_more =
      let low : m.done ≤ length m.events = done_within in
      let more : length (m.events ++ event.Drive (m.done + 1) ∷ []) ≡ length m.events + 1 = length-append m.events (event.Drive (m.done + 1) ∷ []) in
      omega (arith, low, more)

  -- it has begun
  pub asks : Keeps (begun_by m) any_drive stage.Asking
  asks = (begun_law m any_drive begins).keeps

-- it has its result, and nothing else was done
pub result_keeps : (m : Core) (d : Question) (w : DriveAnswer) → Keeps m d stage.Asking → AllBelow (length m.world.store.made) (result_numbers w) → Keeps (result_by m w) d stage.Idle
result_keeps m d w k below =
    let e : Event = event.Result (m.done + 1) w in
    let none : m.callers ≡ [] = k.at_stage in
    let next = state_after-append start m.events e in
    record {
      follows = record {
        done = ap (λ (y : State). y.done) next ∙ (ap suc k.follows.done ∙ sym (next_number _ _ refl));
        phase = ap (λ (y : State). y.phase) next;
        stack = ap (λ (y : State). y.stack) next ∙ (k.follows.stack ∙ ap (caller_acts m.events) none ∙ sym (ap (caller_acts (m.events ++ e ∷ [])) none));
        made = ap (λ (y : State). length y.made) next ∙ k.follows.made;
      };
      stored = k.stored;
      marked = marked_on m.world.store m.world.store m.events e (longer_refl m.world.store) k.marked;
      runnable = k.runnable;
      told = drive_told m stage.Asking m.world.store e d k (grown_refl m.world.store) refl below refl;
      kept = record { each = each_still m m.world.store.made e (plainly_grows m.world.store.made m.world.store.made (grows_plainly_refl m.world.store.made)) m.made m.made m.world.generators (omega arith) (zero_outside m m.made m.world.generators k.kept.each) k.kept.each; single = k.kept.single };
      nested = record { apart = k.nested.apart; frames = k.nested.frames; slots = k.nested.slots };
      at_stage = none;
    }

-- ---- what becomes of the objects and of the changes

-- each change is one of what no answer reads
unread_by : (objects objects' : List Payload) (cs : List Change) (x : Makings) (n : ℕ) (f : Formed) → Grows objects objects' → IsFormOf objects objects' x f → ChangeUnread objects cs
    → ChangeUnread objects' (cs ++ changes_by n f)
unread_by objects objects' cs x n (form.Raised e) grows is unread = subst (ChangeUnread objects') (sym (append-nil cs)) (changes_grown objects objects' cs grows unread)
unread_by objects objects' cs x n (form.Made e None) grows is unread = subst (ChangeUnread objects') (sym (append-nil cs)) (changes_grown objects objects' cs grows unread)
unread_by objects objects' cs x n (form.Made e (Some t)) grows (reply, normalizes, value, read, exception, (b, has)) unread =
    change_unread objects' cs _ (inr (exception, inl (link.Traceback, traceback_object (Some t), refl, (b, payload_grown objects objects' _ _ grows has)))) (changes_grown objects objects' cs grows unread)

-- each is of that many events, and names what is there
changes_marked : (f : Formed) (n k : ℕ) → n ≤ k → AreMarked k (changes_by n f)
changes_marked (form.Raised e) n k low = tt
changes_marked (form.Made e None) n k low = tt
changes_marked (form.Made e (Some t)) n k low = (low, tt)

changes_below : (objects objects' : List Payload) (x : Makings) (f : Formed) (n : ℕ) (cs : List Change) → Grows objects objects' → IsFormOf objects objects' x f → ChangesBelow (length objects') cs
    → ChangesBelow (length objects') (cs ++ changes_by n f)
changes_below objects objects' x (form.Raised e) n cs grows is below = subst (ChangesBelow (length objects')) (sym (append-nil cs)) below
changes_below objects objects' x (form.Made e None) n cs grows is below = subst (ChangesBelow (length objects')) (sym (append-nil cs)) below
changes_below objects objects' x (form.Made e (Some t)) n cs grows (reply, normalizes, value, read, (y, has_e), (b, has)) below =
    ChangesBelow-append (length objects') cs _ below (slice_get_within objects' e.number (payload.Exception y) has_e)
    (slice_get_within objects' _ (payload.Traceback b) (payload_grown objects objects' _ (payload.Traceback b) grows has), tt)

-- what its result names is there
answer_below : (old new : List Payload) (x : Makings) (f : Formed) → IsFormOf old new x f → AllBelow (length new) (result_numbers (answer_of f))
answer_below old new x (form.Made e t) (reply, normalizes, value, read, exception, traceback) = (value.below, tt)
answer_below old new x (form.Raised e) (reply, normalizes, raise) = (raise.below, tt)

-- the reply to what it is made of
abbrev reply_in : (old new : List Payload) (x : Makings) (f : Formed) → IsFormOf old new x f → Reply
reply_in old new x (form.Made e t) is = is.0
reply_in old new x (form.Raised e) is = is.0

normalizes_in : (old new : List Payload) (x : Makings) (f : Formed) (is : IsFormOf old new x f) → NormalizesTo old x (reply_in old new x f is)
normalizes_in old new x (form.Made e t) is = is.1
normalizes_in old new x (form.Raised e) is = is.1

gives_in : (old new : List Payload) (x : Makings) (f : Formed) (is : IsFormOf old new x f) (before : List Event) → AreNamed old before → GivesDrive new before (reply_in old new x f is) (answer_of f)
gives_in old new x (form.Made e t) (reply, normalizes, value, read, exception, traceback) before named = value.gives before named
gives_in old new x (form.Raised e) (reply, normalizes, raise) before named = raise.gives before named

-- ---- a drive of a machine between drives

module _ (m : Core) (idle : IsIdle m) (x : Makings) where
  abbrev first : Event
  first = event.Drive (m.done + 1)

  -- as many drives are done in the machine as in its journal
  ended_as : (w : DriveAnswer) → ended (seen m) w ≡ first ∷ event.Result (m.done + 1) w ∷ []
  ended_as w = ap (λ n. event.Drive (n + 1) ∷ event.Result (n + 1) w ∷ []) (done m idle)

  begun_as : begun (seen m) ≡ first ∷ []
  begun_as = ap (λ n. event.Drive (n + 1) ∷ []) (done m idle)

  module _ (asked : List Posed) (next : slice_get asked (done_of (seen m)) ≡ Some (forming m.entered x)) where
    abbrev plan : Plan
    plan = plan_of m.world.codes asked

    abbrev past : Past
    past = past_of (seen m)

    -- the drive comes
    first_comes : (objects : List Payload) → MayCome plan objects past first
    first_comes objects =
        let k = kept_idle m idle in
        (k.follows.phase ∙ ap phase_of idle.idle, next_number _ _ k.follows.done, slice_get_within asked (done_of (seen m)) _ next)

    -- it poses no request
    unasked : question plan (after past.state first) ≡ None
    unasked = ap (λ q. open_in q past.state.stack) next ∙ ap (open_in (Some (forming m.entered x))) (alone m idle)

  -- where only that was told
  begun_adds : (store : Kept) → GrowsPlainly m.world.store.made store.made → AddsForming x (first ∷ []) (seen m) (seen (record m { world = record m.world { store = store }; events = m.events ++ first ∷ []; failed = true }))
  begun_adds store plainly =
      let told = (asks m idle).told in
      let grows : Grows m.world.store.made store.made = plainly_grows m.world.store.made store.made plainly in
      record {
        events = refl;
        grows = plainly;
        others = refl;
        runs = λ asked next. (first_comes asked next store.made, tt);
        follows = λ asked next. ap (λ (st : State). let p : Past = record { events = m.events ++ first ∷ []; state = st; generators = modes_of m.world.generators } in p) (sym (state_after-append start m.events first));
        tells = tells_still (plain_codes m.world.codes) m.globals m.world.store.made store.made (m.events ++ first ∷ []) grows told.tells;
        named = named_still m.world.store.made store.made (m.events ++ first ∷ []) grows (plainly.fit (kept_idle m idle).stored.readable.fit) told.named;
      }

  -- or nothing
  pub none_adds : AddsForming x [] (seen m) (seen (record m { failed = true }))
  none_adds = record {
    events = sym (append-nil m.events);
    grows = grows_plainly_refl m.world.store.made;
    others = refl;
    runs = λ asked next. tt;
    follows = λ asked next. refl;
    tells = (kept_idle m idle).told.tells;
    named = (kept_idle m idle).told.named;
  }

  -- where it has its result
  module _ (f : Formed) (store : Kept) (plainly : GrowsPlainly m.world.store.made store.made) (frames : frames_in store.made ≡ frames_in m.world.store.made) (is : IsFormOf m.world.store.made store.made x f) (changes : store.changes ≡ m.world.store.changes ++ changes_by (length (m.events ++ first ∷ [])) f)
      (marked : store.mark ≡ length (m.events ++ first ∷ [])) where
    abbrev grows : Grows m.world.store.made store.made
    grows = plainly_grows m.world.store.made store.made plainly

    -- with the objects that came, before the events
    abbrev grown : Core
    grown = record m { world = record m.world { store = record m.world.store { made = store.made } } }

    abbrev last : Event
    last = event.Result (m.done + 1) (answer_of f)

    -- behind them
    abbrev then : Core
    then = result_by (begun_by grown) (answer_of f)

    abbrev now : Core
    now = told_by (record m { world = record m.world { store = store }; events = m.events ++ first ∷ [] }) f

    grown_stands : IsIdle grown
    grown_stands = grown_idle m (record m.world.store { made = store.made }) (record { objects = plainly; frames = frames; others = refl }) idle

    then_stands : IsIdle then
    then_stands = idle_again then any_drive (result_keeps (begun_by grown) any_drive (answer_of f) (asks grown grown_stands) (answer_below m.world.store.made store.made x f is)) refl

    -- then the machine stands again
    pub formed_stands : IsIdle now
    formed_stands =
        let more : length ((m.events ++ first ∷ []) ++ last ∷ []) ≡ length (m.events ++ first ∷ []) + 1 = length-append (m.events ++ first ∷ []) (last ∷ []) in
        let unread : ChangeUnread store.made store.changes = subst (ChangeUnread store.made) (sym changes) (unread_by m.world.store.made store.made m.world.store.changes x (length (m.events ++ first ∷ [])) f grows is (kept_idle m idle).stored.readable.unread) in
        let count : ℕ = length (m.events ++ first ∷ []) in
        let last_count : ℕ = length ((m.events ++ first ∷ []) ++ last ∷ []) in
        let k : IsMarked (length m.events) m.world.store = (kept_idle m idle).marked in
        let one : count ≡ length m.events + 1 = length-append m.events (first ∷ []) in
        restored_idle then store m.stage idle.idle refl unread (record {
          mark = omega (arith, more, marked);
          past = subst (AreMarked last_count) (sym changes) (marked_append last_count m.world.store.changes (changes_by count f)
              (AreMarked-later (length m.events) last_count m.world.store.changes (omega (arith, one, more)) k.past) (changes_marked f count last_count (omega (arith, more))));
          below = subst (ChangesBelow (length store.made)) (sym changes) (changes_below m.world.store.made store.made x f count m.world.store.changes grows is
              (ChangesBelow-more (length m.world.store.made) (length store.made) m.world.store.changes (length_grown m.world.store.made store.made grows) k.below));
        }) then_stands

    -- a past with its events
    abbrev past_with : State → List Generator → Past
    past_with st xs = record { events = (m.events ++ first ∷ []) ++ last ∷ []; state = st; generators = xs }

    -- it is what the run is behind them
    past_same : (asked : List Posed) → slice_get asked (done_of (seen m)) ≡ Some (forming m.entered x) → past_behind (plan_of m.world.codes asked) (past_of (seen m)) (first ∷ last ∷ []) ≡ past_of (seen now)
    past_same asked next =
        let st : State = state_after start m.events in
        let told : state_after start ((m.events ++ first ∷ []) ++ last ∷ []) ≡ after (after st first) last =
        state_after-append start (m.events ++ first ∷ []) last ∙ ap (λ (s : State). after s last) (state_after-append start m.events first) in
        ap (λ q. past_with (after (after st first) last) (closed_by q (modes_of m.world.generators))) (unasked asked next) ∙ ap (λ (s : State). past_with s (modes_of m.world.generators)) (sym told)

    -- and the drive is a part of a run
    pub formed_adds : AddsForming x (ended (seen m) (answer_of f)) (seen m) (seen now)
    formed_adds = subst (λ l. AddsForming x l (seen m) (seen now)) (sym (ended_as (answer_of f))) (record {
      events = append_assoc m.events (first ∷ []) (last ∷ []);
      grows = plainly;
      others = refl;
      runs = λ asked next. (
        first_comes asked next store.made,
        (
          (
            next_number _ _ (done m idle),
            alone m idle,
            inl (
              reply_in m.world.store.made store.made x f is,
              inr (refl, (x, ap makings_in next, normalizes_to_grow m.world.store.made store.made x _ plainly (normalizes_in m.world.store.made store.made x f is))),
              gives_in m.world.store.made store.made x f is (m.events ++ first ∷ []) (asks m idle).told.named,
            ),
          ),
          tt,
        ),
      );
      follows = λ asked next. past_same asked next;
      tells = (kept_idle now formed_stands).told.tells;
      named = (kept_idle now formed_stands).told.named;
    })

-- ---- what comes of it

module _ (m : Core) (idle : IsIdle m) (works : m.failed ≡ false) (x : Makings) where
  abbrev begun_core : Core
  begun_core = record m { events = m.events ++ event.Drive (m.done + 1) ∷ [] }

  -- what is needed to make an exception is there
  pub can_form : AllBelow (length m.world.store.made) (makings_numbers x) → CanForm begun_core x
  can_form below =
      let k = kept_idle m idle in
      let more : length (m.events ++ event.Drive (m.done + 1) ∷ []) ≡ length m.events + 1 = length-append m.events (event.Drive (m.done + 1) ∷ []) in
      let marked : m.world.store.mark ≤ length m.events = k.marked.mark in
      record { readable = k.stored.readable; classes = k.stored.classes; below = below; marked = omega (arith, more, marked) }

  -- no turn is left
  pub no_turns : (turns : ℕ) → turns ≡ 0 → Forms (seen m) x turns (Err fault.OutOfTurns) (seen (record m { failed = true }))
  no_turns turns zero =
      (omega (arith, zero), subst (λ n. AddsForming x (take n (begun (seen m))) (seen m) (seen (record m { failed = true }))) (sym zero) (none_adds m idle x), refl, refl)

  pub one_turn : (turns : ℕ) → turns ≡ 1 → Forms (seen m) x turns (Err fault.OutOfTurns) (seen (record begun_core { failed = true }))
  one_turn turns one =
      let added : AddsForming x (event.Drive (m.done + 1) ∷ []) (seen m) (seen (record begun_core { failed = true })) = begun_adds m idle x m.world.store (grows_plainly_refl m.world.store.made) in (
        omega (arith, one),
        subst (λ n. AddsForming x (take n (begun (seen m))) (seen m) (seen (record begun_core { failed = true }))) (sym one)
            (subst (λ l. AddsForming x l (seen m) (seen (record begun_core { failed = true }))) (sym (begun_as m idle x)) added),
        refl,
        refl,
      )

  -- memory ran out
  pub no_memory : (turns : ℕ) → 0 < turns → Forms (seen m) x turns (Err fault.NoMemory) (seen (record m { failed = true }))
  no_memory turns some = ([], some, none_adds m idle x, refl, refl, refl)

  pub stopped : (turns : ℕ) (m' : Core) → 1 < turns → Stopped begun_core m' → Forms (seen m) x turns (Err fault.NoMemory) (seen (record m' { failed = true }))
  stopped turns m' some (store, plainly, changes, is) =
      subst (λ (n : Core). Forms (seen m) x turns (Err fault.NoMemory) (seen (record n { failed = true }))) (sym is) (
        event.Drive (m.done + 1) ∷ [],
        (let one : length (event.Drive (m.done + 1) ∷ []) ≡ 1 = refl in omega (arith, some, one)),
        begun_adds m idle x store plainly,
        refl,
        changes,
        ap (λ (y : State). y.done) (state_after-append start m.events (event.Drive (m.done + 1))),
      )

  -- it has its result
  pub stands_behind : (f : Formed) (m' : Core) → FormedOne begun_core x f m' → IsIdle m'
  stands_behind f m' (store, plainly, frames, made, changes, marked, is) = subst IsIdle (sym is) (formed_stands m idle x f store plainly frames made changes marked)

  formed_made : (turns : ℕ) (e : PyBaseExceptionRef) (t : Option PyTracebackRef) (m' : Core) → 1 < turns → FormedOne begun_core x (form.Made e t) m' → Forms (seen m) x turns (Ok e) (seen m')
  formed_made turns e t m' some (store, plainly, frames, made, changes, marked, is) =
      let (reply, normalizes, value, (p, has, read), exception, traceback) = made in
      let count : length (m.events ++ event.Drive (m.done + 1) ∷ []) ≡ length m.events + 1 = length-append m.events (event.Drive (m.done + 1) ∷ []) in
      subst (λ (n : Core). Forms (seen m) x turns (Ok e) (seen n)) (sym is) (
        omega (arith, some),
        formed_adds m idle x (form.Made e t) store plainly frames made changes marked,
        works,
        (p, has, traceback_object t, read, changes ∙ ap (λ n. m.world.store.changes ++ tracing n e (traceback_object t)) count),
      )

  formed_raised : (turns : ℕ) (e : PyBaseExceptionRef) (m' : Core) → 1 < turns → FormedOne begun_core x (form.Raised e) m' → Forms (seen m) x turns (Err (fault.Exception e)) (seen m')
  formed_raised turns e m' some (store, plainly, frames, made, changes, marked, is) =
      subst (λ (n : Core). Forms (seen m) x turns (Err (fault.Exception e)) (seen n)) (sym is)
      (omega (arith, some), formed_adds m idle x (form.Raised e) store plainly frames made changes marked, works, changes ∙ append-nil m.world.store.changes)

  pub formed_forms : (turns : ℕ) (f : Formed) (m' : Core) → 1 < turns → FormedOne begun_core x f m' → Forms (seen m) x turns (outcome_of f) (seen m')
  formed_forms turns (form.Made e t) m' some formed = formed_made turns e t m' some formed
  formed_forms turns (form.Raised e) m' some formed = formed_raised turns e m' some formed
