-- What is noted of an answer: the entry that it makes is new, and leads on to the traceback that the exception has.
use Rattle.std.proofs.Common.{◌≡◌, ◌≤◌, ◌-◌, ◌++◌, ◌∙◌, ℕ, suc, List, [], ◌∷◌, Some, Ok, Err, refl, sym, ap, subst, length}
use Rattle.std.specs.Prelude.{Option, None, Result, IfOk, OnOk, slice_get}
use Rattle.std.proofs.lemmas.Option.{same_Some, slice_get_within}
use Rattle.py_code.specs.declared.list.NoMemory.{NoMemory}
use Rattle.py_objects.specs.declared.refs.FrameRef.{FrameRef}
use Rattle.py_objects.specs.declared.refs.PyBaseExceptionRef.{PyBaseExceptionRef}
use Rattle.py_objects.specs.declared.refs.PyTracebackRef.{PyTracebackRef}
use Rattle.py_objects.specs.declared.payload.Payload.{Payload}
use Rattle.py_objects.specs.declared.payload.Payload.TheVariants as payload
use Rattle.py_objects.specs.declared.edit.Change.{Change}
use Rattle.py_objects.specs.declared.edit.LinkField.TheVariants as link
use Rattle.py_objects.specs.declared.request.Request.{Request}
use Rattle.py_objects.specs.declared.event.Event.{Event}
use Rattle.py_objects.specs.declared.event.Event.TheVariants as event
use Rattle.py_objects.specs.declared.event.GotAnswer.{GotAnswer}
use Rattle.py_objects.specs.declared.event.GotAnswer.TheVariants as got
use Rattle.py_objects.specs.declared.payload.ExceptionBody.{ExceptionBody}
use Rattle.py_objects.specs.Objects.{Obj, HasPayload, IfThere, AllBelow, AreNamed, IsException, IsTraceback, as_object, event_numbers}
use Rattle.py_objects.specs.Edits.{Kept, edit_numbers, objects_of}
use Rattle.py_objects.specs.Growth.{Grows, GrowsPlainly, IsGrown}
use Rattle.py_objects.specs.Originals.{ChangesBelow}
use Rattle.py_objects.proofs.GrowthLemmas.{below_more, length_grown, payload_grown, plainly_grows}
use Rattle.py_objects.proofs.GrownLemmas.{grown_refl, grown_trans, objects_grow}
use Rattle.py_objects.proofs.NewLemmas.{newest}
use Rattle.py_exceptions.specs.Tracebacks.{traceback_edit, traceback_entry, traceback_object, with_entry, HasTraceback}
use Rattle.py_exceptions.specs.Walks.{link_at, link_in}
use Rattle.py_answers.specs.Answers.{Reply}
use Rattle.py_answers.specs.Readable.{IsReadable}
use Rattle.py_answers.proofs.ReadingLemmas.{is_read, read_made}
use Rattle.py_answers.proofs.RepliesLemmas.{gives_body_grow}
use Rattle.py_frame.specs.declared.input.Answer.{Answer}
use Rattle.py_frame.specs.Frames.{line_at}
use Rattle.py_frame.specs.Steps.{got_of}
use Rattle.py_rows.proofs.GrowingLemmas.{kind_grown}
use Rattle.py_check.specs.declared.annotated.Annotated.{Annotated}
use Rattle.py_check.specs.declared.note.Kind.TheVariants as kind
use Rattle.py_run.specs.Links.{IsFrameOf, PutsEntry, Scene, line_of, named_by, named_in}
use Rattle.py_run.specs.Run.{start, state_after}
use Rattle.py_run.proofs.LinksLemmas.{traceback_grown}
use Rattle.py_vm.specs.declared.machinery.Core.{Core}
use Rattle.py_vm.specs.declared.raising.Raising.{Raising}
use Rattle.py_vm.specs.declared.reply.Reply.{Reply as MadeReply}
use Rattle.py_vm.specs.declared.stage.Halted.{Halted}
use Rattle.py_vm.specs.declared.stage.Running.{Running}
use Rattle.py_vm.specs.declared.world.World.{World}
use Rattle.py_vm.specs.Codes.{Checked}
use Rattle.py_vm.specs.Courses.{GivesReply, RaisesThere}
use Rattle.py_vm.specs.Links.{lines_of}
use Rattle.py_vm.specs.Raising.{raising_by, raising_in, IsNewEntry, IsNoted, MakesEntry}
use Rattle.py_vm.specs.Stands.{IsHalted, asking}
use Rattle.py_vm.specs.Turns.{IsAnswerTo}
use Rattle.py_vm.proofs.RowsOfLemmas.{plain_at}

-- ---- which is noted

-- what the question brings in that is at its place
pub raising_same : (events : List Event) (h : Halted) (w : Answer) (act : ℕ) (q : Request) (own : Option PyBaseExceptionRef) (at : ℕ) (raising : Option Raising)
    → slice_get events h.place ≡ Some (event.Ask act q own at) → raising ≡ raising_by (Some q) w → raising ≡ raising_in events h w
raising_same events h w act q own at raising asks is = is ∙ sym (ap (λ (e : Option Event). raising_by (asking h.running.act e).asks w) asks)

-- ---- more objects

-- a store in which it is noted grew
pub noted_grown : (codes : Checked) (old : Kept) (r : Running) (x : Option Raising) (new : Kept) (before after : Option Raising) → IsNoted codes old r x new before after → IsGrown old new
noted_grown codes old r None new before after (same, kept) = subst (IsGrown old) (sym same) (grown_refl old)
noted_grown codes old r (Some x) new before after (entry, made, is) = made.grown

-- what is raised is an exception still
raises_grown : (old new : List Payload) (g : GotAnswer) → Grows old new → RaisesThere old g → RaisesThere new g
raises_grown old new (got.Value v) grows raises = tt
raises_grown old new (got.Stop v) grows raises = tt
raises_grown old new (got.Raise e) grows raises = kind_grown old new (as_object e) kind.Exc grows raises

-- what gives a reply does among more objects
given_on : (before old new : List Payload) (reply : Reply) (a : Answer) → GrowsPlainly old new → GivesReply before old reply a → GivesReply before new reply a
given_on before old new reply a grows given =
    let on : Grows old new = plainly_grows old new grows in
    record {
      gives = λ events named. gives_body_grow old new events reply (got_of a) grows (given.gives events named);
      below = below_more _ _ _ (length_grown old new on) given.below;
      heard = given.heard;
      raises = raises_grown old new (got_of a) on given.raises;
      later = given.later;
    }

-- so does an answer
pub answers_on : (old mid new : Kept) (w : MadeReply) (a : Answer) → IsAnswerTo old mid w a → IsGrown mid new → IsAnswerTo old new w a
answers_on old mid new w a (grown, keeps, gives) more =
    (grown_trans old mid new grown more, keeps, λ before reply grows fit replied. given_on before mid.made new.made reply a more.objects (gives before reply grows fit replied))

-- ---- the traceback that an exception has

-- it is one that is there
pub traceback_there : (s : Kept) (o : Obj) (b : ExceptionBody) → IsReadable s → HasPayload (objects_of s) o (payload.Exception b) → IfThere (IsTraceback s.made) b.traceback
traceback_there s o b readable has = (read_made s.made o (payload.Exception b) readable.fit (is_read s o (payload.Exception b) readable.unread has)).traceback

-- so an entry is made that leads on to it
pub made_entry : (w : World) (r : Running) (e : PyBaseExceptionRef) (store : Kept) (result : Result PyTracebackRef NoMemory) (number : ℕ) (code : Annotated) (line : ℕ) (next : Option PyTracebackRef) (frame : FrameRef) (last : ℕ)
    → number ≡ r.frame.code → slice_get w.codes.codes number ≡ Some code → line_at code r.frame ≡ Some line → HasTraceback (objects_of w.store) e next → frame ≡ r.frame.entry → last ≡ suc (r.frame.state.last - 1)
    → IfOk result (λ entry. entry.number ≡ length w.store.made) → OnOk result (store ≡ with_entry w.store next frame last line) → IsGrown w.store store → IfOk result (MakesEntry w r e (record w { store = store }))
made_entry w r e store (Ok entry) number code line next frame last place found is_line leads is_frame is_last newest added grown = (
  record {
    next = next;
    leads = leads;
    code = code;
    is_code = ap (slice_get w.codes.codes) (sym place) ∙ found;
    line = line;
    is_line = is_line;
    number = newest;
    added = added ∙ ap (λ (f : FrameRef). with_entry w.store next f last line) is_frame ∙ ap (λ n. with_entry w.store next r.frame.entry n line) is_last;
    grown = grown;
  },
  refl,
)
made_entry w r e store (Err f) number code line next frame last place found is_line leads is_frame is_last newest added grown = tt

-- ---- what was named

-- numbers of two lists
below_both : (n : ℕ) (ms ns : List ℕ) → AllBelow n ms → AllBelow n ns → AllBelow n (ms ++ ns)
below_both n [] ns first second = second
below_both n (m ∷ ms) ns first second = (first.0, below_both n ms ns first.1 second)

-- what events name is below what comes after all objects
named_below : (n : ℕ) (events : List Event) → ((i : ℕ) (e : Event) → slice_get events i ≡ Some e → AllBelow n (event_numbers e)) → AllBelow n (named_by events)
named_below n [] each = tt
named_below n (e ∷ es) each = below_both n (event_numbers e) (named_by es) (each 0 e refl) (named_below n es (λ i x here. each (suc i) x here))

-- so is what changes name
changes_below : (n : ℕ) (cs : List Change) → ChangesBelow n cs → AllBelow n (named_in cs)
changes_below n [] below = tt
changes_below n (c ∷ cs) (object, named, rest) = (object, below_both n (edit_numbers c.edit) (named_in cs) named (changes_below n cs rest))

-- ---- its entry

-- a new entry that a machine makes of an activation that waits, whose answer the store has
module _ (m : Core) (h : Halted) (slot : Option PyBaseExceptionRef) (mid store : Kept) (e : PyBaseExceptionRef) (entry : PyTracebackRef)
    (waits : IsHalted m.world.codes m.globals m.world.store.made m.events h slot) (marked : ChangesBelow (length m.world.store.made) m.world.store.changes)
    (named : AreNamed m.world.store.made m.events) (grown : IsGrown m.world.store mid) (raises : IsException mid.made (as_object e)) (made : IsNewEntry m.world.codes mid h.running e entry store) where
  all : IsGrown m.world.store store
  all = grown_trans m.world.store mid store grown made.grown

  abbrev more : List Payload
  more = traceback_entry made.next h.running.frame.entry (suc (h.running.frame.state.last - 1)) made.line ∷ []

  made_is : store.made ≡ mid.made ++ more
  made_is = ap (λ (s : Kept). s.made) made.added

  -- it leads on to the traceback that the exception has
  leads : traceback_object made.next ≡ link_at link.Traceback (objects_of store) (as_object e)
  leads =
      let (b, has, is) = made.leads in
      is ∙ sym (ap (link_in link.Traceback) has) ∙ sym (traceback_grown mid.made more mid.changes (as_object e) (slice_get_within mid.made e.number (payload.Exception raises.0) raises.1))
      ∙ sym (ap (λ (s : Kept). link_at link.Traceback (objects_of s) (as_object e)) made.added)

  -- it is the newest object
  abbrev entry_of : Option Obj → ℕ → Payload
  entry_of next at = payload.Traceback (record { next = next; frame = h.running.frame.entry; lasti = suc at; lineno = made.line })

  is_new : slice_get store.made entry.number ≡ Some (entry_of (traceback_object made.next) (h.running.frame.state.last - 1))
  is_new = ap (λ (l : List Payload). slice_get l entry.number) made_is ∙ ap (slice_get (mid.made ++ more)) made.number ∙ newest mid.made (entry_of (traceback_object made.next) (h.running.frame.state.last - 1))

  newer : AllBelow entry.number (named_by m.events ++ named_in store.changes)
  newer =
      let longer : length m.world.store.made ≤ length mid.made = length_grown m.world.store.made mid.made (objects_grow m.world.store mid grown) in
      let low : length m.world.store.made ≤ entry.number = subst (λ n. length m.world.store.made ≤ n) (sym made.number) longer in
      subst (λ cs. AllBelow entry.number (named_by m.events ++ named_in cs)) (sym (ap (λ (s : Kept). s.changes) all.others))
      (below_both entry.number (named_by m.events) (named_in m.world.store.changes) (below_more _ _ _ low (named_below (length m.world.store.made) m.events named.in_events))
      (below_more _ _ _ low (changes_below (length m.world.store.made) m.world.store.changes marked)))

  -- its line
  line_is : lines_of m.world.codes waits.plays.body.code waits.question.at ≡ Some made.line
  line_is =
      let p = waits.plays in
      let both : Some made.code ≡ Some p.code = sym made.is_code ∙ ap (slice_get m.world.codes.codes) p.placed ∙ p.is_code in
      let same : made.code ≡ p.code = same_Some made.code p.code both in
      ap (λ o. line_of o waits.question.at) (plain_at m.world.codes.codes p.body.code p.code p.is_code) ∙ ap (slice_get p.code.code.code.locations.items) waits.told_at
      ∙ ap (λ (c : Annotated). line_at c h.running.frame) (sym same) ∙ made.is_line

  -- where it comes
  abbrev there : Scene
  there = record { before = m.events; state = state_after start m.events; now = objects_of store; changed = store.changes }

  abbrev is_frame : IsFrameOf store.made (state_after start m.events).made h.running.act h.running.frame.entry
  is_frame =
      let p = waits.plays in
      let grows : Grows m.world.store.made store.made = objects_grow m.world.store store all in
      record {
        at = p.at;
        numbered = p.numbered;
        activation = p.activation;
        is_made = p.is_made;
        body = p.body;
        is_function = payload_grown m.world.store.made store.made _ _ grows p.is_function;
        entry = payload_grown m.world.store.made store.made _ _ grows p.entry;
        made_with = ap (λ l. slice_get l p.at) all.frames ∙ p.made_with;
      }

  pub entry_puts : PutsEntry (lines_of m.world.codes) store.made there h.running.act waits.question.at e ((as_object e, traceback_edit (Some entry)) ∷ [])
  entry_puts = record {
    frame = h.running.frame.entry;
    is_frame = is_frame;
    line = made.line;
    is_line = line_is;
    entry = record { number = entry.number };
    has = is_new ∙ ap (λ o. Some (entry_of o (h.running.frame.state.last - 1))) leads ∙ ap (λ n. Some (entry_of (link_at link.Traceback (objects_of store) (as_object e)) n)) (sym waits.told_at);
    newer = newer;
    puts = refl;
  }

  pub entry_there : IsTraceback store.made (record { number = entry.number })
  entry_there = (_, is_new)
