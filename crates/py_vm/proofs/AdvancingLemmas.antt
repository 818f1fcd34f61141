-- A turn with the links of the exception that it brings into a body: they come of the turn's event, and the machine keeps its invariant.
use Rattle.std.proofs.Common.{◌≡◌, ◌≤◌, ◌<◌, ◌++◌, ◌∙◌, ℕ, suc, List, [], ◌∷◌, Some, refl, sym, ap, subst, length, length-append, append_assoc, append-nil, arith, add-one, Bool}
use Rattle.std.specs.Prelude.{Option, None, filter, nat_le, ◌==◌, ◌&&◌}
use Rattle.std.proofs.lemmas.List.Elements.{filter-append}
use Rattle.std.proofs.lemmas.List.{append_cancel_left, map-append}
use Rattle.py_objects.specs.declared.payload.Payload.{Payload}
use Rattle.py_objects.specs.declared.edit.Change.{Change}
use Rattle.py_objects.specs.declared.event.Event.{Event}
use Rattle.py_objects.specs.declared.event.DriveAnswer.{DriveAnswer}
use Rattle.py_objects.specs.Objects.{IfThere, IsException, IsTraceback, as_object}
use Rattle.py_objects.specs.Changes.{store_at}
use Rattle.py_objects.specs.Edits.{Kept, changed_by, objects_of, IsAsBefore}
use Rattle.py_objects.specs.Growth.{GrowsPlainly}
use Rattle.py_objects.specs.Originals.{AreMarked, ChangesBelow}
use Rattle.py_objects.proofs.OriginalsLemmas.{filter-marked}
use Rattle.py_exceptions.specs.Tracebacks.{traceback_object}
use Rattle.py_answers.specs.Readable.{ChangeUnread}
use Rattle.py_stack.specs.Slots.{topmost}
use Rattle.py_run.specs.declared.drive.Question.{Question}
use Rattle.py_run.specs.Coming.{MayCome}
use Rattle.py_run.specs.Links.{links_at, is_link, noted, scene_at, ComeOf, HasLinksOf, ObjectEdit, Scene, TellsNow}
use Rattle.py_run.specs.Run.{start, state_after}
use Rattle.py_vm.specs.declared.machinery.Core.{Core}
use Rattle.py_vm.specs.declared.raising.Raising.{Raising}
use Rattle.py_vm.specs.declared.stage.Stage.{Stage}
use Rattle.py_vm.specs.Advancing.{may_of, Advances, HaltsThere}
use Rattle.py_vm.specs.Codes.{plain_codes}
use Rattle.py_vm.specs.Links.{lines_of, rows_under, AreLinksAmong, IsMarked}
use Rattle.py_vm.specs.Machine.{plan_of, IsAskable}
use Rattle.py_vm.specs.Raising.{CanLink, Linked, LinksOf}
use Rattle.py_vm.specs.Stands.{Keeps}
use Rattle.py_vm.specs.Turns.{past_at, Halts, Turned, Turns, IsBusy}
use Rattle.py_vm.specs.Ready.{IsReady}
use Rattle.py_vm.proofs.BringingLemmas.{scene_of, turned_brings, Brings, BringsAs, ComesThen}
use Rattle.py_vm.proofs.LinksLemmas.{all_then, are_links, context_set_if, edits_join, entry_put, none_due, none_then, noted_below, noted_marked, noted_unread, put_if, AreLinkEdits, GetsContextBy, GetsEntryBy}
use Rattle.py_vm.proofs.StandsLemmas.{marked_append}
use Rattle.py_vm.proofs.TurnedLemmas.{turned_law, ready_law}

-- ---- what the invariant says of a store

-- a store with the same objects
abbrev with_changes : Core → List Change → (mark spare : ℕ) → Option Raising → Core
with_changes m changes mark spare raising =
    record m { world = record m.world { store = record { made = m.world.store.made; changes = changes; mark = mark; spare = spare } }; raising = raising }

keeps_changes : (m : Core) (d : Question) (s : Stage) (changes : List Change) (mark spare : ℕ) (raising : Option Raising) → ChangeUnread m.world.store.made changes
    → IsMarked (length m.events) (record { made = m.world.store.made; changes = changes; mark = mark; spare = spare }) → Keeps m d s → Keeps (with_changes m changes mark spare raising) d s
keeps_changes m d s changes mark spare raising unread marked k = record {
  follows = record { done = k.follows.done; phase = k.follows.phase; stack = k.follows.stack; made = k.follows.made };
  stored = record { readable = record { unread = unread; fit = k.stored.readable.fit }; classes = k.stored.classes; dict = k.stored.dict; names_are = k.stored.names_are };
  marked = marked;
  runnable = k.runnable;
  told = k.told;
  kept = k.kept;
  nested = record { apart = k.nested.apart; frames = k.nested.frames; slots = k.nested.slots };
  at_stage = k.at_stage;
}

-- the invariant goes over to it
keeps_store : (m : Core) (d : Question) (s : Stage) (store : Kept) (raising : Option Raising) → store.made ≡ m.world.store.made → ChangeUnread m.world.store.made store.changes
    → IsMarked (length m.events) (record { made = m.world.store.made; changes = store.changes; mark = store.mark; spare = store.spare }) → Keeps m d s
    → Keeps (record m { world = record m.world { store = store }; raising = raising }) d s
keeps_store m d s store raising same unread marked k =
    let is : record { made = m.world.store.made; changes = store.changes; mark = store.mark; spare = store.spare } ≡ store =
    ap (λ (l : List Payload). let t : Kept = record { made = l; changes = store.changes; mark = store.mark; spare = store.spare } in t) (sym same) in
    subst (λ (t : Kept). Keeps (record m { world = record m.world { store = t }; raising = raising }) d s) is (keeps_changes m d s store.changes store.mark store.spare raising unread marked k)

-- as before a turn, where nothing was brought and there may be more places for changes
abbrev pub cleared : Core → Kept → Core
cleared m store = record m { world = record m.world { store = store }; raising = None }

keeps_cleared : (m : Core) (d : Question) (store : Kept) → IsAsBefore m.world.store store → Keeps m d m.stage → Keeps (cleared m store) d m.stage
keeps_cleared m d store same k =
    keeps_store m d m.stage store None same.made (subst (ChangeUnread m.world.store.made) (sym same.changes) k.stored.readable.unread) (record {
      mark = subst (λ n. n ≤ length m.events) (sym same.mark) k.marked.mark;
      past = subst (AreMarked (length m.events)) (sym same.changes) k.marked.past;
      below = subst (ChangesBelow (length m.world.store.made)) (sym same.changes) k.marked.below;
    }) k

callable_still : (m : Core) (d : Question) (store : Kept) → IsAsBefore m.world.store store → IsAskable m.world.store.made d → IsAskable store.made d
callable_still m d store same callable = subst (λ (l : List Payload). IsAskable l d) (sym same.made) callable

-- it is ready for its turn
pub cleared_ready : (m : Core) (d : Question) (store : Kept) → IsAsBefore m.world.store store → Keeps m d m.stage → IsBusy m.stage → IsAskable m.world.store.made d → IsReady (cleared m store) d m.stage
cleared_ready m d store same k busy callable = ready_law (cleared m store) d m.stage (keeps_cleared m d store same k) busy (callable_still m d store same callable)

-- where memory runs out, nothing was added but objects
pub halts_there : (m : Core) (store : Kept) (m' : Core) → IsAsBefore m.world.store store → Halts (cleared m store) m' → HaltsThere m m'
halts_there m store m' same halts = record {
  events = halts.events;
  kept = record {
    grows = record {
      objects = subst (λ (l : List Payload). GrowsPlainly l m'.world.store.made) same.made halts.kept.grows.objects;
      links = ([], ap (λ (s : Kept). s.changes) halts.kept.grows.others ∙ same.changes ∙ sym (append-nil m.world.store.changes), tt);
    };
    codes = halts.kept.codes;
    globals = halts.kept.globals;
    entered = halts.kept.entered;
    failed = halts.kept.failed;
    state = halts.kept.state;
  };
}

-- ---- a turn was made

module _ (m : Core) (d : Question) (store : Kept) (a : Option DriveAnswer) (n : Core) (k : Keeps m d m.stage) (callable : IsAskable m.world.store.made d) (same : IsAsBefore m.world.store store) (turned : Turned (cleared m store) d m.stage a n) where
  turns : Turns (cleared m store) d m.stage a n
  turns = turned_law (cleared m store) d m.stage a n (keeps_cleared m d store same k) (callable_still m d store same callable) turned

  brings : Brings (cleared m store) n
  brings = turned_brings (cleared m store) d m.stage a n (keeps_cleared m d store same k) refl turned

  one_event : brings.added ≡ turns.added
  one_event = only brings.added turns.added (append_cancel_left m.events (brings.added ∷ []) (turns.added ∷ []) (sym brings.events ∙ turns.events))
    where
      only : (e f : Event) → e ∷ [] ≡ f ∷ [] → e ≡ f
      only e f is = cc is

  -- there is room for its links
  pub room_left : 3 ≤ store.spare → 3 ≤ n.world.store.spare
  room_left room = subst (λ k. 3 ≤ k) (sym (ap (λ (s : Kept). s.spare) turns.kept.grows.others)) room

  pub marked_then : n.world.store.mark ≤ length n.events
  marked_then = turns.keeps.marked.mark

  -- what it brought is there, and so is what is handled
  pub can_link : CanLink n n.raising
  can_link = by n.raising brings.brings
    where
      by : (r : Option Raising) → BringsAs m n brings.added r → CanLink n r
      by None comes = tt
      by (Some x) (there, comes) = there

  unchanged : n.world.store.changes ≡ m.world.store.changes
  unchanged = ap (λ (s : Kept). s.changes) turns.kept.grows.others ∙ same.changes

  past : AreMarked (length m.events) n.world.store.changes
  past = subst (AreMarked (length m.events)) (sym unchanged) k.marked.past

  count : length n.events ≡ suc (length m.events)
  count = ap length turns.events ∙ length-append m.events (turns.added ∷ []) ∙ add-one (length m.events)

  -- it gets its links
  module _ (t : Kept) (links : LinksOf n.raising (length n.events) (topmost n.slots) n.world.store t) where
    -- the edits that come of the event
    record LinkedBy : Type 0 where
      edits : List ObjectEdit
      are : AreLinkEdits n.world.store.made edits
      comes : ComesThen m n brings.added edits
      made : t.made ≡ n.world.store.made
      changes : t.changes ≡ n.world.store.changes ++ noted (length n.events) edits
      mark : t.mark ≤ length n.events

    linked : LinkedBy
    linked = by n.raising brings.brings links
      where
        by : (r : Option Raising) → BringsAs m n brings.added r → LinksOf r (length n.events) (topmost n.slots) n.world.store t → LinkedBy
        by None comes is = record {
          edits = [];
          are = tt;
          comes = comes;
          made = ap (λ (s : Kept). s.made) is;
          changes = ap (λ (s : Kept). s.changes) is ∙ sym (append-nil n.world.store.changes);
          mark = subst (λ (s : Kept). s.mark ≤ length n.events) (sym is) marked_then;
        }
        by (Some x) (there, comes) (between, context, entry) =
            let readable = turns.keeps.stored.readable in
            let marked : Kept = record n.world.store { mark = length n.events } in
            let set : GetsContextBy x.gets_context marked between (topmost n.slots) x.exception =
            context_set_if x.gets_context marked between (topmost n.slots) x.exception (record { unread = readable.unread; fit = readable.fit }) there.handled_there there.exception context in
            let put : GetsEntryBy between t x.exception x.entry =
            entry_put between t x.exception x.entry (subst (λ (l : List Payload). IsException l (as_object x.exception)) (sym set.made) there.exception)
            (subst (λ (l : List Payload). IfThere (IsTraceback l) (traceback_object x.entry)) (sym set.made) there.entry) entry in
            record {
              edits = set.edits ++ put_if x.exception x.entry;
              are = edits_join n.world.store.made set.edits (put_if x.exception x.entry) set.are (subst (λ (l : List Payload). AreLinkEdits l (put_if x.exception x.entry)) set.made put.are);
              comes = comes set.edits set.gives;
              made = put.made ∙ set.made;
              changes = put.changes ∙ ap (λ l. l ++ noted between.mark (put_if x.exception x.entry)) set.changes
                  ∙ ap (λ i. (n.world.store.changes ++ noted (length n.events) set.edits) ++ noted i (put_if x.exception x.entry)) set.mark
                  ∙ append_assoc n.world.store.changes (noted (length n.events) set.edits) (noted (length n.events) (put_if x.exception x.entry))
                  ∙ ap (λ l. n.world.store.changes ++ l) (sym (map-append _ set.edits (put_if x.exception x.entry)));
              mark = subst (λ i. i ≤ length n.events) (sym (put.mark ∙ set.mark)) (omega arith);
            }

    -- they were made when the event was there
    then_same : links_at (suc (length m.events)) t.changes ≡ noted (suc (length m.events)) linked.edits
    then_same =
        let at : ℕ = suc (length m.events) in
        let later : length m.events < at = omega arith in
        ap (links_at at) linked.changes ∙ ap (λ i. links_at at (n.world.store.changes ++ noted i linked.edits)) count
        ∙ filter-append (λ (c : Change). (c.after == at) && is_link c.edit) n.world.store.changes (noted at linked.edits)
        ∙ ap (λ l. l ++ links_at at (noted at linked.edits)) (none_then (length m.events) at n.world.store.changes later past) ∙ all_then n.world.store.made at linked.edits linked.are

    -- those before were these
    due_same : filter (λ (c : Change). nat_le c.after (length m.events)) t.changes ≡ n.world.store.changes
    due_same =
        let due : Change → Bool = λ c. nat_le c.after (length m.events) in
        let later : length m.events < length n.events = omega (arith, count) in
        ap (filter due) linked.changes ∙ filter-append due n.world.store.changes (noted (length n.events) linked.edits)
        ∙ ap (λ l. filter due n.world.store.changes ++ l) (none_due n.world.store.made (length n.events) (length m.events) linked.edits later) ∙ append-nil (filter due n.world.store.changes)
        ∙ filter-marked (length m.events) (length m.events) n.world.store.changes (omega arith) past

    -- so that the objects were these
    now_same : store_at n.world.store.made t.changes (length m.events) ≡ objects_of n.world.store
    now_same = ap (changed_by n.world.store.made) due_same

    scene_same : scene_at (may_of n) (lines_of n.world.codes) n.world.store.made t.changes m.events (state_after start m.events) ≡ scene_of m n.world.store
    scene_same =
        let scene : List Payload → List Change → Scene = λ now changed. record { before = m.events; state = state_after start m.events; now = now; changed = changed } in
        ap (λ now. scene now (filter (λ (c : Change). nat_le c.after (length m.events)) t.changes)) now_same ∙ ap (scene (objects_of n.world.store)) due_same

    links_come : HasLinksOf (may_of n) (lines_of n.world.codes) n.world.store.made t.changes m.events (state_after start m.events) turns.added
    links_come = (
      linked.edits,
      subst (λ e. ComeOf (may_of n) (lines_of n.world.codes) n.world.store.made (scene_at (may_of n) (lines_of n.world.codes) n.world.store.made t.changes m.events (state_after start m.events)) e linked.edits) one_event
          (subst (λ z. ComeOf (may_of n) (lines_of n.world.codes) n.world.store.made z brings.added linked.edits) (sym scene_same) linked.comes),
      then_same,
    )

    tells_now : TellsNow n.world.store.made (store_at n.world.store.made t.changes (length m.events)) turns.added
    tells_now = subst (TellsNow n.world.store.made (store_at n.world.store.made t.changes (length m.events))) one_event
        (subst (λ l. TellsNow n.world.store.made l brings.added) (sym now_same) brings.tells)

    links_added : AreLinksAmong n.world.store.made (suc (length m.events)) (length n.events) (noted (length n.events) linked.edits)
    links_added = are_links n.world.store.made (length n.events) (suc (length m.events)) linked.edits (omega (arith, count)) linked.are

    -- what a store keeps
    marked_there : IsMarked (length n.events) (record { made = n.world.store.made; changes = t.changes; mark = t.mark; spare = t.spare })
    marked_there = record {
      mark = linked.mark;
      past = subst (AreMarked (length n.events)) (sym linked.changes)
          (marked_append (length n.events) n.world.store.changes (noted (length n.events) linked.edits) turns.keeps.marked.past (noted_marked n.world.store.made (length n.events) linked.edits));
      below = subst (ChangesBelow (length n.world.store.made)) (sym linked.changes) (noted_below n.world.store.made (length n.events) n.world.store.changes linked.edits linked.are turns.keeps.marked.below);
    }

    unread_there : ChangeUnread n.world.store.made t.changes
    unread_there = subst (ChangeUnread n.world.store.made) (sym linked.changes) (noted_unread n.world.store.made (length n.events) n.world.store.changes linked.edits linked.are turns.keeps.stored.readable.unread)

    pub advanced : Advances m d a (record n { world = record n.world { store = t } })
    advanced = record {
      keeps = keeps_store n d n.stage t n.raising linked.made unread_there marked_there turns.keeps;
      added = turns.added;
      events = turns.events;
      kept = record {
        grows = record {
          objects = subst (λ (l : List Payload). GrowsPlainly l t.made) same.made (subst (λ (l : List Payload). GrowsPlainly store.made l) (sym linked.made) turns.kept.grows.objects);
          links = (
            noted (length n.events) linked.edits,
            linked.changes ∙ ap (λ l. l ++ noted (length n.events) linked.edits) unchanged,
            subst (λ (l : List Payload). AreLinksAmong l (suc (length m.events)) (length n.events) (noted (length n.events) linked.edits)) (sym linked.made) links_added,
          );
        };
        codes = turns.kept.codes;
        globals = turns.kept.globals;
        entered = turns.kept.entered;
        failed = turns.kept.failed;
        state = turns.kept.state;
      };
      ends = turns.ends;
      comes = λ asked is. subst (λ (l : List Payload). MayCome (plan_of n.world.codes asked) l (past_at m) turns.added) (sym linked.made) (turns.comes asked is);
      follows = turns.follows;
      tells = subst (λ (l : List Payload). TellsNow l (store_at l t.changes (length m.events)) turns.added) (sym linked.made) tells_now;
      links = subst (λ (l : List Payload). HasLinksOf (rows_under (plain_codes n.world.codes) n.globals l) (lines_of n.world.codes) l t.changes m.events (state_after start m.events) turns.added) (sym linked.made) links_come;
    }

  -- the turn with its links
  pub advance_law : (m' : Core) → Linked n m' → Advances m d a m'
  advance_law m' (t, links, is) = subst (Advances m d a) (sym is) (advanced t links)
