-- The links that come of a call of work that raises: its exception gets an entry of its traceback, which the exit is told.
use Rattle.std.proofs.Common.{◌≡◌, ◌+◌, ◌<◌, ◌≤◌, ◌++◌, ◌∙◌, ℕ, suc, List, [], ◌∷◌, Bool, true, false, Some, None, inr, drop, length, length-append, refl, sym, ap, subst, append-nil, arith}
use Rattle.std.specs.Prelude.{slice_get, ◌==◌, ◌&&◌, nat_le}
use Rattle.std.proofs.lemmas.Bool.Decides.{nat_tests}
use Rattle.std.proofs.lemmas.List.Elements.{filter-append}
use Rattle.py_objects.specs.declared.payload.Payload.{Payload}
use Rattle.py_objects.specs.declared.payload.Payload.TheVariants as payload
use Rattle.py_objects.specs.declared.edit.Change.{Change}
use Rattle.py_objects.specs.declared.edit.Edit.TheVariants as edit
use Rattle.py_objects.specs.declared.edit.LinkField.TheVariants as link
use Rattle.py_objects.specs.declared.request.Request.TheVariants as request
use Rattle.py_objects.specs.declared.event.GotAnswer.TheVariants as got
use Rattle.py_objects.specs.declared.event.Event.{Event}
use Rattle.py_objects.specs.declared.event.Event.TheVariants as event
use Rattle.py_objects.specs.Objects.{Obj, AllBelow, HasPayload, event_numbers}
use Rattle.py_objects.specs.Changes.{changed_by, store_at, with_edit}
use Rattle.py_objects.specs.Edits.{edit_numbers}
use Rattle.py_objects.specs.FrameEntries.{frames_in}
use Rattle.py_objects.proofs.GrowthLemmas.{slice_get_behind, slice_get_grown}
use Rattle.py_run.specs.Run.{Activation, after, state_after}
use Rattle.py_run.specs.Links.{AreLinks, IsFrameOf, IsToldNow, ObjectEdit, Raises, is_link, links_at, named_by, named_in, noted, scene_at}
use Rattle.py_run.proofs.FirstLemmas.{below_behind}
use Rattle.py_run.proofs.LinksLemmas.{links_join}
use Rattle.py_run.proofs.NoLinks.{no_links}
use Rattle.py_run.proofs.TracebackLemmas.{due_by, edited_elsewhere, entry_put, seen_stays, store_next, traceback_at}
use Rattle.made_runs.proofs.Blocks.{block, Names, names_both, names_shifted, names_wider}
use Rattle.made_runs.proofs.Groups.{Raises as OfRaises, catches, entered, events_of, exception, leaves, raised, raises_asked, returns, traceback_set, traced, worked}
use Rattle.made_runs.proofs.Links.{BringLinks, under}
use Rattle.made_runs.proofs.Located.{raise_line, raises_there, the_lines}
use Rattle.made_runs.proofs.Objects.{fault_object, obj, scope_object, shared_count, store, work_function}
use Rattle.made_runs.proofs.Raising.{asked_name, body}
use Rattle.made_runs.proofs.Steps.{idle}

-- ---- changes of earlier events

-- links of so many events are of no later one
pub earlier_none : (m j k : ℕ) (cs : List Change) → AreLinks m j cs → j < k → links_at k cs ≡ []
earlier_none m j k [] are low = refl
earlier_none m j k (c ∷ cs) (sets, first, last, rest) low =
    let other : (c.after == k) ≡ false = grind (arith, nat_tests, last, low) in rw other (earlier_none c.after j k cs rest low)

-- what is named by the changes until an event is named by all
due_named : (m k : ℕ) (cs : List Change) → AllBelow m (named_in cs) → AllBelow m (named_in (due_by k cs))
due_named m k [] below = tt
due_named m k (c ∷ cs) below = by (nat_le c.after k) refl (due_named m k cs (below_behind m (edit_numbers c.edit) (named_in cs) below.1))
  where
    joined : (ns ms ks : List ℕ) → AllBelow m (ns ++ ms) → AllBelow m ks → AllBelow m (ns ++ ks)
    joined [] ms ks front back = back
    joined (i ∷ ns) ms ks front back = (front.0, joined ns ms ks front.1 back)

    by : (b : Bool) → nat_le c.after k ≡ b → AllBelow m (named_in (due_by k cs)) → AllBelow m (named_in (due_by k (c ∷ cs)))
    by true is rest = rw is (below.0, joined (edit_numbers c.edit) (named_in cs) (named_in (due_by k cs)) below.1 rest)
    by false is rest = rw is rest

-- an object that they don't name keeps its traceback
untouched : (n : ℕ) (objects : List Payload) (cs : List Change) → AllBelow n (named_in cs) → traceback_at (changed_by objects cs) (obj n) ≡ traceback_at objects (obj n)
untouched n objects [] below = refl
untouched n objects (c ∷ cs) below =
    untouched n (with_edit objects c.object c.edit) cs (below_behind n (edit_numbers c.edit) (named_in cs) below.1)
    ∙ edited_elsewhere objects c.object c.edit (obj n) (λ same. let low : c.object.number < n = below.0 in omega (arith, same, low))

-- what each of some events names, they name
names_all : (m : ℕ) (es : List Event) → Names m es → AllBelow m (named_by es)
names_all m [] names = tt
names_all m (e ∷ es) names = joined (event_numbers e) names.0 (names_all m es names.1)
  where
    joined : (ns : List ℕ) → AllBelow m ns → AllBelow m (named_by es) → AllBelow m (ns ++ named_by es)
    joined [] front back = back
    joined (i ∷ ns) front back = (front.0, joined ns front.1 back)

-- two lists of numbers below another one
pub below_joined : (m : ℕ) (xs ys : List ℕ) → AllBelow m xs → AllBelow m ys → AllBelow m (xs ++ ys)
below_joined m [] ys front back = back
below_joined m (x ∷ xs) ys front back = (front.0, below_joined m xs ys front.1 back)

below_next : (m : ℕ) (xs : List ℕ) → AllBelow m xs → AllBelow (suc m) xs
below_next m [] below = tt
below_next m (x ∷ xs) below = ((let low = below.0 in omega (arith, low)), below_next m xs below.1)

module _ (more : List Payload) (es : List Event) (d n : ℕ) (ms : List Activation) (x : Obj) (cs : List Change) (alone : AreLinks 1 (length es) cs) (low : AllBelow n (named_in cs))
    (names : Names n es) (enough : shared_count ≤ n) (number : x.number < n) (first : HasPayload (store more) (obj n) raised) (frame : ℕ)
    (second : HasPayload (store more) (obj (suc n)) (traced frame)) (there : HasPayload (store more) (obj frame) (payload.Frame 2))
    (placed : slice_get (frames_in (store more)) (length ms) ≡ Some frame) where
  -- the change of the group, behind those before
  abbrev change : Change
  change = traceback_set (length es) n

  abbrev all : List Change
  all = cs ++ change ∷ []

  -- the events up to the raise
  abbrev front : List Event
  front = block (length ms) d (raises_asked 0 0 1 x [])

  abbrev before : List Event
  before = es ++ front

  abbrev answer : Event
  answer = event.Got (suc (length ms)) (got.Value (obj n))

  -- those behind it
  abbrev left : List Event
  left = block (length ms) d (leaves 0 2 (Some (exception n)) fault_object (obj n) (obj (suc n)) (catches 0 n (returns 0 0 (obj n))))

  many : length before ≡ length es + 19
  many = length-append es front

  -- ---- the changes at each event

  then_all : (k : ℕ) → length es < k → links_at k all ≡ links_at k (change ∷ [])
  then_all k later =
      filter-append (λ (c : Change). (c.after == k) && is_link c.edit) cs (change ∷ []) ∙ ap (λ l. l ++ links_at k (change ∷ [])) (earlier_none 1 (length es) k cs alone later)

  then_set : links_at (suc (length before)) all ≡ noted (suc (length before)) ((obj n, edit.Link link.Traceback (Some (obj (suc n)))) ∷ [])
  then_set =
      let at : suc (length before) ≡ length es + 20 = omega (arith, many) in
      let hit : (length es + 20 == suc (length before)) ≡ true = grind (arith, nat_tests, at) in
      then_all (suc (length before)) (omega (arith, many))
      ∙ ((rw hit refl) ∙ ap (λ k. record { after = k; object = obj n; edit = edit.Link link.Traceback (Some (obj (suc n))) } ∷ []) (sym at))

  then_none : (k : ℕ) → length es < k → (length es + 20 ≡ k → ⊥) → links_at k all ≡ []
  then_none k later other = then_all k later ∙ (let miss : (length es + 20 == k) ≡ false = grind (arith, nat_tests, other) in rw miss refl)

  due_is : due_by (length before) all ≡ due_by (length before) cs
  due_is =
      let late : nat_le (length es + 20) (length before) ≡ false = grind (arith, nat_tests, many) in
      filter-append (λ (c : Change). nat_le c.after (length before)) cs (change ∷ [])
      ∙ (ap (λ l. due_by (length before) cs ++ l) (rw late refl) ∙ append-nil (due_by (length before) cs))

  -- ---- the raise

  abbrev now : List Payload
  now = store_at (store more) all (length before)

  none_yet : traceback_at now (obj n) ≡ None
  none_yet =
      ap (λ c. traceback_at (changed_by (store more) c) (obj n)) due_is
      ∙ (untouched n (store more) (due_by (length before) cs) (due_named n (length before) cs low) ∙ (rw first refl))

  frame_is : IsFrameOf (store more) ((ms ++ worked x ∷ []) ++ entered ∷ []) (suc (length ms)) (record { number = frame })
  frame_is = record {
    at = length ms;
    numbered = refl;
    activation = worked x;
    is_made =
        slice_get_grown (ms ++ worked x ∷ []) (entered ∷ []) (length ms) (worked x)
        (ap (slice_get (ms ++ worked x ∷ [])) (let same : length ms ≡ length ms + 0 = omega arith in same) ∙ slice_get_behind ms (worked x ∷ []) 0);
    body = work_function;
    is_function = refl;
    entry = there;
    made_with = placed;
  }

  named : AllBelow (suc n) (named_by before)
  named =
      names_all (suc n) before
      (names_both (suc n) es front (names_wider n (suc n) es (omega arith) names)
      (names_shifted (length ms) d (suc n) (raises_asked 0 0 1 x []) (asked_name (suc n) (omega (arith, enough)) 0 0 1 x [] (omega (arith, number)) tt)))

  raise : Raises the_lines (store more) true (scene_at (under more) the_lines (store more) all before (state_after (idle d ms) front)) (suc (length ms)) 0 (exception n)
      ((obj n, edit.Link link.Traceback (Some (obj (suc n)))) ∷ [])
  unfolding frame_is
  raise = record {
    contexts = [];
    gets = refl;
    entries = (obj n, edit.Link link.Traceback (Some (obj (suc n)))) ∷ [];
    puts =
        record {
          frame = record { number = frame };
          is_frame = frame_is;
          line = raise_line;
          is_line = raises_there;
          entry = obj (suc n);
          has = subst (λ o. HasPayload (store more) (obj (suc n)) (payload.Traceback (record { next = o; frame = record { number = frame }; lasti = 1; lineno = raise_line }))) (sym none_yet) second;
          newer =
              below_joined (suc n) (named_by before) (named_in (due_by (length before) all)) named
              (subst (λ c. AllBelow (suc n) (named_in c)) (sym due_is) (below_next n (named_in (due_by (length before) cs)) (due_named n (length before) cs low)));
          puts = refl;
        };
    both = refl;
  }

  -- ---- the exit

  told : (k : ℕ) → AreLinks 1 k all → IsToldNow (store more) (traceback_at (store_at (store more) all (length (before ++ answer ∷ []))) (obj n)) (obj (suc n))
  told k are =
      let next : length (before ++ answer ∷ []) ≡ suc (length before) = (let longer : length (before ++ answer ∷ []) ≡ length before + 1 = length-append before (answer ∷ []) in omega (arith, longer)) in
      let seen = seen_stays (store more) (due_by (length before) all) (obj n) ((body.context, body.traceback), (rw first refl)) in
      let edits : List ObjectEdit = (obj n, edit.Link link.Traceback (Some (obj (suc n)))) ∷ [] in
      let has : traceback_at (store_at (store more) all (length (before ++ answer ∷ []))) (obj n) ≡ Some (obj (suc n)) =
      ap (λ m. traceback_at (store_at (store more) all m) (obj n)) next
      ∙ (ap (λ l. traceback_at l (obj n)) (store_next (store more) 1 (length before) k all edits are then_set)
      ∙ entry_put now (suc (length before)) [] tt (obj n) (obj (suc n)) (obj n) refl seen) in
      subst (λ o. IsToldNow (store more) o (obj (suc n))) (sym has) refl

  -- the links of the group
  pub raising_links : (k : ℕ) → AreLinks 1 k all → BringLinks more all es d ms (block (length ms) d (events_of OfRaises n x))
  raising_links k are =
      let exit : Event = event.Ask (suc (length ms)) (request.Exit scope_object fault_object (obj n) (obj (suc n))) (Some (exception n)) 0 in
      let last : List Event = drop 1 left in
      let raised_events : List Event = before ++ answer ∷ [] in
      let next : length raised_events ≡ length es + 20 = (let longer : length raised_events ≡ length before + 1 = length-append before (answer ∷ []) in omega (arith, longer, many)) in
      let later : length (raised_events ++ exit ∷ []) ≡ length es + 21 = (let longer : length (raised_events ++ exit ∷ []) ≡ length raised_events + 1 = length-append raised_events (exit ∷ []) in omega (arith, longer, next)) in
      links_join (under more) the_lines (store more) all es (idle d ms) front (answer ∷ left)
      (no_links (under more) the_lines (store more) all es (idle d ms) front refl (λ i at below. then_none (suc i) (omega (arith, at)) (λ same. let few : length front ≡ 19 = refl in omega (arith, below, same, few)))) (
        tt,
        ((obj n, edit.Link link.Traceback (Some (obj (suc n)))) ∷ [], raise, then_set),
        (
          inr (body, first, refl, told k are),
          ([], refl, then_none (suc (length raised_events)) (omega (arith, next)) (λ same. omega (arith, same, next))),
          no_links (under more) the_lines (store more) all (raised_events ++ exit ∷ []) (after (after (state_after (idle d ms) front) answer) exit) last refl
              (λ i at below. then_none (suc i) (omega (arith, at, later)) (λ same. omega (arith, at, later, same))),
        ),
      )
