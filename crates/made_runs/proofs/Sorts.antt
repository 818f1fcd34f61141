-- A group of each sort may come behind a run that stands between drives.
use Rattle.std.proofs.Common.{◌≡◌, ◌+◌, ◌<◌, ◌≤◌, ◌++◌, ℕ, suc, List, [], ◌∷◌, Bool, true, false, length}
use Rattle.std.proofs.Common.{Some, length-append, refl, sym, ap, subst, ◌∙◌, append_assoc, append-nil, arith}
use Rattle.std.specs.Prelude.{pos, int_lt, slice_get}
use Rattle.std.proofs.lemmas.Option.{slice_get_within}
use Rattle.py_objects.specs.declared.payload.Payload.{Payload}
use Rattle.py_objects.specs.declared.payload.Payload.TheVariants as payload
use Rattle.py_objects.specs.declared.event.DriveAnswer.TheVariants as answer
use Rattle.py_objects.specs.declared.event.Event.{Event}
use Rattle.py_objects.specs.Singletons.{none_object}
use Rattle.py_objects.specs.declared.edit.Change.{Change}
use Rattle.py_objects.specs.FrameEntries.{frames_in}
use Rattle.py_objects.specs.Objects.{Obj, HasPayload}
use Rattle.py_objects.proofs.GrowthLemmas.{slice_get_behind}
use Rattle.py_coro.specs.declared.coro.CoroEnd.TheVariants as left
use Rattle.py_lines.specs.declared.drive.DriveLine.{DriveLine}
use Rattle.py_run.specs.Run.{Posed, Activation, requested_by}
use Rattle.py_run.specs.Generators.{Generator, running_at, settled}
use Rattle.py_run.specs.Links.{AreLinks, links_at}
use Rattle.py_run.proofs.AddedLinks.{links_both}
use Rattle.py_run.proofs.NoLinks.{NoneSet}
use Rattle.py_run.proofs.GeneratorsLemmas.{entries, entries_on, entries_running, entries_settled}
use Rattle.py_meaning.specs.Whole.{IsLeftBy}
use Rattle.made_runs.proofs.Lists.{each_both, each_so}
use Rattle.made_runs.proofs.Blocks.{up, up_is, block}
use Rattle.made_runs.proofs.Found.{AreBelow}
use Rattle.made_runs.proofs.Objects.{shared_count, obj, store, work_object, count_object, zero_object}
use Rattle.made_runs.proofs.Groups.{Sort, Raises, Returns, Counts, sort_by, lines_of, asked_of, made_of, events_of}
use Rattle.made_runs.proofs.Groups.{first_of, second_of, worked, entered, left as left_by, told_raise, told_none}
use Rattle.made_runs.proofs.Groups.{exception, changes_of, frame_of}
use Rattle.made_runs.proofs.Steps.{idle}
use Rattle.made_runs.proofs.Raising.{raising_comes, raising_names, raising_tells}
use Rattle.made_runs.proofs.Returning.{returning_comes, returning_names, returning_tells}
use Rattle.made_runs.proofs.Counting.{counting_comes, counting_names, counting_tells}
use Rattle.made_runs.proofs.Links.{counting_links, returning_links}
use Rattle.made_runs.proofs.Tracebacks.{earlier_none, raising_links}
use Rattle.made_runs.proofs.Ended.{IsEnded, IsGroup}

-- the number of a group is below 500 where work raises, and isn't where it returns
abbrev pub IsFor : Sort → ℕ → Type 0
IsFor Raises v = int_lt (pos v) (pos 500) ≡ true
IsFor Returns v = int_lt (pos v) (pos 500) ≡ false
IsFor Counts v = Unit {0}

-- numbers below n are below the numbers of the next group
below_two : (n : ℕ) (es : List (Obj × ℕ)) → AreBelow n es → AreBelow (2 + n) es
below_two n es below =
    let Below : ℕ → (Obj × ℕ) → Type 0 = λ m e. e.0.number < m in
    each_so (Below n) (Below (2 + n)) (λ e low. omega (arith, low)) es below

-- three elements behind others, one after the other
three_on : (ms : List Activation) (a b c : Activation) → ((ms ++ a ∷ []) ++ b ∷ []) ++ c ∷ [] ≡ ms ++ a ∷ b ∷ c ∷ []
three_on ms a b c = append_assoc (ms ++ a ∷ []) (b ∷ []) (c ∷ []) ∙ append_assoc ms (a ∷ []) (b ∷ c ∷ [])

module _ (asked : List Posed) (more : List Payload) (es : List Event) (qs rest : List Posed) (ms : List Activation)
    (n v : ℕ) (x : Obj) where
  -- as many drives were done before
  abbrev d : ℕ
  d = length qs

  -- and as many activations were made
  abbrev m : ℕ
  m = length ms

  -- the questions of a group are those behind the ones before
  asks_at : (others : List Posed) (i : ℕ) → asked ≡ qs ++ others → slice_get asked (up d i) ≡ slice_get others i
  asks_at others i is =
      ap (λ (l : List Posed). slice_get l (up d i)) is
      ∙ ap (slice_get (qs ++ others)) (up_is d i) ∙ slice_get_behind qs others i

  -- there are as many as before, and these
  asks_many : (others : List Posed) → asked ≡ qs ++ others → length asked ≡ d + length others
  asks_many others is = ap (λ (l : List Posed). length l) is ∙ length-append qs others

  -- the generators behind the entries of three activations
  abbrev entered_three : List Generator → List Generator
  entered_three gs = running_at (suc (suc (suc m))) (running_at (suc (suc m)) (running_at (suc m) gs))

  -- where a call of work is done, generators are of the objects of which they were
  works_keep : (gs : List Generator) (w : Obj) → AreBelow n (entries gs)
      → AreBelow (2 + n) (entries (settled (requested_by (slice_get asked d)) (left.Return w) (entered_three gs)))
  works_keep gs w below =
      let first : List Generator = running_at (suc m) gs in
      let second : List Generator = running_at (suc (suc m)) first in
      let same : entries (settled (requested_by (slice_get asked d)) (left.Return w) (entered_three gs)) ≡ entries gs =
      entries_settled (requested_by (slice_get asked d)) (left.Return w) (entered_three gs)
      ∙ entries_running (suc (suc (suc m))) second ∙ entries_running (suc (suc m)) first ∙ entries_running (suc m) gs in
      subst (AreBelow (2 + n)) (sym same) (below_two n (entries gs) below)

  -- the generators behind the next of a new one
  abbrev yielded : List Generator → List Generator
  yielded gs = settled (requested_by (slice_get asked (suc d))) (left.Yield zero_object) (running_at (suc m) gs)

  -- and behind its close
  abbrev closed : List Generator → List Generator
  closed gs =
      settled (requested_by (slice_get asked (suc (suc d)))) (left.Raise (exception (suc n)))
      (running_at (suc m) (yielded gs))

  -- where a call of count is closed, they are of these objects and of one more
  counts_keep : (gs : List Generator) (g : Generator) → g.object ≡ obj n → AreBelow n (entries gs)
      → AreBelow (2 + n) (entries (closed (gs ++ g ∷ [])))
  counts_keep gs g is below =
      let all : List Generator = gs ++ g ∷ [] in
      let own : List (Obj × ℕ) = (g.object, g.act) ∷ [] in
      let here : g.object.number ≡ n = ap (λ (o : Obj). o.number) is in
      let same : entries (closed all) ≡ entries gs ++ own =
      entries_settled (requested_by (slice_get asked (suc (suc d)))) (left.Raise (exception (suc n)))
      (running_at (suc m) (yielded all))
      ∙ entries_running (suc m) (yielded all)
      ∙ entries_settled (requested_by (slice_get asked (suc d))) (left.Yield zero_object) (running_at (suc m) all)
      ∙ entries_running (suc m) all ∙ entries_on gs g in
      let Below : (Obj × ℕ) → Type 0 = λ e. e.0.number < 2 + n in
      subst (AreBelow (2 + n)) (sym same)
      (each_both Below (entries gs) own (below_two n (entries gs) below) (omega (arith, here), tt))

  -- the next and the close name what the call returned
  leaves_generator : IsLeftBy (store more) (es ++ block m d (events_of Counts n x)) (suc d) (obj n)
  leaves_generator =
      (length es + 2, answer.Returns (obj n), slice_get_behind es (block m d (events_of Counts n x)) 2, refl)

  -- the change of a raise is of its event
  raise_alone : AreLinks (suc (length es)) (length (es ++ block m d (events_of Raises n x))) (changes_of Raises (length es) n)
  raise_alone = (refl, omega arith, (let longer = length-append es (block m d (events_of Raises n x)) in omega (arith, longer)), tt)

  -- earlier changes are of no event of the group
  none_more : (cs : List Change) → AreLinks 1 (length es) cs → (local : List Event) → NoneSet (cs ++ []) (length es) local
  none_more cs alone local k low high = ap (links_at (suc k)) (append-nil cs) ∙ earlier_none 1 (length es) (suc k) cs alone (omega (arith, low))

  -- both objects of the group are there
  is_within : (p : Payload) → HasPayload (store more) (obj (suc n)) p → 2 + n ≤ length (store more)
  is_within p has = let low = slice_get_within (store more) (suc n) p has in omega (arith, low)

  -- a group of a sort, for which its number is, and whose objects and first frame are there
  pub group_of : (sort : Sort) (ds : List DriveLine) (changes : List Change) → IsEnded asked more es ds qs ms n changes → IsFor sort v
      → shared_count ≤ n → x.number < n → asked ≡ qs ++ (asked_of sort n x ++ rest)
      → HasPayload (store more) x (payload.Int (pos v))
      → HasPayload (store more) (obj n) (first_of sort m) → (frame : ℕ) → HasPayload (store more) (obj (suc n)) (second_of sort frame)
      → HasPayload (store more) (obj frame) (frame_of sort) → slice_get (frames_in (store more)) m ≡ Some frame
      → IsGroup asked more es qs ms n (events_of sort n x) (lines_of sort v (suc d))
      (asked_of sort n x) (made_of sort n x) (changes_of sort (length es) n)
  group_of Raises ds changes ended for enough number is has first frame second there placed = record {
    comes = λ gs below.
        let few : d < length asked = omega (arith, asks_many (asked_of Raises n x ++ rest) is) in
        raising_comes asked more es d ms gs n x v enough number ended.names
        (asks_at (asked_of Raises n x ++ rest) 0 is) few has for first;
    state =
        ap (λ (l : List Activation). idle (suc d) l) (three_on ms (worked x) entered (left_by (told_raise n)))
        ∙ ap (λ (k : ℕ). idle k (ms ++ made_of Raises n x)) (let same : suc d ≡ d + 1 = omega arith in same);
    generators = λ gs below. works_keep gs (obj n) below;
    names =
        raising_names (2 + n) (omega (arith, enough)) 0 0 1 2 n x
        (omega (arith, number)) (omega arith) (omega arith);
    acts = refl;
    tells = λ k. raising_tells more k n x first;
    asks = (((work_object, x ∷ [], refl, refl, (has, tt)), refl), tt);
    links = λ cs alone low.
        let both : AreLinks 1 (length (es ++ block m d (events_of Raises n x))) (cs ++ changes_of Raises (length es) n) =
        links_both 1 (length es) (length (es ++ block m d (events_of Raises n x))) cs (changes_of Raises (length es) n) (omega arith)
        (let longer = length-append es (block m d (events_of Raises n x)) in omega (arith, longer)) alone raise_alone in
        raising_links more es d n ms x cs alone low ended.names enough number first frame second there placed
        (length (es ++ block m d (events_of Raises n x))) both;
    alone = raise_alone;
    below = (omega arith, (omega arith, tt));
    within = is_within _ second;
    all = refl;
  }
  group_of Returns ds changes ended for enough number is has first frame second there placed = record {
    comes = λ gs below.
        let few : d < length asked = omega (arith, asks_many (asked_of Returns n x ++ rest) is) in
        returning_comes asked more es d ms gs x v (asks_at (asked_of Returns n x ++ rest) 0 is) few has for;
    state =
        ap (λ (l : List Activation). idle (suc d) l) (three_on ms (worked x) entered (left_by told_none))
        ∙ ap (λ (k : ℕ). idle k (ms ++ made_of Returns n x)) (let same : suc d ≡ d + 1 = omega arith in same);
    generators = λ gs below. works_keep gs x below;
    names = returning_names (2 + n) (omega (arith, enough)) 0 0 1 2 x (omega (arith, number));
    acts = refl;
    tells = λ k. returning_tells more k x;
    asks = (((work_object, x ∷ [], refl, refl, (has, tt)), refl), tt);
    links = λ cs alone low. returning_links more es d n ms x ended.acts (cs ++ []) (none_more cs alone (block m d (events_of Returns n x)));
    alone = tt;
    below = tt;
    within = is_within _ second;
    all = refl;
  }
  group_of Counts ds changes ended for enough number is has first frame second there placed = record {
    comes = λ gs below.
        let others : List Posed = asked_of Counts n x ++ rest in
        let few : suc (suc d) < length asked = omega (arith, asks_many others is) in
        counting_comes asked more es d ms gs n x enough number ended.names below few
        (asks_at others 0 is) (asks_at others 1 is) (asks_at others 2 is) first second;
    state =
        ap (λ (k : ℕ). idle k (ms ++ made_of Counts n x))
        (let same : suc (suc (suc d)) ≡ d + 3 = omega arith in same);
    generators = λ gs below. counts_keep gs _ refl below;
    names =
        counting_names (2 + n) (omega (arith, enough)) 0 1 2 0 n x
        (omega (arith, number)) (omega arith) (omega arith);
    acts = refl;
    tells = λ k. counting_tells more k n x;
    asks = (
      ((count_object, x ∷ [], refl, refl, (has, tt)), refl),
      (((obj n, none_object, refl, leaves_generator, refl), refl), (((obj n, refl, leaves_generator), refl), tt)),
    );
    links = λ cs alone low. counting_links more es d n ms x ended.acts (cs ++ []) (none_more cs alone (block m d (events_of Counts n x)));
    alone = tt;
    below = tt;
    within = is_within _ second;
    all = refl;
  }

-- each group is of a sort that its number is for
pub sort_for : (works : Bool) (v : ℕ) → IsFor (sort_by works (int_lt (pos v) (pos 500))) v
sort_for true v = go (int_lt (pos v) (pos 500)) refl
  where
    go : (b : Bool) → int_lt (pos v) (pos 500) ≡ b → IsFor (sort_by true b) v
    go true is = is
    go false is = is
sort_for false v = tt
