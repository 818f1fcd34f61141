-- A run that stands between drives, and the longer run that one group behind it makes.
use Rattle.std.proofs.Common.{◌≡◌, ◌+◌, ◌<◌, ◌≤◌, ◌++◌, ℕ, zero, suc, List, [], ◌∷◌, Some, true, length}
use Rattle.std.proofs.Common.{length-append, sym, ap, subst, ◌∙◌, append-nil, inl, inr, ◌⊎◌, arith}
use Rattle.std.specs.Prelude.{slice_get, nat_lt}
use Rattle.std.specs.List.{list_all}
use Rattle.std.proofs.lemmas.Option.{same_Some}
use Rattle.py_objects.specs.declared.payload.Payload.{Payload}
use Rattle.py_objects.specs.declared.edit.Change.{Change}
use Rattle.py_objects.specs.declared.event.Event.{Event}
use Rattle.py_objects.specs.Edits.{edit_numbers}
use Rattle.py_objects.specs.Objects.{AllBelow, AllFit}
use Rattle.py_objects.specs.Originals.{ChangesBelow}
use Rattle.py_objects.proofs.GrowthLemmas.{below_more}
use Rattle.py_objects.specs.Own.{Own, whose, own_events, own_from}
use Rattle.py_lines.specs.declared.drive.DriveLine.{DriveLine}
use Rattle.py_run.specs.Run.{Posed, Activation, Idle, State, start, state_after}
use Rattle.py_run.specs.Generators.{Generator}
use Rattle.py_run.specs.Coming.{Past, nothing, Comes}
use Rattle.py_run.specs.Past.{past_behind}
use Rattle.py_run.specs.Links.{AreLinks, LinksCome, named_in}
use Rattle.py_run.proofs.AddedLinks.{links_added, links_both}
use Rattle.py_run.proofs.FirstLemmas.{below_behind, below_front}
use Rattle.py_run.proofs.GeneratorsLemmas.{entries}
use Rattle.py_run.proofs.OwnLemmas.{state_lists}
use Rattle.py_run.proofs.PastLemmas.{past_events, past_lists, past_state}
use Rattle.py_run.proofs.RunLemmas.{comes_behind}
use Rattle.py_meaning.specs.Whole.{AreAsked}
use Rattle.made_runs.proofs.Lists.{each_both}
use Rattle.made_runs.proofs.Blocks.{up, up_is, block, Acts, own_shifted, own_earlier, own_later, own_lists}
use Rattle.made_runs.proofs.Blocks.{acts_shifted, acts_wider, Names, names_shifted, names_both, names_wider}
use Rattle.made_runs.proofs.Found.{AreBelow}
use Rattle.made_runs.proofs.Objects.{store}
use Rattle.made_runs.proofs.Steps.{plan, past, idle}
use Rattle.made_runs.proofs.Telling.{may, Tell}
use Rattle.made_runs.proofs.Links.{under, BringLinks}
use Rattle.made_runs.proofs.Located.{the_lines}
use Rattle.made_runs.proofs.Tracebacks.{below_joined}
use Rattle.made_runs.proofs.Asked.{asked_on, asked_both}

-- each of these activations tells by events what it may
abbrev TellBy : List Payload → List Event → List Activation → Type 0
TellBy more es ms =
    (i : ℕ) (a : Activation) → slice_get ms i ≡ Some a → may more a.function a.args (own_events (suc i) es)

-- changes that name objects below m are of such, and so below n
changes_below : (m n : ℕ) (cs : List Change) → m ≤ n → AllBelow m (named_in cs) → ChangesBelow n cs
changes_below m n [] low below = tt
changes_below m n (c ∷ cs) low below = (
  (let one = below.0 in omega (arith, one, low)),
  below_more m n (edit_numbers c.edit) low (below_front m (edit_numbers c.edit) (named_in cs) below.1),
  changes_below m n cs low (below_behind m (edit_numbers c.edit) (named_in cs) below.1),
)

-- changes and more of them name what both name
named_both : (n : ℕ) (cs ds : List Change) → AllBelow n (named_in cs) → AllBelow n (named_in ds) → AllBelow n (named_in (cs ++ ds))
named_both n [] ds front back = back
named_both n (c ∷ cs) ds front back = (
  front.0,
  below_joined n (edit_numbers c.edit) (named_in (cs ++ ds)) (below_front n (edit_numbers c.edit) (named_in cs) front.1)
      (named_both n cs ds (below_behind n (edit_numbers c.edit) (named_in cs) front.1) back),
)

module _ (asked : List Posed) (more : List Payload) where
  -- the run of these drives, which asked this and have their results, and of these activations;
  -- it names objects below n, and makes these changes
  pub record IsEnded (es : List Event) (ds : List DriveLine) (qs : List Posed) (ms : List Activation) (n : ℕ) (changes : List Change)
      : Type 0 where
    pub comes : Comes (plan asked) (store more) nothing es
    pub state : state_after start es ≡ idle (length qs) ms
    pub generators : AreBelow n (entries (past_behind (plan asked) nothing es).generators)
    pub names : Names n es
    pub acts : Acts (length ms) es
    pub tells : TellBy more es ms
    pub asks : AreAsked (store more) es ds qs
    pub links : LinksCome (under more) the_lines (store more) changes [] start es
    pub alone : AreLinks 1 (length es) changes
    pub below : AllBelow n (named_in changes)
    pub all : length ds ≡ length qs

  -- where a run stands between drives, with these generators
  abbrev between : List Event → List Posed → List Activation → List Generator → Past
  between es qs ms gs = past es (length qs) Idle [] ms gs

  -- a group's events, shifted behind those of a run
  abbrev behind : List Posed → List Activation → List Event → List Event
  behind qs ms local = block (length ms) (length qs) local

  -- a group that may come behind it: its events, by numbers from 0, its drives and what they ask, its activations, and its
  -- changes
  pub record IsGroup (es : List Event) (qs : List Posed) (ms : List Activation) (n : ℕ) (local : List Event)
      (ds : List DriveLine) (others : List Posed) (made : List Activation) (own : List Change) : Type 0 where
    pub comes : (gs : List Generator) → AreBelow n (entries gs)
        → Comes (plan asked) (store more) (between es qs ms gs) (behind qs ms local)
    pub state : state_after (idle (length qs) ms) (behind qs ms local)
        ≡ idle (length qs + length others) (ms ++ made)
    pub generators : (gs : List Generator) → AreBelow n (entries gs)
        → AreBelow (2 + n) (entries (past_behind (plan asked) (between es qs ms gs) (behind qs ms local)).generators)
    pub names : Names (2 + n) local
    pub acts : list_all (λ (e : Event). nat_lt (whose e) (length made)) local ≡ true
    pub tells : (k : ℕ) → Tell more 0 k local made
    pub asks : AreAsked (store more) (es ++ behind qs ms local) ds others
    pub links : (changes : List Change) → AreLinks 1 (length es) changes → AllBelow n (named_in changes)
        → BringLinks more (changes ++ own) es (length qs) ms (behind qs ms local)
    pub alone : AreLinks (suc (length es)) (length (es ++ behind qs ms local)) own
    pub below : AllBelow (2 + n) (named_in own)
    pub within : 2 + n ≤ length (store more)
    pub all : length ds ≡ length others

  -- each of the activations of a group tells what it may
  told_at : (k l i : ℕ) (local : List Event) (made : List Activation) (a : Activation) → Tell more l k local made
      → slice_get made i ≡ Some a → may more a.function a.args (own_from (l + i) k local)
  told_at k l i local [] a tell at = absurd (cc at)
  told_at k l zero local (b ∷ made) a tell at =
      subst (λ (c : Activation). may more c.function c.args (own_from (l + 0) k local)) (same_Some b a at)
      (subst (λ (j : ℕ). may more b.function b.args (own_from j k local))
      (let same : l ≡ l + 0 = omega arith in same) tell.0)
  told_at k l (suc i) local (b ∷ made) a tell at =
      subst (λ (j : ℕ). may more a.function a.args (own_from j k local))
      (let same : suc l + i ≡ l + suc i = omega arith in same)
      (told_at k (suc l) i local made a tell.1 at)

  -- an activation of a longer list is one of its front, or one behind it
  split : (xs ys : List Activation) (i : ℕ) (a : Activation) → slice_get (xs ++ ys) i ≡ Some a
      → ((i < length xs) × (slice_get xs i ≡ Some a)) ⊎ ((l : ℕ) × (i ≡ up (length xs) l) × (slice_get ys l ≡ Some a))
  split [] ys i a at = inr (i, (let is = up_is 0 i in omega (arith, is)), at)
  split (x ∷ xs) ys zero a at = inl (omega arith, at)
  split (x ∷ xs) ys (suc i) a at = elim (split xs ys i a at) [
    | inl front ↦ let low : i < length xs = front.0 in inl (omega (arith, low), front.1)
    | inr back ↦
        let is : i ≡ up (length xs) back.0 = back.1 in
        inr (back.0, omega (arith, is, up_is (length xs) back.0, up_is (suc (length xs)) back.0), back.2)
  ]

  module _ (fit : AllFit (store more)) (es : List Event) (ds : List DriveLine) (qs : List Posed) (ms : List Activation)
      (n : ℕ) (changes : List Change) (ended : IsEnded es ds qs ms n changes) (local : List Event) (ds' : List DriveLine)
      (others : List Posed) (made : List Activation) (own : List Change)
      (group : IsGroup es qs ms n local ds' others made own) where
    -- the events of the group, behind those of the run
    abbrev events : List Event
    events = behind qs ms local

    -- the past of the run
    abbrev before : Past
    before = past_behind (plan asked) nothing es

    -- it stands between drives
    before_is : before ≡ between es qs ms before.generators
    before_is =
        ap (λ (l : List Event). record { events = l; state = before.state; generators = before.generators })
        (past_events (plan asked) es)
        ∙ ap (λ (s : State). record { events = es; state = s; generators = before.generators })
        (past_state (plan asked) es ∙ ended.state)

    -- the events of both may come
    comes_on : Comes (plan asked) (store more) nothing (es ++ events)
    comes_on =
        comes_behind (plan asked) (store more) nothing es events ended.comes
        (subst (λ (p : Past). Comes (plan asked) (store more) p events) (sym before_is)
        (group.comes before.generators ended.generators))

    -- the state behind both stands between drives
    state_on : state_after start (es ++ events) ≡ idle (length (qs ++ others)) (ms ++ made)
    state_on =
        state_lists start es events ∙ ap (λ (s : State). state_after s events) ended.state ∙ group.state
        ∙ ap (λ (d : ℕ). idle d (ms ++ made)) (let same = length-append qs others in sym same)

    -- generators are of objects that come before those of the next group
    generators_on : AreBelow (2 + n) (entries (past_behind (plan asked) nothing (es ++ events)).generators)
    generators_on =
        subst (λ (p : Past). AreBelow (2 + n) (entries p.generators)) (sym (past_lists (plan asked) nothing es events))
        (subst (λ (p : Past). AreBelow (2 + n) (entries (past_behind (plan asked) p events).generators)) (sym before_is)
        (group.generators before.generators ended.generators))

    -- both name objects that come before those of the next group
    names_on : Names (2 + n) (es ++ events)
    names_on =
        names_both (2 + n) es events (names_wider n (2 + n) es (omega arith) ended.names)
        (names_shifted (length ms) (length qs) (2 + n) local group.names)

    -- their events are of the activations that were made
    acts_on : Acts (length (ms ++ made)) (es ++ events)
    acts_on =
        let all : ℕ = length ms + length made in
        subst (λ (m : ℕ). Acts m (es ++ events)) (sym (length-append ms made))
        (each_both (λ (e : Event). whose e ≤ all) es events (acts_wider (length ms) all es (omega arith) ended.acts)
        (acts_shifted (length ms) (length qs) (length made) local group.acts))

    -- each of these tells what it may
    tells_on : TellBy more (es ++ events) (ms ++ made)
    tells_on i a at = elim (split ms made i a at) [
      | inl front ↦
          subst (λ (own : List Own). may more a.function a.args own)
          (sym (own_lists (suc i) 0 es events
          ∙ ap (λ (own : List Own). own_events (suc i) es ++ own)
          (own_earlier (length ms) (length qs) i (0 + length es) local front.0)
          ∙ append-nil (own_events (suc i) es)))
          (ended.tells i a front.1)
      | inr back ↦
          subst (λ (j : ℕ). may more a.function a.args (own_events (suc j) (es ++ events))) (sym back.1)
          (subst (λ (own : List Own). may more a.function a.args own)
          (sym (own_lists (suc (up (length ms) back.0)) 0 es events
          ∙ ap (λ (own : List Own). own ++ own_from (suc (up (length ms) back.0)) (0 + length es) events)
          (own_later (length ms) back.0 0 es ended.acts)
          ∙ own_shifted (length ms) (length qs) back.0 (0 + length es) local))
          (told (0 + length es) back.0 back.2))
    ]
      where
        told : (k l : ℕ) → slice_get made l ≡ Some a → may more a.function a.args (own_from l k local)
        told k l at =
            subst (λ (j : ℕ). may more a.function a.args (own_from j k local))
            (let same : 0 + l ≡ l = omega arith in same)
            (told_at k 0 l local made a (group.tells k) at)

    -- the links that came come still, and those of the group behind them
    links_on : LinksCome (under more) the_lines (store more) (changes ++ own) [] start (es ++ events)
    links_on =
        let inside : n ≤ length (store more) = (let more_still = group.within in omega (arith, more_still)) in
        let bring : LinksCome (under more) the_lines (store more) (changes ++ own) es (state_after start es) events =
        subst (λ (s : State). LinksCome (under more) the_lines (store more) (changes ++ own) es s events) (sym ended.state)
        (group.links changes ended.alone ended.below) in
        subst (λ (os : List Payload). LinksCome (under more) the_lines os (changes ++ own) [] start (es ++ events)) (append-nil (store more))
        (links_added (under more) (under more) (λ test f vs told may. may) the_lines the_lines (λ code at line is. is) (store more) [] fit changes own
        (changes_below n (length (store more)) changes inside ended.below) es events (length (es ++ events)) group.alone ended.links
        (subst (λ (os : List Payload). LinksCome (under more) the_lines os (changes ++ own) es (state_after start es) events) (sym (append-nil (store more))) bring))

    -- the run with the group behind it
    pub group_ends : IsEnded (es ++ events) (ds ++ ds') (qs ++ others) (ms ++ made) (2 + n) (changes ++ own)
    group_ends = record {
      comes = comes_on;
      state = state_on;
      generators = generators_on;
      names = names_on;
      acts = acts_on;
      tells = tells_on;
      asks =
          asked_both (store more) (es ++ events) ds ds' qs others ended.all
          (asked_on (store more) es events ds qs ended.asks) group.asks;
      links = links_on;
      alone =
          links_both 1 (length es) (length (es ++ events)) changes own (omega arith)
          (let longer = length-append es events in omega (arith, longer)) ended.alone group.alone;
      below = named_both (2 + n) changes own (below_more n (2 + n) (named_in changes) (omega arith) ended.below) group.below;
      all =
          (let front = ended.all in
          let back = group.all in
          omega (arith, front, back, length-append ds ds', length-append qs others));
    }
