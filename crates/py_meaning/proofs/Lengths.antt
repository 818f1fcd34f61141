-- Where two runs of one script are the same event by event, none is longer than a whole one, and one that isn't whole is shorter.
use Rattle.std.proofs.Common.{◌≡◌, ◌≤◌, ◌<◌, ℕ, suc, List, [], ◌∷◌, ◌++◌, length, append-nil, refl, sym, ap, subst, ◌∙◌, ◌⊎◌, inl, inr, arith}
use Rattle.std.proofs.lemmas.Bool.{cases_lt}
use Rattle.py_objects.specs.declared.payload.Payload.{Payload}
use Rattle.py_objects.specs.declared.event.Event.{Event}
use Rattle.py_objects.specs.declared.event.Event.TheVariants as event
use Rattle.py_objects.specs.declared.event.ResumeHow.TheVariants as how
use Rattle.py_lines.specs.declared.drive.DriveLine.{DriveLine}
use Rattle.py_grammar.specs.declared.script.Script.{Script}
use Rattle.py_grammar.specs.Grammar.{Decl, codes_in}
use Rattle.py_grammar.specs.Script.{decls_of, IsScript}
use Rattle.py_grammar.proofs.Verdicts.{one_tree}
use Rattle.py_run.specs.declared.journal.Journal.{Journal}
use Rattle.py_run.specs.Run.{Posed, Plan, Phase, Idle, State, start, after, state_after}
use Rattle.py_run.specs.Coming.{Past, nothing, MayCome, Comes, IsDone, Starts, IsReply}
use Rattle.py_run.specs.Past.{past_behind}
use Rattle.py_run.proofs.PastLemmas.{past_state}
use Rattle.py_run.proofs.RunLemmas.{comes_rest, asking_busy, going_busy, made_busy, due_busy}
use Rattle.py_agreement.specs.Agreement.{Relation}
use Rattle.py_determined.specs.Events.{SameEvent, SameEvents}
use Rattle.py_meaning.specs.Reported.{sources_of}
use Rattle.py_meaning.specs.Whole.{IsJournalOf, AreAsked, IsRunOf, plan_of, IsRun, IsWhole, IsRunFrom, IsWholeFrom, IsUnfinishedFrom}

-- ---- behind a run that is done

module _ (plan : Plan) (objects : List Payload) where
  -- where nothing runs and no drive is left, nothing may come
  nothing_comes : (p : Past) (e : Event) → p.state.phase ≡ Idle → length plan.asked ≤ p.state.done → MayCome plan objects p e → ⊥
  nothing_comes p (event.Drive d) idle all may = let some = may.2 in omega (arith, some, all)
  nothing_comes p (event.Make a f vs) idle all may = asking_busy (sym may.1.0 ∙ idle)
  nothing_comes p (event.Resume a how.Start) idle all may = subst (λ (x : Phase). Starts plan objects p x a) idle may
  nothing_comes p (event.Resume a (how.Send v)) idle all may = asking_busy (sym may.0 ∙ idle)
  nothing_comes p (event.Resume a (how.Throw e)) idle all (x, opens, raise) = asking_busy (sym opens.0 ∙ idle)
  nothing_comes p (event.Ask a r own at) idle all may = going_busy (sym may.0 ∙ idle)
  nothing_comes p (event.Round a at) idle all may = going_busy (sym may.0 ∙ idle)
  nothing_comes p (event.Yield a v at) idle all may = going_busy (sym may.0 ∙ idle)
  nothing_comes p (event.End a e at) idle all may = going_busy (sym may.0 ∙ idle)
  nothing_comes p (event.Got a w) idle all (top, (reply, (r, asks, replies), gives)) = subst (λ (x : Phase). IsReply plan objects p x r reply) idle replies
  nothing_comes p (event.Result d w) idle all (next, alone, inr (asks, reported)) = asking_busy (sym asks ∙ idle)
  nothing_comes p (event.Result d w) idle all (next, alone, inl (reply, inr (asks, formed), gives)) = asking_busy (sym asks ∙ idle)
  nothing_comes p (event.Result d w) idle all (next, alone, inl (reply, inl (r, asks, replies), gives)) = subst (λ (x : Phase). IsReply plan objects p x r reply) idle replies

  none_come : (p : Past) (es : List Event) → p.state.phase ≡ Idle → length plan.asked ≤ p.state.done → Comes plan objects p es → es ≡ []
  none_come p [] idle all comes = refl
  none_come p (e ∷ es) idle all comes = absurd (nothing_comes p e idle all comes.0)

-- no more drives are begun than there are
asked_few : (objects : List Payload) (events : List Event) (ds : List DriveLine) (asked : List Posed) → AreAsked objects events ds asked → length asked ≤ length ds
asked_few objects events ds [] are = omega arith
asked_few objects events [] (q ∷ asked) are = absurd are
asked_few objects events (d ∷ ds) (q ∷ asked) are = let rest = asked_few objects events ds asked are.1 in omega (arith, rest)

-- a run whose first events are a whole one has no others
pub whole_is_all : (decls : List Decl) (drives : List DriveLine) (objects : List Payload) (es more : List Event) → IsRunOf decls drives objects (es ++ more) → IsDone (length drives) es → more ≡ []
whole_is_all decls drives objects es more run done =
    let plan : Plan = plan_of (codes_in decls) run.asked in
    let state : (past_behind plan nothing es).state ≡ state_after start es = past_state plan es in
    let few : length run.asked ≤ length drives = asked_few objects (es ++ more) drives run.asked run.are_asked in
    let count : (past_behind plan nothing es).state.done ≡ length drives = ap (λ (s : State). s.done) state ∙ done.done in
    none_come plan objects (past_behind plan nothing es) more (ap (λ (s : State). s.phase) state ∙ done.idle) (omega (arith, few, count)) (comes_rest plan objects nothing es more run.run.comes)

-- ---- the same events come as far

-- as many drives are done, and where nothing runs here, nothing does there
pub record Follows (s s' : State) : Type 0 where
  pub done : s.done ≡ s'.done
  pub idle : s.phase ≡ Idle → s'.phase ≡ Idle

-- a journal of a script is one of the other script that the bytes are
pub journal_of : (bytes : List ℕ) (s t : Script) (j : Journal) → IsScript bytes s → IsScript bytes t → IsRun t j → IsJournalOf (decls_of s) s.drives (sources_of t.text) j
journal_of bytes s t j is is' run =
    let one = one_tree bytes t s is' is in
    subst (λ (ds : List Decl). IsJournalOf ds s.drives (sources_of t.text) j) one.0
    (subst (λ (l : List DriveLine). IsJournalOf (decls_of t) l (sources_of t.text) j) one.1 run)

module _ (S : Relation) where
  follows_after : (s s' : State) (e f : Event) → SameEvent S e f → Follows s s' → Follows (after s e) (after s' f)
  follows_after s s' (event.Drive d) (event.Drive d') same follows = record { done = follows.done; idle = λ idle. absurd (asking_busy idle) }
  follows_after s s' (event.Result d w) (event.Result d' w') same follows = record { done = ap suc follows.done; idle = λ idle. refl }
  follows_after s s' (event.Make a f vs) (event.Make b g ws) same follows = record { done = follows.done; idle = λ idle. absurd (made_busy f idle) }
  follows_after s s' (event.Resume a h) (event.Resume b h') same follows = record { done = follows.done; idle = λ idle. absurd (going_busy idle) }
  follows_after s s' (event.Ask a r own at) (event.Ask b r' own' at') same follows = record { done = follows.done; idle = λ idle. absurd (asking_busy idle) }
  follows_after s s' (event.Got a w) (event.Got b w') same follows = record { done = follows.done; idle = λ idle. absurd (going_busy idle) }
  follows_after s s' (event.Round a at) (event.Round b at') same follows = follows
  follows_after s s' (event.Yield a v at) (event.Yield b w at') same follows = record { done = follows.done; idle = λ idle. absurd (due_busy _ idle) }
  follows_after s s' (event.End a e at) (event.End b f at') same follows = record { done = follows.done; idle = λ idle. absurd (due_busy _ idle) }
  follows_after s s' _ _ same follows = absurd same

  -- the first events of a list that is no shorter
  front_follows : (s s' : State) (es fs : List Event) → SameEvents S es fs → length es ≤ length fs → Follows s s'
      → (front : List Event) × (more : List Event) × (fs ≡ front ++ more) × (length front ≡ length es) × Follows (state_after s es) (state_after s' front)
  front_follows s s' [] fs same few follows = ([], fs, refl, refl, follows)
  front_follows s s' (e ∷ es) [] same few follows = absurd (omega (arith, few))
  front_follows s s' (e ∷ es) (f ∷ fs) same few follows =
      let (front, more, is, count, rest) = front_follows (after s e) (after s' f) es fs same.1 (omega (arith, few)) (follows_after s s' e f same.0 follows) in
      (f ∷ front, more, ap (λ (l : List Event). f ∷ l) is, ap suc count, rest)

  -- a run that is no shorter than a whole one with the same events is whole, and no longer
  pub whole_is_last : (decls : List Decl) (drives : List DriveLine) (objects : List Payload) (es fs : List Event) → SameEvents S es fs → IsRunOf decls drives objects fs
      → IsDone (length drives) es → length es ≤ length fs → (length fs ≡ length es) × IsDone (length drives) fs
  whole_is_last decls drives objects es fs same run done few =
      let (front, more, is, count, follows) = front_follows start start es fs same few (record { done = refl; idle = λ idle. idle }) in
      let there : IsDone (length drives) front = record { done = sym follows.done ∙ done.done; idle = follows.idle done.idle } in
      let none : more ≡ [] = whole_is_all decls drives objects front more (subst (λ (l : List Event). IsRunOf decls drives objects l) is run) there in
      let all : fs ≡ front = is ∙ ap (λ (l : List Event). front ++ l) none ∙ append-nil front in
      (ap length all ∙ count, subst (λ (l : List Event). IsDone (length drives) l) (sym all) there)

  -- ---- journals of one script

  module _ (bytes : List ℕ) (j j' : Journal) (same : SameEvents S j.events j'.events) where
    -- a run that is no shorter than a whole one with the same events is whole
    last_is_whole : (s t : Script) → IsScript bytes s → IsScript bytes t → IsRun s j → IsWhole s j → IsRun t j' → length j.events ≤ length j'.events
        → (length j'.events ≡ length j.events) × IsWhole t j'
    last_is_whole s t is is' run whole run' few =
        let last = whole_is_last (decls_of s) s.drives j'.objects j.events j'.events same (journal_of bytes s t j' is is' run').run whole few in
        let drives : t.drives ≡ s.drives = (one_tree bytes t s is' is).1 in
        (last.0, subst (λ (l : List DriveLine). IsDone (length l) j'.events) (sym drives) last.1)

    -- no run is longer than a whole one with the same events
    pub no_longer : IsWholeFrom bytes j → IsRunFrom bytes j' → length j'.events ≤ length j.events
    no_longer (s, is, run, whole) (t, is', run') = by (cases_lt (length j.events) (length j'.events))
      where
        by : (length j.events < length j'.events) ⊎ (length j'.events ≤ length j.events) → length j'.events ≤ length j.events
        by (inl longer) = let count = (last_is_whole s t is.0 is'.0 run whole run' (omega (arith, longer))).0 in omega (arith, count)
        by (inr shorter) = shorter

    -- and one that isn't whole is shorter
    pub unfinished_shorter : IsWholeFrom bytes j → IsUnfinishedFrom bytes j' → length j'.events < length j.events
    unfinished_shorter (s, is, run, whole) (t, is', run', not_whole) = by (cases_lt (length j'.events) (length j.events))
      where
        by : (length j'.events < length j.events) ⊎ (length j.events ≤ length j'.events) → length j'.events < length j.events
        by (inl shorter) = shorter
        by (inr enough) = absurd (not_whole (last_is_whole s t is.0 is'.0 run whole run' enough).1)
