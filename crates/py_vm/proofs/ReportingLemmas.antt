-- A drive by which a text is told: what it leaves of a machine between drives, and which part of a run it adds.
use Rattle.std.proofs.Common.{◌≡◌, ◌+◌, ◌++◌, ℕ, suc, List, [], ◌∷◌, true, false, Some, inr, refl, sym, ap, subst, ◌∙◌, length, length-append, append_assoc, append-nil, arith}
use Rattle.std.specs.Prelude.{None, slice_get}
use Rattle.std.proofs.lemmas.Option.{slice_get_within}
use Rattle.std.proofs.lemmas.List.{append_cancel_left}
use Rattle.py_objects.specs.declared.event.Event.{Event}
use Rattle.py_objects.specs.declared.event.Event.TheVariants as event
use Rattle.py_objects.specs.declared.event.DriveAnswer.TheVariants as answer
use Rattle.py_objects.specs.Objects.{Name}
use Rattle.py_objects.specs.Changes.{changed_by, store_at}
use Rattle.py_objects.specs.Edits.{objects_of}
use Rattle.py_objects.proofs.GrowthLemmas.{grows_plainly_refl}
use Rattle.py_objects.proofs.OriginalsLemmas.{filter-marked}
use Rattle.py_reports.specs.Scenes.{SourceLines}
use Rattle.py_run.specs.declared.drive.Told.{Told}
use Rattle.py_run.specs.Generators.{Generator, closed_by}
use Rattle.py_run.specs.Links.{HasLinksOf}
use Rattle.py_run.specs.Reports.{AreReported, IsReportText, scene_among}
use Rattle.py_run.specs.Run.{Pose, Reports, Posed, Plan, State, start, state_after, after, open_in, question, reporting, to_report_by}
use Rattle.py_run.specs.Coming.{Past, MayCome}
use Rattle.py_run.specs.Past.{past_behind}
use Rattle.py_run.proofs.OwnLemmas.{state_after-append}
use Rattle.py_vm.specs.declared.stage.Stage.{Stage}
use Rattle.py_vm.specs.declared.machinery.Core.{Core}
use Rattle.py_vm.specs.Advancing.{may_of}
use Rattle.py_vm.specs.Codes.{origins_of}
use Rattle.py_vm.specs.Generators.{modes_of}
use Rattle.py_vm.specs.Links.{lines_of}
use Rattle.py_vm.specs.Machine.{Adds, EndsBy, IsCutShort, IsDoneBy, IsSpent, KeepsGenerators, done_of, past_of, plan_of, posed_by}
use Rattle.py_vm.specs.Normalizing.{forming_by}
use Rattle.py_vm.specs.Reporting.{IsTextOf, objects_now, reported_by}
use Rattle.py_vm.specs.Stands.{IsIdle, phase_of, seen}
use Rattle.py_vm.specs.Turns.{begun_by, result_by}
use Rattle.py_vm.proofs.FormingLemmas.{alone, any_drive, asks, done, result_keeps}
use Rattle.py_vm.proofs.FramesLemmas.{listed}
use Rattle.py_vm.proofs.JournalLemmas.{next_number}
use Rattle.py_vm.proofs.LinksLemmas.{none_then}
use Rattle.py_vm.proofs.StandsLemmas.{idle_again, kept_idle}

-- no report is among no events
none_there : (front back : List Event) (d : ℕ) (text : Name) → [] ≡ front ++ event.Result d (answer.Reported text) ∷ back → ⊥
none_there [] back d text is = cc is
none_there (x ∷ front) back d text is = cc is

-- a drive that wasn't even begun, whatever it poses
pub nothing_adds : (m : Core) → IsIdle m → (pose : Pose) (sources : List SourceLines) → Adds pose sources (seen m) (seen (record m { failed = true }))
nothing_adds m idle pose sources = record {
  part = [];
  events = sym (append-nil m.events);
  grows = grows_plainly_refl m.world.store.made;
  changes = ([], sym (append-nil m.world.store.changes), tt);
  others = refl;
  runs = λ asked next. tt;
  reports = λ asked next front back d text h is some. absurd (none_there front back d text is);
  links = tt;
  tells = (kept_idle m idle).told.tells;
  named = (kept_idle m idle).told.named;
}

pub no_turns : (m : Core) → IsIdle m → (turns : ℕ) → turns ≡ 0 → IsSpent (seen m) turns (seen (record m { failed = true }))
no_turns m idle turns none = (omega (arith, none), refl, refl, listed m any_drive (kept_idle m idle))

-- the objects of a machine between drives are those that are there
pub objects_are : (m : Core) → IsIdle m → objects_now (seen m) ≡ objects_of m.world.store
objects_are m idle = ap (changed_by m.world.store.made) (filter-marked (length m.events) (length m.events) m.world.store.changes (omega arith) (kept_idle m idle).marked.past)

-- so what is told of these is told of a machine
pub text_now : (m : Core) → IsIdle m → (t : Told) (sources : List SourceLines) (text : Name)
    → IsReportText (scene_among (origins_of m.world.codes sources) (objects_of m.world.store)) t text → IsTextOf (seen m) sources t text
text_now m idle t sources text is = subst (λ l. IsReportText (scene_among (origins_of m.world.codes sources) l) t text) (sym (objects_are m idle)) is

module _ (m : Core) (idle : IsIdle m) (works : m.failed ≡ false) (e : Told) (sources : List SourceLines) where
  abbrev first : Event
  first = event.Drive (m.done + 1)

  -- with its beginning
  abbrev begun : Core
  begun = forming_by m

  -- no link comes of it
  first_alone : HasLinksOf (may_of m) (lines_of m.world.codes) m.world.store.made m.world.store.changes m.events (state_after start m.events) first
  first_alone = ([], refl, none_then (length m.events) (suc (length m.events)) m.world.store.changes (omega arith) (kept_idle m idle).marked.past)

  module _ (asked : List Posed) (next : slice_get asked (done_of (seen m)) ≡ Some (posed_by m.entered (Reports e))) where
    abbrev plan : Plan
    plan = plan_of m.world.codes asked

    -- the drive comes
    first_comes : MayCome plan m.world.store.made (past_of (seen m)) first
    first_comes = let k = kept_idle m idle in (k.follows.phase ∙ ap phase_of idle.idle, next_number _ _ k.follows.done, slice_get_within asked (done_of (seen m)) _ next)

    -- it poses no request
    unasked : question plan (after (state_after start m.events) first) ≡ None
    unasked = ap (λ q. open_in q (state_after start m.events).stack) next ∙ ap (open_in (Some (posed_by m.entered (Reports e)))) (alone m idle)

  -- no report is in its beginning
  none_first : (front back : List Event) (d : ℕ) (text : Name) → first ∷ [] ≡ front ++ event.Result d (answer.Reported text) ∷ back → ⊥
  none_first [] back d text is = cc is
  none_first (x ∷ front) back d text is = let rest : [] ≡ front ++ event.Result d (answer.Reported text) ∷ back = cc is in none_there front back d text rest

  -- ---- where nothing was told

  pub no_memory : (turns : ℕ) → (turns ≡ 0 → ⊥) → IsCutShort (seen m) turns (seen (record m { failed = true }))
  no_memory turns some = (omega (arith, some), refl, refl)

  -- ---- where its beginning was told

  pub begun_adds : Adds (Reports e) sources (seen m) (seen (record begun { failed = true }))
  begun_adds = record {
    part = first ∷ [];
    events = refl;
    grows = grows_plainly_refl m.world.store.made;
    changes = ([], sym (append-nil m.world.store.changes), tt);
    others = refl;
    runs = λ asked next. (first_comes asked next, tt);
    reports = λ asked next front back d text h is some. absurd (none_first front back d text is);
    links = (tt, first_alone, tt);
    tells = (asks m idle).told.tells;
    named = (asks m idle).told.named;
  }

  begun_done : done_of (seen begun) ≡ done_of (seen m)
  begun_done = ap (λ (s : State). s.done) (state_after-append start m.events first)

  begun_count : length (m.events ++ first ∷ []) ≡ length m.events + 1
  begun_count = length-append m.events (first ∷ [])

  pub one_turn : (turns : ℕ) → turns ≡ 1 → IsSpent (seen m) turns (seen (record begun { failed = true }))
  one_turn turns one = (begun_count ∙ ap (λ k. length m.events + k) (sym one), begun_done, refl, listed (begun_by m) any_drive (asks m idle))

  pub cut_begun : (turns : ℕ) → (turns ≡ 0 → ⊥) → (turns ≡ 1 → ⊥) → IsCutShort (seen m) turns (seen (record begun { failed = true }))
  cut_begun turns some more = let count = begun_count in (omega (arith, some, more, count), begun_done, refl)

  -- ---- where it has its result

  module _ (text : Name) (told : IsReportText (scene_among (origins_of m.world.codes sources) (objects_of m.world.store)) e text) where
    abbrev last : Event
    last = event.Result (m.done + 1) (answer.Reported text)

    abbrev now : Core
    now = reported_by begun text

    -- then the machine stands again
    pub now_stands : IsIdle now
    now_stands =
        let then : Core = result_by (begun_by m) (answer.Reported text) in
        let stands : IsIdle then = idle_again then any_drive (result_keeps (begun_by m) any_drive (answer.Reported text) (asks m idle) tt) refl in
        subst (λ (s : Stage). IsIdle (record now { stage = s })) (sym idle.idle) stands

    -- the events that came
    events_are : (m.events ++ first ∷ []) ++ last ∷ [] ≡ m.events ++ (first ∷ last ∷ [])
    events_are = append_assoc m.events (first ∷ []) (last ∷ [])

    states_are : state_after start ((m.events ++ first ∷ []) ++ last ∷ []) ≡ after (after (state_after start m.events) first) last
    states_are = state_after-append start (m.events ++ first ∷ []) last ∙ ap (λ (s : State). after s last) (state_after-append start m.events first)

    last_alone : HasLinksOf (may_of m) (lines_of m.world.codes) m.world.store.made m.world.store.changes (m.events ++ first ∷ []) (after (state_after start m.events) first) last
    last_alone =
        let count = begun_count in
        ([], refl, none_then (length m.events) (suc (length (m.events ++ first ∷ []))) m.world.store.changes (omega (arith, count)) (kept_idle m idle).marked.past)

    -- the objects at its result are those that are there
    objects_then : store_at m.world.store.made m.world.store.changes (length (m.events ++ first ∷ [])) ≡ objects_of m.world.store
    objects_then =
        let count = begun_count in
        ap (changed_by m.world.store.made) (filter-marked (length m.events) (length (m.events ++ first ∷ [])) m.world.store.changes (omega (arith, count)) (kept_idle m idle).marked.past)

    -- so its report is right
    reported : (asked : List Posed) → slice_get asked (done_of (seen m)) ≡ Some (posed_by m.entered (Reports e))
        → AreReported (plan_of m.world.codes asked) (origins_of m.world.codes sources) m.world.store.made m.world.store.changes m.events (first ∷ last ∷ [])
    reported asked next [] back d t h is some = absurd (cc is)
    reported asked next (x ∷ []) back d t h is some =
        let one : first ≡ x = cc is in
        let same : text ≡ t = cc is in
        let posed : Some e ≡ Some h =
        sym (ap to_report_by next) ∙ sym (ap (λ n. to_report_by (slice_get asked n)) (begun_done)) ∙ ap (λ y. reporting (plan_of m.world.codes asked) (state_after start (m.events ++ y ∷ []))) one ∙ some in
        let one_e : e ≡ h = cc posed in
        subst (λ y. IsReportText (scene_among (origins_of m.world.codes sources) (store_at m.world.store.made m.world.store.changes (length (m.events ++ y ∷ [])))) h t) one
        (subst (λ l. IsReportText (scene_among (origins_of m.world.codes sources) l) h t) (sym objects_then)
        (subst (λ y. IsReportText (scene_among (origins_of m.world.codes sources) (objects_of m.world.store)) h y) same
        (subst (λ y. IsReportText (scene_among (origins_of m.world.codes sources) (objects_of m.world.store)) y text) one_e told)))
    reported asked next (x ∷ y ∷ front) back d t h is some =
        let rest : [] ≡ front ++ event.Result d (answer.Reported t) ∷ back = cc is in absurd (none_there front back d t rest)

    pub told_adds : Adds (Reports e) sources (seen m) (seen now)
    told_adds = record {
      part = first ∷ last ∷ [];
      events = events_are;
      grows = grows_plainly_refl m.world.store.made;
      changes = ([], sym (append-nil m.world.store.changes), tt);
      others = refl;
      runs = λ asked next. (first_comes asked next, ((next_number _ _ (done m idle), alone m idle, inr (refl, (e, ap to_report_by next, (text, refl)))), tt));
      reports = reported;
      links = (tt, first_alone, (tt, last_alone, tt));
      tells = (kept_idle now now_stands).told.tells;
      named = (kept_idle now now_stands).told.named;
    }

    pub told_done : IsDoneBy (seen m) (seen now)
    told_done = (ap (λ (s : State). s.done) states_are, works, refl)

    pub told_answer : EndsBy now.events (suc (done_of (seen m))) (answer.Reported text)
    told_answer = (m.events ++ first ∷ [], ap (λ n. (m.events ++ first ∷ []) ++ event.Result n (answer.Reported text) ∷ []) (next_number _ _ (done m idle)))

    -- a past with its events
    abbrev past_with : State → List Generator → Past
    past_with st xs = record { events = (m.events ++ first ∷ []) ++ last ∷ []; state = st; generators = xs }

    pub told_keeps : KeepsGenerators (Reports e) (seen m) (seen now)
    told_keeps asked part next is =
        let st : State = state_after start m.events in
        let one : part ≡ first ∷ last ∷ [] = append_cancel_left m.events part (first ∷ last ∷ []) (sym is ∙ events_are) in
        ap (past_behind (plan_of m.world.codes asked) (past_of (seen m))) one
        ∙ ap (λ q. past_with (after (after st first) last) (closed_by q (modes_of m.world.generators))) (unasked asked next) ∙ ap (λ (s : State). past_with s (modes_of m.world.generators)) (sym states_are)
