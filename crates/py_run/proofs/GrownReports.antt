-- Reports of a journal as it goes on: among more objects and changes, and behind more events.
use Rattle.std.proofs.Common.{◌≡◌, ◌≤◌, ◌<◌, ◌+◌, ◌++◌, ◌∙◌, ℕ, suc, List, [], ◌∷◌, Bool, true, false, Some, refl, sym, ap, subst, length, length-append, append-nil, inl, inr, ◌⊎◌, arith}
use Rattle.std.specs.Prelude.{None, slice_get, filter, nat_le, encode_utf8_all}
use Rattle.std.proofs.lemmas.Bool.Decides.{nat_tests}
use Rattle.std.proofs.lemmas.List.Elements.{filter-append}
use Rattle.py_objects.specs.declared.payload.Payload.{Payload}
use Rattle.py_objects.specs.declared.edit.Change.{Change}
use Rattle.py_objects.specs.declared.event.DriveAnswer.TheVariants as answer
use Rattle.py_objects.specs.declared.event.Event.{Event}
use Rattle.py_objects.specs.declared.event.Event.TheVariants as event
use Rattle.py_objects.specs.Objects.{Obj, Name, as_object}
use Rattle.py_objects.specs.Originals.{ChangesBelow}
use Rattle.py_objects.specs.Changes.{changed_by, store_at}
use Rattle.py_reports.specs.Parts.{IsPart}
use Rattle.py_reports.specs.Reports.{IsReport}
use Rattle.py_reports.specs.Scenes.{SourceLines}
pub use Rattle.py_reports.proofs.AlikeLemmas.{SamePlaces}
use Rattle.py_reports.proofs.AlikeLemmas.{part_alike, report_alike}
use Rattle.py_reports.proofs.ClosedLemmas.{IsClosed, changed_closed, changed_more}
use Rattle.py_reports.proofs.GrowthLemmas.{report_grown}
use Rattle.py_run.specs.declared.drive.Told.{Told}
use Rattle.py_run.specs.declared.drive.Told.TheVariants as told
use Rattle.py_run.specs.declared.exit.Exit.{Exit}
use Rattle.py_run.specs.declared.exit.Exit.TheVariants as exit
use Rattle.py_run.specs.Exits.{exit_of, PrintsAt}
use Rattle.py_run.specs.Run.{Plan, Posed, State, start, state_after, reporting, to_report_by}
use Rattle.py_run.specs.Reports.{Origins, scene_among, AreReported, IsReportText}
use Rattle.py_run.proofs.OwnLemmas.{state_lists}
use Rattle.py_run.proofs.ReportsLemmas.{done_on}

-- changes of no earlier events than so many
abbrev pub AllFrom : ℕ → List Change → Type 0
AllFrom n [] = Unit {0}
AllFrom n (c ∷ cs) = (n ≤ c.after) × AllFrom n cs

-- a whole report of what is below a number
abbrev pub IsReportBelow : ℕ → Told → Type 0
IsReportBelow n (told.Report None) = Unit {0}
IsReportBelow n (told.Report (Some e)) = e.number < n
IsReportBelow n (told.Part e) = ⊥
IsReportBelow n (told.Exit e) = ⊥

-- what drives have told are such reports
abbrev pub ReportBelow : ℕ → List Posed → Type 0
ReportBelow n asked = (k : ℕ) (t : Told) → to_report_by (slice_get asked k) ≡ Some t → IsReportBelow n t

-- ---- more objects and changes

due_by : (a k : ℕ) → nat_le a k ≡ true → a ≤ k
due_by a k is = grind (arith, nat_tests)

none_due : (n k : ℕ) (cs : List Change) → k < n → AllFrom n cs → filter (λ (c : Change). nat_le c.after k) cs ≡ []
none_due n k [] low later = refl
none_due n k (c ∷ cs) low later = by (nat_le c.after k) refl (none_due n k cs low later.1)
  where
    by : (b : Bool) → nat_le c.after k ≡ b → filter (λ (d : Change). nat_le d.after k) cs ≡ [] → filter (λ (d : Change). nat_le d.after k) (c ∷ cs) ≡ []
    by true is rest = let due : c.after ≤ k = due_by c.after k is in let from = later.0 in absurd (omega (arith, due, low, from))
    by false is rest = rw is rest

due_below : (n k : ℕ) (cs : List Change) → ChangesBelow n cs → ChangesBelow n (filter (λ (c : Change). nat_le c.after k) cs)
due_below n k [] below = tt
due_below n k (c ∷ cs) below = by (nat_le c.after k) refl (due_below n k cs below.2)
  where
    by : (b : Bool) → nat_le c.after k ≡ b → ChangesBelow n (filter (λ (d : Change). nat_le d.after k) cs) → ChangesBelow n (filter (λ (d : Change). nat_le d.after k) (c ∷ cs))
    by true is rest = rw is (below.0, below.1, rest)
    by false is rest = rw is rest

module _ (made others : List Payload) (changes more : List Change) (closed : IsClosed made) (below : ChangesBelow (length made) changes) where
  abbrev due : ℕ → List Change
  due k = filter (λ (c : Change). nat_le c.after k) changes

  -- the objects at an event before those of the later changes, and others behind them
  store_grown : (n k : ℕ) → k < n → AllFrom n more → store_at (made ++ others) (changes ++ more) k ≡ store_at made changes k ++ others
  store_grown n k low later =
      ap (changed_by (made ++ others)) (filter-append (λ (c : Change). nat_le c.after k) changes more ∙ ap (λ l. due k ++ l) (none_due n k more low later) ∙ append-nil (due k))
      ∙ changed_more made others (due k) closed (due_below (length made) k changes below)

  text_grown : (origins : Origins) (n k : ℕ) (t : Told) (text : Name) → k < n → AllFrom n more → IsReportBelow (length made) t
      → IsReportText (scene_among origins (store_at made changes k)) t text → IsReportText (scene_among origins (store_at (made ++ others) (changes ++ more) k)) t text
  text_grown origins n k (told.Part x) text low later there is = absurd there
  text_grown origins n k (told.Exit x) text low later there is = absurd there
  text_grown origins n k (told.Report None) text low later there is = is
  text_grown origins n k (told.Report (Some x)) text low later there is =
      let (stay, many) = changed_closed made (due k) closed (due_below (length made) k changes below) in
      subst (λ (l : List Payload). IsReport (scene_among origins l) (as_object x) (encode_utf8_all text)) (sym (store_grown n k low later))
      (report_grown (store_at made changes k) others stay origins.names origins.places origins.sources (as_object x) (let within = there in omega (arith, within, many)) (encode_utf8_all text) is)

  -- reports stay right
  pub reports_grown : (plan : Plan) (origins : Origins) (before events : List Event) → AllFrom (length (before ++ events)) more → ReportBelow (length made) plan.asked
      → AreReported plan origins made changes before events → AreReported plan origins (made ++ others) (changes ++ more) before events
  reports_grown plan origins before events later reports are front back d text t is some =
      let long : length (before ++ events) ≡ length before + length events = length-append before events in
      let short : length (before ++ front) ≡ length before + length front = length-append before front in
      let parts : length events ≡ length front + length (event.Result d (answer.Reported text) ∷ back) = ap length is ∙ length-append front (event.Result d (answer.Reported text) ∷ back) in
      let last : length (event.Result d (answer.Reported text) ∷ back) ≡ suc (length back) = refl in
      text_grown origins (length (before ++ events)) (length (before ++ front)) t text (omega (arith, long, short, parts, last)) later
      (reports (state_after start (before ++ front)).done t some) (are front back d text t is some)

-- ---- more drives

-- where as many drives are done as plans agree on, reports of the one are those of the other
pub reports_asked : (plan plan' : Plan) (origins : Origins) (made : List Payload) (changes : List Change) (events : List Event)
    → ((n : ℕ) → n < length plan.asked → slice_get plan.asked n ≡ slice_get plan'.asked n) → (state_after start events).done ≤ length plan.asked
    → AreReported plan origins made changes [] events → AreReported plan' origins made changes [] events
reports_asked plan plan' origins made changes events same few are front back d text e is some =
    let r : Event = event.Result d (answer.Reported text) in
    let s : State = state_after start front in
    let whole : (state_after start events).done ≡ (state_after (state_after s (r ∷ [])) back).done =
    ap (λ l. (state_after start l).done) is ∙ ap (λ (x : State). x.done) (state_lists start front (r ∷ back)) in
    let more : suc s.done ≤ (state_after (state_after s (r ∷ [])) back).done = done_on (state_after s (r ∷ [])) back in
    are front back d text e is (ap to_report_by (same s.done (omega (arith, whole, more, few))) ∙ some)

-- ---- more events

-- an event stands in front of where one list goes on as another, or behind that
pub split : (es part front back : List Event) (r : Event) → es ++ part ≡ front ++ r ∷ back
    → ((x : List Event) × (es ≡ front ++ r ∷ x)) ⊎ ((x : List Event) × (front ≡ es ++ x) × (part ≡ x ++ r ∷ back))
split [] part front back r is = inr (front, refl, is)
split (e ∷ es) part [] back r is = let first : e ≡ r = cc is in inl (es, ap (λ x. x ∷ es) first)
split (e ∷ es) part (f ∷ front) back r is = by (split es part front back r (let rest : es ++ part ≡ front ++ r ∷ back = cc is in rest))
  where
    first : e ≡ f
    first = cc is

    by : ((x : List Event) × (es ≡ front ++ r ∷ x)) ⊎ ((x : List Event) × (front ≡ es ++ x) × (part ≡ x ++ r ∷ back))
        → ((x : List Event) × (e ∷ es ≡ f ∷ front ++ r ∷ x)) ⊎ ((x : List Event) × (f ∷ front ≡ e ∷ es ++ x) × (part ≡ x ++ r ∷ back))
    by (inl (x, same)) = inl (x, ap (λ y. y ∷ es) first ∙ ap (λ l. f ∷ l) same)
    by (inr (x, same, behind)) = inr (x, ap (λ l. f ∷ l) same ∙ ap (λ y. y ∷ es ++ x) (sym first), behind)

-- reports of events and of those behind them are those of all
pub reports_both : (plan : Plan) (origins : Origins) (made : List Payload) (changes : List Change) (es part : List Event)
    → AreReported plan origins made changes [] es → AreReported plan origins made changes es part → AreReported plan origins made changes [] (es ++ part)
reports_both plan origins made changes es part first second front back d text e is some = by (split es part front back (event.Result d (answer.Reported text)) is)
  where
    by : ((x : List Event) × (es ≡ front ++ event.Result d (answer.Reported text) ∷ x)) ⊎ ((x : List Event) × (front ≡ es ++ x) × (part ≡ x ++ event.Result d (answer.Reported text) ∷ back))
        → IsReportText (scene_among origins (store_at made changes (length front))) e text
    by (inl (x, same)) = first front x d text e same some
    by (inr (x, same, behind)) =
        subst (λ l. IsReportText (scene_among origins (store_at made changes (length l))) e text) (sym same)
        (second x back d text e behind (ap (λ l. reporting plan (state_after start l)) (sym same) ∙ some))

-- ---- other tables

-- reports are the same where codes have the same paths and names
pub reports_alike : (plan plan' : Plan) (origins origins' : Origins) (made : List Payload) (changes : List Change) (events : List Event)
    → ((n : ℕ) → to_report_by (slice_get plan'.asked n) ≡ to_report_by (slice_get plan.asked n)) → origins.sources ≡ origins'.sources
    → SamePlaces origins.names origins.places origins'.names origins'.places → AreReported plan origins made changes [] events → AreReported plan' origins' made changes [] events
reports_alike plan plan' origins origins' made changes events asked sources places are front back d text t is some =
    by t (are front back d text t is (sym (asked (state_after start front).done) ∙ some))
  where
    whole : (v : Obj) → IsReport (scene_among origins (store_at made changes (length front))) v (encode_utf8_all text) → IsReport (scene_among origins' (store_at made changes (length front))) v (encode_utf8_all text)
    whole v is =
        subst (λ (l : List SourceLines). IsReport (scene_among (record origins' { sources = l }) (store_at made changes (length front))) v (encode_utf8_all text)) sources
        (report_alike (store_at made changes (length front)) origins.names origins'.names origins.places origins'.places origins.sources places v (encode_utf8_all text) is)

    by : (t : Told) → IsReportText (scene_among origins (store_at made changes (length front))) t text → IsReportText (scene_among origins' (store_at made changes (length front))) t text
    by (told.Report None) is = is
    by (told.Report (Some x)) is = whole (as_object x) is
    by (told.Part x) is =
        subst (λ (l : List SourceLines). IsPart (scene_among (record origins' { sources = l }) (store_at made changes (length front))) (as_object x) (encode_utf8_all text)) sources
        (part_alike (store_at made changes (length front)) origins.names origins'.names origins.places origins'.places origins.sources places (as_object x) (encode_utf8_all text) is)
    by (told.Exit x) is = printed (exit_of (store_at made changes (length front)) x) is
      where
        printed : (how : Exit) → PrintsAt (scene_among origins (store_at made changes (length front))) x how (encode_utf8_all text) → PrintsAt (scene_among origins' (store_at made changes (length front))) x how (encode_utf8_all text)
        printed (exit.Silent n) is = is
        printed (exit.Says v) is = is
        printed (exit.Shows v) is = is
        printed (exit.Reports n) is = whole (as_object x) is
