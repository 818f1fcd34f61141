-- Events that are followed may come one after another, where the drives ask what is known, and more.
use Rattle.std.proofs.Common.{◌≡◌, ◌<◌, ◌⊎◌, ◌∙◌, ℕ, suc, List, [], ◌∷◌, ◌++◌, Some, inl, inr, refl, sym, ap, subst, append-nil, append_assoc, length, arith}
use Rattle.std.specs.Prelude.{slice_get}
use Rattle.py_objects.specs.declared.payload.Payload.{Payload}
use Rattle.py_objects.specs.declared.event.DriveAnswer.{DriveAnswer}
use Rattle.py_objects.specs.declared.event.Event.{Event}
use Rattle.py_objects.specs.declared.event.Event.TheVariants as event
use Rattle.py_objects.specs.Objects.{Obj, AllBelow, event_numbers}
use Rattle.py_objects.proofs.GrowthLemmas.{slice_get_grown}
use Rattle.py_lines.specs.declared.drive.DriveLine.{DriveLine}
use Rattle.py_grammar.specs.Grammar.{Coded}
use Rattle.py_run.specs.Run.{Posed, State, Idle}
use Rattle.py_run.specs.Coming.{Past, nothing, past_after, MayCome, Comes}
use Rattle.py_run.specs.Past.{past_behind}
use Rattle.py_run.proofs.PastLemmas.{past_on}
use Rattle.py_run.proofs.RunLemmas.{comes_on, comes_more, past_more, asking_busy}
use Rattle.py_determined.specs.Raises.{TellsRaise, TellRaises, Tells}
use Rattle.py_meaning.specs.Whole.{Asks, AreAsked, plan_of}
use Rattle.py_meaning.proofs.Entries.{one_more}
use Rattle.py_following.specs.Drives.{posed_by, shown_by}
use Rattle.py_following.specs.Followed.{Followed, unbegun, answers_after, asked_after, TellsNext}
use Rattle.py_following.proofs.Known.{MayPass, known_after, Leads, known_keep, AskedSo, asks_more, asks_one_more, asked_so_after, are_answers, IsOfEvents, of_events_after}
use Rattle.py_following.proofs.Asking.{posed_is}

-- the drive that runs is one of those that ask
abbrev pub AreEnough : List Posed → State → Type 0
AreEnough asked s = (s.phase ≡ Idle) ⊎ (s.done < length asked)

tells_on : (objects : List Payload) (before es : List Event) (e : Event) → TellRaises objects before es
    → TellsRaise objects (before ++ es) e
    → TellRaises objects before (es ++ e ∷ [])
tells_on objects before [] e tells last = (subst (λ front. TellsRaise objects front e) (append-nil before) last, tt)
tells_on objects before (x ∷ es) e tells last =
    (tells.0, tells_on objects (before ++ x ∷ []) es e tells.1 (subst (λ front. TellsRaise objects front e) (sym (append_assoc before (x ∷ []) es)) last))

-- questions by their numbers
asked_from : (objects : List Payload) (es : List Event) (ds : List DriveLine) (qs : List Posed)
    → ((n : ℕ) (q : Posed) → slice_get qs n ≡ Some q → (d : DriveLine) × (slice_get ds n ≡ Some d) × Asks objects es d q)
    → AreAsked objects es ds qs
asked_from objects es ds [] each = tt
asked_from objects es [] (q ∷ qs) each = let (d, at, asks) = each 0 q refl in absurd (cc at)
asked_from objects es (d ∷ ds) (q ∷ qs) each =
    let (c, at, asks) = each 0 q refl in
    let same : d ≡ c = cc at in
    (subst (λ l. Asks objects es l q) (sym same) asks, asked_from objects es ds qs (λ n x here. each (suc n) x here))

module _ (coded : List Coded) (objects : List Payload) (drives : List DriveLine) where
  -- ---- each may come

  -- the past behind events, where drives ask this
  abbrev pub behind : List Posed → List Event → Past
  behind asked es = past_behind (plan_of coded asked) nothing es

  -- they may come one after another
  abbrev pub ComesFor : List Posed → List Event → Type 0
  ComesFor asked es = Comes (plan_of coded asked) objects nothing es

  -- whatever drives ask behind those that are known
  pub record ComesSo (f : Followed) : Type 0 where
    pub comes : (more : List Posed) → AreEnough (f.asked ++ more) f.past.state
        → ComesFor (f.asked ++ more) f.past.events
    pub past : (more : List Posed) → AreEnough (f.asked ++ more) f.past.state
        → behind (f.asked ++ more) f.past.events ≡ f.past

  comes_with : (f : Followed) (e : Event) (p : MayPass coded objects drives f e) (asked : List Posed)
      → AreEnough asked f.past.state
      → ComesFor asked f.past.events
      → behind asked f.past.events ≡ f.past
      → MayCome (plan_of coded asked) objects f.past e → (more : List Posed)
      → ComesFor (asked ++ more) (f.past.events ++ e ∷ [])
      × (behind (asked ++ more) (f.past.events ++ e ∷ []) ≡ past_after (plan_of coded asked) f.past e)
  comes_with f e p asked enough comes past may more =
      let here : ComesFor asked (f.past.events ++ e ∷ []) =
      comes_on (plan_of coded asked) objects nothing f.past.events e comes (subst (λ q. MayCome (plan_of coded asked) objects q e) (sym past) may) in (
        comes_more (plan_of coded asked) more objects (f.past.events ++ e ∷ []) here,
        past_more (plan_of coded asked) more objects (f.past.events ++ e ∷ []) here
            ∙ past_on (plan_of coded asked) nothing f.past.events e
            ∙ ap (λ q. past_after (plan_of coded asked) q e) past,
      )

  -- the list that is asked by an event is that from before, and maybe one more
  pub asked_longer : (f : Followed) (e : Event) (p : MayPass coded objects drives f e)
      → (qs : List Posed) × (p.asked ≡ f.asked ++ qs)
  asked_longer f e p = elim (asks_more coded objects drives f e p) [
    | inl (done, (q, is, more)) ↦ (q ∷ [], more)
    | inr (other, same) ↦ ([], same ∙ sym (append-nil f.asked))
  ]

  comes_so_other : (f : Followed) (e : Event) (p : MayPass coded objects drives f e) → asked_after f.asked p.asked e ≡ p.asked
      → AskedSo coded objects drives f
      → ComesSo f → ComesSo (known_after coded objects drives f e p)
  comes_so_other f e p same so before =
      let (qs, longer) = asked_longer f e p in
      let long = asks_one_more coded objects drives f e p so in
      let enough : AreEnough p.asked f.past.state = inr (omega (arith, long)) in
      let had = subst (λ asked. AreEnough asked f.past.state) longer enough in
      let comes = subst (λ asked. ComesFor asked f.past.events) (sym longer) (before.comes qs had) in
      let past = subst (λ asked. behind asked f.past.events ≡ f.past) (sym longer) (before.past qs had) in
      record {
        comes = λ more now.
            subst (λ asked. ComesFor (asked ++ more) (f.past.events ++ e ∷ [])) (sym same) (comes_with f e p p.asked enough comes past p.may more).0;
        past = λ more now.
            subst (λ asked. behind (asked ++ more) (f.past.events ++ e ∷ []) ≡ past_after (plan_of coded p.asked) f.past e) (sym same)
            (comes_with f e p p.asked enough comes past p.may more).1;
      }

  comes_so_drive : (f : Followed) (d : ℕ) (p : MayPass coded objects drives f (event.Drive d)) → ComesSo f
      → ComesSo (known_after coded objects drives f (event.Drive d) p)
  comes_so_drive f d p before = record { comes = λ more now. (both more now).0; past = λ more now. (both more now).1 }
    where
      within : (more : List Posed)
          → AreEnough (f.asked ++ more) (known_after coded objects drives f (event.Drive d) p).past.state
          → f.past.state.done < length (f.asked ++ more)
      within more (inl idle) = absurd (asking_busy idle)
      within more (inr low) = low

      both : (more : List Posed) → AreEnough (f.asked ++ more) (known_after coded objects drives f (event.Drive d) p).past.state
          → ComesFor (f.asked ++ more) (f.past.events ++ event.Drive d ∷ [])
          × (behind (f.asked ++ more) (f.past.events ++ event.Drive d ∷ []) ≡ past_after (plan_of coded p.asked) f.past (event.Drive d))
      both more now =
          let past = before.past more (inl p.may.0) in (
            comes_on (plan_of coded (f.asked ++ more)) objects nothing f.past.events (event.Drive d) (before.comes more (inl p.may.0))
                (subst (λ q. MayCome (plan_of coded (f.asked ++ more)) objects q (event.Drive d)) (sym past) (p.may.0, p.may.1, within more now)),
            past_on (plan_of coded (f.asked ++ more)) nothing f.past.events (event.Drive d)
                ∙ ap (λ q. past_after (plan_of coded (f.asked ++ more)) q (event.Drive d)) past,
          )

  comes_so_after : (f : Followed) (e : Event) (p : MayPass coded objects drives f e) → AskedSo coded objects drives f
      → ComesSo f
      → ComesSo (known_after coded objects drives f e p)
  comes_so_after f (event.Drive d) p so before = comes_so_drive f d p before
  comes_so_after f (event.Result d w) p so before = comes_so_other f (event.Result d w) p refl so before
  comes_so_after f (event.Make a g vs) p so before = comes_so_other f (event.Make a g vs) p refl so before
  comes_so_after f (event.Resume a h) p so before = comes_so_other f (event.Resume a h) p refl so before
  comes_so_after f (event.Ask a r own at) p so before = comes_so_other f (event.Ask a r own at) p refl so before
  comes_so_after f (event.Got a w) p so before = comes_so_other f (event.Got a w) p refl so before
  comes_so_after f (event.Round a at) p so before = comes_so_other f (event.Round a at) p refl so before
  comes_so_after f (event.Yield a v at) p so before = comes_so_other f (event.Yield a v at) p refl so before
  comes_so_after f (event.End a x at) p so before = comes_so_other f (event.End a x at) p refl so before

  -- ---- what is asked

  -- what the drive of this number asks, by what its answers so far and some event show
  abbrev pub IsPosed : List DriveAnswer → ℕ → Posed → Type 0
  IsPosed known n q =
      (answers : List DriveAnswer) × (shown : List Obj) × ((i : ℕ) (w : DriveAnswer) → slice_get answers i ≡ Some w → slice_get known i ≡ Some w)
      × (posed_by objects answers (slice_get drives n) shown ≡ Some q)

  abbrev pub ArePosed : List DriveAnswer → List Posed → Type 0
  ArePosed known asked = (n : ℕ) (q : Posed) → slice_get asked n ≡ Some q → IsPosed known n q

  answers_stay : (answers : List DriveAnswer) (e : Event) (i : ℕ) (w : DriveAnswer) → slice_get answers i ≡ Some w
      → slice_get (answers_after answers e) i ≡ Some w
  answers_stay answers (event.Result d x) i w here = slice_get_grown answers (x ∷ []) i w here
  answers_stay answers _ i w here = here

  posed_still : (answers : List DriveAnswer) (e : Event) (n : ℕ) (q : Posed) → IsPosed answers n q
      → IsPosed (answers_after answers e) n q
  posed_still answers e n q (front, shown, same, is) = (front, shown, (λ i w here. answers_stay answers e i w (same i w here)), is)

  pub posed_after : (f : Followed) (e : Event) (p : MayPass coded objects drives f e) → ArePosed f.answers f.asked
      → ArePosed (answers_after f.answers e) p.asked
  posed_after f e p are n q here = elim (asks_more coded objects drives f e p) [
    | inl (done, (x, is, more)) ↦ elim (one_more f.asked x q n (subst (λ asked. slice_get asked n ≡ Some q) more here)) [
      | inl before ↦ posed_still f.answers e n q (are n q before)
      | inr (last, same) ↦ (
        f.answers,
        shown_by objects f.answers e,
        (λ i w at. answers_stay f.answers e i w at),
        ap (λ k. posed_by objects f.answers (slice_get drives k) (shown_by objects f.answers e)) (last ∙ done) ∙ is ∙ ap Some same,
      )
    ]
    | inr (other, same) ↦ posed_still f.answers e n q (are n q (subst (λ asked. slice_get asked n ≡ Some q) same here))
  ]

  -- what drives ask, also one that runs and shows nothing yet
  pub record AsksSo (f : Followed) : Type 0 where
    pub so : AskedSo coded objects drives f
    pub are : ArePosed f.answers f.asked
    pub more : List Posed
    pub enough : AreEnough (f.asked ++ more) f.past.state
    pub whole : ArePosed f.answers (f.asked ++ more)

  asks_so_after : (f : Followed) (e : Event) (p : MayPass coded objects drives f e) → AsksSo f
      → AsksSo (known_after coded objects drives f e p)
  asks_so_after f e p s = by e p
    where
      other : (e : Event) (p : MayPass coded objects drives f e) → asked_after f.asked p.asked e ≡ p.asked
          → AreEnough p.asked (known_after coded objects drives f e p).past.state
          → AsksSo (known_after coded objects drives f e p)
      other e p same enough =
          let posed = posed_after f e p s.are in
          record {
            so = asked_so_after coded objects drives f e p s.so;
            are = subst (ArePosed (answers_after f.answers e)) (sym same) posed;
            more = [];
            enough =
                subst (λ asked. AreEnough asked (known_after coded objects drives f e p).past.state)
                (sym (append-nil (asked_after f.asked p.asked e) ∙ same)) enough;
            whole =
                subst (ArePosed (answers_after f.answers e)) (sym (append-nil (asked_after f.asked p.asked e) ∙ same)) posed;
          }

      long : (e : Event) (p : MayPass coded objects drives f e) → f.past.state.done < length p.asked
      long e p = let is = asks_one_more coded objects drives f e p s.so in omega (arith, is)

      by : (e : Event) (p : MayPass coded objects drives f e) → AsksSo (known_after coded objects drives f e p)
      by (event.Drive d) p =
          let (qs, longer) = asked_longer f (event.Drive d) p in
          record {
            so = asked_so_after coded objects drives f (event.Drive d) p s.so;
            are = s.are;
            more = qs;
            enough = inr (subst (λ asked. f.past.state.done < length asked) longer (long (event.Drive d) p));
            whole = subst (ArePosed f.answers) longer (posed_after f (event.Drive d) p s.are);
          }
      by (event.Result d w) p = other (event.Result d w) p refl (inl refl)
      by (event.Make a g vs) p = other (event.Make a g vs) p refl (inr (long (event.Make a g vs) p))
      by (event.Resume a h) p = other (event.Resume a h) p refl (inr (long (event.Resume a h) p))
      by (event.Ask a r own at) p = other (event.Ask a r own at) p refl (inr (long (event.Ask a r own at) p))
      by (event.Got a w) p = other (event.Got a w) p refl (inr (long (event.Got a w) p))
      by (event.Round a at) p = other (event.Round a at) p refl (inr (long (event.Round a at) p))
      by (event.Yield a v at) p = other (event.Yield a v at) p refl (inr (long (event.Yield a v at) p))
      by (event.End a x at) p = other (event.End a x at) p refl (inr (long (event.End a x at) p))

  -- ---- what is told, and what is named

  tells_next : (f : Followed) (e : Event) → IsOfEvents coded objects drives f → TellsNext coded objects f e
      → TellsRaise objects f.past.events e
  tells_next f (event.Ask a r own at) is tells = subst (λ xs. Tells objects f.past.events xs r) is.raises tells
  tells_next f _ is tells = tt

  -- all that is kept
  pub record IsFollowed (f : Followed) : Type 0 where
    pub of : IsOfEvents coded objects drives f
    pub asks : AsksSo f
    pub comes : ComesSo f
    pub tells : TellRaises objects [] f.past.events
    pub named : (i : ℕ) (e : Event) → slice_get f.past.events i ≡ Some e → AllBelow (length objects) (event_numbers e)

  followed_after : (f : Followed) (e : Event) (p : MayPass coded objects drives f e) → IsFollowed f
      → IsFollowed (known_after coded objects drives f e p)
  followed_after f e p is = record {
    of = of_events_after coded objects drives f e p is.of;
    asks = asks_so_after f e p is.asks;
    comes = comes_so_after f e p is.asks.so is.comes;
    tells = tells_on objects [] f.past.events e is.tells (tells_next f e is.of p.tells);
    named = λ i x here. elim (one_more f.past.events e x i here) [
      | inl before ↦ is.named i x before
      | inr (last, same) ↦ subst (λ y. AllBelow (length objects) (event_numbers y)) same p.named
    ];
  }

  pub is_followed : (f : Followed) (es : List Event) → Leads coded objects drives unbegun es f → IsFollowed f
  is_followed f es leads =
      known_keep coded objects drives IsFollowed followed_after
      (record {
        of = record { state = refl; raises = refl };
        asks = record { so = inl (refl, refl, refl); are = λ n q here. absurd (cc here); more = []; enough = inl refl; whole = λ n q here. absurd (cc here) };
        comes = record { comes = λ more enough. tt; past = λ more enough. refl };
        tells = tt;
        named = λ i e here. absurd (cc here);
      }) f es leads

  -- the drives ask what their lines say
  pub drives_ask : (f : Followed) (es : List Event) (leads : Leads coded objects drives unbegun es f)
      → AreAsked objects f.past.events drives (f.asked ++ (is_followed f es leads).asks.more)
  drives_ask f es leads =
      let is = is_followed f es leads in
      asked_from objects f.past.events drives (f.asked ++ is.asks.more) (λ n q here.
      let (answers, shown, same, posed) = is.asks.whole n q here in
      posed_is objects answers f.past.events
      (λ i w at. (are_answers coded objects drives f es leads).result i w (same i w at)) (slice_get drives n) shown q posed)
