-- An event that comes behind a drive comes by what the drive asks by it, as by what the run has it ask, and leaves the same.
use Rattle.std.proofs.Common.{◌≡◌, ◌∙◌, ℕ, List, [], Some, inl, inr, refl, sym, ap, subst, length}
use Rattle.std.specs.Prelude.{Option, slice_get}
use Rattle.std.proofs.lemmas.Option.{same_Some}
use Rattle.py_objects.specs.declared.payload.Payload.{Payload}
use Rattle.py_objects.specs.declared.request.Request.{Request}
use Rattle.py_objects.specs.declared.event.DriveAnswer.{DriveAnswer}
use Rattle.py_objects.specs.declared.event.ResumeHow.TheVariants as how
use Rattle.py_objects.specs.declared.event.Event.{Event}
use Rattle.py_objects.specs.declared.event.Event.TheVariants as event
use Rattle.py_objects.specs.Objects.{Obj, Name, declared}
use Rattle.py_lines.specs.declared.drive.DriveLine.{DriveLine}
use Rattle.py_lines.specs.declared.drive.DriveLine.TheVariants as drive
use Rattle.py_grammar.specs.Grammar.{Decl, Coded}
use Rattle.py_grammar.specs.WellFormed.{IsFunction, IsWellDriven}
use Rattle.py_answers.specs.Answers.{Reply}
use Rattle.py_meaning.specs.Whole.{AsksThis, plan_of}
use Rattle.py_run.specs.Run.{Posed, Plan, Asking, Going, IsTop, open_in, requested_by, makings_of, to_report_by, question, after}
use Rattle.py_run.specs.Generators.{answered, value_of, returned_by}
use Rattle.py_run.specs.Calls.{Course, Says, Enters, Begins, Sends, Throws, ComesTo}
use Rattle.py_run.specs.Coming.{Past, past_after, setting, Opens, Starts, IsReply, MayCome}
use Rattle.py_run.proofs.CoursesLemmas.{IsSaid}
use Rattle.py_following.proofs.Functions.{IsUnraised}
use Rattle.py_following.proofs.Plans.{AskBoth, posing, setting_by, behind_with, IsBegun}
use Rattle.py_following.proofs.Chosen.{LeftKnown}
use Rattle.py_following.proofs.Opening.{GoesWith, AreGenerators, IsFound, call_found, next_found, send_found, close_found}
use Rattle.py_following.proofs.Throwing.{throw_found}

-- the drives ask alike behind an event of one that runs
abbrev pub AskSo : List Coded → List Payload → (asked asked' : List Posed) → Past → Event → Type 0
AskSo coded objects asked asked' p (event.Drive d) = Unit {0}
AskSo coded objects asked asked' p (event.Result d w) = Unit {0}
AskSo coded objects asked asked' p y = AskBoth asked asked' (after p.state y).done × IsBegun (after p.state y)

module _ (coded : List Coded) (objects : List Payload) (asked asked' : List Posed) (answers : List DriveAnswer) (p : Past) (line : DriveLine) (x : Event) (other : Request)
    (found : IsFound objects p.events answers line x other)
    (here : slice_get asked p.state.done ≡ Some (posing found.request)) (there : slice_get asked' p.state.done ≡ Some (posing other))
    (asks : p.state.phase ≡ Asking) (alone : p.state.stack ≡ []) where
  abbrev plan : Plan
  plan = plan_of coded asked

  abbrev plan' : Plan
  plan' = plan_of coded asked'

  drive_here : question plan p.state ≡ Some found.request
  drive_here = ap (open_in (slice_get asked p.state.done)) alone ∙ ap requested_by here

  drive_there : question plan' p.state ≡ Some other
  drive_there = ap (open_in (slice_get asked' p.state.done)) alone ∙ ap requested_by there

  setting_here : setting plan p ≡ setting plan' p
  unfolding setting_by
  setting_here = ap (setting_by coded p) here ∙ sym (ap (setting_by coded p) there)

  -- what the drive asks comes to that course in the run
  comes_there : (c : Course) → Opens plan' objects p c → ComesTo (setting plan' p) objects other c
  comes_there c (asks, (r, open_, comes)) =
      subst (λ q. ComesTo (setting plan' p) objects q c) (same_Some r other (sym open_ ∙ drive_there)) comes

  opens_here : (c : Course) → GoesWith objects p.events x c → Opens plan' objects p c → Opens plan objects p c
  opens_here c goes opens =
      (asks, (found.request, drive_here, subst (λ at. ComesTo at objects found.request c) (sym setting_here) (found.comes (setting plan' p) c goes (comes_there c opens))))

  none_runs : (a : ℕ) → IsTop a p.state.stack → ⊥
  none_runs a top = subst (IsTop a) alone top

  none_goes : p.state.phase ≡ Going → ⊥
  none_goes going = absurd (cc (sym asks ∙ going))

  starts_here : (a : ℕ) → GoesWith objects p.events x (Begins a) → Starts plan' objects p p.state.phase a → Starts plan objects p p.state.phase a
  starts_here a goes starts =
      subst (λ ph. Starts plan objects p ph a) (sym asks) (opens_here (Begins a) goes (subst (λ ph. Starts plan' objects p ph a) asks starts))

  reply_here : (r : Request) (reply : Reply) → GoesWith objects p.events x (Says reply) → question plan' p.state ≡ Some r → IsReply plan' objects p p.state.phase r reply
      → IsReply plan objects p p.state.phase found.request reply
  reply_here r reply goes open_ is =
      let says : ComesTo (setting plan' p) objects r (Says reply) = subst (λ ph. IsReply plan' objects p ph r reply) asks is in
      let opens : Opens plan objects p (Says reply) = opens_here (Says reply) goes (asks, (r, open_, says)) in
      subst (λ ph. IsReply plan objects p ph found.request reply) (sym asks)
      (subst (λ at. ComesTo at objects found.request (Says reply)) (sym setting_here) (found.comes (setting plan' p) (Says reply) goes (comes_there (Says reply) (asks, (r, open_, says)))))

  pub may_here : (y : Event) → x ≡ y → MayCome plan' objects p y → MayCome plan objects p y
  may_here (event.Drive d) is (idle, next, some) = absurd (cc (sym asks ∙ idle))
  may_here (event.Make a f vs) is (next, opens) = (next, opens_here (Enters f vs) (subst (λ z. GoesWith objects p.events z (Enters f vs)) (sym is) refl) opens)
  may_here (event.Resume a how.Start) is starts = starts_here a (subst (λ z. GoesWith objects p.events z (Begins a)) (sym is) refl) starts
  may_here (event.Resume a (how.Send v)) is opens = opens_here (Sends a v) (subst (λ z. GoesWith objects p.events z (Sends a v)) (sym is) refl) opens
  may_here (event.Resume a (how.Throw e)) is (y, opens, raise) =
      (y, opens_here (Throws a y) (subst (λ z. GoesWith objects p.events z (Throws a y)) (sym is) (y, refl, raise)) opens, raise)
  may_here (event.Got a w) is (top, more) = absurd (none_runs a top)
  may_here (event.Result d w) is (next, none, inl (reply, inl (r, open_, said), gives)) = (
    next,
    none,
    inl (reply, inl (found.request, drive_here, reply_here r reply (subst (λ z. GoesWith objects p.events z (Says reply)) (sym is) (reply, refl, gives)) open_ said), gives),
  )
  may_here (event.Result d w) is (next, none, inl (reply, inr (ask, (m, forms, made)), gives)) = absurd (cc (sym (ap makings_of there) ∙ forms))
  may_here (event.Result d w) is (next, none, inr (ask, (t, reports, text))) = absurd (cc (sym (ap to_report_by there) ∙ reports))
  may_here (event.Ask a r own at) is (going, top) = absurd (none_goes going)
  may_here (event.Round a at) is (going, top) = absurd (none_goes going)
  may_here (event.Yield a v at) is (going, top) = absurd (none_goes going)
  may_here (event.End a e at) is (going, top) = absurd (none_goes going)

  -- and the past behind it is the same
  answers_here : (v : Option Obj) → AreGenerators objects p.generators
      → answered (question plan p.state) p.state.phase (length p.state.made) v p.generators ≡ answered (question plan' p.state) p.state.phase (length p.state.made) v p.generators
  answers_here v are =
      ap (λ q. answered q p.state.phase (length p.state.made) v p.generators) drive_here
      ∙ ap (λ ph. answered (Some found.request) ph (length p.state.made) v p.generators) asks
      ∙ found.closes p.generators are
      ∙ sym (ap (λ ph. answered (Some other) ph (length p.state.made) v p.generators) asks)
      ∙ sym (ap (λ q. answered q p.state.phase (length p.state.made) v p.generators) drive_there)

  pub past_here : (y : Event) → AreGenerators objects p.generators → past_after plan p y ≡ past_after plan' p y
  unfolding behind_with
  past_here (event.Drive d) are = refl
  past_here (event.Make a f vs) are = refl
  past_here (event.Resume a h) are = refl
  past_here (event.Got a w) are = ap (behind_with p (event.Got a w)) (answers_here (value_of w) are)
  past_here (event.Result d w) are = ap (behind_with p (event.Result d w)) (answers_here (returned_by w) are)
  past_here (event.Ask a r own at) are = refl
  past_here (event.Round a at) are = refl
  past_here (event.Yield a v at) are = refl
  past_here (event.End a e at) are = refl

  -- the drive asks alike from then on, where an activation was made or entered
  alike_by : (c : Course) → (IsSaid c → ⊥) → Opens plan' objects p c → AskBoth asked asked' p.state.done
  alike_by c unsaid opens =
      record { request = found.request; other = other; here = here; there = there; alike = found.alike (setting plan' p) c unsaid (comes_there c opens) }

  pub so_here : (y : Event) → MayCome plan' objects p y → AskSo coded objects asked asked' p y
  so_here (event.Drive d) may = tt
  so_here (event.Result d w) may = tt
  so_here (event.Make a f vs) (next, opens) = (alike_by (Enters f vs) (λ said. said) opens, λ asking none. absurd (cc asking))
  so_here (event.Resume a how.Start) starts =
      (alike_by (Begins a) (λ said. said) (subst (λ ph. Starts plan' objects p ph a) asks starts), λ asking none. absurd (cc asking))
  so_here (event.Resume a (how.Send v)) opens = (alike_by (Sends a v) (λ said. said) opens, λ asking none. absurd (cc asking))
  so_here (event.Resume a (how.Throw e)) (y, opens, raise) = (alike_by (Throws a y) (λ said. said) opens, λ asking none. absurd (cc asking))
  so_here (event.Got a w) (top, more) = absurd (none_runs a top)
  so_here (event.Ask a r own at) (going, top) = absurd (none_goes going)
  so_here (event.Round a at) (going, top) = absurd (none_goes going)
  so_here (event.Yield a v at) (going, top) = absurd (none_goes going)
  so_here (event.End a e at) (going, top) = absurd (none_goes going)

-- what a line asks by an event
module _ (objects : List Payload) (before events : List Event) (answers : List DriveAnswer) (decls : List Decl) (made : ℕ) (known : LeftKnown objects answers decls events made)
    (unraised : (f : Name) (g : Obj) → IsFunction decls f → declared objects f ≡ Some g → IsUnraised objects g) (x : Event) where
  pub line_found : (d : DriveLine) (r : Request) → IsWellDriven decls made d → AsksThis objects events d r → IsFound objects before answers d x r
  line_found (drive.Call f atoms) r well (g, vs, is, named, are) =
      subst (IsFound objects before answers (drive.Call f atoms) x) (sym is) (call_found objects before answers decls events made known x f atoms g vs named (unraised f g well.function named) well.args are)
  line_found (drive.Next n) r well (g, v, is, left, has) =
      subst (IsFound objects before answers (drive.Next n) x) (sym is) (next_found objects before answers decls events made known x n g v well left has)
  line_found (drive.Send n a) r well (g, v, is, left, has) =
      subst (IsFound objects before answers (drive.Send n a) x) (sym is) (send_found objects before answers decls events made known x n a g v well.drive left well.value has)
  line_found (drive.Throw n c a) r well (g, k, v, is, left, named, has) =
      subst (IsFound objects before answers (drive.Throw n c a) x) (sym is)
      (throw_found objects before answers x decls events made known n c a g k v well.drive left named well.value has)
  line_found (drive.Close n) r well (g, is, left) =
      subst (IsFound objects before answers (drive.Close n) x) (sym is) (close_found objects before answers decls events made known x n g well left)
  line_found (drive.Report n) r well asks = absurd asks
