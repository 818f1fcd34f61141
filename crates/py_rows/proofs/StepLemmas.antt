-- Each step of a frame that fits its code leads to a frame that does.
use Rattle.std.proofs.Common.{◌≡◌, ◌∙◌, ℕ, zero, suc, List, [], ◌∷◌, Option, Some, true, refl, sym, ap, subst, length, arith}
use Rattle.std.proofs.lemmas.Option.{slice_get_within}
use Rattle.py_code.specs.declared.unit.CodeUnit.{CodeUnit}
use Rattle.py_code.specs.Units.{with_byte}
use Rattle.py_objects.specs.declared.refs.PyBaseExceptionRef.{PyBaseExceptionRef}
use Rattle.py_objects.specs.declared.payload.Payload.{Payload}
use Rattle.py_objects.specs.declared.event.GotAnswer.TheVariants as got
use Rattle.py_objects.specs.declared.event.ResumeHow.TheVariants as how
use Rattle.py_objects.specs.Objects.{Obj}
use Rattle.py_objects.specs.Own.{Own, Resumes, Gets}
use Rattle.py_check.specs.declared.note.Kind.{Kind}
use Rattle.py_check.specs.declared.note.Kind.TheVariants as kind
use Rattle.py_check.specs.declared.note.Note.TheVariants.{Live}
use Rattle.py_check.specs.declared.note.BlockNote.{BlockNote}
use Rattle.py_check.specs.declared.annotated.Annotated.{Annotated}
use Rattle.py_check.specs.Depths.{deepest}
use Rattle.py_check.specs.Operands.{carried}
use Rattle.py_check.specs.Sheet.{sheet_of}
use Rattle.py_check.specs.Typing.{keeps_op}
use Rattle.py_check.specs.Running.{runs}
use Rattle.py_rows.specs.declared.expect.Wanted.{Wanted}
use Rattle.py_rows.specs.declared.expect.Wanted.TheVariants as want
use Rattle.py_rows.specs.declared.expect.Expect.{Expect}
use Rattle.py_rows.specs.declared.expect.Expect.TheVariants as expect
use Rattle.py_rows.specs.declared.block.UnwindReason.TheVariants as reason
use Rattle.py_rows.specs.States.{State, Step, Goes, Tells, Stuck, Move, Plainly, Loads, Decides, Manages, Resolves, Exits, begun, waiting}
use Rattle.py_rows.specs.Answers.{IsValue}
use Rattle.py_rows.specs.Rows.{unit_move}
use Rattle.py_rows.specs.Receiving.{unit_answered, moves}
use Rattle.py_rows.specs.RunOfRows.{MayLead, Hears, Steps, silent, telling, hearing, filled, started}
use Rattle.py_rows.specs.Fitting.{Has, FitsNote, left_of, FitsBut, CanUnwind, FitsAt}
use Rattle.py_rows.specs.Sound.{IsSound}
use Rattle.py_rows.specs.Laws.{LeadsTo, Always, AlwaysLeads, MayTell, AllMayTell, IsMoving, IsWithin, setting_of}
use Rattle.py_rows.proofs.KindLemmas.{kinds_counted}
use Rattle.py_rows.proofs.BlockLemmas.{blocks_counted, deepest_there}
use Rattle.py_rows.proofs.TypingLemmas.{IsWhole, typed_whole, unit_kept}
use Rattle.py_rows.proofs.LandingLemmas.{Fits, StepFits}
use Rattle.py_rows.proofs.UnwindingLemmas.{leaves_with}
use Rattle.py_rows.proofs.ActingLemmas.{act_fits}
use Rattle.py_rows.proofs.AnsweringLemmas.{Given, answered_fits}

module _ (objects : List Payload) (names : List (List ℕ)) (globals : Obj) (closure : List Obj) (code : Annotated) (sound : IsSound names code) (s : State) where
  -- what a frame has that fits a note
  has_noted : (f : FitsNote objects code s) → (last : ℕ) (wants : Expect) → Has objects code f.kinds f.block_notes (record s { last = last; wants = wants })
  has_noted f last wants =
      let kept = unit_kept names code s.at f.kinds f.block_notes sound f.note in
      record { holds = f.holds; blocks = f.blocks; handlers = kept.handlers; room = kept.room; block_room = deepest_there code.notes s.at (Live f.kinds f.block_notes) f.note; locals = f.locals }

  has_begun : (f : FitsNote objects code s) → Has objects code f.kinds f.block_notes (begun s)
  has_begun f = let h = has_noted f s.last s.wants in record { holds = h.holds; blocks = h.blocks; handlers = h.handlers; room = h.room; block_room = h.block_room; locals = h.locals }

  has_waiting : (ks : List Kind) (bs : List BlockNote) (x : Expect) → Has objects code ks bs s → Has objects code ks bs (waiting x s)
  has_waiting ks bs x has = record { holds = has.holds; blocks = has.blocks; handlers = has.handlers; room = has.room; block_room = has.block_room; locals = has.locals }

  note_waiting : (x : Expect) → FitsNote objects code s → FitsNote objects code (waiting x s)
  note_waiting x f = record { kinds = f.kinds; block_notes = f.block_notes; note = f.note; holds = f.holds; blocks = f.blocks; carries = f.carries; locals = f.locals }

  but_waiting : (w : Wanted) (x : Expect) → FitsBut objects code w s → FitsBut objects code w (waiting x s)
  but_waiting w x f = record {
    unit = f.unit;
    is = f.is;
    kinds = f.kinds;
    block_notes = f.block_notes;
    note = f.note;
    left = f.left;
    waits = f.waits;
    suits = f.suits;
    has = has_waiting f.left.kinds f.left.blocks x f.has;
    carries = f.carries;
  }

  go_fits : FitsNote objects code s → Always objects (StepFits objects code) (moves (setting_of names globals closure code) expect.Go s)
  go_fits f =
      let kept = unit_kept names code s.at f.kinds f.block_notes sound f.note in
      let u : CodeUnit = kept.there in
      let keeps : keeps_op sound.shapes (sheet_of code) s.at u.op (with_byte s.prefix u.arg) f.kinds f.block_notes ≡ true =
      subst (λ (n : ℕ). keeps_op sound.shapes (sheet_of code) s.at u.op (with_byte n u.arg) f.kinds f.block_notes ≡ true) (sym f.carries) kept.keeps in
      let runs_here : runs (sheet_of code) u.op (with_byte s.prefix u.arg) ≡ true =
      subst (λ (n : ℕ). runs (sheet_of code) u.op (with_byte n u.arg) ≡ true) (sym f.carries) kept.runs in
      subst (λ (o : Option CodeUnit). Always objects (StepFits objects code) (unit_move (setting_of names globals closure code) o s)) (sym kept.is)
      (act_fits objects names globals closure code sound (begun s) f.kinds f.block_notes u kept.is f.note refl refl (has_begun f) f.carries u.op (with_byte s.prefix u.arg) refl refl keeps runs_here)

  value_fits : (w : Wanted) (v : Obj) → FitsBut objects code w s → IsValue objects w v → Always objects (StepFits objects code) (moves (setting_of names globals closure code) (expect.Heard (got.Value v)) s)
  value_fits w v f is_value =
      let kept = unit_kept names code s.at f.kinds f.block_notes sound f.note in
      let u : CodeUnit = f.unit in
      let same : Some kept.there ≡ Some u = sym kept.is ∙ f.is in
      let there : kept.there ≡ u = cc in
      let kept_keeps : keeps_op sound.shapes (sheet_of code) s.at u.op (with_byte (carried code.code.code.instructions.items s.at) u.arg) f.kinds f.block_notes ≡ true =
      subst (λ (x : CodeUnit). keeps_op sound.shapes (sheet_of code) s.at x.op (with_byte (carried code.code.code.instructions.items s.at) x.arg) f.kinds f.block_notes ≡ true) there kept.keeps in
      let keeps : keeps_op sound.shapes (sheet_of code) s.at u.op (with_byte s.prefix u.arg) f.kinds f.block_notes ≡ true =
      subst (λ (n : ℕ). keeps_op sound.shapes (sheet_of code) s.at u.op (with_byte n u.arg) f.kinds f.block_notes ≡ true) (sym f.carries) kept_keeps in
      let kept_runs : runs (sheet_of code) u.op (with_byte (carried code.code.code.instructions.items s.at) u.arg) ≡ true =
      subst (λ (x : CodeUnit). runs (sheet_of code) x.op (with_byte (carried code.code.code.instructions.items s.at) x.arg) ≡ true) there kept.runs in
      let runs_here : runs (sheet_of code) u.op (with_byte s.prefix u.arg) ≡ true =
      subst (λ (n : ℕ). runs (sheet_of code) u.op (with_byte n u.arg) ≡ true) (sym f.carries) kept_runs in
      let known : Given objects code sound.shapes (waiting expect.Go s) f.kinds f.block_notes u f.is refl f.note f.carries v (Some f.left) = (has_waiting f.left.kinds f.left.blocks expect.Go f.has, f.suits objects v is_value) in
      let given : Given objects code sound.shapes (waiting expect.Go s) f.kinds f.block_notes u f.is refl f.note f.carries v (left_of u.op (with_byte s.prefix u.arg) s.phase f.kinds f.block_notes) =
      subst (Given objects code sound.shapes (waiting expect.Go s) f.kinds f.block_notes u f.is refl f.note f.carries v) (sym f.waits) known in
      subst (λ (o : Option CodeUnit). Always objects (StepFits objects code) (unit_answered o v (waiting expect.Go s))) (sym f.is)
      (answered_fits objects code sound.shapes (waiting expect.Go s) f.kinds f.block_notes u f.is refl f.note f.carries u.op (with_byte s.prefix u.arg) v refl refl keeps runs_here given)

  -- a frame that expects no input fits behind its step
  steps_on : (x : Expect) → FitsAt objects code x s → IsMoving x → Always objects (StepFits objects code) (moves (setting_of names globals closure code) x s)
  steps_on expect.Start f moving = absurd moving
  steps_on expect.Go f moving = go_fits f
  steps_on (expect.Answer w) f moving = absurd moving
  steps_on expect.Resume f moving = absurd moving
  steps_on (expect.Heard (got.Value v)) f moving = value_fits f.0 v f.1 f.2
  steps_on (expect.Heard (got.Stop v)) f moving = absurd f
  steps_on (expect.Heard (got.Raise e)) f moving =
      leaves_with objects code (reason.Raising e) f.1.kinds f.1.block_notes (waiting expect.Go s) refl f.0 (has_waiting f.1.kinds f.1.block_notes expect.Go f.1.has)
  steps_on expect.Ended f moving = absurd moving

  pub next_fits : (x : Expect) → FitsAt objects code x s → IsMoving x → AlwaysLeads objects (Fits objects code) (moves (setting_of names globals closure code) x s)
  next_fits x f moving = leads (moves (setting_of names globals closure code) x s) (steps_on x f moving)
    where
      step_leads : (step : Step) → StepFits objects code step → LeadsTo (Fits objects code) step
      step_leads (Goes t) fits = fits
      step_leads (Tells x t) fits = fits.1
      step_leads Stuck fits = fits

      leads : (m : Move) → Always objects (StepFits objects code) m → AlwaysLeads objects (Fits objects code) m
      leads (Plainly step) all = step_leads step all
      leads (Loads c f) all = λ v has. step_leads (f v) (all v has)
      leads (Decides v f) all = (all.0, λ b. step_leads (f b) (all.1 b))
      leads (Manages m f) all = λ b. step_leads (f b) (all b)
      leads (Resolves v f) all = λ p. step_leads (f p) (all p)
      leads (Exits e f) all = (all.0, λ t v b. step_leads (f t v b) (all.1 t v b))

  -- a step that a move may lead to
  led : (m : Move) (step : Step) → Always objects (StepFits objects code) m → MayLead objects m step → StepFits objects code step
  led (Plainly done) step all may = subst (StepFits objects code) may all
  led (Loads c f) step all (v, has, is) = subst (StepFits objects code) is (all v has)
  led (Decides v f) step all (b, has, is) = subst (StepFits objects code) is (all.1 b)
  led (Manages m f) step all (b, manages, is) = subst (StepFits objects code) is (all b)
  led (Resolves v f) step all (p, has, is) = subst (StepFits objects code) is (all p)
  led (Exits e f) step all (t, v, b, exits, is) = subst (StepFits objects code) is (all.1 t v b)

  -- a frame that expects an input does nothing by itself
  moving : (x : Expect) (step : Step) → (Stuck ≡ step → ⊥) → MayLead objects (moves (setting_of names globals closure code) x s) step → IsMoving x
  moving expect.Start step some may = absurd (some may)
  moving expect.Go step some may = tt
  moving (expect.Answer w) step some may = absurd (some may)
  moving expect.Resume step some may = absurd (some may)
  moving (expect.Heard w) step some may = tt
  moving expect.Ended step some may = absurd (some may)

  moved_fits : (step : Step) → FitsAt objects code s.wants s → (Stuck ≡ step → ⊥) → MayLead objects (moves (setting_of names globals closure code) s.wants s) step → StepFits objects code step
  moved_fits step f some may = led (moves (setting_of names globals closure code) s.wants s) step (steps_on s.wants f (moving s.wants step some may)) may

  can_unwind : (w : Wanted) (x : Expect) → FitsBut objects code w s → CanUnwind objects code (waiting x s)
  can_unwind w x f = record { kinds = f.left.kinds; block_notes = f.left.blocks; has = has_waiting f.left.kinds f.left.blocks x f.has; there = slice_get_within code.code.code.instructions.items s.at f.unit f.is }

  -- what a frame hears that waits
  heard_fits : (x : Expect) (o : Own) (w : Expect) → FitsAt objects code x s → Hears objects (setting_of names globals closure code) x o w → FitsAt objects code w (waiting w s)
  heard_fits expect.Start (Resumes k how.Start) w f hears = subst (λ (y : Expect). FitsAt objects code y (waiting y s)) (sym hears) (note_waiting expect.Go f.1)
  heard_fits expect.Start (Resumes k (how.Throw e)) w f hears =
      let raised : Expect = expect.Heard (got.Raise e) in
      let can : CanUnwind objects code (waiting raised s) = record { kinds = f.1.kinds; block_notes = f.1.block_notes; has = has_noted f.1 s.last raised; there = slice_get_within code.code.code.instructions.items s.at _ (unit_kept names code s.at f.1.kinds f.1.block_notes sound f.1.note).is } in
      subst (λ (y : Expect). FitsAt objects code y (waiting y s)) (sym hears.1) (hears.0, can)
  heard_fits (expect.Answer wanted) (Gets k (got.Value v)) w f hears =
      subst (λ (y : Expect). FitsAt objects code y (waiting y s)) (sym hears.1) (wanted, but_waiting wanted (expect.Heard (got.Value v)) f, hears.0)
  heard_fits (expect.Answer wanted) (Gets k (got.Stop v)) w f hears = absurd hears.0
  heard_fits (expect.Answer wanted) (Gets k (got.Raise e)) w f hears =
      subst (λ (y : Expect). FitsAt objects code y (waiting y s)) (sym hears.1) (hears.0, can_unwind wanted (expect.Heard (got.Raise e)) f)
  heard_fits expect.Resume (Resumes k (how.Send v)) w f hears =
      subst (λ (y : Expect). FitsAt objects code y (waiting y s)) (sym hears) (want.Of kind.Any, but_waiting (want.Of kind.Any) (expect.Heard (got.Value v)) f, tt)
  heard_fits expect.Resume (Resumes k (how.Throw e)) w f hears =
      subst (λ (y : Expect). FitsAt objects code y (waiting y s)) (sym hears.1) (hears.0, can_unwind (want.Of kind.Any) (expect.Heard (got.Raise e)) f)
  heard_fits _ _ w f hears = absurd hears

  -- the sizes
  has_within : (ks : List Kind) (bs : List BlockNote) → Has objects code ks bs s → IsWithin code.code.code.max_stackdepth (deepest code.notes) s
  has_within ks bs has = (omega (arith, kinds_counted objects s.stack ks has.holds, has.room), omega (arith, blocks_counted objects s.blocks bs has.blocks, has.block_room))

  pub within : (x : Expect) → FitsAt objects code x s → IsWithin code.code.code.max_stackdepth (deepest code.notes) s
  within expect.Start f = has_within f.1.kinds f.1.block_notes (has_noted f.1 s.last s.wants)
  within expect.Go f = has_within f.kinds f.block_notes (has_noted f s.last s.wants)
  within (expect.Answer w) f = has_within f.left.kinds f.left.blocks f.has
  within expect.Resume f = has_within f.left.kinds f.left.blocks f.has
  within (expect.Heard (got.Value v)) f = has_within f.1.left.kinds f.1.left.blocks f.1.has
  within (expect.Heard (got.Stop v)) f = absurd f
  within (expect.Heard (got.Raise e)) f = has_within f.1.kinds f.1.block_notes f.1.has
  within expect.Ended f = (f.1, let none : length s.blocks ≡ 0 = ap length f.0 in omega (arith, none))

  pub steps_fit : (xs : List Own) (t : State) → FitsAt objects code s.wants s → Steps objects (setting_of names globals closure code) s xs t → FitsAt objects code t.wants t
  steps_fit _ _ f (silent t may) = moved_fits (Goes t) f (λ is. cc) may
  steps_fit _ _ f (telling x t may) = (moved_fits (Tells x t) f (λ is. cc) may).1
  steps_fit _ _ f (hearing x w hears under) = heard_fits s.wants x w f hears

  -- what is heard is told by no unit
  heard_told : (x : Expect) (o : Own) (w : Expect) → Hears objects (setting_of names globals closure code) x o w → MayTell objects code.code o
  heard_told expect.Start (Resumes k how.Start) w hears = tt
  heard_told expect.Start (Resumes k (how.Throw e)) w hears = tt
  heard_told (expect.Answer wanted) (Gets k g) w hears = tt
  heard_told expect.Resume (Resumes k (how.Send v)) w hears = tt
  heard_told expect.Resume (Resumes k (how.Throw e)) w hears = tt
  heard_told _ _ w hears = absurd hears

  pub steps_tell : (xs : List Own) (t : State) → FitsAt objects code s.wants s → Steps objects (setting_of names globals closure code) s xs t → AllMayTell objects code.code xs
  steps_tell _ _ f (silent t may) = tt
  steps_tell _ _ f (telling x t may) = ((moved_fits (Tells x t) f (λ is. cc) may).0, tt)
  steps_tell _ _ f (hearing x w hears under) = (heard_told s.wants x w hears, tt)

-- the locals of a frame are as many as their names
pub length-filled : (n : ℕ) (vs : List Obj) → length (filled n vs) ≡ n
length-filled zero vs = refl
length-filled (suc n) [] = ap suc (length-filled n [])
length-filled (suc n) (v ∷ vs) = ap suc (length-filled n vs)

pub start_fits : (objects : List Payload) (names : List (List ℕ)) (code : Annotated) (slot : Option PyBaseExceptionRef) (args : List Obj) → IsSound names code → FitsAt objects code expect.Start (started code.code slot args)
start_fits objects names code slot args sound =
    let whole : IsWhole code = typed_whole sound.shapes code sound.typed in
    (refl, record { kinds = []; block_notes = []; note = whole.start; holds = tt; blocks = tt; carries = refl; locals = length-filled (length code.code.code.varnames.items) args })
