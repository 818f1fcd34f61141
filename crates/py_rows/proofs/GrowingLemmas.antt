-- What fits goes on to fit as objects grow.
use Rattle.std.proofs.Common.{◌<◌, ℕ, List, [], ◌∷◌, Option, None, Some, inl, inr, ⊎_elim, ap, ◌∙◌, length, length-append, arith}
use Rattle.py_objects.specs.declared.payload.Payload.{Payload}
use Rattle.py_objects.specs.declared.event.GotAnswer.TheVariants as got
use Rattle.py_objects.specs.Objects.{Obj, as_object}
use Rattle.py_objects.specs.Growth.{Grows}
use Rattle.py_check.specs.declared.note.Kind.{Kind}
use Rattle.py_check.specs.declared.note.Kind.TheVariants as kind
use Rattle.py_check.specs.declared.note.Pending.{Pending}
use Rattle.py_check.specs.declared.note.BlockNote.{BlockNote}
use Rattle.py_check.specs.declared.annotated.Annotated.{Annotated}
use Rattle.py_check.specs.Notes.{pending_of}
use Rattle.py_rows.specs.declared.block.Block.{Block}
use Rattle.py_rows.specs.declared.block.BlockType.{BlockType}
use Rattle.py_rows.specs.declared.block.BlockType.TheVariants.{Loop, TryExcept, Finally, FinallyHandler, ExceptHandler}
use Rattle.py_rows.specs.declared.block.UnwindReason.{UnwindReason}
use Rattle.py_rows.specs.declared.block.UnwindReason.TheVariants as reason
use Rattle.py_rows.specs.declared.expect.Wanted.{Wanted}
use Rattle.py_rows.specs.declared.expect.Wanted.TheVariants as want
use Rattle.py_rows.specs.declared.expect.Expect.{Expect}
use Rattle.py_rows.specs.declared.expect.Expect.TheVariants as expect
use Rattle.py_rows.specs.States.{State, Setting, Step, Goes, Tells, Move, Plainly, Loads, Decides, Manages, Resolves, Exits}
use Rattle.py_rows.specs.Answers.{HasKind, IsValue, IsAnswer}
use Rattle.py_objects.specs.declared.event.GotAnswer.{GotAnswer}
use Rattle.py_objects.specs.declared.event.ResumeHow.TheVariants as how
use Rattle.py_objects.specs.Own.{Own, Resumes, Gets}
use Rattle.py_rows.specs.Receiving.{moves}
use Rattle.py_rows.specs.RunOfRows.{IsExit, MayLead, Hears, Steps, silent, telling, hearing, Runs, none, on}
use Rattle.py_rows.specs.Fitting.{HaveKinds, WaitsIn, MayWait, TypeWaits, AreBlocks, Has, FitsNote, FitsBut, FitsAt}
use Rattle.py_objects.proofs.GrowthLemmas.{payload_grown}
use Rattle.py_rows.proofs.ConstantLemmas.{constant_grown}

-- an object stays of a kind as objects grow
pub kind_grown : (objects objects' : List Payload) (v : Obj) (k : Kind) → Grows objects objects' → HasKind objects v k → HasKind objects' v k
kind_grown objects objects' v kind.Any grows is = tt
kind_grown objects objects' v kind.Str grows (s, has) = (s, payload_grown objects objects' v _ grows has)
kind_grown objects objects' v kind.Tuple grows (vs, has) = (vs, payload_grown objects objects' v _ grows has)
kind_grown objects objects' v kind.List grows is = is
kind_grown objects objects' v kind.Set grows is = is
kind_grown objects objects' v kind.Dict grows (ps, has) = (ps, payload_grown objects objects' v _ grows has)
kind_grown objects objects' v kind.Exc grows (e, has) = (e, payload_grown objects objects' v _ grows has)
kind_grown objects objects' v kind.Cell grows is = is
kind_grown objects objects' v (kind.Cells n) grows is = is
kind_grown objects objects' v (kind.Names n) grows (vs, has, count, texts) =
    (vs, payload_grown objects objects' v _ grows has, count, λ i w here. let (s, text) = texts i w here in (s, payload_grown objects objects' w _ grows text))
kind_grown objects objects' v (kind.Code c) grows has = payload_grown objects objects' v _ grows has

pub kinds_grown : (objects objects' : List Payload) (vs : List Obj) (ks : List Kind) → Grows objects objects' → HaveKinds objects vs ks → HaveKinds objects' vs ks
kinds_grown objects objects' [] [] grows are = tt
kinds_grown objects objects' [] (k ∷ ks) grows are = are
kinds_grown objects objects' (v ∷ vs) [] grows are = are
kinds_grown objects objects' (v ∷ vs) (k ∷ ks) grows are = (kind_grown objects objects' v k grows are.0, kinds_grown objects objects' vs ks grows are.1)

module _ (objects objects' : List Payload) (grows : Grows objects objects') where
  reason_grown : (ps : List Pending) (r : UnwindReason) → WaitsIn objects ps r → WaitsIn objects' ps r
  reason_grown ps (reason.Raising e) waits = kind_grown objects objects' (as_object e) kind.Exc grows waits
  reason_grown ps (reason.Returning v) waits = waits
  reason_grown ps (reason.Break to) waits = waits
  reason_grown ps (reason.Continue to) waits = waits

  if_grown : (ps : List Pending) (r : Option UnwindReason) → MayWait objects ps r → MayWait objects' ps r
  if_grown ps None waits = tt
  if_grown ps (Some r) waits = reason_grown ps r waits

  type_grown : (ps : List Pending) (typ : BlockType) → TypeWaits objects ps typ → TypeWaits objects' ps typ
  type_grown ps (FinallyHandler r kept) waits = if_grown ps r waits
  type_grown ps Loop waits = tt
  type_grown ps (TryExcept handler) waits = tt
  type_grown ps (Finally handler) waits = tt
  type_grown ps (ExceptHandler e kept) waits = kind_grown objects objects' (as_object e) kind.Exc grows waits

  blocks_grown : (bs : List Block) (cs : List BlockNote) → AreBlocks objects bs cs → AreBlocks objects' bs cs
  blocks_grown [] [] are = tt
  blocks_grown [] (c ∷ cs) are = are
  blocks_grown (b ∷ bs) [] are = are
  blocks_grown (b ∷ bs) (c ∷ cs) are =
      (record { number = are.0.number; level = are.0.level; handler = are.0.handler; waits = type_grown (pending_of c) b.typ are.0.waits }, blocks_grown bs cs are.1)

  has_grown : (code : Annotated) (ks : List Kind) (bs : List BlockNote) (s : State) → Has objects code ks bs s → Has objects' code ks bs s
  has_grown code ks bs s has =
      record { holds = kinds_grown objects objects' s.stack ks grows has.holds; blocks = blocks_grown s.blocks bs has.blocks; handlers = has.handlers; room = has.room; block_room = has.block_room; locals = has.locals }

  pub value_grown : (w : Wanted) (v : Obj) → IsValue objects w v → IsValue objects' w v
  value_grown (want.Of k) v is = kind_grown objects objects' v k grows is
  value_grown want.Truth v (b, has) = (b, payload_grown objects objects' v _ grows has)
  value_grown want.ExceptionOrNone v is = ⊎_elim (λ e. inl (kind_grown objects objects' v kind.Exc grows e)) (λ none. inr (payload_grown objects objects' v _ grows none)) is
  value_grown (want.Items n) v (vs, (has, count)) = (vs, (payload_grown objects objects' v _ grows has, count))
  value_grown (want.Unpacked before after) v (vs, tuple, (w, here, list)) = absurd list
  value_grown want.NoValue v is = is

  note_grown : (code : Annotated) (s : State) → FitsNote objects code s → FitsNote objects' code s
  note_grown code s f =
      record { kinds = f.kinds; block_notes = f.block_notes; note = f.note; holds = kinds_grown objects objects' s.stack f.kinds grows f.holds; blocks = blocks_grown s.blocks f.block_notes f.blocks; carries = f.carries; locals = f.locals }

  but_grown : (code : Annotated) (w : Wanted) (s : State) → FitsBut objects code w s → FitsBut objects' code w s
  but_grown code w s f = record {
    unit = f.unit;
    is = f.is;
    kinds = f.kinds;
    block_notes = f.block_notes;
    note = f.note;
    left = f.left;
    waits = f.waits;
    suits = f.suits;
    has = has_grown code f.left.kinds f.left.blocks s f.has;
    carries = f.carries;
  }

  pub fits_grown : (code : Annotated) (x : Expect) (s : State) → FitsAt objects code x s → FitsAt objects' code x s
  fits_grown code expect.Start s f = (f.0, note_grown code s f.1)
  fits_grown code expect.Go s f = note_grown code s f
  fits_grown code (expect.Answer w) s f = but_grown code w s f
  fits_grown code expect.Resume s f = but_grown code (want.Of kind.Any) s f
  fits_grown code (expect.Heard (got.Value v)) s f = (f.0, but_grown code f.0 s f.1, value_grown f.0 v f.2)
  fits_grown code (expect.Heard (got.Stop v)) s f = f
  fits_grown code (expect.Heard (got.Raise e)) s f =
      (kind_grown objects objects' (as_object e) kind.Exc grows f.0, record { kinds = f.1.kinds; block_notes = f.1.block_notes; has = has_grown code f.1.kinds f.1.block_notes s f.1.has; there = f.1.there })
  fits_grown code expect.Ended s f = f

-- a number of an object stays one
number_grown : (objects objects' : List Payload) (i : ℕ) → Grows objects objects' → i < length objects → i < length objects'
number_grown objects objects' i (more, is) below = omega (arith, below, ap length is ∙ length-append objects more)

-- a step stays one as objects grow
lead_grown : (objects objects' : List Payload) → Grows objects objects' → (m : Move) (step : Step) → MayLead objects m step → MayLead objects' m step
lead_grown objects objects' grows (Plainly done) step may = may
lead_grown objects objects' grows (Loads c f) step (v, has, is) = (v, constant_grown objects objects' v c grows has, is)
lead_grown objects objects' grows (Decides v f) step (b, has, is) = (b, payload_grown objects objects' v _ grows has, is)
lead_grown objects objects' grows (Manages m f) step (b, (p, has, manages), is) = (b, (p, payload_grown objects objects' m p grows has, manages), is)
lead_grown objects objects' grows (Resolves v f) step (p, has, is) = (p, payload_grown objects objects' v p grows has, is)
lead_grown objects objects' grows (Exits e f) step (t, v, b, exits, is) = (t, v, b, exit_grown e exits, is)
  where
    exit_grown : (e : _) → IsExit objects e t v b → IsExit objects' e t v b
    exit_grown None (x, y, z) = (payload_grown objects objects' t _ grows x, payload_grown objects objects' v _ grows y, payload_grown objects objects' b _ grows z)
    exit_grown (Some e) (same, (body, has, class), x, z) = (same, (body, payload_grown objects objects' v _ grows has, class), number_grown objects objects' t.number grows x, ⊎_elim (λ is_none. inl (payload_grown objects objects' b _ grows is_none)) (λ traceback. inr (traceback.0, payload_grown objects objects' b _ grows traceback.1)) z)

-- the same of a whole step
pub step_grown : (objects objects' : List Payload) → Grows objects objects' → (setting : Setting) (s t : State) (xs : List Own) → Steps objects setting s xs t → Steps objects' setting s xs t
step_grown objects objects' grows setting s _ _ (silent t may) = silent t (lead_grown objects objects' grows (moves setting s.wants s) (Goes t) may)
step_grown objects objects' grows setting s _ _ (telling x t may) = telling x t (lead_grown objects objects' grows (moves setting s.wants s) (Tells x t) may)
step_grown objects objects' grows setting s _ _ (hearing x w hears under) = hearing x w (hears_grown s.wants x w hears) under
  where
    answer_grown : (w : Wanted) (g : GotAnswer) → IsAnswer objects w g → IsAnswer objects' w g
    answer_grown w (got.Value v) is = value_grown objects objects' grows w v is
    answer_grown w (got.Stop v) is = is
    answer_grown w (got.Raise e) is = kind_grown objects objects' (as_object e) kind.Exc grows is

    hears_grown : (y : Expect) (x : Own) (w : Expect) → Hears objects setting y x w → Hears objects' setting y x w
    hears_grown expect.Start (Resumes k how.Start) w hears = hears
    hears_grown expect.Start (Resumes k (how.Throw e)) w hears = (kind_grown objects objects' (as_object e) kind.Exc grows hears.0, hears.1, hears.2)
    hears_grown (expect.Answer wanted) (Gets k g) w hears = (answer_grown wanted g hears.0, hears.1)
    hears_grown expect.Resume (Resumes k (how.Send v)) w hears = hears
    hears_grown expect.Resume (Resumes k (how.Throw e)) w hears = (kind_grown objects objects' (as_object e) kind.Exc grows hears.0, hears.1)
    hears_grown _ _ w hears = absurd hears

-- and of a run
pub run_grown : (objects objects' : List Payload) → Grows objects objects' → (setting : Setting) (s t : State) (xs : List Own) → Runs objects setting s xs t → Runs objects' setting s xs t
run_grown objects objects' grows setting s _ _ none = none
run_grown objects objects' grows setting s _ _ (on {us = us} {vs = vs} {t = t} u run step) = on u (run_grown objects objects' grows setting s t us run) (step_grown objects objects' grows setting t u vs step)
