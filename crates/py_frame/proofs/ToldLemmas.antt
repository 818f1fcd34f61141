-- Which traceback a step tells an exit: what the unit tells that asks it.
use Rattle.std.proofs.Common.{◌≡◌, ◌∙◌, ℕ, List, [], ◌∷◌, Bool, true, false, cond, None, Some, ◌⊎◌, inl, inr, refl, sym, ap, subst, length, set}
use Rattle.std.specs.Prelude.{Option, slice_get, nat_lt, ◌==◌}
use Rattle.std.proofs.lemmas.Bool.{cases_eq}
use Rattle.std.proofs.lemmas.Option.{slice_get_within, same_Some}
use Rattle.py_code.specs.declared.instruction.Instruction.{Instruction}
use Rattle.py_code.specs.declared.instruction.Instruction.TheVariants.{WithCleanupStart, Raise}
use Rattle.py_code.specs.declared.operator.RaiseKind.{RaiseKind}
use Rattle.py_code.specs.declared.operator.RaiseKind.TheVariants as raise
use Rattle.py_code.specs.declared.unit.CodeUnit.{CodeUnit}
use Rattle.py_code.specs.Bottom.{bottom}
use Rattle.py_code.specs.Units.{with_byte}
use Rattle.py_objects.specs.declared.refs.PyBaseExceptionRef.{PyBaseExceptionRef}
use Rattle.py_objects.specs.declared.payload.Payload.{Payload}
use Rattle.py_objects.specs.declared.payload.Payload.TheVariants as payload
use Rattle.py_objects.specs.declared.payload.ExceptionBody.{ExceptionBody}
use Rattle.py_objects.specs.declared.request.Request.{Request}
use Rattle.py_objects.specs.declared.request.Request.TheVariants as request
use Rattle.py_objects.specs.declared.event.GotAnswer.{GotAnswer}
use Rattle.py_objects.specs.declared.event.GotAnswer.TheVariants as got
use Rattle.py_objects.specs.declared.edit.Change.{Change}
use Rattle.py_objects.specs.Objects.{Obj, HasPayload, as_object}
use Rattle.py_objects.specs.Own.{Asks, Rounds}
use Rattle.py_objects.specs.Edits.{Kept, edited, edited_exception, edited_entry, with_edit, changed_by}
use Rattle.py_check.specs.declared.annotated.Annotated.{Annotated}
use Rattle.py_rows.specs.declared.block.Block.{Block}
use Rattle.py_rows.specs.declared.block.BlockType.{BlockType}
use Rattle.py_rows.specs.declared.block.BlockType.TheVariants.{Loop, TryExcept, Finally, FinallyHandler, ExceptHandler}
use Rattle.py_rows.specs.declared.block.UnwindReason.TheVariants as reason
use Rattle.py_rows.specs.declared.expect.Expect.{Expect}
use Rattle.py_rows.specs.declared.expect.Expect.TheVariants as expect
use Rattle.py_rows.specs.States.{Setting, State, Step, Goes, Tells, Stuck, waiting, jumps, landed}
use Rattle.py_rows.specs.Unwinding.{meets, unwind, unwinds}
use Rattle.py_rows.specs.Rows.{asks, asks_exit, finally_type, in_finally, takes_off, where_there}
use Rattle.py_rows.specs.Receiving.{answered, moves, receive, unit_answered}
use Rattle.py_rows.specs.RunOfRows.{IsExit, MayLead, Steps, telling}
use Rattle.py_rows.specs.Questions.{may_ask, may_raise, raise_of, UnitAsks}
use Rattle.py_rows.specs.Laws.{AllMayTell}
use Rattle.py_rows.specs.Sound.{IsSound}
use Rattle.py_objects.proofs.GrowthLemmas.{payload_grown}
use Rattle.py_objects.proofs.Slots.{slice_get-set_same, slice_get-set_other}
use Rattle.py_rows.proofs.StepLemmas.{steps_tell}
use Rattle.py_rows.proofs.GrowingLemmas.{fits_grown}
use Rattle.py_frame.specs.declared.input.FrameStep.{FrameStep}
use Rattle.py_frame.specs.declared.input.FrameStep.TheVariants as frame_step
use Rattle.py_frame.specs.declared.unit_step.UnitStep.{UnitStep}
use Rattle.py_frame.specs.declared.unit_step.UnitStep.TheVariants as unit
use Rattle.py_frame.specs.Added.{AddsConstants}
use Rattle.py_frame.specs.Exits.{HasTraceback, IsTold, TellsTraceback, TellsIf, RequestTellsExit, TellsExit, UnitTellsExit, UnitAtTellsExit}
use Rattle.py_frame.specs.Frames.{Framed, setting_of}
use Rattle.py_frame.specs.Steps.{told}
use Rattle.py_frame.specs.UnitSteps.{done, tells}
use Rattle.py_frame.proofs.AddedLemmas.{adds_grow, exception_before, traceback_before}
use Rattle.py_frame.proofs.RunningLemmas.{IsSilent}

-- ---- the unit that asks an exit

-- a step of the rows that asks an exit asks it so
abbrev StepAsks : Kept → Kept → Step → Type 0
StepAsks before behind (Goes t) = Unit {0}
StepAsks before behind (Tells (Asks at r own) t) = RequestTellsExit before behind r
StepAsks before behind (Tells x t) = Unit {0}
StepAsks before behind Stuck = Unit {0}

module _ (before behind : Kept) where
  -- what is told of no exception, and of one
  request_tells : (raised : Option PyBaseExceptionRef) (exit class v traceback : Obj) → IsExit behind.made raised class v traceback → TellsIf before behind raised traceback
      → RequestTellsExit before behind (request.Exit exit class v traceback)
  request_tells None exit class v traceback (first, is_none, last) tells e has = let same : Some payload.None ≡ Some (payload.Exception e) = sym is_none ∙ has in cc
  request_tells (Some r) exit class v traceback (same, is, below, kind) tells e has = subst (λ (w : Obj). TellsTraceback before behind w traceback) (sym same) tells

  module _ (s : State) (class v traceback : Obj) (with : (exit : Obj) → RequestTellsExit before behind (request.Exit exit class v traceback)) where
    top_asks : (stack : List Obj) → StepAsks before behind (takes_off stack (λ x rest. asks (request.Exit x class v traceback) s))
    top_asks [] = tt
    top_asks (x ∷ rest) = with x

    there_asks : (b : Bool) (step : Step) → StepAsks before behind step → StepAsks before behind (where_there b step)
    there_asks true step all = all
    there_asks false step all = tt

    type_asks : (typ : BlockType) (level : ℕ) → StepAsks before behind (finally_type typ (λ r kept. where_there (length s.stack == level) (takes_off (bottom level s.stack) (λ x rest. asks (request.Exit x class v traceback) s))))
    type_asks Loop level = tt
    type_asks (TryExcept handler) level = tt
    type_asks (Finally handler) level = tt
    type_asks (FinallyHandler r kept) level = there_asks (length s.stack == level) _ (top_asks (bottom level s.stack))
    type_asks (ExceptHandler e kept) level = tt

    blocks_ask : (blocks : List Block) → StepAsks before behind (in_finally blocks (λ level r kept outer. where_there (length s.stack == level) (takes_off (bottom level s.stack) (λ x rest. asks (request.Exit x class v traceback) s))))
    blocks_ask [] = tt
    blocks_ask (b ∷ outer) = type_asks b.typ b.level

  unit_tells : (at : ℕ) (u : UnitStep) (t : State) → StepAsks before behind (done at u t) → UnitTellsExit before behind u
  unit_tells at unit.Goes t all = tt
  unit_tells at (unit.Tells (frame_step.Ask r own)) t all = all
  unit_tells at (unit.Tells frame_step.Round) t all = tt
  unit_tells at (unit.Tells (frame_step.Yield v)) t all = tt
  unit_tells at (unit.Tells (frame_step.Return v)) t all = tt
  unit_tells at (unit.Tells (frame_step.Raise e)) t all = tt
  unit_tells at (unit.Tells frame_step.NoMemory) t all = tt

  -- what was done by the row of the question
  pub exit_asked : (raised : Option PyBaseExceptionRef) (class v traceback : Obj) (s t : State) (at : ℕ) (u : UnitStep) → IsExit behind.made raised class v traceback → TellsIf before behind raised traceback
      → asks_exit s class v traceback ≡ done at u t → UnitTellsExit before behind u
  exit_asked raised class v traceback s t at u is tells row =
      unit_tells at u t (subst (StepAsks before behind) row (blocks_ask s class v traceback (λ exit. request_tells raised exit class v traceback is tells) s.blocks))

-- ---- only that unit asks exits

-- a step asks nothing
abbrev IsQuiet : Step → Type 0
IsQuiet (Goes t) = Unit {0}
IsQuiet (Tells (Asks at r own) t) = ⊥
IsQuiet (Tells x t) = Unit {0}
IsQuiet Stuck = Unit {0}

jump_quiet : (to : ℕ) (s : State) → IsQuiet (jumps to s)
jump_quiet to s = cases (nat_lt s.at to)
  where
    cases : (b : Bool) → IsQuiet (cond b (Goes (landed to s)) (Tells (Rounds s.at) (landed to s)))
    cases true = tt
    cases false = tt

met_quiet : (e : PyBaseExceptionRef) (typ : BlockType) (level : ℕ) (outer : List Block) (s : State) (on : State → Step) → ((t : State) → IsQuiet (on t)) → IsQuiet (meets (reason.Raising e) typ level outer s on)
met_quiet e Loop level outer s on quiet = quiet _
met_quiet e (TryExcept handler) level outer s on quiet = jump_quiet handler (record s { stack = as_object e ∷ bottom level s.stack; blocks = record { typ = ExceptHandler e s.slot; level = level } ∷ outer; slot = Some e })
met_quiet e (Finally handler) level outer s on quiet =
    jump_quiet handler (record s { stack = bottom level s.stack; blocks = record { typ = FinallyHandler (Some (reason.Raising e)) s.slot; level = level } ∷ outer; slot = Some e })
met_quiet e (FinallyHandler r kept) level outer s on quiet = quiet _
met_quiet e (ExceptHandler old kept) level outer s on quiet = quiet _

unwound_quiet : (e : PyBaseExceptionRef) (blocks : List Block) (s : State) → IsQuiet (unwind (reason.Raising e) blocks s)
unwound_quiet e [] s = tt
unwound_quiet e (b ∷ outer) s = met_quiet e b.typ b.level outer s (λ t. unwind (reason.Raising e) outer t) (λ t. unwound_quiet e outer t)

raised_quiet : (e : PyBaseExceptionRef) (s : State) → IsQuiet (unwinds (reason.Raising e) s)
unfolding unwinds
raised_quiet e s = unwound_quiet e s.blocks s

-- what asks an exit is the instruction for that
no_raise : (kind : Option RaiseKind) (exit class v traceback : Obj) → may_raise kind (request.Exit exit class v traceback) ≡ true → ⊥
no_raise None exit class v traceback may = cc
no_raise (Some raise.Reraise) exit class v traceback may = cc
no_raise (Some raise.Raise) exit class v traceback may = cc
no_raise (Some raise.RaiseCause) exit class v traceback may = cc

asks_exits : (op : Instruction) (arg : ℕ) (exit class v traceback : Obj) → may_ask op arg (request.Exit exit class v traceback) ≡ true → op ≡ WithCleanupStart
asks_exits WithCleanupStart arg exit class v traceback may = refl
asks_exits Raise arg exit class v traceback may = absurd (no_raise (raise_of arg) exit class v traceback may)
asks_exits _ arg exit class v traceback may = cc

unit_asks : (there : Option CodeUnit) (exit class v traceback : Obj) → UnitAsks there (request.Exit exit class v traceback) → (u : CodeUnit) × (there ≡ Some u) × (u.op ≡ WithCleanupStart)
unit_asks None exit class v traceback asks = absurd asks
unit_asks (Some u) exit class v traceback asks = (u, refl, asks_exits u.op u.arg exit class v traceback asks)

-- it does so when it is begun, and not by what it hears
module _ (objects : List Payload) (setting : Setting) (s : State) (u : CodeUnit) (there : slice_get setting.code.code.instructions.items s.at ≡ Some u) (op : u.op ≡ WithCleanupStart) (at : ℕ) (r : Request) (own : Option PyBaseExceptionRef) (t : State) where
  heard_quiet : (w : GotAnswer) → MayLead objects (receive setting w s) (Tells (Asks at r own) t) → ⊥
  heard_quiet (got.Value v) may =
      let value : Option CodeUnit → Type 0 = λ o. MayLead objects (unit_answered o v (waiting expect.Go s)) (Tells (Asks at r own) t) in
      let by_op : Instruction → Type 0 = λ x. MayLead objects (answered x (with_byte s.prefix u.arg) v (waiting expect.Go s)) (Tells (Asks at r own) t) in
      let goes = subst by_op op (subst value there may) in
      cc goes
  heard_quiet (got.Raise e) may = subst IsQuiet may (raised_quiet e (waiting expect.Go s))
  heard_quiet (got.Stop v) may = cc may

  goes_then : (x : Expect) → MayLead objects (moves setting x s) (Tells (Asks at r own) t) → x ≡ expect.Go
  goes_then expect.Start may = cc may
  goes_then expect.Go may = refl
  goes_then (expect.Answer w) may = cc may
  goes_then expect.Resume may = cc may
  goes_then (expect.Heard w) may = absurd (heard_quiet w may)
  goes_then expect.Ended may = cc may

-- ---- among fewer objects

-- an edit, and changes, make the same of an exception among any objects
edit_alike : (xs ys : List Payload) (c : Change) (i : ℕ) (e : ExceptionBody) → slice_get xs i ≡ Some (payload.Exception e) → slice_get ys i ≡ Some (payload.Exception e)
    → (f : ExceptionBody) × (slice_get (with_edit xs c.object c.edit) i ≡ Some (payload.Exception f)) × (slice_get (with_edit ys c.object c.edit) i ≡ Some (payload.Exception f))
edit_alike xs ys c i e in_xs in_ys = by (cases_eq c.object.number i)
  where
    here : (zs : List Payload) → slice_get zs i ≡ Some (payload.Exception e) → c.object.number ≡ i → slice_get (with_edit zs c.object c.edit) i ≡ Some (payload.Exception (edited_exception c.edit e))
    here zs in_zs same =
        let at : slice_get zs c.object.number ≡ Some (payload.Exception e) = ap (slice_get zs) same ∙ in_zs in
        ap (λ (o : Option Payload). slice_get (edited_entry zs c.edit c.object.number o) i) at
        ∙ ap (λ (j : ℕ). slice_get (set zs j (payload.Exception (edited_exception c.edit e))) i) same
        ∙ slice_get-set_same zs i (payload.Exception (edited_exception c.edit e)) (slice_get_within zs i (payload.Exception e) in_zs)

    away : (zs : List Payload) (o : Option Payload) → slice_get zs i ≡ Some (payload.Exception e) → (c.object.number ≡ i → ⊥) → slice_get (edited_entry zs c.edit c.object.number o) i ≡ Some (payload.Exception e)
    away zs None in_zs apart = in_zs
    away zs (Some p) in_zs apart = slice_get-set_other zs c.object.number i (edited zs c.edit p) apart ∙ in_zs

    by : (c.object.number ≡ i) ⊎ (c.object.number ≡ i → ⊥)
        → (f : ExceptionBody) × (slice_get (with_edit xs c.object c.edit) i ≡ Some (payload.Exception f)) × (slice_get (with_edit ys c.object c.edit) i ≡ Some (payload.Exception f))
    by (inl same) = (edited_exception c.edit e, here xs in_xs same, here ys in_ys same)
    by (inr apart) = (e, away xs (slice_get xs c.object.number) in_xs apart, away ys (slice_get ys c.object.number) in_ys apart)

changed_alike : (xs ys : List Payload) (cs : List Change) (i : ℕ) (e : ExceptionBody) → slice_get xs i ≡ Some (payload.Exception e) → slice_get ys i ≡ Some (payload.Exception e)
    → (f : ExceptionBody) × (slice_get (changed_by xs cs) i ≡ Some (payload.Exception f)) × (slice_get (changed_by ys cs) i ≡ Some (payload.Exception f))
changed_alike xs ys [] i e in_xs in_ys = (e, in_xs, in_ys)
changed_alike xs ys (c ∷ cs) i e in_xs in_ys =
    let (f, x, y) = edit_alike xs ys c i e in_xs in_ys in changed_alike (with_edit xs c.object c.edit) (with_edit ys c.object c.edit) cs i f x y

-- silent steps added constants in front of the unit that asks
module _ (first before behind : Kept) (adds : AddsConstants first.made before.made) (changes : before.changes ≡ first.changes) (more : AddsConstants before.made behind.made) where
  has_then : (v : Obj) (t : Option Obj) (e : ExceptionBody) → HasPayload first.made v (payload.Exception e) → HasTraceback before v t → HasTraceback first v t
  has_then v t e has (f, now, is) =
      let grown = payload_grown first.made before.made v (payload.Exception e) (adds_grow first.made before.made adds) has in
      let (g, in_first, in_before) = changed_alike first.made before.made first.changes v.number e has grown in
      let found : slice_get (changed_by before.made first.changes) v.number ≡ Some (payload.Exception f) = subst (λ (cs : List Change). slice_get (changed_by before.made cs) v.number ≡ Some (payload.Exception f)) changes now in
      let same : payload.Exception g ≡ payload.Exception f = same_Some _ _ (sym in_before ∙ found) in
      (f, in_first ∙ ap Some same, is)

  told_then : (t : Option Obj) (v : Obj) → IsTold before behind t v → IsTold first behind t v
  told_then None v tells = tells
  told_then (Some t) v (inl (is, same)) = inl (traceback_before first.made before.made adds t is, same)
  told_then (Some t) v (inr (not, none)) = inr (λ (body, has). not (body, payload_grown first.made before.made t _ (adds_grow first.made before.made adds) has), none)

  asked_then : (r : Request) → RequestTellsExit before behind r → RequestTellsExit first behind r
  asked_then (request.Exit exit class v traceback) asks = λ e has.
      let (t, tells, is_told) = asks e has in
      let there = exception_before first.made before.made adds v e (exception_before before.made behind.made more v e has) in
      (t, has_then v t e there tells, told_then t traceback is_told)
  asked_then _ asks = tt

  -- what a step tells that was silent so far
  module _ (names : List (List ℕ)) (code : Annotated) (sound : IsSound names code) (f g : Framed) (t : State) (silently : IsSilent before.made names code f g) where
    request_told : (r : Request) (own : Option PyBaseExceptionRef) → MayLead behind.made (moves (setting_of names code g) g.state.wants g.state) (Tells (Asks g.state.at r own) t)
        → (g.state.wants ≡ expect.Go → UnitAtTellsExit (slice_get code.code.code.instructions.items g.state.at) before behind (unit.Tells (frame_step.Ask r own))) → RequestTellsExit first behind r
    request_told (request.Exit exit class v traceback) own may did =
        let told_step : Steps behind.made (setting_of names code g) g.state (Asks g.state.at (request.Exit exit class v traceback) own ∷ []) t = telling (Asks g.state.at (request.Exit exit class v traceback) own) t may in
        let all : AllMayTell behind.made code.code (Asks g.state.at (request.Exit exit class v traceback) own ∷ []) =
        steps_tell behind.made names g.scope.globals g.closure code sound g.state (Asks g.state.at (request.Exit exit class v traceback) own ∷ []) t (fits_grown before.made behind.made (adds_grow before.made behind.made more) code g.state.wants g.state silently.fits) told_step in
        let (u, there, op) = unit_asks (slice_get code.code.code.instructions.items g.state.at) exit class v traceback all.0 in
        let goes = goes_then behind.made (setting_of names code g) g.state u there op g.state.at (request.Exit exit class v traceback) own t g.state.wants may in
        asked_then (request.Exit exit class v traceback) (did goes u there op)
    request_told _ own may did = tt

    pub step_told : (x : UnitStep) (step : FrameStep) → x ≡ unit.Tells step → MayLead behind.made (moves (setting_of names code g) g.state.wants g.state) (done g.state.at x t)
        → (g.state.wants ≡ expect.Go → UnitAtTellsExit (slice_get code.code.code.instructions.items g.state.at) before behind x) → TellsExit first behind step
    step_told x step is may did =
        by step (subst (λ (y : UnitStep). MayLead behind.made (moves (setting_of names code g) g.state.wants g.state) (done g.state.at y t)) is may)
        (subst (λ (y : UnitStep). g.state.wants ≡ expect.Go → UnitAtTellsExit (slice_get code.code.code.instructions.items g.state.at) before behind y) is did)
      where
        by : (y : FrameStep) → MayLead behind.made (moves (setting_of names code g) g.state.wants g.state) (tells (told g.state.at y) t)
            → (g.state.wants ≡ expect.Go → UnitAtTellsExit (slice_get code.code.code.instructions.items g.state.at) before behind (unit.Tells y)) → TellsExit first behind y
        by (frame_step.Ask r own) lead told_so = request_told r own lead told_so
        by frame_step.Round lead told_so = tt
        by (frame_step.Yield v) lead told_so = tt
        by (frame_step.Return v) lead told_so = tt
        by (frame_step.Raise e) lead told_so = tt
        by frame_step.NoMemory lead told_so = tt
