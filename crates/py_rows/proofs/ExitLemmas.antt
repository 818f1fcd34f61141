-- What a run that asks for an exit tells it.
use Rattle.std.proofs.Common.{◌≡◌, ◌∙◌, ◌++◌, append-nil, ℕ, List, [], ◌∷◌, Bool, Option, None, Some, true, false, cond, refl, sym, subst, length}
use Rattle.std.specs.Prelude.{slice_get, nat_lt, ◌==◌}
use Rattle.py_code.specs.Bottom.{bottom}
use Rattle.py_code.specs.Units.{with_byte}
use Rattle.py_code.specs.declared.unit.CodeUnit.{CodeUnit}
use Rattle.py_code.specs.declared.instruction.Instruction.{Instruction}
use Rattle.py_code.specs.declared.instruction.Instruction.TheVariants.{WithCleanupStart, Raise}
use Rattle.py_code.specs.declared.operator.RaiseKind.{RaiseKind}
use Rattle.py_code.specs.declared.operator.RaiseKind.TheVariants as raise
use Rattle.py_objects.specs.declared.refs.PyBaseExceptionRef.{PyBaseExceptionRef}
use Rattle.py_objects.specs.declared.payload.Payload.{Payload}
use Rattle.py_objects.specs.declared.request.Request.TheVariants as request
use Rattle.py_objects.specs.declared.event.GotAnswer.TheVariants as got
use Rattle.py_objects.specs.Objects.{Obj, as_object}
use Rattle.py_objects.specs.Own.{Own, Asks, Rounds}
use Rattle.py_rows.specs.declared.block.Block.{Block}
use Rattle.py_rows.specs.declared.block.BlockType.{BlockType}
use Rattle.py_rows.specs.declared.block.BlockType.TheVariants.{Loop, TryExcept, Finally, FinallyHandler, ExceptHandler}
use Rattle.py_rows.specs.declared.block.UnwindReason.{UnwindReason}
use Rattle.py_rows.specs.declared.block.UnwindReason.TheVariants as reason
use Rattle.py_rows.specs.declared.expect.Expect.{Expect}
use Rattle.py_rows.specs.declared.expect.Expect.TheVariants as expect
use Rattle.py_rows.specs.States.{Setting, State, Step, Goes, Tells, Stuck, Move, Exits, begun, waiting, landed, jumps}
use Rattle.py_rows.specs.Handled.{entered_by}
use Rattle.py_rows.specs.Questions.{raise_of, may_raise, may_ask, UnitAsks}
use Rattle.py_rows.specs.Rows.{where_there, takes_off, asks, in_finally, asks_exit, act, unit_move, raised_in}
use Rattle.py_rows.specs.Unwinding.{left, left_handler, meets, unwind, unwinds}
use Rattle.py_rows.specs.Receiving.{moves, answered, unit_answered}
use Rattle.py_rows.specs.RunOfRows.{IsExit, MayLead, Hears, Steps, silent, telling, hearing, Runs, none, on}
use Rattle.py_rows.proofs.WalkLemmas.{step_led}

-- whether an event is a question
abbrev is_question : Own → Bool
is_question (Asks at r own) = true
is_question _ = false

-- a step that asks nothing
abbrev AsksNothing : Step → Type 0
AsksNothing (Goes t) = Unit {0}
AsksNothing (Tells x t) = is_question x ≡ false
AsksNothing Stuck = Unit {0}

jumps_silently : (to : ℕ) (s : State) → AsksNothing (jumps to s)
jumps_silently to s = by_test (nat_lt s.at to)
  where
    by_test : (b : Bool) → AsksNothing (cond b (Goes (landed to s)) (Tells (Rounds s.at) (landed to s)))
    by_test true = tt
    by_test false = refl

met_silently : (r : UnwindReason) (typ : BlockType) (level : ℕ) (outer : List Block) (s : State) (past : State → Step) → ((t : State) → AsksNothing (past t)) → AsksNothing (meets r typ level outer s past)
met_silently (reason.Raising e) Loop level outer s past out = out (left level outer s)
met_silently (reason.Returning v) Loop level outer s past out = out (left level outer s)
met_silently (reason.Break to) Loop level outer s past out = jumps_silently to (left level outer s)
met_silently (reason.Continue to) Loop level outer s past out = jumps_silently to s
met_silently (reason.Raising e) (TryExcept handler) level outer s past out =
    jumps_silently handler (record s { stack = as_object e ∷ bottom level s.stack; blocks = record { typ = ExceptHandler e s.slot; level = level } ∷ outer; slot = Some e })
met_silently (reason.Returning v) (TryExcept handler) level outer s past out = out (left level outer s)
met_silently (reason.Break to) (TryExcept handler) level outer s past out = out (left level outer s)
met_silently (reason.Continue to) (TryExcept handler) level outer s past out = out (left level outer s)
met_silently r (Finally handler) level outer s past out =
    jumps_silently handler (record s { stack = bottom level s.stack; blocks = record { typ = FinallyHandler (Some r) s.slot; level = level } ∷ outer; slot = entered_by r s.slot })
met_silently r (FinallyHandler old kept) level outer s past out = out (left_handler level kept outer s)
met_silently r (ExceptHandler e kept) level outer s past out = out (left_handler level kept outer s)

-- leaving blocks asks nothing
unwound_silently : (r : UnwindReason) (ds : List Block) (s : State) → AsksNothing (unwind r ds s)
unwound_silently (reason.Raising e) [] s = refl
unwound_silently (reason.Returning v) [] s = refl
unwound_silently (reason.Break to) [] s = tt
unwound_silently (reason.Continue to) [] s = tt
unwound_silently r (b ∷ outer) s = met_silently r b.typ b.level outer s (λ t. unwind r outer t) (λ t. unwound_silently r outer t)

unwinds_silently : (r : UnwindReason) (s : State) → AsksNothing (unwinds r s)
unfolding unwinds
unwinds_silently r s = unwound_silently r s.blocks s

-- only one instruction asks for an exit
raise_asks : (k : Option RaiseKind) (x t v b : Obj) → may_raise k (request.Exit x t v b) ≡ true → ⊥
raise_asks None x t v b may = cc
raise_asks (Some raise.Reraise) x t v b may = cc
raise_asks (Some raise.Raise) x t v b may = cc
raise_asks (Some raise.RaiseCause) x t v b may = cc

-- an exit is told these of an exception, or of none
abbrev pub IsSomeExit : List Payload → (t v b : Obj) → Type 0
IsSomeExit objects t v b = (e : Option PyBaseExceptionRef) × IsExit objects e t v b

module _ (x k v b : Obj) (own : Option PyBaseExceptionRef) (at : ℕ) where
  -- the question
  abbrev exit : Own
  exit = Asks at (request.Exit x k v b) own

  module _ (s t : State) (k0 v0 b0 : Obj) where
    abbrev asked_of : Bool → List Obj → Step
    asked_of there vs = where_there there (takes_off vs (λ y rest. asks (request.Exit y k0 v0 b0) s))

    abbrev in_blocks : List Block → Step
    in_blocks ds = in_finally ds (λ level r kept outer. asked_of (length s.stack == level) (bottom level s.stack))

    -- a step that tells the exit tells these
    abbrev ToldBy : Step → Type 0
    ToldBy step = step ≡ Tells exit t → (k0 ≡ k) × (v0 ≡ v) × (b0 ≡ b)

    by_there : (there : Bool) (vs : List Obj) → ToldBy (asked_of there vs)
    by_there false vs = λ told. absurd (cc told)
    by_there true [] = λ told. absurd (cc told)
    by_there true (y ∷ rest) = λ told. (cc, cc, cc)

    by_type : (typ : BlockType) (level : ℕ) (outer : List Block) → ToldBy (in_blocks (record { typ = typ; level = level } ∷ outer))
    by_type Loop level outer = λ told. absurd (cc told)
    by_type (TryExcept handler) level outer = λ told. absurd (cc told)
    by_type (Finally handler) level outer = λ told. absurd (cc told)
    by_type (FinallyHandler r kept) level outer = by_there (length s.stack == level) (bottom level s.stack)
    by_type (ExceptHandler e kept) level outer = λ told. absurd (cc told)

    by_blocks : (ds : List Block) → ToldBy (in_blocks ds)
    by_blocks [] = λ told. absurd (cc told)
    by_blocks (d ∷ outer) = by_type d.typ d.level outer

    step_told : ToldBy (asks_exit s k0 v0 b0)
    step_told = by_blocks s.blocks

  module _ (objects : List Payload) (setting : Setting) (t : State) where
    abbrev TellsExit : Move → Type 0
    TellsExit m = MayLead objects m (Tells exit t) → IsSomeExit objects k v b

    by_exit : (s : State) (e : Option PyBaseExceptionRef) → TellsExit (Exits e (λ t v b. asks_exit s t v b))
    by_exit s e (k0, v0, b0, exits, told) =
        let (same_k, same_v, same_b) = step_told s t k0 v0 b0 told in
        (e, subst (λ (o : Obj). IsExit objects e k v o) same_b (subst (λ (o : Obj). IsExit objects e k o b0) same_v (subst (λ (o : Obj). IsExit objects e o v0 b0) same_k exits)))

    by_acting : (op : Instruction) (arg i : ℕ) (s : State) → may_ask op arg (request.Exit x k v b) ≡ true → TellsExit (act setting op i s)
    by_acting WithCleanupStart arg i s may = by_exit s (raised_in s.blocks)
    by_acting Raise arg i s may = absurd (raise_asks (raise_of arg) x k v b may)
    by_acting _ arg i s may = absurd (cc may)

    by_answering : (op : Instruction) (arg i : ℕ) (w : Obj) (s : State) → may_ask op arg (request.Exit x k v b) ≡ true → TellsExit (answered op i w s)
    by_answering WithCleanupStart arg i w s may = λ told. absurd (cc told)
    by_answering Raise arg i w s may = absurd (raise_asks (raise_of arg) x k v b may)
    by_answering _ arg i w s may = absurd (cc may)

    by_unit : (unit : Option CodeUnit) (s : State) → UnitAsks unit (request.Exit x k v b) → TellsExit (unit_move setting unit s)
    by_unit None s may = absurd may
    by_unit (Some u) s may = by_acting u.op u.arg (with_byte s.prefix u.arg) (begun s) may

    by_answer : (unit : Option CodeUnit) (w : Obj) (s : State) → UnitAsks unit (request.Exit x k v b) → TellsExit (unit_answered unit w s)
    by_answer None w s may = absurd may
    by_answer (Some u) w s may = by_answering u.op u.arg (with_byte s.prefix u.arg) w s may

    by_raise : (step : Step) → AsksNothing step → step ≡ Tells exit t → ⊥
    by_raise (Goes u) nothing told = cc
    by_raise (Tells y u) nothing told = let same : y ≡ exit = cc in let clash : true ≡ false = subst (λ (z : Own). is_question z ≡ false) same nothing in cc
    by_raise Stuck nothing told = cc

    by_expect : (w : Expect) (s : State) → UnitAsks (slice_get setting.code.code.instructions.items s.at) (request.Exit x k v b) → TellsExit (moves setting w s)
    by_expect expect.Start s may = λ told. absurd (cc told)
    by_expect expect.Go s may = by_unit (slice_get setting.code.code.instructions.items s.at) s may
    by_expect (expect.Answer w) s may = λ told. absurd (cc told)
    by_expect expect.Resume s may = λ told. absurd (cc told)
    by_expect (expect.Heard (got.Value w)) s may = by_answer (slice_get setting.code.code.instructions.items s.at) w (waiting expect.Go s) may
    by_expect (expect.Heard (got.Stop w)) s may = λ told. absurd (cc told)
    by_expect (expect.Heard (got.Raise e)) s may = λ told. absurd (by_raise (unwinds (reason.Raising e) (waiting expect.Go s)) (unwinds_silently (reason.Raising e) (waiting expect.Go s)) told)
    by_expect expect.Ended s may = λ told. absurd (cc told)

    -- a question is of the unit at which it was asked
    asked_at : (s : State) → MayLead objects (moves setting s.wants s) (Tells exit t) → at ≡ s.at
    asked_at s told =
        let led = step_led s.slot ⊥ ⊥ objects setting s
        (record { good = record { handled = λ m. absurd m; keep = λ m. absurd m; blocks = λ m. absurd m; exception = λ m. absurd m }; stack = λ m. absurd m; locals = λ m. absurd m })
        (Tells exit t) (λ m. absurd m) (λ m. absurd m) told in
        led.0.0

    move_told : (s : State) → UnitAsks (slice_get setting.code.code.instructions.items at) (request.Exit x k v b) → TellsExit (moves setting s.wants s)
    move_told s may told = by_expect s.wants s (subst (λ (i : ℕ). UnitAsks (slice_get setting.code.code.instructions.items i) (request.Exit x k v b)) (asked_at s told) may) told

    hears_none : (w next : Expect) → Hears objects setting w exit next → ⊥
    hears_none expect.Start next hears = hears
    hears_none expect.Go next hears = hears
    hears_none (expect.Answer w) next hears = hears
    hears_none expect.Resume next hears = hears
    hears_none (expect.Heard w) next hears = hears
    hears_none expect.Ended next hears = hears

-- one event in all, told last
one_last : (us : List Own) (x y : Own) → us ++ x ∷ [] ≡ y ∷ [] → (us ≡ []) × (x ≡ y)
one_last [] x y is = (refl, cc)
one_last (u ∷ []) x y is = absurd (cc is)
one_last (u ∷ w ∷ us) x y is = absurd (cc is)

module _ (objects : List Payload) (setting : Setting) (x k v b : Obj) (own : Option PyBaseExceptionRef) (at : ℕ)
    (may : UnitAsks (slice_get setting.code.code.instructions.items at) (request.Exit x k v b)) where
  abbrev exit_asked : Own
  exit_asked = exit x k v b own at

  told_on : (s t : State) (xs : List Own) → xs ≡ exit_asked ∷ [] → Runs objects setting s xs t → IsSomeExit objects k v b
  told_on s _ _ is none = absurd (cc is)
  told_on s _ _ is (on {us = us} {vs = vs} {t = t} u run step) = by_step u vs step (λ first. told_on s t us first run) is
    where
      by_step : (u : State) (ws : List Own) → Steps objects setting t ws u → (us ≡ exit_asked ∷ [] → IsSomeExit objects k v b) → us ++ ws ≡ exit_asked ∷ [] → IsSomeExit objects k v b
      by_step _ _ (silent u goes) earlier is = earlier (sym (append-nil us) ∙ is)
      by_step _ _ (telling y u tells) earlier is =
          let (before, same) = one_last us y exit_asked is in
          move_told x k v b own at objects setting u t may (subst (λ (z : Own). MayLead objects (moves setting t.wants t) (Tells z u)) same tells)
      by_step _ _ (hearing y w hears under) earlier is =
          let (before, same) = one_last us y exit_asked is in
          absurd (hears_none x k v b own at objects setting t t.wants w (subst (λ (z : Own). Hears objects setting t.wants z w) same hears))

-- a run that asks for an exit, and tells nothing beside it, tells it an exception between its class and a traceback or None, or
-- three times None
pub exit_told : (objects : List Payload) (setting : Setting) (s t : State) (x k v b : Obj) (own : Option PyBaseExceptionRef) (at : ℕ) → UnitAsks (slice_get setting.code.code.instructions.items at) (request.Exit x k v b)
    → Runs objects setting s (Asks at (request.Exit x k v b) own ∷ []) t → IsSomeExit objects k v b
exit_told objects setting s t x k v b own at may run = told_on objects setting x k v b own at may s t _ refl run
