-- A frame that waits isn't stuck by an answer that is as wanted, and fits behind the unit that waited.
use Rattle.std.proofs.Common.{subst, zero, ◌≡◌, ◌+◌, ◌≤◌, ℕ, suc, List, [], ◌∷◌, Bool, Option, None, Some, true, false, ◌&&◌, not, ◌⊎◌, inl, inr, refl, ap, length, drop, length-drop, arith, cond}
use Rattle.std.specs.Prelude.{slice_get, nat_lt, ◌==◌}
use Rattle.std.proofs.lemmas.Bool.{and_parts, and_from}
use Rattle.py_code.specs.declared.unit.CodeUnit.{CodeUnit}
use Rattle.py_code.specs.declared.instruction.Instruction.{Instruction}
use Rattle.py_code.specs.declared.instruction.Instruction.TheVariants.{LoadFast, DeleteFast, CallFunctionPositional, JumpIfTrue, JumpIfFalse, SetupWith, WithCleanupStart, WithCleanupFinish, Raise, YieldValue}
use Rattle.py_code.specs.declared.operator.RaiseKind.{RaiseKind}
use Rattle.py_code.specs.declared.operator.RaiseKind.TheVariants as raise
use Rattle.py_code.specs.Operators.{raise_kinds}
use Rattle.py_code.specs.Units.{with_byte, is_prefix}
use Rattle.py_objects.specs.declared.payload.Payload.{Payload}
use Rattle.py_objects.specs.Objects.{Obj}
use Rattle.py_check.specs.declared.note.Kind.{Kind}
use Rattle.py_check.specs.declared.note.Kind.TheVariants as kind
use Rattle.py_check.specs.declared.note.BlockNote.{BlockNote}
use Rattle.py_check.specs.declared.note.BlockNote.TheVariants as note
use Rattle.py_check.specs.declared.annotated.Annotated.{Annotated}
use Rattle.py_check.specs.Notes.{level_of}
use Rattle.py_check.specs.Operands.{carried, is_label}
use Rattle.py_check.specs.Effects.{Effect, Moves, AsksOnce, Takes, Other, effect, has_operand}
use Rattle.py_rows.specs.Table.{row_effect}
use Rattle.py_check.specs.Running.{runs}
use Rattle.py_check.specs.Sheet.{sheet_of}
use Rattle.py_check.specs.Landing.{top_level, lands, goes_on, handlers_land}
use Rattle.py_check.specs.Taking.{takes_top}
use Rattle.py_check.specs.Leaving.{is_finally_handler, starts_cleanup, ends_cleanup}
use Rattle.py_check.specs.Typing.{may_yield, keeps_by, keeps_own, keeps_op}
use Rattle.py_rows.specs.declared.block.Block.{Block}
use Rattle.py_rows.specs.declared.block.BlockType.TheVariants.{Finally}
use Rattle.py_rows.specs.declared.block.UnwindReason.TheVariants as reason
use Rattle.py_rows.specs.declared.expect.Expect.TheVariants as expect
use Rattle.py_rows.specs.States.{State, Step, Move, next, with_stack, pushed}
use Rattle.py_rows.specs.Unwinding.{left}
use Rattle.py_rows.specs.Answers.{IsValue}
use Rattle.py_rows.specs.Rows.{takes_off}
use Rattle.py_objects.specs.declared.request.Request.TheVariants as request
use Rattle.py_rows.specs.Receiving.{entered, asks_again, enters_top, enters, passes_if, jumps_if, causes, raised, answered_by, answered_own, answered}
use Rattle.py_rows.specs.Fitting.{with_left, HaveKinds, IsBlock, AreBlocks, Has, Waiting, cause_left, raise_left, left_own, left_by, left_of}
use Rattle.py_check.specs.declared.note.Note.TheVariants.{Live}
use Rattle.py_rows.specs.declared.expect.Wanted.TheVariants as want
use Rattle.py_rows.specs.Laws.{Always}
use Rattle.py_rows.specs.Questions.{may_raise}
use Rattle.py_rows.proofs.KindLemmas.{kinds_counted}
use Rattle.py_rows.proofs.LandingLemmas.{Fits, StepFits, may_jumped}
use Rattle.py_rows.proofs.BehindLemmas.{fits_behind}
use Rattle.py_rows.proofs.UnwindingLemmas.{leaves, leaves_with}
use Rattle.py_rows.proofs.TakingLemmas.{off, bottom-cons, handlers_same, raises_by, raised_as, takes_rest, takes_any, ends_exit}
use Rattle.py_rows.proofs.AskingLemmas.{unit_asks, raise_is}
use Rattle.py_rows.proofs.ActingLemmas.{second_taken, drop_two, other_or_plain, listed_asks}
use Rattle.py_rows.proofs.RunningLemmas.{is_taken, none_taken, row_is}

-- any top will do where any is wanted
any_top : (objects : List Payload) (stack : List Obj) (kinds : List Kind) → HaveKinds objects stack kinds → 1 ≤ length kinds → HaveKinds objects stack (kind.Any ∷ drop 1 kinds)
any_top objects stack [] holds some = absurd (omega (arith, some))
any_top objects [] (k ∷ kinds) holds some = absurd holds
any_top objects (v ∷ stack) (k ∷ kinds) holds some = (tt, holds.1)

module _ (objects : List Payload) (code : Annotated) (shapes : List ℕ) (s : State) (kinds : List Kind) (blocks : List BlockNote) (unit : CodeUnit) (is : slice_get code.code.code.instructions.items s.at ≡ Some unit) (goes : s.wants ≡ expect.Go) (note_is : slice_get code.notes s.at ≡ Some (Live kinds blocks)) (carries : s.prefix ≡ carried code.code.code.instructions.items s.at) where
  abbrev Led : Step → Type 0
  Led step = StepFits objects code step

  abbrev goes_with : List Kind → List BlockNote → Bool
  goes_with ks bs = goes_on (sheet_of code) (s.at + 1) ks bs

  -- what is known of a frame that waited, and of the value that it gets
  abbrev pub Given : Obj → Option Waiting → Type 0
  Given v None = ⊥
  Given v (Some l) = Has objects code l.kinds l.blocks s × IsValue objects l.wanted v

  goes_behind : is_prefix unit.op ≡ false → (ks : List Kind) (bs : List BlockNote) (stack : List Obj) (ds : List Block) → goes_with ks bs ≡ true → HaveKinds objects stack ks → AreBlocks objects ds bs
      → length s.locals ≡ length code.code.code.varnames.items → Fits objects code (record s { at = suc s.at; prefix = 0; stack = stack; blocks = ds })
  goes_behind plain ks bs stack ds may holds are count = fits_behind objects code s unit is goes plain ks bs stack ds s.locals s.slot may holds are count

  -- both ways of a jump
  ways_fit : is_prefix unit.op ≡ false → (to : ℕ) → is_label code.code.code.instructions.items to ≡ true → takes_top kinds blocks (λ rest. lands (sheet_of code) to rest blocks && goes_with rest blocks) ≡ true → Has objects code (drop 1 kinds) blocks s → (b : Bool) → Led (jumps_if b to s)
  ways_fit plain to label keeps has true =
      let both = takes_rest (kind.Any ∷ []) kinds blocks (λ rest. lands (sheet_of code) to rest blocks && goes_with rest blocks) keeps in
      let there = (and_parts (lands (sheet_of code) to (drop 1 kinds) blocks) (goes_with (drop 1 kinds) blocks) both.0).0 in
      may_jumped objects code to (drop 1 kinds) blocks s goes (and_from (is_label code.code.code.instructions.items to) (lands (sheet_of code) to (drop 1 kinds) blocks) label there) has.holds has.blocks has.locals
  ways_fit plain to label keeps has false =
      let both = takes_rest (kind.Any ∷ []) kinds blocks (λ rest. lands (sheet_of code) to rest blocks && goes_with rest blocks) keeps in
      goes_behind plain (drop 1 kinds) blocks s.stack s.blocks (and_parts (lands (sheet_of code) to (drop 1 kinds) blocks) (goes_with (drop 1 kinds) blocks) both.0).1 has.holds has.blocks has.locals

  by_answer : (e : Effect) (own : Move) (left : Option Waiting) (keeps : Bool) (v : Obj) → (e ≡ Other) ⊎ (is_prefix unit.op ≡ false) → is_taken e ≡ false → keeps_by (sheet_of code) s.at e keeps kinds blocks ≡ true → Given v (left_by e left kinds blocks)
      → (keeps ≡ true → Given v left → Always objects (StepFits objects code) own) → Always objects (StepFits objects code) (answered_by e own v s)
  by_answer (Moves n places) own left keeps v plain none may given led = absurd given
  by_answer (AsksOnce taken pushes) own left keeps v (inl other) none may given led = absurd (listed_asks taken pushes other)
  by_answer (AsksOnce taken None) own left keeps v (inr plain) none may given led =
      let rest = takes_rest taken kinds blocks (λ rest. goes_with rest blocks) may in
      goes_behind plain (drop (length taken) kinds) blocks s.stack s.blocks rest.0 given.0.holds given.0.blocks given.0.locals
  by_answer (AsksOnce taken (Some k)) own left keeps v (inr plain) none may given led =
      let rest = takes_rest taken kinds blocks (λ rest. goes_with (k ∷ rest) blocks) may in
      goes_behind plain (k ∷ drop (length taken) kinds) blocks (v ∷ s.stack) s.blocks rest.0 (given.1, given.0.holds) given.0.blocks given.0.locals
  by_answer (Takes n pushes) own left keeps v plain none may given led = cc
  by_answer Other own left keeps v plain none may given led = led may given

  starts_fit : is_prefix unit.op ≡ false → (v : Obj) (bs : List BlockNote) → starts_cleanup (sheet_of code) (s.at + 1) kinds bs ≡ true → Has objects code kinds bs s → Fits objects code (pushed v (next s))
  starts_fit plain v [] keeps has = cc
  starts_fit plain v (c ∷ cs) keeps has =
      let may = (and_parts (is_finally_handler c && (length kinds == level_of c) && nat_lt (top_level cs) (level_of c)) (goes_with (kind.Any ∷ kinds) (c ∷ cs)) keeps).1 in
      goes_behind plain (kind.Any ∷ kinds) (c ∷ cs) (v ∷ s.stack) s.blocks may (tt, has.holds) has.blocks has.locals

  -- an exception that waited goes no further, or on
  passes_fit : is_prefix unit.op ≡ false → (bs : List BlockNote) → ends_cleanup (sheet_of code) (s.at + 1) kinds bs ≡ true → Has objects code (kind.Exc ∷ drop 2 kinds) (drop 1 bs) s → (b : Bool) → (stack : List Obj) → HaveKinds objects stack (kind.Exc ∷ drop 2 kinds)
      → Led (takes_off stack (λ e rest. passes_if b e (with_stack rest s)))
  passes_fit plain [] keeps has b stack holds = cc
  passes_fit plain (c ∷ cs) keeps has b [] holds = absurd holds
  passes_fit plain (c ∷ cs) keeps has true (e ∷ rest) holds =
      goes_behind plain (drop 2 kinds) cs rest s.blocks (ends_exit code (s.at + 1) kinds c cs keeps).goes holds.1 has.blocks has.locals
  passes_fit plain (c ∷ cs) keeps has false (e ∷ rest) holds =
      leaves objects code (reason.Raising (record { number = e.number })) (drop 2 kinds) cs (with_stack rest s) goes (omega (arith, has.room, length-drop 2 kinds)) holds.0
      (handlers_same (sheet_of code) (kind.Exc ∷ drop 2 kinds) (drop 2 kinds) cs (bottom-cons (top_level cs) kind.Exc (drop 2 kinds) (ends_exit code (s.at + 1) kinds c cs keeps).top) has.handlers) holds.1 has.blocks has.locals

  causes_fit : (i : ℕ) (v : Obj) (n : ℕ) → s.phase ≡ n → unit.op ≡ Raise → with_byte s.prefix unit.arg ≡ i → slice_get raise_kinds i ≡ Some raise.RaiseCause → raises_by (Some raise.RaiseCause) kinds blocks ≡ true
      → Given v (cause_left n kinds blocks) → Led (causes n v s)
  causes_fit i v zero here is_op operand kind_is keeps given =
      off objects code (drop 1 kinds) blocks (λ rest. true) s (StepFits objects code) _ (second_taken kinds blocks keeps) given.0
      (λ w vs has' keeps count holds.
      let t : State = record s { stack = vs; phase = suc s.phase; wants = expect.Answer (want.Of kind.Exc) } in
      let one : suc s.phase ≡ 1 = ap suc here in
      let waits : left_of unit.op (with_byte s.prefix unit.arg) (suc s.phase) kinds blocks ≡ Some (record { kinds = drop 2 kinds; blocks = blocks; wanted = want.Of kind.Exc }) =
      rw (is_op, operand, one, kind_is) refl in
      let left_has : Has objects code (drop 2 kinds) blocks t =
      record { holds = subst (HaveKinds objects vs) (drop_two kinds) has'.holds; blocks = has'.blocks; handlers = subst (λ (ks : List Kind). handlers_land (sheet_of code) ks blocks ≡ true) (drop_two kinds) has'.handlers; room = subst (λ (ks : List Kind). length ks ≤ code.code.code.max_stackdepth) (drop_two kinds) has'.room; block_room = has'.block_room; locals = has'.locals } in
      (unit_asks code.code.code.instructions.items s.at unit is Raise is_op (request.Raisable w) (ap (λ (o : Option RaiseKind). may_raise o (request.Raisable w)) (raise_is s.prefix unit.arg i raise.RaiseCause operand kind_is)), record { unit = unit; is = is; kinds = kinds; block_notes = blocks; note = note_is; left = record { kinds = drop 2 kinds; blocks = blocks; wanted = want.Of kind.Exc }; waits = waits; suits = λ objects v is. is; has = left_has; carries = carries }))
  causes_fit i v (suc n) here is_op operand kind_is keeps given = leaves_with objects code (reason.Raising (record { number = v.number })) (drop 2 kinds) blocks s goes given.1 given.0

  raised_fits : (i : ℕ) (v : Obj) (k : Option RaiseKind) → unit.op ≡ Raise → with_byte s.prefix unit.arg ≡ i → slice_get raise_kinds i ≡ k → raises_by k kinds blocks ≡ true → Given v (raise_left k s.phase kinds blocks) → Led (raised k v s)
  raised_fits i v None is_op operand kind_is keeps given = absurd given
  raised_fits i v (Some raise.Reraise) is_op operand kind_is keeps given = leaves_with objects code (reason.Raising (record { number = v.number })) kinds blocks s goes given.1 given.0
  raised_fits i v (Some raise.Raise) is_op operand kind_is keeps given = leaves_with objects code (reason.Raising (record { number = v.number })) (drop 1 kinds) blocks s goes given.1 given.0
  raised_fits i v (Some raise.RaiseCause) is_op operand kind_is keeps given = causes_fit i v s.phase refl is_op operand kind_is keeps given

  -- a manager is entered, or has no exit
  entered_fit : (to : ℕ) (v : Obj) → is_prefix unit.op ≡ false → keeps_own shapes (sheet_of code) s.at SetupWith to kinds blocks ≡ true → Has objects code kinds blocks s → Led (entered to v s)
  entered_fit to v plain keeps has =
      let rest = takes_rest (kind.Any ∷ []) kinds blocks (λ rest. goes_with (kind.Any ∷ kind.Any ∷ rest) (note.Finally (suc (length rest)) to ∷ blocks)) keeps in
      let level : length s.stack ≡ suc (length (drop 1 kinds)) = omega (arith, kinds_counted objects s.stack kinds has.holds, length-drop 1 kinds, rest.2) in
      let block : IsBlock objects (record { typ = Finally to; level = length s.stack }) (note.Finally (suc (length (drop 1 kinds))) to) = record { number = refl; level = level; handler = refl; waits = tt } in
      goes_behind plain (kind.Any ∷ kind.Any ∷ drop 1 kinds) (note.Finally (suc (length (drop 1 kinds))) to ∷ blocks) (v ∷ s.stack) (record { typ = Finally to; level = length s.stack } ∷ s.blocks) rest.0
      (tt, any_top objects s.stack kinds has.holds rest.2) (block, has.blocks) has.locals

  no_exit_fits : (m : Obj) → unit.op ≡ SetupWith → Has objects code kinds blocks s → Led (asks_again (request.NoExit m) s)
  no_exit_fits m is_op has =
      let t : State = record s { phase = suc s.phase; wants = expect.Answer want.NoValue } in
      let waits : left_of unit.op (with_byte s.prefix unit.arg) (suc s.phase) kinds blocks ≡ Some (record { kinds = kinds; blocks = blocks; wanted = want.NoValue }) = rw is_op refl in
      let left_has : Has objects code kinds blocks t = record { holds = has.holds; blocks = has.blocks; handlers = has.handlers; room = has.room; block_room = has.block_room; locals = has.locals } in
      (unit_asks code.code.code.instructions.items s.at unit is SetupWith is_op (request.NoExit m) refl, record { unit = unit; is = is; kinds = kinds; block_notes = blocks; note = note_is; left = record { kinds = kinds; blocks = blocks; wanted = want.NoValue }; waits = waits; suits = λ objects v is. is; has = left_has; carries = carries })

  enters_top_fit : (to : ℕ) (v : Obj) → unit.op ≡ SetupWith → keeps_own shapes (sheet_of code) s.at SetupWith to kinds blocks ≡ true → Has objects code kinds blocks s → (stack : List Obj) → 1 ≤ length stack
      → Always objects (StepFits objects code) (enters_top stack to v s)
  enters_top_fit to v is_op keeps has [] some = absurd (omega (arith, some))
  enters_top_fit to v is_op keeps has (m ∷ rest) some = by_test
    where
      by_test : (b : Bool) → Led (cond b (entered to v s) (asks_again (request.NoExit m) s))
      by_test true = entered_fit to v (ap is_prefix is_op) keeps has
      by_test false = no_exit_fits m is_op has

  enters_fit : (to : ℕ) (v : Obj) (n : ℕ) → unit.op ≡ SetupWith → with_byte s.prefix unit.arg ≡ to → keeps_own shapes (sheet_of code) s.at SetupWith to kinds blocks ≡ true → Given v (with_left n kinds blocks)
      → Always objects (StepFits objects code) (enters n to v s)
  enters_fit to v zero is_op operand keeps given =
      let rest = takes_rest (kind.Any ∷ []) kinds blocks (λ rest. goes_with (kind.Any ∷ kind.Any ∷ rest) (note.Finally (suc (length rest)) to ∷ blocks)) keeps in
      enters_top_fit to v is_op keeps given.0 s.stack (omega (arith, kinds_counted objects s.stack kinds given.0.holds, rest.2))
  enters_fit to v (suc n) is_op operand keeps given = absurd given.1

  own_answered : (op : Instruction) (i : ℕ) (v : Obj) → unit.op ≡ op → with_byte s.prefix unit.arg ≡ i → has_operand (sheet_of code) op i ≡ true → keeps_own shapes (sheet_of code) s.at op i kinds blocks ≡ true → Given v (left_own op i s.phase kinds blocks) → Always objects (StepFits objects code) (answered_own op i v s)
  own_answered LoadFast i v is_op operand there keeps given = absurd given.1
  own_answered DeleteFast i v is_op operand there keeps given = absurd given.1
  own_answered CallFunctionPositional k v is_op operand there keeps given =
      let rest = takes_any (suc k) kinds blocks (λ rest. goes_with (kind.Any ∷ rest) blocks) keeps in
      goes_behind (ap is_prefix is_op) (kind.Any ∷ drop (suc k) kinds) blocks (v ∷ s.stack) s.blocks rest.0 (tt, given.0.holds) given.0.blocks given.0.locals
  own_answered JumpIfTrue to v is_op operand there keeps given = (given.1, λ b. ways_fit (ap is_prefix is_op) to there keeps given.0 b)
  own_answered JumpIfFalse to v is_op operand there keeps given = (given.1, λ b. ways_fit (ap is_prefix is_op) to there keeps given.0 (not b))
  own_answered SetupWith to v is_op operand there keeps given = enters_fit to v s.phase is_op operand keeps given
  own_answered WithCleanupStart i v is_op operand there keeps given = starts_fit (ap is_prefix is_op) v blocks keeps given.0
  own_answered WithCleanupFinish i v is_op operand there keeps given = (given.1, λ b. passes_fit (ap is_prefix is_op) blocks keeps given.0 b s.stack given.0.holds)
  own_answered Raise i v is_op operand there keeps given = raised_fits i v (slice_get raise_kinds i) is_op operand refl (raised_as i kinds blocks there keeps) given
  own_answered YieldValue i v is_op operand there keeps given =
      let parts = and_parts (may_yield code.code.code.flags) (takes_top kinds blocks (λ rest. goes_with (kind.Any ∷ rest) blocks)) keeps in
      let rest = takes_rest (kind.Any ∷ []) kinds blocks (λ rest. goes_with (kind.Any ∷ rest) blocks) parts.1 in
      goes_behind (ap is_prefix is_op) (kind.Any ∷ drop 1 kinds) blocks (v ∷ s.stack) s.blocks rest.0 (tt, given.0.holds) given.0.blocks given.0.locals
  own_answered _ i v is_op operand there keeps given = absurd given

  pub answered_fits : (op : Instruction) (i : ℕ) (v : Obj) → unit.op ≡ op → with_byte s.prefix unit.arg ≡ i → keeps_op shapes (sheet_of code) s.at op i kinds blocks ≡ true → runs (sheet_of code) op i ≡ true
      → Given v (left_of op i s.phase kinds blocks) → Always objects (StepFits objects code) (answered op i v s)
  answered_fits op i v is_op operand keeps run given =
      let own : Bool = keeps_own shapes (sheet_of code) s.at op i kinds blocks in
      let parts = and_parts (has_operand (sheet_of code) op i) (keeps_by (sheet_of code) s.at (effect op i) own kinds blocks) keeps in
      let may = subst (λ (e : Effect). keeps_by (sheet_of code) s.at e own kinds blocks ≡ true) (row_is (sheet_of code) op i run) parts.1 in
      by_answer (row_effect op i) (answered_own op i v s) (left_own op i s.phase kinds blocks) own v (other_or_plain op i unit.op is_op) (none_taken op i) may given
      (λ own given. own_answered op i v is_op operand parts.0 own given)
