-- A frame that fits its note isn't stuck, and fits behind the unit that runs.
use Rattle.std.proofs.Common.{◌≡◌, ◌∙◌, ◌+◌, ◌-◌, ◌<◌, ◌≤◌, ℕ, suc, List, [], ◌∷◌, ◌++◌, Bool, Option, None, Some, true, false, ◌&&◌, ◌⊎◌, inl, inr, refl, sym, ap, subst, length, reverse, take, drop, length-drop, arith}
use Rattle.std.specs.Prelude.{slice_get, slice_set, nat_lt, nat_le, option_map, replicate, ◌==◌}
use Rattle.std.specs.List.{list_all}
use Rattle.std.proofs.Math.ListN.{length-set}
use Rattle.std.proofs.lemmas.Bool.{and_parts, le-leb, and_from, eqb-true, eq-eqb, ltb-true, leb-true}
use Rattle.std.proofs.lemmas.List.{length-take-le, length-reverse}
use Rattle.py_code.specs.declared.unit.CodeUnit.{CodeUnit}
use Rattle.py_code.specs.declared.instruction.Instruction.{Instruction}
use Rattle.py_code.specs.declared.instruction.Instruction.TheVariants.{LoadConst, LoadFast, StoreFast, DeleteFast, CallFunctionPositional, Jump, JumpIfTrue, JumpIfFalse, SetupLoop, SetupExcept, SetupFinally, EnterFinally, EndFinally, SetupWith, WithCleanupStart, WithCleanupFinish, PopBlock, PopException, Raise, Break, Continue, ReturnValue, ReturnConst, YieldValue, ExtendedArg}
use Rattle.py_code.specs.declared.literal.Literal.{Literal}
use Rattle.py_code.specs.declared.operator.RaiseKind.{RaiseKind}
use Rattle.py_code.specs.declared.operator.RaiseKind.TheVariants as raise
use Rattle.py_code.specs.Literals.{literals_of}
use Rattle.py_code.specs.Operators.{raise_kinds}
use Rattle.py_code.specs.Units.{with_byte, is_prefix}
use Rattle.py_objects.specs.declared.refs.PyBaseExceptionRef.{PyBaseExceptionRef}
use Rattle.py_objects.specs.declared.payload.Payload.{Payload}
use Rattle.py_objects.specs.declared.request.Request.{Request}
use Rattle.py_objects.specs.declared.request.Request.TheVariants as request
use Rattle.py_objects.specs.Objects.{Obj, Name, as_object}
use Rattle.py_objects.specs.Callees.{call_request}
use Rattle.py_check.specs.declared.note.Kind.{Kind}
use Rattle.py_check.specs.declared.note.Kind.TheVariants as kind
use Rattle.py_check.specs.declared.note.Note.TheVariants.{Live}
use Rattle.py_check.specs.declared.note.BlockNote.{BlockNote}
use Rattle.py_check.specs.declared.note.BlockNote.TheVariants as note
use Rattle.py_check.specs.declared.annotated.Annotated.{Annotated}
use Rattle.py_check.specs.Constants.{kind_of}
use Rattle.py_check.specs.Running.{loads_constant, runs}
use Rattle.py_check.specs.Notes.{kind_fits, block_number, level_of, pending_of}
use Rattle.py_check.specs.Operands.{carried, is_label, prefixes}
use Rattle.py_check.specs.Effects.{Effect, Moves, AsksOnce, Takes, Other, effect, has_operand}
use Rattle.py_rows.specs.Table.{row_effect}
use Rattle.py_rows.specs.Rows.{is_there, reaches, loads, asks, asks_if, takes_off, where_there, acts_by, load_fast, delete_fast, if_popped, pop_block, pop_type, pop_exception, finally_type, in_finally, goes_on as goes_on_with, end_finally, raised_by, raised_of, raised_in, asks_exit, finishes, finish_cleanup, raises, calls, call_function, act_own, act}
use Rattle.py_check.specs.Sheet.{Sheet, sheet_of}
use Rattle.py_check.specs.Landing.{top_level, has_room, lands, goes_on, handlers_land}
use Rattle.py_code.specs.Bottom.{bottom}
use Rattle.py_check.specs.Taking.{takes, takes_top, at_place, picked, moved_kinds, may_move}
use Rattle.py_check.specs.Leaving.{is_finally_handler, is_except_handler, ends_finally, leaves_handler, starts_cleanup, ends_cleanup, walks, is_popped, leaves_block}
use Rattle.py_check.specs.Typing.{may_yield, keeps_by, keeps_own, keeps_op}
use Rattle.py_check.specs.Constants as constants
use Rattle.py_check.specs.Landing as landing
use Rattle.py_rows.specs.declared.block.Block.{Block}
use Rattle.py_rows.specs.declared.block.BlockType.{BlockType}
use Rattle.py_rows.specs.declared.block.BlockType.TheVariants.{Loop, TryExcept, Finally, FinallyHandler, ExceptHandler}
use Rattle.py_rows.specs.declared.block.UnwindReason.{UnwindReason}
use Rattle.py_rows.specs.declared.block.UnwindReason.TheVariants as reason
use Rattle.py_rows.specs.declared.expect.Wanted.{Wanted}
use Rattle.py_rows.specs.declared.expect.Wanted.TheVariants as want
use Rattle.py_rows.specs.declared.expect.Expect.{Expect}
use Rattle.py_rows.specs.declared.expect.Expect.TheVariants as expect
use Rattle.py_rows.specs.States.{State, Step, Goes, Move, next, with_stack, opened}
use Rattle.py_rows.specs.Unwinding.{left}
use Rattle.py_rows.specs.Answers.{HasKind}
use Rattle.py_rows.specs.Suits.{Suits}
use Rattle.py_rows.specs.Answers as answers
use Rattle.py_rows.specs.Asked.{name_of_local, asked}
use Rattle.py_rows.specs.Questions.{raise_of, may_raise, may_ask, UnitAsks, UnitYields}
use Rattle.py_rows.specs.Fitting.{HaveKinds, MayWait, TypeWaits, type_number, IsBlock, AreBlocks, Has, wanted_of, raise_left, left_own, left_by, left_of, FitsBut}
use Rattle.py_rows.specs.Sound.{IsSound}
use Rattle.py_rows.specs.Laws.{RaisedThere, Always, setting_of}
use Rattle.py_rows.proofs.ConstantLemmas.{constant_kind}
use Rattle.py_rows.proofs.KindLemmas.{kinds_counted, kinds_dropped, kinds_under, kinds_joined, kinds_moved}
use Rattle.py_rows.proofs.BlockLemmas.{waiting_admitted}
use Rattle.py_rows.proofs.TypingLemmas.{prefix_carried}
use Rattle.py_rows.proofs.LandingLemmas.{Fits, StepFits, arrived, on_fits, may_jumped}
use Rattle.py_rows.proofs.BehindLemmas.{arrives_behind, fits_behind}
use Rattle.py_rows.proofs.UnwindingLemmas.{leaves, leaves_with}
use Rattle.py_rows.proofs.TakingLemmas.{bottom-cons, bottom-drop, handlers_same, raises_by, raised_as, reached, places_there, takes_rest, takes_any, has_under, off, EndsExit, ends_exit}
use Rattle.py_rows.proofs.RunningLemmas.{is_taken, none_taken, row_is}
use Rattle.py_rows.proofs.AskingLemmas.{unit_asks, raise_is, got_there, Wants, AsksAs, named, asked_there, call_asked}

pub where_true : (P : Step → Type 0) (b : Bool) (step : Step) → b ≡ true → P step → P (where_there b step)
where_true P true step is led = led
where_true P false step is led = absurd (cc is)

-- only instructions that aren't in the table are prefixes
by_prefix : (op : Instruction) (i : ℕ) → (row_effect op i ≡ Other) ⊎ (is_prefix op ≡ false)
by_prefix ExtendedArg i = inl refl
by_prefix _ i = inr refl

pub other_or_plain : (op : Instruction) (i : ℕ) (u : Instruction) → u ≡ op → (row_effect op i ≡ Other) ⊎ (is_prefix u ≡ false)
other_or_plain op i u is_op = subst (λ (o : Instruction). (row_effect op i ≡ Other) ⊎ (is_prefix o ≡ false)) (sym is_op) (by_prefix op i)

abbrev is_other : Effect → Bool
is_other (Moves n places) = false
is_other (AsksOnce wanted pushes) = false
is_other (Takes n pushes) = false
is_other Other = true

pub listed_moves : (n : ℕ) (places : List ℕ) → Moves n places ≡ Other → ⊥
listed_moves n places is = let clash : false ≡ true = ap is_other is in cc

pub listed_asks : (wanted : List Kind) (pushes : Option Kind) → AsksOnce wanted pushes ≡ Other → ⊥
listed_asks wanted pushes is = let clash : false ≡ true = ap is_other is in cc

-- the handlers outside of the innermost block
pub outer_handlers : (sheet : Sheet) (ks : List Kind) (b : BlockNote) (bs : List BlockNote) → handlers_land sheet ks (b ∷ bs) ≡ true → handlers_land sheet (bottom (level_of b) ks) bs ≡ true
outer_handlers sheet ks b bs hs = (and_parts (landing.handler_lands sheet b (bottom (level_of b) ks) bs) (handlers_land sheet (bottom (level_of b) ks) bs) hs).1

-- the first of two operands
first_taken : (kinds : List Kind) (blocks : List BlockNote) → takes (kind.Any ∷ kind.Any ∷ []) kinds blocks (λ rest. true) ≡ true → takes (kind.Any ∷ []) kinds blocks (λ rest. true) ≡ true
first_taken [] blocks may = cc
first_taken (k ∷ []) blocks may = let parts = and_parts (kind_fits k kind.Any) false may in cc
first_taken (k ∷ l ∷ ks) blocks may =
    let one = and_parts (kind_fits k kind.Any) (kind_fits l kind.Any && (nat_le (top_level blocks) (length ks) && true)) may in
    let two = and_parts (kind_fits l kind.Any) (nat_le (top_level blocks) (length ks) && true) one.1 in
    let below = and_parts (nat_le (top_level blocks) (length ks)) true two.1 in
    and_from (kind_fits k kind.Any) (nat_le (top_level blocks) (suc (length ks)) && true) one.0
    (and_from (nat_le (top_level blocks) (suc (length ks))) true (le-leb (top_level blocks) (suc (length ks)) (omega (arith, leb-true (top_level blocks) (length ks) below.0))) refl)

pub second_taken : (kinds : List Kind) (blocks : List BlockNote) → takes (kind.Any ∷ kind.Any ∷ []) kinds blocks (λ rest. true) ≡ true → takes (kind.Any ∷ []) (drop 1 kinds) blocks (λ rest. true) ≡ true
second_taken [] blocks may = cc
second_taken (k ∷ ks) blocks may = (and_parts (kind_fits k kind.Any) (takes (kind.Any ∷ []) ks blocks (λ rest. true)) may).1

pub drop_two : (kinds : List Kind) → drop 1 (drop 1 kinds) ≡ drop 2 kinds
drop_two [] = refl
drop_two (k ∷ kinds) = refl

module _ (objects : List Payload) (names : List (List ℕ)) (globals : Obj) (closure : List Obj) (code : Annotated) (sound : IsSound names code) (s : State) (kinds : List Kind) (blocks : List BlockNote) (unit : CodeUnit) (is : slice_get code.code.code.instructions.items s.at ≡ Some unit) (note_is : slice_get code.notes s.at ≡ Some (Live kinds blocks)) (goes : s.wants ≡ expect.Go) (fresh : s.phase ≡ 0) (has : Has objects code kinds blocks s) (carries : s.prefix ≡ carried code.code.code.instructions.items s.at) where
  abbrev Led : Step → Type 0
  Led step = StepFits objects code step

  abbrev goes_with : List Kind → List BlockNote → Bool
  goes_with ks bs = goes_on (sheet_of code) (s.at + 1) ks bs

  abbrev behind : List Obj → List Block → List (Option Obj) → Option PyBaseExceptionRef → State
  behind stack ds locals slot = record s { at = suc s.at; prefix = 0; stack = stack; blocks = ds; locals = locals; slot = slot }

  goes_behind : is_prefix unit.op ≡ false → (ks : List Kind) (bs : List BlockNote) (stack : List Obj) (ds : List Block) (locals : List (Option Obj)) (slot : Option PyBaseExceptionRef) → goes_with ks bs ≡ true
      → HaveKinds objects stack ks → AreBlocks objects ds bs → length locals ≡ length code.code.code.varnames.items → Fits objects code (behind stack ds locals slot)
  goes_behind plain ks bs stack ds locals slot may holds are count = fits_behind objects code s unit is goes plain ks bs stack ds locals slot may holds are count

  -- the unit may ask what its instruction may
  may_be_asked : (op : Instruction) → unit.op ≡ op → (r : Request) → may_ask op unit.arg r ≡ true → UnitAsks (slice_get code.code.code.instructions.items s.at) r
  may_be_asked op is_op r asks = unit_asks code.code.code.instructions.items s.at unit is op is_op r asks

  -- a frame that waits fits the note but for what its unit took
  waits_but : (op : Instruction) (i : ℕ) → unit.op ≡ op → with_byte s.prefix unit.arg ≡ i → (w : Wanted) (ks : List Kind) (bs : List BlockNote) (wanted : Wanted) (stack : List Obj) (ds : List Block) (slot : Option PyBaseExceptionRef) (x : Expect)
      → left_of op i 0 kinds blocks ≡ Some (record { kinds = ks; blocks = bs; wanted = wanted }) → Suits w wanted → Has objects code ks bs (record s { stack = stack; blocks = ds; slot = slot })
      → FitsBut objects code w (record s { stack = stack; blocks = ds; slot = slot; wants = x })
  waits_but op i is_op operand w ks bs wanted stack ds slot x waits suits has' = record {
    unit = unit;
    is = is;
    kinds = kinds;
    block_notes = blocks;
    note = note_is;
    left = record { kinds = ks; blocks = bs; wanted = wanted };
    waits = subst (λ (o : Instruction). left_of o (with_byte s.prefix unit.arg) s.phase kinds blocks ≡ Some (record { kinds = ks; blocks = bs; wanted = wanted })) (sym is_op)
        (subst (λ (n : ℕ). left_of op n s.phase kinds blocks ≡ Some (record { kinds = ks; blocks = bs; wanted = wanted })) (sym operand)
        (subst (λ (p : ℕ). left_of op i p kinds blocks ≡ Some (record { kinds = ks; blocks = bs; wanted = wanted })) (sym fresh) waits));
    suits = suits;
    has = record { holds = has'.holds; blocks = has'.blocks; handlers = has'.handlers; room = has'.room; block_room = has'.block_room; locals = has'.locals };
    carries = carries;
  }

  -- what the table of effects describes
  by_effect : (op : Instruction) (i : ℕ) (e : Effect) (f : List Obj → Option Request) (own : Move) (keeps : Bool) → unit.op ≡ op → with_byte s.prefix unit.arg ≡ i → (e ≡ Other) ⊎ (is_prefix unit.op ≡ false) → is_taken e ≡ false
      → left_of op i 0 kinds blocks ≡ left_by e (left_own op i 0 kinds blocks) kinds blocks → AsksAs op e f → (keeps ≡ true → Always objects (StepFits objects code) own)
      → keeps_by (sheet_of code) s.at e keeps kinds blocks ≡ true → Always objects (StepFits objects code) (acts_by e f own s)
  by_effect op i (Moves n places) f own keeps is_op operand (inl other) none left asks led may = absurd (listed_moves n places other)
  by_effect op i (Moves n places) f own keeps is_op operand (inr plain) none left asks led may =
      let parts = and_parts (may_move n places (length kinds) (top_level blocks)) (goes_with (moved_kinds n places kinds ++ drop n kinds) blocks) may in
      let moves = and_parts (nat_le n (length kinds) && nat_le (top_level blocks) (length kinds - n)) (list_all (λ p. nat_lt p (length kinds)) places) parts.0 in
      let enough = (and_parts (nat_le n (length kinds)) (nat_le (top_level blocks) (length kinds - n)) moves.0).0 in
      let count : length kinds ≡ length s.stack = sym (kinds_counted objects s.stack kinds has.holds) in
      let places_below : list_all (λ p. nat_lt p (length s.stack)) places ≡ true = subst (λ (m : ℕ). list_all (λ p. nat_lt p m) places ≡ true) count moves.1 in
      let test = and_from (reaches n s.stack) (list_all (λ p. is_there (slice_get s.stack p)) places) (reached n s.stack (omega (arith, count, leb-true n (length kinds) enough))) (places_there objects places s.stack places_below) in
      where_true (StepFits objects code) _ _ test
      (goes_behind plain (moved_kinds n places kinds ++ drop n kinds) blocks (picked places s.stack ++ drop n s.stack) s.blocks s.locals s.slot parts.1
      (kinds_joined objects (picked places s.stack) (drop n s.stack) (moved_kinds n places kinds) (drop n kinds) (kinds_moved objects n places s.stack kinds places_below has.holds) (kinds_dropped objects n s.stack kinds has.holds))
      has.blocks has.locals)
  by_effect op i (AsksOnce wanted pushes) f own keeps is_op operand plain none left asks led may =
      let below = takes_rest wanted kinds blocks (λ rest. goes_with (at_place pushes ++ rest) blocks) may in
      let enough : length wanted ≤ length s.stack = omega (arith, kinds_counted objects s.stack kinds has.holds, below.2) in
      where_true (StepFits objects code) _ _ (reached (length wanted) s.stack enough)
      (asks_fit (f (take (length wanted) s.stack)) (asks (take (length wanted) s.stack) (length-take-le (length wanted) s.stack enough)) (has_under objects code (length wanted) kinds blocks s below.1 has))
    where
      asks_fit : (r : Option Request) → Wants op pushes r → Has objects code (drop (length wanted) kinds) blocks (with_stack (drop (length wanted) s.stack) s) → Led (asks_if r (with_stack (drop (length wanted) s.stack) s))
      asks_fit None wants has' = absurd wants
      asks_fit (Some r) wants has' =
          (may_be_asked op is_op r (wants.1 unit.arg), waits_but op i is_op operand (answers.wanted r) (drop (length wanted) kinds) blocks (wanted_of pushes) (drop (length wanted) s.stack) s.blocks s.slot (expect.Answer (answers.wanted r)) left wants.0 has')
  by_effect op i (Takes n pushes) f own keeps is_op operand plain none left asks led may = cc
  by_effect op i Other f own keeps is_op operand plain none left asks led may = led may

  -- loads
  loads_fit : (literal : Option Literal) (rest : Kind → Bool) (f : Obj → Step) → loads_constant literal ≡ true → constants.loads literal rest ≡ true → ((k : Kind) (v : Obj) → rest k ≡ true → HasKind objects v k → Led (f v))
      → Always objects (StepFits objects code) (loads literal f)
  loads_fit None rest f run keeps fits = cc
  loads_fit (Some l) rest f run keeps fits = λ v has. fits (kind_of l) v keeps (constant_kind objects v l has)

  -- a constant that is loaded is there
  loaded_there : (literal : Option Literal) → loads_constant literal ≡ true → constants.loads literal (λ k. true) ≡ true
  loaded_there None run = cc
  loaded_there (Some l) run = refl

  -- a local that is unset is asked for by its name
  unbound_fits : (op : Instruction) (i : ℕ) → unit.op ≡ op → with_byte s.prefix unit.arg ≡ i → left_of op i 0 kinds blocks ≡ Some (record { kinds = kinds; blocks = blocks; wanted = want.NoValue }) → ((x : Name) → may_ask op unit.arg (request.Unbound x) ≡ true)
      → nat_lt i (length code.code.code.varnames.items) ≡ true → Led (asks_if (option_map (λ x. request.Unbound x) (name_of_local (setting_of names globals closure code) i)) s)
  unbound_fits op i is_op operand left asks below =
      let (x, there) = named names code.code.code.varnames.items i sound.named.locals (ltb-true i (length code.code.code.varnames.items) below) in
      subst (λ (o : Option Name). Led (asks_if (option_map (λ x. request.Unbound x) o) s)) (sym there)
      (may_be_asked op is_op (request.Unbound x) (asks x), waits_but op i is_op operand want.NoValue kinds blocks want.NoValue s.stack s.blocks s.slot (expect.Answer want.NoValue) left (λ o v is. is) has)

  local_there : (i : ℕ) → nat_lt i (length code.code.code.varnames.items) ≡ true → slice_get s.locals i ≡ None → ⊥
  local_there i below none = let (local, is) = got_there s.locals i (omega (arith, ltb-true i (length code.code.code.varnames.items) below, has.locals)) in cc

  load_fast_fits : (i : ℕ) → unit.op ≡ LoadFast → with_byte s.prefix unit.arg ≡ i → nat_lt i (length code.code.code.varnames.items) ≡ true → goes_with (kind.Any ∷ kinds) blocks ≡ true → (local : Option (Option Obj)) → slice_get s.locals i ≡ local
      → Led (load_fast (name_of_local (setting_of names globals closure code) i) local s)
  load_fast_fits i is_op operand below may None here = absurd (local_there i below here)
  load_fast_fits i is_op operand below may (Some None) here = unbound_fits LoadFast i is_op operand refl (λ x. refl) below
  load_fast_fits i is_op operand below may (Some (Some v)) here = goes_behind (ap is_prefix is_op) (kind.Any ∷ kinds) blocks (v ∷ s.stack) s.blocks s.locals s.slot may (tt, has.holds) has.blocks has.locals

  delete_fast_fits : (i : ℕ) → unit.op ≡ DeleteFast → with_byte s.prefix unit.arg ≡ i → nat_lt i (length code.code.code.varnames.items) ≡ true → goes_with kinds blocks ≡ true → (local : Option (Option Obj)) → slice_get s.locals i ≡ local
      → Led (delete_fast (name_of_local (setting_of names globals closure code) i) i local s)
  delete_fast_fits i is_op operand below may None here = absurd (local_there i below here)
  delete_fast_fits i is_op operand below may (Some None) here = unbound_fits DeleteFast i is_op operand refl (λ x. refl) below
  delete_fast_fits i is_op operand below may (Some (Some v)) here =
      goes_behind (ap is_prefix is_op) kinds blocks s.stack s.blocks (slice_set s.locals i None) s.slot may has.holds has.blocks (length-set s.locals i None ∙ has.locals)

  -- a block that is opened
  opens_fit : is_prefix unit.op ≡ false → (b : Block) (c : BlockNote) → IsBlock objects b c → goes_with kinds (c ∷ blocks) ≡ true → Fits objects code (opened b (next s))
  opens_fit plain b c block may = goes_behind plain kinds (c ∷ blocks) s.stack (b ∷ s.blocks) s.locals s.slot may has.holds (block, has.blocks) has.locals

  -- blocks that end
  pop_block_fits : is_prefix unit.op ≡ false → (ds : List Block) (bs : List BlockNote) → AreBlocks objects ds bs → leaves_block (sheet_of code) (s.at + 1) kinds bs ≡ true → Led (pop_block ds s)
  pop_block_fits plain [] [] are may = cc
  pop_block_fits plain [] (c ∷ cs) are may = absurd are
  pop_block_fits plain (b ∷ bs) [] are may = absurd are
  pop_block_fits plain (b ∷ bs) (c ∷ cs) are may =
      let parts = and_parts (is_popped c) (goes_with (bottom (level_of c) kinds) cs) may in
      let fits : Fits objects code (next (left b.level bs s)) =
      goes_behind plain (bottom (level_of c) kinds) cs (bottom b.level s.stack) bs s.locals s.slot parts.1 (kinds_under objects (level_of c) b.level s.stack kinds are.0.level has.holds) are.1 has.locals in
      popped b.typ c are.0.number parts.0 (Goes (next (left b.level bs s))) fits
    where
      popped : (typ : BlockType) (c : BlockNote) → type_number typ ≡ block_number c → is_popped c ≡ true → (step : Step) → Led step → Led (if_popped typ step)
      popped Loop c number is step led = led
      popped (TryExcept handler) c number is step led = led
      popped (Finally handler) c number is step led = led
      popped (FinallyHandler r kept) (note.FinallyHandler l ps) number is step led = cc
      popped (ExceptHandler e kept) (note.ExceptHandler l) number is step led = cc
      popped typ c number is step led = cc

  pop_exception_fits : is_prefix unit.op ≡ false → (ds : List Block) (bs : List BlockNote) → AreBlocks objects ds bs → leaves_handler (sheet_of code) (s.at + 1) kinds bs ≡ true → Led (pop_exception ds s)
  pop_exception_fits plain [] [] are may = cc
  pop_exception_fits plain [] (c ∷ cs) are may = absurd are
  pop_exception_fits plain (b ∷ bs) [] are may = absurd are
  pop_exception_fits plain (b ∷ bs) (c ∷ cs) are may =
      let parts = and_parts (is_except_handler c) (goes_with (bottom (level_of c) kinds) cs) may in
      popped b.typ c are.0.number parts.0 _
      (λ kept. goes_behind plain (bottom (level_of c) kinds) cs (bottom b.level s.stack) bs s.locals kept parts.1 (kinds_under objects (level_of c) b.level s.stack kinds are.0.level has.holds) are.1 has.locals)
    where
      popped : (typ : BlockType) (c : BlockNote) → type_number typ ≡ block_number c → is_except_handler c ≡ true → (f : Option PyBaseExceptionRef → Step) → ((kept : Option PyBaseExceptionRef) → Led (f kept)) → Led (pop_type typ f)
      popped (ExceptHandler e kept) c number is f led = led kept
      popped typ (note.ExceptHandler l) number is f led = cc
      popped typ c number is f led = cc

  -- the handler of a finally, which is the innermost block
  in_finally_fits : (ds : List Block) (c : BlockNote) (cs : List BlockNote) → AreBlocks objects ds (c ∷ cs) → is_finally_handler c ≡ true → (f : ℕ → Option UnwindReason → Option PyBaseExceptionRef → List Block → Step)
      → ((level : ℕ) (r : Option UnwindReason) (kept : Option PyBaseExceptionRef) (outer : List Block) → level ≡ level_of c → MayWait objects (pending_of c) r → AreBlocks objects outer cs → Led (f level r kept outer)) → Led (in_finally ds f)
  in_finally_fits [] c cs are is f led = absurd are
  in_finally_fits (b ∷ bs) c cs are is f led = by_type b.typ c are.0.number is are.0.waits _ (λ r kept waits. led b.level r kept bs are.0.level waits are.1)
    where
      by_type : (typ : BlockType) (c : BlockNote) → type_number typ ≡ block_number c → is_finally_handler c ≡ true → TypeWaits objects (pending_of c) typ → (g : Option UnwindReason → Option PyBaseExceptionRef → Step)
          → ((r : Option UnwindReason) (kept : Option PyBaseExceptionRef) → MayWait objects (pending_of c) r → Led (g r kept)) → Led (finally_type typ g)
      by_type (FinallyHandler r kept) c number is waits g led = led r kept waits
      by_type typ (note.FinallyHandler l ps) number is waits g led = cc
      by_type typ c number is waits g led = cc

  -- what the rules say of a finally that ends with these kinds and blocks outside of it
  goes_on_fits : is_prefix unit.op ≡ false → (c : BlockNote) (cs : List BlockNote) (ks : List Kind) (stack : List Obj) (outer : List Block) (kept : Option PyBaseExceptionRef) (r : Option UnwindReason)
      → goes_with ks cs ≡ true → list_all (λ p. walks (sheet_of code) p ks cs) (pending_of c) ≡ true → handlers_land (sheet_of code) ks cs ≡ true → MayWait objects (pending_of c) r → HaveKinds objects stack ks → AreBlocks objects outer cs
      → Led (goes_on_with r (record s { stack = stack; blocks = outer; slot = kept }))
  goes_on_fits plain c cs ks stack outer kept None may walk hs waits holds are = goes_behind plain ks cs stack outer s.locals kept may holds are has.locals
  goes_on_fits plain c cs ks stack outer kept (Some r) may walk hs waits holds are =
      leaves objects code r ks cs (record s { stack = stack; blocks = outer; slot = kept }) goes (leb-true (length ks) code.code.code.max_stackdepth (and_parts (has_room (sheet_of code) ks) (lands (sheet_of code) (s.at + 1) ks cs) may).0) (waiting_admitted objects (λ p. walks (sheet_of code) p ks cs) (pending_of c) r walk waits) hs holds are has.locals

  end_finally_fits : is_prefix unit.op ≡ false → (bs : List BlockNote) → AreBlocks objects s.blocks bs → handlers_land (sheet_of code) kinds bs ≡ true → ends_finally (sheet_of code) (s.at + 1) kinds bs ≡ true → Led (end_finally s)
  end_finally_fits plain [] are hs may = cc
  end_finally_fits plain (c ∷ cs) are hs may =
      let under : List Kind = bottom (level_of c) kinds in
      let parts = and_parts (is_finally_handler c && goes_with under cs) (list_all (λ p. walks (sheet_of code) p under cs) (pending_of c)) may in
      let two = and_parts (is_finally_handler c) (goes_with under cs) parts.0 in
      in_finally_fits s.blocks c cs are two.0 _
      (λ level r kept outer same waits outer_are. goes_on_fits plain c cs under (bottom level s.stack) outer kept r two.1 parts.1 (outer_handlers (sheet_of code) kinds c cs hs) waits (kinds_under objects (level_of c) level s.stack kinds same has.holds) outer_are)

  off_there : (stack : List Obj) → 1 ≤ length stack → (f : Obj → List Obj → Step) → ((v : Obj) (rest : List Obj) → stack ≡ v ∷ rest → Led (f v rest)) → Led (takes_off stack f)
  off_there [] some f led = absurd (omega (arith, some))
  off_there (v ∷ rest) some f led = led v rest refl

  stack_count : length s.stack ≡ length kinds
  stack_count = kinds_counted objects s.stack kinds has.holds

  -- what a finally was entered by is there
  raised_there : (ds : List Block) (bs : List BlockNote) → AreBlocks objects ds bs → RaisedThere objects (raised_in ds)
  raised_there [] bs are = tt
  raised_there (b ∷ ds) [] are = absurd are
  raised_there (b ∷ ds) (c ∷ cs) are = by_type b.typ are.0.waits
    where
      by_reason : (r : Option UnwindReason) → MayWait objects (pending_of c) r → RaisedThere objects (raised_by r)
      by_reason None waits = tt
      by_reason (Some (reason.Raising e)) waits = waits
      by_reason (Some (reason.Returning v)) waits = tt
      by_reason (Some (reason.Break to)) waits = tt
      by_reason (Some (reason.Continue to)) waits = tt

      by_type : (typ : BlockType) → TypeWaits objects (pending_of c) typ → RaisedThere objects (raised_of typ)
      by_type (FinallyHandler r kept) waits = by_reason r waits
      by_type _ waits = tt

  -- the exit of a manager is called
  cleanup_starts : unit.op ≡ WithCleanupStart → (i : ℕ) → with_byte s.prefix unit.arg ≡ i → (bs : List BlockNote) → AreBlocks objects s.blocks bs → starts_cleanup (sheet_of code) (s.at + 1) kinds bs ≡ true → (t v b : Obj) → Led (asks_exit s t v b)
  cleanup_starts is_op i operand [] are may t v b = cc
  cleanup_starts is_op i operand (c ∷ cs) are may t v b =
      let three = and_parts (is_finally_handler c && (length kinds == level_of c) && nat_lt (top_level cs) (level_of c)) (goes_with (kind.Any ∷ kinds) (c ∷ cs)) may in
      let two = and_parts (is_finally_handler c && (length kinds == level_of c)) (nat_lt (top_level cs) (level_of c)) three.0 in
      let one = and_parts (is_finally_handler c) (length kinds == level_of c) two.0 in
      let depth : length kinds ≡ level_of c = eqb-true (length kinds) (level_of c) one.1 in
      let nested : top_level cs < level_of c = ltb-true (top_level cs) (level_of c) two.1 in
      in_finally_fits s.blocks c cs are one.0 _
      (λ level r kept outer level_is waits outer_are.
      let count : length (bottom level s.stack) ≡ length s.stack - (length s.stack - level) = length-drop (length s.stack - level) s.stack in
      where_true (StepFits objects code) _ _ (eq-eqb (length s.stack) level (omega (arith, stack_count, depth, level_is)))
      (off_there (bottom level s.stack) (omega (arith, count, stack_count, depth, nested, level_is)) _
      (λ x rest same. (may_be_asked WithCleanupStart is_op (request.Exit x t v b) refl, waits_but WithCleanupStart i is_op operand (want.Of kind.Any) kinds blocks (want.Of kind.Any) s.stack s.blocks s.slot (expect.Answer (want.Of kind.Any)) refl (λ o v is. is) has))))

  -- the block of an exit ends, and what it held waits or goes on
  finishes_fit : is_prefix unit.op ≡ false → unit.op ≡ WithCleanupFinish → (i : ℕ) → with_byte s.prefix unit.arg ≡ i → (c : BlockNote) (cs : List BlockNote) → blocks ≡ c ∷ cs → EndsExit code (s.at + 1) kinds c cs → handlers_land (sheet_of code) (drop 2 kinds) cs ≡ true
      → (r : Option UnwindReason) → MayWait objects (pending_of c) r → (v : Obj) (stack : List Obj) (outer : List Block) (kept : Option PyBaseExceptionRef) → HaveKinds objects stack (drop 2 kinds) → AreBlocks objects outer cs
      → Led (finishes r v (record s { stack = stack; blocks = outer; slot = kept }))
  finishes_fit plain is_op i operand c cs same ends hs (Some (reason.Raising e)) waits v stack outer kept holds are =
      let blocks_same : drop 1 blocks ≡ cs = ap (drop 1) same in
      let count : length blocks ≡ suc (length cs) = ap length same in
      let inner : Has objects code (kind.Exc ∷ drop 2 kinds) cs (record s { stack = as_object e ∷ stack; blocks = outer; slot = kept }) = record {
        holds = (waits, holds);
        blocks = are;
        handlers = handlers_same (sheet_of code) (drop 2 kinds) (kind.Exc ∷ drop 2 kinds) cs (sym (bottom-cons (top_level cs) kind.Exc (drop 2 kinds) ends.top)) hs;
        room = omega (arith, has.room, length-drop 2 kinds, ends.depth, ends.nested);
        block_room = omega (arith, has.block_room, count);
        locals = has.locals;
      } in (
        may_be_asked WithCleanupFinish is_op (request.Truth v) refl,
        waits_but WithCleanupFinish i is_op operand want.Truth (kind.Exc ∷ drop 2 kinds) (drop 1 blocks) want.Truth (as_object e ∷ stack) outer kept (expect.Answer want.Truth) refl (λ o v is. is)
            (subst (λ (bs : List BlockNote). Has objects code (kind.Exc ∷ drop 2 kinds) bs (record s { stack = as_object e ∷ stack; blocks = outer; slot = kept })) (sym blocks_same) inner),
      )
  finishes_fit plain is_op i operand c cs same ends hs None waits v stack outer kept holds are = goes_on_fits plain c cs (drop 2 kinds) stack outer kept None ends.goes ends.walk hs waits holds are
  finishes_fit plain is_op i operand c cs same ends hs (Some (reason.Returning w)) waits v stack outer kept holds are = goes_on_fits plain c cs (drop 2 kinds) stack outer kept (Some (reason.Returning w)) ends.goes ends.walk hs waits holds are
  finishes_fit plain is_op i operand c cs same ends hs (Some (reason.Break to)) waits v stack outer kept holds are = goes_on_fits plain c cs (drop 2 kinds) stack outer kept (Some (reason.Break to)) ends.goes ends.walk hs waits holds are
  finishes_fit plain is_op i operand c cs same ends hs (Some (reason.Continue to)) waits v stack outer kept holds are = goes_on_fits plain c cs (drop 2 kinds) stack outer kept (Some (reason.Continue to)) ends.goes ends.walk hs waits holds are

  cleanup_finishes : is_prefix unit.op ≡ false → unit.op ≡ WithCleanupFinish → (i : ℕ) → with_byte s.prefix unit.arg ≡ i → (bs : List BlockNote) → blocks ≡ bs → AreBlocks objects s.blocks bs → handlers_land (sheet_of code) kinds bs ≡ true
      → ends_cleanup (sheet_of code) (s.at + 1) kinds bs ≡ true → Led (finish_cleanup s)
  cleanup_finishes plain is_op i operand [] same are hs may = cc
  cleanup_finishes plain is_op i operand (c ∷ cs) same are hs may =
      let ends : EndsExit code (s.at + 1) kinds c cs = ends_exit code (s.at + 1) kinds c cs may in
      let one : length kinds - level_of c ≡ 1 = omega (arith, ends.depth) in
      let under : bottom (level_of c) kinds ≡ drop 1 kinds = ap (λ (n : ℕ). drop n kinds) one in
      let outer_hs : handlers_land (sheet_of code) (drop 1 kinds) cs ≡ true = subst (λ (ks : List Kind). handlers_land (sheet_of code) ks cs ≡ true) under (outer_handlers (sheet_of code) kinds c cs hs) in
      let below : top_level cs ≤ length (drop 1 kinds) = omega (arith, ends.depth, ends.nested, length-drop 1 kinds) in
      let inner_hs : handlers_land (sheet_of code) (drop 2 kinds) cs ≡ true = handlers_same (sheet_of code) (drop 1 kinds) (drop 2 kinds) cs (bottom-drop 1 (top_level cs) kinds below ∙ sym (bottom-drop 2 (top_level cs) kinds ends.top)) outer_hs in
      let there : HaveKinds objects (drop 2 s.stack) (drop 2 kinds) = kinds_dropped objects 2 s.stack kinds has.holds in
      off_there s.stack (omega (arith, stack_count, ends.depth)) _
      (λ v above stack_is.
      let more : length s.stack ≡ suc (length above) = ap length stack_is in
      off_there above (omega (arith, stack_count, ends.depth, ends.nested, more)) _
      (λ exit rest above_is.
      in_finally_fits s.blocks c cs are ends.handler _
      (λ level r kept outer level_is waits outer_are.
      where_true (StepFits objects code) _ _ (eq-eqb (length above) level (omega (arith, stack_count, ends.depth, more, level_is)))
      (finishes_fit plain is_op i operand c cs same ends inner_hs r waits v rest outer kept
      (subst (λ (vs : List Obj). HaveKinds objects (drop 2 vs) (drop 2 kinds)) (stack_is ∙ ap (λ (vs : List Obj). v ∷ vs) above_is) there) outer_are))))

  -- a raise may ask what its kind may
  may_be_raised : (i : ℕ) (k : RaiseKind) (r : Request) → with_byte s.prefix unit.arg ≡ i → slice_get raise_kinds i ≡ Some k → may_raise (Some k) r ≡ true → may_raise (raise_of unit.arg) r ≡ true
  may_be_raised i k r operand here may = ap (λ (o : Option RaiseKind). may_raise o r) (raise_is s.prefix unit.arg i k operand here) ∙ may

  raises_fit : (i : ℕ) → unit.op ≡ Raise → with_byte s.prefix unit.arg ≡ i → (k : Option RaiseKind) → slice_get raise_kinds i ≡ k → raises_by k kinds blocks ≡ true → Led (raises k s)
  raises_fit i is_op operand None here may = cc
  raises_fit i is_op operand (Some raise.Reraise) here may =
      (may_be_asked Raise is_op request.Handled (may_be_raised i raise.Reraise request.Handled operand here refl), waits_but Raise i is_op operand (want.Of kind.Exc) kinds blocks (want.Of kind.Exc) s.stack s.blocks s.slot (expect.Answer (want.Of kind.Exc)) (ap (λ k. raise_left k 0 kinds blocks) here) (λ o v is. is) has)
  raises_fit i is_op operand (Some raise.Raise) here may =
      off objects code kinds blocks (λ rest. true) s (StepFits objects code) _ may has
      (λ v vs has' keeps count holds.
      (may_be_asked Raise is_op (request.Raisable v) (may_be_raised i raise.Raise (request.Raisable v) operand here refl), waits_but Raise i is_op operand (want.Of kind.Exc) (drop 1 kinds) blocks (want.Of kind.Exc) vs s.blocks s.slot (expect.Answer (want.Of kind.Exc)) (ap (λ k. raise_left k 0 kinds blocks) here) (λ o v is. is) has'))
  raises_fit i is_op operand (Some raise.RaiseCause) here may =
      off objects code kinds blocks (λ rest. true) s (StepFits objects code) _ (first_taken kinds blocks may) has
      (λ c vs has' keeps count holds.
      (may_be_asked Raise is_op (request.Cause c) (may_be_raised i raise.RaiseCause (request.Cause c) operand here refl), waits_but Raise i is_op operand want.ExceptionOrNone (drop 1 kinds) blocks want.ExceptionOrNone vs s.blocks s.slot (expect.Answer want.ExceptionOrNone) (ap (λ k. raise_left k 0 kinds blocks) here) (λ o v is. is) has'))

  -- a call takes its callee and its arguments
  calls_fit : (k : ℕ) → unit.op ≡ CallFunctionPositional → with_byte s.prefix unit.arg ≡ k → (vs : List Obj) → 1 ≤ length vs → (there : Bool) → there ≡ true → Has objects code (drop (suc k) kinds) blocks (with_stack (drop (suc k) s.stack) s)
      → Always objects (StepFits objects code) (calls vs there (with_stack (drop (suc k) s.stack) s))
  calls_fit k is_op operand [] some there is has' = absurd (omega (arith, some))
  calls_fit k is_op operand (f ∷ args) some there is has' =
      λ p. where_true (StepFits objects code) there _ is (
        may_be_asked CallFunctionPositional is_op (call_request p f args) (call_asked p f args unit.arg),
        waits_but CallFunctionPositional k is_op operand (answers.wanted (call_request p f args)) (drop (suc k) kinds) blocks (want.Of kind.Any) (drop (suc k) s.stack) s.blocks s.slot (expect.Answer (answers.wanted (call_request p f args))) refl (λ o v is. tt) has',
      )

  call_fits : (k : ℕ) → unit.op ≡ CallFunctionPositional → with_byte s.prefix unit.arg ≡ k → takes (replicate (suc k) kind.Any) kinds blocks (λ rest. goes_with (kind.Any ∷ rest) blocks) ≡ true
      → Always objects (StepFits objects code) (call_function k s)
  call_fits k is_op operand keeps =
      let below = takes_any (suc k) kinds blocks (λ rest. goes_with (kind.Any ∷ rest) blocks) keeps in
      let enough : suc k ≤ length s.stack = omega (arith, kinds_counted objects s.stack kinds has.holds, below.2) in
      let some : 1 ≤ length (reverse (take (suc k) s.stack)) = omega (arith, length-reverse (take (suc k) s.stack), length-take-le (suc k) s.stack enough) in
      calls_fit k is_op operand (reverse (take (suc k) s.stack)) some (reaches (suc k) s.stack) (reached (suc k) s.stack enough) (has_under objects code (suc k) kinds blocks s below.1 has)

  -- an instruction that isn't in the table leads to frames that fit
  own_fits : (op : Instruction) (i : ℕ) → unit.op ≡ op → with_byte s.prefix unit.arg ≡ i → has_operand (sheet_of code) op i ≡ true → runs (sheet_of code) op i ≡ true
      → keeps_own sound.shapes (sheet_of code) s.at op i kinds blocks ≡ true
      → Always objects (StepFits objects code) (act_own (setting_of names globals closure code) op i s)
  own_fits LoadConst i is_op operand there run keeps =
      loads_fit (slice_get (literals_of code.code.code.constants) i) (λ k. goes_with (k ∷ kinds) blocks) _ run keeps
      (λ k v may is_kind. goes_behind (ap is_prefix is_op) (k ∷ kinds) blocks (v ∷ s.stack) s.blocks s.locals s.slot may (is_kind, has.holds) has.blocks has.locals)
  own_fits LoadFast i is_op operand there run keeps = load_fast_fits i is_op operand there keeps (slice_get s.locals i) refl
  own_fits StoreFast i is_op operand there run keeps =
      where_true (StepFits objects code) _ _ (ap (nat_lt i) has.locals ∙ there)
      (off objects code kinds blocks (λ rest. goes_with rest blocks) s (StepFits objects code) _ keeps has
      (λ v vs has' may count holds. goes_behind (ap is_prefix is_op) (drop 1 kinds) blocks vs s.blocks (slice_set s.locals i (Some v)) s.slot may has'.holds has.blocks (length-set s.locals i (Some v) ∙ has.locals)))
  own_fits DeleteFast i is_op operand there run keeps = delete_fast_fits i is_op operand there keeps (slice_get s.locals i) refl
  own_fits CallFunctionPositional k is_op operand there run keeps = call_fits k is_op operand keeps
  own_fits Jump to is_op operand there run keeps =
      may_jumped objects code to kinds blocks s goes (and_from (is_label code.code.code.instructions.items to) (lands (sheet_of code) to kinds blocks) there keeps) has.holds has.blocks has.locals
  own_fits JumpIfTrue to is_op operand there run keeps =
      off objects code kinds blocks (λ rest. lands (sheet_of code) to rest blocks && goes_with rest blocks) s (StepFits objects code) _ keeps has
      (λ v vs has' may count holds. (may_be_asked JumpIfTrue is_op (request.Truth v) refl, waits_but JumpIfTrue to is_op operand want.Truth (drop 1 kinds) blocks want.Truth vs s.blocks s.slot (expect.Answer want.Truth) refl (λ o v is. is) has'))
  own_fits JumpIfFalse to is_op operand there run keeps =
      off objects code kinds blocks (λ rest. lands (sheet_of code) to rest blocks && goes_with rest blocks) s (StepFits objects code) _ keeps has
      (λ v vs has' may count holds. (may_be_asked JumpIfFalse is_op (request.Truth v) refl, waits_but JumpIfFalse to is_op operand want.Truth (drop 1 kinds) blocks want.Truth vs s.blocks s.slot (expect.Answer want.Truth) refl (λ o v is. is) has'))
  own_fits SetupLoop i is_op operand there run keeps =
      (tt, opens_fit (ap is_prefix is_op) (record { typ = Loop; level = length s.stack }) (note.Loop (length kinds)) (record { number = refl; level = stack_count; handler = refl; waits = tt }) keeps)
  own_fits SetupExcept to is_op operand there run keeps =
      opens_fit (ap is_prefix is_op) (record { typ = TryExcept to; level = length s.stack }) (note.TryExcept (length kinds) to) (record { number = refl; level = stack_count; handler = refl; waits = tt }) keeps
  own_fits SetupFinally to is_op operand there run keeps =
      opens_fit (ap is_prefix is_op) (record { typ = Finally to; level = length s.stack }) (note.Finally (length kinds) to) (record { number = refl; level = stack_count; handler = refl; waits = tt }) keeps
  own_fits EnterFinally i is_op operand there run keeps =
      opens_fit (ap is_prefix is_op) (record { typ = FinallyHandler None s.slot; level = length s.stack }) (note.FinallyHandler (length kinds) []) (record { number = refl; level = stack_count; handler = refl; waits = tt }) keeps
  own_fits EndFinally i is_op operand there run keeps = end_finally_fits (ap is_prefix is_op) blocks has.blocks has.handlers keeps
  own_fits SetupWith to is_op operand there run keeps =
      off objects code kinds blocks (λ rest. goes_with (kind.Any ∷ kind.Any ∷ rest) (note.Finally (suc (length rest)) to ∷ blocks)) s (StepFits objects code) _ keeps has
      (λ v vs has' may count holds. (may_be_asked SetupWith is_op (request.Enter v) refl, waits_but SetupWith to is_op operand (want.Of kind.Any) kinds blocks (want.Of kind.Any) s.stack s.blocks s.slot (expect.Answer (want.Of kind.Any)) refl (λ o v is. is) has))
  own_fits WithCleanupStart i is_op operand there run keeps = (raised_there s.blocks blocks has.blocks, λ t v b. cleanup_starts is_op i operand blocks has.blocks keeps t v b)
  own_fits WithCleanupFinish i is_op operand there run keeps = cleanup_finishes (ap is_prefix is_op) is_op i operand blocks refl has.blocks has.handlers keeps
  own_fits PopBlock i is_op operand there run keeps = pop_block_fits (ap is_prefix is_op) s.blocks blocks has.blocks keeps
  own_fits PopException i is_op operand there run keeps = pop_exception_fits (ap is_prefix is_op) s.blocks blocks has.blocks keeps
  own_fits Raise i is_op operand there run keeps = raises_fit i is_op operand (slice_get raise_kinds i) refl (raised_as i kinds blocks there keeps)
  own_fits Break to is_op operand there run keeps = leaves_with objects code (reason.Break to) kinds blocks s goes keeps has
  own_fits Continue to is_op operand there run keeps = leaves_with objects code (reason.Continue to) kinds blocks s goes keeps has
  own_fits ReturnValue i is_op operand there run keeps =
      off objects code kinds blocks (λ rest. true) s (StepFits objects code) _ keeps has (λ v vs has' may count holds. leaves_with objects code (reason.Returning v) (drop 1 kinds) blocks (with_stack vs s) goes tt has')
  own_fits ReturnConst i is_op operand there run keeps =
      let literal : Option Literal = slice_get (literals_of code.code.code.constants) i in
      loads_fit literal (λ k. true) _ run (loaded_there literal run) (λ k v may is_kind. leaves_with objects code (reason.Returning v) kinds blocks s goes tt has)
  own_fits YieldValue i is_op operand there run keeps =
      let parts = and_parts (may_yield code.code.code.flags) (takes_top kinds blocks (λ rest. goes_with (kind.Any ∷ rest) blocks)) keeps in
      off objects code kinds blocks (λ rest. goes_with (kind.Any ∷ rest) blocks) s (StepFits objects code) _ parts.1 has
      (λ v vs has' may count holds. ((subst UnitYields (sym is) is_op, run), waits_but YieldValue i is_op operand (want.Of kind.Any) (drop 1 kinds) blocks (want.Of kind.Any) vs s.blocks s.slot expect.Resume refl (λ o v is. is) has'))
  own_fits ExtendedArg i is_op operand there run keeps =
      let parts = and_parts (nat_lt (prefixes code.code.code.instructions.items s.at) 3) (goes_with kinds blocks) keeps in
      let t : State = record (next s) { prefix = i } in
      on_fits objects code t goes
      (arrived objects code t (arrives_behind objects code s unit is goes kinds blocks s.stack s.blocks parts.1 has.holds has.blocks) (sym operand ∙ prefix_carried code.code.code.instructions.items s.at s.prefix unit is (ap is_prefix is_op) carries) has.locals)
  own_fits _ i is_op operand there run keeps = cc

  -- each instruction that keeps the rules and runs so far does
  pub act_fits : (op : Instruction) (i : ℕ) → unit.op ≡ op → with_byte s.prefix unit.arg ≡ i → keeps_op sound.shapes (sheet_of code) s.at op i kinds blocks ≡ true → runs (sheet_of code) op i ≡ true
      → Always objects (StepFits objects code) (act (setting_of names globals closure code) op i s)
  act_fits op i is_op operand keeps run =
      let own : Bool = keeps_own sound.shapes (sheet_of code) s.at op i kinds blocks in
      let parts = and_parts (has_operand (sheet_of code) op i) (keeps_by (sheet_of code) s.at (effect op i) own kinds blocks) keeps in
      let may = subst (λ (e : Effect). keeps_by (sheet_of code) s.at e own kinds blocks ≡ true) (row_is (sheet_of code) op i run) parts.1 in
      by_effect op i (row_effect op i) (asked (setting_of names globals closure code) op i) (act_own (setting_of names globals closure code) op i s)
      own is_op operand (other_or_plain op i unit.op is_op) (none_taken op i) refl (asked_there names globals closure code sound.named op i run parts.0) (own_fits op i is_op operand parts.0 run) may
