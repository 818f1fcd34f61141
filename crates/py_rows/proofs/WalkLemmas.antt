-- Where every row leads to: silently to a later unit, or behind an event of the unit that runs; the slot is kept; and where all that goes
-- in is among the first n objects, so is all that comes out.
use Rattle.std.proofs.Common.{◌≡◌, ◌<◌, ◌-◌, ℕ, zero, suc, List, [], ◌∷◌, ◌++◌, Bool, Option, None, Some, true, false, ◌&&◌, not, cond, ⊎_elim, refl, sym, ap, subst, length, reverse, take, drop, arith}
use Rattle.std.specs.Prelude.{slice_get, slice_set, nat_lt}
use Rattle.std.specs.List.{list_all}
use Rattle.std.proofs.lemmas.Bool.{ltb-true}
use Rattle.std.proofs.lemmas.Option.{slice_get_within}
use Rattle.py_code.specs.Bottom.{bottom}
use Rattle.py_code.specs.declared.unit.CodeUnit.{CodeUnit}
use Rattle.py_code.specs.declared.instruction.Instruction.{Instruction}
use Rattle.py_code.specs.declared.instruction.Instruction.TheVariants.{LoadConst, LoadFast, StoreFast, DeleteFast, CallFunctionPositional, Jump, JumpIfTrue, JumpIfFalse, SetupLoop, SetupExcept, SetupFinally, EnterFinally, EndFinally, SetupWith, WithCleanupStart, WithCleanupFinish, PopBlock, PopException, Raise, Break, Continue, ReturnValue, ReturnConst, YieldValue, ExtendedArg}
use Rattle.py_code.specs.declared.literal.Literal.{Literal}
use Rattle.py_code.specs.declared.operator.RaiseKind.{RaiseKind}
use Rattle.py_code.specs.declared.operator.RaiseKind.TheVariants as raise
use Rattle.py_code.specs.Literals.{literals_of}
use Rattle.py_code.specs.Operators.{raise_kinds}
use Rattle.py_code.specs.Units.{with_byte}
use Rattle.py_objects.specs.declared.refs.PyBaseExceptionRef.{PyBaseExceptionRef}
use Rattle.py_objects.specs.declared.payload.Payload.{Payload}
use Rattle.py_objects.specs.declared.request.Request.{Request}
use Rattle.py_objects.specs.declared.request.Request.TheVariants as request
use Rattle.py_objects.specs.declared.event.GotAnswer.TheVariants as got
use Rattle.py_objects.specs.Objects.{Obj, Name, AllBelow, numbers, number_if, request_numbers, as_object}
use Rattle.py_objects.specs.Own.{Rounds}
use Rattle.py_objects.specs.Callees.{call_request}
use Rattle.py_check.specs.Effects.{Effect, Moves, AsksOnce, Takes, Other}
use Rattle.py_rows.specs.Table.{row_effect}
use Rattle.py_check.specs.Taking.{picked}
use Rattle.py_rows.specs.declared.block.Block.{Block}
use Rattle.py_rows.specs.declared.block.BlockType.{BlockType}
use Rattle.py_rows.specs.declared.block.BlockType.TheVariants.{Loop, TryExcept, Finally, FinallyHandler, ExceptHandler}
use Rattle.py_rows.specs.declared.block.UnwindReason.{UnwindReason}
use Rattle.py_rows.specs.declared.block.UnwindReason.TheVariants as reason
use Rattle.py_rows.specs.declared.expect.Expect.{Expect}
use Rattle.py_rows.specs.declared.expect.Expect.TheVariants as expect
use Rattle.py_rows.specs.States.{Setting, State, Step, Goes, Tells, Stuck, Move, Plainly, Loads, Decides, Manages, Resolves, Exits, begun, next, waiting, with_stack, landed, jumps}
use Rattle.py_rows.specs.Handled.{entered_by, handled_by, handled_in}
use Rattle.py_rows.specs.Slot.{AllKeep, Keeps}
use Rattle.py_rows.specs.Unwinding.{left, left_handler, meets, unwind, unwinds}
use Rattle.py_rows.specs.Asked.{asked}
use Rattle.py_rows.specs.Rows.{asks, opens, is_there, reaches, loads, asks_if, takes_off, where_there, acts_by, load_fast, delete_fast, if_popped, pop_block, pop_type, pop_exception, finally_type, in_finally, goes_on, finishes, raises, calls, act_own, unit_move}
use Rattle.py_rows.specs.Receiving.{entered, asks_again, enters_top, enters, jumps_if, passes_if, causes, raised, answered_by, answered_own, unit_answered, moves}
use Rattle.py_rows.specs.RunOfRows.{IsExit, MayLead}
use Rattle.py_rows.specs.Standing.{IsPlaced, IsOf}
use Rattle.py_rows.specs.Below.{told_numbers, ReasonBelow, IfBelow, TypeBelow, BlocksBelow, ExpectBelow}
use Rattle.py_rows.proofs.ConstantLemmas.{constant_there}
use Rattle.py_rows.proofs.BelowLemmas.{joined_below, reverse_below, drop_below, take_below, values_below, picked_below}
use Rattle.py_rows.proofs.AskingLemmas.{call_below}
use Rattle.py_rows.proofs.HandledBelowLemmas.{set_there, handled_below, entered_below, raised_below, RequestBelow, mapped_unbound, AsksBelow, asked_below}

-- a frame that goes on may be anywhere, and names nothing
pub placed_going : (at : ℕ) (t : State) → t.wants ≡ expect.Go → IsPlaced at t.wants t
placed_going at t goes = subst (λ (x : Expect). IsPlaced at x t) (sym goes) tt

going_below : (n : ℕ) (x : Expect) → x ≡ expect.Go → ExpectBelow n x
going_below n x goes = subst (ExpectBelow n) (sym goes) tt

-- what is known of the slot where it was kept before (Kept), and of numbers where they were low before (Low)
module _ (first : Option PyBaseExceptionRef) (n : ℕ) (Kept Low : Type 0) where
  -- this is handled in these blocks, and each handler keeps what is handled outside of it; their objects are among the first n
  pub record Good (ds : List Block) (slot : Option PyBaseExceptionRef) : Type 0 where
    pub handled : Kept → slot ≡ handled_in first ds
    pub keep : Kept → AllKeep first ds
    pub blocks : Low → BlocksBelow n ds
    pub exception : Low → AllBelow n (number_if slot)

  -- so are those of a frame
  pub record Holds (vs : List Obj) (ls : List (Option Obj)) (ds : List Block) (slot : Option PyBaseExceptionRef) : Type 0 where
    pub good : Good ds slot
    pub stack : Low → AllBelow n (numbers vs)
    pub locals : Low → (i : ℕ) (v : Obj) → slice_get ls i ≡ Some (Some v) → v.number < n

  -- a block around others that is left, where this is handled around it
  within : {d : Block} {ds : List Block} {slot : Option PyBaseExceptionRef} (kept : Option PyBaseExceptionRef) → (Kept → kept ≡ handled_in first ds) → (Low → AllBelow n (number_if kept)) → Good (d ∷ ds) slot → Good ds kept
  within kept is low g = record { handled = is; keep = λ m. (g.keep m).1; blocks = λ m. (g.blocks m).1; exception = low }

  -- and one that is opened around the unit
  around : {ds : List Block} {slot : Option PyBaseExceptionRef} (d : Block) (inner : Option PyBaseExceptionRef) → (Kept → Keeps d.typ (handled_in first ds)) → (Kept → inner ≡ handled_by d.typ (handled_in first ds)) → (Low → TypeBelow n d.typ)
      → (Low → AllBelow n (number_if inner)) → Good ds slot → Good (d ∷ ds) inner
  around d inner keeps is typ_low low g = record { handled = is; keep = λ m. (keeps m, g.keep m); blocks = λ m. (typ_low m, g.blocks m); exception = low }

  module _ (at last : ℕ) where
    -- the unit at this place runs, which was begun last
    pub record Stands (s : State) : Type 0 where
      pub here : s.at ≡ at
      pub begun : s.last ≡ last
      pub goes : s.wants ≡ expect.Go
      pub holds : Holds s.stack s.locals s.blocks s.slot

    -- where a step leads to, and what it tells
    abbrev pub Led : Step → Type 0
    Led (Goes t) = (at < t.at) × (t.wants ≡ expect.Go) × Holds t.stack t.locals t.blocks t.slot
    Led (Tells x t) = IsOf at t x × (t.last ≡ last) × IsPlaced at t.wants t × (Low → AllBelow n (told_numbers x) × ExpectBelow n t.wants) × Holds t.stack t.locals t.blocks t.slot
    Led Stuck = Unit {0}

    -- whatever a move leads to
    abbrev pub AllLed : Move → Type 0
    AllLed (Plainly step) = Led step
    AllLed (Loads c f) = (v : Obj) → (Low → v.number < n) → Led (f v)
    AllLed (Decides v f) = (b : Bool) → Led (f b)
    AllLed (Manages m f) = (b : Bool) → Led (f b)
    AllLed (Resolves v f) = (p : Payload) → Led (f p)
    AllLed (Exits e f) = (Low → AllBelow n (number_if e)) × ((t v b : Obj) → (Low → AllBelow n (t.number ∷ v.number ∷ b.number ∷ [])) → Led (f t v b))

    -- the unit still runs, with another stack, other blocks and another slot, or other locals
    turned : {s : State} (stack : List Obj) (ds : List Block) (slot : Option PyBaseExceptionRef) → (Low → AllBelow n (numbers stack)) → Good ds slot → Stands s → Stands (record s { stack = stack; blocks = ds; slot = slot })
    turned stack ds slot low good k = record { here = k.here; begun = k.begun; goes = k.goes; holds = record { good = good; stack = low; locals = k.holds.locals } }

    stacked : {s : State} (stack : List Obj) → (Low → AllBelow n (numbers stack)) → Stands s → Stands (with_stack stack s)
    stacked {s = s} stack low k = turned stack s.blocks s.slot low k.holds.good k

    cut : {s : State} (level : ℕ) (ds : List Block) (slot : Option PyBaseExceptionRef) → Good ds slot → Stands s → Stands (left_handler level slot ds s)
    cut {s = s} level ds slot good k = turned (bottom level s.stack) ds slot (λ m. drop_below n (length s.stack - level) s.stack (k.holds.stack m)) good k

    set : {s : State} (i : ℕ) (x : Option Obj) → (Low → (v : Obj) → x ≡ Some v → v.number < n) → Stands s → Stands (record s { locals = slice_set s.locals i x })
    set {s = s} i x low k = record {
      here = k.here;
      begun = k.begun;
      goes = k.goes;
      holds = record { good = k.holds.good; stack = k.holds.stack; locals = λ m j w is. set_there n s.locals i j x w (low m) (k.holds.locals m) is };
    }

    -- a value more
    topped : {s : State} (v : Obj) → (Low → v.number < n) → Stands s → Stands (with_stack (v ∷ s.stack) s)
    topped {s = s} v low k = stacked (v ∷ s.stack) (λ m. (low m, k.holds.stack m)) k

    -- control goes on behind the unit
    behind : {s : State} (prefix : ℕ) → Stands s → Led (Goes (record s { at = suc s.at; prefix = prefix }))
    behind prefix k = (omega (arith, k.here), k.goes, k.holds)

    off_led : {s : State} (f : Obj → List Obj → Step) → Stands s → ((v : Obj) (rest : List Obj) → (Low → v.number < n) → Stands (with_stack rest s) → Led (f v rest)) → Led (takes_off s.stack f)
    off_led {s = s} f k led = by_stack s.stack k.holds.stack led
      where
        by_stack : (stack : List Obj) → (Low → AllBelow n (numbers stack)) → ((v : Obj) (rest : List Obj) → (Low → v.number < n) → Stands (with_stack rest s) → Led (f v rest)) → Led (takes_off stack f)
        by_stack [] low led = tt
        by_stack (v ∷ rest) low led = led v rest (λ m. (low m).0) (stacked rest (λ m. (low m).1) k)

    where_led : (b : Bool) (step : Step) → Led step → Led (where_there b step)
    where_led true step led = led
    where_led false step led = tt

    asks_led : {s : State} (r : Request) → (Low → AllBelow n (request_numbers r)) → Stands s → Led (asks r s)
    asks_led {s = s} r low k = ((k.here, refl, refl), k.begun, k.here, λ m. (joined_below n (number_if (handled_in None s.blocks)) (request_numbers r) (handled_below n s.blocks (k.holds.good.blocks m)) (low m), tt), k.holds)

    again_led : {s : State} (r : Request) → (Low → AllBelow n (request_numbers r)) → Stands s → Led (asks_again r s)
    again_led {s = s} r low k = asks_led {s = record s { phase = suc s.phase }} r low (record { here = k.here; begun = k.begun; goes = k.goes; holds = k.holds })

    asks_if_led : {s : State} (r : Option Request) → (Low → RequestBelow n r) → Stands s → Led (asks_if r s)
    asks_if_led None low k = tt
    asks_if_led (Some r) low k = asks_led r low k

    jumps_led : {s : State} (to : ℕ) → Stands s → Led (jumps to s)
    jumps_led {s = s} to k = by_test (nat_lt s.at to) refl
      where
        by_test : (b : Bool) → nat_lt s.at to ≡ b → Led (cond b (Goes (landed to s)) (Tells (Rounds s.at) (landed to s)))
        by_test true is = (omega (arith, k.here, ltb-true s.at to is), k.goes, k.holds)
        by_test false is = ((k.here, k.goes), k.begun, placed_going at (landed to s) k.goes, λ m. (tt, going_below n s.wants k.goes), k.holds)

    met : {s : State} (r : UnwindReason) (typ : BlockType) (level : ℕ) (outer : List Block) → s.blocks ≡ record { typ = typ; level = level } ∷ outer → (Low → ReasonBelow n r) → Good (record { typ = typ; level = level } ∷ outer) s.slot → Stands s
        → (on : State → Step) → ((t : State) → t.blocks ≡ outer → Stands t → Led (on t)) → Led (meets r typ level outer s on)
    met {s = s} (reason.Raising e) Loop level outer is low g k on out = out (left level outer s) refl (cut level outer s.slot (within s.slot g.handled g.exception g) k)
    met {s = s} (reason.Returning v) Loop level outer is low g k on out = out (left level outer s) refl (cut level outer s.slot (within s.slot g.handled g.exception g) k)
    met {s = s} (reason.Break to) Loop level outer is low g k on out = jumps_led to (cut level outer s.slot (within s.slot g.handled g.exception g) k)
    met (reason.Continue to) Loop level outer is low g k on out = jumps_led to k
    met {s = s} (reason.Raising e) (TryExcept handler) level outer is low g k on out =
        let under : Good outer s.slot = within s.slot g.handled g.exception g in
        let inner = around (record { typ = ExceptHandler e s.slot; level = level }) (Some e) under.handled (λ m. refl) (λ m. (low m, under.exception m)) (λ m. (low m, tt)) under in
        jumps_led handler (topped (as_object e) low (cut level (record { typ = ExceptHandler e s.slot; level = level } ∷ outer) (Some e) inner k))
    met {s = s} (reason.Returning v) (TryExcept handler) level outer is low g k on out = out (left level outer s) refl (cut level outer s.slot (within s.slot g.handled g.exception g) k)
    met {s = s} (reason.Break to) (TryExcept handler) level outer is low g k on out = out (left level outer s) refl (cut level outer s.slot (within s.slot g.handled g.exception g) k)
    met {s = s} (reason.Continue to) (TryExcept handler) level outer is low g k on out = out (left level outer s) refl (cut level outer s.slot (within s.slot g.handled g.exception g) k)
    met {s = s} r (Finally handler) level outer is low g k on out =
        let under : Good outer s.slot = within s.slot g.handled g.exception g in
        let inner = around (record { typ = FinallyHandler (Some r) s.slot; level = level }) (entered_by r s.slot) under.handled (λ m. ap (entered_by r) (under.handled m)) (λ m. (low m, under.exception m)) (λ m. entered_below n r s.slot (low m) (under.exception m)) under in
        jumps_led handler (cut level (record { typ = FinallyHandler (Some r) s.slot; level = level } ∷ outer) (entered_by r s.slot) inner k)
    met {s = s} r (FinallyHandler old kept) level outer is low g k on out = out (left_handler level kept outer s) refl (cut level outer kept (within kept (λ m. (g.keep m).0) (λ m. (g.blocks m).0.1) g) k)
    met {s = s} r (ExceptHandler e kept) level outer is low g k on out = out (left_handler level kept outer s) refl (cut level outer kept (within kept (λ m. (g.keep m).0) (λ m. (g.blocks m).0.1) g) k)

    -- what is known of the blocks that a frame has
    good_of : {s : State} {ds : List Block} → s.blocks ≡ ds → Stands s → Good ds s.slot
    good_of {s = s} is k = subst (λ (bs : List Block). Good bs s.slot) is k.holds.good

    unwinding : {s : State} (r : UnwindReason) (ds : List Block) → s.blocks ≡ ds → (Low → ReasonBelow n r) → Stands s → Led (unwind r ds s)
    unwinding (reason.Raising e) [] is low k = ((k.here, refl), k.begun, (k.here, is), λ m. ((low m, tt), tt), k.holds)
    unwinding (reason.Returning v) [] is low k = ((k.here, refl), k.begun, (k.here, is), λ m. ((low m, tt), tt), k.holds)
    unwinding (reason.Break to) [] is low k = tt
    unwinding (reason.Continue to) [] is low k = tt
    unwinding r (d ∷ ds) is low k = met r d.typ d.level ds is low (good_of is k) k (λ t. unwind r ds t) (λ t is' k'. unwinding r ds is' low k')

    unwinds_led : {s : State} (r : UnwindReason) → (Low → ReasonBelow n r) → Stands s → Led (unwinds r s)
    unfolding unwinds
    unwinds_led {s = s} r low k = unwinding r s.blocks refl low k

    loads_led : (l : Option Literal) (f : Obj → Step) → ((v : Obj) → (Low → v.number < n) → Led (f v)) → AllLed (loads l f)
    loads_led None f led = tt
    loads_led (Some l) f led = led

    load_fast_led : {s : State} (name : Option Name) (local : Option (Option Obj)) → (Low → (v : Obj) → local ≡ Some (Some v) → v.number < n) → Stands s → Led (load_fast name local s)
    load_fast_led name None low k = tt
    load_fast_led name (Some None) low k = asks_if_led _ (λ m. mapped_unbound n name) k
    load_fast_led name (Some (Some v)) low k = behind 0 (topped v (λ m. low m v refl) k)

    delete_fast_led : {s : State} (name : Option Name) (i : ℕ) (local : Option (Option Obj)) → Stands s → Led (delete_fast name i local s)
    delete_fast_led name i None k = tt
    delete_fast_led name i (Some None) k = asks_if_led _ (λ m. mapped_unbound n name) k
    delete_fast_led name i (Some (Some v)) k = behind 0 (set i None (λ m w is. cc) k)

    pop_block_led : {s : State} (ds : List Block) → s.blocks ≡ ds → Stands s → Led (pop_block ds s)
    pop_block_led [] is k = tt
    pop_block_led {s = s} (d ∷ ds) is k = by_type d.typ (good_of is k)
      where
        by_type : (typ : BlockType) → Good (record { typ = typ; level = d.level } ∷ ds) s.slot → Led (if_popped typ (Goes (next (left d.level ds s))))
        by_type Loop g = behind 0 (cut d.level ds s.slot (within s.slot g.handled g.exception g) k)
        by_type (TryExcept handler) g = behind 0 (cut d.level ds s.slot (within s.slot g.handled g.exception g) k)
        by_type (Finally handler) g = behind 0 (cut d.level ds s.slot (within s.slot g.handled g.exception g) k)
        by_type (FinallyHandler r kept) g = tt
        by_type (ExceptHandler e kept) g = tt

    pop_exception_led : {s : State} (ds : List Block) → s.blocks ≡ ds → Stands s → Led (pop_exception ds s)
    pop_exception_led [] is k = tt
    pop_exception_led {s = s} (d ∷ ds) is k = by_type d.typ (good_of is k)
      where
        by_type : (typ : BlockType) → Good (record { typ = typ; level = d.level } ∷ ds) s.slot → Led (pop_type typ (λ kept. Goes (next (left_handler d.level kept ds s))))
        by_type (ExceptHandler e kept) g = behind 0 (cut d.level ds kept (within kept (λ m. (g.keep m).0) (λ m. (g.blocks m).0.1) g) k)
        by_type _ g = tt

    in_finally_led : {s : State} (ds : List Block) → s.blocks ≡ ds → Stands s → (f : ℕ → Option UnwindReason → Option PyBaseExceptionRef → List Block → Step)
        → ((level : ℕ) (r : Option UnwindReason) (kept : Option PyBaseExceptionRef) (outer : List Block) → (Low → IfBelow n r) → Good outer kept → Led (f level r kept outer)) → Led (in_finally ds f)
    in_finally_led [] is k f led = tt
    in_finally_led {s = s} (d ∷ ds) is k f led = by_type d.typ (good_of is k)
      where
        by_type : (typ : BlockType) → Good (record { typ = typ; level = d.level } ∷ ds) s.slot → Led (finally_type typ (λ r old. f d.level r old ds))
        by_type (FinallyHandler r old) g = led d.level r old ds (λ m. (g.blocks m).0.0) (within old (λ m. (g.keep m).0) (λ m. (g.blocks m).0.1) g)
        by_type _ g = tt

    goes_on_led : {s : State} (r : Option UnwindReason) → (Low → IfBelow n r) → Stands s → Led (goes_on r s)
    goes_on_led None low k = behind 0 k
    goes_on_led (Some r) low k = unwinds_led r low k

    finishes_led : {s : State} (r : Option UnwindReason) (v : Obj) → (Low → IfBelow n r) → (Low → v.number < n) → Stands s → Led (finishes r v s)
    finishes_led None v low v_low k = behind 0 k
    finishes_led (Some (reason.Raising e)) v low v_low k = asks_led (request.Truth v) (λ m. (v_low m, tt)) (topped (as_object e) low k)
    finishes_led (Some (reason.Returning w)) v low v_low k = unwinds_led _ low k
    finishes_led (Some (reason.Break to)) v low v_low k = unwinds_led _ low k
    finishes_led (Some (reason.Continue to)) v low v_low k = unwinds_led _ low k

    raises_led : {s : State} (r : Option RaiseKind) → Stands s → Led (raises r s)
    raises_led None k = tt
    raises_led (Some raise.Reraise) k = asks_led request.Handled (λ m. tt) k
    raises_led (Some raise.Raise) k = off_led _ k (λ v rest low under. asks_led (request.Raisable v) (λ m. (low m, tt)) under)
    raises_led (Some raise.RaiseCause) k = off_led _ k (λ c rest low under. asks_led (request.Cause c) (λ m. (low m, tt)) under)

    calls_led : {s : State} (vs : List Obj) (there : Bool) → (Low → AllBelow n (numbers vs)) → Stands s → AllLed (calls vs there s)
    calls_led [] there low k = tt
    calls_led (f ∷ args) there low k = λ p. where_led there _ (asks_led (call_request p f args) (λ m. call_below n p f args (low m)) k)

    -- a block that is opened behind the unit
    opened : {s : State} (typ : BlockType) → (Kept → Keeps typ (handled_in first s.blocks)) → (Kept → s.slot ≡ handled_by typ (handled_in first s.blocks)) → (Low → TypeBelow n typ) → Stands s → Led (opens typ s)
    opened {s = s} typ keeps is low k =
        let d : Block = record { typ = typ; level = length s.stack } in behind 0 (turned s.stack (d ∷ s.blocks) s.slot k.holds.stack (around d s.slot keeps is low k.holds.good.exception k.holds.good) k)

    own_led : (setting : Setting) (op : Instruction) (i : ℕ) (s : State) → Stands s → AllLed (act_own setting op i s)
    own_led setting LoadConst i s k = loads_led (slice_get (literals_of setting.code.code.constants) i) _ (λ v low. behind 0 (topped v low k))
    own_led setting LoadFast i s k = load_fast_led _ (slice_get s.locals i) (λ m. k.holds.locals m i) k
    own_led setting StoreFast i s k = where_led _ _ (off_led _ k (λ v rest low under. behind 0 (set i (Some v) (λ m w is. let same : v ≡ w = cc in subst (λ (u : Obj). u.number < n) same (low m)) under)))
    own_led setting DeleteFast i s k = delete_fast_led _ i (slice_get s.locals i) k
    own_led setting CallFunctionPositional c s k =
        calls_led (reverse (take (suc c) s.stack)) (reaches (suc c) s.stack) (λ m. reverse_below n (take (suc c) s.stack) (take_below n (suc c) s.stack (k.holds.stack m)))
        (stacked (drop (suc c) s.stack) (λ m. drop_below n (suc c) s.stack (k.holds.stack m)) k)
    own_led setting Jump to s k = jumps_led to k
    own_led setting JumpIfTrue to s k = off_led _ k (λ v rest low under. asks_led (request.Truth v) (λ m. (low m, tt)) under)
    own_led setting JumpIfFalse to s k = off_led _ k (λ v rest low under. asks_led (request.Truth v) (λ m. (low m, tt)) under)
    own_led setting SetupLoop i s k =
        let inner = opened Loop (λ m. tt) k.holds.good.handled (λ m. tt) k in ((k.here, k.goes), k.begun, placed_going at _ k.goes, λ m. (tt, going_below n s.wants k.goes), inner.2)
    own_led setting SetupExcept to s k = opened (TryExcept to) (λ m. tt) k.holds.good.handled (λ m. tt) k
    own_led setting SetupFinally to s k = opened (Finally to) (λ m. tt) k.holds.good.handled (λ m. tt) k
    own_led setting EnterFinally i s k = opened (FinallyHandler None s.slot) k.holds.good.handled k.holds.good.handled (λ m. (tt, k.holds.good.exception m)) k
    own_led setting EndFinally i s k = in_finally_led s.blocks refl k _ (λ level r kept outer low good. goes_on_led r low (cut level outer kept good k))
    own_led setting SetupWith to s k = off_led _ k (λ v rest low under. asks_led (request.Enter v) (λ m. (low m, tt)) k)
    own_led setting WithCleanupStart i s k = (
      λ m. raised_below n s.blocks (k.holds.good.blocks m),
      λ t v b low. in_finally_led s.blocks refl k _
          (λ level r kept outer r_low good. where_led _ _ (off_led _ (cut level outer kept good k) (λ x rest x_low under. asks_led (request.Exit x t v b) (λ m. (x_low m, low m)) k))),
    )
    own_led setting WithCleanupFinish i s k = off_led _ k
        (λ v above low under. off_led _ under (λ exit rest exit_low lower. in_finally_led s.blocks refl k _ (λ level r kept outer r_low good. where_led _ _ (finishes_led r v r_low low (turned rest outer kept lower.holds.stack good k)))))
    own_led setting PopBlock i s k = pop_block_led s.blocks refl k
    own_led setting PopException i s k = pop_exception_led s.blocks refl k
    own_led setting Raise i s k = raises_led (slice_get raise_kinds i) k
    own_led setting Break to s k = unwinds_led (reason.Break to) (λ m. tt) k
    own_led setting Continue to s k = unwinds_led (reason.Continue to) (λ m. tt) k
    own_led setting ReturnValue i s k = off_led _ k (λ v rest low under. unwinds_led (reason.Returning v) low under)
    own_led setting ReturnConst i s k = loads_led (slice_get (literals_of setting.code.code.constants) i) _ (λ v low. unwinds_led (reason.Returning v) low k)
    own_led setting YieldValue i s k = off_led _ k (λ v rest low under. ((under.here, refl), under.begun, under.here, λ m. ((low m, tt), tt), under.holds))
    own_led setting ExtendedArg i s k = behind i k
    own_led setting _ i s k = tt

    table_led : {s : State} (e : Effect) (f : List Obj → Option Request) (own : Move) → (Low → AsksBelow n e f) → Stands s → AllLed own → AllLed (acts_by e f own s)
    table_led {s = s} (Moves c places) f own asked k led =
        where_led (reaches c s.stack && list_all (λ p. is_there (slice_get s.stack p)) places) (Goes (with_stack (picked places s.stack ++ drop c s.stack) (next s)))
        (behind 0 (stacked (picked places s.stack ++ drop c s.stack) (λ m. values_below n (picked places s.stack) (drop c s.stack) (picked_below n places s.stack (k.holds.stack m)) (drop_below n c s.stack (k.holds.stack m))) k))
    table_led {s = s} (AsksOnce wanted pushes) f own asked k led =
        where_led (reaches (length wanted) s.stack) (asks_if (f (take (length wanted) s.stack)) (with_stack (drop (length wanted) s.stack) s))
        (asks_if_led (f (take (length wanted) s.stack)) (λ m. asked m (take (length wanted) s.stack) (take_below n (length wanted) s.stack (k.holds.stack m))) (stacked (drop (length wanted) s.stack) (λ m. drop_below n (length wanted) s.stack (k.holds.stack m)) k))
    table_led (Takes c pushes) f own asked k led = led
    table_led Other f own asked k led = led

    causes_led : {s : State} (phase : ℕ) (v : Obj) → (Low → v.number < n) → Stands s → Led (causes phase v s)
    causes_led zero v low k = off_led _ k (λ w rest w_low under. again_led (request.Raisable w) (λ m. (w_low m, tt)) under)
    causes_led (suc c) v low k = unwinds_led _ low k

    raised_led : {s : State} (r : Option RaiseKind) (v : Obj) → (Low → v.number < n) → Stands s → Led (raised r v s)
    raised_led None v low k = tt
    raised_led (Some raise.Reraise) v low k = unwinds_led _ low k
    raised_led (Some raise.Raise) v low k = unwinds_led _ low k
    raised_led {s = s} (Some raise.RaiseCause) v low k = causes_led s.phase v low k

    jumps_if_led : {s : State} (b : Bool) (to : ℕ) → Stands s → Led (jumps_if b to s)
    jumps_if_led true to k = jumps_led to k
    jumps_if_led false to k = behind 0 k

    passes_led : {s : State} (b : Bool) (e : Obj) → (Low → e.number < n) → Stands s → Led (passes_if b e s)
    passes_led true e low k = behind 0 k
    passes_led false e low k = unwinds_led _ low k

    entered_led : {s : State} (b : Bool) (m : Obj) (to : ℕ) (v : Obj) → (Low → m.number < n) → (Low → v.number < n) → Stands s → Led (cond b (entered to v s) (asks_again (request.NoExit m) s))
    entered_led {s = s} true m to v m_low low k =
        let d : Block = record { typ = Finally to; level = length s.stack } in
        behind 0 (turned (v ∷ s.stack) (d ∷ s.blocks) s.slot (λ l. (low l, k.holds.stack l)) (around d s.slot (λ l. tt) k.holds.good.handled (λ l. tt) k.holds.good.exception k.holds.good) k)
    entered_led false m to v m_low low k = again_led (request.NoExit m) (λ l. (m_low l, tt)) k

    enters_top_led : {s : State} (stack : List Obj) (to : ℕ) (v : Obj) → (Low → AllBelow n (numbers stack)) → (Low → v.number < n) → Stands s → AllLed (enters_top stack to v s)
    enters_top_led [] to v below low k = tt
    enters_top_led (m ∷ rest) to v below low k = λ b. entered_led b m to v (λ l. (below l).0) low k

    enters_led : {s : State} (phase to : ℕ) (v : Obj) → (Low → v.number < n) → Stands s → AllLed (enters phase to v s)
    enters_led {s = s} zero to v low k = enters_top_led s.stack to v k.holds.stack low k
    enters_led (suc c) to v low k = tt

    own_answer_led : (op : Instruction) (i : ℕ) (v : Obj) (s : State) → (Low → v.number < n) → Stands s → AllLed (answered_own op i v s)
    own_answer_led CallFunctionPositional c v s low k = behind 0 (topped v low k)
    own_answer_led JumpIfTrue to v s low k = λ b. jumps_if_led b to k
    own_answer_led JumpIfFalse to v s low k = λ b. jumps_if_led (not b) to k
    own_answer_led SetupWith to v s low k = enters_led s.phase to v low k
    own_answer_led WithCleanupStart i v s low k = behind 0 (topped v low k)
    own_answer_led WithCleanupFinish i v s low k = λ b. off_led _ k (λ e rest e_low under. passes_led b e e_low under)
    own_answer_led Raise i v s low k = raised_led (slice_get raise_kinds i) v low k
    own_answer_led YieldValue i v s low k = behind 0 (topped v low k)
    own_answer_led _ i v s low k = tt

    answer_led : {s : State} (e : Effect) (own : Move) (v : Obj) → (Low → v.number < n) → Stands s → AllLed own → AllLed (answered_by e own v s)
    answer_led (Moves c places) own v low k led = tt
    answer_led (AsksOnce wanted None) own v low k led = behind 0 k
    answer_led (AsksOnce wanted (Some kind)) own v low k led = behind 0 (topped v low k)
    answer_led (Takes c pushes) own v low k led = led
    answer_led Other own v low k led = led

-- the place behind the unit that was begun last, where a frame makes a step that expects this
abbrev pub begun_by : Expect → State → ℕ
begun_by expect.Start s = s.last
begun_by expect.Go s = suc s.at
begun_by (expect.Answer w) s = s.last
begun_by expect.Resume s = s.last
begun_by (expect.Heard w) s = s.last
begun_by expect.Ended s = suc s.at

module _ (first : Option PyBaseExceptionRef) (Kept Low : Type 0) (objects : List Payload) (setting : Setting) (s : State) (holds : Holds first (length objects) Kept Low s.stack s.locals s.blocks s.slot) where
  abbrev LedBy : Expect → Move → Type 0
  LedBy x m = AllLed first (length objects) Kept Low s.at (begun_by x s) m

  moves_led : (x : Expect) → (Low → setting.globals.number < length objects) → (Low → ExpectBelow (length objects) x) → LedBy x (moves setting x s)
  moves_led expect.Start globals low = tt
  moves_led expect.Go globals low = by_unit (slice_get setting.code.code.instructions.items s.at)
    where
      now : Stands first (length objects) Kept Low s.at (suc s.at) (begun s)
      now = record { here = refl; begun = refl; goes = refl; holds = holds }

      by_unit : (o : Option CodeUnit) → LedBy expect.Go (unit_move setting o s)
      by_unit None = tt
      by_unit (Some u) =
          let i : ℕ = with_byte s.prefix u.arg in
          table_led first (length objects) Kept Low s.at (suc s.at) (row_effect u.op i) (asked setting u.op i) (act_own setting u.op i (begun s)) (λ m. asked_below (length objects) setting u.op i (globals m)) now
          (own_led first (length objects) Kept Low s.at (suc s.at) setting u.op i (begun s) now)
  moves_led (expect.Answer w) globals low = tt
  moves_led expect.Resume globals low = tt
  moves_led (expect.Heard (got.Value v)) globals low = by_unit (slice_get setting.code.code.instructions.items s.at)
    where
      now : Stands first (length objects) Kept Low s.at s.last (waiting expect.Go s)
      now = record { here = refl; begun = refl; goes = refl; holds = holds }

      by_unit : (o : Option CodeUnit) → LedBy (expect.Heard (got.Value v)) (unit_answered o v (waiting expect.Go s))
      by_unit None = tt
      by_unit (Some u) =
          let i : ℕ = with_byte s.prefix u.arg in
          answer_led first (length objects) Kept Low s.at s.last (row_effect u.op i) (answered_own u.op i v (waiting expect.Go s)) v (λ m. (low m).0) now
          (own_answer_led first (length objects) Kept Low s.at s.last u.op i v (waiting expect.Go s) (λ m. (low m).0) now)
  moves_led (expect.Heard (got.Stop v)) globals low = tt
  moves_led (expect.Heard (got.Raise e)) globals low =
      unwinds_led first (length objects) Kept Low s.at s.last {s = waiting expect.Go s} (reason.Raising e) (λ m. (low m).0) (record { here = refl; begun = refl; goes = refl; holds = holds })
  moves_led expect.Ended globals low = tt

  -- a step that a move may lead to
  may_led : (x : Expect) (m : Move) (step : Step) → LedBy x m → MayLead objects m step → Led first (length objects) Kept Low s.at (begun_by x s) step
  may_led x (Plainly done) step all may = subst (Led first (length objects) Kept Low s.at (begun_by x s)) may all
  may_led x (Loads c f) step all (v, has, is) = subst (Led first (length objects) Kept Low s.at (begun_by x s)) is (all v (λ m. constant_there objects v c has))
  may_led x (Decides v f) step all (b, has, is) = subst (Led first (length objects) Kept Low s.at (begun_by x s)) is (all b)
  may_led x (Manages o f) step all (b, manages, is) = subst (Led first (length objects) Kept Low s.at (begun_by x s)) is (all b)
  may_led x (Resolves v f) step all (p, has, is) = subst (Led first (length objects) Kept Low s.at (begun_by x s)) is (all p)
  may_led x (Exits e f) step all (t, v, b, exits, is) = subst (Led first (length objects) Kept Low s.at (begun_by x s)) is (all.1 t v b (λ m. exit_low e (all.0 m) exits))
    where
      exit_low : (e : Option PyBaseExceptionRef) → AllBelow (length objects) (number_if e) → IsExit objects e t v b → AllBelow (length objects) (t.number ∷ v.number ∷ b.number ∷ [])
      exit_low None low (x, y, z) = (slice_get_within objects t.number _ x, (slice_get_within objects v.number _ y, (slice_get_within objects b.number _ z, tt)))
      exit_low (Some e) low (same, class, x, z) = (x, (subst (λ (u : Obj). u.number < length objects) (sym same) low.0, (⊎_elim (slice_get_within objects b.number _) (λ traceback. slice_get_within objects b.number _ traceback.1) z, tt)))

  pub step_led : (step : Step) → (Low → setting.globals.number < length objects) → (Low → ExpectBelow (length objects) s.wants) → MayLead objects (moves setting s.wants s) step → Led first (length objects) Kept Low s.at (begun_by s.wants s) step
  step_led step globals low may = may_led s.wants (moves setting s.wants s) step (moves_led s.wants globals low) may
