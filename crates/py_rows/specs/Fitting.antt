-- How a frame fits the notes of its code.
use Rattle.std.specs.Prelude.{ℕ, zero, suc, ◌≤◌, ◌<◌, Bool, true, Option, Some, None, List, [], ◌∷◌, ◌≡◌, slice_get, length, drop}
use Rattle.std.specs.List.{list_any}
use Rattle.py_code.specs.declared.unit.CodeUnit.{CodeUnit}
use Rattle.py_code.specs.declared.instruction.Instruction.{Instruction}
use Rattle.py_code.specs.declared.instruction.Instruction.TheVariants.{LoadFast, DeleteFast, CallFunctionPositional, JumpIfTrue, JumpIfFalse, SetupWith, WithCleanupStart, WithCleanupFinish, Raise, YieldValue}
use Rattle.py_code.specs.declared.operator.RaiseKind.{RaiseKind}
use Rattle.py_code.specs.declared.operator.RaiseKind.TheVariants as raise
use Rattle.py_code.specs.Operators.{raise_kinds}
use Rattle.py_code.specs.Units.{with_byte}
use Rattle.py_objects.specs.declared.payload.Payload.{Payload}
use Rattle.py_objects.specs.declared.event.GotAnswer.{GotAnswer}
use Rattle.py_objects.specs.declared.event.GotAnswer.TheVariants as got
use Rattle.py_objects.specs.Objects.{Obj, as_object}
use Rattle.py_check.specs.declared.note.Kind.{Kind}
use Rattle.py_check.specs.declared.note.Kind.TheVariants as kind
use Rattle.py_check.specs.declared.note.Pending.{Pending}
use Rattle.py_check.specs.declared.note.Pending.TheVariants as pending
use Rattle.py_check.specs.declared.note.BlockNote.{BlockNote}
use Rattle.py_check.specs.declared.note.Note.TheVariants.{Live}
use Rattle.py_check.specs.declared.annotated.Annotated.{Annotated}
use Rattle.py_check.specs.Depths.{deepest}
use Rattle.py_check.specs.Notes.{level_of, handler_of, pending_of, block_number, same_pending}
use Rattle.py_check.specs.Operands.{carried}
use Rattle.py_check.specs.Sheet.{sheet_of}
use Rattle.py_check.specs.Effects.{Effect, Moves, AsksOnce, Takes, Other}
use Rattle.py_rows.specs.Table.{row_effect}
use Rattle.py_check.specs.Landing.{handlers_land}
use Rattle.py_rows.specs.declared.block.Block.{Block}
use Rattle.py_rows.specs.declared.block.BlockType.{BlockType}
use Rattle.py_rows.specs.declared.block.BlockType.TheVariants.{Loop, TryExcept, Finally, FinallyHandler, ExceptHandler}
use Rattle.py_rows.specs.declared.block.UnwindReason.{UnwindReason}
use Rattle.py_rows.specs.declared.block.UnwindReason.TheVariants as reason
use Rattle.py_rows.specs.declared.expect.Wanted.{Wanted}
use Rattle.py_rows.specs.declared.expect.Wanted.TheVariants as want
use Rattle.py_rows.specs.declared.expect.Expect.{Expect}
use Rattle.py_rows.specs.declared.expect.Expect.TheVariants as expect
use Rattle.py_rows.specs.States.{State}
use Rattle.py_rows.specs.Answers.{HasKind, IsValue}
use Rattle.py_rows.specs.Suits.{Suits}

-- objects are of these kinds, in order
abbrev pub HaveKinds : List Payload → List Obj → List Kind → Type 0
HaveKinds objects [] [] = Unit {0}
HaveKinds objects [] (k ∷ ks) = ⊥
HaveKinds objects (v ∷ vs) [] = ⊥
HaveKinds objects (v ∷ vs) (k ∷ ks) = HasKind objects v k × HaveKinds objects vs ks

-- a number for each kind of block, which is that of its note
abbrev pub type_number : BlockType → ℕ
type_number Loop = 0
type_number (TryExcept handler) = 1
type_number (Finally handler) = 2
type_number (FinallyHandler r kept) = 3
type_number (ExceptHandler e kept) = 4

-- the label of its handler, 0 where it has none
abbrev pub type_handler : BlockType → ℕ
type_handler Loop = 0
type_handler (TryExcept handler) = handler
type_handler (Finally handler) = handler
type_handler (FinallyHandler r kept) = 0
type_handler (ExceptHandler e kept) = 0

-- a reason for which blocks may be left: an exception that is one, any value, or a jump that a test lets through
abbrev pub Admits : List Payload → (Pending → Bool) → UnwindReason → Type 0
Admits objects test (reason.Raising e) = HasKind objects (as_object e) kind.Exc
Admits objects test (reason.Returning v) = Unit {0}
Admits objects test (reason.Break to) = test (pending.Break to) ≡ true
Admits objects test (reason.Continue to) = test (pending.Continue to) ≡ true

-- one that may wait where these jumps may
abbrev pub WaitsIn : List Payload → List Pending → UnwindReason → Type 0
WaitsIn objects ps r = Admits objects (λ p. list_any (same_pending p) ps) r

-- the same of a reason, if any
abbrev pub MayWait : List Payload → List Pending → Option UnwindReason → Type 0
MayWait objects ps None = Unit {0}
MayWait objects ps (Some r) = WaitsIn objects ps r

-- the same of what waits in a block; what a handler handles is an exception
abbrev pub TypeWaits : List Payload → List Pending → BlockType → Type 0
TypeWaits objects ps Loop = Unit {0}
TypeWaits objects ps (TryExcept handler) = Unit {0}
TypeWaits objects ps (Finally handler) = Unit {0}
TypeWaits objects ps (FinallyHandler r kept) = MayWait objects ps r
TypeWaits objects ps (ExceptHandler e kept) = HasKind objects (as_object e) kind.Exc

-- a block is as its note says
pub record IsBlock (objects : List Payload) (b : Block) (c : BlockNote) : Type 0 where
  pub number : type_number b.typ ≡ block_number c
  pub level : b.level ≡ level_of c
  pub handler : type_handler b.typ ≡ handler_of c
  pub waits : TypeWaits objects (pending_of c) b.typ

-- blocks are as their notes say, in order
abbrev pub AreBlocks : List Payload → List Block → List BlockNote → Type 0
AreBlocks objects [] [] = Unit {0}
AreBlocks objects [] (c ∷ cs) = ⊥
AreBlocks objects (b ∷ bs) [] = ⊥
AreBlocks objects (b ∷ bs) (c ∷ cs) = IsBlock objects b c × AreBlocks objects bs cs

-- a frame has these kinds and blocks, which are within the sizes, and whose handlers may be entered
pub record Has (objects : List Payload) (code : Annotated) (kinds : List Kind) (block_notes : List BlockNote) (s : State) : Type 0 where
  pub holds : HaveKinds objects s.stack kinds
  pub blocks : AreBlocks objects s.blocks block_notes
  pub handlers : handlers_land (sheet_of code) kinds block_notes ≡ true
  pub room : length kinds ≤ code.code.code.max_stackdepth
  pub block_room : length block_notes ≤ deepest code.notes
  pub locals : length s.locals ≡ length code.code.code.varnames.items

-- a frame fits the note in front of the unit that comes next
pub record FitsNote (objects : List Payload) (code : Annotated) (s : State) : Type 0 where
  pub kinds : List Kind
  pub block_notes : List BlockNote
  pub note : slice_get code.notes s.at ≡ Some (Live kinds block_notes)
  pub holds : HaveKinds objects s.stack kinds
  pub blocks : AreBlocks objects s.blocks block_notes
  pub carries : s.prefix ≡ carried code.code.code.instructions.items s.at
  pub locals : length s.locals ≡ length code.code.code.varnames.items

-- what is left of a note while its unit waits, and what an answer must be at least
pub record Waiting : Type 0 where
  pub kinds : List Kind
  pub blocks : List BlockNote
  pub wanted : Wanted

-- an answer that is pushed is of the kind that the table of effects says
abbrev pub wanted_of : Option Kind → Wanted
wanted_of None = want.Of kind.Any
wanted_of (Some k) = want.Of k

-- while a raise with a cause waits for the cause, and then for the exception
abbrev pub cause_left : ℕ → List Kind → List BlockNote → Option Waiting
cause_left zero ks bs = Some (record { kinds = drop 1 ks; blocks = bs; wanted = want.ExceptionOrNone })
cause_left (suc n) ks bs = Some (record { kinds = drop 2 ks; blocks = bs; wanted = want.Of kind.Exc })

-- while a raise waits
abbrev pub raise_left : Option RaiseKind → ℕ → List Kind → List BlockNote → Option Waiting
raise_left None phase ks bs = None
raise_left (Some raise.Reraise) phase ks bs = Some (record { kinds = ks; blocks = bs; wanted = want.Of kind.Exc })
raise_left (Some raise.Raise) phase ks bs = Some (record { kinds = drop 1 ks; blocks = bs; wanted = want.Of kind.Exc })
raise_left (Some raise.RaiseCause) phase ks bs = cause_left phase ks bs

-- while a manager is entered, and then its exit, which isn't there, is asked for
abbrev pub with_left : ℕ → List Kind → List BlockNote → Option Waiting
with_left zero ks bs = Some (record { kinds = ks; blocks = bs; wanted = want.Of kind.Any })
with_left (suc n) ks bs = Some (record { kinds = ks; blocks = bs; wanted = want.NoValue })

-- the instructions that wait for an answer, or for what is sent
abbrev pub left_own : Instruction → ℕ → ℕ → List Kind → List BlockNote → Option Waiting
left_own LoadFast i phase ks bs = Some (record { kinds = ks; blocks = bs; wanted = want.NoValue })
left_own DeleteFast i phase ks bs = Some (record { kinds = ks; blocks = bs; wanted = want.NoValue })
left_own CallFunctionPositional k phase ks bs = Some (record { kinds = drop (suc k) ks; blocks = bs; wanted = want.Of kind.Any })
left_own JumpIfTrue i phase ks bs = Some (record { kinds = drop 1 ks; blocks = bs; wanted = want.Truth })
left_own JumpIfFalse i phase ks bs = Some (record { kinds = drop 1 ks; blocks = bs; wanted = want.Truth })
left_own SetupWith i phase ks bs = with_left phase ks bs
left_own WithCleanupStart i phase ks bs = Some (record { kinds = ks; blocks = bs; wanted = want.Of kind.Any })
left_own WithCleanupFinish i phase ks bs = Some (record { kinds = kind.Exc ∷ drop 2 ks; blocks = drop 1 bs; wanted = want.Truth })
left_own Raise i phase ks bs = raise_left (slice_get raise_kinds i) phase ks bs
left_own YieldValue i phase ks bs = Some (record { kinds = drop 1 ks; blocks = bs; wanted = want.Of kind.Any })
left_own _ i phase ks bs = None

-- what is left by the table of effects
abbrev pub left_by : Effect → Option Waiting → List Kind → List BlockNote → Option Waiting
left_by (Moves n places) own ks bs = None
left_by (AsksOnce taken pushes) own ks bs = Some (record { kinds = drop (length taken) ks; blocks = bs; wanted = wanted_of pushes })
left_by (Takes n pushes) own ks bs = own
left_by Other own ks bs = own

-- what is left while an instruction waits, in this phase, with its operand
abbrev pub left_of : Instruction → ℕ → ℕ → List Kind → List BlockNote → Option Waiting
left_of op i phase ks bs = left_by (row_effect op i) (left_own op i phase ks bs) ks bs

-- a frame fits the note of the unit that waits but for what that took
pub record FitsBut (objects : List Payload) (code : Annotated) (w : Wanted) (s : State) : Type 0 where
  pub unit : CodeUnit
  pub is : slice_get code.code.code.instructions.items s.at ≡ Some unit
  pub kinds : List Kind
  pub block_notes : List BlockNote
  pub note : slice_get code.notes s.at ≡ Some (Live kinds block_notes)
  pub left : Waiting
  pub waits : left_of unit.op (with_byte s.prefix unit.arg) s.phase kinds block_notes ≡ Some left
  pub suits : Suits w left.wanted
  pub has : Has objects code left.kinds left.blocks s
  pub carries : s.prefix ≡ carried code.code.code.instructions.items s.at

-- a frame can leave its blocks
pub record CanUnwind (objects : List Payload) (code : Annotated) (s : State) : Type 0 where
  pub kinds : List Kind
  pub block_notes : List BlockNote
  pub has : Has objects code kinds block_notes s
  pub there : s.at < length code.code.code.instructions.items

-- a frame fits what it heard: a value that its unit wanted, or an exception
abbrev pub FitsHeard : List Payload → Annotated → GotAnswer → State → Type 0
FitsHeard objects code (got.Value v) s = (w : Wanted) × FitsBut objects code w s × IsValue objects w v
FitsHeard objects code (got.Stop v) s = ⊥
FitsHeard objects code (got.Raise e) s = HasKind objects (as_object e) kind.Exc × CanUnwind objects code s

-- a frame fits its code, by what it expects
abbrev pub FitsAt : List Payload → Annotated → Expect → State → Type 0
FitsAt objects code expect.Start s = (s.at ≡ 0) × FitsNote objects code s
FitsAt objects code expect.Go s = FitsNote objects code s
FitsAt objects code (expect.Answer w) s = FitsBut objects code w s
FitsAt objects code expect.Resume s = FitsBut objects code (want.Of kind.Any) s
FitsAt objects code (expect.Heard w) s = FitsHeard objects code w s
FitsAt objects code expect.Ended s = (s.blocks ≡ []) × (length s.stack ≤ code.code.code.max_stackdepth)
