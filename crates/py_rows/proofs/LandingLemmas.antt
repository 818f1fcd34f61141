-- Frames that land in front of a unit fit its note.
use Rattle.std.proofs.Common.{◌≡◌, ℕ, List, Bool, Option, None, Some, true, false, cond, refl, sym, subst, length}
use Rattle.std.specs.Prelude.{slice_get, nat_lt}
use Rattle.std.proofs.lemmas.Bool.{and_parts}
use Rattle.py_objects.specs.declared.payload.Payload.{Payload}
use Rattle.py_objects.specs.Objects.{Obj}
use Rattle.py_objects.specs.Own.{Rounds}
use Rattle.py_check.specs.declared.note.Kind.{Kind}
use Rattle.py_check.specs.declared.note.Note.{Note}
use Rattle.py_check.specs.declared.note.Note.TheVariants.{Dead, Live}
use Rattle.py_check.specs.declared.note.BlockNote.{BlockNote}
use Rattle.py_check.specs.declared.annotated.Annotated.{Annotated}
use Rattle.py_check.specs.Notes.{kinds_fit, blocks_fit, note_fits}
use Rattle.py_check.specs.Operands.{carried, is_label}
use Rattle.py_check.specs.Sheet.{sheet_of}
use Rattle.py_check.specs.Landing.{lands, jumps as may_jump}
use Rattle.py_rows.specs.declared.block.Block.{Block}
use Rattle.py_rows.specs.declared.expect.Expect.{Expect}
use Rattle.py_rows.specs.declared.expect.Expect.TheVariants as expect
use Rattle.py_rows.specs.States.{State, Step, Goes, Tells, Stuck, landed, jumps}
use Rattle.py_rows.specs.Fitting.{HaveKinds, AreBlocks, FitsNote, FitsAt}
use Rattle.py_rows.specs.Laws.{MayTell}
use Rattle.py_rows.proofs.KindLemmas.{kinds_fitted}
use Rattle.py_rows.proofs.BlockLemmas.{blocks_fitted}
use Rattle.py_rows.proofs.TypingLemmas.{label_carried}

-- a frame fits by what it expects
abbrev pub Fits : List Payload → Annotated → State → Type 0
Fits objects code t = FitsAt objects code t.wants t

-- a step leads to one that fits, and tells what its unit may tell
abbrev pub StepFits : List Payload → Annotated → Step → Type 0
StepFits objects code (Goes t) = Fits objects code t
StepFits objects code (Tells x t) = MayTell objects code.code x × Fits objects code t
StepFits objects code Stuck = ⊥

pub on_fits : (objects : List Payload) (code : Annotated) (t : State) → t.wants ≡ expect.Go → FitsNote objects code t → Fits objects code t
on_fits objects code t goes fits = subst (λ (x : Expect). FitsAt objects code x t) (sym goes) fits

-- these values and blocks are those of a note
pub record Arrives (objects : List Payload) (stack : List Obj) (blocks : List Block) (note : Option Note) : Type 0 where
  pub kinds : List Kind
  pub block_notes : List BlockNote
  pub is : note ≡ Some (Live kinds block_notes)
  pub holds : HaveKinds objects stack kinds
  pub are : AreBlocks objects blocks block_notes

pub arrives : (objects : List Payload) (stack : List Obj) (blocks : List Block) (ks : List Kind) (bs : List BlockNote) (note : Option Note)
    → note_fits ks bs note ≡ true → HaveKinds objects stack ks → AreBlocks objects blocks bs → Arrives objects stack blocks note
arrives objects stack blocks ks bs None fits holds are = cc
arrives objects stack blocks ks bs (Some Dead) fits holds are = cc
arrives objects stack blocks ks bs (Some (Live ls cs)) fits holds are =
    let parts = and_parts (kinds_fit ks ls) (blocks_fit bs cs) fits in
    record { kinds = ls; block_notes = cs; is = refl; holds = kinds_fitted objects stack ks ls holds parts.0; are = blocks_fitted objects blocks bs cs are parts.1 }

-- so a frame with them fits that note
pub arrived : (objects : List Payload) (code : Annotated) (t : State) → Arrives objects t.stack t.blocks (slice_get code.notes t.at) → t.prefix ≡ carried code.code.code.instructions.items t.at
    → length t.locals ≡ length code.code.code.varnames.items → FitsNote objects code t
arrived objects code t to carries locals = record { kinds = to.kinds; block_notes = to.block_notes; note = to.is; holds = to.holds; blocks = to.are; carries = carries; locals = locals }

-- a jump to a label
pub jumped : (objects : List Payload) (code : Annotated) (to : ℕ) (s : State) → s.wants ≡ expect.Go → is_label code.code.code.instructions.items to ≡ true
    → Arrives objects s.stack s.blocks (slice_get code.notes to) → length s.locals ≡ length code.code.code.varnames.items → StepFits objects code (jumps to s)
jumped objects code to s goes label there locals =
    let fits : Fits objects code (landed to s) = on_fits objects code (landed to s) goes (arrived objects code (landed to s) there (label_carried code.code.code.instructions.items to label) locals) in
    let P : Bool → Type 0 = λ b. StepFits objects code (cond b (Goes (landed to s)) (Tells (Rounds s.at) (landed to s))) in
    let cases : (b : Bool) → P b = λ b. elim b as P [ true ↦ fits | false ↦ (tt, fits) ] in
    cases (nat_lt s.at to)

pub may_jumped : (objects : List Payload) (code : Annotated) (to : ℕ) (ks : List Kind) (bs : List BlockNote) (s : State) → s.wants ≡ expect.Go → may_jump (sheet_of code) to ks bs ≡ true
    → HaveKinds objects s.stack ks → AreBlocks objects s.blocks bs → length s.locals ≡ length code.code.code.varnames.items → StepFits objects code (jumps to s)
may_jumped objects code to ks bs s goes may holds are locals =
    let parts = and_parts (is_label code.code.code.instructions.items to) (lands (sheet_of code) to ks bs) may in
    jumped objects code to s goes parts.0 (arrives objects s.stack s.blocks ks bs (slice_get code.notes to) parts.1 holds are) locals
