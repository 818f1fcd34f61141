-- Frames that go on behind a unit.
use Rattle.std.proofs.Common.{◌≡◌, ◌+◌, ℕ, suc, List, Option, Some, true, false, subst, length, add-one}
use Rattle.std.specs.Prelude.{slice_get}
use Rattle.std.proofs.lemmas.Bool.{and_parts}
use Rattle.py_code.specs.declared.unit.CodeUnit.{CodeUnit}
use Rattle.py_code.specs.Units.{is_prefix}
use Rattle.py_objects.specs.declared.refs.PyBaseExceptionRef.{PyBaseExceptionRef}
use Rattle.py_objects.specs.declared.payload.Payload.{Payload}
use Rattle.py_objects.specs.Objects.{Obj}
use Rattle.py_check.specs.declared.note.Kind.{Kind}
use Rattle.py_check.specs.declared.note.BlockNote.{BlockNote}
use Rattle.py_check.specs.declared.annotated.Annotated.{Annotated}
use Rattle.py_check.specs.Sheet.{sheet_of}
use Rattle.py_check.specs.Landing.{has_room, lands, goes_on}
use Rattle.py_rows.specs.declared.block.Block.{Block}
use Rattle.py_rows.specs.declared.expect.Expect.TheVariants as expect
use Rattle.py_rows.specs.States.{State}
use Rattle.py_rows.specs.Fitting.{HaveKinds, AreBlocks}
use Rattle.py_rows.proofs.TypingLemmas.{none_carried}
use Rattle.py_rows.proofs.LandingLemmas.{Fits, Arrives, arrives, arrived, on_fits}

module _ (objects : List Payload) (code : Annotated) (s : State) (unit : CodeUnit) (is : slice_get code.code.code.instructions.items s.at ≡ Some unit) (goes : s.wants ≡ expect.Go) where
  -- the note behind the unit
  pub arrives_behind : (ks : List Kind) (bs : List BlockNote) (stack : List Obj) (ds : List Block) → goes_on (sheet_of code) (s.at + 1) ks bs ≡ true → HaveKinds objects stack ks → AreBlocks objects ds bs
      → Arrives objects stack ds (slice_get code.notes (suc s.at))
  arrives_behind ks bs stack ds may holds are =
      let parts = and_parts (has_room (sheet_of code) ks) (lands (sheet_of code) (s.at + 1) ks bs) may in
      subst (λ (n : ℕ). Arrives objects stack ds (slice_get code.notes n)) (add-one s.at) (arrives objects stack ds ks bs (slice_get code.notes (s.at + 1)) parts.1 holds are)

  -- a frame that goes on behind a unit that is no prefix
  pub fits_behind : is_prefix unit.op ≡ false → (ks : List Kind) (bs : List BlockNote) (stack : List Obj) (ds : List Block) (locals : List (Option Obj)) (slot : Option PyBaseExceptionRef) → goes_on (sheet_of code) (s.at + 1) ks bs ≡ true
      → HaveKinds objects stack ks → AreBlocks objects ds bs → length locals ≡ length code.code.code.varnames.items → Fits objects code (record s { at = suc s.at; prefix = 0; stack = stack; blocks = ds; locals = locals; slot = slot })
  fits_behind plain ks bs stack ds locals slot may holds are count =
      let t : State = record s { at = suc s.at; prefix = 0; stack = stack; blocks = ds; locals = locals; slot = slot } in
      on_fits objects code t goes (arrived objects code t (arrives_behind ks bs stack ds may holds are) (none_carried code.code.code.instructions.items s.at unit is plain) count)
