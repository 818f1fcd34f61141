-- What is handled inside of blocks is an exception; it is handled there, or else outside of them.
use Rattle.std.proofs.Common.{◌≡◌, List, [], ◌∷◌, Option, None, Some, refl}
use Rattle.std.specs.Option.{option_or}
use Rattle.py_objects.specs.declared.refs.PyBaseExceptionRef.{PyBaseExceptionRef}
use Rattle.py_objects.specs.declared.payload.Payload.{Payload}
use Rattle.py_check.specs.declared.note.BlockNote.{BlockNote}
use Rattle.py_check.specs.declared.note.Pending.{Pending}
use Rattle.py_check.specs.Notes.{pending_of}
use Rattle.py_rows.specs.declared.block.Block.{Block}
use Rattle.py_rows.specs.declared.block.BlockType.{BlockType}
use Rattle.py_rows.specs.declared.block.BlockType.TheVariants.{Loop, TryExcept, Finally, FinallyHandler, ExceptHandler}
use Rattle.py_rows.specs.declared.block.UnwindReason.{UnwindReason}
use Rattle.py_rows.specs.declared.block.UnwindReason.TheVariants as reason
use Rattle.py_rows.specs.Fitting.{WaitsIn, MayWait, TypeWaits, AreBlocks}
use Rattle.py_rows.specs.Handled.{entered_by, entered_if, handled_by, handled_in}
use Rattle.py_rows.specs.Laws.{RaisedThere}

module _ (objects : List Payload) where
  entered_there : (ps : List Pending) (r : UnwindReason) (outer : Option PyBaseExceptionRef) → WaitsIn objects ps r → RaisedThere objects outer → RaisedThere objects (entered_by r outer)
  entered_there ps (reason.Raising e) outer waits there = waits
  entered_there ps (reason.Returning v) outer waits there = there
  entered_there ps (reason.Break to) outer waits there = there
  entered_there ps (reason.Continue to) outer waits there = there

  if_there : (ps : List Pending) (r : Option UnwindReason) (outer : Option PyBaseExceptionRef) → MayWait objects ps r → RaisedThere objects outer → RaisedThere objects (entered_if r outer)
  if_there ps None outer waits there = there
  if_there ps (Some r) outer waits there = entered_there ps r outer waits there

  type_there : (ps : List Pending) (typ : BlockType) (outer : Option PyBaseExceptionRef) → TypeWaits objects ps typ → RaisedThere objects outer → RaisedThere objects (handled_by typ outer)
  type_there ps Loop outer waits there = there
  type_there ps (TryExcept handler) outer waits there = there
  type_there ps (Finally handler) outer waits there = there
  type_there ps (FinallyHandler r kept) outer waits there = if_there ps r outer waits there
  type_there ps (ExceptHandler e kept) outer waits there = waits

  -- what is handled inside of blocks is an exception, where what is handled outside is one
  pub handled_there : (first : Option PyBaseExceptionRef) (bs : List Block) (cs : List BlockNote) → AreBlocks objects bs cs → RaisedThere objects first → RaisedThere objects (handled_in first bs)
  handled_there first [] [] are there = there
  handled_there first [] (c ∷ cs) are there = absurd are
  handled_there first (b ∷ bs) [] are there = absurd are
  handled_there first (b ∷ bs) (c ∷ cs) are there = type_there (pending_of c) b.typ (handled_in first bs) are.0.waits (handled_there first bs cs are.1 there)

module _ (first : Option PyBaseExceptionRef) where
  by_reason : (r : UnwindReason) (inner all : Option PyBaseExceptionRef) → all ≡ option_or inner first → entered_by r all ≡ option_or (entered_by r inner) first
  by_reason (reason.Raising e) inner all is = refl
  by_reason (reason.Returning v) inner all is = is
  by_reason (reason.Break to) inner all is = is
  by_reason (reason.Continue to) inner all is = is

  by_reason_if : (r : Option UnwindReason) (inner all : Option PyBaseExceptionRef) → all ≡ option_or inner first → entered_if r all ≡ option_or (entered_if r inner) first
  by_reason_if None inner all is = is
  by_reason_if (Some r) inner all is = by_reason r inner all is

  by_type : (typ : BlockType) (inner all : Option PyBaseExceptionRef) → all ≡ option_or inner first → handled_by typ all ≡ option_or (handled_by typ inner) first
  by_type Loop inner all is = is
  by_type (TryExcept handler) inner all is = is
  by_type (Finally handler) inner all is = is
  by_type (FinallyHandler r kept) inner all is = by_reason_if r inner all is
  by_type (ExceptHandler e kept) inner all is = refl

  pub handled_outside : (bs : List Block) → handled_in first bs ≡ option_or (handled_in None bs) first
  handled_outside [] = refl
  handled_outside (b ∷ bs) = by_type b.typ (handled_in None bs) (handled_in first bs) (handled_outside bs)
