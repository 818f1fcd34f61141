-- Which objects a frame names: where all that go into it are among the first n, so are all that come out.
use Rattle.std.specs.Prelude.{ℕ, ◌<◌, ◌≡◌, Option, Some, None, List, [], ◌∷◌, ◌++◌, slice_get}
use Rattle.py_objects.specs.declared.refs.PyBaseExceptionRef.{PyBaseExceptionRef}
use Rattle.py_objects.specs.Objects.{Obj, AllBelow, numbers, number_if, request_numbers, how_numbers, got_numbers, ending_numbers}
use Rattle.py_objects.specs.Own.{Own, Makes, Resumes, Asks, Gets, Rounds, Yields, Ends}
use Rattle.py_rows.specs.declared.block.Block.{Block}
use Rattle.py_rows.specs.declared.block.BlockType.{BlockType}
use Rattle.py_rows.specs.declared.block.BlockType.TheVariants.{Loop, TryExcept, Finally, FinallyHandler, ExceptHandler}
use Rattle.py_rows.specs.declared.block.UnwindReason.{UnwindReason}
use Rattle.py_rows.specs.declared.block.UnwindReason.TheVariants as reason
use Rattle.py_rows.specs.declared.expect.Expect.{Expect}
use Rattle.py_rows.specs.declared.expect.Expect.TheVariants as expect
use Rattle.py_rows.specs.States.{State}

-- the numbers that come into an activation by an event
abbrev pub heard_numbers : Own → List ℕ
heard_numbers Makes = []
heard_numbers (Resumes k h) = how_numbers h
heard_numbers (Asks at r own) = []
heard_numbers (Gets k w) = got_numbers w
heard_numbers (Rounds at) = []
heard_numbers (Yields at v) = []
heard_numbers (Ends at e) = []

-- the numbers that an activation names by an event
abbrev pub told_numbers : Own → List ℕ
told_numbers Makes = []
told_numbers (Resumes k h) = []
told_numbers (Asks at r own) = number_if own ++ request_numbers r
told_numbers (Gets k w) = []
told_numbers (Rounds at) = []
told_numbers (Yields at v) = v.number ∷ []
told_numbers (Ends at e) = ending_numbers e

-- the same of several events
abbrev pub HearsBelow : ℕ → List Own → Type 0
HearsBelow n [] = Unit {0}
HearsBelow n (x ∷ xs) = AllBelow n (heard_numbers x) × HearsBelow n xs

abbrev pub TellsBelow : ℕ → List Own → Type 0
TellsBelow n [] = Unit {0}
TellsBelow n (x ∷ xs) = AllBelow n (told_numbers x) × TellsBelow n xs

-- what a reason names is among the first n
abbrev pub ReasonBelow : ℕ → UnwindReason → Type 0
ReasonBelow n (reason.Raising e) = e.number < n
ReasonBelow n (reason.Returning v) = v.number < n
ReasonBelow n (reason.Break to) = Unit {0}
ReasonBelow n (reason.Continue to) = Unit {0}

-- the same of a reason, if any
abbrev pub IfBelow : ℕ → Option UnwindReason → Type 0
IfBelow n None = Unit {0}
IfBelow n (Some r) = ReasonBelow n r

-- and of a block
abbrev pub TypeBelow : ℕ → BlockType → Type 0
TypeBelow n Loop = Unit {0}
TypeBelow n (TryExcept handler) = Unit {0}
TypeBelow n (Finally handler) = Unit {0}
TypeBelow n (FinallyHandler r kept) = IfBelow n r × AllBelow n (number_if kept)
TypeBelow n (ExceptHandler e kept) = (e.number < n) × AllBelow n (number_if kept)

-- and of several
abbrev pub BlocksBelow : ℕ → List Block → Type 0
BlocksBelow n [] = Unit {0}
BlocksBelow n (b ∷ blocks) = TypeBelow n b.typ × BlocksBelow n blocks

-- and of what a frame expects, which may be something that it heard
abbrev pub ExpectBelow : ℕ → Expect → Type 0
ExpectBelow n expect.Start = Unit {0}
ExpectBelow n expect.Go = Unit {0}
ExpectBelow n (expect.Answer w) = Unit {0}
ExpectBelow n expect.Resume = Unit {0}
ExpectBelow n (expect.Heard w) = AllBelow n (got_numbers w)
ExpectBelow n expect.Ended = Unit {0}

-- and of all that a frame holds
pub record HeldBelow (n : ℕ) (stack : List Obj) (locals : List (Option Obj)) (blocks : List Block) (slot : Option PyBaseExceptionRef) (wants : Expect) : Type 0 where
  pub in_stack : AllBelow n (numbers stack)
  pub in_locals : (i : ℕ) (v : Obj) → slice_get locals i ≡ Some (Some v) → v.number < n
  pub in_blocks : BlocksBelow n blocks
  pub in_slot : AllBelow n (number_if slot)
  pub in_wants : ExpectBelow n wants

-- all that a frame holds is among the first n
abbrev pub HoldsBelow : ℕ → State → Type 0
HoldsBelow n s = HeldBelow n s.stack s.locals s.blocks s.slot s.wants
