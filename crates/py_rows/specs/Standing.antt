-- Where a frame stands, and of which unit it tells.
use Rattle.std.specs.Prelude.{ℕ, ◌-◌, ◌≡◌, Option, None, []}
use Rattle.py_objects.specs.declared.refs.PyBaseExceptionRef.{PyBaseExceptionRef}
use Rattle.py_objects.specs.Own.{Own, Makes, Resumes, Asks, Gets, Rounds, Yields, Ends}
use Rattle.py_rows.specs.declared.expect.Expect.{Expect}
use Rattle.py_rows.specs.declared.expect.Expect.TheVariants as expect
use Rattle.py_rows.specs.States.{State}
use Rattle.py_rows.specs.Handled.{handled_in}
use Rattle.py_rows.specs.Slot.{KeepsSlot}
use Rattle.py_rows.specs.Answers.{wanted}

-- a frame that waits, that hasn't begun or that has ended is at this place; one that has ended has left its blocks
abbrev pub IsPlaced : ℕ → Expect → State → Type 0
IsPlaced at expect.Start s = s.at ≡ at
IsPlaced at expect.Go s = Unit {0}
IsPlaced at (expect.Answer w) s = s.at ≡ at
IsPlaced at expect.Resume s = s.at ≡ at
IsPlaced at (expect.Heard w) s = s.at ≡ at
IsPlaced at expect.Ended s = (s.at ≡ at) × (s.blocks ≡ [])

-- while it waits it is at the unit that was begun last; and the slot holds what is handled, where it held this at first
pub record IsStanding (first : Option PyBaseExceptionRef) (s : State) : Type 0 where
  pub placed : IsPlaced (s.last - 1) s.wants s
  pub slot : KeepsSlot first s

-- an event that a frame tells is of the unit at a place; behind a question, which names the exception that is handled in the
-- frame's blocks, it waits for what the request wants; what it hears is of no unit
abbrev pub IsOf : ℕ → State → Own → Type 0
IsOf at t Makes = Unit {0}
IsOf at t (Resumes k h) = Unit {0}
IsOf at t (Asks a r own) = (a ≡ at) × (own ≡ handled_in None t.blocks) × (t.wants ≡ expect.Answer (wanted r))
IsOf at t (Gets k w) = Unit {0}
IsOf at t (Rounds a) = (a ≡ at) × (t.wants ≡ expect.Go)
IsOf at t (Yields a v) = (a ≡ at) × (t.wants ≡ expect.Resume)
IsOf at t (Ends a e) = (a ≡ at) × (t.wants ≡ expect.Ended)
