-- What frames are told.
use Rattle.std.specs.Prelude.{ℕ, ◌≡◌, ◌++◌, List, length, true}
use Rattle.py_objects.specs.declared.payload.Payload.{Payload}
use Rattle.py_rows.specs.declared.expect.Expect.{Expect}
use Rattle.py_rows.specs.Below.{HearsBelow}
use Rattle.py_rows.specs.RunOfRows.{is_thrown_into}
use Rattle.py_rows.specs.States.{Setting}
use Rattle.py_frame.specs.declared.input.Input.{Input}
use Rattle.py_frame.specs.Steps.{Expects, events, heard}
use Rattle.frame_tests.specs.FirstObjects.{first_objects}

-- a generator's frame, that expects this, may be told an input, and the input names some of the first objects alone
abbrev pub IsExpected : Expect → Input → Type 0
IsExpected x i =
    (more : List Payload) (setting : Setting) → is_thrown_into setting.code.code.flags ≡ true
    → Expects (first_objects ++ more) setting x i × ((k : ℕ) → HearsBelow (length (first_objects ++ more)) (events (heard k i)))
