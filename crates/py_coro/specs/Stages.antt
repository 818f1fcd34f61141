-- What the code keeps of where a generator stands, as its mode and whether it is being closed.
use Rattle.std.specs.Prelude.{Bool, false}
use Rattle.py_coro.specs.declared.stage.Stage.{Stage}
use Rattle.py_coro.specs.declared.stage.Stage.TheVariants as stage
use Rattle.py_coro.specs.Modes.{Mode, Fresh, Suspended, Running, Closed}

abbrev pub mode_of : Stage → Mode
mode_of stage.Fresh = Fresh
mode_of stage.Suspended = Suspended
mode_of (stage.Running closing) = Running
mode_of stage.Closed = Closed

-- only what runs is being closed
abbrev pub closing_of : Stage → Bool
closing_of stage.Fresh = false
closing_of stage.Suspended = false
closing_of (stage.Running closing) = closing
closing_of stage.Closed = false
