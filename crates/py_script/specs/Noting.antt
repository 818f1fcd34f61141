-- What the functions that write a note promise each other.
use Rattle.std.specs.Prelude.{ℕ, List, ◌++◌, decimal}
use Rattle.py_outside.specs.Seen.{SinkSeen}
use Rattle.py_outside.specs.Transfer.{AppendsAll}
use Rattle.py_script.specs.declared.fault.ScriptFault.{ScriptFault}
use Rattle.py_script.specs.declared.fault.CommandResult.TheVariants as outcome
use Rattle.py_script.specs.Causes.{HasNote}

-- the line of a fault was written
abbrev pub NotesFault : SinkSeen → SinkSeen → ScriptFault → Type 0
NotesFault before after f = HasNote before after (outcome.Fault f)

-- words were written, and then a number
abbrev pub AppendsNumbered : SinkSeen → SinkSeen → List ℕ → ℕ → Type 0
AppendsNumbered before after words number = AppendsAll before after (words ++ decimal number)
