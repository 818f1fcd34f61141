use Rattle.std.proofs.Common.{◌≡◌, ◌++◌, replicate}
use Rattle.py_laid.specs.Code.{note_of, over}
use Rattle.py_body.specs.Emitting.{scope_of}
use Rattle.py_body.proofs.emitter.put_note.Given as goal

abbrev pub invariant-loop-unit : goal.invariant-loop-unit
invariant-loop-unit l = l.notes ≡ l.fn.notes ++ replicate l._unit (note_of (over l.above (scope_of l.scope)))
