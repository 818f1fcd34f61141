-- What an answer raises in the body that gets it (Python Language Reference, 7.8): the exception that it brings, or the value that it brings where a
-- statement has asked for what it raises.
use Rattle.std.specs.Prelude.{Bool, true, false, Option, Some, None, if◌then◌else◌}
use Rattle.py_objects.specs.declared.request.Request.{Request}
use Rattle.py_objects.specs.declared.request.Request.TheVariants as request
use Rattle.py_objects.specs.declared.event.GotAnswer.{GotAnswer}
use Rattle.py_objects.specs.declared.event.GotAnswer.TheVariants as got
use Rattle.py_objects.specs.Objects.{Obj, as_object}

-- whether who asks this raises the value that it is answered
abbrev pub is_raising : Option Request → Bool
is_raising (Some request.Handled) = true
is_raising (Some (request.Raisable v)) = true
is_raising _ = false

-- what an answer to a question raises in the body that gets it, if anything
abbrev pub raised_by : Option Request → GotAnswer → Option Obj
raised_by q (got.Value v) = if is_raising q then Some v else None
raised_by q (got.Stop v) = None
raised_by q (got.Raise e) = Some (as_object e)
