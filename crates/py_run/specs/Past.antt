-- What a past is with more events behind it.
use Rattle.std.specs.Prelude.{List, [], ◌∷◌}
use Rattle.py_objects.specs.declared.event.Event.{Event}
use Rattle.py_run.specs.Run.{Plan}
use Rattle.py_run.specs.Coming.{Past, past_after}

-- these events more
abbrev pub past_behind : Plan → Past → List Event → Past
past_behind plan p [] = p
past_behind plan p (e ∷ es) = past_behind plan (past_after plan p e) es
