-- When what one wants is what another wants.
use Rattle.std.specs.Prelude.{List}
use Rattle.py_objects.specs.declared.payload.Payload.{Payload}
use Rattle.py_objects.specs.Objects.{Obj}
use Rattle.py_rows.specs.declared.expect.Wanted.{Wanted}
use Rattle.py_rows.specs.Answers.{IsValue}

-- whatever is wanted by the first is as the second says
abbrev pub Suits : Wanted → Wanted → Type 0
Suits w needed = (objects : List Payload) (v : Obj) → IsValue objects w v → IsValue objects needed v
