-- Frames that are driven.
use Rattle.std.specs.Prelude.{List, Bool}
use Rattle.std.specs.List.{list_all}
use Rattle.py_objects.specs.declared.payload.Payload.{Payload}
use Rattle.py_objects.specs.Growth.{Grows}
use Rattle.py_stack.specs.Slots.{Slots, top_of}
use Rattle.py_frame.specs.Added.{ClassesAreThere}
use Rattle.py_frame.specs.Frames.{Framed, NamedCode}
use Rattle.py_frame.specs.Running.{IsRunning, SlotFits}
use Rattle.frame_tests.specs.Codes.{keeps_rules}
use Rattle.frame_tests.specs.FirstObjects.{first_objects}
use Rattle.frame_tests.specs.declared.tables.Case.{Case}

-- a generator's frame that runs or waits among the first objects and more, while these slots are as its last step left them
pub record IsDriven (objects : List Payload) (scene : NamedCode) (slots : Slots) (f : Framed) : Type 0 where
  pub running : IsRunning objects scene.names scene.code f
  pub classes : ClassesAreThere objects
  pub grown : Grows first_objects objects
  pub slot_fits : SlotFits objects f.state (top_of slots)

-- whether the notes of each code keep the rules
abbrev pub keep_rules : List Case → Bool
keep_rules cases = list_all (λ c. keeps_rules c.rows.now) cases
