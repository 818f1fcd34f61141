use Rattle.py_script.proofs.Driven.{value_grew, refused_grew}
use Rattle.py_script.proofs.loading.add_value.Goals as goal

pub returns-in-Ok-clause-grew : goal.returns-in-Ok-clause-grew
returns-in-Ok-clause-grew c = value_grew c.args.vm.now c.add_object.new.self c.args.value c.in-Ok.object c.requires.value c.in-Ok.ensures.1

pub returns-in-Err-clause-grew : goal.returns-in-Err-clause-grew
returns-in-Err-clause-grew c = refused_grew c.args.vm.now c.add_object.new.self c.in-Err.field-0 c.in-Err.ensures
