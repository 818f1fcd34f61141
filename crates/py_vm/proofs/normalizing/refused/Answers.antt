use Rattle.py_objects.specs.declared.error_kind.ErrorKind.TheVariants.{TypeError}
use Rattle.py_vm.proofs.CallsLemmas.{raise_given}
use Rattle.py_vm.proofs.normalizing.refused.Goals as goal

pub returns-clause-refused : goal.returns-clause-refused
returns-clause-refused c = (
  c.in_ok-text.text,
  c.in_ok-text.ensures,
  raise_given c.args.store.now.made c.new_exception.new.store.made c.args.zoo.now TypeError c.in_ok-text.text c.in_ok-exception.exception c.requires.classes
      c.in_ok-exception.ensures.grows.objects c.in_ok-exception.ensures.made,
)
