use Rattle.py_objects.proofs.NewLemmas.{declared_within}
use Rattle.py_script.proofs.Asking.{named_in}
use Rattle.py_script.proofs.session.Session.argument.Goals as goal

pub returns-in-Name-clause-below : goal.returns-in-Name-clause-below
returns-in-Name-clause-below c = declared_within c.args.self.now.vm.objects c.in-Name.name c.object_named.result (named_in c.self.view_is c.in-Name.name c.object_named.result c.object_named.ensures)
