use Rattle.std.proofs.Common.{◌∙◌, ap}
use Rattle.py_objects.specs.Callees.{is_manager}
use Rattle.py_frame.proofs.ObjectsLemmas.{manager_found, no_manager}
use Rattle.py_frame.proofs.objects.is_manager.Goals as goal

pub returns-in-Manager : goal.returns-in-Manager
returns-in-Manager c =
    let (p, has, is) = manager_found c.args.store.now.made c.args.store.now.changes c.args.value _ c.requires c.get.ensures.now in
    (p, has, is ∙ ap is_manager c.in-Manager.is)

pub returns-in_default : goal.returns-in_default
returns-in_default c =
    let (p, has, is) = manager_found c.args.store.now.made c.args.store.now.changes c.args.value _ c.requires c.get.ensures.now in
    (p, has, is ∙ no_manager _ c.in_default.not-Manager)
