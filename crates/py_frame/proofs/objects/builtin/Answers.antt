use Rattle.std.proofs.Common.{◌∙◌, ap}
use Rattle.py_objects.specs.Callees.{builtin_of}
use Rattle.py_frame.proofs.ObjectsLemmas.{builtin_found, no_builtin}
use Rattle.py_frame.proofs.objects.builtin.Goals as goal

pub returns-in-Builtin : goal.returns-in-Builtin
returns-in-Builtin c =
    let (p, has, is) = builtin_found c.args.store.now.made c.args.store.now.changes c.args.value _ c.requires c.get.ensures.now in
    (p, has, is ∙ ap builtin_of c.in-Builtin.is)

pub returns-in_default : goal.returns-in_default
returns-in_default c =
    let (p, has, is) = builtin_found c.args.store.now.made c.args.store.now.changes c.args.value _ c.requires c.get.ensures.now in
    (p, has, is ∙ no_builtin _ c.in_default.not-Builtin)
