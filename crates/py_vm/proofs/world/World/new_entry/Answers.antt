use Rattle.std.proofs.Common.{sym, subst}
use Rattle.py_objects.specs.Objects.{IfThere, IsTraceback, as_object}
use Rattle.py_vm.proofs.LinksLemmas.{exception_there}
use Rattle.py_vm.proofs.NotedLemmas.{made_entry, traceback_there}
use Rattle.py_vm.proofs.world.World.new_entry.Goals as goal

pub traceback-next-requires : goal.traceback-next-requires
traceback-next-requires c = exception_there c.args.self.now.store c.args.exception c.requires.exception

pub new-requires-clause-next : goal.new-requires-clause-next
new-requires-clause-next c =
    let (b, has, is) = c.traceback-next.ensures in
    subst (IfThere (IsTraceback c.args.self.now.store.made)) (sym is) (traceback_there c.args.self.now.store (as_object c.args.exception) b c.requires.readable has)

pub returns-clause-ok : goal.returns-clause-ok
returns-clause-ok c =
    made_entry c.args.self.now c.args.running.now c.args.exception c.new.new.store c.new.result c.f_code.result c.in-Some.code.now c.current_location-lineno.result c.traceback-next.result c.entry.result c.after_told.result
    c.f_code.ensures (sym c.in-Some.ensures) c.current_location-lineno.ensures c.traceback-next.ensures c.entry.ensures c.after_told.ensures c.new.ensures.number c.new.ensures.added c.new.ensures.grows
