use Rattle.std.proofs.Common.{sym}
use Rattle.py_vm.proofs.PlacesLemmas.{nowhere_runs, thrown_free, thrown_running}
use Rattle.py_vm.proofs.generators.GeneratorList.throw_check.Goals as goal

pub returns-in-Some-clause-free : goal.returns-in-Some-clause-free
returns-in-Some-clause-free c =
    thrown_free c.args.object c.self.inside.items.items c.args.self.now c.in-Some.at c.index.result.now c.throw_check.result c.self.view_is (sym c.in-Some.ensures.place)
    c.index.ensures c.throw_check.ensures.free

pub returns-in-Some-clause-running : goal.returns-in-Some-clause-running
returns-in-Some-clause-running c =
    thrown_running c.args.object c.self.inside.items.items c.args.self.now c.in-Some.at c.index.result.now c.throw_check.result c.self.view_is (sym c.in-Some.ensures.place)
    c.index.ensures c.throw_check.ensures.running

pub returns-in-None-clause-free : goal.returns-in-None-clause-free
returns-in-None-clause-free c = nowhere_runs c.args.object c.args.self.now c.in-None.ensures.place
