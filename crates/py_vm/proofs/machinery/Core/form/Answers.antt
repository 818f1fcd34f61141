use Rattle.std.proofs.Common.{refl, ap}
use Rattle.py_frame.proofs.RunningLemmas.{erred}
use Rattle.py_vm.specs.declared.machinery.Core.{Core}
use Rattle.py_vm.proofs.NormalizingLemmas.{given_exception, given_traceback, grows_marked, readable_marked, same_changes}
use Rattle.py_vm.proofs.machinery.Core.form.Goals as goal

pub form_exception-requires-clause-readable : goal.form_exception-requires-clause-readable
form_exception-requires-clause-readable c =
    readable_marked c.args.self.now.world.store c.mark.new.self c.reserve_changes.new.self c.len.result c.mark.ensures c.in_ok-reserve_changes.ensures.kept c.requires.can.readable

pub returns-in_err-reserve_changes-clause-err : goal.returns-in_err-reserve_changes-clause-err
returns-in_err-reserve_changes-clause-err c =
    erred c.from_residual.result _ (
      c.reserve_changes.new.self,
      grows_marked c.args.self.now.world.store c.mark.new.self c.reserve_changes.new.self c.len.result c.mark.ensures c.in_err-reserve_changes.ensures.kept,
      same_changes c.args.self.now.world.store c.mark.new.self c.reserve_changes.new.self c.len.result c.mark.ensures c.in_err-reserve_changes.ensures.kept,
      refl,
    )

pub give-requires-clause-exception : goal.give-requires-clause-exception
give-requires-clause-exception c =
    given_exception c.reserve_changes.new.self.made c.form_exception.new.store c.tell.new.self.world.store c.args.makings c.in_ok-formed.formed c.in-Made.exception c.in-Made.traceback
    (ap (λ (m : Core). m.world.store) c.in_ok-tell.ensures.ok) c.in-Made.is c.in_ok-formed.ensures.formed

pub give-requires-clause-traceback : goal.give-requires-clause-traceback
give-requires-clause-traceback c =
    given_traceback c.reserve_changes.new.self.made c.form_exception.new.store c.tell.new.self.world.store c.args.makings c.in_ok-formed.formed c.in-Made.exception c.in-Made.traceback
    (ap (λ (m : Core). m.world.store) c.in_ok-tell.ensures.ok) c.in-Made.is c.in_ok-formed.ensures.formed c.in_ok-formed.ensures.grows.objects
