use Rattle.std.proofs.Common.{◌≡◌, sym, ap, ◌∙◌, subst}
use Rattle.py_run.specs.declared.drive.Question.TheVariants.{Call as Calls}
use Rattle.py_run.specs.Drives.{request_of}
use Rattle.py_run.specs.Run.{Pose, Requests}
use Rattle.py_vm.specs.declared.machinery.Core.{Core}
use Rattle.py_vm.specs.Machine.{Machine, Adds, IsSpent}
use Rattle.py_vm.specs.Stands.{IsIdle, Stands, seen}
use Rattle.py_vm.proofs.ReportingLemmas.{nothing_adds, no_turns}
use Rattle.py_vm.proofs.vm.VirtualMachine.ask_call.Goals as goal

pub returns-then-turns-eq0-clause-adds : goal.returns-then-turns-eq0-clause-adds
returns-then-turns-eq0-clause-adds c _ sources =
    let m : Core = c.deref_mut-core.result.now in
    let is : seen m ≡ c.args.self.now = ap seen c.deref_mut-core.ensures.value ∙ c.self.view_is in
    let pose : Pose = Requests (request_of (Calls c.args.callee c.args.args.now)) in
    let idle : IsIdle m = subst Stands (sym c.deref_mut-core.ensures.value) c.self.invariant c.in_ok-check.ensures.ok in
    subst (λ (old : Machine). Adds pose sources old (seen c.stop.new.self)) is
    (subst (λ (n : Core). Adds pose sources (seen m) (seen n)) (sym c.stop.ensures.failed) (nothing_adds m idle pose sources))

pub returns-then-turns-eq0-clause-out_of_turns : goal.returns-then-turns-eq0-clause-out_of_turns
returns-then-turns-eq0-clause-out_of_turns c _ =
    let m : Core = c.deref_mut-core.result.now in
    let is : seen m ≡ c.args.self.now = ap seen c.deref_mut-core.ensures.value ∙ c.self.view_is in
    let idle : IsIdle m = subst Stands (sym c.deref_mut-core.ensures.value) c.self.invariant c.in_ok-check.ensures.ok in
    subst (λ (old : Machine). IsSpent old c.args.turns (seen c.stop.new.self)) is
    (subst (λ (n : Core). IsSpent (seen m) c.args.turns (seen n)) (sym c.stop.ensures.failed) (no_turns m idle c.args.turns c.if-turns-eq0.true))

pub returns-in_default-clause-adds : goal.returns-in_default-clause-adds
returns-in_default-clause-adds c _ sources =
    let m : Core = c.deref_mut-core.result.now in
    let is : seen m ≡ c.args.self.now = ap seen c.deref_mut-core.ensures.value ∙ c.self.view_is in
    let pose : Pose = Requests (request_of (Calls c.args.callee c.args.args.now)) in
    let idle : IsIdle m = subst Stands (sym c.deref_mut-core.ensures.value) c.self.invariant c.in_ok-check.ensures.ok in
    subst (λ (old : Machine). Adds pose sources old (seen c.fail.new.self)) is
    (subst (λ (n : Core). Adds pose sources (seen m) (seen n)) (sym c.fail.ensures.failed) (nothing_adds m idle pose sources))
