use Rattle.std.proofs.Common.{◌≡◌, ◌<◌, ◌≤◌, true, sym, ap, ◌∙◌, subst, length, arith, Err}
use Rattle.std.specs.Prelude.{Result}
use Rattle.py_objects.specs.declared.refs.PyBaseExceptionRef.{PyBaseExceptionRef}
use Rattle.py_run.specs.declared.drive.Makings.{Makings}
use Rattle.py_vm.specs.declared.fault.VmFault.{VmFault}
use Rattle.py_vm.specs.declared.fault.VmFault.TheVariants as fault
use Rattle.py_vm.specs.declared.machinery.Core.{Core}
use Rattle.py_vm.specs.Machine.{Machine}
use Rattle.py_vm.specs.Normalizing.{makings_of, CanForm, Forms, FormedOne, Stopped}
use Rattle.py_vm.specs.Stands.{IsIdle, Stands, seen}
use Rattle.py_vm.proofs.FormingLemmas.{can_form, done_more, done_within, formed_forms, no_memory, no_turns, one_turn, stands_behind, stopped}
use Rattle.py_vm.proofs.vm.VirtualMachine.normalize_exception.Goals as goal

pub begin_forming-requires : goal.begin_forming-requires
begin_forming-requires c =
    let m : Core = c.deref_mut-core.result.now in
    done_within m (subst Stands (sym c.deref_mut-core.ensures.value) c.self.invariant c.in_ok-check.ensures.ok)

pub returns-then-turns-eq0-clause-forms : goal.returns-then-turns-eq0-clause-forms
returns-then-turns-eq0-clause-forms c works =
    let m : Core = c.deref_mut-core.result.now in
    let x : Makings = makings_of c.args.ty c.args.val c.args.tb in
    let is : seen m ≡ c.args.self.now = ap seen c.deref_mut-core.ensures.value ∙ c.self.view_is in
    let idle : IsIdle m = subst Stands (sym c.deref_mut-core.ensures.value) c.self.invariant c.in_ok-check.ensures.ok in
    subst (λ (old : Machine). Forms old x c.args.turns (Err c.stop.result) (seen c.stop.new.self)) is
    (subst (λ (f : VmFault). Forms (seen m) x c.args.turns (Err f) (seen c.stop.new.self)) (sym c.stop.ensures.fault)
    (subst (λ (n : Core). Forms (seen m) x c.args.turns (Err fault.OutOfTurns) (seen n)) (sym c.stop.ensures.failed) (no_turns m idle c.in_ok-check.ensures.ok x c.args.turns c.if-turns-eq0.true)))

pub returns-in_default-clause-forms : goal.returns-in_default-clause-forms
returns-in_default-clause-forms c works =
    let m : Core = c.deref_mut-core.result.now in
    let x : Makings = makings_of c.args.ty c.args.val c.args.tb in
    let is : seen m ≡ c.args.self.now = ap seen c.deref_mut-core.ensures.value ∙ c.self.view_is in
    let idle : IsIdle m = subst Stands (sym c.deref_mut-core.ensures.value) c.self.invariant c.in_ok-check.ensures.ok in
    let same = c.fail.ensures.failed ∙ ap (λ (n : Core). let k : Core = record n { failed = true } in k) c.in_default.ensures.err in
    subst (λ (old : Machine). Forms old x c.args.turns (Err c.fail.result) (seen c.fail.new.self)) is
    (subst (λ (f : VmFault). Forms (seen m) x c.args.turns (Err f) (seen c.fail.new.self)) (sym c.fail.ensures.fault)
    (subst (λ (n : Core). Forms (seen m) x c.args.turns (Err fault.NoMemory) (seen n)) (sym same) (no_memory m idle c.in_ok-check.ensures.ok x c.args.turns (omega (arith, c.if-turns-eq0.false)))))

pub returns-then-turns-eq1-clause-forms : goal.returns-then-turns-eq1-clause-forms
returns-then-turns-eq1-clause-forms c works =
    let m : Core = c.deref_mut-core.result.now in
    let x : Makings = makings_of c.args.ty c.args.val c.args.tb in
    let is : seen m ≡ c.args.self.now = ap seen c.deref_mut-core.ensures.value ∙ c.self.view_is in
    let idle : IsIdle m = subst Stands (sym c.deref_mut-core.ensures.value) c.self.invariant c.in_ok-check.ensures.ok in
    let same = c.stop-then-turns-eq1.ensures.failed ∙ ap (λ (n : Core). let k : Core = record n { failed = true } in k) c.in-Ok.ensures.ok in
    subst (λ (old : Machine). Forms old x c.args.turns (Err c.stop-then-turns-eq1.result) (seen c.stop-then-turns-eq1.new.self)) is
    (subst (λ (f : VmFault). Forms (seen m) x c.args.turns (Err f) (seen c.stop-then-turns-eq1.new.self)) (sym c.stop-then-turns-eq1.ensures.fault)
    (subst (λ (n : Core). Forms (seen m) x c.args.turns (Err fault.OutOfTurns) (seen n)) (sym same) (one_turn m idle c.in_ok-check.ensures.ok x c.args.turns c.if-turns-eq1.true)))

pub form-requires-clause-done : goal.form-requires-clause-done
form-requires-clause-done c =
    let m : Core = c.deref_mut-core.result.now in
    subst (λ (n : Core). n.done ≤ length n.events) (sym c.in-Ok.ensures.ok) (done_more m (subst Stands (sym c.deref_mut-core.ensures.value) c.self.invariant c.in_ok-check.ensures.ok))

pub form-requires-clause-can : goal.form-requires-clause-can
form-requires-clause-can c =
    let m : Core = c.deref_mut-core.result.now in
    let x : Makings = makings_of c.args.ty c.args.val c.args.tb in
    let is : seen m ≡ c.args.self.now = ap seen c.deref_mut-core.ensures.value ∙ c.self.view_is in
    let idle : IsIdle m = subst Stands (sym c.deref_mut-core.ensures.value) c.self.invariant c.in_ok-check.ensures.ok in
    subst (λ (n : Core). CanForm n x) (sym c.in-Ok.ensures.ok) (can_form m idle c.in_ok-check.ensures.ok x (rw (← is) at c.requires))

pub returns-in_default-form-clause-forms : goal.returns-in_default-form-clause-forms
returns-in_default-form-clause-forms c works =
    let m : Core = c.deref_mut-core.result.now in
    let x : Makings = makings_of c.args.ty c.args.val c.args.tb in
    let is : seen m ≡ c.args.self.now = ap seen c.deref_mut-core.ensures.value ∙ c.self.view_is in
    let idle : IsIdle m = subst Stands (sym c.deref_mut-core.ensures.value) c.self.invariant c.in_ok-check.ensures.ok in
    let some : 1 < c.args.turns = omega (arith, c.if-turns-eq0.false, c.if-turns-eq1.false) in
    let halted = subst (λ (n : Core). Stopped n c.form.new.self) c.in-Ok.ensures.ok c.in_default-form.ensures.err in
    subst (λ (old : Machine). Forms old x c.args.turns (Err c.fail-in_default-form.result) (seen c.fail-in_default-form.new.self)) is
    (subst (λ (f : VmFault). Forms (seen m) x c.args.turns (Err f) (seen c.fail-in_default-form.new.self)) (sym c.fail-in_default-form.ensures.fault)
    (subst (λ (n : Core). Forms (seen m) x c.args.turns (Err fault.NoMemory) (seen n)) (sym c.fail-in_default-form.ensures.failed)
    (stopped m idle c.in_ok-check.ensures.ok x c.args.turns c.form.new.self some halted)))

pub invariant_of-self-2 : goal.invariant_of-self-2
invariant_of-self-2 c _ =
    let m : Core = c.deref_mut-core.result.now in
    let x : Makings = makings_of c.args.ty c.args.val c.args.tb in
    let idle : IsIdle m = subst Stands (sym c.deref_mut-core.ensures.value) c.self.invariant c.in_ok-check.ensures.ok in
    stands_behind m idle c.in_ok-check.ensures.ok x c.in-Ok-form.formed c.form.new.self
    (subst (λ (n : Core). FormedOne n x c.in-Ok-form.formed c.form.new.self) c.in-Ok.ensures.ok c.in-Ok-form.ensures.ok)

pub returns-clause-forms : goal.returns-clause-forms
returns-clause-forms c works =
    let m : Core = c.deref_mut-core.result.now in
    let x : Makings = makings_of c.args.ty c.args.val c.args.tb in
    let is : seen m ≡ c.args.self.now = ap seen c.deref_mut-core.ensures.value ∙ c.self.view_is in
    let idle : IsIdle m = subst Stands (sym c.deref_mut-core.ensures.value) c.self.invariant c.in_ok-check.ensures.ok in
    let some : 1 < c.args.turns = omega (arith, c.if-turns-eq0.false, c.if-turns-eq1.false) in
    let formed = subst (λ (n : Core). FormedOne n x c.in-Ok-form.formed c.form.new.self) c.in-Ok.ensures.ok c.in-Ok-form.ensures.ok in
    subst (λ (old : Machine). Forms old x c.args.turns c.outcome.result (seen c.form.new.self)) is
    (subst (λ (r : Result PyBaseExceptionRef VmFault). Forms (seen m) x c.args.turns r (seen c.form.new.self)) (sym c.outcome.ensures)
    (formed_forms m idle c.in_ok-check.ensures.ok x c.args.turns c.in-Ok-form.formed c.form.new.self some formed))
