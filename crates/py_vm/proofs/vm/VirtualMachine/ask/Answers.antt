use Rattle.std.proofs.Common.{◌≡◌, suc, true, false, sym, ap, ◌∙◌, subst, arith}
use Rattle.py_run.specs.Drives.{request_of}
use Rattle.py_run.specs.Run.{Requests}
use Rattle.py_vm.specs.declared.machinery.Core.{Core}
use Rattle.py_vm.specs.Machine.{Machine, Adds, EndsBy, KeepsGenerators, done_in, done_of}
use Rattle.py_vm.specs.Stands.{IsIdle, Stands, seen}
use Rattle.py_vm.specs.Advancing.{Drove}
use Rattle.py_vm.proofs.StandsLemmas.{drove_start, drove_on, last_adds, last_answer, last_done, last_keeps, halted_adds, spent, spent_adds}
use Rattle.py_vm.proofs.vm.VirtualMachine.ask.Goals as goal

pub turns-init : goal.turns-init
turns-init c =
    let m : Core = c.deref_mut-core.result.now in
    let is : seen m ≡ c.args.self.now = ap seen c.deref_mut-core.ensures.value ∙ c.self.view_is in
    let idle : IsIdle m = subst Stands (sym c.deref_mut-core.ensures.value) c.self.invariant c.in_ok-check.ensures.ok in
    (m, is, c.in_ok-check.ensures.ok, idle, subst (Drove m c.args.question.now 0) (sym c.set_stage.ensures) (drove_start m c.args.question.now idle (rw (← is) at c.requires.callable)))

pub turns-preserved : goal.turns-preserved
turns-preserved c =
    let (m, is, works, idle, drove) = c.turns.invariant in
    (m, is, works, idle, drove_on m c.turns.core c.advance.new.self c.args.question.now c.turns._turn drove (rw c.in-Ok-None.field-0-is at c.in-Ok-None.ensures.ok))

pub returns-in-Ok-Some-clause-adds : goal.returns-in-Ok-Some-clause-adds
returns-in-Ok-Some-clause-adds c works sources =
    let (m, is, worked, idle, drove) = c.turns.invariant in
    subst (λ (old : Machine). Adds (Requests (request_of c.args.question.now)) sources old (seen c.advance.new.self)) is (last_adds sources m c.turns.core c.advance.new.self c.args.question.now c.turns._turn c.in-Ok-Some.field-0 drove c.in-Ok-Some.ensures.ok)

pub returns-in-Ok-Some-clause-answer : goal.returns-in-Ok-Some-clause-answer
returns-in-Ok-Some-clause-answer c =
    let (m, is, works, idle, drove) = c.turns.invariant in
    subst (λ (old : Machine). EndsBy c.advance.new.self.events (suc (done_of old)) c.in-Ok-Some.answer) is
    (last_answer m c.turns.core c.advance.new.self c.args.question.now c.turns._turn c.in-Ok-Some.answer drove (rw c.in-Ok-Some.field-0-is at c.in-Ok-Some.ensures.ok))

pub returns-in-Ok-Some-clause-done : goal.returns-in-Ok-Some-clause-done
returns-in-Ok-Some-clause-done c =
    let (m, is, works, idle, drove) = c.turns.invariant in
    let new : Core = c.advance.new.self in
    subst (λ (old : Machine). (done_in new.events ≡ suc (done_of old)) × (new.failed ≡ false) × (new.frames ≡ old.frames)) is
    (last_done m c.turns.core new c.args.question.now c.turns._turn c.in-Ok-Some.answer idle works drove (rw c.in-Ok-Some.field-0-is at c.in-Ok-Some.ensures.ok))

pub returns-in-Ok-Some-clause-generators : goal.returns-in-Ok-Some-clause-generators
returns-in-Ok-Some-clause-generators c =
    let (m, is, works, idle, drove) = c.turns.invariant in
    subst (λ (old : Machine). KeepsGenerators (Requests (request_of c.args.question.now)) old (seen c.advance.new.self)) is (last_keeps m c.turns.core c.advance.new.self c.args.question.now c.turns._turn c.in-Ok-Some.field-0 drove c.in-Ok-Some.ensures.ok)

pub returns-in-Err-clause-adds : goal.returns-in-Err-clause-adds
returns-in-Err-clause-adds c works sources =
    let (m, is, worked, idle, drove) = c.turns.invariant in
    subst (λ (old : Machine). Adds (Requests (request_of c.args.question.now)) sources old (seen c.fail.new.self)) is
    (rw c.fail.ensures.failed (halted_adds sources m c.turns.core c.advance.new.self c.args.question.now c.turns._turn drove c.in-Err.ensures.err))

pub returns-clause-out_of_turns : goal.returns-clause-out_of_turns
returns-clause-out_of_turns c over =
    let (m, is, works, idle, drove) = c.turns.invariant in
    rw (← is) (spent m c.turns.core c.args.question.now c.turns._turn c.args.turns (omega (arith, c.turns-test.false, c.turns.auto._turn-end)) drove)

pub returns-clause-adds : goal.returns-clause-adds
returns-clause-adds c works sources =
    let (m, is, worked, idle, drove) = c.turns.invariant in
    subst (λ (old : Machine). Adds (Requests (request_of c.args.question.now)) sources old (seen (record c.turns.core { failed = true }))) is (spent_adds sources m c.turns.core c.args.question.now c.turns._turn drove)
