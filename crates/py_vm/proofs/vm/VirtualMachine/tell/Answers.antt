use Rattle.std.proofs.Common.{◌≡◌, ◌≤◌, suc, true, sym, ap, ◌∙◌, subst, length}
use Rattle.py_objects.specs.declared.event.DriveAnswer.TheVariants as answer
use Rattle.py_run.specs.Run.{Reports}
use Rattle.py_vm.specs.declared.machinery.Core.{Core}
use Rattle.py_vm.specs.Machine.{Machine, Adds, EndsBy, IsCutShort, IsDoneBy, IsSpent, KeepsGenerators, done_of}
use Rattle.py_vm.specs.Reporting.{IsTextOf, IsToldReport}
use Rattle.py_vm.specs.Stands.{IsIdle, Stands, seen}
use Rattle.py_vm.proofs.FormingLemmas.{done_more, done_within}
use Rattle.py_vm.proofs.ReportingLemmas.{nothing_adds, no_turns, begun_adds, one_turn, cut_begun, now_stands, told_adds, told_done, text_now, told_answer, told_keeps}
use Rattle.py_vm.proofs.vm.VirtualMachine.tell.Goals as goal

pub returns-then-turns-eq0-clause-adds : goal.returns-then-turns-eq0-clause-adds
returns-then-turns-eq0-clause-adds c _ =
    let m : Core = c.deref_mut-core.result.now in
    let is : seen m ≡ c.args.self.now = ap seen c.deref_mut-core.ensures.value ∙ c.self.view_is in
    let works = c.in_ok-check.ensures.ok in
    let idle : IsIdle m = subst Stands (sym c.deref_mut-core.ensures.value) c.self.invariant works in
    subst (λ (old : Machine). Adds (Reports c.args.told) c.args.sources.now old (seen c.stop.new.self)) is
    (subst (λ (n : Core). Adds (Reports c.args.told) c.args.sources.now (seen m) (seen n)) (sym c.stop.ensures.failed) (nothing_adds m idle (Reports c.args.told) c.args.sources.now))

pub returns-then-turns-eq0-clause-out_of_turns : goal.returns-then-turns-eq0-clause-out_of_turns
returns-then-turns-eq0-clause-out_of_turns c _ =
    let m : Core = c.deref_mut-core.result.now in
    let is : seen m ≡ c.args.self.now = ap seen c.deref_mut-core.ensures.value ∙ c.self.view_is in
    let works = c.in_ok-check.ensures.ok in
    let idle : IsIdle m = subst Stands (sym c.deref_mut-core.ensures.value) c.self.invariant works in
    subst (λ (old : Machine). IsSpent old c.args.turns (seen c.stop.new.self)) is
    (subst (λ (n : Core). IsSpent (seen m) c.args.turns (seen n)) (sym c.stop.ensures.failed) (no_turns m idle c.args.turns c.if-turns-eq0.true))

pub begin_forming-requires : goal.begin_forming-requires
begin_forming-requires c =
    let m : Core = c.deref_mut-core.result.now in
    done_within m (subst Stands (sym c.deref_mut-core.ensures.value) c.self.invariant c.in_ok-check.ensures.ok)

pub returns-in_default-clause-adds : goal.returns-in_default-clause-adds
returns-in_default-clause-adds c _ =
    let m : Core = c.deref_mut-core.result.now in
    let is : seen m ≡ c.args.self.now = ap seen c.deref_mut-core.ensures.value ∙ c.self.view_is in
    let works = c.in_ok-check.ensures.ok in
    let idle : IsIdle m = subst Stands (sym c.deref_mut-core.ensures.value) c.self.invariant works in
    let same = c.fail.ensures.failed ∙ ap (λ (n : Core). let k : Core = record n { failed = true } in k) c.in_default.ensures.err in
    subst (λ (old : Machine). Adds (Reports c.args.told) c.args.sources.now old (seen c.fail.new.self)) is
    (subst (λ (n : Core). Adds (Reports c.args.told) c.args.sources.now (seen m) (seen n)) (sym same) (nothing_adds m idle (Reports c.args.told) c.args.sources.now))

pub returns-then-turns-eq1-clause-adds : goal.returns-then-turns-eq1-clause-adds
returns-then-turns-eq1-clause-adds c _ =
    let m : Core = c.deref_mut-core.result.now in
    let is : seen m ≡ c.args.self.now = ap seen c.deref_mut-core.ensures.value ∙ c.self.view_is in
    let works = c.in_ok-check.ensures.ok in
    let idle : IsIdle m = subst Stands (sym c.deref_mut-core.ensures.value) c.self.invariant works in
    let same = c.stop-then-turns-eq1.ensures.failed ∙ ap (λ (n : Core). let k : Core = record n { failed = true } in k) c.in-Ok.ensures.ok in
    subst (λ (old : Machine). Adds (Reports c.args.told) c.args.sources.now old (seen c.stop-then-turns-eq1.new.self)) is
    (subst (λ (n : Core). Adds (Reports c.args.told) c.args.sources.now (seen m) (seen n)) (sym same) (begun_adds m idle works c.args.told c.args.sources.now))

pub returns-then-turns-eq1-clause-out_of_turns : goal.returns-then-turns-eq1-clause-out_of_turns
returns-then-turns-eq1-clause-out_of_turns c _ =
    let m : Core = c.deref_mut-core.result.now in
    let is : seen m ≡ c.args.self.now = ap seen c.deref_mut-core.ensures.value ∙ c.self.view_is in
    let works = c.in_ok-check.ensures.ok in
    let idle : IsIdle m = subst Stands (sym c.deref_mut-core.ensures.value) c.self.invariant works in
    let same = c.stop-then-turns-eq1.ensures.failed ∙ ap (λ (n : Core). let k : Core = record n { failed = true } in k) c.in-Ok.ensures.ok in
    subst (λ (old : Machine). IsSpent old c.args.turns (seen c.stop-then-turns-eq1.new.self)) is
    (subst (λ (n : Core). IsSpent (seen m) c.args.turns (seen n)) (sym same) (one_turn m idle works c.args.told c.args.sources.now c.args.turns c.if-turns-eq1.true))

pub tell_text-requires : goal.tell_text-requires
tell_text-requires c =
    let m : Core = c.deref_mut-core.result.now in
    subst (λ (n : Core). n.done ≤ length n.events) (sym c.in-Ok.ensures.ok) (done_more m (subst Stands (sym c.deref_mut-core.ensures.value) c.self.invariant c.in_ok-check.ensures.ok))

pub returns-in_default-tell_text-clause-adds : goal.returns-in_default-tell_text-clause-adds
returns-in_default-tell_text-clause-adds c _ =
    let m : Core = c.deref_mut-core.result.now in
    let is : seen m ≡ c.args.self.now = ap seen c.deref_mut-core.ensures.value ∙ c.self.view_is in
    let works = c.in_ok-check.ensures.ok in
    let idle : IsIdle m = subst Stands (sym c.deref_mut-core.ensures.value) c.self.invariant works in
    let same = c.fail-in_default-tell_text.ensures.failed ∙ ap (λ (n : Core). let k : Core = record n { failed = true } in k) (c.in_default-tell_text.ensures.err ∙ c.in-Ok.ensures.ok) in
    subst (λ (old : Machine). Adds (Reports c.args.told) c.args.sources.now old (seen c.fail-in_default-tell_text.new.self)) is
    (subst (λ (n : Core). Adds (Reports c.args.told) c.args.sources.now (seen m) (seen n)) (sym same) (begun_adds m idle works c.args.told c.args.sources.now))

pub returns-in_default-tell_text-clause-out_of_memory : goal.returns-in_default-tell_text-clause-out_of_memory
returns-in_default-tell_text-clause-out_of_memory c _ =
    let m : Core = c.deref_mut-core.result.now in
    let is : seen m ≡ c.args.self.now = ap seen c.deref_mut-core.ensures.value ∙ c.self.view_is in
    let works = c.in_ok-check.ensures.ok in
    let idle : IsIdle m = subst Stands (sym c.deref_mut-core.ensures.value) c.self.invariant works in
    let same = c.fail-in_default-tell_text.ensures.failed ∙ ap (λ (n : Core). let k : Core = record n { failed = true } in k) (c.in_default-tell_text.ensures.err ∙ c.in-Ok.ensures.ok) in
    subst (λ (old : Machine). IsCutShort old c.args.turns (seen c.fail-in_default-tell_text.new.self)) is
    (subst (λ (n : Core). IsCutShort (seen m) c.args.turns (seen n)) (sym same) (cut_begun m idle works c.args.told c.args.sources.now c.args.turns c.if-turns-eq0.false c.if-turns-eq1.false))

pub invariant_of-self-2 : goal.invariant_of-self-2
invariant_of-self-2 c _ =
    let m : Core = c.deref_mut-core.result.now in
    let works = c.in_ok-check.ensures.ok in
    let idle : IsIdle m = subst Stands (sym c.deref_mut-core.ensures.value) c.self.invariant works in
    let (is_told, now) = subst (λ (n : Core). IsToldReport n c.args.sources.now c.args.told c.in-Ok-tell_text.said.text c.tell_text.new.self) c.in-Ok.ensures.ok c.in-Ok-tell_text.ensures.ok in
    subst IsIdle (sym now) (now_stands m idle works c.args.told c.args.sources.now c.in-Ok-tell_text.said.text is_told)

pub returns-clause-adds : goal.returns-clause-adds
returns-clause-adds c _ =
    let m : Core = c.deref_mut-core.result.now in
    let is : seen m ≡ c.args.self.now = ap seen c.deref_mut-core.ensures.value ∙ c.self.view_is in
    let works = c.in_ok-check.ensures.ok in
    let idle : IsIdle m = subst Stands (sym c.deref_mut-core.ensures.value) c.self.invariant works in
    let (is_told, now) = subst (λ (n : Core). IsToldReport n c.args.sources.now c.args.told c.in-Ok-tell_text.said.text c.tell_text.new.self) c.in-Ok.ensures.ok c.in-Ok-tell_text.ensures.ok in
    subst (λ (old : Machine). Adds (Reports c.args.told) c.args.sources.now old (seen c.tell_text.new.self)) is
    (subst (λ (n : Core). Adds (Reports c.args.told) c.args.sources.now (seen m) (seen n)) (sym now) (told_adds m idle works c.args.told c.args.sources.now c.in-Ok-tell_text.said.text is_told))

pub returns-clause-done : goal.returns-clause-done
returns-clause-done c =
    let m : Core = c.deref_mut-core.result.now in
    let is : seen m ≡ c.args.self.now = ap seen c.deref_mut-core.ensures.value ∙ c.self.view_is in
    let works = c.in_ok-check.ensures.ok in
    let idle : IsIdle m = subst Stands (sym c.deref_mut-core.ensures.value) c.self.invariant works in
    let (is_told, now) = subst (λ (n : Core). IsToldReport n c.args.sources.now c.args.told c.in-Ok-tell_text.said.text c.tell_text.new.self) c.in-Ok.ensures.ok c.in-Ok-tell_text.ensures.ok in
    subst (λ (old : Machine). IsDoneBy old (seen c.tell_text.new.self)) is
    (subst (λ (n : Core). IsDoneBy (seen m) (seen n)) (sym now) (told_done m idle works c.args.told c.args.sources.now c.in-Ok-tell_text.said.text is_told))

pub returns-clause-answer : goal.returns-clause-answer
returns-clause-answer c =
    let m : Core = c.deref_mut-core.result.now in
    let is : seen m ≡ c.args.self.now = ap seen c.deref_mut-core.ensures.value ∙ c.self.view_is in
    let works = c.in_ok-check.ensures.ok in
    let idle : IsIdle m = subst Stands (sym c.deref_mut-core.ensures.value) c.self.invariant works in
    let (is_told, now) = subst (λ (n : Core). IsToldReport n c.args.sources.now c.args.told c.in-Ok-tell_text.said.text c.tell_text.new.self) c.in-Ok.ensures.ok c.in-Ok-tell_text.ensures.ok in
    subst (λ (old : Machine). EndsBy c.tell_text.new.self.events (suc (done_of old)) (answer.Reported c.in-Ok-tell_text.said.text)) is
    (subst (λ (n : Core). EndsBy n.events (suc (done_of (seen m))) (answer.Reported c.in-Ok-tell_text.said.text)) (sym now) (told_answer m idle works c.args.told c.args.sources.now c.in-Ok-tell_text.said.text is_told))

pub returns-clause-generators : goal.returns-clause-generators
returns-clause-generators c =
    let m : Core = c.deref_mut-core.result.now in
    let is : seen m ≡ c.args.self.now = ap seen c.deref_mut-core.ensures.value ∙ c.self.view_is in
    let works = c.in_ok-check.ensures.ok in
    let idle : IsIdle m = subst Stands (sym c.deref_mut-core.ensures.value) c.self.invariant works in
    let (is_told, now) = subst (λ (n : Core). IsToldReport n c.args.sources.now c.args.told c.in-Ok-tell_text.said.text c.tell_text.new.self) c.in-Ok.ensures.ok c.in-Ok-tell_text.ensures.ok in
    subst (λ (old : Machine). KeepsGenerators (Reports c.args.told) old (seen c.tell_text.new.self)) is
    (subst (λ (n : Core). KeepsGenerators (Reports c.args.told) (seen m) (seen n)) (sym now) (told_keeps m idle works c.args.told c.args.sources.now c.in-Ok-tell_text.said.text is_told))

pub returns-clause-text : goal.returns-clause-text
returns-clause-text c =
    let m : Core = c.deref_mut-core.result.now in
    let is : seen m ≡ c.args.self.now = ap seen c.deref_mut-core.ensures.value ∙ c.self.view_is in
    let works = c.in_ok-check.ensures.ok in
    let idle : IsIdle m = subst Stands (sym c.deref_mut-core.ensures.value) c.self.invariant works in
    let (is_told, now) = subst (λ (n : Core). IsToldReport n c.args.sources.now c.args.told c.in-Ok-tell_text.said.text c.tell_text.new.self) c.in-Ok.ensures.ok c.in-Ok-tell_text.ensures.ok in
    subst (λ (old : Machine). IsTextOf old c.args.sources.now c.args.told c.in-Ok-tell_text.said.text) is
    (text_now m idle c.args.told c.args.sources.now c.in-Ok-tell_text.said.text is_told)
