use Rattle.std.proofs.Common.{◌≡◌, ◌∙◌, Some, refl, sym, ap, subst}
use Rattle.std.specs.Prelude.{Option, None}
use Rattle.py_frame.proofs.RunningLemmas.{erred}
use Rattle.py_vm.specs.declared.machinery.Core.{Core}
use Rattle.py_vm.specs.declared.raising.Raising.{Raising}
use Rattle.py_vm.specs.declared.world.World.{World}
use Rattle.py_vm.specs.Raising.{raising_in, IsNoted, RaisesException}
use Rattle.py_vm.specs.Turns.{Halts}
use Rattle.py_vm.proofs.NotedLemmas.{raising_same}
use Rattle.py_vm.proofs.PartsLemmas.{halts_refl}
use Rattle.py_vm.proofs.machinery.Core.note.Goals as goal

pub new_entry-requires-clause-exception : goal.new_entry-requires-clause-exception
new_entry-requires-clause-exception c =
    let m : Core = c.args.self.now in
    let is : Some c.in-Some.raising ≡ raising_in m.events c.args.halted.now c.args.answer =
    sym c.in-Some.is ∙ raising_same m.events c.args.halted.now c.args.answer _ _ _ _ c.by_answer.result (sym c.in-Some-Ask.ensures ∙ ap Some c.in-Some-Ask.field-0-is) c.by_answer.ensures in
    subst (RaisesException m.world.store.made) (sym is) c.requires.raises

pub returns-in_default-by_answer-clause-ok : goal.returns-in_default-by_answer-clause-ok
returns-in_default-by_answer-clause-ok c =
    let m : Core = c.args.self.now in
    let is : None ≡ raising_in m.events c.args.halted.now c.args.answer =
    sym c.in_default-by_answer.is ∙ raising_same m.events c.args.halted.now c.args.answer _ _ _ _ c.by_answer.result (sym c.in-Some-Ask.ensures ∙ ap Some c.in-Some-Ask.field-0-is) c.by_answer.ensures in
    (m.world.store, m.raising, subst (λ r. IsNoted m.world.codes m.world.store c.args.halted.now.running r m.world.store m.raising m.raising) is (refl, refl), refl)

pub returns-in_err-entry-clause-err : goal.returns-in_err-entry-clause-err
returns-in_err-entry-clause-err c =
    let m : Core = c.args.self.now in
    erred _ _ (subst (λ (w : World). Halts m (record m { world = w })) (sym c.in_err-entry.ensures.err) (halts_refl m))

pub returns-clause-ok : goal.returns-clause-ok
returns-clause-ok c =
    let m : Core = c.args.self.now in
    let (made, same) = c.in_ok-entry.ensures.ok in
    let is : Some c.in-Some.raising ≡ raising_in m.events c.args.halted.now c.args.answer =
    sym c.in-Some.is ∙ raising_same m.events c.args.halted.now c.args.answer _ _ _ _ c.by_answer.result (sym c.in-Some-Ask.ensures ∙ ap Some c.in-Some-Ask.field-0-is) c.by_answer.ensures in
    let raising : Option Raising = Some (record c.in-Some.raising { entry = Some c.in_ok-entry.entry }) in (
      c.new_entry.new.self.store,
      raising,
      subst (λ r. IsNoted m.world.codes m.world.store c.args.halted.now.running r c.new_entry.new.self.store m.raising raising) is (c.in_ok-entry.entry, made, refl),
      ap (λ (w : World). let n : Core = record m { world = w; raising = raising } in n) same,
    )
