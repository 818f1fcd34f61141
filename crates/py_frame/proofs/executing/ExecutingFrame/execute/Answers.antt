use Rattle.std.proofs.Common.{◌≡◌, ◌∙◌, ◌+◌, ◌<◌, ℕ, sym, ap, subst}
use Rattle.std.specs.Prelude.{OnErr, ◌^◌}
use Rattle.std.proofs.lemmas.Result.{IfOk-weaker}
use Rattle.py_code.specs.Units.{with_byte}
use Rattle.py_frame.specs.Frames.{Framed, over}
use Rattle.py_frame.proofs.UnitLemmas.{unit_here, unit_fits, exits_of, begun_can, begun_does}
use Rattle.py_frame.proofs.executing.ExecutingFrame.execute.Goals as goal

pub execute_instruction-requires-clause-safe : goal.execute_instruction-requires-clause-safe
execute_instruction-requires-clause-safe g c =
    let seen : Framed → Framed = λ (f : Framed). over f (g.S.ValueStack.seen c.args.self.now.stack) in
    let unit = c.unit_at-unit.result in
    begun_can c.args.scene.now.code.code c.args.scene.now.names (seen c.args.self.now.core) (seen c.begin.new.self)
    unit c.extend-arg.result.0
    (unit_here c.args.scene.now c.args.self.now.core.state.at c.unit.result unit c.unit.ensures c.unit_at-unit.ensures)
    (c.extend-arg.ensures.value ∙ ap (λ (p : ℕ). with_byte p unit.arg) c.prefix-prefix.ensures)
    (ap seen c.begin.ensures)
    c.args.store.now.made c.requires.safe

pub returns-clause-row : goal.returns-clause-row
returns-clause-row g c =
    let seen : Framed → Framed = λ (f : Framed). over f (g.S.ValueStack.seen c.args.self.now.stack) in
    let unit = c.unit_at-unit.result in
    IfOk-weaker c.execute_instruction.result _ _
    (λ step. begun_does c.args.scene.now.code.code c.args.scene.now.names (seen c.args.self.now.core) (seen c.begin.new.self)
    unit c.extend-arg.result.0
    (unit_here c.args.scene.now c.args.self.now.core.state.at c.unit.result unit c.unit.ensures c.unit_at-unit.ensures)
    (c.extend-arg.ensures.value ∙ ap (λ (p : ℕ). with_byte p unit.arg) c.prefix-prefix.ensures)
    (ap seen c.begin.ensures)
    c.execute_instruction.new.store.made step (over c.execute_instruction.new.self.core (g.S.ValueStack.seen c.execute_instruction.new.self.stack)))
    c.execute_instruction.ensures.row

pub returns-clause-err : goal.returns-clause-err
returns-clause-err g c =
    let seen : Framed → Framed = λ (f : Framed). over f (g.S.ValueStack.seen c.args.self.now.stack) in
    subst (λ (f : Framed). OnErr c.execute_instruction.result (over c.execute_instruction.new.self.core (g.S.ValueStack.seen c.execute_instruction.new.self.stack) ≡ seen f))
    c.begin.ensures c.execute_instruction.ensures.err

pub returns-clause-objects : goal.returns-clause-objects
returns-clause-objects g c = c.execute_instruction.ensures.objects

pub returns-clause-unchanged : goal.returns-clause-unchanged
returns-clause-unchanged g c = c.execute_instruction.ensures.unchanged

pub execute_instruction-requires-clause-classes : goal.execute_instruction-requires-clause-classes
execute_instruction-requires-clause-classes g c = c.requires.classes

pub begin-requires : goal.begin-requires
begin-requires g c = unit_fits _ _ _ c.requires.there c.requires.few

pub execute_instruction-requires-clause-next : goal.execute_instruction-requires-clause-next
execute_instruction-requires-clause-next g c = subst (λ (f : Framed). f.state.at + 1 < 2 ^ 32) (sym c.begin.ensures) (unit_fits _ _ _ c.requires.there c.requires.few)

pub returns-clause-traceback : goal.returns-clause-traceback
returns-clause-traceback g c =
    let unit = c.unit_at-unit.result in
    let here = unit_here c.args.scene.now c.args.self.now.core.state.at c.unit.result unit c.unit.ensures c.unit_at-unit.ensures in
    IfOk-weaker c.execute_instruction.result _ _
    (λ step tells u there exits. tells (exits_of _ unit u here there exits)) c.execute_instruction.ensures.traceback
