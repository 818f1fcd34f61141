use Rattle.std.proofs.Common.{◌∙◌, ℕ, ap}
use Rattle.py_code.specs.Units.{with_byte}
use Rattle.py_frame.specs.Frames.{Framed, over}
use Rattle.py_frame.proofs.UnitLemmas.{unit_here, raise_can, raise_does, value_can, value_does}
use Rattle.py_frame.proofs.executing.ExecutingFrame.receive.Goals as goal

pub answer_instruction-requires-clause-safe : goal.answer_instruction-requires-clause-safe
answer_instruction-requires-clause-safe g c =
    let seen : Framed → Framed = λ (f : Framed). over f (g.S.ValueStack.seen c.args.self.now.stack) in
    let unit = c.unit_at-unit.result in
    value_can c.args.scene.now.code.code c.args.scene.now.names (seen c.args.self.now.core) (seen c.waits.new.self) c.args.heard
    (ap seen c.waits.ensures)
    c.in-Value.value c.in-Value.is unit c.extend-arg.result.0
    (unit_here c.args.scene.now c.args.self.now.core.state.at c.unit.result unit (c.unit.ensures ∙ ap (λ (f : Framed). f.state.at) c.waits.ensures) c.unit_at-unit.ensures)
    (c.extend-arg.ensures.value ∙ ap (λ (p : ℕ). with_byte p unit.arg) (c.prefix-prefix.ensures ∙ ap (λ (f : Framed). f.state.prefix) c.waits.ensures))
    c.args.store.now.made c.requires.safe

pub returns-in-Value : goal.returns-in-Value
returns-in-Value g c =
    let seen : Framed → Framed = λ (f : Framed). over f (g.S.ValueStack.seen c.args.self.now.stack) in
    let unit = c.unit_at-unit.result in
    value_does c.args.scene.now.code.code c.args.scene.now.names (seen c.args.self.now.core) (seen c.waits.new.self) c.args.heard
    (ap seen c.waits.ensures)
    c.in-Value.value c.in-Value.is unit c.extend-arg.result.0
    (unit_here c.args.scene.now c.args.self.now.core.state.at c.unit.result unit (c.unit.ensures ∙ ap (λ (f : Framed). f.state.at) c.waits.ensures) c.unit_at-unit.ensures)
    (c.extend-arg.ensures.value ∙ ap (λ (p : ℕ). with_byte p unit.arg) (c.prefix-prefix.ensures ∙ ap (λ (f : Framed). f.state.prefix) c.waits.ensures))
    c.args.store.now.made c.answer_instruction.result (over c.answer_instruction.new.self.core (g.S.ValueStack.seen c.answer_instruction.new.self.stack)) c.answer_instruction.ensures

pub unwind-requires : goal.unwind-requires
unwind-requires g c =
    let seen : Framed → Framed = λ (f : Framed). over f (g.S.ValueStack.seen c.args.self.now.stack) in
    raise_can c.args.scene.now.code.code c.args.scene.now.names (seen c.args.self.now.core) (seen c.waits.new.self) c.args.heard
    (ap seen c.waits.ensures)
    c.in-Raise.exception c.in-Raise.is c.args.store.now.made c.requires.safe

pub returns-in-Raise : goal.returns-in-Raise
returns-in-Raise g c =
    let seen : Framed → Framed = λ (f : Framed). over f (g.S.ValueStack.seen c.args.self.now.stack) in
    raise_does c.args.scene.now.code.code c.args.scene.now.names (seen c.args.self.now.core) (seen c.waits.new.self) c.args.heard
    (ap seen c.waits.ensures)
    c.in-Raise.exception c.in-Raise.is c.args.store.now.made c.unwind.result (over c.unwind.new.self.core (g.S.ValueStack.seen c.unwind.new.self.stack)) c.unwind.ensures
