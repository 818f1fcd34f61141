use Rattle.std.proofs.Common.{ap, sym, ◌∙◌}
use Rattle.py_code.specs.declared.code.PyCode.{PyCode}
use Rattle.py_rows.specs.Signature.{kind_of}
use Rattle.py_vm.proofs.CallsLemmas.{code_not_none, unbound_refused, deep_refused, not_refused, runs_through, suspended_free}
use Rattle.py_vm.proofs.world.World.refused.Goals as goal

pub unreachable-requires : goal.unreachable-requires
unreachable-requires c =
    code_not_none c.args.self.now.codes c.args.self.now.store.made c.args.callee c.function_body-body.result.now c.requires.sound.runnable
    c.function_body-body.ensures (sym (rw c.in_default.is at c.get.ensures))

pub refusal-requires-clause-named : goal.refusal-requires-clause-named
refusal-requires-clause-named c =
    let runnable = c.requires.sound.runnable.each c.function_body-body.result.now.code c.in-Some.code.now (sym c.in-Some.ensures) in
    rw (c.names-names.ensures, c.code.ensures.value) runnable.named

pub returns-in-Some-2 : goal.returns-in-Some-2
returns-in-Some-2 c =
    unbound_refused c.args.self.now.codes c.args.self.now.generators c.args.at c.args.self.now.store.made c.args.callee c.function_body-body.result.now c.in-Some.code.now c.args.given c.requires.sound.runnable
    c.function_body-body.ensures (sym c.in-Some.ensures)
    c.in-Some-2.text (sym c.in-Some-2.is ∙ (rw (c.names-names.ensures, c.code.ensures.value) at c.in_ok-text.ensures))

pub returns-then-is_some : goal.returns-then-is_some
returns-then-is_some c =
    suspended_free c.args.self.now.codes c.args.self.now.generators c.args.at c.args.self.now.store.made c.args.callee c.function_body-body.result.now c.in-Some.code.now c.args.given c.requires.sound.runnable
    c.function_body-body.ensures (sym c.in-Some.ensures) c.kind_of.result
    (sym c.in_default-2.is ∙ (rw (c.names-names.ensures, c.code.ensures.value) at c.in_ok-text.ensures)) (c.kind_of.ensures ∙ ap (λ (k : PyCode). kind_of k.code.flags)
    c.code-2.ensures.value) (sym c.is_some.ensures ∙ c.if-is_some.true)

pub returns-then-at-lt-MOST_DEPTH : goal.returns-then-at-lt-MOST_DEPTH
returns-then-at-lt-MOST_DEPTH c =
    not_refused c.args.self.now.codes c.args.self.now.generators c.args.at c.args.self.now.store.made c.args.callee c.function_body-body.result.now c.in-Some.code.now c.args.given c.requires.sound.runnable
    c.function_body-body.ensures (sym c.in-Some.ensures)
    (sym c.in_default-2.is ∙ (rw (c.names-names.ensures, c.code.ensures.value) at c.in_ok-text.ensures))
    (runs_through c.kind_of.result c.in-Some.code.now.code.code.flags (c.kind_of.ensures ∙ ap (λ (k : PyCode). kind_of k.code.flags) c.code-2.ensures.value)
    (sym c.is_some.ensures ∙ c.if-is_some.false)) c.if-at-lt-MOST_DEPTH.true

pub returns : goal.returns
returns c =
    deep_refused c.args.self.now.codes c.args.self.now.generators c.args.at c.args.self.now.store.made c.args.callee c.function_body-body.result.now c.in-Some.code.now c.args.given c.requires.sound.runnable
    c.function_body-body.ensures (sym c.in-Some.ensures)
    c.in_ok-text_of.field-0 (sym c.in_default-2.is ∙ (rw (c.names-names.ensures, c.code.ensures.value) at c.in_ok-text.ensures))
    (runs_through c.kind_of.result c.in-Some.code.now.code.code.flags (c.kind_of.ensures ∙ ap (λ (k : PyCode). kind_of k.code.flags) c.code-2.ensures.value)
    (sym c.is_some.ensures ∙ c.if-is_some.false)) c.if-at-lt-MOST_DEPTH.false c.in_ok-text_of.ensures
