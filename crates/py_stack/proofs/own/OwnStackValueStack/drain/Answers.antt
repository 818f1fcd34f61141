use Rattle.std.proofs.Common.{◌≡◌, drop, sym, ap, ◌∙◌}
use Rattle.std.proofs.lemmas.List.{take_all, take_rest}
use Rattle.py_stack.specs.Stacks.{above}
use Rattle.py_stack.proofs.StacksLemmas.{above-reverse}
use Rattle.py_stack.proofs.own.OwnStackValueStack.drain.Goals as goal

pub returns-clause-drained : goal.returns-clause-drained
returns-clause-drained c =
    let items = c.self.inside.entries.items in
    let taken : c.loop-value.drained ≡ drop c.args.from items =
    c.loop-value.invariant
    ∙ take_all _ _ c.loop-value-test.false
    ∙ take_rest c.deref.result.now c.args.from
    ∙ ap (drop c.args.from) c.deref.ensures.value in
    taken
    ∙ sym (above-reverse c.args.from items)
    ∙ ap (λ s. above c.args.from s.list) c.self.view_is
