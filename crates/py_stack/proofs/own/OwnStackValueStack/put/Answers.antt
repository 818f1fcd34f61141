use Rattle.std.proofs.Common.{◌≡◌, ◌<◌, length, set, reverse, sym, ap, ◌∙◌, arith}
use Rattle.std.proofs.lemmas.List.{length-reverse}
use Rattle.py_stack.specs.Stacks.{from_bottom}
use Rattle.py_stack.proofs.StacksLemmas.{set-reverse}
use Rattle.py_stack.proofs.own.OwnStackValueStack.put.Goals as goal

pub returns-clause-list : goal.returns-clause-list
returns-clause-list c =
    let items = c.self.inside.entries.items in
    let seen : reverse items ≡ c.args.self.now.list = ap (λ s. s.list) c.self.view_is in
    let within : c.args.index < length items = omega (arith, length-reverse items, ap length seen, c.requires) in
    sym (set-reverse c.args.index c.args.value items within)
    ∙ ap (λ list. set list (from_bottom c.args.index list) c.args.value) seen
