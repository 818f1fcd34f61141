use Rattle.std.proofs.Common.{reverse, sym, ap, ◌∙◌}
use Rattle.py_stack.specs.Stacks.{bottom}
use Rattle.py_stack.proofs.StacksLemmas.{bottom-reverse}
use Rattle.py_stack.proofs.own.OwnStackValueStack.truncate.Goals as goal

pub returns-clause-list : goal.returns-clause-list
returns-clause-list c =
    ap reverse c.truncate.ensures.items
    ∙ sym (bottom-reverse c.args.len c.self.inside.entries.items)
    ∙ ap (λ s. bottom c.args.len s.list) c.self.view_is
