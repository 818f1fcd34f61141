use Rattle.std.proofs.Common.{◌≡◌, ◌+◌, ◌++◌, reverse, take}
use Rattle.py_stack.proofs.laws.push_all.Given as goal

abbrev pub invariant-loop-value : goal.invariant-loop-value
invariant-loop-value g l =
    ((g.S.ValueStack.seen l.stack).list ≡ reverse (take l.value-index l.values) ++ (g.S.ValueStack.seen l.initial.stack).list)
    × ((g.S.ValueStack.seen l.stack).room + l.value-index ≡ (g.S.ValueStack.seen l.initial.stack).room)
