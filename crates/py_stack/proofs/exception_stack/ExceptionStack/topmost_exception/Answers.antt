use Rattle.std.proofs.Common.{◌∷◌, reverse, sym, subst}
use Rattle.py_stack.specs.Slots.{IsTopmost}
use Rattle.py_stack.proofs.SlotsLemmas.{topmost_is, topmost_or}
use Rattle.py_stack.proofs.exception_stack.ExceptionStack.topmost_exception.Goals as goal

pub returns : goal.returns
returns c =
    let current = c.self.inside.current in
    let lower = reverse c.self.inside.below.items in
    let below = subst (λ slots. IsTopmost (reverse slots) c.topmost.result) c.as_slice.ensures.value c.topmost.ensures in
    let first : IsTopmost c.args.self.now c.or.result = subst (λ slots. IsTopmost slots c.or.result) c.self.view_is
    (subst (IsTopmost (current ∷ lower)) (sym c.or.ensures) (topmost_or lower current c.topmost.result below)) in
    record { first = first; value = topmost_is c.args.self.now c.or.result first }
