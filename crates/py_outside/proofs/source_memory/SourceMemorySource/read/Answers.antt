use Rattle.std.proofs.Common.{◌≡◌, ◌≤◌, ◌+◌, take, drop, length, arith, ap, sym, ◌∙◌, drop_of_length-le}
use Rattle.std.proofs.lemmas.Grind.{common_steps}
use Rattle.py_outside.proofs.Moves.{moved}
use Rattle.py_outside.proofs.source_memory.SourceMemorySource.read.Goals as goal

pub returns-clause-bytes : goal.returns-clause-bytes
returns-clause-bytes c =
    let fits : c.min-count.result + c.self.inside.start ≤ length c.self.inside.bytes.items = grind (arith, common_steps) in
    let front : c.copy_from_slice.new.self ≡ take c.min-count.result (drop c.self.inside.start c.self.inside.bytes.items) = grind (arith, common_steps) in (
      ap (λ s. s.left) (sym c.self.view_is) ∙ moved _ _ _ _ _ fits front,
      λ none room. grind (arith, common_steps, drop_of_length-le),
    )
