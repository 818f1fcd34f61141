use Rattle.std.proofs.Common.{sym, ◌∙◌}
use Rattle.py_check.specs.Sheet.{sheet_of}
use Rattle.py_check.proofs.InnermostLemmas.{all_land}
use Rattle.py_check.proofs.innermost.open_handlers_land.Goals as goal

pub returns-then-all_land : goal.returns-then-all_land
returns-then-all_land c =
    let known = c.if-all_land.true in
    known
    ∙ sym (all_land (sheet_of c.args.code.now) (c.requires.all known) c.args.kinds.now c.args.blocks.now c.requires.nest (c.requires.here known))
