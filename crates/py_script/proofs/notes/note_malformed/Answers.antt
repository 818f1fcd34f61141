use Rattle.std.proofs.Common.{◌++◌, codes, decimal, refl}
use Rattle.py_script.proofs.NoteLemmas.{two_pieces}
use Rattle.py_script.proofs.notes.note_malformed.Goals as goal

pub returns-clause-whole : goal.returns-clause-whole
returns-clause-whole g c =
    two_pieces _ _ _ (codes "malformed: line " ++ decimal c.args.line) (codes "\n") _ _ refl c.in_ok-write_numbered.ensures.whole c.write_bytes.ensures.whole
