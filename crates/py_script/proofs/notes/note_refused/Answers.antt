use Rattle.std.proofs.Common.{◌++◌, codes, decimal, ap, sym, append_assoc}
use Rattle.std.proofs.KnownBytes.{Appends-trans}
use Rattle.py_script.proofs.NoteLemmas.{two_pieces}
use Rattle.py_script.proofs.notes.note_refused.Goals as goal

pub returns-clause-whole : goal.returns-clause-whole
returns-clause-whole g c =
    let unit = codes " at unit " ++ decimal c.args.at in
    two_pieces _ _ _ ((codes "refused: code " ++ decimal c.args.code) ++ unit) (codes "\n") _ _
    (ap (λ l. codes "refused: code " ++ l) (sym (append_assoc (decimal c.args.code) unit (codes "\n"))))
    (Appends-trans _ _ _ _ _ c.in_ok-write_numbered.ensures.whole c.in_ok-write_numbered-2.ensures.whole)
    c.write_bytes.ensures.whole
