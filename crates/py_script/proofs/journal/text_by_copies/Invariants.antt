use Rattle.std.proofs.Common.{◌≡◌, ◌++◌, drop}
use Rattle.std.specs.Prelude.{string_bytes}
use Rattle.py_meaning.specs.Text.{text_from}
use Rattle.py_script.proofs.journal.text_by_copies.Given as goal

abbrev pub invariant-loop-number : goal.invariant-loop-number
invariant-loop-number l =
    string_bytes l.out ++ text_from l.journal.objects l.journal.changes l.number (drop l.number l.journal.events) ≡ text_from l.journal.objects l.journal.changes 0 l.journal.events
