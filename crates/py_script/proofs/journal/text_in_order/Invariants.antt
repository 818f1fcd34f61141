use Rattle.std.proofs.Common.{◌≡◌, ◌++◌, drop}
use Rattle.std.specs.Prelude.{string_bytes}
use Rattle.py_meaning.specs.Text.{text_from}
use Rattle.py_script.specs.Writing.{AreLeft, latest}
use Rattle.py_script.proofs.journal.text_in_order.Given as goal

abbrev pub invariant-loop-number : goal.invariant-loop-number
invariant-loop-number l = record {
  text : string_bytes l.out ++ text_from l.journal.objects l.journal.changes l.number (drop l.number l.journal.events) ≡ text_from l.journal.objects l.journal.changes 0 l.journal.events;
  left : AreLeft l.journal.objects (latest l.journal.objects l.changed) l.journal.changes l.left l.number;
}
