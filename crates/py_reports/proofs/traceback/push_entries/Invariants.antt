use Rattle.std.proofs.Common.{◌≡◌, ◌++◌, drop}
use Rattle.std.specs.Prelude.{string_bytes}
use Rattle.py_reports.specs.Entries.{entries_text}
use Rattle.py_reports.proofs.traceback.push_entries.Given as goal

abbrev pub invariant-loop-entry : goal.invariant-loop-entry
invariant-loop-entry l = string_bytes l.out ++ entries_text l.scene (drop l.entry-index l.entries) ≡ string_bytes l.fn.out ++ entries_text l.scene l.entries
