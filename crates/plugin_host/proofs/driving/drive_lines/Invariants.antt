use Rattle.std.proofs.Common.{take}
use Rattle.py_grammar.specs.Script.{decls_of}
use Rattle.plugin_host.specs.Host.{IsBehind}
use Rattle.plugin_host.proofs.driving.drive_lines.Given as goal

abbrev pub invariant-loop-line : goal.invariant-loop-line
invariant-loop-line l = record { behind : IsBehind (decls_of l.script) (take l.line-index l.script.drives) l.session }
