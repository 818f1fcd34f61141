use Rattle.std.proofs.Common.{◌≤◌, ◌+◌, length}
use Rattle.std.specs.declared.result.Result.{Result}
use Rattle.py_grammar.specs.declared.fault.ParseFault.{ParseFault}
use Rattle.py_grammar.specs.declared.script.Script.{Script}
use Rattle.py_grammar.specs.Lines.{lines}
use Rattle.py_grammar.specs.Reading.{ComesTo, IsAnswerTo, state_of}
use Rattle.py_grammar.specs.Tables.{TableIsKept}
use Rattle.py_grammar.proofs.parse.push_lines.Given as goal

-- what the rest of the lines comes to, all lines do
abbrev pub invariant-loop-line : goal.invariant-loop-line
invariant-loop-line l = record {
  comes : (answer : Result Script ParseFault) → ComesTo (state_of l.reader) l.number (lines l.rest) answer → IsAnswerTo (lines l.bytes) answer;
  kept : TableIsKept l.reader;
  few : l.number + length l.rest ≤ 1048577;
}

abbrev pub decreases-loop-line : goal.decreases-loop-line
decreases-loop-line l = length l.rest
