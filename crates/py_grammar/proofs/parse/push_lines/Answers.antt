use Rattle.std.proofs.Common.{◌+◌, ℕ, sym, subst, arith}
use Rattle.py_grammar.specs.Lines.{lines}
use Rattle.py_grammar.specs.Reader.{State}
use Rattle.py_grammar.specs.Reading.{ComesTo, state_of}
use Rattle.py_grammar.proofs.Walks.{comes_on}
use Rattle.py_grammar.proofs.parse.push_lines.Goals as goal

pub loop-line-preserved : goal.loop-line-preserved
loop-line-preserved c =
    let n : ℕ = c.loop-line.number in
    let st : State = state_of c.loop-line.reader in
    let next : State = state_of c.push_bytes.new.reader in
    let read = rw c.if-not-branch.false at c.in_ok-push_bytes.ensures.taken in
    record {
      comes = λ answer a. c.loop-line.invariant.comes answer (subst (λ t. ComesTo st n t answer) (sym c.in-Some.ensures.0)
          (comes_on st next n (n + 1) c.in-Some.line.now (lines c.in-Some.more.now) read.0 read.1 read.2 (omega arith) answer a));
      kept = c.in_ok-push_bytes.ensures.kept;
      few = omega (arith, c.in-Some.ensures.1);
    }
