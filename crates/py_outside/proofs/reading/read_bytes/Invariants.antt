use Rattle.std.proofs.Common.{◌≡◌, ◌≤◌, ◌+◌, vec_len, IsTrue}
use Rattle.std.specs.Io.KnownBytes.{Consumes}
use Rattle.py_outside.specs.declared.reading.TheConstants.{LIMIT}
use Rattle.py_outside.proofs.reading.read_bytes.Given as goal

abbrev pub invariant-loop-turn : goal.invariant-loop-turn
invariant-loop-turn g l = record {
  short : vec_len l.bytes ≤ LIMIT;
  moved : l._turn ≤ vec_len l.bytes;
  consumed : Consumes (g.S.Source.seen l.fn.source).left (g.S.Source.seen l.source).left l.bytes.items;
  reads : (g.S.Source.seen l.source).reads ≤ (g.S.Source.seen l.fn.source).reads + l._turn;
  counted : (g.S.Source.seen l.source).faults ≡ (g.S.Source.seen l.fn.source).faults;
  sound : IsTrue (g.S.Source.seen l.fn.source).is_sound → IsTrue (g.S.Source.seen l.source).is_sound;
}
