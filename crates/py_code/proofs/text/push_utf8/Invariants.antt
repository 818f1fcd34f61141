use Rattle.std.proofs.Common.{◌≡◌, ◌++◌, take, true}
use Rattle.std.proofs.Math.Utf8.{scalars}
use Rattle.std.specs.Prelude.{encode_utf8_all, string_bytes}
use Rattle.py_code.proofs.text.push_utf8.Given as goal

abbrev pub invariant-loop-character : goal.invariant-loop-character
invariant-loop-character l = record {
  spelled : string_bytes l.string ≡ string_bytes l.fn.string ++ encode_utf8_all (take l.character-index l.text);
  scalars : scalars (take l.character-index l.text) ≡ true;
}
