use Rattle.std.proofs.Common.{◌≡◌, ◌++◌, ◌<◌, ◌≤◌, ◌+◌, ◌*◌, ◌^◌, ◌-◌}
use Rattle.std.specs.Prelude.{string_bytes}
use Rattle.py_make.specs.Made.{groups, made_text}
use Rattle.py_make.proofs.make.make_script.Given as goal

abbrev pub invariant-loop-group : goal.invariant-loop-group
invariant-loop-group l = record {
  state : l.state < 2 ^ 32;
  drive : l.drive ≤ 3 * l._group + 1;
  text : string_bytes l.text ++ groups (l.count - l._group) l.state l.drive ≡ made_text l.seed l.count;
}
