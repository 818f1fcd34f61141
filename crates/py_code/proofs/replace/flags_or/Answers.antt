use Rattle.std.proofs.Common.{◌≡◌, ℕ, ap, sym, ◌∙◌, bit_and}
use Rattle.std.specs.Prelude.{Option}
use Rattle.bitflags.specs.Sets.{known_from}
use Rattle.py_code.specs.declared.flags.CodeFlags.{CodeFlags}
use Rattle.py_code.specs.Flags.{every_flag}
use Rattle.py_code.specs.Replacing.{flags_or}
use Rattle.py_code.proofs.replace.flags_or.Goals as goal

pub returns-in-Some : goal.returns-in-Some
unfolding known_from
returns-in-Some c =
    let known : c.from_bits_truncate.result.0 ≡ bit_and c.in-Some.bits every_flag.0 = c.from_bits_truncate.ensures tt in
    ap (λ (bits : ℕ). let flags : CodeFlags = record { 0 = bits } in flags) known ∙ sym (ap (λ (given : Option ℕ). flags_or given c.args.own) c.in-Some.is)
