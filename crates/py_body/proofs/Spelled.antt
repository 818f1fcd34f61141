-- Instructions behind their prefixes, as they are decoded.
use Rattle.std.proofs.Common.{◌≡◌, ◌<◌, ◌≤◌, ◌+◌, ◌%◌, ◌^◌, ℕ, zero, suc, List, ◌∷◌, ◌++◌, false, Some, refl, ap, ◌∙◌, length, arith}
use Rattle.py_code.specs.declared.instruction.Instruction.{Instruction}
use Rattle.py_code.specs.declared.unit.CodeUnit.{CodeUnit}
use Rattle.py_code.specs.Units.{decoded_from, is_prefix, with_byte}
use Rattle.py_body.specs.Emitting.{byte_of, spelled}

-- the bytes of an operand can be taken
pub power_fits : (width : ℕ) → width ≤ 3 → (0 < 256 ^ width) × (256 ^ width < 2 ^ 32)
power_fits zero low = (omega arith, omega arith)
power_fits (suc zero) low = (omega arith, omega arith)
power_fits (suc (suc zero)) low = (omega arith, omega arith)
power_fits (suc (suc (suc zero))) low = (omega arith, omega arith)
power_fits (suc (suc (suc (suc width)))) low = absurd (omega (arith, low))

-- a unit that is no prefix ends its operand
plain_decoded : (op : Instruction) (state at byte : ℕ) (behind : List CodeUnit) → is_prefix op ≡ false
    → decoded_from state at (record { op = op; arg = byte } ∷ behind) ≡ Some (record { op = op; arg = record { 0 = with_byte state byte }; next = at + 1 })
plain_decoded op state at byte behind plain = rw plain refl

-- an instruction, of whose operand the low bytes alone are spelled
pub spelled_whatever : (width : ℕ) (op : Instruction) (arg at : ℕ) (behind : List CodeUnit) → width ≤ 3 → is_prefix op ≡ false
    → decoded_from 0 at (spelled width op arg ++ behind) ≡ Some (record { op = op; arg = record { 0 = arg % 256 ^ suc width }; next = at + suc width })
spelled_whatever zero op arg at behind low plain =
    let built : with_byte 0 (byte_of 0 arg) ≡ arg % 256 = omega arith in
    plain_decoded op 0 at (byte_of 0 arg) behind plain ∙ λ k. Some (record { op = op; arg = record { 0 = built k }; next = at + 1 })
spelled_whatever (suc zero) op arg at behind low plain =
    let built : with_byte (with_byte 0 (byte_of 1 arg)) (byte_of 0 arg) ≡ arg % 65536 = omega arith in
    let next : at + 1 + 1 ≡ at + 2 = omega arith in
    plain_decoded op (with_byte 0 (byte_of 1 arg)) (at + 1) (byte_of 0 arg) behind plain ∙ λ k. Some (record { op = op; arg = record { 0 = built k }; next = next k })
spelled_whatever (suc (suc zero)) op arg at behind low plain =
    let built : with_byte (with_byte (with_byte 0 (byte_of 2 arg)) (byte_of 1 arg)) (byte_of 0 arg) ≡ arg % 16777216 = omega arith in
    let next : at + 1 + 1 + 1 ≡ at + 3 = omega arith in
    plain_decoded op (with_byte (with_byte 0 (byte_of 2 arg)) (byte_of 1 arg)) (at + 1 + 1) (byte_of 0 arg) behind plain
    ∙ λ k. Some (record { op = op; arg = record { 0 = built k }; next = next k })
spelled_whatever (suc (suc (suc zero))) op arg at behind low plain =
    let built : with_byte (with_byte (with_byte (with_byte 0 (byte_of 3 arg)) (byte_of 2 arg)) (byte_of 1 arg)) (byte_of 0 arg) ≡ arg % 4294967296 = omega arith in
    let next : at + 1 + 1 + 1 + 1 ≡ at + 4 = omega arith in
    plain_decoded op (with_byte (with_byte (with_byte 0 (byte_of 3 arg)) (byte_of 2 arg)) (byte_of 1 arg)) (at + 1 + 1 + 1) (byte_of 0 arg) behind plain
    ∙ λ k. Some (record { op = op; arg = record { 0 = built k }; next = next k })
spelled_whatever (suc (suc (suc (suc width)))) op arg at behind low plain = absurd (omega (arith, low))

pub length-spelled : (width : ℕ) (op : Instruction) (arg : ℕ) → length (spelled width op arg) ≡ suc width
length-spelled zero op arg = refl
length-spelled (suc width) op arg = ap suc (length-spelled width op arg)
