-- Units that are spelled stay so behind one more instruction.
use Rattle.std.proofs.Common.{◌≡◌, ◌<◌, ◌≤◌, ◌+◌, ◌-◌, ⊎_elim, ℕ, zero, suc, List, [], ◌∷◌, ◌++◌, Bool, true, false, cond, Some, refl, sym, ap, ◌∙◌, length, arith, length-append, append-nil}
use Rattle.std.specs.Prelude.{Option, None, slice_get}
use Rattle.std.proofs.lemmas.Bool.{cases_lt}
use Rattle.py_code.specs.declared.instruction.Instruction.{Instruction}
use Rattle.py_code.specs.declared.unit.CodeUnit.{CodeUnit}
use Rattle.py_code.specs.declared.code.Decoded.{Decoded}
use Rattle.py_code.specs.Units.{decoded_from, is_prefix, with_byte}
use Rattle.py_check.specs.Operands.{is_prefix_there, prefixes}
use Rattle.py_laid.proofs.NamingLemmas.{slice_get-front}
use Rattle.py_body.specs.Emitting.{AreSpelled}
use Rattle.py_body.proofs.ListLemmas.{slice_get-behind}

-- ---- prefixes

-- units behind a place change nothing in front of it
prefixes-front : (old more : List CodeUnit) (at : ℕ) → at ≤ length old → prefixes (old ++ more) at ≡ prefixes old at
prefixes-front old more zero low = refl
prefixes-front old more (suc at) low =
    let same : slice_get (old ++ more) at ≡ slice_get old at = slice_get-front old more at (omega (arith, low)) in
    let before = prefixes-front old more at (omega (arith, low)) in
    λ k. cond (is_prefix_there (same k)) (before k + 1) 0

-- one more unit is one more prefix at most
prefixes-suc : (units : List CodeUnit) (at : ℕ) → prefixes units (suc at) ≤ prefixes units at + 1
prefixes-suc units at = by (is_prefix_there (slice_get units at))
  where
    by : (b : Bool) → cond b (prefixes units at + 1) 0 ≤ prefixes units at + 1
    by true = omega arith
    by false = omega arith

-- so many more units are so many more prefixes at most
prefixes-add : (units : List CodeUnit) (at n : ℕ) → prefixes units (at + n) ≤ prefixes units at + n
prefixes-add units at zero = let same : at + 0 ≡ at = omega arith in omega (arith, ap (prefixes units) same)
prefixes-add units at (suc n) =
    let same : at + suc n ≡ suc (at + n) = omega arith in
    omega (arith, ap (prefixes units) same, prefixes-suc units (at + n), prefixes-add units at n)

-- behind a unit that is no prefix there is none
pub prefixes-plain : (units : List CodeUnit) (at : ℕ) (u : CodeUnit) → slice_get units at ≡ Some u → is_prefix u.op ≡ false → prefixes units (suc at) ≡ 0
prefixes-plain units at u here plain = rw (here, plain) refl

-- ---- one instruction

-- the last of the units that are decoded as an instruction
record Last (added : List CodeUnit) : Type 0 where
  at : ℕ
  behind : suc at ≡ length added
  unit : CodeUnit
  here : slice_get added at ≡ Some unit
  plain : is_prefix unit.op ≡ false

abbrev next_of : Option Decoded → ℕ
next_of None = 0
next_of (Some d) = d.next

last_unit : (added : List CodeUnit) (state at arg : ℕ) (op : Instruction) → decoded_from state at added ≡ Some (record { op = op; arg = record { 0 = arg }; next = at + length added }) → Last added
last_unit [] state at arg op is = absurd (cc)
last_unit (u ∷ us) state at arg op is = by (is_prefix u.op) refl is (λ d. last_unit us (with_byte state u.arg) (at + 1) arg op d)
  where
    by : (b : Bool) → is_prefix u.op ≡ b
        → cond b (decoded_from (with_byte state u.arg) (at + 1) us) (Some (record { op = u.op; arg = record { 0 = with_byte state u.arg }; next = at + 1 }))
        ≡ Some (record { op = op; arg = record { 0 = arg }; next = at + suc (length us) })
        → (decoded_from (with_byte state u.arg) (at + 1) us ≡ Some (record { op = op; arg = record { 0 = arg }; next = (at + 1) + length us }) → Last us)
        → Last (u ∷ us)
    by true prefixed d later =
        let same : at + suc (length us) ≡ (at + 1) + length us = omega arith in
        let last = later (d ∙ ap (λ (n : ℕ). Some (record { op = op; arg = record { 0 = arg }; next = n })) same) in
        record { at = suc last.at; behind = ap suc last.behind; unit = last.unit; here = last.here; plain = last.plain }
    by false plain d later = let same : at + 1 ≡ at + suc (length us) = ap next_of d in record { at = 0; behind = omega (arith, same); unit = u; here = refl; plain = plain }

-- one more instruction that is decoded as a whole
pub spelled_more : (old added : List CodeUnit) (op : Instruction) (arg : ℕ) → AreSpelled old → length added ≤ 4
    → ((at : ℕ) (behind : List CodeUnit) → decoded_from 0 at (added ++ behind) ≡ Some (record { op = op; arg = record { 0 = arg }; next = at + length added })) → AreSpelled (old ++ added)
spelled_more old added op arg spelled few decoded = record {
  few = λ at low. ⊎_elim (λ less. front at less) (λ more. rest at more low) (cases_lt at (length old));
  ends = ends;
}
  where
    last : Last added
    last = last_unit added 0 0 arg op (ap (decoded_from 0 0) (sym (append-nil added)) ∙ decoded 0 [])

    long : length (old ++ added) ≡ suc (length old + last.at)
    long = omega (arith, length-append old added, last.behind)

    ends : prefixes (old ++ added) (length (old ++ added)) ≡ 0
    ends = ap (prefixes (old ++ added)) long ∙ prefixes-plain (old ++ added) (length old + last.at) last.unit (slice_get-behind old added last.at ∙ last.here) last.plain

    front : (at : ℕ) → at < length old → prefixes (old ++ added) at ≤ 3
    front at less = omega (arith, prefixes-front old added at (omega (arith, less)), spelled.few at (omega (arith, less)))

    here : prefixes (old ++ added) (length old) ≡ 0
    here = prefixes-front old added (length old) (omega arith) ∙ spelled.ends

    rest : (at : ℕ) → length old ≤ at → at ≤ length (old ++ added) → prefixes (old ++ added) at ≤ 3
    rest at more low =
        ⊎_elim
        (λ less. let same : at ≡ length old + (at - length old) = omega (arith, more) in
        omega (arith, more, few, long, last.behind, here, less, ap (prefixes (old ++ added)) same, prefixes-add (old ++ added) (length old) (at - length old)))
        (λ above. let same : at ≡ length (old ++ added) = omega (arith, above, low) in omega (arith, ap (prefixes (old ++ added)) same, ends))
        (cases_lt at (length (old ++ added)))
