-- Units behind their prefixes: what a unit and its prefixes are decoded as, where it ends, and what is carried on to it.
use Rattle.std.proofs.Common.{◌≡◌, ◌<◌, ◌≤◌, ◌+◌, ℕ, zero, suc, List, [], ◌∷◌, Bool, true, false, cond, Some, None, refl, sym, ap, ◌∙◌, subst, length, drop, arith, add-one}
use Rattle.std.specs.Prelude.{Option, slice_get}
use Rattle.std.proofs.lemmas.Option.{slice_get_within}
use Rattle.py_code.specs.declared.instruction.Instruction.{Instruction}
use Rattle.py_code.specs.declared.instruction.Instruction.TheVariants.{ExtendedArg}
use Rattle.py_code.specs.declared.code.Decoded.{Decoded}
use Rattle.py_code.specs.declared.unit.CodeUnit.{CodeUnit}
use Rattle.py_code.specs.Units.{decoded_from, is_prefix, with_byte}
use Rattle.py_check.specs.Operands.{is_prefix_there, is_prefixed, carried, carried_by}

-- the unit in front of those that are left
pub slice_get-drop : (units : List CodeUnit) (at : ℕ) (u : CodeUnit) (us : List CodeUnit) → drop at units ≡ u ∷ us → (slice_get units at ≡ Some u) × (drop (suc at) units ≡ us)
slice_get-drop [] zero u us left = absurd (cc)
slice_get-drop [] (suc at) u us left = absurd (cc)
slice_get-drop (x ∷ xs) zero u us left = (let same : x ≡ u = cc in ap Some same, let same : xs ≡ us = cc in same)
slice_get-drop (x ∷ xs) (suc at) u us left = slice_get-drop xs at u us left

pub Some-injective : {A : Type 0} (a b : A) → Some a ≡ Some b → a ≡ b
Some-injective a b same = cc

pub prefix_is : (op : Instruction) → is_prefix op ≡ true → op ≡ ExtendedArg
prefix_is ExtendedArg is = refl
prefix_is _ is = absurd (cc)

-- what a decoded unit is
pub decoded_is : (a b : Decoded) → Some a ≡ Some b → (a.op ≡ b.op) × (a.arg.0 ≡ b.arg.0) × (a.next ≡ b.next)
decoded_is a b same = let is = Some-injective a b same in (ap (λ (r : Decoded). r.op) is, ap (λ (r : Decoded). r.arg.0) is, ap (λ (r : Decoded). r.next) is)

-- an instruction with its operand, and the place behind it
abbrev pub decoded_as : Instruction → ℕ → ℕ → Option Decoded
decoded_as op arg next = Some (record { op = op; arg = record { 0 = arg }; next = next })

-- where no prefix stands in front, nothing is carried
pub carried_plain : (units : List CodeUnit) (at : ℕ) → is_prefixed units at ≡ false → carried units at ≡ 0
carried_plain units zero plain = refl
carried_plain units (suc at) plain = by (slice_get units at) plain
  where
    by : (o : Option CodeUnit) → is_prefix_there o ≡ false → carried_by o (carried units at) ≡ 0
    by None none = refl
    by (Some u) none = ap (λ (b : Bool). cond b (with_byte (carried units at) u.arg) 0) none

-- where a unit ends that begins at a place with its prefixes: behind that place, within the code, and no prefix stands in front
pub record Ends (units : List CodeUnit) (at next : ℕ) : Type 0 where
  pub below : at < next
  pub within : next ≤ length units
  pub plain : is_prefixed units next ≡ false

pub decoded_ends : (units left : List CodeUnit) (at state arg next : ℕ) (op : Instruction) → drop at units ≡ left → decoded_from state at left ≡ decoded_as op arg next → Ends units at next
decoded_ends units [] at state arg next op here d = absurd (cc)
decoded_ends units (u ∷ us) at state arg next op here d = by (is_prefix u.op) refl d (λ more. decoded_ends units us (suc at) (with_byte state u.arg) arg next op first.1 more)
  where
    first : (slice_get units at ≡ Some u) × (drop (suc at) units ≡ us)
    first = slice_get-drop units at u us here

    by : (b : Bool) → is_prefix u.op ≡ b → cond b (decoded_from (with_byte state u.arg) (at + 1) us) (decoded_as u.op (with_byte state u.arg) (at + 1)) ≡ decoded_as op arg next
        → (decoded_from (with_byte state u.arg) (suc at) us ≡ decoded_as op arg next → Ends units (suc at) next) → Ends units at next
    by true prefixed d later =
        let place : at + 1 ≡ suc at = add-one at in
        let more = later (rw place at d) in
        record { below = omega (arith, more.below); within = more.within; plain = more.plain }
    by false plain d later =
        let is_next : at + 1 ≡ next = (decoded_is _ _ d).2 in
        let behind : suc at ≡ next = sym (add-one at) ∙ is_next in
        let unprefixed : is_prefixed units (suc at) ≡ false = ap is_prefix_there first.0 ∙ plain in
        record {
          below = omega (arith, behind);
          within = omega (arith, behind, slice_get_within units at u first.0);
          plain = subst (λ (to : ℕ). is_prefixed units to ≡ false) behind unprefixed;
        }
