-- What the rules say of a code, and of a unit that a frame comes to.
use Rattle.std.proofs.Common.{◌≡◌, ℕ, zero, suc, ◌<◌, ◌≤◌, ◌^◌, List, [], ◌∷◌, Bool, true, false, not, cond, Some, refl, ap, subst, length, arith}
use Rattle.std.specs.Prelude.{Option, None, slice_get, nat_le, nat_lt, ◌==◌}
use Rattle.std.proofs.lemmas.Bool.{and_parts}
use Rattle.std.proofs.lemmas.Bool.Decides.{nat_tests}
use Rattle.std.proofs.lemmas.Option.{slice_get_within}
use Rattle.py_code.specs.declared.unit.CodeUnit.{CodeUnit}
use Rattle.py_code.specs.Units.{with_byte, is_prefix}
use Rattle.py_check.specs.declared.note.Kind.{Kind}
use Rattle.py_check.specs.declared.note.Note.{Note}
use Rattle.py_check.specs.declared.note.Note.TheVariants.{Dead, Live}
use Rattle.py_check.specs.declared.annotated.Annotated.{Annotated}
use Rattle.py_check.specs.declared.note.BlockNote.{BlockNote}
use Rattle.py_check.specs.Operands.{carried, carried_by, is_prefix_there, is_prefixed, is_label, operand}
use Rattle.py_check.specs.Sheet.{Sheet, sheet_of}
use Rattle.py_check.specs.Landing.{has_room, handlers_land}
use Rattle.py_check.specs.WholeCode.{is_start, counts_match}
use Rattle.py_check.specs.Typing.{keeps_op, keeps_both, IsTyped}
use Rattle.py_check.specs.Running.{runs, runs_both}
use Rattle.py_rows.specs.Sound.{IsSound}

-- what the rules say of a whole code
pub record IsWhole (code : Annotated) : Type 0 where
  pub some : 0 < length code.code.code.instructions.items
  pub few : length code.code.code.instructions.items < 2 ^ 32
  pub locations : length code.code.code.locations.items ≡ length code.code.code.instructions.items
  pub notes : length code.notes ≡ length code.code.code.instructions.items
  pub start : slice_get code.notes 0 ≡ Some (Live [] [])

-- the note that a code is entered with
start_noted : (note : Option Note) → is_start note ≡ true → note ≡ Some (Live [] [])
start_noted None is = cc
start_noted (Some Dead) is = cc
start_noted (Some (Live [] [])) is = refl
start_noted (Some (Live [] (b ∷ blocks))) is = cc
start_noted (Some (Live (k ∷ kinds) blocks)) is = cc

pub typed_whole : (shapes : List ℕ) (code : Annotated) → IsTyped shapes (sheet_of code) → IsWhole code
typed_whole shapes code typed =
    let sheet : Sheet = sheet_of code in
    let three = (and_parts _ _ (and_parts _ _ (and_parts _ _ typed.whole).0).0).0 in
    let both = and_parts (counts_match sheet) (is_start (slice_get sheet.notes 0)) (and_parts _ _ three).0 in
    let counts = and_parts _ (length sheet.notes == length sheet.units) both.0 in
    let places = and_parts _ (sheet.locations == length sheet.units) counts.0 in
    let bounds = and_parts (nat_lt 0 (length sheet.units)) (nat_lt (length sheet.units) (2 ^ 32)) places.0 in
    record {
      some = (let is : nat_lt 0 (length sheet.units) ≡ true = bounds.0 in grind (arith, nat_tests, is));
      few = (let is : nat_lt (length sheet.units) (2 ^ 32) ≡ true = bounds.1 in grind (arith, nat_tests, is));
      locations = (let is : (sheet.locations == length sheet.units) ≡ true = places.1 in grind (arith, nat_tests, is));
      notes = (let is : (length sheet.notes == length sheet.units) ≡ true = counts.1 in grind (arith, nat_tests, is));
      start = start_noted (slice_get sheet.notes 0) both.1;
    }

-- a unit that keeps the rules behind a note, and runs so far
pub record IsKept (shapes : List ℕ) (sheet : Sheet) (at : ℕ) (unit : Option CodeUnit) (kinds : List Kind) (blocks : List BlockNote) : Type 0 where
  pub there : CodeUnit
  pub is : unit ≡ Some there
  pub room : length kinds ≤ sheet.max_stackdepth
  pub handlers : handlers_land sheet kinds blocks ≡ true
  pub keeps : keeps_op shapes sheet at there.op (operand sheet.units at there) kinds blocks ≡ true
  pub runs : runs sheet there.op (operand sheet.units at there) ≡ true

both_kept : (shapes : List ℕ) (sheet : Sheet) (at : ℕ) (unit : Option CodeUnit) (kinds : List Kind) (blocks : List BlockNote)
    → keeps_both shapes sheet at unit (Some (Live kinds blocks)) ≡ true → runs_both sheet at unit (Some (Live kinds blocks)) ≡ true
    → IsKept shapes sheet at unit kinds blocks
both_kept shapes sheet at None kinds blocks keeps runs = cc
both_kept shapes sheet at (Some u) kinds blocks keeps runs =
    let parts = and_parts _ (keeps_op shapes sheet at u.op (operand sheet.units at u) kinds blocks) keeps in
    let lower = and_parts _ (handlers_land sheet kinds blocks) parts.0 in
    let room = (and_parts (has_room sheet kinds) _ lower.0).0 in
    record {
      there = u;
      is = refl;
      room = (let is : nat_le (length kinds) sheet.max_stackdepth ≡ true = room in grind (arith, nat_tests, is));
      handlers = lower.1;
      keeps = parts.1;
      runs = runs;
    }

-- a noted unit is there, keeps the rules, and runs
pub unit_kept : (names : List (List ℕ)) (code : Annotated) (at : ℕ) (kinds : List Kind) (blocks : List BlockNote) (sound : IsSound names code)
    → slice_get code.notes at ≡ Some (Live kinds blocks)
    → IsKept sound.shapes (sheet_of code) at (slice_get code.code.code.instructions.items at) kinds blocks
unit_kept names code at kinds blocks sound note =
    let sheet : Sheet = sheet_of code in
    let within : at < length code.notes = slice_get_within code.notes at _ note in
    let count : length code.notes ≡ length code.code.code.instructions.items = (typed_whole sound.shapes code sound.typed).notes in
    both_kept sound.shapes sheet at (slice_get sheet.units at) kinds blocks
    (subst (λ (n : Option Note). keeps_both sound.shapes sheet at (slice_get sheet.units at) n ≡ true) note (sound.typed.each at (omega arith)))
    (subst (λ (n : Option Note). runs_both sheet at (slice_get sheet.units at) n ≡ true) note (sound.runs at (omega arith)))

-- what the prefixes carry behind a unit that is none
pub none_carried : (units : List CodeUnit) (at : ℕ) (u : CodeUnit) → slice_get units at ≡ Some u → is_prefix u.op ≡ false → 0 ≡ carried units (suc at)
none_carried units at u is none = rw is (rw none refl)

-- and behind one more
pub prefix_carried : (units : List CodeUnit) (at prefix : ℕ) (u : CodeUnit) → slice_get units at ≡ Some u → is_prefix u.op ≡ true → prefix ≡ carried units at → with_byte prefix u.arg ≡ carried units (suc at)
prefix_carried units at prefix u is one carries = rw is (rw one (ap (λ n. with_byte n u.arg) carries))

-- and in front of a label
unprefixed : (unit : Option CodeUnit) (state : ℕ) → not (is_prefix_there unit) ≡ true → 0 ≡ carried_by unit state
unprefixed None state none = refl
unprefixed (Some u) state none =
    let P : Bool → Type 0 = λ b. not b ≡ true → 0 ≡ cond b (with_byte state u.arg) 0 in
    let cases : (b : Bool) → P b = λ b. elim b as P [ true ↦ λ h. cc | false ↦ λ h. refl ] in
    cases (is_prefix u.op) none

pub label_carried : (units : List CodeUnit) (to : ℕ) → is_label units to ≡ true → 0 ≡ carried units to
label_carried units zero label = refl
label_carried units (suc at) label = unprefixed (slice_get units at) (carried units at) (and_parts (nat_lt (suc at) (length units)) (not (is_prefixed units (suc at))) label).1
