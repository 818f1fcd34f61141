-- Control that may come to the innermost handler from each unit may come to every open handler: the outer ones are open at the unit of the
-- innermost one.
use Rattle.std.proofs.Common.{◌≡◌, ℕ, suc, ◌-◌, List, [], ◌∷◌, Option, None, Some, true, refl, sym, ap, subst, length, drop, arith}
use Rattle.std.specs.Prelude.{slice_get, nat_le}
use Rattle.std.proofs.lemmas.Bool.{and_from, and_parts}
use Rattle.std.proofs.lemmas.Bool.Decides.{nat_tests}
use Rattle.std.proofs.lemmas.List.{length-drop}
use Rattle.std.proofs.lemmas.Option.{slice_get_within}
use Rattle.py_code.specs.Bottom.{bottom}
use Rattle.py_check.specs.declared.note.Kind.{Kind}
use Rattle.py_check.specs.declared.note.Kind.TheVariants.{Exc}
use Rattle.py_check.specs.declared.note.Note.{Note}
use Rattle.py_check.specs.declared.note.Note.TheVariants.{Dead, Live}
use Rattle.py_check.specs.declared.note.Pending.{Pending}
use Rattle.py_check.specs.declared.note.BlockNote.{BlockNote}
use Rattle.py_check.specs.declared.note.BlockNote.TheVariants.{Loop, TryExcept, Finally, FinallyHandler, ExceptHandler}
use Rattle.py_check.specs.Notes.{kinds_fit, block_fits, blocks_fit, level_of, note_fits, pending_of}
use Rattle.py_check.specs.Operands.{is_label}
use Rattle.py_check.specs.Landing.{handler_lands, handlers_land, jumps, lands, levels_nest}
use Rattle.py_check.specs.Innermost.{innermost_lands, InnermostLand}
use Rattle.py_check.specs.Sheet.{Sheet}
use Rattle.py_check.proofs.NoteLemmas.{common_fits, fitting_block, fitting_bottom, note_through, with_pending}

-- a block fits itself where no jump may wait in it
same_block : (b : BlockNote) → pending_of b ≡ [] → block_fits b b ≡ true
same_block b none = common_fits b b (record { number = refl; level = refl; handler = refl; subset = rw none refl })

module _ (sheet : Sheet) where
  -- what fits what may come to a label may come to it, too
  jumps_too : (to : ℕ) (ks ls : List Kind) (b : BlockNote) (bs cs : List BlockNote) → pending_of b ≡ [] → kinds_fit ks ls ≡ true → blocks_fit bs cs ≡ true → jumps sheet to ls (b ∷ cs) ≡ true → jumps sheet to ks (b ∷ bs) ≡ true
  jumps_too to ks ls b bs cs none kinds blocks may =
      let parts = and_parts (is_label sheet.units to) (lands sheet to ls (b ∷ cs)) may in
      let all : blocks_fit (b ∷ bs) (b ∷ cs) ≡ true = and_from (block_fits b b) (blocks_fit bs cs) (same_block b none) blocks in
      and_from (is_label sheet.units to) (lands sheet to ks (b ∷ bs)) parts.0 (note_through ks ls (b ∷ bs) (b ∷ cs) (slice_get sheet.notes to) kinds all parts.1)

  -- so does what comes to the innermost handler
  innermost_too : (ks ls : List Kind) (bs cs : List BlockNote) → kinds_fit ks ls ≡ true → blocks_fit bs cs ≡ true → innermost_lands sheet ls cs ≡ true → innermost_lands sheet ks bs ≡ true
  innermost_too ks ls [] cs kinds blocks near = refl
  innermost_too ks ls (b ∷ bs) [] kinds blocks near = cc
  innermost_too ks ls (b ∷ bs) (c ∷ cs) kinds blocks near =
      let parts = and_parts (block_fits b c) (blocks_fit bs cs) blocks in
      by_block
      b
      (pending_of c)
      (subst (λ (d : BlockNote). innermost_lands sheet ls (d ∷ cs) ≡ true) (fitting_block b c parts.0) near)
      parts.1
      (λ level more. innermost_too (bottom level ks) (bottom level ls) bs cs (fitting_bottom level ks ls kinds) parts.1 more)
    where
      by_block : (d : BlockNote) (qs : List Pending) → innermost_lands sheet ls (with_pending d qs ∷ cs) ≡ true → blocks_fit bs cs ≡ true
          → ((level : ℕ) → innermost_lands sheet (bottom level ls) cs ≡ true → innermost_lands sheet (bottom level ks) bs ≡ true) → innermost_lands sheet ks (d ∷ bs) ≡ true
      by_block (Loop level) qs more fit outer = outer level more
      by_block (TryExcept level handler) qs more fit outer =
          jumps_too handler (Exc ∷ bottom level ks) (Exc ∷ bottom level ls) (ExceptHandler level) bs cs refl (fitting_bottom level ks ls kinds) fit more
      by_block (Finally level handler) qs more fit outer =
          jumps_too handler (bottom level ks) (bottom level ls) (FinallyHandler level []) bs cs refl (fitting_bottom level ks ls kinds) fit more
      by_block (FinallyHandler level ps) qs more fit outer = outer level more
      by_block (ExceptHandler level) qs more fit outer = outer level more

  module _ (all : InnermostLand sheet (length sheet.notes)) where
    -- the innermost handler around a label is that of its unit
    at_label : (to : ℕ) (ks : List Kind) (bs : List BlockNote) → jumps sheet to ks bs ≡ true → innermost_lands sheet ks bs ≡ true
    at_label to ks bs may = by_note (slice_get sheet.notes to) refl (and_parts (is_label sheet.units to) (lands sheet to ks bs) may).1
      where
        by_note : (note : Option Note) → slice_get sheet.notes to ≡ note → note_fits ks bs note ≡ true → innermost_lands sheet ks bs ≡ true
        by_note None is fits = cc
        by_note (Some Dead) is fits = cc
        by_note (Some (Live ls cs)) is fits =
            let parts = and_parts (kinds_fit ks ls) (blocks_fit bs cs) fits in
            innermost_too ks ls bs cs parts.0 parts.1 (all to (slice_get_within sheet.notes to _ is) ls cs is)

    -- where the stack ends at the level already
    nothing_above : (level : ℕ) (ks : List Kind) → length ks ≡ level → bottom level ks ≡ ks
    nothing_above level ks count = ap (λ (n : ℕ). drop n ks) (let none : length ks - level ≡ 0 = omega (arith, count) in none)

    one_above : (level : ℕ) (k : Kind) (ks : List Kind) → length ks ≡ level → bottom level (k ∷ ks) ≡ ks
    one_above level k ks count = ap (λ (n : ℕ). drop n (k ∷ ks)) (let one : suc (length ks) - level ≡ 1 = omega (arith, count) in one)

    bottom_count : (level : ℕ) (ks : List Kind) → nat_le level (length ks) ≡ true → length (bottom level ks) ≡ level
    bottom_count level ks within = grind (arith, nat_tests, within, length-drop (length ks - level) ks)

    -- the innermost handler lands, and so does the next one
    here : (b : BlockNote) (ks : List Kind) (bs : List BlockNote) → innermost_lands sheet ks (b ∷ bs) ≡ true → handler_lands sheet b (bottom (level_of b) ks) bs ≡ true
    here (Loop level) ks bs near = refl
    here (TryExcept level handler) ks bs near = near
    here (Finally level handler) ks bs near = near
    here (FinallyHandler level ps) ks bs near = refl
    here (ExceptHandler level) ks bs near = refl

    next : (b : BlockNote) (ks : List Kind) (bs : List BlockNote) → length (bottom (level_of b) ks) ≡ level_of b → innermost_lands sheet ks (b ∷ bs) ≡ true
        → innermost_lands sheet (bottom (level_of b) ks) bs ≡ true
    next (Loop level) ks bs count near = near
    next (TryExcept level handler) ks bs count near =
        let lower = bottom level ks in
        subst (λ (ls : List Kind). innermost_lands sheet ls bs ≡ true) (one_above level Exc lower count) (at_label handler (Exc ∷ lower) (ExceptHandler level ∷ bs) near)
    next (Finally level handler) ks bs count near =
        let lower = bottom level ks in
        subst (λ (ls : List Kind). innermost_lands sheet ls bs ≡ true) (nothing_above level lower count) (at_label handler lower (FinallyHandler level [] ∷ bs) near)
    next (FinallyHandler level ps) ks bs count near = near
    next (ExceptHandler level) ks bs count near = near

    pub all_land : (ks : List Kind) (bs : List BlockNote) → levels_nest (length ks) bs ≡ true → innermost_lands sheet ks bs ≡ true → handlers_land sheet ks bs ≡ true
    all_land ks [] nest near = refl
    all_land ks (b ∷ bs) nest near =
        let lower = bottom (level_of b) ks in
        let parts = and_parts (nat_le (level_of b) (length ks)) (levels_nest (level_of b) bs) nest in
        let count : length lower ≡ level_of b = bottom_count (level_of b) ks parts.0 in
        let inner : levels_nest (length lower) bs ≡ true = subst (λ (n : ℕ). levels_nest n bs ≡ true) (sym count) parts.1 in
        and_from (handler_lands sheet b lower bs) (handlers_land sheet lower bs) (here b ks bs near) (all_land lower bs inner (next b ks bs count near))
