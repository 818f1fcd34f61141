-- The rules read of the constants of a sheet only what they stand for.
use Rattle.std.proofs.Common.{◌≡◌, ℕ, ℤ, zero, suc, ◌+◌, List, [], ◌∷◌, Bool, ◌&&◌, Option, Some, None, refl, sym, ap, ap₂, ◌∙◌, length, drop, map}
use Rattle.std.specs.Prelude.{◌==◌, nat_le, nat_lt, slice_get, option_map}
use Rattle.std.specs.List.{list_all}
use Rattle.std.proofs.lemmas.List.{length-map}
use Rattle.py_code.specs.Bottom.{bottom}
use Rattle.py_code.specs.declared.instruction.Instruction.{Instruction}
use Rattle.py_code.specs.declared.instruction.Instruction.TheVariants as op
use Rattle.py_code.specs.declared.literal.Literal.{Literal}
use Rattle.py_code.specs.declared.unit.CodeUnit.{CodeUnit}
use Rattle.py_code.specs.Literals.{Constant, constant_of}
use Rattle.py_check.specs.declared.note.BlockNote.{BlockNote}
use Rattle.py_check.specs.declared.note.BlockNote.TheVariants.{Loop, TryExcept, Finally, FinallyHandler, ExceptHandler}
use Rattle.py_check.specs.declared.note.Kind.{Kind}
use Rattle.py_check.specs.declared.note.Note.{Note}
use Rattle.py_check.specs.declared.note.Note.TheVariants.{Dead, Live}
use Rattle.py_check.specs.declared.note.Pending.{Pending}
use Rattle.py_check.specs.declared.note.Pending.TheVariants as pending
use Rattle.py_check.specs.Breaking.{BreaksFirst, keeps}
use Rattle.py_check.specs.Constants.{kind_of, is_earlier, loads}
use Rattle.py_check.specs.Effects.{Effect, Moves, AsksOnce, Takes, Other, effect, has_operand}
use Rattle.py_check.specs.Landing.{goes_on, handler_lands, handlers_land, has_room, levels_nest, top_level}
use Rattle.py_check.specs.Leaving.{walks, ends_with, is_finally_handler}
use Rattle.py_check.specs.Notes.{level_of, pending_of}
use Rattle.py_check.specs.Operands.{operand}
use Rattle.py_check.specs.Sheet.{Sheet}
use Rattle.py_check.specs.Typing.{keeps_own, keeps_by, keeps_op, keeps_after_note, keeps_both}
use Rattle.py_check.specs.WholeCode.{cells_fit, counts_match, is_start, keeps_whole, parameters_fit}
use Rattle.py_raw.proofs.ConstantLemmas.{kind_in, kind_read, earlier_in, earlier_read}

module _ (shapes : List ℕ) (s : Sheet) (others : List Literal) (alike : map constant_of others ≡ map constant_of s.constants) where
  abbrev t : Sheet
  t = record s { constants = others }

  -- ---- what they are

  as_many : length others ≡ length s.constants
  as_many = sym (length-map others constant_of) ∙ (ap length alike ∙ length-map s.constants constant_of)

  same_kind : (i : ℕ) → option_map kind_of (slice_get others i) ≡ option_map kind_of (slice_get s.constants i)
  same_kind i = by others i ∙ (ap (λ (cs : List Constant). option_map kind_in (slice_get cs i)) alike ∙ sym (by s.constants i))
    where
      by : (ls : List Literal) (j : ℕ) → option_map kind_of (slice_get ls j) ≡ option_map kind_in (slice_get (map constant_of ls) j)
      by [] j = refl
      by (l ∷ ls) zero = ap Some (kind_read l)
      by (l ∷ ls) (suc j) = by ls j

  same_earlier : (count : ℕ) → list_all (is_earlier count) others ≡ list_all (is_earlier count) s.constants
  same_earlier count = by others ∙ (ap (list_all (earlier_in count)) alike ∙ sym (by s.constants))
    where
      by : (ls : List Literal) → list_all (is_earlier count) ls ≡ list_all (earlier_in count) (map constant_of ls)
      by [] = refl
      by (l ∷ ls) = ap₂ ◌&&◌ (earlier_read count l) (by ls)

  loads_alike : (o p : Option Literal) (rest : Kind → Bool) → option_map kind_of o ≡ option_map kind_of p → loads o rest ≡ loads p rest
  loads_alike None None rest same = refl
  loads_alike None (Some l) rest same = absurd (cc same)
  loads_alike (Some k) None rest same = absurd (cc same)
  loads_alike (Some k) (Some l) rest same = let one : kind_of k ≡ kind_of l = cc same in ap rest one

  -- ---- blocks, of which the constants say nothing

  handlers_alike : (kinds : List Kind) (blocks : List BlockNote) → handlers_land t kinds blocks ≡ handlers_land s kinds blocks
  handlers_alike kinds [] = refl
  handlers_alike kinds (b ∷ blocks) = ap₂ ◌&&◌ (one b) (handlers_alike (bottom (level_of b) kinds) blocks)
    where
      one : (c : BlockNote) → handler_lands t c (bottom (level_of b) kinds) blocks ≡ handler_lands s c (bottom (level_of b) kinds) blocks
      one (Loop level) = refl
      one (TryExcept level handler) = refl
      one (Finally level handler) = refl
      one (FinallyHandler level waiting) = refl
      one (ExceptHandler level) = refl

  walks_alike : (p : Pending) (kinds : List Kind) (blocks : List BlockNote) → walks t p kinds blocks ≡ walks s p kinds blocks
  walks_alike p kinds [] = refl
  walks_alike (pending.Break to) kinds (Loop level ∷ blocks) = refl
  walks_alike (pending.Continue to) kinds (Loop level ∷ blocks) = refl
  walks_alike p kinds (TryExcept level handler ∷ blocks) = walks_alike p (bottom level kinds) blocks
  walks_alike p kinds (Finally level handler ∷ blocks) = refl
  walks_alike p kinds (FinallyHandler level waiting ∷ blocks) = walks_alike p (bottom level kinds) blocks
  walks_alike p kinds (ExceptHandler level ∷ blocks) = walks_alike p (bottom level kinds) blocks

  all_walk : (ps : List Pending) (kinds : List Kind) (blocks : List BlockNote)
      → list_all (λ p. walks t p kinds blocks) ps ≡ list_all (λ p. walks s p kinds blocks) ps
  all_walk [] kinds blocks = refl
  all_walk (p ∷ ps) kinds blocks = ap₂ ◌&&◌ (walks_alike p kinds blocks) (all_walk ps kinds blocks)

  ends_alike : (to : ℕ) (b : BlockNote) (kinds : List Kind) (blocks : List BlockNote) → ends_with t to b kinds blocks ≡ ends_with s to b kinds blocks
  ends_alike to b kinds blocks = ap (λ (w : Bool). is_finally_handler b && goes_on s to kinds blocks && w) (all_walk (pending_of b) kinds blocks)

  -- ---- what an instruction asks

  own_alike : (at : ℕ) (o : Instruction) (i : ℕ) (kinds : List Kind) (blocks : List BlockNote)
      → keeps_own shapes t at o i kinds blocks ≡ keeps_own shapes s at o i kinds blocks
  own_alike at op.LoadConst i kinds blocks = loads_alike _ _ _ (same_kind i)
  own_alike at op.EndFinally i kinds [] = refl
  own_alike at op.EndFinally i kinds (b ∷ blocks) = ends_alike (at + 1) b (bottom (level_of b) kinds) blocks
  own_alike at op.WithCleanupStart i kinds [] = refl
  own_alike at op.WithCleanupStart i kinds (b ∷ blocks) = refl
  own_alike at op.WithCleanupFinish i kinds [] = refl
  own_alike at op.WithCleanupFinish i kinds (b ∷ blocks) =
      ap (λ (w : Bool). (length kinds == suc (level_of b)) && nat_lt (top_level blocks) (level_of b) && w) (ends_alike (at + 1) b (drop 2 kinds) blocks)
  own_alike at op.PopBlock i kinds [] = refl
  own_alike at op.PopBlock i kinds (b ∷ blocks) = refl
  own_alike at op.PopException i kinds [] = refl
  own_alike at op.PopException i kinds (b ∷ blocks) = refl
  own_alike at op.EndAsyncFor i kinds [] = refl
  own_alike at op.EndAsyncFor i kinds (b ∷ blocks) = refl
  own_alike at op.Break to kinds blocks = walks_alike (pending.Break to) kinds blocks
  own_alike at op.Continue to kinds blocks = walks_alike (pending.Continue to) kinds blocks
  own_alike at _ i kinds blocks = refl

  operand_alike : (o : Instruction) (i : ℕ) → has_operand t o i ≡ has_operand s o i
  operand_alike op.LoadConst i = ap (nat_lt i) as_many
  operand_alike op.ReturnConst i = ap (nat_lt i) as_many
  operand_alike _ i = refl

  by_alike : (at : ℕ) (e : Effect) (one other : Bool) (kinds : List Kind) (blocks : List BlockNote) → one ≡ other
      → keeps_by t at e one kinds blocks ≡ keeps_by s at e other kinds blocks
  by_alike at (Moves n places) one other kinds blocks same = refl
  by_alike at (AsksOnce wanted pushes) one other kinds blocks same = refl
  by_alike at (Takes n pushes) one other kinds blocks same = refl
  by_alike at Other one other kinds blocks same = same

  op_alike : (at : ℕ) (o : Instruction) (i : ℕ) (kinds : List Kind) (blocks : List BlockNote)
      → keeps_op shapes t at o i kinds blocks ≡ keeps_op shapes s at o i kinds blocks
  op_alike at o i kinds blocks = ap₂ ◌&&◌ (operand_alike o i) (by_alike at (effect o i) _ _ kinds blocks (own_alike at o i kinds blocks))

  -- ---- what the rules say of a place

  note_alike : (at : ℕ) (u : CodeUnit) (n : Note) → keeps_after_note shapes t at u n ≡ keeps_after_note shapes s at u n
  note_alike at u Dead = refl
  note_alike at u (Live kinds blocks) =
      ap₂ (λ (handled kept : Bool). has_room s kinds && levels_nest (length kinds) blocks && handled && kept) (handlers_alike kinds blocks)
      (op_alike at u.op (operand s.units at u) kinds blocks)

  both_alike : (at : ℕ) (u : Option CodeUnit) (n : Option Note) → keeps_both shapes t at u n ≡ keeps_both shapes s at u n
  both_alike at (Some u) (Some n) = note_alike at u n
  both_alike at (Some u) None = refl
  both_alike at None n = refl

  cells_alike : (cells : List ℤ) → cells_fit t cells ≡ cells_fit s cells
  cells_alike [] = refl
  cells_alike (n ∷ cells) = refl

  whole_alike : keeps_whole shapes t ≡ keeps_whole shapes s
  whole_alike =
      ap₂
      (λ (cells earlier : Bool).
      counts_match s && is_start (slice_get s.notes 0) && parameters_fit s && cells && nat_le s.max_stackdepth 65535 && earlier)
      (cells_alike s.cell2arg) (same_earlier (length shapes))

  keeps_alike : (at : ℕ) → keeps shapes t at ≡ keeps shapes s at
  keeps_alike zero = ap₂ ◌&&◌ whole_alike (both_alike 0 (slice_get s.units 0) (slice_get s.notes 0))
  keeps_alike (suc at) = both_alike (suc at) (slice_get s.units (suc at)) (slice_get s.notes (suc at))

  -- a unit that breaks a rule first does so with any constants that stand for the same
  pub breaks_alike : (at : ℕ) → BreaksFirst shapes s at → BreaksFirst shapes t at
  breaks_alike at b = record {
    within = b.within;
    breaks = keeps_alike at ∙ b.breaks;
    before = λ k low. keeps_alike k ∙ b.before k low;
  }
