-- Units of laid code: where control may come to, and what it takes that a unit keeps the typing rules with its prefixes.
use Rattle.std.proofs.Common.{◌≡◌, ◌<◌, ◌≤◌, ◌+◌, ⊎_elim, ℕ, suc, List, [], ◌∷◌, Bool, true, false, cond, not, Some, refl, sym, ap, ◌∙◌, subst, length, drop, arith, add-one}
use Rattle.std.specs.Prelude.{slice_get}
use Rattle.std.proofs.lemmas.Bool.{and_from, and_parts, lt-ltb, le-leb, leb-true, cases_lt}
use Rattle.py_code.specs.Bottom.{bottom}
use Rattle.py_code.specs.declared.instruction.Instruction.{Instruction}
use Rattle.py_code.specs.declared.instruction.Instruction.TheVariants.{ExtendedArg}
use Rattle.py_code.specs.declared.unit.CodeUnit.{CodeUnit}
use Rattle.py_code.specs.Units.{decoded_from, is_prefix, with_byte}
use Rattle.py_check.specs.declared.note.Kind.{Kind}
use Rattle.py_check.specs.declared.note.BlockNote.{BlockNote}
use Rattle.py_check.specs.declared.note.Note.TheVariants.{Live}
use Rattle.py_check.specs.Notes.{level_of, blocks_fit, note_fits}
use Rattle.py_check.specs.Operands.{is_prefixed, prefixes, carried, carried_by, operand, is_label}
use Rattle.py_check.specs.Sheet.{Sheet}
use Rattle.py_check.specs.Landing.{has_room, levels_nest, lands, goes_on, jumps, handler_lands, handlers_land}
use Rattle.py_check.specs.Typing.{keeps_op, keeps_both, keeps_at}
use Rattle.py_check.specs.Running.{is_generator, runs, runs_both, runs_at}
use Rattle.py_tree.specs.declared.body.BodyKind.TheVariants.{Generator}
use Rattle.py_tree.specs.Tree.{Name}
use Rattle.py_laid.specs.Code.{Parts, Scope, on, note_of, Holds, Stands}
use Rattle.py_laid.proofs.NoteLemmas.{kinds_of, length-kinds_of, kinds_fit-Any, length-bottom, levels_nest-on}
use Rattle.py_laid.proofs.UnitLemmas.{slice_get-drop, prefix_is, decoded_is, decoded_as, carried_plain, decoded_ends}

-- what the rules read of a code, with its lines and names, where its stack has room for each note and prefixes are few
pub record Noted : Type 0 where
  pub shapes : List ℕ
  pub sheet : Sheet
  pub locations : List ℕ
  pub names : List Name
  pub vars : List Name
  pub names_are : sheet.names ≡ length names
  pub vars_are : sheet.varnames ≡ length vars
  pub room : (at : ℕ) (kinds : List Kind) (blocks : List BlockNote) → slice_get sheet.notes at ≡ Some (Live kinds blocks) → length kinds ≤ sheet.max_stackdepth
  pub spelled : (at : ℕ) → at ≤ length sheet.units → prefixes sheet.units at ≤ 3

-- the parts in which its code is laid
abbrev pub parts_of : Noted → Parts
parts_of code = record { units = code.sheet.units; locations = code.locations; notes = code.sheet.notes; constants = code.sheet.constants; names = code.names; vars = code.vars }

module _ (code : Noted) where
  abbrev units : List CodeUnit
  units = code.sheet.units

  -- no prefix stands in front of a place
  abbrev pub Free : ℕ → Type 0
  Free at = is_prefixed units at ≡ false

  -- control may come to a place in a scope: it is a label, and has the scope's note
  pub record In (scope : Scope) (at : ℕ) : Type 0 where
    pub low : at < length units
    pub plain : is_prefixed units at ≡ false
    pub note : slice_get code.sheet.notes at ≡ Some (note_of scope)

  -- what leaves a block comes to its handler, whatever lies under the block
  abbrev pub Lands : List BlockNote → Type 0
  Lands [] = Unit {0}
  Lands (b ∷ blocks) = ((kinds : List Kind) → length kinds ≡ level_of b → handler_lands code.sheet b kinds blocks ≡ true) × Lands blocks

  -- only a generator's scope may yield, its levels nest, what leaves its blocks comes to their handlers, and its blocks fit themselves
  pub record Safe (scope : Scope) : Type 0 where
    pub yields : scope.kind ≡ Generator → is_generator code.sheet.flags ≡ true
    pub nest : levels_nest scope.depth scope.blocks ≡ true
    pub land : Lands scope.blocks
    pub same : blocks_fit scope.blocks scope.blocks ≡ true

  -- so the rule on handlers holds, whatever the entries are
  handlers_land-all : (blocks : List BlockNote) (depth : ℕ) (kinds : List Kind) → levels_nest depth blocks ≡ true → Lands blocks → length kinds ≡ depth
      → handlers_land code.sheet kinds blocks ≡ true
  handlers_land-all [] depth kinds nest land long = refl
  handlers_land-all (b ∷ blocks) depth kinds nest (here, more) long =
      let parts = and_parts _ _ nest in
      let low : level_of b ≤ depth = leb-true (level_of b) depth parts.0 in
      let under : length (bottom (level_of b) kinds) ≡ level_of b = length-bottom (level_of b) kinds (omega (arith, low, long)) in
      and_from _ _ (here (bottom (level_of b) kinds) under) (handlers_land-all blocks (level_of b) (bottom (level_of b) kinds) parts.1 more under)

  -- a scope stays safe with one more value
  pub safe_on : (scope : Scope) → Safe scope → Safe (on scope)
  safe_on scope safe = record { yields = safe.yields; nest = levels_nest-on scope.depth scope.blocks safe.nest; land = safe.land; same = safe.same }

  -- each unit from one place up to another keeps the rules, and runs so far
  abbrev pub Keeps : ℕ → ℕ → Type 0
  Keeps at next = (k : ℕ) → at ≤ k → k < next → (keeps_at code.shapes code.sheet k ≡ true) × (runs_at code.sheet k ≡ true)

  -- no unit, and units behind units
  pub keeps_none : (at next : ℕ) → next ≤ at → Keeps at next
  keeps_none at next back k above below = absurd (omega (arith, back, above, below))

  pub keeps_then : (at mid next : ℕ) → Keeps at mid → Keeps mid next → Keeps at next
  keeps_then at mid next front rest k low high = ⊎_elim (λ less. front k low less) (λ more. rest k more high) (cases_lt k mid)

  -- ---- where control may go, with as many entries as the note has

  -- control may come to a place with them
  pub fits_here : (scope : Scope) (kinds : List Kind) (blocks : List BlockNote) (at : ℕ) → slice_get code.sheet.notes at ≡ Some (note_of scope) → length kinds ≡ scope.depth
      → blocks_fit blocks scope.blocks ≡ true → lands code.sheet at kinds blocks ≡ true
  fits_here scope kinds blocks at note long fit = ap (note_fits kinds blocks) note ∙ and_from _ _ (kinds_fit-Any kinds scope.depth long) fit

  -- the stack has room for them
  room_here : (scope : Scope) (kinds : List Kind) (at : ℕ) → slice_get code.sheet.notes at ≡ Some (note_of scope) → length kinds ≡ scope.depth → has_room code.sheet kinds ≡ true
  room_here scope kinds at note long = le-leb _ _ (omega (arith, long, length-kinds_of scope, code.room at (kinds_of scope) scope.blocks note))

  -- control may go on behind a unit
  pub goes : (scope : Scope) (kinds : List Kind) (blocks : List BlockNote) (k next : ℕ) → k + 1 ≡ next → In scope next → length kinds ≡ scope.depth → blocks_fit blocks scope.blocks ≡ true
      → goes_on code.sheet (k + 1) kinds blocks ≡ true
  goes scope kinds blocks k next is_next enters long fit =
      ap (λ (to : ℕ). goes_on code.sheet to kinds blocks) is_next ∙ and_from _ _ (room_here scope kinds next enters.note long) (fits_here scope kinds blocks next enters.note long fit)

  -- a place that control may come to is a label
  pub labels : (scope : Scope) (to : ℕ) → In scope to → is_label units to ≡ true
  labels scope to enters = and_from _ _ (lt-ltb _ _ enters.low) (ap not enters.plain)

  -- control may jump there
  pub jumps_to : (scope : Scope) (kinds : List Kind) (blocks : List BlockNote) (to : ℕ) → In scope to → length kinds ≡ scope.depth → blocks_fit blocks scope.blocks ≡ true
      → jumps code.sheet to kinds blocks ≡ true
  jumps_to scope kinds blocks to enters long fit = and_from _ _ (labels scope to enters) (fits_here scope kinds blocks to enters.note long fit)

  -- ---- one instruction

  module _ (scope : Scope) (safe : Safe scope) where
    -- what the rules ask of an instruction with its operand, and that it runs
    abbrev Passes : ℕ → Instruction → ℕ → Type 0
    Passes at op arg = (keeps_op code.shapes code.sheet at op arg (kinds_of scope) scope.blocks ≡ true) × (runs code.sheet op arg ≡ true)

    abbrev PassesAt : ℕ → Type 0
    PassesAt at = (keeps_at code.shapes code.sheet at ≡ true) × (runs_at code.sheet at ≡ true)

    -- a unit that keeps the rules with its note
    kept_at : (at : ℕ) (u : CodeUnit) → slice_get units at ≡ Some u → slice_get code.sheet.notes at ≡ Some (note_of scope) → Passes at u.op (operand units at u) → PassesAt at
    kept_at at u here note passes =
        let long : length (kinds_of scope) ≡ scope.depth = length-kinds_of scope in
        let nest : levels_nest (length (kinds_of scope)) scope.blocks ≡ true = subst (λ (n : ℕ). levels_nest n scope.blocks ≡ true) (sym long) safe.nest in
        let land : handlers_land code.sheet (kinds_of scope) scope.blocks ≡ true = handlers_land-all scope.blocks scope.depth (kinds_of scope) safe.nest safe.land long in (
          (λ k. keeps_both code.shapes code.sheet at (here k) (note k)) ∙ and_from _ _ (and_from _ _ (and_from _ _ (room_here scope (kinds_of scope) at note long) nest) land) passes.0,
          (λ k. runs_both code.sheet at (here k) (note k)) ∙ passes.1,
        )

    -- from a unit up to the next one
    one_kept : (at : ℕ) → PassesAt at → Keeps at (suc at)
    one_kept at passes k low high = let same : at ≡ k = omega (arith, low, high) in subst PassesAt same passes

    -- a prefix keeps the rules where the next unit has the same note
    prefix_keeps : (at arg : ℕ) (u : CodeUnit) → slice_get units at ≡ Some u → u.op ≡ ExtendedArg → suc at < length units → slice_get code.sheet.notes (suc at) ≡ Some (note_of scope)
        → Passes at ExtendedArg arg
    prefix_keeps at arg u here prefixed low note =
        let more : prefixes units (suc at) ≡ prefixes units at + 1 = rw (here, prefixed) refl in
        let less : prefixes units at < 3 = omega (arith, more, code.spelled (suc at) (omega (arith, low))) in
        let long : length (kinds_of scope) ≡ scope.depth = length-kinds_of scope in
        let next : goes_on code.sheet (suc at) (kinds_of scope) scope.blocks ≡ true =
        and_from _ _ (room_here scope (kinds_of scope) (suc at) note long) (fits_here scope (kinds_of scope) scope.blocks (suc at) note long safe.same) in
        (and_from _ _ (lt-ltb _ _ less) (subst (λ (to : ℕ). goes_on code.sheet to (kinds_of scope) scope.blocks ≡ true) (sym (add-one at)) next), refl)

    -- what an instruction asks of what lies in front of it
    abbrev pub Asks : Instruction → ℕ → ℕ → Type 0
    Asks op arg next = (k : ℕ) → k + 1 ≡ next → Passes k op arg

    -- an instruction keeps the rules with its prefixes
    decoded_kept : (left : List CodeUnit) (at state arg next : ℕ) (op : Instruction) → drop at units ≡ left → carried units at ≡ state
        → decoded_from state at left ≡ decoded_as op arg next → Holds code.sheet.notes (note_of scope) at next → Asks op arg next → Keeps at next
    decoded_kept [] at state arg next op here built d noted asks = absurd (cc)
    decoded_kept (u ∷ us) at state arg next op here built d noted asks =
        by (is_prefix u.op) refl d (λ built_more more. decoded_kept us (suc at) (with_byte state u.arg) arg next op first.1 built_more more (λ k low high. noted k (omega (arith, low)) high) asks)
      where
        first : (slice_get units at ≡ Some u) × (drop (suc at) units ≡ us)
        first = slice_get-drop units at u us here

        built_here : operand units at u ≡ with_byte state u.arg
        built_here = ap (λ (n : ℕ). with_byte n u.arg) built

        carried_on : carried units (suc at) ≡ cond (is_prefix u.op) (with_byte state u.arg) 0
        carried_on = λ k. carried_by (first.0 k) (built k)

        by : (b : Bool) → is_prefix u.op ≡ b
            → cond b (decoded_from (with_byte state u.arg) (at + 1) us) (decoded_as u.op (with_byte state u.arg) (at + 1)) ≡ decoded_as op arg next
            → (carried units (suc at) ≡ with_byte state u.arg → decoded_from (with_byte state u.arg) (suc at) us ≡ decoded_as op arg next → Keeps (suc at) next)
            → Keeps at next
        by true prefixed d later =
            let place : at + 1 ≡ suc at = add-one at in
            let more : decoded_from (with_byte state u.arg) (suc at) us ≡ decoded_as op arg next = rw place at d in
            let end = decoded_ends units us (suc at) (with_byte state u.arg) arg next op first.1 more in
            let below : suc at < next = end.below in
            let kept = later (carried_on ∙ ap (λ (c : Bool). cond c (with_byte state u.arg) 0) prefixed) more in
            let is_op : u.op ≡ ExtendedArg = prefix_is u.op prefixed in
            let passes : Passes at u.op (operand units at u) =
            subst (λ (o : Instruction). Passes at o (operand units at u)) (sym is_op)
            (prefix_keeps at (operand units at u) u first.0 is_op (omega (arith, below, end.within)) (noted (suc at) (omega arith) below)) in
            keeps_then at (suc at) next (one_kept at (kept_at at u first.0 (noted at (omega arith) (omega (arith, below))) passes)) kept
        by false plain d later =
            let (is_op, is_arg, is_next) = decoded_is _ _ d in
            let behind : suc at ≡ next = sym (add-one at) ∙ is_next in
            let asked = asks at is_next in
            let passes : Passes at u.op (operand units at u) = (
              (λ k. keeps_op code.shapes code.sheet at (is_op k) ((built_here ∙ is_arg) k) (kinds_of scope) scope.blocks) ∙ asked.0,
              (λ k. runs code.sheet (is_op k) ((built_here ∙ is_arg) k)) ∙ asked.1,
            ) in
            subst (Keeps at) behind (one_kept at (kept_at at u first.0 (noted at (omega arith) (omega (arith, behind))) passes))

  -- ---- what stands at a place

  -- no prefix stands behind an instruction
  pub stands_free : (scope : Scope) (line at arg next : ℕ) (op : Instruction) → Stands (parts_of code) scope line at op arg next → Free next
  stands_free scope line at arg next op stands = (decoded_ends units (drop at units) at 0 arg next op refl stands.decoded).plain

  -- control may come to it
  pub stands_in : (scope : Scope) (line at arg next : ℕ) (op : Instruction) → Stands (parts_of code) scope line at op arg next → Free at → In scope at
  stands_in scope line at arg next op stands free =
      let end = decoded_ends units (drop at units) at 0 arg next op refl stands.decoded in
      record { low = omega (arith, end.below, end.within); plain = free; note = stands.noted at (omega arith) end.below }

  -- it keeps the rules with its prefixes, if it does itself
  pub stands_kept : (scope : Scope) (line at arg next : ℕ) (op : Instruction) → Stands (parts_of code) scope line at op arg next → Free at → (safe : Safe scope)
      → Asks scope safe op arg next → Keeps at next
  stands_kept scope line at arg next op stands free safe asks =
      decoded_kept scope safe (drop at units) at 0 arg next op refl (carried_plain units at free) stands.decoded stands.noted asks
