-- Scopes in which statements may stand, inside of blocks too: what a break or a continue finds there.
-- The units that open, close and leave blocks keep the typing rules.
use Rattle.std.proofs.Common.{◌≤◌, ◌≡◌, ◌+◌, ℕ, suc, List, [], ◌∷◌, Bool, true, false, ◌&&◌, ◌||◌, Some, None, refl, sym, ap, ◌∙◌, subst, length, arith}
use Rattle.std.specs.Prelude.{Option, slice_get}
use Rattle.std.specs.List.{list_all}
use Rattle.std.proofs.lemmas.Bool.{and_from, le-leb, lt-ltb, eq-eqb}
use Rattle.py_code.specs.Bottom.{bottom}
use Rattle.py_code.specs.declared.instruction.Instruction.{Instruction}
use Rattle.py_code.specs.declared.instruction.Instruction.TheVariants as op
use Rattle.py_check.specs.declared.note.Kind.{Kind}
use Rattle.py_check.specs.declared.note.Kind.TheVariants.{Any, Exc}
use Rattle.py_check.specs.declared.note.Pending.{Pending}
use Rattle.py_check.specs.declared.note.Pending.TheVariants as pending
use Rattle.py_check.specs.declared.note.BlockNote.{BlockNote}
use Rattle.py_check.specs.declared.note.BlockNote.TheVariants.{Loop, TryExcept, Finally, FinallyHandler, ExceptHandler}
use Rattle.py_check.specs.declared.note.Note.{Note}
use Rattle.py_check.specs.declared.note.Note.TheVariants.{Live}
use Rattle.py_check.specs.Notes.{level_of, pending_of, is_subset, blocks_fit}
use Rattle.py_check.specs.Operands.{is_label}
use Rattle.py_check.specs.Landing.{levels_nest, goes_on, handler_lands, top_level}
use Rattle.py_check.specs.Leaving.{lets_wait, walks}
use Rattle.py_check.specs.Typing.{keeps_op}
use Rattle.py_check.specs.Running.{runs}
use Rattle.py_laid.specs.Code.{Labels, Around, Scope, on, inside, in_loop, in_try, in_clauses, before_finally, leaving, in_finally, Stands, LaidBreak, LaidContinue}
use Rattle.py_laid.proofs.NoteLemmas.{kinds_of, length-kinds_of, length-bottom, top_level-low, block_fits-self, block_fits-none, leaving_fits}
use Rattle.py_laid.proofs.TypingUnits.{Noted, parts_of, Free, In, Safe, safe_on, goes, labels, jumps_to}
use Rattle.py_laid.proofs.TypingLoads.{Typed, unit_typed, takes_one, goes_as}

module _ (code : Noted) where
  -- a jump finds its way, whatever the entries are
  abbrev Finds : Pending → ℕ → List BlockNote → Type 0
  Finds p depth blocks = (kinds : List Kind) → length kinds ≡ depth → walks code.sheet p kinds blocks ≡ true

  -- each jump that a statement may make out of its loop has a label, and finds its way
  abbrev Walks : Around → ℕ → List BlockNote → Type 0
  Walks None depth blocks = Unit {0}
  Walks (Some l) depth blocks = (is_label code.sheet.units l.stop ≡ true) × (is_label code.sheet.units l.again ≡ true)
      × Finds (pending.Break l.stop) depth blocks × Finds (pending.Continue l.again) depth blocks

  -- a scope in which statements may stand
  pub record Fine (scope : Scope) : Type 0 where
    pub safe : Safe code scope
    pub walk : Walks scope.around scope.depth scope.blocks

  -- each jump that may wait finds its way
  all_walk : (around : Around) (depth : ℕ) (kinds : List Kind) (blocks : List BlockNote) → Walks around depth blocks → length kinds ≡ depth
      → list_all (λ p. walks code.sheet p kinds blocks) (leaving around) ≡ true
  all_walk None depth kinds blocks walk long = refl
  all_walk (Some l) depth kinds blocks (label, label_again, stop, again) long = and_from _ _ (stop kinds long) (and_from _ _ (again kinds long) refl)

  -- ---- scopes inside of blocks

  -- inside of a block whose handler control may come to
  safe_inside : (b : BlockNote) (scope : Scope) → Safe code scope → level_of b ≡ scope.depth → ((kinds : List Kind) → length kinds ≡ scope.depth → handler_lands code.sheet b kinds scope.blocks ≡ true)
      → is_subset (pending_of b) (pending_of b) ≡ true → Safe code (inside b scope)
  safe_inside b scope safe level lands waiting = record {
    yields = safe.yields;
    nest = and_from _ _ (le-leb _ _ (omega (arith, level))) (subst (λ (n : ℕ). levels_nest n scope.blocks ≡ true) (sym level) safe.nest);
    land = (λ kinds long. lands kinds (long ∙ level), safe.land);
    same = and_from _ _ (block_fits-self b waiting) safe.same;
  }

  -- a block that each jump passes
  walk_past : (around : Around) (depth : ℕ) (blocks outer : List BlockNote) → ((p : Pending) (kinds : List Kind) → walks code.sheet p kinds blocks ≡ walks code.sheet p (bottom depth kinds) outer)
      → Walks around depth outer → Walks around depth blocks
  walk_past None depth blocks outer past walk = tt
  walk_past (Some l) depth blocks outer past (label, label_again, stop, again) = (
    label,
    label_again,
    λ kinds long. past (pending.Break l.stop) kinds ∙ stop (bottom depth kinds) (length-bottom depth kinds (omega (arith, long))),
    λ kinds long. past (pending.Continue l.again) kinds ∙ again (bottom depth kinds) (length-bottom depth kinds (omega (arith, long))),
  )

  -- a finally that runs
  pub fine_finally : (scope : Scope) → Fine scope → Fine (in_finally scope)
  fine_finally scope fine = record {
    safe = safe_inside (FinallyHandler scope.depth (leaving scope.around)) scope fine.safe refl (λ kinds long. refl) (leaving_fits scope.around);
    walk = walk_past scope.around scope.depth (in_finally scope).blocks scope.blocks (λ p kinds. refl) fine.walk;
  }

  -- clauses, of which one may run
  pub fine_clauses : (scope : Scope) → Fine scope → Fine (in_clauses scope)
  fine_clauses scope fine = record {
    safe = safe_inside (ExceptHandler scope.depth) scope fine.safe refl (λ kinds long. refl) refl;
    walk = walk_past scope.around scope.depth (in_clauses scope).blocks scope.blocks (λ p kinds. refl) fine.walk;
  }

  -- a try, whose clauses are noted at its handler
  pub fine_try : (scope : Scope) (handler : ℕ) → Fine scope → In code (on (in_clauses scope)) handler → Fine (in_try handler scope)
  fine_try scope handler fine there = record {
    safe = safe_inside (TryExcept scope.depth handler) scope fine.safe refl
        (λ kinds long. jumps_to code (on (in_clauses scope)) (Exc ∷ kinds) (in_clauses scope).blocks handler there (ap suc long) (fine_clauses scope fine).safe.same) refl;
    walk = walk_past scope.around scope.depth (in_try handler scope).blocks scope.blocks (λ p kinds. refl) fine.walk;
  }

  -- a jump that leaves the body of a finally waits in it
  walk_waits : (around : Around) (under depth level handler : ℕ) (above : List Kind) (blocks outer : List BlockNote) → Walks around under outer
      → slice_get code.sheet.notes handler ≡ Some (Live above (FinallyHandler level (leaving around) ∷ outer))
      → ((p : Pending) (kinds : List Kind) → walks code.sheet p kinds blocks ≡ lets_wait (slice_get code.sheet.notes handler) p) → Walks around depth blocks
  walk_waits None under depth level handler above blocks outer walk note past = tt
  walk_waits (Some l) under depth level handler above blocks outer (label, label_again, stop, again) note past = (
    label,
    label_again,
    λ kinds long. past (pending.Break l.stop) kinds ∙ ap (λ (o : Option Note). lets_wait o (pending.Break l.stop)) note
        ∙ ap (λ (b : Bool). b || (false || false)) (eq-eqb l.stop l.stop refl),
    λ kinds long. past (pending.Continue l.again) kinds ∙ ap (λ (o : Option Note). lets_wait o (pending.Continue l.again)) note
        ∙ ap (λ (b : Bool). false || (b || false)) (eq-eqb l.again l.again refl),
  )

  -- a finally is entered with nothing that waits
  waits_for_none : (scope : Scope) → Safe code scope → blocks_fit (FinallyHandler scope.depth [] ∷ scope.blocks) (in_finally scope).blocks ≡ true
  waits_for_none scope safe = and_from _ _ (block_fits-none scope.depth scope.around) safe.same

  -- the body of a finally, which is noted at its handler
  pub fine_guarded : (scope : Scope) (handler : ℕ) → Fine scope → In code (in_finally scope) handler → Fine (before_finally handler scope)
  fine_guarded scope handler fine there = record {
    safe = safe_inside (Finally scope.depth handler) scope fine.safe refl
        (λ kinds long. jumps_to code (in_finally scope) kinds (FinallyHandler scope.depth [] ∷ scope.blocks) handler there long (waits_for_none scope fine.safe)) refl;
    walk = walk_waits scope.around scope.depth scope.depth scope.depth handler (kinds_of scope) (before_finally handler scope).blocks scope.blocks fine.walk there.note (λ p kinds. refl);
  }

  -- the exit of a manager that lies on the stack
  pub safe_exit : (scope : Scope) → Safe code scope → Safe code (in_finally (on scope))
  safe_exit scope safe = safe_inside (FinallyHandler (suc scope.depth) (leaving scope.around)) (on scope) (safe_on code scope safe) refl (λ kinds long. refl) (leaving_fits scope.around)

  -- the body of a with, over a manager, which is noted at its exit
  pub fine_managed : (scope : Scope) (handler : ℕ) → Fine scope → In code (in_finally (on scope)) handler → Fine (before_finally handler (on scope))
  fine_managed scope handler fine there = record {
    safe = safe_inside (Finally (suc scope.depth) handler) (on scope) (safe_on code scope fine.safe) refl
        (λ kinds long. jumps_to code (in_finally (on scope)) kinds (FinallyHandler (suc scope.depth) [] ∷ scope.blocks) handler there long (waits_for_none (on scope) (safe_on code scope fine.safe))) refl;
    walk = walk_waits scope.around scope.depth (suc scope.depth) (suc scope.depth) handler (kinds_of (on scope)) (before_finally handler (on scope)).blocks scope.blocks fine.walk there.note (λ p kinds. refl);
  }

  -- a loop, where what stands behind it and its test are noted
  pub fine_loop : (scope : Scope) (l : Labels) → Fine scope → In code scope l.stop → In code (in_loop l scope) l.again → Fine (in_loop l scope)
  fine_loop scope l fine stops again =
      let within : Safe code (inside (Loop scope.depth) scope) = safe_inside (Loop scope.depth) scope fine.safe refl (λ kinds long. refl) refl in
      record {
        safe = record { yields = within.yields; nest = within.nest; land = within.land; same = within.same };
        walk = (
          labels code scope l.stop stops,
          labels code (in_loop l scope) l.again again,
          λ kinds long. jumps_to code scope (bottom scope.depth kinds) scope.blocks l.stop stops (length-bottom scope.depth kinds (omega (arith, long))) fine.safe.same,
          λ kinds long. jumps_to code (in_loop l scope) kinds (in_loop l scope).blocks l.again again long within.same,
        );
      }

  -- ---- blocks are opened

  pub loop_opens : (scope : Scope) (l : Labels) (line at next : ℕ) → Stands (parts_of code) scope line at op.SetupLoop 0 next → Free code at
      → Typed code (Safe code scope × Safe code (in_loop l scope)) scope (in_loop l scope) at next
  loop_opens scope l line at next stands free =
      unit_typed code (Safe code scope × Safe code (in_loop l scope)) scope (in_loop l scope) line at 0 next op.SetupLoop stands free (λ holds. holds.0)
      (λ (safe, inner) there k is_next. (
        ap (λ (n : ℕ). goes_on code.sheet (k + 1) (kinds_of scope) (Loop n ∷ scope.blocks)) (length-kinds_of scope)
            ∙ goes_as code (in_loop l scope) inner (kinds_of scope) k next is_next there (length-kinds_of scope),
        refl,
      ))

  -- a block whose handler is a label with the note of the scope in which it runs
  pub block_opens : (scope handling : Scope) (block : ℕ → BlockNote) (line at handler next : ℕ) (i : Instruction)
      → ((k : ℕ) → keeps_op code.shapes code.sheet k i handler (kinds_of scope) scope.blocks ≡ (is_label code.sheet.units handler && goes_on code.sheet (k + 1) (kinds_of scope) (block (length (kinds_of scope)) ∷ scope.blocks)))
      → runs code.sheet i handler ≡ true → Stands (parts_of code) scope line at i handler next → Free code at
      → Typed code (Safe code scope × Safe code (inside (block scope.depth) scope) × In code handling handler) scope (inside (block scope.depth) scope) at next
  block_opens scope handling block line at handler next i asks run stands free =
      unit_typed code (Safe code scope × Safe code (inside (block scope.depth) scope) × In code handling handler) scope (inside (block scope.depth) scope)
      line at handler next i stands free (λ holds. holds.0)
      (λ (safe, inner, enters) there k is_next. (
        asks k ∙ and_from _ _ (labels code handling handler enters)
            (ap (λ (n : ℕ). goes_on code.sheet (k + 1) (kinds_of scope) (block n ∷ scope.blocks)) (length-kinds_of scope)
            ∙ goes_as code (inside (block scope.depth) scope) inner (kinds_of scope) k next is_next there (length-kinds_of scope)),
        run,
      ))

  -- the body of a finally has ended, and it begins
  pub finally_begins : (scope : Scope) (line at next : ℕ) → Stands (parts_of code) scope line at op.EnterFinally 0 next → Free code at → Typed code (Safe code scope) scope (in_finally scope) at next
  finally_begins scope line at next stands free =
      unit_typed code (Safe code scope) scope (in_finally scope) line at 0 next op.EnterFinally stands free (λ safe. safe)
      (λ safe there k is_next. (
        ap (λ (n : ℕ). goes_on code.sheet (k + 1) (kinds_of scope) (FinallyHandler n [] ∷ scope.blocks)) (length-kinds_of scope)
            ∙ goes code (in_finally scope) (kinds_of scope) (FinallyHandler scope.depth [] ∷ scope.blocks) k next is_next there (length-kinds_of scope) (waits_for_none scope safe),
        refl,
      ))

  -- a manager is entered: its exit stays under the block of the body, and the answer lies there
  pub with_opens : (scope : Scope) (line at handler next : ℕ) → Stands (parts_of code) (on scope) line at op.SetupWith handler next → Free code at
      → Typed code (Safe code scope × Safe code (before_finally handler (on scope)) × In code (in_finally (on scope)) handler) (on scope) (on (before_finally handler (on scope))) at next
  with_opens scope line at handler next stands free =
      unit_typed code (Safe code scope × Safe code (before_finally handler (on scope)) × In code (in_finally (on scope)) handler) (on scope) (on (before_finally handler (on scope)))
      line at handler next op.SetupWith stands free (λ holds. safe_on code scope holds.0)
      (λ (safe, inner, enters) there k is_next. (
        and_from _ _ (labels code (in_finally (on scope)) handler enters)
            (takes_one code scope safe (λ rest. goes_on code.sheet (k + 1) (Any ∷ Any ∷ rest) (Finally (suc (length rest)) handler ∷ scope.blocks))
            (ap (λ (n : ℕ). goes_on code.sheet (k + 1) (Any ∷ Any ∷ kinds_of scope) (Finally (suc n) handler ∷ scope.blocks)) (length-kinds_of scope)
            ∙ goes_as code (on (before_finally handler (on scope))) (safe_on code (before_finally handler (on scope)) inner) (Any ∷ Any ∷ kinds_of scope) k next is_next there
            (ap suc (ap suc (length-kinds_of scope))))),
        refl,
      ))

  -- its exit is called
  pub cleanup_starts : (scope : Scope) (line at next : ℕ) → Stands (parts_of code) (in_finally (on scope)) line at op.WithCleanupStart 0 next → Free code at
      → Typed code (Fine scope) (in_finally (on scope)) (on (in_finally (on scope))) at next
  cleanup_starts scope line at next stands free =
      unit_typed code (Fine scope) (in_finally (on scope)) (on (in_finally (on scope))) line at 0 next op.WithCleanupStart stands free (λ fine. safe_exit scope fine.safe)
      (λ fine there k is_next.
      let long : length (kinds_of (in_finally (on scope))) ≡ suc scope.depth = length-kinds_of (in_finally (on scope)) in
      let low : top_level scope.blocks ≤ scope.depth = top_level-low scope.depth scope.blocks fine.safe.nest in (
        and_from _ _ (and_from _ _ (and_from _ _ refl (eq-eqb _ _ long)) (lt-ltb _ _ (omega (arith, low))))
            (goes_as code (on (in_finally (on scope))) (safe_on code (in_finally (on scope)) (safe_exit scope fine.safe)) (Any ∷ kinds_of (in_finally (on scope))) k next is_next there (ap suc long)),
        refl,
      ))

  -- and control goes on, or each jump that waits finds its way
  pub cleanup_ends : (scope : Scope) (line at next : ℕ) → Stands (parts_of code) (on (in_finally (on scope))) line at op.WithCleanupFinish 0 next → Free code at
      → Typed code (Fine scope) (on (in_finally (on scope))) scope at next
  cleanup_ends scope line at next stands free =
      unit_typed code (Fine scope) (on (in_finally (on scope))) scope line at 0 next op.WithCleanupFinish stands free (λ fine. safe_on code (in_finally (on scope)) (safe_exit scope fine.safe))
      (λ fine there k is_next.
      let long : length (kinds_of (on (in_finally (on scope)))) ≡ suc (suc scope.depth) = length-kinds_of (on (in_finally (on scope))) in
      let low : top_level scope.blocks ≤ scope.depth = top_level-low scope.depth scope.blocks fine.safe.nest in (
        and_from _ _ (and_from _ _ (eq-eqb _ _ long) (lt-ltb _ _ (omega (arith, low))))
            (and_from _ _ (and_from _ _ refl (goes_as code scope fine.safe (kinds_of scope) k next is_next there (length-kinds_of scope)))
            (all_walk scope.around scope.depth (kinds_of scope) scope.blocks fine.walk (length-kinds_of scope))),
        refl,
      ))

  -- ---- blocks are closed

  -- as much lies under a block as lay there when it was opened
  length-under : (scope : Scope) → length (bottom scope.depth (kinds_of scope)) ≡ scope.depth
  length-under scope = length-bottom scope.depth (kinds_of scope) (omega (arith, length-kinds_of scope))

  -- control goes on with that
  left_on : (scope : Scope) → Safe code scope → (k next : ℕ) → k + 1 ≡ next → In code scope next → goes_on code.sheet (k + 1) (bottom scope.depth (kinds_of scope)) scope.blocks ≡ true
  left_on scope safe k next is_next there = goes_as code scope safe (bottom scope.depth (kinds_of scope)) k next is_next there (length-under scope)

  -- an instruction that goes on so behind a block
  pub block_closes : (scope inner : Scope) (line at next : ℕ) (i : Instruction)
      → ((k : ℕ) → keeps_op code.shapes code.sheet k i 0 (kinds_of inner) inner.blocks ≡ goes_on code.sheet (k + 1) (bottom scope.depth (kinds_of scope)) scope.blocks)
      → runs code.sheet i 0 ≡ true → Stands (parts_of code) inner line at i 0 next → Free code at → Typed code (Safe code scope × Safe code inner) inner scope at next
  block_closes scope inner line at next i asks run stands free =
      unit_typed code (Safe code scope × Safe code inner) inner scope line at 0 next i stands free (λ holds. holds.1) (λ holds there k is_next. (asks k ∙ left_on scope holds.0 k next is_next there, run))

  -- a finally ends: control goes on, or each jump that waits finds its way
  pub finally_ends : (scope : Scope) (line at next : ℕ) → Stands (parts_of code) (in_finally scope) line at op.EndFinally 0 next → Free code at
      → Typed code (Fine scope) (in_finally scope) scope at next
  finally_ends scope line at next stands free =
      unit_typed code (Fine scope) (in_finally scope) scope line at 0 next op.EndFinally stands free (λ fine. (fine_finally scope fine).safe)
      (λ fine there k is_next. (
        and_from _ _ (and_from _ _ refl (left_on scope fine.safe k next is_next there)) (all_walk scope.around scope.depth (bottom scope.depth (kinds_of scope)) scope.blocks fine.walk (length-under scope)),
        refl,
      ))

  -- ---- a loop is left, or goes on

  pub break_typed : (around : Around) (scope : Scope) → around ≡ scope.around → (line at next : ℕ) → LaidBreak (parts_of code) scope around line at next → Free code at
      → Typed code (Fine scope) scope scope at next
  break_typed None scope same line at next laid free = absurd laid
  break_typed (Some l) scope same line at next stands free =
      unit_typed code (Fine scope) scope scope line at l.stop next op.Break stands free (λ fine. fine.safe)
      (λ fine there k is_next.
      let walk : Walks (Some l) scope.depth scope.blocks = subst (λ (a : Around). Walks a scope.depth scope.blocks) (sym same) fine.walk in
      (and_from _ _ walk.0 (walk.2 (kinds_of scope) (length-kinds_of scope)), refl))

  pub continue_typed : (around : Around) (scope : Scope) → around ≡ scope.around → (line at next : ℕ) → LaidContinue (parts_of code) scope around line at next → Free code at
      → Typed code (Fine scope) scope scope at next
  continue_typed None scope same line at next laid free = absurd laid
  continue_typed (Some l) scope same line at next stands free =
      unit_typed code (Fine scope) scope scope line at l.again next op.Continue stands free (λ fine. fine.safe)
      (λ fine there k is_next.
      let walk : Walks (Some l) scope.depth scope.blocks = subst (λ (a : Around). Walks a scope.depth scope.blocks) (sym same) fine.walk in
      (and_from _ _ walk.1 (walk.3 (kinds_of scope) (length-kinds_of scope)), refl))
