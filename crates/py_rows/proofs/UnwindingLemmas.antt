-- Frames that leave their blocks fit where they land.
use Rattle.std.proofs.Common.{◌≡◌, ◌∙◌, ◌≤◌, ◌-◌, length-drop, ℕ, List, [], ◌∷◌, Option, None, Some, true, false, refl, sym, subst, length, arith}
use Rattle.std.specs.Prelude.{slice_get}
use Rattle.std.proofs.lemmas.Bool.{and_parts}
use Rattle.py_objects.specs.declared.refs.PyBaseExceptionRef.{PyBaseExceptionRef}
use Rattle.py_objects.specs.declared.payload.Payload.{Payload}
use Rattle.py_objects.specs.Objects.{Obj, as_object}
use Rattle.py_check.specs.declared.note.Kind.{Kind}
use Rattle.py_check.specs.declared.note.Kind.TheVariants as kind
use Rattle.py_check.specs.declared.note.Note.{Note}
use Rattle.py_check.specs.declared.note.Note.TheVariants.{Dead, Live}
use Rattle.py_check.specs.declared.note.BlockNote.{BlockNote}
use Rattle.py_check.specs.declared.note.BlockNote.TheVariants as note
use Rattle.py_check.specs.declared.annotated.Annotated.{Annotated}
use Rattle.py_check.specs.Notes.{level_of, kinds_fit, blocks_fit, block_fits, note_fits}
use Rattle.py_check.specs.Operands.{is_label}
use Rattle.py_check.specs.Sheet.{sheet_of}
use Rattle.py_check.specs.Landing.{lands, handler_lands, handlers_land}
use Rattle.py_code.specs.Bottom.{bottom}
use Rattle.py_check.specs.Leaving.{lets_wait, walks}
use Rattle.py_rows.specs.declared.block.Block.{Block}
use Rattle.py_rows.specs.declared.block.BlockType.{BlockType}
use Rattle.py_rows.specs.declared.block.BlockType.TheVariants.{Loop, TryExcept, Finally, FinallyHandler, ExceptHandler}
use Rattle.py_rows.specs.declared.block.UnwindReason.{UnwindReason}
use Rattle.py_rows.specs.declared.block.UnwindReason.TheVariants as reason
use Rattle.py_rows.specs.declared.expect.Expect.TheVariants as expect
use Rattle.py_rows.specs.States.{State, Step, jumps}
use Rattle.py_rows.specs.Handled.{entered_by}
use Rattle.py_rows.specs.Unwinding.{left, left_handler, meets, unwind, unwinds}
use Rattle.py_rows.specs.Fitting.{HaveKinds, Admits, IsBlock, AreBlocks, Has}
use Rattle.py_rows.proofs.KindLemmas.{kinds_fitted, kinds_counted, kinds_under}
use Rattle.py_check.proofs.NoteLemmas.{Common, common}
use Rattle.py_rows.proofs.BlockLemmas.{blocks_fitted}
use Rattle.py_rows.proofs.LandingLemmas.{StepFits, Arrives, jumped, may_jumped}

-- a reason that blocks may be left for
abbrev pub MayLeave : List Payload → Annotated → UnwindReason → List Kind → List BlockNote → Type 0
MayLeave objects code r ks bs = Admits objects (λ p. walks (sheet_of code) p ks bs) r

-- a finally is entered for a reason that its handler lets wait
enters : (objects : List Payload) (stack : List Obj) (m l : ℕ) (r : UnwindReason) (kept : Option PyBaseExceptionRef) (outer : List Block) (ks : List Kind) (bs : List BlockNote) (n : Option Note) → m ≡ l
    → note_fits ks (note.FinallyHandler l [] ∷ bs) n ≡ true → Admits objects (lets_wait n) r → HaveKinds objects stack ks → AreBlocks objects outer bs
    → Arrives objects stack (record { typ = FinallyHandler (Some r) kept; level = m } ∷ outer) n
enters objects stack m l r kept outer ks bs None level fits lets holds are = cc
enters objects stack m l r kept outer ks bs (Some Dead) level fits lets holds are = cc
enters objects stack m l r kept outer ks bs (Some (Live ls [])) level fits lets holds are = let parts = and_parts (kinds_fit ks ls) false fits in cc
enters objects stack m l r kept outer ks bs (Some (Live ls (c ∷ cs))) level fits lets holds are =
    let parts = and_parts (kinds_fit ks ls) (blocks_fit (note.FinallyHandler l [] ∷ bs) (c ∷ cs)) fits in
    let inner = and_parts (block_fits (note.FinallyHandler l []) c) (blocks_fit bs cs) parts.1 in
    let same : Common (note.FinallyHandler l []) c = common (note.FinallyHandler l []) c inner.0 in
    let block : IsBlock objects (record { typ = FinallyHandler (Some r) kept; level = m }) c = record { number = same.number; level = level ∙ same.level; handler = same.handler; waits = lets } in
    record { kinds = ls; block_notes = c ∷ cs; is = refl; holds = kinds_fitted objects stack ks ls holds parts.0; are = (block, blocks_fitted objects outer bs cs are inner.1) }

module _ (objects : List Payload) (code : Annotated) where
  -- what is known of the blocks outside of one
  abbrev Onward : UnwindReason → List BlockNote → List Block → (State → Step) → Type 0
  Onward r bs outer on =
      (ks : List Kind) (s : State) → s.blocks ≡ outer → s.wants ≡ expect.Go → length ks ≤ code.code.code.max_stackdepth → handlers_land (sheet_of code) ks bs ≡ true → MayLeave objects code r ks bs → HaveKinds objects s.stack ks
      → length s.locals ≡ length code.code.code.varnames.items → StepFits objects code (on s)

  module _ (ks : List Kind) (bs : List BlockNote) (outer : List Block) (m : ℕ) (s : State) (goes : s.wants ≡ expect.Go) (room : length ks ≤ code.code.code.max_stackdepth) (holds : HaveKinds objects s.stack ks) (are : AreBlocks objects outer bs) (locals : length s.locals ≡ length code.code.code.varnames.items) where
    abbrev Meets : UnwindReason → BlockType → BlockNote → Type 0
    Meets r typ c =
        s.blocks ≡ record { typ = typ; level = m } ∷ outer → IsBlock objects (record { typ = typ; level = m }) c → handler_lands (sheet_of code) c (bottom (level_of c) ks) bs ≡ true
        → handlers_land (sheet_of code) (bottom (level_of c) ks) bs ≡ true → MayLeave objects code r ks (c ∷ bs) → (on : State → Step) → Onward r bs outer on → StepFits objects code (meets r typ m outer s on)

    under : (l : ℕ) → length (bottom l ks) ≤ code.code.code.max_stackdepth
    under l = omega (arith, room, length-drop (length ks - l) ks)

    loop_met : (r : UnwindReason) (l : ℕ) → Meets r Loop (note.Loop l)
    loop_met (reason.Raising e) l q is h hs may on out = out (bottom l ks) (left m outer s) refl goes (under l) hs may (kinds_under objects l m s.stack ks is.level holds) locals
    loop_met (reason.Returning v) l q is h hs may on out = out (bottom l ks) (left m outer s) refl goes (under l) hs may (kinds_under objects l m s.stack ks is.level holds) locals
    loop_met (reason.Break to) l q is h hs may on out = may_jumped objects code to (bottom l ks) bs (left m outer s) goes may (kinds_under objects l m s.stack ks is.level holds) are locals
    loop_met (reason.Continue to) l q is h hs may on out =
        let inside : AreBlocks objects (record { typ = Loop; level = m } ∷ outer) (note.Loop l ∷ bs) = (is, are) in
        may_jumped objects code to ks (note.Loop l ∷ bs) s goes may holds (subst (λ (ds : List Block). AreBlocks objects ds (note.Loop l ∷ bs)) (sym q) inside) locals

    except_met : (r : UnwindReason) (handler l h : ℕ) → Meets r (TryExcept handler) (note.TryExcept l h)
    except_met (reason.Raising e) handler l h q is there hs may on out =
        let block : IsBlock objects (record { typ = ExceptHandler e s.slot; level = m }) (note.ExceptHandler l) = record { number = refl; level = is.level; handler = refl; waits = may } in
        subst (λ (to : ℕ). StepFits objects code (jumps to (record s { stack = as_object e ∷ bottom m s.stack; blocks = record { typ = ExceptHandler e s.slot; level = m } ∷ outer; slot = Some e }))) (sym is.handler)
        (may_jumped objects code h (kind.Exc ∷ bottom l ks) (note.ExceptHandler l ∷ bs) (record s { stack = as_object e ∷ bottom m s.stack; blocks = record { typ = ExceptHandler e s.slot; level = m } ∷ outer; slot = Some e }) goes there
        (may, kinds_under objects l m s.stack ks is.level holds) (block, are) locals)
    except_met (reason.Returning v) handler l h q is there hs may on out = out (bottom l ks) (left m outer s) refl goes (under l) hs may (kinds_under objects l m s.stack ks is.level holds) locals
    except_met (reason.Break to) handler l h q is there hs may on out = out (bottom l ks) (left m outer s) refl goes (under l) hs may (kinds_under objects l m s.stack ks is.level holds) locals
    except_met (reason.Continue to) handler l h q is there hs may on out = out (bottom l ks) (left m outer s) refl goes (under l) hs may (kinds_under objects l m s.stack ks is.level holds) locals

    finally_met : (r : UnwindReason) (handler l h : ℕ) → Meets r (Finally handler) (note.Finally l h)
    finally_met r handler l h q is there hs may on out =
        let t : State = record s { stack = bottom m s.stack; blocks = record { typ = FinallyHandler (Some r) s.slot; level = m } ∷ outer; slot = entered_by r s.slot } in
        let parts = and_parts (is_label code.code.code.instructions.items h) (lands (sheet_of code) h (bottom l ks) (note.FinallyHandler l [] ∷ bs)) there in
        subst (λ (to : ℕ). StepFits objects code (jumps to t)) (sym is.handler)
        (jumped objects code h t goes parts.0
        (enters objects t.stack m l r s.slot outer (bottom l ks) bs (slice_get code.notes h) is.level parts.1 may (kinds_under objects l m s.stack ks is.level holds) are) locals)

    pub met : (r : UnwindReason) (typ : BlockType) (c : BlockNote) → Meets r typ c
    met r Loop (note.Loop l) q is h hs may on out = loop_met r l q is h hs may on out
    met r (TryExcept handler) (note.TryExcept l h) q is there hs may on out = except_met r handler l h q is there hs may on out
    met r (Finally handler) (note.Finally l h) q is there hs may on out = finally_met r handler l h q is there hs may on out
    met r (FinallyHandler old kept) (note.FinallyHandler l ps) q is h hs may on out =
        out (bottom l ks) (left_handler m kept outer s) refl goes (under l) hs may (kinds_under objects l m s.stack ks is.level holds) locals
    met r (ExceptHandler e kept) (note.ExceptHandler l) q is h hs may on out =
        out (bottom l ks) (left_handler m kept outer s) refl goes (under l) hs may (kinds_under objects l m s.stack ks is.level holds) locals
    met r typ c q is h hs may on out = let differ = is.number in cc

  -- leaving blocks for a reason
  pub unwound : (r : UnwindReason) (bs : List BlockNote) (ds : List Block) (ks : List Kind) (s : State) → s.blocks ≡ ds → s.wants ≡ expect.Go → length ks ≤ code.code.code.max_stackdepth → handlers_land (sheet_of code) ks bs ≡ true → MayLeave objects code r ks bs
      → HaveKinds objects s.stack ks → AreBlocks objects ds bs → length s.locals ≡ length code.code.code.varnames.items → StepFits objects code (unwind r ds s)
  unwound (reason.Raising e) [] [] ks s q goes room hs may holds are locals = (may, (q, omega (arith, kinds_counted objects s.stack ks holds, room)))
  unwound (reason.Returning v) [] [] ks s q goes room hs may holds are locals = (tt, (q, omega (arith, kinds_counted objects s.stack ks holds, room)))
  unwound (reason.Break to) [] [] ks s q goes room hs may holds are locals = cc
  unwound (reason.Continue to) [] [] ks s q goes room hs may holds are locals = cc
  unwound r [] (d ∷ ds) ks s q goes room hs may holds are locals = absurd are
  unwound r (c ∷ bs) [] ks s q goes room hs may holds are locals = absurd are
  unwound r (c ∷ bs) (d ∷ ds) ks s q goes room hs may holds are locals =
      let parts = and_parts (handler_lands (sheet_of code) c (bottom (level_of c) ks) bs) (handlers_land (sheet_of code) (bottom (level_of c) ks) bs) hs in
      met ks bs ds d.level s goes room holds are.1 locals r d.typ c q are.0 parts.0 parts.1 may (λ t. unwind r ds t)
      (λ ks' s' q' goes' room' hs' may' holds' locals'. unwound r bs ds ks' s' q' goes' room' hs' may' holds' are.1 locals')

  pub leaves : (r : UnwindReason) (ks : List Kind) (bs : List BlockNote) (s : State) → s.wants ≡ expect.Go → length ks ≤ code.code.code.max_stackdepth → MayLeave objects code r ks bs → handlers_land (sheet_of code) ks bs ≡ true → HaveKinds objects s.stack ks → AreBlocks objects s.blocks bs
      → length s.locals ≡ length code.code.code.varnames.items → StepFits objects code (unwinds r s)
  unfolding unwinds
  leaves r ks bs s goes room may hs holds are locals = unwound r bs s.blocks ks s refl goes room hs may holds are locals

  pub leaves_with : (r : UnwindReason) (ks : List Kind) (bs : List BlockNote) (s : State) → s.wants ≡ expect.Go → MayLeave objects code r ks bs → Has objects code ks bs s → StepFits objects code (unwinds r s)
  leaves_with r ks bs s goes may has = leaves r ks bs s goes has.room may has.handlers has.holds has.blocks has.locals
