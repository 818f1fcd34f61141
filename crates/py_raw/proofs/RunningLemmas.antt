-- Each unit of a raw code runs so far, where it keeps the rules.
use Rattle.std.proofs.Common.{◌≡◌, ◌≢◌, ◌<◌, ℕ, zero, suc, List, Bool, true, false, ◌&&◌, ◌||◌, Some, None, refl, sym, ap, ◌∙◌, length, drop, map}
use Rattle.std.specs.Prelude.{Option, option_map, slice_get, ◌==◌, All}
use Rattle.std.proofs.lemmas.Bool.{and_parts, ltb-true, false≢true}
use Rattle.std.proofs.lemmas.Option.{slice_get-map, slice_get_within}
use Rattle.std.proofs.lemmas.List.{length-map}
use Rattle.std.proofs.lemmas.List.Elements.{All-weaker}
use Rattle.std.proofs.lemmas.List.Folds.{list_any_none}
use Rattle.py_code.specs.declared.instruction.Instruction.{Instruction}
use Rattle.py_code.specs.declared.instruction.Instruction.TheVariants as op
use Rattle.py_code.specs.declared.literal.Literal.{Literal}
use Rattle.py_code.specs.declared.operator.RaiseKind.TheVariants as raise
use Rattle.py_code.specs.declared.operator.TestOperator.{TestOperator}
use Rattle.py_code.specs.declared.operator.TestOperator.TheVariants as test
use Rattle.py_code.specs.declared.unit.CodeUnit.{CodeUnit}
use Rattle.py_code.specs.declared.flags.TheConstants.CodeFlags.{IS_GENERATOR, IS_COROUTINE}
use Rattle.py_code.specs.Operators.{binary_operators, comparison_operators, test_operators}
use Rattle.py_code.specs.Units.{with_byte}
use Rattle.py_check.specs.declared.note.BlockNote.{BlockNote}
use Rattle.py_check.specs.declared.note.Kind.{Kind}
use Rattle.py_check.specs.Operands.{carried}
use Rattle.py_check.specs.WholeCode.{counts_if}
use Rattle.py_check.specs.Sheet.{Sheet}
use Rattle.py_check.specs.Typing.{IsTyped, keeps_op, keeps_after_note}
use Rattle.py_check.specs.Running.{runs, runs_at, runs_behind, is_tested, loads_constant, asks_operator, asks_comparison, AllRun}
use Rattle.py_rows.specs.Questions.{raise_of}
use Rattle.py_rows.proofs.AskingLemmas.{same_raise, got_there}
use Rattle.py_tree.specs.Tree.{Name}
use Rattle.py_lines.specs.declared.flag.RawFlag.{RawFlag}
use Rattle.py_lines.specs.declared.flag.RawFlag.TheVariants as flag
use Rattle.py_lines.specs.declared.unit.RawNote.{RawNote}
use Rattle.py_lines.specs.declared.unit.RawNote.TheVariants as raw
use Rattle.py_grammar.specs.declared.raw_block.RawBlock.{RawBlock}
use Rattle.py_grammar.specs.declared.raw_block.RawUnit.{RawUnit}
use Rattle.py_grammar.specs.RawRules.{all_run, is_heeded, may_ask, may_compare, may_raise, may_run, may_test}
use Rattle.py_grammar.specs.WellFormed.{IsWellCoded}
use Rattle.py_raw.specs.RawSheet.{AreLiteralsOf, flag_of, flags_of, note_at, note_of, raw_sheet, unit_of}
use Rattle.py_raw.proofs.FlagLemmas.{no_coroutine}
use Rattle.py_raw.proofs.ListLemmas.{drop-slice_get, drop-past}
use Rattle.py_raw.proofs.LiteralLemmas.{literals_loaded}

-- ---- what the grammar asks of the unit at a place

module _ (us : List RawUnit) (run : all_run 0 us ≡ true) where
  abbrev units : List CodeUnit
  units = map unit_of us

  here : (at : ℕ) (u : RawUnit) → slice_get us at ≡ Some u → slice_get units at ≡ Some (unit_of u)
  here at u there = slice_get-map unit_of us at ∙ ap (option_map unit_of) there

  -- what is left at a place runs, with what the prefixes before the place have built
  rest_runs : (at : ℕ) → all_run (carried units at) (drop at us) ≡ true
  rest_runs zero = run
  rest_runs (suc at) = by_unit (rest_runs at) (slice_get us at) refl
    where
      by_unit : all_run (carried units at) (drop at us) ≡ true → (o : Option RawUnit) → slice_get us at ≡ o
          → all_run (carried units (suc at)) (drop (suc at) us) ≡ true
      by_unit left None past = rw (drop-past us at past) refl
      by_unit left (Some u) there = let this = rw (drop-slice_get us at u there) at left in rw (here at u there) (and_parts _ _ this).1

  pub unit_runs : (at : ℕ) (u : RawUnit) → slice_get us at ≡ Some u → may_run u.op (with_byte (carried units at) u.arg) ≡ true
  unit_runs at u there = let this = rw (drop-slice_get us at u there) at (rest_runs at) in (and_parts _ _ this).0

-- a raise has no cause
pub raise_has_none : (o : Instruction) (state arg : ℕ) → o ≡ op.Raise → may_run o (with_byte state arg) ≡ true → raise_of arg ≢ Some raise.RaiseCause
raise_has_none o state arg is may cause =
    let run : may_raise (raise_of (with_byte state arg)) ≡ true = rw is at may in
    let none : may_raise (raise_of (with_byte state arg)) ≡ false = ap may_raise (same_raise state arg ∙ cause) in
    false≢true (sym none ∙ run)

-- ---- what frames run of that, where it keeps the rules

-- an operand that names something there, and may be run
there_and : {A : Type 0} (may runs : Option A → Bool) (xs : List A) (i : ℕ) → ((x : A) → may (Some x) ≡ true → runs (Some x) ≡ true) → i < length xs
    → may (slice_get xs i) ≡ true → runs (slice_get xs i) ≡ true
there_and may runs xs i so low is = let (x, there) = got_there xs i low in ap runs there ∙ so x (sym (ap may there) ∙ is)

tested : (o : TestOperator) → may_test (Some o) ≡ true → is_tested (Some o) ≡ true
tested test.ExceptionMatch may = refl
tested _ may = may

-- what has no coroutine's flag and may yield is a generator
generates : (g c : ℕ) → c ≡ 0 → ((g == 1) || (c == 1)) ≡ true → ((g == 1) && (c == 0)) ≡ true
generates g c none may = rw none (let only : ((g == 1) || (0 == 1)) ≡ true = rw none at may in one (g == 1) only)
  where
    one : (b : Bool) → (b || false) ≡ true → (b && true) ≡ true
    one true is = refl
    one false is = is

module _
    (shapes : List ℕ)
    (sheet : Sheet)
    (loaded : (i : ℕ) → i < length sheet.constants → loads_constant (slice_get sheet.constants i) ≡ true)
    (no_coroutine_flag : counts_if sheet.flags IS_COROUTINE ≡ 0)
  where
    runs_kept : (at i : ℕ) (kinds : List Kind) (blocks : List BlockNote) (o : Instruction) → may_run o i ≡ true
        → keeps_op shapes sheet at o i kinds blocks ≡ true → runs sheet o i ≡ true
    runs_kept at i kinds blocks op.BinaryOperation may kept =
        there_and may_ask asks_operator binary_operators i (λ o is. is) (ltb-true i 13 (and_parts _ _ kept).0) may
    runs_kept at i kinds blocks op.CompareOperation may kept =
        there_and may_compare asks_comparison comparison_operators i (λ o is. is) (ltb-true i 6 (and_parts _ _ kept).0) may
    runs_kept at i kinds blocks op.TestOperation may kept = there_and may_test is_tested test_operators i tested (ltb-true i 5 (and_parts _ _ kept).0) may
    runs_kept at i kinds blocks op.LoadConst may kept = loaded i (ltb-true i (length sheet.constants) (and_parts _ _ kept).0)
    runs_kept at i kinds blocks op.ReturnConst may kept = loaded i (ltb-true i (length sheet.constants) (and_parts _ _ kept).0)
    runs_kept at i kinds blocks op.YieldValue may kept =
        generates (counts_if sheet.flags IS_GENERATOR) (counts_if sheet.flags IS_COROUTINE) no_coroutine_flag (and_parts _ _ kept).0
    runs_kept at i kinds blocks op.Raise may kept = refl
    runs_kept at i kinds blocks o may kept = may

-- words that are heeded have no coroutine's flag
no_coroutine_word : (w : RawFlag) → is_heeded w ≡ true → (counts_if (flag_of w) IS_COROUTINE == 1) ≡ false
no_coroutine_word flag.Gen heeded = refl
no_coroutine_word flag.NewLocals heeded = refl
no_coroutine_word flag.Optimized heeded = refl
no_coroutine_word _ heeded = absurd (false≢true heeded)

none_heeded : (words : List RawFlag) → All (λ w. is_heeded w ≡ true) words → counts_if (flags_of words) IS_COROUTINE ≡ 0
none_heeded words heeded =
    no_coroutine words
    (list_any_none (λ w. counts_if (flag_of w) IS_COROUTINE == 1) words
    (All-weaker (λ w. is_heeded w ≡ true) (λ w. (counts_if (flag_of w) IS_COROUTINE == 1) ≡ false) no_coroutine_word words heeded))

module _
    (shapes : List ℕ)
    (earlier : List Name)
    (b : RawBlock)
    (literals : List Literal)
    (are : AreLiteralsOf earlier b.consts literals)
    (coded : IsWellCoded earlier b)
    (typed : IsTyped shapes (raw_sheet b literals))
  where
    abbrev sheet_here : Sheet
    sheet_here = raw_sheet b literals

    unit_kept : (at : ℕ) (u : RawUnit) → slice_get b.units at ≡ Some u → runs_at sheet_here at ≡ true
    unit_kept at u there =
        let this = here b.units coded.run at u there in
        let note : slice_get (map note_at b.units) at ≡ Some (note_at u) = slice_get-map note_at b.units at ∙ ap (option_map note_at) there in
        let kept = rw (this, note) at (typed.each at (slice_get_within sheet_here.units at (unit_of u) this)) in
        rw (this, note) (by u.note kept)
      where
        by : (n : RawNote) → keeps_after_note shapes sheet_here at (unit_of u) (note_of n) ≡ true → runs_behind sheet_here at (unit_of u) (note_of n) ≡ true
        by raw.Dead kept = refl
        by (raw.Live kinds blocks) kept =
            let may = unit_runs b.units coded.run at u there in
            runs_kept shapes sheet_here (literals_loaded earlier b.consts literals are) (none_heeded b.flags coded.flags) at _ _ _ u.op may (and_parts _ _ kept).1

    pub raw_runs : AllRun sheet_here
    raw_runs at low = let (u, there) = got_there b.units at (simp length-map at low) in unit_kept at u there
