-- The code of a raw code in a machine: its signature, and that the machine takes it.
use Rattle.std.proofs.Common.{◌≡◌, ◌≢◌, ◌∙◌, ℕ, suc, List, [], ◌∷◌, Bool, true, false, cond, Some, length, refl, sym, ap, subst, arith, take}
use Rattle.std.specs.Prelude.{◌==◌, Option, None, All, slice_get, Result, Ok, Err, IfErr, IfOk, OnOk}
use Rattle.std.specs.List.{list_any, list_all}
use Rattle.py_code.specs.declared.flags.CodeFlags.{CodeFlags}
use Rattle.py_code.specs.declared.flags.TheConstants.CodeFlags.{IS_GENERATOR, IS_COROUTINE, HAS_VARARGS, HAS_VARKEYWORDS}
use Rattle.py_code.specs.declared.instruction.Instruction.{Instruction}
use Rattle.py_code.specs.declared.instruction.Instruction.TheVariants.{Raise}
use Rattle.py_code.specs.declared.operator.RaiseKind.{RaiseKind}
use Rattle.py_code.specs.declared.operator.RaiseKind.TheVariants as raise
use Rattle.py_code.specs.declared.unit.CodeUnit.{CodeUnit}
use Rattle.py_check.specs.declared.annotated.Annotated.{Annotated}
use Rattle.py_check.specs.declared.fault.CheckFault.{CheckFault}
use Rattle.py_check.specs.declared.fault.CheckFault.TheVariants as check
use Rattle.py_check.specs.Breaking.{BreaksFirst}
use Rattle.py_check.specs.Sheet.{Sheet, sheet_of}
use Rattle.py_check.specs.Typing.{IsTyped}
use Rattle.py_check.specs.WholeCode.{counts_if}
use Rattle.py_objects.specs.declared.payload.CoroKind.{CoroKind}
use Rattle.py_objects.specs.Objects.{Name}
use Rattle.py_rows.specs.Questions.{raise_of}
use Rattle.py_rows.specs.Signature.{kind_by, kind_of, params_of}
use Rattle.py_tree.specs.declared.body.BodyKind.TheVariants as kind
use Rattle.py_tree.specs.Tree.{seen_as}
use Rattle.py_lines.specs.declared.flag.RawFlag.{RawFlag}
use Rattle.py_lines.specs.declared.flag.RawFlag.TheVariants as flag
use Rattle.py_grammar.specs.declared.raw_block.RawBlock.{RawBlock}
use Rattle.py_grammar.specs.declared.raw_block.RawCounts.{RawCounts}
use Rattle.py_grammar.specs.Grammar.{OfRaw}
use Rattle.py_grammar.specs.RawRules.{is_heeded}
use Rattle.py_grammar.specs.WellFormed.{IsWellCoded}
use Rattle.py_raw.specs.declared.earlier.Earlier.{Earlier}
use Rattle.py_raw.specs.RawSheet.{counts_by, flags_of, locals_of}
use Rattle.py_raw.specs.Assembled.{IsAssembled}
use Rattle.py_raw.proofs.AssembledLemmas.{assembled_cells, assembled_frees, assembled_named, assembled_named_only, assembled_params, assembled_raises, assembled_runs}
use Rattle.py_raw.proofs.RuleLemmas.{breaks_assembled}
use Rattle.py_raw.proofs.FlagLemmas.{any_coroutine, any_generator, have_flag, no_varargs, no_varkeywords}
use Rattle.py_run.specs.Run.{Signature}
use Rattle.py_vm.specs.Codes.{CodeIsAnswered, IsDriven, TakesPositional, signature_in, takes_none}
use Rattle.py_vm.proofs.CodesLemmas.{code_answered}
use Rattle.py_meaning.specs.Whole.{arity, is_gen, raw_kind, raw_params, signature_of}
use Rattle.py_script.specs.Broken.{IsCodeFault}
use Rattle.py_script.specs.Loaded.{IsReadyCode}

-- ---- flags

-- no word is one that frames don't heed
none_of : (f : CodeFlags) → ((w : RawFlag) → is_heeded w ≡ true → have_flag f (w ∷ []) ≡ false) → (words : List RawFlag) → All (λ w. is_heeded w ≡ true) words → have_flag f words ≡ false
none_of f not [] heeded = refl
none_of f not (w ∷ words) heeded =
    let first = not w (heeded 0 w (omega arith)) in
    let others = none_of f not words (λ i v low. heeded (suc i) v (omega (arith, low))) in
    cc

no_coroutine : (w : RawFlag) → is_heeded w ≡ true → have_flag IS_COROUTINE (w ∷ []) ≡ false
no_coroutine flag.Gen heeded = refl
no_coroutine flag.Coro heeded = absurd (cc heeded)
no_coroutine flag.VarArgs heeded = absurd (cc heeded)
no_coroutine flag.VarKw heeded = absurd (cc heeded)
no_coroutine flag.NewLocals heeded = refl
no_coroutine flag.Optimized heeded = refl

no_further : (w : RawFlag) → is_heeded w ≡ true → have_flag HAS_VARARGS (w ∷ []) ≡ false
no_further flag.Gen heeded = refl
no_further flag.Coro heeded = absurd (cc heeded)
no_further flag.VarArgs heeded = absurd (cc heeded)
no_further flag.VarKw heeded = absurd (cc heeded)
no_further flag.NewLocals heeded = refl
no_further flag.Optimized heeded = refl

no_keywords : (w : RawFlag) → is_heeded w ≡ true → have_flag HAS_VARKEYWORDS (w ∷ []) ≡ false
no_keywords flag.Gen heeded = refl
no_keywords flag.Coro heeded = absurd (cc heeded)
no_keywords flag.VarArgs heeded = absurd (cc heeded)
no_keywords flag.VarKw heeded = absurd (cc heeded)
no_keywords flag.NewLocals heeded = refl
no_keywords flag.Optimized heeded = refl

-- the word of generators stands for their flag
gen_words : (words : List RawFlag) → have_flag IS_GENERATOR words ≡ list_any is_gen words
gen_words [] = refl
gen_words (flag.Gen ∷ words) = refl
gen_words (flag.Coro ∷ words) = gen_words words
gen_words (flag.VarArgs ∷ words) = gen_words words
gen_words (flag.VarKw ∷ words) = gen_words words
gen_words (flag.NewLocals ∷ words) = gen_words words
gen_words (flag.Optimized ∷ words) = gen_words words

-- ---- raises

-- whether an instruction is no raise with a cause
abbrev has_no_cause : Instruction → Option RaiseKind → Bool
has_no_cause Raise (Some raise.RaiseCause) = false
has_no_cause Raise k = true
has_no_cause _ k = true

plain : (k : Option RaiseKind) → has_no_cause Raise k ≡ true → k ≢ Some raise.RaiseCause
plain k used cause = absurd (cc (sym (ap (has_no_cause Raise) cause) ∙ used))

-- it isn't where each raise has none
without : (op : Instruction) (k : Option RaiseKind) → (op ≡ Raise → k ≢ Some raise.RaiseCause) → has_no_cause op k ≡ true
without Raise None none = refl
without Raise (Some raise.Reraise) none = refl
without Raise (Some raise.Raise) none = refl
without Raise (Some raise.RaiseCause) none = absurd (none refl refl)
without _ k none = refl

-- ---- a raw code whose code this is

module _
    (table : List (List ℕ))
    (earlier : Earlier)
    (a : Annotated)
    (b : RawBlock)
    (is : IsAssembled table earlier.names a b)
    (coded : IsWellCoded earlier.names b)
  where
    flags : a.code.code.flags ≡ flags_of b.flags
    flags = ap (λ (s : Sheet). s.flags) is.sheet

    seen : kind_of a.code.code.flags ≡ seen_as (raw_kind b)
    seen =
        let gen : (counts_if (flags_of b.flags) IS_GENERATOR == 1) ≡ list_any is_gen b.flags = any_generator b.flags ∙ gen_words b.flags in
        let coro : (counts_if (flags_of b.flags) IS_COROUTINE == 1) ≡ false = any_coroutine b.flags ∙ none_of IS_COROUTINE no_coroutine b.flags coded.flags in
        ap kind_of flags ∙ (ap (λ (g : Bool). kind_by g (counts_if (flags_of b.flags) IS_COROUTINE == 1)) gen ∙ (ap (kind_by (list_any is_gen b.flags)) coro ∙ by (list_any is_gen b.flags)))
      where
        by : (g : Bool) → kind_by g false ≡ seen_as (cond g kind.Generator kind.Function)
        by true = refl
        by false = refl

    -- it takes as many arguments as its counts say
    params : params_of table a.code ≡ raw_params b
    params = assembled_params table earlier.names a b is ∙ ap (λ (n : ℕ). take n (locals_of b)) (same b.counts)
      where
        same : (counts : Option RawCounts) → (counts_by (length b.params) counts).args ≡ arity b counts
        same None = refl
        same (Some counts) = refl

    signed : signature_of (OfRaw b) ≡ signature_in table a
    signed =
        ap (λ (xs : List Name). let s : Signature = record { params = xs; kind = seen_as (raw_kind b) } in s) (sym params)
        ∙ ap (λ (o : Option CoroKind). let s : Signature = record { params = params_of table a.code; kind = o } in s) (sym seen)

    positional : TakesPositional a.code.code
    positional = record {
      varargs = ap (λ (f : CodeFlags). counts_if f HAS_VARARGS) flags ∙ no_varargs b.flags (none_of HAS_VARARGS no_further b.flags coded.flags);
      varkeywords = ap (λ (f : CodeFlags). counts_if f HAS_VARKEYWORDS) flags ∙ no_varkeywords b.flags (none_of HAS_VARKEYWORDS no_keywords b.flags coded.flags);
      keyword_only = assembled_named_only table earlier.names a b is coded;
      cells = ap (list_all takes_none) (assembled_cells table earlier.names a b is);
    }

    driven : IsDriven (kind_of a.code.code.flags)
    driven = subst IsDriven (sym seen) (by (list_any is_gen b.flags))
      where
        by : (g : Bool) → IsDriven (seen_as (cond g kind.Generator kind.Function))
        by true = tt
        by false = tt

    -- the machine answers all that its units ask
    answered : CodeIsAnswered a.code
    answered = code_answered (λ op arg. has_no_cause op (raise_of arg)) (record { no_cause = λ arg used. plain (raise_of arg) used }) a.code uses positional driven
      where
        uses : (at : ℕ) (u : CodeUnit) → slice_get a.code.code.instructions.items at ≡ Some u → has_no_cause u.op (raise_of u.arg) ≡ true
        uses at u there = without u.op (raise_of u.arg) (assembled_raises table earlier.names a b is coded at u there)

    -- it is ready where it keeps the rules
    pub raw_ready : IsTyped earlier.shapes (sheet_of a) → IsReadyCode table earlier a (OfRaw b)
    raw_ready typed = record {
      is = (is, typed);
      signed = signed;
      free = assembled_frees table earlier.names a b is;
      loadable = record {
        typed = typed;
        runs = assembled_runs table earlier.shapes earlier.names a b is coded typed;
        named = assembled_named table earlier.names a b is;
        answered = answered;
      };
    }

    -- so the code that is checked is
    pub made_ready : (r : Result Annotated CheckFault) → IfOk r (λ made. made ≡ a) → OnOk r (IsTyped earlier.shapes (sheet_of a))
        → IfOk r (λ made. IsReadyCode table earlier made (OfRaw b))
    made_ready (Ok made) same typed = subst (λ (x : Annotated). IsReadyCode table earlier x (OfRaw b)) (sym same) (raw_ready typed)
    made_ready (Err fault) same typed = tt

    -- else a rule is broken, or memory ran out
    pub not_made : (r : Result Annotated CheckFault) → ((at : ℕ) → r ≡ Err (check.Breaks at) → BreaksFirst earlier.shapes (sheet_of a) at)
        → IfErr r (IsCodeFault earlier (OfRaw b))
    not_made (Ok made) breaks = tt
    not_made (Err (check.Breaks at)) breaks = breaks_assembled table earlier a b at is (breaks at refl)
    not_made (Err check.NoMemory) breaks = tt
