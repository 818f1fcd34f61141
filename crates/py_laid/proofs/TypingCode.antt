-- Laid code that is plain keeps the typing rules with its notes: those on the whole code, and those on each unit.
use Rattle.std.proofs.Common.{◌≡◌, ◌≤◌, ℕ, List, [], ◌∷◌, true, refl, ap, ◌∙◌, length, arith}
use Rattle.std.specs.List.{list_all}
use Rattle.std.proofs.lemmas.Option.{slice_get_within}
use Rattle.std.proofs.lemmas.Bool.{and_from, and_parts, ltb-true, lt-ltb, le-leb, eq-eqb}
use Rattle.py_code.specs.declared.flags.CodeFlags.{CodeFlags}
use Rattle.py_code.specs.declared.flags.TheConstants.CodeFlags.{HAS_VARARGS, HAS_VARKEYWORDS}
use Rattle.py_code.specs.declared.instruction.Instruction.TheVariants as op
use Rattle.py_code.specs.declared.literal.Literal.{Literal, None as NoneLiteral, Tuple' as TupleLiteral, Code as CodeLiteral, Row_of-Literal, end_of-Literal, more_of-Literal}
use Rattle.py_code.specs.Literals.{literals_of}
use Rattle.py_check.specs.Constants.{is_earlier, are_earlier}
use Rattle.py_check.specs.declared.annotated.Annotated.{Annotated}
use Rattle.py_check.specs.Sheet.{Sheet, sheet_of}
use Rattle.py_check.specs.WholeCode.{is_start, counts_match, counts_if, parameters, parameters_fit, cells_fit, keeps_whole}
use Rattle.py_check.specs.Typing.{IsTyped}
use Rattle.py_check.specs.Running.{is_generator, loads_constant, AllRun}
use Rattle.py_tree.specs.declared.body.BodyKind.{BodyKind}
use Rattle.py_tree.specs.declared.body.BodyKind.TheVariants.{Function, Generator}
use Rattle.py_tree.specs.Tree.{Name, Tree}
use Rattle.py_tree.specs.Binding.{locals_of}
use Rattle.py_laid.specs.Code.{entry, StandsConst, LaidBody, IsLaid, flags_of, IsPlain}
use Rattle.py_laid.specs.Laws.{LaidCodeIsTyped}
use Rattle.py_laid.proofs.TypingUnits.{Noted, parts_of, Free, In, Keeps, keeps_then, stands_in, stands_kept}
use Rattle.py_laid.proofs.TypingBlocks.{Fine}
use Rattle.py_laid.proofs.TypingForms.{suite_typed}
use Rattle.py_laid.proofs.BindingLemmas.{bound_by-longer}

-- ---- bodies

-- whether a code of these flags may yield, by the kind of its body
yields_by : (kind : BodyKind) (flags : CodeFlags) → flags ≡ flags_of kind → kind ≡ Generator → is_generator flags ≡ true
yields_by kind flags is generator = ap is_generator (is ∙ ap flags_of generator)

module _ (code : Noted) (t : Tree) (flags : code.sheet.flags ≡ flags_of t.kind) where
  -- statements may stand at the entry
  fine_entry : Fine code (entry t.kind)
  fine_entry = record { safe = record { yields = yields_by t.kind code.sheet.flags flags; nest = refl; land = tt; same = refl }; walk = tt }

  -- the return of None, behind which nothing stands
  return_keeps : (header at next : ℕ) → StandsConst (parts_of code) (entry t.kind) header at op.ReturnConst NoneLiteral next → Free code at → In code (entry t.kind) at × Keeps code at next
  return_keeps header at next (i, stands, here) free = (
    stands_in code (entry t.kind) header at i next op.ReturnConst stands free,
    stands_kept code (entry t.kind) header at i next op.ReturnConst stands free fine_entry.safe (λ k is_next. (and_from _ _ (lt-ltb _ _ (slice_get_within code.sheet.constants i NoneLiteral here)) refl, ap loads_constant here)),
  )

  -- the first unit is entered without values and blocks, and each keeps the rules
  body_keeps : (end : ℕ) → LaidBody (parts_of code) t end → In code (entry t.kind) 0 × Keeps code 0 end
  body_keeps end (ends, laid, ret) =
      let typed = suite_typed code t.suite (entry t.kind) 0 ends laid refl in
      let (there, kept) = return_keeps t.line ends end ret typed.free in
      (typed.enters there, keeps_then code 0 ends end (typed.kept fine_entry there) kept)

-- ---- codes

-- what holds no code holds none but earlier ones
mutual
  earlier_more : (n : ℕ) (literal : Literal) → is_earlier 0 literal ≡ true → is_earlier n literal ≡ true
  earlier_more n (TupleLiteral shape items) none = row_more n items none
  earlier_more n (CodeLiteral c) none = absurd (omega (arith, ltb-true c 0 none))
  earlier_more n _ none = refl

  row_more : {m : _} (n : ℕ) (items : Row_of-Literal m) → are_earlier 0 items ≡ true → are_earlier n items ≡ true
  row_more n end_of-Literal none = refl
  row_more n (more_of-Literal item items) none =
      let parts = and_parts (is_earlier 0 item) (are_earlier 0 items) none in
      and_from (is_earlier n item) (are_earlier n items) (earlier_more n item parts.0) (row_more n items parts.1)

all_earlier : (n : ℕ) (literals : List Literal) → list_all (is_earlier 0) literals ≡ true → list_all (is_earlier n) literals ≡ true
all_earlier n [] none = refl
all_earlier n (l ∷ literals) none =
    let parts = and_parts (is_earlier 0 l) (list_all (is_earlier 0) literals) none in
    and_from (is_earlier n l) (list_all (is_earlier n) literals) (earlier_more n l parts.0) (all_earlier n literals parts.1)

-- no kind of body has further arguments
no_varargs : (kind : BodyKind) → counts_if (flags_of kind) HAS_VARARGS ≡ 0
no_varargs Function = refl
no_varargs Generator = refl

no_varkeywords : (kind : BodyKind) → counts_if (flags_of kind) HAS_VARKEYWORDS ≡ 0
no_varkeywords Function = refl
no_varkeywords Generator = refl

module _ (shapes : List ℕ) (globals : List Name) (code : Annotated) (t : Tree) (laid : IsLaid globals code t) (plain : IsPlain code t) where
  abbrev noted : Noted
  noted = record {
    shapes = shapes;
    sheet = sheet_of code;
    locations = code.code.code.locations.items;
    names = globals;
    vars = locals_of t;
    names_are = laid.globals;
    vars_are = laid.locals;
    room = plain.room;
    spelled = plain.spelled;
  }

  body : In noted (entry t.kind) 0 × Keeps noted 0 (length code.code.code.instructions.items)
  body = body_keeps noted t plain.flags (length code.code.code.instructions.items) laid.laid

  counts : counts_match (sheet_of code) ≡ true
  counts = and_from _ _ (and_from _ _ (and_from _ _ (lt-ltb _ _ body.0.low) (lt-ltb _ _ laid.short)) (eq-eqb _ _ laid.located)) (eq-eqb _ _ laid.noted)

  parameters_are : parameters (sheet_of code) ≡ length t.params
  parameters_are = omega (
    arith,
    laid.arity,
    plain.kwonlyarg_count,
    ap (λ (flags : CodeFlags). counts_if flags HAS_VARARGS) plain.flags ∙ no_varargs t.kind,
    ap (λ (flags : CodeFlags). counts_if flags HAS_VARKEYWORDS) plain.flags ∙ no_varkeywords t.kind,
  )

  parameters_within : parameters_fit (sheet_of code) ≡ true
  parameters_within =
      let sheet : Sheet = sheet_of code in
      let positional : sheet.posonlyarg_count ≤ sheet.arg_count = omega (arith, plain.posonlyarg_count) in
      let within : parameters sheet ≤ sheet.varnames = omega (arith, parameters_are, laid.locals, bound_by-longer t.suite t.params) in
      and_from _ _ (le-leb _ _ positional) (le-leb _ _ within)

  whole : keeps_whole shapes (sheet_of code) ≡ true
  whole =
      and_from _ _ (and_from _ _ (and_from _ _ (and_from _ _ (and_from _ _ counts (ap is_start body.0.note)) parameters_within) (ap (cells_fit (sheet_of code)) plain.cells.1))
      (le-leb _ _ plain.max_stackdepth)) (all_earlier (length shapes) (literals_of code.code.code.constants) plain.no_code)

  typed_code : IsTyped shapes (sheet_of code)
  typed_code = record { whole = whole; each = λ at low. (body.1 at (omega arith) low).0 }

  code_runs : AllRun (sheet_of code)
  code_runs at low = (body.1 at (omega arith) low).1

pub laid_code_is_typed : LaidCodeIsTyped
laid_code_is_typed globals code t laid plain = (λ shapes. typed_code shapes globals code t laid plain, code_runs [] globals code t laid plain)
