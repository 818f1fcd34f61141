-- Code that keeps the typing rules where control may come to what follows it:
-- one instruction, code behind code, expressions, what is done with values, and jumps.
use Rattle.std.proofs.Common.{◌≡◌, ◌<◌, ◌≤◌, ◌+◌, ◌-◌, ℕ, zero, suc, List, [], ◌∷◌, Bool, true, false, ◌&&◌, Some, None, refl, sym, ap, ◌∙◌, subst, length, drop, replicate, arith}
use Rattle.std.specs.Prelude.{Option, nat_lt, bytes_eq, ◌==◌}
use Rattle.std.specs.List.{list_any}
use Rattle.std.proofs.lemmas.Bool.{and_from, and_parts, or_left, lt-ltb, le-leb}
use Rattle.std.proofs.lemmas.List.{length-drop, length-replicate}
use Rattle.std.proofs.lemmas.Option.{slice_get_within}
use Rattle.py_code.specs.declared.instruction.Instruction.{Instruction}
use Rattle.py_code.specs.declared.instruction.Instruction.TheVariants as op
use Rattle.py_code.specs.declared.literal.Literal.{Literal, None as NoneLiteral, Bool as BoolLiteral, Int as IntLiteral, Str as StrLiteral, Builtin as BuiltinLiteral}
use Rattle.py_code.specs.declared.literal.BuiltinFn.{BuiltinFn}
use Rattle.py_check.specs.declared.note.Kind.{Kind}
use Rattle.py_check.specs.declared.note.Kind.TheVariants.{Any}
use Rattle.py_check.specs.declared.note.BlockNote.{BlockNote}
use Rattle.py_check.specs.Sheet.{Sheet}
use Rattle.py_check.specs.Constants.{kind_of, loads}
use Rattle.py_code.specs.declared.flags.CodeFlags.{CodeFlags}
use Rattle.py_code.specs.declared.flags.TheConstants.CodeFlags.{IS_GENERATOR, IS_COROUTINE}
use Rattle.py_check.specs.WholeCode.{counts_if}
use Rattle.py_check.specs.Running.{is_generator, is_loaded, loads_constant, runs}
use Rattle.py_check.specs.Landing.{goes_on, lands, top_level}
use Rattle.py_check.specs.Effects.{Effect, gives, effect, has_operand}
use Rattle.py_check.specs.Taking.{takes, takes_top, may_move}
use Rattle.py_check.specs.Typing.{may_yield, keeps_own, keeps_by, keeps_op}
use Rattle.py_tree.specs.declared.body.BodyKind.TheVariants.{Generator}
use Rattle.py_tree.specs.declared.expr.Atom.{Atom}
use Rattle.py_tree.specs.declared.expr.Atom.TheVariants as atom
use Rattle.py_tree.specs.declared.expr.Operator.{Operator}
use Rattle.py_tree.specs.declared.expr.Operator.TheVariants as operator
use Rattle.py_tree.specs.Operators.{Way, Asks_one, Asks_two, Calls_it, Yields_it, way_of}
use Rattle.py_tree.specs.Compilable.{OperandsFit, operands}
use Rattle.py_laid.specs.Operators.{Coding, By, Driven, Called, Yielded, coding_of, callee_of, instruction_of, argument_of}
use Rattle.py_tree.specs.Tree.{Name, Expr, Leaf, Operate, Exprs, no_operands, operand}
use Rattle.py_laid.specs.Code.{Scope, on, over, under, place, Stands, StandsConst, LaidName, LaidAtom, LaidCallee, LaidExpr, LaidExprs, LaidTarget}
use Rattle.py_laid.proofs.NoteLemmas.{kinds_of, length-kinds_of, takes-Any, top_level-low}
use Rattle.py_laid.proofs.TypingUnits.{Noted, parts_of, Free, In, Safe, safe_on, Keeps, keeps_none, keeps_then, fits_here, goes, labels, jumps_to, Asks, stands_free, stands_in, stands_kept}

-- so many values on top
abbrev raised : ℕ → Scope → Scope
raised n scope = record scope { depth = n + scope.depth }

over-raised : (n : ℕ) (scope : Scope) → over n scope ≡ raised n scope
over-raised zero scope = let same : scope.depth ≡ 0 + scope.depth = omega arith in ap (λ (depth : ℕ). record scope { depth = depth }) same
over-raised (suc n) scope = let same : n + suc scope.depth ≡ suc n + scope.depth = omega arith in over-raised n (on scope) ∙ ap (λ (depth : ℕ). record scope { depth = depth }) same

-- ---- operators by the rules

-- a function of the machine's own may be a constant
abbrev IsOwn : Option BuiltinFn → Type 0
IsOwn None = Unit {0}
IsOwn (Some fn) = is_loaded (BuiltinLiteral fn) ≡ true

own_callee : (o : Operator) → IsOwn (callee_of (coding_of o))
own_callee operator.Send = refl
own_callee operator.Throw = refl
own_callee operator.Close = refl
own_callee o = tt

-- a unit takes as many values as its operator
abbrev TakesSo : ℕ → Instruction → ℕ → Type 0
TakesSo n i arg = (sheet : Sheet) → (effect i arg ≡ gives n) × (has_operand sheet i arg ≡ true) × (runs sheet i arg ≡ true)

abbrev IsTypedSo : Way → Coding → Type 0
IsTypedSo (Asks_one r) (By i arg) = TakesSo 1 i arg
IsTypedSo (Asks_two r) (By i arg) = TakesSo 2 i arg
IsTypedSo way (Driven fn) = Unit {0}
IsTypedSo Calls_it Called = Unit {0}
IsTypedSo Yields_it Yielded = Unit {0}
IsTypedSo way coding = ⊥

is_typed_so : (o : Operator) → IsTypedSo (way_of o) (coding_of o)
is_typed_so operator.Add = λ sheet. (refl, refl, refl)
is_typed_so operator.Sub = λ sheet. (refl, refl, refl)
is_typed_so operator.Lt = λ sheet. (refl, refl, refl)
is_typed_so operator.Eq = λ sheet. (refl, refl, refl)
is_typed_so o = tt

-- a generator may yield
generator_yields : (flags : CodeFlags) → is_generator flags ≡ true → may_yield flags ≡ true
generator_yields flags is =
    let parts = and_parts (counts_if flags IS_GENERATOR == 1) (counts_if flags IS_COROUTINE == 0) is in
    or_left (counts_if flags IS_GENERATOR == 1) (counts_if flags IS_COROUTINE == 1) parts.0

module _ (code : Noted) where
  -- code from one place to another: no prefix stands in front of what follows, control comes to it where it may come to what
  -- follows, and then its units keep the rules, if this holds
  pub record Typed (good : Type 0) (from to : Scope) (at next : ℕ) : Type 0 where
    pub free : Free code next
    pub enters : In code to next → In code from at
    pub kept : good → In code to next → Keeps code at next

  -- code behind code
  pub joined : (good : Type 0) (from mid_scope to : Scope) (at mid next : ℕ) → Typed good from mid_scope at mid → Typed good mid_scope to mid next → Typed good from to at next
  joined good from mid_scope to at mid next front rest = record {
    free = rest.free;
    enters = λ there. front.enters (rest.enters there);
    kept = λ holds there. keeps_then code at mid next (front.kept holds (rest.enters there)) (rest.kept holds there);
  }

  -- code keeps the rules where more holds than it needs
  pub typed_by : (good better : Type 0) (from to : Scope) (at next : ℕ) → (better → good) → Typed good from to at next → Typed better from to at next
  typed_by good better from to at next gives_good typed = record { free = typed.free; enters = typed.enters; kept = λ holds there. typed.kept (gives_good holds) there }

  -- no code
  pub nothing_typed : (good : Type 0) (scope : Scope) (at next : ℕ) → next ≡ at → Free code at → Typed good scope scope at next
  nothing_typed good scope at next is_at free = record {
    free = subst (Free code) (sym is_at) free;
    enters = λ there. subst (In code scope) is_at there;
    kept = λ holds there. keeps_none code at next (omega (arith, is_at));
  }

  -- one instruction
  pub unit_typed : (good : Type 0) (from to : Scope) (line at arg next : ℕ) (i : Instruction) → Stands (parts_of code) from line at i arg next → Free code at → (safe : good → Safe code from)
      → ((holds : good) → In code to next → Asks code from (safe holds) i arg next) → Typed good from to at next
  unit_typed good from to line at arg next i stands free safe asks = record {
    free = stands_free code from line at arg next i stands;
    enters = λ there. stands_in code from line at arg next i stands free;
    kept = λ holds there. stands_kept code from line at arg next i stands free (safe holds) (asks holds there);
  }

  -- control goes on with as many values, whatever they are
  pub goes_as : (scope : Scope) → Safe code scope → (kinds : List Kind) (k next : ℕ) → k + 1 ≡ next → In code scope next → length kinds ≡ scope.depth
      → goes_on code.sheet (k + 1) kinds scope.blocks ≡ true
  goes_as scope safe kinds k next is_next there long = goes code scope kinds scope.blocks k next is_next there long safe.same

  -- control goes on behind a load
  loaded_on : (scope : Scope) → Safe code scope → (kind : Kind) (k next : ℕ) → k + 1 ≡ next → In code (on scope) next → goes_on code.sheet (k + 1) (kind ∷ kinds_of scope) scope.blocks ≡ true
  loaded_on scope safe kind k next is_next there = goes_as (on scope) (safe_on code scope safe) (kind ∷ kinds_of scope) k next is_next there (ap suc (length-kinds_of scope))

  -- a value may be taken
  pub takes_one : (scope : Scope) → Safe code scope → (rest : List Kind → Bool) → rest (kinds_of scope) ≡ true → takes_top (Any ∷ kinds_of scope) scope.blocks rest ≡ true
  takes_one scope safe rest holds =
      takes-Any 1 (Any ∷ kinds_of scope) scope.blocks rest (omega (arith, length-kinds_of scope, top_level-low scope.depth scope.blocks safe.nest)) holds

  -- control goes on without the value on top, which is taken
  pub taken_on : (scope : Scope) → Safe code scope → (k next : ℕ) → k + 1 ≡ next → In code scope next
      → takes_top (Any ∷ kinds_of scope) scope.blocks (λ rest. goes_on code.sheet (k + 1) rest scope.blocks) ≡ true
  taken_on scope safe k next is_next there =
      takes_one scope safe (λ rest. goes_on code.sheet (k + 1) rest scope.blocks) (goes_as scope safe (kinds_of scope) k next is_next there (length-kinds_of scope))

  -- a local's place is among them
  pub has_local : (i : ℕ) → i < length code.vars → nat_lt i code.sheet.varnames ≡ true
  has_local i below = lt-ltb _ _ (omega (arith, below, code.vars_are))

  -- ---- operands that are taken, and the answer

  -- a scope stays safe with so many values
  raised_safe : (n : ℕ) (scope : Scope) → Safe code scope → Safe code (over n scope)
  raised_safe zero scope safe = safe
  raised_safe (suc n) scope safe = raised_safe n (on scope) (safe_on code scope safe)

  -- so many values are taken, and the answer is pushed, which is all that an instruction asks of the notes
  given_typed : (scope : Scope) (n line at arg next : ℕ) (i : Instruction)
      → ((k : ℕ) (kinds : List Kind) → takes (replicate n Any) kinds scope.blocks (λ rest. goes_on code.sheet (k + 1) (Any ∷ rest) scope.blocks) ≡ true → keeps_op code.shapes code.sheet k i arg kinds scope.blocks ≡ true)
      → runs code.sheet i arg ≡ true → Stands (parts_of code) (over n scope) line at i arg next → Free code at → Typed (Safe code scope) (over n scope) (on scope) at next
  given_typed scope n line at arg next i keeps run stands free =
      subst (λ (from : Scope). Typed (Safe code scope) from (on scope) at next) (sym (over-raised n scope))
      (unit_typed (Safe code scope) (raised n scope) (on scope) line at arg next i (subst (λ (from : Scope). Stands (parts_of code) from line at i arg next) (over-raised n scope) stands) free
      (λ safe. subst (Safe code) (over-raised n scope) (raised_safe n scope safe))
      (λ safe enters k is_next. (
        keeps k kinds (takes-Any n kinds scope.blocks (λ rest. goes_on code.sheet (k + 1) (Any ∷ rest) scope.blocks) (omega (arith, many, top_level-low scope.depth scope.blocks safe.nest))
            (goes_as (on scope) (safe_on code scope safe) (Any ∷ drop n kinds) k next is_next enters (omega (arith, many, length-drop n kinds)))),
        run,
      )))
    where
      kinds : List Kind
      kinds = replicate (n + scope.depth) Any

      many : length kinds ≡ n + scope.depth
      many = length-replicate (n + scope.depth) Any

  -- the same of an instruction of the table of effects
  pub answer_typed : (scope : Scope) (n line at arg next : ℕ) (i : Instruction) → effect i arg ≡ gives n → has_operand code.sheet i arg ≡ true → runs code.sheet i arg ≡ true
      → Stands (parts_of code) (over n scope) line at i arg next → Free code at → Typed (Safe code scope) (over n scope) (on scope) at next
  answer_typed scope n line at arg next i is there run stands free =
      given_typed scope n line at arg next i
      (λ k kinds taken.
      let own : Bool = keeps_own code.shapes code.sheet k i arg kinds scope.blocks in
      and_from _ _ there (ap (λ (e : Effect). keeps_by code.sheet k e own kinds scope.blocks) is ∙ taken)) run stands free

  -- and of a call, which takes its callee besides
  pub call_typed : (scope : Scope) (n line at next : ℕ) → Stands (parts_of code) (over (suc n) scope) line at op.CallFunctionPositional n next → Free code at
      → Typed (Safe code scope) (over (suc n) scope) (on scope) at next
  call_typed scope n line at next stands free = given_typed scope (suc n) line at n next op.CallFunctionPositional (λ k kinds taken. taken) refl stands free

  -- ---- loads

  -- a constant, a name and an atom
  const_typed : (scope : Scope) (line at next : ℕ) (literal : Literal) → is_loaded literal ≡ true → StandsConst (parts_of code) scope line at op.LoadConst literal next → Free code at
      → Typed (Safe code scope) scope (on scope) at next
  const_typed scope line at next literal loaded (i, stands, here) free =
      unit_typed (Safe code scope) scope (on scope) line at i next op.LoadConst stands free (λ safe. safe)
      (λ safe there k is_next. (
        and_from _ _ (lt-ltb _ _ (slice_get_within code.sheet.constants i literal here))
            (ap (λ (o : Option Literal). loads o (λ kind. goes_on code.sheet (k + 1) (kind ∷ kinds_of scope) scope.blocks)) here ∙ loaded_on scope safe (kind_of literal) k next is_next there),
        ap loads_constant here ∙ loaded,
      ))

  pub none_typed : (scope : Scope) (line at next : ℕ) → StandsConst (parts_of code) scope line at op.LoadConst NoneLiteral next → Free code at → Typed (Safe code scope) scope (on scope) at next
  none_typed scope line at next stands free = const_typed scope line at next NoneLiteral refl stands free

  name_typed : (local : Bool) (scope : Scope) (line : ℕ) (x : Name) (at next : ℕ) → LaidName (parts_of code) local scope line x at next → Free code at
      → Typed (Safe code scope) scope (on scope) at next
  name_typed true scope line x at next (stands, below) free =
      unit_typed (Safe code scope) scope (on scope) line at (place code.vars x) next op.LoadFast stands free (λ safe. safe)
      (λ safe there k is_next. (and_from _ _ (has_local (place code.vars x) below) (loaded_on scope safe Any k next is_next there), refl))
  name_typed false scope line x at next (i, stands, here) free =
      let below : nat_lt i code.sheet.names ≡ true = lt-ltb _ _ (omega (arith, slice_get_within code.names i x here, code.names_are)) in
      answer_typed scope 0 line at i next op.LoadGlobal refl below refl stands free

  pub atom_typed : (scope : Scope) (line : ℕ) (a : Atom) (at next : ℕ) → LaidAtom (parts_of code) scope line a at next → Free code at → Typed (Safe code scope) scope (on scope) at next
  atom_typed scope line atom.None at next laid free = const_typed scope line at next NoneLiteral refl laid free
  atom_typed scope line (atom.Bool b) at next laid free = const_typed scope line at next (BoolLiteral b) refl laid free
  atom_typed scope line (atom.Int n) at next laid free = const_typed scope line at next (IntLiteral n) refl laid free
  atom_typed scope line (atom.Str s) at next laid free = const_typed scope line at next (StrLiteral s) refl laid free
  atom_typed scope line (atom.Name x) at next laid free = name_typed (list_any (bytes_eq x) code.vars) scope line x at next laid free

  -- the value on top is yielded, and what is sent is pushed
  yield_typed : (scope : Scope) (line at next : ℕ) → scope.kind ≡ Generator → Stands (parts_of code) (on scope) line at op.YieldValue 0 next → Free code at
      → Typed (Safe code scope) (on scope) (on scope) at next
  yield_typed scope line at next generator stands free =
      unit_typed (Safe code scope) (on scope) (on scope) line at 0 next op.YieldValue stands free (safe_on code scope)
      (λ safe there k is_next. (
        and_from _ _ (generator_yields code.sheet.flags (safe.yields generator))
            (takes_one scope safe (λ rest. goes_on code.sheet (k + 1) (Any ∷ rest) scope.blocks)
            (goes_as (on scope) (safe_on code scope safe) (Any ∷ kinds_of scope) k next is_next there (ap suc (length-kinds_of scope)))),
        safe.yields generator,
      ))

  -- ---- operators

  -- the function that an operator may call lies under its operands
  callee_typed : (fn : Option BuiltinFn) → IsOwn fn → (scope : Scope) (line at next : ℕ) → LaidCallee (parts_of code) fn scope line at next → Free code at
      → Typed (Safe code scope) scope (under fn scope) at next
  callee_typed None own scope line at next is_at free = nothing_typed (Safe code scope) scope at next is_at free
  callee_typed (Some fn) own scope line at next callee free = const_typed scope line at next (BuiltinLiteral fn) own callee free

  under_safe : (fn : Option BuiltinFn) (scope : Scope) → Safe code scope → Safe code (under fn scope)
  under_safe None scope safe = safe
  under_safe (Some fn) scope safe = safe_on code scope safe

  -- a call with its callee
  called_typed : (n : ℕ) → 1 ≤ n → (scope : Scope) (line at next : ℕ) → Stands (parts_of code) (over n scope) line at op.CallFunctionPositional (argument_of Called n) next → Free code at
      → Typed (Safe code scope) (over n scope) (on scope) at next
  called_typed zero some scope line at next stands free = absurd (omega (arith, some))
  called_typed (suc n) some scope line at next stands free = call_typed scope n line at next stands free

  -- the unit of an operator takes its operands, and what lies under them, and pushes the answer
  coding_typed : (way : Way) (coding : Coding) → IsTypedSo way coding → (scope : Scope) (es : Exprs) (line at next : ℕ) → OperandsFit scope.kind way es
      → Stands (parts_of code) (over (operands es) (under (callee_of coding) scope)) line at (instruction_of coding) (argument_of coding (operands es)) next → Free code at
      → Typed (Safe code scope) (over (operands es) (under (callee_of coding) scope)) (on scope) at next
  coding_typed (Asks_one r) (By i arg) is scope es line at next fits stands free =
      subst (λ (n : ℕ). Typed (Safe code scope) (over n scope) (on scope) at next) (sym fits)
      (answer_typed scope 1 line at arg next i (is code.sheet).0 (is code.sheet).1 (is code.sheet).2 (subst (λ (n : ℕ). Stands (parts_of code) (over n scope) line at i arg next) fits stands) free)
  coding_typed (Asks_two r) (By i arg) is scope es line at next fits stands free =
      subst (λ (n : ℕ). Typed (Safe code scope) (over n scope) (on scope) at next) (sym fits)
      (answer_typed scope 2 line at arg next i (is code.sheet).0 (is code.sheet).1 (is code.sheet).2 (subst (λ (n : ℕ). Stands (parts_of code) (over n scope) line at i arg next) fits stands) free)
  coding_typed way (Driven fn) is scope es line at next fits stands free = call_typed scope (operands es) line at next stands free
  coding_typed Calls_it Called is scope es line at next fits stands free = called_typed (operands es) fits.0 scope line at next stands free
  coding_typed Yields_it Yielded is scope es line at next fits stands free =
      subst (λ (n : ℕ). Typed (Safe code scope) (over n scope) (on scope) at next) (sym fits.1)
      (yield_typed scope line at next fits.0 (subst (λ (n : ℕ). Stands (parts_of code) (over n scope) line at op.YieldValue 0 next) fits.1 stands) free)
  coding_typed way coding is scope es line at next fits stands free = absurd is

  mutual
    pub expr_typed : (e : Expr) (scope : Scope) (line at next : ℕ) → LaidExpr (parts_of code) scope line e at next → Free code at → Typed (Safe code scope) scope (on scope) at next
    expr_typed (Leaf a) scope line at next laid free = atom_typed scope line a at next laid free
    expr_typed (Operate o es) scope line at next (begins, asks, fits, callee, all, stands) free =
        let fn : Option BuiltinFn = callee_of (coding_of o) in
        let front = callee_typed fn (own_callee o) scope line at begins callee free in
        let args = typed_by (Safe code (under fn scope)) (Safe code scope) (under fn scope) (over (operands es) (under fn scope)) begins asks (under_safe fn scope)
        (exprs_typed es (under fn scope) line begins asks all front.free) in
        joined (Safe code scope) scope (under fn scope) (on scope) at begins next front
        (joined (Safe code scope) (under fn scope) (over (operands es) (under fn scope)) (on scope) begins asks next args
        (coding_typed (way_of o) (coding_of o) (is_typed_so o) scope es line asks next fits stands args.free))

    exprs_typed : (es : Exprs) (scope : Scope) (line at next : ℕ) → LaidExprs (parts_of code) scope line es at next → Free code at → Typed (Safe code scope) scope (over (operands es) scope) at next
    exprs_typed no_operands scope line at next is_at free = nothing_typed (Safe code scope) scope at next is_at free
    exprs_typed (operand e es) scope line at next (mid, one, rest) free =
        let front = expr_typed e scope line at mid one free in
        joined (Safe code scope) scope (on scope) (over (operands es) (on scope)) at mid next front
        (typed_by (Safe code (on scope)) (Safe code scope) (on scope) (over (operands es) (on scope)) mid next (safe_on code scope) (exprs_typed es (on scope) line mid next rest front.free))

  -- ---- what is done with a value

  -- the value on top is dropped
  pub pop_typed : (scope : Scope) (next : ℕ) (safe : Safe code scope) → In code scope next → Asks code (on scope) (safe_on code scope safe) op.Pop 0 next
  pop_typed scope next safe there k is_next =
      let long : length (kinds_of scope) ≡ scope.depth = length-kinds_of scope in
      let low : top_level scope.blocks ≤ scope.depth = top_level-low scope.depth scope.blocks safe.nest in
      let moves : may_move 1 [] (suc (length (kinds_of scope))) (top_level scope.blocks) ≡ true =
      and_from _ _ (and_from _ _ (le-leb 1 (suc (length (kinds_of scope))) (omega arith)) (le-leb (top_level scope.blocks) (suc (length (kinds_of scope)) - 1) (omega (arith, long, low)))) refl in
      (and_from _ _ moves (goes_as scope safe (kinds_of scope) k next is_next there long), refl)

  -- a value goes to a local, or is dropped
  pub target_typed : (scope : Scope) (line : ℕ) (x : Option Name) (at next : ℕ) → LaidTarget (parts_of code) scope line x at next → Free code at → Typed (Safe code scope) (on scope) scope at next
  target_typed scope line None at next stands free = unit_typed (Safe code scope) (on scope) scope line at 0 next op.Pop stands free (safe_on code scope) (pop_typed scope next)
  target_typed scope line (Some x) at next (stands, below) free =
      unit_typed (Safe code scope) (on scope) scope line at (place code.vars x) next op.StoreFast stands free (safe_on code scope)
      (λ safe there k is_next. (and_from _ _ (has_local (place code.vars x) below) (taken_on scope safe k next is_next there), refl))

  -- ---- jumps

  -- an instruction asks what a jump by a value does
  abbrev pub JumpsBy : Instruction → Type 0
  JumpsBy i = (k to : ℕ) (kinds : List Kind) (blocks : List BlockNote)
      → (keeps_op code.shapes code.sheet k i to kinds blocks ≡ keeps_op code.shapes code.sheet k op.JumpIfFalse to kinds blocks) × (runs code.sheet i to ≡ true)

  -- a jump by a value
  pub test_typed : (i : Instruction) → JumpsBy i → (scope : Scope) (line at label next : ℕ) → Stands (parts_of code) (on scope) line at i label next → Free code at
      → Typed (Safe code scope × In code scope label) (on scope) scope at next
  test_typed i same scope line at label next stands free =
      unit_typed (Safe code scope × In code scope label) (on scope) scope line at label next i stands free (λ holds. safe_on code scope holds.0)
      (λ (safe, enters) there k is_next.
      let long : length (kinds_of scope) ≡ scope.depth = length-kinds_of scope in
      let both = same k label (Any ∷ kinds_of scope) scope.blocks in
      let lands_there : lands code.sheet label (kinds_of scope) scope.blocks ≡ true = fits_here code scope (kinds_of scope) scope.blocks label enters.note long safe.same in (
        both.0 ∙ and_from _ _ (labels code scope label enters)
            (takes_one scope safe (λ rest. lands code.sheet label rest scope.blocks && goes_on code.sheet (k + 1) rest scope.blocks)
            (and_from _ _ lands_there (goes_as scope safe (kinds_of scope) k next is_next there long))),
        both.1,
      ))

  -- a jump, whatever the scope behind it
  pub jump_typed : (scope behind : Scope) (line at label next : ℕ) → Stands (parts_of code) scope line at op.Jump label next → Free code at
      → Typed (Safe code scope × In code scope label) scope behind at next
  jump_typed scope behind line at label next stands free =
      unit_typed (Safe code scope × In code scope label) scope behind line at label next op.Jump stands free (λ holds. holds.0)
      (λ (safe, enters) there k is_next. (jumps_to code scope (kinds_of scope) scope.blocks label enters (length-kinds_of scope) safe.same, refl))
