-- Where the code of each form stands, with its lines and notes. The label of a jump is the place that it goes to.
use Rattle.std.specs.Prelude.{ℕ, zero, suc, ◌<◌, ◌≤◌, ◌^◌, Bool, true, false, Option, Some, None, List, [], ◌∷◌, ◌≡◌, slice_get, length, drop, replicate, bytes_eq, if◌then◌else◌}
use Rattle.std.specs.List.{list_all, list_any}
use Rattle.py_code.specs.declared.flags.CodeFlags.{CodeFlags}
use Rattle.py_code.specs.declared.flags.TheConstants.CodeFlags.{NEW_LOCALS, IS_GENERATOR, IS_OPTIMIZED}
use Rattle.py_code.specs.Flags.{all_of}
use Rattle.py_code.specs.declared.unit.CodeUnit.{CodeUnit}
use Rattle.py_code.specs.declared.instruction.Instruction.{Instruction}
use Rattle.py_code.specs.declared.instruction.Instruction.TheVariants as op
use Rattle.py_code.specs.declared.literal.Literal.{Literal, None as NoneLiteral, Bool as BoolLiteral, Int as IntLiteral, Str as StrLiteral, Builtin as BuiltinLiteral}
use Rattle.py_code.specs.declared.literal.BuiltinFn.{BuiltinFn}
use Rattle.py_code.specs.declared.operator.TestOperator.TheVariants as test
use Rattle.py_code.specs.declared.operator.RaiseKind.TheVariants as kind
use Rattle.py_code.specs.Literals.{literals_of}
use Rattle.py_code.specs.Numbers.{test_number, raise_number}
use Rattle.py_code.specs.Units.{decoded_from}
use Rattle.py_check.specs.declared.annotated.Annotated.{Annotated}
use Rattle.py_check.specs.declared.note.Kind.{Kind}
use Rattle.py_check.specs.declared.note.Kind.TheVariants.{Any}
use Rattle.py_check.specs.declared.note.Pending.{Pending}
use Rattle.py_check.specs.declared.note.Pending.TheVariants as pending
use Rattle.py_check.specs.declared.note.BlockNote.{BlockNote}
use Rattle.py_check.specs.declared.note.BlockNote.TheVariants as block
use Rattle.py_check.specs.declared.note.Note.{Note}
use Rattle.py_check.specs.declared.note.Note.TheVariants.{Live}
use Rattle.py_check.specs.Constants.{is_earlier}
use Rattle.py_check.specs.Operands.{prefixes}
use Rattle.py_rows.specs.Signature.{kind_of}
use Rattle.py_tree.specs.declared.body.BodyKind.{BodyKind}
use Rattle.py_tree.specs.declared.body.BodyKind.TheVariants.{Function, Generator}
use Rattle.py_tree.specs.declared.expr.Atom.{Atom}
use Rattle.py_tree.specs.declared.expr.Atom.TheVariants as atom
use Rattle.py_tree.specs.Operators.{way_of}
use Rattle.py_tree.specs.Compilable.{OperandsFit, operands}
use Rattle.py_laid.specs.Operators.{coding_of, callee_of, instruction_of, argument_of}
use Rattle.py_tree.specs.Tree.{Name, Expr, Leaf, Operate, Exprs, no_operands, operand, Form, Assign, Do, Show, Return, Raise, Reraise, Break, Continue, Pass, If, IfElse, While, TryExcept, TryFinally, With, Suite, nothing, first}
use Rattle.py_tree.specs.Tree.{Clauses, no_more, clause, Tree, seen_as}
use Rattle.py_tree.specs.Binding.{locals_of}

-- the parts of a code that its units refer to, with the line and the note of each unit
pub record Parts : Type 0 where
  pub units : List CodeUnit
  pub locations : List ℕ
  pub notes : List Note
  pub constants : List Literal
  pub names : List Name  -- the names of the globals
  pub vars : List Name  -- the names of the locals

-- ---- where a statement stands

-- the labels of the innermost loop around a statement: behind its end, and its test
pub record Labels : Type 0 where
  pub stop : ℕ
  pub again : ℕ

-- the labels of the innermost loop, if any
abbrev pub Around : Type 0
Around = Option Labels

-- the kind of the body, the loop around it, how many values lie on the stack, and which blocks are open
pub record Scope : Type 0 where
  pub kind : BodyKind
  pub around : Around
  pub depth : ℕ
  pub blocks : List BlockNote

-- with one more value
abbrev pub on : Scope → Scope
on scope = record scope { depth = suc scope.depth }

-- with so many more
abbrev pub over : ℕ → Scope → Scope
over zero scope = scope
over (suc n) scope = over n (on scope)

-- with the function that may stand under operands
abbrev pub under : Option BuiltinFn → Scope → Scope
under None scope = scope
under (Some fn) scope = on scope

-- inside of a block
abbrev pub inside : BlockNote → Scope → Scope
inside b scope = record scope { blocks = b ∷ scope.blocks }

-- inside of a loop with these labels
abbrev pub in_loop : Labels → Scope → Scope
in_loop labels scope = record { kind = scope.kind; around = Some labels; depth = scope.depth; blocks = block.Loop scope.depth ∷ scope.blocks }

-- inside of a try whose handler is at a label
abbrev pub in_try : ℕ → Scope → Scope
in_try handler scope = inside (block.TryExcept scope.depth handler) scope

-- inside of the clauses of a try, while an exception is handled
abbrev pub in_clauses : Scope → Scope
in_clauses scope = inside (block.ExceptHandler scope.depth) scope

-- inside of the body of a finally
abbrev pub before_finally : ℕ → Scope → Scope
before_finally handler scope = inside (block.Finally scope.depth handler) scope

-- the jumps that a statement may make to the labels of its loop
abbrev pub leaving : Around → List Pending
leaving None = []
leaving (Some l) = pending.Break l.stop ∷ pending.Continue l.again ∷ []

-- while a finally runs, each of these jumps may wait
abbrev pub in_finally : Scope → Scope
in_finally scope = inside (block.FinallyHandler scope.depth (leaving scope.around)) scope

-- a body of a kind is entered without values and blocks
abbrev pub entry : BodyKind → Scope
entry kind = record { kind = kind; around = None; depth = 0; blocks = [] }

-- of the values nothing is known
abbrev pub note_of : Scope → Note
note_of scope = Live (replicate scope.depth Any) scope.blocks

-- the place of a name, or the length of the list where it isn't there
abbrev pub place : List Name → Name → ℕ
place [] x = 0
place (y ∷ ys) x = if bytes_eq x y then 0 else suc (place ys x)

-- each of a list's entries from one place up to another is this
abbrev pub Holds : {A : Type 0} → List A → A → ℕ → ℕ → Type 0
Holds xs x at next = (k : ℕ) → at ≤ k → k < next → slice_get xs k ≡ Some x

module _ (parts : Parts) where
  -- the unit at a place, behind its prefixes, is this instruction with this operand, of this line and in this scope, and `next` is the place behind it
  pub record Stands (scope : Scope) (line at : ℕ) (i : Instruction) (arg next : ℕ) : Type 0 where
    pub decoded : decoded_from 0 at (drop at parts.units) ≡ Some (record { op = i; arg = record { 0 = arg }; next = next })
    pub lined : Holds parts.locations line at next
    pub noted : Holds parts.notes (note_of scope) at next

  -- the same of an instruction whose operand is the place of a constant
  abbrev pub StandsConst : Scope → ℕ → ℕ → Instruction → Literal → ℕ → Type 0
  StandsConst scope line at i literal next = (k : ℕ) × Stands scope line at i k next × (slice_get parts.constants k ≡ Some literal)

  -- the same of an instruction whose operand is the place of a global's name
  abbrev pub StandsName : Scope → ℕ → ℕ → Instruction → Name → ℕ → Type 0
  StandsName scope line at i x next = (k : ℕ) × Stands scope line at i k next × (slice_get parts.names k ≡ Some x)

  -- the same of an instruction whose operand is the place of a local
  abbrev pub StandsLocal : Scope → ℕ → ℕ → Instruction → Name → ℕ → Type 0
  StandsLocal scope line at i x next = Stands scope line at i (place parts.vars x) next × (place parts.vars x < length parts.vars)

  -- ---- expressions, from one place to another

  -- a name is loaded as a local or as a global
  abbrev pub LaidName : Bool → Scope → ℕ → Name → ℕ → ℕ → Type 0
  LaidName true scope line x at next = StandsLocal scope line at op.LoadFast x next
  LaidName false scope line x at next = StandsName scope line at op.LoadGlobal x next

  -- the load of an atom
  abbrev pub LaidAtom : Scope → ℕ → Atom → ℕ → ℕ → Type 0
  LaidAtom scope line atom.None at next = StandsConst scope line at op.LoadConst NoneLiteral next
  LaidAtom scope line (atom.Bool b) at next = StandsConst scope line at op.LoadConst (BoolLiteral b) next
  LaidAtom scope line (atom.Int n) at next = StandsConst scope line at op.LoadConst (IntLiteral n) next
  LaidAtom scope line (atom.Str s) at next = StandsConst scope line at op.LoadConst (StrLiteral s) next
  LaidAtom scope line (atom.Name x) at next = LaidName (list_any (bytes_eq x) parts.vars) scope line x at next

  -- the function of the machine's own that an operator may call
  abbrev pub LaidCallee : Option BuiltinFn → Scope → ℕ → ℕ → ℕ → Type 0
  LaidCallee None scope line at next = next ≡ at
  LaidCallee (Some fn) scope line at next = StandsConst scope line at op.LoadConst (BuiltinLiteral fn) next

  abbrev mutual
    -- the value of an expression: an atom's load, or the operands in order, and the unit that takes them
    pub LaidExpr : Scope → ℕ → Expr → ℕ → ℕ → Type 0
    LaidExpr scope line (Leaf a) at next = LaidAtom scope line a at next
    LaidExpr scope line (Operate o es) at next =
        (begins : ℕ) × (asks : ℕ) × OperandsFit scope.kind (way_of o) es × LaidCallee (callee_of (coding_of o)) scope line at begins
        × LaidExprs (under (callee_of (coding_of o)) scope) line es begins asks
        × Stands (over (operands es) (under (callee_of (coding_of o)) scope)) line asks (instruction_of (coding_of o)) (argument_of (coding_of o) (operands es)) next

    pub LaidExprs : Scope → ℕ → Exprs → ℕ → ℕ → Type 0
    LaidExprs scope line no_operands at next = next ≡ at
    LaidExprs scope line (operand e es) at next = (mid : ℕ) × LaidExpr scope line e at mid × LaidExprs (on scope) line es mid next

  -- an expression, and the unit that takes it
  abbrev pub LaidTaken : Scope → ℕ → Expr → Instruction → ℕ → ℕ → ℕ → Type 0
  LaidTaken scope line e i arg at next = (asks : ℕ) × LaidExpr scope line e at asks × Stands (on scope) line asks i arg next

  -- ---- statements

  -- what a value is done with: it goes to a local, or is dropped
  abbrev pub LaidTarget : Scope → ℕ → Option Name → ℕ → ℕ → Type 0
  LaidTarget scope line None at next = Stands (on scope) line at op.Pop 0 next
  LaidTarget scope line (Some x) at next = StandsLocal (on scope) line at op.StoreFast x next

  -- a loop is left, or goes on
  abbrev pub LaidBreak : Scope → Around → ℕ → ℕ → ℕ → Type 0
  LaidBreak scope None line at next = ⊥
  LaidBreak scope (Some l) line at next = Stands scope line at op.Break l.stop next

  abbrev pub LaidContinue : Scope → Around → ℕ → ℕ → ℕ → Type 0
  LaidContinue scope None line at next = ⊥
  LaidContinue scope (Some l) line at next = Stands scope line at op.Continue l.again next

  -- a local is unset, whether it was set or not
  abbrev pub LaidForget : Scope → ℕ → Name → ℕ → ℕ → Type 0
  LaidForget scope line x at next =
      (stores : ℕ) × (deletes : ℕ) × StandsConst scope line at op.LoadConst NoneLiteral stores × StandsLocal (on scope) line stores op.StoreFast x deletes
      × StandsLocal scope line deletes op.DeleteFast x next

  -- a body and its finally: `body` and `final` say, by a scope, from which place to which their code stands
  abbrev pub LaidFinally : Scope → ℕ → (Scope → ℕ → ℕ → Type 0) → (Scope → ℕ → ℕ → Type 0) → ℕ → ℕ → Type 0
  LaidFinally scope line body final at next =
      (begins : ℕ) × (leaves : ℕ) × (enters : ℕ) × (handler : ℕ) × (ends : ℕ) × Stands scope line at op.SetupFinally handler begins
      × body (before_finally handler scope) begins leaves × Stands (before_finally handler scope) line leaves op.PopBlock 0 enters
      × Stands scope line enters op.EnterFinally 0 handler × final (in_finally scope) handler ends × Stands (in_finally scope) line ends op.EndFinally 0 next

  -- a with of this line, whose manager is its exit too, and stays under the block of the body: `body` says, by a scope, from which place to which the
  -- code of the body stands
  abbrev pub LaidWith : Scope → ℕ → Expr → Option Name → (Scope → ℕ → ℕ → Type 0) → ℕ → ℕ → Type 0
  LaidWith scope line a x body at next =
      (sets : ℕ) × (binds : ℕ) × (begins : ℕ) × (leaves : ℕ) × (enters : ℕ) × (handler : ℕ) × (ends : ℕ) × LaidExpr scope line a at sets
      × Stands (on scope) line sets op.SetupWith handler binds × LaidTarget (before_finally handler (on scope)) line x binds begins
      × body (before_finally handler (on scope)) begins leaves × Stands (before_finally handler (on scope)) line leaves op.PopBlock 0 enters
      × Stands (on scope) line enters op.EnterFinally 0 handler × Stands (in_finally (on scope)) line handler op.WithCleanupStart 0 ends
      × Stands (on (in_finally (on scope))) line ends op.WithCleanupFinish 0 next

  -- the suite of a clause of this line: a name that it binds is forgotten at the end
  abbrev pub LaidHandler : Scope → ℕ → Option Name → (Scope → ℕ → ℕ → Type 0) → ℕ → ℕ → Type 0
  LaidHandler scope line None suite at next = suite scope at next
  LaidHandler scope line (Some x) suite at next = LaidFinally scope line suite (λ within handler ends. LaidForget within line x handler ends) at next

  -- a suite over which a jump leads, by the value of an expression: `suite` says from which place to which its code stands
  abbrev pub LaidBranch : Scope → ℕ → Expr → Instruction → (ℕ → ℕ → Type 0) → ℕ → ℕ → Type 0
  LaidBranch scope line a i suite at next =
      (asks : ℕ) × (begins : ℕ) × LaidExpr scope line a at asks × Stands (on scope) line asks i next begins × suite begins next

  abbrev mutual
    -- the code of a statement of this line
    pub LaidForm : Scope → ℕ → Form → ℕ → ℕ → Type 0
    LaidForm scope line (Assign x e) at next = (stores : ℕ) × LaidExpr scope line e at stores × LaidTarget scope line (Some x) stores next
    LaidForm scope line (Do o es) at next = (drops : ℕ) × LaidExpr scope line (Operate o es) at drops × LaidTarget scope line None drops next
    LaidForm scope line (Show a) at next = LaidTaken scope line a op.PrintExpr 0 at next
    LaidForm scope line (Return a) at next = LaidTaken scope line a op.ReturnValue 0 at next
    LaidForm scope line (Raise a) at next = LaidTaken scope line a op.Raise (raise_number kind.Raise) at next
    LaidForm scope line Reraise at next = Stands scope line at op.Raise (raise_number kind.Reraise) next
    LaidForm scope line Break at next = LaidBreak scope scope.around line at next
    LaidForm scope line Continue at next = LaidContinue scope scope.around line at next
    LaidForm scope line Pass at next = next ≡ at
    -- the suite is jumped over where the value is false
    LaidForm scope line (If a s) at next = LaidBranch scope line a op.JumpIfFalse (λ begins to. LaidSuite scope s begins to) at next
    -- the second suite is jumped to where it is false, and jumped over behind the first
    LaidForm scope line (IfElse a s t) at next =
        (asks : ℕ) × (begins : ℕ) × (leaves : ℕ) × (other : ℕ) × LaidExpr scope line a at asks × Stands (on scope) line asks op.JumpIfFalse other begins
        × LaidSuite scope s begins leaves × Stands scope line leaves op.Jump next other × LaidSuite scope t other next
    -- the test stands behind the set-up, and is jumped back to from the end of the suite
    LaidForm scope line (While a s) at next =
        (tests : ℕ) × (asks : ℕ) × (begins : ℕ) × (repeats : ℕ) × (ends : ℕ) × Stands scope line at op.SetupLoop 0 tests
        × LaidExpr (in_loop (record { stop = next; again = tests }) scope) line a tests asks
        × Stands (on (in_loop (record { stop = next; again = tests }) scope)) line asks op.JumpIfFalse ends begins
        × LaidSuite (in_loop (record { stop = next; again = tests }) scope) s begins repeats
        × Stands (in_loop (record { stop = next; again = tests }) scope) line repeats op.Jump tests ends
        × Stands (in_loop (record { stop = next; again = tests }) scope) line ends op.PopBlock 0 next
    -- the clauses stand behind the suite, and are jumped over from its end
    LaidForm scope line (TryExcept s cs) at next =
        (begins : ℕ) × (leaves : ℕ) × (jumps : ℕ) × (handler : ℕ) × Stands scope line at op.SetupExcept handler begins × LaidSuite (in_try handler scope) s begins leaves
        × Stands (in_try handler scope) line leaves op.PopBlock 0 jumps × Stands scope line jumps op.Jump next handler × LaidClauses scope line cs handler next
    LaidForm scope line (TryFinally s t) at next =
        LaidFinally scope line (λ within begins leaves. LaidSuite within s begins leaves) (λ within handler ends. LaidSuite within t handler ends) at next
    LaidForm scope line (With a x s) at next = LaidWith scope line a x (λ within begins leaves. LaidSuite within s begins leaves) at next

    -- the code of statements
    pub LaidSuite : Scope → Suite → ℕ → ℕ → Type 0
    LaidSuite scope nothing at next = next ≡ at
    LaidSuite scope (first n f more) at next = (mid : ℕ) × LaidForm scope n f at mid × LaidSuite scope more mid next

    -- the code of the clauses of a try of this line, to whose end each of them jumps; the exception lies on the stack
    pub LaidClauses : Scope → ℕ → Clauses → ℕ → ℕ → Type 0
    LaidClauses scope line no_more at end = Stands (on (in_clauses scope)) line at op.Raise (raise_number kind.Reraise) end
    LaidClauses scope line (clause n c x s more) at end =
        (loads : ℕ) × (asks : ℕ) × (decides : ℕ) × (binds : ℕ) × (begins : ℕ) × (leaves : ℕ) × (jumps : ℕ) × (other : ℕ)
        × Stands (on (in_clauses scope)) n at op.Duplicate 0 loads × LaidAtom (over 2 (in_clauses scope)) n (atom.Name c) loads asks
        × Stands (over 3 (in_clauses scope)) n asks op.TestOperation (test_number test.ExceptionMatch) decides
        × Stands (over 2 (in_clauses scope)) n decides op.JumpIfFalse other binds × LaidTarget (in_clauses scope) n x binds begins
        × LaidHandler (in_clauses scope) n x (λ within from to. LaidSuite within s from to) begins leaves
        × Stands (in_clauses scope) n leaves op.PopException 0 jumps × Stands scope n jumps op.Jump end other × LaidClauses scope line more other end

  -- the code of a body's statements, and at their end the return of None, which comes from no statement: its line is the header's
  abbrev pub LaidBody : Tree → ℕ → Type 0
  LaidBody t end = (ends : ℕ) × LaidSuite (entry t.kind) t.suite 0 ends × StandsConst (entry t.kind) t.line ends op.ReturnConst NoneLiteral end

-- the parts of a code whose globals and locals have these names
abbrev pub parts_with : List Name → List Name → Annotated → Parts
parts_with names vars code = record {
  units = code.code.code.instructions.items;
  locations = code.code.code.locations.items;
  notes = code.notes;
  constants = literals_of code.code.code.constants;
  names = names;
  vars = vars;
}

-- the code is that of a body of its kind, and its globals have these names
pub record IsLaid (names : List Name) (code : Annotated) (t : Tree) : Type 0 where
  pub kind : kind_of code.code.code.flags ≡ seen_as t.kind
  pub arity : code.code.code.arg_count ≡ length t.params
  pub locals : length code.code.code.varnames.items ≡ length (locals_of t)
  pub globals : length code.code.code.names.items ≡ length names
  pub laid : LaidBody (parts_with names (locals_of t) code) t (length code.code.code.instructions.items)
  pub short : length code.code.code.instructions.items < 2 ^ 32
  pub located : length code.code.code.locations.items ≡ length code.code.code.instructions.items
  pub noted : length code.notes ≡ length code.code.code.instructions.items

-- a code makes a scope and knows its locals by their places; that of a generator says so
abbrev pub flags_of : BodyKind → CodeFlags
flags_of Function = all_of (NEW_LOCALS ∷ IS_OPTIMIZED ∷ [])
flags_of Generator = all_of (NEW_LOCALS ∷ IS_OPTIMIZED ∷ IS_GENERATOR ∷ [])

-- what the code of a body says of itself: it has the flags of its kind, it takes arguments by position only, it has no cells, its stack has
-- room for each note, at most three prefixes stand in a row in front of any place, and no constant is a code or holds one
pub record IsPlain (code : Annotated) (t : Tree) : Type 0 where
  pub flags : code.code.code.flags ≡ flags_of t.kind
  pub first_line_number : code.code.code.first_line_number ≡ Some t.line
  pub posonlyarg_count : code.code.code.posonlyarg_count ≡ 0
  pub kwonlyarg_count : code.code.code.kwonlyarg_count ≡ 0
  pub cells : (code.code.code.cellvars.items ≡ []) × (code.code.code.cell2arg.items ≡ []) × (code.code.code.freevars.items ≡ [])
  pub room : (at : ℕ) (kinds : List Kind) (blocks : List BlockNote) → slice_get code.notes at ≡ Some (Live kinds blocks) → length kinds ≤ code.code.code.max_stackdepth
  pub max_stackdepth : code.code.code.max_stackdepth ≤ 65535
  pub spelled : (at : ℕ) → at ≤ length code.code.code.instructions.items → prefixes code.code.code.instructions.items at ≤ 3
  pub no_code : list_all (is_earlier 0) (literals_of code.code.code.constants) ≡ true
