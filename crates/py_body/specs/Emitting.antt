-- What the functions of the compiler promise each other: what is emitted only goes behind what there is, its size is known before, and
-- it stands as it should in each code that goes on behind it.
use Rattle.std.specs.Prelude.{ℕ, zero, suc, ◌+◌, ◌/◌, ◌%◌, ◌≤◌, ◌<◌, ◌^◌, max, Bool, true, false, Option, Some, None, List, [], ◌∷◌, ◌++◌, ◌≡◌, length, replicate, slice_get}
use Rattle.std.specs.List.{list_all}
use Rattle.py_code.specs.declared.unit.CodeUnit.{CodeUnit}
use Rattle.py_code.specs.declared.instruction.Instruction.{Instruction}
use Rattle.py_code.specs.declared.instruction.Instruction.TheVariants as op
use Rattle.py_code.specs.declared.literal.Literal.{Literal, None as NoneLiteral}
use Rattle.py_code.specs.declared.literal.BuiltinFn.{BuiltinFn}
use Rattle.py_code.specs.Literals.{literals_of}
use Rattle.py_check.specs.declared.note.Kind.{Kind}
use Rattle.py_check.specs.declared.note.BlockNote.{BlockNote}
use Rattle.py_check.specs.declared.note.Note.TheVariants.{Live}
use Rattle.py_check.specs.Constants.{is_earlier}
use Rattle.py_check.specs.Operands.{prefixes}
use Rattle.py_code.specs.declared.operator.TestOperator.TheVariants as test
use Rattle.py_code.specs.Numbers.{test_number}
use Rattle.py_tree.specs.declared.expr.Atom.{Atom}
use Rattle.py_tree.specs.declared.expr.Atom.TheVariants as atom
use Rattle.py_tree.specs.Tree.{Name, Expr, Exprs, Form, Assign, If, IfElse, While, TryExcept, TryFinally, With, Suite, nothing, first}
use Rattle.py_tree.specs.Tree.{Clauses, no_more, clause, Tree}
use Rattle.py_tree.specs.Suites.{joined_clauses}
use Rattle.py_tree.specs.Binding.{bound, locals_of}
use Rattle.py_tree.specs.Compilable.{FormFits, SuiteFits, ClausesFit}
use Rattle.py_laid.specs.Fits.{Continues}
use Rattle.py_laid.specs.Code.{Parts, Labels, Around, Scope, note_of, place, Stands, StandsConst, StandsLocal, LaidAtom, LaidCallee, LaidExpr, LaidExprs, LaidTaken, LaidTarget}
use Rattle.py_laid.specs.Code.{LaidForget, LaidHandler, LaidBranch, LaidForm, LaidSuite, LaidClauses, LaidBody, on, in_try, before_finally, entry}
use Rattle.py_body.specs.declared.sizes.Weights.{Weights}
use Rattle.py_body.specs.declared.scope.Labels.{Labels as OwnLabels}
use Rattle.py_body.specs.declared.scope.Scope.{Scope as OwnScope}
use Rattle.py_body.specs.declared.emitter.Emitter.{Emitter}
use Rattle.py_body.specs.Sizes.{weights, counted, size_callee, size_expr, size_exprs, size_target, size_form, size_suite, size_clauses, size_forget, size_clause, size_handler}
use Rattle.py_body.specs.Sizes.{size_match, size_opening, size_tried, size_body, size_managed}

-- ---- scopes

abbrev pub labels_of : OwnLabels → Labels
labels_of l = record { stop = l.stop; again = l.again }

abbrev pub around_of : Option OwnLabels → Around
around_of None = None
around_of (Some l) = Some (labels_of l)

-- a scope of the program as one of laid code
abbrev pub scope_of : OwnScope → Scope
scope_of s = record { kind = s.kind; around = around_of s.around; depth = s.depth; blocks = s.blocks }

-- whether there is a loop around
abbrev pub is_inside : Around → Bool
is_inside None = false
is_inside (Some l) = true

-- a statement, a suite and clauses that can be compiled in a scope
abbrev pub FormIn : Scope → Form → Type 0
FormIn scope f = FormFits scope.kind (is_inside scope.around) f

abbrev pub SuiteIn : Scope → Suite → Type 0
SuiteIn scope s = SuiteFits scope.kind (is_inside scope.around) s

abbrev pub ClausesIn : Scope → Clauses → Type 0
ClausesIn scope cs = ClausesFit scope.kind (is_inside scope.around) cs

-- ---- what an emitter has so far

-- parts of a code, how many prefixes labels and indices have, and the most values that a note speaks of
pub record Draft : Type 0 where
  pub parts : Parts
  pub labels : ℕ
  pub others : ℕ
  pub deepest : ℕ

abbrev pub draft_of : Emitter → Draft
draft_of e = record {
  parts = record { units = e.units.items; locations = e.locations.items; notes = e.notes; constants = literals_of e.constants; names = e.globals; vars = e.locals };
  labels = e.labels;
  others = e.others;
  deepest = e.deepest;
}

-- nothing is emitted yet
abbrev pub blank : List Name → ℕ → ℕ → Draft
blank vars labels others = record { parts = record { units = []; locations = []; notes = []; constants = []; names = []; vars = vars }; labels = labels; others = others; deepest = 0 }

-- how many units its instructions take
abbrev pub weights_of : Draft → Weights
weights_of d = weights d.labels d.others

-- the place behind its units
abbrev pub end_of : Draft → ℕ
end_of d = length d.parts.units

-- ---- an instruction

-- the byte of an operand that has so many bytes behind it
abbrev pub byte_of : ℕ → ℕ → ℕ
byte_of width arg = arg / 256 ^ width % 256

-- an instruction behind so many prefixes; the operand's bytes in front of them are lost
abbrev pub spelled : ℕ → Instruction → ℕ → List CodeUnit
spelled zero o arg = record { op = o; arg = byte_of 0 arg } ∷ []
spelled (suc width) o arg = record { op = op.ExtendedArg; arg = byte_of (suc width) arg } ∷ spelled width o arg

-- an instruction with so many prefixes, of a line and in a scope, behind the others
abbrev pub put : ℕ → Instruction → ℕ → Scope → ℕ → Draft → Draft
put width o arg scope line d = record d {
  parts = record d.parts {
    units = d.parts.units ++ spelled width o arg;
    locations = d.parts.locations ++ replicate (suc width) line;
    notes = d.parts.notes ++ replicate (suc width) (note_of scope);
  };
  deepest = max d.deepest scope.depth;
}

-- a constant more
abbrev pub with_constant : Literal → Draft → Draft
with_constant literal d = record d { parts = record d.parts { constants = d.parts.constants ++ literal ∷ [] } }

-- a name is among the globals
abbrev pub with_global : Name → Draft → Draft
with_global x d = record d { parts = record d.parts { names = bound d.parts.names x } }

-- ---- what holds of an emitter

-- at most three prefixes stand in a row, and none at the end
pub record AreSpelled (units : List CodeUnit) : Type 0 where
  pub few : (at : ℕ) → at ≤ length units → prefixes units at ≤ 3
  pub ends : prefixes units (length units) ≡ 0

-- each unit has its line and note, is spelled as it should be, no constant is a code, and no note speaks of more values than are counted
pub record IsMatched (d : Draft) : Type 0 where
  pub located : length d.parts.locations ≡ length d.parts.units
  pub noted : length d.parts.notes ≡ length d.parts.units
  pub spelled : AreSpelled d.parts.units
  pub no_code : list_all (is_earlier 0) d.parts.constants ≡ true
  pub room : (at : ℕ) (kinds : List Kind) (blocks : List BlockNote) → slice_get d.parts.notes at ≡ Some (Live kinds blocks) → length kinds ≤ d.deepest
  pub low : d.deepest ≤ 65535

-- each label up to the end, and each index, fits its bytes
pub record HasRoom (d : Draft) : Type 0 where
  pub low : d.labels ≤ 3
  pub units : end_of d < 256 ^ suc d.labels
  pub constants : length d.parts.constants ≤ 256 ^ suc d.others
  pub names : length d.parts.names ≤ 256 ^ suc d.others
  pub vars : length d.parts.vars ≤ 256 ^ suc d.others

-- parts go on as others
pub record Extends (old new : Parts) : Type 0 where
  pub units : Continues old.units new.units
  pub locations : Continues old.locations new.locations
  pub notes : Continues old.notes new.notes
  pub constants : Continues old.constants new.constants
  pub names : Continues old.names new.names
  pub vars : new.vars ≡ old.vars

-- so many units were put behind the others, with no more constants and names than there are indices among them; they match if the others did,
-- and if there is room for the labels and indices, they are laid so in all parts that go on behind them
pub record Emits (old new : Draft) (size : Weights → ℕ) (Laid : Parts → ℕ → ℕ → Type 0) : Type 0 where
  pub grows : Extends old.parts new.parts
  pub long : end_of new ≡ end_of old + size (weights_of old)
  pub few_constants : length new.parts.constants ≤ length old.parts.constants + size counted
  pub few_names : length new.parts.names ≤ length old.parts.names + size counted
  pub labels : new.labels ≡ old.labels
  pub others : new.others ≡ old.others
  pub matched : IsMatched old → IsMatched new
  pub laid : IsMatched old → HasRoom new → (whole : Parts) → Extends new.parts whole → Laid whole (end_of old) (end_of new)

-- ---- what is emitted

-- an instruction whose operand fits a byte
abbrev pub EmitsPlain : Draft → Draft → Scope → ℕ → Instruction → ℕ → Type 0
EmitsPlain old new scope line i arg = Emits old new (λ w. w.plain) (λ whole at next. Stands whole scope line at i arg next)

-- an instruction whose operand is a label, if that fits
abbrev pub EmitsJump : ℕ → Draft → Draft → Scope → ℕ → Instruction → ℕ → Type 0
EmitsJump labels old new scope line i label = Emits old new (λ w. w.jump) (λ whole at next. label < 256 ^ suc labels → Stands whole scope line at i label next)

abbrev pub EmitsConst : Draft → Draft → Scope → ℕ → Instruction → Literal → Type 0
EmitsConst old new scope line i literal = Emits old new (λ w. w.index) (λ whole at next. StandsConst whole scope line at i literal next)

-- a name has a place among these
abbrev pub IsPlaced : List Name → Name → Type 0
IsPlaced vars x = place vars x < length vars

-- an instruction whose operand is a local's place, if it has one
abbrev pub EmitsLocal : Draft → Draft → Scope → ℕ → Instruction → Name → Type 0
EmitsLocal old new scope line i x = Emits old new (λ w. w.index) (λ whole at next. IsPlaced whole.vars x → StandsLocal whole scope line at i x next)

abbrev pub EmitsAtom : Draft → Draft → Scope → ℕ → Atom → Type 0
EmitsAtom old new scope line a = Emits old new (λ w. w.index) (λ whole at next. LaidAtom whole scope line a at next)

abbrev pub EmitsCallee : Draft → Draft → Scope → ℕ → Option BuiltinFn → Type 0
EmitsCallee old new scope line fn = Emits old new (λ w. size_callee w fn) (λ whole at next. LaidCallee whole fn scope line at next)

abbrev pub EmitsExpr : Draft → Draft → Scope → ℕ → Expr → Type 0
EmitsExpr old new scope line e = Emits old new (λ w. size_expr w e) (λ whole at next. LaidExpr whole scope line e at next)

abbrev pub EmitsExprs : Draft → Draft → Scope → ℕ → Exprs → Type 0
EmitsExprs old new scope line es = Emits old new (λ w. size_exprs w es) (λ whole at next. LaidExprs whole scope line es at next)

abbrev pub EmitsTaken : Draft → Draft → Scope → ℕ → Expr → Instruction → ℕ → Type 0
EmitsTaken old new scope line e i arg = Emits old new (λ w. size_expr w e + w.plain) (λ whole at next. LaidTaken whole scope line e i arg at next)

-- the name that there may be has a place among these
abbrev pub TargetPlaced : List Name → Option Name → Type 0
TargetPlaced vars None = Unit {0}
TargetPlaced vars (Some x) = IsPlaced vars x

abbrev pub EmitsTarget : Draft → Draft → Scope → ℕ → Option Name → Type 0
EmitsTarget old new scope line x = Emits old new (λ w. size_target w x) (λ whole at next. TargetPlaced whole.vars x → LaidTarget whole scope line x at next)

abbrev mutual
  -- the names that a statement binds have places among these
  pub FormPlaced : List Name → Form → Type 0
  FormPlaced vars (Assign x e) = IsPlaced vars x
  FormPlaced vars (If a s) = SuitePlaced vars s
  FormPlaced vars (IfElse a s t) = SuitePlaced vars s × SuitePlaced vars t
  FormPlaced vars (While a s) = SuitePlaced vars s
  FormPlaced vars (TryExcept s cs) = SuitePlaced vars s × ClausesPlaced vars cs
  FormPlaced vars (TryFinally s t) = SuitePlaced vars s × SuitePlaced vars t
  FormPlaced vars (With a x s) = TargetPlaced vars x × SuitePlaced vars s
  FormPlaced vars f = Unit {0}

  pub SuitePlaced : List Name → Suite → Type 0
  SuitePlaced vars nothing = Unit {0}
  SuitePlaced vars (first n f more) = FormPlaced vars f × SuitePlaced vars more

  pub ClausesPlaced : List Name → Clauses → Type 0
  ClausesPlaced vars no_more = Unit {0}
  ClausesPlaced vars (clause n c x s more) = TargetPlaced vars x × SuitePlaced vars s × ClausesPlaced vars more

-- the labels of the loop around fit their bytes
abbrev pub AroundFits : ℕ → Around → Type 0
AroundFits labels None = Unit {0}
AroundFits labels (Some l) = (l.stop < 256 ^ suc labels) × (l.again < 256 ^ suc labels)

-- where labels have so many prefixes
abbrev pub EmitsForm : ℕ → Draft → Draft → Scope → ℕ → Form → Type 0
EmitsForm labels old new scope line f =
    Emits old new (λ w. size_form w f) (λ whole at next. AroundFits labels scope.around → FormPlaced whole.vars f → LaidForm whole scope line f at next)

-- a suite over which a jump leads, by the value of an expression
abbrev pub EmitsBranch : ℕ → Draft → Draft → Scope → ℕ → Expr → Instruction → Suite → Type 0
EmitsBranch labels old new scope line x i s =
    Emits old new (λ w. size_expr w x + w.jump + size_suite w s)
    (λ whole at next. AroundFits labels scope.around → SuitePlaced whole.vars s → LaidBranch whole scope line x i (λ begins to. LaidSuite whole scope s begins to) at next)

abbrev pub EmitsSuite : ℕ → Draft → Draft → Scope → Suite → Type 0
EmitsSuite labels old new scope s =
    Emits old new (λ w. size_suite w s) (λ whole at next. AroundFits labels scope.around → SuitePlaced whole.vars s → LaidSuite whole scope s at next)

module _ (parts : Parts) where
  -- a try with a finally, up to the finally: its body stands inside of a block with this handler
  abbrev pub LaidOpening : Scope → ℕ → Suite → ℕ → ℕ → ℕ → Type 0
  LaidOpening scope line s handler at next =
      (begins : ℕ) × (leaves : ℕ) × (enters : ℕ) × Stands parts scope line at op.SetupFinally handler begins × LaidSuite parts (before_finally handler scope) s begins leaves
      × Stands parts (before_finally handler scope) line leaves op.PopBlock 0 enters × Stands parts scope line enters op.EnterFinally 0 next

  -- a with up to its exit, which stands at the handler
  abbrev pub LaidManaged : Scope → ℕ → Expr → Option Name → Suite → ℕ → ℕ → ℕ → Type 0
  LaidManaged scope line a x s handler at next =
      (sets : ℕ) × (binds : ℕ) × (begins : ℕ) × (leaves : ℕ) × (enters : ℕ) × LaidExpr parts scope line a at sets × Stands parts (on scope) line sets op.SetupWith handler binds
      × LaidTarget parts (before_finally handler (on scope)) line x binds begins × LaidSuite parts (before_finally handler (on scope)) s begins leaves
      × Stands parts (before_finally handler (on scope)) line leaves op.PopBlock 0 enters × Stands parts (on scope) line enters op.EnterFinally 0 next

  -- the body of a try with clauses, which begin at the handler, and are jumped over to the end
  abbrev pub LaidTried : Scope → ℕ → Suite → ℕ → ℕ → ℕ → ℕ → Type 0
  LaidTried scope line s handler end at next =
      (begins : ℕ) × (leaves : ℕ) × (jumps : ℕ) × Stands parts scope line at op.SetupExcept handler begins × LaidSuite parts (in_try handler scope) s begins leaves
      × Stands parts (in_try handler scope) line leaves op.PopBlock 0 jumps × Stands parts scope line jumps op.Jump end next

  -- whether a clause matches is tested, and if not, another place is jumped to; then its name is bound
  abbrev pub LaidMatch : Scope → ℕ → Name → Option Name → ℕ → ℕ → ℕ → Type 0
  LaidMatch scope line c x other at next =
      (loads : ℕ) × (asks : ℕ) × (decides : ℕ) × (binds : ℕ) × Stands parts (on scope) line at op.Duplicate 0 loads × LaidAtom parts (on (on scope)) line (atom.Name c) loads asks
      × Stands parts (on (on (on scope))) line asks op.TestOperation (test_number test.ExceptionMatch) decides × Stands parts (on (on scope)) line decides op.JumpIfFalse other binds
      × LaidTarget parts scope line x binds next

abbrev pub EmitsOpening : ℕ → Draft → Draft → Scope → ℕ → Suite → ℕ → Type 0
EmitsOpening labels old new scope line s handler =
    Emits old new (λ w. size_opening w (size_suite w s))
    (λ whole at next. handler < 256 ^ suc labels → AroundFits labels scope.around → SuitePlaced whole.vars s → LaidOpening whole scope line s handler at next)

abbrev pub EmitsManaged : ℕ → Draft → Draft → Scope → ℕ → Expr → Option Name → Suite → ℕ → Type 0
EmitsManaged labels old new scope line a x s handler =
    Emits old new (λ w. size_managed w a x (size_suite w s))
    (λ whole at next. handler < 256 ^ suc labels → AroundFits labels scope.around → TargetPlaced whole.vars x → SuitePlaced whole.vars s → LaidManaged whole scope line a x s handler at next)

abbrev pub EmitsTried : ℕ → Draft → Draft → Scope → ℕ → Suite → ℕ → ℕ → Type 0
EmitsTried labels old new scope line s handler end =
    Emits old new (λ w. size_tried w s)
    (λ whole at next. handler < 256 ^ suc labels → end < 256 ^ suc labels → AroundFits labels scope.around → SuitePlaced whole.vars s → LaidTried whole scope line s handler end at next)

abbrev pub EmitsMatch : ℕ → Draft → Draft → Scope → ℕ → Name → Option Name → ℕ → Type 0
EmitsMatch labels old new scope line c x other =
    Emits old new (λ w. size_match w x) (λ whole at next. other < 256 ^ suc labels → TargetPlaced whole.vars x → LaidMatch whole scope line c x other at next)

-- a local is unset
abbrev pub EmitsForget : Draft → Draft → Scope → ℕ → Name → Type 0
EmitsForget old new scope line x = Emits old new size_forget (λ whole at next. IsPlaced whole.vars x → LaidForget whole scope line x at next)

-- the suite of a clause
abbrev pub EmitsHandler : ℕ → Draft → Draft → Scope → ℕ → Option Name → Suite → Type 0
EmitsHandler labels old new scope line x s =
    Emits old new (λ w. size_handler w x (size_suite w s)) (λ whole at next. AroundFits labels scope.around → TargetPlaced whole.vars x → SuitePlaced whole.vars s
    → LaidHandler whole scope line x (λ within begins ends. LaidSuite whole within s begins ends) at next)

-- clauses whose suites are left for this label; whatever clauses follow
abbrev pub EmitsClauses : ℕ → Draft → Draft → Scope → ℕ → Clauses → Type 0
EmitsClauses labels old new scope end cs =
    Emits old new (λ w. size_clauses w cs) (λ whole at next. end < 256 ^ suc labels → AroundFits labels scope.around → ClausesPlaced whole.vars cs
    → (line : ℕ) (more : Clauses) → LaidClauses whole scope line more next end → LaidClauses whole scope line (joined_clauses cs more) at end)

-- one clause
abbrev pub EmitsClause : ℕ → Draft → Draft → Scope → ℕ → ℕ → Name → Option Name → Suite → Type 0
EmitsClause labels old new scope end n c x s =
    Emits old new (λ w. size_clause w x (size_suite w s)) (λ whole at next. end < 256 ^ suc labels → AroundFits labels scope.around → TargetPlaced whole.vars x → SuitePlaced whole.vars s
    → (line : ℕ) (more : Clauses) → LaidClauses whole scope line more next end → LaidClauses whole scope line (clause n c x s more) at end)

-- a whole body, with the return at its end
abbrev pub EmitsBody : Draft → Draft → Tree → Type 0
EmitsBody old new t =
    Emits old new (λ w. size_body w t.suite)
    (λ whole at next. SuitePlaced whole.vars t.suite → (ends : ℕ) × LaidSuite whole (entry t.kind) t.suite at ends × StandsConst whole (entry t.kind) t.line ends op.ReturnConst NoneLiteral next)

-- all of a body is emitted
pub record IsEmitted (d : Draft) (t : Tree) : Type 0 where
  pub vars : d.parts.vars ≡ locals_of t
  pub laid : LaidBody d.parts t (end_of d)
  pub short : end_of d < 2 ^ 32
  pub matched : IsMatched d
