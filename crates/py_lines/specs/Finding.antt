-- What readers of tokens find, as they promise each other.
use Rattle.std.specs.Prelude.{◌≡◌, ◌≢◌, ◌≤◌, ℕ, Bool, true, false, List, [], ◌∷◌, map, Option, Some, None, MatchOption, length, drop}
use Rattle.py_tree.specs.declared.expr.Operator.{Operator}
use Rattle.py_tree.specs.declared.expr.Expr.{Expr as OwnExpr}
use Rattle.py_tree.specs.declared.expr.ExprList.{ExprList as OwnExprs}
use Rattle.py_tree.specs.Tree.{Name, Expr, Exprs}
use Rattle.py_tree.specs.ExprViews.{expr_of, exprs_of}
use Rattle.py_tree.specs.Compilable.{deep, deepest}
use Rattle.py_lines.specs.declared.head.Head.{Head as OwnHead}
use Rattle.py_lines.specs.declared.line.Line.{Line as OwnLine}
use Rattle.py_lines.specs.declared.meaning.Sense.{Sense}
use Rattle.py_lines.specs.declared.plain.Plain.{Plain as OwnPlain}
use Rattle.py_lines.specs.Line.{Line, LineRead, Blank, Said, Malformed}
use Rattle.py_lines.specs.Meaning.{Meaning, Close}
use Rattle.py_lines.specs.Senses.{meaning_of}
use Rattle.py_lines.specs.Printing.{expr_tokens, exprs_tokens, head_tokens, line_tokens, operator_word, plain_tokens, target_tokens}
use Rattle.py_lines.specs.Reading.{ExprIsLow, HeadIsLow, LineIsLow, PlainIsLow}
use Rattle.py_lines.specs.Views.{head_of, line_of, plain_of}

-- what was found among tokens of which a finding prints its own: None where no finding prints these
abbrev pub Prints : {X T : Type 0} → (X → T) → T → Option X → Type 0
Prints {X = X} printing ts None = (x : X) → ts ≢ printing x
Prints printing ts (Some x) = ts ≡ printing x

-- the same among tokens as the program has them, and where one that means this stood before them
abbrev pub Reads : {X : Type 0} → (X → List Meaning) → List Sense → Option X → Type 0
Reads printing tokens found = Prints printing (map meaning_of tokens) found

abbrev pub ReadsAfter : {X : Type 0} → Meaning → (X → List Meaning) → List Sense → Option X → Type 0
ReadsAfter first printing tokens found = Prints printing (first ∷ map meaning_of tokens) found

-- what was found is all: no tokens are left
abbrev pub IsAlone : {X : Type 0} → X → List Sense → Option X → Type 0
IsAlone found tokens result = MatchOption result (map meaning_of tokens ≢ []) (λ same. (same ≡ found) × (map meaning_of tokens ≡ []))

-- what was found among tokens is seen as a finding that prints them: one of those that may be found
abbrev pub Shows : {X Y T : Type 0} → (Y → X) → (X → Type 0) → (X → T) → T → Option Y → Type 0
Shows {X = X} view May printing ts None = (x : X) → May x → ts ≢ printing x
Shows view May printing ts (Some y) = (ts ≡ printing (view y)) × May (view y)

-- an expression that is all tokens, and one with the name that a line binds behind it
abbrev pub ShowsExpr : List Meaning → Option OwnExpr → Type 0
ShowsExpr ts found = Shows expr_of ExprIsLow (λ e. expr_tokens e []) ts found

abbrev pub ShowsTarget : List Meaning → Option (OwnExpr × Option Name) → Type 0
ShowsTarget ts found =
    Shows {X = Expr × Option Name} (λ (p : OwnExpr × Option Name). (expr_of p.0, p.1)) (λ (p : Expr × Option Name). ExprIsLow p.0)
    (λ (p : Expr × Option Name). expr_tokens p.0 (target_tokens p.1)) ts found

-- a plain statement, a line that opens a block, and any line
abbrev pub ShowsPlain : List Meaning → Option OwnPlain → Type 0
ShowsPlain ts found = Shows plain_of PlainIsLow plain_tokens ts found

abbrev pub ShowsHead : List Meaning → Option OwnHead → Type 0
ShowsHead ts found = Shows head_of HeadIsLow head_tokens ts found

abbrev pub ShowsLine : List Meaning → Option OwnLine → Type 0
ShowsLine ts found = Shows line_of LineIsLow line_tokens ts found

-- how tokens read that are no comment
abbrev pub AreReadAs : List Meaning → LineRead → Type 0
AreReadAs ts Blank = ts ≡ []
AreReadAs ts (Said l) = (ts ≡ line_tokens l) × LineIsLow l
AreReadAs ts Malformed = (ts ≢ []) × ((l : Line) → LineIsLow l → ts ≢ line_tokens l)

-- ---- expressions among other tokens

-- the operator that a word is, if any
abbrev pub IsOperator : Name → Option Operator → Type 0
IsOperator w None = (o : Operator) → w ≢ operator_word o
IsOperator w (Some o) = w ≡ operator_word o

-- whether a parenthesis that closes stands in front
abbrev pub begins_closed : List Meaning → Bool
begins_closed (Close ∷ ts) = true
begins_closed ts = false

-- an expression is the first tokens, so many, and no more than so many operators stand inside of one another
abbrev pub Fronts : ℕ → List Meaning → Expr → ℕ → Type 0
Fronts room ts e n = (ts ≡ expr_tokens e (drop n ts)) × (deep e ≤ room) × (1 ≤ n) × (n ≤ length ts)

-- none stands in front
abbrev pub NoneFronts : ℕ → List Meaning → Type 0
NoneFronts room ts = (e : Expr) (rest : List Meaning) → deep e ≤ room → ts ≢ expr_tokens e rest

-- operands up to the parenthesis that closes, which are so many tokens with it
abbrev pub Operands : ℕ → List Meaning → Exprs → ℕ → Type 0
Operands room ts es n = (ts ≡ exprs_tokens es (Close ∷ drop n ts)) × (deepest es ≤ room) × (n ≤ length ts)

abbrev pub NoOperands : ℕ → List Meaning → Type 0
NoOperands room ts = (es : Exprs) (rest : List Meaning) → deepest es ≤ room → ts ≢ exprs_tokens es (Close ∷ rest)

-- what a reader finds: the expression that stands in front and how many tokens it is, or that none does; operands likewise
abbrev pub FindsFront : ℕ → List Meaning → Option (OwnExpr × ℕ) → Type 0
FindsFront room ts found = MatchOption found (NoneFronts room ts) (λ p. Fronts room ts (expr_of p.0) p.1)

abbrev pub FindsOperands : ℕ → List Meaning → Option (OwnExprs × ℕ) → Type 0
FindsOperands room ts found = MatchOption found (NoOperands room ts) (λ p. Operands room ts (exprs_of p.0) p.1)
