-- A reader of lines, by what it has read.
use Rattle.std.specs.Prelude.{◌≡◌, ◌==◌, ◌&&◌, not, ℕ, suc, List, [], ◌∷◌, ◌++◌, length, Option, Some, None, option_map, map, Bool, true, false}
use Rattle.py_tree.specs.declared.body.BodyKind.{BodyKind}
use Rattle.py_tree.specs.Tree.{Name, Expr, Form, Assign, Do, Show, Return, Raise, Reraise, Break, Continue, Pass, If, IfElse, While, TryExcept, TryFinally, With, Suite, nothing, Clauses, no_more, Tree}
use Rattle.py_tree.specs.Suites.{add, with_clause}
use Rattle.py_lines.specs.declared.drive.DriveLine.{DriveLine}
use Rattle.py_lines.specs.declared.head.Turn.{Turn}
use Rattle.py_lines.specs.declared.head.Turn.TheVariants as turn
use Rattle.py_lines.specs.declared.header.Header.{Header}
use Rattle.py_lines.specs.declared.header.Header.TheVariants as header
use Rattle.py_lines.specs.declared.raw.RawLine.{RawLine}
use Rattle.py_lines.specs.declared.raw.RawLine.TheVariants as raw
use Rattle.py_lines.specs.Line.{Line, LineRead, Blank, Said, Malformed}
use Rattle.py_lines.specs.Line as line
use Rattle.py_lines.specs.Statements.{Plain, Head}
use Rattle.py_lines.specs.Statements as said
use Rattle.py_lines.specs.Reading.{IsReadAs}
use Rattle.py_grammar.specs.declared.raw_block.RawUnit.{RawUnit}
use Rattle.py_grammar.specs.declared.rules.Inside.{Inside}
use Rattle.py_grammar.specs.Grammar.{Decl, ClassDecl, ManagerDecl, FunctionDecl, RawDecl, declared_as}
use Rattle.py_grammar.specs.RawRules.{have_depth, may_follow, may_run_behind}
use Rattle.py_grammar.specs.RawText.{RawText, bare_text, carried, raw_of}
use Rattle.py_grammar.specs.Rules.{callables, may_declare, may_derive, may_drive, may_manage, body_of, within, may_hold, may_open}
use Rattle.py_grammar.specs.Script.{Text}

-- ---- the body that is open

-- how an open block began: behind an else, with the suite of its if; behind an except, with the suite of its try, the clauses before it,
-- and its line, its class and the name that it binds; behind a finally, with the suite of its try; with the name that a `with` binds
pub data Began : Type 0 where
  in_if in_while : Expr → Began
  in_else : Expr → Suite → Began
  in_try : Began
  in_except : Suite → Clauses → ℕ → Name → Option Name → Began
  in_finally : Suite → Began
  in_with : Expr → Option Name → Began

abbrev pub began : Head → Began
began (said.If a) = in_if a
began (said.While a) = in_while a
began said.Try = in_try
began (said.With a x) = in_with a x

-- the line that opened it
abbrev pub opener : Began → Head
opener (in_if a) = said.If a
opener (in_else a s) = said.If a
opener (in_while a) = said.While a
opener in_try = said.Try
opener (in_except s cs n c x) = said.Try
opener (in_finally s) = said.Try
opener (in_with a x) = said.With a x

-- an open block: the statements before it in the block around it, its line and how it began
pub record Block : Type 0 where
  pub before : Suite
  pub line : ℕ
  pub began : Began

-- an open body: its header, its open blocks from the innermost out, and the statements of the innermost read so far
pub record Open : Type 0 where
  pub line : ℕ
  pub kind : BodyKind
  pub name : Name
  pub params : List Name
  pub blocks : List Block
  pub done : Suite

-- where the statements of the innermost block stand, in a body of this kind
abbrev pub inside_of : BodyKind → List Block → Inside
inside_of k [] = body_of k
inside_of k (b ∷ bs) = within (inside_of k bs) (opener b.began)

abbrev pub inside : Open → Inside
inside o = inside_of o.kind o.blocks

abbrev pub opened : ℕ → BodyKind → Name → List Name → Open
opened n k f ps = record { line = n; kind = k; name = f; params = ps; blocks = []; done = nothing }

-- ---- lines of a body

abbrev pub only_if : {X : Type 0} → Bool → X → Option X
only_if true x = Some x
only_if false x = None

-- the statement that a plain line is
abbrev pub plain_form : Plain → Form
plain_form (said.Assign x e) = Assign x e
plain_form (said.Do o es) = Do o es
plain_form (said.Show a) = Show a
plain_form (said.Return a) = Return a
plain_form (said.Raise a) = Raise a
plain_form said.Reraise = Reraise
plain_form said.Break = Break
plain_form said.Continue = Continue
plain_form said.Pass = Pass

-- one more statement
abbrev pub grown : Open → ℕ → Form → Open
grown o n f = record o { done = add o.done n f }

-- one more open block
abbrev pub deeper : Open → ℕ → Head → Open
deeper o n h = record o { blocks = record { before = o.done; line = n; began = began h } ∷ o.blocks; done = nothing }

-- how a block goes on behind an else and its last suite, where it may turn so: an if without an else
abbrev pub else_behind : Began → Suite → Option Began
else_behind (in_if a) s = Some (in_else a s)
else_behind g s = None

-- behind an except in this line: a try without a finally
abbrev pub except_behind : ℕ → Name → Option Name → Began → Suite → Option Began
except_behind n c x in_try s = Some (in_except s no_more n c x)
except_behind n c x (in_except t cs m d y) s = Some (in_except t (with_clause cs m d y s) n c x)
except_behind n c x g s = None

-- behind a finally: a try without a clause or a finally
abbrev pub finally_behind : Began → Suite → Option Began
finally_behind in_try s = Some (in_finally s)
finally_behind g s = None

-- how a block goes on behind this turn, which is the n-th line, and its last suite, where it may turn so
abbrev pub turned_by : ℕ → Turn → Began → Suite → Option Began
turned_by n turn.Else g s = else_behind g s
turned_by n (turn.Except c x) g s = except_behind n c x g s
turned_by n turn.Finally g s = finally_behind g s

abbrev pub turned_to : Open → Block → List Block → Began → Open
turned_to o b bs g = record o { blocks = record b { began = g } ∷ bs; done = nothing }

-- a turn, where these blocks are open
abbrev pub turned : Open → ℕ → Turn → List Block → Option Open
turned o n t [] = None
turned o n t (b ∷ bs) = option_map (turned_to o b bs) (turned_by n t b.began o.done)

-- a line of a body other than an end
abbrev pub goes_on : Open → ℕ → Line → Option Open
goes_on o n line.End = None
goes_on o n (line.Plain p) = only_if (may_hold (inside o) p) (grown o n (plain_form p))
goes_on o n (line.Opens h) = only_if (may_open (inside o) h) (deeper o n h)
goes_on o n (line.Turns t) = turned o n t o.blocks
goes_on o n (line.Header h) = None
goes_on o n (line.Drive d) = None
goes_on o n (line.Raw r) = None

-- the statement that a block with this last suite is at its end, where it may end: a try needs a clause or a finally
abbrev pub ended : Began → Suite → Option Form
ended (in_if a) s = Some (If a s)
ended (in_else a t) s = Some (IfElse a t s)
ended (in_while a) s = Some (While a s)
ended in_try s = None
ended (in_except t cs n c x) s = Some (TryExcept t (with_clause cs n c x s))
ended (in_finally t) s = Some (TryFinally t s)
ended (in_with a x) s = Some (With a x s)

-- what an end closes: the body, or its innermost block
pub data Closing : Type 0 where
  whole_body : Tree → Closing
  one_block : Open → Closing

-- the function that an open body is at its end
abbrev pub function_of : Open → Tree
function_of o = record { kind = o.kind; name = o.name; params = o.params; suite = o.done; line = o.line }

abbrev pub ended_in : Open → Block → List Block → Form → Open
ended_in o b bs f = record o { blocks = bs; done = add b.before b.line f }

-- an end, where these blocks are open
abbrev pub closed : Open → List Block → Option Closing
closed o [] = Some (whole_body (function_of o))
closed o (b ∷ bs) = option_map (λ f. one_block (ended_in o b bs f)) (ended b.began o.done)

-- ---- lines of a raw code

-- one more header line, in front of the units
abbrev pub with_said : List Name → RawText → RawLine → Option RawText
with_said fs t l =
    only_if ((length t.units == 0) && may_follow fs t.head l) (record t { head = t.head ++ l ∷ [] })

-- one more unit, behind the depth
abbrev pub with_unit : RawText → RawUnit → Option RawText
with_unit t u =
    only_if (have_depth t.head && may_run_behind (carried t.units) u) (record t { units = t.units ++ u ∷ [] })

-- a line of a raw code other than its end, behind functions of these names
abbrev pub code_line : List Name → RawText → ℕ → RawLine → Option RawText
code_line fs t n (raw.Unit i a x) = with_unit t (record { line = n; op = i; arg = a; note = x })
code_line fs t n l = with_said fs t l

-- ---- lines of a script

-- what is open: a body, or a raw code by what its lines were so far
pub data Unclosed : Type 0 where
  open_body : Open → Unclosed
  open_code : RawText → Unclosed

-- what was read
pub record State : Type 0 where
  pub decls : List Decl
  pub drives : List DriveLine
  pub inside : Option Unclosed

abbrev pub state : List Decl → List DriveLine → Option Unclosed → State
state ts ds i = record { decls = ts; drives = ds; inside = i }

-- nothing was read
abbrev pub start : State
start = state [] [] None

abbrev pub closes : List Decl → List DriveLine → Closing → State
closes ts ds (whole_body t) = state (ts ++ FunctionDecl t ∷ []) ds None
closes ts ds (one_block o) = state ts ds (Some (open_body o))

abbrev pub still_inside : List Decl → List DriveLine → Option Open → Option State
still_inside ts ds o = option_map (λ x. state ts ds (Some (open_body x))) o

abbrev pub still_coded : List Decl → List DriveLine → Option RawText → Option State
still_coded ts ds t = option_map (λ x. state ts ds (Some (open_code x))) t

-- a line where a body is open
abbrev pub in_body : List Decl → List DriveLine → Open → ℕ → Line → Option State
in_body ts ds o n line.End = option_map (closes ts ds) (closed o o.blocks)
in_body ts ds o n (line.Plain p) = still_inside ts ds (goes_on o n (line.Plain p))
in_body ts ds o n (line.Opens h) = still_inside ts ds (goes_on o n (line.Opens h))
in_body ts ds o n (line.Turns t) = still_inside ts ds (goes_on o n (line.Turns t))
in_body ts ds o n (line.Header h) = None
in_body ts ds o n (line.Drive d) = None
in_body ts ds o n (line.Raw r) = None

-- a line where a raw code is open: it ends behind a unit
abbrev pub in_code : List Decl → List DriveLine → RawText → ℕ → Line → Option State
in_code ts ds t n line.End =
    only_if (not (length t.units == 0)) (state (ts ++ RawDecl (raw_of t) ∷ []) ds None)
in_code ts ds t n (line.Raw l) = still_coded ts ds (code_line (callables (map declared_as ts)) t n l)
in_code ts ds t n l = None

-- a header: a class or a manager is declared in one line, a function opens its body, and a raw code its lines
abbrev pub headed : List Decl → List DriveLine → ℕ → Header → Option State
headed ts ds n (header.Def k f ps) = only_if (may_declare (map declared_as ts) f ps) (state ts ds (Some (open_body (opened n k f ps))))
headed ts ds n (header.Code f ps) = only_if (may_declare (map declared_as ts) f ps) (state ts ds (Some (open_code (bare_text n f ps))))
headed ts ds n (header.Class c b) = only_if (may_derive (map declared_as ts) c b) (state (ts ++ ClassDecl c b ∷ []) ds None)
headed ts ds n (header.Manager m e x) = only_if (may_manage (map declared_as ts) m e x) (state (ts ++ ManagerDecl m e x ∷ []) ds None)

-- a line outside of bodies
abbrev pub outside : List Decl → List DriveLine → ℕ → Line → Option State
outside ts ds n line.End = None
outside ts ds n (line.Plain p) = None
outside ts ds n (line.Opens h) = None
outside ts ds n (line.Turns t) = None
outside ts ds n (line.Header h) = headed ts ds n h
outside ts ds n (line.Raw r) = None
outside ts ds n (line.Drive d) = only_if (may_drive (map declared_as ts) (length ds) d) (state ts (ds ++ d ∷ []) None)

abbrev pub accept_at : List Decl → List DriveLine → Option Unclosed → ℕ → Line → Option State
accept_at ts ds None n l = outside ts ds n l
accept_at ts ds (Some (open_body o)) n l = in_body ts ds o n l
accept_at ts ds (Some (open_code t)) n l = in_code ts ds t n l

-- a line, where it may stand here
abbrev pub accept : State → ℕ → Line → Option State
accept st n l = accept_at st.decls st.drives st.inside n l

-- what a line says, where it may stand here
abbrev pub takes_line : State → ℕ → LineRead → Option State
takes_line st n Malformed = None
takes_line st n Blank = Some st
takes_line st n (Said l) = accept st n l

-- ---- a whole text

-- what comes of a text: its script, or its bad line
pub data Verdict : Type 0 where
  Good : List Decl → List DriveLine → Verdict
  Bad : ℕ → Verdict

abbrev pub at_end : List Decl → List DriveLine → Option Unclosed → ℕ → Verdict
at_end ts ds None n = Good ts ds
at_end ts ds (Some o) n = Bad n

-- a verdict where the n-th line is taken or refused; `next` says how it goes on from a state
abbrev pub Goes : Option State → ℕ → (State → Verdict → Type 0) → Verdict → Type 0
Goes None n next v = v ≡ Bad n
Goes (Some st) n next v = next st v

-- the verdict on the lines from the n-th on
abbrev pub WalksTo : State → ℕ → Text → Verdict → Type 0
WalksTo st n [] v = v ≡ at_end st.decls st.drives st.inside n
WalksTo st n (l ∷ ls) v = (r : LineRead) × IsReadAs l r × Goes (takes_line st n r) n (λ st2 w. WalksTo st2 (suc n) ls w) v
