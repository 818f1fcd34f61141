-- Scripts as trees, the rows that a tree prints, and the rules that it keeps.
use Rattle.std.specs.Prelude.{◌≡◌, ◌==◌, ℕ, suc, List, [], ◌∷◌, ◌++◌, length, Option, true, false, map}
use Rattle.py_tree.specs.Tree.{Name, Form, Assign, Do, Show, Return, Raise, Reraise, Break, Continue, Pass, If, IfElse, While, TryExcept, TryFinally, With, Suite, nothing, first, Clauses, no_more, clause, Tree}
use Rattle.py_lines.specs.declared.drive.DriveLine.{DriveLine}
use Rattle.py_lines.specs.declared.head.Turn.TheVariants as turn
use Rattle.py_lines.specs.declared.header.Header.TheVariants as header
use Rattle.py_lines.specs.declared.raw.RawLine.{RawLine}
use Rattle.py_lines.specs.declared.raw.RawLine.TheVariants as raw
use Rattle.py_lines.specs.Line.{Line}
use Rattle.py_lines.specs.Line as line
use Rattle.py_lines.specs.Statements.{Plain, Head}
use Rattle.py_lines.specs.Statements as said
use Rattle.py_grammar.specs.declared.raw_block.RawBlock.{RawBlock}
use Rattle.py_grammar.specs.declared.raw_block.RawUnit.{RawUnit}
use Rattle.py_grammar.specs.declared.rules.Inside.{Inside}
use Rattle.py_grammar.specs.RawRules.{all_run, have_depth, may_all_follow}
use Rattle.py_grammar.specs.RawText.{RawText, raw_of}
use Rattle.py_grammar.specs.Rules.{Kind, OfClass, OfManager, OfFunction, Declared, callables, may_declare, may_derive, may_drive, may_manage, body_of, within, may_hold, may_open}

-- a declaration: a class by its name and its base, a manager by its name, its enter and its exit, a function by its body, or
-- one by the units of its code
pub data Decl : Type 0 where
  ClassDecl : Name → Name → Decl
  ManagerDecl : Name → Name → Name → Decl
  FunctionDecl : Tree → Decl
  RawDecl : RawBlock → Decl

abbrev pub decl_name : Decl → Name
decl_name (ClassDecl c b) = c
decl_name (ManagerDecl m e x) = m
decl_name (FunctionDecl t) = t.name
decl_name (RawDecl b) = b.name

abbrev pub decl_kind : Decl → Kind
decl_kind (ClassDecl c b) = OfClass
decl_kind (ManagerDecl m e x) = OfManager
decl_kind (FunctionDecl t) = OfFunction
decl_kind (RawDecl b) = OfFunction

-- what a code is of: the body of a function, or what was written unit by unit
pub data Coded : Type 0 where
  OfBody : Tree → Coded
  OfRaw : RawBlock → Coded

-- the name that a code has
abbrev pub coded_name : Coded → Name
coded_name (OfBody t) = t.name
coded_name (OfRaw b) = b.name

-- what the codes of declarations are of, in order; the number of a code is its place among them
abbrev pub codes_in : List Decl → List Coded
codes_in [] = []
codes_in (ClassDecl c b ∷ ds) = codes_in ds
codes_in (ManagerDecl m e x ∷ ds) = codes_in ds
codes_in (FunctionDecl t ∷ ds) = OfBody t ∷ codes_in ds
codes_in (RawDecl b ∷ ds) = OfRaw b ∷ codes_in ds

-- one thing that a script says outside of bodies; a raw code is what its lines were in their order
pub data Item : Type 0 where
  Declares : Decl → Item
  Codes : RawText → Item
  Drives : DriveLine → Item

-- a declaration as later lines see it
abbrev pub declared_as : Decl → Declared
declared_as d = record { name = decl_name d; kind = decl_kind d }

-- ---- the rows that a tree prints

-- a line that isn't blank; its number is 0 where no tree keeps it
pub record Row : Type 0 where
  pub number : ℕ
  pub line : Line

-- the number that trees keep of a line
abbrev pub kept_number : ℕ → Line → ℕ
kept_number n line.End = 0
kept_number n (line.Plain p) = n
kept_number n (line.Opens h) = n
kept_number n (line.Turns turn.Else) = 0
kept_number n (line.Turns (turn.Except c x)) = n
kept_number n (line.Turns turn.Finally) = 0
kept_number n (line.Header (header.Def k f ps)) = n
kept_number n (line.Header (header.Code f ps)) = n
kept_number n (line.Header (header.Class c b)) = 0
kept_number n (line.Header (header.Manager m e x)) = 0
kept_number n (line.Drive d) = 0
kept_number n (line.Raw (raw.Unit i a x)) = n
kept_number n (line.Raw l) = 0

abbrev pub row : ℕ → Line → Row
row n l = record { number = kept_number n l; line = l }

abbrev pub end_row : Row
end_row = row 0 line.End

abbrev pub else_row : Row
else_row = row 0 (line.Turns turn.Else)

abbrev pub finally_row : Row
finally_row = row 0 (line.Turns turn.Finally)

-- the row of a plain statement, and the one that opens a block
abbrev pub plain_rows : ℕ → Plain → List Row
plain_rows n p = row n (line.Plain p) ∷ []

abbrev pub head_row : ℕ → Head → Row
head_row n h = row n (line.Opens h)

-- the row that begins a clause
abbrev pub except_row : ℕ → Name → Option Name → Row
except_row n c x = row n (line.Turns (turn.Except c x))

abbrev mutual
  -- the rows of a statement
  pub form_rows : ℕ → Form → List Row
  form_rows n (Assign x e) = plain_rows n (said.Assign x e)
  form_rows n (Do o es) = plain_rows n (said.Do o es)
  form_rows n (Show a) = plain_rows n (said.Show a)
  form_rows n (Return a) = plain_rows n (said.Return a)
  form_rows n (Raise a) = plain_rows n (said.Raise a)
  form_rows n Reraise = plain_rows n said.Reraise
  form_rows n Break = plain_rows n said.Break
  form_rows n Continue = plain_rows n said.Continue
  form_rows n Pass = plain_rows n said.Pass
  form_rows n (If a s) = head_row n (said.If a) ∷ (suite_rows s ++ end_row ∷ [])
  form_rows n (IfElse a s t) = head_row n (said.If a) ∷ (suite_rows s ++ else_row ∷ (suite_rows t ++ end_row ∷ []))
  form_rows n (While a s) = head_row n (said.While a) ∷ (suite_rows s ++ end_row ∷ [])
  form_rows n (TryExcept s cs) = head_row n said.Try ∷ (suite_rows s ++ (clauses_rows cs ++ end_row ∷ []))
  form_rows n (TryFinally s t) = head_row n said.Try ∷ (suite_rows s ++ finally_row ∷ (suite_rows t ++ end_row ∷ []))
  form_rows n (With a x s) = head_row n (said.With a x) ∷ (suite_rows s ++ end_row ∷ [])

  pub suite_rows : Suite → List Row
  suite_rows nothing = []
  suite_rows (first n f more) = form_rows n f ++ suite_rows more

  pub clauses_rows : Clauses → List Row
  clauses_rows no_more = []
  clauses_rows (clause n c x s more) = except_row n c x ∷ (suite_rows s ++ clauses_rows more)

-- a header line of a raw code, and a unit
abbrev pub said_row : RawLine → Row
said_row l = record { number = 0; line = line.Raw l }

abbrev pub unit_row : RawUnit → Row
unit_row u = row u.line (line.Raw (raw.Unit u.op u.arg u.note))

-- those of a raw code behind its first line
abbrev pub inner_rows : RawText → List Row
inner_rows t = map said_row t.head ++ map unit_row t.units

abbrev pub code_row : RawText → Row
code_row t = row t.line (line.Header (header.Code t.name t.params))

-- the rows of a raw code
abbrev pub code_rows : RawText → List Row
code_rows t = code_row t ∷ (inner_rows t ++ end_row ∷ [])

-- those of a declaration; of a raw code they are known by its lines alone
abbrev pub decl_rows : Decl → List Row
decl_rows (ClassDecl c b) = row 0 (line.Header (header.Class c b)) ∷ []
decl_rows (ManagerDecl m e x) = row 0 (line.Header (header.Manager m e x)) ∷ []
decl_rows (FunctionDecl t) = row t.line (line.Header (header.Def t.kind t.name t.params)) ∷ (suite_rows t.suite ++ end_row ∷ [])
decl_rows (RawDecl b) = []

abbrev pub item_rows : Item → List Row
item_rows (Declares d) = decl_rows d
item_rows (Codes t) = code_rows t
item_rows (Drives d) = row 0 (line.Drive d) ∷ []

-- the rows of a whole script
abbrev pub items_rows : List Item → List Row
items_rows [] = []
items_rows (i ∷ is) = item_rows i ++ items_rows is

abbrev pub decls_in : List Item → List Decl
decls_in [] = []
decls_in (Declares d ∷ is) = d ∷ decls_in is
decls_in (Codes t ∷ is) = RawDecl (raw_of t) ∷ decls_in is
decls_in (Drives d ∷ is) = decls_in is

abbrev pub drives_in : List Item → List DriveLine
drives_in [] = []
drives_in (Declares d ∷ is) = drives_in is
drives_in (Codes t ∷ is) = drives_in is
drives_in (Drives d ∷ is) = d ∷ drives_in is

-- ---- the rules that it keeps

-- there is a clause
abbrev pub HasClause : Clauses → Type 0
HasClause no_more = ⊥
HasClause (clause n c x s more) = Unit {0}

abbrev mutual
  -- a statement keeps the rules where it stands; a try has a clause or a finally
  pub WellForm : Inside → Form → Type 0
  WellForm i (Assign x e) = may_hold i (said.Assign x e) ≡ true
  WellForm i (Do o es) = may_hold i (said.Do o es) ≡ true
  WellForm i (Show a) = may_hold i (said.Show a) ≡ true
  WellForm i (Return a) = may_hold i (said.Return a) ≡ true
  WellForm i (Raise a) = may_hold i (said.Raise a) ≡ true
  WellForm i Reraise = may_hold i said.Reraise ≡ true
  WellForm i Break = may_hold i said.Break ≡ true
  WellForm i Continue = may_hold i said.Continue ≡ true
  WellForm i Pass = may_hold i said.Pass ≡ true
  WellForm i (If a s) = (may_open i (said.If a) ≡ true) × WellSuite (within i (said.If a)) s
  WellForm i (IfElse a s t) = (may_open i (said.If a) ≡ true) × (WellSuite (within i (said.If a)) s × WellSuite (within i (said.If a)) t)
  WellForm i (While a s) = (may_open i (said.While a) ≡ true) × WellSuite (within i (said.While a)) s
  WellForm i (TryExcept s cs) = (may_open i said.Try ≡ true) × (HasClause cs × (WellSuite (within i said.Try) s × WellClauses (within i said.Try) cs))
  WellForm i (TryFinally s t) = (may_open i said.Try ≡ true) × (WellSuite (within i said.Try) s × WellSuite (within i said.Try) t)
  WellForm i (With a x s) = (may_open i (said.With a x) ≡ true) × WellSuite (within i (said.With a x)) s

  -- so do statements in order
  pub WellSuite : Inside → Suite → Type 0
  WellSuite i nothing = Unit {0}
  WellSuite i (first n f more) = WellForm i f × WellSuite i more

  -- and the suites of clauses
  pub WellClauses : Inside → Clauses → Type 0
  WellClauses i no_more = Unit {0}
  WellClauses i (clause n c x s more) = WellSuite i s × WellClauses i more

-- so does a raw code behind these declarations: its header lines stand before its units, one of them is the depth, there
-- is a unit, and each runs so far
pub record WellCode (ds : List Declared) (t : RawText) : Type 0 where
  pub declared : may_declare ds t.name t.params ≡ true
  pub head : may_all_follow (callables ds) [] t.head ≡ true
  pub deep : have_depth t.head ≡ true
  pub some : (length t.units == 0) ≡ false
  pub run : all_run 0 t.units ≡ true

-- so does a declaration that follows these; a raw code does by its lines
abbrev pub WellDecl : List Declared → Decl → Type 0
WellDecl ds (ClassDecl c b) = may_derive ds c b ≡ true
WellDecl ds (ManagerDecl m e x) = may_manage ds m e x ≡ true
WellDecl ds (FunctionDecl t) = (may_declare ds t.name t.params ≡ true) × WellSuite (body_of t.kind) t.suite
WellDecl ds (RawDecl b) = ⊥

-- so do the items that follow these declarations and so many drives
abbrev pub WellItems : List Declared → ℕ → List Item → Type 0
WellItems ds made [] = Unit {0}
WellItems ds made (Declares d ∷ is) = WellDecl ds d × WellItems (ds ++ declared_as d ∷ []) made is
WellItems ds made (Codes t ∷ is) = WellCode ds t × WellItems (ds ++ declared_as (RawDecl (raw_of t)) ∷ []) made is
WellItems ds made (Drives d ∷ is) = (may_drive ds made d ≡ true) × WellItems ds (suc made) is
