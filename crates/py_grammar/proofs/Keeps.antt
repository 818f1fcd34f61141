-- What the rules on scripts keep for the layers above.
use Rattle.std.proofs.Common.{◌≡◌, ◌≢◌, ◌<◌, ◌≤◌, ℕ, List, [], ◌∷◌, ◌++◌, ◌+◌, Some, slice_get, take, length, Bool, true, false, ◌&&◌, ◌||◌, not, refl, sym, ap, inl, inr, ◌∙◌, append_assoc, append-nil, subst, arith, map, get_or, suc, zero}
use Rattle.std.proofs.lemmas.List.{map-append}
use Rattle.std.proofs.lemmas.List.Elements.{All-nil, All-cons}
use Rattle.std.proofs.lemmas.List.Kept.{AllPairs-cons}
use Rattle.std.proofs.lemmas.List.Quantifiers.{all_pairs_push}
use Rattle.std.proofs.lemmas.List.Folds.{Any-from_list_any, list_any-append}
use Rattle.std.proofs.lemmas.Bool.{eqb-true, leb-true, ltb-true, and_parts, not-true, or_parts, or_left}
use Rattle.std.proofs.lemmas.Slice.Eq.{bytes_eq-Decides}
use Rattle.std.specs.Prelude.{All, Any, Option, None, ◌==◌, bytes_eq, nat_le, nat_lt}
use Rattle.std.specs.List.{list_any, list_all}
use Rattle.py_tree.specs.declared.body.BodyKind.{BodyKind}
use Rattle.py_tree.specs.declared.body.BodyKind.TheVariants as body
use Rattle.py_tree.specs.Operators.{Way, Asks_one, Asks_two, Calls_it, Yields_it, way_of}
use Rattle.py_tree.specs.Tree.{Name, Expr, Leaf, Operate, Exprs, no_operands, operand, Form, Assign, Do, Show, Return, Raise, Break, Continue, If, IfElse, While, TryExcept, TryFinally, With, Suite, nothing, first, Clauses, no_more, clause, Tree}
use Rattle.py_tree.specs.Compilable.{IsCompilable, OperandsFit, EachFits, AllFit, ExprFits, operands, FormFits, SuiteFits, ClausesFit, FormNests, SuiteNests, ClausesNest, statements}
use Rattle.py_lines.specs.declared.drive.DriveAtom.{DriveAtom}
use Rattle.py_lines.specs.declared.drive.DriveAtom.TheVariants as argument
use Rattle.py_lines.specs.declared.drive.DriveLine.{DriveLine}
use Rattle.py_lines.specs.declared.drive.DriveLine.TheVariants as drive
use Rattle.py_lines.specs.Statements as said
use Rattle.py_lines.specs.Statements.{Head}
use Rattle.py_grammar.specs.declared.rules.Inside.{Inside}
use Rattle.py_grammar.specs.declared.script.Script.{Script}
use Rattle.py_grammar.specs.Rules.{Declared, is_among, all_differ, declares, declares_callable, is_callable, is_class, is_base, is_new, is_builtin_class, callables, may_declare, may_manage, numbers_drive, is_drivable, is_thrown, may_drive, may_yield, may_operate, may_compute, may_compute_all, may_begin, may_open, body_of, within}
use Rattle.py_grammar.specs.Grammar.{Decl, ClassDecl, ManagerDecl, FunctionDecl, RawDecl, decl_name, decl_kind, coded_name, codes_in, Item, Declares, Codes, Drives, declared_as, form_rows, suite_rows, clauses_rows, end_row, else_row, finally_row, said_row, unit_row, inner_rows, code_rows, decl_rows, WellForm, WellSuite, WellClauses, WellCode, WellDecl, WellItems, items_rows, decls_in, drives_in}
use Rattle.py_grammar.specs.RawText.{RawText, head_of, raw_of}
use Rattle.py_grammar.specs.Script.{IsScript, decls_of}
use Rattle.py_grammar.specs.Tables.{names_of}
use Rattle.py_grammar.specs.WellFormed.{AreDistinct, IsFunctionNamed, IsClassNamed, IsFunction, IsClass, IsKnown, IsWellDeclared, NumbersDrive, IsDrivable, IsThrowable, IsWellDriven, AreWellDriven, AreWellFormed, IsWellFormed}
use Rattle.py_lines.specs.Reading.{ExprIsLow}
use Rattle.py_grammar.specs.Lines.{lines}
use Rattle.py_grammar.proofs.Low.{AreLow, low_parts, rows_low}
use Rattle.py_grammar.proofs.Short.{decl_size, script_size, size_append, size_of}
use Rattle.py_grammar.proofs.KeepsCodes.{HeadKeeps, head_keeps}
use Rattle.py_grammar.proofs.RawLines.{some_by_test}
use Rattle.py_grammar.proofs.Tables.{declares-names}
use Rattle.py_grammar.proofs.Tests.{all_by_test}
use Rattle.py_grammar.proofs.Whole.{well_behind_one}

-- ---- names

-- what tests on names tell
differs_by_test : (x y : Name) → bytes_eq x y ≡ false → x ≢ y
differs_by_test x y h e = let t : bytes_eq x y ≡ true = (bytes_eq-Decides x y).1 e in let f : false ≡ true = sym h ∙ t in cc f

others_differ : (x : Name) (ys : List Name) → is_among x ys ≡ false → All (λ y. x ≢ y) ys
others_differ x [] h = All-nil (λ y. x ≢ y)
others_differ x (y ∷ ys) h =
    let parts = or_parts (bytes_eq x y) (is_among x ys) h in
    All-cons (λ y. x ≢ y) y ys (differs_by_test x y parts.0) (others_differ x ys parts.1)

distinct_by_test : (xs : List Name) → all_differ xs ≡ true → AreDistinct xs
distinct_by_test [] h = λ i j d a b. absurd (omega arith)
distinct_by_test (x ∷ xs) h =
    let parts = and_parts (not (is_among x xs)) (all_differ xs) h in
    AllPairs-cons (λ y z. y ≢ z) x xs (others_differ x xs (not-true (is_among x xs) parts.0)) (distinct_by_test xs parts.1)

-- ---- bodies

-- only generators yield
yield_keeps : (k : BodyKind) → may_yield k ≡ true → k ≡ body.Generator
yield_keeps body.Function w = cc w
yield_keeps body.Generator w = refl

-- and each operator has its operands
operands_keep : (k : BodyKind) (way : Way) (es : Exprs) → may_operate k way (operands es) ≡ true → OperandsFit k way es
operands_keep k (Asks_one r) es w = eqb-true (operands es) 1 w
operands_keep k (Asks_two r) es w = eqb-true (operands es) 2 w
operands_keep k Calls_it es w = let parts = and_parts (nat_le 1 (operands es)) (nat_le (operands es) 256) w in (leb-true 1 (operands es) parts.0, leb-true (operands es) 256 parts.1)
operands_keep k Yields_it es w = let parts = and_parts (may_yield k) (operands es == 1) w in (yield_keeps k parts.0, eqb-true (operands es) 1 parts.1)

mutual
  each_keeps : (k : BodyKind) (e : Expr) → may_compute k e ≡ true → EachFits k e
  each_keeps k (Leaf a) w = tt
  each_keeps k (Operate o es) w =
      let parts = and_parts (may_operate k (way_of o) (operands es)) (may_compute_all k es) w in
      (operands_keep k (way_of o) es parts.0, all_keep k es parts.1)

  all_keep : (k : BodyKind) (es : Exprs) → may_compute_all k es ≡ true → AllFit k es
  all_keep k no_operands w = tt
  all_keep k (operand e es) w = let parts = and_parts (may_compute k e) (may_compute_all k es) w in (each_keeps k e parts.0, all_keep k es parts.1)

expr_keeps : (k : BodyKind) (e : Expr) → may_compute k e ≡ true → ExprIsLow e → ExprFits k e
expr_keeps k e w low = (each_keeps k e w, low)

-- what a line computes that opens a block
opening_keeps : (i : Inside) (h : Head) (e : Expr) → may_begin i.kind h ≡ may_compute i.kind e → may_open i h ≡ true → ExprIsLow e → ExprFits i.kind e
opening_keeps i h e is w low = expr_keeps i.kind e (sym is ∙ (and_parts (nat_lt i.blocks 64) (may_begin i.kind h) w).1) low

-- statements can be compiled where they stand
mutual
  form_keeps : (i : Inside) (n : ℕ) (f : Form) → WellForm i f → AreLow (form_rows n f) → FormFits i.kind i.in_loop f
  form_keeps i n (Assign x e) w low = expr_keeps i.kind e w low.0
  form_keeps i n (Do o es) w low = expr_keeps i.kind (Operate o es) w low.0
  form_keeps i n (Show e) w low = expr_keeps i.kind e w low.0
  form_keeps i n (Return e) w low = expr_keeps i.kind e w low.0
  form_keeps i n (Raise e) w low = expr_keeps i.kind e w low.0
  form_keeps i n Break w low = w
  form_keeps i n Continue w low = w
  form_keeps i n (If a s) w low = (opening_keeps i (said.If a) a refl w.0 low.0, suite_keeps (within i (said.If a)) s w.1 (low_parts (suite_rows s) _ low.1).0)
  form_keeps i n (IfElse a s t) w low =
      let (first_low, others) = low_parts (suite_rows s) (else_row ∷ (suite_rows t ++ end_row ∷ [])) low.1 in
      (opening_keeps i (said.If a) a refl w.0 low.0, suite_keeps (within i (said.If a)) s w.1.0 first_low, suite_keeps (within i (said.If a)) t w.1.1 (low_parts (suite_rows t) _ others.1).0)
  form_keeps i n (While a s) w low =
      (opening_keeps i (said.While a) a refl w.0 low.0, suite_keeps (within i (said.While a)) s w.1 (low_parts (suite_rows s) _ low.1).0)
  form_keeps i n (TryExcept s cs) w low =
      let (first_low, others) = low_parts (suite_rows s) (clauses_rows cs ++ end_row ∷ []) low.1 in
      (suite_keeps (within i said.Try) s w.1.1.0 first_low, clauses_keep (within i said.Try) cs w.1.1.1 (low_parts (clauses_rows cs) _ others).0)
  form_keeps i n (TryFinally s t) w low =
      let (first_low, others) = low_parts (suite_rows s) (finally_row ∷ (suite_rows t ++ end_row ∷ [])) low.1 in
      (suite_keeps (within i said.Try) s w.1.0 first_low, suite_keeps (within i said.Try) t w.1.1 (low_parts (suite_rows t) _ others.1).0)
  form_keeps i n (With a x s) w low =
      (opening_keeps i (said.With a x) a refl w.0 low.0, suite_keeps (within i (said.With a x)) s w.1 (low_parts (suite_rows s) _ low.1).0)
  form_keeps i n f w low = tt

  suite_keeps : (i : Inside) (s : Suite) → WellSuite i s → AreLow (suite_rows s) → SuiteFits i.kind i.in_loop s
  suite_keeps i nothing w low = tt
  suite_keeps i (first n f more) w low = let (here, rest) = low_parts (form_rows n f) (suite_rows more) low in (form_keeps i n f w.0 here, suite_keeps i more w.1 rest)

  clauses_keep : (i : Inside) (cs : Clauses) → WellClauses i cs → AreLow (clauses_rows cs) → ClausesFit i.kind i.in_loop cs
  clauses_keep i no_more w low = tt
  clauses_keep i (clause n c x s more) w low =
      let (here, rest) = low_parts (suite_rows s) (clauses_rows more) low.1 in
      (suite_keeps i s w.0 here, clauses_keep i more w.1 rest)

-- withs stand in one another as blocks do, of which at least so many are open
mutual
  form_nests : (i : Inside) (n : ℕ) (f : Form) → n ≤ i.blocks → WellForm i f → FormNests n f
  form_nests i n (If a s) low w = suite_nests (within i (said.If a)) n s (omega (arith, low)) w.1
  form_nests i n (IfElse a s t) low w =
      (suite_nests (within i (said.If a)) n s (omega (arith, low)) w.1.0, suite_nests (within i (said.If a)) n t (omega (arith, low)) w.1.1)
  form_nests i n (While a s) low w = suite_nests (within i (said.While a)) n s (omega (arith, low)) w.1
  form_nests i n (TryExcept s cs) low w =
      (suite_nests (within i said.Try) n s (omega (arith, low)) w.1.1.0, clauses_nest (within i said.Try) n cs (omega (arith, low)) w.1.1.1)
  form_nests i n (TryFinally s t) low w =
      (suite_nests (within i said.Try) n s (omega (arith, low)) w.1.0, suite_nests (within i said.Try) n t (omega (arith, low)) w.1.1)
  form_nests i n (With a x s) low w =
      let open_blocks : i.blocks < 64 = ltb-true i.blocks 64 (and_parts (nat_lt i.blocks 64) (may_begin i.kind (said.With a x)) w.0).0 in
      (omega (arith, low, open_blocks), suite_nests (within i (said.With a x)) (suc n) s (omega (arith, low)) w.1)
  form_nests i n f low w = tt

  suite_nests : (i : Inside) (n : ℕ) (s : Suite) → n ≤ i.blocks → WellSuite i s → SuiteNests n s
  suite_nests i n nothing low w = tt
  suite_nests i n (first k f more) low w = (form_nests i n f low w.0, suite_nests i n more low w.1)

  clauses_nest : (i : Inside) (n : ℕ) (cs : Clauses) → n ≤ i.blocks → WellClauses i cs → ClausesNest n cs
  clauses_nest i n no_more low w = tt
  clauses_nest i n (clause k c x s more) low w = (suite_nests i n s low w.0, clauses_nest i n more low w.1)

-- a function, behind these declarations
function_keeps : (ds : List Declared) (t : Tree) → may_declare ds t.name t.params ≡ true → WellSuite (body_of t.kind) t.suite → AreLow (suite_rows t.suite)
    → statements t.suite ≤ 1048576 → (is_builtin_class t.name ≡ false) × IsCompilable t
function_keeps ds t h w low short =
    let new : Bool = not (declares t.name ds) in
    let free : Bool = not (is_builtin_class t.name) in
    let differ : Bool = all_differ t.params in
    let few : Bool = nat_le (length t.params) 255 in
    let front : (new && free && differ) ≡ true = (and_parts (new && free && differ) few h).0 in (
      not-true (is_builtin_class t.name) (and_parts new free (and_parts (new && free) differ front).0).1,
      record {
        distinct = distinct_by_test t.params (and_parts (new && free) differ front).1;
        few = leb-true (length t.params) 255 (and_parts (new && free && differ) few h).1;
        fits = suite_keeps (body_of t.kind) t.suite w low;
        short = short;
        nests = suite_nests (body_of t.kind) 0 t.suite (omega arith) w;
      },
    )

-- ---- names of declarations

-- a class or a manager has a new name
new_name : (ds : List Decl) (x : Name) → is_new (map declared_as ds) x ≡ true → (is_among x (names_of ds) ≡ false) × (is_builtin_class x ≡ false)
new_name ds x h =
    let there : Bool = declares x (map declared_as ds) in
    let parts = and_parts (not there) (not (is_builtin_class x)) h in
    (sym (declares-names x ds) ∙ not-true there parts.0, not-true (is_builtin_class x) parts.1)

managed_new : (ds : List Decl) (m e x : Name) → may_manage (map declared_as ds) m e x ≡ true
    → (is_new (map declared_as ds) m ≡ true) × (declares_callable e (map declared_as ds) ≡ true) × (declares_callable x (map declared_as ds) ≡ true)
managed_new ds m e x h =
    let new : Bool = is_new (map declared_as ds) m in
    let enter : Bool = declares_callable e (map declared_as ds) in
    let parts = and_parts (new && enter) (declares_callable x (map declared_as ds)) h in
    let front = and_parts new enter parts.0 in
    (front.0, front.1, parts.1)

headed_new : (ds : List Decl) (f : Name) (ps : List Name) → may_declare (map declared_as ds) f ps ≡ true → is_new (map declared_as ds) f ≡ true
headed_new ds f ps h =
    let new : Bool = is_new (map declared_as ds) f in
    (and_parts new (all_differ ps) (and_parts (new && all_differ ps) (nat_le (length ps) 255) h).0).0

new_by_test : (ds : List Decl) (d : Decl) → WellDecl (map declared_as ds) d → is_among (decl_name d) (names_of ds) ≡ false
new_by_test ds (ClassDecl c b) h = (new_name ds c (and_parts (is_new (map declared_as ds) c) (is_base (map declared_as ds) b) h).0).0
new_by_test ds (ManagerDecl m e x) h = (new_name ds m (managed_new ds m e x h).0).0
new_by_test ds (FunctionDecl t) h = (new_name ds t.name (headed_new ds t.name t.params h.0)).0
new_by_test ds (RawDecl b) h = absurd h

not_among : (f : Name) (names : List Name) → is_among f names ≡ false → (k : ℕ) (d : Name) → k < length names → get_or names k d ≢ f
not_among f [] h k d low e = absurd (omega arith)
not_among f (x ∷ names) h zero d low e = differs_by_test f x (or_parts (bytes_eq f x) (is_among f names) h).0 (sym e)
not_among f (x ∷ names) h (suc k) d low e = not_among f names (or_parts (bytes_eq f x) (is_among f names) h).1 k d (omega arith) e

names_push : (ts : List Decl) (t : Decl) → is_among (decl_name t) (names_of ts) ≡ false → AreDistinct (names_of ts) → AreDistinct (names_of (ts ++ t ∷ []))
names_push ts t h w = subst AreDistinct (sym (map-append decl_name ts (t ∷ []))) (all_pairs_push (λ x y. x ≢ y) (names_of ts) (decl_name t) w (not_among (decl_name t) (names_of ts) h))

-- the names of all declarations, behind those that are there
names_keep : (is : List Item) (ts : List Decl) (made : ℕ) → WellItems (map declared_as ts) made is → AreDistinct (names_of ts)
    → AreDistinct (names_of (ts ++ decls_in is))
names_keep [] ts made w v = subst (λ x. AreDistinct (names_of x)) (sym (append-nil ts)) v
names_keep (Declares t ∷ is) ts made w v =
    subst (λ x. AreDistinct (names_of x)) (append_assoc ts (t ∷ []) (decls_in is))
    (names_keep is (ts ++ t ∷ []) made (well_behind_one ts t made is w.1) (names_push ts t (new_by_test ts t w.0) v))
names_keep (Codes t ∷ is) ts made w v =
    let d : Decl = RawDecl (raw_of t) in
    let new = (new_name ts t.name (headed_new ts t.name t.params w.0.declared)).0 in
    subst (λ x. AreDistinct (names_of x)) (append_assoc ts (d ∷ []) (decls_in is))
    (names_keep is (ts ++ d ∷ []) made (well_behind_one ts d made is w.1) (names_push ts d new v))
names_keep (Drives d ∷ is) ts made w v = names_keep is ts (suc made) w.1 v

-- ---- drives

named_among : (x : Name) (ds : List Decl) → list_any (λ d. bytes_eq x (decl_name d)) ds ≡ is_among x (names_of ds)
named_among x [] = refl
named_among x (d ∷ ds) = ap (λ b. bytes_eq x (decl_name d) || b) (named_among x ds)

-- what a test finds here is there with more behind
found_by_test : (test : Decl → Bool) (P : Decl → Type 0) → ((d : Decl) → test d ≡ true → P d) → (ds more : List Decl) → list_any test ds ≡ true → Any P (ds ++ more)
found_by_test test P f ds more h =
    let a = Any-from_list_any test (ds ++ more) (list_any-append test ds more ∙ or_left (list_any test ds) (list_any test more) h) in
    (a.0, a.1, a.2, a.3, f a.1 a.4)

-- a name that is declared here is so with more behind
declared_by_test : (x : Name) (ds more : List Decl) → is_among x (names_of ds) ≡ true → Any (λ d. decl_name d ≡ x) (ds ++ more)
declared_by_test x ds more h =
    found_by_test (λ d. bytes_eq x (decl_name d)) (λ d. decl_name d ≡ x) (λ d e. sym ((bytes_eq-Decides x (decl_name d)).0 e)) ds more (named_among x ds ∙ h)

-- so is a function
abbrev callable_decl : Name → Decl → Bool
callable_decl f d = bytes_eq f (decl_name d) && is_callable (decl_kind d)

callable_any : (f : Name) (ds : List Decl) → list_any (callable_decl f) ds ≡ declares_callable f (map declared_as ds)
callable_any f [] = refl
callable_any f (d ∷ ds) = ap (λ b. callable_decl f d || b) (callable_any f ds)

callable_is : (f : Name) (d : Decl) → callable_decl f d ≡ true → IsFunctionNamed f d
callable_is f (ClassDecl c b) h = cc ((and_parts (bytes_eq f c) false h).1)
callable_is f (ManagerDecl m e x) h = cc ((and_parts (bytes_eq f m) false h).1)
callable_is f (RawDecl b) h = sym ((bytes_eq-Decides f b.name).0 (and_parts (bytes_eq f b.name) true h).0)
callable_is f (FunctionDecl t) h = sym ((bytes_eq-Decides f t.name).0 (and_parts (bytes_eq f t.name) true h).0)

function_by_test : (f : Name) (ds more : List Decl) → declares_callable f (map declared_as ds) ≡ true → IsFunction (ds ++ more) f
function_by_test f ds more h = found_by_test (callable_decl f) (IsFunctionNamed f) (callable_is f) ds more (callable_any f ds ∙ h)

-- and a class
abbrev class_decl : Name → Decl → Bool
class_decl c d = bytes_eq c (decl_name d) && is_class (decl_kind d)

class_any : (c : Name) (ds : List Decl) → list_any (class_decl c) ds ≡ list_any (λ d. bytes_eq c d.name && is_class d.kind) (map declared_as ds)
class_any c [] = refl
class_any c (d ∷ ds) = ap (λ b. class_decl c d || b) (class_any c ds)

class_is : (c : Name) (d : Decl) → class_decl c d ≡ true → IsClassNamed c d
class_is c (ClassDecl d b) h = sym ((bytes_eq-Decides c d).0 (and_parts (bytes_eq c d) true h).0)
class_is c (ManagerDecl m e x) h = cc ((and_parts (bytes_eq c m) false h).1)
class_is c (RawDecl b) h = cc ((and_parts (bytes_eq c b.name) false h).1)
class_is c (FunctionDecl t) h = cc ((and_parts (bytes_eq c t.name) false h).1)

class_by_test : (c : Name) (ds more : List Decl) → is_base (map declared_as ds) c ≡ true → IsClass (ds ++ more) c
class_by_test c ds more h = go (list_any (class_decl c) ds) refl (ap (λ b. b || is_builtin_class c) (class_any c ds) ∙ h)
  where
    go : (b : Bool) → list_any (class_decl c) ds ≡ b → (b || is_builtin_class c) ≡ true → IsClass (ds ++ more) c
    go true is known = inl (found_by_test (class_decl c) (IsClassNamed c) (class_is c) ds more is)
    go false is known = inr known

-- a name that is declared here, or a class's, means something with more behind
known_by_test : (x : Name) (ts more : List Decl) → (declares x (map declared_as ts) || is_builtin_class x) ≡ true → IsKnown (ts ++ more) x
known_by_test x ts more h = go (declares x (map declared_as ts)) refl h
  where
    go : (b : Bool) → b ≡ declares x (map declared_as ts) → (b || is_builtin_class x) ≡ true → IsKnown (ts ++ more) x
    go true is known = inl (declared_by_test x ts more (sym (declares-names x ts) ∙ sym is))
    go false is known = inr known

numbers_by_test : (made n : ℕ) → numbers_drive made n ≡ true → NumbersDrive made n
numbers_by_test made n h = let parts = and_parts (nat_le 1 n) (nat_le n made) h in (leb-true 1 n parts.0, leb-true n made parts.1)

drivable_by_test : (ts more : List Decl) (made : ℕ) (a : DriveAtom) → is_drivable (map declared_as ts) made a ≡ true → IsDrivable (ts ++ more) made a
drivable_by_test ts more made (argument.Name x) h = known_by_test x ts more h
drivable_by_test ts more made (argument.Drive n) h = numbers_by_test made n h
drivable_by_test ts more made a h = tt

throwable_by_test : (ts more : List Decl) (made : ℕ) (v : Option DriveAtom) → is_thrown (map declared_as ts) made v ≡ true → IsThrowable (ts ++ more) made v
throwable_by_test ts more made None h = tt
throwable_by_test ts more made (Some a) h = drivable_by_test ts more made a h

-- a drive, behind these declarations and with others to follow
drive_keeps : (ts more : List Decl) (made : ℕ) (d : DriveLine) → may_drive (map declared_as ts) made d ≡ true → IsWellDriven (ts ++ more) made d
drive_keeps ts more made (drive.Call f args) h =
    let called : Bool = declares_callable f (map declared_as ts) in
    let few : Bool = nat_le (length args) 255 in
    let drivable : Bool = list_all (is_drivable (map declared_as ts) made) args in
    let front : (called && few) ≡ true = (and_parts (called && few) drivable h).0 in
    record {
      function = function_by_test f ts more (and_parts called few front).0;
      few = leb-true (length args) 255 (and_parts called few front).1;
      args = all_by_test (is_drivable (map declared_as ts) made) (IsDrivable (ts ++ more) made) (drivable_by_test ts more made) args (and_parts (called && few) drivable h).1;
    }
drive_keeps ts more made (drive.Next n) h = numbers_by_test made n h
drive_keeps ts more made (drive.Send n a) h =
    let parts = and_parts (numbers_drive made n) (is_drivable (map declared_as ts) made a) h in
    record { drive = numbers_by_test made n parts.0; value = drivable_by_test ts more made a parts.1 }
drive_keeps ts more made (drive.Throw n c v) h =
    let front : Bool = numbers_drive made n && is_base (map declared_as ts) c in
    let parts = and_parts front (is_thrown (map declared_as ts) made v) h in
    let both = and_parts (numbers_drive made n) (is_base (map declared_as ts) c) parts.0 in
    record { drive = numbers_by_test made n both.0; class = class_by_test c ts more both.1; value = throwable_by_test ts more made v parts.1 }
drive_keeps ts more made (drive.Close n) h = numbers_by_test made n h
drive_keeps ts more made (drive.Report n) h = numbers_by_test made n h

-- each drive of the items, behind the declarations and the drives in front of it
drives_keep : (is : List Item) (ts : List Decl) (made : ℕ) → WellItems (map declared_as ts) made is → (i : ℕ) (d : DriveLine)
    → slice_get (drives_in is) i ≡ Some d → IsWellDriven (ts ++ decls_in is) (made + i) d
drives_keep [] ts made w i d at = cc at
drives_keep (Declares t ∷ is) ts made w i d at =
    subst (λ x. IsWellDriven x (made + i) d) (append_assoc ts (t ∷ []) (decls_in is)) (drives_keep is (ts ++ t ∷ []) made (well_behind_one ts t made is w.1) i d at)
drives_keep (Codes t ∷ is) ts made w i d at =
    let e : Decl = RawDecl (raw_of t) in
    subst (λ x. IsWellDriven x (made + i) d) (append_assoc ts (e ∷ []) (decls_in is)) (drives_keep is (ts ++ e ∷ []) made (well_behind_one ts e made is w.1) i d at)
drives_keep (Drives d ∷ is) ts made w zero e at =
    let same : d ≡ e = cc at in
    let none : made ≡ made + 0 = omega arith in
    subst (IsWellDriven (ts ++ decls_in is) (made + 0)) same (subst (λ n. IsWellDriven (ts ++ decls_in is) n d) none (drive_keeps ts (decls_in is) made d w.0))
drives_keep (Drives d ∷ is) ts made w (suc i) e at =
    let one : suc made + i ≡ made + suc i = omega arith in
    subst (λ n. IsWellDriven (ts ++ decls_in is) n e) one (drives_keep is ts (suc made) w.1 i e at)

driven_from_none : (is : List Item) → WellItems [] 0 is → AreWellDriven (decls_in is) (drives_in is)
driven_from_none is w i d at =
    let none : 0 + i ≡ i = omega arith in
    subst (λ n. IsWellDriven (decls_in is) n d) none (drives_keep is [] 0 w i d at)

-- those of a script, however long it is
pub script_driven : (bytes : List ℕ) (s : Script) → IsScript bytes s → AreWellDriven (decls_of s) s.drives
script_driven bytes s is =
    subst (λ ds. AreWellDriven ds s.drives) (sym is.declared) (subst (λ ls. AreWellDriven (decls_in is.items) ls) (sym is.driven) (driven_from_none is.items is.well))

-- ---- declarations

-- a declaration behind these
decl_keeps : (ds : List Decl) (d : Decl) → WellDecl (map declared_as ds) d → AreLow (decl_rows d) → size_of (decl_rows d) ≤ 1048576 → IsWellDeclared ds d
decl_keeps ds (ClassDecl c b) w low short =
    let parts = and_parts (is_new (map declared_as ds) c) (is_base (map declared_as ds) b) w in
    record { no_class = (new_name ds c parts.0).1; founded = subst (λ x. IsClass x b) (append-nil ds) (class_by_test b ds [] parts.1) }
decl_keeps ds (ManagerDecl m e x) w low short =
    let parts = managed_new ds m e x w in
    record {
      no_class = (new_name ds m parts.0).1;
      founded = (subst (λ q. IsFunction q e) (append-nil ds) (function_by_test e ds [] parts.1), subst (λ q. IsFunction q x) (append-nil ds) (function_by_test x ds [] parts.2));
    }
decl_keeps ds (FunctionDecl t) w low short =
    let size = decl_size t in
    let k = function_keeps (map declared_as ds) t w.0 w.1 (low_parts (suite_rows t.suite) (end_row ∷ []) low.1).0 (omega (arith, size, short)) in
    record { no_class = k.0; founded = k.1 }
decl_keeps ds (RawDecl b) w low short = absurd w

-- the names of what can be called are those of the codes
callables_codes : (ds : List Decl) → callables (map declared_as ds) ≡ map coded_name (codes_in ds)
callables_codes [] = refl
callables_codes (ClassDecl c b ∷ ds) = callables_codes ds
callables_codes (ManagerDecl m e x ∷ ds) = callables_codes ds
callables_codes (FunctionDecl t ∷ ds) = ap (λ r. t.name ∷ r) (callables_codes ds)
callables_codes (RawDecl b ∷ ds) = ap (λ r. b.name ∷ r) (callables_codes ds)

-- so does a raw code, by its lines
code_keeps : (ds : List Decl) (t : RawText) → WellCode (map declared_as ds) t → size_of (code_rows t) ≤ 1048576 → IsWellDeclared ds (RawDecl (raw_of t))
code_keeps ds t w short =
    let new : Bool = is_new (map declared_as ds) t.name in
    let parts = and_parts (new && all_differ t.params) (nat_le (length t.params) 255) w.declared in
    let inner = size_append (inner_rows t) (end_row ∷ []) in
    let parted = size_append (map said_row t.head) (map unit_row t.units) in
    let few : size_of (map said_row t.head) ≤ 1048576 = omega (arith, inner, parted, short) in
    let h : HeadKeeps (map coded_name (codes_in ds)) (head_of t.head) =
    subst (λ (fs : List Name). HeadKeeps fs (head_of t.head)) (callables_codes ds) (head_keeps (callables (map declared_as ds)) t.head w.head few) in
    record {
      no_class = (new_name ds t.name (headed_new ds t.name t.params w.declared)).1;
      founded = record {
        distinct = distinct_by_test t.params (and_parts new (all_differ t.params) parts.0).1;
        few = leb-true (length t.params) 255 parts.1;
        flags = h.flags;
        counts = h.counts;
        cells = h.cells;
        frees = h.frees;
        consts = h.consts;
        some = some_by_test t.units w.some;
        run = w.run;
      };
    }

-- each declaration of the items, behind those in front of it
decls_keep : (is : List Item) (ds : List Decl) (made : ℕ) → WellItems (map declared_as ds) made is → AreLow (items_rows is) → size_of (items_rows is) ≤ 1048576 → (i : ℕ) (d : Decl)
    → slice_get (decls_in is) i ≡ Some d → IsWellDeclared (ds ++ take i (decls_in is)) d
decls_keep [] ds made w low short i d at = cc at
decls_keep (Declares e ∷ is) ds made w low short zero d at =
    let same : e ≡ d = cc at in
    let all = size_append (decl_rows e) (items_rows is) in
    subst (IsWellDeclared (ds ++ [])) same
    (subst (λ x. IsWellDeclared x e) (sym (append-nil ds)) (decl_keeps ds e w.0 (low_parts (decl_rows e) (items_rows is) low).0 (omega (arith, all, short))))
decls_keep (Declares e ∷ is) ds made w low short (suc i) d at =
    let all = size_append (decl_rows e) (items_rows is) in
    subst (λ x. IsWellDeclared x d) (append_assoc ds (e ∷ []) (take i (decls_in is)))
    (decls_keep is (ds ++ e ∷ []) made (well_behind_one ds e made is w.1) (low_parts (decl_rows e) (items_rows is) low).1 (omega (arith, all, short)) i d at)
decls_keep (Codes t ∷ is) ds made w low short zero d at =
    let same : RawDecl (raw_of t) ≡ d = cc at in
    let all = size_append (code_rows t) (items_rows is) in
    subst (IsWellDeclared (ds ++ [])) same
    (subst (λ x. IsWellDeclared x (RawDecl (raw_of t))) (sym (append-nil ds)) (code_keeps ds t w.0 (omega (arith, all, short))))
decls_keep (Codes t ∷ is) ds made w low short (suc i) d at =
    let e : Decl = RawDecl (raw_of t) in
    let all = size_append (code_rows t) (items_rows is) in
    subst (λ x. IsWellDeclared x d) (append_assoc ds (e ∷ []) (take i (decls_in is)))
    (decls_keep is (ds ++ e ∷ []) made (well_behind_one ds e made is w.1) (low_parts (code_rows t) (items_rows is) low).1 (omega (arith, all, short)) i d at)
decls_keep (Drives e ∷ is) ds made w low short i d at = decls_keep is ds (suc made) w.1 low.1 (omega (arith, short)) i d at

-- each script keeps all of that
pub script_keeps : (bytes : List ℕ) (s : Script) → length bytes ≤ 1048576 → IsScript bytes s → IsWellFormed s
script_keeps bytes s few is =
    let size = script_size bytes s is in
    let low = rows_low 1 (lines bytes) is.reads (items_rows is.items) is.read is.spelled in
    let w : AreWellFormed (decls_in is.items) (drives_in is.items) = record {
      declared = λ i d at. decls_keep is.items [] 0 is.well low (omega (arith, size, few)) i d at;
      distinct = names_keep is.items [] 0 is.well (distinct_by_test [] refl);
      driven = driven_from_none is.items is.well;
    } in
    subst (λ x. AreWellFormed x s.drives) (sym is.declared) (subst (λ x. AreWellFormed (decls_in is.items) x) (sym is.driven) w)
