-- The reader takes the rows of every script.
use Rattle.std.proofs.Common.{◌≡◌, ℕ, suc, length, List, [], ◌∷◌, ◌++◌, Option, Some, None, true, refl, sym, ap, ◌∙◌, append_assoc, append-nil, length-append, subst, arith, map}
use Rattle.std.proofs.lemmas.List.{map-append}
use Rattle.py_tree.specs.declared.body.BodyKind.{BodyKind}
use Rattle.py_tree.specs.Tree.{Name, Form, Assign, Do, Show, Return, Raise, Reraise, Break, Continue, Pass, If, IfElse, While, TryExcept, TryFinally, With, Suite, nothing, first, Clauses, no_more, clause}
use Rattle.py_tree.specs.Suites.{joined, add, joined_clauses, with_clause}
use Rattle.py_lines.specs.declared.drive.DriveLine.{DriveLine}
use Rattle.py_lines.specs.Statements.{Plain, Head}
use Rattle.py_lines.specs.Statements as said
use Rattle.py_grammar.specs.Rules.{may_drive, within, may_hold, may_open}
use Rattle.py_grammar.specs.Grammar.{Row, Decl, ClassDecl, ManagerDecl, FunctionDecl, RawDecl, Item, Declares, Codes, Drives, declared_as, plain_rows, head_row, suite_rows, form_rows, clauses_rows, end_row, else_row, finally_row, items_rows, decls_in, drives_in, WellForm, WellSuite, WellClauses, WellItems}
use Rattle.py_grammar.specs.Reader.{Began, in_if, in_else, in_while, in_try, in_except, in_finally, in_with, began, Block, State, state, open_body, inside_of, plain_form}
use Rattle.py_grammar.specs.RawText.{raw_of}
use Rattle.py_grammar.proofs.Runs.{run}
use Rattle.py_grammar.proofs.WholeCodes.{code_read}
use Rattle.py_grammar.proofs.Clauses.{joined_clauses_assoc, joined_clauses-no_more}

pub joined_assoc : (a b c : Suite) → joined (joined a b) c ≡ joined a (joined b c)
joined_assoc nothing b c = refl
joined_assoc (first n s more) b c = ap (first n s) (joined_assoc more b c)

pub joined-nothing : (a : Suite) → joined a nothing ≡ a
joined-nothing nothing = refl
joined-nothing (first n s more) = ap (first n s) (joined-nothing more)

module _ (ts : List Decl) (ds : List DriveLine) (line : ℕ) (k : BodyKind) (name : Name) (params : List Name) where
  -- this body is open, with these blocks and these statements in the innermost
  abbrev body_at : List Block → Suite → State
  body_at bs done = state ts ds (Some (open_body (record { line = line; kind = k; name = name; params = params; blocks = bs; done = done })))

  abbrev block : Suite → ℕ → Began → Block
  block before n g = record { before = before; line = n; began = g }

  plain_read : (p : Plain) (n : ℕ) (bs : List Block) (done : Suite) (rest : List Row) → may_hold (inside_of k bs) p ≡ true
      → run (body_at bs done) (plain_rows n p ++ rest) ≡ run (body_at bs (add done n (plain_form p))) rest
  plain_read p n bs done rest w = rw w refl

  head_read : (h : Head) (n : ℕ) (bs : List Block) (done : Suite) (rest : List Row) → may_open (inside_of k bs) h ≡ true
      → run (body_at bs done) (head_row n h ∷ rest) ≡ run (body_at (block done n (began h) ∷ bs) nothing) rest
  head_read h n bs done rest w = rw w refl

  -- a suite of a block, where it is read whatever follows
  suite_then : (b : Block) (bs : List Block) (s : Suite) (more rest : List Row)
      → ((rows : List Row) → run (body_at (b ∷ bs) nothing) (suite_rows s ++ rows) ≡ run (body_at (b ∷ bs) s) rows)
      → run (body_at (b ∷ bs) nothing) ((suite_rows s ++ more) ++ rest) ≡ run (body_at (b ∷ bs) s) (more ++ rest)
  suite_then b bs s more rest reads = ap (run (body_at (b ∷ bs) nothing)) (append_assoc (suite_rows s) more rest) ∙ reads (more ++ rest)

  -- the suite of a clause, in front of other clauses and the end of their try
  clause_read : (t : Suite) (b : Block) (bs : List Block) (more : Clauses) (rest : List Row)
      → ((rows : List Row) → run (body_at (b ∷ bs) nothing) (suite_rows t ++ rows) ≡ run (body_at (b ∷ bs) t) rows)
      → run (body_at (b ∷ bs) nothing) (((suite_rows t ++ clauses_rows more) ++ end_row ∷ []) ++ rest) ≡ run (body_at (b ∷ bs) t) ((clauses_rows more ++ end_row ∷ []) ++ rest)
  clause_read t b bs more rest reads =
      ap (λ r. run (body_at (b ∷ bs) nothing) (r ++ rest)) (append_assoc (suite_rows t) (clauses_rows more) (end_row ∷ []))
      ∙ suite_then b bs t (clauses_rows more ++ end_row ∷ []) rest reads

  mutual
    form_read : (f : Form) (n : ℕ) (bs : List Block) (done : Suite) (rest : List Row) → WellForm (inside_of k bs) f
        → run (body_at bs done) (form_rows n f ++ rest) ≡ run (body_at bs (add done n f)) rest
    form_read (Assign x e) n bs done rest w = plain_read (said.Assign x e) n bs done rest w
    form_read (Do o es) n bs done rest w = plain_read (said.Do o es) n bs done rest w
    form_read (Show a) n bs done rest w = plain_read (said.Show a) n bs done rest w
    form_read (Return a) n bs done rest w = plain_read (said.Return a) n bs done rest w
    form_read (Raise a) n bs done rest w = plain_read (said.Raise a) n bs done rest w
    form_read Reraise n bs done rest w = plain_read said.Reraise n bs done rest w
    form_read Break n bs done rest w = plain_read said.Break n bs done rest w
    form_read Continue n bs done rest w = plain_read said.Continue n bs done rest w
    form_read Pass n bs done rest w = plain_read said.Pass n bs done rest w
    form_read (If a s) n bs done rest w =
        let b : Block = block done n (in_if a) in
        head_read (said.If a) n bs done ((suite_rows s ++ end_row ∷ []) ++ rest) w.0 ∙ suite_then b bs s (end_row ∷ []) rest (λ rows. suite_read s (b ∷ bs) nothing rows w.1)
    form_read (IfElse a s t) n bs done rest w =
        let b : Block = block done n (in_if a) in
        let c : Block = block done n (in_else a s) in
        let behind : List Row = else_row ∷ (suite_rows t ++ end_row ∷ []) in
        head_read (said.If a) n bs done ((suite_rows s ++ behind) ++ rest) w.0 ∙ suite_then b bs s behind rest (λ rows. suite_read s (b ∷ bs) nothing rows w.1.0)
        ∙ suite_then c bs t (end_row ∷ []) rest (λ rows. suite_read t (c ∷ bs) nothing rows w.1.1)
    form_read (While a s) n bs done rest w =
        let b : Block = block done n (in_while a) in
        head_read (said.While a) n bs done ((suite_rows s ++ end_row ∷ []) ++ rest) w.0 ∙ suite_then b bs s (end_row ∷ []) rest (λ rows. suite_read s (b ∷ bs) nothing rows w.1)
    form_read (TryExcept s no_more) n bs done rest w = absurd w.1.0
    form_read (TryExcept s (clause m c x t more)) n bs done rest w =
        let b : Block = block done n in_try in
        let behind : List Row = clauses_rows (clause m c x t more) ++ end_row ∷ [] in
        head_read said.Try n bs done ((suite_rows s ++ behind) ++ rest) w.0 ∙ suite_then b bs s behind rest (λ rows. suite_read s (b ∷ bs) nothing rows w.1.1.0)
        ∙ clause_read t (block done n (in_except s no_more m c x)) bs more rest (λ rows. suite_read t (block done n (in_except s no_more m c x) ∷ bs) nothing rows w.1.1.1.0)
        ∙ clauses_read more s no_more m c x t n bs done rest w.1.1.1.1
    form_read (TryFinally s t) n bs done rest w =
        let b : Block = block done n in_try in
        let c : Block = block done n (in_finally s) in
        let behind : List Row = finally_row ∷ (suite_rows t ++ end_row ∷ []) in
        head_read said.Try n bs done ((suite_rows s ++ behind) ++ rest) w.0 ∙ suite_then b bs s behind rest (λ rows. suite_read s (b ∷ bs) nothing rows w.1.0)
        ∙ suite_then c bs t (end_row ∷ []) rest (λ rows. suite_read t (c ∷ bs) nothing rows w.1.1)
    form_read (With a x s) n bs done rest w =
        let b : Block = block done n (in_with a x) in
        head_read (said.With a x) n bs done ((suite_rows s ++ end_row ∷ []) ++ rest) w.0 ∙ suite_then b bs s (end_row ∷ []) rest (λ rows. suite_read s (b ∷ bs) nothing rows w.1)

    pub suite_read : (s : Suite) (bs : List Block) (done : Suite) (rest : List Row) → WellSuite (inside_of k bs) s
        → run (body_at bs done) (suite_rows s ++ rest) ≡ run (body_at bs (joined done s)) rest
    suite_read nothing bs done rest w = ap (λ c. run (body_at bs c) rest) (sym (joined-nothing done))
    suite_read (first n f more) bs done rest w =
        ap (run (body_at bs done)) (append_assoc (form_rows n f) (suite_rows more) rest)
        ∙ form_read f n bs done (suite_rows more ++ rest) w.0 ∙ suite_read more bs (add done n f) rest w.1
        ∙ ap (λ c. run (body_at bs c) rest) (joined_assoc done (first n f nothing) more)

    -- the clauses behind the suite of a clause, and the end of their try
    clauses_read : (cs : Clauses) (s : Suite) (before : Clauses) (m : ℕ) (c : Name) (x : Option Name) (t : Suite) (n : ℕ) (bs : List Block) (done : Suite) (rest : List Row)
        → WellClauses (within (inside_of k bs) said.Try) cs
        → run (body_at (block done n (in_except s before m c x) ∷ bs) t) ((clauses_rows cs ++ end_row ∷ []) ++ rest)
        ≡ run (body_at bs (add done n (TryExcept s (joined_clauses (with_clause before m c x t) cs)))) rest
    clauses_read no_more s before m c x t n bs done rest w =
        ap (λ q. run (body_at bs (add done n (TryExcept s q))) rest) (sym (joined_clauses-no_more (with_clause before m c x t)))
    clauses_read (clause m2 c2 x2 t2 more) s before m c x t n bs done rest w =
        let front : Clauses = with_clause before m c x t in
        let b : Block = block done n (in_except s front m2 c2 x2) in
        clause_read t2 b bs more rest (λ rows. suite_read t2 (b ∷ bs) nothing rows w.0)
        ∙ clauses_read more s front m2 c2 x2 t2 n bs done rest w.1
        ∙ ap (λ q. run (body_at bs (add done n (TryExcept s q))) rest) (joined_clauses_assoc front (clause m2 c2 x2 t2 no_more) more)

-- the rules behind one more declaration
pub well_behind_one : (ts : List Decl) (t : Decl) (made : ℕ) (is : List Item) → WellItems (map declared_as ts ++ declared_as t ∷ []) made is
    → WellItems (map declared_as (ts ++ t ∷ [])) made is
well_behind_one ts t made is w = subst (λ ds. WellItems ds made is) (sym (map-append declared_as ts (t ∷ []))) w

-- every script is read
pub items_read : (is : List Item) (ts : List Decl) (ds : List DriveLine) (made : ℕ) → length ds ≡ made → WellItems (map declared_as ts) made is
    → run (state ts ds None) (items_rows is) ≡ Some (state (ts ++ decls_in is) (ds ++ drives_in is) None)
items_read [] ts ds made e w = rw (append-nil ts, append-nil ds) refl
items_read (Declares (ClassDecl c b) ∷ is) ts ds made e w =
    rw w.0 (items_read is (ts ++ ClassDecl c b ∷ []) ds made e (well_behind_one ts (ClassDecl c b) made is w.1)
    ∙ ap (λ x. Some (state x (ds ++ drives_in is) None)) (append_assoc ts (ClassDecl c b ∷ []) (decls_in is)))
items_read (Declares (ManagerDecl m f x) ∷ is) ts ds made e w =
    rw w.0 (items_read is (ts ++ ManagerDecl m f x ∷ []) ds made e (well_behind_one ts (ManagerDecl m f x) made is w.1)
    ∙ ap (λ y. Some (state y (ds ++ drives_in is) None)) (append_assoc ts (ManagerDecl m f x ∷ []) (decls_in is)))
items_read (Declares (FunctionDecl t) ∷ is) ts ds made e w =
    rw w.0.0 (ap (run (body_at ts ds t.line t.kind t.name t.params [] nothing)) (append_assoc (suite_rows t.suite) (end_row ∷ []) (items_rows is))
    ∙ suite_read ts ds t.line t.kind t.name t.params t.suite [] nothing (end_row ∷ items_rows is) w.0.1
    ∙ items_read is (ts ++ FunctionDecl t ∷ []) ds made e (well_behind_one ts (FunctionDecl t) made is w.1)
    ∙ ap (λ x. Some (state x (ds ++ drives_in is) None)) (append_assoc ts (FunctionDecl t ∷ []) (decls_in is)))
items_read (Declares (RawDecl b) ∷ is) ts ds made e w = absurd w.0
items_read (Codes t ∷ is) ts ds made e w =
    rw w.0.declared (code_read ts ds t (items_rows is) w.0
    ∙ items_read is (ts ++ RawDecl (raw_of t) ∷ []) ds made e (well_behind_one ts (RawDecl (raw_of t)) made is w.1)
    ∙ ap (λ x. Some (state x (ds ++ drives_in is) None)) (append_assoc ts (RawDecl (raw_of t) ∷ []) (decls_in is)))
items_read (Drives d ∷ is) ts ds made e w =
    let may : may_drive (map declared_as ts) (length ds) d ≡ true = subst (λ n. may_drive (map declared_as ts) n d ≡ true) (sym e) w.0 in
    let one : length (ds ++ d ∷ []) ≡ suc made = omega (arith, e, length-append ds (d ∷ [])) in
    rw may (items_read is ts (ds ++ d ∷ []) (suc made) one w.1 ∙ ap (λ x. Some (state (ts ++ decls_in is) x None)) (append_assoc ds (d ∷ []) (drives_in is)))
