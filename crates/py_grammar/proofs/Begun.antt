-- Which lines scripts begin with: those that the reader takes.
use Rattle.std.proofs.Common.{◌≡◌, ◌⊎◌, inl, inr, ℕ, List, [], ◌∷◌, ◌++◌, Option, Some, None, refl, sym, ap, ◌∙◌, append_assoc, append-nil, subst}
use Rattle.std.specs.Prelude.{codes, option_map}
use Rattle.py_tree.specs.Tree.{Form, If, IfElse, While, TryExcept, TryFinally, With, Suite, nothing}
use Rattle.py_tree.specs.Suites.{with_clause}
use Rattle.py_lines.specs.declared.drive.DriveLine.{DriveLine}
use Rattle.py_lines.specs.declared.head.Turn.TheVariants as turn
use Rattle.py_lines.specs.Line.{LineRead, Blank, Said, Malformed}
use Rattle.py_lines.specs.Line as line
use Rattle.py_lines.specs.Reading.{IsReadAs}
use Rattle.py_grammar.specs.Grammar.{Row, row, Decl, FunctionDecl, items_rows, drives_in}
use Rattle.py_grammar.specs.Lines.{lines}
use Rattle.py_grammar.specs.Script.{Text, with_read, rows_from, Spells, Begins}
use Rattle.py_grammar.specs.Reader.{Began, in_if, in_else, in_while, in_try, in_except, in_finally, in_with, Block, Open, Unclosed, open_body, open_code, State, state, start, still_inside, takes_line, finally_behind, turned, turned_to, ended, function_of, one_block, ended_in, closed, closes}
use Rattle.py_grammar.proofs.LineReads.{AreReadAs, one_reading, read_append, read_parts, after, both_rows, rows_from-append}
use Rattle.py_grammar.proofs.Runs.{run, run-append, and_then}
use Rattle.py_grammar.proofs.Whole.{items_read}
use Rattle.py_grammar.proofs.Been.{Been, BeenTo, been_start, rows_behind, ran_behind, one_line, begins_whole, begins_before, end_line, begins_end}
use Rattle.py_grammar.proofs.BegunCodes.{begins_code}

-- ---- lines that are taken

abbrev finally_line : List ℕ
finally_line = codes "finally"

-- a script that begins with lines and a finally begins with the lines
begins_finally : (front : Text) → Begins (front ++ finally_line ∷ []) → Begins front
begins_finally front b = begins_before finally_line (λ more. refl) front b

-- behind an end
been_end : (bs : List Block) (front : Text) (ts : List Decl) (ds : List DriveLine) (o : Open) → o.blocks ≡ bs → Been front (state ts ds (Some (open_body o)))
    → BeenTo (front ++ end_line ∷ []) (option_map (closes ts ds) (closed o bs))
been_end bs front ts ds o e b =
    subst (λ x. BeenTo (front ++ end_line ∷ []) (option_map (closes ts ds) (closed o x))) e (one_line front (state ts ds (Some (open_body o))) end_line (Said line.End) (refl, tt) b)

-- behind a finally, where the innermost block is a try
been_finally : (c : Block) (bs : List Block) (front : Text) (ts : List Decl) (ds : List DriveLine) (o : Open) → o.blocks ≡ c ∷ bs → c.began ≡ in_try
    → Been front (state ts ds (Some (open_body o))) → Been (front ++ finally_line ∷ []) (state ts ds (Some (open_body (turned_to o c bs (in_finally o.done)))))
been_finally c bs front ts ds o e is b =
    subst (λ g. BeenTo (front ++ finally_line ∷ []) (still_inside ts ds (option_map (turned_to o c bs) (finally_behind g o.done)))) is
    (subst (λ x. BeenTo (front ++ finally_line ∷ []) (still_inside ts ds (turned o (after 1 front) turn.Finally x))) e
    (one_line front (state ts ds (Some (open_body o))) finally_line (Said (line.Turns turn.Finally)) (refl, tt) b))

-- each block may end but a try that has neither a clause nor a finally
ends : (g : Began) (s : Suite) → ((f : Form) × (ended g s ≡ Some f)) ⊎ (g ≡ in_try)
ends (in_if a) s = inl (If a s, refl)
ends (in_else a t) s = inl (IfElse a t s, refl)
ends (in_while a) s = inl (While a s, refl)
ends in_try s = inr refl
ends (in_except t cs n c x) s = inl (TryExcept t (with_clause cs n c x s), refl)
ends (in_finally t) s = inl (TryFinally t s, refl)
ends (in_with a x) s = inl (With a x s, refl)

-- some script begins with lines behind which these blocks are open
abbrev BeginsBehind : List Block → List Decl → List DriveLine → Type 0
BeginsBehind bs ts ds = (front : Text) (o : Open) → o.blocks ≡ bs → Been front (state ts ds (Some (open_body o))) → Begins front

-- the innermost block ends
begins_ended : (c : Block) (bs : List Block) (front : Text) (ts : List Decl) (ds : List DriveLine) (o : Open) (f : Form) → o.blocks ≡ c ∷ bs → ended c.began o.done ≡ Some f
    → Been front (state ts ds (Some (open_body o))) → BeginsBehind bs ts ds → Begins front
begins_ended c bs front ts ds o f e is b behind =
    let ends : Been (front ++ end_line ∷ []) (state ts ds (Some (open_body (ended_in o c bs f)))) =
    subst (λ q. BeenTo (front ++ end_line ∷ []) (option_map (closes ts ds) (option_map (λ g. one_block (ended_in o c bs g)) q))) is (been_end (c ∷ bs) front ts ds o e b) in
    begins_end front (behind (front ++ end_line ∷ []) (ended_in o c bs f) refl ends)

-- at once, or behind a finally
begins_block : (c : Block) (bs : List Block) (front : Text) (ts : List Decl) (ds : List DriveLine) (o : Open) → o.blocks ≡ c ∷ bs
    → ((f : Form) × (ended c.began o.done ≡ Some f)) ⊎ (c.began ≡ in_try) → Been front (state ts ds (Some (open_body o))) → BeginsBehind bs ts ds → Begins front
begins_block c bs front ts ds o e (inl p) b behind = begins_ended c bs front ts ds o p.0 e p.1 b behind
begins_block c bs front ts ds o e (inr is) b behind =
    let next : Open = turned_to o c bs (in_finally o.done) in
    begins_finally front (begins_ended (record c { began = in_finally o.done }) bs (front ++ finally_line ∷ []) ts ds next (TryFinally o.done nothing) refl refl
    (been_finally c bs front ts ds o e is b) behind)

-- an end for each open block, some behind a finally, and one for the body close all
begins_open : (bs : List Block) (front : Text) (ts : List Decl) (ds : List DriveLine) (o : Open) → o.blocks ≡ bs → Been front (state ts ds (Some (open_body o))) → Begins front
begins_open [] front ts ds o e b = begins_end front (begins_whole (front ++ end_line ∷ []) (ts ++ FunctionDecl (function_of o) ∷ []) ds (been_end [] front ts ds o e b))
begins_open (c ∷ bs) front ts ds o e b = begins_block c bs front ts ds o e (ends c.began o.done) b (λ more p same been. begins_open bs more ts ds p same been)

pub begins_at : (front : Text) (ts : List Decl) (ds : List DriveLine) (i : Option Unclosed) → Been front (state ts ds i) → Begins front
begins_at front ts ds None b = begins_whole front ts ds b
begins_at front ts ds (Some (open_body o)) b = begins_open o.blocks front ts ds o refl b
begins_at front ts ds (Some (open_code t)) b = begins_code front ts ds t b

pub begins : (front : Text) (st : State) → Been front st → Begins front
begins front st b = begins_at front st.decls st.drives st.inside b

-- ---- lines that are refused

-- the same with the lines that follow in place of their bytes
abbrev pub BeginsLines : Text → Type 0
BeginsLines text = (more : Text) × (trees : List Decl) × (drives : List DriveLine) × Spells (text ++ more) trees drives

lines_fewer : (front back : Text) → BeginsLines (front ++ back) → BeginsLines front
lines_fewer front back b = (back ++ b.0, b.1, b.2, subst (λ t. Spells t b.1 b.2) (append_assoc front back b.0) b.3)

pub as_lines : (front : Text) → Begins front → BeginsLines front
as_lines front b = (lines b.0, b.1, b.2, b.3)

-- a script is read to its end
script_ran : (text : Text) (ts : List Decl) (ds : List DriveLine) (rows : List Row) (s : Spells text ts ds) → Some rows ≡ Some (items_rows s.items)
    → run start rows ≡ Some (state ts ds None)
script_ran text ts ds rows s e =
    let same : rows ≡ items_rows s.items = cc e in
    ap (run start) same ∙ items_read s.items [] [] 0 refl s.well ∙ ap (λ x. Some (state x (drives_in s.items) None)) (sym s.declared)
    ∙ ap (λ x. Some (state ts x None)) (sym s.driven)

-- also by other reads of its lines
pub script_read : (text : Text) (ts : List Decl) (ds : List DriveLine) (reads : List LineRead) (rows : List Row) → Spells text ts ds → AreReadAs text reads
    → rows_from 1 reads ≡ Some rows → run start rows ≡ Some (state ts ds None)
script_read text ts ds reads rows s read e = script_ran text ts ds rows s (sym e ∙ ap (rows_from 1) (one_reading text reads s.reads read s.read) ∙ s.spelled)

-- no script goes on with a line that is refused
pub refused : (front : Text) (st : State) (l : List ℕ) (r : LineRead) → IsReadAs l r → Been front st → takes_line st (after 1 front) r ≡ None
    → BeginsLines (front ++ l ∷ []) → ⊥
refused front st l r e b k g = go r k (rows_from (after 1 (b.reads ++ r ∷ [])) parts.1) spelled
  where
    parts : (x : List LineRead) × (y : List LineRead) × AreReadAs (front ++ l ∷ []) x × AreReadAs g.0 y × (g.3.reads ≡ x ++ y)
    parts = read_parts (front ++ l ∷ []) g.0 g.3.reads g.3.read

    same : parts.0 ≡ b.reads ++ r ∷ []
    same = one_reading (front ++ l ∷ []) parts.0 (b.reads ++ r ∷ []) parts.2 (read_append front (l ∷ []) b.reads (r ∷ []) b.read (e, tt))

    spelled : both_rows (both_rows (Some b.rows) (with_read (after 1 front) r (Some []))) (rows_from (after 1 (b.reads ++ r ∷ [])) parts.1) ≡ Some (items_rows g.3.items)
    spelled = sym (ap (rows_from 1) (parts.4 ∙ ap (λ x. x ++ parts.1) same) ∙ rows_from-append 1 (b.reads ++ r ∷ []) parts.1
        ∙ ap (λ q. both_rows q (rows_from (after 1 (b.reads ++ r ∷ [])) parts.1)) (rows_behind front st b r)) ∙ g.3.spelled

    go : (read : LineRead) → takes_line st (after 1 front) read ≡ None → (q : Option (List Row))
        → both_rows (both_rows (Some b.rows) (with_read (after 1 front) read (Some []))) q ≡ Some (items_rows g.3.items) → ⊥
    go Malformed k2 q f = cc f
    go Blank k2 q f = cc k2
    go (Said x) k2 None f = cc f
    go (Said x) k2 (Some more) f =
        let rows : List Row = b.rows ++ row (after 1 front) x ∷ [] in
        let whole : run start (rows ++ more) ≡ Some (state g.1 g.2 None) = script_ran ((front ++ l ∷ []) ++ g.0) g.1 g.2 (rows ++ more) g.3 f in
        let none : run start (rows ++ more) ≡ None = run-append start rows more ∙ ap (λ o. and_then o (λ s. run s more)) (ran_behind front st b x ∙ k2) in
        let never : None ≡ Some (state g.1 g.2 None) = sym none ∙ whole in
        cc never

-- lines are all taken, or no script begins with those up to some line
abbrev Fate : Text → Type 0
Fate text = ((st : State) × Been text st) ⊎ ((f : Text) × (l : List ℕ) × (b : Text) × (text ≡ f ++ l ∷ b) × (BeginsLines (f ++ l ∷ []) → ⊥))

-- each line in turn is taken or refused
fate : (rest : Text) (reads : List LineRead) (front : Text) (st : State) → AreReadAs rest reads → Been front st → Fate (front ++ rest)
fate [] reads front st a b = subst Fate (sym (append-nil front)) (inl (st, b))
fate (l ∷ ls) [] front st a b = absurd a
fate (l ∷ ls) (r ∷ rs) front st a b = go (takes_line st (after 1 front) r) refl (one_line front st l r a.0 b) (λ s c. fate ls rs (front ++ l ∷ []) s a.1 c)
  where
    go : (o : Option State) → takes_line st (after 1 front) r ≡ o → BeenTo (front ++ l ∷ []) o
        → ((s : State) → Been (front ++ l ∷ []) s → Fate ((front ++ l ∷ []) ++ ls)) → Fate (front ++ l ∷ ls)
    go None k c f = inr (front, l, ls, refl, refused front st l r a.0 b k)
    go (Some s) k c f = subst Fate (append_assoc front (l ∷ []) ls) (f s c)

-- where lines follow, bytes do: any line that may follow has bytes
pub as_bytes : (front : Text) → BeginsLines front → Begins front
as_bytes front b = let parts = read_parts front b.0 b.3.reads b.3.read in go (fate front parts.0 [] start parts.2 been_start)
  where
    go : Fate front → Begins front
    go (inl p) = begins front p.0 p.1
    go (inr q) = absurd (q.4 (lines_fewer (q.0 ++ q.1 ∷ []) q.2 (subst BeginsLines (q.3 ∙ sym (append_assoc q.0 (q.1 ∷ []) q.2)) b)))

pub begins_fewer : (front back : Text) → Begins (front ++ back) → Begins front
begins_fewer front back b = as_bytes front (lines_fewer front back (as_lines (front ++ back) b))
