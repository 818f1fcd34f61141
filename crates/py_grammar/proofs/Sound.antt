-- What the reader has is what it has read.
use Rattle.std.proofs.Common.{◌≡◌, ℕ, suc, length, List, [], ◌∷◌, ◌++◌, ◌+◌, arith, Option, Some, None, Bool, true, false, refl, sym, ap, ◌∙◌, append_assoc, append-nil, subst, rules, map}
use Rattle.std.specs.Prelude.{option_map}
use Rattle.py_tree.specs.declared.body.BodyKind.{BodyKind}
use Rattle.py_tree.specs.Tree.{Name, Form, Suite, nothing, first, Clauses, no_more, clause}
use Rattle.py_tree.specs.Suites.{joined, add, joined_clauses, with_clause}
use Rattle.py_lines.specs.declared.drive.DriveLine.{DriveLine}
use Rattle.py_lines.specs.declared.head.Turn.{Turn}
use Rattle.py_lines.specs.declared.head.Turn.TheVariants as turn
use Rattle.py_lines.specs.declared.header.Header.TheVariants as header
use Rattle.py_lines.specs.Line.{Line}
use Rattle.py_lines.specs.Line as line
use Rattle.py_lines.specs.Statements.{Plain, Head}
use Rattle.py_lines.specs.Statements as said
use Rattle.py_grammar.specs.declared.rules.Inside.{Inside}
use Rattle.py_grammar.specs.Rules.{Declared, may_declare, body_of, within, may_hold, may_open}
use Rattle.py_grammar.specs.Grammar.{Row, row, Decl, ClassDecl, ManagerDecl, FunctionDecl, RawDecl, Item, Declares, Codes, Drives, declared_as, plain_rows, head_row, except_row, suite_rows, form_rows, clauses_rows, end_row, else_row, finally_row, decl_rows, item_rows, items_rows, decls_in, drives_in, HasClause, WellForm, WellSuite, WellClauses, WellDecl, WellItems}
use Rattle.py_grammar.specs.RawText.{RawText, raw_of}
use Rattle.py_grammar.specs.Reader.{Began, in_if, in_else, in_while, in_try, in_except, in_finally, in_with, began, opener, Block, Open, State, inside_of, inside, plain_form, Unclosed, open_body, open_code, accept_at, in_body, in_code, outside, goes_on, still_inside, still_coded, only_if, grown, deeper, turned_by, turned_to, turned, ended, function_of, one_block, ended_in, closed, closes}
use Rattle.py_grammar.proofs.SoundCodes.{WellOpenCode, CodeGrows, open_code_rows, well_bare, code_grows, well_whole}

-- ---- what is open

-- the rows of an open block up to those of its last suite
abbrev pub began_rows : ℕ → Began → List Row
began_rows n (in_if a) = head_row n (said.If a) ∷ []
began_rows n (in_else a s) = head_row n (said.If a) ∷ (suite_rows s ++ else_row ∷ [])
began_rows n (in_while a) = head_row n (said.While a) ∷ []
began_rows n in_try = head_row n said.Try ∷ []
began_rows n (in_except s cs m c x) = head_row n said.Try ∷ (suite_rows s ++ (clauses_rows cs ++ except_row m c x ∷ []))
began_rows n (in_finally s) = head_row n said.Try ∷ (suite_rows s ++ finally_row ∷ [])
began_rows n (in_with a x) = head_row n (said.With a x) ∷ []

-- the rows of open blocks, the innermost first
abbrev pub blocks_rows : List Block → List Row
blocks_rows [] = []
blocks_rows (b ∷ bs) = blocks_rows bs ++ (suite_rows b.before ++ began_rows b.line b.began)

-- rows behind the header of an open body
abbrev behind_header : Open → List Row → List Row
behind_header o rows = row o.line (line.Header (header.Def o.kind o.name o.params)) ∷ rows

-- the rows of an open body
abbrev pub open_rows : Open → List Row
open_rows o = behind_header o (blocks_rows o.blocks ++ suite_rows o.done)

-- an open block keeps the rules where it stands
abbrev pub WellBegan : Inside → Began → Type 0
WellBegan i (in_if a) = may_open i (said.If a) ≡ true
WellBegan i (in_else a s) = (may_open i (said.If a) ≡ true) × WellSuite (within i (said.If a)) s
WellBegan i (in_while a) = may_open i (said.While a) ≡ true
WellBegan i in_try = may_open i said.Try ≡ true
WellBegan i (in_except s cs m c x) = (may_open i said.Try ≡ true) × (WellSuite (within i said.Try) s × WellClauses (within i said.Try) cs)
WellBegan i (in_finally s) = (may_open i said.Try ≡ true) × WellSuite (within i said.Try) s
WellBegan i (in_with a x) = may_open i (said.With a x) ≡ true

abbrev pub WellBlocks : BodyKind → List Block → Type 0
WellBlocks k [] = Unit {0}
WellBlocks k (b ∷ bs) = WellBlocks k bs × (WellSuite (inside_of k bs) b.before × WellBegan (inside_of k bs) b.began)

-- the blocks and the statements of the innermost do, in a body of this kind
abbrev pub WellWithin : BodyKind → List Block → Suite → Type 0
WellWithin k bs s = WellBlocks k bs × WellSuite (inside_of k bs) s

-- an open body keeps the rules, behind these declarations
abbrev pub WellOpen : List Decl → Open → Type 0
WellOpen ts o = (may_declare (map declared_as ts) o.name o.params ≡ true) × WellWithin o.kind o.blocks o.done

-- ---- what the lines of a body add, by their classes

-- a plain line is the row of its statement
plain_lays : (i : Inside) (n : ℕ) (p : Plain) → may_hold i p ≡ true → (form_rows n (plain_form p) ≡ plain_rows n p) × WellForm i (plain_form p)
plain_lays i n said.Pass w = (refl, w)
plain_lays i n p w = (refl, w)

-- a line that opens a block is the row of its beginning
head_lays : (i : Inside) (n : ℕ) (h : Head) → may_open i h ≡ true → (began_rows n (began h) ≡ head_row n h ∷ []) × WellBegan i (began h)
head_lays i n (said.If a) w = (refl, w)
head_lays i n h w = (refl, w)

-- the rows and the rules of clauses with one more behind them
clauses_rows-joined : (a b : Clauses) → clauses_rows (joined_clauses a b) ≡ clauses_rows a ++ clauses_rows b
clauses_rows-joined no_more b = refl
clauses_rows-joined (clause n c x s more) b =
    ap (λ r. except_row n c x ∷ (suite_rows s ++ r)) (clauses_rows-joined more b)
    ∙ ap (λ r. except_row n c x ∷ r) (sym (append_assoc (suite_rows s) (clauses_rows more) (clauses_rows b)))

well_with_clause : (i : Inside) (cs : Clauses) (n : ℕ) (c : Name) (x : Option Name) (s : Suite) → WellClauses i cs → WellSuite i s → WellClauses i (with_clause cs n c x s)
well_with_clause i no_more n c x s w v = (v, tt)
well_with_clause i (clause m d y t more) n c x s w v = (w.0, well_with_clause i more n c x s w.1 v)

has_with_clause : (cs : Clauses) (n : ℕ) (c : Name) (x : Option Name) (s : Suite) → HasClause (with_clause cs n c x s)
has_with_clause no_more n c x s = tt
has_with_clause (clause m d y t more) n c x s = tt

clause_parts : (A B C : List Row) (q r : Row) → A ++ ((B ++ q ∷ C) ++ r ∷ []) ≡ (A ++ (B ++ q ∷ [])) ++ (C ++ r ∷ [])
clause_parts A B C q r = search (rules, append_assoc)

-- the last suite of a try is that of a clause
clause_laid : (t : Suite) (cs : Clauses) (m : ℕ) (c : Name) (x : Option Name) (s : Suite) (r : Row)
    → suite_rows t ++ (clauses_rows (with_clause cs m c x s) ++ r ∷ []) ≡ (suite_rows t ++ (clauses_rows cs ++ except_row m c x ∷ [])) ++ (suite_rows s ++ r ∷ [])
clause_laid t cs m c x s r =
    ap (λ q. suite_rows t ++ (q ++ r ∷ []))
    (clauses_rows-joined cs (clause m c x s no_more) ∙ ap (λ q. clauses_rows cs ++ except_row m c x ∷ q) (append-nil (suite_rows s)))
    ∙ clause_parts (suite_rows t) (clauses_rows cs) (suite_rows s) (except_row m c x) r

-- how a block goes on by a row behind its last suite
abbrev Turns : Inside → Began → Suite → Row → Option Began → Type 0
Turns i g s r None = Unit {0}
Turns i g s r (Some h) = ((n : ℕ) → began_rows n h ≡ began_rows n g ++ (suite_rows s ++ r ∷ [])) × WellBegan i h

turn_lays : (i : Inside) (n : ℕ) (t : Turn) (g : Began) (s : Suite) → WellBegan i g → WellSuite (within i (opener g)) s
    → Turns i g s (row n (line.Turns t)) (turned_by n t g s)
turn_lays i n turn.Else (in_if a) s v w = ((λ m. refl), (v, w))
turn_lays i n (turn.Except c x) in_try s v w = ((λ m. refl), (v, (w, tt)))
turn_lays i n (turn.Except c x) (in_except t cs k d y) s v w =
    ((λ m. ap (λ r. head_row m said.Try ∷ r) (clause_laid t cs k d y s (except_row n c x))), (v.0, (v.1.0, well_with_clause (within i said.Try) cs k d y s v.1.1 w)))
turn_lays i n turn.Finally in_try s v w = ((λ m. refl), (v, w))
turn_lays i n t g s v w = tt

-- the statement that a block is at its end
abbrev Ends : Inside → Began → Suite → Option Form → Type 0
Ends i g s None = Unit {0}
Ends i g s (Some f) = ((n : ℕ) → form_rows n f ≡ began_rows n g ++ (suite_rows s ++ end_row ∷ [])) × WellForm i f

end_lays : (i : Inside) (g : Began) (s : Suite) → WellBegan i g → WellSuite (within i (opener g)) s → Ends i g s (ended g s)
end_lays i (in_if a) s v w = ((λ n. refl), (v, w))
end_lays i (in_else a t) s v w = ((λ n. ap (λ x. head_row n (said.If a) ∷ x) (sym (append_assoc (suite_rows t) (else_row ∷ []) (suite_rows s ++ end_row ∷ [])))), (v.0, (v.1, w)))
end_lays i (in_while a) s v w = ((λ n. refl), (v, w))
end_lays i in_try s v w = tt
end_lays i (in_except t cs m c x) s v w = (
  (λ n. ap (λ r. head_row n said.Try ∷ r) (clause_laid t cs m c x s end_row)),
  (v.0, (has_with_clause cs m c x s, (v.1.0, well_with_clause (within i said.Try) cs m c x s v.1.1 w))),
)
end_lays i (in_with a x) s v w = ((λ n. refl), (v, w))
end_lays i (in_finally t) s v w = ((λ n. ap (λ x. head_row n said.Try ∷ x) (sym (append_assoc (suite_rows t) (finally_row ∷ []) (suite_rows s ++ end_row ∷ [])))), (v.0, (v.1, w)))

-- ---- lines of a body

-- the rows and the rules of a statement behind others
suite_rows-joined : (s t : Suite) → suite_rows (joined s t) ≡ suite_rows s ++ suite_rows t
suite_rows-joined nothing t = refl
suite_rows-joined (first n f more) t = ap (λ r. form_rows n f ++ r) (suite_rows-joined more t) ∙ sym (append_assoc (form_rows n f) (suite_rows more) (suite_rows t))

suite_rows-add : (s : Suite) (n : ℕ) (f : Form) → suite_rows (add s n f) ≡ suite_rows s ++ form_rows n f
suite_rows-add s n f = suite_rows-joined s (first n f nothing) ∙ ap (λ r. suite_rows s ++ r) (append-nil (form_rows n f))

well_joined : (i : Inside) (s t : Suite) → WellSuite i s → WellSuite i t → WellSuite i (joined s t)
well_joined i nothing t w v = v
well_joined i (first n f more) t w v = (w.0, well_joined i more t w.1 v)

well_add : (i : Inside) (s : Suite) (n : ℕ) (f : Form) → WellSuite i s → WellForm i f → WellSuite i (add s n f)
well_add i s n f w v = well_joined i s (first n f nothing) w (v, tt)

-- what an open body has become by a row
abbrev pub Grows : List Decl → Open → Row → Option Open → Type 0
Grows ts o r None = Unit {0}
Grows ts o r (Some o2) = (open_rows o2 ≡ open_rows o ++ r ∷ []) × WellOpen ts o2

grows_if : (ts : List Decl) (o : Open) (r : Row) (b : Bool) (o2 : Open) → (b ≡ true → Grows ts o r (Some o2)) → Grows ts o r (only_if b o2)
grows_if ts o r true o2 f = f refl
grows_if ts o r false o2 f = tt

-- an open body grows by a statement of one row that keeps the rules
grows_by : (ts : List Decl) (o : Open) (n : ℕ) (f : Form) (r : Row) → form_rows n f ≡ r ∷ [] → WellOpen ts o → WellForm (inside o) f
    → Grows ts o r (Some (grown o n f))
grows_by ts o n f r e w v = (
  ap (λ x. behind_header o (blocks_rows o.blocks ++ x)) (suite_rows-add o.done n f ∙ ap (λ x. suite_rows o.done ++ x) e)
      ∙ ap (behind_header o) (sym (append_assoc (blocks_rows o.blocks) (suite_rows o.done) (r ∷ []))),
  (w.0, (w.1.0, well_add (inside o) o.done n f w.1.1 v)),
)

-- and by a block that is opened
grows_deeper : (ts : List Decl) (o : Open) (n : ℕ) (h : Head) → WellOpen ts o → may_open (inside o) h ≡ true → Grows ts o (head_row n h) (Some (deeper o n h))
grows_deeper ts o n h w v =
    let lays = head_lays (inside o) n h v in (
      ap (λ x. behind_header o ((blocks_rows o.blocks ++ (suite_rows o.done ++ x)) ++ [])) lays.0
          ∙ ap (behind_header o) (append-nil _ ∙ sym (append_assoc (blocks_rows o.blocks) (suite_rows o.done) (head_row n h ∷ []))),
      (w.0, ((w.1.0, (w.1.1, lays.1)), tt)),
    )

-- rows in five parts
five_parts : (A B C D : List Row) (r : Row) → A ++ (B ++ (C ++ (D ++ r ∷ []))) ≡ ((A ++ (B ++ C)) ++ D) ++ r ∷ []
five_parts A B C D r = search (rules, append_assoc)

turned_to_sound : (ts : List Decl) (o : Open) (b : Block) (bs : List Block) (r : Row) (q : Option Began) → o.blocks ≡ b ∷ bs → WellOpen ts o
    → Turns (inside_of o.kind bs) b.began o.done r q
    → Grows ts o r (option_map (turned_to o b bs) q)
turned_to_sound ts o b bs r None e w k = tt
turned_to_sound ts o b bs r (Some g) e w k =
    let v : WellWithin o.kind (b ∷ bs) o.done = subst (λ x. WellWithin o.kind x o.done) e w.1 in (
      ap (behind_header o) (append-nil _ ∙ ap (λ x. blocks_rows bs ++ (suite_rows b.before ++ x)) (k.0 b.line)
          ∙ five_parts (blocks_rows bs) (suite_rows b.before) (began_rows b.line b.began) (suite_rows o.done) r)
          ∙ ap (λ x. behind_header o (blocks_rows x ++ suite_rows o.done) ++ r ∷ []) (sym e),
      (w.0, ((v.0.0, (v.0.1.0, k.1)), tt)),
    )

-- a turn
turned_sound : (ts : List Decl) (o : Open) (n : ℕ) (t : Turn) (bs : List Block) → o.blocks ≡ bs → WellOpen ts o → Grows ts o (row n (line.Turns t)) (turned o n t bs)
turned_sound ts o n t [] e w = tt
turned_sound ts o n t (b ∷ bs) e w =
    let v : WellWithin o.kind (b ∷ bs) o.done = subst (λ x. WellWithin o.kind x o.done) e w.1 in
    turned_to_sound ts o b bs (row n (line.Turns t)) (turned_by n t b.began o.done) e w (turn_lays (inside_of o.kind bs) n t b.began o.done v.0.1.1 v.1)

-- a line other than an end
goes_on_sound : (ts : List Decl) (o : Open) (n : ℕ) (l : Line) → WellOpen ts o → Grows ts o (row n l) (goes_on o n l)
goes_on_sound ts o n (line.Plain p) w = grows_if ts o _ _ _ (λ e. let lays = plain_lays (inside o) n p e in grows_by ts o n (plain_form p) _ lays.0 w lays.1)
goes_on_sound ts o n (line.Opens h) w = grows_if ts o _ _ _ (λ e. grows_deeper ts o n h w e)
goes_on_sound ts o n (line.Turns t) w = turned_sound ts o n t o.blocks refl w
goes_on_sound ts o n l w = tt

-- ---- lines of a script

abbrev pub inside_rows : Option Unclosed → List Row
inside_rows None = []
inside_rows (Some (open_body o)) = open_rows o
inside_rows (Some (open_code t)) = open_code_rows t

abbrev pub WellInside : List Decl → Option Unclosed → Type 0
WellInside ts None = Unit {0}
WellInside ts (Some (open_body o)) = WellOpen ts o
WellInside ts (Some (open_code t)) = WellOpenCode (map declared_as ts) t

-- the rows are those of items that keep the rules, and of what is open behind them
pub record Came (rows : List Row) (ts : List Decl) (ds : List DriveLine) (i : Option Unclosed) : Type 0 where
  pub items : List Item
  pub spelled : rows ≡ items_rows items ++ inside_rows i
  pub declared : ts ≡ decls_in items
  pub driven : ds ≡ drives_in items
  pub well : WellItems [] 0 items
  pub well_open : WellInside ts i

abbrev pub CameTo : List Row → Option State → Type 0
CameTo rows None = Unit {0}
CameTo rows (Some s) = Came rows s.decls s.drives s.inside

-- what one list of items behind another has
items_rows-append : (is js : List Item) → items_rows (is ++ js) ≡ items_rows is ++ items_rows js
items_rows-append [] js = refl
items_rows-append (i ∷ is) js = ap (λ r. item_rows i ++ r) (items_rows-append is js) ∙ sym (append_assoc (item_rows i) (items_rows is) (items_rows js))

decls_in-append : (is js : List Item) → decls_in (is ++ js) ≡ decls_in is ++ decls_in js
decls_in-append [] js = refl
decls_in-append (Declares t ∷ is) js = ap (λ r. t ∷ r) (decls_in-append is js)
decls_in-append (Codes t ∷ is) js = ap (λ r. RawDecl (raw_of t) ∷ r) (decls_in-append is js)
decls_in-append (Drives d ∷ is) js = decls_in-append is js

drives_in-append : (is js : List Item) → drives_in (is ++ js) ≡ drives_in is ++ drives_in js
drives_in-append [] js = refl
drives_in-append (Declares t ∷ is) js = drives_in-append is js
drives_in-append (Codes t ∷ is) js = drives_in-append is js
drives_in-append (Drives d ∷ is) js = ap (λ r. d ∷ r) (drives_in-append is js)

well_append : (is js : List Item) (ds : List Declared) (made : ℕ) → WellItems ds made is
    → WellItems (ds ++ map declared_as (decls_in is)) (made + length (drives_in is)) js → WellItems ds made (is ++ js)
well_append [] js ds made w v =
    let none : made + 0 ≡ made = omega arith in
    subst (λ n. WellItems ds n js) none (subst (λ x. WellItems x (made + 0) js) (append-nil ds) v)
well_append (Declares t ∷ is) js ds made w v =
    let behind = subst (λ x. WellItems x (made + length (drives_in is)) js) (sym (append_assoc ds (declared_as t ∷ []) (map declared_as (decls_in is)))) v in
    (w.0, well_append is js (ds ++ declared_as t ∷ []) made w.1 behind)
well_append (Codes t ∷ is) js ds made w v =
    let it : Declared = declared_as (RawDecl (raw_of t)) in
    let behind = subst (λ x. WellItems x (made + length (drives_in is)) js) (sym (append_assoc ds (it ∷ []) (map declared_as (decls_in is)))) v in
    (w.0, well_append is js (ds ++ it ∷ []) made w.1 behind)
well_append (Drives d ∷ is) js ds made w v =
    let one : made + suc (length (drives_in is)) ≡ suc made + length (drives_in is) = omega arith in
    (w.0, well_append is js ds (suc made) w.1 (subst (λ n. WellItems (ds ++ map declared_as (decls_in is)) n js) one v))

-- items behind those of a script
well_behind : (is js : List Item) → WellItems [] 0 is → WellItems (map declared_as (decls_in is)) (length (drives_in is)) js → WellItems [] 0 (is ++ js)
well_behind is js w v =
    let none : length (drives_in is) ≡ 0 + length (drives_in is) = omega arith in
    well_append is js [] 0 w (subst (λ n. WellItems (map declared_as (decls_in is)) n js) none v)

-- one more item
one_item : (rows all : List Row) (ts : List Decl) (ds : List DriveLine) (i : Option Unclosed) (it : Item) (c : Came rows ts ds i)
    → all ≡ items_rows c.items ++ item_rows it → WellItems (map declared_as ts) (length ds) (it ∷ []) → Came all (ts ++ decls_in (it ∷ [])) (ds ++ drives_in (it ∷ [])) None
one_item rows all ts ds i it c e w = record {
  items = c.items ++ it ∷ [];
  spelled = e ∙ ap (λ r. items_rows c.items ++ r) (sym (append-nil (item_rows it))) ∙ sym (items_rows-append c.items (it ∷ [])) ∙ sym (append-nil _);
  declared = ap (λ x. x ++ decls_in (it ∷ [])) c.declared ∙ sym (decls_in-append c.items (it ∷ []));
  driven = ap (λ x. x ++ drives_in (it ∷ [])) c.driven ∙ sym (drives_in-append c.items (it ∷ []));
  well = well_behind c.items (it ∷ []) c.well
      (subst (λ n. WellItems (map declared_as (decls_in c.items)) n (it ∷ [])) (ap length c.driven)
      (subst (λ x. WellItems (map declared_as x) (length ds) (it ∷ [])) c.declared w));
  well_open = tt;
}

came_if : (rows : List Row) (b : Bool) (s : State) → (b ≡ true → CameTo rows (Some s)) → CameTo rows (only_if b s)
came_if rows true s f = f refl
came_if rows false s f = tt

-- a declaration of one line
declared_sound : (rows : List Row) (ts : List Decl) (ds : List DriveLine) (d : Decl) (r : Row) → decl_rows d ≡ r ∷ [] → Came rows ts ds None → WellDecl (map declared_as ts) d
    → Came (rows ++ r ∷ []) (ts ++ d ∷ []) ds None
declared_sound rows ts ds d r is c w =
    subst (λ x. Came (rows ++ r ∷ []) (ts ++ d ∷ []) x None) (append-nil ds)
    (one_item rows _ ts ds None (Declares d) c (ap (λ q. q ++ r ∷ []) (c.spelled ∙ append-nil _) ∙ ap (λ q. items_rows c.items ++ q) (sym is)) (w, tt))

-- a line outside of bodies
outside_sound : (rows : List Row) (ts : List Decl) (ds : List DriveLine) (n : ℕ) (l : Line) → Came rows ts ds None
    → CameTo (rows ++ row n l ∷ []) (outside ts ds n l)
outside_sound rows ts ds n (line.Header (header.Def k f ps)) c = came_if _ _ _ (λ e. record {
  items = c.items;
  spelled = ap (λ r. r ++ row n (line.Header (header.Def k f ps)) ∷ []) (c.spelled ∙ append-nil _);
  declared = c.declared;
  driven = c.driven;
  well = c.well;
  well_open = (e, (tt, tt));
})
outside_sound rows ts ds n (line.Header (header.Code f ps)) c = came_if _ _ _ (λ e. record {
  items = c.items;
  spelled = ap (λ r. r ++ row n (line.Header (header.Code f ps)) ∷ []) (c.spelled ∙ append-nil _);
  declared = c.declared;
  driven = c.driven;
  well = c.well;
  well_open = well_bare (map declared_as ts) n f ps e;
})
outside_sound rows ts ds n (line.Header (header.Class x b)) c = came_if _ _ _ (λ e. declared_sound rows ts ds (ClassDecl x b) _ refl c e)
outside_sound rows ts ds n (line.Header (header.Manager m f x)) c = came_if _ _ _ (λ e. declared_sound rows ts ds (ManagerDecl m f x) _ refl c e)
outside_sound rows ts ds n (line.Drive d) c = came_if _ _ _ (λ e.
    subst (λ x. Came (rows ++ row n (line.Drive d) ∷ []) x (ds ++ d ∷ []) None) (append-nil ts)
    (one_item rows _ ts ds None (Drives d) c (ap (λ r. r ++ row n (line.Drive d) ∷ []) (c.spelled ∙ append-nil _)) (e, tt)))
outside_sound rows ts ds n l c = tt

still_sound : (rows : List Row) (ts : List Decl) (ds : List DriveLine) (o : Open) (r : Row) (p : Option Open) → Came rows ts ds (Some (open_body o)) → Grows ts o r p
    → CameTo (rows ++ r ∷ []) (still_inside ts ds p)
still_sound rows ts ds o r None c g = tt
still_sound rows ts ds o r (Some o2) c g = record {
  items = c.items;
  spelled = ap (λ x. x ++ r ∷ []) c.spelled ∙ append_assoc (items_rows c.items) (open_rows o) (r ∷ []) ∙ ap (λ x. items_rows c.items ++ x) (sym g.0);
  declared = c.declared;
  driven = c.driven;
  well = c.well;
  well_open = g.1;
}

-- the innermost block ends
ended_in_sound : (ts : List Decl) (o : Open) (b : Block) (bs : List Block) (f : Form) → o.blocks ≡ b ∷ bs → WellOpen ts o
    → Ends (inside_of o.kind bs) b.began o.done (Some f) → Grows ts o end_row (Some (ended_in o b bs f))
ended_in_sound ts o b bs f e w k =
    let v : WellWithin o.kind (b ∷ bs) o.done = subst (λ x. WellWithin o.kind x o.done) e w.1 in (
      ap (λ x. behind_header o (blocks_rows bs ++ x)) (suite_rows-add b.before b.line f ∙ ap (λ x. suite_rows b.before ++ x) (k.0 b.line))
          ∙ ap (behind_header o) (five_parts (blocks_rows bs) (suite_rows b.before) (began_rows b.line b.began) (suite_rows o.done) end_row)
          ∙ ap (λ x. behind_header o (blocks_rows x ++ suite_rows o.done) ++ end_row ∷ []) (sym e),
      (w.0, (v.0.0, well_add (inside_of o.kind bs) b.before b.line f v.0.1.0 k.1)),
    )

block_sound : (rows : List Row) (ts : List Decl) (ds : List DriveLine) (o : Open) (b : Block) (bs : List Block) (q : Option Form) → o.blocks ≡ b ∷ bs
    → Came rows ts ds (Some (open_body o))
    → Ends (inside_of o.kind bs) b.began o.done q → CameTo (rows ++ end_row ∷ []) (option_map (closes ts ds) (option_map (λ f. one_block (ended_in o b bs f)) q))
block_sound rows ts ds o b bs None e c k = tt
block_sound rows ts ds o b bs (Some f) e c k = still_sound rows ts ds o end_row (Some (ended_in o b bs f)) c (ended_in_sound ts o b bs f e c.well_open k)

-- the body ends
body_sound : (rows : List Row) (ts : List Decl) (ds : List DriveLine) (o : Open) → o.blocks ≡ [] → Came rows ts ds (Some (open_body o))
    → Came (rows ++ end_row ∷ []) (ts ++ FunctionDecl (function_of o) ∷ []) ds None
body_sound rows ts ds o e c =
    let w : WellSuite (body_of o.kind) o.done = subst (λ x. WellSuite (inside_of o.kind x) o.done) e c.well_open.1.1 in
    subst (λ x. Came (rows ++ end_row ∷ []) (ts ++ FunctionDecl (function_of o) ∷ []) x None) (append-nil ds)
    (one_item rows _ ts ds (Some (open_body o)) (Declares (FunctionDecl (function_of o))) c
    (ap (λ x. x ++ end_row ∷ []) c.spelled ∙ append_assoc (items_rows c.items) (open_rows o) (end_row ∷ [])
    ∙ ap (λ x. items_rows c.items ++ (behind_header o (blocks_rows x ++ suite_rows o.done) ++ end_row ∷ [])) e)
    ((c.well_open.0, w), tt))

end_sound : (rows : List Row) (ts : List Decl) (ds : List DriveLine) (o : Open) (bs : List Block) → o.blocks ≡ bs → Came rows ts ds (Some (open_body o))
    → CameTo (rows ++ end_row ∷ []) (option_map (closes ts ds) (closed o bs))
end_sound rows ts ds o [] e c = body_sound rows ts ds o e c
end_sound rows ts ds o (b ∷ bs) e c =
    let v : WellWithin o.kind (b ∷ bs) o.done = subst (λ x. WellWithin o.kind x o.done) e c.well_open.1 in
    block_sound rows ts ds o b bs (ended b.began o.done) e c (end_lays (inside_of o.kind bs) b.began o.done v.0.1.1 v.1)

-- a line where a body is open
inside_sound : (rows : List Row) (ts : List Decl) (ds : List DriveLine) (o : Open) (n : ℕ) (l : Line) → Came rows ts ds (Some (open_body o))
    → CameTo (rows ++ row n l ∷ []) (in_body ts ds o n l)
inside_sound rows ts ds o n line.End c = end_sound rows ts ds o o.blocks refl c
inside_sound rows ts ds o n l c = still_sound rows ts ds o (row n l) (goes_on o n l) c (goes_on_sound ts o n l c.well_open)

-- a line where a raw code is open
still_code_sound : (rows : List Row) (ts : List Decl) (ds : List DriveLine) (t : RawText) (r : Row) (p : Option RawText) → Came rows ts ds (Some (open_code t))
    → CodeGrows (map declared_as ts) t r p → CameTo (rows ++ r ∷ []) (still_coded ts ds p)
still_code_sound rows ts ds t r None c g = tt
still_code_sound rows ts ds t r (Some u) c g = record {
  items = c.items;
  spelled = ap (λ x. x ++ r ∷ []) c.spelled ∙ append_assoc (items_rows c.items) (open_code_rows t) (r ∷ []) ∙ ap (λ x. items_rows c.items ++ x) (sym g.0);
  declared = c.declared;
  driven = c.driven;
  well = c.well;
  well_open = g.1;
}

code_sound : (rows : List Row) (ts : List Decl) (ds : List DriveLine) (t : RawText) (n : ℕ) (l : Line) → Came rows ts ds (Some (open_code t))
    → CameTo (rows ++ row n l ∷ []) (in_code ts ds t n l)
code_sound rows ts ds t n line.End c = came_if _ _ _ (λ e.
    subst (λ x. Came (rows ++ end_row ∷ []) (ts ++ RawDecl (raw_of t) ∷ []) x None) (append-nil ds)
    (one_item rows _ ts ds (Some (open_code t)) (Codes t) c
    (ap (λ x. x ++ end_row ∷ []) c.spelled ∙ append_assoc (items_rows c.items) (open_code_rows t) (end_row ∷ []))
    (well_whole (map declared_as ts) t c.well_open e, tt)))
code_sound rows ts ds t n (line.Raw l) c = still_code_sound rows ts ds t (row n (line.Raw l)) _ c (code_grows (map declared_as ts) t n l c.well_open)
code_sound rows ts ds t n l c = tt

-- one more line that is taken
pub sound : (rows : List Row) (ts : List Decl) (ds : List DriveLine) (i : Option Unclosed) (n : ℕ) (l : Line) → Came rows ts ds i
    → CameTo (rows ++ row n l ∷ []) (accept_at ts ds i n l)
sound rows ts ds None n l c = outside_sound rows ts ds n l c
sound rows ts ds (Some (open_body o)) n l c = inside_sound rows ts ds o n l c
sound rows ts ds (Some (open_code t)) n l c = code_sound rows ts ds t n l c
