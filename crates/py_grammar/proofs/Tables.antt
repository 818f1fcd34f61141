-- What tables of names have.
use Rattle.std.proofs.Common.{◌≡◌, ℕ, List, [], ◌∷◌, ◌++◌, Bool, true, false, ◌||◌, ◌&&◌, refl, sym, ap, ◌∙◌, length, map, append-nil, subst}
use Rattle.std.proofs.lemmas.Bool.{and_parts, not-true, or_parts}
use Rattle.std.proofs.lemmas.List.{map-append}
use Rattle.std.specs.Prelude.{Option, Some, None, bytes_eq, nat_le, not}
use Rattle.std.specs.List.{list_all, list_any}
use Rattle.py_code.specs.Names.{interned}
use Rattle.py_tree.specs.Tree.{Name, Tree}
use Rattle.py_lines.specs.declared.raw.RawLine.{RawLine}
use Rattle.py_lines.specs.Line as line
use Rattle.py_lines.specs.declared.drive.DriveAtom.{DriveAtom}
use Rattle.py_lines.specs.declared.drive.DriveAtom.TheVariants as argument
use Rattle.py_lines.specs.declared.drive.DriveLine.{DriveLine}
use Rattle.py_lines.specs.declared.drive.DriveLine.TheVariants as drive
use Rattle.py_grammar.specs.declared.open_body.OpenBody.{OpenBody}
use Rattle.py_grammar.specs.declared.open_item.OpenItem.TheVariants as item
use Rattle.py_grammar.specs.declared.raw_block.RawBlock.{RawBlock}
use Rattle.py_grammar.specs.declared.reader.Reader.{Reader}
use Rattle.py_grammar.specs.declared.table.Table.{Table}
use Rattle.py_grammar.specs.declared.script.Declaration.{Declaration}
use Rattle.py_grammar.specs.Script.{decl_of, decls_of}
use Rattle.py_grammar.specs.Grammar.{Decl, ClassDecl, ManagerDecl, FunctionDecl, RawDecl, OfBody, OfRaw, decl_name, codes_in, declared_as}
use Rattle.py_grammar.specs.RawText.{RawText}
use Rattle.py_grammar.specs.Reader.{accept, code_line, only_if, open_code, state, still_coded}
use Rattle.py_grammar.specs.Rules.{Declared, is_among, all_differ, declares, declares_callable, callables, is_class, is_base, is_new, is_builtin_class, may_declare, may_derive, may_manage, numbers_drive, is_drivable, is_thrown, may_drive}
use Rattle.py_grammar.specs.Tables.{names_of, function_names, class_names, table_of, with_function_name, with_class_name, with_manager_name, is_new_by, is_base_by, may_derive_by, may_manage_by, may_head, is_drivable_by, is_thrown_by, may_drive_by, TableIsKept}

-- the declarations' names, as the rules ask for them
pub declares-names : (x : Name) (ts : List Decl) → declares x (map declared_as ts) ≡ is_among x (names_of ts)
declares-names x [] = refl
declares-names x (t ∷ ts) = ap (λ b. bytes_eq x (decl_name t) || b) (declares-names x ts)

and_true : (b : Bool) → (b && true) ≡ b
and_true true = refl
and_true false = refl

and_false : (b : Bool) → (b && false) ≡ false
and_false true = refl
and_false false = refl

-- only functions can be called
pub callable-names : (x : Name) (ds : List Decl) → declares_callable x (map declared_as ds) ≡ is_among x (function_names ds)
callable-names x [] = refl
callable-names x (ClassDecl c b ∷ ds) = ap (λ q. q || declares_callable x (map declared_as ds)) (and_false (bytes_eq x c)) ∙ callable-names x ds
callable-names x (ManagerDecl m e y ∷ ds) = ap (λ q. q || declares_callable x (map declared_as ds)) (and_false (bytes_eq x m)) ∙ callable-names x ds
callable-names x (FunctionDecl t ∷ ds) = ap (λ b. b || declares_callable x (map declared_as ds)) (and_true (bytes_eq x t.name)) ∙ ap (λ b. bytes_eq x t.name || b) (callable-names x ds)
callable-names x (RawDecl r ∷ ds) = ap (λ b. b || declares_callable x (map declared_as ds)) (and_true (bytes_eq x r.name)) ∙ ap (λ b. bytes_eq x r.name || b) (callable-names x ds)

pub callables_names : (ds : List Decl) → callables (map declared_as ds) ≡ function_names ds
callables_names [] = refl
callables_names (ClassDecl c b ∷ ds) = callables_names ds
callables_names (ManagerDecl m e x ∷ ds) = callables_names ds
callables_names (FunctionDecl t ∷ ds) = ap (λ r. t.name ∷ r) (callables_names ds)
callables_names (RawDecl b ∷ ds) = ap (λ r. b.name ∷ r) (callables_names ds)

-- and only classes are bases
class-names : (x : Name) (ds : List Decl) → list_any (λ d. bytes_eq x d.name && is_class d.kind) (map declared_as ds) ≡ is_among x (class_names ds)
class-names x [] = refl
class-names x (ClassDecl c b ∷ ds) = ap (λ q. q || list_any (λ d. bytes_eq x d.name && is_class d.kind) (map declared_as ds)) (and_true (bytes_eq x c)) ∙ ap (λ q. bytes_eq x c || q) (class-names x ds)
class-names x (ManagerDecl m e y ∷ ds) = ap (λ q. q || list_any (λ d. bytes_eq x d.name && is_class d.kind) (map declared_as ds)) (and_false (bytes_eq x m)) ∙ class-names x ds
class-names x (FunctionDecl t ∷ ds) = ap (λ q. q || list_any (λ d. bytes_eq x d.name && is_class d.kind) (map declared_as ds)) (and_false (bytes_eq x t.name)) ∙ class-names x ds
class-names x (RawDecl r ∷ ds) = ap (λ q. q || list_any (λ d. bytes_eq x d.name && is_class d.kind) (map declared_as ds)) (and_false (bytes_eq x r.name)) ∙ class-names x ds

base-names : (x : Name) (ds : List Decl) → is_base (map declared_as ds) x ≡ is_base_by (class_names ds) x
base-names x ds = ap (λ b. b || is_builtin_class x) (class-names x ds)

-- the table of a reader where no body is open
pub table_outside : (r : Reader) → TableIsKept r → r.inside ≡ None → r.table ≡ table_of (decls_of r.whole) None
table_outside r kept outside = kept.table ∙ ap (table_of (decls_of r.whole)) outside

-- the rules on classes and managers, by the table
pub may_derive_names : (ds : List Decl) (t : Table) (c b : Name) → t ≡ table_of ds None → may_derive_by t c b ≡ may_derive (map declared_as ds) c b
may_derive_names ds t c b is =
    ap (λ q. may_derive_by q c b) is
    ∙ ap (λ q. not q && not (is_builtin_class c) && is_base_by (class_names ds) b) (sym (declares-names c ds))
    ∙ ap (λ q. is_new (map declared_as ds) c && q) (sym (base-names b ds))

pub may_manage_names : (ds : List Decl) (t : Table) (m e x : Name) → t ≡ table_of ds None → may_manage_by t m e x ≡ may_manage (map declared_as ds) m e x
may_manage_names ds t m e x is =
    ap (λ q. may_manage_by q m e x) is
    ∙ ap (λ q. not q && not (is_builtin_class m) && is_among e (function_names ds) && is_among x (function_names ds)) (sym (declares-names m ds))
    ∙ ap (λ q. is_new (map declared_as ds) m && q && is_among x (function_names ds)) (sym (callable-names e ds))
    ∙ ap (λ q. is_new (map declared_as ds) m && declares_callable e (map declared_as ds) && q) (sym (callable-names x ds))

-- a name that isn't there goes last
interned_new : (names : List Name) (x : Name) → is_among x names ≡ false → interned names x ≡ names ++ x ∷ []
interned_new names x new = rw new refl

function_among : (x : Name) (ds : List Decl) → is_among x (names_of ds) ≡ false → is_among x (function_names ds) ≡ false
function_among x [] h = refl
function_among x (ClassDecl c b ∷ ds) h = function_among x ds (or_parts (bytes_eq x c) (is_among x (names_of ds)) h).1
function_among x (ManagerDecl m e y ∷ ds) h = function_among x ds (or_parts (bytes_eq x m) (is_among x (names_of ds)) h).1
function_among x (FunctionDecl t ∷ ds) h =
    let parts = or_parts (bytes_eq x t.name) (is_among x (names_of ds)) h in
    rw parts.0 (function_among x ds parts.1)
function_among x (RawDecl r ∷ ds) h =
    let parts = or_parts (bytes_eq x r.name) (is_among x (names_of ds)) h in
    rw parts.0 (function_among x ds parts.1)

class_among : (x : Name) (ds : List Decl) → is_among x (names_of ds) ≡ false → is_among x (class_names ds) ≡ false
class_among x [] h = refl
class_among x (ClassDecl c b ∷ ds) h = let parts = or_parts (bytes_eq x c) (is_among x (names_of ds)) h in rw parts.0 (class_among x ds parts.1)
class_among x (ManagerDecl m e y ∷ ds) h = class_among x ds (or_parts (bytes_eq x m) (is_among x (names_of ds)) h).1
class_among x (FunctionDecl t ∷ ds) h = class_among x ds (or_parts (bytes_eq x t.name) (is_among x (names_of ds)) h).1
class_among x (RawDecl r ∷ ds) h = class_among x ds (or_parts (bytes_eq x r.name) (is_among x (names_of ds)) h).1

-- what the codes are of, where more declarations stand behind
pub codes_in-append : (ds es : List Decl) → codes_in (ds ++ es) ≡ codes_in ds ++ codes_in es
codes_in-append [] es = refl
codes_in-append (ClassDecl c b ∷ ds) es = codes_in-append ds es
codes_in-append (ManagerDecl m e x ∷ ds) es = codes_in-append ds es
codes_in-append (FunctionDecl t ∷ ds) es = ap (λ r. OfBody t ∷ r) (codes_in-append ds es)
codes_in-append (RawDecl b ∷ ds) es = ap (λ r. OfRaw b ∷ r) (codes_in-append ds es)

-- the names of declarations with more behind them
function_names-append : (ds es : List Decl) → function_names (ds ++ es) ≡ function_names ds ++ function_names es
function_names-append [] es = refl
function_names-append (ClassDecl c b ∷ ds) es = function_names-append ds es
function_names-append (ManagerDecl m e x ∷ ds) es = function_names-append ds es
function_names-append (FunctionDecl t ∷ ds) es = ap (λ r. t.name ∷ r) (function_names-append ds es)
function_names-append (RawDecl b ∷ ds) es = ap (λ r. b.name ∷ r) (function_names-append ds es)

class_names-append : (ds es : List Decl) → class_names (ds ++ es) ≡ class_names ds ++ class_names es
class_names-append [] es = refl
class_names-append (ClassDecl c b ∷ ds) es = ap (λ r. c ∷ r) (class_names-append ds es)
class_names-append (ManagerDecl m e x ∷ ds) es = class_names-append ds es
class_names-append (FunctionDecl t ∷ ds) es = class_names-append ds es
class_names-append (RawDecl b ∷ ds) es = class_names-append ds es

abbrev table : List Name → List Name → List Name → Table
table a b c = record { names = a; functions = b; classes = c }

three : (a a2 b b2 c c2 : List Name) → a ≡ a2 → b ≡ b2 → c ≡ c2 → table a b c ≡ table a2 b2 c2
three a a2 b b2 c c2 e f g = ap (λ x. table x b c) e ∙ ap (λ x. table a2 x c) f ∙ ap (λ x. table a2 b2 x) g

table_more : (ds : List Decl) (d : Decl) → table_of (ds ++ d ∷ []) None
    ≡ table (names_of ds ++ decl_name d ∷ []) (function_names ds ++ function_names (d ∷ [])) (class_names ds ++ class_names (d ∷ []))
table_more ds d = three _ _ _ _ _ _ (map-append decl_name ds (d ∷ [])) (function_names-append ds (d ∷ [])) (class_names-append ds (d ∷ []))

-- what a name isn't among, where a class or a manager may have it
new_there : (names : List Name) (x : Name) (rest : Bool) → (is_new_by names x && rest) ≡ true → is_among x names ≡ false
new_there names x rest h =
    let front = (and_parts (is_new_by names x) rest h).0 in
    not-true (is_among x names) (and_parts (not (is_among x names)) (not (is_builtin_class x)) front).0

-- declarations with one more behind them, as the definitions see them
pub decls_more : (old more : List Declaration) (d : Declaration) → more ≡ old ++ d ∷ [] → map decl_of more ≡ map decl_of old ++ decl_of d ∷ []
decls_more old more d is = ap (map decl_of) is ∙ map-append decl_of old (d ∷ [])

-- the table behind a class
pub table_class : (ds : List Decl) (t : Table) (c b : Name) → t ≡ table_of ds None → may_derive_by t c b ≡ true → with_class_name t c ≡ table_of (ds ++ ClassDecl c b ∷ []) None
table_class ds t c b is may =
    let new : is_among c (names_of ds) ≡ false = new_there (names_of ds) c (is_base_by (class_names ds) b) (subst (λ q. may_derive_by q c b ≡ true) is may) in
    ap (λ q. with_class_name q c) is
    ∙ three _ _ _ _ _ _ (interned_new (names_of ds) c new) (sym (append-nil (function_names ds))) (interned_new (class_names ds) c (class_among c ds new))
    ∙ sym (table_more ds (ClassDecl c b))

-- and behind a manager
pub table_manager : (ds : List Decl) (t : Table) (m e x : Name) → t ≡ table_of ds None → may_manage_by t m e x ≡ true
    → with_manager_name t m ≡ table_of (ds ++ ManagerDecl m e x ∷ []) None
table_manager ds t m e x is may =
    let own : Bool = is_among e (function_names ds) in
    let other : Bool = is_among x (function_names ds) in
    let front : (is_new_by (names_of ds) m && own) ≡ true = (and_parts (is_new_by (names_of ds) m && own) other (subst (λ q. may_manage_by q m e x ≡ true) is may)).0 in
    let new : is_among m (names_of ds) ≡ false = new_there (names_of ds) m own front in
    ap (λ q. with_manager_name q m) is
    ∙ three _ _ _ _ _ _ (interned_new (names_of ds) m new) (sym (append-nil (function_names ds))) (sym (append-nil (class_names ds)))
    ∙ sym (table_more ds (ManagerDecl m e x))

-- a function that may be declared has a new name
pub new_at_head : (names : List Name) (f : Name) (ps : List Name) → may_head names f ps ≡ true → not (is_among f names) ≡ true
new_at_head names f ps h =
    let few : Bool = nat_le (length ps) 255 in
    let front : (few && is_new_by names f) ≡ true = (and_parts (few && is_new_by names f) (all_differ ps) h).0 in
    (and_parts (not (is_among f names)) (not (is_builtin_class f)) (and_parts few (is_new_by names f) front).1).0

-- the table with the name of a function that is new
table_function : (ds : List Decl) (t : Table) (f : Name) → t ≡ table_of ds None → is_among f (names_of ds) ≡ false
    → with_function_name t f ≡ table (names_of ds ++ f ∷ []) (function_names ds ++ f ∷ []) (class_names ds)
table_function ds t f is new =
    ap (λ q. with_function_name q f) is
    ∙ three _ _ _ _ _ _ (interned_new (names_of ds) f new) (interned_new (function_names ds) f (function_among f ds new)) refl

-- where its body is open
pub table_open : (ds : List Decl) (t : Table) (o : OpenBody) (f : Name) (ps : List Name) → t ≡ table_of ds None → o.name ≡ f → may_head t.names f ps ≡ true
    → with_function_name t f ≡ table_of ds (Some (item.Body o))
table_open ds t o f ps is named may =
    let h : may_head (names_of ds) f ps ≡ true = subst (λ q. may_head q.names f ps ≡ true) is may in
    table_function ds t f is (not-true (is_among f (names_of ds)) (new_at_head (names_of ds) f ps h))
    ∙ ap (λ x. table (names_of ds ++ x ∷ []) (function_names ds ++ x ∷ []) (class_names ds)) (sym named)

-- and where it has ended
pub table_closed : (ds : List Decl) (t : Table) (o : OpenBody) (f : Tree) → t ≡ table_of ds (Some (item.Body o)) → f.name ≡ o.name → t ≡ table_of (ds ++ FunctionDecl f ∷ []) None
table_closed ds t o f is e =
    is ∙ three _ _ _ _ _ _ (ap (λ x. names_of ds ++ x ∷ []) (sym e)) (ap (λ x. function_names ds ++ x ∷ []) (sym e)) (sym (append-nil (class_names ds)))
    ∙ sym (table_more ds (FunctionDecl f))

-- the table behind a raw code
pub table_coded : (ds : List Decl) (t : Table) (b : RawBlock) → t ≡ table_of ds None → not (is_among b.name (names_of ds)) ≡ true
    → with_function_name t b.name ≡ table_of (ds ++ RawDecl b ∷ []) None
table_coded ds t b is new =
    table_function ds t b.name is (not-true (is_among b.name (names_of ds)) new) ∙ three _ _ _ _ _ _ refl refl (sym (append-nil (class_names ds)))
    ∙ sym (table_more ds (RawDecl b))

-- the rule on headers, by the table and with the count first
pub may_head_names : (ts : List Decl) (t : Table) (f : Name) (ps : List Name) → t ≡ table_of ts None
    → may_head t.names f ps ≡ may_declare (map declared_as ts) f ps
may_head_names ts t f ps is =
    ap (λ b. nat_le (length ps) 255 && (not b && not (is_builtin_class f)) && all_differ ps) (ap (λ q. is_among f q.names) is ∙ sym (declares-names f ts))
    ∙ turn (nat_le (length ps) 255) (is_new (map declared_as ts) f) (all_differ ps)
  where
    turn : (a b c : Bool) → (a && b && c) ≡ (b && c && a)
    turn true true true = refl
    turn true true false = refl
    turn true false c = refl
    turn false true true = refl
    turn false true false = refl
    turn false false c = refl

-- the rule on an argument of a drive, by the table
drivable-names : (ts : List Decl) (names : List Name) (made : ℕ) (a : DriveAtom) → names ≡ names_of ts
    → is_drivable_by names made a ≡ is_drivable (map declared_as ts) made a
drivable-names ts names made (argument.Name x) is = ap (λ b. b || is_builtin_class x) (ap (is_among x) is ∙ sym (declares-names x ts))
drivable-names ts names made a is = refl

thrown-names : (ts : List Decl) (names : List Name) (made : ℕ) (v : Option DriveAtom) → names ≡ names_of ts
    → is_thrown_by names made v ≡ is_thrown (map declared_as ts) made v
thrown-names ts names made None is = refl
thrown-names ts names made (Some a) is = drivable-names ts names made a is

all_alike : {X : Type 0} (p q : X → Bool) → ((x : X) → p x ≡ q x) → (xs : List X) → list_all p xs ≡ list_all q xs
all_alike p q f [] = refl
all_alike p q f (x ∷ xs) = ap (λ b. b && list_all p xs) (f x) ∙ ap (λ b. q x && b) (all_alike p q f xs)

-- and the rule on drives, with the count first
pub may_drive_names : (ts : List Decl) (t : Table) (made : ℕ) (d : DriveLine) → t ≡ table_of ts None
    → may_drive_by t made d ≡ may_drive (map declared_as ts) made d
may_drive_names ts t made (drive.Call f args) is =
    let ds : List Declared = map declared_as ts in
    let named : t.names ≡ names_of ts = ap (λ q. q.names) is in
    ap (λ b. nat_le (length args) 255 && b && list_all (is_drivable_by t.names made) args) (ap (λ q. is_among f q.functions) is ∙ sym (callable-names f ts))
    ∙ ap (λ b. nat_le (length args) 255 && declares_callable f ds && b) (all_alike (is_drivable_by t.names made) (is_drivable ds made) (λ a. drivable-names ts t.names made a named) args)
    ∙ turn (nat_le (length args) 255) (declares_callable f ds) (list_all (is_drivable ds made) args)
  where
    turn : (a b c : Bool) → (a && b && c) ≡ (b && a && c)
    turn true true c = refl
    turn true false c = refl
    turn false true c = refl
    turn false false c = refl
may_drive_names ts t made (drive.Next n) is = refl
may_drive_names ts t made (drive.Send n a) is = ap (λ b. numbers_drive made n && b) (drivable-names ts t.names made a (ap (λ q. q.names) is))
may_drive_names ts t made (drive.Throw n c v) is =
    ap (λ b. numbers_drive made n && b && is_thrown_by t.names made v) (ap (λ q. is_base_by q.classes c) is ∙ sym (base-names c ts))
    ∙ ap (λ b. numbers_drive made n && is_base (map declared_as ts) c && b) (thrown-names ts t.names made v (ap (λ q. q.names) is))
may_drive_names ts t made (drive.Close n) is = refl
may_drive_names ts t made (drive.Report n) is = refl

-- ---- raw codes

still_coded_if : (ds : List Decl) (drives : List DriveLine) (t : RawText) (taken : Bool) → only_if taken (state ds drives (Some (open_code t))) ≡ still_coded ds drives (only_if taken t)
still_coded_if ds drives t true = refl
still_coded_if ds drives t false = refl

-- what an open raw code takes behind functions of the table, the reader takes
pub code_taken : (ds : List Decl) (drives : List DriveLine) (fs : List Name) (old new : RawText) (n : ℕ) (l : RawLine) (taken : Bool)
    → only_if taken new ≡ code_line fs old n l → fs ≡ function_names ds
    → only_if taken (state ds drives (Some (open_code new))) ≡ accept (state ds drives (Some (open_code old))) n (line.Raw l)
code_taken ds drives fs old new n l taken goes is =
    still_coded_if ds drives new taken ∙ ap (still_coded ds drives) (goes ∙ ap (λ x. code_line x old n l) (is ∙ sym (callables_names ds)))
