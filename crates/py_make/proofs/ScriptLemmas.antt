-- Each text that is made is a script.
use Rattle.std.proofs.Common.{◌≡◌, ◌<◌, ◌≤◌, ◌+◌, ◌*◌, ◌%◌, ◌^◌, ◌∙◌, ◌++◌, ◌∷◌, [], List, ℕ, zero, suc, Bool, true, false, Some, refl, sym, ap, subst, append_assoc, append-nil, arith}
use Rattle.std.specs.Prelude.{None, pos, map, option_map, decimal, codes, not, if◌then◌else◌, ◌==◌, ◌&&◌, nat_le}
use Rattle.std.specs.List.{AllZip}
use Rattle.std.proofs.lemmas.Bool.{and_from, cond-true, le-leb, lt-ltb, ne_eqb, not_from_false}
use Rattle.py_tree.specs.declared.body.BodyKind.{BodyKind}
use Rattle.py_tree.specs.declared.body.BodyKind.TheVariants as body
use Rattle.py_tree.specs.declared.expr.Atom.TheVariants as atom
use Rattle.py_tree.specs.declared.expr.Operator.TheVariants as operator
use Rattle.py_tree.specs.Tree.{Leaf, Operate, no_operands, operand, Assign, Do, Show, Return, Raise, Break, If, IfElse, While, TryExcept, TryFinally, With, Suite, nothing, first, no_more, clause}
use Rattle.py_lines.specs.declared.drive.DriveAtom.TheVariants as argument
use Rattle.py_lines.specs.declared.drive.DriveLine.{DriveLine}
use Rattle.py_lines.specs.declared.drive.DriveLine.TheVariants as drive
use Rattle.py_lines.specs.Line as line
use Rattle.py_lines.specs.Line.{LineRead, Said}
use Rattle.py_lines.specs.Meaning.{Meaning, Number, Word, Beyond}
use Rattle.py_lines.specs.Printing.{drive_tokens, number_token}
use Rattle.py_lines.specs.Reading.{IsReadAs, meanings}
use Rattle.py_lines.specs.Words.{is_short}
use Rattle.py_grammar.specs.Lines.{at_lf, in_first, lines}
use Rattle.py_grammar.specs.Rules.{Declared, OfClass, OfFunction, OfManager}
use Rattle.py_grammar.specs.Grammar.{ClassDecl, ManagerDecl, FunctionDecl, Item, Declares, Drives, Row, WellItems, decls_in, drives_in, items_rows, row}
use Rattle.py_grammar.specs.Script.{Text, rows_from}
use Rattle.py_grammar.proofs.LineReads.{read_append}
use Rattle.py_make.specs.Made.{count_text, declarations, drawn, drives_of, group, groups, made_text, next_state, work_text}
use Rattle.py_make.specs.Laws.{AreScripts}
use Rattle.py_make.proofs.DecimalLemmas.{AreDigits, digits_mean, digits_of}
use Rattle.py_make.proofs.GroupLemmas.{few_more}

-- ---- a line of a text

-- whether no byte ends a line
abbrev are_plain : List ℕ → Bool
are_plain [] = true
are_plain (b ∷ bs) = not (b == 10) && not (b == 13) && are_plain bs

-- digits are such
digits_plain : (ds : List ℕ) → AreDigits ds → are_plain ds ≡ true
digits_plain [] digits = refl
digits_plain (b ∷ bs) (digit, digits) =
    let no_lf : (b == 10) ≡ false = ne_eqb b 10 (λ is. omega (arith, digit.low, is)) in
    let no_cr : (b == 13) ≡ false = ne_eqb b 13 (λ is. omega (arith, digit.low, is)) in
    and_from _ _ (and_from _ _ (not_from_false _ no_lf) (not_from_false _ no_cr)) (digits_plain bs digits)

-- a line is what stands before its LF
first_line : (w rest : List ℕ) → are_plain w ≡ true → lines (w ++ 10 ∷ rest) ≡ w ∷ lines rest
first_line [] rest plain = refl
first_line (b ∷ bs) rest plain = passed (b == 10) (b == 13) (are_plain bs) (at_lf (bs ++ 10 ∷ rest)) plain (first_line bs rest)
  where
    passed : (x y z at : Bool) → (not x && not y && z) ≡ true → (z ≡ true → lines (bs ++ 10 ∷ rest) ≡ bs ∷ lines rest)
        → (if x then [] ∷ lines (bs ++ 10 ∷ rest) else if at && y then lines (bs ++ 10 ∷ rest) else in_first b (lines (bs ++ 10 ∷ rest))) ≡ (b ∷ bs) ∷ lines rest
    passed true y z at plain more = absurd (cc plain)
    passed false true z at plain more = absurd (cc plain)
    passed false false z true plain more = ap (in_first b) (more plain)
    passed false false z false plain more = ap (in_first b) (more plain)

-- drives as lines are read
abbrev pub drives_read : List DriveLine → List LineRead
drives_read [] = []
drives_read (d ∷ ds) = Said (line.Drive d) ∷ drives_read ds

drives_read_append : (ds es : List DriveLine) → drives_read (ds ++ es) ≡ drives_read ds ++ drives_read es
drives_read_append [] es = refl
drives_read_append (d ∷ ds) es = ap (λ (rs : List LineRead). Said (line.Drive d) ∷ rs) (drives_read_append ds es)

-- a text has lines of its own, which are read as these drives
abbrev Prints : List ℕ → List DriveLine → Type 0
Prints text ds = (rest : List ℕ) → (ls : Text) × (lines (text ++ rest) ≡ ls ++ lines rest) × AllZip IsReadAs ls (drives_read ds)

one_line : (w : List ℕ) (d : DriveLine) → are_plain w ≡ true → meanings w ≡ drive_tokens d → Prints (w ++ 10 ∷ []) (d ∷ [])
one_line w d plain means rest = (w ∷ [], ap lines (append_assoc w (10 ∷ []) rest) ∙ first_line w rest plain, ((means, tt), tt))

prints_both : (t u : List ℕ) (ds es : List DriveLine) → Prints t ds → Prints u es → Prints (t ++ u) (ds ++ es)
prints_both t u ds es front back rest =
    let (ls, cut, read) = front (u ++ rest) in
    let (ms, cut2, read2) = back rest in (
      ls ++ ms,
      ap lines (append_assoc t u rest) ∙ cut ∙ ap (λ (l : Text). ls ++ l) cut2 ∙ sym (append_assoc ls ms (lines rest)),
      subst (AllZip IsReadAs (ls ++ ms)) (sym (drives_read_append ds es)) (read_append ls ms (drives_read ds) (drives_read es) read read2),
    )

-- ---- the drives of a group

abbrev call : List ℕ → ℕ → DriveLine
call f v = drive.Call f (argument.Int (pos v) ∷ [])

abbrev pub drives_by : Bool → ℕ → ℕ → List DriveLine
drives_by true v n = call (codes "work") v ∷ []
drives_by false v n = call (codes "count") v ∷ drive.Next n ∷ drive.Close n ∷ []

abbrev pub drives_at : (r n : ℕ) → List DriveLine
drives_at r n = drives_by (r % 2 == 0) (r % 1000) n

short_token : (n : ℕ) → n < 2 ^ 64 → number_token n ≡ Number (pos n)
short_token n small = cond-true (is_short n) (Number (pos n)) (Beyond n) (lt-ltb n (2 ^ 64) small)

module _ (n : ℕ) (small : n < 2 ^ 64) where
  plain_decimal : are_plain (decimal n) ≡ true
  plain_decimal = digits_plain (decimal n) (digits_of n small).digits

  means_number : meanings (decimal n) ≡ Number (pos n) ∷ []
  means_number = digits_mean (decimal n) n small (digits_of n small)

  prints_work : Prints ((codes "call work " ++ decimal n) ++ 10 ∷ []) (call (codes "work") n ∷ [])
  prints_work = one_line (codes "call work " ++ decimal n) (call (codes "work") n) plain_decimal (ap (λ (ms : List Meaning). Word (codes "call") ∷ Word (codes "work") ∷ ms) means_number)

  prints_count : Prints ((codes "call count " ++ decimal n) ++ 10 ∷ []) (call (codes "count") n ∷ [])
  prints_count = one_line (codes "call count " ++ decimal n) (call (codes "count") n) plain_decimal (ap (λ (ms : List Meaning). Word (codes "call") ∷ Word (codes "count") ∷ ms) means_number)

  prints_next : Prints ((codes "next " ++ decimal n) ++ 10 ∷ []) (drive.Next n ∷ [])
  prints_next = one_line (codes "next " ++ decimal n) (drive.Next n) plain_decimal
      (ap (λ (ms : List Meaning). Word (codes "next") ∷ ms) (means_number ∙ ap (λ (m : Meaning). m ∷ []) (sym (short_token n small))))

  prints_close : Prints ((codes "close " ++ decimal n) ++ 10 ∷ []) (drive.Close n ∷ [])
  prints_close = one_line (codes "close " ++ decimal n) (drive.Close n) plain_decimal
      (ap (λ (ms : List Meaning). Word (codes "close") ∷ ms) (means_number ∙ ap (λ (m : Meaning). m ∷ []) (sym (short_token n small))))

-- a line of these words and digits, with its LF
abbrev ended : List ℕ → List ℕ → List ℕ
ended words digits = (words ++ digits) ++ 10 ∷ []

-- three such lines are the text of an odd group
three_lines : (a b : List ℕ) → ended (codes "call count ") a ++ (ended (codes "next ") b ++ ended (codes "close ") b)
    ≡ codes "call count " ++ (a ++ (codes "\nnext " ++ (b ++ (codes "\nclose " ++ (b ++ codes "\n")))))
three_lines a b =
    ap (λ (l : List ℕ). codes "call count " ++ l)
    (append_assoc a (10 ∷ []) (ended (codes "next ") b ++ ended (codes "close ") b)
    ∙ ap (λ (l : List ℕ). a ++ (codes "\nnext " ++ l)) (append_assoc b (10 ∷ []) (ended (codes "close ") b)))

group_prints : (x : Bool) (v n : ℕ) → v < 2 ^ 64 → n < 2 ^ 64 → Prints (if x then work_text v else count_text v n) (drives_by x v n)
group_prints true v n low small = prints_work v low
group_prints false v n low small =
    subst (λ (t : List ℕ). Prints t (drives_by false v n)) (three_lines (decimal v) (decimal n))
    (prints_both (ended (codes "call count ") (decimal v)) (ended (codes "next ") (decimal n) ++ ended (codes "close ") (decimal n)) (call (codes "count") v ∷ []) (drive.Next n ∷ drive.Close n ∷ [])
    (prints_count v low) (prints_both (ended (codes "next ") (decimal n)) (ended (codes "close ") (decimal n)) (drive.Next n ∷ []) (drive.Close n ∷ []) (prints_next n small) (prints_close n small)))

-- ---- the drives of all groups

abbrev pub drives_from : (count s n : ℕ) → List DriveLine
drives_from zero s n = []
drives_from (suc more) s n = drives_at (drawn (next_state s)) n ++ drives_from more (next_state s) (n + drives_of (drawn (next_state s)))

pub groups_print : (count s n : ℕ) → n + 3 * count < 2 ^ 64 → Prints (groups count s n) (drives_from count s n)
groups_print zero s n low = λ rest. ([], refl, tt)
groups_print (suc more) s n low =
    let t : ℕ = next_state s in
    let r : ℕ = drawn t in
    prints_both (group r n) (groups more t (n + drives_of r)) (drives_at r n) (drives_from more t (n + drives_of r)) (group_prints (r % 2 == 0) (r % 1000) n (omega arith) (omega (arith, low)))
    (groups_print more t (n + drives_of r) (few_more n r more low))

-- ---- the declarations

abbrev pub work_suite : Suite
work_suite =
    first 10 (Assign (codes "c") (Operate operator.Lt (operand (Leaf (atom.Name (codes "a"))) (operand (Leaf (atom.Int (pos 500))) no_operands))))
    (first 11 (TryExcept
    (first 12 (With (Leaf (atom.Name (codes "scope"))) None
    (first 13 (If (Leaf (atom.Name (codes "c"))) (first 14 (Raise (Leaf (atom.Name (codes "Fault")))) nothing))
    (first 16 (Return (Leaf (atom.Name (codes "a")))) nothing))) nothing)
    (clause 18 (codes "Fault") (Some (codes "e")) (first 19 (Return (Leaf (atom.Name (codes "e")))) nothing) no_more)) nothing)

abbrev pub count_suite : Suite
count_suite =
    first 23 (Assign (codes "i") (Leaf (atom.Int (pos 0))))
    (first 24 (While (Leaf (atom.Bool true))
    (first 25 (TryFinally
    (first 26 (Do operator.Yield (operand (Leaf (atom.Name (codes "i"))) no_operands)) nothing)
    (first 28 (Assign (codes "i") (Operate operator.Add (operand (Leaf (atom.Name (codes "i"))) (operand (Leaf (atom.Int (pos 1))) no_operands)))) nothing))
    (first 30 (Assign (codes "c") (Operate operator.Lt (operand (Leaf (atom.Name (codes "i"))) (operand (Leaf (atom.Name (codes "n"))) no_operands))))
    (first 31 (IfElse (Leaf (atom.Name (codes "c"))) nothing (first 33 Break nothing)) nothing)))) nothing)

abbrev function : BodyKind → List ℕ → List (List ℕ) → Suite → ℕ → Item
function kind name params suite line = Declares (FunctionDecl (record { kind = kind; name = name; params = params; suite = suite; line = line }))

-- before these items
abbrev pub declared_before : List Item → List Item
declared_before more =
    Declares (ClassDecl (codes "Fault") (codes "Exception"))
    ∷ function body.Function (codes "enter") [] (first 3 (Show (Leaf (atom.Str (codes "open")))) nothing) 2
    ∷ function body.Function (codes "exit") (codes "t" ∷ codes "v" ∷ codes "b" ∷ []) (first 6 (Show (Leaf (atom.Str (codes "close")))) nothing) 5
    ∷ Declares (ManagerDecl (codes "scope") (codes "enter") (codes "exit"))
    ∷ function body.Function (codes "work") (codes "a" ∷ []) work_suite 9
    ∷ function body.Generator (codes "count") (codes "n" ∷ []) count_suite 22
    ∷ more

-- what later lines see of them
abbrev pub names_before : List Declared
names_before = record { name = codes "Fault"; kind = OfClass } ∷ record { name = codes "enter"; kind = OfFunction } ∷ record { name = codes "exit"; kind = OfFunction }
    ∷ record { name = codes "scope"; kind = OfManager } ∷ record { name = codes "work"; kind = OfFunction } ∷ record { name = codes "count"; kind = OfFunction } ∷ []

-- their lines
abbrev pub lines_before : Text
lines_before = lines declarations

abbrev pub reads_before : List LineRead
reads_before = map (λ (r : Row). Said r.line) (items_rows (declared_before []))

pub lines_after : (rest : List ℕ) → lines (declarations ++ rest) ≡ lines_before ++ lines rest
lines_after rest = refl

pub read_before : AllZip IsReadAs lines_before reads_before
read_before =
    ((refl, tt), ((refl, tt), ((refl, omega arith), ((refl, tt), ((refl, tt), ((refl, omega arith), ((refl, tt), ((refl, tt), ((refl, tt), ((refl, omega arith), ((refl, tt), ((refl, omega arith), ((refl, omega arith), ((refl, omega arith), ((refl, tt), ((refl, omega arith), ((refl, tt), ((refl, tt), ((refl, omega arith), ((refl, tt), ((refl, tt), ((refl, tt), ((refl, omega arith), ((refl, omega arith), ((refl, tt), ((refl, omega arith), ((refl, tt), ((refl, omega arith), ((refl, tt), ((refl, omega arith), ((refl, omega arith), ((refl, tt), ((refl, tt), ((refl, tt), ((refl, tt), ((refl, tt), tt))))))))))))))))))))))))))))))))))))

-- ---- the drives keep the rules

abbrev pub driven : List DriveLine → List Item
driven [] = []
driven (d ∷ ds) = Drives d ∷ driven ds

driven_append : (ds es : List DriveLine) → driven (ds ++ es) ≡ driven ds ++ driven es
driven_append [] es = refl
driven_append (d ∷ ds) es = ap (λ (is : List Item). Drives d ∷ is) (driven_append ds es)

pub rows_of_drives : (k : ℕ) (ds : List DriveLine) → rows_from k (drives_read ds) ≡ Some (items_rows (driven ds))
rows_of_drives k [] = refl
rows_of_drives k (d ∷ ds) = ap (option_map (λ (rs : List Row). row k (line.Drive d) ∷ rs)) (rows_of_drives (suc k) ds)

numbered : (made k : ℕ) → 1 ≤ k → k ≤ made → (nat_le 1 k && nat_le k made) ≡ true
numbered made k low high = and_from (nat_le 1 k) (nat_le k made) (le-leb 1 k low) (le-leb k made high)

group_well : (x : Bool) (v made : ℕ) (more : List DriveLine) → WellItems names_before (made + (if x then 1 else 3)) (driven more)
    → WellItems names_before made (driven (drives_by x v (suc made) ++ more))
group_well true v made more well = (refl, subst (λ (k : ℕ). WellItems names_before k (driven more)) (omega arith) well)
group_well false v made more well = (
  refl,
  (numbered (suc made) (suc made) (omega arith) (omega arith), (numbered (suc (suc made)) (suc made) (omega arith) (omega arith), subst (λ (k : ℕ). WellItems names_before k (driven more)) (omega arith) well)),
)

pub groups_well : (count s made : ℕ) → WellItems names_before made (driven (drives_from count s (suc made)))
groups_well zero s made = tt
groups_well (suc more) s made =
    let t : ℕ = next_state s in
    let r : ℕ = drawn t in
    let same : suc (made + drives_of r) ≡ suc made + drives_of r = omega arith in
    group_well (r % 2 == 0) (r % 1000) made (drives_from more t (suc made + drives_of r))
    (subst (λ (n : ℕ). WellItems names_before (made + drives_of r) (driven (drives_from more t n))) same (groups_well more t (made + drives_of r)))

-- ---- the whole text

pub are_scripts : AreScripts
are_scripts seed count low =
    let s : ℕ = seed % 2 ^ 32 in
    let ds : List DriveLine = drives_from count s 1 in
    let items : List Item = declared_before (driven ds) in
    let (ls, cut, read) = groups_print count s 1 (omega (arith, low)) [] in
    let rest : lines (groups count s 1) ≡ ls = ap lines (sym (append-nil (groups count s 1))) ∙ cut ∙ append-nil ls in
    let whole : lines (made_text seed count) ≡ lines_before ++ ls = lines_after (groups count s 1) ∙ ap (λ (l : Text). lines_before ++ l) rest in (
      decls_in items,
      drives_in items,
      record {
        items = items;
        reads = reads_before ++ drives_read ds;
        read = subst (λ (t : Text). AllZip IsReadAs t (reads_before ++ drives_read ds)) (sym whole) (read_append lines_before ls reads_before (drives_read ds) read_before read);
        spelled = rw (rows_of_drives 37 ds) refl;
        well = (refl, ((refl, (refl, tt)), ((refl, (refl, tt)), (refl, ((refl, (refl, ((refl, (tt, (((refl, ((refl, (refl, tt)), (refl, tt))), tt), ((refl, tt), tt)))), tt))), ((refl, (refl, ((refl, ((refl, ((refl, tt), (refl, tt))), (refl, ((refl, (tt, (refl, tt))), tt)))), tt))), groups_well count s 0))))));
        declared = refl;
        driven = refl;
      },
    )
