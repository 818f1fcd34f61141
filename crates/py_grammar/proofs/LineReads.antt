-- Texts by how their lines read, and the rows of what they read as.
use Rattle.std.proofs.Common.{◌≡◌, ℕ, suc, List, [], ◌∷◌, ◌++◌, length, Option, Some, None, refl, ap, ◌∙◌}
use Rattle.std.specs.List.{AllZip}
use Rattle.py_lines.specs.Line.{LineRead, Blank, Said, Malformed}
use Rattle.py_lines.specs.Reading.{IsReadAs}
use Rattle.py_lines.proofs.Readings.{one_way}
use Rattle.py_grammar.specs.Grammar.{Row}
use Rattle.py_grammar.specs.Script.{Text, with_read, rows_from}

-- each line of a text reads so
abbrev pub AreReadAs : Text → List LineRead → Type 0
AreReadAs text reads = AllZip IsReadAs text reads

pub read_length : (text : Text) (reads : List LineRead) → AreReadAs text reads → length reads ≡ length text
read_length [] [] a = refl
read_length [] (r ∷ rs) a = absurd a
read_length (l ∷ ls) [] a = absurd a
read_length (l ∷ ls) (r ∷ rs) a = ap suc (read_length ls rs a.1)

-- a text reads in one way
pub one_reading : (text : Text) (x y : List LineRead) → AreReadAs text x → AreReadAs text y → x ≡ y
one_reading [] [] [] a b = refl
one_reading [] (r ∷ x) y a b = absurd a
one_reading [] [] (s ∷ y) a b = absurd b
one_reading (l ∷ ls) [] y a b = absurd a
one_reading (l ∷ ls) (r ∷ x) [] a b = absurd b
one_reading (l ∷ ls) (r ∷ x) (s ∷ y) a b = ap (λ q. q ∷ x) (one_way l r s a.0 b.0) ∙ ap (λ q. s ∷ q) (one_reading ls x y a.1 b.1)

-- one text behind another
pub read_append : (front back : Text) (x y : List LineRead) → AreReadAs front x → AreReadAs back y → AreReadAs (front ++ back) (x ++ y)
read_append [] back [] y a b = b
read_append [] back (r ∷ x) y a b = absurd a
read_append (l ∷ front) back [] y a b = absurd a
read_append (l ∷ front) back (r ∷ x) y a b = (a.0, read_append front back x y a.1 b)

-- and what each of both reads as
pub read_parts : (front back : Text) (z : List LineRead) → AreReadAs (front ++ back) z
    → (x : List LineRead) × (y : List LineRead) × AreReadAs front x × AreReadAs back y × (z ≡ x ++ y)
read_parts [] back z a = ([], z, tt, a, refl)
read_parts (l ∷ front) back [] a = absurd a
read_parts (l ∷ front) back (r ∷ z) a = let p = read_parts front back z a.1 in (r ∷ p.0, p.1, (a.0, p.2), p.3, ap (λ q. r ∷ q) p.4)

-- ---- numbers of lines

-- the number behind these lines, or what they read as, of which the first has this one
abbrev pub after : {X : Type 0} → ℕ → List X → ℕ
after n [] = n
after n (l ∷ ls) = after (suc n) ls

pub after-append : {X : Type 0} (n : ℕ) (front : List X) (l : X) → after n (front ++ l ∷ []) ≡ suc (after n front)
after-append n [] l = refl
after-append n (m ∷ front) l = after-append (suc n) front l

after-suc : {X : Type 0} (n : ℕ) (front : List X) → after (suc n) front ≡ suc (after n front)
after-suc n [] = refl
after-suc n (l ∷ ls) = after-suc (suc n) ls

pub after-one : {X : Type 0} (front : List X) → after 1 front ≡ suc (length front)
after-one [] = refl
after-one (l ∷ ls) = after-suc 1 ls ∙ ap suc (after-one ls)

-- ---- rows

-- the rows of two texts, one behind the other
abbrev pub both_rows : Option (List Row) → Option (List Row) → Option (List Row)
both_rows None b = None
both_rows (Some a) None = None
both_rows (Some a) (Some b) = Some (a ++ b)

with_read-both : (n : ℕ) (r : LineRead) (a b : Option (List Row)) → with_read n r (both_rows a b) ≡ both_rows (with_read n r a) b
with_read-both n Malformed a b = refl
with_read-both n Blank a b = refl
with_read-both n (Said l) None b = refl
with_read-both n (Said l) (Some a) None = refl
with_read-both n (Said l) (Some a) (Some b) = refl

both_rows-none : (b : Option (List Row)) → b ≡ both_rows (Some []) b
both_rows-none None = refl
both_rows-none (Some b) = refl

pub rows_from-append : (n : ℕ) (front back : List LineRead) → rows_from n (front ++ back) ≡ both_rows (rows_from n front) (rows_from (after n front) back)
rows_from-append n [] back = both_rows-none (rows_from n back)
rows_from-append n (r ∷ front) back = ap (with_read n r) (rows_from-append (suc n) front back) ∙ with_read-both n r (rows_from (suc n) front) (rows_from (after (suc n) front) back)
