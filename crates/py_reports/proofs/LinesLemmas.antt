-- The lines of texts, as loops find them.
use Rattle.std.proofs.Common.{◌≡◌, ℕ, ◌+◌, ◌<◌, ◌≤◌, List, [], ◌∷◌, ◌++◌, Bool, true, false, ◌||◌, ◌&&◌, refl, sym, ap, ◌∙◌, append_assoc, append-nil, length, drop, get_or, arith}
use Rattle.std.specs.Prelude.{◌==◌, if◌then◌else◌}
use Rattle.std.specs.List.{list_any}
use Rattle.std.proofs.lemmas.Bool.Decides.{nat_tests}
use Rattle.std.proofs.lemmas.List.{drop_all, drop_more}
use Rattle.py_objects.specs.Objects.{Name}
use Rattle.py_reports.specs.Lines.{line_begun, lines_of, put_before, put_first, without_ends}
use Rattle.py_reports.specs.Inside.{one_line, without_return}

-- whether a text has a line feed
abbrev pub has_end : Name → Bool
has_end cs = list_any (λ d. d == 10) cs

neither : (a b : Bool) → (a || b) ≡ false → (a ≡ false) × (b ≡ false)
neither true b none = cc
neither false b none = (refl, none)

-- a character that ends nothing begins the line that follows it
begun : (c : ℕ) (ended : Bool) (lines : List Name) → (c == 10) ≡ false → ended ≡ false → line_begun c ended lines ≡ put_first c lines
begun c ended lines other still = by (c == 10) (c == 13) ended other still
  where
    by : (a b e : Bool) → a ≡ false → e ≡ false → (if a then [] ∷ lines else (if b && e then lines else put_first c lines)) ≡ put_first c lines
    by true b e other still = cc
    by false true true other still = cc
    by false true false other still = refl
    by false false e other still = refl

-- a line with its line feed
pub ended_line : (line rest : Name) → has_end line ≡ false → lines_of (line ++ 10 ∷ rest) ≡ without_return line ∷ lines_of rest
ended_line [] rest none = refl
ended_line (c ∷ []) rest none = by (c == 10) (c == 13) (neither (c == 10) false none).0
  where
    by : (a b : Bool) → a ≡ false
        → (if a then [] ∷ ([] ∷ lines_of rest) else (if b && true then [] ∷ lines_of rest else (c ∷ []) ∷ lines_of rest)) ≡ (if b then [] else c ∷ []) ∷ lines_of rest
    by true b other = cc
    by false true other = refl
    by false false other = refl
ended_line (c ∷ d ∷ cs) rest none =
    let (other, later) = neither (c == 10) (has_end (d ∷ cs)) none in
    begun c (d == 10) (lines_of (d ∷ cs ++ 10 ∷ rest)) other (neither (d == 10) (has_end cs) later).0 ∙ ap (put_first c) (ended_line (d ∷ cs) rest later)

-- the line that a text without line feeds is, unless it is empty
pub last_line : (line : Name) → has_end line ≡ false → lines_of line ≡ one_line line
last_line [] none = refl
last_line (c ∷ []) none = begun c false [] (neither (c == 10) false none).0 refl
last_line (c ∷ d ∷ cs) none =
    let (other, later) = neither (c == 10) (has_end (d ∷ cs)) none in
    begun c (d == 10) (lines_of (d ∷ cs)) other (neither (d == 10) (has_end cs) later).0 ∙ ap (put_first c) (last_line (d ∷ cs) later)

-- ---- a loop over a text, which has cut these lines, and read a part of the next one

pub record IsCut (text : Name) (lines : List Name) (line : Name) (i : ℕ) : Type 0 where
  pub same : lines_of text ≡ lines ++ lines_of (line ++ drop i text)
  pub still : has_end line ≡ false

has_end-last : (line : Name) (c : ℕ) → has_end line ≡ false → (c == 10) ≡ false → has_end (line ++ c ∷ []) ≡ false
has_end-last [] c none other = rw other refl
has_end-last (d ∷ line) c none other =
    let (this, later) = neither (d == 10) (has_end line) none in
    rw this (has_end-last line c later other)

-- a character read
read : (text : Name) (i c : ℕ) → i < length text → c ≡ get_or text i c → drop i text ≡ c ∷ drop (i + 1) text
read text i c low is = drop_more text i c low ∙ ap (λ (d : ℕ). d ∷ drop (i + 1) text) (sym is)

-- a line feed
pub cut_more : (text : Name) (lines more : List Name) (line taken next : Name) (i c : ℕ) → i < length text → c ≡ get_or text i c → c ≡ 10 → taken ≡ without_return line
    → more ≡ lines ++ taken ∷ [] → next ≡ [] → IsCut text lines line i → IsCut text more next (i + 1)
cut_more text lines more line taken next i c low is end cut pushed empty so_far = record {
  same = so_far.same ∙ ap (λ (rest : Name). lines ++ lines_of (line ++ rest)) (read text i c low is ∙ ap (λ (d : ℕ). d ∷ drop (i + 1) text) end)
      ∙ ap (λ (ls : List Name). lines ++ ls) (ended_line line (drop (i + 1) text) so_far.still)
      ∙ ap (λ (l : Name). lines ++ l ∷ lines_of (drop (i + 1) text)) (sym cut)
      ∙ sym (append_assoc lines (taken ∷ []) (lines_of (drop (i + 1) text)))
      ∙ ap (λ (ls : List Name). ls ++ lines_of (drop (i + 1) text)) (sym pushed)
      ∙ ap (λ (l : Name). more ++ lines_of (l ++ drop (i + 1) text)) (sym empty);
  still = ap has_end empty;
}

-- any other character
pub cut_on : (text : Name) (lines : List Name) (line next : Name) (i c : ℕ) → i < length text → c ≡ get_or text i c → (c ≡ 10 → ⊥) → next ≡ line ++ c ∷ []
    → IsCut text lines line i → IsCut text lines next (i + 1)
cut_on text lines line next i c low is other pushed so_far =
    let apart : (c == 10) ≡ false = grind (arith, nat_tests) in
    record {
      same = so_far.same ∙ ap (λ (rest : Name). lines ++ lines_of (line ++ rest)) (read text i c low is)
          ∙ ap (λ (l : Name). lines ++ lines_of l) (sym (append_assoc line (c ∷ []) (drop (i + 1) text)))
          ∙ ap (λ (l : Name). lines ++ lines_of (l ++ drop (i + 1) text)) (sym pushed);
      still = ap has_end pushed ∙ has_end-last line c so_far.still apart;
    }

-- the end
pub cut_whole : (text : Name) (lines : List Name) (line : Name) (i : ℕ) → length text ≤ i → IsCut text lines line i → lines_of text ≡ lines ++ one_line line
cut_whole text lines line i high so_far =
    so_far.same ∙ ap (λ (rest : Name). lines ++ lines_of (line ++ rest)) (drop_all i text high) ∙ ap (λ (l : Name). lines ++ lines_of l) (append-nil line)
    ∙ ap (λ (ls : List Name). lines ++ ls) (last_line line so_far.still)

-- ---- from the end

pub return_last : (front : Name) (c : ℕ) → without_return (front ++ c ∷ []) ≡ (if c == 13 then front else front ++ c ∷ [])
return_last [] c = refl
return_last (x ∷ []) c = by (c == 13)
  where
    by : (b : Bool) → x ∷ (if b then [] else c ∷ []) ≡ (if b then x ∷ [] else x ∷ c ∷ [])
    by true = refl
    by false = refl
return_last (x ∷ y ∷ ys) c = ap (λ (l : Name). x ∷ l) (return_last (y ∷ ys) c) ∙ by (c == 13)
  where
    by : (b : Bool) → x ∷ (if b then y ∷ ys else y ∷ ys ++ c ∷ []) ≡ (if b then x ∷ y ∷ ys else x ∷ y ∷ ys ++ c ∷ [])
    by true = refl
    by false = refl

put_before_last : (x : ℕ) (xs : Name) (c : ℕ) → put_before x (xs ++ c ∷ []) ≡ x ∷ xs ++ c ∷ []
put_before_last x [] c = refl
put_before_last x (y ∷ ys) c = refl

pub ends_last : (front : Name) (c : ℕ) → without_ends (front ++ c ∷ []) ≡ (if c == 10 then without_ends front else front ++ c ∷ [])
ends_last [] c = refl
ends_last (x ∷ xs) c = ap (put_before x) (ends_last xs c) ∙ by (c == 10)
  where
    by : (b : Bool) → put_before x (if b then without_ends xs else xs ++ c ∷ []) ≡ (if b then put_before x (without_ends xs) else x ∷ xs ++ c ∷ [])
    by true = refl
    by false = put_before_last x xs c

-- ---- the same, for a line that ends with a character

pub return_cut : (line front : Name) (c : ℕ) → line ≡ front ++ c ∷ [] → c ≡ 13 → front ≡ without_return line
return_cut line front c is return = sym (ap without_return (is ∙ ap (λ (d : ℕ). front ++ d ∷ []) return) ∙ return_last front 13)

pub return_kept : (line front : Name) (c : ℕ) → line ≡ front ++ c ∷ [] → (c ≡ 13 → ⊥) → line ≡ without_return line
return_kept line front c is other =
    let apart : (c == 13) ≡ false = grind (arith, nat_tests) in
    is ∙ sym (ap without_return is ∙ (rw apart at (return_last front c)))

pub end_cut : (line front : Name) (c : ℕ) → line ≡ front ++ c ∷ [] → c ≡ 10 → without_ends line ≡ without_ends front
end_cut line front c is end = ap without_ends (is ∙ ap (λ (d : ℕ). front ++ d ∷ []) end) ∙ ends_last front 10

pub end_kept : (line front : Name) (c : ℕ) → line ≡ front ++ c ∷ [] → (c ≡ 10 → ⊥) → without_ends line ≡ line
end_kept line front c is other =
    let apart : (c == 10) ≡ false = grind (arith, nat_tests) in
    ap without_ends is ∙ (rw apart at (ends_last front c)) ∙ sym is
