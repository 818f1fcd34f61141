-- At most 64 operators stand inside of one another in what a script computes, since its lines are so.
use Rattle.std.proofs.Common.{◌≡◌, ℕ, suc, List, [], ◌∷◌, ◌++◌, Option, Some, None, refl, subst}
use Rattle.py_lines.specs.Line.{LineRead, Blank, Said, Malformed}
use Rattle.py_lines.specs.Reading.{IsReadAs, LineIsLow}
use Rattle.py_grammar.specs.Grammar.{Row, row}
use Rattle.py_grammar.specs.Script.{Text, with_read, rows_from}
use Rattle.py_grammar.proofs.LineReads.{AreReadAs}

-- the line of each row is so
abbrev pub AreLow : List Row → Type 0
AreLow [] = Unit {0}
AreLow (r ∷ rows) = LineIsLow r.line × AreLow rows

pub low_parts : (xs ys : List Row) → AreLow (xs ++ ys) → AreLow xs × AreLow ys
low_parts [] ys low = (tt, low)
low_parts (x ∷ xs) ys low = let (front, back) = low_parts xs ys low.1 in ((low.0, front), back)

-- what lines are read as
pub rows_low : (n : ℕ) (text : Text) (reads : List LineRead) (rows : List Row) → AreReadAs text reads → rows_from n reads ≡ Some rows → AreLow rows
rows_low n [] [] rows a is = let same : [] ≡ rows = cc is in subst AreLow same tt
rows_low n [] (r ∷ rs) rows a is = absurd a
rows_low n (l ∷ ls) [] rows a is = absurd a
rows_low n (l ∷ ls) (r ∷ rs) rows a is = go r (rows_from (suc n) rs) a.0 (λ more e. rows_low (suc n) ls rs more a.1 e) is
  where
    go : (read : LineRead) (behind : Option (List Row)) → IsReadAs l read → ((more : List Row) → behind ≡ Some more → AreLow more) → with_read n read behind ≡ Some rows → AreLow rows
    go Malformed behind read low e = absurd (cc e)
    go Blank behind read low e = low rows e
    go (Said line) None read low e = absurd (cc e)
    go (Said line) (Some more) read low e = let same : row n line ∷ more ≡ rows = cc e in subst AreLow same (read.1, low more refl)
