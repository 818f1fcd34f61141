-- How the rules are tried on a code whose parts are known.
use Rattle.std.proofs.Common.{◌≡◌, ⊎_elim, ℕ, List, [], zero, suc, ◌<◌, Bool, true, false, ◌&&◌, nat_lt, length, ap, ◌∙◌, inl, inr, refl, arith}
use Rattle.std.proofs.lemmas.Bool.{and_parts, cases_lt}
use Rattle.std.proofs.lemmas.Bool.Decides.{nat_tests}
use Rattle.py_check.specs.Sheet.{Sheet}
use Rattle.py_check.specs.Typing.{keeps_at, IsTyped}
use Rattle.py_check.specs.WholeCode.{keeps_whole}
use Rattle.py_check.specs.Breaking.{keeps, BreaksFirst}
use Rattle.py_check.specs.Worked.{Typed, Breaks}

-- all of the first so many numbers pass a test
abbrev pub all_below : (ℕ → Bool) → ℕ → Bool
all_below test zero = true
all_below test (suc n) = all_below test n && test n

pub each_passes : (test : ℕ → Bool) (n k : ℕ) → all_below test n ≡ true → k < n → test k ≡ true
each_passes test zero k all below = absurd (omega arith)
each_passes test (suc n) k all below =
    let parts : (all_below test n ≡ true) × (test n ≡ true) = and_parts (all_below test n) (test n) all in
    ⊎_elim
    (λ lt. each_passes test n k parts.0 lt)
    (λ ge. let same : k ≡ n = omega arith in ap test same ∙ parts.1)
    (cases_lt k n)

-- after codes of these shapes
pub typed_behind : (shapes : List ℕ) (sheet : Sheet) → keeps_whole shapes sheet ≡ true → all_below (keeps_at shapes sheet) (length sheet.units) ≡ true → IsTyped shapes sheet
typed_behind shapes sheet whole all = record { whole = whole; each = λ at below. each_passes (keeps_at shapes sheet) (length sheet.units) at all below }

pub breaks_behind : (shapes : List ℕ) (sheet : Sheet) (at : ℕ) → nat_lt at (length sheet.units) ≡ true → keeps shapes sheet at ≡ false → all_below (keeps shapes sheet) at ≡ true
    → BreaksFirst shapes sheet at
breaks_behind shapes sheet at within here before = record {
  within = inr (grind (arith, nat_tests, within));
  breaks = here;
  before = λ k below. each_passes (keeps shapes sheet) at k before below;
}

-- after none
pub typed : (sheet : Sheet) → keeps_whole [] sheet ≡ true → all_below (keeps_at [] sheet) (length sheet.units) ≡ true → Typed sheet
typed sheet whole all = typed_behind [] sheet whole all

pub breaks : (sheet : Sheet) (at : ℕ) → nat_lt at (length sheet.units) ≡ true → keeps [] sheet at ≡ false → all_below (keeps [] sheet) at ≡ true → Breaks sheet at
breaks sheet at within here before = breaks_behind [] sheet at within here before

pub breaks_whole : (sheet : Sheet) → keeps [] sheet 0 ≡ false → Breaks sheet 0
breaks_whole sheet here = record { within = inl refl; breaks = here; before = λ k below. absurd (omega arith) }

-- the first unit breaks the rules on units, whether or not the whole code keeps its own
pub breaks_first : (sheet : Sheet) → keeps_at [] sheet 0 ≡ false → Breaks sheet 0
breaks_first sheet here = breaks_whole sheet (by_whole (keeps_whole [] sheet) (keeps_at [] sheet 0) here)
  where
    by_whole : (b c : Bool) → c ≡ false → (b && c) ≡ false
    by_whole true c is = is
    by_whole false c is = refl
