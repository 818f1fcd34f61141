-- The words of a script: names, numbers and texts.
use Rattle.std.specs.Prelude.{ℕ, ◌+◌, ◌-◌, ◌*◌, List, [], ◌∷◌, Bool, false, not, ◌||◌, ◌&&◌, if◌then◌else◌, ◌==◌, ◌^◌, nat_le, nat_lt, length, fold, Option, Some, None, ℤ, pos, neg_ℤ, option_map}
use Rattle.std.specs.List.{list_all}
use Rattle.py_code.specs.Range.{in_range}

-- whether a byte is one of these and those between them
abbrev pub between : ℕ → ℕ → ℕ → Bool
between low high b = nat_le low b && nat_le b high

abbrev pub is_digit : ℕ → Bool
is_digit b = between 48 57 b

-- a letter or _
abbrev pub starts_name : ℕ → Bool
starts_name b = between 65 90 b || between 97 122 b || (b == 95)

-- a letter, a digit or _
abbrev pub continues_name : ℕ → Bool
continues_name b = starts_name b || is_digit b

-- a letter or _, then letters, digits or _: a name, unless it is a keyword
abbrev pub is_spelled_as_name : List ℕ → Bool
is_spelled_as_name [] = false
is_spelled_as_name (b ∷ bs) = starts_name b && list_all continues_name bs

-- one or more decimal digits
abbrev pub are_digits : List ℕ → Bool
are_digits digits = nat_le 1 (length digits) && list_all is_digit digits

-- the number that decimal digits spell
abbrev pub value_of : List ℕ → ℕ
value_of digits = fold (λ n b. n * 10 + (b - 48)) 0 digits

abbrev pub digits_number : List ℕ → Option ℕ
digits_number digits = if are_digits digits then Some (value_of digits) else None

-- whether a number has at most 64 bits
abbrev pub is_short : ℕ → Bool
is_short n = nat_lt n (2 ^ 64)

-- whether it has at most 32 bits, and whether at most 8
abbrev pub is_small : ℕ → Bool
is_small n = nat_lt n (2 ^ 32)

abbrev pub is_byte : ℕ → Bool
is_byte n = nat_lt n (2 ^ 8)

-- a value that passes a test
abbrev pub passing : {X : Type 0} → (X → Bool) → Option X → Option X
passing p None = None
passing p (Some x) = if p x then Some x else None

-- digits, with a minus in front or without
abbrev pub signed_number : List ℕ → Option ℤ
signed_number [] = None
signed_number (b ∷ bs) =
    if b == 45 then option_map (λ n. neg_ℤ (pos n)) (digits_number bs)
    else option_map pos (digits_number (b ∷ bs))

-- the number that a word spells, of at most 128 bits
abbrev pub number_of : List ℕ → Option ℤ
number_of word = passing in_range (signed_number word)

-- the number that digits spell, of at most 64 bits
abbrev pub short_number : List ℕ → Option ℕ
short_number digits = passing is_short (digits_number digits)

-- the number of the drive that a word names: $, then digits
abbrev pub drive_number : List ℕ → Option ℕ
drive_number [] = None
drive_number (b ∷ bs) = if b == 36 then short_number bs else None

-- whether a byte stands in a text: printable ASCII but for ' and \
abbrev pub stands_in_text : ℕ → Bool
stands_in_text b = between 32 126 b && not (b == 39) && not (b == 92)

-- the characters before the ' that is the last byte
abbrev pub closed_text : List ℕ → Option (List ℕ)
closed_text [] = None
closed_text (b ∷ []) = if b == 39 then Some [] else None
closed_text (b ∷ c ∷ bs) = if stands_in_text b then option_map (λ text. b ∷ text) (closed_text (c ∷ bs)) else None

-- the text that a word spells: its characters between two '
abbrev pub quoted_text : List ℕ → Option (List ℕ)
quoted_text [] = None
quoted_text (b ∷ bs) = if b == 39 then closed_text bs else None
