-- Comments: lines that say nothing, in whatever characters.
use Rattle.std.specs.Prelude.{ℕ, List, [], ◌∷◌, Bool, false, if◌then◌else◌, ◌==◌, length}
use Rattle.std.specs.Str.Lossy.{utf8_valid_len}
use Rattle.py_lines.specs.Tokens.{is_blank}

-- whether the first byte that is no blank is #
abbrev pub is_comment : List ℕ → Bool
is_comment [] = false
is_comment (b ∷ bs) = if is_blank b then is_comment bs else b == 35

-- whether bytes are UTF-8
abbrev pub is_utf8 : List ℕ → Bool
is_utf8 bs = utf8_valid_len bs == length bs
