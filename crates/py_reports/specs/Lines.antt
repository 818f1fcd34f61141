-- The lines of a text.
use Rattle.std.specs.Prelude.{ℕ, ◌-◌, Option, None, List, [], ◌∷◌, Bool, false, ◌==◌, ◌&&◌, if◌then◌else◌, slice_get}
use Rattle.py_objects.specs.Objects.{Name}
use Rattle.py_exceptions.specs.Repr.{has}

-- whether a line feed comes first
abbrev pub is_ended : Name → Bool
is_ended [] = false
is_ended (c ∷ cs) = c == 10

-- lines with one more character at the front of the first one
abbrev pub put_first : ℕ → List Name → List Name
put_first c [] = (c ∷ []) ∷ []
put_first c (line ∷ lines) = (c ∷ line) ∷ lines

-- the lines of a character and of what follows: a line feed ends a line, and a carriage return before one is no part of it
abbrev pub line_begun : ℕ → Bool → List Name → List Name
line_begun c ended lines = if c == 10 then [] ∷ lines else (if (c == 13) && ended then lines else put_first c lines)

-- the lines of a text; the last one needs no line feed
abbrev pub lines_of : Name → List Name
lines_of [] = []
lines_of (c ∷ cs) = line_begun c (is_ended cs) (lines_of cs)

-- the line of a number, from 1
abbrev pub line_at : List Name → ℕ → Option Name
line_at lines n = if n == 0 then None else slice_get lines (n - 1)

-- a line without these characters at its front
abbrev pub without_front : Name → Name → Name
without_front blanks [] = []
without_front blanks (c ∷ cs) = if has c blanks then without_front blanks cs else c ∷ cs

-- a character before a text without line feeds at its end
abbrev pub put_before : ℕ → Name → Name
put_before c [] = if c == 10 then [] else c ∷ []
put_before c (d ∷ ds) = c ∷ d ∷ ds

-- a text without line feeds at its end
abbrev pub without_ends : Name → Name
without_ends [] = []
without_ends (c ∷ cs) = put_before c (without_ends cs)
