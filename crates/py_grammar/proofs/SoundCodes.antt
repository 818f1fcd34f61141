-- What an open raw code keeps by its lines.
use Rattle.std.proofs.Common.{◌≡◌, ◌⊎◌, inl, inr, ℕ, List, [], ◌∷◌, ◌++◌, length, Option, Some, None, Bool, true, false, refl, sym, ap, ◌∙◌}
use Rattle.std.specs.Prelude.{◌==◌, not}
use Rattle.std.proofs.lemmas.Bool.{and_parts, not-true}
use Rattle.py_tree.specs.Tree.{Name}
use Rattle.py_lines.specs.declared.raw.RawLine.{RawLine}
use Rattle.py_lines.specs.declared.raw.RawLine.TheVariants as raw
use Rattle.py_lines.specs.Line as line
use Rattle.py_grammar.specs.declared.raw_block.RawUnit.{RawUnit}
use Rattle.py_grammar.specs.Rules.{Declared, callables, may_declare}
use Rattle.py_grammar.specs.RawRules.{have_depth, may_follow, may_all_follow, may_run_behind, all_run}
use Rattle.py_grammar.specs.RawText.{RawText, bare_text, carried}
use Rattle.py_grammar.specs.Grammar.{Row, row, said_row, unit_row, inner_rows, code_row, WellCode}
use Rattle.py_grammar.specs.Reader.{only_if, with_said, with_unit, code_line}
use Rattle.py_grammar.proofs.RawLines.{all_follow_push, all_run_push, none_by_test, said_rows, unit_rows}

-- an open raw code keeps the rules, behind these declarations
pub record WellOpenCode (ds : List Declared) (t : RawText) : Type 0 where
  pub declared : may_declare ds t.name t.params ≡ true
  pub head : may_all_follow (callables ds) [] t.head ≡ true
  pub deep : (t.units ≡ []) ⊎ (have_depth t.head ≡ true)
  pub run : all_run 0 t.units ≡ true

pub well_bare : (ds : List Declared) (n : ℕ) (f : Name) (ps : List Name) → may_declare ds f ps ≡ true → WellOpenCode ds (bare_text n f ps)
well_bare ds n f ps w = record { declared = w; head = refl; deep = inl refl; run = refl }

-- its rows, up to the end
abbrev pub open_code_rows : RawText → List Row
open_code_rows t = code_row t ∷ inner_rows t

-- what it has become by a row
abbrev pub CodeGrows : List Declared → RawText → Row → Option RawText → Type 0
CodeGrows ds t r None = Unit {0}
CodeGrows ds t r (Some u) = (open_code_rows u ≡ open_code_rows t ++ r ∷ []) × WellOpenCode ds u

grows_if : (ds : List Declared) (t : RawText) (r : Row) (b : Bool) (u : RawText) → (b ≡ true → CodeGrows ds t r (Some u)) → CodeGrows ds t r (only_if b u)
grows_if ds t r true u f = f refl
grows_if ds t r false u f = tt

-- by a header line
said_grows : (ds : List Declared) (t : RawText) (l : RawLine) → WellOpenCode ds t → CodeGrows ds t (said_row l) (with_said (callables ds) t l)
said_grows ds t l w = grows_if ds t (said_row l) _ _ (λ e.
    let parts = and_parts (length t.units == 0) (may_follow (callables ds) t.head l) e in
    let none : t.units ≡ [] = none_by_test t.units parts.0 in (
      ap (λ rows. code_row t ∷ rows) (said_rows t l none),
      record { declared = w.declared; head = all_follow_push (callables ds) [] t.head l w.head parts.1; deep = inl none; run = w.run },
    ))

-- by a unit
unit_grows : (ds : List Declared) (t : RawText) (u : RawUnit) → WellOpenCode ds t → CodeGrows ds t (unit_row u) (with_unit t u)
unit_grows ds t u w = grows_if ds t (unit_row u) _ _ (λ e.
    let parts = and_parts (have_depth t.head) (may_run_behind (carried t.units) u) e in (
      ap (λ rows. code_row t ∷ rows) (unit_rows t u),
      record { declared = w.declared; head = w.head; deep = inr parts.0; run = all_run_push 0 t.units u w.run parts.1 },
    ))

-- by any line of its own
pub code_grows : (ds : List Declared) (t : RawText) (n : ℕ) (l : RawLine) → WellOpenCode ds t → CodeGrows ds t (row n (line.Raw l)) (code_line (callables ds) t n l)
code_grows ds t n (raw.Unit i a x) w = unit_grows ds t (record { line = n; op = i; arg = a; note = x }) w
code_grows ds t n l w = said_grows ds t l w

-- it keeps all rules where it has a unit
pub well_whole : (ds : List Declared) (t : RawText) → WellOpenCode ds t → not (length t.units == 0) ≡ true → WellCode ds t
well_whole ds t w some =
    let is : (length t.units == 0) ≡ false = not-true (length t.units == 0) some in
    record { declared = w.declared; head = w.head; deep = deep is w.deep; some = is; run = w.run }
  where
    deep : (length t.units == 0) ≡ false → (t.units ≡ []) ⊎ (have_depth t.head ≡ true) → have_depth t.head ≡ true
    deep is (inl none) = let clash : true ≡ false = sym (ap (λ (us : List RawUnit). length us == 0) none) ∙ is in cc clash
    deep is (inr there) = there
