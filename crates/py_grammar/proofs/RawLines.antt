-- Header lines and units of raw codes, one behind others.
use Rattle.std.proofs.Common.{◌≡◌, ◌≢◌, ℕ, List, [], ◌∷◌, ◌++◌, length, true, false, refl, sym, ap, ◌∙◌, append_assoc, append-nil, subst, arith, map}
use Rattle.std.specs.Prelude.{◌==◌, not}
use Rattle.std.proofs.lemmas.Bool.{and_from, and_parts, eqb-true}
use Rattle.std.proofs.lemmas.Bool.Decides.{nat_tests}
use Rattle.std.proofs.lemmas.List.{length_push, map-append, nil_from_length}
use Rattle.py_code.specs.declared.instruction.Instruction.{Instruction}
use Rattle.py_tree.specs.Tree.{Name}
use Rattle.py_lines.specs.declared.raw.RawLine.{RawLine}
use Rattle.py_lines.specs.declared.raw.RawLine.TheVariants as raw
use Rattle.py_lines.specs.declared.unit.RawNote.{RawNote}
use Rattle.py_grammar.specs.declared.raw_block.RawUnit.{RawUnit}
use Rattle.py_grammar.specs.declared.raw_head.RawHead.{RawHead}
use Rattle.py_grammar.specs.Grammar.{said_row, unit_row, inner_rows}
use Rattle.py_grammar.specs.RawRules.{have_word, word_of, may_say, may_follow, may_all_follow, may_run_behind, all_run}
use Rattle.py_grammar.specs.RawText.{RawText, with_line, with_lines, prefix_behind, carried_from}
use Rattle.py_grammar.specs.Reader.{with_said, code_line}

-- ---- header lines

-- a line that may be a header line is one, and trees keep no number of it
pub line_is_said : (fs : List Name) (t : RawText) (n : ℕ) (l : RawLine) → may_say fs l ≡ true → code_line fs t n l ≡ with_said fs t l
line_is_said fs t n (raw.Unit i a x) h = absurd (cc h)
line_is_said fs t n l h = refl

pub no_unit_is_said : (fs : List Name) (t : RawText) (n : ℕ) (l : RawLine) → ((i : Instruction) (a : ℕ) (x : RawNote) → l ≡ raw.Unit i a x → ⊥) → code_line fs t n l ≡ with_said fs t l
no_unit_is_said fs t n (raw.Unit i a x) none = absurd (none i a x refl)
no_unit_is_said fs t n l none = refl

pub follows_is_said : (fs : List Name) (before : List RawLine) (l : RawLine) → may_follow fs before l ≡ true → may_say fs l ≡ true
follows_is_said fs before l h = (and_parts (may_say fs l) (not (have_word before (word_of l))) h).0

-- header lines with one more behind them
pub all_follow_push : (fs : List Name) (before ls : List RawLine) (l : RawLine) → may_all_follow fs before ls ≡ true → may_follow fs (before ++ ls) l ≡ true
    → may_all_follow fs before (ls ++ l ∷ []) ≡ true
all_follow_push fs before [] l all one = and_from _ _ (subst (λ x. may_follow fs x l ≡ true) (append-nil before) one) refl
all_follow_push fs before (m ∷ ls) l all one =
    let parts = and_parts (may_follow fs before m) (may_all_follow fs (before ++ m ∷ []) ls) all in
    and_from _ _ parts.0 (all_follow_push fs (before ++ m ∷ []) ls l parts.1 (subst (λ x. may_follow fs x l ≡ true) (sym (append_assoc before (m ∷ []) ls)) one))

-- what they say, with the last of them
pub with_lines_push : (ls : List RawLine) (l : RawLine) (h : RawHead) → with_lines (ls ++ l ∷ []) h ≡ with_lines ls (with_line h l)
with_lines_push [] l h = refl
with_lines_push (m ∷ ls) l h = ap (λ x. with_line x m) (with_lines_push ls l h)

-- the rows of a raw code with one more header line
pub said_rows : (t : RawText) (l : RawLine) → t.units ≡ [] → inner_rows (record t { head = t.head ++ l ∷ [] }) ≡ inner_rows t ++ said_row l ∷ []
said_rows t l none =
    let rows : map unit_row t.units ≡ [] = ap (map unit_row) none in
    ap (λ x. map said_row (t.head ++ l ∷ []) ++ x) rows ∙ append-nil _ ∙ map-append said_row t.head (l ∷ [])
    ∙ ap (λ x. x ++ said_row l ∷ []) (sym (append-nil (map said_row t.head)) ∙ ap (λ x. map said_row t.head ++ x) (sym rows))

-- ---- units

-- a code without units has none
pub none_by_test : (us : List RawUnit) → (length us == 0) ≡ true → us ≡ []
none_by_test us h = nil_from_length us (eqb-true (length us) 0 h)

pub some_by_test : (us : List RawUnit) → (length us == 0) ≡ false → us ≢ []
some_by_test us h e = let none : true ≡ false = sym (ap (λ (xs : List RawUnit). length xs == 0) e) ∙ h in cc none

pub some_behind : (us : List RawUnit) (u : RawUnit) → (length (us ++ u ∷ []) == 0) ≡ false
some_behind us u = let more = length_push us u in grind (arith, nat_tests)

-- the argument that prefixes have built behind one more unit
pub carried_push : (state : ℕ) (us : List RawUnit) (u : RawUnit) → carried_from state (us ++ u ∷ []) ≡ prefix_behind (carried_from state us) u
carried_push state [] u = refl
carried_push state (v ∷ us) u = carried_push (prefix_behind state v) us u

pub all_run_push : (state : ℕ) (us : List RawUnit) (u : RawUnit) → all_run state us ≡ true → may_run_behind (carried_from state us) u ≡ true → all_run state (us ++ u ∷ []) ≡ true
all_run_push state [] u all one = and_from _ _ one refl
all_run_push state (v ∷ us) u all one =
    let parts = and_parts (may_run_behind state v) (all_run (prefix_behind state v) us) all in
    and_from _ _ parts.0 (all_run_push (prefix_behind state v) us u parts.1 one)

-- the rows of a raw code with one more unit
pub unit_rows : (t : RawText) (u : RawUnit) → inner_rows (record t { units = t.units ++ u ∷ [] }) ≡ inner_rows t ++ unit_row u ∷ []
unit_rows t u =
    ap (λ x. map said_row t.head ++ x) (map-append unit_row t.units (u ∷ [])) ∙ sym (append_assoc (map said_row t.head) (map unit_row t.units) (unit_row u ∷ []))
