-- The reader takes the rows of every raw code.
use Rattle.std.proofs.Common.{◌≡◌, ℕ, List, [], ◌∷◌, ◌++◌, Some, None, true, sym, ap, ◌∙◌, append_assoc, append-nil, map}
use Rattle.std.specs.Prelude.{not}
use Rattle.std.proofs.lemmas.Bool.{and_from, and_parts}
use Rattle.py_tree.specs.Tree.{Name}
use Rattle.py_lines.specs.declared.drive.DriveLine.{DriveLine}
use Rattle.py_lines.specs.declared.raw.RawLine.{RawLine}
use Rattle.py_grammar.specs.declared.raw_block.RawUnit.{RawUnit}
use Rattle.py_grammar.specs.Grammar.{Row, Decl, RawDecl, declared_as, said_row, unit_row, inner_rows, end_row, WellCode}
use Rattle.py_grammar.specs.RawRules.{have_depth, may_follow, may_all_follow, may_run_behind, all_run}
use Rattle.py_grammar.specs.RawText.{RawText, bare_text, carried, prefix_behind, raw_of}
use Rattle.py_grammar.specs.Reader.{State, state, open_code, only_if, still_coded}
use Rattle.py_grammar.specs.Rules.{callables}
use Rattle.py_grammar.proofs.RawLines.{line_is_said, follows_is_said, carried_push}
use Rattle.py_grammar.proofs.Runs.{and_then, run}

module _ (ts : List Decl) (ds : List DriveLine) (n : ℕ) (name : Name) (params : List Name) where
  -- this raw code is open
  abbrev text : List RawLine → List RawUnit → RawText
  text head units = record { line = n; name = name; params = params; head = head; units = units }

  abbrev code_at : List RawLine → List RawUnit → State
  code_at head units = state ts ds (Some (open_code (text head units)))

  abbrev functions : List Name
  functions = callables (map declared_as ts)

  said_read : (l : RawLine) (before : List RawLine) (rest : List Row) → may_follow functions before l ≡ true
      → run (code_at before []) (said_row l ∷ rest) ≡ run (code_at (before ++ l ∷ []) []) rest
  said_read l before rest w =
      ap (λ o. and_then (still_coded ts ds o) (λ s. run s rest)) (line_is_said functions (text before []) 0 l (follows_is_said functions before l w))
      ∙ ap (λ b. and_then (still_coded ts ds (only_if b (text (before ++ l ∷ []) []))) (λ s. run s rest)) w

  head_read : (ls before : List RawLine) (rest : List Row) → may_all_follow functions before ls ≡ true
      → run (code_at before []) (map said_row ls ++ rest) ≡ run (code_at (before ++ ls) []) rest
  head_read [] before rest w = ap (λ h. run (code_at h []) rest) (sym (append-nil before))
  head_read (l ∷ ls) before rest w =
      let parts = and_parts (may_follow functions before l) (may_all_follow functions (before ++ l ∷ []) ls) w in
      said_read l before (map said_row ls ++ rest) parts.0 ∙ head_read ls (before ++ l ∷ []) rest parts.1
      ∙ ap (λ h. run (code_at h []) rest) (append_assoc before (l ∷ []) ls)

  unit_read : (u : RawUnit) (head : List RawLine) (before : List RawUnit) (rest : List Row) → have_depth head ≡ true → may_run_behind (carried before) u ≡ true
      → run (code_at head before) (unit_row u ∷ rest) ≡ run (code_at head (before ++ u ∷ [])) rest
  unit_read u head before rest deep w =
      ap (λ b. and_then (still_coded ts ds (only_if b (text head (before ++ u ∷ [])))) (λ s. run s rest)) (and_from _ _ deep w)

  units_read : (us : List RawUnit) (head : List RawLine) (before : List RawUnit) (rest : List Row) → have_depth head ≡ true → all_run (carried before) us ≡ true
      → run (code_at head before) (map unit_row us ++ rest) ≡ run (code_at head (before ++ us)) rest
  units_read [] head before rest deep w = ap (λ x. run (code_at head x) rest) (sym (append-nil before))
  units_read (u ∷ us) head before rest deep w =
      let parts = and_parts (may_run_behind (carried before) u) (all_run (prefix_behind (carried before) u) us) w in
      let behind : all_run (carried (before ++ u ∷ [])) us ≡ true = ap (λ state. all_run state us) (carried_push 0 before u) ∙ parts.1 in
      unit_read u head before (map unit_row us ++ rest) deep parts.0 ∙ units_read us head (before ++ u ∷ []) rest deep behind
      ∙ ap (λ x. run (code_at head x) rest) (append_assoc before (u ∷ []) us)

-- behind its header, up to its end
pub code_read : (ts : List Decl) (ds : List DriveLine) (t : RawText) (rest : List Row) → WellCode (map declared_as ts) t
    → run (state ts ds (Some (open_code (bare_text t.line t.name t.params)))) ((inner_rows t ++ end_row ∷ []) ++ rest) ≡ run (state (ts ++ RawDecl (raw_of t) ∷ []) ds None) rest
code_read ts ds t rest w =
    let bare : State = state ts ds (Some (open_code (bare_text t.line t.name t.params))) in
    let units : List Row = map unit_row t.units in
    ap (run bare) (append_assoc (inner_rows t) (end_row ∷ []) rest ∙ append_assoc (map said_row t.head) units (end_row ∷ rest))
    ∙ head_read ts ds t.line t.name t.params t.head [] (units ++ end_row ∷ rest) w.head
    ∙ units_read ts ds t.line t.name t.params t.units t.head [] (end_row ∷ rest) w.deep w.run
    ∙ ap (λ b. and_then (only_if (not b) (state (ts ++ RawDecl (raw_of t) ∷ []) ds None)) (λ s. run s rest)) w.some
