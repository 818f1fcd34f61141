-- What the rules on header lines of raw codes keep.
use Rattle.std.proofs.Common.{◌≡◌, ◌<◌, ◌≤◌, ◌+◌, ℕ, suc, List, [], ◌∷◌, ◌++◌, length, map, true, refl, arith}
use Rattle.std.proofs.lemmas.List.{nil_from_length}
use Rattle.std.proofs.lemmas.List.Elements.{All-nil, All-cons}
use Rattle.std.proofs.lemmas.Bool.{and_parts, eqb-true}
use Rattle.std.specs.Prelude.{All, ◌==◌}
use Rattle.std.specs.List.{list_all}
use Rattle.py_tree.specs.Tree.{Name}
use Rattle.py_lines.specs.declared.constant.RawAtom.{RawAtom}
use Rattle.py_lines.specs.declared.constant.RawConst.{RawConst}
use Rattle.py_lines.specs.declared.constant.RawConst.TheVariants as constant
use Rattle.py_lines.specs.declared.raw.RawLine.{RawLine}
use Rattle.py_lines.specs.declared.raw.RawLine.TheVariants as raw
use Rattle.py_lines.specs.Meaning.{Meaning}
use Rattle.py_lines.specs.RawLines.{const_tokens, consts_tokens, raw_tokens, tuple_tokens}
use Rattle.py_grammar.specs.declared.raw_head.RawHead.{RawHead}
use Rattle.py_grammar.specs.Grammar.{said_row}
use Rattle.py_grammar.specs.RawRules.{is_heeded, may_load, may_say, may_follow, may_all_follow}
use Rattle.py_grammar.specs.RawText.{no_head, with_line, with_lines, head_of}
use Rattle.py_grammar.specs.WellFormed.{IsLoadable, NoneNamed}
use Rattle.py_grammar.proofs.RawLines.{follows_is_said}
use Rattle.py_grammar.proofs.Short.{size_of}
use Rattle.py_grammar.proofs.Tests.{all_by_test}

-- what header lines say, after codes of these names, is what frames heed and load so far
pub record HeadKeeps (fs : List Name) (h : RawHead) : Type 0 where
  pub flags : All (λ f. is_heeded f ≡ true) h.flags
  pub counts : NoneNamed h.counts
  pub cells : h.cells ≡ []
  pub frees : h.frees ≡ []
  pub consts : All (IsLoadable fs) h.consts

no_names : (xs : List Name) → (length xs == 0) ≡ true → xs ≡ []
no_names xs h = nil_from_length xs (eqb-true (length xs) 0 h)

-- each item of a tuple is a token, and so is its end
tuple_size : (xs : List RawAtom) (behind : List Meaning) → length (tuple_tokens xs behind) ≡ suc (length xs + length behind)
tuple_size [] behind = omega arith
tuple_size (a ∷ xs) behind = let rest = tuple_size xs behind in omega (arith, rest)

const_size : (c : RawConst) (behind : List Meaning) → length behind < length (const_tokens c behind)
const_size (constant.Atom a) behind = omega arith
const_size (constant.Code f) behind = omega arith
const_size (constant.Tuple xs) behind = let size = tuple_size xs behind in omega (arith, size)

module _ (fs : List Name) where
  const_loads : (c : RawConst) (behind : List Meaning) → may_load fs c ≡ true → length (const_tokens c behind) ≤ 1048576 → IsLoadable fs c
  const_loads (constant.Atom a) behind may few = tt
  const_loads (constant.Code f) behind may few = may
  const_loads (constant.Tuple xs) behind may few = let size = tuple_size xs behind in omega (arith, size, few)

  loads : (cs : List RawConst) → list_all (may_load fs) cs ≡ true → length (consts_tokens cs []) ≤ 1048576 → All (IsLoadable fs) cs
  loads [] may few = All-nil (IsLoadable fs)
  loads (c ∷ cs) may few =
      let parts = and_parts (may_load fs c) (list_all (may_load fs) cs) may in
      let size = const_size c (consts_tokens cs []) in
      All-cons (IsLoadable fs) c cs (const_loads c (consts_tokens cs []) parts.0 few) (loads cs parts.1 (omega (arith, size, few)))

  line_keeps : (h : RawHead) (l : RawLine) → may_say fs l ≡ true → length (raw_tokens l) ≤ 1048576 → HeadKeeps fs h → HeadKeeps fs (with_line h l)
  line_keeps h (raw.Flags xs) may few k =
      let heeded : All (λ f. is_heeded f ≡ true) xs = all_by_test is_heeded (λ f. is_heeded f ≡ true) (λ f is. is) xs may in
      record { flags = heeded; counts = k.counts; cells = k.cells; frees = k.frees; consts = k.consts }
  line_keeps h (raw.Counts p a n) may few k = record { flags = k.flags; counts = eqb-true n 0 may; cells = k.cells; frees = k.frees; consts = k.consts }
  line_keeps h (raw.Cells xs) may few k = record { flags = k.flags; counts = k.counts; cells = no_names xs may; frees = k.frees; consts = k.consts }
  line_keeps h (raw.Frees xs) may few k = record { flags = k.flags; counts = k.counts; cells = k.cells; frees = no_names xs may; consts = k.consts }
  line_keeps h (raw.Consts cs) may few k =
      record { flags = k.flags; counts = k.counts; cells = k.cells; frees = k.frees; consts = loads cs may (omega (arith, few)) }
  line_keeps h l may few k = record { flags = k.flags; counts = k.counts; cells = k.cells; frees = k.frees; consts = k.consts }

  lines_keep : (before ls : List RawLine) (h : RawHead) → may_all_follow fs before ls ≡ true → size_of (map said_row ls) ≤ 1048576 → HeadKeeps fs h
      → HeadKeeps fs (with_lines ls h)
  lines_keep before [] h may few k = k
  lines_keep before (l ∷ ls) h may few k =
      let parts = and_parts (may_follow fs before l) (may_all_follow fs (before ++ l ∷ []) ls) may in
      line_keeps (with_lines ls h) l (follows_is_said fs before l parts.0) (omega (arith, few))
      (lines_keep (before ++ l ∷ []) ls h parts.1 (omega (arith, few)) k)

  pub head_keeps : (ls : List RawLine) → may_all_follow fs [] ls ≡ true → size_of (map said_row ls) ≤ 1048576 → HeadKeeps fs (head_of ls)
  head_keeps ls may few =
      lines_keep [] ls no_head may few
      (record { flags = All-nil (λ f. is_heeded f ≡ true); counts = tt; cells = refl; frees = refl; consts = All-nil (IsLoadable fs) })
