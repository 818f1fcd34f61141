-- Raw codes by what their lines were, and what they are apart from the order of their header lines.
use Rattle.std.specs.Prelude.{ℕ, List, [], ◌∷◌, Some, None, if◌then◌else◌}
use Rattle.py_code.specs.Arguments.{with_byte, is_prefix}
use Rattle.py_tree.specs.Tree.{Name}
use Rattle.py_lines.specs.declared.raw.RawLine.{RawLine}
use Rattle.py_lines.specs.declared.raw.RawLine.TheVariants as raw
use Rattle.py_grammar.specs.declared.raw_block.RawBlock.{RawBlock}
use Rattle.py_grammar.specs.declared.raw_block.RawUnit.{RawUnit}
use Rattle.py_grammar.specs.declared.raw_head.RawHead.{RawHead}

-- a raw code: its name and its parameters, in this line, the header lines in their order, and the units
pub record RawText : Type 0 where
  pub line : ℕ
  pub name : Name
  pub params : List Name
  pub head : List RawLine
  pub units : List RawUnit

-- one of which the first line alone was read
abbrev pub bare_text : ℕ → Name → List Name → RawText
bare_text n f ps = record { line = n; name = f; params = ps; head = []; units = [] }

-- what no header lines say
abbrev pub no_head : RawHead
no_head = record { flags = []; counts = None; vars = []; cells = []; frees = []; names = []; consts = []; depth = 0 }

-- what one more says; a unit is none
abbrev pub with_line : RawHead → RawLine → RawHead
with_line h (raw.Flags fs) = record h { flags = fs }
with_line h (raw.Counts p a k) =
    record h { counts = Some (record { positional = p; args = a; named = k }) }
with_line h (raw.Vars xs) = record h { vars = xs }
with_line h (raw.Cells xs) = record h { cells = xs }
with_line h (raw.Frees xs) = record h { frees = xs }
with_line h (raw.Names xs) = record h { names = xs }
with_line h (raw.Consts cs) = record h { consts = cs }
with_line h (raw.Depth d) = record h { depth = d }
with_line h (raw.Unit i a n) = h

-- what header lines say with this
abbrev pub with_lines : List RawLine → RawHead → RawHead
with_lines [] h = h
with_lines (l ∷ ls) h = with_line (with_lines ls h) l

-- what they say alone; each is of a word of its own, so their order is no matter
abbrev pub head_of : List RawLine → RawHead
head_of ls = with_lines ls no_head

-- the raw code, with a field for each word
abbrev pub raw_of : RawText → RawBlock
raw_of t =
    let h = head_of t.head in
    record {
      line = t.line;
      name = t.name;
      params = t.params;
      flags = h.flags;
      counts = h.counts;
      vars = h.vars;
      cells = h.cells;
      frees = h.frees;
      names = h.names;
      consts = h.consts;
      depth = h.depth;
      units = t.units;
    }

-- ---- operands

-- the argument that prefixes have built behind a unit, where it was this before
abbrev pub prefix_behind : ℕ → RawUnit → ℕ
prefix_behind state u = if is_prefix u.op then with_byte state u.arg else 0

-- and behind units
abbrev pub carried_from : ℕ → List RawUnit → ℕ
carried_from state [] = state
carried_from state (u ∷ us) = carried_from (prefix_behind state u) us

abbrev pub carried : List RawUnit → ℕ
carried us = carried_from 0 us
