-- What line of a raw code prints some tokens, or that none does.
use Rattle.std.proofs.Common.{ℕ, List, ◌∷◌, map}
use Rattle.std.specs.Prelude.{codes}
use Rattle.py_tree.specs.Tree.{Name}
use Rattle.py_lines.specs.declared.keyword.Keyword.TheVariants as keyword
use Rattle.py_lines.specs.declared.flag.RawFlag.TheVariants as flag
use Rattle.py_lines.specs.declared.raw.RawLine.TheVariants as raw
use Rattle.py_lines.specs.Meaning.{Meaning, Word}
use Rattle.py_lines.specs.RawLines.{flag_token, raw_tokens, small_token}
use Rattle.py_lines.specs.Words.{is_byte, is_small}
use Rattle.py_lines.proofs.Counts.{find_count}
use Rattle.py_lines.proofs.Finders.{Finds, Found, Missing, or_else, find_behind, find_both, find_lone, find_all}
use Rattle.py_lines.proofs.Instructions.{find_instruction}
use Rattle.py_lines.proofs.RawConsts.{find_consts}
use Rattle.py_lines.proofs.Units.{find_note}
use Rattle.py_lines.proofs.TokenFinders.{find_name, find_word, find_key, behind_word}

find_flag : (t : Meaning) → Finds flag_token t
find_flag t =
    or_else (find_key keyword.Gen t) (λ x. Found flag.Gen) λ no_gen.
    or_else (find_word (codes "coro") t) (λ x. Found flag.Coro) λ no_coro.
    or_else (find_word (codes "varargs") t) (λ x. Found flag.VarArgs) λ no_varargs.
    or_else (find_word (codes "varkw") t) (λ x. Found flag.VarKw) λ no_varkw.
    or_else (find_word (codes "newlocals") t) (λ x. Found flag.NewLocals) λ no_newlocals.
    or_else (find_word (codes "optimized") t) (λ x. Found flag.Optimized) λ no_optimized.
    Missing (elim [
      | flag.Gen ↦ no_gen tt
      | flag.Coro ↦ no_coro tt
      | flag.VarArgs ↦ no_varargs tt
      | flag.VarKw ↦ no_varkw tt
      | flag.NewLocals ↦ no_newlocals tt
      | flag.Optimized ↦ no_optimized tt
    ])

-- names behind a word
find_names : (w : List ℕ) (ts : List Meaning) → Finds (λ (xs : List Name). Word w ∷ map Word xs) ts
find_names w ts = find_behind (behind_word w ts) (find_all find_name)

find_small : (t : Meaning) → Finds small_token t
find_small = find_count is_small

pub find_raw : (ts : List Meaning) → Finds raw_tokens ts
find_raw ts =
    or_else (find_behind (behind_word (codes "flags") ts) (find_all find_flag)) (λ fs. Found (raw.Flags fs)) λ no_flags.
    or_else (find_behind (behind_word (codes "counts") ts) (find_both find_small (find_both find_small (find_lone find_small)))) (λ z. Found (raw.Counts z.0 z.1.0 z.1.1)) λ no_counts.
    or_else (find_names (codes "vars") ts) (λ xs. Found (raw.Vars xs)) λ no_vars.
    or_else (find_names (codes "cells") ts) (λ xs. Found (raw.Cells xs)) λ no_cells.
    or_else (find_names (codes "frees") ts) (λ xs. Found (raw.Frees xs)) λ no_frees.
    or_else (find_names (codes "names") ts) (λ xs. Found (raw.Names xs)) λ no_names.
    or_else (find_behind (behind_word (codes "consts") ts) find_consts) (λ cs. Found (raw.Consts cs)) λ no_consts.
    or_else (find_behind (behind_word (codes "depth") ts) (find_lone find_small)) (λ n. Found (raw.Depth n)) λ no_depth.
    or_else (find_behind (behind_word (codes "u") ts) (find_both find_instruction (find_both (find_count is_byte) find_note))) (λ z. Found (raw.Unit z.0 z.1.0 z.1.1)) λ no_unit.
    Missing (elim [
      | raw.Flags fs ↦ no_flags fs
      | raw.Counts p a k ↦ no_counts (p, (a, k))
      | raw.Vars xs ↦ no_vars xs
      | raw.Cells xs ↦ no_cells xs
      | raw.Frees xs ↦ no_frees xs
      | raw.Names xs ↦ no_names xs
      | raw.Consts cs ↦ no_consts cs
      | raw.Depth n ↦ no_depth n
      | raw.Unit i a n ↦ no_unit (i, (a, n))
    ])
