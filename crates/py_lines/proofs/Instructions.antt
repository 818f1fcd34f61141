-- Instructions by their names.
use Rattle.std.proofs.Common.{◌≡◌, ◌≢◌, ℕ, List, [], ◌∷◌, Bool, true, false, cond, Some, None, refl, sym, ap, ◌∙◌, bytes_eq}
use Rattle.std.specs.Prelude.{Option}
use Rattle.std.specs.List.{find}
use Rattle.std.proofs.lemmas.Slice.Eq.{bytes_eq-Decides}
use Rattle.py_code.specs.declared.instruction.Instruction.{Instruction}
use Rattle.py_code.specs.declared.instruction.Instruction.TheVariants as op
use Rattle.py_lines.specs.Finding.{Prints}
use Rattle.py_lines.specs.Instructions.{instruction_text, all_instructions}
use Rattle.py_lines.specs.Meaning.{Meaning, Word}
use Rattle.py_lines.specs.RawLines.{instruction_token}
use Rattle.py_lines.proofs.Finders.{Finds, Found, Missing}

-- the instruction that a word names
abbrev named : List ℕ → Option Instruction
named w = find (λ i. bytes_eq w (instruction_text i)) all_instructions

-- each is the one that its name is read as
named_back : (i : Instruction) → named (instruction_text i) ≡ Some i
named_back op.LoadConst = refl
named_back i = refl

pub same_instruction : (i j : Instruction) → instruction_text i ≡ instruction_text j → i ≡ j
same_instruction i j e = let h : Some i ≡ Some j = sym (named_back i) ∙ ap named e ∙ named_back j in cc h

found_in : (w : List ℕ) (is : List Instruction) (i : Instruction) → find (λ j. bytes_eq w (instruction_text j)) is ≡ Some i → w ≡ instruction_text i
found_in w [] i is = absurd (cc is)
found_in w (j ∷ js) i is = by (bytes_eq w (instruction_text j)) refl (found_in w js i) is
  where
    by : (b : Bool) → bytes_eq w (instruction_text j) ≡ b → (find (λ k. bytes_eq w (instruction_text k)) js ≡ Some i → w ≡ instruction_text i)
        → cond b (Some j) (find (λ k. bytes_eq w (instruction_text k)) js) ≡ Some i → w ≡ instruction_text i
    by true same later is = let here : j ≡ i = cc is in (bytes_eq-Decides w (instruction_text j)).0 same ∙ ap instruction_text here
    by false other later is = later is

pub no_instruction : (w : List ℕ) → named w ≡ None → (i : Instruction) → w ≢ instruction_text i
no_instruction w none i e = let clash : None ≡ Some i = sym none ∙ ap named e ∙ named_back i in cc clash

-- what is found by the name
pub found_instruction : (w : List ℕ) (r : Option Instruction) → r ≡ named w → Prints instruction_text w r
found_instruction w None is = no_instruction w (sym is)
found_instruction w (Some i) is = found_in w all_instructions i (sym is)

by_name : (w : List ℕ) (r : Option Instruction) → Prints instruction_text w r → Finds instruction_token (Word w)
by_name w None none = Missing λ i e. none i (cc)
by_name w (Some i) is = Found i (ap Word is)

pub find_instruction : (t : Meaning) → Finds instruction_token t
find_instruction (Word w) = by_name w (named w) (found_instruction w (named w) refl)
find_instruction t = Missing λ i e. cc
