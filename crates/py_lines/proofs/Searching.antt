-- Which expression stands in front of tokens, or that none does, for all tokens.
use Rattle.std.proofs.Common.{◌≡◌, ◌≢◌, ◌≤◌, ◌+◌, ◌*◌, ℕ, zero, suc, List, [], ◌∷◌, Some, None, Bool, true, false, cond, refl, sym, ap, ◌∙◌, bytes_eq, length, arith}
use Rattle.std.specs.Prelude.{Option}
use Rattle.std.specs.List.{find}
use Rattle.std.proofs.lemmas.Slice.Eq.{bytes_eq-Decides}
use Rattle.py_tree.specs.declared.expr.Operator.{Operator}
use Rattle.py_tree.specs.Tree.{Expr, Leaf, Operate, Exprs, no_operands, operand}
use Rattle.py_tree.specs.Compilable.{deep, deepest}
use Rattle.py_lines.specs.Meaning.{Meaning, Open, Close, Word}
use Rattle.py_lines.specs.Printing.{atom_token, operator_word, expr_tokens, exprs_tokens}
use Rattle.py_lines.specs.Finding.{NoneFronts, NoOperands}
use Rattle.py_lines.proofs.Expressions.{all_operators, operator_of, read_back, no_close, one_expr, shorter}
use Rattle.py_lines.proofs.OneAtom.{find_atom}
use Rattle.py_lines.proofs.Finders.{Finds, Found, Missing}
use Rattle.py_lines.proofs.Fronts.{nothing_fronts, no_atom_fronts, no_room, no_word, no_operator, no_operation}

-- an expression in front, or none
pub data Front (room : ℕ) (ts : List Meaning) : Type 0 where
  Is : (e : Expr) (rest : List Meaning) → ts ≡ expr_tokens e rest → deep e ≤ room → Front room ts
  None_is : NoneFronts room ts → Front room ts

pub data All (room : ℕ) (ts : List Meaning) : Type 0 where
  Are : (es : Exprs) (rest : List Meaning) → ts ≡ exprs_tokens es (Close ∷ rest) → deepest es ≤ room → All room ts
  None_are : NoOperands room ts → All room ts

-- the operator that a word is
found_word : (w : List ℕ) (os : List Operator) (o : Operator) → find (λ p. bytes_eq w (operator_word p)) os ≡ Some o → w ≡ operator_word o
found_word w [] o is = absurd (cc is)
found_word w (p ∷ os) o is = by (bytes_eq w (operator_word p)) refl (found_word w os o) is
  where
    by : (b : Bool) → bytes_eq w (operator_word p) ≡ b → (find (λ q. bytes_eq w (operator_word q)) os ≡ Some o → w ≡ operator_word o)
        → cond b (Some p) (find (λ q. bytes_eq w (operator_word q)) os) ≡ Some o → w ≡ operator_word o
    by true same later is = let here : p ≡ o = cc is in (bytes_eq-Decides w (operator_word p)).0 same ∙ ap operator_word here
    by false other later is = later is

missing_word : (w : List ℕ) → operator_of w ≡ None → (o : Operator) → w ≢ operator_word o
missing_word w none o is = let clash : None ≡ Some o = sym none ∙ ap operator_of is ∙ read_back o in cc clash

-- behind one operand, others or none
behind_one : (room : ℕ) (ts : List Meaning) (e : Expr) (rest : List Meaning) → ts ≡ expr_tokens e rest → deep e ≤ room → All room rest → All room ts
behind_one room ts e rest is low (Are es us same low_es) = Are (operand e es) us (is ∙ ap (expr_tokens e) same) (omega (arith, low, low_es))
behind_one room ts e rest is low (None_are none) = None_are (no_more none)
  where
    no_more : NoOperands room rest → NoOperands room ts
    no_more none no_operands us low_es same = no_close e rest us (sym is ∙ same)
    no_more none (operand f fs) us low_es same = none fs us (omega (arith, low_es)) (one_expr e f rest (exprs_tokens fs (Close ∷ us)) (sym is ∙ same)).1

-- where no operand stands in front, and no parenthesis that closes
none_behind : (room : ℕ) (ts : List Meaning) → NoneFronts room ts → ((us : List Meaning) → ts ≢ Close ∷ us) → NoOperands room ts
none_behind room ts none other no_operands us low same = other us same
none_behind room ts none other (operand f fs) us low same = none f (exprs_tokens fs (Close ∷ us)) (omega (arith, low)) same

-- by what its operands are, an operation
operation_front : (room : ℕ) (o : Operator) (w : List ℕ) (ts : List Meaning) → w ≡ operator_word o → All room ts → Front (suc room) (Open ∷ Word w ∷ ts)
operation_front room o w ts is (Are es rest same low) =
    Is (Operate o es) rest (ap (λ (v : List ℕ). Open ∷ Word v ∷ ts) is ∙ ap (λ (us : List Meaning). Open ∷ Word (operator_word o) ∷ us) same) (omega (arith, low))
operation_front room o w ts is (None_are none) = None_is (no_operation room w ts none)

by_word : (room : ℕ) (w : List ℕ) (ts : List Meaning) (found : Option Operator) → operator_of w ≡ found → All room ts → Front (suc room) (Open ∷ Word w ∷ ts)
by_word room w ts None none all = None_is (no_operator (suc room) w ts (missing_word w none))
by_word room w ts (Some o) is all = operation_front room o w ts (found_word w all_operators o is) all

by_first : (room : ℕ) (ts : List Meaning) → ((us : List Meaning) → ts ≢ Close ∷ us) → Front room ts → ((e : Expr) (rest : List Meaning) → ts ≡ expr_tokens e rest → All room rest) → All room ts
by_first room ts other (Is e rest same low) on = behind_one room ts e rest same low (on e rest same)
by_first room ts other (None_is none) on = None_are (none_behind room ts none other)

-- the atom that a token is, which is no parenthesis that opens, or none
by_atom : (room : ℕ) (t : Meaning) (ts : List Meaning) → ((us : List Meaning) → t ∷ ts ≢ Open ∷ us) → Finds atom_token t → Front room (t ∷ ts)
by_atom room t ts other (Found a e) = Is (Leaf a) ts (ap (λ (m : Meaning). m ∷ ts) e) (omega arith)
by_atom room t ts other (Missing none) = None_is (no_atom_fronts room t ts other none)

mutual
  pub front : (fuel room : ℕ) (ts : List Meaning) → 2 * length ts ≤ fuel → Front room ts
  front fuel room [] few = None_is (nothing_fronts room)
  front fuel zero (Open ∷ ts) few = None_is (no_room ts)
  front (suc fuel) (suc room) (Open ∷ Word w ∷ ts) few = by_word room w ts (operator_of w) refl (all fuel room ts (omega (arith, few)))
  front zero (suc room) (Open ∷ Word w ∷ ts) few = absurd (omega (arith, few))
  front fuel (suc room) (Open ∷ ts) few = None_is (no_word (suc room) ts (λ w us e. cc))
  front fuel room (t ∷ ts) few = by_atom room t ts (λ us e. cc) (find_atom t)

  all : (fuel room : ℕ) (ts : List Meaning) → 2 * length ts + 1 ≤ fuel → All room ts
  all zero room ts few = absurd (omega (arith, few))
  all (suc fuel) room (Close ∷ ts) few = Are no_operands ts refl (omega arith)
  all (suc fuel) room ts few =
      by_first room ts (λ us e. cc) (front fuel room ts (omega (arith, few)))
      (λ e rest same. all fuel room rest (omega (arith, few, shorter e rest, ap length same)))
