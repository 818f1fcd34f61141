-- No expression prints the tokens of another in front of whatever tokens, so that an expression's end shows in its tokens.
use Rattle.std.proofs.Common.{◌≡◌, ◌≢◌, ◌<◌, ◌≤◌, ℕ, List, [], ◌∷◌, Some, true, false, refl, sym, ap, ◌∙◌, bytes_eq, length, arith}
use Rattle.std.specs.Prelude.{Option}
use Rattle.std.specs.List.{find}
use Rattle.py_tree.specs.declared.expr.Atom.{Atom}
use Rattle.py_tree.specs.declared.expr.Atom.TheVariants as atom
use Rattle.py_tree.specs.declared.expr.Operator.{Operator}
use Rattle.py_tree.specs.declared.expr.Operator.TheVariants as operator
use Rattle.py_tree.specs.Tree.{Expr, Leaf, Operate, Exprs, no_operands, operand}
use Rattle.py_lines.specs.Meaning.{Meaning, Open, Close}
use Rattle.py_lines.specs.Printing.{operator_word, atom_token, expr_tokens, exprs_tokens}
use Rattle.py_lines.proofs.OneAtom.{same_atom}

-- ---- words

abbrev pub all_operators : List Operator
all_operators = operator.Add ∷ operator.Sub ∷ operator.Lt ∷ operator.Eq ∷ operator.Send ∷ operator.Throw ∷ operator.Close ∷ operator.Yield ∷ operator.Call ∷ []

abbrev pub operator_of : List ℕ → Option Operator
operator_of w = find (λ o. bytes_eq w (operator_word o)) all_operators

pub read_back : (o : Operator) → operator_of (operator_word o) ≡ Some o
read_back operator.Add = refl
read_back o = refl

same_operator : (o p : Operator) → operator_word o ≡ operator_word p → o ≡ p
same_operator o p e = let h : Some o ≡ Some p = sym (read_back o) ∙ ap operator_of e ∙ read_back p in cc h

-- ---- expressions

pub no_open : (a : Atom) (ts us : List Meaning) → atom_token a ∷ ts ≢ Open ∷ us
no_open (atom.Bool true) ts us e = cc
no_open (atom.Bool false) ts us e = cc
no_open a ts us e = cc

pub no_close : (e : Expr) (ts us : List Meaning) → expr_tokens e ts ≢ Close ∷ us
no_close (Leaf (atom.Bool true)) ts us e = cc
no_close (Leaf (atom.Bool false)) ts us e = cc
no_close (Leaf a) ts us e = cc
no_close (Operate o es) ts us e = cc

mutual
  pub one_expr : (e f : Expr) (ts us : List Meaning) → expr_tokens e ts ≡ expr_tokens f us → (e ≡ f) × (ts ≡ us)
  one_expr (Leaf a) (Leaf b) ts us h = let k : a ≡ b = same_atom a b (cc) in (ap Leaf k, cc)
  one_expr (Leaf a) (Operate p fs) ts us h = absurd (no_open a _ _ h)
  one_expr (Operate o es) (Leaf b) ts us h = absurd (no_open b _ _ (sym h))
  one_expr (Operate o es) (Operate p fs) ts us h =
      let same : o ≡ p = same_operator o p (cc) in
      let behind : exprs_tokens es (Close ∷ ts) ≡ exprs_tokens fs (Close ∷ us) = cc in
      let (all, rest) = one_exprs es fs ts us behind in
      (cc, rest)

  pub one_exprs : (es fs : Exprs) (ts us : List Meaning) → exprs_tokens es (Close ∷ ts) ≡ exprs_tokens fs (Close ∷ us) → (es ≡ fs) × (ts ≡ us)
  one_exprs no_operands no_operands ts us h = (refl, cc)
  one_exprs no_operands (operand f fs) ts us h = absurd (no_close f _ _ (sym h))
  one_exprs (operand e es) no_operands ts us h = absurd (no_close e _ _ h)
  one_exprs (operand e es) (operand f fs) ts us h =
      let (first, behind) = one_expr e f _ _ h in
      let (all, rest) = one_exprs es fs ts us behind in
      (cc, rest)

-- an expression is a token at least
mutual
  pub shorter : (e : Expr) (ts : List Meaning) → length ts < length (expr_tokens e ts)
  shorter (Leaf a) ts = omega arith
  shorter (Operate o es) ts = omega (arith, shorter_all es (Close ∷ ts))

  shorter_all : (es : Exprs) (ts : List Meaning) → length ts ≤ length (exprs_tokens es ts)
  shorter_all no_operands ts = omega arith
  shorter_all (operand e es) ts = omega (arith, shorter e (exprs_tokens es ts), shorter_all es ts)
