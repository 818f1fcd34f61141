-- The same questions, one kind at a time.
use Rattle.std.proofs.Common.{◌≡◌, List}
use Rattle.std.specs.Prelude.{Option}
use Rattle.py_code.specs.declared.operator.BinaryOperator.{BinaryOperator}
use Rattle.py_code.specs.declared.operator.ComparisonOperator.{ComparisonOperator}
use Rattle.py_objects.specs.declared.request.Keywords.TheVariants as keywords
use Rattle.py_objects.specs.declared.request.Request.{Request}
use Rattle.py_objects.specs.declared.request.Request.TheVariants as request
use Rattle.py_objects.specs.Objects.{Obj, Name}
use Rattle.py_agreement.specs.Agreement.{Relation, SameMaybe, SameAll, SameRequest}

-- two questions of one kind
pub data BothAsk (S : Relation) : Request → Request → Type 0 where
  BothUnbound : (x y : Name) → x ≡ y → BothAsk S (request.Unbound x) (request.Unbound y)
  BothGlobal : (d d' : Obj) → (x y : Name) → x ≡ y → BothAsk S (request.Global d x) (request.Global d' y)
  BothBinary : (op op' : BinaryOperator) → (a a' b b' : Obj) → op ≡ op' → S a a' → S b b' → BothAsk S (request.Binary op a b) (request.Binary op' a' b')
  BothCompare : (op op' : ComparisonOperator) → (a a' b b' : Obj) → op ≡ op' → S a a' → S b b' → BothAsk S (request.Compare op a b) (request.Compare op' a' b')
  BothTruth : (v w : Obj) → S v w → BothAsk S (request.Truth v) (request.Truth w)
  BothMatch : (e e' c c' : Obj) → S e e' → S c c' → BothAsk S (request.Match e c) (request.Match e' c')
  BothHandled : BothAsk S request.Handled request.Handled
  BothRaisable : (v w : Obj) → S v w → BothAsk S (request.Raisable v) (request.Raisable w)
  BothShow : (v w : Obj) → S v w → BothAsk S (request.Show v) (request.Show w)
  BothCall : (f g : Obj) → (vs ws : List Obj) → S f g → SameAll S vs ws → BothAsk S (request.Call f vs keywords.None) (request.Call g ws keywords.None)
  BothSend : (g g' v w : Obj) → S g g' → S v w → BothAsk S (request.Send g v) (request.Send g' w)
  BothThrow : (g g' c c' : Obj) → (v v' t t' : Option Obj) → S g g' → S c c' → SameMaybe S v v' → SameMaybe S t t' → BothAsk S (request.Throw g c v t) (request.Throw g' c' v' t')
  BothClose : (g g' : Obj) → S g g' → BothAsk S (request.Close g) (request.Close g')
  BothEnter : (m m' : Obj) → S m m' → BothAsk S (request.Enter m) (request.Enter m')
  BothExit : (m m' c c' e e' t t' : Obj) → S m m' → S c c' → S e e' → BothAsk S (request.Exit m c e t) (request.Exit m' c' e' t')
  BothNoExit : (m m' : Obj) → S m m' → BothAsk S (request.NoExit m) (request.NoExit m')

module _ (S : Relation) where
  -- of the same questions both are of one kind
  pub both_ask : (r r' : Request) → SameRequest S r r' → BothAsk S r r'
  both_ask (request.Unbound x) (request.Unbound y) s = BothUnbound x y s
  both_ask (request.Global d x) (request.Global d' y) s = BothGlobal d d' x y s
  both_ask (request.Binary op a b) (request.Binary op' a' b') s = BothBinary op op' a a' b b' s.0 s.1 s.2
  both_ask (request.Compare op a b) (request.Compare op' a' b') s = BothCompare op op' a a' b b' s.0 s.1 s.2
  both_ask (request.Truth v) (request.Truth w) s = BothTruth v w s
  both_ask (request.Match e c) (request.Match e' c') s = BothMatch e e' c c' s.0 s.1
  both_ask request.Handled request.Handled s = BothHandled
  both_ask (request.Raisable v) (request.Raisable w) s = BothRaisable v w s
  both_ask (request.Show v) (request.Show w) s = BothShow v w s
  both_ask (request.Call f vs keywords.None) (request.Call g ws keywords.None) s = BothCall f g vs ws s.0 s.1
  both_ask (request.Send g v) (request.Send g' w) s = BothSend g g' v w s.0 s.1
  both_ask (request.Throw g c v t) (request.Throw g' c' v' t') s = BothThrow g g' c c' v v' t t' s.0 s.1 s.2 s.3
  both_ask (request.Close g) (request.Close g') s = BothClose g g' s
  both_ask (request.Enter m) (request.Enter m') s = BothEnter m m' s
  both_ask (request.Exit m c e t) (request.Exit m' c' e' t') s = BothExit m m' c c' e e' t t' s.0 s.1 s.2
  both_ask (request.NoExit m) (request.NoExit m') s = BothNoExit m m' s
  both_ask _ _ s = absurd s
