-- Constants of raw codes by their tokens: none prints the tokens of another in front of whatever tokens.
use Rattle.std.proofs.Common.{◌≡◌, ◌≢◌, ◌<◌, ℕ, suc, List, [], ◌∷◌, ◌++◌, Some, None, true, false, refl, sym, ap, ◌∙◌, length, arith}
use Rattle.std.specs.Prelude.{Option}
use Rattle.py_tree.specs.declared.expr.Atom.{Atom}
use Rattle.py_tree.specs.declared.expr.Atom.TheVariants as atom
use Rattle.py_lines.specs.declared.constant.RawAtom.{RawAtom}
use Rattle.py_lines.specs.declared.constant.RawAtom.TheVariants as raw_atom
use Rattle.py_lines.specs.declared.constant.RawConst.{RawConst}
use Rattle.py_lines.specs.declared.constant.RawConst.TheVariants as constant
use Rattle.py_lines.specs.declared.keyword.Keyword.TheVariants as keyword
use Rattle.py_lines.specs.Meaning.{Meaning, Open, Close, Key, Number, Text, Ref}
use Rattle.py_lines.specs.Printing.{atom_token}
use Rattle.py_lines.specs.RawFinding.{NoneBefore}
use Rattle.py_lines.specs.RawLines.{const_tokens, consts_tokens, raw_atom_token, tuple_tokens}
use Rattle.py_lines.proofs.Finders.{Finds, Found, Missing}

-- ---- constants that hold no others

-- the one that prints a token
abbrev token_raw : Meaning → Option RawAtom
token_raw (Key keyword.None) = Some raw_atom.None
token_raw (Key keyword.True) = Some (raw_atom.Bool true)
token_raw (Key keyword.False) = Some (raw_atom.Bool false)
token_raw (Number n) = Some (raw_atom.Int n)
token_raw (Text s) = Some (raw_atom.Str s)
token_raw t = None

raw_back : (a : RawAtom) → token_raw (raw_atom_token a) ≡ Some a
raw_back (raw_atom.Bool true) = refl
raw_back (raw_atom.Bool false) = refl
raw_back a = refl

pub no_raw_atom : (t : Meaning) → token_raw t ≡ None → (a : RawAtom) → t ≢ raw_atom_token a
no_raw_atom t none a e = let h : None ≡ Some a = sym none ∙ ap token_raw e ∙ raw_back a in cc h

same_raw_atom : (a b : RawAtom) → raw_atom_token a ≡ raw_atom_token b → a ≡ b
same_raw_atom a b e = let h : Some a ≡ Some b = sym (raw_back a) ∙ ap token_raw e ∙ raw_back b in cc h

-- what is no atom of a body is none
pub no_raw_of : (t : Meaning) → ((a : Atom) → t ≢ atom_token a) → (a : RawAtom) → t ≢ raw_atom_token a
no_raw_of t none raw_atom.None e = none atom.None e
no_raw_of t none (raw_atom.Bool true) e = none (atom.Bool true) e
no_raw_of t none (raw_atom.Bool false) e = none (atom.Bool false) e
no_raw_of t none (raw_atom.Int n) e = none (atom.Int n) e
no_raw_of t none (raw_atom.Str s) e = none (atom.Str s) e

find_raw_atom : (t : Meaning) → Finds raw_atom_token t
find_raw_atom (Key keyword.None) = Found raw_atom.None refl
find_raw_atom (Key keyword.True) = Found (raw_atom.Bool true) refl
find_raw_atom (Key keyword.False) = Found (raw_atom.Bool false) refl
find_raw_atom (Number n) = Found (raw_atom.Int n) refl
find_raw_atom (Text s) = Found (raw_atom.Str s) refl
find_raw_atom t = Missing (no_raw_atom t refl)

-- ---- tuples

-- a parenthesis is no item
no_item : (t : Meaning) → token_raw t ≡ None → (a : RawAtom) (ts us : List Meaning) → t ∷ ts ≢ raw_atom_token a ∷ us
no_item t none a ts us e = no_raw_atom t none a (cc)

one_tuple : (xs ys : List RawAtom) (ts us : List Meaning) → tuple_tokens xs ts ≡ tuple_tokens ys us → (xs ≡ ys) × (ts ≡ us)
one_tuple [] [] ts us e = (refl, cc)
one_tuple [] (b ∷ ys) ts us e = absurd (no_item Close refl b _ _ e)
one_tuple (a ∷ xs) [] ts us e = absurd (no_item Close refl a _ _ (sym e))
one_tuple (a ∷ xs) (b ∷ ys) ts us e =
    let here : a ≡ b = same_raw_atom a b (cc) in
    let behind : tuple_tokens xs ts ≡ tuple_tokens ys us = cc in
    let (all, rest) = one_tuple xs ys ts us behind in
    (cc, rest)

-- some items, and the tokens behind them
abbrev pub items_tokens : List RawAtom → List Meaning → List Meaning
items_tokens [] behind = behind
items_tokens (a ∷ xs) behind = raw_atom_token a ∷ items_tokens xs behind

pub items_more : (xs : List RawAtom) (a : RawAtom) (ts : List Meaning) → items_tokens (xs ++ a ∷ []) ts ≡ items_tokens xs (raw_atom_token a ∷ ts)
items_more [] a ts = refl
items_more (x ∷ xs) a ts = ap (λ us. raw_atom_token x ∷ us) (items_more xs a ts)

pub items_end : (xs : List RawAtom) (ts : List Meaning) → items_tokens xs (Close ∷ ts) ≡ tuple_tokens xs ts
items_end [] ts = refl
items_end (x ∷ xs) ts = ap (λ us. raw_atom_token x ∷ us) (items_end xs ts)

pub no_tuple_behind : (xs : List RawAtom) (ts : List Meaning) → NoneBefore tuple_tokens ts → NoneBefore tuple_tokens (items_tokens xs ts)
no_tuple_behind [] ts none ys us e = none ys us e
no_tuple_behind (x ∷ xs) ts none [] us e = no_item Close refl x us (items_tokens xs ts) (sym e)
no_tuple_behind (x ∷ xs) ts none (y ∷ ys) us e = no_tuple_behind xs ts none ys us (cc)

pub no_tuple_empty : NoneBefore tuple_tokens []
no_tuple_empty [] us e = cc
no_tuple_empty (y ∷ ys) us e = cc

pub no_tuple_first : (t : Meaning) (ts : List Meaning) → (t ≢ Close) → ((a : RawAtom) → t ≢ raw_atom_token a) → NoneBefore tuple_tokens (t ∷ ts)
no_tuple_first t ts other none [] us e = other (cc)
no_tuple_first t ts other none (y ∷ ys) us e = none y (cc)

-- ---- constants in front of other tokens

pub one_const : (c d : RawConst) (ts us : List Meaning) → const_tokens c ts ≡ const_tokens d us → (c ≡ d) × (ts ≡ us)
one_const (constant.Atom a) (constant.Atom b) ts us e = let k : a ≡ b = same_raw_atom a b (cc) in (ap constant.Atom k, cc)
one_const (constant.Code x) (constant.Code y) ts us e = (cc, cc)
one_const (constant.Tuple xs) (constant.Tuple ys) ts us e =
    let behind : tuple_tokens xs ts ≡ tuple_tokens ys us = cc in
    let (all, rest) = one_tuple xs ys ts us behind in
    (ap constant.Tuple all, rest)
one_const (constant.Atom a) (constant.Code y) ts us e = absurd (no_item (Ref y) refl a _ _ (sym e))
one_const (constant.Atom a) (constant.Tuple ys) ts us e = absurd (no_item Open refl a _ _ (sym e))
one_const (constant.Code x) (constant.Atom b) ts us e = absurd (no_item (Ref x) refl b _ _ e)
one_const (constant.Tuple xs) (constant.Atom b) ts us e = absurd (no_item Open refl b _ _ e)
one_const (constant.Code x) (constant.Tuple ys) ts us e = cc
one_const (constant.Tuple xs) (constant.Code y) ts us e = cc

pub no_const_empty : NoneBefore const_tokens []
no_const_empty (constant.Atom a) us e = cc
no_const_empty (constant.Code x) us e = cc
no_const_empty (constant.Tuple xs) us e = cc

pub no_const_tuple : (ts : List Meaning) → NoneBefore tuple_tokens ts → NoneBefore const_tokens (Open ∷ ts)
no_const_tuple ts none (constant.Atom a) us e = no_item Open refl a _ _ e
no_const_tuple ts none (constant.Code x) us e = cc
no_const_tuple ts none (constant.Tuple xs) us e = none xs us (cc)

pub no_const_first : (t : Meaning) (ts : List Meaning) → (t ≢ Open) → ((x : List ℕ) → t ≢ Ref x) → ((a : RawAtom) → t ≢ raw_atom_token a) → NoneBefore const_tokens (t ∷ ts)
no_const_first t ts other code none (constant.Atom a) us e = none a (cc)
no_const_first t ts other code none (constant.Code x) us e = code x (cc)
no_const_first t ts other code none (constant.Tuple xs) us e = other (cc)

-- ---- all constants

pub one_consts : (cs ds : List RawConst) → consts_tokens cs [] ≡ consts_tokens ds [] → cs ≡ ds
one_consts [] [] e = refl
one_consts [] (d ∷ ds) e = absurd (no_const_empty d _ e)
one_consts (c ∷ cs) [] e = absurd (no_const_empty c _ (sym e))
one_consts (c ∷ cs) (d ∷ ds) e =
    let (here, behind) = one_const c d (consts_tokens cs []) (consts_tokens ds []) e in
    let rest : cs ≡ ds = one_consts cs ds behind in
    cc

pub consts_more : (cs : List RawConst) (c : RawConst) (ts : List Meaning) → consts_tokens (cs ++ c ∷ []) ts ≡ consts_tokens cs (const_tokens c ts)
consts_more [] c ts = refl
consts_more (d ∷ cs) c ts = ap (const_tokens d) (consts_more cs c ts)

-- where no constant stands in front of what is left, which is something
pub no_consts_behind : (cs : List RawConst) (ts : List Meaning) → (ts ≢ []) → NoneBefore const_tokens ts → (ds : List RawConst) → consts_tokens cs ts ≢ consts_tokens ds []
no_consts_behind [] ts some none [] e = some e
no_consts_behind [] ts some none (d ∷ ds) e = none d _ e
no_consts_behind (c ∷ cs) ts some none [] e = no_const_empty c _ (sym e)
no_consts_behind (c ∷ cs) ts some none (d ∷ ds) e = no_consts_behind cs ts some none ds (one_const c d (consts_tokens cs ts) (consts_tokens ds []) e).1

tuple_longer : (xs : List RawAtom) (ts : List Meaning) → length ts < length (tuple_tokens xs ts)
tuple_longer [] ts = omega arith
tuple_longer (x ∷ xs) ts = let h = tuple_longer xs ts in omega (arith, h)

pub const_longer : (c : RawConst) (ts : List Meaning) → length ts < length (const_tokens c ts)
const_longer (constant.Atom a) ts = omega arith
const_longer (constant.Code x) ts = omega arith
const_longer (constant.Tuple xs) ts = let h = tuple_longer xs ts in omega (arith, h)

-- ---- what stands in front of tokens, or that nothing does

pub data Before {X : Type 0} (printing : X → List Meaning → List Meaning) (ts : List Meaning) : Type 0 where
  Is : (x : X) (rest : List Meaning) → ts ≡ printing x rest → Before printing ts
  None_is : NoneBefore printing ts → Before printing ts

-- one more item, where the token is one
one_more : (t : Meaning) (ts : List Meaning) → (t ≢ Close) → Finds raw_atom_token t → Before tuple_tokens ts → Before tuple_tokens (t ∷ ts)
one_more t ts other (Found a e) (Is xs rest is) = Is (a ∷ xs) rest (cc)
one_more t ts other (Found a e) (None_is none) = None_is (elim [ [] ↦ λ us is. other (cc) | x ∷ xs ↦ λ us is. none xs us (cc) ])
one_more t ts other (Missing none) before = None_is (no_tuple_first t ts other none)

find_tuple : (ts : List Meaning) → Before tuple_tokens ts
find_tuple [] = None_is no_tuple_empty
find_tuple (Close ∷ ts) = Is [] ts refl
find_tuple (t ∷ ts) = one_more t ts (λ e. cc) (find_raw_atom t) (find_tuple ts)

tuple_const : (ts : List Meaning) → Before tuple_tokens ts → Before const_tokens (Open ∷ ts)
tuple_const ts (Is xs rest e) = Is (constant.Tuple xs) rest (ap (λ us. Open ∷ us) e)
tuple_const ts (None_is none) = None_is (no_const_tuple ts none)

atom_const : (t : Meaning) (ts : List Meaning) → (t ≢ Open) → ((x : List ℕ) → t ≢ Ref x) → Finds raw_atom_token t → Before const_tokens (t ∷ ts)
atom_const t ts other code (Found a e) = Is (constant.Atom a) ts (ap (λ u. u ∷ ts) e)
atom_const t ts other code (Missing none) = None_is (no_const_first t ts other code none)

find_const : (ts : List Meaning) → Before const_tokens ts
find_const [] = None_is no_const_empty
find_const (Open ∷ ts) = tuple_const ts (find_tuple ts)
find_const (Ref x ∷ ts) = Is (constant.Code x) ts refl
find_const (t ∷ ts) = atom_const t ts (λ e. cc) (λ x e. cc) (find_raw_atom t)

-- those behind a constant
consts_behind : (ts rest : List Meaning) (c : RawConst) → ts ≡ const_tokens c rest → Finds (λ cs. consts_tokens cs []) rest → Finds (λ cs. consts_tokens cs []) ts
consts_behind ts rest c e (Found cs f) = Found (c ∷ cs) (e ∙ ap (const_tokens c) f)
consts_behind ts rest c e (Missing none) =
    Missing (elim [
      | [] ↦ λ is. no_const_empty c rest (sym is ∙ e)
      | d ∷ ds ↦ λ is. none ds (one_const c d rest (consts_tokens ds []) (sym e ∙ is)).1
    ])

by_const : (fuel : ℕ) (t : Meaning) (ts : List Meaning) → length ts < fuel → Before const_tokens (t ∷ ts)
    → ((rest : List Meaning) → length rest < fuel → Finds (λ cs. consts_tokens cs []) rest) → Finds (λ cs. consts_tokens cs []) (t ∷ ts)
by_const fuel t ts few (Is c rest e) on = consts_behind (t ∷ ts) rest c e (on rest (omega (arith, few, const_longer c rest, ap length e)))
by_const fuel t ts few (None_is none) on = Missing (no_consts_behind [] (t ∷ ts) (λ e. cc) none)

consts_within : (fuel : ℕ) (ts : List Meaning) → length ts < fuel → Finds (λ cs. consts_tokens cs []) ts
consts_within fuel [] few = Found [] refl
consts_within (suc fuel) (t ∷ ts) few = by_const fuel t ts (omega (arith, few)) (find_const (t ∷ ts)) (λ rest less. consts_within fuel rest less)
consts_within fuel (t ∷ ts) few = absurd (omega (arith, few))

pub find_consts : (ts : List Meaning) → Finds (λ cs. consts_tokens cs []) ts
find_consts ts = consts_within (suc (length ts)) ts (omega arith)
