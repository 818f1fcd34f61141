-- The literals of constants.
use Rattle.std.proofs.Common.{◌≡◌, ◌<◌, ◌≤◌, ◌+◌, ◌^◌, ℕ, zero, suc, List, [], ◌∷◌, ◌++◌, Bool, true, false, cond, not, ◌||◌, Option, Some, None, refl, sym, ap, ap₂, ◌∙◌, map, length, take, get_or, rules, lit<, arith, Global}
use Rattle.std.specs.Prelude.{All, Vec, bytes_eq, option_map, slice_get}
use Rattle.std.specs.List.{list_any, position_or_len}
use Rattle.std.proofs.lemmas.Bool.{lt-ltb}
use Rattle.std.proofs.lemmas.List.{take_more}
use Rattle.std.proofs.lemmas.List.Elements.{All-head, All-tail}
use Rattle.std.proofs.lemmas.Slice.Zip.{all_zipped_more}
use denote.RawPtr.{null_ptr}
use Rattle.py_code.specs.declared.literal.Literal.{Literal, None as NoneLiteral, Bool as BoolLiteral, Int as IntLiteral, Str as StrLiteral, Code as CodeLiteral, Tuple}
use Rattle.py_code.specs.declared.literal.Literal.TheOpen.{LiteralList-F}
use Rattle.py_code.specs.declared.literal.Literal.TheViews.{roll-LiteralList, the_lemmas}
use Rattle.py_code.specs.declared.literal.LiteralList.{LiteralList}
use Rattle.py_code.specs.Literals.{Constant, constant_of, in_order, literals_of, tuple, code}
use Rattle.py_code.specs.Names.{place_of}
use Rattle.py_code.proofs.LiteralLemmas.{constant_of-tuple}
use Rattle.py_check.specs.Running.{loads_constant}
use Rattle.py_tree.specs.Tree.{Name}
use Rattle.py_lines.specs.declared.constant.RawAtom.{RawAtom}
use Rattle.py_lines.specs.declared.constant.RawAtom.TheVariants as atom
use Rattle.py_lines.specs.declared.constant.RawConst.{RawConst}
use Rattle.py_lines.specs.declared.constant.RawConst.TheVariants as constant
use Rattle.py_grammar.specs.Rules.{is_among}
use Rattle.py_grammar.specs.WellFormed.{IsLoadable}
use Rattle.py_raw.specs.RawSheet.{plain_constant, constant_for, IsLiteralOf, AreLiteralsOf}
use Rattle.py_raw.proofs.ConstantLemmas.{all_loaded_in, loaded_in, loaded_read}

-- ---- there are literals

-- a vector of these, wherever it lies
abbrev vec : {X : Type 0} (xs : List X) → length xs ≤ 1048576 → Vec X Global
vec xs few =
    let top : 1048576 < 2 ^ 63 = lit< tt in
    record {
      ptr = null_ptr;
      len = length xs;
      cap = length xs;
      alloc = record { memory = record { seal = tt } };
      items = xs;
      ok = (refl, omega arith);
      small = omega (arith, few, top);
    }

-- a list of these
rolled : (x : LiteralList-F Literal LiteralList) → literals_of (roll-LiteralList x) ≡ x.items.items
rolled x = search (rules, the_lemmas)

listed : (ls : List Literal) → length ls ≤ 1048576 → (list : LiteralList) × (literals_of list ≡ ls)
listed ls few =
    let x : LiteralList-F Literal LiteralList = record { items = vec ls few } in
    (roll-LiteralList x, rolled x)

plain_literal : (a : RawAtom) → (l : Literal) × (constant_of l ≡ plain_constant a)
plain_literal atom.None = (NoneLiteral, refl)
plain_literal (atom.Bool b) = (BoolLiteral b, refl)
plain_literal (atom.Int n) = (IntLiteral n, refl)
plain_literal (atom.Str s) = (StrLiteral s, refl)

plain_literals : (xs : List RawAtom) → (ls : List Literal) × (map constant_of ls ≡ map plain_constant xs) × (length ls ≡ length xs)
plain_literals [] = ([], refl, refl)
plain_literals (x ∷ xs) =
    let (l, is) = plain_literal x in
    let (ls, are, as_many) = plain_literals xs in
    (l ∷ ls, ap₂ ◌∷◌ is are, ap suc as_many)

-- a name that is among others has a place
first_below : (p : Name → Bool) (xs : List Name) → list_any p xs ≡ true → position_or_len p xs < length xs
first_below p [] found = absurd (cc found)
first_below p (x ∷ xs) found = by (first_below p xs) (p x) found
  where
    by : (list_any p xs ≡ true → position_or_len p xs < length xs) → (b : Bool) → (b || list_any p xs) ≡ true
        → cond (not b) (1 + position_or_len p xs) 0 < suc (length xs)
    by behind true found = omega arith
    by behind false found = let low = behind found in omega (arith, low)

placed : (earlier : List Name) (f : Name) → is_among f earlier ≡ true → (n : ℕ) × (place_of earlier f ≡ Some n)
placed earlier f known =
    let low = first_below (bytes_eq f) earlier known in
    (position_or_len (bytes_eq f) earlier, rw (lt-ltb _ _ low) refl)

-- so it isn't without one
pub placed_there : (earlier : List Name) (f : Name) → is_among f earlier ≡ true → None ≡ place_of earlier f → ⊥
placed_there earlier f known none = let (n, at) = placed earlier f known in let clash : None ≡ Some n = none ∙ at in cc clash

literal_by : (earlier : List Name) (c : RawConst) → IsLoadable earlier c → (l : Literal) × IsLiteralOf earlier c l
literal_by earlier (constant.Atom a) loadable = let (l, is) = plain_literal a in (l, ap Some (sym is))
literal_by earlier (constant.Code f) loadable = let (n, at) = placed earlier f loadable in (CodeLiteral n, ap (option_map code) at)
literal_by earlier (constant.Tuple xs) few =
    let (ls, are, as_many) = plain_literals xs in
    let (list, has) = listed ls (omega (arith, as_many, few)) in
    let same : map constant_of (literals_of list) ≡ map plain_constant xs = ap (map constant_of) has ∙ are in
    (Tuple list, sym (ap Some (constant_of-tuple list (Tuple list) refl ∙ ap (λ (cs : List Constant). tuple (in_order cs)) same)))

pub literals_by : (earlier : List Name) (cs : List RawConst) → All (IsLoadable earlier) cs → (ls : List Literal) × AreLiteralsOf earlier cs ls
literals_by earlier [] all = ([], tt)
literals_by earlier (c ∷ cs) all =
    let (l, is) = literal_by earlier c (All-head (IsLoadable earlier) c cs all) in
    let (ls, are) = literals_by earlier cs (All-tail (IsLoadable earlier) c cs all) in
    (l ∷ ls, (is, are))

-- ---- and all of them stand for the same

one_constant : (c : Option Constant) (k l : Literal) → c ≡ Some (constant_of k) → c ≡ Some (constant_of l) → constant_of k ≡ constant_of l
one_constant c k l is also = let same : Some (constant_of k) ≡ Some (constant_of l) = sym is ∙ also in cc same

pub same_constants : (earlier : List Name) (cs : List RawConst) (ks ls : List Literal) → AreLiteralsOf earlier cs ks → AreLiteralsOf earlier cs ls
    → map constant_of ks ≡ map constant_of ls
same_constants earlier [] [] [] are also = refl
same_constants earlier [] [] (l ∷ ls) are also = absurd also
same_constants earlier [] (k ∷ ks) ls are also = absurd are
same_constants earlier (c ∷ cs) [] ls are also = absurd are
same_constants earlier (c ∷ cs) (k ∷ ks) [] are also = absurd also
same_constants earlier (c ∷ cs) (k ∷ ks) (l ∷ ls) are also =
    ap₂ ◌∷◌ (one_constant (constant_for earlier c) k l are.0 also.0) (same_constants earlier cs ks ls are.1 also.1)

-- the literal of a tuple by its items
pub tuple_is : (earlier : List Name) (xs : List RawAtom) (list : LiteralList) (l : Literal) → l ≡ Tuple list
    → map constant_of (literals_of list) ≡ map plain_constant xs → IsLiteralOf earlier (constant.Tuple xs) l
tuple_is earlier xs list l is same = sym (ap Some (constant_of-tuple list l is ∙ ap (λ (cs : List Constant). tuple (in_order cs)) same))

-- those of the first constants with that of one more
pub literals_more : (earlier : List Name) (cs : List RawConst) (ls more : List Literal) (i : ℕ) (c : RawConst) (l : Literal) → i < length cs → c ≡ get_or cs i c
    → AreLiteralsOf earlier (take i cs) ls → IsLiteralOf earlier c l → more ≡ ls ++ l ∷ [] → AreLiteralsOf earlier (take (i + 1) cs) more
literals_more earlier cs ls more i c l low there are is grown =
    let taken : take (i + 1) cs ≡ take i cs ++ c ∷ [] = take_more cs i c low ∙ ap (λ (x : RawConst). take i cs ++ x ∷ []) (sym there) in
    rw (taken, grown) (all_zipped_more (IsLiteralOf earlier) (take i cs) ls c l are is)

-- ---- each is loaded

plain_loaded : (a : RawAtom) → loaded_in (plain_constant a) ≡ true
plain_loaded atom.None = refl
plain_loaded (atom.Bool b) = refl
plain_loaded (atom.Int n) = refl
plain_loaded (atom.Str s) = refl

all_plain_loaded : (xs : List RawAtom) → all_loaded_in (in_order (map plain_constant xs)) ≡ true
all_plain_loaded [] = refl
all_plain_loaded (x ∷ xs) = rw (plain_loaded x) (all_plain_loaded xs)

code_loaded : (o : Option ℕ) (d : Constant) → option_map code o ≡ Some d → loaded_in d ≡ true
code_loaded None d is = absurd (cc is)
code_loaded (Some n) d is = let same : code n ≡ d = cc is in ap loaded_in (sym same)

constant_loaded : (earlier : List Name) (c : RawConst) (d : Constant) → constant_for earlier c ≡ Some d → loaded_in d ≡ true
constant_loaded earlier (constant.Atom a) d is = let same : plain_constant a ≡ d = cc is in ap loaded_in (sym same) ∙ plain_loaded a
constant_loaded earlier (constant.Code f) d is = code_loaded (place_of earlier f) d is
constant_loaded earlier (constant.Tuple xs) d is =
    let same : tuple (in_order (map plain_constant xs)) ≡ d = cc is in
    ap loaded_in (sym same) ∙ all_plain_loaded xs

pub literals_loaded : (earlier : List Name) (cs : List RawConst) (ls : List Literal) → AreLiteralsOf earlier cs ls → (i : ℕ) → i < length ls
    → loads_constant (slice_get ls i) ≡ true
literals_loaded earlier [] [] are i low = absurd (omega (arith, low))
literals_loaded earlier [] (l ∷ ls) are i low = absurd are
literals_loaded earlier (c ∷ cs) [] are i low = absurd are
literals_loaded earlier (c ∷ cs) (l ∷ ls) are zero low = loaded_read l ∙ constant_loaded earlier c (constant_of l) are.0
literals_loaded earlier (c ∷ cs) (l ∷ ls) are (suc i) low = literals_loaded earlier cs ls are.1 i (omega (arith, low))
