-- How small lines read, by computing their tokens.
use Rattle.std.proofs.Common.{◌≡◌, ◌≢◌, ◌^◌, List, [], ◌∷◌, false, Some, None, refl, ap, ◌∙◌, arith}
use Rattle.std.specs.Prelude.{ℤ, Option, codes, pos, neg_ℤ}
use Rattle.py_tree.specs.declared.body.BodyKind.TheVariants as body
use Rattle.py_tree.specs.declared.expr.Atom.TheVariants as atom
use Rattle.py_tree.specs.Tree.{Name, Leaf, Operate, Exprs, no_operands, operand}
use Rattle.py_lines.specs.declared.drive.DriveLine.{DriveLine}
use Rattle.py_lines.specs.declared.drive.DriveLine.TheVariants as drive_line
use Rattle.py_lines.specs.declared.header.Header.{Header}
use Rattle.py_lines.specs.declared.header.Header.TheVariants as header
use Rattle.py_lines.specs.declared.keyword.Keyword.TheVariants as keyword
use Rattle.py_lines.specs.Statements.{Plain, Head}
use Rattle.py_lines.specs.Statements as said
use Rattle.py_lines.specs.Meaning.{Meaning, Open, Close, Equals, Key, Word, Number, Parts}
use Rattle.py_lines.specs.Printing.{exprs_tokens, operator_word, number_token, plain_tokens, head_tokens, target_tokens, header_tokens, drive_tokens}
use Rattle.py_lines.specs.Words.{is_short}
use Rattle.py_lines.specs.Worked.{AddIsAName, AsIsAName, CallIsADrive, CallIsAName, CallOfSums, ClassOfItself, ClassOfNothing, CloseIsAName, KeywordIsNoName, ManagerOfTwo, NextNothing, NoCloseAtTheEnd, NoCountBeyond, NoLargeNumber, NoNameBehindAs, NoNumberBelow, NoOperatorOfThisName, NothingBehind, NothingInParentheses, NothingIsBlank, ThrowIsADrive, WithAs, WithNone, YieldIsAName}
use Rattle.py_lines.proofs.Classes.{no_plain, no_opening, no_header, no_drive_line}
use Rattle.py_lines.proofs.Counts.{no_count, no_other}
use Rattle.py_lines.proofs.OneAtom.{no_atom}
use Rattle.py_lines.proofs.Expressions.{no_open, one_expr, operator_of, read_back}
use Rattle.py_lines.proofs.Fronts.{none_empty}

pub call_is_a_name : CallIsAName
call_is_a_name = (refl, omega arith)

pub call_is_a_drive : CallIsADrive
call_is_a_drive = (refl, tt)

pub add_is_a_name : AddIsAName
add_is_a_name = (refl, tt)

pub yield_is_a_name : YieldIsAName
yield_is_a_name = (refl, tt)

pub close_is_a_name : CloseIsAName
close_is_a_name = (refl, omega arith)

pub throw_is_a_drive : ThrowIsADrive
throw_is_a_drive = (refl, tt)

pub next_nothing : NextNothing
next_nothing = (refl, tt)

pub no_number_below : NoNumberBelow
no_number_below = (refl, λ l low. no_drive_line _ refl drives l)
  where
    drives : (d : DriveLine) → Word (codes "close") ∷ Number (neg_ℤ (pos 1)) ∷ [] ≢ drive_tokens d
    drives (drive_line.Close n) e = let h : Number (neg_ℤ (pos 1)) ≡ number_token n = cc in no_count is_short _ refl n h
    drives d e = cc

pub no_count_beyond : NoCountBeyond
no_count_beyond = (refl, λ l low. no_drive_line _ refl drives l)
  where
    drives : (d : DriveLine) → Word (codes "next") ∷ Number (pos (2 ^ 64)) ∷ [] ≢ drive_tokens d
    drives (drive_line.Next n) e =
        let h : Number (pos (2 ^ 64)) ≡ number_token n = cc in
        no_other is_short false (2 ^ 64) refl (Number (pos (2 ^ 64))) refl (λ same. cc) n h
    drives d e = cc

pub as_is_a_name : AsIsAName
as_is_a_name = (refl, tt)

pub with_as : WithAs
with_as = (refl, omega arith)

pub with_none : WithNone
with_none = (refl, omega arith)

pub class_of_itself : ClassOfItself
class_of_itself = (refl, tt)

pub manager_of_two : ManagerOfTwo
manager_of_two = (refl, tt)

pub no_name_behind_as : NoNameBehindAs
no_name_behind_as = (refl, λ l low. no_opening _ refl heads l)
  where
    none : (x : Option Name) → Word (codes "as") ∷ [] ≢ target_tokens x
    none None e = cc
    none (Some x) e = cc

    heads : (h : Head) → Key keyword.With ∷ Word (codes "x") ∷ Word (codes "as") ∷ [] ≢ head_tokens h
    heads (said.With a x) e = none x (one_expr (Leaf (atom.Name (codes "x"))) a (Word (codes "as") ∷ []) (target_tokens x) (cc)).1
    heads h e = cc

pub class_of_nothing : ClassOfNothing
class_of_nothing = (refl, λ l low. no_header _ refl headers l)
  where
    headers : (h : Header) → Key keyword.Class ∷ Word (codes "C") ∷ [] ≢ header_tokens h
    headers (header.Def body.Function f ps) e = cc
    headers (header.Def body.Generator f ps) e = cc
    headers h e = cc

pub nothing_is_blank : NothingIsBlank
nothing_is_blank = refl

pub keyword_is_no_name : KeywordIsNoName
keyword_is_no_name = (refl, λ l low. no_plain _ refl plains l)
  where
    plains : (p : Plain) → Key keyword.In ∷ Equals ∷ Number (pos 1) ∷ [] ≢ plain_tokens p
    plains said.Pass e = cc
    plains p e = cc

pub nothing_behind : NothingBehind
nothing_behind = (refl, λ l low. no_plain _ refl plains l)
  where
    plains : (p : Plain) → Key keyword.Show ∷ Word (codes "x") ∷ Word (codes "y") ∷ [] ≢ plain_tokens p
    plains (said.Show f) e = let h : Word (codes "y") ∷ [] ≡ [] = (one_expr (Leaf (atom.Name (codes "x"))) f (Word (codes "y") ∷ []) [] (cc)).1 in cc
    plains p e = cc

pub no_large_number : NoLargeNumber
no_large_number = (refl, λ l low. no_plain _ refl plains l)
  where
    plains : (p : Plain) → Key keyword.Return ∷ Parts None ∷ [] ≢ plain_tokens p
    plains (said.Return (Leaf a)) e = no_atom (Parts None) refl a (cc)
    plains (said.Return (Operate o es)) e = cc
    plains p e = cc

pub call_of_sums : CallOfSums
call_of_sums = (refl, omega arith)

pub nothing_in_parentheses : NothingInParentheses
nothing_in_parentheses = (refl, λ l low. no_plain _ refl plains l)
  where
    plains : (p : Plain) → Key keyword.Show ∷ Open ∷ Close ∷ [] ≢ plain_tokens p
    plains (said.Show (Leaf a)) e = no_open a [] (Close ∷ []) (cc)
    plains (said.Show (Operate o es)) e = cc
    plains p e = cc

pub no_close_at_the_end : NoCloseAtTheEnd
no_close_at_the_end = (refl, λ l low. no_plain _ refl plains l)
  where
    no_more : (es : Exprs) → [] ≢ exprs_tokens es (Close ∷ [])
    no_more no_operands e = cc
    no_more (operand f fs) e = none_empty f _ e

    none : (n : ℤ) (ts : List Meaning) → ((es : Exprs) → ts ≢ exprs_tokens es (Close ∷ [])) → (es : Exprs) → Number n ∷ ts ≢ exprs_tokens es (Close ∷ [])
    none n ts fewer no_operands e = cc
    none n ts fewer (operand f fs) e = fewer fs (one_expr (Leaf (atom.Int n)) f ts (exprs_tokens fs (Close ∷ [])) e).1

    plains : (p : Plain) → Key keyword.Show ∷ Open ∷ Word (codes "add") ∷ Number (pos 1) ∷ Number (pos 2) ∷ [] ≢ plain_tokens p
    plains (said.Show (Leaf a)) e = no_open a [] (Word (codes "add") ∷ Number (pos 1) ∷ Number (pos 2) ∷ []) (cc)
    plains (said.Show (Operate o es)) e = none (pos 1) (Number (pos 2) ∷ []) (none (pos 2) [] no_more) es (cc)
    plains p e = cc

pub no_operator_of_this_name : NoOperatorOfThisName
no_operator_of_this_name = (refl, λ l low. no_plain _ refl plains l)
  where
    plains : (p : Plain) → Key keyword.Show ∷ Open ∷ Word (codes "f") ∷ Number (pos 1) ∷ Close ∷ [] ≢ plain_tokens p
    plains (said.Show (Leaf a)) e = no_open a [] (Word (codes "f") ∷ Number (pos 1) ∷ Close ∷ []) (cc)
    plains (said.Show (Operate o es)) e =
        let word : codes "f" ≡ operator_word o = cc in
        let none : None ≡ Some o = ap operator_of word ∙ read_back o in
        cc none
    plains p e = cc
