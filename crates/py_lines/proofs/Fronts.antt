-- What readers find, step by step.
use Rattle.std.proofs.Common.{◌≡◌, ◌≢◌, ◌<◌, ◌≤◌, ◌+◌, ℕ, suc, List, [], ◌∷◌, refl, sym, ap, ◌∙◌, subst, length, drop, drop-drop, true, false, map, Bor, arith}
use Rattle.std.proofs.lemmas.List.{length-drop, drop_all}
use Rattle.py_tree.specs.declared.expr.Atom.{Atom}
use Rattle.py_tree.specs.declared.expr.Operator.{Operator}
use Rattle.py_lines.specs.declared.meaning.Sense.{Sense}
use Rattle.py_lines.specs.declared.meaning.Sense.TheVariants as sense
use Rattle.py_tree.specs.Tree.{Expr, Leaf, Operate, Exprs, no_operands, operand}
use Rattle.py_tree.specs.Compilable.{deep, deepest}
use Rattle.py_tree.specs.declared.expr.Expr.{Operation}
use Rattle.py_tree.specs.declared.expr.ExprList.{ExprList}
use Rattle.py_tree.specs.ExprViews.{expr_of, exprs_of, with_operand}
use Rattle.py_lines.specs.Meaning.{Meaning, Open, Close, Word}
use Rattle.py_lines.specs.Senses.{meaning_of}
use Rattle.py_lines.specs.Printing.{atom_token, operator_word, expr_tokens, exprs_tokens}
use Rattle.py_lines.specs.Finding.{begins_closed, Fronts, NoneFronts, Operands, NoOperands}
use Rattle.py_tree.proofs.Exprs.{operation_of}
use Rattle.py_lines.proofs.Expressions.{no_close, no_open, one_expr}

-- one more operand in front of other tokens
pub tokens_more : (es : Exprs) (e : Expr) (ts : List Meaning) → exprs_tokens (with_operand es e) ts ≡ exprs_tokens es (expr_tokens e ts)
tokens_more no_operands e ts = refl
tokens_more (operand x es) e ts = ap (expr_tokens x) (tokens_more es e ts)

pub deep_more : (es : Exprs) (e : Expr) (room : ℕ) → deepest es ≤ room → deep e ≤ room → deepest (with_operand es e) ≤ room
deep_more no_operands e room all one = omega (arith, one)
deep_more (operand x es) e room all one = let rest = deep_more es e room (omega (arith, all)) one in omega (arith, rest, all)

-- whatever operands stand in front of a parenthesis that closes, these are read, and the others stand behind them
abbrev pub Behind : ℕ → List Meaning → List Meaning → Type 0
Behind room ts rest = (es : Exprs) (us : List Meaning) → deepest es ≤ room → ts ≡ exprs_tokens es (Close ∷ us) → (fs : Exprs) × (deepest fs ≤ room) × (rest ≡ exprs_tokens fs (Close ∷ us))

pub behind_all : (room : ℕ) (ts : List Meaning) → Behind room ts ts
behind_all room ts es us low is = (es, low, is)

-- one more is read
next_operand : (fs : Exprs) (e : Expr) (room : ℕ) (rest more us : List Meaning) → deepest fs ≤ room → rest ≡ expr_tokens e more → rest ≡ exprs_tokens fs (Close ∷ us)
    → (gs : Exprs) × (deepest gs ≤ room) × (more ≡ exprs_tokens gs (Close ∷ us))
next_operand no_operands e room rest more us low is same = absurd (no_close e more us (sym is ∙ same))
next_operand (operand f fs) e room rest more us low is same = (fs, omega (arith, low), (one_expr e f more (exprs_tokens fs (Close ∷ us)) (sym is ∙ same)).1)

pub behind_more : (room : ℕ) (ts rest more : List Meaning) (e : Expr) → Behind room ts rest → rest ≡ expr_tokens e more → Behind room ts more
behind_more room ts rest more e behind is es us low same =
    let (fs, low_fs, same_rest) = behind es us low same in
    next_operand fs e room rest more us low_fs is same_rest

-- ---- where nothing is read

-- no operand, and no parenthesis that closes
none_more : (fs : Exprs) (room : ℕ) (rest us : List Meaning) → deepest fs ≤ room → NoneFronts room rest → ((vs : List Meaning) → rest ≢ Close ∷ vs) → rest ≢ exprs_tokens fs (Close ∷ us)
none_more no_operands room rest us low none closes same = closes us same
none_more (operand f fs) room rest us low none closes same = none f (exprs_tokens fs (Close ∷ us)) (omega (arith, low)) same

pub no_operands_more : (room : ℕ) (ts rest : List Meaning) → Behind room ts rest → NoneFronts room rest → ((vs : List Meaning) → rest ≢ Close ∷ vs) → NoOperands room ts
no_operands_more room ts rest behind none closes es us low same =
    let (fs, low_fs, same_rest) = behind es us low same in
    none_more fs room rest us low_fs none closes same_rest

pub none_empty : (e : Expr) (rest : List Meaning) → [] ≢ expr_tokens e rest
none_empty (Leaf a) rest e = cc
none_empty (Operate o es) rest e = cc

pub nothing_fronts : (room : ℕ) → NoneFronts room []
nothing_fronts room e rest low same = none_empty e rest same

-- a token that is no atom and no parenthesis that opens
pub no_atom_fronts : (room : ℕ) (t : Meaning) (ts : List Meaning) → ((us : List Meaning) → t ∷ ts ≢ Open ∷ us) → ((a : Atom) → t ≢ atom_token a) → NoneFronts room (t ∷ ts)
no_atom_fronts room t ts other none (Leaf a) rest low same = none a (cc)
no_atom_fronts room t ts other none (Operate o es) rest low same = other _ same

-- ---- operations

-- an operation is its word and its operands
operation_parts : (e : Expr) (ts rest : List Meaning) (room : ℕ) → deep e ≤ room → Open ∷ ts ≡ expr_tokens e rest
    → (o : Operator) × (es : Exprs) × (ts ≡ Word (operator_word o) ∷ exprs_tokens es (Close ∷ rest)) × (suc (deepest es) ≤ room)
operation_parts (Leaf a) ts rest room low same = absurd (no_open a rest ts (sym same))
operation_parts (Operate o es) ts rest room low same = (o, es, cc, low)

pub no_room : (ts : List Meaning) → NoneFronts 0 (Open ∷ ts)
no_room ts e rest low same = let (o, es, is, less) = operation_parts e ts rest 0 low same in absurd (omega (arith, less))

pub no_word : (room : ℕ) (ts : List Meaning) → ((w : List ℕ) (us : List Meaning) → ts ≢ Word w ∷ us) → NoneFronts room (Open ∷ ts)
no_word room ts other e rest low same = let (o, es, is, less) = operation_parts e ts rest room low same in other _ _ is

pub no_operator : (room : ℕ) (w : List ℕ) (ts : List Meaning) → ((o : Operator) → w ≢ operator_word o) → NoneFronts room (Open ∷ Word w ∷ ts)
no_operator room w ts other e rest low same = let (o, es, is, less) = operation_parts e (Word w ∷ ts) rest room low same in other o (cc is)

pub no_operation : (room : ℕ) (w : List ℕ) (ts : List Meaning) → NoOperands room ts → NoneFronts (suc room) (Open ∷ Word w ∷ ts)
no_operation room w ts none e rest low same =
    let (o, es, is, less) = operation_parts e (Word w ∷ ts) rest (suc room) low same in
    let behind : ts ≡ exprs_tokens es (Close ∷ rest) = cc is in
    none es rest (omega (arith, less)) behind

pub operation_fronts : (room : ℕ) (o : Operator) (es : Exprs) (ts : List Meaning) (n : ℕ) → Operands room ts es n → Fronts (suc room) (Open ∷ Word (operator_word o) ∷ ts) (Operate o es) (n + 2)
operation_fronts room o es ts n (same, low, within) =
    let count : n + 2 ≡ suc (suc n) = omega arith in
    let here : Fronts (suc room) (Open ∷ Word (operator_word o) ∷ ts) (Operate o es) (suc (suc n)) =
    (ap (λ (us : List Meaning). Open ∷ Word (operator_word o) ∷ us) same, omega (arith, low), omega arith, omega (arith, within)) in
    subst (Fronts (suc room) (Open ∷ Word (operator_word o) ∷ ts) (Operate o es)) (sym count) here

-- ---- positions

-- a list whose front is dropped has fewer
dropped : (n : ℕ) (ts : List Meaning) → n ≤ length ts → length (drop n ts) + n ≡ length ts
dropped n ts within = omega (arith, length-drop n ts, within)

-- the parenthesis that closes
pub closed_rest : (rest : List Meaning) → begins_closed rest ≡ true → rest ≡ Close ∷ drop 1 rest
closed_rest (Close ∷ ts) is = refl
closed_rest ts is = absurd (cc is)

pub not_closed : (rest : List Meaning) → begins_closed rest ≡ false → (vs : List Meaning) → rest ≢ Close ∷ vs
not_closed rest is vs same = let clash : true ≡ false = sym (ap begins_closed same) ∙ is in cc clash

-- a place behind which something is left lies in front of the end
pub below_end : (n : ℕ) (ts : List Meaning) (t : Meaning) (us : List Meaning) → drop n ts ≡ t ∷ us → n < length ts
below_end n ts t us is = let long : length (drop n ts) ≡ suc (length us) = ap length is in omega (arith, long, length-drop n ts)

pub operands_end : (room : ℕ) (ts : List Meaning) (at : ℕ) (es : Exprs) → ts ≡ exprs_tokens es (drop at ts) → deepest es ≤ room → begins_closed (drop at ts) ≡ true → Operands room ts es (at + 1)
operands_end room ts at es tokens low closes =
    let is : drop at ts ≡ Close ∷ drop 1 (drop at ts) = closed_rest (drop at ts) closes in
    let behind : drop 1 (drop at ts) ≡ drop (at + 1) ts = drop-drop 1 at ts in
    (tokens ∙ ap (exprs_tokens es) (is ∙ ap (λ (us : List Meaning). Close ∷ us) behind), low, omega (arith, below_end at ts Close _ is))

pub no_operands_at : (room : ℕ) (ts : List Meaning) (at : ℕ) → Behind room ts (drop at ts) → NoneFronts room (drop at ts) → begins_closed (drop at ts) ≡ false → NoOperands room ts
no_operands_at room ts at behind none open_rest = no_operands_more room ts (drop at ts) behind none (not_closed (drop at ts) open_rest)

pub no_operands_end : (room : ℕ) (ts : List Meaning) (at : ℕ) → Behind room ts (drop at ts) → length ts ≤ at → NoOperands room ts
no_operands_end room ts at behind past =
    let none : drop at ts ≡ [] = drop_all at ts past in
    no_operands_more room ts (drop at ts) behind (subst (NoneFronts room) (sym none) (nothing_fronts room)) (λ vs same. let clash : [] ≡ Close ∷ vs = sym none ∙ same in cc clash)

-- what is kept from one operand to the next
abbrev pub Kept : ℕ → List Meaning → ℕ → Exprs → Type 0
Kept room ts at es = (at ≤ length ts) × (ts ≡ exprs_tokens es (drop at ts)) × (deepest es ≤ room) × Behind room ts (drop at ts)

pub operand_step : (room : ℕ) (ts : List Meaning) (at used : ℕ) (es : Exprs) (e : Expr) (fs : Exprs) → fs ≡ with_operand es e → ts ≡ exprs_tokens es (drop at ts) → deepest es ≤ room → Behind room ts (drop at ts)
    → Fronts room (drop at ts) e used → Kept room ts (at + used) fs
operand_step room ts at used es e fs is tokens low behind (same, low_e, some, within) =
    let further : drop used (drop at ts) ≡ drop (at + used) ts = drop-drop used at ts in
    let here : drop at ts ≡ expr_tokens e (drop (at + used) ts) = same ∙ ap (expr_tokens e) further in (
      omega (arith, within, some, length-drop at ts),
      tokens ∙ ap (exprs_tokens es) here ∙ sym (tokens_more es e (drop (at + used) ts)) ∙ ap (λ (gs : Exprs). exprs_tokens gs (drop (at + used) ts)) (sym is),
      subst (λ (gs : Exprs). deepest gs ≤ room) (sym is) (deep_more es e room low low_e),
      behind_more room ts (drop at ts) (drop (at + used) ts) e behind here,
    )

-- where an expression stands in front of more tokens, none is all of them
pub none_whole : (room : ℕ) (ts : List Meaning) (e : Expr) (n : ℕ) → Fronts room ts e n → n < length ts → (f : Expr) → deep f ≤ room → ts ≢ expr_tokens f []
none_whole room ts e n (same, low_e, some, within) more f low is =
    let left : drop n ts ≡ [] = (one_expr e f (drop n ts) [] (sym same ∙ is)).1 in
    let long : length (drop n ts) ≡ 0 = ap length left in
    absurd (omega (arith, long, length-drop n ts, more))

-- ---- tokens of the program

pub no_tokens : (tokens : List Sense) → length tokens ≡ 0 → map meaning_of tokens ≡ []
no_tokens [] none = refl
no_tokens (s ∷ tokens) none = absurd (omega (arith, none))

pub not_a_word : (s : Sense) → ((x : Bor (List ℕ)) → s ≡ sense.Word x → ⊥) → (w : List ℕ) → meaning_of s ≢ Word w
not_a_word (sense.Word x) none w e = none x refl
not_a_word s none w e = cc

pub as_many : (tokens : List Sense) → length (map meaning_of tokens) ≡ length tokens
as_many [] = refl
as_many (s ∷ tokens) = ap suc (as_many tokens)

-- an operation behind its parenthesis, whose word and operands are read
pub operation_read : (room : ℕ) (o : Operator) (l : ExprList) (w : List ℕ) (ts : List Meaning) (n : ℕ) → w ≡ operator_word o → Operands room ts (exprs_of l) n → Fronts (suc room) (Open ∷ Word w ∷ ts) (expr_of (Operation o l)) (n + 2)
operation_read room o l w ts n is found =
    subst (λ (e : Expr). Fronts (suc room) (Open ∷ Word w ∷ ts) e (n + 2)) (sym (operation_of o l))
    (subst (λ (v : List ℕ). Fronts (suc room) (Open ∷ Word v ∷ ts) (Operate o (exprs_of l)) (n + 2)) (sym is) (operation_fronts room o (exprs_of l) ts n found))

-- a token that is no parenthesis that opens
pub not_open : (s : Sense) → (s ≡ sense.Open → ⊥) → (ts us : List Meaning) → meaning_of s ∷ ts ≢ Open ∷ us
not_open sense.Open none ts us e = none refl
not_open s none ts us e = cc
