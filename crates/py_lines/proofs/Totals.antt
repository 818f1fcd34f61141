-- What line prints some tokens, or that none does, from the same of its parts.
use Rattle.std.proofs.Common.{◌≡◌, ◌≢◌, ◌*◌, List, [], ◌∷◌, Some, None, true, false, refl, sym, ap, ◌∙◌, length, map, arith}
use Rattle.std.specs.Prelude.{codes}
use Rattle.py_tree.specs.declared.body.BodyKind.{BodyKind}
use Rattle.py_tree.specs.declared.body.BodyKind.TheVariants as body
use Rattle.py_tree.specs.declared.expr.Operator.{Operator}
use Rattle.py_tree.specs.Tree.{Name, Expr, Leaf, Operate, Exprs}
use Rattle.py_lines.specs.declared.drive.DriveAtom.TheVariants as drive
use Rattle.py_lines.specs.declared.drive.DriveLine.TheVariants as drive_line
use Rattle.py_lines.specs.declared.head.Turn.TheVariants as turn
use Rattle.py_lines.specs.declared.header.Header.TheVariants as header
use Rattle.py_lines.specs.declared.keyword.Keyword.TheVariants as keyword
use Rattle.py_lines.specs.Line as line
use Rattle.py_lines.specs.Line.{Line}
use Rattle.py_lines.specs.Statements as said
use Rattle.py_lines.specs.Statements.{Plain, Head}
use Rattle.py_lines.specs.Meaning.{Meaning, Equals, Key, Word, Number, Text, Drive}
use Rattle.py_lines.specs.Reading.{ExprIsLow, HeadIsLow, LineIsLow, PlainIsLow}
use Rattle.py_lines.specs.Words.{is_short}
use Rattle.py_lines.specs.Printing.{drive_token, expr_tokens, plain_tokens, head_tokens, target_tokens, turn_tokens, body_keyword, header_tokens, thrown_tokens, drive_tokens, line_tokens}
use Rattle.py_lines.proofs.Finders.{Finds, Found, Missing, or_else, find_behind, find_nothing, find_both, find_lone, find_all}
use Rattle.py_lines.proofs.Finds.{no_line}
use Rattle.py_lines.proofs.Counts.{find_count}
use Rattle.py_lines.proofs.Expressions.{no_open, one_expr}
use Rattle.py_lines.proofs.OneToOne.{no_drive_atom}
use Rattle.py_lines.proofs.RawTotals.{find_raw}
use Rattle.py_lines.proofs.Searching.{Front, Is, None_is, front}
use Rattle.py_lines.proofs.TokenFinders.{find_name, behind_word, behind_key}

-- an argument of a drive
find_argument : (t : Meaning) → Finds drive_token t
find_argument (Key keyword.None) = Found drive.None refl
find_argument (Key keyword.True) = Found (drive.Bool true) refl
find_argument (Key keyword.False) = Found (drive.Bool false) refl
find_argument (Number n) = Found (drive.Int n) refl
find_argument (Text s) = Found (drive.Str s) refl
find_argument (Word x) = Found (drive.Name x) refl
find_argument (Drive n) = Found (drive.Drive n) refl
find_argument t = Missing (no_drive_atom t refl)

find_target : (ts : List Meaning) → Finds target_tokens ts
find_target [] = Found None refl
find_target (t ∷ ts) =
    or_else (find_behind (behind_word (codes "as") (t ∷ ts)) (find_lone find_name)) (λ x. Found (Some x)) λ no_name.
    Missing (elim [ None ↦ λ e. cc | Some x ↦ no_name x ])

-- ---- expressions, and what has some

-- an expression of which lines may have
abbrev Low : Type 0
Low = (e : Expr) × ExprIsLow e

-- the same with what the line has behind it
find_before : {X : Type 0} (behind : X → List Meaning) → ((ts : List Meaning) → Finds behind ts) → (ts : List Meaning) → Finds (λ (z : Low × X). expr_tokens z.0.0 (behind z.1)) ts
find_before {X = X} behind find ts = by (front (2 * length ts) 64 ts (omega arith))
  where
    by : Front 64 ts → Finds (λ (z : Low × X). expr_tokens z.0.0 (behind z.1)) ts
    by (Is e rest same low) =
        or_else (find rest) (λ x is. Found ((e, low), x) (same ∙ ap (expr_tokens e) is)) λ none.
        Missing λ z is. none z.1 (one_expr e z.0.0 rest (behind z.1) (sym same ∙ is)).1
    by (None_is none) = Missing λ z. none z.0.0 (behind z.1) z.0.1

find_expr : (ts : List Meaning) → Finds (λ (z : Low). expr_tokens z.0 []) ts
find_expr ts = or_else (find_before (λ x. []) find_nothing ts) (λ z. Found z.0) λ none. Missing λ z. none (z, tt)

-- an operation
abbrev LowOperation : Type 0
LowOperation = (o : Operator) × (es : Exprs) × ExprIsLow (Operate o es)

find_operation : (ts : List Meaning) → Finds (λ (z : LowOperation). expr_tokens (Operate z.0 z.1) []) ts
find_operation ts = or_else (find_expr ts) by λ none. Missing λ z. none (Operate z.0 z.1, z.2)
  where
    by : (z : Low) → ts ≡ expr_tokens z.0 [] → Finds (λ (z : LowOperation). expr_tokens (Operate z.0 z.1) []) ts
    by (Operate o es, low) same = Found (o, es, low) same
    by (Leaf a, low) same = Missing λ z is. no_open a [] _ (sym same ∙ is)

find_assigned : (ts : List Meaning) → Finds (λ (z : Low). Equals ∷ expr_tokens z.0 []) ts
find_assigned (Equals ∷ ts) = find_behind (Found ts refl) find_expr
find_assigned ts = Missing λ x e. cc

find_plain : (ts : List Meaning) → Finds (λ (z : (p : Plain) × PlainIsLow p). plain_tokens z.0) ts
find_plain ts =
    or_else (find_both find_name find_assigned ts) (λ z. Found (said.Assign z.0 z.1.0, z.1.1)) λ no_assign.
    or_else (find_behind (behind_key keyword.Do ts) find_operation) (λ z. Found (said.Do z.0 z.1, z.2)) λ no_do.
    or_else (find_behind (behind_key keyword.Show ts) find_expr) (λ z. Found (said.Show z.0, z.1)) λ no_show.
    or_else (find_behind (behind_key keyword.Return ts) find_expr) (λ z. Found (said.Return z.0, z.1)) λ no_return.
    or_else (find_behind (behind_key keyword.Raise ts) find_expr) (λ z. Found (said.Raise z.0, z.1)) λ no_raise.
    or_else (find_behind (behind_key keyword.Reraise ts) find_nothing) (λ x. Found (said.Reraise, tt)) λ no_reraise.
    or_else (find_behind (behind_key keyword.Break ts) find_nothing) (λ x. Found (said.Break, tt)) λ no_break.
    or_else (find_behind (behind_key keyword.Continue ts) find_nothing) (λ x. Found (said.Continue, tt)) λ no_continue.
    or_else (find_behind (behind_key keyword.Pass ts) find_nothing) (λ x. Found (said.Pass, tt)) λ no_pass.
    let none : (p : Plain) → PlainIsLow p → ts ≢ plain_tokens p = elim [
      | said.Assign x e ↦ λ low. no_assign (x, (e, low))
      | said.Do o es ↦ λ low. no_do (o, es, low)
      | said.Show e ↦ λ low. no_show (e, low)
      | said.Return e ↦ λ low. no_return (e, low)
      | said.Raise e ↦ λ low. no_raise (e, low)
      | said.Reraise ↦ λ low. no_reraise tt
      | said.Break ↦ λ low. no_break tt
      | said.Continue ↦ λ low. no_continue tt
      | said.Pass ↦ λ low. no_pass tt
    ] in
    Missing λ z. none z.0 z.1

find_head : (ts : List Meaning) → Finds (λ (z : (h : Head) × HeadIsLow h). head_tokens z.0) ts
find_head ts =
    or_else (find_behind (behind_key keyword.If ts) find_expr) (λ z. Found (said.If z.0, z.1)) λ no_if.
    or_else (find_behind (behind_key keyword.While ts) find_expr) (λ z. Found (said.While z.0, z.1)) λ no_while.
    or_else (find_behind (behind_key keyword.Try ts) find_nothing) (λ x. Found (said.Try, tt)) λ no_try.
    or_else (find_behind (behind_key keyword.With ts) (find_before target_tokens find_target)) (λ z. Found (said.With z.0.0 z.1, z.0.1)) λ no_with.
    let none : (h : Head) → HeadIsLow h → ts ≢ head_tokens h = elim [
      | said.If e ↦ λ low. no_if (e, low)
      | said.While e ↦ λ low. no_while (e, low)
      | said.Try ↦ λ low. no_try tt
      | said.With e x ↦ λ low. no_with ((e, low), x)
    ] in
    Missing λ z. none z.0 z.1

find_turn : (ts : List Meaning) → Finds turn_tokens ts
find_turn ts =
    or_else (find_behind (behind_key keyword.Else ts) find_nothing) (λ x. Found turn.Else) λ no_else.
    or_else (find_behind (behind_key keyword.Except ts) (find_both find_name find_target)) (λ z. Found (turn.Except z.0 z.1)) λ no_except.
    or_else (find_behind (behind_key keyword.Finally ts) find_nothing) (λ x. Found turn.Finally) λ no_finally.
    Missing (elim [ turn.Else ↦ no_else tt | turn.Except c x ↦ no_except (c, x) | turn.Finally ↦ no_finally tt ])

find_names : (k : BodyKind) (ts : List Meaning) → Finds (λ (z : Name × List Name). Key (body_keyword k) ∷ Word z.0 ∷ map Word z.1) ts
find_names k ts = find_behind (behind_key (body_keyword k) ts) (find_both find_name (find_all find_name))

find_header : (ts : List Meaning) → Finds header_tokens ts
find_header ts =
    or_else (find_names body.Function ts) (λ z. Found (header.Def body.Function z.0 z.1)) λ no_def.
    or_else (find_names body.Generator ts) (λ z. Found (header.Def body.Generator z.0 z.1)) λ no_gen.
    or_else (find_behind (behind_key keyword.Code ts) (find_both find_name (find_all find_name))) (λ z. Found (header.Code z.0 z.1)) λ no_code.
    or_else (find_behind (behind_key keyword.Class ts) (find_both find_name (find_lone find_name))) (λ z. Found (header.Class z.0 z.1)) λ no_class.
    or_else (find_behind (behind_key keyword.Manager ts) (find_both find_name (find_both find_name (find_lone find_name)))) (λ z. Found (header.Manager z.0 z.1.0 z.1.1)) λ no_manager.
    Missing (elim [
      | header.Def body.Function f ps ↦ no_def (f, ps)
      | header.Def body.Generator f ps ↦ no_gen (f, ps)
      | header.Code f ps ↦ no_code (f, ps)
      | header.Class c b ↦ no_class (c, b)
      | header.Manager m e x ↦ no_manager (m, (e, x))
    ])

find_thrown : (ts : List Meaning) → Finds thrown_tokens ts
find_thrown [] = Found None refl
find_thrown (t ∷ ts) = or_else (find_lone find_argument (t ∷ ts)) (λ a. Found (Some a)) λ no_value. Missing (elim [ None ↦ λ e. cc | Some a ↦ no_value a ])

find_drive : (ts : List Meaning) → Finds drive_tokens ts
find_drive ts =
    or_else (find_behind (behind_word (codes "call") ts) (find_both find_name (find_all find_argument))) (λ z. Found (drive_line.Call z.0 z.1)) λ no_call.
    or_else (find_behind (behind_word (codes "next") ts) (find_lone (find_count is_short))) (λ n. Found (drive_line.Next n)) λ no_next.
    or_else (find_behind (behind_word (codes "send") ts) (find_both (find_count is_short) (find_lone find_argument))) (λ z. Found (drive_line.Send z.0 z.1)) λ no_send.
    or_else (find_behind (behind_word (codes "throw") ts) (find_both (find_count is_short) (find_both find_name find_thrown))) (λ z. Found (drive_line.Throw z.0 z.1.0 z.1.1)) λ no_throw.
    or_else (find_behind (behind_word (codes "close") ts) (find_lone (find_count is_short))) (λ n. Found (drive_line.Close n)) λ no_close.
    or_else (find_behind (behind_word (codes "report") ts) (find_lone (find_count is_short))) (λ n. Found (drive_line.Report n)) λ no_report.
    Missing (elim [
      | drive_line.Call f args ↦ no_call (f, args)
      | drive_line.Next n ↦ no_next n
      | drive_line.Send n a ↦ no_send (n, a)
      | drive_line.Throw n c v ↦ no_throw (n, (c, v))
      | drive_line.Close n ↦ no_close n
      | drive_line.Report n ↦ no_report n
    ])

pub find_line : (ts : List Meaning) → Finds (λ (z : (l : Line) × LineIsLow l). line_tokens z.0) ts
find_line ts =
    or_else (find_plain ts) (λ z. Found (line.Plain z.0, z.1)) λ no_plain.
    or_else (find_head ts) (λ z. Found (line.Opens z.0, z.1)) λ no_head.
    or_else (find_turn ts) (λ t. Found (line.Turns t, tt)) λ no_turn.
    or_else (find_header ts) (λ h. Found (line.Header h, tt)) λ no_header.
    or_else (find_drive ts) (λ d. Found (line.Drive d, tt)) λ no_drive.
    or_else (find_raw ts) (λ r. Found (line.Raw r, tt)) λ no_raw.
    or_else (find_behind (behind_key keyword.End ts) find_nothing) (λ x. Found (line.End, tt)) λ no_end.
    Missing (λ z. no_line ts (λ p low. no_plain (p, low)) (λ h low. no_head (h, low)) no_turn no_header no_drive no_raw (no_end tt) z.0 z.1)
