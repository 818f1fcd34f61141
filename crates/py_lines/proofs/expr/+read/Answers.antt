use Rattle.std.proofs.Common.{rules, ◌≡◌, ◌≢◌, ◌+◌, ◌-◌, ℕ, suc, List, [], ◌∷◌, true, false, map, drop, length, sym, ap, ◌∙◌, subst, arith}
use Rattle.std.proofs.lemmas.List.{drop-map}
use Rattle.py_lines.specs.declared.meaning.Sense.{Sense}
use Rattle.py_lines.specs.Meaning.{Meaning, Open, Word}
use Rattle.py_lines.specs.Senses.{meaning_of}
use Rattle.py_lines.specs.Printing.{atom_token, operator_word}
use Rattle.py_tree.specs.declared.expr.Expr.{Operation}
use Rattle.py_tree.specs.ExprViews.{expr_of, exprs_of}
use Rattle.py_lines.specs.Finding.{begins_closed, Fronts, NoOperands, NoneFronts, Operands}
use Rattle.py_lines.proofs.Fronts.{no_atom_fronts, not_open, nothing_fronts, no_room, no_word, no_operator, no_operation, operand_step, operands_end, no_operands_at, no_operands_end, no_tokens, not_a_word, as_many, operation_read}
use Rattle.py_lines.proofs.Finds.{none_prints}
use Rattle.py_lines.proofs.expr.+read.Goals as goal
use Rattle.py_lines.proofs.expr.+read.Goals.{front_expr-in-Open, front_expr-in_default-matches}

pub front_expr-returns-in_default : goal.front_expr-returns-in_default
front_expr-returns-in_default t c =
    let empty : length c.args.tokens.now ≡ 0 = search rules in
    let none : map meaning_of c.args.tokens.now ≡ [] = no_tokens c.args.tokens.now empty in
    subst (NoneFronts c.args.room) (sym none) (nothing_fronts c.args.room)

pub front_expr-returns-in-None : goal.front_expr-returns-in-None
front_expr-returns-in-None t c =
    let is : c.args.tokens.now ≡ c.in-Some.first.now ∷ c.in-Some.behind.now = search rules in
    let none = none_prints atom_token _ _ c.in-None.is c.in_ok-atom.ensures in
    let shut : (us : List Meaning) → meaning_of c.in-Some.first.now ∷ map meaning_of c.in-Some.behind.now ≢ Open ∷ us =
    elim c.match-matches.branch [
      | front_expr-in-Open w ↦ λ us e. let clash : true ≡ false = sym w.matches-is ∙ c.if-matches.false in cc clash
      | front_expr-in_default-matches w ↦ λ us e. not_open c.in-Some.first.now w.in_default-matches.not-Open _ us e
    ] in
    subst (NoneFronts c.args.room) (sym (ap (map meaning_of) is)) (no_atom_fronts c.args.room (meaning_of c.in-Some.first.now) (map meaning_of c.in-Some.behind.now) shut none)

pub front_operands-returns-then-closes : goal.front_operands-returns-then-closes
front_operands-returns-then-closes t c =
    let rest : begins_closed (drop c.loop-at.at (map meaning_of c.args.tokens.now)) ≡ true = ap begins_closed (drop-map meaning_of c.loop-at.at c.args.tokens.now ∙ ap (map meaning_of) (sym c.from-rest.ensures)) ∙ sym c.closes.ensures ∙ c.if-closes.true in
    operands_end c.args.room (map meaning_of c.args.tokens.now) c.loop-at.at (exprs_of c.loop-at.operands) c.loop-at.invariant.tokens c.loop-at.invariant.low rest

pub front_operands-returns-in_default : goal.front_operands-returns-in_default
front_operands-returns-in_default t c =
    let open_rest : begins_closed (drop c.loop-at.at (map meaning_of c.args.tokens.now)) ≡ false = ap begins_closed (drop-map meaning_of c.loop-at.at c.args.tokens.now ∙ ap (map meaning_of) (sym c.from-rest.ensures)) ∙ sym c.closes.ensures ∙ c.if-closes.false in
    let none : NoneFronts c.args.room (map meaning_of (drop c.loop-at.at c.args.tokens.now)) = search rules in
    no_operands_at c.args.room (map meaning_of c.args.tokens.now) c.loop-at.at c.loop-at.invariant.behind
    (subst (NoneFronts c.args.room) (sym (drop-map meaning_of c.loop-at.at c.args.tokens.now)) none) open_rest

pub front_operands-loop-at-preserved : goal.front_operands-loop-at-preserved
front_operands-loop-at-preserved t c =
    let one : Fronts c.args.room (map meaning_of (drop c.loop-at.at c.args.tokens.now)) (expr_of c.in-Some.operand) c.in-Some.used = search rules in
    let here : Fronts c.args.room (drop c.loop-at.at (map meaning_of c.args.tokens.now)) (expr_of c.in-Some.operand) c.in-Some.used =
    subst (λ (ts : List Meaning). Fronts c.args.room ts (expr_of c.in-Some.operand) c.in-Some.used) (sym (drop-map meaning_of c.loop-at.at c.args.tokens.now)) one in
    let step = operand_step c.args.room (map meaning_of c.args.tokens.now) c.loop-at.at c.in-Some.used (exprs_of c.loop-at.operands) (expr_of c.in-Some.operand) (exprs_of c.push.new.self)
    c.in_ok-push.ensures.added c.loop-at.invariant.tokens c.loop-at.invariant.low c.loop-at.invariant.behind here in
    record {
      within = omega (arith, step.0, as_many c.args.tokens.now, c.loop-at.invariant.within);
      tokens = step.1;
      low = step.2;
      behind = step.3;
    }

pub front_operands-returns : goal.front_operands-returns
front_operands-returns t c =
    no_operands_end c.args.room (map meaning_of c.args.tokens.now) c.loop-at.at c.loop-at.invariant.behind (omega (arith, c.loop-at-test.false, as_many c.args.tokens.now))

pub front_operation-returns-then-room-eq0 : goal.front_operation-returns-then-room-eq0
front_operation-returns-then-room-eq0 t c =
    let none : c.args.room ≡ 0 = search rules in
    subst (λ (room : ℕ). NoneFronts room (Open ∷ map meaning_of c.args.tokens.now)) (sym none) (no_room (map meaning_of c.args.tokens.now))

pub front_operation-returns-in_default : goal.front_operation-returns-in_default
front_operation-returns-in_default t c =
    let empty : length c.args.tokens.now ≡ 0 = search rules in
    let none : map meaning_of c.args.tokens.now ≡ [] = no_tokens c.args.tokens.now empty in
    subst (λ (ts : List Meaning). NoneFronts c.args.room (Open ∷ ts)) (sym none) (no_word c.args.room [] (λ w us e. cc))

pub front_operation-returns-in_default-first : goal.front_operation-returns-in_default-first
front_operation-returns-in_default-first t c =
    let is : c.args.tokens.now ≡ c.in-Some.first.now ∷ c.in-Some.behind.now = search rules in
    subst (λ (l : List Sense). NoneFronts c.args.room (Open ∷ map meaning_of l)) (sym is)
    (no_word c.args.room _ (λ w us e. not_a_word c.in-Some.first.now c.in_default-first.not-Word w (cc e)))

pub front_operation-returns-in_default-operator_of : goal.front_operation-returns-in_default-operator_of
front_operation-returns-in_default-operator_of t c =
    let is : c.args.tokens.now ≡ c.in-Some.first.now ∷ c.in-Some.behind.now = search rules in
    let all : map meaning_of c.args.tokens.now ≡ Word c.in-Word.word.now ∷ map meaning_of c.in-Some.behind.now = ap (map meaning_of) is ∙ ap (λ (s : Sense). meaning_of s ∷ map meaning_of c.in-Some.behind.now) c.in-Word.is in
    subst (λ (ts : List Meaning). NoneFronts c.args.room (Open ∷ ts)) (sym all) (no_operator c.args.room c.in-Word.word.now _ c.in_default-operator_of.ensures)

pub front_operation-returns-in_default-2 : goal.front_operation-returns-in_default-2
front_operation-returns-in_default-2 t c =
    let is : c.args.tokens.now ≡ c.in-Some.first.now ∷ c.in-Some.behind.now = search rules in
    let all : map meaning_of c.args.tokens.now ≡ Word c.in-Word.word.now ∷ map meaning_of c.in-Some.behind.now = ap (map meaning_of) is ∙ ap (λ (s : Sense). meaning_of s ∷ map meaning_of c.in-Some.behind.now) c.in-Word.is in
    let some : c.args.room ≢ 0 = search rules in
    let room : suc (c.args.room - 1) ≡ c.args.room = omega (arith, some) in
    let none : NoOperands (c.args.room - 1) (map meaning_of c.in-Some.behind.now) = search rules in
    subst (λ (ts : List Meaning). NoneFronts c.args.room (Open ∷ ts)) (sym all)
    (subst (λ (n : ℕ). NoneFronts n (Open ∷ Word c.in-Word.word.now ∷ map meaning_of c.in-Some.behind.now)) room (no_operation (c.args.room - 1) c.in-Word.word.now _ none))

pub front_operation-returns : goal.front_operation-returns
front_operation-returns t c =
    let is : c.args.tokens.now ≡ c.in-Some.first.now ∷ c.in-Some.behind.now = search rules in
    let all : map meaning_of c.args.tokens.now ≡ Word c.in-Word.word.now ∷ map meaning_of c.in-Some.behind.now = ap (map meaning_of) is ∙ ap (λ (s : Sense). meaning_of s ∷ map meaning_of c.in-Some.behind.now) c.in-Word.is in
    let some : c.args.room ≢ 0 = search rules in
    let room : suc (c.args.room - 1) ≡ c.args.room = omega (arith, some) in
    let found : Operands (c.args.room - 1) (map meaning_of c.in-Some.behind.now) (exprs_of c.in-Some-2.operands) c.in-Some-2.used = search rules in
    let spelled : c.in-Word.word.now ≡ operator_word c.in-Some-operator_of.operator = search rules in
    subst (λ (ts : List Meaning). Fronts c.args.room (Open ∷ ts) (expr_of (Operation c.in-Some-operator_of.operator c.in-Some-2.operands)) (c.in-Some-2.used + 2)) (sym all)
    (subst (λ (n : ℕ). Fronts n (Open ∷ Word c.in-Word.word.now ∷ map meaning_of c.in-Some.behind.now) (expr_of (Operation c.in-Some-operator_of.operator c.in-Some-2.operands)) (c.in-Some-2.used + 2)) room
    (operation_read (c.args.room - 1) c.in-Some-operator_of.operator c.in-Some-2.operands c.in-Word.word.now _ c.in-Some-2.used spelled found))
