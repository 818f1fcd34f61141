-- What instructions ask of the operands that they take is there, and wants what the table of effects says.
use Rattle.std.proofs.Common.{◌≡◌, ◌∙◌, ◌<◌, ℕ, zero, suc, List, [], ◌∷◌, Option, None, Some, Bool, true, false, ◌&&◌, cond, ◌⊎◌, inl, inr, ⊎_elim, subst, refl, sym, ap, length, arith}
use Rattle.std.specs.Prelude.{◌%◌, slice_get, nat_lt, option_map, chars}
use Rattle.std.proofs.lemmas.Bool.{and_from, both_ways, cases_lt, le-ltb}
use Rattle.std.proofs.lemmas.Option.{slice_get_within}
use Rattle.py_code.specs.declared.unit.CodeUnit.{CodeUnit}
use Rattle.py_code.specs.declared.instruction.Instruction.{Instruction}
use Rattle.py_code.specs.declared.instruction.Instruction.TheVariants.{LoadGlobal, BinaryOperation, CompareOperation, TestOperation, CallFunctionPositional, PrintExpr}
use Rattle.py_code.specs.declared.operator.TestOperator.{TestOperator}
use Rattle.py_code.specs.declared.operator.TestOperator.TheVariants as test
use Rattle.py_code.specs.declared.operator.BinaryOperator.{BinaryOperator}
use Rattle.py_code.specs.declared.operator.ComparisonOperator.{ComparisonOperator}
use Rattle.py_rows.specs.Asked.{name_of_global, asked_operator, asked_comparison, name_in, on_none, on_one, on_two, tests, asked}
use Rattle.py_code.specs.declared.names.NameId.{NameId}
use Rattle.py_code.specs.declared.operator.RaiseKind.{RaiseKind}
use Rattle.py_code.specs.Operators.{binary_operators, comparison_operators, test_operators, raise_kinds, is_asked, is_compared}
use Rattle.py_code.specs.Units.{with_byte}
use Rattle.py_objects.specs.declared.request.Request.{Request}
use Rattle.py_objects.specs.declared.payload.Payload.{Payload}
use Rattle.py_objects.specs.Objects.{Obj, Name, AllBelow, numbers, request_numbers}
use Rattle.py_objects.specs.Callees.{send_request, throw_request, close_request, builtin_of, own_request, or_call, call_request}
use Rattle.py_code.specs.declared.literal.BuiltinFn.{BuiltinFn}
use Rattle.py_code.specs.declared.literal.BuiltinFn.TheVariants as builtin
use Rattle.py_check.specs.declared.note.Kind.{Kind}
use Rattle.py_check.specs.declared.note.Kind.TheVariants as kind
use Rattle.py_check.specs.declared.annotated.Annotated.{Annotated}
use Rattle.py_check.specs.Effects.{Effect, Moves, AsksOnce, Takes, Other, has_operand}
use Rattle.py_rows.specs.Table.{row_effect}
use Rattle.py_check.specs.Running.{is_tested, asks_operator, asks_comparison, runs}
use Rattle.py_check.specs.Sheet.{Sheet, sheet_of}
use Rattle.py_rows.specs.States.{Setting}
use Rattle.py_rows.proofs.BelowLemmas.{joined_below}
use Rattle.py_rows.specs.Answers.{wanted}
use Rattle.py_rows.specs.Laws.{setting_of}
use Rattle.py_rows.specs.Suits.{Suits}
use Rattle.py_rows.specs.Questions.{raise_of, may_ask, UnitAsks}
use Rattle.py_rows.specs.Fitting.{wanted_of}
use Rattle.py_rows.specs.Sound.{ArePlaces, AreNames}

-- a request is there that the instruction may ask, and wants what is pushed
abbrev pub Wants : Instruction → Option Kind → Option Request → Type 0
Wants op pushes None = ⊥
Wants op pushes (Some r) = Suits (wanted r) (wanted_of pushes) × ((arg : ℕ) → may_ask op arg r ≡ true)

abbrev pub AsksAs : Instruction → Effect → (List Obj → Option Request) → Type 0
AsksAs op (Moves n places) f = Unit {0}
AsksAs op (AsksOnce taken pushes) f = (vs : List Obj) → length vs ≡ length taken → Wants op pushes (f vs)
AsksAs op (Takes n pushes) f = Unit {0}
AsksAs op Other f = Unit {0}

-- whether an instruction runs so far, and what its operand names is there
abbrev pub is_ready : Sheet → Instruction → ℕ → Bool
is_ready sheet op i = runs sheet op i && has_operand sheet op i

not_both : (b c : Bool) → b ≡ false → (b && c) ≡ false
not_both false c is = refl
not_both true c is = cc

-- a name of globals that isn't there is out of range, or there is a gap
module _ (Gap : Type 0) (setting : Setting) (sheet : Sheet) (places : (i : ℕ) → name_of_global setting i ≡ None → (nat_lt i sheet.names ≡ false → Gap) → Gap) where
  -- a request wants what is pushed, names the globals and the operands at most, and is one that the instruction may ask; where there is
  -- none, there is a gap
  abbrev pub Asks : Instruction → Option Kind → List Obj → Option Request → Type 0
  Asks op pushes vs None = Gap
  Asks op pushes vs (Some r) = Suits (wanted r) (wanted_of pushes) × ((n : ℕ) → setting.globals.number < n → AllBelow n (numbers vs) → AllBelow n (request_numbers r)) × ((arg : ℕ) → may_ask op arg r ≡ true)

  -- the same of an effect, where there is a gap only by a wrong number of operands or an operand that is out of range
  abbrev pub AsksAny : Instruction → Bool → Effect → (List Obj → Option Request) → Type 0
  AsksAny op there (Moves n places) f = Unit {0}
  AsksAny op there (AsksOnce taken pushes) f = (vs : List Obj) → ((length vs ≡ length taken → ⊥) ⊎ (there ≡ false) → Gap) → Asks op pushes vs (f vs)
  AsksAny op there (Takes n pushes) f = Unit {0}
  AsksAny op there Other f = Unit {0}

  -- what an operand speaks of: a name, an operator, a comparison
  by_name : (op : Instruction) (pushes : Option Kind) (vs : List Obj) (i : ℕ) (f : Name → Request) → (nat_lt i sheet.names ≡ false → Gap) → ((x : Name) → Asks op pushes vs (Some (f x))) → Asks op pushes vs (option_map f (name_of_global setting i))
  by_name op pushes vs i f gap asks = by_cases (name_of_global setting i) refl
    where
      by_cases : (name : Option Name) → name_of_global setting i ≡ name → Asks op pushes vs (option_map f name)
      by_cases None is = places i is gap
      by_cases (Some x) is = asks x

  sieved : {A : Type 0} (op : Instruction) (pushes : Option Kind) (vs : List Obj) (b : Bool) (x : A) (f : A → Request) → (b ≡ false → Gap) → (b ≡ true → Asks op pushes vs (Some (f x))) → Asks op pushes vs (option_map f (cond b (Some x) None))
  sieved op pushes vs true x f gap asks = asks refl
  sieved op pushes vs false x f gap asks = gap refl

  by_operator : (op : Instruction) (pushes : Option Kind) (vs : List Obj) (o : Option BinaryOperator) (f : BinaryOperator → Request) → (asks_operator o ≡ false → Gap) → ((x : BinaryOperator) → is_asked x ≡ true → Asks op pushes vs (Some (f x)))
      → Asks op pushes vs (option_map f (asked_operator o))
  by_operator op pushes vs None f gap asks = gap refl
  by_operator op pushes vs (Some x) f gap asks = sieved op pushes vs (is_asked x) x f gap (asks x)

  by_comparison : (op : Instruction) (pushes : Option Kind) (vs : List Obj) (o : Option ComparisonOperator) (f : ComparisonOperator → Request) → (asks_comparison o ≡ false → Gap) → ((x : ComparisonOperator) → is_compared x ≡ true → Asks op pushes vs (Some (f x)))
      → Asks op pushes vs (option_map f (asked_comparison o))
  by_comparison op pushes vs None f gap asks = gap refl
  by_comparison op pushes vs (Some x) f gap asks = sieved op pushes vs (is_compared x) x f gap (asks x)

  none_asked : (op : Instruction) (pushes : Option Kind) (r : Option Request) (vs : List Obj) → ((length vs ≡ 0 → ⊥) → Gap) → Asks op pushes [] r → Asks op pushes vs (on_none r vs)
  none_asked op pushes r [] gap asks = asks
  none_asked op pushes r (v ∷ vs) gap asks = gap (λ count. absurd (omega (arith, count)))

  one_asked : (op : Instruction) (pushes : Option Kind) (f : Obj → Option Request) (vs : List Obj) → ((length vs ≡ 1 → ⊥) → Gap) → ((a : Obj) → Asks op pushes (a ∷ []) (f a)) → Asks op pushes vs (on_one f vs)
  one_asked op pushes f [] gap asks = gap (λ count. absurd (omega (arith, count)))
  one_asked op pushes f (a ∷ []) gap asks = asks a
  one_asked op pushes f (a ∷ b ∷ vs) gap asks = gap (λ count. absurd (omega (arith, count)))

  two_asked : (op : Instruction) (pushes : Option Kind) (f : Obj → Obj → Option Request) (vs : List Obj) → ((length vs ≡ 2 → ⊥) → Gap) → ((a b : Obj) → Asks op pushes (b ∷ a ∷ []) (f a b)) → Asks op pushes vs (on_two f vs)
  two_asked op pushes f [] gap asks = gap (λ count. absurd (omega (arith, count)))
  two_asked op pushes f (b ∷ []) gap asks = gap (λ count. absurd (omega (arith, count)))
  two_asked op pushes f (b ∷ a ∷ []) gap asks = asks a b
  two_asked op pushes f (b ∷ a ∷ v ∷ vs) gap asks = gap (λ count. absurd (omega (arith, count)))

  tested : (op : Option TestOperator) (a b : Obj) → (is_tested op ≡ false → Gap) → Asks TestOperation (Some kind.Any) (b ∷ a ∷ []) (tests op a b)
  tested (Some test.ExceptionMatch) a b gap = (λ objects v is. tt, λ n there low. (low.1.0, (low.0, tt)), λ arg. refl)
  tested _ a b gap = gap refl

  pub asked_as : (op : Instruction) (i : ℕ) → AsksAny op (is_ready sheet op i) (row_effect op i) (asked setting op i)
  asked_as LoadGlobal i = λ vs gap. none_asked LoadGlobal (Some kind.Any) _ vs (λ no. gap (inl no)) (by_name LoadGlobal (Some kind.Any) [] i _ (λ no. gap (inr no)) (λ x. (λ objects v is. tt, λ n there low. (there, tt), λ arg. refl)))
  asked_as BinaryOperation i =
      λ vs gap. two_asked BinaryOperation (Some kind.Any) _ vs (λ no. gap (inl no)) (λ a b. by_operator BinaryOperation (Some kind.Any) (b ∷ a ∷ []) (slice_get binary_operators i) _ (λ no. gap (inr (not_both _ _ no))) (λ x runs. (λ objects v is. tt, λ n there low. (low.1.0, (low.0, tt)), λ arg. runs)))
  asked_as CompareOperation i =
      λ vs gap. two_asked CompareOperation (Some kind.Any) _ vs (λ no. gap (inl no)) (λ a b. by_comparison CompareOperation (Some kind.Any) (b ∷ a ∷ []) (slice_get comparison_operators i) _ (λ no. gap (inr (not_both _ _ no))) (λ x runs. (λ objects v is. tt, λ n there low. (low.1.0, (low.0, tt)), λ arg. runs)))
  asked_as TestOperation i = λ vs gap. two_asked TestOperation (Some kind.Any) _ vs (λ no. gap (inl no)) (λ a b. tested (slice_get test_operators i) a b (λ no. gap (inr (not_both _ _ no))))
  asked_as PrintExpr i = λ vs gap. one_asked PrintExpr None _ vs (λ no. gap (inl no)) (λ v. (λ objects v is. tt, λ n there low. low, λ arg. refl))
  asked_as _ i = tt

-- a call may ask whatever it comes to, and that names the callee and the arguments at most
pub record IsCall (f : Obj) (vs : List Obj) (r : Request) : Type 0 where
  pub asked : (arg : ℕ) → may_ask CallFunctionPositional arg r ≡ true
  pub named : (n : ℕ) → AllBelow n (numbers (f ∷ vs)) → AllBelow n (request_numbers r)

module _ (f : Obj) where
  plain_call : (vs : List Obj) → IsCall f vs (or_call f vs None)
  plain_call vs = record { asked = λ arg. refl; named = λ n low. (low.0, joined_below n (numbers vs) [] low.1 tt) }

  sends : (vs : List Obj) → IsCall f vs (or_call f vs (send_request vs))
  sends (g ∷ v ∷ []) = record { asked = λ arg. refl; named = λ n low. low.1 }
  sends vs = plain_call vs

  throws : (vs : List Obj) → IsCall f vs (or_call f vs (throw_request vs))
  throws (g ∷ c ∷ []) = record { asked = λ arg. refl; named = λ n low. low.1 }
  throws (g ∷ c ∷ v ∷ []) = record { asked = λ arg. refl; named = λ n low. low.1 }
  throws vs = plain_call vs

  closes : (vs : List Obj) → IsCall f vs (or_call f vs (close_request vs))
  closes (g ∷ []) = record { asked = λ arg. refl; named = λ n low. low.1 }
  closes vs = plain_call vs

  pub is_call : (b : Option BuiltinFn) (vs : List Obj) → IsCall f vs (or_call f vs (own_request b vs))
  is_call None vs = plain_call vs
  is_call (Some builtin.Send) vs = sends vs
  is_call (Some builtin.Throw) vs = throws vs
  is_call (Some builtin.Close) vs = closes vs
  is_call (Some _) vs = plain_call vs

pub call_asked : (p : Payload) (f : Obj) (vs : List Obj) (arg : ℕ) → may_ask CallFunctionPositional arg (call_request p f vs) ≡ true
call_asked p f vs arg = (is_call f (builtin_of p) vs).asked arg

pub call_below : (n : ℕ) (p : Payload) (f : Obj) (vs : List Obj) → AllBelow n (numbers (f ∷ vs)) → AllBelow n (request_numbers (call_request p f vs))
call_below n p f vs low = (is_call f (builtin_of p) vs).named n low

-- what an instruction may ask, its unit may
pub unit_asks : (units : List CodeUnit) (at : ℕ) (unit : CodeUnit) → slice_get units at ≡ Some unit → (op : Instruction) → unit.op ≡ op → (r : Request) → may_ask op unit.arg r ≡ true → UnitAsks (slice_get units at) r
unit_asks units at unit is op is_op r asks = subst (λ (o : Option CodeUnit). UnitAsks o r) (sym is) (subst (λ (o : Instruction). may_ask o unit.arg r ≡ true) (sym is_op) asks)

-- prefixes change nothing of the kind of a raise
pub same_raise : (state arg : ℕ) → raise_of (with_byte state arg) ≡ raise_of arg
same_raise state arg = let low : with_byte state arg % 256 ≡ arg % 256 = omega arith in ap (slice_get raise_kinds) low

-- so a raise is of the kind that its operand says
pub raise_is : (state arg i : ℕ) (k : RaiseKind) → with_byte state arg ≡ i → slice_get raise_kinds i ≡ Some k → raise_of arg ≡ Some k
raise_is state arg i k operand here =
    let few : i < 3 = slice_get_within raise_kinds i k here in
    let whole : i % 256 ≡ i = omega (arith, few) in
    sym (same_raise state arg) ∙ ap raise_of operand ∙ ap (slice_get raise_kinds) whole ∙ here

pub got_there : {A : Type 0} (xs : List A) (i : ℕ) → i < length xs → (x : A) × (slice_get xs i ≡ Some x)
got_there [] i below = absurd (omega arith)
got_there (x ∷ xs) zero below = (x, refl)
got_there (x ∷ xs) (suc i) below = got_there xs i (omega arith)

-- a name in range is there
pub named : (names : List (List ℕ)) (ids : List NameId) (i : ℕ) → ArePlaces names ids → i < length ids → (x : Name) × (name_in names (slice_get ids i) ≡ Some x)
named names ids i places below =
    let (id, is) = got_there ids i below in
    let (text, there) = got_there names id.index (places i id is) in
    (chars text, ap (name_in names) is ∙ ap (option_map chars) there)

pub asked_there : (names : List (List ℕ)) (globals : Obj) (closure : List Obj) (code : Annotated) → AreNames names code.code → (op : Instruction) (i : ℕ) → runs (sheet_of code) op i ≡ true → has_operand (sheet_of code) op i ≡ true
    → AsksAs op (row_effect op i) (asked (setting_of names globals closure code) op i)
asked_there names globals closure code are op i run there =
    by_effect (row_effect op i) (asked setting op i) (is_ready (sheet_of code) op i) (and_from (runs (sheet_of code) op i) (has_operand (sheet_of code) op i) run there) (asked_as ⊥ setting (sheet_of code) places op i)
  where
    setting : Setting
    setting = setting_of names globals closure code

    -- a name that isn't there is out of range
    places : (j : ℕ) → name_of_global setting j ≡ None → (nat_lt j (length code.code.code.names.items) ≡ false → ⊥) → ⊥
    places j none gap = ⊎_elim (λ below. let (x, is) = named names code.code.code.names.items j are.globals below in cc) (λ over. gap (le-ltb j (length code.code.code.names.items) over)) (cases_lt j (length code.code.code.names.items))

    wants : (pushes : Option Kind) (vs : List Obj) (r : Option Request) → Asks ⊥ setting (sheet_of code) places op pushes vs r → Wants op pushes r
    wants pushes vs None asks = absurd asks
    wants pushes vs (Some r) asks = (asks.0, asks.2)

    by_effect : (e : Effect) (f : List Obj → Option Request) (b : Bool) → b ≡ true → AsksAny ⊥ setting (sheet_of code) places op b e f → AsksAs op e f
    by_effect (Moves n ps) f b is asks = tt
    by_effect (AsksOnce taken pushes) f b is asks = λ vs count. wants pushes vs (f vs) (asks vs (λ m. ⊎_elim (λ no. no count) (λ no. both_ways b no is) m))
    by_effect (Takes n pushes) f b is asks = tt
    by_effect Other f b is asks = tt
