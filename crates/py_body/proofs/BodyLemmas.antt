-- What is emitted for a whole body, and the code that it becomes.
use Rattle.std.proofs.Common.{◌≡◌, ◌<◌, ◌≤◌, ◌+◌, ◌^◌, ℕ, zero, suc, List, [], ◌∷◌, ◌++◌, Some, refl, sym, ap, ◌∙◌, subst, length, arith}
use Rattle.std.specs.Prelude.{Option, None}
use Rattle.py_code.specs.declared.instruction.Instruction.TheVariants as op
use Rattle.py_code.specs.declared.literal.Literal.{None as NoneLiteral}
use Rattle.py_code.specs.declared.code.CodeObject.{CodeObject}
use Rattle.py_code.specs.Literals.{literals_of}
use Rattle.py_check.specs.declared.annotated.Annotated.{Annotated}
use Rattle.py_check.specs.Operands.{prefixes}
use Rattle.py_rows.specs.Signature.{kind_of}
use Rattle.py_tree.specs.declared.body.BodyKind.{BodyKind}
use Rattle.py_tree.specs.declared.body.BodyKind.TheVariants.{Function, Generator}
use Rattle.py_tree.specs.Tree.{Name, Form, Assign, If, IfElse, While, TryExcept, TryFinally, With, Suite, nothing, first}
use Rattle.py_tree.specs.Tree.{Clauses, no_more, clause, Tree, seen_as}
use Rattle.py_tree.specs.Binding.{bound_if, bound_in, bound_by, bound_under, locals_of}
use Rattle.py_laid.specs.Code.{Parts, LaidBody, IsLaid, entry, flags_of, parts_with}
use Rattle.py_body.specs.Codes.{Each}
use Rattle.py_tree.specs.Compilable.{IsCompilable, statements, statements_in, statements_under}
use Rattle.py_body.specs.Sizes.{counted, size_body, weights}
use Rattle.py_body.specs.Emitting.{Draft, blank, end_of, HasRoom, IsEmitted, IsMatched, SuitePlaced, EmitsBody, EmitsConst, EmitsSuite}
use Rattle.py_body.proofs.Binding.{suite_bound}
use Rattle.py_body.proofs.Places.{length-bound}
use Rattle.py_body.proofs.EmittingLemmas.{emits_as, emits_then, extends_refl}

-- ---- how many names statements bind

length-bound_if : (names : List Name) (target : Option Name) → length (bound_if names target) ≤ length names + 1
length-bound_if names None = omega arith
length-bound_if names (Some x) = length-bound names x

mutual
  length-bound_in : (f : Form) (names : List Name) → length (bound_in names f) ≤ length names + statements_in f
  length-bound_in (Assign x e) names = omega (arith, length-bound names x)
  length-bound_in (If a s) names = let inside = length-bound_by s names in omega (arith, inside)
  length-bound_in (IfElse a s t) names =
      let one = length-bound_by s names in
      let other = length-bound_by t (bound_by names s) in
      omega (arith, one, other)
  length-bound_in (While a s) names = let inside = length-bound_by s names in omega (arith, inside)
  length-bound_in (TryExcept s cs) names =
      let one = length-bound_by s names in
      let other = length-bound_under cs (bound_by names s) in
      omega (arith, one, other)
  length-bound_in (TryFinally s t) names =
      let one = length-bound_by s names in
      let other = length-bound_by t (bound_by names s) in
      omega (arith, one, other)
  length-bound_in (With a x s) names =
      let here = length-bound_if names x in
      let inside = length-bound_by s (bound_if names x) in
      omega (arith, here, inside)
  length-bound_in f names = omega arith

  -- a suite binds no more names than it has statements
  length-bound_by : (s : Suite) (names : List Name) → length (bound_by names s) ≤ length names + statements s
  length-bound_by nothing names = omega arith
  length-bound_by (first n f more) names =
      let here = length-bound_in f names in
      let rest = length-bound_by more (bound_in names f) in
      omega (arith, here, rest)

  length-bound_under : (cs : Clauses) (names : List Name) → length (bound_under names cs) ≤ length names + statements_under cs
  length-bound_under no_more names = omega arith
  length-bound_under (clause n c x s more) names =
      let here = length-bound_if names x in
      let inside = length-bound_by s (bound_if names x) in
      let rest = length-bound_under more (bound_by (bound_if names x) s) in
      omega (arith, here, inside, rest)

pub few_locals : (t : Tree) (vars : List Name) → IsCompilable t → vars ≡ locals_of t → length vars ≤ 2097152
few_locals t vars compilable is = omega (arith, ap (λ (names : List Name). length names) is, length-bound_by t.suite t.params, compilable.few, compilable.short)

-- ---- all of a body

-- the statements, and the return of None behind them
pub body_emits : {a b c : Draft} (t : Tree) → EmitsSuite a.labels a b (entry t.kind) t.suite → EmitsConst b c (entry t.kind) t.line op.ReturnConst NoneLiteral → EmitsBody a c t
body_emits t suite returns = emits_as (emits_then suite returns) (λ w. refl) (λ room whole same (ends, _, _, laid, stands) placed. (ends, laid tt placed, stands))

-- nothing matches
blank_matched : (vars : List Name) (labels others : ℕ) → IsMatched (blank vars labels others)
blank_matched vars labels others = record {
  located = refl;
  noted = refl;
  spelled = record { few = λ at low. none at low; ends = refl };
  no_code = refl;
  room = λ at kinds blocks here. absurd (cc);
  low = omega arith;
}
  where
    none : (at : ℕ) → at ≤ 0 → prefixes [] at ≤ 3
    none zero low = omega arith
    none (suc at) low = absurd (omega (arith, low))

-- what fits the bytes of labels fits 32 bits
short_enough : (labels n : ℕ) → labels ≤ 3 → n < 256 ^ suc labels → n < 2 ^ 32
short_enough zero n low small = omega (arith, small)
short_enough (suc zero) n low small = omega (arith, small)
short_enough (suc (suc zero)) n low small = omega (arith, small)
short_enough (suc (suc (suc zero))) n low small = omega (arith, small)
short_enough (suc (suc (suc (suc labels)))) n low small = absurd (omega (arith, low))

-- where the widths serve, all of a body is emitted
pub body_emitted : (new : Draft) (t : Tree) (vars : List Name) (labels others : ℕ) → vars ≡ locals_of t → labels ≤ 3 → size_body (weights labels others) t.suite < 256 ^ suc labels
    → size_body counted t.suite ≤ 256 ^ suc others → length vars ≤ 256 ^ suc others → EmitsBody (blank vars labels others) new t → IsEmitted new t
body_emitted new t vars labels others is low room used few emits =
    let jump : 256 ^ suc new.labels ≡ 256 ^ suc labels = ap (λ (n : ℕ). 256 ^ suc n) emits.labels in
    let index : 256 ^ suc new.others ≡ 256 ^ suc others = ap (λ (n : ℕ). 256 ^ suc n) emits.others in
    let small : end_of new < 256 ^ suc labels = omega (arith, emits.long, room) in
    let vars_are : new.parts.vars ≡ locals_of t = emits.grows.vars ∙ is in
    let has_room : HasRoom new = record {
      low = omega (arith, emits.labels, low);
      units = omega (arith, small, jump);
      constants = omega (arith, emits.few_constants, used, index);
      names = omega (arith, emits.few_names, used, index);
      vars = omega (arith, ap (λ (names : List Name). length names) emits.grows.vars, few, index);
    } in
    let placed : SuitePlaced new.parts.vars t.suite = subst (λ (names : List Name). SuitePlaced names t.suite) (sym vars_are) (suite_bound t.suite t.params) in
    record {
      vars = vars_are;
      laid = emits.laid (blank_matched vars labels others) has_room new.parts (extends_refl new.parts) placed;
      short = short_enough labels (end_of new) low small;
      matched = emits.matched (blank_matched vars labels others);
    }

-- ---- the code that it becomes

-- a code put together from what is emitted has its parts
pub same_parts : (d : Draft) (code : Annotated) (object : CodeObject) (t : Tree) → code.code.code ≡ object → code.notes ≡ d.parts.notes → d.parts.vars ≡ locals_of t
    → object.instructions.items ≡ d.parts.units → object.locations.items ≡ d.parts.locations → literals_of object.constants ≡ d.parts.constants → parts_with d.parts.names (locals_of t) code ≡ d.parts
same_parts d code object t same notes vars same_units same_locations same_constants =
    let units : code.code.code.instructions.items ≡ d.parts.units = ap (λ (o : CodeObject). o.instructions.items) same ∙ same_units in
    let locations : code.code.code.locations.items ≡ d.parts.locations = ap (λ (o : CodeObject). o.locations.items) same ∙ same_locations in
    let constants : literals_of code.code.code.constants ≡ d.parts.constants = ap (λ (o : CodeObject). literals_of o.constants) same ∙ same_constants in
    λ k. record { units = units k; locations = locations k; notes = notes k; constants = constants k; names = d.parts.names; vars = sym vars k }

-- the flags of a kind say it
flags_kind : (kind : BodyKind) → kind_of (flags_of kind) ≡ seen_as kind
flags_kind Function = refl
flags_kind Generator = refl

-- it is laid
pub laid_code : (d : Draft) (code : Annotated) (t : Tree) → IsEmitted d t → parts_with d.parts.names (locals_of t) code ≡ d.parts → code.code.code.flags ≡ flags_of t.kind → code.code.code.arg_count ≡ length t.params
    → length code.code.code.varnames.items ≡ length (locals_of t) → length code.code.code.names.items ≡ length d.parts.names → IsLaid d.parts.names code t
laid_code d code t emitted same flags arity locals globals = record {
  kind = ap kind_of flags ∙ flags_kind t.kind;
  arity = arity;
  locals = locals;
  globals = globals;
  laid = subst (λ (p : Parts). LaidBody p t (length p.units)) (sym same) emitted.laid;
  short = subst (λ (p : Parts). length p.units < 2 ^ 32) (sym same) emitted.short;
  located = subst (λ (p : Parts). length p.locations ≡ length p.units) (sym same) emitted.matched.located;
  noted = subst (λ (p : Parts). length p.notes ≡ length p.units) (sym same) emitted.matched.noted;
}

-- and it matches, as what was emitted does
pub matched_code : (d : Draft) (code : Annotated) (t : Tree) → IsEmitted d t → parts_with d.parts.names (locals_of t) code ≡ d.parts → code.code.code.max_stackdepth ≡ d.deepest
    → IsMatched (record { parts = parts_with d.parts.names (locals_of t) code; labels = d.labels; others = d.others; deepest = code.code.code.max_stackdepth })
matched_code d code t emitted same depth = subst IsMatched (λ k. record { parts = sym same k; labels = d.labels; others = d.others; deepest = sym depth k }) emitted.matched

-- one code is each of them
pub each_one : (P : Annotated → Type 0) (codes none : List Annotated) (code : Annotated) → none ≡ [] → codes ≡ none ++ code ∷ [] → P code → Each P codes
each_one P codes none code empty is holds = subst (Each P) (sym (is ∙ ap (λ (l : List Annotated). l ++ code ∷ []) empty)) (holds, tt)
