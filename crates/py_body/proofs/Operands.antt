-- What is emitted for one instruction, by its operand.
use Rattle.std.proofs.Common.{◌≡◌, ◌<◌, ◌≤◌, ◌%◌, ◌^◌, ℕ, zero, suc, List, [], ◌∷◌, ◌++◌, Bool, true, false, Some, None, refl, sym, ap, ◌∙◌, subst, length, arith, length-append}
use Rattle.std.specs.Prelude.{bytes_eq, slice_get}
use Rattle.std.specs.List.{list_any}
use Rattle.std.proofs.lemmas.Bool.{and_from}
use Rattle.std.proofs.lemmas.List.Folds.{list_all-append}
use Rattle.py_code.specs.declared.instruction.Instruction.{Instruction}
use Rattle.py_code.specs.declared.instruction.Instruction.TheVariants.{LoadFast, LoadGlobal}
use Rattle.py_code.specs.declared.literal.Literal.{Literal}
use Rattle.py_code.specs.Names.{interned, place_of}
use Rattle.py_code.specs.Units.{is_prefix}
use Rattle.py_check.specs.Constants.{is_earlier}
use Rattle.py_tree.specs.declared.expr.Atom.TheVariants as atom
use Rattle.py_tree.specs.Tree.{Name}
use Rattle.py_tree.specs.Binding.{bound}
use Rattle.py_laid.specs.Fits.{Continues}
use Rattle.py_laid.specs.Code.{Scope, place, Stands, LaidName}
use Rattle.py_laid.proofs.BindingLemmas.{Continues-bound, Continues-refl}
use Rattle.py_laid.proofs.NamingLemmas.{slice_get-front}
use Rattle.py_body.specs.Emitting.{Draft, end_of, put, spelled, with_constant, with_global, HasRoom, IsPlaced, EmitsPlain, EmitsJump, EmitsConst, EmitsLocal, EmitsAtom}
use Rattle.py_body.proofs.ListLemmas.{last_stays}
use Rattle.py_body.proofs.Places.{any-place, none-place, place_absent, place_found, length-bound, placed_bound, slice_get-place}
use Rattle.py_body.proofs.EmittingLemmas.{HaveNoCode, emits_as, put_emits}

-- ---- operands of a byte, and labels

pub plain_emits : (old new : Draft) (scope : Scope) (line : ℕ) (op : Instruction) (arg : ℕ) → is_prefix op ≡ false → arg < 256 → scope.depth ≤ 65535 → new ≡ put 0 op arg scope line old
    → EmitsPlain old new scope line op arg
plain_emits old new scope line op arg plain small shallow is =
    subst (λ (d : Draft). EmitsPlain old d scope line op arg) (sym is)
    (emits_as
    (put_emits old old.parts.constants old.parts.names (λ w. w.plain) 0 op arg scope line (omega arith) plain shallow refl (Continues-refl old.parts.constants) (omega arith) (λ none. none)
    (Continues-refl old.parts.names) (omega arith))
    (λ w. refl) (λ room whole same (constants, names, vars, stands). stands (omega (arith, small))))

pub jump_emits : (old new : Draft) (scope : Scope) (line : ℕ) (op : Instruction) (label : ℕ) → is_prefix op ≡ false → old.labels ≤ 3 → scope.depth ≤ 65535
    → new ≡ put old.labels op label scope line old
    → EmitsJump old.labels old new scope line op label
jump_emits old new scope line op label plain low shallow is =
    subst (λ (d : Draft). EmitsJump old.labels old d scope line op label) (sym is)
    (emits_as
    (put_emits old old.parts.constants old.parts.names (λ w. w.jump) old.labels op label scope line low plain shallow refl (Continues-refl old.parts.constants) (omega arith) (λ none. none)
    (Continues-refl old.parts.names) (omega arith))
    (λ w. refl) (λ room whole same (constants, names, vars, stands). stands))

-- ---- constants

no_code_more : (literals : List Literal) (literal : Literal) → is_earlier 0 literal ≡ true → HaveNoCode literals → HaveNoCode (literals ++ literal ∷ [])
no_code_more literals literal plain none = list_all-append (is_earlier 0) literals (literal ∷ []) ∙ and_from _ _ none (rw plain refl)

-- a place below so many bytes' room, cut to 32 bits, is itself and fits
place_fits : (place long others : ℕ) → others ≤ 3 → place < long → long ≤ 256 ^ suc others → (place % 2 ^ 32 ≡ place) × (place % 2 ^ 32 < 256 ^ suc others)
place_fits place long zero low below room = (omega (arith, below, room), omega (arith, below, room))
place_fits place long (suc zero) low below room = (omega (arith, below, room), omega (arith, below, room))
place_fits place long (suc (suc zero)) low below room = (omega (arith, below, room), omega (arith, below, room))
place_fits place long (suc (suc (suc zero))) low below room = (omega (arith, below, room), omega (arith, below, room))
place_fits place long (suc (suc (suc (suc others)))) low below room = absurd (omega (arith, low))

pub const_emits : (old new : Draft) (scope : Scope) (line : ℕ) (op : Instruction) (literal : Literal) (arg : ℕ) → is_prefix op ≡ false → is_earlier 0 literal ≡ true → old.others ≤ 3 → scope.depth ≤ 65535
    → arg ≡ length old.parts.constants % 2 ^ 32 → new ≡ put old.others op arg scope line (with_constant literal old) → EmitsConst old new scope line op literal
const_emits old new scope line op literal arg plain no_code low shallow place is =
    let k : ℕ = length old.parts.constants in
    subst (λ (d : Draft). EmitsConst old d scope line op literal) (sym is)
    (emits_as
    (put_emits old (old.parts.constants ++ literal ∷ []) old.parts.names (λ w. w.index) old.others op arg scope line low plain shallow refl
    (literal ∷ [], refl) (omega (arith, length-append old.parts.constants (literal ∷ []))) (no_code_more old.parts.constants literal no_code)
    (Continues-refl old.parts.names) (omega arith))
    (λ w. refl)
    (λ room whole same (constants, names, vars, stands).
    let fits = place_fits k (length (old.parts.constants ++ literal ∷ [])) old.others low (omega (arith, length-append old.parts.constants (literal ∷ []))) room.constants in
    let small : arg < 256 ^ suc old.others = subst (λ (n : ℕ). n < 256 ^ suc old.others) (sym place) fits.1 in (
      k,
      subst (λ (n : ℕ). Stands whole scope line (end_of old) op n (end_of (put old.others op arg scope line (with_constant literal old)))) (place ∙ fits.0) (stands small),
      last_stays
          old.parts.constants literal whole.constants constants,
    )))

-- ---- locals

-- the place of a local fits its bytes
local_fits : (d : Draft) (x : Name) (arg : ℕ) → d.others ≤ 3 → arg ≡ place d.parts.vars x % 2 ^ 32 → HasRoom d → IsPlaced d.parts.vars x → (arg ≡ place d.parts.vars x) × (arg < 256 ^ suc d.others)
local_fits d x arg low is room placed =
    let fits = place_fits (place d.parts.vars x) (length d.parts.vars) d.others low placed room.vars in
    (is ∙ fits.0, subst (λ (n : ℕ). n < 256 ^ suc d.others) (sym is) fits.1)

pub local_emits : (old new : Draft) (scope : Scope) (line : ℕ) (op : Instruction) (x : Name) (arg : ℕ) → is_prefix op ≡ false → old.others ≤ 3 → scope.depth ≤ 65535
    → arg ≡ place old.parts.vars x % 2 ^ 32 → new ≡ put old.others op arg scope line old → EmitsLocal old new scope line op x
local_emits old new scope line op x arg plain low shallow at is =
    subst (λ (d : Draft). EmitsLocal old d scope line op x) (sym is)
    (emits_as
    (put_emits old old.parts.constants old.parts.names (λ w. w.index) old.others op arg scope line low plain shallow refl (Continues-refl old.parts.constants) (omega arith) (λ none. none)
    (Continues-refl old.parts.names) (omega arith))
    (λ w. refl)
    (λ room whole same (constants, names, vars, stands) placed.
    let here : IsPlaced old.parts.vars x = subst (λ (names : List Name). IsPlaced names x) vars placed in
    let fits = local_fits old x arg low at (record {
      low = room.low;
      units = omega (arith, room.units, length-append old.parts.units (spelled old.others op arg));
      constants = room.constants;
      names = room.names;
      vars = room.vars;
    }) here in (
      subst (λ (n : ℕ). Stands whole scope line (end_of old) op n (end_of (put old.others op arg scope line old))) (fits.0 ∙ ap (λ (names : List Name). place names x) (sym vars)) (stands fits.1),
      placed,
    )))

-- ---- loads of names

pub load_local_emits : (old new : Draft) (scope : Scope) (line : ℕ) (x : Name) (at arg : ℕ) → old.others ≤ 3 → scope.depth ≤ 65535 → place_of old.parts.vars x ≡ Some at → at < length old.parts.vars
    → arg ≡ at % 2 ^ 32 → new ≡ put old.others LoadFast arg scope line old → EmitsAtom old new scope line (atom.Name x)
load_local_emits old new scope line x at arg low shallow found within cut is =
    let at_place : at ≡ place old.parts.vars x = place_found old.parts.vars x at found in
    let placed : IsPlaced old.parts.vars x = subst (λ (n : ℕ). n < length old.parts.vars) at_place within in
    let here : list_any (bytes_eq x) old.parts.vars ≡ true = any-place old.parts.vars x placed in
    emits_as (local_emits old new scope line LoadFast x arg refl low shallow (cut ∙ ap (λ (n : ℕ). n % 2 ^ 32) at_place) is) (λ w. refl)
    (λ room whole same stands.
    subst (λ (b : Bool). LaidName whole b scope line x (end_of old) (end_of new)) (sym (ap (λ (names : List Name). list_any (bytes_eq x) names) same ∙ here))
    (stands (subst (λ (names : List Name). IsPlaced names x) (sym same) placed)))

-- a name stays at its place as the list goes on
slice_get-later : (names more : List Name) (x : Name) → Continues names more → place names x < length names → slice_get more (place names x) ≡ Some x
slice_get-later names more x (rest, is) low = rw is (slice_get-front names rest (place names x) low ∙ slice_get-place names x low)

pub load_global_emits : (old mid new : Draft) (scope : Scope) (line : ℕ) (x : Name) (at arg : ℕ) → old.others ≤ 3 → scope.depth ≤ 65535 → place_of old.parts.vars x ≡ None
    → place_of (interned old.parts.names x) x ≡ Some at → arg ≡ at % 2 ^ 32 → mid ≡ with_global x old → new ≡ put old.others LoadGlobal arg scope line mid → EmitsAtom old new scope line (atom.Name x)
load_global_emits old mid new scope line x at arg low shallow none found cut grown_is is =
    let names : List Name = bound old.parts.names x in
    let at_place : at ≡ place names x = place_found names x at found in
    let absent : list_any (bytes_eq x) old.parts.vars ≡ false = none-place old.parts.vars x (place_absent old.parts.vars x none) in
    subst (λ (d : Draft). EmitsAtom old d scope line (atom.Name x)) (sym (is ∙ ap (λ (d : Draft). put old.others LoadGlobal arg scope line d) grown_is))
    (emits_as
    (put_emits old old.parts.constants names (λ w. w.index) old.others LoadGlobal arg scope line low refl shallow refl
    (Continues-refl old.parts.constants) (omega arith) (λ none. none)
    (Continues-bound old.parts.names x) (let long = length-bound old.parts.names x in omega (arith, long)))
    (λ w. refl)
    (λ room whole same (constants, grown_names, vars, stands).
    let fits = place_fits (place names x) (length names) old.others low (placed_bound old.parts.names x) room.names in
    let arg_is : arg ≡ place names x = cut ∙ ap (λ (n : ℕ). n % 2 ^ 32) at_place ∙ fits.0 in
    let small : arg < 256 ^ suc old.others = subst (λ (n : ℕ). n < 256 ^ suc old.others) (sym (cut ∙ ap (λ (n : ℕ). n % 2 ^ 32) at_place)) fits.1 in
    subst (λ (b : Bool). LaidName whole b scope line x (end_of old) (end_of (put old.others LoadGlobal arg scope line (with_global x old))))
    (sym (ap (λ (names : List Name). list_any (bytes_eq x) names) same ∙ absent))
    (arg, stands small, ap (λ (n : ℕ). slice_get whole.names n) arg_is ∙ slice_get-later names whole.names x grown_names (placed_bound old.parts.names x))))
