-- Notes whose kinds are all Any: what fits them, what may be taken there, and what lies under their levels;
-- and blocks that fit themselves.
use Rattle.std.proofs.Common.{◌≡◌, ◌≤◌, ◌+◌, ◌-◌, ℕ, zero, suc, List, [], ◌∷◌, Bool, true, false, ◌||◌, Some, None, refl, ap, subst, length, drop, replicate, arith}
use Rattle.std.proofs.lemmas.Bool.{and_from, and_parts, le-leb, leb-true, eq-eqb}
use Rattle.std.proofs.lemmas.List.{length-drop, length-replicate}
use Rattle.py_code.specs.Bottom.{bottom}
use Rattle.py_check.specs.declared.note.Kind.{Kind}
use Rattle.py_check.specs.declared.note.Kind.TheVariants.{Any}
use Rattle.py_check.specs.declared.note.BlockNote.{BlockNote}
use Rattle.py_check.specs.declared.note.BlockNote.TheVariants.{FinallyHandler}
use Rattle.py_check.specs.Notes.{kind_fits, kinds_fit, same_kind, plain_kind, block_number, level_of, handler_of, pending_of, is_subset, block_fits}
use Rattle.py_check.specs.Landing.{levels_nest, top_level}
use Rattle.py_check.specs.Taking.{takes}
use Rattle.py_laid.specs.Code.{Around, Scope, leaving}

-- ---- kinds

-- the kinds of a scope's note
abbrev pub kinds_of : Scope → List Kind
kinds_of scope = replicate scope.depth Any

pub length-kinds_of : (scope : Scope) → length (kinds_of scope) ≡ scope.depth
length-kinds_of scope = length-replicate scope.depth Any

-- each kind fits Any
kind_fits-Any : (k : Kind) → kind_fits k Any ≡ true
kind_fits-Any k = by (same_kind k Any) (same_kind (plain_kind k) Any)
  where
    by : (a b : Bool) → (a || b || true) ≡ true
    by true b = refl
    by false true = refl
    by false false = refl

-- as many kinds fit, whatever they are
kinds_fit-all : (kinds : List Kind) → kinds_fit kinds (replicate (length kinds) Any) ≡ true
kinds_fit-all [] = refl
kinds_fit-all (k ∷ kinds) = and_from _ _ (kind_fits-Any k) (kinds_fit-all kinds)

pub kinds_fit-Any : (kinds : List Kind) (depth : ℕ) → length kinds ≡ depth → kinds_fit kinds (replicate depth Any) ≡ true
kinds_fit-Any kinds depth long = subst (λ (n : ℕ). kinds_fit kinds (replicate n Any) ≡ true) long (kinds_fit-all kinds)

-- entries that are there, above the top block, may be taken, whatever they are
pub takes-Any : (n : ℕ) (kinds : List Kind) (blocks : List BlockNote) (rest : List Kind → Bool) → n + top_level blocks ≤ length kinds → rest (drop n kinds) ≡ true
    → takes (replicate n Any) kinds blocks rest ≡ true
takes-Any zero kinds blocks rest low holds = and_from _ _ (le-leb _ _ (omega (arith, low))) holds
takes-Any (suc n) [] blocks rest low holds = absurd (omega (arith, low))
takes-Any (suc n) (k ∷ kinds) blocks rest low holds = and_from _ _ (kind_fits-Any k) (takes-Any n kinds blocks rest (omega (arith, low)) holds)

-- ---- levels

-- as much lies under a level as it says
pub length-bottom : (n : ℕ) (kinds : List Kind) → n ≤ length kinds → length (bottom n kinds) ≡ n
length-bottom n kinds low = omega (arith, low, length-drop (length kinds - n) kinds)

-- the top block's level is no higher than the stack
pub top_level-low : (depth : ℕ) (blocks : List BlockNote) → levels_nest depth blocks ≡ true → top_level blocks ≤ depth
top_level-low depth [] nest = omega arith
top_level-low depth (b ∷ blocks) nest = leb-true (level_of b) depth (and_parts _ _ nest).0

-- with one more value
pub levels_nest-on : (depth : ℕ) (blocks : List BlockNote) → levels_nest depth blocks ≡ true → levels_nest (suc depth) blocks ≡ true
levels_nest-on depth [] nest = refl
levels_nest-on depth (b ∷ blocks) nest =
    let parts = and_parts _ _ nest in
    let low : level_of b ≤ depth = leb-true (level_of b) depth parts.0 in
    and_from _ _ (le-leb _ _ (omega (arith, low))) parts.1

-- ---- blocks

-- a block fits itself if what may wait in it does
pub block_fits-self : (b : BlockNote) → is_subset (pending_of b) (pending_of b) ≡ true → block_fits b b ≡ true
block_fits-self b waiting =
    and_from _ _ (and_from _ _ (and_from _ _ (eq-eqb (block_number b) (block_number b) refl) (eq-eqb (level_of b) (level_of b) refl)) (eq-eqb (handler_of b) (handler_of b) refl)) waiting

-- a finally in which nothing waits fits each finally of its level
pub block_fits-none : (level : ℕ) (around : Around) → block_fits (FinallyHandler level []) (FinallyHandler level (leaving around)) ≡ true
block_fits-none level around = and_from _ _ (and_from _ _ (and_from _ _ refl (eq-eqb level level refl)) refl) refl

-- all jumps that may wait in a finally may
pub leaving_fits : (around : Around) → is_subset (leaving around) (leaving around) ≡ true
leaving_fits None = refl
leaving_fits (Some l) =
    and_from _ _ (ap (λ (b : Bool). b || (false || false)) (eq-eqb l.stop l.stop refl)) (and_from _ _ (ap (λ (b : Bool). false || (b || false)) (eq-eqb l.again l.again refl)) refl)
