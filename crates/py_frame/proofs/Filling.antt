-- Locals that are filled one by one, and a frame that is made with all of them unset.
use Rattle.std.proofs.Common.{◌≡◌, ◌∙◌, ◌+◌, ◌≤◌, ◌++◌, ℕ, zero, suc, List, [], ◌∷◌, Some, refl, ap, length, add-one}
use Rattle.std.specs.Prelude.{Option, None, slice_get, vec_len}
use Rattle.std.proofs.Math.Nat.{le_antisymm}
use Rattle.py_code.specs.declared.code.PyCode.{PyCode}
use Rattle.py_objects.specs.declared.refs.FrameRef.{FrameRef}
use Rattle.py_objects.specs.declared.scope.Scope.{Scope}
use Rattle.py_objects.specs.Objects.{Obj}
use Rattle.py_check.specs.declared.annotated.Annotated.{Annotated}
use Rattle.py_rows.specs.declared.block.Block.{Block}
use Rattle.py_rows.specs.declared.expect.Expect.TheVariants as expect
use Rattle.py_rows.specs.RunOfRows.{filled}
use Rattle.py_frame.specs.Frames.{Framed, unfilled}

-- the same, where numbers are counted up from 0
filled_suc : (n : ℕ) (vs : List Obj) → filled (suc n) vs ≡ filled n vs ++ slice_get vs n ∷ []
filled_suc zero [] = refl
filled_suc zero (v ∷ vs) = refl
filled_suc (suc n) [] = ap (λ (xs : List (Option Obj)). None ∷ xs) (filled_suc n [])
filled_suc (suc n) (v ∷ vs) = ap (λ (xs : List (Option Obj)). Some v ∷ xs) (filled_suc n vs)

-- one more local takes the next argument, where there is one
pub filled_next : (n : ℕ) (vs : List Obj) → filled (n + 1) vs ≡ filled n vs ++ slice_get vs n ∷ []
filled_next n vs = rw add-one (filled_suc n vs)

-- where the count came to its end, as many locals are filled as the code has
pub all_filled : (code : Annotated) (of : PyCode) (n end : ℕ) (vs : List Obj) (locals : List (Option Obj)) → of ≡ code.code → end ≡ vec_len of.code.varnames → n ≤ end → end ≤ n → locals ≡ filled n vs → locals ≡ filled (length code.code.code.varnames.items) vs
all_filled code of n end vs locals same all below above is = is ∙ ap (λ (k : ℕ). filled k vs) (le_antisymm below above ∙ all ∙ ap (λ (c : PyCode). vec_len c.code.varnames) same ∙ code.code.code.varnames.ok.0)

-- a frame with no values and no blocks, whose locals are unset, is unfilled
pub unfilled_made : (code : Annotated) (number : ℕ) (entry : FrameRef) (scope : Scope) (closure : List Obj) (room block_room prefix : ℕ) (stack : List Obj) (blocks : List Block) (locals : List (Option Obj))
    → prefix ≡ 0 → stack ≡ [] → blocks ≡ [] → locals ≡ filled (length code.code.code.varnames.items) []
    → ◌≡◌ {A = Framed} (record { state = record { at = 0; last = 0; prefix = prefix; stack = stack; blocks = blocks; locals = locals; slot = None; phase = 0; wants = expect.Start }; room = room; block_room = block_room; code = number; entry = entry; scope = scope; closure = closure }) (unfilled code number entry scope closure room block_room)
unfilled_made code number entry scope closure room block_room prefix stack blocks locals no_prefix no_values no_blocks unset =
    let made : ℕ → List Obj → List Block → List (Option Obj) → Framed = λ (k : ℕ) (vs : List Obj) (bs : List Block) (ls : List (Option Obj)). record { state = record { at = 0; last = 0; prefix = k; stack = vs; blocks = bs; locals = ls; slot = None; phase = 0; wants = expect.Start }; room = room; block_room = block_room; code = number; entry = entry; scope = scope; closure = closure } in
    ap (λ (k : ℕ). made k stack blocks locals) no_prefix ∙ ap (λ (vs : List Obj). made 0 vs blocks locals) no_values ∙ ap (λ (bs : List Block). made 0 [] bs locals) no_blocks ∙ ap (made 0 [] []) unset
