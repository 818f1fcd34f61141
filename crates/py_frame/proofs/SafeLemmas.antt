-- Steps that can be made.
use Rattle.std.proofs.Common.{◌≡◌, ◌∙◌, ◌≤◌, ◌<◌, ℕ, zero, suc, List, [], ◌∷◌, ◌++◌, Bool, true, false, cond, refl, ap, subst, length, take, drop, reverse, arith}
use Rattle.std.specs.Prelude.{nat_lt, ◌+◌, Option, None, Some, is_some}
use Rattle.std.proofs.lemmas.List.{reverse-append}
use Rattle.py_code.specs.declared.literal.Literal.{Literal}
use Rattle.py_code.specs.declared.instruction.Instruction.{Instruction}
use Rattle.py_code.specs.declared.instruction.Instruction.TheVariants.{WithCleanupFinish}
use Rattle.py_objects.specs.declared.payload.Payload.{Payload}
use Rattle.py_objects.specs.Objects.{Obj}
use Rattle.py_objects.specs.Own.{Rounds}
use Rattle.py_objects.specs.Callees.{call_request}
use Rattle.py_rows.specs.States.{State, Step, Goes, Tells, Resolves, landed, with_stack, jumps}
use Rattle.py_rows.specs.Rows.{asks, reaches, calls, call_function, loads, takes_off, where_there}
use Rattle.py_rows.specs.Receiving.{answered, entered, enters, enters_top, passes_if}
use Rattle.py_rows.specs.Laws.{LeadsTo, IsWithin}
use Rattle.py_frame.specs.Frames.{Framed}
use Rattle.py_frame.specs.UnitSteps.{HasRoom, HasNeeds}

-- where a transfer can be made
pub safe_jump : (max depth to : ℕ) (s : State) → LeadsTo (IsWithin max depth) (jumps to s) → IsWithin max depth s
safe_jump max depth to s safe = by_test (nat_lt s.at to) safe
  where
    by_test : (b : Bool) → LeadsTo (IsWithin max depth) (cond b (Goes (landed to s)) (Tells (Rounds s.at) (landed to s))) → IsWithin max depth s
    by_test true safe = safe
    by_test false safe = safe

reach_there : (n : ℕ) (stack : List Obj) → reaches n stack ≡ true → n ≤ length stack
reach_there zero stack there = omega arith
reach_there (suc n) [] there = cc
reach_there (suc n) (v ∷ stack) there = omega (arith, reach_there n stack there)

there_is : (P : State → Type 0) (b : Bool) (step : Step) → LeadsTo P (where_there b step) → b ≡ true
there_is P true step safe = refl
there_is P false step safe = absurd safe

-- a constant of which an object is loaded is there
pub can_load : (objects : List Payload) (f : Framed) (o : Option Literal) (k : Obj → Step) → HasNeeds objects f (loads o k) → is_some o ≡ true
can_load objects f None k can = absurd can
can_load objects f (Some l) k can = refl

-- a call finds its callee under its arguments
pub call_there : (objects : List Payload) (g : Framed) (k : ℕ) (s : State) → HasNeeds objects g (call_function k s) → k < length s.stack
call_there objects g k s can = omega (arith, reach_there (suc k) s.stack (by_values (reverse (take (suc k) s.stack)) (reaches (suc k) s.stack) (with_stack (drop (suc k) s.stack) s) can))
  where
    by_values : (vs : List Obj) (there : Bool) (t : State) → HasNeeds objects g (calls vs there t) → there ≡ true
    by_values [] there t can = absurd can
    by_values (f ∷ args) there t can = there_is (IsWithin (length g.state.stack + g.room) (length g.state.blocks + g.block_room)) there (asks (call_request can.0.0 f args) t) (can.1 can.0.0)

one_more : (k : ℕ) (stack : List Obj) (f : Obj) (under : List Obj) → drop k stack ≡ f ∷ under → take (suc k) stack ≡ take k stack ++ (f ∷ [])
one_more zero [] f under is = cc
one_more zero (v ∷ stack) f under is = let same : v ≡ f = cc in ap (λ (w : Obj). w ∷ []) same
one_more (suc k) [] f under is = cc
one_more (suc k) (v ∷ stack) f under is = ap (λ (ws : List Obj). v ∷ ws) (one_more k stack f under is)

one_less : (k : ℕ) (stack : List Obj) (f : Obj) (under : List Obj) → drop k stack ≡ f ∷ under → (drop (suc k) stack ≡ under) × (reaches (suc k) stack ≡ true)
one_less zero [] f under is = cc
one_less zero (v ∷ stack) f under is = (cc, refl)
one_less (suc k) [] f under is = cc
one_less (suc k) (v ∷ stack) f under is = one_less k stack f under is

-- what it goes by, and asks
pub call_row : (k : ℕ) (s : State) (f : Obj) (under : List Obj) → drop k s.stack ≡ f ∷ under
    → call_function k s ≡ Resolves f (λ (p : Payload). asks (call_request p f (reverse (take k s.stack))) (with_stack under s))
call_row k s f under is =
    let args : reverse (take (suc k) s.stack) ≡ f ∷ reverse (take k s.stack) = ap reverse (one_more k s.stack f under is) ∙ reverse-append (take k s.stack) (f ∷ []) in
    let less = one_less k s.stack f under is in
    ap (λ (b : Bool). calls (reverse (take (suc k) s.stack)) b (with_stack (drop (suc k) s.stack) s)) less.1
    ∙ ap (λ (vs : List Obj). calls vs true (with_stack (drop (suc k) s.stack) s)) args
    ∙ ap (λ (vs : List Obj). Resolves f (λ (p : Payload). asks (call_request p f (reverse (take k s.stack))) (with_stack vs s))) less.0

-- what is entered is the top, and this is the first answer
pub can_enter : (objects : List Payload) (f : Framed) (n to : ℕ) (v : Obj) → HasNeeds objects f (enters n to v f.state) → HasRoom f (entered to v f.state)
can_enter objects f zero to v can = by_stack f.state.stack can
  where
    by_stack : (stack : List Obj) → HasNeeds objects f (enters_top stack to v f.state) → HasRoom f (entered to v f.state)
    by_stack [] can = absurd can
    by_stack (m ∷ rest) can = can.1 true
can_enter objects f (suc n) to v can = absurd can

-- an exception that waited may be passed on or not
pub can_pass : (objects : List Payload) (f : Framed) (op : Instruction) (arg : ℕ) (v : Obj) (b : Bool) → op ≡ WithCleanupFinish → HasNeeds objects f (answered op arg v f.state)
    → HasRoom f (takes_off f.state.stack (λ e rest. passes_if b e (with_stack rest f.state)))
can_pass objects f op arg v b is can = let done : HasNeeds objects f (answered WithCleanupFinish arg v f.state) = subst (λ (o : Instruction). HasNeeds objects f (answered o arg v f.state)) is can in done.1 b
