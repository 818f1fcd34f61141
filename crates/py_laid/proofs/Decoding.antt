-- Runs over a unit and the prefixes in front of it: what a run comes to by the unit that stands at a place, as a fact on what
-- it tells from there.
use Rattle.std.proofs.Common.{◌≡◌, ◌+◌, ◌<◌, ◌≤◌, ℕ, zero, suc, List, [], ◌∷◌, Bool, true, false, cond, Some, refl, sym, ap, ◌∙◌, subst, drop, length, add-one, arith, inl, inr}
use Rattle.std.specs.Prelude.{Option, slice_get}
use Rattle.std.proofs.lemmas.Bool.{eq-eqb}
use Rattle.py_code.specs.declared.instruction.Instruction.{Instruction}
use Rattle.py_code.specs.declared.instruction.Instruction.TheVariants.{ExtendedArg}
use Rattle.py_code.specs.declared.unit.CodeUnit.{CodeUnit}
use Rattle.py_code.specs.Units.{decoded_from, is_prefix, with_byte}
use Rattle.py_objects.specs.declared.refs.PyBaseExceptionRef.{PyBaseExceptionRef}
use Rattle.py_objects.specs.declared.payload.Payload.{Payload}
use Rattle.py_objects.specs.Objects.{Obj}
use Rattle.py_objects.specs.Own.{Own}
use Rattle.py_objects.specs.Telling.{ThrowTest}
use Rattle.py_check.specs.declared.annotated.Annotated.{Annotated}
use Rattle.py_rows.specs.declared.block.Block.{Block}
use Rattle.py_rows.specs.declared.expect.Expect.TheVariants as expect
use Rattle.py_rows.specs.States.{Setting, State, Step, Goes, Move, Plainly}
use Rattle.py_rows.specs.Rows.{act, unit_move, advance}
use Rattle.py_tree.specs.Tree.{Name}
use Rattle.py_tree.specs.Binding.{Env}
use Rattle.py_tree.specs.Scene.{Scene}
use Rattle.py_laid.specs.Fits.{is_line, located}
use Rattle.py_laid.specs.Code.{Parts, Scope, Stands, parts_with}
use Rattle.py_laid.specs.Naming.{NamesAll}
use Rattle.py_laid.proofs.Env.{env_of}
use Rattle.py_laid.proofs.Reaching.{ByStep, ByMove, StepsTell}
use Rattle.py_laid.proofs.UnitLemmas.{slice_get-drop, prefix_is, decoded_is}

-- the locals of a frame, and what its slot holds
pub record Now : Type 0 where
  pub locals : List (Option Obj)
  pub slot : Option PyBaseExceptionRef

-- a frame that runs the unit at a place next, behind what prefixes carry; `last` is the place behind the last unit that was begun
abbrev pub running : (at last prefix : ℕ) → List Obj → List Block → Now → State
running at last prefix stack blocks now =
    record { at = at; last = last; prefix = prefix; stack = stack; blocks = blocks; locals = now.locals; slot = now.slot; phase = 0; wants = expect.Go }

-- a frame whose unit at a place has begun
abbrev pub begun : (k prefix : ℕ) → List Obj → List Block → Now → State
begun k prefix stack blocks now = running k (suc k) prefix stack blocks now

-- the unit at a place has this instruction, and this operand behind what prefixes carry
abbrev pub HasOp : Setting → (k prefix : ℕ) → Instruction → ℕ → Type 0
HasOp setting k prefix op arg = (u : CodeUnit) × (slice_get setting.code.code.instructions.items k ≡ Some u) × (u.op ≡ op) × (with_byte prefix u.arg ≡ arg)

-- a code that runs, with what its units refer to, the test by which exceptions are thrown in, and the names of its globals and locals
pub record Execution : Type 0 where
  pub objects : List Payload
  pub code : Annotated
  pub table : List (List ℕ)
  pub dict : Obj
  pub closure : List Obj
  pub throws : ThrowTest
  pub globals : List Name
  pub vars : List Name
  pub locals_named : NamesAll table code.code.code.varnames.items vars
  pub globals_named : NamesAll table code.code.code.names.items globals

module _ (ex : Execution) where
  abbrev pub setting_of : Setting
  setting_of = record { code = ex.code.code; names = ex.table; globals = ex.dict; closure = ex.closure; throws_under = ex.throws }

  abbrev units : List CodeUnit
  units = ex.code.code.code.instructions.items

  abbrev pub parts_of : Parts
  parts_of = parts_with ex.globals ex.vars ex.code

  abbrev pub scene_of : Scene
  scene_of = located ex.code.code ex.objects ex.dict ex.throws

  -- a run of so many steps has told this
  abbrev pub Told : ℕ → State → List Own → Type 0
  Told n s ts = StepsTell ex.objects setting_of n s ts

  -- the same from a place, where these values lie and these blocks are open
  abbrev pub From : ℕ → (at last : ℕ) → List Obj → List Block → Now → List Own → Type 0
  From n at last stack blocks now ts = Told n (running at last 0 stack blocks now) ts

  -- what a run's next move or step leaves
  abbrev pub Left : ℕ → Move → List Own → Type 0
  Left n move ts = ByMove ex.objects move ts (λ s mid. Told n s mid)

  abbrev pub Behind : ℕ → Step → List Own → Type 0
  Behind n step ts = ByStep step ts (λ s mid. Told n s mid)

  -- a move that is a step
  pub step_left : (n : ℕ) (step : Step) (ts : List Own) → Left n (Plainly step) ts → Behind n step ts
  step_left n step ts (done, is, left) = subst (λ (s : Step). Behind n s ts) (sym is) left

  -- each run of at most n steps from a place, while these blocks are open and these values lie there, tells this, whichever event was heard last
  abbrev pub TellsFrom : ℕ → List Obj → List Block → ℕ → (Env → ℕ → List Own → Type 0) → Type 0
  TellsFrom at stack blocks n tells =
      (now : Now) (last m event : ℕ) (ts : List Own) → m ≤ n → length now.locals ≡ length ex.vars → From m at last stack blocks now ts → tells (env_of ex.vars now.locals) event ts

  -- a frame that runs hears nothing
  unit_left : (n : ℕ) (s : State) (ts : List Own) → Told (suc n) (record s { wants = expect.Go }) ts → Left n (advance setting_of (record s { wants = expect.Go })) ts
  unit_left n s ts (inl left) = left
  unit_left n s ts (inr (x, w, mid, never, under, is, run)) = absurd never

  -- what the unit that is reached, in fewer steps, leaves
  abbrev Reached : Type 0 → Instruction → (arg at next : ℕ) → List Obj → List Block → Now → ℕ → List Own → Type 0
  Reached Q op arg at next stack blocks now n ts =
      (k prefix m : ℕ) → at ≤ k → suc k ≡ next → m < n → HasOp setting_of k prefix op arg → Left m (act setting_of op arg (begun k prefix stack blocks now)) ts → Q

  -- a run comes through the prefixes to the unit with the whole operand, unless it ends among them
  decoded_run : {Q : Type 0} (left : List CodeUnit) (at last prefix : ℕ) (op : Instruction) (arg next : ℕ) (stack : List Obj) (blocks : List Block) (now : Now) (n : ℕ) (ts : List Own)
      → drop at units ≡ left → decoded_from prefix at left ≡ Some (record { op = op; arg = record { 0 = arg }; next = next })
      → Told n (running at last prefix stack blocks now) ts
      → (ts ≡ [] → Q) → Reached Q op arg at next stack blocks now n ts
      → Q
  decoded_run [] at last prefix op arg next stack blocks now n ts here is run cut go = absurd (cc)
  decoded_run (u ∷ us) at last prefix op arg next stack blocks now zero ts here is run cut go = cut run
  decoded_run {Q} (u ∷ us) at last prefix op arg next stack blocks now (suc n) ts here is run cut go =
      by (is_prefix u.op) refl is (λ more. decoded_run us (suc at) (suc at) (with_byte prefix u.arg) op arg next stack blocks now n ts first.1 more)
    where
      first : (slice_get units at ≡ Some u) × (drop (suc at) units ≡ us)
      first = slice_get-drop units at u us here

      moved : Left n (act setting_of u.op (with_byte prefix u.arg) (begun at prefix stack blocks now)) ts
      moved =
          subst (λ (o : Option CodeUnit). Left n (unit_move setting_of o (running at last prefix stack blocks now)) ts) first.0
          (unit_left n (running at last prefix stack blocks now) ts run)

      further : Reached Q op arg (suc at) next stack blocks now n ts
      further k p m from is_next less has_op more = go k p m (omega (arith, from)) is_next (omega (arith, less)) has_op more

      by : (b : Bool) → is_prefix u.op ≡ b
          → cond b (decoded_from (with_byte prefix u.arg) (at + 1) us) (Some (record { op = u.op; arg = record { 0 = with_byte prefix u.arg }; next = at + 1 }))
          ≡ Some (record { op = op; arg = record { 0 = arg }; next = next })
          → (decoded_from (with_byte prefix u.arg) (suc at) us ≡ Some (record { op = op; arg = record { 0 = arg }; next = next })
          → Told n (running (suc at) (suc at) (with_byte prefix u.arg) stack blocks now) ts
          → (ts ≡ [] → Q) → Reached Q op arg (suc at) next stack blocks now n ts → Q)
          → Q
      by true prefixed d later =
          let place : at + 1 ≡ suc at = add-one at in
          let extended : Left n (act setting_of ExtendedArg (with_byte prefix u.arg) (begun at prefix stack blocks now)) ts =
          subst (λ (o : Instruction). Left n (act setting_of o (with_byte prefix u.arg) (begun at prefix stack blocks now)) ts) (prefix_is u.op prefixed) moved in
          later (rw place at d) (step_left n (Goes (running (suc at) (suc at) (with_byte prefix u.arg) stack blocks now)) ts extended) cut further
      by false plain d later =
          let (is_op, is_arg, is_next) = decoded_is _ _ d in
          go at prefix n (omega arith) (sym (add-one at) ∙ is_next) (omega arith) (u, first.0, is_op, is_arg)
          (subst (λ (i : ℕ). Left n (act setting_of op i (begun at prefix stack blocks now)) ts) is_arg
          (subst (λ (o : Instruction). Left n (act setting_of o (with_byte prefix u.arg) (begun at prefix stack blocks now)) ts) is_op moved))

  -- the same of a unit of a line, whose move is known by its place, by what its prefixes carry and by the place behind it
  pub stands_run : {Q : Type 0} {scope : Scope} {line at arg to : ℕ} {op : Instruction} → Stands parts_of scope line at op arg to
      → (move : (k p b : ℕ) → Move) (stack : List Obj) (blocks : List Block) (now : Now) (last n : ℕ) (ts : List Own)
      → ((k p : ℕ) → act setting_of op arg (begun k p stack blocks now) ≡ move k p (suc k))
      → From n at last stack blocks now ts
      → (ts ≡ [] → Q)
      → ((k p m : ℕ) → at ≤ k → suc k ≡ to → m < n → HasOp setting_of k p op arg → is_line line (slice_get parts_of.locations k) ≡ true → Left m (move k p to) ts → Q)
      → Q
  stands_run {line = line} {at = at} {arg = arg} {to = to} {op = op} stands move stack blocks now last n ts moves run cut go =
      decoded_run (drop at units) at last 0 op arg to stack blocks now n ts refl stands.decoded run cut
      (λ k p m from is_next less has_op left.
      go k p m from is_next less has_op (ap (is_line line) (stands.lined k from (omega (arith, is_next))) ∙ eq-eqb line line refl)
      (subst (λ (b : ℕ). Left m (move k p b) ts) is_next (subst (λ (w : Move). Left m w ts) (moves k p) left)))

  -- a unit that makes a step
  pub steps_run : {Q : Type 0} {scope : Scope} {line at arg to : ℕ} {op : Instruction} → Stands parts_of scope line at op arg to
      → (step : (k p b : ℕ) → Step) (stack : List Obj) (blocks : List Block) (now : Now) (last n : ℕ) (ts : List Own)
      → ((k p : ℕ) → act setting_of op arg (begun k p stack blocks now) ≡ Plainly (step k p (suc k)))
      → From n at last stack blocks now ts
      → (ts ≡ [] → Q)
      → ((k p m : ℕ) → at ≤ k → suc k ≡ to → m < n → Behind m (step k p to) ts → Q)
      → Q
  steps_run {to = to} stands step stack blocks now last n ts makes run cut go =
      stands_run stands (λ k p b. Plainly (step k p b)) stack blocks now last n ts makes run cut
      (λ k p m from is_next less has_op of_line left. go k p m from is_next less (step_left m (step k p to) ts left))

  -- a unit that goes on without an event
  pub goes_run : {Q : Type 0} {scope : Scope} {line at arg to : ℕ} {op : Instruction} → Stands parts_of scope line at op arg to
      → (stack left : List Obj) (blocks outer : List Block) (now then : Now) (last n : ℕ) (ts : List Own)
      → ((k p : ℕ) → act setting_of op arg (begun k p stack blocks now) ≡ Plainly (Goes (running (suc k) (suc k) 0 left outer then)))
      → From n at last stack blocks now ts → (ts ≡ [] → Q) → ((j : ℕ) → j < n → From j to to left outer then ts → Q) → Q
  goes_run stands stack left blocks outer now then last n ts goes run cut go =
      steps_run stands (λ k p b. Goes (running b b 0 left outer then)) stack blocks now last n ts goes run cut (λ k p j from is_next less more. go j less more)

  -- the same where what follows is known, and may be cut
  pub silent_run : {scope : Scope} {line at arg to : ℕ} {op : Instruction} → Stands parts_of scope line at op arg to
      → (stack left : List Obj) (blocks outer : List Block) (now then : Now)
      → ((k p : ℕ) → act setting_of op arg (begun k p stack blocks now) ≡ Plainly (Goes (running (suc k) (suc k) 0 left outer then)))
      → (n : ℕ) (tells : Env → ℕ → List Own → Type 0) → ((env : Env) (event : ℕ) → tells env event []) → TellsFrom to left outer n tells
      → (last m event : ℕ) (ts : List Own) → m ≤ n → length then.locals ≡ length ex.vars → From m at last stack blocks now ts → tells (env_of ex.vars then.locals) event ts
  silent_run {to = to} stands stack left blocks outer now then goes n tells paused later last m event ts most same run =
      goes_run stands stack left blocks outer now then last m ts goes run
      (λ none. subst (λ (us : List Own). tells (env_of ex.vars then.locals) event us) (sym none) (paused (env_of ex.vars then.locals) event))
      (λ j less more. later then to j event ts (omega (arith, less, most)) same more)
