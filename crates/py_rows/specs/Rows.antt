-- What units of code do, an equation an instruction.
use Rattle.std.specs.Prelude.{ℕ, zero, suc, Option, Some, None, List, [], ◌∷◌, ◌++◌, slice_get, slice_set, length, reverse, take, drop, nat_lt, Bool, true, false, ◌&&◌, ◌==◌, option_map, if◌then◌else◌}
use Rattle.std.specs.List.{list_all}
use Rattle.py_code.specs.declared.instruction.Instruction.{Instruction}
use Rattle.py_code.specs.declared.instruction.Instruction.TheVariants.{LoadConst, LoadFast, StoreFast, DeleteFast, CallFunctionPositional, Jump, JumpIfTrue, JumpIfFalse, SetupLoop, SetupExcept, SetupFinally, EnterFinally, EndFinally, SetupWith, WithCleanupStart, WithCleanupFinish, PopBlock, PopException, Raise, Break, Continue, ReturnValue, ReturnConst, YieldValue, ExtendedArg}
use Rattle.py_code.specs.declared.unit.CodeUnit.{CodeUnit}
use Rattle.py_code.specs.declared.literal.Literal.{Literal}
use Rattle.py_code.specs.declared.operator.RaiseKind.{RaiseKind}
use Rattle.py_code.specs.declared.operator.RaiseKind.TheVariants as raise
use Rattle.py_code.specs.Literals.{constant_of, literals_of}
use Rattle.py_code.specs.Operators.{raise_kinds}
use Rattle.py_code.specs.Bottom.{bottom}
use Rattle.py_code.specs.Units.{with_byte}
use Rattle.py_objects.specs.declared.refs.PyBaseExceptionRef.{PyBaseExceptionRef}
use Rattle.py_objects.specs.declared.request.Request.{Request}
use Rattle.py_objects.specs.declared.request.Request.TheVariants as request
use Rattle.py_objects.specs.Objects.{Obj, Name, as_object}
use Rattle.py_objects.specs.Own.{Asks, Rounds, Yields}
use Rattle.py_objects.specs.Callees.{call_request}
use Rattle.py_check.specs.Effects.{Effect, Moves, AsksOnce, Takes, Other}
use Rattle.py_rows.specs.Table.{row_effect}
use Rattle.py_check.specs.Taking.{picked}
use Rattle.py_rows.specs.declared.block.Block.{Block}
use Rattle.py_rows.specs.declared.block.BlockType.{BlockType}
use Rattle.py_rows.specs.declared.block.BlockType.TheVariants.{Loop, TryExcept, Finally, FinallyHandler, ExceptHandler}
use Rattle.py_rows.specs.declared.block.UnwindReason.{UnwindReason}
use Rattle.py_rows.specs.declared.block.UnwindReason.TheVariants as reason
use Rattle.py_rows.specs.declared.expect.Expect.TheVariants as expect
use Rattle.py_rows.specs.States.{Setting, State, Step, Goes, Tells, Stuck, Move, Plainly, Loads, Resolves, Exits, begun, next, waiting, with_stack, pushed, opened, jumps}
use Rattle.py_rows.specs.Handled.{handled_in}
use Rattle.py_rows.specs.Unwinding.{left, left_handler, unwinds}
use Rattle.py_rows.specs.Answers.{wanted}
use Rattle.py_rows.specs.Asked.{name_of_local, asked}

-- a constant is loaded, where there is one
abbrev pub loads : Option Literal → (Obj → Step) → Move
loads None f = Plainly Stuck
loads (Some l) f = Loads (constant_of l) f

-- a question by the unit that runs
abbrev pub asks : Request → State → Step
asks r s = Tells (Asks s.at r (handled_in None s.blocks)) (waiting (expect.Answer (wanted r)) s)

-- the same, where there is what it asks
abbrev pub asks_if : Option Request → State → Step
asks_if None s = Stuck
asks_if (Some r) s = asks r s

-- the topmost value is taken off
abbrev pub takes_off : List Obj → (Obj → List Obj → Step) → Step
takes_off [] f = Stuck
takes_off (v ∷ rest) f = f v rest

-- a step that is made only where there is what it needs
abbrev pub where_there : Bool → Step → Step
where_there b step = if b then step else Stuck

-- whether something is there
abbrev pub is_there : {A : Type 0} → Option A → Bool
is_there None = false
is_there (Some x) = true

-- whether a list has so many entries
abbrev pub reaches : {A : Type 0} → ℕ → List A → Bool
reaches zero xs = true
reaches (suc n) [] = false
reaches (suc n) (x ∷ xs) = reaches n xs

-- so many entries go, and those at these places come
abbrev pub moves_entries : ℕ → List ℕ → State → Step
moves_entries n places s =
    where_there (reaches n s.stack && list_all (λ p. is_there (slice_get s.stack p)) places) (Goes (with_stack (picked places s.stack ++ drop n s.stack) (next s)))

-- so many entries are taken, and something is asked of them
abbrev pub asks_once : ℕ → (List Obj → Option Request) → State → Step
asks_once n f s = where_there (reaches n s.stack) (asks_if (f (take n s.stack)) (with_stack (drop n s.stack) s))

-- what the table of effects says, and of another instruction its own row
abbrev pub acts_by : Effect → (List Obj → Option Request) → Move → State → Move
acts_by (Moves n places) f own s = Plainly (moves_entries n places s)
acts_by (AsksOnce wanted pushes) f own s = Plainly (asks_once (length wanted) f s)
acts_by (Takes n pushes) f own s = own
acts_by Other f own s = own

-- a local is pushed; one that is unset is asked for by its name
abbrev pub load_fast : Option Name → Option (Option Obj) → State → Step
load_fast name None s = Stuck
load_fast name (Some (Some v)) s = Goes (pushed v (next s))
load_fast name (Some None) s = asks_if (option_map (λ x. request.Unbound x) name) s

-- a local is unset; one that is unset is asked for by its name
abbrev pub delete_fast : Option Name → ℕ → Option (Option Obj) → State → Step
delete_fast name i None s = Stuck
delete_fast name i (Some (Some v)) s = Goes (record (next s) { locals = slice_set s.locals i None })
delete_fast name i (Some None) s = asks_if (option_map (λ x. request.Unbound x) name) s

-- a block that ends where control comes to its end
abbrev pub if_popped : BlockType → Step → Step
if_popped Loop step = step
if_popped (TryExcept handler) step = step
if_popped (Finally handler) step = step
if_popped (FinallyHandler r kept) step = Stuck
if_popped (ExceptHandler e kept) step = Stuck

-- the innermost block ends in order, with what lies above its level
abbrev pub pop_block : List Block → State → Step
pop_block [] s = Stuck
pop_block (b ∷ outer) s = if_popped b.typ (Goes (next (left b.level outer s)))

-- a handler of exceptions ends, with what it kept
abbrev pub pop_type : BlockType → (Option PyBaseExceptionRef → Step) → Step
pop_type Loop f = Stuck
pop_type (TryExcept handler) f = Stuck
pop_type (Finally handler) f = Stuck
pop_type (FinallyHandler r kept) f = Stuck
pop_type (ExceptHandler e kept) f = f kept

-- the innermost block ends, which handles an exception
abbrev pub pop_exception : List Block → State → Step
pop_exception [] s = Stuck
pop_exception (b ∷ outer) s = pop_type b.typ (λ kept. Goes (next (left_handler b.level kept outer s)))

-- the handler of a finally, with its reason and what it kept
abbrev pub finally_type : BlockType → (Option UnwindReason → Option PyBaseExceptionRef → Step) → Step
finally_type Loop f = Stuck
finally_type (TryExcept handler) f = Stuck
finally_type (Finally handler) f = Stuck
finally_type (FinallyHandler r kept) f = f r kept
finally_type (ExceptHandler e kept) f = Stuck

-- the same of the innermost block, with its level and those around it
abbrev pub in_finally : List Block → (ℕ → Option UnwindReason → Option PyBaseExceptionRef → List Block → Step) → Step
in_finally [] f = Stuck
in_finally (b ∷ outer) f = finally_type b.typ (λ r kept. f b.level r kept outer)

-- on with the reason of a finally, if any
abbrev pub goes_on : Option UnwindReason → State → Step
goes_on None s = Goes (next s)
goes_on (Some r) s = unwinds r s

-- a finally ends, with what it kept and its reason
abbrev pub end_finally : State → Step
end_finally s = in_finally s.blocks (λ level r kept outer. goes_on r (left_handler level kept outer s))

-- the exception that a finally was entered by, if any
abbrev pub raised_by : Option UnwindReason → Option PyBaseExceptionRef
raised_by None = None
raised_by (Some (reason.Raising e)) = Some e
raised_by (Some (reason.Returning v)) = None
raised_by (Some (reason.Break to)) = None
raised_by (Some (reason.Continue to)) = None

-- the same of a block
abbrev pub raised_of : BlockType → Option PyBaseExceptionRef
raised_of Loop = None
raised_of (TryExcept handler) = None
raised_of (Finally handler) = None
raised_of (FinallyHandler r kept) = raised_by r
raised_of (ExceptHandler e kept) = None

-- the same of the innermost one
abbrev pub raised_in : List Block → Option PyBaseExceptionRef
raised_in [] = None
raised_in (b ∷ outer) = raised_of b.typ

-- an exit is called: the entry right under the level of the innermost block, the handler of a finally; nothing lies above it
abbrev pub asks_exit : State → Obj → Obj → Obj → Step
asks_exit s t v b =
    in_finally s.blocks (λ level r kept outer. where_there (length s.stack == level) (takes_off (bottom level s.stack) (λ x rest. asks (request.Exit x t v b) s)))

-- the exception, if any, waits on the stack until it is known whether it goes on
abbrev pub finishes : Option UnwindReason → Obj → State → Step
finishes None v s = Goes (next s)
finishes (Some (reason.Raising e)) v s = asks (request.Truth v) (pushed (as_object e) s)
finishes (Some (reason.Returning w)) v s = unwinds (reason.Returning w) s
finishes (Some (reason.Break to)) v s = unwinds (reason.Break to) s
finishes (Some (reason.Continue to)) v s = unwinds (reason.Continue to) s

-- the answer, which alone lies above the block, goes, the block, and the exit
abbrev pub finish_cleanup : State → Step
finish_cleanup s = takes_off s.stack (λ v above. takes_off above (λ exit rest. in_finally s.blocks (λ level r kept outer. where_there (length above == level) (finishes r v (record s { stack = rest; blocks = outer; slot = kept })))))

-- an exception is asked for: the one that is handled, what the top value makes, or first what its cause makes
abbrev pub raises : Option RaiseKind → State → Step
raises None s = Stuck
raises (Some raise.Reraise) s = asks request.Handled s
raises (Some raise.Raise) s = takes_off s.stack (λ v rest. asks (request.Raisable v) (with_stack rest s))
raises (Some raise.RaiseCause) s = takes_off s.stack (λ c rest. asks (request.Cause c) (with_stack rest s))

-- a local is set
abbrev pub store_fast : ℕ → State → Step
store_fast i s = where_there (nat_lt i (length s.locals)) (takes_off s.stack (λ v rest. Goes (record (next s) { stack = rest; locals = slice_set s.locals i (Some v) })))

-- a jump that asks whether it is made
abbrev pub asks_truth : State → Step
asks_truth s = takes_off s.stack (λ v rest. asks (request.Truth v) (with_stack rest s))

-- what these values call is asked, the first of them with the others, where all of them are there
abbrev pub calls : List Obj → Bool → State → Move
calls [] there s = Plainly Stuck
calls (f ∷ args) there s = Resolves f (λ p. where_there there (asks (call_request p f args) s))

-- a call with so many arguments, under which its callee lies
abbrev pub call_function : ℕ → State → Move
call_function k s = calls (reverse (take (suc k) s.stack)) (reaches (suc k) s.stack) (with_stack (drop (suc k) s.stack) s)

-- a block begins at the depth of the stack
abbrev pub opens : BlockType → State → Step
opens typ s = Goes (opened (record { typ = typ; level = length s.stack }) (next s))

-- a loop is set up, which is a round
abbrev pub setup_loop : State → Step
setup_loop s = Tells (Rounds s.at) (opened (record { typ = Loop; level = length s.stack }) (next s))

-- a manager, which stays, is entered
abbrev pub asks_enter : State → Step
asks_enter s = takes_off s.stack (λ m rest. asks (request.Enter m) s)

-- the top value is returned
abbrev pub return_value : State → Step
return_value s = takes_off s.stack (λ v rest. unwinds (reason.Returning v) (with_stack rest s))

-- the top value is yielded
abbrev pub yield_value : State → Step
yield_value s = takes_off s.stack (λ v rest. Tells (Yields s.at v) (waiting expect.Resume (with_stack rest s)))

-- the instructions that run so far and aren't in the table of effects; the others have no meaning yet
abbrev pub act_own : Setting → Instruction → ℕ → State → Move
act_own setting LoadConst i s = loads (slice_get (literals_of setting.code.code.constants) i) (λ v. Goes (pushed v (next s)))
act_own setting LoadFast i s = Plainly (load_fast (name_of_local setting i) (slice_get s.locals i) s)
act_own setting StoreFast i s = Plainly (store_fast i s)
act_own setting DeleteFast i s = Plainly (delete_fast (name_of_local setting i) i (slice_get s.locals i) s)
act_own setting CallFunctionPositional k s = call_function k s
act_own setting Jump to s = Plainly (jumps to s)
act_own setting JumpIfTrue to s = Plainly (asks_truth s)
act_own setting JumpIfFalse to s = Plainly (asks_truth s)
act_own setting SetupLoop i s = Plainly (setup_loop s)
act_own setting SetupExcept to s = Plainly (opens (TryExcept to) s)
act_own setting SetupFinally to s = Plainly (opens (Finally to) s)
act_own setting EnterFinally i s = Plainly (opens (FinallyHandler None s.slot) s)
act_own setting EndFinally i s = Plainly (end_finally s)
act_own setting SetupWith to s = Plainly (asks_enter s)
act_own setting WithCleanupStart i s = Exits (raised_in s.blocks) (λ t v b. asks_exit s t v b)
act_own setting WithCleanupFinish i s = Plainly (finish_cleanup s)
act_own setting PopBlock i s = Plainly (pop_block s.blocks s)
act_own setting PopException i s = Plainly (pop_exception s.blocks s)
act_own setting Raise i s = Plainly (raises (slice_get raise_kinds i) s)
act_own setting Break to s = Plainly (unwinds (reason.Break to) s)
act_own setting Continue to s = Plainly (unwinds (reason.Continue to) s)
act_own setting ReturnValue i s = Plainly (return_value s)
act_own setting ReturnConst i s = loads (slice_get (literals_of setting.code.code.constants) i) (λ v. unwinds (reason.Returning v) s)
act_own setting YieldValue i s = Plainly (yield_value s)
act_own setting ExtendedArg i s = Plainly (Goes (record (next s) { prefix = i }))
act_own setting _ i s = Plainly Stuck

-- what an instruction does, with its operand
abbrev pub act : Setting → Instruction → ℕ → State → Move
act setting op i s = acts_by (row_effect op i) (asked setting op i) (act_own setting op i s) s

-- a unit is begun, and does what its instruction does
abbrev pub unit_move : Setting → Option CodeUnit → State → Move
unit_move setting None s = Plainly Stuck
unit_move setting (Some u) s = act setting u.op (with_byte s.prefix u.arg) (begun s)

-- what the unit that comes next does
abbrev pub advance : Setting → State → Move
advance setting s = unit_move setting (slice_get setting.code.code.instructions.items s.at) s
