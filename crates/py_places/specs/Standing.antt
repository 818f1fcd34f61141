-- What the numbers of a place stand for: objects for themselves, literals for what their cells let them.
use Rattle.std.specs.Prelude.{ℕ, ◌<◌, ◌+◌, true, Option, Some, None, List, [], ◌∷◌, ◌≡◌, length}
use Rattle.py_objects.specs.declared.refs.PyBaseExceptionRef.{PyBaseExceptionRef}
use Rattle.py_objects.specs.declared.payload.Payload.{Payload}
use Rattle.py_objects.specs.declared.request.Request.{Request}
use Rattle.py_objects.specs.declared.request.Request.TheVariants as request
use Rattle.py_objects.specs.Objects.{Obj, HasPayload, as_exception, as_object}
use Rattle.py_tree.specs.Binding.{Env}
use Rattle.py_tree.specs.Outcome.{Outcome, Normal, Breaks, Continues, Returns, Raises, Cut, Handled}
use Rattle.py_places.specs.Cells.{Cell, Like, Is, Cells, same_literal, cell_at}
use Rattle.py_places.specs.Place.{Choice, Branches, Branches_else, Turns, Catches, Swallows, Then, Stored, Shown, Returned, Raising, Raised, Tested, Told, Classed, Entering, Entered, Refused, Passed, Operand, Frame, Behind, Turn, Final, Passing, Catch, Forget, Exit, Frames, Question, Looks_up, Requests, Last, Nothing_more, Value, Raise, Rest, Stuck, Starting, Asking, Waiting, Yielding, Suspended, Turning, Leaving, Leaving_by, Ending_by}

-- the object that each number stands for
abbrev pub Standing : Type 0
Standing = Obj → Obj

-- two that agree on all numbers below one
abbrev pub Same : ℕ → Standing → Standing → Type 0
Same n σ σ' = (v : Obj) → v.number < n → σ v ≡ σ' v

module _ (objects : List Payload) where
  -- an object may be what a number stands for of which this is known; what stands for a literal is an object of the same one
  abbrev pub MayBe : Option Cell → Obj → Obj → Type 0
  MayBe None v w = w ≡ v
  MayBe (Some (Like u)) v w = (p : Payload) × HasPayload objects u p × HasPayload objects w p × (same_literal p p ≡ true)
  MayBe (Some (Is u)) v w = w ≡ u

  -- the first number without an object and without a cell
  abbrev pub first_unused : Cells → ℕ
  first_unused cells = length objects + length cells

  -- each number that is used stands for what it may be
  abbrev pub IsChoice : Cells → Standing → Type 0
  IsChoice cells σ = (v : Obj) → v.number < first_unused cells → MayBe (cell_at objects cells v) v (σ v)

-- ---- what parts of a place are where numbers stand for these

abbrev pub for_exception : Standing → PyBaseExceptionRef → PyBaseExceptionRef
for_exception σ e = as_exception (σ (as_object e))

abbrev pub for_handled : Standing → Handled → Handled
for_handled σ None = None
for_handled σ (Some e) = Some (for_exception σ e)

abbrev pub for_option : Standing → Option Obj → Option Obj
for_option σ None = None
for_option σ (Some v) = Some (σ v)

abbrev pub for_all : Standing → List Obj → List Obj
for_all σ [] = []
for_all σ (v ∷ vs) = σ v ∷ for_all σ vs

abbrev pub for_env : Standing → Env → Env
for_env σ [] = []
for_env σ (p ∷ env) = (p.0, for_option σ p.1) ∷ for_env σ env

-- the requests that bodies make
abbrev pub for_request : Standing → Request → Request
for_request σ (request.Binary op a b) = request.Binary op (σ a) (σ b)
for_request σ (request.Compare op a b) = request.Compare op (σ a) (σ b)
for_request σ (request.Truth v) = request.Truth (σ v)
for_request σ (request.Match e c) = request.Match (σ e) (σ c)
for_request σ (request.Raisable v) = request.Raisable (σ v)
for_request σ (request.Show v) = request.Show (σ v)
for_request σ (request.Call f vs named) = request.Call (σ f) (for_all σ vs) named
for_request σ (request.Send g v) = request.Send (σ g) (σ v)
for_request σ (request.Throw g c v t) = request.Throw (σ g) (σ c) (for_option σ v) t
for_request σ (request.Close g) = request.Close (σ g)
for_request σ (request.Enter m) = request.Enter (σ m)
for_request σ (request.NoExit m) = request.NoExit (σ m)
for_request σ r = r

abbrev pub for_question : Standing → Question → Question
for_question σ (Looks_up x) = Looks_up x
for_question σ (Requests r) = Requests (for_request σ r)

abbrev pub for_outcome : Standing → Outcome → Outcome
for_outcome σ Normal = Normal
for_outcome σ Breaks = Breaks
for_outcome σ Continues = Continues
for_outcome σ (Returns v) = Returns (σ v)
for_outcome σ (Raises e) = Raises (for_exception σ e)
for_outcome σ Cut = Cut

abbrev pub for_choice : Standing → Choice → Choice
for_choice σ (Branches s) = Branches s
for_choice σ (Branches_else s t) = Branches_else s t
for_choice σ (Turns line e s) = Turns line e s
for_choice σ (Catches line x s more e) = Catches line x s more (for_exception σ e)
for_choice σ (Swallows e) = Swallows (for_exception σ e)

abbrev pub for_then : Standing → Then → Then
for_then σ (Stored x) = Stored x
for_then σ Shown = Shown
for_then σ Returned = Returned
for_then σ Raising = Raising
for_then σ Raised = Raised
for_then σ (Tested ch) = Tested (for_choice σ ch)
for_then σ (Told ch) = Told (for_choice σ ch)
for_then σ (Classed line x s more e) = Classed line x s more (for_exception σ e)
for_then σ (Entering line x s) = Entering line x s
for_then σ (Entered line m x s) = Entered line (σ m) x s
for_then σ Refused = Refused
for_then σ (Passed o) = Passed (for_outcome σ o)
for_then σ (Operand line o front back th) = Operand line o (for_all σ front) back (for_then σ th)

abbrev pub for_frame : Standing → Frame → Frame
for_frame σ (Behind h s) = Behind (for_handled σ h) s
for_frame σ (Turn h line e s) = Turn (for_handled σ h) line e s
for_frame σ (Final h t) = Final (for_handled σ h) t
for_frame σ (Passing o) = Passing (for_outcome σ o)
for_frame σ (Catch line cs) = Catch line cs
for_frame σ (Forget h x) = Forget (for_handled σ h) x
for_frame σ (Exit h line m) = Exit (for_handled σ h) line (σ m)

abbrev pub for_frames : Standing → Frames → Frames
for_frames σ [] = []
for_frames σ (f ∷ fs) = for_frame σ f ∷ for_frames σ fs

abbrev pub for_last : Standing → Last → Last
for_last σ Nothing_more = Nothing_more
for_last σ (Value v) = Value (σ v)
for_last σ (Raise e) = Raise (for_exception σ e)

abbrev pub for_rest : Standing → Rest → Rest
for_rest σ Stuck = Stuck
for_rest σ (Starting t args) = Starting t (for_all σ args)
for_rest σ (Asking env h q th fs) = Asking (for_env σ env) (for_handled σ h) (for_question σ q) (for_then σ th) (for_frames σ fs)
for_rest σ (Waiting env h th fs) = Waiting (for_env σ env) (for_handled σ h) (for_then σ th) (for_frames σ fs)
for_rest σ (Yielding env h v th fs) = Yielding (for_env σ env) (for_handled σ h) (σ v) (for_then σ th) (for_frames σ fs)
for_rest σ (Suspended env h th fs) = Suspended (for_env σ env) (for_handled σ h) (for_then σ th) (for_frames σ fs)
for_rest σ (Turning env h line e s fs) = Turning (for_env σ env) (for_handled σ h) line e s (for_frames σ fs)
for_rest σ (Leaving env h m th fs) = Leaving (for_env σ env) (for_handled σ h) (σ m) (for_then σ th) (for_frames σ fs)
for_rest σ (Leaving_by env h m e th fs) =
    Leaving_by (for_env σ env) (for_handled σ h) (σ m) (for_exception σ e) (for_then σ th) (for_frames σ fs)
for_rest σ (Ending_by l) = Ending_by (for_last σ l)
