-- When a place tells what a part of a tree tells: by some choice of what its literals stand for, and only by such.
use Rattle.std.proofs.Common.{◌≡◌, ◌≤◌, ℕ, List, ◌∷◌, Option, Some, None, length}
use Rattle.py_code.specs.declared.operator.BinaryOperator.TheVariants as binary
use Rattle.py_code.specs.declared.operator.ComparisonOperator.TheVariants as comparison
use Rattle.py_objects.specs.declared.payload.Payload.{Payload}
use Rattle.py_objects.specs.declared.request.Keywords.TheVariants as keywords
use Rattle.py_objects.specs.declared.request.Request.{Request}
use Rattle.py_objects.specs.declared.request.Request.TheVariants as request
use Rattle.py_objects.specs.Objects.{Obj}
use Rattle.py_objects.specs.Own.{Own, Makes, Resumes, Asks, Gets, Rounds, Yields, Ends}
use Rattle.py_tree.specs.Tree.{Suite}
use Rattle.py_tree.specs.Binding.{Env}
use Rattle.py_tree.specs.Outcome.{Outcome, Handled, RunsSuite}
use Rattle.py_places.specs.Cells.{Cells}
use Rattle.py_places.specs.Place.{Choice, Then, Frames, Question, Looks_up, Requests, Rest, Stuck, Starting, Asking, Waiting, Yielding, Suspended, Turning, Leaving, Leaving_by, Ending_by, Place}
use Rattle.py_places.specs.Silent.{Back, Goes}
use Rattle.py_places.specs.Telling.{scene, follows, next, Tells}
use Rattle.py_places.specs.Standing.{Standing, Same, first_unused, IsChoice, for_handled, for_env, for_outcome, for_choice, for_then, for_frames, for_rest}

-- numbers that a part of a place names stand for the same by all that agree below n
abbrev pub Scoped : {X : Type 0} → ℕ → (Standing → X) → Type 0
Scoped n f = (σ σ' : Standing) → Same n σ σ' → f σ ≡ f σ'

abbrev pub ObjScoped : ℕ → Obj → Type 0
ObjScoped n v = Scoped n (λ σ. σ v)

abbrev pub EnvScoped : ℕ → Env → Type 0
EnvScoped n env = Scoped n (λ σ. for_env σ env)

abbrev pub HandledScoped : ℕ → Handled → Type 0
HandledScoped n h = Scoped n (λ σ. for_handled σ h)

abbrev pub OutcomeScoped : ℕ → Outcome → Type 0
OutcomeScoped n o = Scoped n (λ σ. for_outcome σ o)

abbrev pub ChoiceScoped : ℕ → Choice → Type 0
ChoiceScoped n ch = Scoped n (λ σ. for_choice σ ch)

abbrev pub ThenScoped : ℕ → Then → Type 0
ThenScoped n th = Scoped n (λ σ. for_then σ th)

abbrev pub FramesScoped : ℕ → Frames → Type 0
FramesScoped n fs = Scoped n (λ σ. for_frames σ fs)

abbrev pub RestScoped : ℕ → Rest → Type 0
RestScoped n r = Scoped n (λ σ. for_rest σ r)

-- a request that bodies make
abbrev pub IsAskable : Request → Type 0
IsAskable (request.Unbound x) = Unit {0}
IsAskable (request.Binary binary.Add a b) = Unit {0}
IsAskable (request.Binary binary.Subtract a b) = Unit {0}
IsAskable (request.Compare comparison.Less a b) = Unit {0}
IsAskable (request.Compare comparison.Equal a b) = Unit {0}
IsAskable (request.Truth v) = Unit {0}
IsAskable (request.Match e c) = Unit {0}
IsAskable request.Handled = Unit {0}
IsAskable (request.Raisable v) = Unit {0}
IsAskable (request.Show v) = Unit {0}
IsAskable (request.Call f vs keywords.None) = Unit {0}
IsAskable (request.Send g v) = Unit {0}
IsAskable (request.Throw g c v None) = Unit {0}
IsAskable (request.Close g) = Unit {0}
IsAskable (request.Enter m) = Unit {0}
IsAskable (request.NoExit m) = Unit {0}
IsAskable _ = ⊥

abbrev pub IsAskableQuestion : Question → Type 0
IsAskableQuestion (Looks_up x) = Unit {0}
IsAskableQuestion (Requests r) = IsAskable r

-- what is asked at a rest is such
abbrev pub AsksKnown : Rest → Type 0
AsksKnown Stuck = Unit {0}
AsksKnown (Starting t args) = Unit {0}
AsksKnown (Asking env h q th fs) = IsAskableQuestion q
AsksKnown (Waiting env h th fs) = Unit {0}
AsksKnown (Yielding env h v th fs) = Unit {0}
AsksKnown (Suspended env h th fs) = Unit {0}
AsksKnown (Turning env h line e s fs) = Unit {0}
AsksKnown (Leaving env h m th fs) = Unit {0}
AsksKnown (Leaving_by env h m e th fs) = Unit {0}
AsksKnown (Ending_by l) = Unit {0}

-- what is told by a choice, behind the event of a number
abbrev pub TellsBy : Type 1
TellsBy = Standing → ℕ → List Own → Type 0

-- the number of the event that was heard last, behind an event more
abbrev pub heard_last : ℕ → Own → ℕ
heard_last k Makes = k
heard_last k (Resumes i w) = i
heard_last k (Asks at r h) = k
heard_last k (Gets i w) = i
heard_last k (Rounds at) = k
heard_last k (Yields at v) = k
heard_last k (Ends at e) = k

module _ (objects : List Payload) (globals : Obj) where
  abbrev pub HasChoice : Cells → Type 0
  HasChoice cells = (σ : Standing) × IsChoice objects cells σ

  -- a choice goes on to one of a place, by which this is told there, and which agrees with it below n
  abbrev pub Forth : ℕ → Place → Standing → ℕ → List Own → Type 0
  Forth n m σ k ts = (σ' : Standing) × IsChoice objects m.cells σ' × Same n σ σ' × Tells objects globals (for_rest σ' m.rest) k ts

  -- the place to which one comes from these cells tells what P tells: each choice there is one here, by which P tells what is told there, and each choice here
  -- by which P tells something goes on to one by which it is told there
  pub record Fits (cells : Cells) (m : Place) (P : TellsBy) : Type 0 where
    pub earlier : (σ : Standing) → IsChoice objects m.cells σ → IsChoice objects cells σ
    pub sound : (σ : Standing) → IsChoice objects m.cells σ → (k : ℕ) (ts : List Own) → Tells objects globals (for_rest σ m.rest) k ts → P σ k ts
    pub forth : (σ : Standing) → IsChoice objects cells σ → (k : ℕ) (e : Own) (ts : List Own) → P σ k (e ∷ ts)
        → Forth (first_unused objects cells) m σ k (e ∷ ts)
    pub scoped : RestScoped (first_unused objects m.cells) m.rest
    pub asks : AsksKnown m.rest
    pub grows : length cells ≤ length m.cells
    pub chance : HasChoice cells → HasChoice m.cells

  -- the same where there may be no place: then nothing is told
  abbrev pub FitsIf : Cells → Option Place → TellsBy → Type 0
  FitsIf cells None P = (σ : Standing) → IsChoice objects cells σ → (k : ℕ) (ts : List Own) → P σ k ts → ⊥
  FitsIf cells (Some m) P = Fits cells m P

  -- one goes on with a value from any cells that are at least these
  abbrev pub GoesTo : Then → Env → Handled → Frames → Goes → Cells → Type 0
  GoesTo th env h fs go cells =
      (v : Obj) (cells1 : Cells) → length cells ≤ length cells1 → ObjScoped (first_unused objects cells1) v
      → FitsIf cells1 (go v cells1) (λ σ. next objects globals (for_then σ th) (for_env σ env) (for_handled σ h) (for_frames σ fs) (σ v))

  -- behind an outcome among frames
  abbrev pub BackFits : Frames → Back → Type 0
  BackFits fs back =
      (env : Env) (o : Outcome) (cells : Cells) → EnvScoped (first_unused objects cells) env → FramesScoped (first_unused objects cells) fs
      → OutcomeScoped (first_unused objects cells) o
      → FitsIf cells (back env o cells) (λ σ. follows objects globals (for_frames σ fs) (for_env σ env) (for_outcome σ o))

  -- from a suite among frames
  abbrev pub GoFits : Suite → Frames → Handled → (Env → Cells → Place) → Type 0
  GoFits s fs h go =
      (env : Env) (cells : Cells) → EnvScoped (first_unused objects cells) env → HandledScoped (first_unused objects cells) h
      → FramesScoped (first_unused objects cells) fs
      → Fits cells (go env cells)
      (λ σ k ts. RunsSuite (scene objects globals) s (for_env σ env) (for_handled σ h) k ts (follows objects globals (for_frames σ fs)))

  -- what an event leaves of a place, by a choice of what is left
  pub record Leaves (p : Place) (e : Own) (p1 : Place) : Type 0 where
    pub earlier : (σ : Standing) → IsChoice objects p1.cells σ → IsChoice objects p.cells σ
    pub sound : (σ : Standing) → IsChoice objects p1.cells σ → (k : ℕ) (ts : List Own)
        → Tells objects globals (for_rest σ p1.rest) (heard_last k e) ts → Tells objects globals (for_rest σ p.rest) k (e ∷ ts)
    pub forth : (σ : Standing) → IsChoice objects p.cells σ → (k : ℕ) (d : Own) (ts : List Own)
        → Tells objects globals (for_rest σ p.rest) k (e ∷ d ∷ ts) → Forth (first_unused objects p.cells) p1 σ (heard_last k e) (d ∷ ts)
    pub scoped : RestScoped (first_unused objects p1.cells) p1.rest
    pub asks : AsksKnown p1.rest
    pub grows : length p.cells ≤ length p1.cells
    pub chance : HasChoice p.cells → HasChoice p1.cells
