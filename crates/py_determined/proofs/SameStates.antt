-- When the states of two runs and their raises are the same, but for the numbers of objects.
use Rattle.std.specs.Prelude.{List, [], ◌∷◌, false, ◌≡◌}
use Rattle.py_objects.specs.declared.payload.Payload.{Payload}
use Rattle.py_objects.specs.Objects.{HasPayload}
use Rattle.py_run.specs.Run.{Pose, Requests, Posed, Phase, Idle, Asking, Going, Made, Due, Act, Activation, State}
use Rattle.py_determined.specs.Raises.{Raise}
use Rattle.py_agreement.specs.Agreement.{Relation, SameMaybe, SameHandled, SameAll, has_literal}
use Rattle.py_determined.specs.Sameness.{SameAsked, SameLeft}

-- what two drives pose: the same question. What an exception is made of is compared nowhere, since no script poses it, and so is what is reported, since
-- no script that is compared has a report
abbrev pub SamePose : Relation → Pose → Pose → Type 0
SamePose S (Requests r) (Requests q) = SameAsked S r q
SamePose S _ _ = ⊥

-- the same at the same depth
pub record SamePosed (S : Relation) (p q : Posed) : Type 0 where
  pub pose : SamePose S p.pose q.pose
  pub entered : p.entered ≡ q.entered

-- two phases
abbrev pub SamePhase : Relation → Phase → Phase → Type 0
SamePhase S Idle Idle = Unit {0}
SamePhase S Asking Asking = Unit {0}
SamePhase S Going Going = Unit {0}
SamePhase S (Made f) (Made g) = S f g
SamePhase S (Due how) (Due how') = SameLeft S how how'
SamePhase S _ _ = ⊥

-- two running activations of one number, with the same question, while the same exception is handled
pub record SameAct (S : Relation) (a b : Act) : Type 0 where
  pub number : a.number ≡ b.number
  pub asks : SameMaybe (SameAsked S) a.asks b.asks
  pub own : SameHandled S a.own b.own

-- running activations in order
abbrev pub SameActs : Relation → List Act → List Act → Type 0
SameActs S [] [] = Unit {0}
SameActs S (a ∷ stack) (b ∷ stack') = SameAct S a b × SameActs S stack stack'
SameActs S _ _ = ⊥

-- two activations of related functions, with related arguments
pub record SameActivation (S : Relation) (x y : Activation) : Type 0 where
  pub function : S x.function y.function
  pub args : SameAll S x.args y.args

-- activations in order
abbrev pub SameActivations : Relation → List Activation → List Activation → Type 0
SameActivations S [] [] = Unit {0}
SameActivations S (x ∷ xs) (y ∷ ys) = SameActivation S x y × SameActivations S xs ys
SameActivations S _ _ = ⊥

-- two states of runs
pub record SameState (S : Relation) (s s' : State) : Type 0 where
  pub done : s.done ≡ s'.done
  pub phase : SamePhase S s.phase s'.phase
  pub stack : SameActs S s.stack s'.stack
  pub made : SameActivations S s.made s'.made

-- two raises of related exceptions, with related tracebacks. Of what a literal may stand for the traceback is left open, since two None may be one
-- object of the one run and two of the other
pub record SameRaise (S : Relation) (objects : List Payload) (x y : Raise) : Type 0 where
  pub exception : S x.exception y.exception
  pub traceback : (p : Payload) → HasPayload objects x.exception p → has_literal p ≡ false → SameMaybe S x.traceback y.traceback

-- raises in order
abbrev pub SameRaises : Relation → List Payload → List Raise → List Raise → Type 0
SameRaises S objects [] [] = Unit {0}
SameRaises S objects (x ∷ xs) (y ∷ ys) = SameRaise S objects x y × SameRaises S objects xs ys
SameRaises S objects _ _ = ⊥
