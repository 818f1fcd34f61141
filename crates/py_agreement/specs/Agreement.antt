-- When two traces of one tree agree, but for the numbers of objects, of events and of units.
use Rattle.std.specs.Prelude.{ℕ, Bool, true, false, Option, Some, None, List, [], ◌∷◌, ◌≡◌}
use Rattle.py_objects.specs.declared.refs.PyBaseExceptionRef.{PyBaseExceptionRef}
use Rattle.py_objects.specs.declared.payload.Payload.{Payload}
use Rattle.py_objects.specs.declared.payload.Payload.TheVariants as payload
use Rattle.py_objects.specs.declared.payload.ExceptionBody.{ExceptionBody}
use Rattle.py_objects.specs.declared.request.Keywords.TheVariants as keywords
use Rattle.py_objects.specs.declared.request.Request.{Request}
use Rattle.py_objects.specs.declared.request.Request.TheVariants as request
use Rattle.py_objects.specs.declared.event.GotAnswer.{GotAnswer}
use Rattle.py_objects.specs.declared.event.GotAnswer.TheVariants as got
use Rattle.py_objects.specs.declared.event.ResumeHow.{ResumeHow}
use Rattle.py_objects.specs.declared.event.ResumeHow.TheVariants as how
use Rattle.py_objects.specs.declared.event.Ending.{Ending}
use Rattle.py_objects.specs.declared.event.Ending.TheVariants as ending
use Rattle.py_objects.specs.Objects.{Obj, HasPayload, as_object, class_object}
use Rattle.py_objects.specs.Own.{Own, Makes, Resumes, Asks, Gets, Rounds, Yields, Ends}
use Rattle.py_objects.specs.Callees.{builtin_of, is_manager}
use Rattle.py_tree.specs.Binding.{Env}
use Rattle.py_tree.specs.Scene.{Scene}
use Rattle.py_tree.specs.Outcome.{Handled}

-- which objects of two runs are related: the first one is of the one run, the second one of the other
abbrev pub Relation : Type 1
Relation = Obj → Obj → Type 0

-- the objects whose numbers pass a test
abbrev pub by_test : (ℕ → ℕ → Bool) → Relation
by_test same v w = same v.number w.number ≡ true

-- two exceptions, related as objects
abbrev pub SameException : Relation → PyBaseExceptionRef → PyBaseExceptionRef → Type 0
SameException S e f = S (as_object e) (as_object f)

-- none on both sides, or two that are related
abbrev pub SameMaybe : {A : Type 0} → (A → A → Type 0) → Option A → Option A → Type 0
SameMaybe S None None = Unit {0}
SameMaybe S (Some v) (Some w) = S v w
SameMaybe S _ _ = ⊥

-- what is handled: nothing on both sides, or related exceptions
abbrev pub SameHandled : Relation → Handled → Handled → Type 0
SameHandled S h h' = SameMaybe (SameException S) h h'

-- as many objects on both sides, related in order
abbrev pub SameAll : Relation → List Obj → List Obj → Type 0
SameAll S [] [] = Unit {0}
SameAll S (v ∷ vs) (w ∷ ws) = S v w × SameAll S vs ws
SameAll S _ _ = ⊥

-- two requests of one kind, with the same names and operators, of related objects. There is a line for each request that trees make, and
-- no other two are the same. Left out are the traceback of an exit, since trees leave it open which one that is, and the dict in which a name is
-- looked up, which is one and the same throughout a run, and no value
abbrev pub SameRequest : Relation → Request → Request → Type 0
SameRequest S (request.Unbound x) (request.Unbound y) = x ≡ y
SameRequest S (request.Global d x) (request.Global d' y) = x ≡ y
SameRequest S (request.Binary op a b) (request.Binary op' a' b') = (op ≡ op') × S a a' × S b b'
SameRequest S (request.Compare op a b) (request.Compare op' a' b') = (op ≡ op') × S a a' × S b b'
SameRequest S (request.Truth v) (request.Truth w) = S v w
SameRequest S (request.Match e c) (request.Match e' c') = S e e' × S c c'
SameRequest S request.Handled request.Handled = Unit {0}
SameRequest S (request.Raisable v) (request.Raisable w) = S v w
SameRequest S (request.Show v) (request.Show w) = S v w
SameRequest S (request.Call f vs keywords.None) (request.Call g ws keywords.None) = S f g × SameAll S vs ws
SameRequest S (request.Send g v) (request.Send g' w) = S g g' × S v w
SameRequest S (request.Throw g c v t) (request.Throw g' c' v' t') = S g g' × S c c' × SameMaybe S v v' × SameMaybe S t t'
SameRequest S (request.Close g) (request.Close g') = S g g'
SameRequest S (request.Enter m) (request.Enter m') = S m m'
SameRequest S (request.Exit m c e t) (request.Exit m' c' e' t') = S m m' × S c c' × S e e'
SameRequest S (request.NoExit m) (request.NoExit m') = S m m'
SameRequest S _ _ = ⊥

-- two answers of one kind, with related objects
abbrev pub SameAnswer : Relation → GotAnswer → GotAnswer → Type 0
SameAnswer S (got.Value v) (got.Value w) = S v w
SameAnswer S (got.Stop v) (got.Stop w) = SameMaybe S v w
SameAnswer S (got.Raise e) (got.Raise f) = SameException S e f
SameAnswer S _ _ = ⊥

-- two entries of one kind, with related objects
abbrev pub SameHow : Relation → ResumeHow → ResumeHow → Type 0
SameHow S how.Start how.Start = Unit {0}
SameHow S (how.Send v) (how.Send w) = S v w
SameHow S (how.Throw e) (how.Throw f) = SameException S e f
SameHow S _ _ = ⊥

-- two ends of one kind, by related objects
abbrev pub SameEnding : Relation → Ending → Ending → Type 0
SameEnding S (ending.Return v) (ending.Return w) = S v w
SameEnding S (ending.Raise e) (ending.Raise f) = SameException S e f
SameEnding S _ _ = ⊥

-- two events agree, where the last argument is what those behind them come to: what a body tells is the same; what it hears may differ, and
-- then nothing is said of what stands behind. The numbers of events and units are free
abbrev pub AgreeStep : Relation → Own → Own → Type 0 → Type 0
AgreeStep S Makes Makes behind = behind
AgreeStep S (Resumes i w) (Resumes j w') behind = SameHow S w w' → behind
AgreeStep S (Asks at r h) (Asks at' r' h') behind = SameRequest S r r' × SameHandled S h h' × behind
AgreeStep S (Gets i w) (Gets j w') behind = SameAnswer S w w' → behind
AgreeStep S (Rounds at) (Rounds at') behind = behind
AgreeStep S (Yields at v) (Yields at' w) behind = S v w × behind
AgreeStep S (Ends at e) (Ends at' f) behind = SameEnding S e f × behind
AgreeStep S _ _ behind = ⊥

-- two lists of events agree as far as both go: where either one ends nothing more is said
abbrev pub Agree : Relation → List Own → List Own → Type 0
Agree S [] us = Unit {0}
Agree S (t ∷ ts) [] = Unit {0}
Agree S (t ∷ ts) (u ∷ us) = AgreeStep S t u (Agree S ts us)

-- the same locals in one order, unset on both sides or with related objects
abbrev pub SameEnv : Relation → Env → Env → Type 0
SameEnv S [] [] = Unit {0}
SameEnv S (p ∷ env) (q ∷ env') = (p.0 ≡ q.0) × SameMaybe S p.1 q.1 × SameEnv S env env'
SameEnv S _ _ = ⊥

-- whether a literal may stand for objects of this payload
abbrev pub has_literal : Payload → Bool
has_literal payload.None = true
has_literal (payload.Bool b) = true
has_literal (payload.Int n) = true
has_literal (payload.Str s) = true
has_literal _ = false

-- what bodies see of related objects is the same: two objects that one literal may stand for are related; related truth values are equal;
-- related exceptions have related classes; and of two related objects both are the same function of the machine's own, or none is one, and both
-- are managers, or none is
pub record IsFaithful (S : Relation) (scene scene' : Scene) : Type 0 where
  pub literals : (p : Payload) (v w : Obj) → has_literal p ≡ true → HasPayload scene.objects v p → HasPayload scene'.objects w p → S v w
  pub truths : (v w : Obj) (b c : Bool) → S v w → HasPayload scene.objects v (payload.Bool b) → HasPayload scene'.objects w (payload.Bool c) → b ≡ c
  pub classes : (e f : PyBaseExceptionRef) (body body' : ExceptionBody) → SameException S e f → HasPayload scene.objects (as_object e) (payload.Exception body)
      → HasPayload scene'.objects (as_object f) (payload.Exception body') → S (class_object body.class) (class_object body'.class)
  pub builtins : (v w : Obj) (p q : Payload) → S v w → HasPayload scene.objects v p → HasPayload scene'.objects w q → builtin_of p ≡ builtin_of q
  pub managers : (v w : Obj) (p q : Payload) → S v w → HasPayload scene.objects v p → HasPayload scene'.objects w q → is_manager p ≡ is_manager q
