-- Short lists of events, and which of them agree, where objects are the same by their numbers.
use Rattle.std.specs.Prelude.{ℕ, Bool, true, false, Some, None, List, [], ◌∷◌, ◌≢◌, ◌||◌, eqb, bytes_eq, slice_get}
use Rattle.std.specs.Ordering.{int_eq}
use Rattle.py_code.specs.declared.operator.BinaryOperator.TheVariants as binary
use Rattle.py_objects.specs.declared.refs.PyBaseExceptionRef.{PyBaseExceptionRef}
use Rattle.py_objects.specs.declared.payload.Payload.{Payload}
use Rattle.py_objects.specs.declared.payload.Payload.TheVariants as payload
use Rattle.py_objects.specs.declared.request.Request.TheVariants as request
use Rattle.py_objects.specs.declared.event.GotAnswer.TheVariants as got
use Rattle.py_objects.specs.declared.event.Ending.TheVariants as ending
use Rattle.py_objects.specs.Objects.{Obj}
use Rattle.py_objects.specs.Growth.{Grows}
use Rattle.py_objects.specs.Own.{Own, Asks, Gets, Ends}
use Rattle.py_objects.specs.Values.{both}
use Rattle.py_tree.specs.Scene.{Scene}
use Rattle.py_agreement.specs.Agreement.{Agree, IsFaithful, by_test}

-- two lists agree, objects of one number being the same
abbrev pub AgreeByNumber : List Own → List Own → Type 0
AgreeByNumber ts us = Agree (by_test eqb) ts us

-- the operands of a sum stand in their order
abbrev pub NoOperandsSwapped : Type 0
NoOperandsSwapped = (a b : Obj) (at at' : ℕ) → a ≢ b → AgreeByNumber (Asks at (request.Binary binary.Add a b) None ∷ []) (Asks at' (request.Binary binary.Add b a) None ∷ []) → ⊥

-- behind one answer, no other object is shown
abbrev pub NoOtherShown : Type 0
NoOtherShown = (u v w : Obj) (i j at at' : ℕ) → v ≢ w
    → AgreeByNumber (Gets i (got.Value u) ∷ Asks at (request.Show v) None ∷ []) (Gets j (got.Value u) ∷ Asks at' (request.Show w) None ∷ []) → ⊥

-- nor is the same one shown while another exception is handled
abbrev pub NoOtherHandled : Type 0
NoOtherHandled = (v : Obj) (e f : PyBaseExceptionRef) (at at' : ℕ) → e ≢ f → AgreeByNumber (Asks at (request.Show v) (Some e) ∷ []) (Asks at' (request.Show v) (Some f) ∷ []) → ⊥

-- a question isn't an end
abbrev pub NoQuestionForEnd : Type 0
NoQuestionForEnd = (v : Obj) (at at' : ℕ) → AgreeByNumber (Asks at (request.Show v) None ∷ []) (Ends at' (ending.Return v) ∷ []) → ⊥

-- no other object is returned
abbrev pub NoOtherEnd : Type 0
NoOtherEnd = (v w : Obj) (at at' : ℕ) → v ≢ w → AgreeByNumber (Ends at (ending.Return v) ∷ []) (Ends at' (ending.Return w) ∷ []) → ⊥

-- behind different answers two lists agree, whatever stands there
abbrev pub NothingBehindAnswers : Type 0
NothingBehindAnswers = (v w : Obj) (i j : ℕ) (ts us : List Own) → v ≢ w → AgreeByNumber (Gets i (got.Value v) ∷ ts) (Gets j (got.Value w) ∷ us)

-- two lists agree whose events and units have other numbers
abbrev pub NumbersAreFree : Type 0
NumbersAreFree = (v w : Obj) → AgreeByNumber (Asks 1 (request.Show v) None ∷ Gets 4 (got.Value w) ∷ Ends 2 (ending.Return w) ∷ []) (Asks 8 (request.Show v) None ∷ Gets 6 (got.Value w) ∷ Ends 9 (ending.Return w) ∷ [])

-- whether one literal may stand for objects of both payloads
abbrev pub same_literal : Payload → Payload → Bool
same_literal payload.None payload.None = true
same_literal (payload.Bool true) (payload.Bool true) = true
same_literal (payload.Bool false) (payload.Bool false) = true
same_literal (payload.Int m) (payload.Int n) = int_eq m n
same_literal (payload.Str s) (payload.Str t) = bytes_eq s t
same_literal _ _ = false

-- whether a number of the one run and one of the other are those of one object, or of two that one literal may stand for
abbrev pub is_like : List Payload → List Payload → ℕ → ℕ → Bool
is_like objects objects' m n = eqb m n || both same_literal (slice_get objects m) (slice_get objects' n)

-- by this test bodies see the same of related objects in every scene, and in one that has more objects
abbrev pub ScenesAreFaithful : Type 0
ScenesAreFaithful = (scene scene' : Scene) → Grows scene.objects scene'.objects → IsFaithful (by_test (is_like scene.objects scene'.objects)) scene scene'
