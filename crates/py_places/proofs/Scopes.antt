-- Which parts of a place name only numbers below one: by what they consist of.
use Rattle.std.proofs.Common.{◌≡◌, ◌≤◌, ℕ, List, [], ◌∷◌, ◌++◌, Option, Some, refl, sym, ap, ◌∙◌, length, arith}
use Rattle.py_objects.specs.declared.refs.PyBaseExceptionRef.{PyBaseExceptionRef}
use Rattle.py_objects.specs.declared.payload.Payload.{Payload}
use Rattle.py_objects.specs.Objects.{Obj, as_object}
use Rattle.py_tree.specs.declared.expr.Operator.{Operator}
use Rattle.py_tree.specs.Tree.{Name, Expr, Exprs, Suite, Clauses}
use Rattle.py_tree.specs.Binding.{Env}
use Rattle.py_tree.specs.Outcome.{Outcome, Normal, Breaks, Continues, Returns, Raises, Cut, Handled, behind}
use Rattle.py_places.specs.Cells.{Cells}
use Rattle.py_places.specs.Place.{Choice, Catches, Swallows, Then, Tested, Told, Classed, Entered, Passed, Operand, Frame, Behind, Turn, Final, Passing, Forget, Exit, Frames, Question, Looks_up, Last, Value, Raise, Asking, Yielding, Turning, Leaving, Leaving_by, Ending_by}
use Rattle.py_places.specs.Standing.{Standing, Same, first_unused, for_exception, for_handled, for_all, for_question, for_outcome, for_then, for_frame, for_frames, for_last}
use Rattle.py_places.proofs.Fits.{Scoped, ObjScoped, EnvScoped, HandledScoped, OutcomeScoped, ChoiceScoped, ThenScoped, FramesScoped, RestScoped}

abbrev pub ExceptionScoped : ℕ → PyBaseExceptionRef → Type 0
ExceptionScoped n e = Scoped n (λ σ. for_exception σ e)

abbrev pub AllScoped : ℕ → List Obj → Type 0
AllScoped n vs = Scoped n (λ σ. for_all σ vs)

abbrev pub QuestionScoped : ℕ → Question → Type 0
QuestionScoped n q = Scoped n (λ σ. for_question σ q)

abbrev pub FrameScoped : ℕ → Frame → Type 0
FrameScoped n f = Scoped n (λ σ. for_frame σ f)

abbrev pub LastScoped : ℕ → Last → Type 0
LastScoped n l = Scoped n (λ σ. for_last σ l)

-- those that agree below more agree below less
pub same_less : (n m : ℕ) (σ σ' : Standing) → n ≤ m → Same m σ σ' → Same n σ σ'
same_less n m σ σ' le same v below = same v (omega (arith, le, below))

pub wider : {X : Type 0} (n m : ℕ) (f : Standing → X) → n ≤ m → Scoped n f → Scoped m f
wider n m f le scoped σ σ' same = scoped σ σ' (same_less n m σ σ' le same)

-- what names numbers in use names such with more cells
pub longer : {X : Type 0} {f : Standing → X} (objects : List Payload) (cells cells1 : Cells) → length cells ≤ length cells1
    → Scoped (first_unused objects cells) f → Scoped (first_unused objects cells1) f
longer {f = f} objects cells cells1 le scoped = wider (first_unused objects cells) (first_unused objects cells1) f (omega (arith, le)) scoped

pub always : {X : Type 0} (n : ℕ) (x : X) → Scoped n (λ σ. x)
always n x σ σ' same = refl

-- ---- exceptions and outcomes

-- an exception is scoped as an object
pub exception_object : (n : ℕ) (e : PyBaseExceptionRef) → ExceptionScoped n e → ObjScoped n (as_object e)
exception_object n e se σ σ' same = ap as_object (se σ σ' same)

pub handled_scoped : (n : ℕ) (e : PyBaseExceptionRef) → ExceptionScoped n e → HandledScoped n (Some e)
handled_scoped n e se σ σ' same = ap Some (se σ σ' same)

pub returns_scoped : (n : ℕ) (v : Obj) → ObjScoped n v → OutcomeScoped n (Returns v)
returns_scoped n v sv σ σ' same = ap Returns (sv σ σ' same)

pub returned_scoped : (n : ℕ) (v : Obj) → OutcomeScoped n (Returns v) → ObjScoped n v
returned_scoped n v so σ σ' same = cc (so σ σ' same)

pub raises_scoped : (n : ℕ) (e : PyBaseExceptionRef) → ExceptionScoped n e → OutcomeScoped n (Raises e)
raises_scoped n e se σ σ' same = ap Raises (se σ σ' same)

pub raised_scoped : (n : ℕ) (e : PyBaseExceptionRef) → OutcomeScoped n (Raises e) → ExceptionScoped n e
raised_scoped n e so σ σ' same = cc (so σ σ' same)

pub behind_for : (σ : Standing) (o o2 : Outcome) → for_outcome σ (behind o o2) ≡ behind (for_outcome σ o) (for_outcome σ o2)
behind_for σ o Normal = refl
behind_for σ o Breaks = refl
behind_for σ o Continues = refl
behind_for σ o (Returns v) = refl
behind_for σ o (Raises e) = refl
behind_for σ o Cut = refl

pub both_scoped : (n : ℕ) (o o2 : Outcome) → OutcomeScoped n o → OutcomeScoped n o2 → OutcomeScoped n (behind o o2)
both_scoped n o o2 so so2 σ σ' same =
    behind_for σ o o2
    ∙ (ap (λ p. behind p (for_outcome σ o2)) (so σ σ' same) ∙ (ap (behind (for_outcome σ' o)) (so2 σ σ' same) ∙ sym (behind_for σ' o o2)))

-- ---- several objects

pub one_more_for : (σ : Standing) (vs : List Obj) (v : Obj) → for_all σ (vs ++ v ∷ []) ≡ for_all σ vs ++ σ v ∷ []
one_more_for σ [] v = refl
one_more_for σ (w ∷ vs) v = ap (λ ws. σ w ∷ ws) (one_more_for σ vs v)

pub one_more_scoped : (n : ℕ) (vs : List Obj) (v : Obj) → AllScoped n vs → ObjScoped n v → AllScoped n (vs ++ v ∷ [])
one_more_scoped n vs v svs sv σ σ' same =
    one_more_for σ vs v ∙ (ap (λ ws. ws ++ σ v ∷ []) (svs σ σ' same) ∙ (ap (λ w. for_all σ' vs ++ w ∷ []) (sv σ σ' same) ∙ sym (one_more_for σ' vs v)))

pub head_scoped : (n : ℕ) (v : Obj) (vs : List Obj) → AllScoped n (v ∷ vs) → ObjScoped n v
head_scoped n v vs svs σ σ' same = cc (svs σ σ' same)

pub tail_scoped : (n : ℕ) (v : Obj) (vs : List Obj) → AllScoped n (v ∷ vs) → AllScoped n vs
tail_scoped n v vs svs σ σ' same = cc (svs σ σ' same)

-- ---- what becomes of a value

pub catches_scoped : (n line : ℕ) (x : Option Name) (s : Suite) (more : Clauses) (e : PyBaseExceptionRef) → ExceptionScoped n e
    → ChoiceScoped n (Catches line x s more e)
catches_scoped n line x s more e se σ σ' same = ap (Catches line x s more) (se σ σ' same)

pub swallows_scoped : (n : ℕ) (e : PyBaseExceptionRef) → ExceptionScoped n e → ChoiceScoped n (Swallows e)
swallows_scoped n e se σ σ' same = ap Swallows (se σ σ' same)

pub tested_scoped : (n : ℕ) (ch : Choice) → ChoiceScoped n ch → ThenScoped n (Tested ch)
tested_scoped n ch sc σ σ' same = ap Tested (sc σ σ' same)

pub told_scoped : (n : ℕ) (ch : Choice) → ChoiceScoped n ch → ThenScoped n (Told ch)
told_scoped n ch sc σ σ' same = ap Told (sc σ σ' same)

pub classed_scoped : (n line : ℕ) (x : Option Name) (s : Suite) (more : Clauses) (e : PyBaseExceptionRef) → ExceptionScoped n e
    → ThenScoped n (Classed line x s more e)
classed_scoped n line x s more e se σ σ' same = ap (Classed line x s more) (se σ σ' same)

pub entered_scoped : (n line : ℕ) (m : Obj) (x : Option Name) (s : Suite) → ObjScoped n m → ThenScoped n (Entered line m x s)
entered_scoped n line m x s sm σ σ' same = ap (λ v. Entered line v x s) (sm σ σ' same)

pub passed_scoped : (n : ℕ) (o : Outcome) → OutcomeScoped n o → ThenScoped n (Passed o)
passed_scoped n o so σ σ' same = ap Passed (so σ σ' same)

pub operand_scoped : (n line : ℕ) (o : Operator) (front : List Obj) (back : Exprs) (th : Then) → AllScoped n front → ThenScoped n th
    → ThenScoped n (Operand line o front back th)
operand_scoped n line o front back th sv st σ σ' same =
    ap (λ vs. Operand line o vs back (for_then σ th)) (sv σ σ' same) ∙ ap (Operand line o (for_all σ' front) back) (st σ σ' same)

-- ---- frames

pub frame_scoped : (n : ℕ) (f : Frame) (fs : Frames) → FrameScoped n f → FramesScoped n fs → FramesScoped n (f ∷ fs)
frame_scoped n f fs s sf σ σ' same = ap (λ g. g ∷ for_frames σ fs) (s σ σ' same) ∙ ap (λ l. for_frame σ' f ∷ l) (sf σ σ' same)

-- those behind the innermost one
pub behind_scoped : (n : ℕ) (f : Frame) (fs : Frames) → FramesScoped n (f ∷ fs) → FramesScoped n fs
behind_scoped n f fs scoped σ σ' same = cc (scoped σ σ' same)

pub behind_frame : (n : ℕ) (h : Handled) (s : Suite) → HandledScoped n h → FrameScoped n (Behind h s)
behind_frame n h s sh σ σ' same = ap (λ g. Behind g s) (sh σ σ' same)

pub turn_frame : (n : ℕ) (h : Handled) (line : ℕ) (e : Expr) (s : Suite) → HandledScoped n h → FrameScoped n (Turn h line e s)
turn_frame n h line e s sh σ σ' same = ap (λ g. Turn g line e s) (sh σ σ' same)

pub final_frame : (n : ℕ) (h : Handled) (t : Suite) → HandledScoped n h → FrameScoped n (Final h t)
final_frame n h t sh σ σ' same = ap (λ g. Final g t) (sh σ σ' same)

pub passing_frame : (n : ℕ) (o : Outcome) → OutcomeScoped n o → FrameScoped n (Passing o)
passing_frame n o so σ σ' same = ap Passing (so σ σ' same)

pub forget_frame : (n : ℕ) (h : Handled) (x : Name) → HandledScoped n h → FrameScoped n (Forget h x)
forget_frame n h x sh σ σ' same = ap (λ g. Forget g x) (sh σ σ' same)

pub exit_frame : (n : ℕ) (h : Handled) (line : ℕ) (m : Obj) → HandledScoped n h → ObjScoped n m → FrameScoped n (Exit h line m)
exit_frame n h line m sh sm σ σ' same = ap (λ g. Exit g line (σ m)) (sh σ σ' same) ∙ ap (λ v. Exit (for_handled σ' h) line v) (sm σ σ' same)

-- what the innermost one names
pub behind_handled : (n : ℕ) (h : Handled) (s : Suite) (fs : Frames) → FramesScoped n (Behind h s ∷ fs) → HandledScoped n h
behind_handled n h s fs sf σ σ' same = cc (sf σ σ' same)

pub turn_handled : (n : ℕ) (h : Handled) (line : ℕ) (e : Expr) (s : Suite) (fs : Frames) → FramesScoped n (Turn h line e s ∷ fs) → HandledScoped n h
turn_handled n h line e s fs sf σ σ' same = cc (sf σ σ' same)

pub final_handled : (n : ℕ) (h : Handled) (t : Suite) (fs : Frames) → FramesScoped n (Final h t ∷ fs) → HandledScoped n h
final_handled n h t fs sf σ σ' same = cc (sf σ σ' same)

pub passing_outcome : (n : ℕ) (o : Outcome) (fs : Frames) → FramesScoped n (Passing o ∷ fs) → OutcomeScoped n o
passing_outcome n o fs sf σ σ' same = cc (sf σ σ' same)

pub exit_handled : (n : ℕ) (h : Handled) (line : ℕ) (m : Obj) (fs : Frames) → FramesScoped n (Exit h line m ∷ fs) → HandledScoped n h
exit_handled n h line m fs sf σ σ' same = cc (sf σ σ' same)

pub exit_manager : (n : ℕ) (h : Handled) (line : ℕ) (m : Obj) (fs : Frames) → FramesScoped n (Exit h line m ∷ fs) → ObjScoped n m
exit_manager n h line m fs sf σ σ' same = cc (sf σ σ' same)

-- ---- rests

pub looks_up_scoped : (n : ℕ) (x : Name) → QuestionScoped n (Looks_up x)
looks_up_scoped n x σ σ' same = refl

module _ (n : ℕ) (env : Env) (h : Handled) (th : Then) (fs : Frames)
    (se : EnvScoped n env) (sh : HandledScoped n h) (st : ThenScoped n th) (sf : FramesScoped n fs) where
  pub asking_scoped : (q : Question) → QuestionScoped n q → RestScoped n (Asking env h q th fs)
  asking_scoped q sq σ σ' same = cc (se σ σ' same, sh σ σ' same, sq σ σ' same, st σ σ' same, sf σ σ' same)

  pub yielding_scoped : (v : Obj) → ObjScoped n v → RestScoped n (Yielding env h v th fs)
  yielding_scoped v sv σ σ' same = cc (se σ σ' same, sh σ σ' same, sv σ σ' same, st σ σ' same, sf σ σ' same)

  pub leaving_scoped : (m : Obj) → ObjScoped n m → RestScoped n (Leaving env h m th fs)
  leaving_scoped m sm σ σ' same = cc (se σ σ' same, sh σ σ' same, sm σ σ' same, st σ σ' same, sf σ σ' same)

  pub leaving_by_scoped : (m : Obj) (e : PyBaseExceptionRef) → ObjScoped n m → ExceptionScoped n e → RestScoped n (Leaving_by env h m e th fs)
  leaving_by_scoped m e sm sx σ σ' same = cc (se σ σ' same, sh σ σ' same, sm σ σ' same, sx σ σ' same, st σ σ' same, sf σ σ' same)

pub turning_scoped : (n : ℕ) (env : Env) (h : Handled) (line : ℕ) (e : Expr) (s : Suite) (fs : Frames)
    → EnvScoped n env → HandledScoped n h → FramesScoped n fs → RestScoped n (Turning env h line e s fs)
turning_scoped n env h line e s fs se sh sf σ σ' same = cc (se σ σ' same, sh σ σ' same, sf σ σ' same)

pub ending_scoped : (n : ℕ) (l : Last) → LastScoped n l → RestScoped n (Ending_by l)
ending_scoped n l sl σ σ' same = ap Ending_by (sl σ σ' same)

pub value_scoped : (n : ℕ) (v : Obj) → ObjScoped n v → LastScoped n (Value v)
value_scoped n v sv σ σ' same = ap Value (sv σ σ' same)

pub raise_scoped : (n : ℕ) (e : PyBaseExceptionRef) → ExceptionScoped n e → LastScoped n (Raise e)
raise_scoped n e se σ σ' same = ap Raise (se σ σ' same)
