-- A suite is entered, and one goes on behind an outcome among any frames.
use Rattle.std.proofs.Common.{◌≤◌, ℕ, List, [], ◌∷◌, Some, None, refl, ap, length}
use Rattle.py_objects.specs.declared.payload.Payload.{Payload}
use Rattle.py_objects.specs.declared.request.Request.TheVariants as request
use Rattle.py_objects.specs.Objects.{Obj}
use Rattle.py_tree.specs.Tree.{Name, Form, Assign, Do, Show, Return, Raise as RaiseForm, Reraise, Break, Continue, Pass, If, IfElse, While, TryExcept, TryFinally, With, Suite, nothing, first}
use Rattle.py_tree.specs.Binding.{Env, set_local}
use Rattle.py_tree.specs.Outcome.{Normal, Breaks, Continues, Returns, Cut, Handled, Runs}
use Rattle.py_places.specs.Cells.{Cells}
use Rattle.py_places.specs.Place.{Choice, Branches, Branches_else, Then, Stored, Shown, Returned, Raising, Raised, Tested, Told, Entering, Entered, Frames, Behind, Turn, Final, Passing, Catch, Forget, Exit, Question, Requests, Asking, Turning, place}
use Rattle.py_places.specs.Silent.{Back, asking, testing, on_normal, on_final, passing, on_catch, try_clauses, enter, enter_form, resume}
use Rattle.py_places.specs.Standing.{first_unused, for_handled, for_env, for_frames, for_rest}
use Rattle.py_places.specs.Telling.{scene, follows, Tells}
use Rattle.py_places.proofs.Fits.{EnvScoped, HandledScoped, ChoiceScoped, ThenScoped, FramesScoped, IsAskableQuestion, Fits, FitsIf, GoesTo, BackFits, GoFits}
use Rattle.py_places.proofs.Scopes.{QuestionScoped, longer, returns_scoped, told_scoped, entered_scoped, frame_scoped, behind_frame, final_frame, turning_scoped}
use Rattle.py_places.proofs.Locals.{set_for, set_value_scoped}
use Rattle.py_places.proofs.Combining.{all_cut, here, told_same, or_cut}
use Rattle.py_places.proofs.Loading.{asking_fits}
use Rattle.py_places.proofs.Evaluating.{evaluate_fits, operands_fits}
use Rattle.py_places.proofs.Framing.{last_fits, normal_back, turn_back, final_back, passing_back, catch_back, forget_back, exit_back}

module _ (objects : List Payload) (globals : Obj) where
  -- a value was given, and something is asked
  asked : (env : Env) (h : Handled) (fs : Frames) (cells cells1 : Cells)
      → EnvScoped (first_unused objects cells) env → HandledScoped (first_unused objects cells) h → FramesScoped (first_unused objects cells) fs
      → length cells ≤ length cells1 → (q : Question) (th : Then) → IsAskableQuestion q
      → QuestionScoped (first_unused objects cells1) q → ThenScoped (first_unused objects cells1) th
      → Fits objects globals cells1 (place cells1 (Asking env h q th fs)) (λ σ. Tells objects globals (for_rest σ (Asking env h q th fs)))
  asked env h fs cells cells1 se sh sf le q th asks sq st =
      asking_fits objects globals q env h th fs cells1 asks (longer objects cells cells1 le se) (longer objects cells cells1 le sh) sq st
      (longer objects cells cells1 le sf)

  -- a value is tested
  tested : (ch : Choice) (env : Env) (h : Handled) (fs : Frames) (cells : Cells)
      → EnvScoped (first_unused objects cells) env → HandledScoped (first_unused objects cells) h → FramesScoped (first_unused objects cells) fs
      → ChoiceScoped (first_unused objects cells) ch → GoesTo objects globals (Tested ch) env h fs (testing ch env h fs) cells
  tested ch env h fs cells se sh sf sc v cells1 le sv =
      asked env h fs cells cells1 se sh sf le (Requests (request.Truth v)) (Told ch) tt
      (λ σ σ' same. ap (λ u. Requests (request.Truth u)) (sv σ σ' same)) (told_scoped _ ch (longer objects cells cells1 le sc))

  -- a value is bound, and one goes on behind the statement
  stored : (x : Name) (fs : Frames) (back : Back) → BackFits objects globals fs back → (env : Env) (h : Handled) (cells : Cells)
      → EnvScoped (first_unused objects cells) env → FramesScoped (first_unused objects cells) fs
      → GoesTo objects globals (Stored (Some x)) env h fs (λ v cells1. back (set_local x (Some v) env) Normal cells1) cells
  stored x fs back fits env h cells se sf v cells1 le sv =
      told_same objects globals cells1 (back (set_local x (Some v) env) Normal cells1)
      (λ σ. follows objects globals (for_frames σ fs) (for_env σ (set_local x (Some v) env)) Normal)
      (λ σ. follows objects globals (for_frames σ fs) (set_local x (Some (σ v)) (for_env σ env)) Normal)
      (λ σ. ap (λ e. follows objects globals (for_frames σ fs) e Normal) (set_for σ x (Some v) env))
      (fits (set_local x (Some v) env) Normal cells1 (set_value_scoped (first_unused objects cells1) x v env sv (longer objects cells cells1 le se))
      (longer objects cells cells1 le sf) (λ σ σ' same. refl))

  mutual
    pub enter_fits : (s : Suite) (fs : Frames) (back : Back) (h : Handled) → BackFits objects globals fs back
        → GoFits objects globals s fs h (λ env cells. enter objects s fs back env h cells)
    enter_fits nothing fs back h fits env cells se sh sf =
        or_cut objects globals cells (back env Normal cells) (λ σ. follows objects globals (for_frames σ fs) (for_env σ env) Normal)
        (λ σ k. follows objects globals (for_frames σ fs) (for_env σ env) Cut k [])
        (λ σ. all_cut objects globals (for_frames σ fs) (for_env σ env))
        (fits env Normal cells se sf (λ σ σ' same. refl))
    enter_fits (first n f more) fs back h fits env cells se sh sf =
        or_cut objects globals cells
        (enter_form objects n f (Behind h more ∷ fs) (on_normal back (λ env1 cells1. enter objects more fs back env1 h cells1)) env h cells)
        (λ σ k ts. Runs (scene objects globals) n f (for_env σ env) (for_handled σ h) k ts (follows objects globals (for_frames σ (Behind h more ∷ fs))))
        (λ σ k. follows objects globals (for_frames σ fs) (for_env σ env) Cut k [])
        (λ σ. all_cut objects globals (for_frames σ fs) (for_env σ env))
        (form_fits f n (Behind h more ∷ fs) (on_normal back (λ env1 cells1. enter objects more fs back env1 h cells1))
        (normal_back objects globals fs back fits h more (λ env1 cells1. enter objects more fs back env1 h cells1)
        (enter_fits more fs back h fits)) env h cells se sh (frame_scoped _ (Behind h more) fs (behind_frame _ h more sh) sf))

    form_fits : (f : Form) (line : ℕ) (fs : Frames) (back : Back) → BackFits objects globals fs back → (env : Env) (h : Handled) (cells : Cells)
        → EnvScoped (first_unused objects cells) env → HandledScoped (first_unused objects cells) h → FramesScoped (first_unused objects cells) fs
        → FitsIf objects globals cells (enter_form objects line f fs back env h cells)
        (λ σ k ts. Runs (scene objects globals) line f (for_env σ env) (for_handled σ h) k ts (follows objects globals (for_frames σ fs)))
    form_fits (Assign x e) line fs back fits env h cells se sh sf =
        evaluate_fits objects globals e line env h (Stored (Some x)) fs cells (λ v cells1. back (set_local x (Some v) env) Normal cells1)
        se sh (λ σ σ' same. refl) sf (stored x fs back fits env h cells se sf)
    form_fits (Do o es) line fs back fits env h cells se sh sf =
        operands_fits objects globals es line o [] env h (Stored None) fs cells (λ σ σ' same. refl) se sh (λ σ σ' same. refl) sf
    form_fits (Show e) line fs back fits env h cells se sh sf =
        evaluate_fits objects globals e line env h Shown fs cells (λ v cells1. asking env h (Requests (request.Show v)) (Stored None) fs cells1)
        se sh (λ σ σ' same. refl) sf
        (λ v cells1 le sv. asked env h fs cells cells1 se sh sf le (Requests (request.Show v)) (Stored None) tt
        (λ σ σ' same. ap (λ u. Requests (request.Show u)) (sv σ σ' same)) (λ σ σ' same. refl))
    form_fits (Return e) line fs back fits env h cells se sh sf =
        evaluate_fits objects globals e line env h Returned fs cells (λ v cells1. back env (Returns v) cells1) se sh (λ σ σ' same. refl) sf
        (λ v cells1 le sv. fits env (Returns v) cells1 (longer objects cells cells1 le se) (longer objects cells cells1 le sf)
        (returns_scoped _ v sv))
    form_fits (RaiseForm e) line fs back fits env h cells se sh sf =
        evaluate_fits objects globals e line env h Raising fs cells (λ v cells1. asking env h (Requests (request.Raisable v)) Raised fs cells1)
        se sh (λ σ σ' same. refl) sf
        (λ v cells1 le sv. asked env h fs cells cells1 se sh sf le (Requests (request.Raisable v)) Raised tt
        (λ σ σ' same. ap (λ u. Requests (request.Raisable u)) (sv σ σ' same)) (λ σ σ' same. refl))
    form_fits Reraise line fs back fits env h cells se sh sf =
        asking_fits objects globals (Requests request.Handled) env h Raised fs cells tt se sh (λ σ σ' same. refl) (λ σ σ' same. refl) sf
    form_fits Break line fs back fits env h cells se sh sf = fits env Breaks cells se sf (λ σ σ' same. refl)
    form_fits Continue line fs back fits env h cells se sh sf = fits env Continues cells se sf (λ σ σ' same. refl)
    form_fits Pass line fs back fits env h cells se sh sf = fits env Normal cells se sf (λ σ σ' same. refl)
    form_fits (If e s) line fs back fits env h cells se sh sf =
        evaluate_fits objects globals e line env h (Tested (Branches s)) fs cells (testing (Branches s) env h fs) se sh (λ σ σ' same. refl) sf
        (tested (Branches s) env h fs cells se sh sf (λ σ σ' same. refl))
    form_fits (IfElse e s t) line fs back fits env h cells se sh sf =
        evaluate_fits objects globals e line env h (Tested (Branches_else s t)) fs cells (testing (Branches_else s t) env h fs)
        se sh (λ σ σ' same. refl) sf (tested (Branches_else s t) env h fs cells se sh sf (λ σ σ' same. refl))
    form_fits (While e s) line fs back fits env h cells se sh sf =
        here objects globals cells (Turning env h line e s fs) (turning_scoped _ env h line e s fs se sh sf) tt
    form_fits (TryExcept s cs) line fs back fits env h cells se sh sf =
        enter_fits s (Catch line cs ∷ fs) (on_catch back (λ e env1 cells1. try_clauses objects line cs e env1 (Some e) fs cells1)) h
        (catch_back objects globals fs back fits line cs) env cells se sh (frame_scoped _ (Catch line cs) fs (λ σ σ' same. refl) sf)
    form_fits (TryFinally s t) line fs back fits env h cells se sh sf =
        enter_fits s (Final h t ∷ fs)
        (on_final back h (λ o h1 env1 cells1. enter objects t (Passing o ∷ fs) (passing back o) env1 h1 cells1)) h
        (final_back objects globals fs back fits h t (λ o h1 env1 cells1. enter objects t (Passing o ∷ fs) (passing back o) env1 h1 cells1)
        (λ o h1. enter_fits t (Passing o ∷ fs) (passing back o) h1 (passing_back objects globals fs back fits o)))
        env cells se sh (frame_scoped _ (Final h t) fs (final_frame _ h t sh) sf)
    form_fits (With e x s) line fs back fits env h cells se sh sf =
        evaluate_fits objects globals e line env h (Entering line x s) fs cells
        (λ m cells1. asking env h (Requests (request.Enter m)) (Entered line m x s) fs cells1) se sh (λ σ σ' same. refl) sf
        (λ m cells1 le sm. asked env h fs cells cells1 se sh sf le (Requests (request.Enter m)) (Entered line m x s) tt
        (λ σ σ' same. ap (λ u. Requests (request.Enter u)) (sm σ σ' same)) (entered_scoped _ line m x s sm))

  pub resume_fits : (fs : Frames) → BackFits objects globals fs (resume objects fs)
  resume_fits [] env o cells se sf so = last_fits objects globals o env cells so
  resume_fits (Behind h more ∷ fs) env o cells se sf so =
      normal_back objects globals fs (resume objects fs) (resume_fits fs) h more
      (λ env1 cells1. enter objects more fs (resume objects fs) env1 h cells1)
      (enter_fits more fs (resume objects fs) h (resume_fits fs)) env o cells se sf so
  resume_fits (Turn h line e s ∷ fs) env o cells se sf so = turn_back objects globals fs (resume objects fs) (resume_fits fs) h line e s env o cells se sf so
  resume_fits (Final h t ∷ fs) env o cells se sf so =
      final_back objects globals fs (resume objects fs) (resume_fits fs) h t
      (λ o1 h1 env1 cells1. enter objects t (Passing o1 ∷ fs) (passing (resume objects fs) o1) env1 h1 cells1)
      (λ o1 h1. enter_fits t (Passing o1 ∷ fs) (passing (resume objects fs) o1) h1
      (passing_back objects globals fs (resume objects fs) (resume_fits fs) o1)) env o cells se sf so
  resume_fits (Passing o1 ∷ fs) env o cells se sf so = passing_back objects globals fs (resume objects fs) (resume_fits fs) o1 env o cells se sf so
  resume_fits (Catch line cs ∷ fs) env o cells se sf so = catch_back objects globals fs (resume objects fs) (resume_fits fs) line cs env o cells se sf so
  resume_fits (Forget h x ∷ fs) env o cells se sf so = forget_back objects globals fs (resume objects fs) (resume_fits fs) h x env o cells se sf so
  resume_fits (Exit h line m ∷ fs) env o cells se sf so = exit_back objects globals fs (resume objects fs) (resume_fits fs) h line m env o cells se sf so
