-- What the definitions say of the journal with a finally.
use Rattle.std.proofs.Common.{◌≡◌, ℕ, List, [], ◌∷◌, ◌++◌, Some, None, refl, ap, inl, inr, lit<, ⊎_elim, ◌∙◌, arith}
use Rattle.std.specs.Prelude.{pos, codes}
use Rattle.py_objects.specs.declared.payload.Payload.{Payload}
use Rattle.py_objects.specs.declared.payload.Payload.TheVariants as payload
use Rattle.py_objects.specs.declared.error_kind.ErrorKind.TheVariants.{NameError}
use Rattle.py_objects.specs.declared.request.Request.TheVariants.{Global, Show as Showing}
use Rattle.py_objects.specs.declared.event.ResumeHow.TheVariants.{Start}
use Rattle.py_objects.specs.declared.event.GotAnswer.TheVariants as got
use Rattle.py_objects.specs.declared.event.DriveAnswer.TheVariants as answer
use Rattle.py_objects.specs.Objects.{AllFit}
use Rattle.py_objects.specs.Singletons.{none_object}
use Rattle.py_objects.specs.Own.{Own, Makes, Resumes, Asks, Gets, own_events, own_from, told_by}
use Rattle.py_tree.specs.declared.expr.Atom.TheVariants as atom
use Rattle.py_tree.specs.Tree.{Leaf, Show, nothing, first}
use Rattle.py_tree.specs.Binding.{start_env}
use Rattle.py_tree.specs.Outcome.{Raises, On_normal, Behind_finally, RunsSuite}
use Rattle.py_tree.specs.Scene.{Scene, anywhere}
use Rattle.py_tree.specs.Trace.{IsTrace, EndsBy}
use Rattle.py_grammar.specs.Grammar.{Declares, Drives, FunctionDecl, OfBody, codes_in}
use Rattle.py_lines.specs.declared.drive.DriveLine.TheVariants as drive
use Rattle.py_grammar.specs.Lines.{lines}
use Rattle.py_grammar.specs.Script.{Spells}
use Rattle.py_answers.specs.Answers.{This, Has, Fails, Passes, unknown_text, IsRaised}
use Rattle.py_run.specs.Run.{Plan}
use Rattle.py_run.specs.Coming.{nothing as at_first, Comes}
use Rattle.py_meaning.specs.Whole.{Traces, IsRunOf, plan_of}
use Rattle.py_meaning.specs.Text.{events_text, result_text}
use Rattle.py_meaning.specs.Worked.{object, exception}
use Rattle.py_meaning.specs.WorkedLoop.{drives, not_defined}
use Rattle.py_meaning.specs.WorkedFinally.{script, function, decls, run_objects, objects, asked, events, passed_by, unhandled, swallowed}
use Rattle.py_meaning.proofs.Journals.{are_globals, are_loaded, are_named, asked_so, asked_under, begun, decimal_1, fits, is_of_kind, is_raised, made_exception, one_tells, own_with, reads_of, runs, traced_with}
use Rattle.py_meaning.proofs.OneText.{raise_line}
use Rattle.py_meaning.proofs.WorkedLoopLemmas.{call}

pub spelled : Spells (lines script) decls drives
spelled =
    let items = Declares (FunctionDecl function) ∷ Drives (drive.Call (codes "f") []) ∷ [] in
    record {
      items = items;
      reads = reads_of items;
      read = ((refl, tt), ((refl, tt), ((refl, omega arith), ((refl, tt), ((refl, omega arith), ((refl, tt), ((refl, tt), ((refl, tt), tt))))))));
      spelled = refl;
      well = ((refl, ((refl, ((refl, tt), (refl, tt))), tt)), (refl, tt));
      declared = refl;
      driven = refl;
    }

-- its objects behind the first ones
abbrev own : List Payload
own = own_with function (payload.Frame 0 ∷ run_objects)

all_fit : AllFit objects
all_fit = fits function (payload.Frame 0 ∷ run_objects) refl (tt, (tt, (tt, (made_exception own NameError (object 5) (object 4 ∷ []) refl, (tt, tt)))))

raised_new : IsRaised objects (asked []) NameError not_defined (exception 6)
raised_new = is_raised own (asked []) NameError not_defined (object 4) (object 5) (exception 6) refl refl refl (refl, (refl, (refl, (refl, tt))))

-- what the run is of
abbrev plan : Plan
plan = plan_of (codes_in decls) (call ∷ [])

comes : Comes plan objects at_first events
comes = (
  (refl, refl, lit< tt),
  (
    (refl, (refl, (_, refl, inr (inl (object 0, [], refl, runs _ _ _ _ _ _ _ refl refl refl))))),
    (
      (refl, is_of_kind _ _ _ _ _ _ refl refl refl),
      (
        (refl, refl),
        (
          (refl, (Fails NameError (unknown_text (codes "z")), (Global (object 2) (codes "z"), refl, inl (Fails NameError (unknown_text (codes "z")), refl, refl)), raised_new)),
          (
            (refl, refl),
            (
              (refl, (Has payload.None, (Showing (object 7), refl, inl (Has payload.None, refl, refl)), refl)),
              ((refl, refl), ((refl, refl, inl (Passes (This (exception 6)), inl (_, refl, (refl, refl)), refl)), tt)),
            ),
          ),
        ),
      ),
    ),
  ),
)

traced : IsTrace (anywhere objects (object 2)) function [] (own_events 1 events)
unfolding own_from told_by
traced =
    (refl, (_, refl, inr (inr (inr (1, _, refl, refl, inr (4, got.Raise (exception 6), _, refl, inr (inr (object 7, refl, inr (4, _, refl, refl, inr (6, got.Value none_object, _, refl, inr (inr (6, refl))))))))))))

pub is_run : IsRunOf decls drives objects events
is_run =
    record {
      asked = call ∷ [];
      are_asked = (((object 0, [], refl, refl, tt), refl), tt);
      globals = object 2;
      are_globals = are_globals function (payload.Frame 0 ∷ run_objects) refl;
      run = record { comes = comes; tells = one_tells (Traces (codes_in decls) (object 2) objects) (object 0) [] events refl (_, refl, (OfBody function, refl, traced)); named = are_named objects events all_fit refl };
      are_objects = are_loaded function (payload.Frame 0 ∷ run_objects) refl (tt, (tt, (tt, (tt, (tt, tt))))) all_fit;
    }

pub text : events_text objects [] events ≡ codes "1\n1 raises NameError: name 'z' is not defined\n"
text =
    ap (λ (ds : List ℕ). (ds ++ codes "\n") ++ (result_text objects 1 (answer.Raises (exception 6)) ++ [])) decimal_1
    ∙ ap (λ (line : List ℕ). codes "1\n" ++ (line ++ [])) (raise_line decls objects NameError not_defined refl refl is_run.are_objects (asked []) (exception 6) raised_new)

-- ---- what is none

-- what follows the raise: the finally, while the exception is handled
abbrev Final : Scene → List Own → Type 0
Final scene ts =
    RunsSuite scene (first 5 (Show (Leaf (atom.Int (pos 1)))) nothing) (start_env function []) (Some (exception 6)) 4 ts
    (Behind_finally (On_normal (EndsBy scene) (λ env k us. RunsSuite scene nothing env None k us (EndsBy scene))) (Raises (exception 6)))

behind_raise : (scene : Scene) (ts : List Own) → IsTrace scene function [] (Makes ∷ Resumes 2 Start ∷ Asks 1 (Global (object 2) (codes "z")) None ∷ Gets 4 (got.Raise (exception 6)) ∷ ts) → Final scene ts
behind_raise scene ts h =
    let b = begun scene function [] _ h in
    ⊎_elim (λ cut. cc cut.0) (λ run. ⊎_elim (λ cut. cc cut.0) (λ body. asked_so _ (Global scene.globals (codes "z")) (Global (object 2) (codes "z")) 1 2 4 (got.Raise (exception 6)) ts _ body) run) b

pub no_finally_passed_by : IsRunOf decls drives objects passed_by → ⊥
unfolding own_from told_by
no_finally_passed_by r =
    let f = behind_raise (anywhere objects r.globals) _ (traced_with function [] objects drives passed_by refl refl r) in
    ⊎_elim (λ cut. cc cut.0) (λ run. ⊎_elim (λ cut. cc cut.0) (λ loads. ⊎_elim (λ cut. cc cut.0) (λ asks. cc asks.3) loads.2) run) f

pub no_finally_without : IsRunOf decls drives objects unhandled → ⊥
unfolding own_from told_by
no_finally_without r =
    let f = behind_raise (anywhere objects r.globals) _ (traced_with function [] objects drives unhandled refl refl r) in
    ⊎_elim (λ cut. cc cut.0) (λ run. ⊎_elim (λ cut. cc cut.0) (λ loads. ⊎_elim (λ cut. cc cut.0) (λ asks. cc asks.3) loads.2) run) f

pub no_exception_swallowed : IsRunOf decls drives objects swallowed → ⊥
unfolding own_from told_by
no_exception_swallowed r =
    let f = behind_raise (anywhere objects r.globals) _ (traced_with function [] objects drives swallowed refl refl r) in
    ⊎_elim (λ cut. cc cut.0) (λ run. ⊎_elim (λ cut. cc cut.0) (λ loads.
    let behind = asked_under _ (Some (exception 6)) (Some (exception 6)) (Showing loads.0) (Showing (object 7)) 4 4 6 (got.Value none_object) _ _ loads.2 in
    ⊎_elim (λ cut. cc cut.0) (λ end. ⊎_elim (λ cut. cc cut) (λ told. cc told.1) end) behind) run) f
