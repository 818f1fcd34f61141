-- What the definitions say of the journals with a loop and with an unknown name.
use Rattle.std.proofs.Common.{◌≡◌, ℕ, zero, suc, List, [], ◌∷◌, None, Bool, true, false, refl, sym, subst, inl, inr, lit<, ⊎_elim, ◌∙◌, append-nil, arith}
use Rattle.std.specs.Prelude.{codes}
use Rattle.py_objects.specs.declared.payload.Payload.TheVariants as payload
use Rattle.py_objects.specs.declared.payload.Payload.{Payload}
use Rattle.py_objects.specs.declared.error_kind.ErrorKind.TheVariants.{NameError}
use Rattle.py_objects.specs.declared.request.Keywords.TheVariants as keywords
use Rattle.py_objects.specs.declared.request.Request.TheVariants.{Call as Calling, Truth, Global}
use Rattle.py_objects.specs.declared.event.ResumeHow.TheVariants.{Start}
use Rattle.py_objects.specs.declared.event.GotAnswer.TheVariants as got
use Rattle.py_objects.specs.declared.event.Ending.TheVariants as ending
use Rattle.py_objects.specs.declared.event.DriveAnswer.TheVariants as answer
use Rattle.py_objects.specs.Objects.{Obj, Name, HasPayload, AllFit}
use Rattle.py_objects.specs.Singletons.{none_object}
use Rattle.py_objects.specs.Own.{Own, Makes, Resumes, Asks, Gets, Rounds, Ends, own_events, own_from, told_by}
use Rattle.py_tree.specs.declared.expr.Atom.TheVariants as atom
use Rattle.py_tree.specs.Tree.{Leaf, Show, nothing, first, Tree}
use Rattle.py_tree.specs.Scene.{Scene, anywhere}
use Rattle.py_tree.specs.Outcome.{After, Normal, On_normal, On_turn, Chooses, By_truth, Loops, RunsSuite}
use Rattle.py_tree.specs.Trace.{IsTrace, EndsBy}
use Rattle.py_lines.specs.declared.drive.DriveLine.TheVariants as drive
use Rattle.py_grammar.specs.Grammar.{Declares, Drives, FunctionDecl, OfBody, codes_in}
use Rattle.py_grammar.specs.Lines.{lines}
use Rattle.py_grammar.specs.Script.{Spells}
use Rattle.py_answers.specs.Answers.{This, Has, Fails, Passes, unknown_text, IsRaised}
use Rattle.py_run.specs.Run.{Requests, Posed, Plan}
use Rattle.py_run.specs.Coming.{nothing as at_first, Comes}
use Rattle.py_meaning.specs.Whole.{AreGlobals, Traces, IsRunOf, plan_of}
use Rattle.py_meaning.specs.Text.{events_text, result_text}
use Rattle.py_meaning.specs.Worked.{object, exception}
use Rattle.py_meaning.specs.WorkedLoop.{script, function_of, function, decls, drives, objects, events, without_round, untested, left_early, unknown_script, unknown_decls, not_defined, raised_objects, unknown_objects, asked_in, asked, unknown_events}
use Rattle.py_meaning.proofs.Journals.{are_globals, are_loaded, are_named, asked_so, begun, fits, is_of_kind, is_raised, made_exception, one_tells, own_with, reads_of, runs, traced_with}
use Rattle.py_meaning.proofs.OneText.{raise_line}

pub spelled : Spells (lines script) decls drives
spelled =
    let items = Declares (FunctionDecl function) ∷ Drives (drive.Call (codes "f") []) ∷ [] in
    record { items = items; reads = reads_of items; read = ((refl, tt), ((refl, omega arith), ((refl, tt), ((refl, tt), ((refl, tt), tt))))); spelled = refl; well = ((refl, ((refl, tt), tt)), (refl, tt)); declared = refl; driven = refl }

-- the question of the drive
abbrev pub call : Posed
call = record { pose = Requests (Calling (object 0) [] keywords.None); entered = 0 }

-- what the run is of
abbrev plan : Plan
plan = plan_of (codes_in decls) (call ∷ [])

loop_fits : AllFit objects
loop_fits = fits function (payload.Frame 0 ∷ payload.Bool true ∷ payload.Bool true ∷ []) refl (tt, (tt, (tt, tt)))

comes : Comes plan objects at_first events
comes = (
  (refl, refl, lit< tt),
  (
    (refl, (refl, (_, refl, inr (inl (object 0, [], refl, runs _ _ _ _ _ _ _ refl refl refl))))),
    (
      (refl, is_of_kind _ _ _ _ _ _ refl refl refl),
      ((refl, refl), ((refl, refl), ((refl, (Has (payload.Bool true), (Truth (object 4), refl, inl (Has (payload.Bool true), refl, (payload.Bool true, refl, refl))), refl)), ((refl, refl), tt)))),
    ),
  ),
)

loop_traced : IsTrace (anywhere objects (object 2)) function [] (own_events 1 events)
unfolding own_from told_by
loop_traced =
    (refl, (_, refl, inr (1, inr (0, _, refl, inr (object 4, refl, inr (2, _, refl, refl, inr (5, got.Value (object 5), _, refl, (true, refl, inr (inr (3, _, refl, inl (refl, refl)))))))))))

pub is_run : IsRunOf decls drives objects events
is_run =
    record {
      asked = call ∷ [];
      are_asked = (((object 0, [], refl, refl, tt), refl), tt);
      globals = object 2;
      are_globals = are_globals function (payload.Frame 0 ∷ payload.Bool true ∷ payload.Bool true ∷ []) refl;
      run = record { comes = comes; tells = one_tells (Traces (codes_in decls) (object 2) objects) (object 0) [] events refl (_, refl, (OfBody function, refl, loop_traced)); named = are_named objects events loop_fits refl };
      are_objects = are_loaded function (payload.Frame 0 ∷ payload.Bool true ∷ payload.Bool true ∷ []) refl (tt, (tt, (tt, tt))) loop_fits;
    }

-- what the loop's rounds may tell, where the globals are in this dict
abbrev scene_of : Obj → Scene
scene_of g = anywhere objects g

-- what follows the loop
abbrev Behind : Obj → After
Behind g = On_normal (EndsBy (scene_of g)) (λ env k ts. RunsSuite (scene_of g) nothing env None k ts (EndsBy (scene_of g)))

-- the loop, whose body is begun at most n times, behind the event k
abbrev Going : Obj → ℕ → ℕ → List Own → Type 0
Going g n k ts = Loops (scene_of g) 2 (Leaf (atom.Bool true)) (RunsSuite (scene_of g) nothing) n [] None k ts (Behind g)

-- what follows a test of the loop's
abbrev Tested : Obj → ℕ → Bool → ℕ → List Own → Type 0
Tested g zero b k ts = By_truth b ⊥ (Behind g [] Normal k ts)
Tested g (suc n) b k ts =
    By_truth b
    (RunsSuite (scene_of g) nothing [] None k ts (On_turn (Behind g) (λ env j rest. Loops (scene_of g) 2 (Leaf (atom.Bool true)) (RunsSuite (scene_of g) nothing) n env None j rest (Behind g))))
    (Behind g [] Normal k ts)

abbrev Tests : Obj → ℕ → ℕ → List Own → Type 0
Tests g n k ts = Chooses (scene_of g) 2 [] None (Leaf (atom.Bool true)) k ts (Behind g) (Tested g n)

-- the loop goes on by a round, which tests
goes_round : (g : Obj) (n k : ℕ) (x : Own) (ts : List Own) → Going g n k (x ∷ ts) → (at : ℕ) × (x ≡ Rounds at) × Tests g n k ts
goes_round g zero k x ts (inl cut) = absurd (cc cut.0)
goes_round g zero k x ts (inr (at, mid, is, tests)) = let rest : mid ≡ ts = cc is in (at, cc is, subst (λ (l : List Own). Tests g zero k l) rest tests)
goes_round g (suc n) k x ts (inl cut) = absurd (cc cut.0)
goes_round g (suc n) k x ts (inr (at, mid, is, tests)) = let rest : mid ≡ ts = cc is in (at, cc is, subst (λ (l : List Own). Tests g (suc n) k l) rest tests)

-- a test asks for the truth of an object
asks_truth : (g : Obj) (n k : ℕ) (x : Own) (ts : List Own) → Tests g n k (x ∷ ts) → (at : ℕ) × (v : Obj) × (x ≡ Asks at (Truth v) None)
asks_truth g n k x ts h =
    ⊎_elim (λ cut. absurd (cc cut.0)) (λ loads. ⊎_elim (λ cut. absurd (cc cut.0)) (λ asks. (asks.0, loads.0, cc asks.3)) loads.2) h

-- and goes on by the truth value that it gets
by_truth : (g : Obj) (n k i at : ℕ) (q w : Obj) (ts : List Own) → Tests g n k (Asks at (Truth q) None ∷ Gets i (got.Value w) ∷ ts) → (b : Bool) × HasPayload objects w (payload.Bool b) × Tested g n b i ts
by_truth g n k i at q w ts h =
    ⊎_elim (λ cut. absurd (cc cut.0)) (λ loads. asked_so _ (Truth loads.0) (Truth q) at k i (got.Value w) ts _ loads.2) h

-- where that is true the next round follows
next_round : (g : Obj) (n k : ℕ) (x : Own) (ts : List Own) → Tested g n true k (x ∷ ts) → (at : ℕ) × (x ≡ Rounds at)
next_round g zero k x ts h = absurd h
next_round g (suc n) k x ts h =
    ⊎_elim (λ cut. absurd (cc cut.0)) (λ again. let r = goes_round g n k x ts again in (r.0, r.1)) h

-- what the activation of a run tells behind its entry, where the loop is begun
begins_loop : (g : Obj) (k : ℕ) (x : Own) (ts : List Own) → IsTrace (scene_of g) function [] (Makes ∷ Resumes k Start ∷ x ∷ ts) → (n : ℕ) × Going g n k (x ∷ ts)
begins_loop g k x ts h = let b = begun (scene_of g) function [] _ h in ⊎_elim (λ cut. absurd (cc cut.0)) (λ going. going) b

pub no_round_untold : IsRunOf decls drives objects without_round → ⊥
unfolding own_from told_by
no_round_untold r =
    let going = begins_loop r.globals 2 _ _ (traced_with function [] objects drives without_round refl refl r) in
    let next = goes_round r.globals going.0 2 _ _ going.1 in
    cc next.1

pub no_round_untested : IsRunOf decls drives objects untested → ⊥
unfolding own_from told_by
no_round_untested r =
    let going = begins_loop r.globals 2 _ _ (traced_with function [] objects drives untested refl refl r) in
    let next = goes_round r.globals going.0 2 _ _ going.1 in
    let asks = asks_truth r.globals going.0 2 _ _ next.2 in
    cc asks.2

-- the second object is True alone
is_true : (b : Bool) → HasPayload objects (object 5) (payload.Bool b) → b ≡ true
is_true true h = refl
is_true false h = absurd (cc h)

pub no_end_where_it_is_true : IsRunOf decls drives objects left_early → ⊥
unfolding own_from told_by
no_end_where_it_is_true r =
    let going = begins_loop r.globals 2 _ _ (traced_with function [] objects drives left_early refl refl r) in
    let next = goes_round r.globals going.0 2 _ _ going.1 in
    let tested = by_truth r.globals going.0 2 5 2 (object 4) (object 5) _ next.2 in
    let told = subst (λ (b : Bool). Tested r.globals going.0 b 5 (Ends 4 (ending.Return none_object) ∷ [])) (is_true tested.0 tested.1) tested.2 in
    let again = next_round r.globals going.0 5 _ _ told in
    cc again.1

-- ---- the unknown name

abbrev pub unknown_function : Tree
unknown_function = function_of (first 2 (Show (Leaf (atom.Name (codes "z")))) nothing)

pub unknown_spelled : Spells (lines unknown_script) unknown_decls drives
unknown_spelled =
    let items = Declares (FunctionDecl unknown_function) ∷ Drives (drive.Call (codes "f") []) ∷ [] in
    record { items = items; reads = reads_of items; read = ((refl, tt), ((refl, omega arith), ((refl, tt), ((refl, tt), tt)))); spelled = refl; well = ((refl, (refl, tt)), (refl, tt)); declared = refl; driven = refl }

-- its objects behind the first ones
abbrev unknown_own : List Payload
unknown_own = own_with unknown_function (payload.Frame 0 ∷ raised_objects NameError)

unknown_fits : AllFit unknown_objects
unknown_fits = fits unknown_function (payload.Frame 0 ∷ raised_objects NameError) refl (tt, (tt, (tt, (made_exception unknown_own NameError (object 5) (object 4 ∷ []) refl, tt))))

-- the exception is new, and is what the question is answered
unknown_raised : IsRaised unknown_objects (asked []) NameError not_defined (exception 6)
unknown_raised = is_raised unknown_own (asked []) NameError not_defined (object 4) (object 5) (exception 6) refl refl refl (refl, (refl, (refl, (refl, tt))))

unknown_comes : Comes (plan_of (codes_in unknown_decls) (call ∷ [])) unknown_objects at_first unknown_events
unknown_comes = (
  (refl, refl, lit< tt),
  (
    (refl, (refl, (_, refl, inr (inl (object 0, [], refl, runs _ _ _ _ _ _ _ refl refl refl))))),
    (
      (refl, is_of_kind _ _ _ _ _ _ refl refl refl),
      (
        (refl, refl),
        (
          (refl, (Fails NameError (unknown_text (codes "z")), (Global (object 2) (codes "z"), refl, inl (Fails NameError (unknown_text (codes "z")), refl, refl)), unknown_raised)),
          ((refl, refl), ((refl, refl, inl (Passes (This (exception 6)), inl (_, refl, (refl, refl)), refl)), tt)),
        ),
      ),
    ),
  ),
)

unknown_traced : IsTrace (anywhere unknown_objects (object 2)) unknown_function [] (own_events 1 unknown_events)
unfolding own_from told_by
unknown_traced = (refl, (_, refl, inr (inr (0, _, refl, refl, inr (4, got.Raise (exception 6), _, refl, inr (0, refl))))))

pub unknown_is_run : IsRunOf unknown_decls drives unknown_objects unknown_events
unknown_is_run =
    record {
      asked = call ∷ [];
      are_asked = (((object 0, [], refl, refl, tt), refl), tt);
      globals = object 2;
      are_globals = are_globals unknown_function (payload.Frame 0 ∷ raised_objects NameError) refl;
      run =
          record {
            comes = unknown_comes;
            tells = one_tells (Traces (codes_in unknown_decls) (object 2) unknown_objects) (object 0) [] unknown_events refl (_, refl, (OfBody unknown_function, refl, unknown_traced));
            named = are_named unknown_objects unknown_events unknown_fits refl;
          };
      are_objects = are_loaded unknown_function (payload.Frame 0 ∷ raised_objects NameError) refl (tt, (tt, (tt, (tt, tt)))) unknown_fits;
    }

asked_object : (at at' : ℕ) (v w : Obj) (x : Name) (ts us : List Own) → Asks at (Global v x) None ∷ ts ≡ Asks at' (Global w x) None ∷ us → v ≡ w
asked_object at at' v w x ts us e = let request : Global v x ≡ Global w x = cc e in cc request

pub no_name_asked_of_none : IsRunOf unknown_decls drives unknown_objects (asked_in none_object []) → ⊥
unfolding own_from told_by
no_name_asked_of_none r =
    let b = begun (anywhere unknown_objects r.globals) unknown_function [] _ (traced_with unknown_function [] unknown_objects drives (asked_in none_object []) refl refl r) in
    ⊎_elim (λ cut. cc cut.0) (λ loads. ⊎_elim (λ cut. cc cut.0) (λ asks.
    let same : none_object ≡ r.globals = asked_object _ _ _ _ _ _ _ asks.3 in
    let none = subst (AreGlobals unknown_decls unknown_objects) (sym same) r.are_globals in
    cc none.dict) loads) b

pub unknown_line : events_text unknown_objects [] unknown_events ≡ codes "1 raises NameError: name 'z' is not defined\n"
unknown_line =
    append-nil (result_text unknown_objects 1 (answer.Raises (exception 6)))
    ∙ raise_line unknown_decls unknown_objects NameError not_defined refl refl unknown_is_run.are_objects (asked []) (exception 6) unknown_raised
