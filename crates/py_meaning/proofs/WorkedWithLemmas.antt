-- What the definitions say of the journal with a class, a manager and a with.
use Rattle.std.proofs.Common.{◌≡◌, ◌+◌, length, eqb, eq-eqb, ℕ, zero, suc, List, [], ◌∷◌, ◌++◌, Option, Some, None, true, false, refl, sym, ap, inl, inr, lit<, ⊎_elim, ◌∙◌, subst, arith}
use Rattle.std.specs.Prelude.{pos, codes, decimal, slice_get}
use Rattle.std.proofs.lemmas.Fmt.{decimal_digit}
use Rattle.std.proofs.lemmas.List.Sorted.{IsPermutation-refl}
use Rattle.py_objects.specs.declared.refs.PyBaseExceptionRef.{PyBaseExceptionRef}
use Rattle.py_objects.specs.declared.payload.Payload.{Payload}
use Rattle.py_objects.specs.declared.payload.Payload.TheVariants as payload
use Rattle.py_objects.specs.declared.payload.ClassBody.{ClassBody}
use Rattle.py_objects.specs.declared.payload.ManagerBody.{ManagerBody}
use Rattle.py_objects.specs.declared.error_kind.ErrorKind.TheVariants.{TypeError, ValueError}
use Rattle.py_objects.specs.ErrorKinds.{name_of}
use Rattle.py_objects.specs.declared.request.Request.TheVariants.{Call as Calling, Enter, Exit, Global, NoExit}
use Rattle.py_objects.specs.declared.request.Keywords.TheVariants as keywords
use Rattle.py_objects.specs.declared.event.ResumeHow.TheVariants.{Start}
use Rattle.py_objects.specs.declared.event.GotAnswer.TheVariants as got
use Rattle.py_objects.specs.declared.event.Ending.TheVariants as ending
use Rattle.py_objects.specs.declared.event.Event.{Event}
use Rattle.py_objects.specs.Objects.{Obj, AllFit, HasPayload, class_object}
use Rattle.py_objects.specs.Callees.{is_manager}
use Rattle.py_objects.specs.Singletons.{none_object}
use Rattle.py_objects.specs.Own.{Own, Makes, Resumes, Asks, Gets, Ends, own_events, own_from, told_by}
use Rattle.py_exceptions.specs.Classes.{class_of, mro_of, first_classes}
use Rattle.py_tree.specs.declared.expr.Atom.TheVariants as atom
use Rattle.py_tree.specs.Binding.{bind, start_env}
use Rattle.py_tree.specs.Outcome.{By_truth, On_exit, On_normal, Requests, RunsSuite, Use}
use Rattle.py_tree.specs.Scene.{Scene, anywhere}
use Rattle.py_tree.specs.Trace.{IsTrace, EndsBy}
use Rattle.py_tree.specs.Tree.{Leaf, Return, nothing, first}
use Rattle.py_grammar.specs.Grammar.{ClassDecl, ManagerDecl, FunctionDecl, Declares, Drives, Coded, OfBody, codes_in}
use Rattle.py_lines.specs.declared.drive.DriveLine.TheVariants as drive
use Rattle.py_grammar.specs.Lines.{lines}
use Rattle.py_grammar.specs.Script.{Spells}
use Rattle.py_answers.specs.Answers.{Is}
use Rattle.py_run.specs.Run.{Activation, Plan, Requests as Poses, Posed, start, state_after}
use Rattle.py_run.specs.Coming.{nothing as at_first, Comes, EachTells}
use Rattle.py_run.specs.First.{first_objects}
use Rattle.py_meaning.specs.Whole.{AreGlobals, AreObjects, Tells, Traces, IsRunOf, plan_of}
use Rattle.py_meaning.specs.Text.{events_text}
use Rattle.py_meaning.specs.Worked.{object, function_entry}
use Rattle.py_meaning.specs.WorkedLoop.{drives}
use Rattle.py_meaning.specs.WorkedWith.{script, enters, exits, function, decls, pairs, manager_entry, class_entry, values, objects_by, objects, true_object, events, unexited, swallowed, told_value}
use Rattle.py_meaning.proofs.Behind.{none_declared}
use Rattle.py_meaning.proofs.Entries.{one_declared}
use Rattle.py_meaning.proofs.WorkedObjects.{objects_behind, some_is}
use Rattle.py_meaning.proofs.Journals.{all_fit, are_named, asked_so, begun, code_of, decimal_1, differ, is_of_kind, reads_of, runs}

pub spelled : Spells (lines script) decls drives
spelled =
    let items = Declares (FunctionDecl enters) ∷ Declares (FunctionDecl exits) ∷ Declares (ManagerDecl (codes "m") (codes "en") (codes "ex")) ∷ Declares (ClassDecl (codes "K") (codes "ValueError")) ∷ Declares (FunctionDecl function) ∷ Drives (drive.Call (codes "f") []) ∷ [] in
    record {
      items = items;
      reads = reads_of items;
      read = ((refl, tt), ((refl, omega arith), ((refl, tt), ((refl, tt), ((refl, omega arith), ((refl, tt), ((refl, tt), ((refl, tt), ((refl, tt), ((refl, omega arith), ((refl, omega arith), ((refl, tt), ((refl, tt), ((refl, tt), tt))))))))))))));
      spelled = refl;
      well = ((refl, (refl, tt)), ((refl, (refl, tt)), (refl, (refl, ((refl, ((refl, (refl, tt)), tt)), (refl, tt))))));
      declared = refl;
      driven = refl;
    }

-- ---- the objects

-- those of the declarations, one behind the other
abbrev first_function : List Payload
first_function = first_objects ++ function_entry (codes "en") 0 ∷ []

abbrev both_functions : List Payload
both_functions = first_function ++ function_entry (codes "ex") 1 ∷ []

abbrev with_manager : List Payload
with_manager = both_functions ++ manager_entry (object 1) ∷ []

abbrev with_class : List Payload
with_class = with_manager ++ class_entry ValueError ∷ []

abbrev with_all : List Payload
with_all = with_class ++ function_entry (codes "f") 2 ∷ []

first_there : AreObjects (FunctionDecl enters ∷ []) first_function
first_there = one_declared [] first_objects (FunctionDecl enters) (function_entry (codes "en") 0) none_declared refl tt refl

both_there : AreObjects (FunctionDecl enters ∷ FunctionDecl exits ∷ []) both_functions
both_there = one_declared (FunctionDecl enters ∷ []) first_function (FunctionDecl exits) (function_entry (codes "ex") 1) first_there refl tt refl

manager_there : AreObjects (FunctionDecl enters ∷ FunctionDecl exits ∷ ManagerDecl (codes "m") (codes "en") (codes "ex") ∷ []) with_manager
manager_there =
    one_declared (FunctionDecl enters ∷ FunctionDecl exits ∷ []) both_functions (ManagerDecl (codes "m") (codes "en") (codes "ex")) (manager_entry (object 1)) both_there refl
    (object 0, refl, (_, refl), (object 1, refl, (_, refl))) (object 0, object 1, refl, refl, refl)

-- the base of the class
abbrev base : Obj
base = class_object (class_of first_classes ValueError)

abbrev above : ClassBody
above = record { name = name_of ValueError; mro = mro_of first_classes ValueError }

class_there : AreObjects (FunctionDecl enters ∷ FunctionDecl exits ∷ ManagerDecl (codes "m") (codes "en") (codes "ex") ∷ ClassDecl (codes "K") (codes "ValueError") ∷ []) with_class
class_there =
    one_declared (FunctionDecl enters ∷ FunctionDecl exits ∷ ManagerDecl (codes "m") (codes "en") (codes "ex") ∷ []) with_manager (ClassDecl (codes "K") (codes "ValueError")) (class_entry ValueError) manager_there refl
    (base, refl, (above, refl)) (base, above, refl, refl, refl)

all_there : AreObjects decls with_all
all_there =
    one_declared (FunctionDecl enters ∷ FunctionDecl exits ∷ ManagerDecl (codes "m") (codes "en") (codes "ex") ∷ ClassDecl (codes "K") (codes "ValueError") ∷ []) with_class (FunctionDecl function) (function_entry (codes "f") 2)
    class_there refl tt refl

-- the objects behind the first ones
abbrev own : List Payload
own = function_entry (codes "en") 0 ∷ function_entry (codes "ex") 1 ∷ manager_entry (object 1) ∷ class_entry ValueError ∷ function_entry (codes "f") 2 ∷ values

fits : AllFit objects
fits = all_fit own refl (tt, (tt, (((_, refl), (_, refl)), (((_, refl), ((_, refl), ((_, refl), tt))), (tt, (tt, (tt, (tt, (tt, (tt, (tt, (tt, (tt, (tt, (tt, tt)))))))))))))))

are_objects : AreObjects decls objects
are_objects = objects_behind decls with_all values objects refl all_there (tt, (tt, (tt, (tt, (tt, (tt, (tt, (tt, (tt, (tt, tt)))))))))) fits

are_globals : AreGlobals decls objects (object 10)
are_globals = record { pairs = pairs; dict = refl; bindings = pairs; bind = ((refl, refl), ((refl, refl), ((refl, refl), ((refl, refl), ((refl, refl), tt))))); same = IsPermutation-refl pairs }

-- ---- the run

-- the question of the drive
abbrev call : Posed
call = record { pose = Poses (Calling (object 4) [] keywords.None); entered = 0 }

-- what the run is of
abbrev plan : Plan
plan = plan_of (codes_in decls) (call ∷ [])

comes : Comes plan objects at_first events
comes = (
  (refl, refl, lit< tt),
  (
    (refl, (refl, (_, refl, inr (inl (object 4, [], refl, runs _ _ _ _ _ _ _ refl refl refl))))),
    (
      (refl, is_of_kind _ _ _ _ _ _ refl refl refl),
      (
        (refl, refl),
        (
          (refl, (Is (object 2), (Global (object 10) (codes "m"), refl, inl (Is (object 2), refl, refl)), refl)),
          (
            (refl, refl),
            (
              (refl, (refl, (_, refl, inr (inr (inr (inr (inr (inr (inl (object 2, refl, (_, refl, runs _ _ _ _ _ _ _ refl refl refl))))))))))),
              (
                (refl, is_of_kind _ _ _ _ _ _ refl refl refl),
                (
                  (refl, refl),
                  (
                    (refl, (Is (object 13), (_, refl, refl), refl)),
                    (
                      (refl, refl),
                      (
                        (refl, (refl, (_, refl, inr (inr (inr (inr (inr (inr (inr (object 2, none_object, none_object, none_object, refl, (_, refl, runs _ _ _ _ _ _ _ refl refl refl))))))))))),
                        (
                          (refl, is_of_kind _ _ _ _ _ _ refl refl refl),
                          ((refl, refl), ((refl, (Is true_object, (_, refl, refl), refl)), ((refl, refl), ((refl, refl, inl (Is (object 13), inl (_, refl, (refl, refl)), refl)), tt)))),
                        ),
                      ),
                    ),
                  ),
                ),
              ),
            ),
          ),
        ),
      ),
    ),
  ),
)

traced : IsTrace (anywhere objects (object 10)) function [] (own_events 1 events)
unfolding own_from told_by
traced = (
  refl,
  (
    _,
    refl,
    inr (inr (
      0,
      _,
      refl,
      refl,
      inr (
        4,
        got.Value (object 2),
        _,
        refl,
        inr (
          1,
          _,
          refl,
          refl,
          inr (9, got.Value (object 13), _, refl, inr (_, refl, inr (inr (none_object, none_object, none_object, refl, refl, refl, inr (7, _, refl, refl, inr (14, got.Value true_object, _, refl, inr (8, refl))))))),
        ),
      ),
    )),
  ),
)

enters_traced : IsTrace (anywhere objects (object 10)) enters [] (own_events 2 events)
unfolding own_from told_by
enters_traced = (refl, (_, refl, inr (inr (object 13, refl, inr (1, refl)))))

exits_traced : IsTrace (anywhere objects (object 10)) exits (none_object ∷ none_object ∷ none_object ∷ []) (own_events 3 events)
unfolding own_from told_by
exits_traced = (refl, (_, refl, inr (inr (true_object, refl, inr (1, refl)))))

abbrev TellsAt : ℕ → Activation → Type 0
TellsAt i a = Traces (codes_in decls) (object 10) objects a.function a.args (own_events (suc i) events)

tells : EachTells (Traces (codes_in decls) (object 10) objects) events
tells zero a e = subst (TellsAt 0) (some_is _ a e) (_, refl, (OfBody function, refl, traced))
tells (suc zero) a e = subst (TellsAt 1) (some_is _ a e) (_, refl, (OfBody enters, refl, enters_traced))
tells (suc (suc zero)) a e = subst (TellsAt 2) (some_is _ a e) (_, refl, (OfBody exits, refl, exits_traced))
tells (suc (suc (suc i))) a e = absurd cc

pub is_run : IsRunOf decls drives objects events
is_run = record {
  asked = call ∷ [];
  are_asked = (((object 4, [], refl, refl, tt), refl), tt);
  globals = object 10;
  are_globals = are_globals;
  run = record { comes = comes; tells = tells; named = are_named objects events fits refl };
  are_objects = are_objects;
}

pub text : events_text objects [] events ≡ codes "1 returns 7\n"
text =
    ap (λ (ds : List ℕ). (ds ++ ((codes " returns " ++ decimal 7) ++ codes "\n")) ++ []) decimal_1
    ∙ ap (λ (ds : List ℕ). (codes "1" ++ ((codes " returns " ++ ds) ++ codes "\n")) ++ []) (decimal_digit 7 (lit< tt))

-- ---- what is none

-- what the activation of f told
told : (es : List Event) → slice_get (state_after start es).made 0 ≡ Some (record { function = object 4; args = [] }) → (r : IsRunOf decls drives objects es) → IsTrace (anywhere objects r.globals) function [] (own_events 1 es)
told es made r =
    let h = r.run.tells 0 _ made in
    let code : 2 ≡ h.0.code = code_of (codes "f") h.0.name 2 h.0.code h.1 in
    let same : OfBody function ≡ h.2.0 = some_is _ _ (subst (λ (i : ℕ). slice_get (codes_in decls) i ≡ Some h.2.0) (sym code) h.2.1) in
    subst (λ (c : Coded). Tells (anywhere objects r.globals) c [] (own_events 1 es)) (sym same) h.2.2

-- what follows the entry: the body, which returns x, and then the exit
abbrev Body : Scene → List Own → Type 0
Body scene ts =
    RunsSuite scene (first 11 (Return (Leaf (atom.Name (codes "x")))) nothing) (bind (Some (codes "x")) (object 13) (start_env function [])) None 9 ts
    (On_exit scene 10 (object 2) None (On_normal (EndsBy scene) (λ env k us. RunsSuite scene nothing env None k us (EndsBy scene))))

-- there is a manager
abbrev Managed : Scene → List Own → Payload → Type 0
Managed scene ts p = By_truth (is_manager p) (Body scene ts) (Requests scene 10 (NoExit (object 2)) None 9 ts (Use (start_env function []) (On_normal (EndsBy scene) (λ env k us. RunsSuite scene nothing env None k us (EndsBy scene))) (λ u i mid. ⊥)))

behind_entry : (g : Obj) (ts : List Own)
    → IsTrace (anywhere objects g) function [] (Makes ∷ Resumes 2 Start ∷ Asks 0 (Global (object 10) (codes "m")) None ∷ Gets 4 (got.Value (object 2)) ∷ Asks 1 (Enter (object 2)) None ∷ Gets 9 (got.Value (object 13)) ∷ ts) → (ts ≡ [] → ⊥) → Body (anywhere objects g) ts
behind_entry g ts h some =
    let scene : Scene = anywhere objects g in
    ⊎_elim (λ cut. absurd (cc cut.0)) (λ run.
    let asking = asked_so _ (Global g (codes "m")) (Global (object 10) (codes "m")) 0 2 4 (got.Value (object 2)) _ _ run in
    let entry = asked_so _ (Enter (object 2)) (Enter (object 2)) 1 4 9 (got.Value (object 13)) ts _ asking in
    ⊎_elim (λ cut. absurd (some cut.0)) (λ managed. subst (Managed scene ts) (sym (some_is (manager_entry (object 1)) managed.0 managed.1)) managed.2) entry) (begun scene function [] _ h)

-- what is returned is one object
one_end : (a b : ℕ) (v w : Obj) → Ends a (ending.Return v) ∷ [] ≡ Ends b (ending.Return w) ∷ [] → v ≡ w
one_end a b v w e = cc

pub no_exit_passed_by : IsRunOf decls drives objects unexited → ⊥
unfolding own_from told_by
no_exit_passed_by r =
    let body = behind_entry r.globals _ (told unexited refl r) (λ e. cc e) in
    ⊎_elim (λ cut. cc cut.0) (λ leaves. ⊎_elim (λ cut. cc cut.0) (λ told. ⊎_elim (λ cut. cc cut.0) (λ asks. cc asks.3) told.6) leaves) body

pub no_return_swallowed : IsRunOf decls drives objects swallowed → ⊥
unfolding own_from told_by
no_return_swallowed r =
    let body = behind_entry r.globals _ (told swallowed refl r) (λ e. cc e) in
    ⊎_elim (λ cut. cc cut.0) (λ leaves. ⊎_elim (λ cut. cc cut.0) (λ told.
    let behind = asked_so _ (Exit (object 2) told.0 told.1 told.2) (Exit (object 2) none_object none_object none_object) 7 9 14 (got.Value true_object) _ _ told.6 in
    ⊎_elim (λ cut. cc cut) (λ end.
    let number : 0 ≡ length first_objects + 13 = ap (λ (v : Obj). v.number) (one_end 10 end.0 none_object (object 13) end.1) in
    omega (arith, number)) behind) leaves) body

-- what an exit is told is one object
one_told : (a b : ℕ) (m m' c c' v v' t t' : Obj) (h h' : Option PyBaseExceptionRef) (ts us : List Own) → Asks a (Exit m c v t) h ∷ ts ≡ Asks b (Exit m' c' v' t') h' ∷ us → v ≡ v'
one_told a b m m' c c' v v' t t' h h' ts us e = cc e

pub no_value_told : IsRunOf decls drives objects told_value → ⊥
unfolding own_from told_by
no_value_told r =
    let body = behind_entry r.globals _ (told told_value refl r) (λ e. cc e) in
    ⊎_elim (λ cut. cc cut.0) (λ leaves. ⊎_elim (λ cut. cc cut.0) (λ told. ⊎_elim (λ cut. cc cut.0) (λ asks.
    let value : object 13 ≡ told.1 = one_told _ _ _ _ _ _ _ _ _ _ _ _ _ _ asks.3 in
    let clash : Some (payload.Int (pos 7)) ≡ Some payload.None = subst (λ (v : Obj). HasPayload objects v payload.None) (sym value) told.4 in
    cc clash) told.6) leaves) body

-- the body of a class, and the first class above it
body_of : (k l : ClassBody) → payload.Class k ≡ payload.Class l → k ≡ l
body_of k l e = cc

first_above : (a b : Obj) (xs ys : List Obj) → a ∷ xs ≡ b ∷ ys → a ≡ b
first_above a b xs ys e = cc

pub no_other_base : IsRunOf decls drives (objects_by (object 1) TypeError) events → ⊥
no_other_base r =
    let store = objects_by (object 1) TypeError in
    let has = r.are_objects.classes 3 (codes "K") (codes "ValueError") refl in
    let class : object 3 ≡ has.class = some_is (object 3) has.class has.is_declared in
    let above : base ≡ has.base = some_is base has.base has.is_base in
    let entry : Some (class_entry TypeError) ≡ Some (payload.Class (record { name = codes "K"; mro = has.base ∷ has.above.mro })) =
    subst (λ (v : Obj). HasPayload store v (payload.Class (record { name = codes "K"; mro = has.base ∷ has.above.mro }))) (sym class) has.entry in
    let same : class_object (class_of first_classes TypeError) ≡ base =
    first_above (class_object (class_of first_classes TypeError)) has.base (mro_of first_classes TypeError) has.above.mro (ap (λ (k : ClassBody). k.mro) (body_of _ _ (some_is _ _ entry))) ∙ sym above in
    let hit : eqb (class_of first_classes TypeError).number (class_of first_classes ValueError).number ≡ true =
    eq-eqb (class_of first_classes TypeError).number (class_of first_classes ValueError).number (ap (λ (v : Obj). v.number) same) in
    let clash : false ≡ true = hit in
    cc clash

-- the body of a manager
manager_of : (k l : ManagerBody) → payload.Manager k ≡ payload.Manager l → k ≡ l
manager_of k l e = cc

pub no_other_exit : IsRunOf decls drives (objects_by (object 0) ValueError) events → ⊥
no_other_exit r =
    let store = objects_by (object 0) ValueError in
    let has = r.are_objects.managers 2 (codes "m") (codes "en") (codes "ex") refl in
    let exit : object 1 ≡ has.exit = some_is (object 1) has.exit has.is_exit in
    let manager : object 2 ≡ has.manager = some_is (object 2) has.manager has.is_declared in
    let entry : Some (manager_entry (object 0)) ≡ Some (payload.Manager (record { name = codes "m"; enter = has.enter; exit = has.exit })) =
    subst (λ (v : Obj). HasPayload store v (payload.Manager (record { name = codes "m"; enter = has.enter; exit = has.exit }))) (sym manager) has.entry in
    differ 0 1 refl (ap (λ (k : ManagerBody). k.exit) (manager_of _ _ (some_is _ _ entry)) ∙ sym exit)
