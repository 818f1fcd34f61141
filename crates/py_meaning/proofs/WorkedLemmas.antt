-- What the definitions say of the journals that were worked by hand.
use Rattle.std.proofs.Common.{◌≡◌, ℕ, zero, suc, List, [], ◌∷◌, ◌++◌, Option, ◌<◌, ◌≤◌, refl, subst, inl, inr, lit<, ⊎_elim, arith, length, Some}
use Rattle.std.specs.Prelude.{pos, codes, slice_get}
use Rattle.py_objects.specs.declared.refs.PyBaseExceptionRef.{PyBaseExceptionRef}
use Rattle.py_objects.specs.declared.payload.Payload.{Payload}
use Rattle.py_objects.specs.declared.payload.Payload.TheVariants as payload
use Rattle.py_code.specs.declared.operator.BinaryOperator.TheVariants as binary
use Rattle.py_objects.specs.declared.request.Request.{Request}
use Rattle.py_objects.specs.declared.request.Request.TheVariants.{Binary}
use Rattle.py_objects.specs.declared.event.GotAnswer.TheVariants as got
use Rattle.py_objects.specs.declared.event.Ending.TheVariants as ending
use Rattle.py_objects.specs.declared.event.DriveAnswer.TheVariants as answer
use Rattle.py_objects.specs.declared.event.Event.{Event}
use Rattle.py_objects.specs.declared.event.Event.TheVariants as event
use Rattle.py_objects.specs.declared.error_kind.ErrorKind.TheVariants.{OverflowError}
use Rattle.py_objects.specs.Objects.{Obj, Name, AllFit}
use Rattle.py_objects.specs.Own.{Own, Asks, own_events, own_from, told_by}
use Rattle.py_tree.specs.Scene.{anywhere}
use Rattle.py_tree.specs.Trace.{IsTrace}
use Rattle.py_grammar.specs.Grammar.{Declares, Drives, FunctionDecl, ManagerDecl, OfBody, codes_in}
use Rattle.py_grammar.specs.Lines.{lines}
use Rattle.py_grammar.specs.Script.{Spells}
use Rattle.py_answers.specs.Answers.{This, Is, Passes}
use Rattle.py_run.specs.Run.{Plan, Activation}
use Rattle.py_run.specs.Coming.{Past, nothing, Comes, EachTells}
use Rattle.py_run.specs.Past.{past_behind}
use Rattle.py_meaning.specs.Whole.{Traces, IsRunOf, plan_of}
use Rattle.py_meaning.specs.Worked.{script, function, decls, call_of, drives, object, exception, function_entry, objects_by, objects, objects_with_manager, entered, asked, events, unfinished, with_round, swapped, driven_twice, greatest, overflowing, error_entry, error_objects, raising_objects, overflow_objects, raises, overflow_by}
use Rattle.py_meaning.proofs.WorkedObjects.{some_is}
use Rattle.py_meaning.proofs.Journals.{RaiseIsTraced, are_globals, are_named, are_objects, asking_comes, asks_numbers, begun, call, call_runs, code_of, differ, entry_of, few_asked, first_raises, fits, gives_sum, is_of_kind, made_error, one_tells, overflows, plan_with, reads_of, runs, sum_comes, traced, overflow_is_run as overflow_run}

pub spelled : Spells (lines script) decls drives
spelled =
    let items = Declares (FunctionDecl function) ∷ Drives (call_of (codes "f") (pos 33) (pos 12)) ∷ [] in
    record { items = items; reads = reads_of items; read = ((refl, tt), ((refl, omega arith), ((refl, omega arith), ((refl, tt), ((refl, tt), tt))))); spelled = refl; well = ((refl, (refl, (refl, tt))), (refl, tt)); declared = refl; driven = refl }

sum_fits : AllFit objects
sum_fits = fits function (payload.Int (pos 33) ∷ payload.Int (pos 12) ∷ payload.Frame 0 ∷ payload.Int (pos 45) ∷ []) refl (tt, (tt, (tt, (tt, tt))))

-- what the run is of
abbrev plan : Plan
plan = plan_with function []

-- up to the activation's end
front_comes : (rest : List Event) → Comes plan objects (past_behind plan nothing unfinished) rest → Comes plan objects nothing (unfinished ++ rest)
front_comes rest k =
    let asking : Past = past_behind plan nothing (entered 1 (asked 1 (object 3) (object 4) [])) in
    asking_comes function [] (pos 33) (pos 12) (payload.Int (pos 45) ∷ []) (event.Got 1 (got.Value (object 6)) ∷ event.End 1 (ending.Return (object 6)) 5 ∷ rest) (lit< tt) (runs _ _ _ _ _ _ _ refl refl refl) refl
    (sum_comes function plan (pos 33) (pos 12) (payload.Int (pos 45) ∷ []) asking 1 (got.Value (object 6)) refl refl refl refl, ((refl, refl), k))

sum_traced : IsTrace (anywhere objects (object 2)) function (object 3 ∷ object 4 ∷ []) (own_events 1 events)
unfolding own_from told_by
sum_traced = (refl, (_, refl, inr (inr (2, _, refl, refl, inr (4, got.Value (object 6), _, refl, inr (inr (5, refl)))))))

pub is_run : IsRunOf decls drives objects events
is_run =
    call_runs function (pos 33) (pos 12) (payload.Int (pos 45) ∷ []) events refl (tt, tt) sum_fits (front_comes (event.Result 1 (answer.Returns (object 6)) ∷ []) ((refl, refl, inl (Is (object 6), inl (_, refl, (refl, refl)), refl)), tt))
    (one_tells (Traces (codes_in decls) (object 2) objects) (object 0) (object 3 ∷ object 4 ∷ []) events refl (_, refl, (OfBody function, refl, sum_traced))) (are_named objects events sum_fits refl)

front_tells : EachTells (Traces (codes_in decls) (object 2) objects) unfinished
unfolding own_from told_by
front_tells = one_tells (Traces (codes_in decls) (object 2) objects) (object 0) (object 3 ∷ object 4 ∷ []) unfinished refl (_, refl, (OfBody function, refl, sum_traced))

pub front_is_run : IsRunOf decls drives objects unfinished
front_is_run = call_runs function (pos 33) (pos 12) (payload.Int (pos 45) ∷ []) unfinished refl (tt, tt) sum_fits (front_comes [] tt) front_tells (are_named objects unfinished sum_fits refl)

pub no_round : IsRunOf decls drives objects with_round → ⊥
unfolding own_from told_by
no_round r =
    let b = begun (anywhere objects r.globals) function (object 3 ∷ object 4 ∷ []) _ (traced function objects drives with_round refl refl r) in
    ⊎_elim (λ a. cc a.0) (λ a. ⊎_elim (λ a. cc a.0) (λ a. cc a.3) a) b

-- what is asked first has this request
first_request : (at at' : ℕ) (r r' : Request) (own own' : Option PyBaseExceptionRef) (ts us : List Own) → Asks at r own ∷ ts ≡ Asks at' r' own' ∷ us → r ≡ r'
first_request at at' r r' own own' ts us e = cc

left_operand : (a b c d : Obj) → Binary binary.Add a b ≡ Binary binary.Add c d → a ≡ c
left_operand a b c d e = cc

pub no_swapped_operands : IsRunOf decls drives objects swapped → ⊥
unfolding own_from told_by
no_swapped_operands r =
    let b = begun (anywhere objects r.globals) function (object 3 ∷ object 4 ∷ []) _ (traced function objects drives swapped refl refl r) in
    ⊎_elim (λ a. cc a.0) (λ a. ⊎_elim (λ a. cc a.0) (λ a. differ 4 3 refl (left_operand _ _ _ _ (first_request _ _ _ _ _ _ _ _ a.3))) a) b

pub no_drive_beyond : IsRunOf decls drives objects driven_twice → ⊥
no_drive_beyond r = let few : length r.asked ≤ 1 = few_asked objects driven_twice drives r.asked r.are_asked in let more : 1 < length r.asked = r.run.comes.1.1.1.1.1.1.1.0.2 in omega arith

pub no_other_code : IsRunOf decls drives (objects_by (function_entry (codes "f") 1)) events → ⊥
no_other_code r = let e = code_of (codes "f") (codes "f") 1 0 (entry_of function _ (object 0) r.are_objects refl) in cc

pub no_other_name : IsRunOf decls drives (objects_by (function_entry (codes "g") 0)) events → ⊥
no_other_name r = let entry = r.are_objects.functions 0 (OfBody function) refl in let e = entry.1 in cc

no_declared : (i : ℕ) (m e x : Name) → slice_get decls i ≡ Some (ManagerDecl m e x) → ⊥
no_declared zero m e x at = cc at
no_declared (suc i) m e x at = cc at

pub no_manager : IsRunOf decls drives objects_with_manager events → ⊥
no_manager r = let (i, m, e, x, at, found) = r.are_objects.only_managers (object 7) _ refl in no_declared i m e x at

raise_traced : (more : List Payload) (i j : ℕ) (e : PyBaseExceptionRef) → RaiseIsTraced function more i j e
raise_traced more i j e = (refl, (_, refl, inr (inr (2, _, refl, refl, inr (j, got.Raise e, _, refl, inr (2, refl))))))

pub overflow_is_run : IsRunOf decls (overflowing ∷ []) overflow_objects (overflow_by (exception 8))
overflow_is_run = overflow_run function refl (runs _ _ _ _ _ _ _ refl refl refl) refl (raise_traced [] 2 4 (exception 8))

-- the objects of two drives that raise, and their run
abbrev both_objects : List Payload
both_objects = raising_objects OverflowError (error_entry OverflowError ∷ [])

abbrev both_raise : List Event
both_raise = raises 1 (exception 8) (raises 2 (exception 9) [])

both_fit : AllFit both_objects
both_fit =
    let more = error_entry OverflowError ∷ [] in
    fits function (payload.Int greatest ∷ payload.Int (pos 1) ∷ payload.Frame 0 ∷ error_objects OverflowError more) refl (tt, (tt, (tt, (tt, (tt, (made_error function more, (made_error function more, tt)))))))

both_tell : EachTells (Traces (codes_in decls) (object 2) both_objects) both_raise
unfolding own_from told_by
both_tell zero a e = subst (λ (a : Activation). Traces (codes_in decls) (object 2) both_objects a.function a.args (own_events 1 both_raise)) (some_is _ a e) (_, refl, (OfBody function, refl, raise_traced (error_entry OverflowError ∷ []) 2 4 (exception 8)))
both_tell (suc zero) a e = subst (λ (a : Activation). Traces (codes_in decls) (object 2) both_objects a.function a.args (own_events 2 both_raise)) (some_is _ a e) (_, refl, (OfBody function, refl, raise_traced (error_entry OverflowError ∷ []) 9 11 (exception 9)))
both_tell (suc (suc i)) a e = absurd cc

-- what it is of
abbrev both_plan : Plan
both_plan = plan_with function (call ∷ [])

-- up to the second drive's question
abbrev second_asks : List Event
second_asks = raises 1 (exception 8) (entered 2 (asked 2 (object 3) (object 4) []))

second_raises : Comes both_plan both_objects (past_behind both_plan nothing (overflow_by (exception 8))) (raises 2 (exception 9) [])
second_raises =
    let asking : Past = past_behind both_plan nothing second_asks in (
      (refl, refl, lit< tt),
      (
        (refl, (refl, (_, refl, inr (inl (object 0, object 3 ∷ object 4 ∷ [], refl, runs _ _ _ _ _ _ _ refl refl refl))))),
        (
          (refl, is_of_kind _ _ _ _ _ _ refl refl refl),
          (
            (refl, refl),
            (
              sum_comes function both_plan greatest (pos 1) (error_objects OverflowError (error_entry OverflowError ∷ [])) asking 2 (got.Raise (exception 9)) refl refl refl
                  (overflows function 9 (error_entry OverflowError ∷ []) asking.events refl (refl, (refl, (refl, (refl, (refl, (refl, (refl, (refl, (refl, (refl, (refl, tt)))))))))))),
              ((refl, refl), ((refl, refl, inl (Passes (This (exception 9)), inl (_, refl, (refl, refl)), refl)), tt)),
            ),
          ),
        ),
      ),
    )

pub errors_are_run : IsRunOf decls (overflowing ∷ overflowing ∷ []) both_objects both_raise
errors_are_run =
    let asks = asks_numbers function greatest (pos 1) (error_objects OverflowError (error_entry OverflowError ∷ [])) both_raise refl in
    record {
      asked = call ∷ call ∷ [];
      globals = object 2;
      are_globals = are_globals function (payload.Int greatest ∷ payload.Int (pos 1) ∷ payload.Frame 0 ∷ error_objects OverflowError (error_entry OverflowError ∷ [])) refl;
      are_asked = (asks, (asks, tt));
      run =
          record {
            comes = first_raises function (call ∷ []) (error_entry OverflowError ∷ []) (raises 2 (exception 9) []) (lit< tt) (runs _ _ _ _ _ _ _ refl refl refl) refl second_raises;
            tells = both_tell;
            named = are_named both_objects both_raise both_fit refl;
          };
      are_objects = are_objects function greatest (pos 1) (error_objects OverflowError (error_entry OverflowError ∷ [])) refl (tt, (tt, (tt, (tt, tt)))) both_fit;
    }

pub no_error_twice : IsRunOf decls (overflowing ∷ overflowing ∷ []) both_objects (raises 1 (exception 8) (raises 2 (exception 8) [])) → ⊥
no_error_twice r =
    let given = gives_sum (plan_of (codes_in decls) r.asked) both_objects (past_behind (plan_of (codes_in decls) r.asked) nothing second_asks) (object 3) (object 4) greatest (pos 1) (got.Raise (exception 8)) refl refl r.run.comes.1.1.1.1.1.1.1.1.1.1.1.0.1 in
    let named = given.made.new.unnamed 4 (event.Got 1 (got.Raise (exception 8))) refl in
    cc
