-- A call of work that returns its number: its events may come between drives, and each of its activations tells what it
-- may.
use Rattle.std.proofs.Common.{◌≡◌, ◌<◌, ◌≤◌, ℕ, suc, List, [], ◌∷◌, false, None, length, refl}
use Rattle.std.proofs.Common.{inr}
use Rattle.std.specs.Prelude.{pos, int_lt}
use Rattle.py_objects.specs.declared.payload.Payload.{Payload}
use Rattle.py_objects.specs.declared.payload.Payload.TheVariants as payload
use Rattle.py_objects.specs.declared.request.Request.TheVariants as request
use Rattle.py_objects.specs.declared.event.Ending.TheVariants as ending
use Rattle.py_objects.specs.declared.event.Event.{Event}
use Rattle.py_objects.specs.Singletons.{none_object}
use Rattle.py_objects.specs.Objects.{Obj, HasPayload, numbers, AllBelow}
use Rattle.py_objects.specs.Own.{Own, Ends, own_from, told_by}
use Rattle.py_run.specs.Run.{Posed, Activation, Idle}
use Rattle.py_run.specs.Generators.{Generator}
use Rattle.made_runs.proofs.Blocks.{up, Names}
use Rattle.made_runs.proofs.Objects.{shared_count, store, false_object, scope_object, work_object}
use Rattle.made_runs.proofs.Groups.{calls, told_none}
use Rattle.made_runs.proofs.Groups.{asks, enters, leaves, returns, returning, made_of, Returns}
use Rattle.made_runs.proofs.Steps.{Come, IsAsked, past, on, low}
use Rattle.made_runs.proofs.Steps.{returns_comes, truth_comes}
use Rattle.made_runs.proofs.Steps.{begins_name, enters_name, leaves_name, truth_name}
use Rattle.made_runs.proofs.Working.{work_act, enter_act, exit_act, in_scope, behind_exit, scope_events}
use Rattle.made_runs.proofs.Working.{left_acts, left_generators, enters_scope, leaves_scope}
use Rattle.made_runs.proofs.Telling.{Tell, TellsWithin, gets, hears, enter_tells, exit_tells, work_tells}

-- the events name objects below n
pub returning_names : (n : ℕ) (enough : shared_count ≤ n) (d a b c : ℕ) (x : Obj) → x.number < n
    → Names n (returning d a b c x)
returning_names n enough d a b c x number =
    let none : none_object.number < n = low n enough none_object refl in
    let nothing : AllBelow n (numbers told_none) = (none, (none, (none, tt))) in
    let ends : List Event = returns d a x in
    let left_events : List Event = leaves a c None none_object none_object none_object ends in
    let tests : List Event = asks a (request.Truth false_object) None false_object left_events in
    begins_name n enough d a x false (enters a b tests) number
    (enters_name n enough a b tests
    (truth_name n enough a false None left_events tt
    (leaves_name n enough a c None none_object none_object none_object ends tt nothing
    ((number, tt), ((number, tt), tt)))))

module _ (asked : List Posed) (more : List Payload) (es : List Event) (d : ℕ) (ms : List Activation)
    (gs : List Generator) (x : Obj) where
  -- the number of the activation of work
  abbrev a : ℕ
  a = work_act ms

  -- all events of the group may come
  pub returning_comes : (v : ℕ) → IsAsked asked more d (calls work_object x) → d < length asked
      → HasPayload (store more) x (payload.Int (pos v)) → int_lt (pos v) (pos 500) ≡ false
      → Come asked more (past es d Idle [] ms gs) (returning (suc d) a (enter_act ms) (exit_act ms) x)
  returning_comes v is few has less =
      let ends : List Event = returns (suc d) a x in
      let left_events : List Event = leaves a (exit_act ms) None none_object none_object none_object ends in
      let test_events : List Event = asks a (request.Truth false_object) None false_object left_events in
      let entered_events : List Event = scope_events es d ms x false in
      let tested_events : List Event = on entered_events (asks a (request.Truth false_object) None false_object []) in
      let behind : List Event = on tested_events (leaves a (exit_act ms) None none_object none_object none_object []) in
      let returned : Come asked more (behind_exit behind d ms gs x told_none) ends =
      returns_comes asked more behind d (left_acts ms x told_none) (left_generators ms gs) a x x is in
      let leaving : Come asked more (in_scope tested_events d ms gs x) left_events =
      leaves_scope asked more tested_events d ms gs x is None none_object none_object none_object ends returned in
      enters_scope asked more es d ms gs x is v false test_events few has less
      (truth_comes asked more entered_events d _ _ a false None left_events leaving)

-- what work tells from its test within the scope on, where the events of its group begin with the number k
abbrev returned_own : (k : ℕ) → Obj → List Own
returned_own k x =
    gets (up k 15) (request.Truth false_object) None false_object
    (gets (up k 22) (request.Exit scope_object none_object none_object none_object) None none_object
    (Ends 0 (ending.Return x) ∷ []))

-- it returns its number within the scope
within_tells : (more : List Payload) (k : ℕ) (x : Obj) → TellsWithin more x false (up k 13) (returned_own k x)
within_tells more k x =
    inr (hears false_object (
      false,
      refl,
      inr (inr (none_object, none_object, none_object, refl, refl, refl, hears none_object (inr (0, refl)))),
    ))

-- work tells this, and so do the activations of the manager's functions
pub returning_tells : (more : List Payload) (k : ℕ) (x : Obj)
    → Tell more 0 k (returning 0 0 1 2 x) (made_of Returns 0 x)
unfolding own_from told_by
returning_tells more k x = (
  work_tells more k x false (returned_own k x) (within_tells more k x),
  (enter_tells more _ _, (exit_tells more _ _ none_object none_object none_object, tt)),
)
