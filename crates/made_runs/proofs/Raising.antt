-- A call of work that raises, catches its exception and returns it: its events may come between drives, and each of its
-- activations tells what it may.
use Rattle.std.proofs.Common.{◌≡◌, ◌<◌, ◌≤◌, ℕ, suc, List, [], ◌∷◌, true, false, Some, None, length}
use Rattle.std.proofs.Common.{refl, inl, inr}
use Rattle.std.specs.Prelude.{Option, pos, codes, int_lt}
use Rattle.py_objects.specs.declared.refs.PyBaseExceptionRef.{PyBaseExceptionRef}
use Rattle.py_objects.specs.declared.payload.Payload.{Payload}
use Rattle.py_objects.specs.declared.payload.Payload.TheVariants as payload
use Rattle.py_objects.specs.declared.payload.ExceptionBody.{ExceptionBody}
use Rattle.py_objects.specs.declared.request.Request.{Request}
use Rattle.py_objects.specs.declared.request.Request.TheVariants as request
use Rattle.py_objects.specs.declared.event.GotAnswer.TheVariants as got
use Rattle.py_objects.specs.declared.event.Ending.TheVariants as ending
use Rattle.py_objects.specs.declared.event.Event.{Event}
use Rattle.py_objects.specs.declared.event.Event.TheVariants as event
use Rattle.py_objects.specs.Singletons.{none_object}
use Rattle.py_objects.specs.Objects.{Obj, HasPayload}
use Rattle.py_objects.specs.Own.{Own, Ends, own_from, told_by}
use Rattle.py_objects.specs.Values.{new_exception}
use Rattle.py_exceptions.specs.declared.ctor.ExceptionCtor.TheVariants as ctor
use Rattle.py_answers.specs.Answers.{Reply, Makes as MakesOne, truth, Matches, Raises as Raised_as, IsCalled}
use Rattle.py_tree.specs.Outcome.{Tries, Raises as Raised}
use Rattle.py_run.specs.Run.{Posed, Activation, Idle}
use Rattle.py_run.specs.Generators.{Generator}
use Rattle.made_runs.proofs.Blocks.{up, Names}
use Rattle.made_runs.proofs.Objects.{shared_count, obj, fault_body, store, is_new}
use Rattle.made_runs.proofs.Objects.{false_object, true_object, fault_object, scope_object, work_object}
use Rattle.made_runs.proofs.Objects.{globals_object, empty_object}
use Rattle.made_runs.proofs.Groups.{calls, told_raise, exception, raised, fault_class}
use Rattle.made_runs.proofs.Groups.{asks, enters, leaves, catches, returns, raises_asked, raising, made_of}
use Rattle.made_runs.proofs.Groups.{Raises}
use Rattle.made_runs.proofs.Steps.{Come, IsAsked, past, in_body, on, names_on, low}
use Rattle.made_runs.proofs.Steps.{returns_comes, truth_comes, global_comes}
use Rattle.made_runs.proofs.Steps.{begins_name, enters_name, leaves_name, asks_name, truth_name, global_name}
use Rattle.made_runs.proofs.Working.{work_act, enter_act, exit_act, in_scope, behind_exit, scope_events}
use Rattle.made_runs.proofs.Working.{left_acts, left_generators, enters_scope, leaves_scope}
use Rattle.made_runs.proofs.Telling.{Tell, TellsWithin, scene, gets, behind_body, behind_scope, catching, tested}
use Rattle.made_runs.proofs.Telling.{hears, enter_tells, exit_tells, work_tells}

-- ---- names

module _ (n : ℕ) (enough : shared_count ≤ n) where
  -- Fault is an object that all runs share
  fault_low : fault_object.number < n
  fault_low = low n enough fault_object refl

  -- the events up to the question for the exception
  pub asked_name : (d a b : ℕ) (x : Obj) (rest : List Event) → x.number < n → Names n rest
      → Names n (raises_asked d a b x rest)
  asked_name d a b x rest number names =
      let raises : List Event = event.Ask a (request.Raisable fault_object) None 0 ∷ rest in
      let loads : List Event = asks a (request.Global globals_object (codes "Fault")) None fault_object raises in
      let tests : List Event = asks a (request.Truth true_object) None true_object loads in
      begins_name n enough d a x true (enters a b tests) number
      (enters_name n enough a b tests
      (truth_name n enough a true None loads tt
      (global_name n enough a (codes "Fault") fault_object None raises tt fault_low ((fault_low, tt), names))))

  -- the events from the exit's answer on
  caught_name : (d a e : ℕ) → e < n → Names n (catches a e (returns d a (obj e)))
  caught_name d a e first =
      let own : Option PyBaseExceptionRef = Some (exception e) in
      let match : Request = request.Match (obj e) fault_object in
      let ends : List Event = returns d a (obj e) in
      let tests : List Event = asks a (request.Truth true_object) own true_object ends in
      let matches : List Event = asks a match own true_object tests in
      let loads : List Event = asks a (request.Global globals_object (codes "Fault")) own fault_object matches in
      let none_low : none_object.number < n = low n enough none_object refl in
      asks_name n enough a (request.Truth none_object) None false_object loads tt (none_low, tt)
      (low n enough false_object refl)
      (global_name n enough a (codes "Fault") fault_object own matches (first, tt) fault_low
      (asks_name n enough a match own true_object tests (first, tt) (first, (fault_low, tt))
      (low n enough true_object refl)
      (truth_name n enough a true own ends (first, tt) ((first, tt), ((first, tt), tt)))))

  -- all events of the group
  pub raising_names : (d a b c e : ℕ) (x : Obj) → x.number < n → e < n → suc e < n → Names n (raising d a b c e x)
  raising_names d a b c e x number first second =
      let own : Option PyBaseExceptionRef = Some (exception e) in
      let caught : List Event = catches a e (returns d a (obj e)) in
      let left_events : List Event = leaves a c own fault_object (obj e) (obj (suc e)) caught in
      let leave : Names n left_events =
      leaves_name n enough a c own fault_object (obj e) (obj (suc e)) caught (first, tt)
      (fault_low, (first, (second, tt))) (caught_name d a e first) in
      asked_name d a b x (event.Got a (got.Value (obj e)) ∷ left_events) number ((first, tt), leave)

-- ---- the class and the exception

-- the exception, of no arguments
abbrev pub body : ExceptionBody
body = new_exception fault_class empty_object

-- Fault is a class of exceptions, and may be raised: then it is called
raisable : (more : List Payload) → Raised_as (store more) fault_object (MakesOne fault_class [])
raisable more =
    inl (ctor.Class fault_class, (payload.Class fault_body, refl, (true, (fault_body, refl, refl), refl)), refl)

-- what is raised is caught by its class
matches : (more : List Payload) (e : Obj) → HasPayload (store more) e raised
    → Matches (store more) e fault_object (truth true)
matches more e first =
    let class : Payload = payload.Class fault_body in
    (raised, class, first, refl, (true, (fault_body, refl, refl), (true, (fault_body, refl, refl), refl)))

-- ---- it may come

module _ (asked : List Posed) (more : List Payload) (es : List Event) (d : ℕ) (ms : List Activation)
    (gs : List Generator) (n : ℕ) (x : Obj) where
  -- the number of the activation of work
  abbrev a : ℕ
  a = work_act ms

  -- what work asks as it leaves the scope
  abbrev exit : Request
  exit = request.Exit scope_object fault_object (obj n) (obj (suc n))

  -- all events up to the question for the exception
  abbrev asked_events : List Event
  asked_events = on es (raises_asked (suc d) a (enter_act ms) x [])

  -- and up to its answer
  abbrev raised_events : List Event
  raised_events = on asked_events (event.Got a (got.Value (obj n)) ∷ [])

  -- those behind the exit's answer
  abbrev caught_events : List Event
  caught_events = catches a n (returns (suc d) a (obj n))

  -- and those from the exit on
  abbrev left_events : List Event
  left_events = leaves a (exit_act ms) (Some (exception n)) fault_object (obj n) (obj (suc n)) caught_events

  -- those from the question for the exception on
  abbrev last_events : List Event
  last_events = event.Ask a (request.Raisable fault_object) None 0 ∷ event.Got a (got.Value (obj n)) ∷ left_events

  -- from the question for its class on
  abbrev load_events : List Event
  load_events = asks a (request.Global globals_object (codes "Fault")) None fault_object last_events

  -- and from the test within the scope on
  abbrev raise_events : List Event
  raise_events = asks a (request.Truth true_object) None true_object load_events

  -- the events up to the question name objects below n
  asked_names : (m : ℕ) → shared_count ≤ m → x.number < m → Names m es → Names m asked_events
  asked_names m enough number names =
      names_on m es (raises_asked (suc d) a (enter_act ms) x []) names
      (asked_name m enough (suc d) a (enter_act ms) x [] number tt)

  -- the exception is new
  raises_new : shared_count ≤ n → x.number < n → Names n es → HasPayload (store more) (obj n) raised
      → IsCalled (store more) asked_events fault_class [] (obj n)
  raises_new enough number names first =
      let below : Names n asked_events = asked_names n enough number names in (
        false,
        (fault_body, refl, refl),
        record {
          new = is_new (store more) asked_events n raised first refl below;
          args = empty_object;
          entry = first;
          are = refl;
        },
      )

  -- it is caught and returned
  catches_comes : (before : List Event) (acts : List Activation) (gens : List Generator)
      → IsAsked asked more d (calls work_object x) → HasPayload (store more) (obj n) raised
      → Come asked more (in_body before d a acts gens) caught_events
  catches_comes before acts gens is first =
      let own : Option PyBaseExceptionRef = Some (exception n) in
      let global : Request = request.Global globals_object (codes "Fault") in
      let match : Request = request.Match (obj n) fault_object in
      let test : Request = request.Truth none_object in
      let ends : List Event = returns (suc d) a (obj n) in
      let tests : List Event = asks a (request.Truth true_object) own true_object ends in
      let answered : List Event = on before (asks a test None false_object []) in
      let loaded : List Event = on answered (asks a global own fault_object []) in
      let matched : List Event = on loaded (asks a match own true_object []) in
      let match_events : List Event = asks a match own true_object tests in
      let returned : Come asked more (in_body matched d a acts gens) tests =
      truth_comes asked more matched d acts gens a true own ends
      (returns_comes asked more (on before (catches a n [])) d acts gens a x (obj n) is) in
      let matching : Come asked more (in_body loaded d a acts gens) match_events = (
        (refl, refl),
        ((refl, (truth true, (match, refl, inl (truth true, refl, matches more (obj n) first)), refl)), returned),
      ) in
      let loading : Come asked more (in_body answered d a acts gens) (asks a global own fault_object match_events) =
      global_comes asked more answered d acts gens a (codes "Fault") fault_object own match_events refl matching in (
        (refl, refl),
        ((refl, (truth false, (test, refl, inl (truth false, refl, (payload.None, refl, refl))), refl)), loading),
      )

  -- it is raised within the scope
  raises_comes : HasPayload (store more) (obj n) raised → IsCalled (store more) asked_events fault_class [] (obj n)
      → Come asked more (in_scope raised_events d ms gs x) left_events
      → Come asked more (in_scope (scope_events es d ms x true) d ms gs x) raise_events
  raises_comes first new k =
      let call : Reply = MakesOne fault_class [] in
      let asks_it : Request = request.Raisable fault_object in
      let entered_events : List Event = scope_events es d ms x true in
      let tested_events : List Event = on entered_events (asks a (request.Truth true_object) None true_object []) in
      truth_comes asked more entered_events d _ _ a true None load_events
      (global_comes asked more tested_events d _ _ a (codes "Fault") fault_object None last_events refl
      ((refl, refl), ((refl, (call, (asks_it, refl, inl (call, refl, raisable more)), new)), k)))

  -- all events of the group may come
  pub raising_comes : (v : ℕ) → shared_count ≤ n → x.number < n → Names n es
      → IsAsked asked more d (calls work_object x) → d < length asked
      → HasPayload (store more) x (payload.Int (pos v)) → int_lt (pos v) (pos 500) ≡ true
      → HasPayload (store more) (obj n) raised
      → Come asked more (past es d Idle [] ms gs) (raising (suc d) a (enter_act ms) (exit_act ms) n x)
  raising_comes v enough number names is few has less first =
      let own : Option PyBaseExceptionRef = Some (exception n) in
      let exits : List Event = leaves a (exit_act ms) own fault_object (obj n) (obj (suc n)) [] in
      let caught : Come asked more (behind_exit (on raised_events exits) d ms gs x (told_raise n)) caught_events =
      catches_comes (on raised_events exits) (left_acts ms x (told_raise n)) (left_generators ms gs) is first in
      let leaving : Come asked more (in_scope raised_events d ms gs x) left_events =
      leaves_scope asked more raised_events d ms gs x is own fault_object (obj n) (obj (suc n)) caught_events caught in
      enters_scope asked more es d ms gs x is v true raise_events few has less
      (raises_comes first (raises_new enough number names first) leaving)

-- ---- its activations tell what they may

-- what work tells while it catches the exception, where the events of its group begin with the number k
abbrev caught_own : (k n : ℕ) → List Own
caught_own k n =
    let own : Option PyBaseExceptionRef = Some (exception n) in
    gets (up k 30) (request.Global globals_object (codes "Fault")) own fault_object
    (gets (up k 32) (request.Match (obj n) fault_object) own true_object
    (gets (up k 34) (request.Truth true_object) own true_object (Ends 0 (ending.Return (obj n)) ∷ [])))

-- and from the exit on
abbrev left_own : (k n : ℕ) → List Own
left_own k n =
    gets (up k 26) (request.Exit scope_object fault_object (obj n) (obj (suc n))) (Some (exception n)) none_object
    (gets (up k 28) (request.Truth none_object) None false_object (caught_own k n))

-- and from its test within the scope on
abbrev raised_own : (k n : ℕ) → List Own
raised_own k n =
    gets (up k 15) (request.Truth true_object) None true_object
    (gets (up k 17) (request.Global globals_object (codes "Fault")) None fault_object
    (gets (up k 19) (request.Raisable fault_object) None (obj n) (left_own k n)))

module _ (more : List Payload) (k n : ℕ) (x : Obj) where
  -- the clause catches the exception and returns it
  caught_tells : Tries (scene more) 11 catching (exception n) (tested x true) (Some (exception n)) (up k 28)
      (caught_own k n) (behind_body more)
  caught_tells =
      hears fault_object (hears true_object (hears true_object (true, refl, inr (inr (0, refl)))))

  -- the exit is told the exception and lets it go on
  left_tells : HasPayload (store more) (obj n) raised
      → behind_scope more (tested x true) (Raised (exception n)) (up k 19) (left_own k n)
  left_tells first =
      inr (body, obj (suc n), first, hears none_object (hears false_object (false, refl, caught_tells)))

  -- the exception is raised within the scope
  within_tells : HasPayload (store more) (obj n) raised → TellsWithin more x true (up k 13) (raised_own k n)
  within_tells first =
      inr (hears true_object (true, refl, inr (hears fault_object (hears (obj n) (left_tells first)))))

-- work tells this, and so do the activations of the manager's functions
pub raising_tells : (more : List Payload) (k n : ℕ) (x : Obj) → HasPayload (store more) (obj n) raised
    → Tell more 0 k (raising 0 0 1 2 n x) (made_of Raises n x)
unfolding own_from told_by
raising_tells more k n x first = (
  work_tells more k x true (raised_own k n) (within_tells more k n x first),
  (enter_tells more _ _, (exit_tells more _ _ fault_object (obj n) (obj (suc n)), tt)),
)
