-- A call of count, with a next and a close of its generator: its events may come between drives, and its activation tells
-- what it may.
use Rattle.std.proofs.Common.{◌≡◌, ◌+◌, ◌<◌, ◌≤◌, ◌++◌, ℕ, suc, List, [], ◌∷◌, true, false, Some, None, length, refl}
use Rattle.std.proofs.Common.{sym, ap, ◌∙◌, ◌⊎◌, inl, inr, arith}
use Rattle.std.specs.Prelude.{Option, pos, codes, slice_get}
use Rattle.py_code.specs.declared.operator.BinaryOperator.TheVariants as binary
use Rattle.py_objects.specs.declared.refs.PyBaseExceptionRef.{PyBaseExceptionRef}
use Rattle.py_objects.specs.declared.payload.Payload.{Payload}
use Rattle.py_objects.specs.declared.payload.Payload.TheVariants as payload
use Rattle.py_objects.specs.declared.payload.ClassBody.{ClassBody}
use Rattle.py_objects.specs.declared.payload.CoroBody.{CoroBody}
use Rattle.py_objects.specs.declared.payload.ExceptionBody.{ExceptionBody}
use Rattle.py_objects.specs.declared.payload.CoroKind.TheVariants as coro
use Rattle.py_objects.specs.declared.error_kind.ErrorKind.TheVariants.{GeneratorExit, StopIteration}
use Rattle.py_objects.specs.ErrorKinds.{name_of}
use Rattle.py_objects.specs.declared.request.Request.{Request}
use Rattle.py_objects.specs.declared.request.Request.TheVariants as request
use Rattle.py_objects.specs.declared.event.ResumeHow.{ResumeHow}
use Rattle.py_objects.specs.declared.event.ResumeHow.TheVariants as how
use Rattle.py_objects.specs.declared.event.DriveAnswer.TheVariants as answer
use Rattle.py_objects.specs.declared.event.Ending.TheVariants as ending
use Rattle.py_objects.specs.declared.event.Event.{Event}
use Rattle.py_objects.specs.declared.event.Event.TheVariants as event
use Rattle.py_objects.specs.Singletons.{none_object}
use Rattle.py_objects.specs.Objects.{Obj, HasPayload, IsNew}
use Rattle.py_objects.specs.Own.{Own, Resumes, Rounds, Yields, Ends, own_from, told_by}
use Rattle.py_objects.specs.Values.{new_exception}
use Rattle.py_exceptions.specs.Classes.{class_of, mro_of, first_classes}
use Rattle.py_coro.specs.declared.coro.CoroAnswer.TheVariants as told
use Rattle.py_coro.specs.declared.coro.CoroEnd.TheVariants as left
use Rattle.py_coro.specs.Modes.{Mode, Fresh, Running, Suspended, sent, closed}
use Rattle.py_coro.specs.Refusals.{word_of}
use Rattle.py_coro.specs.Leaving.{Finishes, IsOfClass, mode_behind}
use Rattle.py_answers.specs.Answers.{Raised, Reply, Replies, Has, Creates, Yields as Yielding, Closes, BuiltIn}
use Rattle.py_answers.specs.Answers.{IsCalled}
use Rattle.py_make.proofs.ScriptLemmas.{count_suite}
use Rattle.py_tree.specs.Binding.{start_env}
use Rattle.py_tree.specs.Outcome.{RunsSuite}
use Rattle.py_tree.specs.Trace.{EndsBy}
use Rattle.py_grammar.specs.Grammar.{OfBody}
use Rattle.py_run.specs.Run.{Posed, Activation, Idle, Asking, Made, requested_by, entered_in}
use Rattle.py_run.specs.Generators.{Generator, generator_at, running_at, settled}
use Rattle.py_run.specs.Calls.{Course, IsDue, Setting, Begins, Enters, Sends, Throws, course_by, CallsFunction}
use Rattle.py_run.specs.Calls.{IsKept, SendsTo, ClosesTo, kept_or_closed}
use Rattle.py_run.specs.Coming.{Past, IsOfKind, IsEntered, MakesGenerator, Opens}
use Rattle.py_run.proofs.GeneratorsLemmas.{entries}
use Rattle.py_meaning.specs.Whole.{signature_of}
use Rattle.made_runs.proofs.Lists.{length_on}
use Rattle.made_runs.proofs.Blocks.{up, Names, names_wider}
use Rattle.made_runs.proofs.Found.{AreBelow, found_last, found_running, found_changed}
use Rattle.made_runs.proofs.Objects.{shared_count, obj, count_function, count_tree, store, is_new}
use Rattle.made_runs.proofs.Objects.{true_object, count_object, zero_object, one_object, empty_object}
use Rattle.made_runs.proofs.Groups.{calls, next, close, counted, exception, generator_body, exit_raised}
use Rattle.made_runs.proofs.Groups.{asks, created, yields, closes, counting, made_of, Counts}
use Rattle.made_runs.proofs.Steps.{Come, IsAsked, function_called, place, place_in, plan, past, on, names_on}
use Rattle.made_runs.proofs.Steps.{in_body, truth_comes, low, asks_name, truth_name}
use Rattle.made_runs.proofs.Telling.{Tell, scene, gets, hears}

-- ---- names

module _ (n : ℕ) (enough : shared_count ≤ n) where
  -- the number that count yields is an object that all runs share
  zero_low : zero_object.number < n
  zero_low = low n enough zero_object refl

  -- so is the one that it adds
  one_low : one_object.number < n
  one_low = low n enough one_object refl

  -- the beginning of the call
  created_name : (d a : ℕ) (x : Obj) (rest : List Event) → x.number < n → Names n rest → Names n (created d a x rest)
  created_name d a x rest number names = (tt, ((low n enough count_object refl, (number, tt)), names))

  -- the call's answer, and the next up to its answer
  yields_name : (d d2 a g : ℕ) (rest : List Event) → g < n → Names n rest → Names n (yields d d2 a g rest)
  yields_name d d2 a g rest first names =
      let yielded : List Event = event.Yield a zero_object 0 ∷ event.Result d2 (answer.Yields zero_object) ∷ rest in
      let tested : Names n (asks a (request.Truth true_object) None true_object yielded) =
      truth_name n enough a true None yielded tt ((zero_low, tt), ((zero_low, tt), names)) in
      ((first, tt), (tt, (tt, (tt, tested))))

  -- all events of the group
  pub counting_names : (d d2 d3 a g : ℕ) (x : Obj) → x.number < n → g < n → suc g < n
      → Names n (counting d d2 d3 a g x)
  counting_names d d2 d3 a g x number first second =
      let own : Option PyBaseExceptionRef = Some (exception (suc g)) in
      let adds : Request = request.Binary binary.Add zero_object one_object in
      let ends : List Event = event.End a (ending.Raise (exception (suc g))) 0 ∷ event.Result d3 answer.Closes ∷ [] in
      let added : Names n (asks a adds own one_object ends) =
      asks_name n enough a adds own one_object ends (second, tt) (zero_low, (one_low, tt)) one_low
      ((second, tt), (tt, tt)) in
      let closed : Names n (event.Drive d3 ∷ closes d3 a g) = (tt, ((second, tt), added)) in
      created_name d a x (yields d d2 a g (event.Drive d3 ∷ closes d3 a g)) number
      (yields_name d d2 a g (event.Drive d3 ∷ closes d3 a g) first closed)

-- ---- what the generator's class and its exception are

-- the class of the exception that closes a generator
abbrev exit_class : ClassBody
exit_class = record { name = name_of GeneratorExit; mro = mro_of first_classes GeneratorExit }

-- this exception, of no arguments
abbrev exit_body : ExceptionBody
exit_body = new_exception (class_of first_classes GeneratorExit) empty_object

-- what a next of the generator comes to, at this depth, where it hasn't begun
abbrev begun : (a depth : ℕ) → Course
begun a depth = course_by (word_of coro.Generator) a (Sends a none_object) (sent Fresh true depth)

-- and what its close comes to, where it has yielded
abbrev exited : (a depth : ℕ) → Course
exited a depth = course_by (word_of coro.Generator) a (Throws a (BuiltIn GeneratorExit [])) (closed Suspended depth)

-- count is a function of generators
abbrev count_kind : (asked : List Posed) (more : List Payload)
    → IsOfKind (plan asked) (store more) count_object (Some coro.Generator)
count_kind asked more = record {
  body = count_function;
  entry = refl;
  signature = signature_of (OfBody count_tree);
  signed = refl;
  kind_is = refl;
}

-- ---- it may come

module _ (asked : List Posed) (more : List Payload) (es : List Event) (d : ℕ) (ms : List Activation)
    (gs : List Generator) (n : ℕ) (x : Obj) where
  -- the number of the activation
  abbrev a : ℕ
  a = suc (length ms)

  -- that of the second drive
  abbrev d2 : ℕ
  d2 = suc (suc d)

  -- and that of the third one
  abbrev d3 : ℕ
  d3 = suc d2

  -- the activations with that of the call
  abbrev made : List Activation
  made = ms ++ counted x ∷ []

  -- as many were made
  same_act : length made ≡ a
  same_act = length_on ms (counted x)

  -- the generator, in each of its modes
  abbrev generator : Mode → Generator
  generator mode = record { object = obj n; act = a; mode = mode }

  -- its object is there
  abbrev IsGenerator : Type 0
  IsGenerator = HasPayload (store more) (obj n) (payload.Generator (generator_body (length ms)))

  -- the generator as the call makes it
  abbrev new_generator : Generator
  new_generator = record { object = obj n; act = length made; mode = Fresh }

  -- the generators behind the call
  abbrev called_generators : List Generator
  called_generators = gs ++ new_generator ∷ []

  -- these, behind the answer of the next, where this is what it asks
  abbrev settled_by : Option Posed → List Generator
  settled_by o = settled (requested_by o) (left.Yield zero_object) (running_at a called_generators)

  -- the generators behind the next
  abbrev yielded_generators : List Generator
  yielded_generators = settled_by (slice_get asked (suc d))

  -- where the next is asked
  abbrev next_place : Setting
  next_place = place_in asked more (suc d) 0 None called_generators

  -- where the close is asked
  abbrev close_place : Setting
  close_place = place_in asked more d2 0 None yielded_generators

  -- the events up to the answer of the call
  abbrev created_events : List Event
  created_events = created (suc d) a x []

  -- and up to the close
  abbrev yielded_events : List Event
  yielded_events = created (suc d) a x (yields (suc d) d2 a n (event.Drive d3 ∷ []))

  -- where the call is answered
  abbrev created_past : Past
  created_past = past (on es created_events) d (Made count_object) [] made gs

  -- where the close is answered
  abbrev yielded_past : Past
  yielded_past = past (on es yielded_events) d2 Asking [] made yielded_generators

  -- behind the call the generator hasn't begun
  found_fresh : AreBelow n (entries gs) → generator_at called_generators (obj n) ≡ Some (generator Fresh)
  found_fresh below =
      found_last n gs new_generator below refl
      ∙ ap (λ (i : ℕ). Some (record { object = obj n; act = i; mode = Fresh })) same_act

  -- behind the next it has yielded
  found_suspended : AreBelow n (entries gs) → IsAsked asked more (suc d) (next n)
      → generator_at yielded_generators (obj n) ≡ Some (generator Suspended)
  found_suspended below is =
      ap (λ (o : Option Posed). generator_at (settled_by o) (obj n)) is
      ∙ found_changed (obj n) (λ m. mode_behind false (left.Yield zero_object))
      (running_at a called_generators) (generator Running)
      (found_running a (obj n) called_generators (generator Fresh) refl (found_fresh below))

  -- it is among those that are kept
  kept : (gens : List Generator) (mode : Mode) (depth : ℕ) → IsGenerator
      → generator_at gens (obj n) ≡ Some (generator mode)
      → IsKept (place asked more depth None gens) (store more) (obj n) coro.Generator (generator mode)
  kept gens mode depth first found = record {
    body = generator_body (length ms);
    entry = first;
    kind_is = refl;
    kept = sym (ap (kept_or_closed (obj n)) found);
  }

  -- the exception is the one of a close
  exits : shared_count ≤ n → x.number < n → Names n es → HasPayload (store more) (obj (suc n)) exit_raised
      → IsCalled (store more) (on es yielded_events) (class_of first_classes GeneratorExit) [] (obj (suc n))
  exits enough number names second =
      let more_enough : shared_count ≤ suc n = omega (arith, enough) in
      let last : List Event = event.Drive d3 ∷ [] in
      let yielding : Names (suc n) yielded_events =
      created_name (suc n) more_enough (suc d) a x (yields (suc d) d2 a n last) (omega (arith, number))
      (yields_name (suc n) more_enough (suc d) d2 a n last (omega arith) (tt, tt)) in
      let below : Names (suc n) (on es yielded_events) =
      names_on (suc n) es yielded_events (names_wider n (suc n) es (omega arith) names) yielding in (
        false,
        (exit_class, refl, refl),
        record {
          new = is_new (store more) (on es yielded_events) (suc n) exit_raised second refl below;
          args = empty_object;
          entry = second;
          are = refl;
        },
      )

  -- the exception is of the class that closes, and so it ends the generator
  exit_finishes : HasPayload (store more) (obj (suc n)) exit_raised
      → Finishes (store more) coro.Generator true (left.Raise (exception (suc n))) told.Closed
  exit_finishes second =
      let e : PyBaseExceptionRef = exception (suc n) in
      let stops : IsOfClass (store more) e StopIteration false = (exit_body, second, (exit_class, refl, refl)) in
      let exits : IsOfClass (store more) e GeneratorExit true = (exit_body, second, (exit_class, refl, refl)) in
      (None, true, (false, stops, refl), exits, refl)

  -- the close throws the exception into the generator, which ends by it
  closes_comes : shared_count ≤ n → x.number < n → Names n es → AreBelow n (entries gs)
      → IsAsked asked more (suc d) (next n) → IsAsked asked more d2 (close n)
      → IsGenerator → HasPayload (store more) (obj (suc n)) exit_raised
      → Come asked more yielded_past (closes d3 a n)
  closes_comes enough number names below is2 is3 first second =
      let depth : ℕ = entered_in (slice_get asked d2) + 0 in
      let keeps : IsKept close_place (store more) (obj n) coro.Generator (generator Suspended) =
      kept yielded_generators Suspended depth first (found_suspended below is2) in
      let closing : ClosesTo close_place (store more) (obj n) (Throws a (BuiltIn GeneratorExit [])) = (
        coro.Generator,
        generator Suspended,
        keeps,
        sym (ap (λ (o : Option Posed). exited a (entered_in o + 0)) is3),
      ) in
      let opens : Opens (plan asked) (store more) yielded_past (Throws a (BuiltIn GeneratorExit [])) =
      (refl, (close n, ap requested_by is3, inr (inr (inr (inr (inr (inl (obj n, refl, closing)))))))) in
      let raised : Raised = BuiltIn GeneratorExit [] in
      let entered : IsEntered (plan asked) (store more) yielded_past (how.Throw (exception (suc n))) a =
      (raised, opens, (class_of first_classes GeneratorExit, refl, exits enough number names second)) in
      let sum : Request = request.Binary binary.Add zero_object one_object in
      let one : Reply = Has (payload.Int (pos 1)) in
      let added : Replies (store more) sum one = (_, _, codes "int", codes "int", refl, refl, refl, refl, refl) in
      let due : IsDue (store more) (close n) (left.Raise (exception (suc n))) Closes =
      (generator_body (length ms), first, told.Closed, exit_finishes second, refl) in (
        entered,
        (
          (refl, refl),
          (
            (refl, (one, (sum, refl, inl (one, refl, added)), refl)),
            ((refl, refl), ((refl, refl, inl (Closes, inl (close n, ap requested_by is3, due), refl)), tt)),
          ),
        ),
      )

  -- the call gives the generator, and the next starts it, so that it yields
  yields_comes : shared_count ≤ n → x.number < n → Names n es → AreBelow n (entries gs) → d2 < length asked
      → IsAsked asked more d (calls count_object x) → IsAsked asked more (suc d) (next n) → IsGenerator
      → Come asked more yielded_past (closes d3 a n)
      → Come asked more created_past (yields (suc d) d2 a n (event.Drive d3 ∷ closes d3 a n))
  yields_comes enough number names below few is is2 first k =
      let depth : ℕ = entered_in (slice_get asked (suc d)) + 0 in
      let body_of : ℕ → CoroBody = λ i. record { activation = i; name = codes "count"; kind = coro.Generator } in
      let body : CoroBody = body_of (length made) in
      let new : IsNew (store more) (on es created_events) n =
      is_new (store more) (on es created_events) n (payload.Generator (generator_body (length ms))) first refl
      (names_on n es created_events names (created_name n enough (suc d) a x [] number tt)) in
      let entry : HasPayload (store more) (obj n) (payload.Generator body) =
      first ∙ ap (λ (i : ℕ). Some (payload.Generator (body_of i))) (sym same_act) in
      let keeps : IsKept next_place (store more) (obj n) coro.Generator (generator Fresh) =
      kept called_generators Fresh depth first (found_fresh below) in
      let sending : SendsTo next_place (store more) (obj n) none_object (Begins a) = (
        coro.Generator,
        generator Fresh,
        keeps,
        payload.None,
        refl,
        sym (ap (λ (o : Option Posed). begun a (entered_in o + 0)) is2),
      ) in
      let test : Request = request.Truth true_object in
      let last : List Event = event.Drive d3 ∷ closes d3 a n in
      let yielded : List Event = event.Yield a zero_object 0 ∷ event.Result d2 (answer.Yields zero_object) ∷ last in
      let tests : List Event = asks a test None true_object yielded in
      let rounds : List Event =
      event.Result (suc d) (answer.Returns (obj n)) ∷ event.Drive d2 ∷ event.Resume a how.Start
      ∷ event.Round a 0 ∷ [] in
      let behind : List Event = on (on es created_events) rounds in
      let running : List Generator = running_at a called_generators in
      let made_it : MakesGenerator (plan asked) (store more) count_object (length made) (Creates body) =
      (coro.Generator, count_kind asked more, refl) in
      let due : IsDue (store more) (next n) (left.Yield zero_object) (Yielding zero_object) =
      (generator_body (length ms), first, told.Value zero_object, refl, refl) in
      let tested : List Event = on behind (asks a test None true_object []) in
      let yielding : Come asked more (in_body tested (suc d) a made running) yielded = (
        (refl, refl),
        ((refl, refl, inl (Yielding zero_object, inl (next n, ap requested_by is2, due), refl)), ((refl, refl, few), k)),
      ) in
      let testing : Come asked more (in_body behind (suc d) a made running) tests =
      truth_comes asked more behind (suc d) made running a true None yielded yielding in (
        (refl, refl, inl (Creates body, inl (calls count_object x, ap requested_by is, made_it), (new, entry))),
        (
          (refl, refl, omega (arith, few)),
          (
            (refl, (next n, ap requested_by is2, inr (inr (inr (inl (obj n, none_object, refl, sending)))))),
            ((refl, refl), testing),
          ),
        ),
      )

  -- all events of the group may come
  pub counting_comes : shared_count ≤ n → x.number < n → Names n es → AreBelow n (entries gs) → d2 < length asked
      → IsAsked asked more d (calls count_object x)
      → IsAsked asked more (suc d) (next n) → IsAsked asked more d2 (close n)
      → IsGenerator → HasPayload (store more) (obj (suc n)) exit_raised
      → Come asked more (past es d Idle [] ms gs) (counting (suc d) d2 d3 a n x)
  counting_comes enough number names below few is is2 is3 first second =
      let vs : List Obj = x ∷ [] in
      let at : Setting = place_in asked more d 0 None gs in
      let called : CallsFunction at (store more) count_object vs (Enters count_object vs) =
      function_called asked more at count_object vs count_function count_tree refl refl refl in (
        (refl, refl, omega (arith, few)),
        (
          (refl, (refl, (calls count_object x, ap requested_by is, inr (inl (count_object, vs, refl, called))))),
          yields_comes enough number names below few is is2 first
              (closes_comes enough number names below is2 is3 first second),
        ),
      )

-- ---- its activation tells what it may

-- what count tells from its first round on, where the events of its group begin with the number k
abbrev counted_own : (k n : ℕ) → List Own
counted_own k n =
    Rounds 0
    ∷ gets (up k 7) (request.Truth true_object) None true_object
    (Yields 0 zero_object ∷ Resumes (up k 11) (how.Throw (exception (suc n)))
    ∷ gets (up k 13) (request.Binary binary.Add zero_object one_object) (Some (exception (suc n))) one_object
    (Ends 0 (ending.Raise (exception (suc n))) ∷ []))

-- a trace goes on by a yield into which an exception is thrown, where what is left of it goes on behind that
pub thrown : {A : Type 0} {C : List Own → Type 0} {D : ℕ → ResumeHow → List Own → Type 0} {v : Obj} {i : ℕ}
    {rest : List Own} (e : PyBaseExceptionRef) → D i (how.Throw e) rest
    → A ⊎ ((at : ℕ) × (mid : List Own) × (true ≡ true)
    × (Yields 0 v ∷ Resumes i (how.Throw e) ∷ rest ≡ Yields at v ∷ mid)
    × (C mid ⊎ ((j : ℕ) × (w : ResumeHow) × (left : List Own) × (mid ≡ Resumes j w ∷ left) × D j w left)))
thrown e told = inr (0, _, refl, refl, inr (_, how.Throw e, _, refl, told))

-- the body of count tells this: it yields 0, adds 1 where it is closed, and ends
body_tells : (more : List Payload) (k n : ℕ) (x : Obj)
    → RunsSuite (scene more) count_suite (start_env count_tree (x ∷ [])) None (up k 4) (counted_own k n)
    (EndsBy (scene more))
body_tells more k n x =
    let e : PyBaseExceptionRef = exception (suc n) in
    inr (inr (
      zero_object,
      refl,
      inr (
        1,
        inr (
          0,
          _,
          refl,
          inr (
            true_object,
            refl,
            hears true_object
                (true, refl, inr (inr (thrown e (refl, inr (inr (one_object, refl, hears one_object (inr (inr (0, refl))))))))),
          ),
        ),
      ),
    ))

-- so its activation tells what it may
pub counting_tells : (more : List Payload) (k n : ℕ) (x : Obj)
    → Tell more 0 k (counting 0 1 2 0 n x) (made_of Counts n x)
unfolding own_from told_by
counting_tells more k n x = (
  (count_function, refl, (OfBody count_tree, refl, (refl, (_, refl, body_tells more k n x)))),
  tt,
)
