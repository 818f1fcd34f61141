-- The journals of generators worked by hand are runs.
use Rattle.std.proofs.Common.{◌≡◌, List, [], ◌∷◌, true, false, Some, None, inl, inr, refl, subst, lit<, arith}
use Rattle.std.specs.Prelude.{codes, drop}
use Rattle.py_objects.specs.declared.error_kind.ErrorKind.TheVariants.{RuntimeError, StopIteration, TypeError, ValueError}
use Rattle.py_objects.specs.declared.payload.Payload.{Payload}
use Rattle.py_objects.specs.declared.payload.CoroKind.TheVariants as coro
use Rattle.py_objects.specs.declared.event.DriveAnswer.TheVariants as answer
use Rattle.py_objects.specs.declared.event.Event.{Event}
use Rattle.py_objects.specs.declared.event.Event.TheVariants as event
use Rattle.py_objects.specs.Objects.{IsNew}
use Rattle.py_exceptions.specs.declared.ctor.ExceptionCtor.TheVariants as ctor
use Rattle.py_exceptions.specs.declared.ctor.Instantiate.TheVariants as comes
use Rattle.py_exceptions.specs.Raisable.{not_exception}
use Rattle.py_exceptions.specs.Normalizing.{Normalizes}
use Rattle.py_answers.specs.Answers.{This, Called, Is, Fails, FailsFrom, Passes, Stops, Closes, IsCalled, IsRaised, IsRaisedFrom, GivesDrive}
use Rattle.py_coro.specs.Modes.{Fresh}
use Rattle.py_run.specs.Run.{Posed, Plan}
use Rattle.py_run.specs.Generators.{Generator}
use Rattle.py_run.specs.Coming.{nothing, Comes, IsRunBy}
use Rattle.py_run.specs.Past.{past_behind}
use Rattle.py_run.specs.Worked.{object, exception, send, close, throw, call, plain, anything, plan_with, created, yielded}
use Rattle.py_run.specs.WorkedNext.{objects as next_objects, plan as next_plan, events as next_events, two_objects, naming, giving}
use Rattle.py_run.specs.WorkedClose.{objects as close_objects, plan as close_plan, events as close_events}
use Rattle.py_run.specs.WorkedStop.{objects as stop_objects, plan as stop_plan, raising, events_by}
use Rattle.py_run.specs.WorkedSelf.{objects as self_objects, plan as self_plan, sending, events as self_events}
use Rattle.py_run.specs.WorkedIgnored.{objects as ignored_objects, plan as ignored_plan, yielding, events as ignored_events}
use Rattle.py_run.specs.WorkedThrow.{objects as throw_objects, plan as throw_plan, refused, events as throw_events, sending as send_plan, started}
use Rattle.py_run.specs.WorkedHandled.{objects as handled_objects, plan as handled_plan, events as handled_events}
use Rattle.py_run.proofs.Journals.{are_named, is_new, call_is, send_is, close_is, throw_is, generator_body, created_comes, yielded_comes}

-- the objects behind the first four
abbrev behind : List Payload → List Payload
behind (a ∷ b ∷ c ∷ d ∷ more) = more
behind _ = []

-- the second next resumes the generator, which returns; the third one finds it closed
next_comes : Comes next_plan next_objects nothing next_events
next_comes =
    yielded_comes [] (send (object 2) (object 0) ∷ send (object 2) (object 0) ∷ []) [] (drop 7 next_events) (is_new next_objects _ 2 refl refl) (
      (refl, refl, lit< tt),
      (
        (refl, (_, refl, send_is _ _ _ _ generator_body _ _ _ refl refl refl refl)),
        (
          (refl, refl),
          (
            (refl, refl, inl (Stops None, inl (_, refl, (generator_body, refl, _, (_, refl, refl), refl)), refl)),
            ((refl, refl, lit< tt), ((refl, refl, inl (Stops None, inl (_, refl, send_is _ _ _ _ generator_body _ _ _ refl refl refl refl), refl)), tt)),
          ),
        ),
      ),
    )

-- that is a run
pub next_is_run : IsRunBy anything next_plan next_objects next_events
next_is_run = record { comes = next_comes; tells = λ i a here. tt; named = are_named next_objects next_events refl refl }

-- the call that names one generator gives the other one
naming_comes : Comes naming two_objects nothing (giving 4)
naming_comes = (
  (refl, refl, lit< tt),
  (
    (refl, (refl, (_, refl, call_is _ _ _ _ _ _ _ refl refl refl))),
    ((refl, refl, inl (_, inl (_, refl, (coro.Generator, record { body = _; entry = refl; signature = _; signed = refl; kind_is = refl }, refl)), (is_new two_objects _ 4 refl refl, refl))), tt),
  ),
)

-- that is a run
pub naming_is_run : IsRunBy anything naming two_objects (giving 4)
naming_is_run = record { comes = naming_comes; tells = λ i a here. tt; named = are_named two_objects (giving 4) refl refl }

-- the one that the call names would have to be new, but the event of its making names it
pub named_is_none : Comes naming two_objects nothing (giving 2) → ⊥
named_is_none (drive, (make, ((next, alone, inr (asks, (e, reports, is))), rest))) = absurd (cc reports)
named_is_none (drive, (make, ((next, alone, inl (reply, inr (asks, (x, forms, is)), gives)), rest))) = absurd (cc forms)
named_is_none (drive, (make, ((next, alone, inl (reply, inl (r, asked, (kind, of_kind, is)), gives)), rest))) =
    old (subst (λ q. GivesDrive two_objects made q (answer.Returns (object 2))) is gives).0
  where
    made : List Event
    made = event.Drive 1 ∷ event.Make 1 (object 1) (object 2 ∷ []) ∷ []

    old : IsNew two_objects made 2 → ⊥
    old new = let clash : true ≡ false = new.unnamed 1 _ refl in absurd (cc clash)

-- the close closes the generator, and the next finds it closed
close_comes : Comes close_plan close_objects nothing close_events
close_comes =
    created_comes [] (close (object 2) ∷ send (object 2) (object 0) ∷ []) [] (drop 3 close_events) (is_new close_objects _ 2 refl refl) (
      (refl, refl, lit< tt),
      (
        (refl, refl, inl (Closes, inl (_, refl, close_is _ _ _ generator_body _ _ refl refl refl), refl)),
        ((refl, refl, lit< tt), ((refl, refl, inl (Stops None, inl (_, refl, send_is _ _ _ _ generator_body _ _ _ refl refl refl refl), refl)), tt)),
      ),
    )

-- that is a run
pub close_is_run : IsRunBy anything close_plan close_objects close_events
close_is_run = record { comes = close_comes; tells = λ i a here. tt; named = are_named close_objects close_events refl refl }

-- what becomes of the StopIteration
stop_new : IsRaisedFrom stop_objects (raising []) RuntimeError (codes "generator raised StopIteration") (exception 7) (exception 10)
stop_new = record { class = record { number = 5 }; is_class = refl; argument = object 8; message = refl; new = is_new stop_objects _ 10 refl refl; args = object 9; entry = refl; are = refl }

-- the generator ends by the one, and its drive raises the other
stop_comes : Comes stop_plan stop_objects nothing (events_by 10)
stop_comes =
    created_comes [] (send (object 2) (object 0) ∷ []) (behind stop_objects) (drop 3 (events_by 10)) (is_new stop_objects _ 2 refl refl) (
      (refl, refl, lit< tt),
      (
        (refl, (_, refl, send_is _ _ _ _ generator_body _ _ _ refl refl refl refl)),
        (
          (refl, refl),
          (
            (
              refl,
              refl,
              inl (
                FailsFrom RuntimeError (codes "generator raised StopIteration") (exception 7),
                inl (_, refl, (generator_body, refl, _, (Some StopIteration, false, (true, (_, refl, (_, refl, refl)), refl), (_, refl, (_, refl, refl)), refl), refl)),
                stop_new,
              ),
            ),
            tt,
          ),
        ),
      ),
    )

-- that is a run
pub stop_is_run : IsRunBy anything stop_plan stop_objects (events_by 10)
stop_is_run = record { comes = stop_comes; tells = λ i a here. tt; named = are_named stop_objects (events_by 10) refl refl }

-- the refusal of a generator that runs
self_new : IsRaised self_objects (sending []) ValueError (codes "generator already executing") (exception 7)
self_new = record {
  class = record { number = 4 };
  is_class = refl;
  argument = object 5;
  message = refl;
  made = record { new = is_new self_objects _ 7 refl refl; args = object 6; entry = refl; are = refl };
}

-- the generator is sent itself, sends to itself and ends by the refusal
self_comes : Comes self_plan self_objects nothing self_events
self_comes =
    yielded_comes [] (send (object 2) (object 2) ∷ []) (behind self_objects) (drop 7 self_events) (is_new self_objects _ 2 refl refl) (
      (refl, refl, lit< tt),
      (
        (refl, (_, refl, send_is _ _ _ _ generator_body _ _ _ refl refl refl refl)),
        (
          (refl, refl),
          (
            (refl, (Fails ValueError (codes "generator already executing"), (_, refl, send_is _ _ _ _ generator_body _ _ _ refl refl refl refl), self_new)),
            (
              (refl, refl),
              ((refl, refl, inl (Passes (This (exception 7)), inl (_, refl, (generator_body, refl, _, (None, false, (false, (_, refl, (_, refl, refl)), refl), (_, refl, (_, refl, refl)), refl), refl)), refl)), tt),
            ),
          ),
        ),
      ),
    )

-- that is a run
pub self_is_run : IsRunBy anything self_plan self_objects self_events
self_is_run = record { comes = self_comes; tells = λ i a here. tt; named = are_named self_objects self_events refl refl }

-- what the close throws
exit_new : IsCalled ignored_objects (yielded (event.Drive 3 ∷ [])) (record { number = 4 }) [] (object 7)
exit_new = (false, (_, refl, refl), record { new = is_new ignored_objects _ 7 refl refl; args = object 6; entry = refl; are = refl })

-- and the refusal of a yield under it
ignored_new : IsRaised ignored_objects (yielding []) RuntimeError (codes "generator ignored GeneratorExit") (exception 10)
ignored_new = record {
  class = record { number = 5 };
  is_class = refl;
  argument = object 8;
  message = refl;
  made = record { new = is_new ignored_objects _ 10 refl refl; args = object 9; entry = refl; are = refl };
}

-- the close enters the generator, which yields, and the next finds it closed
ignored_comes : Comes ignored_plan ignored_objects nothing ignored_events
ignored_comes =
    yielded_comes [] (close (object 2) ∷ send (object 2) (object 0) ∷ []) (behind ignored_objects) (drop 7 ignored_events) (is_new ignored_objects _ 2 refl refl) (
      (refl, refl, lit< tt),
      (
        (_, (refl, (_, refl, close_is _ _ _ generator_body _ _ refl refl refl)), (_, refl, exit_new)),
        (
          (refl, refl),
          (
            (refl, refl, inl (Fails RuntimeError (codes "generator ignored GeneratorExit"), inl (_, refl, (generator_body, refl, _, refl, refl)), ignored_new)),
            ((refl, refl, lit< tt), ((refl, refl, inl (Stops None, inl (_, refl, send_is _ _ _ _ generator_body _ _ _ refl refl refl refl), refl)), tt)),
          ),
        ),
      ),
    )

-- that is a run
pub ignored_is_run : IsRunBy anything ignored_plan ignored_objects ignored_events
ignored_is_run = record { comes = ignored_comes; tells = λ i a here. tt; named = are_named ignored_objects ignored_events refl refl }

-- the refusal of a number that is thrown
number_new : IsRaised throw_objects (created (event.Drive 2 ∷ [])) TypeError (codes "exceptions must be classes or instances deriving from BaseException, not int") (exception 9)
number_new = record {
  class = record { number = 6 };
  is_class = refl;
  argument = object 7;
  message = refl;
  made = record { new = is_new throw_objects _ 9 refl refl; args = object 8; entry = refl; are = refl };
}

-- what a throw of the class makes
thrown_new : IsCalled throw_objects (refused []) (record { number = 4 }) [] (object 11)
thrown_new = (false, (_, refl, refl), record { new = is_new throw_objects _ 11 refl refl; args = object 10; entry = refl; are = refl })

-- the generator before it begins
abbrev fresh : Generator
fresh = record { object = object 2; act = 1; mode = Fresh }

-- what a number that is thrown is taken for
not_thrown : Normalizes throw_objects (object 3) (Some (object 0)) (comes.Fault (not_exception (codes "int")))
not_thrown = inr (not_exception (codes "int"), (_, refl, (codes "int", refl, refl)), refl)

-- and what the class is
class_thrown : Normalizes throw_objects (object 4) (Some (object 0)) (comes.Make (record { number = 4 }) [])
class_thrown = inl (ctor.Class (record { number = 4 }), (_, refl, (true, (_, refl, refl), refl)), (_, refl, (false, refl, ([], refl, refl))))

-- drives of which the first throws the number
abbrev throwing_first : List Posed → Plan
throwing_first asked = plan_with [] (throw (object 2) (object 3) (object 0) ∷ asked)

-- the events behind its refusal
abbrev refused_first : List Event → List Event
refused_first rest = created (event.Drive 2 ∷ event.Result 2 (answer.Raises (exception 9)) ∷ rest)

-- the refusal is its drive's result
refuses : (asked : List Posed) (rest : List Event)
    → Comes (throwing_first asked) throw_objects (past_behind (throwing_first asked) nothing (refused_first [])) rest → Comes (throwing_first asked) throw_objects nothing (refused_first rest)
refuses asked rest then =
    created_comes [] (throw (object 2) (object 3) (object 0) ∷ asked) (behind throw_objects) (event.Drive 2 ∷ event.Result 2 (answer.Raises (exception 9)) ∷ rest) (is_new throw_objects _ 2 refl refl) (
      (refl, refl, omega arith),
      (
        (
          refl,
          refl,
          inl (
            Fails TypeError (codes "exceptions must be classes or instances deriving from BaseException, not int"),
            inl (_, refl, throw_is _ _ _ _ _ generator_body fresh _ refl refl (_, not_thrown, refl)),
            number_new,
          ),
        ),
        then,
      ),
    )

-- then the class is thrown, which ends the generator
throw_comes : Comes throw_plan throw_objects nothing throw_events
throw_comes =
    refuses (throw (object 2) (object 4) (object 0) ∷ []) (drop 5 throw_events) (
      (refl, refl, lit< tt),
      (
        (Called (record { number = 4 }) [], (refl, (_, refl, throw_is _ _ _ _ _ generator_body fresh _ refl refl (_, class_thrown, refl))), thrown_new),
        (
          (refl, refl),
          ((refl, refl, inl (Passes (This (exception 11)), inl (_, refl, (refl, (generator_body, refl, _, (None, false, (false, (_, refl, (_, refl, refl)), refl), (_, refl, (_, refl, refl)), refl), refl))), refl)), tt),
        ),
      ),
    )

-- that is a run
pub throw_is_run : IsRunBy anything throw_plan throw_objects throw_events
throw_is_run = record { comes = throw_comes; tells = λ i a here. tt; named = are_named throw_objects throw_events refl refl }

-- behind the refusal a next starts the generator
pub starts_comes : Comes send_plan throw_objects nothing started
starts_comes = refuses (send (object 2) (object 0) ∷ []) (drop 5 started) ((refl, refl, lit< tt), ((refl, (_, refl, send_is _ _ _ _ generator_body _ _ _ refl refl refl refl)), tt))

-- f handles an exception and resumes the generator, which raises it again
handled_comes : Comes handled_plan handled_objects nothing handled_events
handled_comes =
    yielded_comes (plain (codes "it" ∷ []) ∷ []) (call (object 4) (object 2 ∷ []) ∷ []) (behind handled_objects) (drop 7 handled_events) (is_new handled_objects _ 2 refl refl) (
      (refl, refl, lit< tt),
      (
        (refl, (refl, (_, refl, call_is _ _ _ _ _ _ _ refl refl refl))),
        (
          (refl, record { body = _; entry = refl; signature = _; signed = refl; kind_is = refl }),
          (
            (refl, refl),
            (
              (refl, (_, refl, send_is _ _ _ _ generator_body _ _ _ refl refl refl refl)),
              (
                (refl, refl),
                (
                  (refl, (Is (object 7), (_, refl, inr (inr (inl (refl, refl)))), refl)),
                  (
                    (refl, refl),
                    (
                      (refl, (Passes (This (exception 7)), (_, refl, (generator_body, refl, _, (None, false, (false, (_, refl, (_, refl, refl)), refl), (_, refl, (_, refl, refl)), refl), refl)), refl)),
                      (
                        (refl, refl),
                        ((refl, refl, inl (Passes (This (exception 7)), inl (_, refl, (refl, refl)), refl)), tt),
                      ),
                    ),
                  ),
                ),
              ),
            ),
          ),
        ),
      ),
    )

-- that is a run
pub handled_is_run : IsRunBy anything handled_plan handled_objects handled_events
handled_is_run = record { comes = handled_comes; tells = λ i a here. tt; named = are_named handled_objects handled_events refl refl }
