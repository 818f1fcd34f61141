-- The journal of a manager that is left twice is a run.
use Rattle.std.proofs.Common.{[], false, inl, refl, lit<}
use Rattle.std.specs.Prelude.{codes}
use Rattle.py_objects.specs.declared.payload.Payload.TheVariants as payload
use Rattle.py_objects.specs.declared.payload.ManagerBody.{ManagerBody}
use Rattle.py_exceptions.specs.declared.ctor.ExceptionCtor.TheVariants as ctor
use Rattle.py_answers.specs.Answers.{Has, Is, Passes, This}
use Rattle.py_run.specs.Coming.{nothing, Comes, IsRunBy}
use Rattle.py_run.specs.Past.{past_behind}
use Rattle.py_run.specs.Worked.{object, exception, anything}
use Rattle.py_run.specs.WorkedExit.{objects, plan, raising, exited, ended, events}
use Rattle.py_run.proofs.Journals.{are_named, call_is, enter_is, exit_is}

-- the manager
abbrev manager : ManagerBody
manager = record { name = codes "m"; enter = object 2; exit = object 3 }

-- the second exit, which is told the same
second_comes : Comes plan objects (past_behind plan nothing (raising (exited 4 (object 8) []))) (exited 5 (object 8) ended)
second_comes = (
  (refl, refl),
  (
    (refl, (refl, (_, refl, exit_is _ _ _ _ _ _ manager _ _ _ refl refl refl refl))),
    (
      (refl, record { body = _; entry = refl; signature = _; signed = refl; kind_is = refl }),
      (
        (refl, refl),
        (
          (refl, (Is (object 0), (_, refl, refl), refl)),
          (
            (refl, refl),
            (
              (refl, (Has (payload.Bool false), (_, refl, inl (_, refl, (_, refl, refl))), refl)),
              (
                (refl, refl),
                (
                  (refl, refl, inl (Passes (This (exception 7)), inl (_, refl, (refl, refl)), refl)),
                  tt,
                ),
              ),
            ),
          ),
        ),
      ),
    ),
  ),
)

-- the first one
first_comes : Comes plan objects (past_behind plan nothing (raising [])) (exited 4 (object 8) (exited 5 (object 8) ended))
first_comes = (
  (refl, refl),
  (
    (refl, (refl, (_, refl, exit_is _ _ _ _ _ _ manager _ _ _ refl refl refl refl))),
    (
      (refl, record { body = _; entry = refl; signature = _; signed = refl; kind_is = refl }),
      (
        (refl, refl),
        (
          (refl, (Is (object 0), (_, refl, refl), refl)),
          (
            (refl, refl),
            (
              (refl, (Has (payload.Bool false), (_, refl, inl (_, refl, (_, refl, refl))), refl)),
              second_comes,
            ),
          ),
        ),
      ),
    ),
  ),
)

exit_comes : Comes plan objects nothing events
exit_comes = (
  (refl, refl, lit< tt),
  (
    (refl, (refl, (_, refl, call_is _ _ _ _ _ _ _ refl refl refl))),
    (
      (refl, record { body = _; entry = refl; signature = _; signed = refl; kind_is = refl }),
      (
        (refl, refl),
        (
          (refl, (refl, (_, refl, enter_is _ _ _ manager _ _ _ refl refl refl refl))),
          (
            (refl, record { body = _; entry = refl; signature = _; signed = refl; kind_is = refl }),
            (
              (refl, refl),
              (
                (refl, (Is (object 0), (_, refl, refl), refl)),
                (
                  (refl, refl),
                  (
                    (refl, (refl, (_, refl, enter_is _ _ _ manager _ _ _ refl refl refl refl))),
                    (
                      (refl, record { body = _; entry = refl; signature = _; signed = refl; kind_is = refl }),
                      (
                        (refl, refl),
                        (
                          (refl, (Is (object 0), (_, refl, refl), refl)),
                          (
                            (refl, refl),
                            (
                              (refl, (Is (object 7), (_, refl, inl (_, refl, inl (ctor.Instance (exception 7), (_, refl, refl), refl))), refl)),
                              first_comes,
                            ),
                          ),
                        ),
                      ),
                    ),
                  ),
                ),
              ),
            ),
          ),
        ),
      ),
    ),
  ),
)

-- that is a run
pub exit_is_run : IsRunBy anything plan objects events
exit_is_run = record { comes = exit_comes; tells = λ i a here. tt; named = are_named objects events refl refl }
