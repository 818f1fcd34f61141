-- What follows from the rows of calls.
use Rattle.std.proofs.Common.{◌≡◌, Bool, true, false, refl, ap, ◌∙◌}
use Rattle.py_coro.specs.declared.coro.CoroEnd.{CoroEnd}
use Rattle.py_coro.specs.declared.coro.CoroEnd.TheVariants as left
use Rattle.py_coro.specs.declared.refusal.CoroRefusal.{CoroRefusal}
use Rattle.py_coro.specs.Modes.{Mode, Row, Stops, Raises, Done, Starts, Sends, Throws, Exits, Refuses, sent, thrown, closed}
use Rattle.py_coro.specs.Coros.{State, behind, is_running}
use Rattle.py_coro.specs.Leaving.{mode_behind}
use Rattle.py_coro.specs.Laws.{RefusedSendsChangeNothing, RefusedThrowsChangeNothing, RefusedClosesChangeNothing, ClosedStopsAtSends, ClosedRaisesAtThrows, ClosedIsDoneAtCloses, RunningRefuses, EntriesRun, OnlyEntriesRun, LeftRunsNot}

-- what is refused stays
stays : (row : Row) (s : State) (r : CoroRefusal) → row ≡ Refuses r → behind row s ≡ s
stays row s r is = ap (λ (x : Row). behind x s) is

pub refused_sends : RefusedSendsChangeNothing
refused_sends s is_none depth r is = stays (sent s.mode is_none depth) s r is

pub refused_throws : RefusedThrowsChangeNothing
refused_throws s depth r is = stays (thrown s.mode depth) s r is

pub refused_closes : RefusedClosesChangeNothing
refused_closes s depth r is = stays (closed s.mode depth) s r is

pub closed_stops : ClosedStopsAtSends
closed_stops s is_none depth is =
    let row : sent s.mode is_none depth ≡ Stops = ap (λ (m : Mode). sent m is_none depth) is in
    (row, ap (λ (x : Row). (behind x s).mode) row ∙ is)

pub closed_raises : ClosedRaisesAtThrows
closed_raises s depth is =
    let row : thrown s.mode depth ≡ Raises = ap (λ (m : Mode). thrown m depth) is in
    (row, ap (λ (x : Row). (behind x s).mode) row ∙ is)

pub closed_is_done : ClosedIsDoneAtCloses
closed_is_done s depth is =
    let row : closed s.mode depth ≡ Done = ap (λ (m : Mode). closed m depth) is in
    (row, ap (λ (x : Row). (behind x s).mode) row)

pub running_refuses : RunningRefuses
running_refuses s is_none depth is = (ap (λ (m : Mode). sent m is_none depth) is, ap (λ (m : Mode). thrown m depth) is, ap (λ (m : Mode). closed m depth) is)

pub entries_run : EntriesRun
entries_run Starts s is = refl
entries_run Sends s is = refl
entries_run Throws s is = refl
entries_run Exits s is = refl
entries_run Stops s is = cc
entries_run Raises s is = cc
entries_run Done s is = cc
entries_run (Refuses r) s is = cc

pub only_entries_run : OnlyEntriesRun
only_entries_run Stops s is runs = runs
only_entries_run Raises s is runs = runs
only_entries_run (Refuses r) s is runs = runs
only_entries_run Done s is runs = cc
only_entries_run Starts s is runs = cc
only_entries_run Sends s is runs = cc
only_entries_run Throws s is runs = cc
only_entries_run Exits s is runs = cc

-- a mode behind an end
mode_runs_not : (closing : Bool) (how : CoroEnd) → is_running (mode_behind closing how) ≡ false
mode_runs_not true how = refl
mode_runs_not false (left.Yield v) = refl
mode_runs_not false (left.Return v) = refl
mode_runs_not false (left.Raise e) = refl

pub left_runs_not : LeftRunsNot
left_runs_not how s = (mode_runs_not s.closing how, refl)
