-- What holds of generators whatever is asked of them (Python Language Reference, 6.2.9.1).
use Rattle.std.specs.Prelude.{ℕ, Bool, true, false, ◌≡◌}
use Rattle.py_coro.specs.declared.coro.CoroEnd.{CoroEnd}
use Rattle.py_coro.specs.declared.refusal.CoroRefusal.{CoroRefusal}
use Rattle.py_coro.specs.declared.refusal.CoroRefusal.TheVariants as refusal
use Rattle.py_coro.specs.Modes.{Running, Closed, Row, Stops, Raises, Done, Starts, Sends, Throws, Exits, Refuses, sent, thrown, closed}
use Rattle.py_coro.specs.Coros.{is_running, State, behind, left_by}

-- where a call is refused, the generator is what it was
abbrev pub RefusedSendsChangeNothing : Type 0
RefusedSendsChangeNothing = (s : State) (is_none : Bool) (depth : ℕ) (r : CoroRefusal) → sent s.mode is_none depth ≡ Refuses r → behind (sent s.mode is_none depth) s ≡ s

abbrev pub RefusedThrowsChangeNothing : Type 0
RefusedThrowsChangeNothing = (s : State) (depth : ℕ) (r : CoroRefusal) → thrown s.mode depth ≡ Refuses r → behind (thrown s.mode depth) s ≡ s

abbrev pub RefusedClosesChangeNothing : Type 0
RefusedClosesChangeNothing = (s : State) (depth : ℕ) (r : CoroRefusal) → closed s.mode depth ≡ Refuses r → behind (closed s.mode depth) s ≡ s

-- one that is closed stops at each send, raises what is thrown and is done at each close, however deep, and stays closed
abbrev pub ClosedStopsAtSends : Type 0
ClosedStopsAtSends = (s : State) (is_none : Bool) (depth : ℕ) → s.mode ≡ Closed → (sent s.mode is_none depth ≡ Stops) × ((behind (sent s.mode is_none depth) s).mode ≡ Closed)

abbrev pub ClosedRaisesAtThrows : Type 0
ClosedRaisesAtThrows = (s : State) (depth : ℕ) → s.mode ≡ Closed → (thrown s.mode depth ≡ Raises) × ((behind (thrown s.mode depth) s).mode ≡ Closed)

abbrev pub ClosedIsDoneAtCloses : Type 0
ClosedIsDoneAtCloses = (s : State) (depth : ℕ) → s.mode ≡ Closed → (closed s.mode depth ≡ Done) × ((behind (closed s.mode depth) s).mode ≡ Closed)

-- one that runs refuses all three
abbrev pub RunningRefuses : Type 0
RunningRefuses = (s : State) (is_none : Bool) (depth : ℕ) → s.mode ≡ Running
    → (sent s.mode is_none depth ≡ Refuses refusal.Running) × (thrown s.mode depth ≡ Refuses refusal.Running) × (closed s.mode depth ≡ Refuses refusal.Running)

-- whether the generator is entered
abbrev pub is_entry : Row → Bool
is_entry Stops = false
is_entry Raises = false
is_entry Done = false
is_entry Starts = true
is_entry Sends = true
is_entry Throws = true
is_entry Exits = true
is_entry (Refuses r) = false

-- behind an entry it runs, and nothing else makes it run
abbrev pub EntriesRun : Type 0
EntriesRun = (row : Row) (s : State) → is_entry row ≡ true → (behind row s).mode ≡ Running

abbrev pub OnlyEntriesRun : Type 0
OnlyEntriesRun = (row : Row) (s : State) → is_entry row ≡ false → (behind row s).mode ≡ Running → s.mode ≡ Running

-- one that was left doesn't run, and isn't being closed
abbrev pub LeftRunsNot : Type 0
LeftRunsNot = (how : CoroEnd) (s : State) → (is_running (left_by how s).mode ≡ false) × ((left_by how s).closing ≡ false)
