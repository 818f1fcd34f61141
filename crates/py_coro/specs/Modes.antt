-- The four states of a generator, and what a send, a throw and a close of it come to in each: the first row that fits (Python Language
-- Reference, 6.2.9.1).
use Rattle.std.specs.Prelude.{ℕ, Bool, true, false, if◌then◌else◌, nat_le}
use Rattle.py_coro.specs.declared.refusal.CoroRefusal.{CoroRefusal}
use Rattle.py_coro.specs.declared.refusal.CoroRefusal.TheVariants as refusal

-- not entered yet; left by a yield; entered and not left; never entered again
pub data Mode : Type 0 where
  Fresh Suspended Running Closed : Mode

-- what a call comes to: it stops without a value, raises what is thrown, is done, or is refused; or the generator is entered: started, sent
-- the value, thrown the exception, or thrown a new GeneratorExit
pub data Row : Type 0 where
  Stops Raises Done Starts Sends Throws Exits : Row
  Refuses : CoroRefusal → Row

-- the most activations that run at once
abbrev pub most_depth : ℕ
most_depth = 1000

-- an entry while so many activations run
abbrev pub entry : ℕ → Row → Row
entry depth row = if nat_le most_depth depth then Refuses refusal.TooDeep else row

-- a send of a value, which is None or isn't
abbrev pub sent : Mode → (is_none : Bool) → (depth : ℕ) → Row
sent Fresh true depth = entry depth Starts
sent Fresh false depth = Refuses refusal.FirstValue
sent Suspended is_none depth = entry depth Sends
sent Running is_none depth = Refuses refusal.Running
sent Closed is_none depth = Stops

-- a throw of an exception
abbrev pub thrown : Mode → (depth : ℕ) → Row
thrown Fresh depth = entry depth Throws
thrown Suspended depth = entry depth Throws
thrown Running depth = Refuses refusal.Running
thrown Closed depth = Raises

-- a close: only what is suspended is entered
abbrev pub closed : Mode → (depth : ℕ) → Row
closed Fresh depth = Done
closed Suspended depth = entry depth Exits
closed Running depth = Refuses refusal.Running
closed Closed depth = Done
