-- Sinks, in memory and over writers of std, as contracts see them.
use Rattle.std.specs.Prelude.{◌≡◌, ℕ, ◌≤◌, ◌-◌, min, take, Contains, List, [], ◌∷◌, ◌++◌, Some, length, refl}
use Rattle.std.specs.Coded.{Coded, code_by, coded×, coded_list, coded_ℕ}
use Rattle.py_outside.specs.Faults.{one_more}
use Rattle.py_outside.specs.Seen.{SinkSeen}
use Rattle.py_outside.specs.declared.std_sink.StdSink.{StdSink}

-- the bytes that a sink has taken, the numbers of the calls that fail, the most bytes that a call moves,
-- the most bytes that it takes in all, the calls that were made, and those that failed
pub record SinkState : Type 0 where
  pub taken : List ℕ
  pub fails : List ℕ
  pub most : ℕ
  pub room : ℕ
  pub calls : ℕ
  pub faults : ℕ

-- one that has taken nothing
abbrev pub new_sink : List ℕ → ℕ → ℕ → SinkState
new_sink fails most room = record { taken = []; fails = fails; most = most; room = room; calls = 0; faults = 0 }

-- it is stored as the tuple of its fields
abbrev pub sink_code : Coded SinkState
sink_code =
    code_by (List ℕ × (List ℕ × (ℕ × (ℕ × (ℕ × ℕ))))) (coded× (coded_list coded_ℕ) (coded× (coded_list coded_ℕ) (coded× coded_ℕ (coded× coded_ℕ (coded× coded_ℕ coded_ℕ)))))
    (λ s. (s.taken, (s.fails, (s.most, (s.room, (s.calls, s.faults))))))
    (λ p. record { taken = p.0; fails = p.1.0; most = p.1.1.0; room = p.1.1.1.0; calls = p.1.1.1.1.0; faults = p.1.1.1.1.1 })
    (λ _. refl)

-- the sink at its next call, once that has taken some bytes
abbrev pub sink_after : SinkState → List ℕ → SinkState
sink_after s bytes = record s { taken = s.taken ++ bytes; calls = one_more s.calls }

-- how many bytes of a piece a call takes
abbrev pub writable : SinkState → List ℕ → ℕ
writable s piece = min (min (length piece) (s.room - length s.taken)) s.most

-- the call moved as many bytes of a piece as it may
abbrev pub HasTaken : SinkState → SinkState → List ℕ → ℕ → Type 0
HasTaken old new piece count = (count ≡ writable old piece) × (new ≡ sink_after old (take count piece))

-- its next call is to fail
abbrev pub WriteIsListed : SinkState → Type 0
WriteIsListed s = Contains s.fails (one_more s.calls)

-- nothing more fits, and it has taken just what fits
abbrev pub HasNoRoom : SinkState → Type 0
HasNoRoom s = s.room ≤ length s.taken

abbrev pub IsFull : SinkState → Type 0
IsFull s = length s.taken ≡ s.room

-- the sink after a call that failed
abbrev pub failed_sink : SinkState → SinkState
failed_sink s = record s { calls = one_more s.calls; faults = one_more s.faults }

-- how many bytes are taken with no fault, where so many are free: all, if no call is to fail
abbrev pub free_or_none : List ℕ → ℕ → ℕ
free_or_none [] free = free
free_or_none (_ ∷ _) free = 0

-- how many bytes a sink surely takes
abbrev pub sure_of : SinkState → ℕ
sure_of s = free_or_none s.fails (s.room - length s.taken)

-- what contracts see of it
abbrev pub sink_seen : SinkState → SinkSeen
sink_seen s = record { taken = Some s.taken; faults = s.faults; sure = sure_of s }

-- the writer of a sink over one of std
abbrev pub writer_of : {W : Type 0} → StdSink W → W
writer_of sink = sink.inner

-- the writes to it that failed
abbrev pub write_faults : {W : Type 0} → StdSink W → ℕ
write_faults sink = sink.faults
