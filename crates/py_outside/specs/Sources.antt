-- Sources, in memory and over readers of std, as contracts see them.
use Rattle.std.specs.Prelude.{◌≡◌, ◌++◌, take, Contains, ℕ, ◌==◌, min, Bool, true, false, List, [], ◌∷◌, Some, length, drop, refl}
use Rattle.std.specs.Coded.{Coded, code_by, coded×, coded_list, coded_bool, coded_ℕ}
use Rattle.py_outside.specs.Faults.{one_more}
use Rattle.py_outside.specs.Seen.{SourceSeen}
use Rattle.py_outside.specs.declared.std_source.StdSource.{StdSource}

-- the bytes that a source has left, the numbers of the calls that fail, the most bytes that a call moves,
-- the calls that were made, those that failed, and whether the last call with room came to the end
pub record SourceState : Type 0 where
  pub left : List ℕ
  pub fails : List ℕ
  pub most : ℕ
  pub calls : ℕ
  pub faults : ℕ
  pub at_end : Bool

-- one of which nothing was read
abbrev pub new_source : List ℕ → List ℕ → ℕ → SourceState
new_source bytes fails most = record { left = bytes; fails = fails; most = most; calls = 0; faults = 0; at_end = false }

-- it is stored as the tuple of its fields
abbrev pub source_code : Coded SourceState
source_code =
    code_by (List ℕ × (List ℕ × (ℕ × (ℕ × (ℕ × Bool))))) (coded× (coded_list coded_ℕ) (coded× (coded_list coded_ℕ) (coded× coded_ℕ (coded× coded_ℕ (coded× coded_ℕ coded_bool)))))
    (λ s. (s.left, (s.fails, (s.most, (s.calls, (s.faults, s.at_end))))))
    (λ p. record { left = p.0; fails = p.1.0; most = p.1.1.0; calls = p.1.1.1.0; faults = p.1.1.1.1.0; at_end = p.1.1.1.1.1 })
    (λ _. refl)

-- the source at its next call, once that has moved a count of bytes
abbrev pub source_after : SourceState → ℕ → SourceState
source_after s count = record s { left = drop count s.left; calls = one_more s.calls; at_end = count == 0 }

-- the source after a call that failed
abbrev pub failed_source : SourceState → SourceState
failed_source s = record s { calls = one_more s.calls; faults = one_more s.faults; at_end = false }

-- how many bytes a call moves into a room
abbrev pub readable : SourceState → List ℕ → ℕ
readable s room = min (min (length s.left) (length room)) s.most

-- the call moved as many bytes into a room as it may
abbrev pub HasGiven : SourceState → SourceState → List ℕ → ℕ → Type 0
HasGiven old new room count = (count ≡ readable old room) × (new ≡ source_after old count)

-- it failed, and left the room as it was
abbrev pub HasGivenNone : SourceState → SourceState → List ℕ → List ℕ → Type 0
HasGivenNone old new room room' = (new ≡ failed_source old) × (room' ≡ room)

-- so many of the bytes stand at the front of a room, and the rest of it is as it was
abbrev pub IsFilledBy : List ℕ → List ℕ → List ℕ → ℕ → Type 0
IsFilledBy bytes room room' count = room' ≡ take count bytes ++ drop count room

-- the next call is to fail
abbrev pub ReadIsListed : SourceState → Type 0
ReadIsListed s = Contains s.fails (one_more s.calls)

-- no call is to fail
abbrev pub none_listed : List ℕ → Bool
none_listed [] = true
none_listed (_ ∷ _) = false

-- what contracts see of it
abbrev pub source_seen : SourceState → SourceSeen
source_seen s = record { left = Some s.left; faults = s.faults; reads = s.calls; at_end = s.at_end; is_sound = none_listed s.fails }

-- the reader of a source over one of std
abbrev pub reader_of : {R : Type 0} → StdSource R → R
reader_of source = source.inner

-- the reads of it that failed
abbrev pub read_faults : {R : Type 0} → StdSource R → ℕ
read_faults source = source.faults

-- whether the last read of it with room came to the end
abbrev pub read_ended : {R : Type 0} → StdSource R → Bool
read_ended source = source.at_end
