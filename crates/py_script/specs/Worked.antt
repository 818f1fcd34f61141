-- What answers of the top call say, whatever the source tells: each is a law over all sources, turns and journals.
use Rattle.std.specs.Prelude.{◌≡◌, ℕ, [], ◌∷◌, Ok, Err, IsTrue, true}
use Rattle.py_outside.specs.Seen.{SourceSeen}
use Rattle.py_objects.specs.declared.event.Event.TheVariants as event
use Rattle.py_grammar.specs.declared.script.Script.{Script}
use Rattle.py_run.specs.declared.journal.Journal.{Journal}
use Rattle.py_script.specs.declared.fault.ScriptFault.TheVariants.{Malformed, OutOfTurns, TooLong}
use Rattle.py_meaning.specs.Whole.{IsRun, IsWhole}
use Rattle.py_script.specs.Causes.{IsAnswer}
use Rattle.py_script.specs.Compiled.{RunsItsCodes}

-- a run that is answered as whole is one of some script and of its codes, also where the source tells no bytes
abbrev pub WholeIsOfSome : Type 0
WholeIsOfSome = (a b : SourceSeen) → (turns : ℕ) → (j : Journal) → IsAnswer a b turns (Ok j) → (s : Script) × IsRun s j × IsWhole s j × RunsItsCodes s j

-- it comes only once the source has told its end, and so do a bad line, and turns that ran out
abbrev pub WholeIsAtEnd : Type 0
WholeIsAtEnd = (a b : SourceSeen) → (turns : ℕ) → (j : Journal) → IsAnswer a b turns (Ok j) → IsTrue b.at_end

abbrev pub BadLineIsAtEnd : Type 0
BadLineIsAtEnd = (a b : SourceSeen) → (turns line : ℕ) → IsAnswer a b turns (Err (Malformed line)) → IsTrue b.at_end

abbrev pub OutOfTurnsIsAtEnd : Type 0
OutOfTurnsIsAtEnd = (a b : SourceSeen) → (turns : ℕ) → (j : Journal) → IsAnswer a b turns (Err (OutOfTurns j)) → IsTrue b.at_end

-- too long is a source whose last read gave more, and none of whose reads failed
abbrev pub TooLongIsBeforeEnd : Type 0
TooLongIsBeforeEnd = (a b : SourceSeen) → (turns : ℕ) → b.at_end ≡ true → IsAnswer a b turns (Err TooLong) → ⊥

abbrev pub TooLongIsNoFault : Type 0
TooLongIsNoFault = (a b : SourceSeen) → (turns : ℕ) → (b.faults ≡ a.faults → ⊥) → IsAnswer a b turns (Err TooLong) → ⊥

-- no script has a journal that begins with a round
abbrev pub NoRoundIsFirst : Type 0
NoRoundIsFirst = (a b : SourceSeen) → (turns : ℕ) → (j : Journal) → j.events ≡ event.Round 1 0 ∷ [] → IsAnswer a b turns (Ok j) → ⊥
