-- Two whole runs of one script have one summary.
use Rattle.std.proofs.Common.{◌≡◌, ◌∙◌, ◌+◌, ℕ, List, [], ◌∷◌, Some, length, refl, sym, ap, subst, arith}
use Rattle.std.specs.Prelude.{Bool, Option, None, cond}
use Rattle.std.specs.List.{fold}
use Rattle.py_objects.specs.declared.event.Event.{Event}
use Rattle.py_objects.specs.declared.event.Event.TheVariants as event
use Rattle.py_objects.specs.declared.event.DriveAnswer.{DriveAnswer}
use Rattle.py_objects.specs.declared.event.DriveAnswer.TheVariants as answer
use Rattle.py_agreement.specs.Agreement.{Relation}
use Rattle.py_determined.specs.Events.{SameEvent, SameEvents, SameResult}
use Rattle.py_run.specs.declared.journal.Journal.{Journal}
use Rattle.py_make.specs.declared.summary.Tally.{Tally}
use Rattle.py_make.specs.declared.summary.Tally.TheVariants as tally
use Rattle.py_make.specs.Summaries.{count, counts, counts_result, summary_of}
use Rattle.py_meaning.specs.Core.{IsCoreFrom}
use Rattle.py_meaning.specs.Whole.{IsWholeFrom}
use Rattle.py_script.specs.Making.{Making, Summed, Unwritten, OutOfMemory, EndsMade, IsEndOfRun, IsWholeBy}
use Rattle.py_meaning.proofs.ScriptsAgree.{as_long, runs_agree_from}

-- what is so of each tally
each : (P : Tally → Type 0) → P tally.Drives → P tally.Returns → P tally.Yields → P tally.Stops → P tally.Closes → P tally.Raises → (t : Tally) → P t
each P a b c d e f tally.Drives = a
each P a b c d e f tally.Returns = b
each P a b c d e f tally.Yields = c
each P a b c d e f tally.Stops = d
each P a b c d e f tally.Closes = e
each P a b c d e f tally.Raises = f

module _ (S : Relation) where
  -- two results of one kind count alike
  same_result : (w w' : DriveAnswer) → SameResult S w w' → (t : Tally) → counts_result t w ≡ counts_result t w'
  same_result (answer.Returns v) (answer.Returns v') same = each (λ t. counts_result t (answer.Returns v) ≡ counts_result t (answer.Returns v')) refl refl refl refl refl refl
  same_result (answer.Yields v) (answer.Yields v') same = each (λ t. counts_result t (answer.Yields v) ≡ counts_result t (answer.Yields v')) refl refl refl refl refl refl
  same_result (answer.Stops v) (answer.Stops v') same = each (λ t. counts_result t (answer.Stops v) ≡ counts_result t (answer.Stops v')) refl refl refl refl refl refl
  same_result answer.Closes answer.Closes same = λ t. refl
  same_result (answer.Raises e) (answer.Raises e') same = each (λ t. counts_result t (answer.Raises e) ≡ counts_result t (answer.Raises e')) refl refl refl refl refl refl
  same_result (answer.Reported s) (answer.Reported s') same = each (λ t. counts_result t (answer.Reported s) ≡ counts_result t (answer.Reported s')) refl refl refl refl refl refl
  same_result _ _ same = absurd same

  -- so do two events
  same_event : (e e' : Event) → SameEvent S e e' → (t : Tally) → counts t e ≡ counts t e'
  same_event (event.Drive d) (event.Drive d') same = λ t. refl
  same_event (event.Result d w) (event.Result d' w') same = same_result w w' same.1
  same_event (event.Make a f vs) (event.Make b g ws) same = λ t. refl
  same_event (event.Resume a h) (event.Resume b h') same = λ t. refl
  same_event (event.Ask a r own at) (event.Ask b r' own' at') same = λ t. refl
  same_event (event.Got a w) (event.Got b w') same = λ t. refl
  same_event (event.Round a at) (event.Round b at') same = λ t. refl
  same_event (event.Yield a v at) (event.Yield b w at') same = λ t. refl
  same_event (event.End a e at) (event.End b f at') same = λ t. refl
  same_event _ _ same = absurd same

  -- and two lists of as many
  same_counts : (t : Tally) (es fs : List Event) (n : ℕ) → length es ≡ length fs → SameEvents S es fs → fold (λ (m : ℕ) (e : Event). m + cond (counts t e) 1 0) n es ≡ fold (λ (m : ℕ) (e : Event). m + cond (counts t e) 1 0) n fs
  same_counts t [] [] n long same = refl
  same_counts t [] (f ∷ fs) n long same = absurd (omega (arith, long))
  same_counts t (e ∷ es) [] n long same = absurd (omega (arith, long))
  same_counts t (e ∷ es) (f ∷ fs) n long same =
      let rest : length es ≡ length fs = omega (arith, long) in
      ap (λ (b : Bool). fold (λ (m : ℕ) (x : Event). m + cond (counts t x) 1 0) (n + cond b 1 0) es) (same_event e f same.0 t) ∙ same_counts t es fs (n + cond (counts t f) 1 0) rest same.1

  same_summary : (es fs : List Event) → length es ≡ length fs → SameEvents S es fs → summary_of es ≡ summary_of fs
  same_summary es fs long same =
      let count_is : (t : Tally) → count t es ≡ count t fs = λ t. same_counts t es fs 0 long same in
      let a = count_is tally.Drives in
      let b = count_is tally.Returns in
      let c = count_is tally.Yields in
      let d = count_is tally.Stops in
      let e = count_is tally.Closes in
      let f = count_is tally.Raises in
      ap (λ (n : ℕ). record (summary_of es) { drives = n }) a
      ∙ ap (λ (n : ℕ). record (summary_of es) { drives = count tally.Drives fs; events = n }) long
      ∙ ap (λ (n : ℕ). record (summary_of es) { drives = count tally.Drives fs; events = length fs; returns = n }) b
      ∙ ap (λ (n : ℕ). record (summary_of es) { drives = count tally.Drives fs; events = length fs; returns = count tally.Returns fs; yields = n }) c
      ∙ ap (λ (n : ℕ). record (summary_of fs) { stops = n; closes = count tally.Closes es; raises = count tally.Raises es }) d
      ∙ ap (λ (n : ℕ). record (summary_of fs) { closes = n; raises = count tally.Raises es }) e
      ∙ ap (λ (n : ℕ). record (summary_of fs) { raises = n }) f

-- two whole runs of one script
pub one_summary : (bytes : List ℕ) (j j' : Journal) → IsCoreFrom bytes → IsWholeFrom bytes j → IsWholeFrom bytes j' → summary_of j.events ≡ summary_of j'.events
one_summary bytes j j' core (s, is, run, done) (t, is', run', done') =
    same_summary _ j.events j'.events (as_long bytes j j' core (s, is, run, done) (t, is', run', done')) (runs_agree_from bytes j j' core (s, is, run) (t, is', run')).0

-- a whole run was summed up, or its line couldn't be written
pub made_ends : (bytes : List ℕ) (j : Journal) (m : Option Making) → IsCoreFrom bytes → IsWholeBy bytes j → IsEndOfRun j m → EndsMade bytes m
made_ends bytes j None core whole of_run = of_run
made_ends bytes j (Some (Summed summary)) core (s, is, run, done, codes) of_run =
    record { some = (j, (s, is, run, done)); each = λ k other. of_run ∙ one_summary bytes j k core (s, is, run, done) other }
made_ends bytes j (Some (Unwritten k)) core whole of_run = subst (IsWholeBy bytes) (sym of_run) whole
made_ends bytes j (Some OutOfMemory) core whole of_run = tt
