-- Each text that is made is a script that has a whole run, whose journal is put together here.
use Rattle.std.proofs.Common.{◌≡◌, ◌+◌, ◌*◌, ◌%◌, ◌^◌, ◌<◌, ◌≤◌, ◌++◌, ℕ, zero, suc, Bool, true, false, List, [], Some, length, length-append, refl, sym, ap, subst, ◌∙◌}
use Rattle.std.proofs.Common.{arith}
use Rattle.std.specs.Prelude.{slice_get, chars, encode_utf8_all, ◌==◌}
use Rattle.std.specs.List.{list_all}
use Rattle.std.proofs.lemmas.Str.{encodes-chars}
use Rattle.py_objects.specs.declared.payload.Payload.{Payload}
use Rattle.py_objects.specs.declared.event.Event.{Event}
use Rattle.py_objects.specs.FrameEntries.{frames_from, frames_in}
use Rattle.py_objects.specs.Objects.{event_numbers, AllBelow, AreNamed}
use Rattle.py_objects.proofs.GrowthLemmas.{slice_get_behind}
use Rattle.py_lines.specs.declared.drive.DriveLine.{DriveLine}
use Rattle.py_lines.proofs.Utf8.{line_is_utf8}
use Rattle.py_grammar.specs.declared.script.Script.{Script}
use Rattle.py_grammar.specs.Grammar.{Decl, codes_in}
use Rattle.py_grammar.specs.Lines.{lines}
use Rattle.py_grammar.specs.Script.{Spells, IsReadScript, IsScript, decls_of}
use Rattle.py_grammar.proofs.Texts.{script_is_utf8}
use Rattle.py_reports.specs.Scenes.{SourceLines}
use Rattle.py_make.specs.Made.{drawn, drives_of, made_text, most_groups, next_state}
use Rattle.py_make.proofs.ScriptLemmas.{drives_by, drives_from}
use Rattle.py_run.specs.Run.{Posed, State}
use Rattle.py_run.specs.Coming.{IsDone}
use Rattle.py_run.specs.declared.journal.Journal.{Journal}
use Rattle.py_run.proofs.ReportsLemmas.{plainly_reported}
use Rattle.py_meaning.specs.Core.{is_core, is_plain}
use Rattle.py_meaning.specs.Reported.{origins_of, sources_of}
use Rattle.py_meaning.proofs.CoreLemmas.{plain_asked}
use Rattle.py_meaning.specs.Whole.{IsRunOf, IsJournalOf, plan_of}
use Rattle.made_runs.specs.Runs.{AreCore, HaveRuns, most_events_of_a_group}
use Rattle.made_runs.proofs.Lists.{Each, each_at, each_both}
use Rattle.made_runs.proofs.Blocks.{Names, names_wider}
use Rattle.made_runs.proofs.Objects.{shared_count, number_count, first_of_groups, base, decls, store, IsMore, are_objects}
use Rattle.made_runs.proofs.Objects.{are_globals, store_fits, numbers_from, numbers_length, numbers_more, globals_object}
use Rattle.made_runs.proofs.Scripts.{script_of}
use Rattle.made_runs.proofs.Spelled.{spelled}
use Rattle.made_runs.proofs.Reaching.{objects_from, asked_from, objects_many, objects_more, all_more, Reached}
use Rattle.made_runs.proofs.Reaching.{AreFramed, frames_made, reaches, none}
use Rattle.made_runs.proofs.Frames.{behind_frameless, frame_at, frames_more, made_frames, numbers_frameless, objects_frameless}
use Rattle.made_runs.proofs.Located.{located}

-- none of the drives has anything reported
plain_group : (x : Bool) (v n : ℕ) (more : List DriveLine) → list_all is_plain more ≡ true → list_all is_plain (drives_by x v n ++ more) ≡ true
plain_group true v n more plain = plain
plain_group false v n more plain = plain

plain_drives : (count s n : ℕ) → list_all is_plain (drives_from count s n) ≡ true
plain_drives zero s n = refl
plain_drives (suc more) s n =
    let r : ℕ = drawn (next_state s) in
    plain_group (r % 2 == 0) (r % 1000) n (drives_from more (next_state s) (n + drives_of r)) (plain_drives more (next_state s) (n + drives_of r))

module _ (count s : ℕ) where
  -- the first frame has this number
  abbrev frame : ℕ
  frame = first_of_groups + 2 * count

  -- the objects of the groups
  abbrev groups : List Payload
  groups = objects_from count s 0 frame

  -- the frames of their activations
  abbrev frames : List Payload
  frames = frames_made count s

  -- both
  abbrev own : List Payload
  own = groups ++ frames

  -- the numbers and these: all that comes behind what all runs share
  abbrev behind : List Payload
  behind = all_more own

  -- what the drives ask
  abbrev asked : List Posed
  asked = asked_from count s first_of_groups

  -- the frames have their objects
  framed : AreFramed (store behind) frame frames
  framed i p here =
      ap (slice_get (store behind)) (let same : frame + i ≡ shared_count + (number_count + (2 * count + i)) = omega arith in same)
      ∙ slice_get_behind base behind (number_count + (2 * count + i))
      ∙ ap (λ (k : ℕ). slice_get behind (k + (2 * count + i))) (sym (numbers_length number_count 0))
      ∙ slice_get_behind (numbers_from number_count 0) own (2 * count + i)
      ∙ ap (λ (k : ℕ). slice_get own (k + i)) (sym (objects_many count s 0 frame))
      ∙ slice_get_behind groups frames i ∙ here

  -- and no other objects are frames
  placed : (i : ℕ) → i < length frames → slice_get (frames_in (store behind)) i ≡ Some (frame + i)
  placed i low =
      let numbers : List Payload = numbers_from number_count 0 in
      let first : frames_from 0 (base ++ behind) ≡ frames_from (0 + length base) behind = behind_frameless 0 base behind refl in
      let second : frames_from (0 + length base) behind ≡ frames_from ((0 + length base) + length numbers) own =
      behind_frameless (0 + length base) numbers own (numbers_frameless number_count 0) in
      let third : frames_from ((0 + length base) + length numbers) own ≡ frames_from (((0 + length base) + length numbers) + length groups) frames =
      behind_frameless ((0 + length base) + length numbers) groups frames (objects_frameless count s 0 frame) in
      let at : ((0 + length base) + length numbers) + length groups ≡ frame =
      (let numbers_many = numbers_length number_count 0 in
      let own_many = objects_many count s 0 frame in
      omega (arith, numbers_many, own_many)) in
      ap (λ (l : List ℕ). slice_get l i) (first ∙ second ∙ third)
      ∙ frame_at (((0 + length base) + length numbers) + length groups) frames (made_frames count s) i low
      ∙ ap (λ (k : ℕ). Some (k + i)) at

  -- all of these objects may come behind what all runs share
  are_more : Each (IsMore (store behind)) behind
  are_more =
      each_both (IsMore (store behind)) (numbers_from number_count 0) own (numbers_more (store behind) number_count 0)
      (each_both (IsMore (store behind)) groups frames (objects_more behind frame count s 0 [] refl framed) (frames_more (store behind) count s))

  -- the run of all groups
  run : Reached asked own (drives_from count s 1) asked
      (first_of_groups + 2 * count) (0 + most_events_of_a_group * count)
  run =
      reaches asked own (store_fits behind are_more) frame frames framed placed count s [] [] [] [] first_of_groups [] [] [] (none asked own) refl refl
      (omega arith) refl refl

  -- there are so many objects before the frames
  store_long : frame ≤ length (store behind)
  store_long =
      let numbers_many = numbers_length number_count 0 in
      let own_many = objects_many count s 0 frame in
      omega (arith, numbers_many, own_many, length-append base behind, length-append (numbers_from number_count 0) own, length-append groups frames)

  -- and all that is named is one of them
  named : AreNamed (store behind) run.events
  named =
      let Below : Event → Type 0 = λ e. AllBelow (length (store behind)) (event_numbers e) in
      let names : Names (length (store behind)) run.events =
      names_wider frame (length (store behind)) run.events store_long run.ended.names in
      record {
        in_events = λ i e at. each_at Below run.events names i e at;
        in_payloads = λ i p at. (store_fits behind are_more i p at).0;
      }

  -- they are those of a run of the declarations and the drives
  is_run : IsRunOf decls (drives_from count s 1) (store behind) run.events
  is_run = record {
    asked = asked;
    are_asked = run.ended.asks;
    globals = globals_object;
    are_globals = are_globals behind;
    run =
        record {
          comes = run.ended.comes;
          tells = λ i a at.
              run.ended.tells i a (ap (λ (st : State). slice_get st.made i) (sym run.ended.state) ∙ at);
          named = named;
        };
    are_objects = are_objects behind are_more;
  }

  -- which is whole
  is_done : IsDone (length (drives_from count s 1)) run.events
  is_done = record {
    done = ap (λ (st : State). st.done) run.ended.state ∙ sym run.ended.all;
    idle = ap (λ (st : State). st.phase) run.ended.state;
  }

  -- the journal of this run
  abbrev journal : Journal
  journal = record {
    events = run.events;
    objects = store behind;
    changes = run.changes;
    codes = located;
  }

  -- in it the exceptions that work raises get entries of tracebacks, and nothing is reported
  is_journal : (sources : List SourceLines) → IsJournalOf decls (drives_from count s 1) sources journal
  unfolding is_run
  is_journal sources = record {
    run = is_run;
    links = record { come = run.ended.links; alone = run.ended.alone };
    reports = plainly_reported (plan_of (codes_in decls) asked) (origins_of (codes_in decls) sources) (store behind) run.changes [] run.events
        (plain_asked (store behind) run.events (drives_from count s 1) asked (plain_drives count s 1) run.ended.asks);
  }

-- the script that a text is, with its characters
made_script : (seed count : ℕ) → count ≤ most_groups → (s : Script) × (decls_of s ≡ decls) × (s.drives ≡ drives_from count (seed % 2 ^ 32) 1) × IsReadScript (made_text seed count) s
made_script seed count low =
    let bytes : List ℕ = made_text seed count in
    let (script, declares, drives, text) = script_of (chars bytes) (drives_from count (seed % 2 ^ 32) 1) in
    let spells : IsScript bytes script =
    subst (λ (l : List Decl). Spells (lines bytes) l script.drives) (sym declares) (subst (Spells (lines bytes) decls) (sym drives) (spelled seed count low)) in
    (script, declares, drives, (spells, ap encode_utf8_all text ∙ encodes-chars bytes (script_is_utf8 line_is_utf8 bytes script spells)))

-- each text that is made has a whole run
pub have_runs : HaveRuns
have_runs seed count low =
    let s : ℕ = seed % 2 ^ 32 in
    let j : Journal = journal count s in
    let (script, declares, drives, reads) = made_script seed count low in (
      script,
      j,
      reads,
      subst (λ (l : List Decl). IsJournalOf l script.drives (sources_of script.text) j) (sym declares)
          (subst (λ (l : List DriveLine). IsJournalOf decls l (sources_of script.text) j) (sym drives) (is_journal count s (sources_of script.text))),
      subst (λ (l : List DriveLine). IsDone (length l) j.events) (sym drives) (is_done count s),
      (let short = (run count s).short in omega (arith, short)),
    )

-- and neither a raw code nor a report
pub are_core : AreCore
are_core seed count low =
    let (script, declares, drives, reads) = made_script seed count low in
    (script, reads.0, record { declares = subst (λ (l : List Decl). list_all is_core l ≡ true) (sym declares) refl; drives_plainly = subst (λ (l : List DriveLine). list_all is_plain l ≡ true) (sym drives) (plain_drives count (seed % 2 ^ 32) 1) })
