-- Two runs of one script are the same as far as both go; which is longer, and which texts are one.
use Rattle.std.proofs.Common.{◌≡◌, ◌≤◌, ◌<◌, ◌∙◌, ℕ, List, length, sym, arith}
use Rattle.py_lines.specs.declared.drive.DriveLine.{DriveLine}
use Rattle.py_grammar.specs.Grammar.{Decl, codes_in}
use Rattle.py_grammar.specs.Script.{decls_of}
use Rattle.py_run.specs.declared.journal.Journal.{Journal}
use Rattle.py_determined.specs.Alike.{AreAlike}
use Rattle.py_determined.specs.Events.{SameEvents}
use Rattle.py_determined.specs.Related.{Paired}
use Rattle.py_determined.proofs.RunsAgree.{runs_agree}
use Rattle.py_meaning.specs.Core.{IsCore, IsCoreFrom}
use Rattle.py_meaning.specs.Earlier.{NameEarlier}
use Rattle.py_meaning.specs.Whole.{IsJournalOf, IsRunFrom, IsWholeFrom, IsUnfinishedFrom, Traces, plan_of}
use Rattle.py_meaning.specs.Text.{text_of}
use Rattle.py_reports.specs.Scenes.{SourceLines}
use Rattle.py_meaning.specs.Reported.{sources_of}
use Rattle.py_meaning.proofs.CoreLemmas.{core_script}
use Rattle.py_meaning.proofs.EarlierLemmas.{script_earlier}
use Rattle.py_meaning.proofs.OneScript.{signatures_agree, first_alike, bodies_agree, drives_agree}
use Rattle.py_meaning.proofs.ExitsTold.{exits_told}
use Rattle.py_meaning.proofs.Lengths.{journal_of, no_longer, unfinished_shorter}
use Rattle.py_meaning.proofs.TextsAgree.{texts_agree}
use Rattle.py_meaning.proofs.LinkedText.{linked_text}

-- two journals of the same declarations and drives, where no declaration is a raw code, and no drive has anything reported
module _ (decls : List Decl) (drives : List DriveLine) (core : IsCore decls drives) (earlier : NameEarlier drives) (sources sources' : List SourceLines) (j j' : Journal)
    (is : IsJournalOf decls drives sources j) (is' : IsJournalOf decls drives sources' j') where
  pub scripts_agree : SameEvents (Paired j.objects j'.objects j.events j'.events) j.events j'.events × AreAlike (Paired j.objects j'.objects j.events j'.events) j.objects j'.objects
  scripts_agree =
      runs_agree (plan_of (codes_in decls) is.run.asked) (plan_of (codes_in decls) is'.run.asked) j.objects j'.objects (Traces (codes_in decls) is.run.globals j.objects)
      (Traces (codes_in decls) is'.run.globals j'.objects) j.events j'.events (record {
        signatures = signatures_agree decls drives earlier j.objects j'.objects j.events j'.events is.run is'.run;
        bodies = bodies_agree decls drives earlier j.objects j'.objects j.events j'.events is.run is'.run core.declares;
        alike = first_alike decls drives earlier j.objects j'.objects j.events j'.events is.run is'.run;
        drives = λ es fs more more' d here here' count same. drives_agree decls drives earlier j.objects j'.objects j.events j'.events is.run is'.run core.drives_plainly es fs more more' d here here' same;
      }) is.run.run.comes is'.run.run.comes is.run.run.tells is'.run.run.tells (exits_told decls drives core earlier sources j is) (exits_told decls drives core earlier sources' j' is')

-- ---- journals of the script that bytes are, which has no raw code and no report

whole_runs : (bytes : List ℕ) (j : Journal) → IsWholeFrom bytes j → IsRunFrom bytes j
whole_runs bytes j (s, is, run, whole) = (s, is, run)

pub unfinished_runs : (bytes : List ℕ) (j : Journal) → IsUnfinishedFrom bytes j → IsRunFrom bytes j
unfinished_runs bytes j (s, is, run, not_whole) = (s, is, run)

module _ (bytes : List ℕ) (j j' : Journal) (core : IsCoreFrom bytes) where
  -- two runs of it have the same events, as far as both go
  pub runs_agree_from : IsRunFrom bytes j → IsRunFrom bytes j'
      → SameEvents (Paired j.objects j'.objects j.events j'.events) j.events j'.events × AreAlike (Paired j.objects j'.objects j.events j'.events) j.objects j'.objects
  runs_agree_from (s, is, run) (t, is', run') =
      scripts_agree (decls_of s) s.drives (core_script bytes s core is.0) (script_earlier bytes s is.0) (sources_of s.text) (sources_of t.text) j j' run (journal_of bytes s t j' is.0 is'.0 run')

  -- one that isn't whole is shorter than a whole one
  pub shorter : IsWholeFrom bytes j → IsUnfinishedFrom bytes j' → length j'.events < length j.events
  shorter whole unfinished =
      unfinished_shorter (Paired j.objects j'.objects j.events j'.events) bytes j j' (runs_agree_from (whole_runs bytes j whole) (unfinished_runs bytes j' unfinished)).0 whole unfinished

  -- none is longer than a whole one
  pub never_longer : IsWholeFrom bytes j → IsRunFrom bytes j' → length j'.events ≤ length j.events
  never_longer whole run =
      no_longer (Paired j.objects j'.objects j.events j'.events) bytes j j' (runs_agree_from (whole_runs bytes j whole) run).0 whole run

  -- two of as many events have one text
  pub same_text : IsRunFrom bytes j → IsRunFrom bytes j' → length j.events ≡ length j'.events → text_of j ≡ text_of j'
  same_text run run' count =
      let (same, alike) = runs_agree_from run run' in
      let (s, is, ran) = run in
      let (t, is', ran') = run' in
      linked_text 1 (length j.events) j ran.links.alone
      ∙ (texts_agree (Paired j.objects j'.objects j.events j'.events) j.objects j'.objects alike ran.run.are_objects.fit ran'.run.are_objects.fit j.events j'.events count same ran.run.run.named ran'.run.run.named
      ∙ sym (linked_text 1 (length j'.events) j' ran'.links.alone))

module _ (bytes : List ℕ) (j j' : Journal) (core : IsCoreFrom bytes) (whole : IsWholeFrom bytes j) (whole' : IsWholeFrom bytes j') where
  -- two whole ones are as long
  pub as_long : length j.events ≡ length j'.events
  as_long =
      let one = never_longer bytes j j' core whole (whole_runs bytes j' whole') in
      let other = never_longer bytes j' j core whole' (whole_runs bytes j whole) in
      omega (arith, one, other)

  -- and have one text
  pub one_text : text_of j ≡ text_of j'
  one_text = same_text bytes j j' core (whole_runs bytes j whole) (whole_runs bytes j' whole') as_long
