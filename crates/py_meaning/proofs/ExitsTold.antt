-- What exits are told in a journal of a script without raw codes and reports: the tracebacks of raises.
use Rattle.std.proofs.Common.{List, [], length, refl}
use Rattle.py_objects.specs.declared.payload.Payload.TheVariants as payload
use Rattle.py_objects.specs.Objects.{Obj}
use Rattle.py_objects.specs.Own.{Own}
use Rattle.py_objects.specs.Telling.{under_any}
use Rattle.py_lines.specs.declared.drive.DriveLine.{DriveLine}
use Rattle.py_grammar.specs.Grammar.{Decl, OfBody, OfRaw, codes_in}
use Rattle.py_run.specs.declared.journal.Journal.{Journal}
use Rattle.py_reports.specs.Scenes.{SourceLines}
use Rattle.py_run.specs.Links.{lines_in}
use Rattle.py_determined.specs.Raises.{TellRaises}
use Rattle.py_determined.proofs.AsksEach.{name_in}
use Rattle.py_determined.proofs.LinksTell.{links_tell}
use Rattle.py_determined.proofs.NamedBefore.{EachAsks}
use Rattle.py_determined.proofs.Pairing.{IsBare}
use Rattle.py_determined.proofs.RunsAgree.{OfOneScript}
use Rattle.py_meaning.specs.Core.{IsCore}
use Rattle.py_meaning.specs.Earlier.{NameEarlier}
use Rattle.py_meaning.specs.Whole.{IsJournalOf, Traces, TracesUnder, plan_of, thrown_in}
use Rattle.py_meaning.proofs.CoreLemmas.{core_codes}
use Rattle.py_meaning.proofs.GlobalsAsked.{trace_good}
use Rattle.py_meaning.proofs.OneScript.{signatures_agree, first_alike, bodies_agree, drives_agree}

module _ (decls : List Decl) (drives : List DriveLine) (core : IsCore decls drives) (earlier : NameEarlier drives) (sources : List SourceLines) (j : Journal)
    (journal : IsJournalOf decls drives sources j) where
  -- it is a run of one script with itself
  with_itself : OfOneScript (plan_of (codes_in decls) journal.run.asked) (plan_of (codes_in decls) journal.run.asked) j.objects j.objects (Traces (codes_in decls) journal.run.globals j.objects)
      (Traces (codes_in decls) journal.run.globals j.objects) j.events j.events
  with_itself = record {
    signatures = signatures_agree decls drives earlier j.objects j.objects j.events j.events journal.run journal.run;
    bodies = bodies_agree decls drives earlier j.objects j.objects j.events j.events journal.run journal.run core.declares;
    alike = first_alike decls drives earlier j.objects j.objects j.events j.events journal.run journal.run;
    drives = λ es fs more more' d is is' count same. drives_agree decls drives earlier j.objects j.objects j.events j.events journal.run journal.run core.drives_plainly es fs more more' d is is' same;
  }

  -- each activation looks names up in the dict of the globals
  each_asks : (f : Obj) (vs : List Obj) (ts : List Own) → Traces (codes_in decls) journal.run.globals j.objects f vs ts → EachAsks (IsBare j.objects) ts
  each_asks f vs ts (b, has, (OfBody t, here, told)) =
      trace_good (IsBare j.objects) (thrown_in under_any j.objects journal.run.globals) (payload.Dict journal.run.are_globals.pairs, journal.run.are_globals.dict, refl) t vs ts told
  each_asks f vs ts (b, has, (OfRaw r, here, told)) = absurd (core_codes decls core.declares b.code r here)

  -- so exits are told the tracebacks of raises
  pub exits_told : TellRaises j.objects [] j.events
  exits_told =
      links_tell (plan_of (codes_in decls) journal.run.asked) j.objects (Traces (codes_in decls) journal.run.globals j.objects) j.events with_itself journal.run.run.comes journal.run.run.tells
      (λ throws. TracesUnder throws (codes_in decls) journal.run.globals j.objects) (lines_in j.codes) j.changes (length j.events) journal.links.alone journal.links.come
      (name_in (IsBare j.objects) j.objects (plan_of (codes_in decls) journal.run.asked) (Traces (codes_in decls) journal.run.globals j.objects) j.events journal.run.run.comes journal.run.run.tells each_asks)
