-- What the definitions say of the journal with a report.
use Rattle.std.proofs.Common.{◌≡◌, ℕ, zero, suc, ◌<◌, List, [], ◌∷◌, ◌++◌, Option, Some, None, refl, sym, ap, subst, inl, inr, ⊎_elim, length, get_or, lit<, lit≤, ◌∙◌, append-nil, arith}
use Rattle.std.specs.Prelude.{codes, decimal, drop, encode_utf8_all, slice_get, take}
use Rattle.std.proofs.lemmas.Fmt.{decimal_digit}
use Rattle.std.proofs.lemmas.Option.{same_Some}
use Rattle.py_code.specs.Codes.{Codes}
use Rattle.py_objects.specs.declared.refs.PyBaseExceptionRef.{PyBaseExceptionRef}
use Rattle.py_objects.specs.declared.payload.Payload.{Payload}
use Rattle.py_objects.specs.declared.payload.Payload.TheVariants as payload
use Rattle.py_objects.specs.declared.edit.Edit.TheVariants as edit
use Rattle.py_objects.specs.declared.edit.LinkField.TheVariants as link
use Rattle.py_objects.specs.declared.error_kind.ErrorKind.TheVariants.{NameError}
use Rattle.py_objects.specs.declared.request.Request.TheVariants.{Global}
use Rattle.py_objects.specs.declared.event.GotAnswer.TheVariants as got
use Rattle.py_objects.specs.declared.event.DriveAnswer.{DriveAnswer}
use Rattle.py_objects.specs.declared.event.DriveAnswer.TheVariants as answer
use Rattle.py_objects.specs.declared.event.Event.{Event}
use Rattle.py_objects.specs.declared.event.Event.TheVariants as event
use Rattle.py_objects.specs.declared.edit.Change.{Change}
use Rattle.py_objects.specs.Changes.{store_at}
use Rattle.py_objects.specs.Objects.{Name, Obj, AllFit}
use Rattle.py_objects.specs.Singletons.{none_object}
use Rattle.py_objects.specs.Own.{own_events, own_from, told_by}
use Rattle.py_objects.specs.Telling.{ThrowTest}
use Rattle.py_exceptions.specs.Orders.{IsOrder}
use Rattle.py_exceptions.specs.Walks.{led, link_at}
use Rattle.py_tree.specs.Scene.{anywhere}
use Rattle.py_tree.specs.Trace.{IsTrace}
use Rattle.py_lines.specs.declared.drive.DriveLine.TheVariants as drive
use Rattle.py_grammar.specs.Grammar.{Declares, Drives, FunctionDecl, OfBody, codes_in}
use Rattle.py_grammar.specs.Lines.{lines}
use Rattle.py_grammar.specs.Script.{Spells}
use Rattle.py_reports.specs.Chains.{before_at}
use Rattle.py_reports.specs.Laws.{OneReport}
use Rattle.py_reports.specs.Reports.{IsReport}
use Rattle.py_reports.specs.Scenes.{Scene, SourceLines}
use Rattle.py_answers.specs.Answers.{This, Fails, Passes, unknown_text, IsRaised}
use Rattle.py_run.specs.declared.drive.Told.{Told}
use Rattle.py_run.specs.declared.drive.Told.TheVariants as told
use Rattle.py_run.specs.Run.{Plan, Pose, Requests, Forms, Reports, Posed, start, state_after, reporting, requested, requested_by, makings, makings_of, to_report, to_report_by}
use Rattle.py_run.specs.Coming.{nothing as at_first, Comes}
use Rattle.py_run.specs.Links.{AreLinks, lines_in, named_by, named_in}
use Rattle.py_run.specs.Reports.{Origins, AreReported, IsReportText, scene_among}
use Rattle.py_run.proofs.GrownReports.{reports_both}
use Rattle.py_run.proofs.NoLinks.{quiet, quiet_then}
use Rattle.py_run.proofs.ReportsLemmas.{nothing_reported}
use Rattle.py_meaning.specs.Reported.{origins_of, sources_of}
use Rattle.py_meaning.specs.Whole.{AreAsked, IsRunOf, Poses, Traces, TracesUnder, plan_of, raised_in}
use Rattle.py_meaning.specs.Text.{result_text, text_of}
use Rattle.py_meaning.specs.Worked.{object, exception}
use Rattle.py_meaning.specs.WorkedLoop.{asked, not_defined, unknown_decls}
use Rattle.py_meaning.specs.WorkedReport.{script, drives, run_objects, objects, raised, events, call_reported, links, journal, report, without_source, with_other_line, last_line, ComesWith, ComesTo, NeverComesTo, NoCallReports}
use Rattle.py_meaning.proofs.Journals.{all_below, ascii_bytes, are_globals, are_loaded, are_named, fits, is_of_kind, is_raised, made_exception, one_tells, own_with, posed_request, reads_of, runs}
use Rattle.py_meaning.proofs.LinkedText.{linked_text}
use Rattle.py_meaning.proofs.OneText.{raise_line}
use Rattle.py_meaning.proofs.WorkedLoopLemmas.{call, unknown_function}

pub spelled : Spells (lines script) unknown_decls drives
spelled =
    let items = Declares (FunctionDecl unknown_function) ∷ Drives (drive.Call (codes "f") []) ∷ Drives (drive.Report 1) ∷ [] in
    record {
      items = items;
      reads = reads_of items;
      read = ((refl, tt), ((refl, omega arith), ((refl, tt), ((refl, tt), ((refl, tt), tt)))));
      spelled = refl;
      well = ((refl, (refl, tt)), (refl, (refl, tt)));
      declared = refl;
      driven = refl;
    }

-- its objects behind the first ones
abbrev own : List Payload
own = own_with unknown_function (payload.Frame 0 ∷ run_objects)

all_fit : AllFit objects
all_fit =
    let made = made_exception own NameError (object 5) (object 4 ∷ []) refl in
    fits unknown_function (payload.Frame 0 ∷ run_objects) refl (tt, (tt, (tt, (made, ((tt, (_, refl)), tt)))))

-- the exception is new, and is what the question is answered
is_new_error : IsRaised objects (asked []) NameError not_defined (exception 6)
is_new_error = is_raised own (asked []) NameError not_defined (object 4) (object 5) (exception 6) refl refl refl (refl, (refl, (refl, (refl, tt))))

-- the question of the second drive
abbrev report_drive : Posed
report_drive = record { pose = Reports (told.Report (Some (exception 6))); entered = 0 }

-- what the run is of
abbrev plan : Plan
plan = plan_of (codes_in unknown_decls) (call ∷ report_drive ∷ [])

comes : (text : Name) → Comes plan objects at_first (events (answer.Reported text))
comes text = (
  (refl, refl, lit< tt),
  (
    (refl, (refl, (_, refl, inr (inl (object 0, [], refl, runs _ _ _ _ _ _ _ refl refl refl))))),
    (
      (refl, is_of_kind _ _ _ _ _ _ refl refl refl),
      (
        (refl, refl),
        (
          (refl, (Fails NameError (unknown_text (codes "z")), (Global (object 2) (codes "z"), refl, inl (Fails NameError (unknown_text (codes "z")), refl, refl)), is_new_error)),
          (
            (refl, refl),
            (
              (refl, refl, inl (Passes (This (exception 6)), inl (_, refl, (refl, refl)), refl)),
              ((refl, refl, lit< tt), ((refl, refl, inr (refl, (told.Report (Some (exception 6)), refl, (text, refl)))), tt)),
            ),
          ),
        ),
      ),
    ),
  ),
)

traced : (text : Name) → IsTrace (anywhere objects (object 2)) unknown_function [] (own_events 1 (events (answer.Reported text)))
unfolding own_from told_by
traced text = (refl, (_, refl, inr (inr (0, _, refl, refl, inr (4, got.Raise (exception 6), _, refl, inr (0, refl))))))

is_run_of : (text : Name) → IsRunOf unknown_decls drives objects (events (answer.Reported text))
is_run_of text =
    record {
      asked = call ∷ report_drive ∷ [];
      are_asked = (((object 0, [], refl, refl, tt), refl), (((6, answer.Raises (exception 6), refl, refl), refl), tt));
      globals = object 2;
      are_globals = are_globals unknown_function (payload.Frame 0 ∷ run_objects) refl;
      run =
          record {
            comes = comes text;
            tells = one_tells (Traces (codes_in unknown_decls) (object 2) objects) (object 0) [] (events (answer.Reported text)) refl (_, refl, (OfBody unknown_function, refl, traced text));
            named = are_named objects (events (answer.Reported text)) all_fit refl;
          };
      are_objects = are_loaded unknown_function (payload.Frame 0 ∷ run_objects) refl (tt, (tt, (tt, (tt, (tt, tt))))) all_fit;
    }

-- ---- its report

-- what the report is made of, with these source texts
abbrev scene_with : List SourceLines → Scene
scene_with sources = scene_among (origins_of (codes_in unknown_decls) sources) (store_at objects links 8)

-- a walk that ends at once
one_met : (step : Obj → Option Obj) (v : Obj) → step v ≡ None → IsOrder step v (v ∷ [])
one_met step v none = record { along = along; once = λ i j p q same. omega arith; ends = inl none; some = omega arith }
  where
    along : (i : ℕ) → i < length (v ∷ []) → slice_get (v ∷ []) i ≡ led step i v
    along zero low = refl
    along (suc i) low = absurd (omega arith)

is_report : IsReport (scene_with (sources_of script)) (object 6) (encode_utf8_all report)
unfolding lib.Utf8.encode
is_report = (
  _,
  (object 6 ∷ [], one_met (before_at (store_at objects links 8)) (object 6) refl, refl),
  ([], _, refl, (_, (object 7 ∷ [], one_met (link_at link.Next (store_at objects links 8)) (object 7) refl, refl), refl), two),
)
  where
    two : encode_utf8_all report
        ≡ codes "Traceback (most recent call last):\n  File \"<script>\", line " ++ (((decimal 2 ++ codes ", in f\n    show z\n") ++ []) ++ codes "NameError: name 'z' is not defined\n")
    two =
        ascii_bytes report refl
        ∙ ap (λ (digits : List ℕ). codes "Traceback (most recent call last):\n  File \"<script>\", line " ++ (((digits ++ codes ", in f\n    show z\n") ++ []) ++ codes "NameError: name 'z' is not defined\n"))
        (sym (decimal_digit 2 (omega arith)))

is_without_source : IsReport (scene_with []) (object 6) (encode_utf8_all without_source)
unfolding lib.Utf8.encode
is_without_source = (
  _,
  (object 6 ∷ [], one_met (before_at (store_at objects links 8)) (object 6) refl, refl),
  ([], _, refl, (_, (object 7 ∷ [], one_met (link_at link.Next (store_at objects links 8)) (object 7) refl, refl), refl), two),
)
  where
    two : encode_utf8_all without_source
        ≡ codes "Traceback (most recent call last):\n  File \"<script>\", line " ++ (((decimal 2 ++ codes ", in f\n") ++ []) ++ codes "NameError: name 'z' is not defined\n")
    two =
        ascii_bytes without_source refl
        ∙ ap (λ (digits : List ℕ). codes "Traceback (most recent call last):\n  File \"<script>\", line " ++ (((digits ++ codes ", in f\n") ++ []) ++ codes "NameError: name 'z' is not defined\n"))
        (sym (decimal_digit 2 (omega arith)))

-- of a drive and its report there is one report
one_reported : (plan : Plan) (origins : Origins) (made : List Payload) (changes : List Change) (before : List Event) (d : ℕ) (text : Name) (e : Told)
    → reporting plan (state_after start (before ++ event.Drive d ∷ [])) ≡ Some e → IsReportText (scene_among origins (store_at made changes (length (before ++ event.Drive d ∷ [])))) e text
    → AreReported plan origins made changes before (event.Drive d ∷ event.Result d (answer.Reported text) ∷ [])
one_reported plan origins made changes before d text e asks is [] back d' text' e' same some = absurd (cc same)
one_reported plan origins made changes before d text e asks is (x ∷ []) back d' text' e' same some =
    let first : x ≡ event.Drive d = cc same in
    let same_text : text ≡ text' = cc same in
    let now : e ≡ e' = same_Some e e' (sym asks ∙ ap (λ (y : Event). reporting plan (state_after start (before ++ y ∷ []))) (sym first) ∙ some) in
    subst (λ (y : Event). IsReportText (scene_among origins (store_at made changes (length (before ++ y ∷ [])))) e' text') (sym first)
    (subst (λ (f : Told). IsReportText (scene_among origins (store_at made changes (length (before ++ event.Drive d ∷ [])))) f text') now
    (subst (IsReportText (scene_among origins (store_at made changes (length (before ++ event.Drive d ∷ [])))) e) same_text is))
one_reported plan origins made changes before d text e asks is (x ∷ y ∷ []) back d' text' e' same some = absurd (cc same)
one_reported plan origins made changes before d text e asks is (x ∷ y ∷ z ∷ front) back d' text' e' same some = absurd (cc same)

-- the change sets a link
alone : AreLinks 1 9 links
alone = (refl, lit≤ tt, lit≤ tt, tt)

is_journal : (sources : List SourceLines) (text : Name) → IsReport (scene_with sources) (object 6) (encode_utf8_all text) → ComesWith sources (answer.Reported text)
unfolding is_run_of
is_journal sources text is k line =
    let may = λ (throws : ThrowTest). TracesUnder throws (codes_in unknown_decls) (object 2) objects in
    let es = events (answer.Reported text) in
    record {
      run = is_run_of text;
      links = record {
        come = quiet_then may (lines_in k) objects links [] (asked []) (drop 4 es) refl refl (
          tt,
          (
            (object 6, edit.Link link.Traceback (Some (object 7))) ∷ [],
            record {
              contexts = [];
              gets = refl;
              entries = (object 6, edit.Link link.Traceback (Some (object 7))) ∷ [];
              puts = record {
                frame = record { number = (object 3).number };
                is_frame = record { at = 0; numbered = refl; activation = _; is_made = refl; body = _; is_function = refl; entry = refl; made_with = refl };
                line = 2;
                is_line = line;
                entry = object 7;
                has = refl;
                newer = all_below (object 7).number (named_by (asked []) ++ named_in []) refl;
                puts = refl;
              };
              both = refl;
            },
            refl,
          ),
          quiet may (lines_in k) objects links (take 5 es) (drop 5 es) refl refl,
        );
        alone = alone;
      };
      reports =
          let origins = origins_of (codes_in unknown_decls) sources in
          reports_both plan origins objects links (raised []) (event.Drive 2 ∷ event.Result 2 (answer.Reported text) ∷ [])
          (nothing_reported plan origins objects links [] (raised []) refl (lit≤ tt))
          (one_reported plan origins objects links (raised []) 2 text (told.Report (Some (exception 6))) refl is);
    }

pub is_run : ComesTo (answer.Reported report)
is_run = is_journal (sources_of script) report is_report

pub without_a_source : ComesWith [] (answer.Reported without_source)
without_a_source = is_journal [] without_source is_without_source

pub text : (k : Codes) → text_of (journal k (answer.Reported report)) ≡ codes "1 raises NameError: name 'z' is not defined\n" ++ report
text k =
    linked_text 1 9 (journal k (answer.Reported report)) alone
    ∙ (ap (λ (t : List ℕ). result_text objects 1 (answer.Raises (exception 6)) ++ t) (append-nil (encode_utf8_all report) ∙ ascii_bytes report refl)
    ∙ ap (λ (t : List ℕ). t ++ report) (raise_line unknown_decls objects NameError not_defined refl refl (is_run_of report).are_objects (asked []) (exception 6) is_new_error))

-- ---- what is none

-- what the first drive raised
raised_first : (w : DriveAnswer) (i : ℕ) (v : DriveAnswer) → slice_get (events w) i ≡ Some (event.Result 1 v) → v ≡ answer.Raises (exception 6)
raised_first w zero v at = absurd (cc at)
raised_first w (suc zero) v at = absurd (cc at)
raised_first w (suc (suc zero)) v at = absurd (cc at)
raised_first w (suc (suc (suc zero))) v at = absurd (cc at)
raised_first w (suc (suc (suc (suc zero)))) v at = absurd (cc at)
raised_first w (suc (suc (suc (suc (suc zero))))) v at = absurd (cc at)
raised_first w (suc (suc (suc (suc (suc (suc zero)))))) v at = cc at
raised_first w (suc (suc (suc (suc (suc (suc (suc zero))))))) v at = absurd (cc at)
raised_first w (suc (suc (suc (suc (suc (suc (suc (suc zero)))))))) v at = absurd (cc at)
raised_first w (suc (suc (suc (suc (suc (suc (suc (suc (suc i))))))))) v at = absurd (cc at)

-- a report drive requests nothing and has no exception made: it has that exception reported
abbrev IsOfReport : Option Posed → Type 0
IsOfReport q = (to_report_by q ≡ Some (told.Report (Some (exception 6)))) × (requested_by q ≡ None) × (makings_of q ≡ None)

posed : (w : DriveAnswer) (qs : List Posed) → AreAsked objects (events w) drives qs → 1 < length qs → IsOfReport (slice_get qs 1)
posed w [] asked many = absurd (omega (arith, many))
posed w (q ∷ []) asked many = absurd (omega (arith, many))
posed w (p ∷ q ∷ qs) asked many = by q.pose asked.1.0.0
  where
    by : (x : Pose) → Poses objects (events w) (drive.Report 1) x → (to_report x ≡ Some (told.Report (Some (exception 6)))) × (requested x ≡ None) × (makings x ≡ None)
    by (Requests r) poses = absurd poses
    by (Forms x) poses = absurd poses
    by (Reports (told.Part e)) poses = absurd poses
    by (Reports (told.Exit e)) poses = absurd poses
    by (Reports (told.Report e)) (i, v, at, is) = (ap (λ (x : Option PyBaseExceptionRef). Some (told.Report x)) (is ∙ ap raised_in (raised_first w i v at)), refl, refl)

-- the second drive tells a text
tells_text : (w : DriveAnswer) → IsRunOf unknown_decls drives objects (events w) → (text : Name) × (w ≡ answer.Reported text)
tells_text w r =
    let (reports, requests, forms) = posed w r.asked r.are_asked r.run.comes.1.1.1.1.1.1.1.0.2 in
    ⊎_elim (λ replied. let (reply, how, gives) = replied in
    ⊎_elim (λ answered. absurd (cc (sym requests ∙ answered.1))) (λ formed. absurd (cc (sym forms ∙ formed.1.1))) how) (λ reported. reported.1.2) r.run.comes.1.1.1.1.1.1.1.1.0.2

-- no journal tells another text
no_other : OneReport → (text : Name) → (encode_utf8_all report ≡ encode_utf8_all text → ⊥) → NeverComesTo (answer.Reported text)
no_other one text other k j =
    let (reports, requests, forms) = posed (answer.Reported text) j.run.asked j.run.are_asked j.run.run.comes.1.1.1.1.1.1.1.0.2 in
    other (one (scene_with (sources_of script)) (object 6) (encode_utf8_all report) (encode_utf8_all text) is_report
    (j.reports (raised (event.Drive 2 ∷ [])) [] 2 text (told.Report (Some (exception 6))) refl reports))

pub no_source_line_left_out : OneReport → NeverComesTo (answer.Reported without_source)
no_source_line_left_out one = no_other one without_source (λ same.
    let lengths : length report ≡ length without_source = ap length (sym (ascii_bytes report refl) ∙ same ∙ ascii_bytes without_source refl) in
    absurd (omega (arith, lengths)))

pub no_traceback_left_out : OneReport → NeverComesTo (answer.Reported last_line)
no_traceback_left_out one = no_other one last_line (λ same.
    let character : ◌≡◌ {A = ℕ} 84 78 = ap (λ (t : List ℕ). get_or t 0 0) (sym (ascii_bytes report refl) ∙ same ∙ ascii_bytes last_line refl) in
    absurd (omega (arith, character)))

pub no_empty_report : OneReport → NeverComesTo (answer.Reported [])
no_empty_report one = no_other one [] (λ same.
    let character : ◌≡◌ {A = ℕ} 84 0 = ap (λ (t : List ℕ). get_or t 0 0) (sym (ascii_bytes report refl) ∙ same) in
    absurd (omega (arith, character)))

pub no_other_line : OneReport → NeverComesTo (answer.Reported with_other_line)
no_other_line one = no_other one with_other_line (λ same.
    let digit : ◌≡◌ {A = ℕ} 50 49 = ap (λ (t : List ℕ). get_or t 59 0) (sym (ascii_bytes report refl) ∙ same ∙ ascii_bytes with_other_line refl) in
    absurd (omega (arith, digit)))

-- what is no text is no report
no_text : (w : DriveAnswer) → ((text : Name) → w ≡ answer.Reported text → ⊥) → NeverComesTo w
no_text w other k j = let (text, is) = tells_text w j.run in other text is

pub no_raise_in_its_place : NeverComesTo (answer.Raises (exception 6))
no_raise_in_its_place = no_text (answer.Raises (exception 6)) (λ text is. cc is)

pub no_value_in_its_place : NeverComesTo (answer.Returns none_object)
no_value_in_its_place = no_text (answer.Returns none_object) (λ text is. cc is)

-- a call has nothing reported
none_of_a_call : (text : Name) (qs : List Posed) → AreAsked objects (call_reported text) drives qs → to_report_by (slice_get qs 0) ≡ None
none_of_a_call text [] asked = refl
none_of_a_call text (q ∷ qs) asked = let (r, requests, asks, none) = posed_request objects (call_reported text) (drive.Call (codes "f") []) q.pose refl asked.0.0 in none.1

pub no_report_of_a_call : NoCallReports
no_report_of_a_call text r =
    let none = none_of_a_call text r.asked r.are_asked in
    ⊎_elim (λ replied. absurd replied.2) (λ reported. absurd (cc (sym none ∙ reported.1.1))) r.run.comes.1.1.1.1.1.1.0.2
