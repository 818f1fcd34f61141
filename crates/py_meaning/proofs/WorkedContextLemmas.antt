-- What the definitions say of the journal with a raise in a handler.
use Rattle.std.proofs.Common.{◌≡◌, ℕ, zero, suc, List, [], ◌∷◌, ◌++◌, Option, Some, None, true, refl, ap, inl, inr, length, lit<, lit≤, ◌∙◌, subst, sym, append-nil, arith}
use Rattle.std.specs.Prelude.{codes, drop, slice_get, take}
use Rattle.std.proofs.lemmas.Option.{same_Some}
use Rattle.py_code.specs.Codes.{Codes}
use Rattle.py_objects.specs.declared.payload.Payload.{Payload}
use Rattle.py_objects.specs.declared.payload.Payload.TheVariants as payload
use Rattle.py_objects.specs.declared.edit.Change.{Change}
use Rattle.py_objects.specs.declared.edit.Edit.TheVariants as edit
use Rattle.py_objects.specs.declared.edit.LinkField.TheVariants as link
use Rattle.py_objects.specs.declared.error_kind.ErrorKind.TheVariants.{NameError}
use Rattle.py_objects.specs.declared.request.Request.TheVariants.{Global, Match, Truth}
use Rattle.py_objects.specs.declared.event.GotAnswer.TheVariants as got
use Rattle.py_objects.specs.declared.event.DriveAnswer.TheVariants as answer
use Rattle.py_objects.specs.declared.event.Event.{Event}
use Rattle.py_objects.specs.declared.event.Event.TheVariants as event
use Rattle.py_objects.specs.declared.payload.FunctionBody.{FunctionBody}
use Rattle.py_objects.specs.declared.payload.TracebackBody.{TracebackBody}
use Rattle.py_objects.specs.Objects.{Obj, AllFit, HasPayload}
use Rattle.py_objects.specs.Own.{own_events, own_from, told_by}
use Rattle.py_objects.specs.Telling.{ThrowTest}
use Rattle.py_tree.specs.Scene.{anywhere}
use Rattle.py_tree.specs.Trace.{IsTrace}
use Rattle.py_grammar.specs.Grammar.{Declares, Drives, FunctionDecl, OfBody, codes_in}
use Rattle.py_lines.specs.declared.drive.DriveLine.TheVariants as drive
use Rattle.py_grammar.specs.Lines.{lines}
use Rattle.py_grammar.specs.Script.{Spells}
use Rattle.py_exceptions.specs.Walks.{led, on_link}
use Rattle.py_answers.specs.Answers.{This, Is, Fails, Matches, Passes, truth, unknown_text, IsRaised}
use Rattle.py_run.specs.Run.{Activation, Plan}
use Rattle.py_run.specs.Coming.{nothing as at_first, Comes}
use Rattle.py_run.proofs.NoLinks.{quiet, quiet_then}
use Rattle.py_run.proofs.ReportsLemmas.{nothing_reported}
use Rattle.py_run.specs.Run.{start, state_after}
use Rattle.py_run.specs.Links.{AreLinks, ObjectEdit, Raises, cut, lines_in, links_at, named_by, named_in, noted, scene_at}
use Rattle.py_meaning.specs.Reported.{origins_of}
use Rattle.py_meaning.specs.Whole.{IsJournalOf, Traces, TracesUnder, IsRunOf, plan_of}
use Rattle.py_meaning.specs.Text.{result_text, text_of}
use Rattle.py_meaning.specs.Worked.{object, exception}
use Rattle.py_meaning.specs.WorkedLoop.{drives, entered, not_defined}
use Rattle.py_meaning.specs.WorkedContext.{script, function, decls, run_objects, objects, name_error, raised, handled, events, entry, linked, first_entry, context, second_entry, links, journal, AreItsChanges, AreNotItsChanges, NeedsTheLine}
use Rattle.py_meaning.proofs.Journals.{all_below, are_globals, are_loaded, are_named, differ, fits, is_of_kind, is_raised, made_exception, one_tells, own_with, reads_of, runs}
use Rattle.py_meaning.proofs.LinkedText.{linked_text}
use Rattle.py_meaning.proofs.OneText.{raise_line}
use Rattle.py_meaning.proofs.WorkedLoopLemmas.{call}

pub spelled : Spells (lines script) decls drives
spelled =
    let items = Declares (FunctionDecl function) ∷ Drives (drive.Call (codes "f") []) ∷ [] in
    record {
      items = items;
      reads = reads_of items;
      read = ((refl, tt), ((refl, tt), ((refl, omega arith), ((refl, tt), ((refl, omega arith), ((refl, tt), ((refl, tt), ((refl, tt), tt))))))));
      spelled = refl;
      well = ((refl, ((refl, (tt, ((refl, tt), ((refl, tt), tt)))), tt)), (refl, tt));
      declared = refl;
      driven = refl;
    }

-- its objects behind the first ones
abbrev own : List Payload
own = own_with function (payload.Frame 0 ∷ run_objects)

all_fit : AllFit objects
all_fit =
    let made = made_exception own NameError (object 5) (object 4 ∷ []) refl in
    fits function (payload.Frame 0 ∷ run_objects) refl (tt, (tt, (tt, (made, (made, (made, (tt, ((tt, (_, refl)), ((tt, (_, refl)), (((_, refl), (_, refl)), tt))))))))))

-- the events up to the first answer, and up to the second one
abbrev before_first : List Event
before_first = entered (event.Ask 1 (Global (object 2) (codes "z")) None 1 ∷ [])

abbrev before_second : List Event
before_second = entered (raised (handled []))

first_raised : IsRaised objects before_first NameError not_defined (exception 6)
first_raised = is_raised own before_first NameError not_defined (object 4) (object 5) (exception 6) refl refl refl (refl, (refl, (refl, (refl, tt))))

second_raised : IsRaised objects before_second NameError not_defined (exception 7)
second_raised =
    is_raised own before_second NameError not_defined (object 4) (object 5) (exception 7) refl refl refl
    (refl, (refl, (refl, (refl, (refl, (refl, (refl, (refl, (refl, (refl, (refl, (refl, tt))))))))))))

-- what is raised is caught by its class
matches : Matches objects (object 6) name_error (truth true)
matches = (_, _, refl, refl, (true, (_, refl, refl), (true, (_, refl, refl), refl)))

-- what the run is of
abbrev plan : Plan
plan = plan_of (codes_in decls) (call ∷ [])

comes : Comes plan objects at_first events
comes = (
  (refl, refl, lit< tt),
  (
    (refl, (refl, (_, refl, inr (inl (object 0, [], refl, runs _ _ _ _ _ _ _ refl refl refl))))),
    (
      (refl, is_of_kind _ _ _ _ _ _ refl refl refl),
      (
        (refl, refl),
        (
          (refl, (Fails NameError (unknown_text (codes "z")), (Global (object 2) (codes "z"), refl, inl (Fails NameError (unknown_text (codes "z")), refl, refl)), first_raised)),
          (
            (refl, refl),
            (
              (refl, (Is name_error, (Global (object 2) (codes "NameError"), refl, inl (Is name_error, refl, refl)), refl)),
              (
                (refl, refl),
                (
                  (refl, (truth true, (Match (object 6) name_error, refl, inl (truth true, refl, matches)), refl)),
                  (
                    (refl, refl),
                    (
                      (refl, (truth true, (Truth (object 9), refl, inl (truth true, refl, (payload.Bool true, refl, refl))), refl)),
                      (
                        (refl, refl),
                        (
                          (refl, (Fails NameError (unknown_text (codes "z")), (Global (object 2) (codes "z"), refl, inl (Fails NameError (unknown_text (codes "z")), refl, refl)), second_raised)),
                          ((refl, refl), ((refl, refl, inl (Passes (This (exception 7)), inl (_, refl, (refl, refl)), refl)), tt)),
                        ),
                      ),
                    ),
                  ),
                ),
              ),
            ),
          ),
        ),
      ),
    ),
  ),
)

traced : IsTrace (anywhere objects (object 2)) function [] (own_events 1 events)
unfolding own_from told_by
traced = (
  refl,
  (
    _,
    refl,
    inr (inr (inr (
      1,
      _,
      refl,
      refl,
      inr (
        4,
        got.Raise (exception 6),
        _,
        refl,
        inr (
          3,
          _,
          refl,
          refl,
          inr (
            6,
            got.Value name_error,
            _,
            refl,
            inr (
              4,
              _,
              refl,
              refl,
              inr (
                8,
                got.Value (object 9),
                _,
                refl,
                inr (
                  5,
                  _,
                  refl,
                  refl,
                  inr (
                    10,
                    got.Value (object 9),
                    _,
                    refl,
                    (true, refl, inr (inr (7, _, refl, refl, inr (12, got.Raise (exception 7), _, refl, inr (7, refl))))),
                  ),
                ),
              ),
            ),
          ),
        ),
      ),
    ))),
  ),
)

is_run_of : IsRunOf decls drives objects events
is_run_of =
    record {
      asked = call ∷ [];
      are_asked = (((object 0, [], refl, refl, tt), refl), tt);
      globals = object 2;
      are_globals = are_globals function (payload.Frame 0 ∷ run_objects) refl;
      run = record { comes = comes; tells = one_tells (Traces (codes_in decls) (object 2) objects) (object 0) [] events refl (_, refl, (OfBody function, refl, traced)); named = are_named objects events all_fit refl };
      are_objects = are_loaded function (payload.Frame 0 ∷ run_objects) refl (tt, (tt, (tt, (tt, (tt, (tt, (tt, (tt, (tt, (tt, tt)))))))))) all_fit;
    }

-- an object whose link leads nowhere leads nowhere
leads_nowhere : (step : Obj → Option Obj) (from : Obj) → step from ≡ None → (n : ℕ) → led step (suc n) from ≡ None
leads_nowhere step from none zero = none
leads_nowhere step from none (suc n) = ap (on_link step) (leads_nowhere step from none n)

no_way_back : (step : Obj → Option Obj) (from to : Obj) → step from ≡ None → (n : ℕ) → led step (suc n) from ≡ Some to → ⊥
no_way_back step from to none n leads = let nowhere = leads_nowhere step from none n in cc

-- the changes set links alone, in order
alone : AreLinks 1 15 links
alone = (refl, lit≤ tt, lit≤ tt, (refl, lit≤ tt, lit≤ tt, (refl, lit≤ tt, lit≤ tt, tt)))

pub is_run : AreItsChanges links
unfolding is_run_of
is_run k has =
    let may = λ (throws : ThrowTest). TracesUnder throws (codes_in decls) (object 2) objects in
    record {
      run = is_run_of;
      links = record {
        come = quiet_then may (lines_in k) objects links [] before_first (drop 4 events) refl refl (
          tt,
          (
            (object 6, edit.Link link.Traceback (Some (object 10))) ∷ [],
            record {
              contexts = [];
              gets = refl;
              entries = (object 6, edit.Link link.Traceback (Some (object 10))) ∷ [];
              puts = record {
                frame = record { number = (object 3).number };
                is_frame = record { at = 0; numbered = refl; activation = _; is_made = refl; body = _; is_function = refl; entry = refl; made_with = refl };
                line = 3;
                is_line = has.0;
                entry = object 10;
                has = refl;
                newer = all_below (object 10).number (named_by before_first ++ named_in []) refl;
                puts = refl;
              };
              both = refl;
            },
            refl,
          ),
          quiet_then may (lines_in k) objects links (take 5 events) (drop 5 before_second) (drop 12 events) refl refl (
            tt,
            (
              (object 7, edit.Link link.Context (Some (object 6))) ∷ (object 7, edit.Link link.Traceback (Some (object 11))) ∷ [],
              record {
                contexts = (object 7, edit.Link link.Context (Some (object 6))) ∷ [];
                gets = (None, no_way_back _ (object 6) (object 7) refl, refl);
                entries = (object 7, edit.Link link.Traceback (Some (object 11))) ∷ [];
                puts = record {
                  frame = record { number = (object 3).number };
                  is_frame = record { at = 0; numbered = refl; activation = _; is_made = refl; body = _; is_function = refl; entry = refl; made_with = refl };
                  line = 5;
                  is_line = has.1;
                  entry = object 11;
                  has = refl;
                  newer = all_below (object 11).number (named_by before_second ++ named_in (first_entry ∷ [])) refl;
                  puts = refl;
                };
                both = refl;
              },
              refl,
            ),
            quiet may (lines_in k) objects links (take 13 events) (drop 13 events) refl refl,
          ),
        );
        alone = alone;
      };
      reports = nothing_reported (plan_of (codes_in decls) is_run_of.asked) (origins_of (codes_in decls) []) objects links [] events refl (lit≤ tt);
    }

pub text : (k : Codes) → text_of (journal k links) ≡ codes "1 raises NameError: name 'z' is not defined\n"
text k =
    linked_text 1 15 (journal k links) alone
    ∙ (append-nil (result_text objects 1 (answer.Raises (exception 7))) ∙ raise_line decls objects NameError not_defined refl refl is_run_of.are_objects before_second (exception 7) second_raised)

-- ---- what is none

-- what comes of the second raise, where a context was cut before: the context of its exception, and its entry
abbrev second_edits : Option Obj → Obj → List ObjectEdit
second_edits found entry = (cut found ++ (object 7, edit.Link link.Context (Some (object 6))) ∷ []) ++ (object 7, edit.Link link.Traceback (Some entry)) ∷ []

module _ (k : Codes) (changes : List Change) (j : IsJournalOf decls drives [] (journal k changes)) where
  -- of the first raise its entry comes
  first_raise : Raises (lines_in k) objects true (scene_at (λ throws. TracesUnder throws (codes_in decls) j.run.globals objects) (lines_in k) objects changes before_first (state_after start before_first)) 1 1 (exception 6) j.links.come.2.2.2.2.1.0
  first_raise = j.links.come.2.2.2.2.1.1

  first_links : (entry : Obj) × (links_at 5 changes ≡ noted 5 ((object 6, edit.Link link.Traceback (Some entry)) ∷ []))
  unfolding first_raise
  first_links =
      let raise = first_raise in
      (raise.puts.entry, j.links.come.2.2.2.2.1.2 ∙ ap (noted 5) (raise.both ∙ (ap (λ l. l ++ raise.entries) raise.gets ∙ raise.puts.puts)))

  second_links : (found : Option Obj) × (entry : Obj) × (links_at 13 changes ≡ noted 13 (second_edits found entry))
  second_links =
      let (edits, raise, are) = j.links.come.2.2.2.2.2.2.2.2.2.2.2.2.1 in
      let (found, first, is) = raise.gets in
      (found, raise.puts.entry, are ∙ ap (noted 13) (raise.both ∙ (ap (λ l. l ++ raise.entries) is ∙ ap (λ l. (cut found ++ (object 7, edit.Link link.Context (Some (object 6))) ∷ []) ++ l) raise.puts.puts)))

-- one change is not two, nor three
one_change : (c : Change) (found : Option Obj) (entry : Obj) → c ∷ [] ≡ noted 13 (second_edits found entry) → ⊥
one_change c None entry same = cc same
one_change c (Some x) entry same = cc same

pub no_context_left_out : AreNotItsChanges (first_entry ∷ second_entry ∷ [])
no_context_left_out k has j = let (found, entry, same) = second_links k _ j in one_change second_entry found entry same

pub no_context_set_later : AreNotItsChanges (first_entry ∷ second_entry ∷ linked link.Context 14 (object 7) (object 6) ∷ [])
no_context_set_later k has j = let (found, entry, same) = second_links k _ j in one_change second_entry found entry same

pub no_second_entry_left_out : AreNotItsChanges (first_entry ∷ context ∷ [])
no_second_entry_left_out k has j = let (found, entry, same) = second_links k _ j in one_change context found entry same

same_first : (c d : Change) (cs ds : List Change) → c ∷ cs ≡ d ∷ ds → c ≡ d
same_first c d cs ds same = cc same

same_target : (to to' : Obj) → edit.Link link.Context (Some to) ≡ edit.Link link.Context (Some to') → to ≡ to'
same_target to to' same = cc same

other_object : (found : Option Obj) (entry : Obj) → linked link.Context 13 (object 7) (object 8) ∷ second_entry ∷ [] ≡ noted 13 (second_edits found entry) → ⊥
other_object None entry same = differ 8 6 refl (same_target (object 8) (object 6) (ap (λ (c : Change). c.edit) (same_first _ _ _ _ same)))
other_object (Some x) entry same = cc same

pub no_other_exception : AreNotItsChanges (first_entry ∷ linked link.Context 13 (object 7) (object 8) ∷ second_entry ∷ [])
no_other_exception k has j = let (found, entry, same) = second_links k _ j in other_object found entry same

not_cut : (to : Obj) → edit.Link link.Context (Some to) ≡ edit.Link link.Context None → ⊥
not_cut to same = cc same

three_changes : (found : Option Obj) (entry : Obj) → context ∷ second_entry ∷ linked link.Traceback 13 (object 7) (object 12) ∷ [] ≡ noted 13 (second_edits found entry) → ⊥
three_changes None entry same = let clash : 3 ≡ 2 = ap length same in omega (arith, clash)
three_changes (Some x) entry same = not_cut (object 6) (ap (λ (c : Change). c.edit) (same_first _ _ _ _ same))

pub no_entry_too_many : AreNotItsChanges (first_entry ∷ context ∷ second_entry ∷ linked link.Traceback 13 (object 7) (object 12) ∷ [])
no_entry_too_many k has j = let (found, entry, same) = second_links k _ j in three_changes found entry same

not_context : (v w : Option Obj) → edit.Link link.Traceback v ≡ edit.Link link.Context w → ⊥
not_context v w same = cc same

entry_first : (found : Option Obj) (entry : Obj) → second_entry ∷ context ∷ [] ≡ noted 13 (second_edits found entry) → ⊥
entry_first None entry same = not_context _ _ (ap (λ (c : Change). c.edit) (same_first _ _ _ _ same))
entry_first (Some x) entry same = not_context _ _ (ap (λ (c : Change). c.edit) (same_first _ _ _ _ same))

pub no_entry_before_the_context : AreNotItsChanges (first_entry ∷ second_entry ∷ context ∷ [])
no_entry_before_the_context k has j = let (found, entry, same) = second_links k _ j in entry_first found entry same

pub no_context_of_the_first : AreNotItsChanges (linked link.Context 5 (object 6) (object 8) ∷ links)
no_context_of_the_first k has j = let (entry, same) = first_links k _ j in cc same

pub no_first_entry_left_out : AreNotItsChanges (context ∷ second_entry ∷ [])
no_first_entry_left_out k has j = let (entry, same) = first_links k _ j in cc same

pub no_entry_put_later : AreNotItsChanges (linked link.Traceback 6 (object 6) (object 10) ∷ context ∷ second_entry ∷ [])
no_entry_put_later k has j = let (entry, same) = first_links k _ j in cc same

pub no_cause : AreNotItsChanges (first_entry ∷ context ∷ second_entry ∷ linked link.Cause 13 (object 7) (object 6) ∷ [])
no_cause k has j = cc j.links.alone.3.3.3.0

-- an entry of a traceback has one body
same_body : (t u : TracebackBody) → payload.Traceback t ≡ payload.Traceback u → t ≡ u
same_body t u same = cc same

-- the activation is of f, whose code is the first
of_f : (at : ℕ) (x : Activation) (b : FunctionBody) → 1 ≡ suc at → slice_get (record { function = object 0; args = [] } ∷ []) at ≡ Some x → HasPayload objects x.function (payload.Function b) → b.code ≡ 0
of_f zero x b numbered is_made has =
    let same : object 0 ≡ x.function = ap (λ (y : Activation). y.function) (same_Some _ x is_made) in
    let entry : Some (payload.Function (record { name = codes "f"; code = 0 })) ≡ Some (payload.Function b) = subst (λ (v : Obj). HasPayload objects v (payload.Function b)) (sym same) has in
    sym (ap (λ (c : FunctionBody). c.code) (body_of _ b (same_Some _ _ entry)))
  where
    body_of : (b c : FunctionBody) → payload.Function b ≡ payload.Function c → b ≡ c
    body_of b c same = cc same
of_f (suc at) x b numbered is_made has = absurd (omega (arith, numbered))

pub no_other_line : NeedsTheLine
unfolding first_raise
no_other_line k line j =
    let raise = first_raise k links j in
    let frame = raise.puts.is_frame in
    let code : frame.body.code ≡ 0 = of_f frame.at frame.activation frame.body frame.numbered frame.is_made frame.is_function in
    let same : linked link.Traceback 5 (object 6) (object 10) ∷ [] ≡ linked link.Traceback 5 (object 6) raise.puts.entry ∷ [] =
    j.links.come.2.2.2.2.1.2 ∙ ap (noted 5) (raise.both ∙ (ap (λ l. l ++ raise.entries) raise.gets ∙ raise.puts.puts)) in
    let entry : object 10 ≡ raise.puts.entry = same_entry (object 10) raise.puts.entry (ap (λ (c : Change). c.edit) (same_first _ _ _ _ same)) in
    let there : Some (entry_of 3) ≡ Some (payload.Traceback (record { next = _; frame = raise.puts.frame; lasti = 2; lineno = raise.puts.line })) =
    subst (λ (v : Obj). HasPayload objects v (payload.Traceback (record { next = _; frame = raise.puts.frame; lasti = 2; lineno = raise.puts.line }))) (sym entry) raise.puts.has in
    let three : 3 ≡ raise.puts.line = ap (λ (t : TracebackBody). t.lineno) (same_body _ _ (same_Some _ _ there)) in
    let two : 2 ≡ raise.puts.line = same_Some 2 raise.puts.line (sym line ∙ subst (λ c. lines_in k c 1 ≡ Some raise.puts.line) code raise.puts.is_line) in
    omega (arith, three, two)
  where
    same_entry : (to to' : Obj) → edit.Link link.Traceback (Some to) ≡ edit.Link link.Traceback (Some to') → to ≡ to'
    same_entry to to' same = cc same

    entry_of : ℕ → Payload
    entry_of line = entry None 2 line
