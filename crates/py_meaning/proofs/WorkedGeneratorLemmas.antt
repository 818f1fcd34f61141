-- What the definitions say of the journal of a generator.
use Rattle.std.proofs.Common.{◌≡◌, ℕ, zero, suc, List, [], ◌∷◌, ◌++◌, Some, None, refl, sym, ap, subst, inl, inr, lit<, ⊎_elim, ◌∙◌, arith}
use Rattle.std.proofs.lemmas.Fmt.{decimal_digit}
use Rattle.std.specs.Prelude.{pos, codes, decimal, slice_get, map}
use Rattle.py_objects.specs.declared.payload.Payload.TheVariants as payload
use Rattle.py_objects.specs.declared.payload.CoroKind.TheVariants as coro
use Rattle.py_objects.specs.declared.request.Keywords.TheVariants as keywords
use Rattle.py_objects.specs.declared.request.Request.{Request}
use Rattle.py_objects.specs.declared.request.Request.TheVariants.{Call as Calling, Send}
use Rattle.py_objects.specs.declared.event.DriveAnswer.TheVariants as answer
use Rattle.py_objects.specs.declared.event.Event.{Event}
use Rattle.py_objects.specs.declared.event.Event.TheVariants as event
use Rattle.py_objects.specs.Objects.{Obj, HasPayload, AllFit, IsNew}
use Rattle.py_objects.specs.Singletons.{none_object}
use Rattle.py_objects.specs.Own.{Own, Yields as Yielding, own_events, own_from, told_by}
use Rattle.py_tree.specs.Scene.{anywhere}
use Rattle.py_tree.specs.Trace.{IsTrace}
use Rattle.py_lines.specs.declared.drive.DriveLine.TheVariants as drive
use Rattle.py_grammar.specs.Grammar.{Declares, Drives, FunctionDecl, OfBody, codes_in}
use Rattle.py_grammar.specs.Lines.{lines}
use Rattle.py_grammar.specs.Script.{Spells}
use Rattle.py_coro.specs.declared.coro.CoroAnswer.TheVariants as told
use Rattle.py_coro.specs.declared.coro.CoroEnd.TheVariants as left
use Rattle.py_coro.specs.Refusals.{word_of}
use Rattle.py_answers.specs.Answers.{Reply, Creates, Yields, GivesDrive}
use Rattle.py_run.specs.Run.{Signature, Requests, Posed, Plan, open_in}
use Rattle.py_run.specs.Calls.{IsDue, reply_by}
use Rattle.py_run.specs.Coming.{IsOfKind, nothing as at_first, Comes}
use Rattle.py_meaning.specs.Whole.{AreAsked, Traces, IsRunOf, plan_of, signature_of}
use Rattle.py_meaning.specs.Text.{events_text, result_text}
use Rattle.py_meaning.specs.Worked.{object}
use Rattle.py_meaning.specs.WorkedGenerator.{script, function, decls, drives, own_objects, objects, events_by, events, never_entered, entered_by_call, returned_other}
use Rattle.py_meaning.proofs.WorkedObjects.{some_is}
use Rattle.py_meaning.proofs.Journals.{are_globals, are_loaded, are_named, ascii_bytes, begun, decimal_1, differ, fits, is_new, is_of_kind, one_tells, posed_request, reads_of, runs, traced_with}

pub spelled : Spells (lines script) decls drives
spelled =
    let items = Declares (FunctionDecl function) ∷ Drives (drive.Call (codes "g") []) ∷ Drives (drive.Next 1) ∷ [] in
    record { items = items; reads = reads_of items; read = ((refl, tt), ((refl, omega arith), ((refl, tt), ((refl, tt), ((refl, tt), tt))))); spelled = refl; well = ((refl, (refl, tt)), (refl, (refl, tt))); declared = refl; driven = refl }

all_fit : AllFit objects
all_fit = fits function own_objects refl (tt, (tt, (tt, tt)))

-- the questions of the drives
abbrev asked : List Posed
asked = record { pose = Requests (Calling (object 0) [] keywords.None); entered = 0 } ∷ record { pose = Requests (Send (object 4) none_object); entered = 0 } ∷ []

are_asked : AreAsked objects events drives asked
are_asked = (((object 0, [], refl, refl, tt), refl), (((object 4, none_object, refl, (2, answer.Returns (object 4), refl, refl), refl), refl), tt))

-- what the run is of
abbrev plan : Plan
plan = plan_of (codes_in decls) asked

-- the generator is a new object
new : IsNew objects (event.Drive 1 ∷ event.Make 1 (object 0) [] ∷ []) (object 4).number
new = is_new objects (event.Drive 1 ∷ event.Make 1 (object 0) [] ∷ []) (object 4).number _ refl refl (refl, (refl, tt))

comes : Comes plan objects at_first events
comes = (
  (refl, refl, lit< tt),
  (
    (refl, (refl, (_, refl, inr (inl (object 0, [], refl, runs _ _ _ _ _ _ _ refl refl refl))))),
    (
      (refl, refl, inl (Creates _, inl (_, refl, (coro.Generator, is_of_kind _ _ _ _ _ _ refl refl refl, refl)), (new, refl))),
      (
        (refl, refl, lit< tt),
        (
          (refl, (_, refl, inr (inr (inr (inl (object 4, none_object, refl, (coro.Generator, _, record { body = _; entry = refl; kind_is = refl; kept = refl }, payload.None, refl, refl))))))),
          ((refl, refl), ((refl, refl, inl (Yields (object 5), inl (_, refl, (_, refl, told.Value (object 5), refl, refl)), refl)), tt)),
        ),
      ),
    ),
  ),
)

traced : IsTrace (anywhere objects (object 2)) function [] (own_events 1 events)
unfolding own_from told_by
traced = (refl, (_, refl, inr (inr (object 5, refl, inr (1, _, refl, refl, inl (refl, refl))))))

pub is_run : IsRunOf decls drives objects events
is_run =
    record {
      asked = asked;
      are_asked = are_asked;
      globals = object 2;
      are_globals = are_globals function own_objects refl;
      run = record { comes = comes; tells = one_tells (Traces (codes_in decls) (object 2) objects) (object 0) [] events refl (_, refl, (OfBody function, refl, traced)); named = are_named objects events all_fit refl };
      are_objects = are_loaded function own_objects refl (tt, (tt, (tt, tt))) all_fit;
    }

-- the lines of its two results
line_of_call : result_text objects 1 (answer.Returns (object 4)) ≡ codes "1 returns <generator object g at 1>\n"
line_of_call =
    ap (λ (name : List ℕ). decimal 1 ++ ((codes " returns " ++ (codes "<generator object " ++ (name ++ (codes " at " ++ (decimal 1 ++ codes ">"))))) ++ codes "\n")) (ascii_bytes (codes "g") refl)
    ∙ ap (λ (ds : List ℕ). ds ++ ((codes " returns " ++ (codes "<generator object " ++ (codes "g" ++ (codes " at " ++ (ds ++ codes ">"))))) ++ codes "\n")) decimal_1

line_of_next : result_text objects 2 (answer.Yields (object 5)) ≡ codes "2 yields 1\n"
line_of_next =
    ap (λ (ds : List ℕ). ds ++ ((codes " yields " ++ decimal 1) ++ codes "\n")) (decimal_digit 2 (lit< tt))
    ∙ ap (λ (ds : List ℕ). codes "2" ++ ((codes " yields " ++ ds) ++ codes "\n")) decimal_1

pub text : events_text objects [] events ≡ codes "1 returns <generator object g at 1>\n2 yields 1\n"
text =
    ap (λ (line : List ℕ). line ++ (result_text objects 2 (answer.Yields (object 5)) ++ [])) line_of_call
    ∙ ap (λ (line : List ℕ). codes "1 returns <generator object g at 1>\n" ++ (line ++ [])) line_of_next

-- ---- what is none

-- the activations of g can be suspended
suspended : (qs : List Posed) → IsOfKind (plan_of (codes_in decls) qs) objects (object 0) None → ⊥
suspended qs is = go is.body.code is.signed
  where
    go : (i : ℕ) → slice_get (map signature_of (codes_in decls)) i ≡ Some is.signature → ⊥
    go zero signed =
        let own : Some coro.Generator ≡ is.signature.kind = ap (λ (s : Signature). s.kind) (some_is _ _ signed) in
        let clash : Some coro.Generator ≡ None = own ∙ is.kind_is in
        cc clash
    go (suc i) signed = cc signed

pub no_entry_by_the_call : IsRunOf decls drives objects entered_by_call → ⊥
no_entry_by_the_call r = suspended r.asked r.run.comes.1.1.0.1

pub no_other_returned : IsRunOf decls drives objects returned_other → ⊥
no_other_returned r =
    ⊎_elim (λ replied.
    let (reply, result, gives) = replied in
    ⊎_elim (λ answered.
    let (q, asks, (kind, is, creates)) = answered in
    let (is_new, has) = subst (λ (x : Reply). GivesDrive objects (event.Drive 1 ∷ event.Make 1 (object 0) [] ∷ []) x (answer.Returns (object 0))) creates gives in
    cc has) (λ formed. cc formed.0) result) (λ reported. cc reported.0) r.run.comes.1.1.0.2

-- what the second drive asks of a generator is answered by what that yields
yield_due : (es : List Event) (qs : List Posed) (q : Request) (v : Obj) (reply : Reply) → AreAsked objects es drives qs → open_in (slice_get qs 1) [] ≡ Some q → IsDue objects q (left.Yield v) reply → reply ≡ Yields v
yield_due es [] q v reply are asks due = absurd (cc asks)
yield_due es (p ∷ []) q v reply are asks due = absurd (cc asks)
yield_due es (p ∷ p' ∷ qs) q v reply are asks due =
    let (second, requests, (g, none, is, from, value), plain) = posed_request objects es (drive.Next 1) p'.pose refl are.1.0.0 in
    let (body, has, a, finishes, replies) = subst (λ (x : Request). IsDue objects x (left.Yield v) reply) (some_is _ _ (sym asks ∙ requests) ∙ is) due in
    replies ∙ ap (reply_by (word_of body.kind)) finishes

yields_one : (v w : Obj) → Yields v ≡ Yields w → v ≡ w
yields_one v w e = cc

pub no_other_value_yielded : IsRunOf decls drives objects (events_by (object 5) (object 3)) → ⊥
no_other_value_yielded r =
    ⊎_elim (λ replied.
    let (reply, result, gives) = replied in
    ⊎_elim (λ answered.
    let (q, asks, due) = answered in
    let is : reply ≡ Yields (object 5) = yield_due (events_by (object 5) (object 3)) r.asked q (object 5) reply r.are_asked asks due in
    differ 5 3 refl (yields_one (object 5) (object 3) (sym is ∙ gives))) (λ formed. cc formed.0) result) (λ reported. cc reported.0) r.run.comes.1.1.1.1.1.1.0.2

yielded_one : (at at' : ℕ) (v w : Obj) (ts us : List Own) → Yielding at v ∷ ts ≡ Yielding at' w ∷ us → v ≡ w
yielded_one at at' v w ts us e = cc

pub no_other_value_of_the_body : IsRunOf decls drives objects (events_by (object 3) (object 3)) → ⊥
unfolding own_from told_by
no_other_value_of_the_body r =
    let b = begun (anywhere objects r.globals) function [] _ (traced_with function [] objects drives (events_by (object 3) (object 3)) refl refl r) in
    ⊎_elim (λ cut. cc cut.0) (λ run. ⊎_elim (λ cut. cc cut.0) (λ loads. ⊎_elim (λ cut. cc cut.0) (λ tells.
    let same : object 3 ≡ loads.0 = yielded_one _ _ _ _ _ _ tells.3 in
    let clash = subst (λ (v : Obj). HasPayload objects v (payload.Int (pos 1))) (sym same) loads.1 in
    cc clash) loads.2) run) b

pub no_yield_without_an_entry : IsRunOf decls drives objects never_entered → ⊥
no_yield_without_an_entry r = cc r.run.comes.1.1.1.1.0.0
