-- What the definitions say of the journal with a shown value.
use Rattle.std.proofs.Common.{◌≡◌, ℕ, List, [], ◌∷◌, Option, Some, None, ◌<◌, refl, sym, subst, inl, inr, lit<, ⊎_elim, ◌∙◌, append-nil, length, arith}
use Rattle.std.proofs.lemmas.Option.{slice_get_within}
use Rattle.std.specs.Prelude.{pos, codes}
use Rattle.py_objects.specs.declared.refs.PyBaseExceptionRef.{PyBaseExceptionRef}
use Rattle.py_objects.specs.declared.payload.Payload.{Payload}
use Rattle.py_objects.specs.declared.payload.Payload.TheVariants as payload
use Rattle.py_code.specs.declared.operator.BinaryOperator.TheVariants as binary
use Rattle.py_objects.specs.declared.request.Request.{Request}
use Rattle.py_objects.specs.declared.request.Request.TheVariants as request
use Rattle.py_objects.specs.declared.event.ResumeHow.TheVariants.{Start}
use Rattle.py_objects.specs.declared.event.GotAnswer.{GotAnswer}
use Rattle.py_objects.specs.declared.event.GotAnswer.TheVariants as got
use Rattle.py_objects.specs.declared.event.Ending.TheVariants as ending
use Rattle.py_objects.specs.declared.event.DriveAnswer.TheVariants as answer
use Rattle.py_objects.specs.declared.event.Event.{Event}
use Rattle.py_objects.specs.declared.event.Event.TheVariants as event
use Rattle.py_objects.specs.Objects.{Obj, HasPayload, event_numbers, AllBelow, AllFit, AreNamed}
use Rattle.py_objects.specs.Singletons.{none_object}
use Rattle.py_objects.specs.Own.{Own, Makes, Resumes, Asks, Gets, Ends, own_events, own_from, told_by}
use Rattle.py_objects.specs.Telling.{AfterValue, Answers}
use Rattle.py_tree.specs.declared.expr.Atom.TheVariants as atom
use Rattle.py_tree.specs.Tree.{Leaf, Show, nothing, first}
use Rattle.py_tree.specs.Binding.{Env, start_env, set_local}
use Rattle.py_tree.specs.Outcome.{Normal, Use, On_normal, RunsSuite}
use Rattle.py_tree.specs.Scene.{Scene, anywhere}
use Rattle.py_tree.specs.Trace.{IsTrace, EndsBy}
use Rattle.py_grammar.specs.Grammar.{Declares, Drives, FunctionDecl, OfBody, codes_in}
use Rattle.py_grammar.specs.Lines.{lines}
use Rattle.py_grammar.specs.Script.{Spells}
use Rattle.py_answers.specs.Answers.{Reply, Has, Is, GivesBody}
use Rattle.py_run.specs.Run.{Plan, Asking}
use Rattle.py_run.specs.Coming.{Past, setting, IsReply, nothing as at_first, Comes}
use Rattle.py_run.specs.Past.{past_behind}
use Rattle.py_meaning.specs.Whole.{Traces, IsRunOf, plan_of}
use Rattle.py_meaning.specs.Text.{events_text, result_text}
use Rattle.py_meaning.specs.Worked.{object, exception, entered, asked, greatest, overflow_by}
use Rattle.py_meaning.specs.WorkedShow.{script, function, decls, drive, drives, objects, summed, shows, answered, ended, events_by, events, without_show, shown_twice, overflowing, overflow_objects, shown_behind_raise}
use Rattle.py_meaning.proofs.WorkedObjects.{each_at, some_is}
use Rattle.py_meaning.proofs.Journals.{IsPlain, RaiseIsTraced, asked_so, asking_comes, begun, call_runs, decimal_1, decimal_45, differ, fits, gives_sum, one_tells, plan_with, reads_of, replied, runs, sum_comes, traced, overflow_is_run as overflow_run}
use Rattle.py_meaning.proofs.OneText.{overflow_line}

pub spelled : Spells (lines script) decls drives
spelled =
    let items = Declares (FunctionDecl function) ∷ Drives drive ∷ [] in
    record { items = items; reads = reads_of items; read = ((refl, tt), ((refl, omega arith), ((refl, omega arith), ((refl, tt), ((refl, tt), tt))))); spelled = refl; well = ((refl, (refl, (refl, tt))), (refl, tt)); declared = refl; driven = refl }

all_fit : AllFit objects
all_fit = fits function (payload.Int (pos 33) ∷ payload.Int (pos 12) ∷ payload.Frame 0 ∷ payload.Int (pos 45) ∷ payload.None ∷ []) refl (tt, (tt, (tt, (tt, (tt, tt)))))

-- an object that is None
abbrev IsNone : Obj → Type 0
IsNone v = HasPayload objects v payload.None

-- what the run is of
abbrev plan : Plan
plan = plan_with function []

comes : (a r : Obj) → IsNone a → IsNone r → Comes plan objects at_first (events_by (object 6) a r)
comes a r n m =
    let asking : Past = past_behind plan at_first (entered 1 (asked 1 (object 3) (object 4) [])) in
    let more = payload.Int (pos 45) ∷ payload.None ∷ [] in
    asking_comes function [] (pos 33) (pos 12) more (event.Got 1 (got.Value (object 6)) ∷ shows (object 6) (answered a (ended r))) (lit< tt) (runs _ _ _ _ _ _ _ refl refl refl) refl (
      sum_comes function plan (pos 33) (pos 12) more asking 1 (got.Value (object 6)) refl refl refl refl,
      ((refl, refl), ((refl, (Has payload.None, (request.Show (object 6), refl, inl (Has payload.None, refl, refl)), n)), ((refl, refl), ((refl, refl, inl (Is r, inl (_, refl, (refl, refl)), refl)), tt)))),
    )

shown_traced : (a r : Obj) → IsNone r → IsTrace (anywhere objects (object 2)) function (object 3 ∷ object 4 ∷ []) (own_events 1 (events_by (object 6) a r))
unfolding own_from told_by
shown_traced a r m = (refl, (_, refl, inr (inr (2, _, refl, refl, inr (4, got.Value (object 6), _, refl, inr (inr (5, _, refl, refl, inr (6, got.Value a, _, refl, inr (inr (r, m, inr (6, refl)))))))))))

named : (a r : Obj) → IsNone a → IsNone r → AreNamed objects (events_by (object 6) a r)
named a r n m =
    let below : a.number < length objects = slice_get_within objects a.number payload.None n in
    let returned : r.number < length objects = slice_get_within objects r.number payload.None m in
    record {
      in_events =
          each_at (λ (e : Event). AllBelow (length objects) (event_numbers e)) (events_by (object 6) a r)
          (tt, ((lit< tt, (lit< tt, (lit< tt, tt))), (tt, ((lit< tt, (lit< tt, tt)), ((lit< tt, tt), ((lit< tt, tt), ((below, tt), ((returned, tt), ((returned, tt), tt)))))))));
      in_payloads = λ i p e. (all_fit i p e).0;
    }

-- any None answers the show, and any None is returned
pub any_none : (a r : Obj) → IsNone a → IsNone r → IsRunOf decls drives objects (events_by (object 6) a r)
any_none a r n m =
    call_runs function (pos 33) (pos 12) (payload.Int (pos 45) ∷ payload.None ∷ []) (events_by (object 6) a r) refl (tt, (tt, tt)) all_fit (comes a r n m)
    (one_tells (Traces (codes_in decls) (object 2) objects) (object 0) (object 3 ∷ object 4 ∷ []) (events_by (object 6) a r) refl (_, refl, (OfBody function, refl, shown_traced a r m))) (named a r n m)

pub text : events_text objects [] events ≡ codes "45\n1 returns None\n"
text = simp (decimal_45, decimal_1)

-- the locals where the sum is this
abbrev locals : Obj → Env
locals v = set_local (codes "x") (Some v) (start_env function (object 3 ∷ object 4 ∷ []))

-- what follows the sum, and what follows what is shown, behind the event k
abbrev Shows : Scene → Env → ℕ → List Own → Type 0
Shows scene env k ts = RunsSuite scene (first 3 (Show (Leaf (atom.Name (codes "x")))) nothing) env None k ts (EndsBy scene)

abbrev Finishes : Scene → Env → ℕ → List Own → Type 0
Finishes scene env k ts = RunsSuite scene nothing env None k ts (EndsBy scene)

-- what follows the answer to the sum
abbrev AfterSum : Scene → AfterValue
AfterSum scene = Use (start_env function (object 3 ∷ object 4 ∷ [])) (On_normal (EndsBy scene) (Shows scene)) (λ v. On_normal (EndsBy scene) (Shows scene) (locals v) Normal)

behind_sum : (scene : Scene) (w : GotAnswer) (ts : List Own) → IsTrace scene function (object 3 ∷ object 4 ∷ []) (Makes ∷ Resumes 2 Start ∷ Asks 2 (request.Binary binary.Add (object 3) (object 4)) None ∷ Gets 4 w ∷ ts) → Answers w 4 ts (AfterSum scene)
behind_sum scene w ts h =
    let b = begun scene function (object 3 ∷ object 4 ∷ []) _ h in
    ⊎_elim (λ cut. cc cut.0) (λ more. asked_so _ (request.Binary binary.Add (object 3) (object 4)) (request.Binary binary.Add (object 3) (object 4)) 2 2 4 w ts (AfterSum scene) more) b

-- the sum is shown first
first_shown : (scene : Scene) (v : Obj) (k : ℕ) (o : Own) (ts : List Own) → Shows scene (locals v) k (o ∷ ts) → (at : ℕ) × (o ≡ Asks at (request.Show v) None)
first_shown scene v k o ts h = ⊎_elim (λ cut. cc cut.0) (λ more. ⊎_elim (λ cut. cc cut.0) (λ asks. (asks.0, cc asks.3)) more) h

behind_show : (scene : Scene) (v q u : Obj) (k i : ℕ) (ts : List Own) → Shows scene (locals v) k (Asks 5 (request.Show q) None ∷ Gets i (got.Value u) ∷ ts) → Finishes scene (locals v) i ts
behind_show scene v q u k i ts h =
    ⊎_elim (λ cut. cc cut.0) (λ more. asked_so _ (request.Show v) (request.Show q) 5 k i (got.Value u) ts _ more) h

-- at its end the body returns None
last_told : (g v : Obj) (k : ℕ) (o : Own) (ts : List Own) → Finishes (anywhere objects g) (locals v) k (o ∷ ts) → (at : ℕ) × (r : Obj) × IsNone r × (o ≡ Ends at (ending.Return r))
last_told g v k o ts h = ⊎_elim (λ cut. cc cut.0) (λ more. ⊎_elim (λ cut. cc cut) (λ end. ⊎_elim (λ cut. cc cut) (λ told. (told.0, end.0, end.1, cc told.1)) end.2) more) h

shown_one : (at at' : ℕ) (v w : Obj) (own own' : Option PyBaseExceptionRef) → Asks at (request.Show v) own ≡ Asks at' (request.Show w) own' → v ≡ w
shown_one at at' v w own own' e = cc

pub no_show_dropped : IsRunOf decls drives objects without_show → ⊥
unfolding own_from told_by
no_show_dropped r =
    let e = first_shown (anywhere objects r.globals) (object 6) 4 _ _ (behind_sum (anywhere objects r.globals) (got.Value (object 6)) _ (traced function objects drives without_show refl refl r)) in
    cc e.1

pub no_other_value : IsRunOf decls drives objects (events_by (object 3) none_object (object 7)) → ⊥
unfolding own_from told_by
no_other_value r =
    let e = first_shown (anywhere objects r.globals) (object 6) 4 _ _ (behind_sum (anywhere objects r.globals) (got.Value (object 6)) _ (traced function objects drives (events_by (object 3) none_object (object 7)) refl refl r)) in
    differ 3 6 refl (shown_one 5 e.0 (object 3) (object 6) None None e.1)

pub no_show_twice : IsRunOf decls drives objects shown_twice → ⊥
unfolding own_from told_by
no_show_twice r =
    let e = last_told r.globals (object 6) 6 _ _ (behind_show (anywhere objects r.globals) (object 6) (object 6) none_object 4 6 _ (behind_sum (anywhere objects r.globals) (got.Value (object 6)) _ (traced function objects drives shown_twice refl refl r))) in
    cc e.3

-- what is shown is no call, and asks for nothing of a generator
show_plain : (v : Obj) → IsPlain (request.Show v)
show_plain v = record { no_call = λ f vs e. cc; not_handled = λ e. cc; no_send = λ g w e. cc; no_throw = λ g k w e. cc; no_close = λ g e. cc; no_enter = λ m e. cc; no_exit = λ x k w t e. cc }

-- what is shown is answered by None
pub gives_none : (plan : Plan) (store : List Payload) (p : Past) (v : Obj) (w : GotAnswer)
    → ((reply : Reply) × ((r : Request) × (Some (request.Show v) ≡ Some r) × IsReply plan store p Asking r reply) × GivesBody store p.events reply w) → GivesBody store p.events (Has payload.None) w
gives_none plan store p v w (reply, (r, asks, replies), gives) =
    let says = subst (λ (x : Request). IsReply plan store p Asking x reply) (sym (some_is _ _ asks)) replies in
    subst (λ (x : Reply). GivesBody store p.events x w) (replied (setting plan p) store (request.Show v) reply (show_plain v) says) gives

pub no_other_answer : IsRunOf decls drives objects (events_by (object 6) (object 6) (object 7)) → ⊥
no_other_answer r =
    let e = gives_none (plan_of (codes_in decls) r.asked) objects (past_behind (plan_of (codes_in decls) r.asked) at_first (summed (shows (object 6) []))) (object 6) (got.Value (object 6)) r.run.comes.1.1.1.1.1.1.0.1 in
    cc

returned_one : (at at' : ℕ) (v w : Obj) → Ends at (ending.Return v) ≡ Ends at' (ending.Return w) → v ≡ w
returned_one at at' v w e = cc

pub no_other_end : IsRunOf decls drives objects (events_by (object 6) none_object (object 6)) → ⊥
unfolding own_from told_by
no_other_end r =
    let e = last_told r.globals (object 6) 6 _ _ (behind_show (anywhere objects r.globals) (object 6) (object 6) none_object 4 6 _ (behind_sum (anywhere objects r.globals) (got.Value (object 6)) _ (traced function objects drives (events_by (object 6) none_object (object 6)) refl refl r))) in
    let none = subst IsNone (sym (returned_one 6 e.0 (object 6) e.1 e.3)) e.2 in
    cc

raise_traced : RaiseIsTraced function [] 2 4 (exception 8)
raise_traced = (refl, (_, refl, inr (inr (2, _, refl, refl, inr (4, got.Raise (exception 8), _, refl, inr (2, refl))))))

pub raise_ends : IsRunOf decls (overflowing ∷ []) overflow_objects (overflow_by (exception 8))
raise_ends = overflow_run function refl (runs _ _ _ _ _ _ _ refl refl refl) refl raise_traced

pub raise_text : events_text overflow_objects [] (overflow_by (exception 8)) ≡ codes "1 raises OverflowError: integer out of range\n"
raise_text =
    let asking : Past = past_behind (plan_of (codes_in decls) raise_ends.asked) at_first (entered 1 (asked 1 (object 3) (object 4) [])) in
    append-nil (result_text overflow_objects 1 (answer.Raises (exception 8)))
    ∙ overflow_line decls overflow_objects raise_ends.are_objects asking.events (exception 8)
    (gives_sum (plan_of (codes_in decls) raise_ends.asked) overflow_objects asking (object 3) (object 4) greatest (pos 1) (got.Raise (exception 8)) refl refl raise_ends.run.comes.1.1.1.1.0.1)

pub no_show_behind_a_raise : IsRunOf decls (overflowing ∷ []) overflow_objects shown_behind_raise → ⊥
unfolding own_from told_by
no_show_behind_a_raise r =
    ⊎_elim (λ cut. cc cut) (λ end. cc end.1) (behind_sum (anywhere overflow_objects r.globals) (got.Raise (exception 8)) _ (traced function overflow_objects (overflowing ∷ []) shown_behind_raise refl refl r))
