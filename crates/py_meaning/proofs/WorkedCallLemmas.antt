-- What the definitions say of the journal of functions that call.
use Rattle.std.proofs.Common.{◌≡◌, ℕ, zero, suc, Option, List, [], ◌∷◌, ◌++◌, length, drop, Some, None, false, refl, sym, ap, subst, inl, inr, lit<, ⊎_elim, ◌∙◌, arith}
use Rattle.std.proofs.lemmas.Fmt.{decimal_digit}
use Rattle.std.specs.List.{AllZip}
use Rattle.std.proofs.lemmas.Bool.{le-ltb}
use Rattle.std.specs.Prelude.{sum_by, pos, codes, decimal, slice_get, nat_lt, if◌then◌else◌}
use Rattle.py_objects.specs.declared.payload.Payload.{Payload}
use Rattle.py_objects.specs.declared.payload.CoroKind.{CoroKind}
use Rattle.py_objects.specs.declared.error_kind.ErrorKind.TheVariants.{RecursionError, TypeError}
use Rattle.py_objects.specs.declared.request.Keywords.TheVariants as keywords
use Rattle.py_objects.specs.declared.request.Request.{Request}
use Rattle.py_objects.specs.declared.request.Request.TheVariants.{Call as Calling, Global}
use Rattle.py_objects.specs.declared.event.ResumeHow.TheVariants.{Start}
use Rattle.py_objects.specs.declared.event.GotAnswer.TheVariants as got
use Rattle.py_objects.specs.declared.event.Ending.TheVariants as ending
use Rattle.py_objects.specs.declared.event.DriveAnswer.{DriveAnswer}
use Rattle.py_objects.specs.declared.event.DriveAnswer.TheVariants as answer
use Rattle.py_objects.specs.declared.event.Event.{Event}
use Rattle.py_objects.specs.declared.event.Event.TheVariants as event
use Rattle.py_objects.specs.ErrorKinds.{name_of}
use Rattle.py_objects.specs.Objects.{Obj, Name, AllFit}
use Rattle.py_objects.specs.Own.{Makes, Resumes, Ends, own_events, own_from, told_by}
use Rattle.py_tree.specs.Scene.{anywhere}
use Rattle.py_tree.specs.Trace.{IsTrace}
use Rattle.py_grammar.specs.Grammar.{Declares, Drives, FunctionDecl, OfBody, codes_in}
use Rattle.py_lines.specs.declared.drive.DriveAtom.TheVariants as argument
use Rattle.py_lines.specs.declared.drive.DriveLine.{DriveLine}
use Rattle.py_lines.specs.declared.drive.DriveLine.TheVariants as drive
use Rattle.py_grammar.specs.Lines.{lines}
use Rattle.py_grammar.specs.Script.{Spells}
use Rattle.py_answers.specs.Answers.{Reply, Fails, Is, GivesDrive, IsRaised}
use Rattle.py_coro.specs.declared.coro.CoroEnd.TheVariants as how
use Rattle.py_run.specs.Run.{Signature, Requests, Posed, Plan, Activation, open_in, depth}
use Rattle.py_run.specs.Calls.{Says, Enters, Setting, too_many, missing_if, refusal, entry_at, made_at, bound_by, CallsFunction, ComesTo, IsDue}
use Rattle.py_run.specs.Coming.{Past, nothing, setting, Comes, EachTells}
use Rattle.py_run.specs.Past.{past_behind}
use Rattle.std.proofs.lemmas.List.Sorted.{IsPermutation-refl, IsPermutation-reverse, sum_by-IsPermutation}
use Rattle.py_meaning.specs.Whole.{AreAsked, Binds, AreGlobals, AreObjects, AsksThis, IsLeft, Traces, IsRunOf, plan_of, signature_of}
use Rattle.py_meaning.specs.Text.{events_text, numbered, result_text}
use Rattle.py_run.specs.First.{first_objects}
use Rattle.py_meaning.specs.Worked.{object, exception, function_entry}
use Rattle.py_meaning.specs.WorkedCall.{values, refusal_text, refusal_objects, objects_by, pair_of_g, pair_of_f, script, callee, caller, decls, drives, objects, asking, left, returned, again, events, made_twice, numbered_on, swapped, refused_made, IsFull}
use Rattle.py_run.proofs.BoundLemmas.{enters_call, IsMaking}
use Rattle.py_meaning.proofs.Behind.{none_declared}
use Rattle.py_meaning.proofs.Entries.{one_declared}
use Rattle.py_meaning.proofs.WorkedObjects.{each_at, objects_behind, some_is}
use Rattle.py_meaning.proofs.Journals.{all_fit, are_named, asked_for, course_is, decimal_1, differ, due_leaves, is_of_kind, is_raised, made_exception, posed_request, reads_of, runs}
use Rattle.py_meaning.proofs.OneText.{raise_line_of, returned_so}

-- call g $1 9
abbrev second_drive : DriveLine
second_drive = drive.Call (codes "g") (argument.Drive 1 ∷ argument.Int (pos 9) ∷ [])

pub spelled : Spells (lines script) decls drives
spelled =
    let items = Declares (FunctionDecl callee) ∷ Declares (FunctionDecl caller) ∷ Drives (drive.Call (codes "f") []) ∷ Drives second_drive ∷ Drives (drive.Call (codes "f") (argument.Drive 1 ∷ [])) ∷ [] in
    record {
      items = items;
      reads = reads_of items;
      read = ((refl, tt), ((refl, omega arith), ((refl, tt), ((refl, tt), ((refl, omega arith), ((refl, omega arith), ((refl, tt), ((refl, tt), ((refl, tt), ((refl, tt), tt))))))))));
      spelled = refl;
      well = ((refl, (refl, tt)), ((refl, (refl, (refl, tt))), (refl, (refl, (refl, tt)))));
      declared = refl;
      driven = refl;
    }

-- ---- the objects

-- a pair for each name, in order
abbrev in_order : List (Obj × Obj)
in_order = pair_of_g ∷ pair_of_f ∷ []

-- the objects behind the first ones
abbrev own : List Payload
own = function_entry (codes "g") 0 ∷ function_entry (codes "f") 1 ∷ values in_order refusal_objects

fits : AllFit objects
fits = all_fit own refl (tt, (tt, (tt, (tt, (tt, (tt, (tt, (tt, (tt, (tt, (tt, (tt, (tt, (made_exception own TypeError (object 12) (object 11 ∷ []) refl, tt))))))))))))))

-- the objects behind those of g, and behind those of both
abbrev first_part : List Payload
first_part = first_objects ++ function_entry (codes "g") 0 ∷ []

abbrev both_parts : List Payload
both_parts = first_part ++ function_entry (codes "f") 1 ∷ []

g_there : AreObjects (FunctionDecl callee ∷ []) first_part
g_there = one_declared [] first_objects (FunctionDecl callee) (function_entry (codes "g") 0) none_declared refl tt refl

both_there : AreObjects decls both_parts
both_there = one_declared (FunctionDecl callee ∷ []) first_part (FunctionDecl caller) (function_entry (codes "f") 1) g_there refl tt refl

are_objects : AreObjects decls objects
are_objects = objects_behind decls both_parts (values in_order refusal_objects) objects refl both_there (tt, (tt, (tt, (tt, (tt, (tt, (tt, (tt, (tt, (tt, (tt, (tt, tt)))))))))))) fits

are_globals : AreGlobals decls objects (object 4)
are_globals = record { pairs = in_order; dict = refl; bindings = in_order; bind = ((refl, refl), ((refl, refl), tt)); same = IsPermutation-refl in_order }

-- so are they the other way round
pub any_order : AreGlobals decls (objects_by (pair_of_f ∷ pair_of_g ∷ [])) (object 4)
any_order = record { pairs = pair_of_f ∷ pair_of_g ∷ []; dict = refl; bindings = in_order; bind = ((refl, refl), ((refl, refl), tt)); same = IsPermutation-reverse in_order }

two_bound : (store : List Payload) (ps : List (Obj × Obj)) → AllZip (Binds store) decls ps → sum_by (λ p. 1) ps ≡ 2
two_bound store [] bind = absurd bind
two_bound store (p ∷ []) bind = absurd bind.1
two_bound store (p ∷ q ∷ []) bind = refl
two_bound store (p ∷ q ∷ r ∷ ps) bind = absurd bind.1.1

pub no_name_unbound : AreGlobals decls (objects_by (pair_of_g ∷ [])) (object 4) → ⊥
no_name_unbound are =
    let pairs : pair_of_g ∷ [] ≡ are.pairs = let dict = are.dict in cc in
    let same = sum_by-IsPermutation (λ p. 1) are.bindings are.pairs are.same in
    let one : sum_by (λ p. 1) are.pairs ≡ 1 = ap (λ (ps : List (Obj × Obj)). sum_by (λ p. 1) ps) (sym pairs) in
    let two = two_bound (objects_by (pair_of_g ∷ [])) are.bindings are.bind in
    let clash : 1 ≡ 2 = sym one ∙ (same ∙ two) in
    cc

-- ---- the run

-- a drive that calls this
abbrev called : Obj → List Obj → Posed
called f vs = record { pose = Requests (Calling f vs keywords.None); entered = 0 }

-- the questions of the drives
abbrev asked : List Posed
asked = called (object 1) [] ∷ called (object 0) (object 6 ∷ object 9 ∷ []) ∷ called (object 1) (object 6 ∷ []) ∷ []

are_asked : AreAsked objects events drives asked
are_asked = (
  ((object 1, [], refl, refl, tt), refl),
  (
    ((object 0, object 6 ∷ object 9 ∷ [], refl, refl, ((11, answer.Returns (object 6), refl, refl), (refl, tt))), refl),
    (((object 1, object 6 ∷ [], refl, refl, ((11, answer.Returns (object 6), refl, refl), tt)), refl), tt),
  ),
)

-- up to the refusal
abbrev refusing : List Event
refusing = again (object 6) (event.Drive 3 ∷ [])

-- the text of the refusal
text_is : too_many (codes "f") 0 1 ≡ refusal_text
text_is =
    ap (λ (ds : List ℕ). codes "f" ++ (codes "() takes " ++ (ds ++ (codes " positional arguments but " ++ (decimal 1 ++ codes " were given"))))) (decimal_digit 0 (lit< tt))
    ∙ ap (λ (ds : List ℕ). codes "f" ++ (codes "() takes " ++ (codes "0" ++ (codes " positional arguments but " ++ (ds ++ codes " were given"))))) decimal_1

refused : IsRaised objects refusing TypeError refusal_text (exception 13)
refused =
    is_raised own refusing TypeError refusal_text (object 11) (object 12) (exception 13) refl refl refl
    (refl, (refl, (refl, (refl, (refl, (refl, (refl, (refl, (refl, (refl, (refl, (refl, (refl, (refl, (refl, (refl, (refl, (refl, tt))))))))))))))))))

-- what the run is of
abbrev plan : Plan
plan = plan_of (codes_in decls) asked

-- the third drive and the second one, each with what follows
abbrev third : List Event
third = event.Drive 3 ∷ event.Result 3 (answer.Raises (exception 13)) ∷ []

abbrev second : List Event
second = event.Drive 2 ∷ event.Make 3 (object 0) (object 6 ∷ object 9 ∷ []) ∷ event.Resume 3 Start ∷ event.End 3 (ending.Return (object 6)) 1 ∷ event.Result 2 (answer.Returns (object 6)) ∷ third

third_comes : Comes plan objects (past_behind plan nothing (again (object 6) [])) third
third_comes = (
  (refl, refl, lit< tt),
  (
    (
      refl,
      refl,
      inl (
        Fails TypeError (too_many (codes "f") 0 1),
        inl (_, refl, inr (inl (object 1, object 6 ∷ [], refl, runs _ _ _ _ _ _ _ refl refl refl))),
        subst (λ (text : Name). IsRaised objects refusing TypeError text (exception 13)) (sym text_is) refused,
      ),
    ),
    tt,
  ),
)

second_comes : Comes plan objects (past_behind plan nothing (returned (object 6) [])) second
second_comes = (
  (refl, refl, lit< tt),
  (
    (refl, (refl, (_, refl, inr (inl (object 0, object 6 ∷ object 9 ∷ [], refl, runs _ _ _ _ _ _ _ refl refl refl))))),
    ((refl, is_of_kind _ _ _ _ _ _ refl refl refl), ((refl, refl), ((refl, refl, inl (Is (object 6), inl (_, refl, (refl, refl)), refl)), third_comes))),
  ),
)

comes : Comes plan objects nothing events
comes = (
  (refl, refl, lit< tt),
  (
    (refl, (refl, (_, refl, inr (inl (object 1, [], refl, runs _ _ _ _ _ _ _ refl refl refl))))),
    (
      (refl, is_of_kind _ _ _ _ _ _ refl refl refl),
      (
        (refl, refl),
        (
          (refl, (Is (object 0), (Global (object 4) (codes "g"), refl, inl (Is (object 0), refl, refl)), refl)),
          (
            (refl, refl),
            (
              (refl, (refl, (_, refl, inr (inl (object 0, object 6 ∷ object 7 ∷ [], refl, runs _ _ _ _ _ _ _ refl refl refl))))),
              (
                (refl, is_of_kind _ _ _ _ _ _ refl refl refl),
                ((refl, refl), ((refl, (Is (object 6), (_, refl, (refl, refl)), refl)), ((refl, refl), ((refl, refl, inl (Is (object 6), inl (_, refl, (refl, refl)), refl)), second_comes)))),
              ),
            ),
          ),
        ),
      ),
    ),
  ),
)

caller_traced : IsTrace (anywhere objects (object 4)) caller [] (own_events 1 events)
unfolding own_from told_by
caller_traced = (
  refl,
  (
    _,
    refl,
    inr
        (inr (0, _, refl, refl, inr (4, got.Value (object 0), _, refl, inr (object 6, refl, inr (object 7, refl, inr (_, refl, inr (3, _, refl, refl, inr (9, got.Value (object 6), _, refl, inr (inr (6, refl)))))))))),
  ),
)

-- an activation of the callee, which is entered by the event k, returns its first argument
callee_traced : (k : ℕ) (w : Obj) → IsTrace (anywhere objects (object 4)) callee (object 6 ∷ w ∷ []) (Makes ∷ Resumes k Start ∷ Ends 1 (ending.Return (object 6)) ∷ [])
callee_traced k w = (refl, (_, refl, inr (inr (1, refl))))

abbrev Tells : ℕ → Activation → Type 0
Tells i a = Traces (codes_in decls) (object 4) objects a.function a.args (own_events (suc i) events)

tells : EachTells (Traces (codes_in decls) (object 4) objects) events
unfolding own_from told_by
tells zero a e = subst (Tells 0) (some_is _ a e) (_, refl, (OfBody caller, refl, caller_traced))
tells (suc zero) a e = subst (Tells 1) (some_is _ a e) (_, refl, (OfBody callee, refl, callee_traced 7 (object 7)))
tells (suc (suc zero)) a e = subst (Tells 2) (some_is _ a e) (_, refl, (OfBody callee, refl, callee_traced 14 (object 9)))
tells (suc (suc (suc i))) a e = absurd cc

pub is_run : IsRunOf decls drives objects events
is_run =
    record { asked = asked; are_asked = are_asked; globals = object 4; are_globals = are_globals; run = record { comes = comes; tells = tells; named = are_named objects events fits refl }; are_objects = are_objects }

-- the line of a drive that returns 7
line_of : (d : ℕ) (digits : List ℕ) → decimal d ≡ digits → numbered d (codes " returns " ++ decimal 7) ≡ digits ++ (codes " returns 7" ++ codes "\n")
line_of d digits e =
    ap (λ (ds : List ℕ). ds ++ ((codes " returns " ++ decimal 7) ++ codes "\n")) e
    ∙ ap (λ (ds : List ℕ). digits ++ ((codes " returns " ++ ds) ++ codes "\n")) (decimal_digit 7 (lit< tt))

third_line : result_text objects 3 (answer.Raises (exception 13)) ≡ codes "3 raises TypeError: f() takes 0 positional arguments but 1 were given\n"
third_line =
    raise_line_of 3 decls objects TypeError refusal_text refl refl are_objects refusing (exception 13) refused
    ∙ ap (λ (ds : List ℕ). ds ++ ((codes " raises " ++ (name_of TypeError ++ (codes ": " ++ refusal_text))) ++ codes "\n")) (decimal_digit 3 (lit< tt))

pub text : events_text objects [] events ≡ codes "1 returns 7\n2 returns 7\n3 raises TypeError: f() takes 0 positional arguments but 1 were given\n"
text =
    ap (λ (line : List ℕ). line ++ (result_text objects 2 (answer.Returns (object 6)) ++ (result_text objects 3 (answer.Raises (exception 13)) ++ []))) (line_of 1 (codes "1") decimal_1)
    ∙ (ap (λ (line : List ℕ). codes "1 returns 7\n" ++ (line ++ (result_text objects 3 (answer.Raises (exception 13)) ++ []))) (line_of 2 (codes "2") (decimal_digit 2 (lit< tt)))
    ∙ ap (λ (line : List ℕ). codes "1 returns 7\n2 returns 7\n" ++ (line ++ [])) third_line)

-- ---- what is none

-- the first drive leaves what it returned
first_left : (i : ℕ) (w : DriveAnswer) → slice_get (again (object 0) []) i ≡ Some (event.Result 1 w) → w ≡ answer.Returns (object 6)
first_left i w h =
    each_at (λ (e : Event). (w : DriveAnswer) → e ≡ event.Result 1 w → w ≡ answer.Returns (object 6)) (again (object 0) [])
    (λ w h. cc, (λ w h. cc, (λ w h. cc, (λ w h. cc, (λ w h. cc, (λ w h. cc, (λ w h. cc, (λ w h. cc, (λ w h. cc, (λ w h. cc, (λ w h. cc, (λ w h. cc, (λ w h. cc, (λ w h. cc, (λ w h. cc, (λ w h. cc, (λ w h. cc, tt)))))))))))))))))
    i (event.Result 1 w) h w refl

-- so the second one doesn't ask this
not_asked : (qs : List Posed) (r : Request) → AreAsked objects (again (object 0) []) drives qs → open_in (slice_get qs 1) [] ≡ Some r → IsMaking objects r (object 0) (object 0 ∷ object 9 ∷ []) → ⊥
not_asked [] r h e making = absurd cc
not_asked (p ∷ []) r h e making = absurd cc
not_asked (p ∷ q ∷ qs) r h e making =
    let (first, requests, posed, none) = posed_request objects (again (object 0) []) second_drive q.pose refl h.1.0.0 in
    let asks = subst (AsksThis objects (again (object 0) []) second_drive) (some_is _ _ (sym requests ∙ e)) posed in
    let call = subst (λ (x : Request). IsMaking objects x (object 0) (object 0 ∷ object 9 ∷ [])) asks.2 making in
    let (is, args) =
    asked_for objects (again (object 0) []) (codes "g") (argument.Drive 1 ∷ argument.Int (pos 9) ∷ []) (object 0) (object 0 ∷ object 9 ∷ [])
    (subst (AsksThis objects (again (object 0) []) second_drive) (asks.2 ∙ call) asks) in
    let (i, w, here, leaves) = args.0 in
    differ 0 6 refl (subst (λ (w : DriveAnswer). IsLeft objects w (object 0)) (first_left i w here) leaves)

pub no_other_object : IsRunOf decls drives objects (again (object 0) []) → ⊥
no_other_object r =
    let at : Setting = setting (plan_of (codes_in decls) r.asked) (past_behind (plan_of (codes_in decls) r.asked) nothing (returned (object 6) (event.Drive 2 ∷ []))) in
    let opened = r.run.comes.1.1.1.1.1.1.1.1.1.1.1.1.1.0.1.1 in
    not_asked r.asked opened.0 r.are_asked opened.1 (enters_call at objects opened.0 (object 0) (object 0 ∷ object 9 ∷ []) opened.2).0

pub no_callee_made_twice : IsRunOf decls drives objects made_twice → ⊥
no_callee_made_twice r = cc r.run.comes.1.1.1.1.1.1.1.0.1.0

pub no_other_number : IsRunOf decls drives objects numbered_on → ⊥
no_other_number r = let number : 3 ≡ 2 = r.run.comes.1.1.1.1.1.1.0.0 in omega (arith, number)

first_argument : (f a b c d : Obj) → Calling f (a ∷ b ∷ []) keywords.None ≡ Calling f (c ∷ d ∷ []) keywords.None → a ≡ c
first_argument f a b c d e = cc

pub no_swapped_arguments : IsRunOf decls drives objects swapped → ⊥
no_swapped_arguments r =
    let at : Setting = setting (plan_of (codes_in decls) r.asked) (past_behind (plan_of (codes_in decls) r.asked) nothing (asking [])) in
    let opened = r.run.comes.1.1.1.1.1.1.0.1.1 in
    let asked : Calling (object 0) (object 6 ∷ object 7 ∷ []) keywords.None ≡ opened.0 = some_is _ _ opened.1 in
    let asks = subst (λ (x : Request). IsMaking objects x (object 0) (object 7 ∷ object 6 ∷ [])) (sym asked) (enters_call at objects opened.0 (object 0) (object 7 ∷ object 6 ∷ []) opened.2).0 in
    differ 6 7 refl (first_argument (object 0) (object 6) (object 7) (object 7) (object 6) asks)

result_value : (v w : Obj) → answer.Returns v ≡ answer.Returns w → v ≡ w
result_value v w e = cc

-- the first drive is answered by how the activation of its call was left
result_due : (qs : List Posed) (q : Request) (reply : Reply) → AreAsked objects (returned (object 0) []) drives qs → open_in (slice_get qs 0) [] ≡ Some q → IsDue objects q (how.Return (object 6)) reply → reply ≡ Is (object 6)
result_due [] q reply are asks due = absurd (cc asks)
result_due (p ∷ qs) q reply are asks due =
    let (first, requests, (f, vs, is, named, of), none) = posed_request objects (returned (object 0) []) (drive.Call (codes "f") []) p.pose refl are.0.0 in
    due_leaves objects q f vs (how.Return (object 6)) reply (some_is _ _ (sym asks ∙ requests) ∙ is) due

pub no_other_result : IsRunOf decls drives objects (returned (object 0) []) → ⊥
no_other_result r =
    let before : List Event = left (event.Got 1 (got.Value (object 6)) ∷ event.End 1 (ending.Return (object 6)) 6 ∷ []) in
    ⊎_elim (λ replied.
    let (reply, result, gives) = replied in
    ⊎_elim (λ answered.
    let (q, asks, due) = answered in
    let is : reply ≡ Is (object 6) = result_due r.asked q reply r.are_asked asks due in
    let same = returned_so objects before (object 6) (answer.Returns (object 0)) (subst (λ (x : Reply). GivesDrive objects before x (answer.Returns (object 0))) is gives) in
    differ 0 6 refl (result_value (object 0) (object 6) same)) (λ formed. cc formed.0) result) (λ reported. cc reported.0) r.run.comes.1.1.1.1.1.1.1.1.1.1.1.0.2

pub no_activation_of_a_refused_drive : IsRunOf decls drives objects refused_made → ⊥
no_activation_of_a_refused_drive r =
    let at : Setting = setting (plan_of (codes_in decls) r.asked) (past_behind (plan_of (codes_in decls) r.asked) nothing refusing) in
    let opened = r.run.comes.1.1.1.1.1.1.1.1.1.1.1.1.1.1.1.1.1.1.0.1.1 in
    let calls = enters_call at objects opened.0 (object 1) (object 6 ∷ []) opened.2 in
    let course : Enters (object 1) (object 6 ∷ []) ≡ Says (Fails TypeError (too_many (codes "f") 0 1)) =
    course_is at objects (object 1) (record { name = codes "f"; code = 1 }) (signature_of (OfBody caller)) (object 6 ∷ []) (Enters (object 1) (object 6 ∷ [])) refl refl calls.1 in
    cc course

-- ---- how deep calls go

none_missing : (f : Name) (xs : List Name) → missing_if f (drop (length xs) xs) ≡ None
none_missing f [] = refl
none_missing f (x ∷ xs) = none_missing f xs

-- as many arguments as there are parameters are not refused
none_refused : (f : Name) (xs : List Name) (n : ℕ) → n ≡ length xs → refusal f xs n ≡ None
none_refused f xs n count =
    let few : nat_lt (length xs) n ≡ false = le-ltb (length xs) n (omega (arith, count)) in
    ap (λ b. if b then Some (too_many f (length xs) n) else missing_if f (drop n xs)) few ∙ (ap (λ k. missing_if f (drop k xs)) count ∙ none_missing f xs)

-- so what such a call comes to is told by the depth alone
full_comes : (plan : Plan) (p : Past) (f : Obj) (vs : List Obj) (name : Name) (s : Signature) → s.kind ≡ None → length vs ≡ length s.params
    → bound_by (refusal name s.params (length vs)) (made_at s.kind (depth plan p.state) (Enters f vs)) ≡ entry_at (depth plan p.state) (Enters f vs)
full_comes plan p f vs name s through count =
    ap (λ (o : Option Name). bound_by o (made_at s.kind (depth plan p.state) (Enters f vs))) (none_refused name s.params (length vs) count)
    ∙ ap (λ (kind : Option CoroKind). made_at kind (depth plan p.state) (Enters f vs)) through

pub entry_at_999 : (plan : Plan) (p : Past) (store : List Payload) (f : Obj) (vs : List Obj) (full : IsFull plan store f vs) → full.signature.kind ≡ None → depth plan p.state ≡ 999 → CallsFunction (setting plan p) store f vs (Enters f vs)
entry_at_999 plan p store f vs full through deep =
    runs (setting plan p) store f vs (Enters f vs) full.body full.signature full.is_function full.signed
    (sym (full_comes plan p f vs full.body.name full.signature through full.count ∙ ap (λ (k : ℕ). entry_at k (Enters f vs)) deep))

-- the activation of a generator function is made at any depth
pub made_at_any_depth : (plan : Plan) (p : Past) (store : List Payload) (f : Obj) (vs : List Obj) (full : IsFull plan store f vs) (kind : CoroKind) → full.signature.kind ≡ Some kind → CallsFunction (setting plan p) store f vs (Enters f vs)
made_at_any_depth plan p store f vs full kind suspends =
    let s = full.signature in
    runs (setting plan p) store f vs (Enters f vs) full.body s full.is_function full.signed
    (sym (ap (λ (o : Option Name). bound_by o (made_at s.kind (depth plan p.state) (Enters f vs))) (none_refused full.body.name s.params (length vs) full.count)
    ∙ ap (λ (k : Option CoroKind). made_at k (depth plan p.state) (Enters f vs)) suspends))

-- a call of a function that runs through enters nothing where that many run
no_call_at_1000 : (plan : Plan) (p : Past) (store : List Payload) (f : Obj) (vs : List Obj) (g : Obj) (ws : List Obj) (full : IsFull plan store f vs) → full.signature.kind ≡ None → depth plan p.state ≡ 1000
    → CallsFunction (setting plan p) store f vs (Enters g ws) → ⊥
no_call_at_1000 plan p store f vs g ws full through deep calls =
    let course = course_is (setting plan p) store f full.body full.signature vs (Enters g ws) full.is_function full.signed calls in
    let clash : Enters g ws ≡ Says (Fails RecursionError (codes "maximum recursion depth exceeded ")) =
    course ∙ (full_comes plan p f vs full.body.name full.signature through full.count ∙ ap (λ (k : ℕ). entry_at k (Enters f vs)) deep) in
    cc clash

-- nor does the question for one
pub no_entry_at_1000 : (plan : Plan) (p : Past) (store : List Payload) (f : Obj) (vs : List Obj) (g : Obj) (ws : List Obj) (full : IsFull plan store f vs) → full.signature.kind ≡ None → depth plan p.state ≡ 1000
    → ComesTo (setting plan p) store (Calling f vs keywords.None) (Enters g ws) → ⊥
no_entry_at_1000 plan p store f vs g ws full through deep comes =
    let (is, calls) = enters_call (setting plan p) store (Calling f vs keywords.None) g ws comes in
    let callee : g ≡ f = cc is in
    let args : ws ≡ vs = cc is in
    let own = subst (λ (us : List Obj). CallsFunction (setting plan p) store f us (Enters g ws)) args (subst (λ (x : Obj). CallsFunction (setting plan p) store x ws (Enters g ws)) callee calls) in
    no_call_at_1000 plan p store f vs g ws full through deep own
