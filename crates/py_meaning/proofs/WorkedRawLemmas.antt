-- What the definitions say of the journal of a raw code.
use Rattle.std.proofs.Common.{◌≡◌, append_assoc, List, [], ◌∷◌, ◌++◌, refl, sym, subst, inl, inr, lit<}
use Rattle.std.proofs.lemmas.List.Sorted.{IsPermutation-refl}
use Rattle.std.specs.Prelude.{pos, codes}
use Rattle.py_objects.specs.declared.payload.Payload.{Payload}
use Rattle.py_objects.specs.declared.payload.Payload.TheVariants as payload
use Rattle.py_objects.specs.declared.event.GotAnswer.TheVariants as got
use Rattle.py_objects.specs.declared.event.Ending.TheVariants as ending
use Rattle.py_objects.specs.declared.event.DriveAnswer.TheVariants as answer
use Rattle.py_objects.specs.declared.error_kind.ErrorKind.TheVariants.{TypeError}
use Rattle.py_objects.specs.declared.event.Event.{Event}
use Rattle.py_objects.specs.declared.event.Event.TheVariants as event
use Rattle.py_objects.specs.Objects.{Obj, HasPayload, AllFit, AreNamed}
use Rattle.py_objects.specs.Own.{own_from, told_by}
use Rattle.py_lines.specs.declared.raw.RawLine.TheVariants as raw
use Rattle.py_grammar.specs.Grammar.{Codes, Drives, RawDecl, OfRaw, codes_in}
use Rattle.py_grammar.specs.RawText.{RawText}
use Rattle.py_grammar.specs.Lines.{lines}
use Rattle.py_grammar.specs.Script.{Spells}
use Rattle.py_answers.specs.Answers.{Is, Fails}
use Rattle.py_run.specs.Run.{Plan}
use Rattle.py_run.specs.Calls.{Enters, Says, Setting, too_many}
use Rattle.py_run.specs.Coming.{setting, nothing, Comes, EachTells}
use Rattle.py_run.specs.First.{first_objects}
use Rattle.py_run.specs.Past.{past_behind}
use Rattle.py_run.proofs.BoundLemmas.{enters_call}
use Rattle.py_meaning.specs.Core.{IsCore}
use Rattle.py_meaning.specs.Whole.{AreGlobals, AreObjects, IsRunOf, Traces, plan_of, signature_of}
use Rattle.py_meaning.specs.Text.{events_text}
use Rattle.py_meaning.specs.Worked.{call_of, drives, object, function_entry, objects, objects_by, entered, asked, events}
use Rattle.py_meaning.specs.WorkedRaw.{script, block, uncounted, decls, uncounted_decls, returned}
use Rattle.py_meaning.proofs.Behind.{none_declared}
use Rattle.py_meaning.proofs.Entries.{one_declared}
use Rattle.py_meaning.proofs.WorkedObjects.{not_before, objects_behind, some_is}
use Rattle.py_meaning.proofs.OneText.{text as sum_text}
use Rattle.py_meaning.proofs.Journals.{all_fit, are_named, call, code_of, course_is, is_of_kind, one_tells, reads_of, runs}

pub spelled : Spells (lines script) decls drives
spelled =
    let head = raw.Counts 0 2 0 ∷ raw.Vars (codes "b" ∷ []) ∷ raw.Consts block.consts ∷ raw.Depth 0 ∷ [] in
    let text : RawText = record { line = 1; name = codes "f"; params = codes "a" ∷ []; head = head; units = block.units } in
    let items = Codes text ∷ Drives (call_of (codes "f") (pos 33) (pos 12)) ∷ [] in
    record {
      items = items;
      reads = reads_of items;
      read = ((refl, tt), ((refl, tt), ((refl, tt), ((refl, tt), ((refl, tt), ((refl, tt), ((refl, tt), ((refl, tt), tt))))))));
      spelled = refl;
      well = (record { declared = refl; head = refl; deep = refl; some = refl; run = refl }, (refl, tt));
      declared = refl;
      driven = refl;
    }

-- ---- the objects of the run

-- behind the function's entry, and behind the first ones
abbrev rest : List Payload
rest =
    payload.Str (codes "f") ∷ payload.Dict ((object 1, object 0) ∷ []) ∷ payload.Int (pos 33) ∷ payload.Int (pos 12)
    ∷ payload.Frame 0 ∷ payload.Int (pos 45) ∷ []

abbrev own : List Payload
own = function_entry (codes "f") 0 ∷ rest

all_are_fit : AllFit objects
all_are_fit = all_fit own refl (tt, (tt, (tt, (tt, (tt, (tt, (tt, tt)))))))

there : AreObjects decls objects
there =
    let function : List Payload = function_entry (codes "f") 0 ∷ [] in
    let first : AreObjects decls (first_objects ++ function) =
    one_declared [] first_objects (RawDecl block) (function_entry (codes "f") 0) none_declared
    (not_before objects (codes "f") own refl refl) tt refl in
    objects_behind decls (first_objects ++ function) rest objects (sym (append_assoc first_objects function rest)) first
    (tt, (tt, (tt, (tt, (tt, (tt, tt)))))) all_are_fit

globals_there : AreGlobals decls objects (object 2)
globals_there = record {
  pairs = (object 1, object 0) ∷ [];
  dict = refl;
  bindings = (object 1, object 0) ∷ [];
  bind = ((refl, refl), tt);
  same = IsPermutation-refl _;
}

-- ---- its runs

abbrev plan : Plan
plan = plan_of (codes_in decls) (call ∷ [])

-- a run, where its events come
run_by : (es : List Event) → Comes plan objects nothing es → EachTells (Traces (codes_in decls) (object 2) objects) es
    → AreNamed objects es → IsRunOf decls drives objects es
run_by es comes tells named = record {
  asked = call ∷ [];
  are_asked = (((object 0, object 3 ∷ object 4 ∷ [], refl, refl, (refl, (refl, tt))), refl), tt);
  globals = object 2;
  are_globals = globals_there;
  run = record { comes = comes; tells = tells; named = named };
  are_objects = there;
}

-- up to the entry
entry_comes : (more : List Event) → Comes plan objects (past_behind plan nothing (entered 1 [])) more → Comes plan objects nothing (entered 1 more)
entry_comes more k = (
  (refl, refl, lit< tt),
  (
    (refl, (refl, (_, refl, inr (inl (object 0, object 3 ∷ object 4 ∷ [], refl, runs _ _ _ _ _ _ _ refl refl refl))))),
    ((refl, is_of_kind _ _ _ _ _ _ refl refl refl), k),
  ),
)

-- a body asks for the sum and returns it
abbrev sum_asked : List Event
sum_asked =
    asked 1 (object 3) (object 4)
    (event.Got 1 (got.Value (object 6)) ∷ event.End 1 (ending.Return (object 6)) 5 ∷ event.Result 1 (answer.Returns (object 6)) ∷ [])

-- the constant is returned
abbrev ended : List Event
ended = event.End 1 (ending.Return (object 6)) 0 ∷ event.Result 1 (answer.Returns (object 6)) ∷ []

-- such a question may follow the entry, as far as this says
sum_follows : Comes plan objects (past_behind plan nothing (entered 1 [])) sum_asked
sum_follows = (
  (refl, refl),
  (
    (refl, (_, (_, refl, inl (_, refl, (_, _, codes "int", codes "int", refl, refl, refl, refl, refl))), refl)),
    ((refl, refl), ((refl, refl, inl (Is (object 6), inl (_, refl, (refl, refl)), refl)), tt)),
  ),
)

pub tells_anything : IsRunOf decls drives objects events
unfolding own_from told_by
tells_anything =
    run_by events (entry_comes sum_asked sum_follows)
    (one_tells (Traces (codes_in decls) (object 2) objects) (object 0) (object 3 ∷ object 4 ∷ []) events refl (_, refl, (OfRaw block, refl, tt)))
    (are_named objects events all_are_fit refl)

pub is_run : IsRunOf decls drives objects returned
unfolding own_from told_by
is_run =
    run_by returned (entry_comes ended ((refl, refl), ((refl, refl, inl (Is (object 6), inl (_, refl, (refl, refl)), refl)), tt)))
    (one_tells (Traces (codes_in decls) (object 2) objects) (object 0) (object 3 ∷ object 4 ∷ []) returned refl (_, refl, (OfRaw block, refl, tt)))
    (are_named objects returned all_are_fit refl)

-- the text of both runs is one
pub text : events_text objects [] returned ≡ codes "1 returns 45\n"
text = sum_text

-- ---- what is none

pub no_entry : IsRunOf uncounted_decls drives objects returned → ⊥
no_entry r =
    let at : Setting = setting (plan_of (codes_in uncounted_decls) r.asked) (past_behind (plan_of (codes_in uncounted_decls) r.asked) nothing (event.Drive 1 ∷ [])) in
    let opened = r.run.comes.1.0.1.1 in
    let calls = enters_call at objects opened.0 (object 0) (object 3 ∷ object 4 ∷ []) opened.2 in
    let course : Enters (object 0) (object 3 ∷ object 4 ∷ []) ≡ Says (Fails TypeError (too_many (codes "f") 1 2)) =
    course_is at objects (object 0) (record { name = codes "f"; code = 0 }) (signature_of (OfRaw uncounted)) (object 3 ∷ object 4 ∷ []) (Enters (object 0) (object 3 ∷ object 4 ∷ [])) refl refl calls.1 in
    cc course

pub no_other_code : IsRunOf decls drives (objects_by (function_entry (codes "f") 1)) returned → ⊥
no_other_code r =
    let entry = r.are_objects.functions 0 (OfRaw block) refl in
    let place : entry.0 ≡ object 0 = some_is _ _ (sym entry.1) in
    let same = subst (λ (f : Obj). HasPayload (objects_by (function_entry (codes "f") 1)) f (function_entry (codes "f") 0)) place entry.2 in
    let e = code_of (codes "f") (codes "f") 1 0 same in
    cc

pub no_other_name : IsRunOf decls drives (objects_by (function_entry (codes "g") 0)) returned → ⊥
no_other_name r = let entry = r.are_objects.functions 0 (OfRaw block) refl in let e = entry.1 in cc

pub not_core : IsCore decls drives → ⊥
not_core e = let all = e.declares in cc all
