-- The journals worked by hand that are whole runs, and their fronts.
use Rattle.std.proofs.Common.{◌≡◌, ◌<◌, ◌≤◌, ◌++◌, ℕ, zero, suc, List, [], ◌∷◌, Some, refl, sym, ap, subst, inl, inr, length, lit<, arith}
use Rattle.std.specs.Prelude.{All, map, pos, slice_get, take, codes}
use Rattle.std.proofs.lemmas.Option.{slice_get_within}
use Rattle.py_objects.specs.declared.payload.Payload.{Payload}
use Rattle.py_objects.specs.declared.payload.Payload.TheVariants as payload
use Rattle.py_objects.specs.declared.edit.Change.{Change}
use Rattle.py_objects.specs.declared.request.Keywords.TheVariants as keywords
use Rattle.py_objects.specs.declared.request.Request.TheVariants as request
use Rattle.py_objects.specs.declared.event.GotAnswer.TheVariants as got
use Rattle.py_objects.specs.declared.event.Event.{Event}
use Rattle.py_objects.specs.declared.event.Event.TheVariants as event
use Rattle.py_objects.specs.Objects.{Obj, AllBelow, AreNamed, event_numbers, pair_numbers, payload_numbers}
use Rattle.py_objects.specs.Own.{own_events, own_from, told_by}
use Rattle.py_objects.specs.Singletons.{none_object}
use Rattle.py_objects.proofs.GrowthLemmas.{below_more, length_grown, slice_get_split}
use Rattle.py_tree.specs.Scene.{anywhere}
use Rattle.py_tree.specs.Trace.{IsTrace}
use Rattle.py_grammar.specs.Grammar.{Declares, Drives, FunctionDecl, OfBody, codes_in}
use Rattle.py_grammar.specs.Lines.{lines}
use Rattle.py_grammar.specs.Script.{Spells}
use Rattle.py_lines.specs.declared.drive.DriveAtom.TheVariants as argument
use Rattle.py_lines.specs.declared.drive.DriveLine.TheVariants as drive
use Rattle.py_answers.specs.Answers.{Has, Is}
use Rattle.py_run.specs.Run.{Plan, Posed, Requests, start, state_after}
use Rattle.py_run.specs.Coming.{nothing, Comes, EachTells}
use Rattle.py_run.specs.First.{first_objects}
use Rattle.py_run.proofs.FirstLemmas.{first_fit}
use Rattle.py_meaning.specs.Whole.{AreAsked, Traces, plan_of}
use Rattle.py_meaning.specs.Worked.{object, function_entry}
use Rattle.py_meaning.proofs.Journals.{is_of_kind, one_tells, reads_of, runs}
use Rattle.py_meaning.proofs.WorkedObjects.{Each, each_at}
use Rattle.py_core.specs.Runs.{IsCoreRunOf, IsLinkChange, IsLookedUpIn, IsRunAmong, by_name, named_objects}
use Rattle.py_core.specs.Worked.{IsWhole, decls, drives, events, function, objects_by, own_objects, script}
use Rattle.py_core.proofs.FirstNames.{AreRaised, named_with, one_function}
use Rattle.py_core.proofs.Fronts.{front_among}
use Rattle.py_core.proofs.OfScripts.{of_script}

pub spelled : Spells (lines script) decls drives
spelled =
    let items = Declares (FunctionDecl function) ∷ Drives (drive.Call (codes "f") (argument.Int (pos 7) ∷ [])) ∷ [] in
    record {
      items = items;
      reads = reads_of items;
      read = ((refl, tt), ((refl, omega arith), ((refl, omega arith), ((refl, tt), ((refl, tt), tt)))));
      spelled = refl;
      well = ((refl, (refl, (refl, tt))), (refl, tt));
      declared = refl;
      driven = refl;
    }

-- what the drive asks
abbrev pub call : Posed
call = record { pose = Requests (request.Call (object 0) (object 3 ∷ []) keywords.None); entered = 0 }

-- what the run is of
abbrev pub plan : Plan
plan = plan_of (codes_in decls) (call ∷ [])

-- the objects by their names, where these stand behind the frame
abbrev pub named_by : List (Obj × Obj) → List Payload → List Payload
named_by pairs rest = first_objects ++ own_objects (function_entry (codes "f") 0) pairs rest

-- the numbers that entries name are objects'
abbrev pub AreBelow : ℕ → List Payload → Type 0
AreBelow n entries = Each (λ p. AllBelow n (payload_numbers p)) entries

module _ (pairs : List (Obj × Obj)) (rest : List Payload) (pairs_below : AllBelow (length (named_by pairs rest)) (pair_numbers pairs))
    (rest_below : AreBelow (length (named_by pairs rest)) rest) where
  abbrev made : List Payload
  made = named_by pairs rest

  entries_below : (i : ℕ) (p : Payload) → slice_get made i ≡ Some p → AllBelow (length made) (payload_numbers p)
  entries_below i p at =
      let own = own_objects (function_entry (codes "f") 0) pairs rest in
      elim (slice_get_split first_objects own i p at) [
        | inl front ↦ below_more (length first_objects) (length made) (payload_numbers p) (length_grown first_objects made (own, refl)) (first_fit i p front).0
        | inr behind ↦ each_at (λ q. AllBelow (length made) (payload_numbers q)) own (tt, (tt, (pairs_below, (tt, (tt, rest_below))))) _ p behind
      ]

  named : AreNamed made events
  named =
      let none : none_object.number < length made = slice_get_within made none_object.number payload.None refl in
      let callee : (object 0).number < length made = slice_get_within made (object 0).number (function_entry (codes "f") 0) refl in
      let argument : (object 3).number < length made = slice_get_within made (object 3).number (payload.Int (pos 7)) refl in
      record {
        in_events =
            each_at (λ (e : Event). AllBelow (length made) (event_numbers e)) events
            (tt, ((callee, (argument, tt)), (tt, ((argument, tt), ((none, tt), ((argument, tt), ((argument, tt), tt)))))));
        in_payloads = entries_below;
      }

  comes : Comes plan made nothing events
  comes = (
    (refl, refl, lit< tt),
    (
      (refl, (refl, (_, refl, inr (inl (object 0, object 3 ∷ [], refl, runs _ _ _ _ _ _ _ refl refl refl))))),
      (
        (refl, is_of_kind _ _ _ _ _ _ refl refl refl),
        (
          (refl, refl),
          (
            (refl, (Has payload.None, (request.Show (object 3), refl, inl (Has payload.None, refl, refl)), refl)),
            ((refl, refl), ((refl, refl, inl (Is (object 3), inl (_, refl, (refl, refl)), refl)), tt)),
          ),
        ),
      ),
    ),
  )

  -- the activation tells what it may in a front
  told : (m : ℕ) → (state_after start (take m events)).made ≡ record { function = object 0; args = object 3 ∷ [] } ∷ []
      → IsTrace (anywhere made (object 2)) function (object 3 ∷ []) (own_events 1 (take m events)) → EachTells (Traces (codes_in decls) (object 2) made) (take m events)
  told m is trace = one_tells (Traces (codes_in decls) (object 2) made) (object 0) (object 3 ∷ []) (take m events) is (_, refl, (OfBody function, refl, trace))

  tells : (m : ℕ) → m ≤ 7 → EachTells (Traces (codes_in decls) (object 2) made) (take m events)
  unfolding own_from told_by
  tells zero low = λ i a at. absurd (cc at)
  tells (suc zero) low = λ i a at. absurd (cc at)
  tells (suc (suc zero)) low = told 2 refl (refl, (_, refl, tt))
  tells (suc (suc (suc zero))) low = told 3 refl (refl, (_, refl, inl (refl, refl)))
  tells (suc (suc (suc (suc zero)))) low = told 4 refl (refl, (_, refl, inr (inr (2, _, refl, refl, inl (refl, refl)))))
  tells (suc (suc (suc (suc (suc zero))))) low = told 5 refl (refl, (_, refl, inr (inr (2, _, refl, refl, inr (4, got.Value none_object, _, refl, inl (refl, refl))))))
  tells (suc (suc (suc (suc (suc (suc zero)))))) low =
      told 6 refl (refl, (_, refl, inr (inr (2, _, refl, refl, inr (4, got.Value none_object, _, refl, inr (inr (4, refl)))))))
  tells (suc (suc (suc (suc (suc (suc (suc zero))))))) low =
      told 7 refl (refl, (_, refl, inr (inr (2, _, refl, refl, inr (4, got.Value none_object, _, refl, inr (inr (4, refl)))))))
  tells (suc (suc (suc (suc (suc (suc (suc (suc m)))))))) low = absurd (omega (arith, low))

  -- no name is looked up
  looked_up : IsLookedUpIn made events (object 2)
  looked_up i act x d own at here =
      absurd (each_at (λ (e : Event). e ≡ event.Ask act (request.Global d x) own at → ⊥) events (λ e. cc e, (λ e. cc e, (λ e. cc e, (λ e. cc e, (λ e. cc e, (λ e. cc e, (λ e. cc e, tt))))))) i _ here refl)

  asks : (m : ℕ) → AreAsked made (take m events) drives (call ∷ [])
  asks m = (((object 0, object 3 ∷ [], refl, refl, (refl, tt)), refl), tt)

  whole_among : IsRunAmong decls drives made events
  whole_among = record {
    asked = call ∷ [];
    are_asked = asks 7;
    globals = object 2;
    looked_up = looked_up;
    run = record { comes = comes; tells = tells 7 (omega arith); named = named };
    tells = (tt, (tt, (tt, (tt, (tt, (tt, (tt, tt)))))));
  }

  pub among : (m : ℕ) → m ≤ 7 → IsRunAmong decls drives made (take m events)
  unfolding whole_among
  among m low = front_among decls drives made events whole_among m (asks m) (tells m low)

-- ---- the same of journals

-- such objects may stand in a journal: they name objects, and each exception is of a declared class
pub record MayStand (code : ℕ) (pairs : List (Obj × Obj)) (more : List Payload) : Type 0 where
  pub pairs_below : AllBelow (length (named_by pairs (map (by_name decls) more))) (pair_numbers pairs)
  pub more_below : AreBelow (length (named_by pairs (map (by_name decls) more))) (map (by_name decls) more)
  pub raised : AreRaised decls (objects_by code pairs more) more

-- the objects by their names
pub named_are : (code : ℕ) (pairs : List (Obj × Obj)) (more : List Payload) → named_objects decls (objects_by code pairs more) ≡ named_by pairs (map (by_name decls) more)
named_are code pairs more = named_with decls (own_objects (function_entry (codes "f") code) pairs more)

-- a front of the run
pub front_of : (code : ℕ) (pairs : List (Obj × Obj)) (more : List Payload) → MayStand code pairs more → (m : ℕ) → m ≤ 7 → IsCoreRunOf decls drives (objects_by code pairs more) (take m events)
front_of code pairs more may m low =
    let own = own_objects (function_entry (codes "f") code) pairs more in
    record {
      are_objects =
          one_function function own (object 0, refl, (_, refl))
          ((λ e is. absurd (cc is)), ((λ e is. absurd (cc is)), ((λ e is. absurd (cc is)), ((λ e is. absurd (cc is)), ((λ e is. absurd (cc is)), may.raised)))));
      run =
          subst (λ os. IsRunAmong decls drives os (take m events)) (sym (named_are code pairs more))
          (among pairs (map (by_name decls) more) may.pairs_below may.more_below m low);
    }

-- the whole run
pub whole : (code : ℕ) (pairs : List (Obj × Obj)) (more : List Payload) (changes : List Change) → MayStand code pairs more → All IsLinkChange changes
    → IsWhole (objects_by code pairs more) changes events
whole code pairs more changes may links s k is = record {
  run = record { run = of_script decls drives s is (objects_by code pairs more) events (front_of code pairs more may 7 (omega arith)); changes = links };
  done = record { done = ap length (sym is.driven); idle = refl };
}
