-- Events that are followed are a front of a run.
use Rattle.std.proofs.Common.{◌≡◌, ◌∙◌, ℕ, List, ◌∷◌, ◌++◌, true, Some, None, refl, sym, ap, subst, length}
use Rattle.std.specs.Prelude.{Option, option_map, slice_get}
use Rattle.std.proofs.lemmas.List.{length-map}
use Rattle.std.proofs.lemmas.Option.{slice_get-map}
use Rattle.py_objects.specs.declared.payload.Payload.{Payload}
use Rattle.py_objects.specs.declared.payload.Payload.TheVariants as payload
use Rattle.py_objects.specs.declared.event.Event.{Event}
use Rattle.py_objects.specs.Objects.{Obj, AllBelow, payload_numbers}
use Rattle.py_objects.specs.Originals.{IsDict}
use Rattle.py_objects.specs.Own.{Makes}
use Rattle.py_lines.specs.declared.drive.DriveLine.{DriveLine}
use Rattle.py_grammar.specs.Grammar.{Decl, Coded, OfBody, codes_in}
use Rattle.py_tree.specs.Scene.{anywhere}
use Rattle.py_tree.specs.Trace.{IsTrace}
use Rattle.py_run.specs.Coming.{EachTells}
use Rattle.py_meaning.specs.Whole.{Traces}
use Rattle.py_places.specs.Checking.{accepts, is_there}
use Rattle.py_places.proofs.Folding.{decided}
use Rattle.py_core.specs.Runs.{IsRunAmong, IsLookedUpIn, by_name, named_objects}
use Rattle.py_following.specs.Followed.{Followed, unbegun, some_object}
use Rattle.py_following.specs.Laws.{FollowedAreRuns}
use Rattle.py_following.proofs.Known.{Leads, events_known, are_globals}
use Rattle.py_following.proofs.Coming.{is_followed, drives_ask}
use Rattle.py_following.proofs.Placing.{are_placed}

-- the same numbers stand in an entry by its name
numbers_stay : (decls : List Decl) (p : Payload) → payload_numbers (by_name decls p) ≡ payload_numbers p
numbers_stay decls (payload.Function b) = refl
numbers_stay decls (payload.Class c) = refl
numbers_stay decls (payload.Manager m) = refl
numbers_stay decls _ = refl

named_within : (decls : List Decl) (objects : List Payload)
    → ((i : ℕ) (p : Payload) → slice_get objects i ≡ Some p → AllBelow (length objects) (payload_numbers p))
    → (i : ℕ) (p : Payload) → slice_get (named_objects decls objects) i ≡ Some p
    → AllBelow (length (named_objects decls objects)) (payload_numbers p)
named_within decls objects within i p at = by (slice_get objects i) refl (sym (slice_get-map (by_name decls) objects i) ∙ at)
  where
    by : (o : Option Payload) → slice_get objects i ≡ o → option_map (by_name decls) o ≡ Some p
        → AllBelow (length (named_objects decls objects)) (payload_numbers p)
    by None here is = absurd (cc is)
    by (Some q) here is =
        let same : by_name decls q ≡ p = cc is in
        let low : AllBelow (length objects) (payload_numbers (by_name decls q)) =
        subst (AllBelow (length objects)) (sym (numbers_stay decls q)) (within i q here) in
        subst (λ x. AllBelow (length (named_objects decls objects)) (payload_numbers x)) same
        (subst (λ n. AllBelow n (payload_numbers (by_name decls q))) (sym (length-map objects (by_name decls))) low)

module _ (coded : List Coded) (objects : List Payload) (drives : List DriveLine) (f : Followed) (es : List Event)
    (leads : Leads coded objects drives unbegun es f) where
  -- the dict of the globals, or any object
  abbrev globals : Obj
  globals = some_object f.globals

  looked_up_here : IsLookedUpIn objects f.past.events globals
  looked_up_here i a x d own at here =
      let are = are_globals coded objects drives f es leads in
      let known : f.globals ≡ Some d = are.only d (i, a, x, own, at, here) in
      let same : d ≡ globals = sym (ap some_object known) in
      (same, subst (IsDict objects) same (are.is_dict d known))

  -- each activation tells a trace of its body
  each_tells : EachTells (Traces coded globals objects) f.past.events
  each_tells i a here =
      let is = is_followed coded objects drives f es leads in
      let all = are_placed coded objects drives globals f es leads (λ d known. sym (ap some_object known)) in
      let one = all.each i a (subst (λ s. slice_get s.made i ≡ Some a) (sym is.of.state) here) in
      let accepted : accepts objects globals one.tree a.args (Makes ∷ one.told) ≡ true = ap (is_there objects globals) one.leads in
      let trace = (decided objects globals one.tree a.args (Makes ∷ one.told) one.args (tt, one.heard)).0 accepted in
      let (b, has, at) = one.of in
      (b, has, (OfBody one.tree, at, subst (IsTrace (anywhere objects globals) one.tree a.args) (sym one.own) trace))

-- events that are followed are a front of a run
pub followed_are_runs : FollowedAreRuns
followed_are_runs decls drives objects events f can follows =
    let is = is_followed (codes_in decls) (named_objects decls objects) drives f events follows in
    let run : IsRunAmong decls drives (named_objects decls objects) f.past.events =
    record {
      asked = f.asked ++ is.asks.more;
      are_asked = drives_ask (codes_in decls) (named_objects decls objects) drives f events follows;
      globals = some_object f.globals;
      looked_up = looked_up_here (codes_in decls) (named_objects decls objects) drives f events follows;
      run =
          record {
            comes = is.comes.comes is.asks.more is.asks.enough;
            tells = each_tells (codes_in decls) (named_objects decls objects) drives f events follows;
            named = record { in_events = is.named; in_payloads = named_within decls objects can.within };
          };
      tells = is.tells;
    } in
    subst (IsRunAmong decls drives (named_objects decls objects)) (events_known (codes_in decls) (named_objects decls objects) drives f events follows) run
