-- Fronts of runs.
use Rattle.std.proofs.Common.{◌≡◌, ℕ, zero, suc, List, [], ◌∷◌, ◌++◌, Some, sym, subst, drop}
use Rattle.std.specs.Prelude.{slice_get, take}
use Rattle.std.proofs.lemmas.List.{take-append-drop}
use Rattle.py_objects.specs.declared.payload.Payload.{Payload}
use Rattle.py_objects.specs.declared.event.Event.{Event}
use Rattle.py_objects.proofs.GrowthLemmas.{slice_get_grown}
use Rattle.py_grammar.specs.Grammar.{Decl, codes_in}
use Rattle.py_lines.specs.declared.drive.DriveLine.{DriveLine}
use Rattle.py_run.specs.Coming.{nothing, Comes, EachTells}
use Rattle.py_run.proofs.RunLemmas.{comes_front}
use Rattle.py_determined.specs.Raises.{TellRaises}
use Rattle.py_meaning.specs.Whole.{AreAsked, Traces, plan_of}
use Rattle.py_core.specs.Runs.{IsRunAmong}

-- an element of a front stands in the list
pub taken_at : {X : Type 0} (n : ℕ) (xs : List X) (i : ℕ) (x : X) → slice_get (take n xs) i ≡ Some x → slice_get xs i ≡ Some x
taken_at n xs i x at = subst (λ ys. slice_get ys i ≡ Some x) (take-append-drop n xs) (slice_get_grown (take n xs) (drop n xs) i x at)

pub tells_front : (n : ℕ) (objects : List Payload) (before events : List Event) → TellRaises objects before events → TellRaises objects before (take n events)
tells_front zero objects before events tells = tt
tells_front (suc n) objects before [] tells = tt
tells_front (suc n) objects before (e ∷ es) tells = (tells.0, tells_front n objects (before ++ e ∷ []) es tells.1)

-- a front of a run is one, where its drives ask that, and its activations tell what they may
pub front_among : (decls : List Decl) (drives : List DriveLine) (objects : List Payload) (events : List Event) (run : IsRunAmong decls drives objects events) (n : ℕ)
    → AreAsked objects (take n events) drives run.asked → EachTells (Traces (codes_in decls) run.globals objects) (take n events) → IsRunAmong decls drives objects (take n events)
front_among decls drives objects events run n asked tells =
    let plan = plan_of (codes_in decls) run.asked in
    let comes = subst (Comes plan objects nothing) (sym (take-append-drop n events)) run.run.comes in
    record {
      asked = run.asked;
      are_asked = asked;
      globals = run.globals;
      looked_up = λ i act x d own at here. run.looked_up i act x d own at (taken_at n events i _ here);
      run =
          record {
            comes = comes_front plan objects nothing (take n events) (drop n events) comes;
            tells = tells;
            named = record { in_events = λ i e here. run.run.named.in_events i e (taken_at n events i e here); in_payloads = run.run.named.in_payloads };
          };
      tells = tells_front n objects [] events run.tells;
    }
