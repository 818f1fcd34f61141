-- What two runs of one script have in common from the beginning.
use Rattle.std.specs.List.{list_all}
use Rattle.std.proofs.Common.{◌≡◌, ◌≤◌, ℕ, suc, true, Option, Some, List, [], ◌∷◌, ◌++◌, refl, sym, ap, subst, slice_get, inl, inr, arith}
use Rattle.py_objects.specs.declared.payload.Payload.{Payload}
use Rattle.py_objects.specs.declared.event.Event.{Event}
use Rattle.py_objects.specs.declared.event.Event.TheVariants as event
use Rattle.py_objects.specs.Objects.{Obj, Name, declared}
use Rattle.py_objects.specs.Own.{Own}
use Rattle.py_objects.proofs.Slots.{there}
use Rattle.py_lines.specs.declared.drive.DriveLine.{DriveLine}
use Rattle.py_grammar.specs.Grammar.{Decl, codes_in}
use Rattle.py_run.specs.Run.{Posed, Plan, start, state_after}
use Rattle.py_run.specs.Coming.{nothing, Comes}
use Rattle.py_run.specs.Past.{past_behind}
use Rattle.py_run.proofs.PastLemmas.{past_state}
use Rattle.py_run.proofs.RunLemmas.{comes_rest}
use Rattle.py_agreement.specs.Agreement.{SameMaybe, SameAll, Agree}
use Rattle.py_determined.specs.Alike.{AreAlike}
use Rattle.py_determined.specs.Events.{SameEvents}
use Rattle.py_determined.specs.Related.{Paired}
use Rattle.py_determined.proofs.SameStates.{SamePosed}
use Rattle.py_determined.proofs.Growing.{maybe_grows}
use Rattle.py_meaning.specs.Core.{is_core, is_plain}
use Rattle.py_meaning.specs.Earlier.{NameEarlier}
use Rattle.py_meaning.specs.Whole.{AreAsked, IsRunOf, Traces, plan_of}
use Rattle.py_meaning.proofs.AlikeObjects.{declared_are_alike}
use Rattle.py_meaning.proofs.AskedAgree.{posed_agree}
use Rattle.py_meaning.proofs.CoreLemmas.{core_codes, core_drives}
use Rattle.py_meaning.proofs.TracesAgree.{told_agree}

-- a drive begins behind so many that are done, and asks something
begins_at : (plan : Plan) (objects : List Payload) (es more : List Event) (d : ℕ) → Comes plan objects nothing (es ++ event.Drive (suc d) ∷ more)
    → (d ≤ (state_after start es).done) × ((q : Posed) × (slice_get plan.asked d ≡ Some q))
begins_at plan objects es more d comes =
    let (idle, next, some) = (comes_rest plan objects nothing es (event.Drive (suc d) ∷ more) comes).0 in
    let state : (past_behind plan nothing es).state.done ≡ (state_after start es).done = ap (λ s. s.done) (past_state plan es) in
    (omega (arith, next, state), there plan.asked d (omega (arith, next, some)))

module _ (decls : List Decl) (drives : List DriveLine) (earlier : NameEarlier drives)
    (objects objects' : List Payload) (events events' : List Event) (run : IsRunOf decls drives objects events) (run' : IsRunOf decls drives objects' events') where
  -- the functions are the same
  pub signatures_agree : (plan_of (codes_in decls) run.asked).signatures ≡ (plan_of (codes_in decls) run'.asked).signatures
  signatures_agree = refl

  -- what is declared is alike
  pub first_alike : AreAlike (Paired objects objects' [] []) objects objects'
  first_alike = declared_are_alike decls objects objects' run.are_objects run'.are_objects

  declares_agree : (es fs : List Event) (x : Name) → SameMaybe (Paired objects objects' es fs) (declared objects x) (declared objects' x)
  declares_agree es fs x = maybe_grows (Paired objects objects' [] []) (Paired objects objects' es fs) more (declared objects x) (declared objects' x) (first_alike.declares x)
    where
      more : (v w : Obj) → Paired objects objects' [] [] v w → Paired objects objects' es fs v w
      more v w (inl literal) = inl literal
      more v w (inr (inl named)) = inr (inl named)
      more v w (inr (inr pair)) = absurd pair

  -- activations of related functions, with related arguments, tell what agrees, where none has a raw code
  pub bodies_agree : list_all is_core decls ≡ true → (es fs : List Event) (f g : Obj) (vs ws : List Obj) (own own' : List Own) → AreAlike (Paired objects objects' es fs) objects objects' → Paired objects objects' es fs f g
      → SameAll (Paired objects objects' es fs) vs ws → Traces (codes_in decls) run.globals objects f vs own → Traces (codes_in decls) run'.globals objects' g ws own'
      → Agree (Paired objects objects' es fs) own own'
  bodies_agree core es fs f g vs ws own own' alike related all told told' =
      told_agree (Paired objects objects' es fs) objects objects' alike (codes_in decls) (core_codes decls core) run.globals run'.globals f g vs ws own own' related all told told'

  -- a drive asks the same where it begins in both, as far as the events in front of it relate objects
  pub drives_agree : list_all is_plain drives ≡ true → (es fs more more' : List Event) (d : ℕ) → events ≡ es ++ event.Drive (suc d) ∷ more → events' ≡ fs ++ event.Drive (suc d) ∷ more'
      → SameEvents (Paired objects objects' es fs) es fs → SameMaybe (SamePosed (Paired objects objects' es fs)) (slice_get run.asked d) (slice_get run'.asked d)
  drives_agree plain es fs more more' d is is' same =
      let comes = subst (λ (l : List Event). Comes (plan_of (codes_in decls) run.asked) objects nothing l) is run.run.comes in
      let comes' = subst (λ (l : List Event). Comes (plan_of (codes_in decls) run'.asked) objects' nothing l) is' run'.run.comes in
      let (low, (q, at)) = begins_at (plan_of (codes_in decls) run.asked) objects es more d comes in
      let (low', (q', at')) = begins_at (plan_of (codes_in decls) run'.asked) objects' fs more' d comes' in
      let posed : SamePosed (Paired objects objects' es fs) q q' =
      posed_agree (Paired objects objects' es fs) objects objects' (λ p v w literal has has'. inl (p, literal, has, has')) (declares_agree es fs) drives run.asked run'.asked
      (plan_of (codes_in decls) run.asked) (plan_of (codes_in decls) run'.asked) es fs (event.Drive (suc d) ∷ more) (event.Drive (suc d) ∷ more') d q q' earlier (core_drives drives plain) comes comes' same low low'
      (subst (λ (l : List Event). AreAsked objects l drives run.asked) is run.are_asked) (subst (λ (l : List Event). AreAsked objects' l drives run'.asked) is' run'.are_asked) at at' in
      subst (λ (o : Option Posed). SameMaybe (SamePosed (Paired objects objects' es fs)) o (slice_get run'.asked d)) (sym at)
      (subst (λ (o : Option Posed). SameMaybe (SamePosed (Paired objects objects' es fs)) (Some q) o) (sym at') posed)
