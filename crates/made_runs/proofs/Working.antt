-- What all calls of work have in common: the activations that they make, the entry of the scope, and the exit.
use Rattle.std.proofs.Common.{◌≡◌, ◌<◌, ◌++◌, ℕ, suc, List, [], ◌∷◌, Bool, length, refl, sym, ap, ◌∙◌}
use Rattle.std.specs.Prelude.{Option, pos, int_lt}
use Rattle.py_objects.specs.declared.refs.PyBaseExceptionRef.{PyBaseExceptionRef}
use Rattle.py_objects.specs.declared.payload.Payload.{Payload}
use Rattle.py_objects.specs.declared.payload.Payload.TheVariants as payload
use Rattle.py_objects.specs.declared.event.Event.{Event}
use Rattle.py_objects.specs.Objects.{Obj, HasPayload}
use Rattle.py_run.specs.Run.{Posed, Activation, Idle}
use Rattle.py_run.specs.Generators.{Generator, running_at}
use Rattle.py_run.specs.Coming.{Past}
use Rattle.made_runs.proofs.Lists.{length_on}
use Rattle.made_runs.proofs.Objects.{store, work_object}
use Rattle.made_runs.proofs.Groups.{calls, worked, entered, left, begins, enters, leaves}
use Rattle.made_runs.proofs.Steps.{Come, IsAsked, past, in_body, on, begins_comes, enters_comes, leaves_comes}

-- the number of the activation of work, where these were made before
abbrev pub work_act : List Activation → ℕ
work_act ms = suc (length ms)

-- that of the manager's enter
abbrev pub enter_act : List Activation → ℕ
enter_act ms = suc (work_act ms)

-- and that of its exit
abbrev pub exit_act : List Activation → ℕ
exit_act ms = suc (enter_act ms)

-- the activations that are made by the entry of the scope
abbrev entered_acts : List Activation → Obj → List Activation
entered_acts ms x = (ms ++ worked x ∷ []) ++ entered ∷ []

-- the generators by then
abbrev entered_generators : List Activation → List Generator → List Generator
entered_generators ms gs = running_at (enter_act ms) (running_at (work_act ms) gs)

-- a past in which work runs within the scope
abbrev pub in_scope : List Event → (d : ℕ) → List Activation → List Generator → Obj → Past
in_scope es d ms gs x = in_body es d (work_act ms) (entered_acts ms x) (entered_generators ms gs)

-- the activations with that of the exit, which was told this
abbrev pub left_acts : List Activation → Obj → (told : List Obj) → List Activation
left_acts ms x told = entered_acts ms x ++ left told ∷ []

-- the generators by then
abbrev pub left_generators : List Activation → List Generator → List Generator
left_generators ms gs = running_at (exit_act ms) (entered_generators ms gs)

-- a past in which work runs behind the exit
abbrev pub behind_exit : List Event → (d : ℕ) → List Activation → List Generator → Obj → (told : List Obj) → Past
behind_exit es d ms gs x told = in_body es d (work_act ms) (left_acts ms x told) (left_generators ms gs)

-- the events of a run, those of the test of work, which gave b, and those of the entry of the scope
abbrev pub scope_events : List Event → (d : ℕ) → List Activation → Obj → (b : Bool) → List Event
scope_events es d ms x b =
    on (on es (begins (suc d) (work_act ms) x b [])) (enters (work_act ms) (enter_act ms) [])

module _ (asked : List Posed) (more : List Payload) (es : List Event) (d : ℕ) (ms : List Activation)
    (gs : List Generator) (x : Obj) (called : IsAsked asked more d (calls work_object x)) where
  -- the activation of the enter has its number
  second_act : enter_act ms ≡ suc (length (ms ++ worked x ∷ []))
  second_act = ap suc (sym (length_on ms (worked x)))

  -- and so has that of the exit
  third_act : exit_act ms ≡ suc (length (entered_acts ms x))
  third_act = ap suc (second_act ∙ sym (length_on (ms ++ worked x ∷ []) entered))

  -- the call and the entry of the scope may come, where what follows may
  pub enters_scope : (v : ℕ) (b : Bool) (rest : List Event) → d < length asked
      → HasPayload (store more) x (payload.Int (pos v)) → int_lt (pos v) (pos 500) ≡ b
      → Come asked more (in_scope (scope_events es d ms x b) d ms gs x) rest
      → Come asked more (past es d Idle [] ms gs)
      (begins (suc d) (work_act ms) x b (enters (work_act ms) (enter_act ms) rest))
  enters_scope v b rest few has less k =
      let a : ℕ = work_act ms in
      begins_comes asked more es d ms gs a v x b (enters a (enter_act ms) rest) called few refl has less
      (enters_comes asked more (on es (begins (suc d) a x b [])) d (calls work_object x) (ms ++ worked x ∷ [])
      (running_at a gs) a (enter_act ms) rest called second_act k)

  -- so may the exit
  pub leaves_scope : (own : Option PyBaseExceptionRef) (c e t : Obj) (rest : List Event)
      → Come asked more
      (behind_exit (on es (leaves (work_act ms) (exit_act ms) own c e t [])) d ms gs x (c ∷ e ∷ t ∷ [])) rest
      → Come asked more (in_scope es d ms gs x) (leaves (work_act ms) (exit_act ms) own c e t rest)
  leaves_scope own c e t rest k =
      leaves_comes asked more es d (calls work_object x) (entered_acts ms x) (entered_generators ms gs)
      (work_act ms) (exit_act ms) own c e t rest called third_act k
