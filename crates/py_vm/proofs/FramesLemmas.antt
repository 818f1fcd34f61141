-- The frames that a machine lists are those of the activations that run.
use Rattle.std.proofs.Common.{◌≡◌, ◌∙◌, ℕ, List, [], ◌∷◌, Some, refl, sym, subst}
use Rattle.std.specs.Prelude.{Option, None}
use Rattle.py_objects.specs.declared.refs.PyBaseExceptionRef.{PyBaseExceptionRef}
use Rattle.py_objects.specs.declared.event.Event.{Event}
use Rattle.py_objects.specs.declared.event.Event.TheVariants as event
use Rattle.py_run.specs.declared.drive.Question.{Question}
use Rattle.py_run.specs.Links.{IsFrameOf}
use Rattle.py_run.specs.Run.{Activation, start, state_after}
use Rattle.py_vm.specs.declared.stage.Running.{Running}
use Rattle.py_vm.specs.declared.stage.Halted.{Halted}
use Rattle.py_vm.specs.declared.stage.Stage.{Stage}
use Rattle.py_vm.specs.declared.stage.Stage.TheVariants as stage
use Rattle.py_vm.specs.declared.machinery.Core.{Core}
use Rattle.py_vm.specs.Machine.{AreFramesOf, ListsFrames}
use Rattle.py_vm.specs.Stands.{AtStage, Keeps, Plays, acts_of, asking, caller_acts, caller_frames, frames_at, seen}
use Rattle.py_vm.proofs.ChainLemmas.{AreHalted, inside_halted}

-- one that asks has its number
asking_number : (n : ℕ) (o : Option Event) → (asking n o).number ≡ n
asking_number n (Some (event.Ask a r own at)) = refl
asking_number n _ = refl

module _ (m : Core) where
  -- what was made
  abbrev made : List Activation
  made = (state_after start m.events).made

  -- the frame of one that plays is that of its activation
  frame_of : (r : Running) (slot : Option PyBaseExceptionRef) (act : ℕ) → act ≡ r.act
      → Plays m.world.codes m.globals m.world.store.made m.events r slot → IsFrameOf m.world.store.made made act r.frame.entry
  frame_of r slot act same p = record {
    at = p.at;
    numbered = same ∙ p.numbered;
    activation = p.activation;
    is_made = p.is_made;
    body = p.body;
    is_function = p.is_function;
    entry = p.entry;
    made_with = p.made_with;
  }

  -- the callers' frames are theirs
  callers_listed : (hs : List Halted) → AreHalted m hs → AreFramesOf m.world.store.made made (caller_acts m.events hs) (caller_frames hs)
  callers_listed [] halted = refl
  callers_listed (h ∷ hs) halted = (
    caller_frames hs,
    h.running.frame.entry,
    refl,
    frame_of h.running _ _ (asking_number h.running.act _) halted.0.plays,
    callers_listed hs halted.1,
  )

  -- where none calls, none is listed
  none_listed : m.callers ≡ [] → AreFramesOf m.world.store.made made (caller_acts m.events m.callers) (caller_frames m.callers)
  none_listed none = subst (λ hs. AreFramesOf m.world.store.made made (caller_acts m.events hs) (caller_frames hs)) (sym none) refl

  -- at each stage
  stage_listed : (d : Question) (s : Stage) → AtStage m.world.codes m.globals m.world.store.made m.events m.world.generators d m.made m.callers s
      → AreFramesOf m.world.store.made made (acts_of m.events m.callers s) (frames_at m.callers s)
  stage_listed d stage.Idle none = none_listed none
  stage_listed d stage.Begins none = none_listed none
  stage_listed d stage.Asking none = none_listed none
  stage_listed d (stage.Made r f) at = callers_listed m.callers (inside_halted m m.world.generators d None r.act m.callers at.5)
  stage_listed d (stage.Going r) at = (
    caller_frames m.callers,
    r.frame.entry,
    refl,
    frame_of r _ _ refl at.0.plays,
    callers_listed m.callers (inside_halted m m.world.generators d r.kind r.act m.callers at.1.inside),
  )
  stage_listed d (stage.Waiting h) at = (
    caller_frames m.callers,
    h.running.frame.entry,
    refl,
    frame_of h.running _ _ (asking_number h.running.act _) at.0.plays,
    callers_listed m.callers (inside_halted m m.world.generators d h.running.kind h.running.act m.callers at.1.inside),
  )
  stage_listed d (stage.Due s how) at = callers_listed m.callers (inside_halted m m.world.generators d s.running.kind s.running.act m.callers at.2.inside)

-- a machine that makes a drive lists the frames of what runs
pub listed : (m : Core) (d : Question) → Keeps m d m.stage → ListsFrames (seen m)
listed m d k = (
  k.told.framed ∙ sym k.follows.made,
  subst (λ acts. AreFramesOf m.world.store.made (made m) acts m.frames) (sym k.follows.stack)
      (subst (AreFramesOf m.world.store.made (made m) (acts_of m.events m.callers m.stage)) (sym k.nested.frames) (stage_listed m d m.stage k.at_stage)),
)
