-- What the running activation's frame tells: an exit is told the traceback that its exception has, and the machine goes on by the step.
use Rattle.std.proofs.Common.{◌≡◌, List, [], Some, inl, inr, refl, sym, ap, subst, ◌∙◌}
use Rattle.std.specs.Prelude.{Option, None, slice_set}
use Rattle.py_objects.specs.declared.refs.PyBaseExceptionRef.{PyBaseExceptionRef}
use Rattle.py_objects.specs.declared.payload.Payload.{Payload}
use Rattle.py_objects.specs.declared.payload.Payload.TheVariants as payload
use Rattle.py_objects.specs.declared.edit.LinkField.TheVariants as link
use Rattle.py_objects.specs.declared.request.Request.TheVariants as request
use Rattle.py_objects.specs.declared.event.Ending.TheVariants as ending
use Rattle.py_objects.specs.Objects.{Obj, IfThere, IsTraceback}
use Rattle.py_objects.specs.Growth.{Grows, IsGrown}
use Rattle.py_objects.specs.Edits.{Kept, objects_of}
use Rattle.py_objects.proofs.ChangesLemmas.{now_within}
use Rattle.py_objects.proofs.GrownLemmas.{objects_grow}
use Rattle.py_exceptions.specs.Walks.{link_at, link_in}
use Rattle.py_answers.specs.Readable.{IsReadable}
use Rattle.py_rows.specs.RunOfRows.{IsExit, none as still}
use Rattle.py_rows.proofs.ExitLemmas.{exit_told}
use Rattle.py_frame.specs.declared.input.FrameStep.{FrameStep}
use Rattle.py_frame.specs.declared.input.FrameStep.TheVariants as step
use Rattle.py_frame.specs.Exits.{HasTraceback, IsTold, TellsExit}
use Rattle.py_frame.specs.Frames.{Framed, setting_of}
use Rattle.py_run.specs.declared.drive.Question.{Question}
use Rattle.py_run.specs.Links.{AsksNow, IsToldNow}
use Rattle.py_run.proofs.LinksLemmas.{traceback_grown}
use Rattle.py_vm.specs.declared.stage.Running.{Running}
use Rattle.py_vm.specs.declared.stage.Stage.TheVariants as stage
use Rattle.py_vm.specs.declared.machinery.Core.{Core}
use Rattle.py_vm.specs.Stands.{Keeps}
use Rattle.py_vm.specs.Turns.{IsStepped, IsToldStep, Turns}
use Rattle.py_vm.proofs.NotedLemmas.{traceback_there}
use Rattle.py_vm.proofs.GoingLemmas.{asked_law, ended_law, rounded_law, yielded_law}

-- ---- what it tells

-- a step tells what it may, where these are the objects and their changes
abbrev pub TellsStep : Kept → FrameStep → Type 0
TellsStep store (step.Ask q own) = AsksNow store.made (objects_of store) q
TellsStep store step.Round = Unit {0}
TellsStep store (step.Yield v) = Unit {0}
TellsStep store (step.Return v) = Unit {0}
TellsStep store (step.Raise e) = Unit {0}
TellsStep store step.NoMemory = Unit {0}

module _ (old new : Kept) (readable : IsReadable old) (grown : IsGrown old new) where
  -- the traceback that an exception had is the one that it has among more objects
  still_has : (e : Obj) (t : Option Obj) → HasTraceback old e t → link_at link.Traceback (objects_of new) e ≡ t
  still_has e t (b, has, is) =
      let (more, added) : Grows old.made new.made = objects_grow old new grown in
      ap (λ (s : Kept). link_at link.Traceback (objects_of s) e) grown.others ∙ ap (λ (l : List Payload). link_at link.Traceback (objects_of (record old { made = l })) e) added
      ∙ traceback_grown old.made more old.changes e (now_within old e (payload.Exception b) has) ∙ ap (link_in link.Traceback) has ∙ sym is

  -- so it is what is told
  told_now : (e told : Obj) (t : Option Obj) → HasTraceback old e t → IsTold old new t told → IsToldNow new.made (link_at link.Traceback (objects_of new) e) told
  told_now e told t has tells = subst (λ o. IsToldNow new.made o told) (sym (still_has e t has)) (by t (there t has) tells)
    where
      there : (t : Option Obj) → HasTraceback old e t → IfThere (IsTraceback old.made) t
      there t (b, has, is) = subst (IfThere (IsTraceback old.made)) (sym is) (traceback_there old e b readable has)

      by : (t : Option Obj) → IfThere (IsTraceback old.made) t → IsTold old new t told → IsToldNow new.made t told
      by None there none = none
      by (Some v) there (inl (one, is)) = is
      by (Some v) there (inr (none, has)) = absurd (none there)

-- a step of the running activation's frame
module _ (m : Core) (r : Running) (store : Kept) where
  pub step_tells : (s : FrameStep) (f : Framed) → IsReadable m.world.store → IsGrown m.world.store store → IsToldStep m.world.codes store.made r s f → TellsExit m.world.store store s → TellsStep store s
  step_tells (step.Ask (request.Exit x c e t) own) f readable grown taken exit =
      let (o, is_exit) =
      exit_told store.made (setting_of m.world.codes.names taken.code r.frame) r.frame.state f.state x c e t own _ taken.may.0 (taken.extends r.frame.state [] still) in
      by o is_exit
    where
      by : (o : Option PyBaseExceptionRef) → IsExit store.made o c e t → AsksNow store.made (objects_of store) (request.Exit x c e t)
      by None is_exit = inl is_exit
      by (Some exc) (is, (body, has, class), low, traceback) = let (found, had, told) = exit body has in inr (body, has, class, told_now m.world.store store readable grown e t found had told)
  step_tells (step.Ask _ own) f readable grown taken exit = tt
  step_tells step.Round f readable grown taken exit = tt
  step_tells (step.Yield v) f readable grown taken exit = tt
  step_tells (step.Return v) f readable grown taken exit = tt
  step_tells (step.Raise e) f readable grown taken exit = tt
  step_tells step.NoMemory f readable grown taken exit = tt

-- ---- it goes on

-- it goes on by its step
pub stepped_law : (m : Core) (d : Question) (r : Running) (store : Kept) (k : Keeps m d (stage.Going r)) (grown : IsGrown m.world.store store) (s : FrameStep) (f : Framed) (m' : Core) → IsToldStep m.world.codes store.made r s f
    → IsStepped (record m { world = record m.world { store = store }; slots = slice_set m.slots 0 f.state.slot }) (record r { frame = f }) s m' → Turns m d (stage.Going r) None m'
stepped_law m d r store k grown (step.Return v) f m' taken is =
    subst (Turns m d (stage.Going r) None) (sym is) (ended_law m d r store k grown (step.Return v) f (ending.Return v) refl taken taken.extends taken.wants taken.below.0.0 taken.below.0 tt)
stepped_law m d r store k grown (step.Raise v) f m' taken is =
    subst (Turns m d (stage.Going r) None) (sym is) (ended_law m d r store k grown (step.Raise v) f (ending.Raise v) refl taken taken.extends taken.wants (taken.below.0.0, taken.may.0) taken.below.0 tt)
stepped_law m d r store k grown (step.Ask q own) f m' taken is = subst (Turns m d (stage.Going r) None) (sym is) (asked_law m d r store k grown q own f taken)
stepped_law m d r store k grown step.Round f m' taken is = subst (Turns m d (stage.Going r) None) (sym is) (rounded_law m d r store k grown f taken)
stepped_law m d r store k grown (step.Yield v) f m' taken is = subst (Turns m d (stage.Going r) None) (sym is) (yielded_law m d r store k grown v f taken)
stepped_law m d r store k grown step.NoMemory f m' taken is = absurd is
