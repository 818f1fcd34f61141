-- Between drives generators stay as they are kept, as codes and objects come.
use Rattle.std.proofs.Common.{◌≡◌, ℕ, List, [], ◌∷◌, Some, sym, ap, ◌∙◌}
use Rattle.std.specs.Prelude.{Option, None, slice_get}
use Rattle.py_objects.specs.declared.payload.Payload.{Payload}
use Rattle.py_objects.specs.declared.event.Event.{Event}
use Rattle.py_objects.specs.declared.refs.PyBaseExceptionRef.{PyBaseExceptionRef}
use Rattle.py_objects.specs.Objects.{Obj}
use Rattle.py_objects.specs.Growth.{Grows}
use Rattle.py_objects.proofs.GrowthLemmas.{payload_grown}
use Rattle.py_check.specs.declared.annotated.Annotated.{Annotated}
use Rattle.py_coro.specs.Modes.{Mode, Fresh, Suspended as Left, Running as Entered, Closed}
use Rattle.py_rows.specs.RunOfRows.{started}
use Rattle.py_rows.proofs.GrowingLemmas.{run_grown}
use Rattle.py_frame.proofs.RunningLemmas.{running_grown}
use Rattle.py_run.specs.Run.{Activation, start, state_after}
use Rattle.py_vm.specs.declared.stage.Running.{Running}
use Rattle.py_vm.specs.declared.stage.Suspended.{Suspended}
use Rattle.py_vm.specs.declared.generators.KeptGenerator.{KeptGenerator}
use Rattle.py_vm.specs.Codes.{Checked}
use Rattle.py_vm.specs.Stands.{AreEach, AreKept, IsFresh, IsKept, IsLeft, KeepsIn, Plays}
use Rattle.py_vm.proofs.PlaysLemmas.{setting_in}
use Rattle.py_objects.proofs.FrameEntriesLemmas.{frame_stays}

-- these codes keep those, and these objects are more
module _ (codes : Checked) (list : List Annotated) (stay : (i : ℕ) (c : Annotated) → slice_get codes.codes i ≡ Some c → slice_get list i ≡ Some c) (globals : Obj) (objects objects' : List Payload) (events : List Event)
    (grows : Grows objects objects') where
  abbrev more : Checked
  more = record { names = codes.names; codes = list }

  abbrev plays_over : (r : Running) (slot : Option PyBaseExceptionRef) → Plays codes globals objects events r slot → Plays more globals objects' events r slot
  plays_over r slot p = record {
    at = p.at;
    numbered = p.numbered;
    activation = p.activation;
    is_made = p.is_made;
    body = p.body;
    is_function = payload_grown objects objects' _ _ grows p.is_function;
    placed = p.placed;
    entry = payload_grown objects objects' _ _ grows p.entry;
    made_with = frame_stays objects objects' p.at _ grows p.made_with;
    scoped = p.scoped;
    code = p.code;
    is_code = stay p.body.code p.code p.is_code;
    kind_is = p.kind_is;
    closed = p.closed;
    running = running_grown objects objects' codes.names p.code r.frame grows p.running;
    told = p.told;
    run = run_grown objects objects' grows (setting_in codes globals p.code r.frame.closure) (started p.code.code slot p.activation.args) r.frame.state p.told p.run;
    whole = p.whole;
  }

  fresh_over : (r : Running) → IsFresh codes globals objects events r → IsFresh more globals objects' events r
  fresh_over r x = record { plays = plays_over r _ x.plays; begins = x.begins; unheard = x.unheard }

  left_over : (s : Suspended) → IsLeft codes globals objects events s → IsLeft more globals objects' events s
  left_over s x = record {
    plays = plays_over s.running _ x.plays;
    waits = x.waits;
    slot = x.slot;
    kind = x.kind;
    kind_is = x.kind_is;
  }

  keeps_over : (mode : Mode) (x : KeptGenerator) → KeepsIn codes globals objects events mode x → KeepsIn more globals objects' events mode x
  keeps_over Fresh x (s, is, act, unentered) = (s, is, act, record { fresh = fresh_over s.running unentered.fresh; slot = unentered.slot; kind = unentered.kind; kind_is = unentered.kind_is })
  keeps_over Left x (s, is, act, left) = (s, is, act, left_over s left)
  keeps_over Entered x none = none
  keeps_over Closed x none = none

  each_over : (made : ℕ) (kept : List KeptGenerator) → AreEach codes globals objects events made kept → AreEach more globals objects' events made kept
  each_over made [] each = tt
  each_over made (x ∷ xs) each =
      let k : IsKept codes globals objects events made x = each.0 in
      (record { body = k.body; entry = payload_grown objects objects' _ _ grows k.entry; kind_is = k.kind_is; activation = keeps_over x.generator.mode x k.activation; low = k.low }, each_over made xs each.1)

  pub kept_over : (made : ℕ) (kept : List KeptGenerator) → AreKept codes globals objects events made kept → AreKept more globals objects' events made kept
  kept_over made kept k = record { each = each_over made kept k.each; single = k.single }

-- no activation was made in front of the first event
pub none_made : (events : List Event) (i : ℕ) (a : Activation) → events ≡ [] → slice_get (state_after start events).made i ≡ Some a → ⊥
none_made events i a none made = let same : None ≡ Some a = sym (ap (λ es. slice_get (state_after start es).made i) none) ∙ made in cc same

-- so none waits to be entered, whatever dict the globals are
module _ (codes : Checked) (globals globals' : Obj) (objects : List Payload) (events : List Event) (none : events ≡ []) where
  keeps_other : (mode : Mode) (x : KeptGenerator) → KeepsIn codes globals objects events mode x → KeepsIn codes globals' objects events mode x
  keeps_other Fresh x (s, is, act, unentered) = let p = unentered.fresh.plays in absurd (none_made events p.at p.activation none p.is_made)
  keeps_other Left x (s, is, act, left) = let p = left.plays in absurd (none_made events p.at p.activation none p.is_made)
  keeps_other Entered x waits = waits
  keeps_other Closed x waits = waits

  each_other : (made : ℕ) (kept : List KeptGenerator) → AreEach codes globals objects events made kept → AreEach codes globals' objects events made kept
  each_other made [] each = tt
  each_other made (x ∷ xs) each =
      let k : IsKept codes globals objects events made x = each.0 in
      (record { body = k.body; entry = k.entry; kind_is = k.kind_is; activation = keeps_other x.generator.mode x k.activation; low = k.low }, each_other made xs each.1)

  pub kept_other : (made : ℕ) (kept : List KeptGenerator) → AreKept codes globals objects events made kept → AreKept codes globals' objects events made kept
  kept_other made kept k = record { each = each_other made kept k.each; single = k.single }
