-- A machine that was just made holds what it has to, and is between drives.
use Rattle.std.proofs.Common.{◌≡◌, ◌<◌, ◌^◌, ◌++◌, ℕ, List, [], ◌∷◌, true, false, Some, refl, sym, ap, subst, ◌∙◌, length, append_assoc, arith}
use Rattle.std.specs.Prelude.{None, slice_get}
use Rattle.py_objects.specs.declared.payload.Payload.{Payload}
use Rattle.py_objects.specs.declared.payload.Payload.TheVariants as payload
use Rattle.py_objects.specs.Objects.{Obj, Name, declared, AllFit}
use Rattle.py_objects.specs.Attrs.{value_of}
use Rattle.py_objects.specs.Own.{own_events}
use Rattle.py_objects.specs.Edits.{Kept}
use Rattle.py_vm.specs.declared.stage.Stage.TheVariants as stage
use Rattle.py_exceptions.specs.declared.zoo.ExceptionZoo.{ExceptionZoo}
use Rattle.py_vm.specs.declared.machinery.Core.{Core}
use Rattle.py_run.specs.Run.{State, start, state_after}
use Rattle.py_exceptions.specs.Classes.{class_payloads, declarations_of, first_classes, DeclareNothing, HaveClasses}
use Rattle.py_exceptions.proofs.ClassesLemmas.{value_declared}
use Rattle.py_objects.specs.Singletons.{singletons}
use Rattle.py_run.specs.First.{first_objects, first_globals}
use Rattle.py_run.proofs.FirstLemmas.{each_single, each_first, singles_plain, first_fit, first_have}
use Rattle.py_vm.specs.Machine.{new_machine}
use Rattle.py_vm.specs.Beginning.{Begins, IsFresh}
use Rattle.py_vm.specs.Holds.{IsCoded}
use Rattle.py_vm.specs.Stands.{AreApart, AreKept, AtStage, phase_of, acts_of, frames_at, slots_at, IsIdle, seen}
use Rattle.py_run.proofs.OwnLemmas.{own_events-nil}
use Rattle.py_objects.proofs.GrownLemmas.{added_made}
use Rattle.py_objects.specs.Growth.{with_object}
use Rattle.py_objects.proofs.NewLemmas.{added_has}
use Rattle.py_objects.specs.FrameEntries.{frames_in}
use Rattle.py_objects.specs.Originals.{AreMarked, ChangesBelow}

-- the names that a machine begins with
first_declared : (x : Name) → value_of x (declarations_of first_classes) ≡ declared first_objects x
first_declared x = value_declared first_classes x (payload.Dict [] ∷ []) (λ j. refl)

-- none of them names a code
first_coded : (i : ℕ) (p : Payload) → slice_get first_objects i ≡ Some p → IsCoded 0 p
first_coded i p is = each_first (λ n. IsCoded 0) (λ j q at. each_single (λ n. IsCoded 0) tt tt tt j q at) (λ kind. tt) (λ n. tt) i p is

-- classes can go behind what every store begins with
pub singles_take : (made : List Payload) → made ≡ singletons → DeclareNothing made × (length made < 2 ^ 32)
singles_take made is = (subst DeclareNothing (sym is) singles_plain, let three : length made ≡ 3 = ap length is in omega (arith, three))

-- a store of None, False and True and of the classes behind them
pub record ClassesBegin (s : Kept) (zoo : ExceptionZoo) : Type 0 where
  pub classes : zoo ≡ first_classes
  pub made : s.made ≡ singletons ++ class_payloads first_classes
  pub unchanged : s.changes ≡ []
  pub mark : s.mark ≡ 0

-- what a machine's store has in front of the classes
pub record SinglesBegin (s : Kept) : Type 0 where
  pub made : s.made ≡ singletons
  pub unchanged : s.changes ≡ []
  pub mark : s.mark ≡ 0

-- a new store that got False and True
pub singles_begin : (first second third : Kept) → IsFresh first → second ≡ record first { made = first.made ++ payload.Bool false ∷ [] }
    → third ≡ record second { made = second.made ++ payload.Bool true ∷ [] } → SinglesBegin third
singles_begin first second third fresh one two = record {
  made = ap (λ (s : Kept). s.made) two ∙ ap (λ (s : Kept). s.made ++ payload.Bool true ∷ []) one ∙ ap (λ os. (os ++ payload.Bool false ∷ []) ++ payload.Bool true ∷ []) fresh.made;
  unchanged = ap (λ (s : Kept). s.changes) two ∙ ap (λ (s : Kept). s.changes) one ∙ fresh.unchanged;
  mark = ap (λ (s : Kept). s.mark) two ∙ ap (λ (s : Kept). s.mark) one ∙ fresh.mark;
}

-- the classes come behind them
pub classes_begin : (old new : Kept) (zoo : ExceptionZoo) → SinglesBegin old → zoo.first ≡ length old.made
    → new ≡ record old { made = old.made ++ class_payloads zoo } → ClassesBegin new zoo
classes_begin old new zoo singles first added =
    let same : zoo ≡ first_classes = ap (λ n. let z : ExceptionZoo = record { first = n } in z) (first ∙ ap length singles.made) in
    record {
      classes = same;
      made = ap (λ (s : Kept). s.made) added ∙ ap (λ os. os ++ class_payloads zoo) singles.made ∙ ap (λ z. singletons ++ class_payloads z) same;
      unchanged = ap (λ (s : Kept). s.changes) added ∙ singles.unchanged;
      mark = ap (λ (s : Kept). s.mark) added ∙ singles.mark;
    }

-- an empty dict is put behind the classes
pub dict_begins : (old new : Kept) (zoo : ExceptionZoo) (pairs : List (Obj × Obj)) (globals : Obj) → ClassesBegin old zoo
    → pairs ≡ [] → new ≡ with_object old (payload.Dict pairs) → globals.number ≡ length old.made → Begins new zoo globals
dict_begins old new zoo pairs globals begun none added last =
    let all : new ≡ with_object old (payload.Dict []) = added ∙ ap (λ ps. with_object old (payload.Dict ps)) none in
    let long : length (singletons ++ class_payloads first_classes) ≡ 70 = refl in
    record {
      objects = added_made old new (payload.Dict []) all ∙ ap (λ os. os ++ payload.Dict [] ∷ []) begun.made ∙ append_assoc singletons (class_payloads first_classes) (payload.Dict [] ∷ []);
      unchanged = ap (λ (s : Kept). s.changes) all ∙ begun.unchanged;
      mark = ap (λ (s : Kept). s.mark) all ∙ begun.mark;
      classes = begun.classes;
      globals_are = added_has old new (payload.Dict []) globals all last;
      place = ap (λ n. let v : Obj = record { number = n } in v) (last ∙ ap length begun.made ∙ long);
    }

-- a machine that has done nothing, as callers see it
pub seen_first : (m : Core) (names : List Name) → m.world.store.made ≡ first_objects → m.world.store.changes ≡ [] → m.world.codes ≡ record { names = names; codes = [] } → m.globals ≡ first_globals → m.events ≡ [] → m.world.generators ≡ [] → m.frames ≡ []
    → seen m ≡ record (new_machine names) { entered = m.entered; failed = m.failed; state = m.state }
seen_first m names objects unchanged codes globals no_events no_generators no_frames = rw (objects, unchanged, codes, globals, no_events, no_generators, no_frames)

-- a machine that has done nothing is between drives
pub start_idle : (m : Core) → m.events ≡ [] → Begins m.world.store m.world.zoo m.globals → m.world.codes.codes ≡ [] → m.world.declarations ≡ declarations_of first_classes → m.done ≡ 0 → m.made ≡ 0
    → m.callers ≡ [] → m.world.generators ≡ [] → m.frames ≡ [] → m.slots ≡ None ∷ [] → m.stage ≡ stage.Idle → IsIdle m
start_idle m no_events begins no_codes names none_done none_made no_callers no_generators no_frames empty idle =
    let fit : AllFit m.world.store.made = subst AllFit (sym begins.objects) first_fit in
    let nothing : state_after start m.events ≡ start = ap (state_after start) no_events in
    record {
      keeps = λ d. record {
        follows = record {
          done = ap (λ (s : State). s.done) nothing ∙ sym none_done;
          phase = ap (λ (s : State). s.phase) nothing ∙ ap phase_of (sym idle);
          stack = ap (λ (s : State). s.stack) nothing ∙ ap (λ hs. acts_of m.events hs stage.Idle) (sym no_callers) ∙ ap (acts_of m.events m.callers) (sym idle);
          made = ap (λ (s : State). length s.made) nothing ∙ sym none_made;
        };
        stored = record {
          readable = record {
            unread = λ i c here. absurd (let none : None ≡ Some c = sym (ap (λ l. slice_get l i) begins.unchanged) ∙ here in cc none);
            fit = fit;
          };
          classes = subst (λ zoo. HaveClasses zoo m.world.store.made) (sym begins.classes) (subst (HaveClasses first_classes) (sym begins.objects) first_have);
          dict = ([], begins.globals_are);
          names_are = λ x. ap (value_of x) names ∙ first_declared x ∙ ap (λ os. declared os x) (sym begins.objects);
        };
        marked = record {
          mark = omega (arith, begins.mark);
          past = subst (AreMarked (length m.events)) (sym begins.unchanged) tt;
          below = subst (ChangesBelow (length m.world.store.made)) (sym begins.unchanged) tt;
        };
        runnable = record {
          each = λ i c here. absurd (let none : None ≡ Some c = sym (ap (λ l. slice_get l i) no_codes) ∙ here in cc none);
          coded = λ i p here. subst (λ n. IsCoded n p) (ap length (sym no_codes)) (first_coded i p (ap (λ l. slice_get l i) (sym begins.objects) ∙ here));
        };
        told = record {
          tells = λ i a made. absurd (let none : None ≡ Some a = sym (ap (λ (s : State). slice_get s.made i) nothing) ∙ made in cc none);
          later = λ b past. ap (own_events b) no_events ∙ own_events-nil b;
          named = record {
            in_events = λ i e here. absurd (let none : None ≡ Some e = sym (ap (λ l. slice_get l i) no_events) ∙ here in cc none);
            in_payloads = λ i p here. (fit i p here).0;
          };
          framed = ap (λ (os : List Payload). length (frames_in os)) begins.objects ∙ sym none_made;
        };
        kept = subst (AreKept m.world.codes m.globals m.world.store.made m.events m.made) (sym no_generators) (record { each = tt; single = tt });
        nested = record {
          apart = subst AreApart (sym no_callers) tt;
          frames = no_frames ∙ ap (λ hs. frames_at hs stage.Idle) (sym no_callers) ∙ ap (frames_at m.callers) (sym idle);
          slots = empty ∙ ap (λ hs. slots_at hs stage.Idle) (sym no_callers) ∙ ap (slots_at m.callers) (sym idle);
        };
        at_stage = subst (AtStage m.world.codes m.globals m.world.store.made m.events m.world.generators d m.made m.callers) (sym idle) no_callers;
      };
      idle = idle;
    }
