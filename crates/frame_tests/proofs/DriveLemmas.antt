-- Frames that are driven.
use Rattle.std.proofs.Common.{◌≡◌, ◌∙◌, ◌<◌, ◌≤◌, ◌++◌, ℕ, zero, suc, List, [], ◌∷◌, None, Some, true, false, refl, sym, ap, subst, inl, inr, length, append_assoc, arith}
use Rattle.std.specs.Prelude.{Option, replicate, slice_get}
use Rattle.py_code.specs.declared.names.NameId.{NameId}
use Rattle.py_objects.specs.declared.refs.FrameRef.{FrameRef}
use Rattle.py_objects.specs.declared.refs.PyBaseExceptionRef.{PyBaseExceptionRef}
use Rattle.py_objects.specs.declared.scope.Scope.{Scope}
use Rattle.py_objects.specs.declared.payload.Payload.{Payload}
use Rattle.py_objects.specs.declared.payload.Payload.TheVariants as payload
use Rattle.py_objects.specs.declared.edit.Change.{Change}
use Rattle.py_objects.specs.Edits.{Kept, changed_by, objects_of}
use Rattle.py_objects.specs.Scopes.{scope_of}
use Rattle.py_objects.specs.Objects.{Obj, IsException, IsTraceback, number_if, AllBelow}
use Rattle.py_objects.specs.Growth.{Grows, GrowsPlainly}
use Rattle.py_stack.specs.Slots.{Slots, top_of}
use Rattle.py_check.specs.declared.annotated.Annotated.{Annotated}
use Rattle.py_check.specs.Depths.{deepest}
use Rattle.py_check.specs.Sheet.{sheet_of}
use Rattle.py_check.specs.Typing.{IsTyped}
use Rattle.py_check.specs.Running.{AllRun}
use Rattle.py_rows.specs.declared.expect.Expect.{Expect}
use Rattle.py_rows.specs.declared.expect.Expect.TheVariants as expect
use Rattle.py_rows.specs.Below.{HearsBelow}
use Rattle.py_rows.specs.Sound.{ArePlaces, IsSound}
use Rattle.py_rows.specs.RunOfRows.{filled, is_thrown_into}
use Rattle.py_rows.specs.States.{Setting}
use Rattle.py_frame.specs.declared.input.Input.{Input}
use Rattle.py_frame.specs.Added.{ClassesAreThere}
use Rattle.py_frame.specs.Frames.{Framed, NamedCode, unfilled}
use Rattle.py_frame.specs.Steps.{Expects, events, heard}
use Rattle.py_frame.specs.Running.{IsRunning}
use Rattle.py_frame.proofs.RunningLemmas.{fresh_runs}
use Rattle.frame_tests.specs.Codes.{IsCodeOf}
use Rattle.frame_tests.specs.declared.tables.Row.{Row}
use Rattle.frame_tests.specs.declared.tables.First.TheVariants as first
use Rattle.frame_tests.specs.Drives.{IsDriven}
use Rattle.frame_tests.specs.FirstObjects.{first_objects, exception_body, object_at, payload_of}
use Rattle.frame_tests.specs.Inputs.{IsExpected}

-- an entry's class is there, where it is an exception
abbrev HasClass : Payload → Type 0
HasClass (payload.Exception e) = e.class.number < length first_objects
HasClass _ = Unit {0}

first_has : (i : ℕ) (p : Payload) → slice_get first_objects i ≡ Some p → HasClass p
first_has zero p is = subst HasClass (let same : payload.None ≡ p = cc in same) tt
first_has (suc zero) p is = subst HasClass (let same : payload.Bool false ≡ p = cc in same) tt
first_has (suc (suc zero)) p is = subst HasClass (let same : payload.Bool true ≡ p = cc in same) tt
first_has (suc (suc (suc zero))) p is = subst HasClass (let same : payload_of first.Class ≡ p = cc in same) tt
first_has (suc (suc (suc (suc zero)))) p is = subst HasClass (let same : payload.Tuple [] ≡ p = cc in same) tt
first_has (suc (suc (suc (suc (suc zero))))) p is = subst HasClass (let same : payload.Exception exception_body ≡ p = cc in same) (omega arith)
first_has (suc (suc (suc (suc (suc (suc zero)))))) p is = subst HasClass (let same : payload.Exception exception_body ≡ p = cc in same) (omega arith)
first_has (suc (suc (suc (suc (suc (suc (suc zero))))))) p is = subst HasClass (let same : payload.Frame 0 ≡ p = cc in same) tt
first_has (suc (suc (suc (suc (suc (suc (suc (suc zero)))))))) p is = subst HasClass (let same : payload_of first.Manager ≡ p = cc in same) tt
first_has (suc (suc (suc (suc (suc (suc (suc (suc (suc zero))))))))) p is = subst HasClass (let same : payload_of first.Traceback ≡ p = cc in same) tt
first_has (suc (suc (suc (suc (suc (suc (suc (suc (suc (suc i)))))))))) p is = absurd (cc is)

-- so each exception's is
pub first_classes : ClassesAreThere first_objects
first_classes v e has = first_has v.number (payload.Exception e) has

-- exception 6 and traceback 9 are there, where nothing has changed
pub first_exception : (s : Kept) → s.made ≡ first_objects → s.changes ≡ [] → IsException (objects_of s) (object_at 6)
first_exception s made changes =
    let here : slice_get first_objects 6 ≡ Some (payload.Exception exception_body) = refl in
    let was : slice_get s.made 6 ≡ Some (payload.Exception exception_body) = ap (λ (os : List Payload). slice_get os 6) made ∙ here in
    (exception_body, subst (λ (cs : List Change). slice_get (changed_by s.made cs) 6 ≡ Some (payload.Exception exception_body)) (sym changes) was)

pub first_traceback : (objects : List Payload) → objects ≡ first_objects → IsTraceback objects (object_at 9)
first_traceback objects made = subst (λ (os : List Payload). IsTraceback os (object_at 9)) (sym made) (_, refl)

-- a frame that was filled with a value and a manager runs
pub frame_runs : (names : List (List ℕ)) (code : Annotated) (made now : Framed) (entry : FrameRef) (scope : Scope) (closure args : List Obj) (room : ℕ) (locals : List (Option Obj))
    → made ≡ unfilled code 0 entry scope closure room made.block_room → deepest code.notes ≤ made.block_room → locals ≡ filled (length code.code.code.varnames.items) args
    → now ≡ record made { state = record made.state { locals = locals } } → scope ≡ scope_of None (object_at 0) → args ≡ object_at 2 ∷ object_at 8 ∷ [] → room ≡ code.code.code.max_stackdepth
    → IsSound names code → IsRunning first_objects names code now
frame_runs names code made now entry scope closure args room locals is blocks are fills globals low has_room sound =
    let with_locals : Framed → List (Option Obj) → Framed = λ f ls. record f { state = record f.state { locals = ls } } in
    let same : now ≡ with_locals (unfilled code 0 entry scope closure room made.block_room) (filled (length code.code.code.varnames.items) args) =
    fills ∙ ap (λ f. with_locals f locals) is ∙ ap (λ ls. with_locals (unfilled code 0 entry scope closure room made.block_room) ls) are in
    subst (IsRunning first_objects names code) (sym same)
    (fresh_runs first_objects names code 0 entry scope closure room made.block_room args sound
    (rw globals (omega arith)) (rw low (omega arith, (omega arith, tt))) (omega (arith, has_room)) blocks)

-- what is expected among the first objects is among more
pub expected : (objects : List Payload) (setting : Setting) (x y : Expect) (i : Input) → IsExpected x i → x ≡ y → Grows first_objects objects → is_thrown_into setting.code.code.flags ≡ true
    → Expects objects setting y i × ((k : ℕ) → HearsBelow (length objects) (events (heard k i)))
expected objects setting x y i fits same (more, is) flags =
    subst (λ (z : Expect). Expects objects setting z i × ((k : ℕ) → HearsBelow (length objects) (events (heard k i)))) same
    (subst (λ (os : List Payload). Expects os setting x i × ((k : ℕ) → HearsBelow (length os) (events (heard k i)))) (sym is) (fits more setting flags))

-- a frame that made a step is still driven
pub driven_on : (old new : List Payload) (scene : NamedCode) (before slots : Slots) (f g : Framed) → IsDriven old scene before f → GrowsPlainly old new
    → ClassesAreThere new → IsRunning new scene.names scene.code g → top_of slots ≡ g.state.slot → IsDriven new scene slots g
driven_on old new scene before slots f g driven grows classes running left = record {
  running = running;
  classes = classes;
  grown = (driven.grown.0 ++ grows.more, grows.is ∙ ap (λ os. os ++ grows.more) driven.grown.1 ∙ append_assoc first_objects driven.grown.0 grows.more);
  slot_fits = record { below = subst (λ (s : Option PyBaseExceptionRef). AllBelow (length new) (number_if s)) (sym left) running.below.in_slot; left = inr left };
}

-- the first name is a place in a table that isn't empty
first_place : (names : List (List ℕ)) (id : NameId) → 0 < length names → Some (record { index = 0 }) ≡ Some id → id.index < length names
first_place names id some is = let same : record { index = 0 } ≡ id = cc in subst (λ (x : NameId). x.index < length names) same some

places : (names : List (List ℕ)) (n : ℕ) → 0 < length names → ArePlaces names (replicate n (record { index = 0 }))
places names zero some i id here = cc
places names (suc n) some zero id here = first_place names id some here
places names (suc n) some (suc i) id here = places names n some i id here

-- a table's code is sound
pub sound : (rows : List Row) (names : List (List ℕ)) (code : Annotated) → IsCodeOf rows code → IsTyped [] (sheet_of code) → AllRun (sheet_of code)
    → 0 < length names → IsSound names code
sound rows names code of typed runs some = record { shapes = []; typed = typed; runs = runs; named = record { locals = rw of.varnames (places names 3 some); globals = rw of.names (places names 1 some) } }

-- a frame that hasn't begun is driven
pub driven_first : (objects : List Payload) (scene : NamedCode) (f : Framed) → objects ≡ first_objects → IsRunning objects scene.names scene.code f → f.state.wants ≡ expect.Start → IsDriven objects scene (Some (record { number = 6 }) ∷ []) f
driven_first objects scene f is running fresh = record {
  running = running;
  classes = subst ClassesAreThere (sym is) first_classes;
  grown = ([], is);
  slot_fits = record { below = rw is (omega arith, tt); left = inl fresh };
}
