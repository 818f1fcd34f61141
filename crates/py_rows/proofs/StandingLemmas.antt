-- Where a frame stands behind each step, of which unit it tells, and what it holds and names.
use Rattle.std.proofs.Common.{◌≡◌, ◌∙◌, ◌<◌, ◌-◌, ℕ, List, [], ◌∷◌, Option, refl, sym, ap, subst, length, arith}
use Rattle.py_code.specs.declared.code.PyCode.{PyCode}
use Rattle.py_objects.specs.declared.refs.PyBaseExceptionRef.{PyBaseExceptionRef}
use Rattle.py_objects.specs.declared.payload.Payload.{Payload}
use Rattle.py_objects.specs.declared.event.ResumeHow.TheVariants as how
use Rattle.py_objects.specs.Objects.{Obj, AllBelow, numbers, number_if}
use Rattle.py_objects.specs.Own.{Own, Resumes, Gets}
use Rattle.py_rows.specs.declared.expect.Expect.{Expect}
use Rattle.py_rows.specs.declared.expect.Expect.TheVariants as expect
use Rattle.py_rows.specs.States.{Setting, State, Step, Goes, Tells, waiting}
use Rattle.py_rows.specs.Slot.{KeepsSlot}
use Rattle.py_rows.specs.Receiving.{moves}
use Rattle.py_rows.specs.RunOfRows.{Hears, MayLead, started, Steps, silent, telling, hearing}
use Rattle.py_rows.specs.Standing.{IsPlaced, IsOf, IsStanding}
use Rattle.py_rows.specs.Below.{heard_numbers, told_numbers, HearsBelow, TellsBelow, ExpectBelow, HoldsBelow}
use Rattle.py_rows.proofs.HandledBelowLemmas.{filled_below}
use Rattle.py_rows.proofs.WalkLemmas.{placed_going, Led, begun_by, step_led}

-- what is heard comes to where it waited, of no unit; it tells nothing, and what it names is what is heard
abbrev Heard : ℕ → ℕ → State → State → Expect → Own → Expect → Type 0
Heard n at s t x o w = IsOf at t o × (IsPlaced at x s → IsPlaced at w (waiting w s)) × AllBelow n (told_numbers o) × (AllBelow n (heard_numbers o) → ExpectBelow n w)

heard : (objects : List Payload) (setting : Setting) (n at : ℕ) (s t : State) (x : Expect) (o : Own) (w : Expect) → Hears objects setting x o w → Heard n at s t x o w
heard objects setting n at s t expect.Start (Resumes k how.Start) w hears = subst (Heard n at s t expect.Start (Resumes k how.Start)) (sym hears) (tt, λ placed. tt, tt, λ low. tt)
heard objects setting n at s t expect.Start (Resumes k (how.Throw e)) w hears = subst (Heard n at s t expect.Start (Resumes k (how.Throw e))) (sym hears.1) (tt, λ placed. placed, tt, λ low. low)
heard objects setting n at s t (expect.Answer wanted) (Gets k g) w hears = subst (Heard n at s t (expect.Answer wanted) (Gets k g)) (sym hears.1) (tt, λ placed. placed, tt, λ low. low)
heard objects setting n at s t expect.Resume (Resumes k (how.Send v)) w hears = subst (Heard n at s t expect.Resume (Resumes k (how.Send v))) (sym hears) (tt, λ placed. placed, tt, λ low. low)
heard objects setting n at s t expect.Resume (Resumes k (how.Throw e)) w hears = subst (Heard n at s t expect.Resume (Resumes k (how.Throw e))) (sym hears.1) (tt, λ placed. placed, tt, λ low. low)
heard objects setting n at s t _ _ w hears = absurd hears

-- where the slot was kept
kept_led : (objects : List Payload) (setting : Setting) (first : Option PyBaseExceptionRef) (s : State) (step : Step) → KeepsSlot first s → MayLead objects (moves setting s.wants s) step → Led first (length objects) (Unit {0}) ⊥ s.at (begun_by s.wants s) step
kept_led objects setting first s step k may =
    step_led first (Unit {0}) ⊥ objects setting s
    (record { good = record { handled = λ m. k.slot; keep = λ m. k.outer; blocks = λ m. absurd m; exception = λ m. absurd m }; stack = λ m. absurd m; locals = λ m. absurd m })
    step (λ m. absurd m) (λ m. absurd m) may

-- where all was among the objects
low_led : (objects : List Payload) (setting : Setting) (s : State) (step : Step) → setting.globals.number < length objects → HoldsBelow (length objects) s → MayLead objects (moves setting s.wants s) step → Led s.slot (length objects) ⊥ (Unit {0}) s.at (begun_by s.wants s) step
low_led objects setting s step globals h may =
    step_led s.slot ⊥ (Unit {0}) objects setting s
    (record { good = record { handled = λ m. absurd m; keep = λ m. absurd m; blocks = λ m. h.in_blocks; exception = λ m. h.in_slot }; stack = λ m. h.in_stack; locals = λ m. h.in_locals })
    step (λ m. globals) (λ m. h.in_wants) may

pub slot_kept : (objects : List Payload) (setting : Setting) (first : Option PyBaseExceptionRef) (s t : State) (xs : List Own) → KeepsSlot first s → Steps objects setting s xs t → KeepsSlot first t
slot_kept objects setting first s _ _ k (silent t may) = let good = (kept_led objects setting first s (Goes t) k may).2.good in record { slot = good.handled tt; outer = good.keep tt }
slot_kept objects setting first s _ _ k (telling x t may) = let good = (kept_led objects setting first s (Tells x t) k may).4.good in record { slot = good.handled tt; outer = good.keep tt }
slot_kept objects setting first s _ _ k (hearing x w hears under) = record { slot = k.slot; outer = k.outer }

-- the unit that runs, or that waited, is the one that was begun last
last_begun : (x : Expect) (s : State) → IsPlaced (s.last - 1) x s → begun_by x s - 1 ≡ s.at
last_begun expect.Start s placed = sym placed
last_begun expect.Go s placed = omega arith
last_begun (expect.Answer w) s placed = sym placed
last_begun expect.Resume s placed = sym placed
last_begun (expect.Heard w) s placed = sym placed
last_begun expect.Ended s placed = omega arith

-- a step that tells leaves it so
told_of : (objects : List Payload) (setting : Setting) (first : Option PyBaseExceptionRef) (s : State) (x : Own) (t : State) → IsStanding first s → MayLead objects (moves setting s.wants s) (Tells x t) → t.last - 1 ≡ s.at
told_of objects setting first s x t standing may =
    let led = kept_led objects setting first s (Tells x t) standing.slot may in
    ap (λ (n : ℕ). n - 1) led.1 ∙ last_begun s.wants s standing.placed

pub steps_stand : (objects : List Payload) (setting : Setting) (first : Option PyBaseExceptionRef) (s t : State) (xs : List Own) → IsStanding first s → Steps objects setting s xs t → IsStanding first t
steps_stand objects setting first s _ _ standing (silent t may) =
    record { placed = placed_going (t.last - 1) t (kept_led objects setting first s (Goes t) standing.slot may).1; slot = slot_kept objects setting first s t [] standing.slot (silent t may) }
steps_stand objects setting first s _ _ standing (telling x t may) =
    let led = kept_led objects setting first s (Tells x t) standing.slot may in
    record { placed = subst (λ (n : ℕ). IsPlaced n t.wants t) (sym (told_of objects setting first s x t standing may)) led.2; slot = slot_kept objects setting first s t (x ∷ []) standing.slot (telling x t may) }
steps_stand objects setting first s _ _ standing (hearing x w hears under) =
    record { placed = (heard objects setting 0 (s.last - 1) s s s.wants x w hears).1 standing.placed; slot = record { slot = standing.slot.slot; outer = standing.slot.outer } }

pub events_told : (objects : List Payload) (setting : Setting) (first : Option PyBaseExceptionRef) (s t : State) (x : Own) → IsStanding first s → Steps objects setting s (x ∷ []) t → IsOf (t.last - 1) t x
events_told objects setting first s _ _ standing (telling x t may) =
    subst (λ (n : ℕ). IsOf n t x) (sym (told_of objects setting first s x t standing may)) (kept_led objects setting first s (Tells x t) standing.slot may).0
events_told objects setting first s _ _ standing (hearing x w hears under) = (heard objects setting 0 (s.last - 1) s (waiting w s) s.wants x w hears).0

pub silent_later : (objects : List Payload) (setting : Setting) (first : Option PyBaseExceptionRef) (s t : State) → IsStanding first s → Steps objects setting s [] t → (s.at < t.at) × (t.wants ≡ expect.Go)
silent_later objects setting first s _ standing (silent t may) = let led = kept_led objects setting first s (Goes t) standing.slot may in (led.0, led.1)

pub start_stands : (code : PyCode) (slot : Option PyBaseExceptionRef) (args : List Obj) → IsStanding slot (started code slot args)
start_stands code slot args = record { placed = refl; slot = record { slot = refl; outer = tt } }

pub steps_below : (objects : List Payload) (setting : Setting) (s t : State) (xs : List Own) → setting.globals.number < length objects → HoldsBelow (length objects) s → HearsBelow (length objects) xs → Steps objects setting s xs t
    → TellsBelow (length objects) xs × HoldsBelow (length objects) t
steps_below objects setting s _ _ there h hears (silent t may) =
    let led = low_led objects setting s (Goes t) there h may in
    let holds = led.2 in
    (tt, record { in_stack = holds.stack tt; in_locals = holds.locals tt; in_blocks = holds.good.blocks tt; in_slot = holds.good.exception tt; in_wants = subst (ExpectBelow (length objects)) (sym led.1) tt })
steps_below objects setting s _ _ there h hears (telling x t may) =
    let led = low_led objects setting s (Tells x t) there h may in
    let holds = led.4 in
    (((led.3 tt).0, tt), record { in_stack = holds.stack tt; in_locals = holds.locals tt; in_blocks = holds.good.blocks tt; in_slot = holds.good.exception tt; in_wants = (led.3 tt).1 })
steps_below objects setting s _ _ there h hears (hearing x w hear under) =
    let known = heard objects setting (length objects) 0 s s s.wants x w hear in
    ((known.2, tt), record { in_stack = h.in_stack; in_locals = h.in_locals; in_blocks = h.in_blocks; in_slot = h.in_slot; in_wants = known.3 hears.0 })

pub start_below : (n : ℕ) (code : PyCode) (slot : Option PyBaseExceptionRef) (args : List Obj) → AllBelow n (number_if slot) → AllBelow n (numbers args) → HoldsBelow n (started code slot args)
start_below n code slot args low below = record { in_stack = tt; in_locals = filled_below n (length code.code.varnames.items) args below; in_blocks = tt; in_slot = low; in_wants = tt }
