-- What holds of each step holds of whole runs.
use Rattle.std.proofs.Common.{◌≡◌, ◌∙◌, ◌<◌, ◌-◌, ◌++◌, ℕ, List, [], ◌∷◌, Option, ap, subst, length}
use Rattle.py_code.specs.declared.code.PyCode.{PyCode}
use Rattle.py_objects.specs.declared.refs.PyBaseExceptionRef.{PyBaseExceptionRef}
use Rattle.py_objects.specs.declared.payload.Payload.{Payload}
use Rattle.py_objects.specs.Objects.{Obj, AllBelow, numbers, number_if}
use Rattle.py_objects.specs.Own.{Own}
use Rattle.py_check.specs.declared.annotated.Annotated.{Annotated}
use Rattle.py_rows.specs.declared.expect.Expect.{Expect}
use Rattle.py_rows.specs.declared.expect.Expect.TheVariants as expect
use Rattle.py_rows.specs.States.{Setting, State}
use Rattle.py_rows.specs.Handled.{handled_in}
use Rattle.py_rows.specs.Slot.{KeepsSlot}
use Rattle.py_rows.specs.Standing.{IsPlaced, IsStanding}
use Rattle.py_rows.specs.RunOfRows.{Runs, none, on, started}
use Rattle.py_rows.specs.Fitting.{FitsAt}
use Rattle.py_rows.specs.Sound.{IsSound}
use Rattle.py_rows.specs.Below.{HearsBelow, TellsBelow, HoldsBelow}
use Rattle.py_rows.specs.Laws.{AllMayTell, setting_of}
use Rattle.py_rows.proofs.StepLemmas.{steps_fit, steps_tell, start_fits}
use Rattle.py_rows.proofs.StandingLemmas.{start_stands, steps_stand, start_below, steps_below}

fits_on : (objects : List Payload) (names : List (List ℕ)) (globals : Obj) (closure : List Obj) (code : Annotated) → IsSound names code → (s t : State) (xs : List Own) → FitsAt objects code s.wants s → Runs objects (setting_of names globals closure code) s xs t
    → FitsAt objects code t.wants t
fits_on objects names globals closure code sound s _ _ fits none = fits
fits_on objects names globals closure code sound s _ _ fits (on {us = us} {vs = vs} {t = t} u run step) = steps_fit objects names globals closure code sound t vs u (fits_on objects names globals closure code sound s t us fits run) step

pub runs_fit : (objects : List Payload) (names : List (List ℕ)) (globals : Obj) (closure : List Obj) (code : Annotated) (slot : Option PyBaseExceptionRef) (args : List Obj) (t : State) (xs : List Own) → IsSound names code
    → Runs objects (setting_of names globals closure code) (started code.code slot args) xs t → FitsAt objects code t.wants t
runs_fit objects names globals closure code slot args t xs sound run = fits_on objects names globals closure code sound (started code.code slot args) t xs (start_fits objects names code slot args sound) run

-- what may be told in parts may be told together
tell_joined : (objects : List Payload) (code : PyCode) (xs ys : List Own) → AllMayTell objects code xs → AllMayTell objects code ys → AllMayTell objects code (xs ++ ys)
tell_joined objects code [] ys first last = last
tell_joined objects code (x ∷ xs) ys first last = (first.0, tell_joined objects code xs ys first.1 last)

tell_on : (objects : List Payload) (names : List (List ℕ)) (globals : Obj) (closure : List Obj) (code : Annotated) → IsSound names code → (s t : State) (xs : List Own) → FitsAt objects code s.wants s → Runs objects (setting_of names globals closure code) s xs t
    → AllMayTell objects code.code xs
tell_on objects names globals closure code sound s _ _ fits none = tt
tell_on objects names globals closure code sound s _ _ fits (on {us = us} {vs = vs} {t = t} u run step) =
    tell_joined objects code.code us vs (tell_on objects names globals closure code sound s t us fits run) (steps_tell objects names globals closure code sound t vs u (fits_on objects names globals closure code sound s t us fits run) step)

pub runs_tell : (objects : List Payload) (names : List (List ℕ)) (globals : Obj) (closure : List Obj) (code : Annotated) (slot : Option PyBaseExceptionRef) (args : List Obj) (t : State) (xs : List Own) → IsSound names code
    → Runs objects (setting_of names globals closure code) (started code.code slot args) xs t → AllMayTell objects code.code xs
runs_tell objects names globals closure code slot args t xs sound run = tell_on objects names globals closure code sound (started code.code slot args) t xs (start_fits objects names code slot args sound) run

-- what is heard first, and then
heard_parts : (n : ℕ) (xs ys : List Own) → HearsBelow n (xs ++ ys) → HearsBelow n xs × HearsBelow n ys
heard_parts n [] ys low = (tt, low)
heard_parts n (x ∷ xs) ys low = let more = heard_parts n xs ys low.1 in ((low.0, more.0), more.1)

told_joined : (n : ℕ) (xs ys : List Own) → TellsBelow n xs → TellsBelow n ys → TellsBelow n (xs ++ ys)
told_joined n [] ys low more = more
told_joined n (x ∷ xs) ys low more = (low.0, told_joined n xs ys low.1 more)

below_on : (objects : List Payload) (setting : Setting) (s t : State) (xs : List Own) → setting.globals.number < length objects → HoldsBelow (length objects) s → HearsBelow (length objects) xs → Runs objects setting s xs t
    → TellsBelow (length objects) xs × HoldsBelow (length objects) t
below_on objects setting s _ _ there holds hears none = (tt, holds)
below_on objects setting s _ _ there holds hears (on {us = us} {vs = vs} {t = t} u run step) =
    let heard = heard_parts (length objects) us vs hears in
    let first = below_on objects setting s t us there holds heard.0 run in
    let last = steps_below objects setting t u vs there first.1 heard.1 step in
    (told_joined (length objects) us vs first.0 last.0, last.1)

pub runs_below : (objects : List Payload) (setting : Setting) (slot : Option PyBaseExceptionRef) (args : List Obj) (t : State) (xs : List Own) → setting.globals.number < length objects → AllBelow (length objects) (number_if slot)
    → AllBelow (length objects) (numbers args) → HearsBelow (length objects) xs → Runs objects setting (started setting.code slot args) xs t → TellsBelow (length objects) xs
runs_below objects setting slot args t xs there slot_low args_low hears run =
    (below_on objects setting (started setting.code slot args) t xs there (start_below (length objects) setting.code slot args slot_low args_low) hears run).0

stand_on : (objects : List Payload) (setting : Setting) (first : Option PyBaseExceptionRef) (s t : State) (xs : List Own) → IsStanding first s → Runs objects setting s xs t → IsStanding first t
stand_on objects setting first s _ _ standing none = standing
stand_on objects setting first s _ _ standing (on {us = us} {vs = vs} {t = t} u run step) = steps_stand objects setting first t u vs (stand_on objects setting first s t us standing run) step

run_stands : (objects : List Payload) (setting : Setting) (slot : Option PyBaseExceptionRef) (args : List Obj) (t : State) (xs : List Own) → Runs objects setting (started setting.code slot args) xs t → IsStanding slot t
run_stands objects setting slot args t xs run = stand_on objects setting slot (started setting.code slot args) t xs (start_stands setting.code slot args) run

pub runs_keep_slot : (objects : List Payload) (setting : Setting) (slot : Option PyBaseExceptionRef) (args : List Obj) (t : State) (xs : List Own) → Runs objects setting (started setting.code slot args) xs t → KeepsSlot slot t
runs_keep_slot objects setting slot args t xs run = (run_stands objects setting slot args t xs run).slot

pub ends_keep_slot : (objects : List Payload) (setting : Setting) (slot : Option PyBaseExceptionRef) (args : List Obj) (t : State) (xs : List Own) → Runs objects setting (started setting.code slot args) xs t → t.wants ≡ expect.Ended
    → t.slot ≡ slot
ends_keep_slot objects setting slot args t xs run ended =
    let standing = run_stands objects setting slot args t xs run in
    let placed : IsPlaced (t.last - 1) expect.Ended t = subst (λ (x : Expect). IsPlaced (t.last - 1) x t) ended standing.placed in
    standing.slot.slot ∙ ap (handled_in slot) placed.1
