-- What a question names as handled is what the slot holds.
use Rattle.std.proofs.Common.{◌∙◌, List, [], ◌∷◌, Option, ap, sym}
use Rattle.std.specs.Option.{option_or}
use Rattle.py_objects.specs.declared.refs.PyBaseExceptionRef.{PyBaseExceptionRef}
use Rattle.py_objects.specs.declared.payload.Payload.{Payload}
use Rattle.py_objects.specs.Objects.{Obj}
use Rattle.py_objects.specs.Own.{Own, Asks}
use Rattle.py_rows.specs.States.{Setting, State}
use Rattle.py_rows.specs.Standing.{IsStanding}
use Rattle.py_rows.specs.RunOfRows.{Runs, none, on, started}
use Rattle.py_rows.proofs.HandledLemmas.{handled_outside}
use Rattle.py_rows.proofs.StandingLemmas.{start_stands, steps_stand, events_told}
use Rattle.py_laid.specs.Laws.{QuestionsNameSlot}

-- a frame stands somewhere, wherever its run has come to
run_stands : (objects : List Payload) (setting : Setting) (slot : Option PyBaseExceptionRef) (args : List Obj) (t : State) (ts : List Own) → Runs objects setting (started setting.code slot args) ts t → IsStanding slot t
run_stands objects setting slot args _ _ none = start_stands setting.code slot args
run_stands objects setting slot args _ _ (on {us = us} {vs = vs} {t = t} u run step) = steps_stand objects setting slot t u vs (run_stands objects setting slot args t us run) step

pub questions_name_slot : QuestionsNameSlot
questions_name_slot objects setting slot own args ts s t at r run step =
    let standing : IsStanding slot s = run_stands objects setting slot args s ts run in
    let names = events_told objects setting slot s t (Asks at r own) standing step in
    let stays = steps_stand objects setting slot s t (Asks at r own ∷ []) standing step in
    stays.slot.slot ∙ handled_outside slot t.blocks ∙ ap (λ (o : Option PyBaseExceptionRef). option_or o slot) (sym names.1)
