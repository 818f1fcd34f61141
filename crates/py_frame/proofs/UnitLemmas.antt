-- The unit that comes next or waited: what can be done of it where it has begun, and what was done.
use Rattle.std.proofs.Common.{◌≡◌, ◌∙◌, ◌+◌, ◌<◌, ℕ, suc, List, Some, sym, ap, subst, arith}
use Rattle.std.specs.Prelude.{Option, slice_get}
use Rattle.py_code.specs.declared.code.PyCode.{PyCode}
use Rattle.py_code.specs.declared.instruction.Instruction.TheVariants.{WithCleanupStart}
use Rattle.py_code.specs.declared.unit.CodeUnit.{CodeUnit}
use Rattle.py_code.specs.Units.{with_byte}
use Rattle.py_objects.specs.declared.payload.Payload.{Payload}
use Rattle.py_objects.specs.declared.refs.PyBaseExceptionRef.{PyBaseExceptionRef}
use Rattle.py_objects.specs.declared.event.GotAnswer.{GotAnswer}
use Rattle.py_objects.specs.declared.event.GotAnswer.TheVariants as got
use Rattle.py_objects.specs.Objects.{Obj}
use Rattle.py_rows.specs.declared.block.UnwindReason.TheVariants as reason
use Rattle.py_rows.specs.declared.expect.Expect.{Expect}
use Rattle.py_rows.specs.declared.expect.Expect.TheVariants as expect
use Rattle.py_rows.specs.States.{Move, Plainly, Loads, Decides, Manages, Resolves, Exits, begun, waiting}
use Rattle.py_rows.specs.Unwinding.{unwinds}
use Rattle.py_rows.specs.Rows.{act, advance, unit_move}
use Rattle.py_rows.specs.Receiving.{answered, receive, unit_answered}
use Rattle.py_rows.specs.RunOfRows.{MayLead}
use Rattle.py_frame.specs.Frames.{Framed, NamedCode, parts, setting_in}
use Rattle.py_frame.specs.Running.{IsSame}
use Rattle.py_frame.specs.UnitSteps.{HasRoom, HasNeeds, HasDone, HasMoved, done}
use Rattle.py_frame.specs.declared.unit_step.UnitStep.{UnitStep}

-- a unit that is read where the frame is
pub unit_here : (scene : NamedCode) (at n : ℕ) (u : CodeUnit) → n ≡ at → slice_get (parts scene).instructions.items n ≡ Some u → slice_get (parts scene).instructions.items at ≡ Some u
unit_here scene at n u is read = ap (slice_get (parts scene).instructions.items) (sym is) ∙ read

-- the place behind a unit is below the most that a code may have
pub unit_fits : (at n most : ℕ) → at < n → n < most → at + 1 < most
unit_fits at n most there few = omega arith

-- what is read twice at one place is one unit: where one asks an exit, so does the other
pub exits_of : (o : Option CodeUnit) (u v : CodeUnit) → o ≡ Some u → o ≡ Some v → v.op ≡ WithCleanupStart → u.op ≡ WithCleanupStart
exits_of o u v first second exits = let same : u ≡ v = cc in ap (λ (w : CodeUnit). w.op) same ∙ exits

-- a frame has the room that it had, whatever it waits for
room_stays : (objects : List Payload) (f : Framed) (last phase : ℕ) (wants : Expect) (m : Move) → HasNeeds objects f m → HasNeeds objects (record f { state = record f.state { last = last; phase = phase; wants = wants } }) m
room_stays objects f last phase wants (Plainly step) can = can
room_stays objects f last phase wants (Loads c k) can = can
room_stays objects f last phase wants (Decides v k) can = can
room_stays objects f last phase wants (Manages m k) can = can
room_stays objects f last phase wants (Resolves v k) can = can
room_stays objects f last phase wants (Exits e k) can = can

-- a frame is the same, whatever it began last and waits for
same_stays : (f h : Framed) (last phase : ℕ) (wants : Expect) → IsSame (record f { state = record f.state { last = last; phase = phase; wants = wants } }) h → IsSame f h
same_stays f h last phase wants same = record { code = same.code; entry = same.entry; scope = same.scope; closure = same.closure; room = same.room; block_room = same.block_room }

-- the unit that comes next
module _ (code : PyCode) (names : List (List ℕ)) (f g : Framed) (u : CodeUnit) (arg : ℕ) (here : slice_get code.code.instructions.items f.state.at ≡ Some u) (is : arg ≡ with_byte f.state.prefix u.arg) (begins : g ≡ record f { state = begun f.state }) where
  pub begun_can : (objects : List Payload) → HasNeeds objects f (advance (setting_in code names f) f.state) → HasNeeds objects g (act (setting_in code names g) u.op arg g.state)
  begun_can objects can =
      subst (λ (h : Framed). HasNeeds objects h (act (setting_in code names h) u.op arg h.state)) (sym begins)
      (subst (λ (n : ℕ). HasNeeds objects (record f { state = begun f.state }) (act (setting_in code names f) u.op n (begun f.state))) (sym is)
      (room_stays objects f (suc f.state.at) 0 expect.Go (act (setting_in code names f) u.op (with_byte f.state.prefix u.arg) (begun f.state))
      (subst (λ (o : Option CodeUnit). HasNeeds objects f (unit_move (setting_in code names f) o f.state)) here can)))

  pub begun_does : (objects : List Payload) (step : UnitStep) (h : Framed) → HasMoved objects (act (setting_in code names g) u.op arg) g step h → HasMoved objects (advance (setting_in code names f)) f step h
  begun_does objects step h does =
      let acted : HasMoved objects (act (setting_in code names f) u.op (with_byte f.state.prefix u.arg)) (record f { state = begun f.state }) step h =
      subst (λ (n : ℕ). HasMoved objects (act (setting_in code names f) u.op n) (record f { state = begun f.state }) step h) is
      (subst (λ (k : Framed). HasMoved objects (act (setting_in code names k) u.op arg) k step h) begins does) in
      record {
        row = subst (λ (o : Option CodeUnit). MayLead objects (unit_move (setting_in code names f) o f.state) (done f.state.at step h.state)) (sym here) acted.row;
        same = same_stays f h (suc f.state.at) 0 expect.Go acted.same;
      }

-- the unit that waited for what the frame heard
module _ (code : PyCode) (names : List (List ℕ)) (f g : Framed) (heard : GotAnswer) (waits : g ≡ record f { state = waiting expect.Go f.state }) where
  module _ (e : PyBaseExceptionRef) (is : heard ≡ got.Raise e) where
    pub raise_can : (objects : List Payload) → HasNeeds objects f (receive (setting_in code names f) heard f.state) → HasRoom g (unwinds (reason.Raising e) g.state)
    raise_can objects can =
        subst (λ (h : Framed). HasRoom h (unwinds (reason.Raising e) h.state)) (sym waits)
        (subst (λ (w : GotAnswer). HasNeeds objects f (receive (setting_in code names f) w f.state)) is can)

    pub raise_does : (objects : List Payload) (step : UnitStep) (h : Framed) → HasDone (unwinds (reason.Raising e)) g step h → HasMoved objects (receive (setting_in code names f) heard) f step h
    raise_does objects step h does =
        let waited = subst (λ (k : Framed). HasDone (unwinds (reason.Raising e)) k step h) waits does in
        subst (λ (w : GotAnswer). HasMoved objects (receive (setting_in code names f) w) f step h) (sym is) (record {
          row = waited.row;
          same = same_stays f h f.state.last f.state.phase expect.Go waited.same;
        })

  module _ (v : Obj) (is : heard ≡ got.Value v) (u : CodeUnit) (arg : ℕ) (here : slice_get code.code.instructions.items f.state.at ≡ Some u) (takes : arg ≡ with_byte f.state.prefix u.arg) where
    pub value_can : (objects : List Payload) → HasNeeds objects f (receive (setting_in code names f) heard f.state) → HasNeeds objects g (answered u.op arg v g.state)
    value_can objects can =
        subst (λ (h : Framed). HasNeeds objects h (answered u.op arg v h.state)) (sym waits)
        (subst (λ (n : ℕ). HasNeeds objects (record f { state = waiting expect.Go f.state }) (answered u.op n v (waiting expect.Go f.state))) (sym takes)
        (room_stays objects f f.state.last f.state.phase expect.Go (answered u.op (with_byte f.state.prefix u.arg) v (waiting expect.Go f.state))
        (subst (λ (o : Option CodeUnit). HasNeeds objects f (unit_answered o v (waiting expect.Go f.state))) here
        (subst (λ (w : GotAnswer). HasNeeds objects f (receive (setting_in code names f) w f.state)) is can))))

    pub value_does : (objects : List Payload) (step : UnitStep) (h : Framed) → HasMoved objects (answered u.op arg v) g step h → HasMoved objects (receive (setting_in code names f) heard) f step h
    value_does objects step h does =
        let waited : HasMoved objects (answered u.op (with_byte f.state.prefix u.arg) v) (record f { state = waiting expect.Go f.state }) step h =
        subst (λ (n : ℕ). HasMoved objects (answered u.op n v) (record f { state = waiting expect.Go f.state }) step h) takes
        (subst (λ (k : Framed). HasMoved objects (answered u.op arg v) k step h) waits does) in
        subst (λ (w : GotAnswer). HasMoved objects (receive (setting_in code names f) w) f step h) (sym is) (record {
          row = subst (λ (o : Option CodeUnit). MayLead objects (unit_answered o v (waiting expect.Go f.state)) (done f.state.at step h.state)) (sym here) waited.row;
          same = same_stays f h f.state.last f.state.phase expect.Go waited.same;
        })
