-- What is handled where an exception is thrown into a generator: what is in the slot of its activation. The rows of its code let the exception in there.
use Rattle.std.proofs.Common.{◌≡◌, ◌<◌, ◌≤◌, ◌+◌, ◌++◌, ◌||◌, ◌∙◌, ℕ, suc, List, [], ◌∷◌, Bool, true, false, not, Option, None, Some, eqb, eq-eqb, refl, sym, ap, subst, length, arith}
use Rattle.std.specs.Prelude.{◌==◌}
use Rattle.std.proofs.Math.Bool.{or-true}
use Rattle.std.proofs.lemmas.Bool.Decides.{nat_tests}
use Rattle.py_objects.specs.declared.refs.PyBaseExceptionRef.{PyBaseExceptionRef}
use Rattle.py_objects.specs.declared.edit.Change.{Change}
use Rattle.py_objects.specs.declared.payload.Payload.{Payload}
use Rattle.py_objects.specs.declared.event.ResumeHow.TheVariants as how
use Rattle.py_objects.specs.declared.event.Event.{Event}
use Rattle.py_objects.specs.declared.event.Event.TheVariants as event
use Rattle.py_objects.specs.Objects.{Obj}
use Rattle.py_objects.specs.Growth.{Grows}
use Rattle.py_objects.specs.Own.{Own, Makes, Resumes, whose, own_of, own_if, told_by, own_from, own_events}
use Rattle.py_objects.specs.Telling.{ThrowTest}
use Rattle.py_objects.proofs.GrowthLemmas.{payload_grown}
use Rattle.py_rows.specs.declared.expect.Expect.{Expect}
use Rattle.py_rows.specs.declared.expect.Expect.TheVariants as expect
use Rattle.py_rows.specs.States as rows
use Rattle.py_rows.specs.States.{waiting}
use Rattle.py_rows.specs.Handled.{handled_in}
use Rattle.py_rows.specs.RunOfRows.{Hears, Runs, hearing, on, started}
use Rattle.py_rows.specs.Laws.{LetsThrough}
use Rattle.py_rows.proofs.GrowingLemmas.{run_grown}
use Rattle.py_rows.proofs.RunLemmas.{runs_keep_slot}
use Rattle.py_rows.proofs.UnderLemmas.{run_under}
use Rattle.py_frame.specs.declared.input.Input.TheVariants as input
use Rattle.py_frame.specs.Frames.{handed}
use Rattle.py_frame.specs.Steps.{Expects, taken}
use Rattle.py_run.specs.Run.{start, state_after}
use Rattle.py_run.specs.Links.{HandlesThen, same_exception, thrown_under}
use Rattle.py_vm.specs.declared.stage.Running.{Running}
use Rattle.py_vm.specs.Codes.{Checked, plain_codes}
use Rattle.py_vm.specs.RowsOf.{RowsUnder, setting_under}
use Rattle.py_vm.specs.Stands.{Plays}
use Rattle.py_vm.proofs.PlaysLemmas.{setting_in}
use Rattle.py_vm.proofs.RowsOfLemmas.{plain_at}

-- ---- events before that of a number

-- an exception is the same as itself, and none as none
same_itself : (h : Option PyBaseExceptionRef) → same_exception h h ≡ true
same_itself None = refl
same_itself (Some e) = eq-eqb e.number e.number refl

-- an event with another number may throw in whatever is handled
other_number : (k n : ℕ) → k < n → (k == n) ≡ false
other_number k n low = grind (arith, nat_tests)

module _ (n : ℕ) (h : Option PyBaseExceptionRef) where
  -- the test of the event n lets all earlier ones through
  event_let : (k : ℕ) (e : Event) → k < n → LetsThrough (thrown_under n h) (own_of k e)
  event_let k (event.Drive d) low = tt
  event_let k (event.Result d w) low = tt
  event_let k (event.Make a f vs) low = (λ g. tt, tt)
  event_let k (event.Resume a how.Start) low = (λ g. tt, tt)
  event_let k (event.Resume a (how.Send v)) low = (λ g. tt, tt)
  event_let k (event.Resume a (how.Throw e)) low = (λ g. ap (λ b. not b || same_exception h g) (other_number k n low), tt)
  event_let k (event.Ask a r own at) low = (λ g. tt, tt)
  event_let k (event.Got a w) low = (λ g. tt, tt)
  event_let k (event.Round a at) low = (λ g. tt, tt)
  event_let k (event.Yield a v at) low = (λ g. tt, tt)
  event_let k (event.End a e at) low = (λ g. tt, tt)

  let_if : (b : Bool) (xs : List Own) → LetsThrough (thrown_under n h) xs → LetsThrough (thrown_under n h) (own_if b xs)
  let_if true xs lets = lets
  let_if false xs lets = tt

  let_together : (xs ys : List Own) → LetsThrough (thrown_under n h) xs → LetsThrough (thrown_under n h) ys → LetsThrough (thrown_under n h) (xs ++ ys)
  let_together [] ys first last = last
  let_together (x ∷ xs) ys first last = (first.0, let_together xs ys first.1 last)

  earlier_let : (a k : ℕ) (es : List Event) → k + length es ≤ n → LetsThrough (thrown_under n h) (own_from a k es)
  unfolding own_from told_by
  earlier_let a k [] low = tt
  earlier_let a k (e ∷ es) low =
      let_together (own_if (eqb a (whose e)) (own_of k e)) (own_from a (suc k) es)
      (let_if (eqb a (whose e)) (own_of k e) (event_let k e (omega (arith, low)))) (earlier_let a (suc k) es (omega (arith, low)))

-- ---- a throw

-- where a frame hears a throw in is no matter of the test
heard_under : (objects : List Payload) (setting : rows.Setting) (throws : ThrowTest) (x y : Expect) (k : ℕ) (e : PyBaseExceptionRef)
    → Hears objects setting x (Resumes k (how.Throw e)) y → Hears objects (record setting { throws_under = throws }) x (Resumes k (how.Throw e)) y
heard_under objects setting throws expect.Start y k e hears = hears
heard_under objects setting throws expect.Resume y k e hears = hears
heard_under objects setting throws _ y k e hears = absurd hears

-- an activation that plays, whose run began with nothing in the slot and has come to where the frame is, with this in the slot
module _ (codes : Checked) (globals : Obj) (objects : List Payload) (events : List Event) (r : Running) (before slot : Option PyBaseExceptionRef) (p : Plays codes globals objects events r before)
    (run : Runs objects (setting_in codes globals p.code r.frame.closure) (started p.code.code None p.activation.args) p.told (handed slot r.frame.state)) where
  -- what is in the slot is what its blocks handle
  pub slot_handles : slot ≡ handled_in None r.frame.state.blocks
  slot_handles = (runs_keep_slot objects (setting_in codes globals p.code r.frame.closure) None p.activation.args (handed slot r.frame.state) p.told run).slot

  module _ (objects' : List Payload) (grows : Grows objects objects') (e : PyBaseExceptionRef) (expects : Expects objects' (setting_in codes globals p.code r.frame.closure) r.frame.state.wants (input.Throw e)) where
    -- its rows let the exception in that is thrown by the next event, while that is handled
    throws_under_own : RowsUnder (thrown_under (length events) slot) (plain_codes codes) globals objects' p.activation.function p.activation.args (own_events r.act events ++ Resumes (length events) (how.Throw e) ∷ [])
    throws_under_own =
        let n : ℕ = length events in
        let throws : ThrowTest = thrown_under n slot in
        let setting : rows.Setting = setting_in codes globals p.code r.frame.closure in
        let under : rows.Setting = setting_under throws (plain_codes codes) globals p.code.code r.frame.closure in
        let begun : rows.State = started p.code.code None p.activation.args in
        let there : rows.State = handed slot r.frame.state in
        let lets : LetsThrough throws (Makes ∷ p.told) = subst (LetsThrough throws) p.whole (earlier_let n slot r.act 0 events (omega arith)) in
        let earlier : Runs objects' under begun p.told there = run_grown objects objects' grows under begun there p.told (run_under setting throws objects begun there p.told lets.1 run) in
        let fits : throws n slot ≡ true = ap (λ b. not (n == n) || b) (same_itself slot) ∙ or-true (not (n == n)) in
        let now : throws n (handled_in None r.frame.state.blocks) ≡ true = subst (λ h. throws n h ≡ true) slot_handles fits in
        let wants : Expect = taken (input.Throw e) r.frame.state.wants in (
          p.body,
          payload_grown objects objects' _ _ grows p.is_function,
          p.code.code,
          plain_at codes.codes p.body.code p.code p.is_code,
          r.frame.closure,
          p.closed,
          (
            None,
            p.told ++ Resumes n (how.Throw e) ∷ [],
            waiting wants there,
            ap (λ l. l ++ Resumes n (how.Throw e) ∷ []) p.whole,
            on (waiting wants there) earlier (hearing (Resumes n (how.Throw e)) wants (heard_under objects' setting throws r.frame.state.wants wants n e (expects n)) now),
          ),
        )

    -- what is in the slot is handled where the exception enters the activation
    pub handles_then : (now : List Payload) (changed : List Change)
        → HandlesThen (λ throws. RowsUnder throws (plain_codes codes) globals objects') (record { before = events; state = state_after start events; now = now; changed = changed }) r.act (how.Throw e) slot
    handles_then now changed =
        subst (λ a. HandlesThen (λ throws. RowsUnder throws (plain_codes codes) globals objects') (record { before = events; state = state_after start events; now = now; changed = changed }) a (how.Throw e) slot) (sym p.numbered)
        (p.activation, p.is_made, subst (λ a. RowsUnder (thrown_under (length events) slot) (plain_codes codes) globals objects' p.activation.function p.activation.args (own_events a events ++ Resumes (length events) (how.Throw e) ∷ [])) p.numbered throws_under_own)
