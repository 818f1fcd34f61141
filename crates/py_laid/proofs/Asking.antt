-- Runs over a unit that asks and its answer, or that yields and what it goes on with: a value goes on, and an exception leaves the
-- blocks. Hearing is a step of its own, behind which the run may end.
use Rattle.std.proofs.Common.{◌≡◌, ◌<◌, ◌≤◌, ℕ, zero, suc, List, [], ◌∷◌, ◌++◌, None, refl, sym, ap, ◌∙◌, subst, length, arith, inl, inr}
use Rattle.std.specs.Prelude.{Option, ◌⊎◌}
use Rattle.py_code.specs.declared.instruction.Instruction.{Instruction}
use Rattle.py_code.specs.declared.instruction.Instruction.TheVariants.{YieldValue}
use Rattle.py_code.specs.declared.unit.CodeUnit.{CodeUnit}
use Rattle.py_code.specs.Units.{with_byte}
use Rattle.py_objects.specs.declared.refs.PyBaseExceptionRef.{PyBaseExceptionRef}
use Rattle.py_objects.specs.declared.payload.Payload.{Payload}
use Rattle.py_objects.specs.declared.request.Request.{Request}
use Rattle.py_objects.specs.declared.event.GotAnswer.{GotAnswer}
use Rattle.py_objects.specs.declared.event.GotAnswer.TheVariants as got
use Rattle.py_objects.specs.declared.event.ResumeHow.{ResumeHow}
use Rattle.py_objects.specs.declared.event.ResumeHow.TheVariants as how
use Rattle.py_objects.specs.Objects.{Obj, HasPayload}
use Rattle.py_objects.specs.Own.{Own, Resumes, Gets, Yields}
use Rattle.py_objects.specs.Telling.{ThrowTest, Given, Stopped, AfterValue, Answers, Answered, GoesOn, Resumed}
use Rattle.py_check.specs.declared.note.Kind.TheVariants as kind
use Rattle.py_rows.specs.declared.block.Block.{Block}
use Rattle.py_rows.specs.declared.block.UnwindReason.TheVariants as reason
use Rattle.py_rows.specs.declared.expect.Expect.{Expect}
use Rattle.py_rows.specs.declared.expect.Expect.TheVariants as expect
use Rattle.py_rows.specs.declared.expect.Wanted.{Wanted}
use Rattle.py_rows.specs.declared.expect.Wanted.TheVariants as want
use Rattle.py_rows.specs.States.{Setting, State, Goes, Tells, Stuck, Move, Plainly, Resolves, Exits, waiting}
use Rattle.py_rows.specs.Handled.{handled_in}
use Rattle.py_rows.specs.Unwinding.{unwind, unwinds}
use Rattle.py_rows.specs.Answers.{IsValue, IsAnswer, wanted}
use Rattle.py_rows.specs.Rows.{asks, act}
use Rattle.py_rows.specs.Receiving.{answered, unit_answered}
use Rattle.py_rows.specs.RunOfRows.{Hears, IsUnder, IsExit}
use Rattle.py_tree.specs.Binding.{Env}
use Rattle.py_tree.specs.Outcome.{Raises, Requests, Suspends}
use Rattle.py_laid.specs.Code.{Around, Scope, Stands}
use Rattle.py_laid.proofs.Env.{env_of}
use Rattle.py_laid.proofs.Decoding.{Now, running, begun, HasOp, Execution, setting_of, Told, From, Left, Behind, parts_of, scene_of, step_left, stands_run}
use Rattle.py_laid.proofs.Lands.{Context, PassesOn}

-- what a frame hears that waits for an answer
pub heard : (objects : List Payload) (setting : Setting) (w : Wanted) (x : Own) (y : Expect) → Hears objects setting (expect.Answer w) x y
    → (event : ℕ) × (g : GotAnswer) × (x ≡ Gets event g) × IsAnswer objects w g × (y ≡ expect.Heard g)
heard objects setting w (Gets event g) y (answer, is) = (event, g, refl, answer, is)
heard objects setting w _ y never = absurd never

-- how a body goes on with what it hears as an answer
abbrev resumption : GotAnswer → ResumeHow
resumption (got.Value v) = how.Send v
resumption (got.Raise e) = how.Throw e
resumption (got.Stop v) = how.Start

goes_on : (throws : ThrowTest) (h : Option PyBaseExceptionRef) (g : GotAnswer) (event : ℕ) (ts : List Own) (K : AfterValue)
    → IsUnder throws h (Resumes event (resumption g)) → Answers g event ts K → GoesOn (λ i. throws i h) (resumption g) event ts K
goes_on throws h (got.Value v) event ts K under k = k
goes_on throws h (got.Raise e) event ts K under k = (under, k)
goes_on throws h (got.Stop v) event ts K under k = absurd k

-- what a frame hears that yielded
resumed : (objects : List Payload) (setting : Setting) (x : Own) (y : Expect) → Hears objects setting expect.Resume x y
    → (event : ℕ) × (g : GotAnswer) × (x ≡ Resumes event (resumption g)) × IsAnswer objects (want.Of kind.Any) g × (y ≡ expect.Heard g)
resumed objects setting (Resumes event (how.Send v)) y is = (event, got.Value v, refl, tt, is)
resumed objects setting (Resumes event (how.Throw e)) y (exception, is) = (event, got.Raise e, refl, exception, is)
resumed objects setting _ y never = absurd never

module _ (ex : Execution) where
  -- the blocks of a frame are left
  pub unwinds_left : (r : _) (k prefix : ℕ) (stack : List Obj) (blocks : _) (now : Now) (n : ℕ) (ts : List Own) → Behind ex n (unwinds r (begun k prefix stack blocks now)) ts
      → Behind ex n (unwind r blocks (begun k prefix stack blocks now)) ts
  unfolding unwinds
  unwinds_left r k prefix stack blocks now n ts step = step

  module _ {around : Around} (c : Context ex around) (now : Now) (same : length now.locals ≡ length ex.vars) where
    abbrev env : Env
    env = env_of ex.vars now.locals

    module _ (V : AfterValue) (passes : PassesOn ex c env V) where
      -- a frame that wants this, where these values lie above those of the statement
      module _ (op : Instruction) (arg k p : ℕ) (wants : Wanted) (extra : List Obj) (n : ℕ) (most : n ≤ c.limit) (low : c.low ≤ k) (high : k < c.high) (has_op : HasOp (setting_of ex) k p op arg)
          (stops : (v : Obj) (event : ℕ) → IsValue ex.objects wants v → V (Given v) event [])
          (later : (v : Obj) (m event : ℕ) (us : List Own) → m < n → IsValue ex.objects wants v
          → Left ex m (answered op arg v (begun k p (extra ++ c.base) c.blocks now)) us → V (Given v) event us) where
        abbrev asker : State
        asker = begun k p (extra ++ c.base) c.blocks now

        -- an answer leads to what the unit that asked makes of it, and a raise leaves the blocks
        heard_run : (g : GotAnswer) (m event : ℕ) (us : List Own) → m < n → IsAnswer ex.objects wants g → Told ex m (waiting (expect.Heard g) asker) us → Answers g event us V
        heard_run (got.Value v) zero event us less value run = subst (λ (l : List Own). V (Given v) event l) (sym run) (stops v event value)
        heard_run (got.Value v) (suc m) event us less value (inl move) =
            let (u, here, is_op, is_arg) = has_op in
            later v m event us (omega (arith, less)) value
            (subst (λ (i : ℕ). Left ex m (answered op i v asker) us) is_arg
            (subst (λ (o : Instruction). Left ex m (answered o (with_byte p u.arg) v asker) us) is_op
            (subst (λ (o : Option CodeUnit). Left ex m (unit_answered o v asker) us) here move)))
        heard_run (got.Value v) (suc m) event us less value (inr (x, w, mid, never, under, is, run)) = absurd never
        heard_run (got.Raise e) zero event us less exception run = passes.failed e event us (subst (λ (l : List Own). c.K env (Raises e) event l) (sym run) (c.lands.pauses env (Raises e) event tt))
        heard_run (got.Raise e) (suc m) event us less exception (inl move) =
            passes.failed e event us
            (c.lands.unwinds (reason.Raising e) extra k p now m event us tt tt low high (omega (arith, less, most)) same
            (unwinds_left (reason.Raising e) k p (extra ++ c.base) c.blocks now m us (step_left ex m (unwinds (reason.Raising e) asker) us move)))
        heard_run (got.Raise e) (suc m) event us less exception (inr (x, w, mid, never, under, is, run)) = absurd never
        heard_run (got.Stop v) m event us less never run = absurd never

        -- the answer is heard, unless the run ends in front of it
        answered_run : (m event : ℕ) (us : List Own) → m < n → Told ex m (waiting (expect.Answer wants) asker) us → Answered event us V
        answered_run zero event us less run = inl (run, passes.stopped event)
        answered_run (suc m) event us less (inl stuck) = absurd (step_left ex m Stuck us stuck)
        answered_run (suc m) event us less (inr (x, w, mid, hears, under, is, run)) =
            let (number, g, is_got, answer, is_heard) = heard ex.objects (setting_of ex) wants x w hears in
            inr (number, g, mid, is ∙ ap (λ (y : Own). y ∷ mid) is_got, heard_run g m number mid (omega (arith, less)) answer (subst (λ (y : Expect). Told ex m (waiting y asker) mid) is_heard run))

        -- what is handled meanwhile
        abbrev handled_now : Option PyBaseExceptionRef
        handled_now = handled_in None c.blocks

        -- so is what a frame goes on with that yielded
        resumed_run : wants ≡ want.Of kind.Any → (m event : ℕ) (us : List Own) → m < n → Told ex m (waiting expect.Resume asker) us → Resumed (λ i. ex.throws i handled_now) event us V
        resumed_run any zero event us less run = inl (run, passes.stopped event)
        resumed_run any (suc m) event us less (inl stuck) = absurd (step_left ex m Stuck us stuck)
        resumed_run any (suc m) event us less (inr (x, w, mid, hears, under, is, run)) =
            let (number, g, is_resumed, answer, is_heard) = resumed ex.objects (setting_of ex) x w hears in
            let wanted_so : IsAnswer ex.objects wants g = subst (λ (v : Wanted). IsAnswer ex.objects v g) (sym any) answer in
            let under_it : IsUnder ex.throws handled_now (Resumes number (resumption g)) = subst (IsUnder ex.throws handled_now) is_resumed under in
            inr (
              number,
              resumption g,
              mid,
              is ∙ ap (λ (y : Own). y ∷ mid) is_resumed,
              goes_on ex.throws handled_now g number mid V under_it (heard_run g m number mid (omega (arith, less)) wanted_so (subst (λ (y : Expect). Told ex m (waiting y asker) mid) is_heard run)),
            )

      -- a unit that asks by what it calls, and hears its answer, which leads behind it, with these values
      module _ {scope : Scope} {line at arg to : ℕ} {op : Instruction} (stands : Stands (parts_of ex) scope line at op arg to) (f : Obj) (r : Payload → Request) (stack extra : List Obj) (last n event : ℕ) (ts : List Own)
          (most : n ≤ c.limit) (low : c.low ≤ at) (high : to ≤ c.high)
          (makes : (k p : ℕ) → act (setting_of ex) op arg (begun k p stack c.blocks now) ≡ Resolves f (λ (q : Payload). asks (r q) (begun k p (extra ++ c.base) c.blocks now)))
          (run : From ex n at last stack c.blocks now ts) where
        pub resolved_run : (behind : Obj → List Obj)
            → ((k p : ℕ) (v : Obj) → answered op arg v (begun k p (extra ++ c.base) c.blocks now) ≡ Plainly (Goes (running (suc k) (suc k) 0 (behind v) c.blocks now)))
            → ((v : Obj) (i : ℕ) → V (Given v) i [])
            → ((v : Obj) (m i : ℕ) (us : List Own) → m < n → From ex m to to (behind v) c.blocks now us → V (Given v) i us)
            → ((ts ≡ []) × V Stopped event []) ⊎ ((q : Payload) × HasPayload ex.objects f q × Requests (scene_of ex) line (r q) (handled_in None c.blocks) event ts V)
        resolved_run behind gives stops later =
            stands_run ex stands (λ k p b. Resolves f (λ (q : Payload). asks (r q) (begun k p (extra ++ c.base) c.blocks now))) stack c.blocks now last n ts makes run
            (λ none. inl (none, passes.stopped event))
            (λ k p m from is_next less has_op of_line (done, (q, has, same_step), step).
            let (mid, is, waits) = step_left ex m (asks (r q) (begun k p (extra ++ c.base) c.blocks now)) ts (done, same_step, step) in
            inr (
              q,
              has,
              inr (
                k,
                mid,
                of_line,
                is,
                answered_run op arg k p (wanted (r q)) extra n most (omega (arith, low, from)) (omega (arith, high, is_next)) has_op (λ v i value. stops v i)
                    (λ v j i us fewer value answer.
                    let goes = step_left ex j (Goes (running (suc k) (suc k) 0 (behind v) c.blocks now)) us (subst (λ (move : Move). Left ex j move us) (gives k p v) answer) in
                    later v j i us (omega (arith, fewer, less)) (subst (λ (b : ℕ). From ex j b b (behind v) c.blocks now us) is_next goes)) m event mid less waits,
              ),
            ))

      -- a unit that calls an exit, and hears its answer, which leads behind it, with these values
      module _ {scope : Scope} {line at arg to : ℕ} {op : Instruction} (stands : Stands (parts_of ex) scope line at op arg to) (e : Option PyBaseExceptionRef) (r : Obj → Obj → Obj → Request) (stack extra : List Obj)
          (last n event : ℕ) (ts : List Own) (most : n ≤ c.limit) (low : c.low ≤ at) (high : to ≤ c.high)
          (makes : (k p : ℕ) → act (setting_of ex) op arg (begun k p stack c.blocks now) ≡ Exits e (λ t v b. asks (r t v b) (begun k p (extra ++ c.base) c.blocks now)))
          (run : From ex n at last stack c.blocks now ts) where
        pub exits_run : (behind : Obj → List Obj)
            → ((k p : ℕ) (v : Obj) → answered op arg v (begun k p (extra ++ c.base) c.blocks now) ≡ Plainly (Goes (running (suc k) (suc k) 0 (behind v) c.blocks now)))
            → ((v : Obj) (i : ℕ) → V (Given v) i [])
            → ((v : Obj) (m i : ℕ) (us : List Own) → m < n → From ex m to to (behind v) c.blocks now us → V (Given v) i us)
            → ((ts ≡ []) × V Stopped event [])
            ⊎ ((t : Obj) × (v : Obj) × (b : Obj) × IsExit ex.objects e t v b × Requests (scene_of ex) line (r t v b) (handled_in None c.blocks) event ts V)
        exits_run behind gives stops later =
            stands_run ex stands (λ k p next. Exits e (λ t v b. asks (r t v b) (begun k p (extra ++ c.base) c.blocks now))) stack c.blocks now last n ts makes run
            (λ none. inl (none, passes.stopped event))
            (λ k p m from is_next less has_op of_line (done, (t, v, b, is_exit, same_step), step).
            let (mid, is, waits) = step_left ex m (asks (r t v b) (begun k p (extra ++ c.base) c.blocks now)) ts (done, same_step, step) in
            inr (
              t,
              v,
              b,
              is_exit,
              inr (
                k,
                mid,
                of_line,
                is,
                answered_run op arg k p (wanted (r t v b)) extra n most (omega (arith, low, from)) (omega (arith, high, is_next)) has_op (λ w i value. stops w i)
                    (λ w j i us fewer value answer.
                    let goes = step_left ex j (Goes (running (suc k) (suc k) 0 (behind w) c.blocks now)) us (subst (λ (move : Move). Left ex j move us) (gives k p w) answer) in
                    later w j i us (omega (arith, fewer, less)) (subst (λ (to : ℕ). From ex j to to (behind w) c.blocks now us) is_next goes)) m event mid less waits,
              ),
            ))

      -- a unit that asks, over whatever values and blocks
      module _ {scope : Scope} {line at arg to : ℕ} {op : Instruction} (stands : Stands (parts_of ex) scope line at op arg to) (r : Request) (stack : List Obj) (blocks : List Block) (then : Now) (extra : List Obj)
          (last n event : ℕ) (ts : List Own) (most : n ≤ c.limit) (low : c.low ≤ at) (high : to ≤ c.high)
          (makes : (k p : ℕ) → act (setting_of ex) op arg (begun k p stack blocks then) ≡ Plainly (asks r (begun k p (extra ++ c.base) c.blocks now)))
          (run : From ex n at last stack blocks then ts) where
        -- the unit asks, and hears its answer
        pub asked_over_run : ((v : Obj) (i : ℕ) → IsValue ex.objects (wanted r) v → V (Given v) i [])
            → ((v : Obj) (k p m i : ℕ) (us : List Own) → at ≤ k → suc k ≡ to → m < n → IsValue ex.objects (wanted r) v
            → Left ex m (answered op arg v (begun k p (extra ++ c.base) c.blocks now)) us → V (Given v) i us)
            → Requests (scene_of ex) line r (handled_in None c.blocks) event ts V
        asked_over_run stops later =
            stands_run ex stands (λ k p b. Plainly (asks r (begun k p (extra ++ c.base) c.blocks now))) stack blocks then last n ts makes run
            (λ none. inl (none, passes.stopped event))
            (λ k p m from is_next less has_op of_line left.
            let (mid, is, waits) = step_left ex m (asks r (begun k p (extra ++ c.base) c.blocks now)) ts left in
            inr (
              k,
              mid,
              of_line,
              is,
              answered_run op arg k p (wanted r) extra n most (omega (arith, low, from)) (omega (arith, high, is_next)) has_op stops
                  (λ v j i us fewer value answer. later v k p j i us from is_next (omega (arith, fewer)) value answer) m event mid less waits,
            ))

      -- a unit that asks
      module _ {scope : Scope} {line at arg to : ℕ} {op : Instruction} (stands : Stands (parts_of ex) scope line at op arg to) (r : Request) (stack extra : List Obj) (last n event : ℕ) (ts : List Own)
          (most : n ≤ c.limit) (low : c.low ≤ at) (high : to ≤ c.high)
          (makes : (k p : ℕ) → act (setting_of ex) op arg (begun k p stack c.blocks now) ≡ Plainly (asks r (begun k p (extra ++ c.base) c.blocks now)))
          (run : From ex n at last stack c.blocks now ts) where
        pub asked_run : ((v : Obj) (i : ℕ) → IsValue ex.objects (wanted r) v → V (Given v) i [])
            → ((v : Obj) (k p m i : ℕ) (us : List Own) → at ≤ k → suc k ≡ to → m < n → IsValue ex.objects (wanted r) v
            → Left ex m (answered op arg v (begun k p (extra ++ c.base) c.blocks now)) us → V (Given v) i us)
            → Requests (scene_of ex) line r (handled_in None c.blocks) event ts V
        asked_run stops later = asked_over_run stands r stack c.blocks now extra last n event ts most low high makes run stops later

        -- the same where the answer leads behind it, with these values
        pub asked_once_run : (behind : Obj → List Obj)
            → ((k p : ℕ) (v : Obj) → answered op arg v (begun k p (extra ++ c.base) c.blocks now) ≡ Plainly (Goes (running (suc k) (suc k) 0 (behind v) c.blocks now)))
            → ((v : Obj) (i : ℕ) → V (Given v) i [])
            → ((v : Obj) (m i : ℕ) (us : List Own) → m < n → From ex m to to (behind v) c.blocks now us → V (Given v) i us)
            → Requests (scene_of ex) line r (handled_in None c.blocks) event ts V
        asked_once_run behind gives stops later =
            asked_run (λ v i value. stops v i)
            (λ v k p m i us from is_next less value left.
            let goes = step_left ex m (Goes (running (suc k) (suc k) 0 (behind v) c.blocks now)) us (subst (λ (move : Move). Left ex m move us) (gives k p v) left) in
            later v m i us less (subst (λ (b : ℕ). From ex m b b (behind v) c.blocks now us) is_next goes))

      -- a unit that yields the value on top goes on behind it with what it is sent
      pub yields_run : {scope : Scope} {line at to : ℕ} → Stands (parts_of ex) scope line at YieldValue 0 to → (v : Obj) (extra : List Obj) (last n event : ℕ) (ts : List Own)
          → n ≤ c.limit → c.low ≤ at → to ≤ c.high → From ex n at last (v ∷ extra ++ c.base) c.blocks now ts → ((u : Obj) (i : ℕ) → V (Given u) i [])
          → ((u : Obj) (m i : ℕ) (us : List Own) → m < n → From ex m to to (u ∷ extra ++ c.base) c.blocks now us → V (Given u) i us)
          → Suspends (scene_of ex) line v (handled_in None c.blocks) event ts V
      yields_run {line = line} {to = to} stands v extra last n event ts most low high run stops later =
          stands_run ex stands (λ k p b. Plainly (Tells (Yields k v) (waiting expect.Resume (begun k p (extra ++ c.base) c.blocks now)))) (v ∷ extra ++ c.base) c.blocks now last n ts (λ k p. refl) run
          (λ none. inl (none, passes.stopped event))
          (λ k p m from is_next less has_op of_line left.
          let (mid, is, waits) = step_left ex m (Tells (Yields k v) (waiting expect.Resume (begun k p (extra ++ c.base) c.blocks now))) ts left in
          inr (
            k,
            mid,
            of_line,
            is,
            resumed_run YieldValue 0 k p (want.Of kind.Any) extra n most (omega (arith, low, from)) (omega (arith, high, is_next)) has_op (λ u i value. stops u i)
                (λ u j i us fewer value answer.
                let goes = step_left ex j (Goes (running (suc k) (suc k) 0 (u ∷ extra ++ c.base) c.blocks now)) us answer in
                later u j i us fewer (subst (λ (b : ℕ). From ex j b b (u ∷ extra ++ c.base) c.blocks now us) is_next goes)) refl m event mid less waits,
          ))
