-- The call of a class, as a drive: its result is a new exception, or a raise.
use Rattle.std.proofs.Common.{◌≡◌, ◌≤◌, ◌++◌, ◌⊎◌, ◌∙◌, ℕ, zero, suc, List, [], ◌∷◌, true, false, Some, inl, inr, refl, sym, ap, subst, length, length-append, append-nil, arith}
use Rattle.std.specs.Prelude.{None, Bool, Result, Ok, Err, IfOk, OnOk, slice_get, replicate}
use Rattle.py_objects.specs.declared.refs.PyBaseExceptionRef.{PyBaseExceptionRef}
use Rattle.py_objects.specs.declared.refs.PyTypeRef.{PyTypeRef}
use Rattle.py_objects.specs.declared.payload.Payload.{Payload}
use Rattle.py_objects.specs.declared.payload.Payload.TheVariants as payload
use Rattle.py_objects.specs.declared.payload.ClassBody.{ClassBody}
use Rattle.py_objects.specs.declared.request.Keywords.TheVariants as keywords
use Rattle.py_objects.specs.declared.request.Request.{Request}
use Rattle.py_objects.specs.declared.request.Request.TheVariants as request
use Rattle.py_objects.specs.declared.event.DriveAnswer.{DriveAnswer}
use Rattle.py_objects.specs.declared.event.DriveAnswer.TheVariants as answer
use Rattle.py_objects.specs.declared.event.ResumeHow.TheVariants as how
use Rattle.py_objects.specs.declared.event.Event.{Event}
use Rattle.py_objects.specs.declared.event.Event.TheVariants as event
use Rattle.py_objects.specs.declared.error_kind.ErrorKind.TheVariants.{TypeError}
use Rattle.py_objects.specs.Objects.{Obj, Name, HasPayload, class_object, IsClassObject}
use Rattle.py_objects.proofs.GrowthLemmas.{payload_grown, plainly_grows}
use Rattle.py_answers.specs.Answers.{Reply, Fails, Makes, CallsAs, CallsClass, GivesDrive, Replies}
use Rattle.py_run.specs.Run.{Phase, Idle, Asking, Going, Made, Due, Plan, Pose, Posed, start, state_after, makings_of, open_in, question, forming, reporting, requested_by, IsTop, to_report_by}
use Rattle.py_run.specs.Calls.{Course, Says, Enters, Begins, Sends, Throws, Setting, ComesTo}
use Rattle.py_run.specs.Coming.{Past, Comes, MayCome, IsReply, Opens, Starts, past_after, setting}
use Rattle.py_run.proofs.GrownReports.{split}
use Rattle.py_run.proofs.ReportsLemmas.{done_on}
use Rattle.py_vm.specs.Invoking.{calling, Gives, HasResult, Invokes, IsExceptionOrRaise, IsReturnOrRaise}
use Rattle.py_vm.specs.declared.fault.VmFault.{VmFault}
use Rattle.py_vm.specs.declared.fault.VmFault.TheVariants as fault
use Rattle.py_vm.specs.Machine.{Machine, Adds, EndsBy, IsDoneBy, done_of, past_of, plan_of, posed_by}
use Rattle.py_vm.specs.declared.machinery.Core.{Core}
use Rattle.py_vm.specs.Stands.{IsIdle, Stands, phase_of, seen}
use Rattle.py_vm.proofs.FormingLemmas.{alone}
use Rattle.py_vm.proofs.StandsLemmas.{kept_idle}

-- no activation is there: nothing was asked, or the drive's question is open
abbrev pub IsQuiet : Phase → Type 0
IsQuiet Idle = Unit {0}
IsQuiet Asking = Unit {0}
IsQuiet _ = ⊥

module _ (plan : Plan) (objects : List Payload) (d entered : ℕ) (class : PyTypeRef) (vs : List Obj) (c : ClassBody)
    (there : HasPayload objects (class_object class) (payload.Class c)) (asked : slice_get plan.asked d ≡ Some (posed_by entered (calling class vs))) where
  abbrev called : Request
  called = request.Call (class_object class) vs keywords.None

  -- it waits for its result
  pub record Quiet (p : Past) : Type 0 where
    pub stack : p.state.stack ≡ []
    pub phase : IsQuiet p.state.phase
    pub done : p.state.done ≡ d

  -- what it asks
  opens_it : (p : Past) → Quiet p → question plan p.state ≡ Some called
  opens_it p q = ap (open_in (slice_get plan.asked p.state.done)) q.stack ∙ ap (λ n. requested_by (slice_get plan.asked n)) q.done ∙ ap requested_by asked

  -- it enters nothing
  comes : (at : Setting) (course : Course) → ComesTo at objects called course → (reply : Reply) × (course ≡ Says reply) × Replies objects called reply
  comes at course (inl replied) = replied
  comes at course (inr (inl (g, ws, same, calls))) =
      let one : class_object class ≡ g = cc same in
      let has : HasPayload objects (class_object class) (payload.Function calls.body) = subst (λ v. HasPayload objects v (payload.Function calls.body)) (sym one) calls.entry in
      let clash : Some (payload.Class c) ≡ Some (payload.Function calls.body) = sym there ∙ has in
      absurd (cc clash)
  comes at course (inr (inr (inl (same, is)))) = absurd (cc same)
  comes at course (inr (inr (inr (inl (g, v, same, is))))) = absurd (cc same)
  comes at course (inr (inr (inr (inr (inl (g, k, v, same, is)))))) = absurd (cc same)
  comes at course (inr (inr (inr (inr (inr (inl (g, same, is))))))) = absurd (cc same)
  comes at course (inr (inr (inr (inr (inr (inr (inl (m, same, is)))))))) = absurd (cc same)
  comes at course (inr (inr (inr (inr (inr (inr (inr (x, k, v, t, same, is)))))))) = absurd (cc same)

  -- the question is open, so it is this one
  comes_asked : (p : Past) (r : Request) (course : Course) → Quiet p → question plan p.state ≡ Some r → ComesTo (setting plan p) objects r course
      → (reply : Reply) × (course ≡ Says reply) × Replies objects called reply
  comes_asked p r course q is to =
      let both : Some called ≡ Some r = sym (opens_it p q) ∙ is in
      let same : called ≡ r = cc both in
      comes (setting plan p) course (subst (λ (y : Request). ComesTo (setting plan p) objects y course) (sym same) to)

  opened : (p : Past) (course : Course) → Quiet p → Opens plan objects p course → (reply : Reply) × (course ≡ Says reply) × Replies objects called reply
  opened p course q (asking, (r, is, to)) = comes_asked p r course q is to

  -- nothing goes on
  none_goes : (p : Past) → Quiet p → p.state.phase ≡ Going → ⊥
  none_goes p q is = subst IsQuiet is q.phase

  no_start : (p : Past) (y : Phase) (a : ℕ) → IsQuiet y → Quiet p → Starts plan objects p y a → ⊥
  no_start p Idle a quiet q starts = starts
  no_start p Asking a quiet q starts = let (reply, is, rest) = opened p (Begins a) q starts in absurd (cc is)
  no_start p Going a quiet q starts = starts
  no_start p (Made f) a quiet q starts = absurd quiet
  no_start p (Due l) a quiet q starts = starts

  -- whatever comes that isn't its result leaves it so
  quiet_on : (p : Past) (e : Event) → Quiet p → MayCome plan objects p e → ((n : ℕ) (w : DriveAnswer) → e ≡ event.Result n w → ⊥) → Quiet (past_after plan p e)
  quiet_on p (event.Drive n) q may other = record { stack = q.stack; phase = tt; done = q.done }
  quiet_on p (event.Result n w) q may other = absurd (other n w refl)
  quiet_on p (event.Make a f ws) q (next, opens) other = let (reply, is, rest) = opened p (Enters f ws) q opens in absurd (cc is)
  quiet_on p (event.Resume a how.Start) q may other = absurd (no_start p p.state.phase a q.phase q may)
  quiet_on p (event.Resume a (how.Send v)) q may other = let (reply, is, rest) = opened p (Sends a v) q may in absurd (cc is)
  quiet_on p (event.Resume a (how.Throw e)) q (x, opens, raise) other = let (reply, is, rest) = opened p (Throws a x) q opens in absurd (cc is)
  quiet_on p (event.Ask a r own at) q may other = absurd (none_goes p q may.0)
  quiet_on p (event.Got a w) q may other = absurd (subst (IsTop a) q.stack may.0)
  quiet_on p (event.Round a at) q may other = absurd (none_goes p q may.0)
  quiet_on p (event.Yield a v at) q may other = absurd (none_goes p q may.0)
  quiet_on p (event.End a e at) q may other = absurd (none_goes p q may.0)

  -- ---- its result

  replied : (p : Past) (y : Phase) (r : Request) (reply : Reply) → IsQuiet y → Quiet p → question plan p.state ≡ Some r → IsReply plan objects p y r reply → Replies objects called reply
  replied p Idle r reply quiet q is to = absurd to
  replied p Asking r reply quiet q is to =
      let (x, same, rest) = comes_asked p r (Says reply) q is to in
      let one : reply ≡ x = cc same in
      subst (λ (y : Reply). Replies objects called y) (sym one) rest
  replied p Going r reply quiet q is to = absurd to
  replied p (Made f) r reply quiet q is to = absurd quiet
  replied p (Due l) r reply quiet q is to = absurd quiet

  -- no exception is made of anything by it, and no text told
  no_forms : (p : Past) → Quiet p → forming plan p.state ≡ None
  no_forms p q = ap (λ n. makings_of (slice_get plan.asked n)) q.done ∙ ap makings_of asked

  no_text : (p : Past) → Quiet p → reporting plan p.state ≡ None
  no_text p q = ap (λ n. to_report_by (slice_get plan.asked n)) q.done ∙ ap to_report_by asked

  -- a reply to it gives an exception, or a raise
  made_by : (before : List Event) (reply : Reply) (w : DriveAnswer) → Replies objects called reply → GivesDrive objects before reply w → IsExceptionOrRaise objects w
  made_by before reply w (named, (p, has, calls)) gives =
      let same : Some (payload.Class c) ≡ Some p = sym there ∙ has in
      let one : payload.Class c ≡ p = cc same in
      let (b, derived, by) = subst (λ (y : Payload). CallsAs objects (class_object class) y vs reply) (sym one) calls in
      answered b by w gives
    where
      makes : (w : DriveAnswer) → GivesDrive objects before (Makes class vs) w → IsExceptionOrRaise objects w
      makes (answer.Returns v) (os, derived, is) = (_, is.entry)
      makes (answer.Raises e) gives = tt
      makes (answer.Yields v) gives = absurd (cc gives)
      makes (answer.Stops v) gives = absurd (cc gives)
      makes answer.Closes gives = absurd (cc gives)
      makes (answer.Reported t) gives = gives

      fails : (text : Name) (w : DriveAnswer) → GivesDrive objects before (Fails TypeError text) w → IsExceptionOrRaise objects w
      fails text (answer.Returns v) gives = absurd gives
      fails text (answer.Raises e) gives = tt
      fails text (answer.Yields v) gives = absurd (cc gives)
      fails text (answer.Stops v) gives = absurd (cc gives)
      fails text answer.Closes gives = absurd (cc gives)
      fails text (answer.Reported t) gives = gives

      answered : (b : Bool) → CallsClass objects (class_object class) c vs b reply → (w : DriveAnswer) → GivesDrive objects before reply w → IsExceptionOrRaise objects w
      answered true is w gives = makes w (subst (λ (y : Reply). GivesDrive objects before y w) is gives)
      answered false (n, named, is) w gives = fails _ w (subst (λ (y : Reply). GivesDrive objects before y w) is gives)

  result_made : (p : Past) (n : ℕ) (w : DriveAnswer) → Quiet p → MayCome plan objects p (event.Result n w) → IsExceptionOrRaise objects w
  result_made p n w q (next, alone, inl (reply, inl (r, is, to), gives)) = made_by p.events reply w (replied p p.state.phase r reply q.phase q is to) gives
  result_made p n w q (next, alone, inl (reply, inr (asking, (x, is, forms)), gives)) = let clash : None ≡ Some x = sym (no_forms p q) ∙ is in absurd (cc clash)
  result_made p n w q (next, alone, inr (asking, (t, is, text))) = let clash : None ≡ Some t = sym (no_text p q) ∙ is in absurd (cc clash)

  -- it has no second result
  one_result : (p : Past) (es : List Event) (w : DriveAnswer) → suc d ≤ p.state.done → Comes plan objects p (es ++ event.Result (suc d) w ∷ []) → ⊥
  one_result p [] w low (may, rest) = let next = may.0 in omega (arith, low, next)
  one_result p (e ∷ es) w low (may, rest) = let on = done_on p.state (e ∷ []) in one_result (past_after plan p e) es w (omega (arith, low, on)) rest

  pub last_made : (p : Past) (es : List Event) (w : DriveAnswer) → Quiet p → Comes plan objects p (es ++ event.Result (suc d) w ∷ []) → IsExceptionOrRaise objects w
  last_made p [] w q (may, rest) = result_made p (suc d) w q may
  last_made p (event.Result n v ∷ es) w q (may, rest) = let done = q.done in absurd (one_result (past_after plan p (event.Result n v)) es w (omega (arith, done)) rest)
  last_made p (event.Drive n ∷ es) w q (may, rest) = last_made (past_after plan p (event.Drive n)) es w (quiet_on p (event.Drive n) q may (λ m v is. absurd (cc is))) rest
  last_made p (event.Make a f ws ∷ es) w q (may, rest) = last_made (past_after plan p (event.Make a f ws)) es w (quiet_on p (event.Make a f ws) q may (λ m v is. absurd (cc is))) rest
  last_made p (event.Resume a h ∷ es) w q (may, rest) = last_made (past_after plan p (event.Resume a h)) es w (quiet_on p (event.Resume a h) q may (λ m v is. absurd (cc is))) rest
  last_made p (event.Ask a r own at ∷ es) w q (may, rest) = last_made (past_after plan p (event.Ask a r own at)) es w (quiet_on p (event.Ask a r own at) q may (λ m v is. absurd (cc is))) rest
  last_made p (event.Got a g ∷ es) w q (may, rest) = last_made (past_after plan p (event.Got a g)) es w (quiet_on p (event.Got a g) q may (λ m v is. absurd (cc is))) rest
  last_made p (event.Round a at ∷ es) w q (may, rest) = last_made (past_after plan p (event.Round a at)) es w (quiet_on p (event.Round a at) q may (λ m v is. absurd (cc is))) rest
  last_made p (event.Yield a v at ∷ es) w q (may, rest) = last_made (past_after plan p (event.Yield a v at)) es w (quiet_on p (event.Yield a v at) q may (λ m v is. absurd (cc is))) rest
  last_made p (event.End a e at ∷ es) w q (may, rest) = last_made (past_after plan p (event.End a e at)) es w (quiet_on p (event.End a e at) q may (λ m v is. absurd (cc is))) rest

-- the last of some drives
nth : (n : ℕ) (q : Posed) → slice_get (replicate (suc n) q) n ≡ Some q
nth zero q = refl
nth (suc n) q = nth n q

-- what comes of the drive in a machine
pub class_made : (old : Core) (new : Machine) (class : PyTypeRef) (vs : List Obj) (w : DriveAnswer) → IsIdle old → IsClassObject old.world.store.made (class_object class)
    → Adds (calling class vs) [] (seen old) new → IsDoneBy (seen old) new → EndsBy new.events (suc (done_of (seen old))) w → IsExceptionOrRaise new.objects w
class_made old new class vs w idle (c, has) adds done (front, is) = by (split old.events adds.part front [] (event.Result (suc d) w) (sym adds.events ∙ is))
  where
    d : ℕ
    d = done_of (seen old)

    asked : List Posed
    asked = replicate (suc (done_of (seen old))) (posed_by old.entered (calling class vs))

    by : ((x : List Event) × (old.events ≡ front ++ event.Result (suc d) w ∷ x)) ⊎ ((x : List Event) × (front ≡ old.events ++ x) × (adds.part ≡ x ++ event.Result (suc d) w ∷ [])) → IsExceptionOrRaise new.objects w
    by (inl (x, same)) =
        let whole = ap length is in
        let parts = ap length adds.events in
        let olds = ap length same in
        let sum = length-append front (event.Result (suc d) w ∷ []) in
        let more = length-append front (event.Result (suc d) w ∷ x) in
        let both = length-append old.events adds.part in
        let short : length adds.part ≡ 0 = omega (arith, whole, parts, olds, sum, more, both) in
        none adds.part refl short
      where
        none : (part : List Event) → adds.part ≡ part → length adds.part ≡ 0 → IsExceptionOrRaise new.objects w
        none [] same short =
            let here : new.events ≡ old.events = adds.events ∙ ap (λ l. old.events ++ l) same ∙ append-nil old.events in
            let now : done_of new ≡ done_of (seen old) = ap (λ l. (state_after start l).done) here in
            let then = done.0 in
            absurd (omega (arith, now, then))
        none (e ∷ es) same short = let long = ap length same in absurd (omega (arith, long, short))
    by (inr (x, same, behind)) =
        last_made (plan_of old.world.codes asked) new.objects d old.entered class vs c (payload_grown old.world.store.made new.objects (class_object class) (payload.Class c) (plainly_grows old.world.store.made new.objects adds.grows) has)
        (nth d (posed_by old.entered (calling class vs)))
        (past_of (seen old)) x w
        (record { stack = alone old idle; phase = subst IsQuiet (sym ((kept_idle old idle).follows.phase ∙ ap phase_of idle.idle)) tt; done = refl })
        (subst (λ (l : List Event). Comes (plan_of old.world.codes asked) new.objects (past_of (seen old)) l) behind (adds.runs asked (nth d (posed_by old.entered (calling class vs)))))

-- ---- what the functions make of it

-- the call's result is an exception, or a raise, if it has one
abbrev pub IsCalled : PyTypeRef → List Obj → Result DriveAnswer VmFault → (old new : Machine) → Type 0
IsCalled class vs r old new =
    IsClassObject old.objects (class_object class) → (old.failed ≡ true → r ≡ Err fault.Failed) → (old.failed ≡ false → Adds (calling class vs) [] old new)
    → OnOk r (IsDoneBy old new) → IfOk r (EndsBy new.events (suc (done_of old))) → IfOk r (IsExceptionOrRaise new.objects)

called_in : (m : Core) (new : Machine) (class : PyTypeRef) (vs : List Obj) (r : Result DriveAnswer VmFault) → Stands m → IsCalled class vs r (seen m) new
called_in m new class vs (Err f) stands there failed adds done ends = tt
called_in m new class vs (Ok w) stands there failed adds done ends = by m.failed refl
  where
    by : (b : Bool) → m.failed ≡ b → IsExceptionOrRaise new.objects w
    by true is = let no : Ok w ≡ Err fault.Failed = failed is in absurd (cc no)
    by false is = class_made m new class vs w (stands is) there (adds is) done ends

pub is_called : (m : Core) (old new : Machine) (class : PyTypeRef) (vs : List Obj) (r : Result DriveAnswer VmFault) → seen m ≡ old → Stands m → IsCalled class vs r old new
is_called m old new class vs r is stands = subst (λ (x : Machine). IsCalled class vs r x new) is (called_in m new class vs r stands)

pub return_or_raise : (objects : List Payload) (w : DriveAnswer) → IsExceptionOrRaise objects w → IsReturnOrRaise w
return_or_raise objects (answer.Returns v) made = tt
return_or_raise objects (answer.Raises e) made = tt
return_or_raise objects (answer.Yields v) made = made
return_or_raise objects (answer.Stops v) made = made
return_or_raise objects answer.Closes made = made
return_or_raise objects (answer.Reported text) made = made

pub invoked : (pose : Pose) (turns : ℕ) (old new : Machine) (w : DriveAnswer) (r : Result PyBaseExceptionRef VmFault)
    → HasResult pose old new w → IsExceptionOrRaise new.objects w → Gives w r → Invokes pose turns old r new
invoked pose turns old new w (Ok e) has made gives = (subst (HasResult pose old new) gives has, subst (IsExceptionOrRaise new.objects) gives made)
invoked pose turns old new w (Err (fault.Exception e)) has made gives = subst (HasResult pose old new) gives has
invoked pose turns old new w (Err fault.OutOfTurns) has made gives = absurd gives
invoked pose turns old new w (Err fault.NoMemory) has made gives = absurd gives
invoked pose turns old new w (Err fault.Failed) has made gives = gives
