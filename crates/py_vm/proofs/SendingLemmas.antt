-- What sends and closes of generators come to, and what they share with throws.
use Rattle.std.proofs.Common.{◌≡◌, ◌<◌, ℕ, List, [], ◌∷◌, Bool, true, false, Some, inl, inr, refl, sym, ap, subst, ◌∙◌, eqb, length}
use Rattle.std.specs.Prelude.{Option, None, option_map, nat_le, if◌then◌else◌}
use Rattle.py_objects.specs.declared.refs.PyBaseExceptionRef.{PyBaseExceptionRef}
use Rattle.py_objects.specs.declared.payload.Payload.{Payload}
use Rattle.py_objects.specs.declared.payload.Payload.TheVariants as payload
use Rattle.py_objects.specs.declared.payload.CoroBody.{CoroBody}
use Rattle.py_objects.specs.declared.payload.CoroKind.{CoroKind}
use Rattle.py_objects.specs.declared.payload.Fault.{Fault}
use Rattle.py_objects.specs.declared.error_kind.ErrorKind.TheVariants.{GeneratorExit}
use Rattle.py_objects.specs.declared.request.Request.{Request}
use Rattle.py_objects.specs.declared.request.Request.TheVariants as request
use Rattle.py_objects.specs.declared.event.ResumeHow.TheVariants as how
use Rattle.py_objects.specs.Objects.{Obj, HasPayload, AllFit, request_numbers}
use Rattle.py_objects.specs.Edits.{Kept}
use Rattle.py_objects.specs.Growth.{GrowsPlainly, IsGrown}
use Rattle.py_objects.specs.Values.{is_none}
use Rattle.py_objects.proofs.GrowthLemmas.{plainly_grows}
use Rattle.py_objects.proofs.GrownLemmas.{grown_refl}
use Rattle.py_exceptions.specs.declared.zoo.ExceptionZoo.{ExceptionZoo}
use Rattle.py_exceptions.specs.Classes.{class_of, HaveClasses}
use Rattle.py_exceptions.specs.Making.{IsNewCalled}
use Rattle.py_answers.specs.Answers.{BuiltIn, Reply, Fails, Stops, Closes}
use Rattle.py_answers.specs.Replying.{IsGenerator}
use Rattle.py_answers.proofs.GivingLemmas.{built_in_given}
use Rattle.py_coro.specs.declared.coro.Begin.{Begin}
use Rattle.py_coro.specs.declared.coro.Begin.TheVariants as begin
use Rattle.py_coro.specs.declared.refusal.CoroRefusal.{CoroRefusal}
use Rattle.py_coro.specs.declared.refusal.CoroRefusal.TheVariants as refusal
use Rattle.py_coro.specs.Modes.{Mode, Fresh, Suspended as Left, Running, Closed, Row, Stops as RowStops, Done as RowDone, Starts as RowStarts, Sends as RowSends, Exits as RowExits}
use Rattle.py_coro.specs.Modes.{Refuses as RowRefuses, most_depth, sent, closed}
use Rattle.py_coro.specs.Coros.{State, behind, begun}
use Rattle.py_coro.specs.Refusals.{refused, word_of}
use Rattle.py_run.specs.Generators.{generator_at}
use Rattle.py_run.specs.Calls.{Course, Says, Sends, Throws, ComesTo, course_by, failing, kept_or_closed}
use Rattle.py_vm.specs.declared.calls.Course.{Course as MadeCourse}
use Rattle.py_vm.specs.declared.calls.Course.TheVariants as course
use Rattle.py_vm.specs.declared.reply.Reply.{Reply as MadeReply}
use Rattle.py_vm.specs.declared.reply.Reply.TheVariants as made
use Rattle.py_vm.specs.declared.generators.KeptGenerator.{KeptGenerator}
use Rattle.py_vm.specs.Codes.{Checked}
use Rattle.py_vm.specs.Courses.{closed_of, setting_deep, shut_if, IsCourseAt, IsRefusedBy, IsReplied, IsThrown, TakesThrows, IsPassedBy}
use Rattle.py_vm.specs.Generators.{changed_at, kept_at, modes_of, seen_as, shut, with_state, without_activation, IsCalledOn}
use Rattle.py_vm.proofs.CallsLemmas.{closes_none, leaves, replied_behind, fails_none}
use Rattle.py_vm.proofs.KeptLemmas.{changed_twice, kept_nowhere, seen_at}

-- ---- generators

-- a generator as runs have it, where it stands
pub stands_as : (list : List KeptGenerator) (g : Obj) (o : Option KeptGenerator) → kept_at list g ≡ o → kept_or_closed g (option_map seen_as o) ≡ kept_or_closed g (generator_at (modes_of list) g)
stands_as list g o here = sym (ap (kept_or_closed g) (seen_at list g ∙ ap (option_map seen_as) here))

-- what a change makes of the one that is found decides
pub changed_same : (g : Obj) (f h : KeptGenerator → KeptGenerator) (list : List KeptGenerator) (x : KeptGenerator) → kept_at list g ≡ Some x → f x ≡ h x → changed_at g f list ≡ changed_at g h list
changed_same g f h [] x here same = refl
changed_same g f h (y ∷ ys) x here same = by (eqb y.object.number g.number) here (λ next. changed_same g f h ys x next same)
  where
    by : (b : Bool) → (if b then Some y else kept_at ys g) ≡ Some x → (kept_at ys g ≡ Some x → changed_at g f ys ≡ changed_at g h ys)
        → (if b then f y ∷ ys else y ∷ changed_at g f ys) ≡ (if b then h y ∷ ys else y ∷ changed_at g h ys)
    by true found later = let is : y ≡ x = cc found in ap (λ z. z ∷ ys) (ap f is ∙ same ∙ ap h (sym is))
    by false found later = ap (λ l. y ∷ l) (later found)

-- where it stays, all do
pub changed_nothing : (g : Obj) (f : KeptGenerator → KeptGenerator) (list : List KeptGenerator) (x : KeptGenerator) → kept_at list g ≡ Some x → f x ≡ x → changed_at g f list ≡ list
changed_nothing g f [] x here same = refl
changed_nothing g f (y ∷ ys) x here same = by (eqb y.object.number g.number) here (λ next. changed_nothing g f ys x next same)
  where
    by : (b : Bool) → (if b then Some y else kept_at ys g) ≡ Some x → (kept_at ys g ≡ Some x → changed_at g f ys ≡ ys) → (if b then f y ∷ ys else y ∷ changed_at g f ys) ≡ y ∷ ys
    by true found later = let is : y ≡ x = cc found in ap (λ z. z ∷ ys) (ap f is ∙ same ∙ sym is)
    by false found later = ap (λ l. y ∷ l) (later found)

-- what a row makes of a generator
abbrev pub by_row : Row → KeptGenerator → KeptGenerator
by_row row = with_state (λ s. behind row s)

-- the change by the row that one is in is the change by that row
pub changed_by_row : (g : Obj) (row : State → Row) (list : List KeptGenerator) (x : KeptGenerator) → kept_at list g ≡ Some x
    → changed_at g (with_state (λ s. behind (row s) s)) list ≡ changed_at g (by_row (row x.generator)) list
changed_by_row g row list x here = changed_same g (with_state (λ s. behind (row s) s)) (by_row (row x.generator)) list x here refl

-- ---- courses

module _ (depth : ℕ) (old new : Kept) (list list' : List KeptGenerator) (r : Request) where
  -- a request comes to this, whatever the codes are, and whatever is handled
  abbrev pub AlwaysComesTo : Course → Type 0
  AlwaysComesTo c = (codes : Checked) (handled : Option PyBaseExceptionRef) → ComesTo (setting_deep codes handled depth list) old.made r c

  -- it is answered at once
  pub says_course : (reply : Reply) (w : MadeReply) → AlwaysComesTo (Says reply) → IsReplied old.made new.made reply w → list' ≡ shut_if (closed_of r reply) list
      → IsPassedBy (request_numbers r) w → IsCourseAt depth old new list list' r (course.Says w)
  says_course reply w comes replied shuts passed = λ codes handled. (reply, comes codes handled, replied, shuts, passed)

  -- it is refused, behind objects that came
  pub refused_course : (mid : Kept) (fault : Fault) (c : MadeCourse) → IsRefusedBy mid.made new.made fault c → IsGrown old mid → AllFit old.made → AlwaysComesTo (failing fault) → list' ≡ list
      → IsCourseAt depth old new list list' r c
  refused_course mid fault (course.Says w) replied grown fit comes same =
      let reply : Reply = Fails fault.kind fault.text in
      says_course reply w comes (replied_behind old.made mid.made new.made reply w (plainly_grows old.made mid.made grown.objects) (grown.objects.fit fit) replied)
      (same ∙ leaves r reply list (closes_none reply (λ g. refl) r)) (fails_none (request_numbers r) mid.made new.made fault.kind fault.text w replied)
  refused_course mid fault (course.Enters f vs) none grown fit comes same = absurd none
  refused_course mid fault (course.Resumes g h) none grown fit comes same = absurd none

-- ---- sends

-- what a send begins, in a mode and by a row
abbrev pub SentAs : Mode → Row → Begin → Type 0
SentAs mode row begin.Stop = row ≡ RowStops
SentAs mode row (begin.Refused r) = row ≡ RowRefuses r
SentAs mode row begin.EnterStart = (row ≡ RowStarts) × (mode ≡ Fresh)
SentAs mode row begin.EnterSend = (row ≡ RowSends) × (mode ≡ Left)
SentAs mode row _ = ⊥

-- an exception, whichever
some_exception : PyBaseExceptionRef
some_exception = record { number = 0 }

pub sent_as : (mode : Mode) (none : Bool) (depth : ℕ) (b : Begin) → ((e : PyBaseExceptionRef) → b ≡ begun e (sent mode none depth)) → SentAs mode (sent mode none depth) b
sent_as mode none depth b is = subst (SentAs mode (sent mode none depth)) (sym (is some_exception)) (by mode none)
  where
    starts : (deep : Bool) → SentAs Fresh (if deep then RowRefuses refusal.TooDeep else RowStarts) (begun some_exception (if deep then RowRefuses refusal.TooDeep else RowStarts))
    starts true = refl
    starts false = (refl, refl)

    sends : (deep : Bool) → SentAs Left (if deep then RowRefuses refusal.TooDeep else RowSends) (begun some_exception (if deep then RowRefuses refusal.TooDeep else RowSends))
    sends true = refl
    sends false = (refl, refl)

    by : (mode : Mode) (none : Bool) → SentAs mode (sent mode none depth) (begun some_exception (sent mode none depth))
    by Fresh true = starts (nat_le most_depth depth)
    by Fresh false = refl
    by Left none = sends (nat_le most_depth depth)
    by Running none = refl
    by Closed none = refl

module _ (depth : ℕ) (old new : Kept) (list list' : List KeptGenerator) (g v : Obj) (body : CoroBody) (has : HasPayload old.made g (payload.Generator body))
    (p : Payload) (there : HasPayload old.made v p) where
  -- what it comes to, by where the generator stands
  send_comes : (o : Option KeptGenerator) → kept_at list g ≡ o → (c : Course)
      → c ≡ course_by (word_of body.kind) (kept_or_closed g (option_map seen_as o)).act (Sends (kept_or_closed g (option_map seen_as o)).act v)
      (sent (kept_or_closed g (option_map seen_as o)).mode (is_none p) depth)
      → AlwaysComesTo depth old new list list' (request.Send g v) c
  send_comes o here c is codes handled =
      inr (inr (inr (inl (g, v, refl, (body.kind, kept_or_closed g (option_map seen_as o), record { body = body; entry = has; kind_is = refl; kept = stands_as list g o here }, p, there, is)))))

  -- one that isn't there has stopped
  pub send_nowhere : kept_at list g ≡ None → list' ≡ list → IsCourseAt depth old new list list' (request.Send g v) (course.Says (made.Stops None))
  send_nowhere here same = says_course depth old new list list' (request.Send g v) (Stops None) (made.Stops None) (send_comes None here (Says (Stops None)) refl) (refl, tt) same tt

  -- one that is there
  module _ (x : KeptGenerator) (here : kept_at list g ≡ Some x) (none : Bool) (is_it : none ≡ is_none p)
      (changes : list' ≡ changed_at g (with_state (λ s. behind (sent s.mode none depth) s)) list) where
    abbrev pub send_row : Row
    send_row = sent x.generator.mode none depth

    -- what it comes to by its row
    by_sent : (which : Row) → send_row ≡ which → AlwaysComesTo depth old new list list' (request.Send g v) (course_by (word_of body.kind) x.act (Sends x.act v) which)
    by_sent which is =
        let same : which ≡ sent x.generator.mode (is_none p) depth = sym is ∙ ap (λ b. sent x.generator.mode b depth) is_it in
        send_comes (Some x) here (course_by (word_of body.kind) x.act (Sends x.act v) which) (ap (course_by (word_of body.kind) x.act (Sends x.act v)) same)

    -- and what that makes of it
    changed : (which : Row) → send_row ≡ which → list' ≡ changed_at g (by_row which) list
    changed which is = changes ∙ changed_by_row g (λ (s : State). sent s.mode none depth) list x here ∙ ap (λ k. changed_at g (by_row k) list) is

    pub send_stops : send_row ≡ RowStops → IsCourseAt depth old new list list' (request.Send g v) (course.Says (made.Stops None))
    send_stops is =
        says_course depth old new list list' (request.Send g v) (Stops None) (made.Stops None) (by_sent RowStops is) (refl, tt)
        (changed RowStops is ∙ changed_nothing g (by_row RowStops) list x here refl) tt

    pub send_refused : (k : CoroRefusal) (c : MadeCourse) → AllFit old.made → send_row ≡ RowRefuses k → IsRefusedBy old.made new.made (refused (word_of body.kind) k) c
        → IsCourseAt depth old new list list' (request.Send g v) c
    send_refused k c fit is said =
        refused_course depth old new list list' (request.Send g v) old (refused (word_of body.kind) k) c said (grown_refl old) fit (by_sent (RowRefuses k) is)
        (changed (RowRefuses k) is ∙ changed_nothing g (by_row (RowRefuses k)) list x here refl)

    pub send_starts : (send_row ≡ RowStarts) × (x.generator.mode ≡ Fresh) → IsCourseAt depth old new list list' (request.Send g v) (course.Resumes g how.Start)
    send_starts (is, mode) = λ codes handled. record { asks = refl; kept = x; is_kept = here; enters = (by_sent RowStarts is codes handled, mode); changes = changed RowStarts is }

    pub send_sends : (send_row ≡ RowSends) × (x.generator.mode ≡ Left) → v.number < length new.made → IsCourseAt depth old new list list' (request.Send g v) (course.Resumes g (how.Send v))
    send_sends (is, mode) low = λ codes handled. record { asks = refl; kept = x; is_kept = here; enters = (by_sent RowSends is codes handled, mode, low); changes = changed RowSends is }

-- what a send gives, by what it begins
abbrev pub SendGives : (depth : ℕ) → (old new : Kept) → (list list' : List KeptGenerator) → (g v : Obj) → CoroKind → Begin → Type 0
SendGives depth old new list list' g v kind begin.Stop = IsCourseAt depth old new list list' (request.Send g v) (course.Says (made.Stops None))
SendGives depth old new list list' g v kind (begin.Refused k) = (c : MadeCourse) → IsRefusedBy old.made new.made (refused (word_of kind) k) c → IsCourseAt depth old new list list' (request.Send g v) c
SendGives depth old new list list' g v kind begin.EnterStart = IsCourseAt depth old new list list' (request.Send g v) (course.Resumes g how.Start)
SendGives depth old new list list' g v kind begin.EnterSend = v.number < length new.made → IsCourseAt depth old new list list' (request.Send g v) (course.Resumes g (how.Send v))
SendGives depth old new list list' g v kind _ = ⊥

pub send_gives : (depth : ℕ) (old new : Kept) (list list' : List KeptGenerator) (g v : Obj) (kind : CoroKind) (none : Bool) (b : Begin) → IsGenerator old.made g → AllFit old.made
    → ((body : CoroBody) → HasPayload old.made g (payload.Generator body) → kind ≡ body.kind) → ((p : Payload) × HasPayload old.made v p × (none ≡ is_none p))
    → IsCalledOn g (λ (s : State). sent s.mode none depth) list list' (Some b) → SendGives depth old new list list' g v kind b
send_gives depth old new list list' g v kind none b (body, has) fit kinds (p, has_p, nones) (x, here, begins, changes) =
    let row : SentAs x.generator.mode (sent x.generator.mode none depth) b = sent_as x.generator.mode none depth b begins in
    subst (λ k. SendGives depth old new list list' g v k b) (sym (kinds body has)) (by b row)
  where
    by : (b : Begin) → SentAs x.generator.mode (sent x.generator.mode none depth) b → SendGives depth old new list list' g v body.kind b
    by begin.Stop row = send_stops depth old new list list' g v body has p has_p x here none nones changes row
    by (begin.Refused k) row = λ c said. send_refused depth old new list list' g v body has p has_p x here none nones changes k c fit row said
    by begin.EnterStart row = send_starts depth old new list list' g v body has p has_p x here none nones changes row
    by begin.EnterSend row = λ fits. send_sends depth old new list list' g v body has p has_p x here none nones changes row fits
    by _ row = absurd row

-- it gives nothing else
pub send_never : (depth : ℕ) (old new : Kept) (list list' : List KeptGenerator) (g v : Obj) (kind : CoroKind) (b : Begin) → SendGives depth old new list list' g v kind b
    → (b ≡ begin.Stop → ⊥) → ((r : CoroRefusal) → b ≡ begin.Refused r → ⊥) → (b ≡ begin.EnterStart → ⊥) → (b ≡ begin.EnterSend → ⊥) → ⊥
send_never depth old new list list' g v kind begin.Stop gives stop refuse start send = stop refl
send_never depth old new list list' g v kind (begin.Refused r) gives stop refuse start send = refuse r refl
send_never depth old new list list' g v kind begin.EnterStart gives stop refuse start send = start refl
send_never depth old new list list' g v kind begin.EnterSend gives stop refuse start send = send refl
send_never depth old new list list' g v kind _ gives stop refuse start send = gives

-- and what it gives where the generator isn't there
pub send_absent : (depth : ℕ) (old new : Kept) (list list' : List KeptGenerator) (g v : Obj) (row : State → Row) → IsGenerator old.made g → (p : Payload) → HasPayload old.made v p
    → IsCalledOn g row list list' None
    → IsCourseAt depth old new list list' (request.Send g v) (course.Says (made.Stops None))
send_absent depth old new list list' g v row (body, has) p has_p (here, same) = send_nowhere depth old new list list' g v body has p has_p here same

-- ---- closes

-- what a close begins, in a mode and by a row
abbrev pub ClosedAs : Mode → Row → Begin → Type 0
ClosedAs mode row begin.Done = row ≡ RowDone
ClosedAs mode row (begin.Refused r) = row ≡ RowRefuses r
ClosedAs mode row begin.EnterExit = (row ≡ RowExits) × (mode ≡ Left)
ClosedAs mode row _ = ⊥

pub closed_as : (mode : Mode) (depth : ℕ) (b : Begin) → ((e : PyBaseExceptionRef) → b ≡ begun e (closed mode depth)) → ClosedAs mode (closed mode depth) b
closed_as mode depth b is = subst (ClosedAs mode (closed mode depth)) (sym (is some_exception)) (by mode)
  where
    exits : (deep : Bool) → ClosedAs Left (if deep then RowRefuses refusal.TooDeep else RowExits) (begun some_exception (if deep then RowRefuses refusal.TooDeep else RowExits))
    exits true = refl
    exits false = (refl, refl)

    by : (mode : Mode) → ClosedAs mode (closed mode depth) (begun some_exception (closed mode depth))
    by Fresh = refl
    by Left = exits (nat_le most_depth depth)
    by Running = refl
    by Closed = refl

module _ (depth : ℕ) (old new : Kept) (list list' : List KeptGenerator) (g : Obj) (body : CoroBody) (has : HasPayload old.made g (payload.Generator body)) where
  close_comes : (o : Option KeptGenerator) → kept_at list g ≡ o → (c : Course)
      → c ≡ course_by (word_of body.kind) (kept_or_closed g (option_map seen_as o)).act (Throws (kept_or_closed g (option_map seen_as o)).act (BuiltIn GeneratorExit []))
      (closed (kept_or_closed g (option_map seen_as o)).mode depth)
      → AlwaysComesTo depth old new list list' (request.Close g) c
  close_comes o here c is codes handled =
      inr (inr (inr (inr (inr (inl (g, refl, (body.kind, kept_or_closed g (option_map seen_as o), record { body = body; entry = has; kind_is = refl; kept = stands_as list g o here }, is)))))))

  -- one that isn't there is closed
  pub close_nowhere : kept_at list g ≡ None → list' ≡ list → IsCourseAt depth old new list list' (request.Close g) (course.Says made.Closes)
  close_nowhere here same =
      says_course depth old new list list' (request.Close g) Closes made.Closes (close_comes None here (Says Closes) refl) refl (same ∙ sym (kept_nowhere g shut (λ x. refl) list here)) tt

  -- one that is there
  module _ (x : KeptGenerator) (here : kept_at list g ≡ Some x) (mid : List KeptGenerator) (changes : mid ≡ changed_at g (with_state (λ s. behind (closed s.mode depth) s)) list) where
    abbrev pub close_row : Row
    close_row = closed x.generator.mode depth

    by_closed : (which : Row) → close_row ≡ which → AlwaysComesTo depth old new list list' (request.Close g) (course_by (word_of body.kind) x.act (Throws x.act (BuiltIn GeneratorExit [])) which)
    by_closed which is =
        close_comes (Some x) here (course_by (word_of body.kind) x.act (Throws x.act (BuiltIn GeneratorExit [])) which)
        (ap (course_by (word_of body.kind) x.act (Throws x.act (BuiltIn GeneratorExit []))) (sym is))

    closed_changed : (which : Row) → close_row ≡ which → mid ≡ changed_at g (by_row which) list
    closed_changed which is = changes ∙ changed_by_row g (λ (s : State). closed s.mode depth) list x here ∙ ap (λ k. changed_at g (by_row k) list) is

    pub close_done : close_row ≡ RowDone → list' ≡ changed_at g without_activation mid → IsCourseAt depth old new list list' (request.Close g) (course.Says made.Closes)
    close_done is dropped =
        says_course depth old new list list' (request.Close g) Closes made.Closes (by_closed RowDone is) refl
        (dropped ∙ ap (changed_at g without_activation) (closed_changed RowDone is) ∙ changed_twice g (by_row RowDone) (λ y. refl) without_activation list) tt

    pub close_refused : (k : CoroRefusal) (c : MadeCourse) → AllFit old.made → close_row ≡ RowRefuses k → list' ≡ mid → IsRefusedBy old.made new.made (refused (word_of body.kind) k) c
        → IsCourseAt depth old new list list' (request.Close g) c
    close_refused k c fit is same said =
        refused_course depth old new list list' (request.Close g) old (refused (word_of body.kind) k) c said (grown_refl old) fit (by_closed (RowRefuses k) is)
        (same ∙ closed_changed (RowRefuses k) is ∙ changed_nothing g (by_row (RowRefuses k)) list x here refl)

    pub close_exits : (zoo : ExceptionZoo) (e : PyBaseExceptionRef) → HaveClasses zoo old.made → GrowsPlainly old.made new.made → IsNewCalled old.made new.made (class_of zoo GeneratorExit) [] e
        → (close_row ≡ RowExits) × (x.generator.mode ≡ Left) → list' ≡ mid → IsCourseAt depth old new list list' (request.Close g) (course.Resumes g (how.Throw e))
    close_exits zoo e classes grows new_one (is, mode) same =
        let thrown : IsThrown old.made new.made (BuiltIn GeneratorExit []) e =
        record { is = λ before named. built_in_given old.made new.made before e grows named zoo GeneratorExit classes [] new_one; raises = (_, new_one.entry); below = new_one.below } in
        λ codes handled. record {
          asks = refl;
          kept = x;
          is_kept = here;
          enters = (BuiltIn GeneratorExit [], by_closed RowExits is codes handled, thrown, subst TakesThrows (sym mode) tt);
          changes = same ∙ closed_changed RowExits is;
        }

-- what a close gives, by what it begins
abbrev pub CloseGives : (depth : ℕ) → (old new : Kept) → (list mid list' : List KeptGenerator) → (g : Obj) → CoroKind → Begin → Type 0
CloseGives depth old new list mid list' g kind begin.Done = list' ≡ changed_at g without_activation mid → IsCourseAt depth old new list list' (request.Close g) (course.Says made.Closes)
CloseGives depth old new list mid list' g kind (begin.Refused k) =
    list' ≡ mid → (c : MadeCourse) → IsRefusedBy old.made new.made (refused (word_of kind) k) c → IsCourseAt depth old new list list' (request.Close g) c
CloseGives depth old new list mid list' g kind begin.EnterExit =
    list' ≡ mid → (zoo : ExceptionZoo) (e : PyBaseExceptionRef) → HaveClasses zoo old.made → GrowsPlainly old.made new.made → IsNewCalled old.made new.made (class_of zoo GeneratorExit) [] e
    → IsCourseAt depth old new list list' (request.Close g) (course.Resumes g (how.Throw e))
CloseGives depth old new list mid list' g kind _ = ⊥

pub close_gives : (depth : ℕ) (old new : Kept) (list mid list' : List KeptGenerator) (g : Obj) (kind : CoroKind) (b : Begin) → IsGenerator old.made g → AllFit old.made
    → ((body : CoroBody) → HasPayload old.made g (payload.Generator body) → kind ≡ body.kind)
    → IsCalledOn g (λ (s : State). closed s.mode depth) list mid (Some b) → CloseGives depth old new list mid list' g kind b
close_gives depth old new list mid list' g kind b (body, has) fit kinds (x, here, begins, changes) =
    subst (λ k. CloseGives depth old new list mid list' g k b) (sym (kinds body has)) (by b (closed_as x.generator.mode depth b begins))
  where
    by : (b : Begin) → ClosedAs x.generator.mode (closed x.generator.mode depth) b → CloseGives depth old new list mid list' g body.kind b
    by begin.Done row = λ dropped. close_done depth old new list list' g body has x here mid changes row dropped
    by (begin.Refused k) row = λ same c said. close_refused depth old new list list' g body has x here mid changes k c fit row same said
    by begin.EnterExit row = λ same zoo e classes grows one. close_exits depth old new list list' g body has x here mid changes zoo e classes grows one row same
    by _ row = absurd row

pub close_never : (depth : ℕ) (old new : Kept) (list mid list' : List KeptGenerator) (g : Obj) (kind : CoroKind) (b : Begin) → CloseGives depth old new list mid list' g kind b
    → (b ≡ begin.Done → ⊥) → ((r : CoroRefusal) → b ≡ begin.Refused r → ⊥) → (b ≡ begin.EnterExit → ⊥) → ⊥
close_never depth old new list mid list' g kind begin.Done gives done refuse exit = done refl
close_never depth old new list mid list' g kind (begin.Refused r) gives done refuse exit = refuse r refl
close_never depth old new list mid list' g kind begin.EnterExit gives done refuse exit = exit refl
close_never depth old new list mid list' g kind _ gives done refuse exit = gives

pub close_absent : (depth : ℕ) (old new : Kept) (list list' : List KeptGenerator) (g : Obj) (row : State → Row) → IsGenerator old.made g → IsCalledOn g row list list' None
    → IsCourseAt depth old new list list' (request.Close g) (course.Says made.Closes)
close_absent depth old new list list' g row (body, has) (here, same) = close_nowhere depth old new list list' g body has here same
