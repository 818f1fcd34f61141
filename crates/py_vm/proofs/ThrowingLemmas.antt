-- What throws into generators come to.
use Rattle.std.proofs.Common.{◌≡◌, ℕ, List, [], Bool, true, false, Some, Ok, Err, inl, inr, refl, sym, ap, subst, ◌∙◌, length, eqb, eq-eqb, ◌||◌, ◌∷◌}
use Rattle.std.specs.Prelude.{Option, None, Result, OnOk, option_map}
use Rattle.std.proofs.lemmas.Option.{slice_get_within}
use Rattle.py_objects.specs.declared.refs.PyBaseExceptionRef.{PyBaseExceptionRef}
use Rattle.py_objects.specs.declared.refs.PyTypeRef.{PyTypeRef}
use Rattle.py_objects.specs.declared.payload.Payload.{Payload}
use Rattle.py_objects.specs.declared.payload.Payload.TheVariants as payload
use Rattle.py_objects.specs.declared.payload.CoroBody.{CoroBody}
use Rattle.py_objects.specs.declared.payload.CoroKind.{CoroKind}
use Rattle.py_objects.specs.declared.payload.Fault.{Fault}
use Rattle.py_objects.specs.declared.request.Request.TheVariants as request
use Rattle.py_objects.specs.declared.event.ResumeHow.TheVariants as how
use Rattle.py_objects.specs.Objects.{Obj, HasPayload, as_object, as_exception, class_object, numbers, numbers_if, AllBelow, AllFit, IfThere, IsClassObject, is_among, request_numbers}
use Rattle.py_objects.specs.Edits.{Kept, objects_of}
use Rattle.py_objects.specs.Growth.{IsGrown}
use Rattle.py_objects.proofs.GrowthLemmas.{payload_grown, plainly_grows}
use Rattle.py_objects.proofs.GrownLemmas.{grown_refl}
use Rattle.py_check.specs.declared.note.Kind.TheVariants as kind
use Rattle.py_rows.specs.Answers.{HasKind}
use Rattle.py_exceptions.specs.declared.ctor.ExceptionCtor.TheVariants as ctor
use Rattle.py_exceptions.specs.declared.ctor.Instantiate.{Instantiate}
use Rattle.py_exceptions.specs.declared.ctor.Instantiate.TheVariants as comes
use Rattle.py_exceptions.specs.Deriving.{IsInstanceOf}
use Rattle.py_exceptions.specs.Instantiating.{ClassWith, InstantiatesAs, StandsFor}
use Rattle.py_exceptions.specs.Making.{IsNewCalled}
use Rattle.py_exceptions.specs.Normalizing.{Normalizes}
use Rattle.py_exceptions.specs.Parts.{HasParts}
use Rattle.py_exceptions.specs.Raisable.{IsTakenFor}
use Rattle.py_answers.specs.Answers.{Raised, This, Called, Fails, Passes}
use Rattle.py_answers.specs.Readable.{IsReadable}
use Rattle.py_answers.specs.Replying.{IsGenerator}
use Rattle.py_answers.proofs.GivingLemmas.{called_given}
use Rattle.py_answers.proofs.ThrownLemmas.{normalized_as_made, parts_there}
use Rattle.py_coro.specs.declared.coro.Begin.{Begin}
use Rattle.py_coro.specs.declared.coro.Begin.TheVariants as begin
use Rattle.py_coro.specs.declared.refusal.CoroRefusal.{CoroRefusal}
use Rattle.py_coro.specs.declared.refusal.CoroRefusal.TheVariants as refusal
use Rattle.py_coro.specs.Modes.{Mode, Fresh, Suspended as Left, Running, Closed, Row, Stops as RowStops, Raises as RowRaises, Done as RowDone, Starts as RowStarts}
use Rattle.py_coro.specs.Modes.{Sends as RowSends, Throws as RowThrows, Exits as RowExits, Refuses as RowRefuses, most_depth, thrown}
use Rattle.py_coro.specs.Coros.{behind, begun}
use Rattle.std.specs.Prelude.{nat_le, if◌then◌else◌}
use Rattle.py_coro.specs.Refusals.{refused, word_of}
use Rattle.py_run.specs.Generators.{Generator}
use Rattle.py_run.specs.Calls.{Course, Says, Throws, Setting, ThrowsAs, course_by, failing, kept_or_closed, throws_by}
use Rattle.py_vm.specs.declared.calls.Course.{Course as MadeCourse}
use Rattle.py_vm.specs.declared.calls.Course.TheVariants as course
use Rattle.py_vm.specs.declared.reply.Reply.{Reply as MadeReply}
use Rattle.py_vm.specs.declared.reply.Reply.TheVariants as made
use Rattle.py_vm.specs.declared.generators.KeptGenerator.{KeptGenerator}
use Rattle.py_vm.specs.Codes.{Checked}
use Rattle.py_vm.specs.Courses.{setting_deep, IsCourseAt, IsRefusedBy, IsThrown, IsThrownAs, IsThrownBy, IsThrownCourse, IsReplied, RepliesRaise, TakesThrows, IsPassedBy}
use Rattle.py_vm.specs.Generators.{changed_at, kept_at, seen_as, with_state, IsRunningNow, IsThrownInto}
use Rattle.py_vm.proofs.SendingLemmas.{by_row, changed_nothing, changed_same, refused_course, says_course, stands_as, AlwaysComesTo}
use Rattle.py_vm.proofs.WantedLemmas.{taken_there}
use Rattle.std.proofs.Math.Bool.{or-true}

-- ---- what comes of what is thrown

-- what is an instance of a class is an exception
instance_there : (objects : List Payload) (v : Obj) (p : Payload) (c : Obj) (b : Bool) → b ≡ true → HasPayload objects v p → IsInstanceOf objects p c b
    → HasKind objects (as_object (as_exception v)) kind.Exc
instance_there objects v (payload.Exception e) c b one has is = (e, has)
instance_there objects v _ c b one has is = absurd (cc (one, is))

class_gives : (objects : List Payload) (class : PyTypeRef) (v : Obj) (p : Payload) (b : Bool) (e : PyBaseExceptionRef) → HasPayload objects v p → IsInstanceOf objects p (class_object class) b
    → ClassWith objects class v p b (comes.Done e) → HasKind objects (as_object e) kind.Exc
class_gives objects class v p true e has one is =
    let same : e ≡ as_exception v = cc is in
    subst (λ (x : PyBaseExceptionRef). HasKind objects (as_object x) kind.Exc) (sym same) (instance_there objects v p (class_object class) true refl has one)
class_gives objects class v p false e has one (args, stands, is) = absurd (cc is)

-- an exception with a value is itself
instance_gives : (objects : List Payload) (x e : PyBaseExceptionRef) (v : Obj) (p : Payload) → InstantiatesAs objects (ctor.Instance x) v p (comes.Done e) → e ≡ x
instance_gives objects x e v (payload.Exception y) is = absurd (cc is)
instance_gives objects x e v _ is = cc is

-- the second of several numbers is among them, and so is the third
second : (n a b : ℕ) (others : List ℕ) → n ≡ b → is_among n (a ∷ b ∷ others) ≡ true
second n a b others same = ap (λ x. eqb n a || (x || is_among n others)) (eq-eqb n b same) ∙ or-true (eqb n a)

third : (n a b c : ℕ) (others : List ℕ) → n ≡ c → is_among n (a ∷ b ∷ c ∷ others) ≡ true
third n a b c others same = ap (λ x. eqb n a || (eqb n b || (x || is_among n others))) (eq-eqb n c same) ∙ ap (λ x. eqb n a || x) (or-true (eqb n b)) ∙ or-true (eqb n a)

-- so an exception that comes of what is thrown is one
pub thrown_there : (objects : List Payload) (k : Obj) (v : Option Obj) (e : PyBaseExceptionRef) → Normalizes objects k v (comes.Done e) → HasKind objects (as_object e) kind.Exc
thrown_there objects k None e (inl (ctor.Class class, taken, is)) = absurd (cc is)
thrown_there objects k None e (inl (ctor.Instance x, (p, has, taken), is)) =
    let same : e ≡ x = cc is in
    subst (λ (y : PyBaseExceptionRef). HasKind objects (as_object y) kind.Exc) (sym same) (taken_there objects k p x has taken)
thrown_there objects k (Some w) e (inl (ctor.Class class, taken, (p, has, (b, one, is)))) = class_gives objects class w p b e has one is
thrown_there objects k (Some w) e (inl (ctor.Instance x, (q, has_q, taken), (p, has, is))) =
    subst (λ (y : PyBaseExceptionRef). HasKind objects (as_object y) kind.Exc) (sym (instance_gives objects x e w p is)) (taken_there objects k q x has_q taken)
thrown_there objects k v e (inr (f, taken, is)) = absurd (cc is)

-- what is taken for an exception is itself
taken_is : (objects : List Payload) (k : Obj) (p : Payload) (x : PyBaseExceptionRef) → IsTakenFor objects k p (Ok (ctor.Instance x)) → x.number ≡ k.number
taken_is objects k (payload.Class c) x (true, derived, is) = absurd (cc is)
taken_is objects k (payload.Class c) x (false, derived, is) = absurd is
taken_is objects k (payload.Exception e) x is = cc is
taken_is objects k _ x is = absurd is

class_is : (objects : List Payload) (class : PyTypeRef) (v : Obj) (p : Payload) (b : Bool) (e : PyBaseExceptionRef) → ClassWith objects class v p b (comes.Done e) → e.number ≡ v.number
class_is objects class v p true e is = cc is
class_is objects class v p false e (args, stands, is) = absurd (cc is)

-- so an exception that comes of what is thrown is one that the throw names
thrown_named : (objects : List Payload) (g k : Obj) (v : Option Obj) (e : PyBaseExceptionRef) → Normalizes objects k v (comes.Done e) → is_among e.number (request_numbers (request.Throw g k v None)) ≡ true
thrown_named objects g k None e (inl (ctor.Class class, taken, is)) = absurd (cc is)
thrown_named objects g k None e (inl (ctor.Instance x, (p, has, taken), is)) =
    let same : e ≡ x = cc is in
    second e.number g.number k.number [] (ap (λ (y : PyBaseExceptionRef). y.number) same ∙ taken_is objects k p x taken)
thrown_named objects g k (Some w) e (inl (ctor.Class class, taken, (p, has, (b, one, is)))) = third e.number g.number k.number w.number [] (class_is objects class w p b e is)
thrown_named objects g k (Some w) e (inl (ctor.Instance x, (q, has_q, taken), (p, has, is))) =
    second e.number g.number k.number (w.number ∷ []) (ap (λ (y : PyBaseExceptionRef). y.number) (instance_gives objects x e w p is) ∙ taken_is objects k q x taken)
thrown_named objects g k v e (inr (f, taken, is)) = absurd (cc is)

-- what is taken for a class is one
class_of_taken : (objects : List Payload) (k : Obj) (p : Payload) (class : PyTypeRef) → HasPayload objects k p → IsTakenFor objects k p (Ok (ctor.Class class))
    → IsClassObject objects (class_object class)
class_of_taken objects k (payload.Class c) class has (true, derived, is) =
    let same : class ≡ record { number = k.number } = cc is in
    (c, subst (λ (y : PyTypeRef). HasPayload objects (class_object y) (payload.Class c)) (sym same) has)
class_of_taken objects k (payload.Class c) class has (false, derived, is) = absurd is
class_of_taken objects k (payload.Exception e) class has is = absurd (cc is)
class_of_taken objects k _ class has is = absurd is

-- what a value stands for is there
stands_below : (objects : List Payload) (v : Obj) (p : Payload) (args : List Obj) → AllFit objects → HasPayload objects v p → StandsFor objects v p args → AllBelow (length objects) (numbers args)
stands_below objects v payload.None args fit has is = subst (λ l. AllBelow (length objects) (numbers l)) (sym is) tt
stands_below objects v (payload.Tuple items) args fit has is = subst (λ l. AllBelow (length objects) (numbers l)) (sym is) (fit v.number (payload.Tuple items) has).0
stands_below objects v (payload.Exception e) args fit has are = (fit e.args.number (payload.Tuple args) are).0
stands_below objects v p args fit has is = subst (λ l. AllBelow (length objects) (numbers l)) (sym is) (slice_get_within objects v.number p has, tt)

with_class : (objects : List Payload) (class made : PyTypeRef) (v : Obj) (p : Payload) (b : Bool) (args : List Obj) → AllFit objects → HasPayload objects v p
    → ClassWith objects class v p b (comes.Make made args) → (made ≡ class) × AllBelow (length objects) (numbers args)
with_class objects class made v p true args fit has is = absurd (cc is)
with_class objects class made v p false args fit has (items, stands, is) =
    let same : args ≡ items = cc is in
    (cc is, subst (λ l. AllBelow (length objects) (numbers l)) (sym same) (stands_below objects v p items fit has stands))

instance_makes : (objects : List Payload) (x : PyBaseExceptionRef) (class : PyTypeRef) (args : List Obj) (v : Obj) (p : Payload)
    → InstantiatesAs objects (ctor.Instance x) v p (comes.Make class args) → ⊥
instance_makes objects x class args v (payload.Exception y) is = cc is
instance_makes objects x class args v _ is = cc is

-- a call that comes of what is thrown is one of a class, with objects that are there
pub called_there : (objects : List Payload) (k : Obj) (v : Option Obj) (class : PyTypeRef) (args : List Obj) → AllFit objects → Normalizes objects k v (comes.Make class args)
    → IsClassObject objects (class_object class) × AllBelow (length objects) (numbers args)
called_there objects k None class args fit (inl (ctor.Class c, (p, has, taken), is)) =
    let same : class ≡ c = cc is in
    let none : args ≡ [] = cc is in
    (subst (λ (y : PyTypeRef). IsClassObject objects (class_object y)) (sym same) (class_of_taken objects k p c has taken), subst (λ l. AllBelow (length objects) (numbers l)) (sym none) tt)
called_there objects k None class args fit (inl (ctor.Instance x, taken, is)) = absurd (cc is)
called_there objects k (Some w) class args fit (inl (ctor.Class c, (p, has, taken), (q, has_q, (b, one, with)))) =
    let made = with_class objects c class w q b args fit has_q with in
    (subst (λ (y : PyTypeRef). IsClassObject objects (class_object y)) (sym made.0) (class_of_taken objects k p c has taken), made.1)
called_there objects k (Some w) class args fit (inl (ctor.Instance x, taken, (q, has_q, is))) = absurd (instance_makes objects x class args w q is)
called_there objects k v class args fit (inr (f, taken, is)) = absurd (cc is)

-- ---- an exception that is thrown into a generator

-- what it begins, in a mode and by a row
abbrev pub ThrownAs : PyBaseExceptionRef → Row → Begin → Type 0
ThrownAs e row (begin.Raise x) = (row ≡ RowRaises) × (x ≡ e)
ThrownAs e row (begin.Refused r) = row ≡ RowRefuses r
ThrownAs e row begin.EnterThrow = row ≡ RowThrows
ThrownAs e row _ = ⊥

pub thrown_as : (mode : Mode) (depth : ℕ) (e : PyBaseExceptionRef) (b : Begin) → b ≡ begun e (thrown mode depth) → ThrownAs e (thrown mode depth) b
thrown_as mode depth e b is = subst (ThrownAs e (thrown mode depth)) (sym is) (by mode)
  where
    throws : (deep : Bool) → ThrownAs e (if deep then RowRefuses refusal.TooDeep else RowThrows) (begun e (if deep then RowRefuses refusal.TooDeep else RowThrows))
    throws true = refl
    throws false = refl

    by : (mode : Mode) → ThrownAs e (thrown mode depth) (begun e (thrown mode depth))
    by Fresh = throws (nat_le most_depth depth)
    by Left = throws (nat_le most_depth depth)
    by Running = refl
    by Closed = (refl, refl)

-- one that is entered takes it
takes_throws : (mode : Mode) (depth : ℕ) → thrown mode depth ≡ RowThrows → TakesThrows mode
takes_throws Fresh depth is = tt
takes_throws Left depth is = tt
takes_throws Running depth is = absurd (cc is)
takes_throws Closed depth is = absurd (cc is)

-- what the code makes of it, by where the generator stands
module _ (depth : ℕ) (old new : List Payload) (list list' : List KeptGenerator) (g : Obj) (e : PyBaseExceptionRef) (again : MadeReply) where
  found_as : (o : Option KeptGenerator) → kept_at list g ≡ o → (c : MadeCourse) → IsThrownAs depth old new list list' g e again o c → IsThrownCourse depth old new list list' g e again c
  found_as o here c is = subst (λ k. IsThrownAs depth old new list list' g e again k c) (sym here) is

  pub into_nowhere : kept_at list g ≡ None → new ≡ old → list' ≡ list → IsThrownCourse depth old new list list' g e again (course.Says again)
  into_nowhere here still same = found_as None here (course.Says again) (refl, still, same)

  module _ (x : KeptGenerator) (here : kept_at list g ≡ Some x) (changes : list' ≡ changed_at g (with_state (λ s. behind (thrown s.mode depth) s)) list) where
    abbrev pub row : Row
    row = thrown x.generator.mode depth

    changed : (which : Row) → row ≡ which → list' ≡ changed_at g (by_row which) list
    changed which is = changes ∙ changed_same g (with_state (λ s. behind (thrown s.mode depth) s)) (by_row row) list x here refl ∙ ap (λ k. changed_at g (by_row k) list) is

    as_row : (which : Row) → row ≡ which → (c : MadeCourse) → IsThrownBy old new list list' g e again which c → IsThrownCourse depth old new list list' g e again c
    as_row which is c said = found_as (Some x) here c (subst (λ k. IsThrownBy old new list list' g e again k c) (sym is) said)

    pub into_raises : row ≡ RowRaises → new ≡ old → IsThrownCourse depth old new list list' g e again (course.Says again)
    into_raises is still = as_row RowRaises is (course.Says again) (refl, still, changed RowRaises is ∙ changed_nothing g (by_row RowRaises) list x here refl)

    pub into_throws : row ≡ RowThrows → new ≡ old → IsThrownCourse depth old new list list' g e again (course.Resumes g (how.Throw e))
    into_throws is still = as_row RowThrows is (course.Resumes g (how.Throw e)) (refl, still, changed RowThrows is)

    pub into_refuses : (k : CoroRefusal) (word : CoroKind) (c : MadeCourse) → ((body : CoroBody) → HasPayload old g (payload.Generator body) → word ≡ body.kind) → row ≡ RowRefuses k
        → IsRefusedBy old new (refused (word_of word) k) c → IsThrownCourse depth old new list list' g e again c
    into_refuses k word c words is said =
        as_row (RowRefuses k) is c
        (λ body has. subst (λ w. IsRefusedBy old new (refused (word_of w) k) c) (words body has) said, changed (RowRefuses k) is ∙ changed_nothing g (by_row (RowRefuses k)) list x here refl)

-- what a throw gives, by what it begins
abbrev pub ThrowGives : (depth : ℕ) → (old new : List Payload) → (list list' : List KeptGenerator) → Obj → PyBaseExceptionRef → (again : MadeReply) → CoroKind → Begin → Type 0
ThrowGives depth old new list list' g e again kind (begin.Raise x) = new ≡ old → IsThrownCourse depth old new list list' g e again (course.Says again)
ThrowGives depth old new list list' g e again kind (begin.Refused k) = (c : MadeCourse) → IsRefusedBy old new (refused (word_of kind) k) c → IsThrownCourse depth old new list list' g e again c
ThrowGives depth old new list list' g e again kind begin.EnterThrow = new ≡ old → IsThrownCourse depth old new list list' g e again (course.Resumes g (how.Throw e))
ThrowGives depth old new list list' g e again kind _ = ⊥

pub throw_gives : (depth : ℕ) (old new : List Payload) (list list' : List KeptGenerator) (g : Obj) (e : PyBaseExceptionRef) (again : MadeReply) (kind : CoroKind) (b : Begin)
    → ((body : CoroBody) → HasPayload old g (payload.Generator body) → kind ≡ body.kind) → IsThrownInto g e depth list list' (Some b) → ThrowGives depth old new list list' g e again kind b
throw_gives depth old new list list' g e again kind b kinds (x, here, begins, changes) = by b (thrown_as x.generator.mode depth e b begins)
  where
    by : (b : Begin) → ThrownAs e (thrown x.generator.mode depth) b → ThrowGives depth old new list list' g e again kind b
    by (begin.Raise y) row = λ still. into_raises depth old new list list' g e again x here changes row.0 still
    by (begin.Refused k) row = λ c said. into_refuses depth old new list list' g e again x here changes k kind c kinds row said
    by begin.EnterThrow row = λ still. into_throws depth old new list list' g e again x here changes row still
    by _ row = absurd row

pub throw_never : (depth : ℕ) (old new : List Payload) (list list' : List KeptGenerator) (g : Obj) (e : PyBaseExceptionRef) (again : MadeReply) (kind : CoroKind) (b : Begin)
    → ThrowGives depth old new list list' g e again kind b
    → ((x : PyBaseExceptionRef) → b ≡ begin.Raise x → ⊥) → ((r : CoroRefusal) → b ≡ begin.Refused r → ⊥) → (b ≡ begin.EnterThrow → ⊥) → ⊥
throw_never depth old new list list' g e again kind (begin.Raise x) gives raise refuse throw = raise x refl
throw_never depth old new list list' g e again kind (begin.Refused r) gives raise refuse throw = refuse r refl
throw_never depth old new list list' g e again kind begin.EnterThrow gives raise refuse throw = throw refl
throw_never depth old new list list' g e again kind _ gives raise refuse throw = gives

-- ---- throws

-- an exception that is thrown is raised where it isn't thrown into anything
raises_by : (old new : List Payload) (raise : Raised) (e : PyBaseExceptionRef) → IsThrown old new raise e → RepliesRaise old new (Passes raise) e
raises_by old new raise e x = record { plain = refl; gives = x.is; below = x.below; raises = x.raises }

module _ (depth : ℕ) (old : Kept) (g k : Obj) (v : Option Obj) (body : CoroBody) (has : HasPayload old.made g (payload.Generator body)) where
  -- what a throw comes to, by where the generator stands
  throw_comes : (new : Kept) (list list' : List KeptGenerator) (o : Option KeptGenerator) → kept_at list g ≡ o → (c : Course)
      → ((codes : Checked) (handled : Option PyBaseExceptionRef)
      → ThrowsAs (setting_deep codes handled depth list) old.made body.kind (kept_or_closed g (option_map seen_as o)) (kept_or_closed g (option_map seen_as o)).mode k v c)
      → AlwaysComesTo depth old new list list' (request.Throw g k v None) c
  throw_comes new list list' o here c throws codes handled =
      inr (inr (inr (inr (inl (
        g,
        k,
        v,
        refl,
        (body.kind, kept_or_closed g (option_map seen_as o), record { body = body; entry = has; kind_is = refl; kept = stands_as list g o here }, throws codes handled),
      )))))

  -- one that runs refuses it before what is thrown is looked at
  pub throw_running : (new : Kept) (list : List KeptGenerator) (c : MadeCourse) → AllFit old.made → IsGrown old old → IsRunningNow list g
      → IsRefusedBy old.made new.made (refused (word_of body.kind) refusal.Running) c
      → IsCourseAt depth old new list list (request.Throw g k v None) c
  throw_running new list c fit still (x, here, runs) said =
      let fault : Fault = refused (word_of body.kind) refusal.Running in
      refused_course depth old new list list (request.Throw g k v None) old fault c said still fit
      (throw_comes new list list (Some x) here (failing fault)
      (λ codes handled. subst (λ m. ThrowsAs (setting_deep codes handled depth list) old.made body.kind (seen_as x) m k v (failing fault)) (sym runs) refl)) refl

  -- what comes of what is thrown is a fault
  module _ (outcome : Instantiate) (normalizes : Normalizes old.made k v outcome) where
    -- the course of it, whatever the mode is but that one runs
    idle_throws : (at : Setting) (x : Generator) (mode : Mode) (c : Course) → throws_by body.kind x at.depth outcome ≡ Some c → (mode ≡ Running → ⊥) → ThrowsAs at old.made body.kind x mode k v c
    idle_throws at x Fresh c is idle = (outcome, normalizes, is)
    idle_throws at x Left c is idle = (outcome, normalizes, is)
    idle_throws at x Running c is idle = absurd (idle refl)
    idle_throws at x Closed c is idle = (outcome, normalizes, is)

  pub throw_fault : (new : Kept) (list : List KeptGenerator) (f : Fault) (c : MadeCourse) → AllFit old.made → IsGrown old old → Normalizes old.made k v (comes.Fault f) → (IsRunningNow list g → ⊥)
      → IsRefusedBy old.made new.made f c → IsCourseAt depth old new list list (request.Throw g k v None) c
  throw_fault new list f c fit still normalizes free said =
      refused_course depth old new list list (request.Throw g k v None) old f c said still fit (comes_to (kept_at list g) refl) refl
    where
      comes_to : (o : Option KeptGenerator) → kept_at list g ≡ o → AlwaysComesTo depth old new list list (request.Throw g k v None) (failing f)
      comes_to None here = throw_comes new list list None here (failing f) (λ codes handled. (comes.Fault f, normalizes, refl))
      comes_to (Some x) here =
          throw_comes new list list (Some x) here (failing f)
          (λ codes handled. idle_throws (comes.Fault f) normalizes (setting_deep codes handled depth list) (seen_as x) x.generator.mode (failing f) refl (λ runs. free (x, here, runs)))

  -- an exception comes of it, which is thrown into the generator
  module _ (mid new : Kept) (list list' : List KeptGenerator) (outcome : Instantiate) (normalizes : Normalizes old.made k v outcome) (raise : Raised) (e : PyBaseExceptionRef)
      (throws : (x : Generator) → throws_by body.kind x depth outcome ≡ Some (course_by (word_of body.kind) x.act (Throws x.act raise) (thrown x.mode depth)))
      (is_thrown : IsThrown old.made mid.made raise e) (again : MadeReply) (replied : IsReplied old.made mid.made (Passes raise) again) (passed : IsPassedBy (request_numbers (request.Throw g k v None)) again)
      (grown : IsGrown old mid) (fit : AllFit old.made) where
    -- the course by a row
    abbrev pub row_course : (x : Generator) → Row → Course
    row_course x row = course_by (word_of body.kind) x.act (Throws x.act raise) row

    -- what it comes to, whatever the mode
    moded : (at : Setting) → at.depth ≡ depth → (x : Generator) (mode : Mode) → x.mode ≡ mode → ThrowsAs at old.made body.kind x mode k v (row_course x (thrown x.mode depth))
    moded at deep x Fresh is = (outcome, normalizes, ap (λ n. throws_by body.kind x n outcome) deep ∙ throws x)
    moded at deep x Left is = (outcome, normalizes, ap (λ n. throws_by body.kind x n outcome) deep ∙ throws x)
    moded at deep x Running is = ap (λ m. row_course x (thrown m depth)) is
    moded at deep x Closed is = (outcome, normalizes, ap (λ n. throws_by body.kind x n outcome) deep ∙ throws x)

    throw_row : (o : Option KeptGenerator) → kept_at list g ≡ o → AlwaysComesTo depth old new list list' (request.Throw g k v None)
        (row_course (kept_or_closed g (option_map seen_as o)) (thrown (kept_or_closed g (option_map seen_as o)).mode depth))
    throw_row o here =
        let x : Generator = kept_or_closed g (option_map seen_as o) in
        throw_comes new list list' o here (row_course x (thrown x.mode depth)) (λ codes handled. moded (setting_deep codes handled depth list) refl x x.mode refl)

    -- the reply of one that isn't entered
    passes : new.made ≡ mid.made → IsReplied old.made new.made (Passes raise) again
    passes still = subst (λ l. IsReplied old.made l (Passes raise) again) (sym still) replied

    by_found : (x : KeptGenerator) → kept_at list g ≡ Some x → (row : Row) → thrown x.generator.mode depth ≡ row → (c : MadeCourse) → IsThrownBy mid.made new.made list list' g e again row c
        → IsCourseAt depth old new list list' (request.Throw g k v None) c
    by_found x here RowRaises is c (says, still, same) =
        let comes_to : AlwaysComesTo depth old new list list' (request.Throw g k v None) (Says (Passes raise)) =
        subst (λ (r : Row). AlwaysComesTo depth old new list list' (request.Throw g k v None) (row_course (seen_as x) r)) is (throw_row (Some x) here) in
        subst (IsCourseAt depth old new list list' (request.Throw g k v None)) (sym says)
        (says_course depth old new list list' (request.Throw g k v None) (Passes raise) again comes_to (passes still) same passed)
    by_found x here RowThrows is c (resumes, still, same) =
        let comes_to : AlwaysComesTo depth old new list list' (request.Throw g k v None) (Throws x.act raise) =
        subst (λ (r : Row). AlwaysComesTo depth old new list list' (request.Throw g k v None) (row_course (seen_as x) r)) is (throw_row (Some x) here) in
        subst (IsCourseAt depth old new list list' (request.Throw g k v None)) (sym resumes)
        (λ codes handled. record {
          asks = refl;
          kept = x;
          is_kept = here;
          enters = (raise, comes_to codes handled, subst (λ l. IsThrown old.made l raise e) (sym still) is_thrown, takes_throws x.generator.mode depth is);
          changes = same;
        })
    by_found x here (RowRefuses r) is c (said, same) =
        let fault : Fault = refused (word_of body.kind) r in
        let comes_to : AlwaysComesTo depth old new list list' (request.Throw g k v None) (failing fault) =
        subst (λ (r : Row). AlwaysComesTo depth old new list list' (request.Throw g k v None) (row_course (seen_as x) r)) is (throw_row (Some x) here) in
        refused_course depth old new list list' (request.Throw g k v None) mid fault c
        (said body (payload_grown old.made mid.made g (payload.Generator body) (plainly_grows old.made mid.made grown.objects) has)) grown fit comes_to same
    by_found x here RowStops is c none = absurd none
    by_found x here RowDone is c none = absurd none
    by_found x here RowStarts is c none = absurd none
    by_found x here RowSends is c none = absurd none
    by_found x here RowExits is c none = absurd none

    by_kept : (o : Option KeptGenerator) → kept_at list g ≡ o → (c : MadeCourse) → IsThrownAs depth mid.made new.made list list' g e again o c
        → IsCourseAt depth old new list list' (request.Throw g k v None) c
    by_kept None here c (says, still, same) =
        subst (IsCourseAt depth old new list list' (request.Throw g k v None)) (sym says)
        (says_course depth old new list list' (request.Throw g k v None) (Passes raise) again (throw_row None here) (passes still) same passed)
    by_kept (Some x) here c said = by_found x here (thrown x.generator.mode depth) refl c said

    pub throw_enters : (c : MadeCourse) → IsThrownCourse depth mid.made new.made list list' g e again c → IsCourseAt depth old new list list' (request.Throw g k v None) c
    throw_enters c said = by_kept (kept_at list g) refl c said

  -- this exception
  pub throw_this : (new : Kept) (list list' : List KeptGenerator) (e : PyBaseExceptionRef) (c : MadeCourse) → AllFit old.made → IsGrown old old → Normalizes old.made k v (comes.Done e)
      → IsThrownCourse depth old.made new.made list list' g e (made.Passed e) c → IsCourseAt depth old new list list' (request.Throw g k v None) c
  throw_this new list list' e c fit still normalizes said =
      let there = thrown_there old.made k v e normalizes in
      let is_thrown : IsThrown old.made old.made (This e) e = record { is = λ before named. refl; raises = there; below = slice_get_within old.made e.number (payload.Exception there.0) there.1 } in
      throw_enters old new list list' (comes.Done e) normalizes (This e) e (λ x. refl) is_thrown (made.Passed e) (raises_by old.made old.made (This e) e is_thrown, refl) (thrown_named old.made g k v e normalizes) still fit c said

  -- a new one
  pub throw_new : (mid new : Kept) (list list' : List KeptGenerator) (class : PyTypeRef) (args : List Obj) (e : PyBaseExceptionRef) (c : MadeCourse) → AllFit old.made → IsGrown old mid
      → Normalizes old.made k v (comes.Make class args) → IsNewCalled old.made mid.made class args e
      → IsThrownCourse depth mid.made new.made list list' g e (made.Fresh e) c → IsCourseAt depth old new list list' (request.Throw g k v None) c
  throw_new mid new list list' class args e c fit grown normalizes new_one said =
      let class_there = (called_there old.made k v class args fit normalizes).0 in
      let is_thrown : IsThrown old.made mid.made (Called class args) e =
      record { is = λ before named. called_given old.made mid.made before e grown.objects named class args class_there new_one; raises = (_, new_one.entry); below = new_one.below } in
      throw_enters mid new list list' (comes.Make class args) normalizes (Called class args) e (λ x. refl) is_thrown (made.Fresh e) (raises_by old.made mid.made (Called class args) e is_thrown, new_one.later) tt grown fit c said

-- ---- what the code of a throw needs

-- a value can be looked at, where there is one
pub value_parts : (s : Kept) (v : Option Obj) → IsReadable s → AllBelow (length s.made) (numbers_if v) → IfThere (HasParts (objects_of s)) v
value_parts s None readable below = tt
value_parts s (Some w) readable below = parts_there s w readable below.0

-- what holds where a check didn't refuse
pub unless_err : {P : Type 0} (r : Result (Unit {0}) CoroRefusal) → OnOk r P → ((k : CoroRefusal) → r ≡ Err k → ⊥) → P
unless_err (Ok u) on never = on
unless_err (Err k) on never = absurd (never k refl)

-- the class that is called is one
pub class_called : (s : Kept) (k : Obj) (v : Option Obj) (class : PyTypeRef) (args : List Obj) → IsReadable s → Normalizes (objects_of s) k v (comes.Make class args)
    → IsClassObject s.made (class_object class)
class_called s k v class args readable is = (called_there s.made k v class args readable.fit (normalized_as_made s k v (comes.Make class args) readable is)).0

-- and what it is called with is there
pub args_called : (s : Kept) (k : Obj) (v : Option Obj) (class : PyTypeRef) (args : List Obj) → IsReadable s → Normalizes (objects_of s) k v (comes.Make class args)
    → AllBelow (length s.made) (numbers args)
args_called s k v class args readable is = (called_there s.made k v class args readable.fit (normalized_as_made s k v (comes.Make class args) readable is)).1

-- a generator stays one
pub generator_on : (old new : Kept) (g : Obj) → IsGrown old new → IsGenerator old.made g → IsGenerator new.made g
generator_on old new g grown (body, has) = (body, payload_grown old.made new.made g (payload.Generator body) (plainly_grows old.made new.made grown.objects) has)

-- one that runs refuses it as a generator of its kind
pub throw_refused : (depth : ℕ) (old new : Kept) (list : List KeptGenerator) (g k : Obj) (v : Option Obj) (word : CoroKind) (r : CoroRefusal) → IsGenerator old.made g → AllFit old.made
    → ((body : CoroBody) → HasPayload old.made g (payload.Generator body) → word ≡ body.kind) → IsRunningNow list g → r ≡ refusal.Running
    → (c : MadeCourse) → IsRefusedBy old.made new.made (refused (word_of word) r) c → IsCourseAt depth old new list list (request.Throw g k v None) c
throw_refused depth old new list g k v word r (body, has) fit words runs is c said =
    let running : IsRefusedBy old.made new.made (refused (word_of word) refusal.Running) c = subst (λ (x : CoroRefusal). IsRefusedBy old.made new.made (refused (word_of word) x) c) is said in
    throw_running depth old g k v body has new list c fit (grown_refl old) runs
    (subst (λ (w : CoroKind). IsRefusedBy old.made new.made (refused (word_of w) refusal.Running) c) (words body has) running)

-- the exception that is thrown goes into it
pub throw_done : (depth : ℕ) (old new : Kept) (list list' : List KeptGenerator) (g k : Obj) (v : Option Obj) (e : PyBaseExceptionRef) → IsGenerator old.made g → IsReadable old
    → Normalizes (objects_of old) k v (comes.Done e) → (c : MadeCourse) → IsThrownCourse depth old.made new.made list list' g e (made.Passed e) c → IsCourseAt depth old new list list' (request.Throw g k v None) c
throw_done depth old new list list' g k v e (body, has) readable is c said =
    throw_this depth old g k v body has new list list' e c readable.fit (grown_refl old) (normalized_as_made old k v (comes.Done e) readable is) said

-- a new one does
pub throw_made : (depth : ℕ) (old mid new : Kept) (list list' : List KeptGenerator) (g k : Obj) (v : Option Obj) (class : PyTypeRef) (args : List Obj) (e : PyBaseExceptionRef)
    → IsGenerator old.made g → IsReadable old
    → Normalizes (objects_of old) k v (comes.Make class args) → IsGrown old mid → IsNewCalled old.made mid.made class args e
    → (c : MadeCourse) → IsThrownCourse depth mid.made new.made list list' g e (made.Fresh e) c → IsCourseAt depth old new list list' (request.Throw g k v None) c
throw_made depth old mid new list list' g k v class args e (body, has) readable is grown new_one c said =
    throw_new depth old g k v body has mid new list list' class args e c readable.fit grown (normalized_as_made old k v (comes.Make class args) readable is) new_one said

-- what may not be thrown is refused
pub throw_faulty : (depth : ℕ) (old new : Kept) (list : List KeptGenerator) (g k : Obj) (v : Option Obj) (f : Fault) (w : MadeReply) → IsGenerator old.made g → IsReadable old
    → Normalizes (objects_of old) k v (comes.Fault f) → (IsRunningNow list g → ⊥) → IsReplied old.made new.made (Fails f.kind f.text) w
    → IsCourseAt depth old new list list (request.Throw g k v None) (course.Says w)
throw_faulty depth old new list g k v f w (body, has) readable is free said =
    throw_fault depth old g k v body has new list f (course.Says w) readable.fit (grown_refl old) (normalized_as_made old k v (comes.Fault f) readable is) free said
