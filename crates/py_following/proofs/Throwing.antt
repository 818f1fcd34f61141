-- What a throw of a drive asks by the event behind it: an exception that is made shows its argument, and nothing else reads which object of a literal that is.
use Rattle.std.proofs.Common.{◌≡◌, ◌⊎◌, ◌∙◌, ℕ, List, [], ◌∷◌, true, false, Some, None, inl, inr, refl, sym, ap, subst}
use Rattle.std.specs.Prelude.{Option, codes, slice_get}
use Rattle.std.proofs.lemmas.Option.{same_Some}
use Rattle.py_objects.specs.declared.payload.Payload.{Payload}
use Rattle.py_objects.specs.declared.payload.Payload.TheVariants as payload
use Rattle.py_objects.specs.declared.refs.PyTypeRef.{PyTypeRef}
use Rattle.py_objects.specs.declared.refs.PyBaseExceptionRef.{PyBaseExceptionRef}
use Rattle.py_objects.specs.declared.event.DriveAnswer.{DriveAnswer}
use Rattle.py_objects.specs.declared.event.DriveAnswer.TheVariants as answer
use Rattle.py_objects.specs.declared.event.ResumeHow.TheVariants as how
use Rattle.py_objects.specs.declared.event.Event.{Event}
use Rattle.py_objects.specs.declared.event.Event.TheVariants as event
use Rattle.py_objects.specs.Objects.{Obj, Name, HasPayload, as_object, class_object, declared}
use Rattle.py_objects.specs.Values.{exception_of}
use Rattle.py_exceptions.specs.declared.ctor.ExceptionCtor.TheVariants as ctor
use Rattle.py_exceptions.specs.declared.ctor.Instantiate.{Instantiate}
use Rattle.py_exceptions.specs.declared.ctor.Instantiate.TheVariants as comes
use Rattle.py_exceptions.specs.Deriving.{IsOfClass}
use Rattle.py_exceptions.specs.Instantiating.{StandsFor, InstantiatesAs}
use Rattle.py_exceptions.specs.Normalizing.{Normalizes}
use Rattle.py_exceptions.specs.Repr.{items_of}
use Rattle.py_objects.specs.declared.payload.CoroKind.{CoroKind}
use Rattle.py_objects.specs.declared.request.Request.TheVariants as request
use Rattle.py_lines.specs.declared.drive.DriveAtom.{DriveAtom}
use Rattle.py_lines.specs.declared.drive.DriveLine.{DriveLine}
use Rattle.py_lines.specs.declared.drive.DriveLine.TheVariants as drive
use Rattle.py_grammar.specs.Grammar.{Decl}
use Rattle.py_grammar.specs.WellFormed.{NumbersDrive, IsThrowable}
use Rattle.py_coro.specs.Refusals.{word_of}
use Rattle.py_coro.specs.Modes.{Mode, Fresh, Suspended, Running, Closed, thrown, Row, Stops as RowStops, Raises as RowRaises, Done as RowDone, Starts as RowStarts, Sends as RowSends, Throws as RowThrows, Exits as RowExits, Refuses as RowRefuses}
use Rattle.py_answers.specs.Answers.{Called, Reply, Passes, Lacks, IsCalled, IsRaise, GivesDrive}
use Rattle.py_places.proofs.Literals.{IsLiteralPayload, none_literal}
use Rattle.py_meaning.specs.Whole.{IsLeftBy, IsThrown}
use Rattle.py_run.specs.Generators.{Generator}
use Rattle.py_run.specs.Calls.{Course, Says, Throws, course_by, throws_by, ThrowsAs, Setting, ComesTo}
use Rattle.py_run.proofs.CoursesLemmas.{comes_as, IsSaid}
use Rattle.py_following.specs.Drives.{Any_of, object_if, args_in, args_of, shown_by, thrown_with, throws, request_by}
use Rattle.py_following.proofs.Plans.{AskAlike, AlikeThrows}
use Rattle.py_following.proofs.Chosen.{chosen, LeftKnown, argument_is}
use Rattle.py_following.proofs.Opening.{GoesWith, IsFound, AreTargets, are_targets, target, no_generator, literal_lacks}

-- a literal is no exception
no_exception : (p : Payload) → IsLiteralPayload p → exception_of p ≡ None
no_exception (payload.Exception e) one = absurd (cc one)
no_exception _ one = refl

-- a literal stands for nothing, or for itself
abbrev pub StandsAlike : List Payload → (v w : Obj) → Payload → List Obj → Type 0
StandsAlike objects v w p args = StandsFor objects w p args ⊎ ((args ≡ v ∷ []) × StandsFor objects w p (w ∷ []) × (p ≡ payload.None → ⊥))

stands_alike : (objects : List Payload) (v w : Obj) (p : Payload) (args : List Obj) → IsLiteralPayload p → StandsFor objects v p args → StandsAlike objects v w p args
stands_alike objects v w payload.None args one is = inl is
stands_alike objects v w (payload.Tuple items) args one is = absurd (cc one)
stands_alike objects v w (payload.Exception e) args one is = absurd (cc one)
stands_alike objects v w _ args one is = inr (is, refl, λ none. cc none)

-- what comes of one object of a literal comes of another one, or an exception is made with it as its argument
abbrev pub NormalAlike : List Payload → (k v w : Obj) → Payload → Instantiate → Type 0
NormalAlike objects k v w p outcome =
    Normalizes objects k (Some w) outcome
    ⊎ ((class : PyTypeRef) × (outcome ≡ comes.Make class (v ∷ [])) × Normalizes objects k (Some w) (comes.Make class (w ∷ [])) × (p ≡ payload.None → ⊥))

pub normal_alike : (objects : List Payload) (k v w : Obj) (p : Payload) (outcome : Instantiate) → IsLiteralPayload p → HasPayload objects v p → HasPayload objects w p
    → Normalizes objects k (Some v) outcome → NormalAlike objects k v w p outcome
normal_alike objects k v w p outcome one has has' (inr fault) = inl (inr fault)
normal_alike objects k v w p outcome one has has' (inl (ctor.Instance e, taken, (q, entry, made))) =
    inl (inl (ctor.Instance e, taken, (p, has', subst (λ r. InstantiatesAs objects (ctor.Instance e) v r outcome) (same_Some q p (sym entry ∙ has)) made)))
normal_alike objects k v w p outcome one has has' (inl (ctor.Class class, taken, (q, entry, made))) =
    by (subst (λ r. InstantiatesAs objects (ctor.Class class) v r outcome) (same_Some q p (sym entry ∙ has)) made)
  where
    by : InstantiatesAs objects (ctor.Class class) v p outcome → NormalAlike objects k v w p outcome
    by (true, inst, with_) = absurd (cc (subst (λ o. IsOfClass objects o (class_object class) true) (no_exception p one) inst))
    by (false, inst, (args, stands, makes)) = elim (stands_alike objects v w p args one stands) [
      | inl same ↦ inl (inl (ctor.Class class, taken, (p, has', (false, inst, (args, same, makes)))))
      | inr (is, other, some) ↦
          inr (class, makes ∙ ap (comes.Make class) is, inl (ctor.Class class, taken, (p, has', (false, inst, (w ∷ [], other, refl)))), some)
    ]

-- an exception that is made with one argument has it
called_args : (objects : List Payload) (before : List Event) (class : PyTypeRef) (v : Obj) (e : PyBaseExceptionRef) → IsCalled objects before class (v ∷ []) (as_object e)
    → (answers : List DriveAnswer) → args_of objects answers e ≡ v ∷ []
called_args objects before class v e (true, derived, made) answers = ap (args_in objects answers) made.entry ∙ ap items_of made.are
called_args objects before class v e (false, derived, made) answers = ap (args_in objects answers) made.entry ∙ ap items_of made.are

module _ (objects : List Payload) (before : List Event) (answers : List DriveAnswer) (class : PyTypeRef) (v : Obj) where
  -- what is thrown, or raised, shows its argument
  throw_shown : (x : Event) (a : ℕ) (c : Course) → GoesWith objects before x c → c ≡ Throws a (Called class (v ∷ [])) → slice_get (shown_by objects answers x) 0 ≡ Some v
  throw_shown (event.Make b g us) a c goes is = absurd (cc (sym goes ∙ is))
  throw_shown (event.Resume b how.Start) a c goes is = absurd (cc (sym goes ∙ is))
  throw_shown (event.Resume b (how.Send u)) a c goes is = absurd (cc (sym goes ∙ is))
  throw_shown (event.Resume b (how.Throw e)) a c (y, goes, raise) is =
      let same : y ≡ Called class (v ∷ []) = cc (sym goes ∙ is) in
      ap (λ us. slice_get us 0) (called_args objects before class v e (subst (λ z. IsRaise objects before z e) same raise) answers)
  throw_shown (event.Result d u) a c (reply, goes, gives) is = absurd (cc (sym goes ∙ is))
  throw_shown _ a c goes is = absurd goes

  answer_shown : (d : ℕ) (u : DriveAnswer) → GivesDrive objects before (Passes (Called class (v ∷ []))) u → slice_get (shown_by objects answers (event.Result d u)) 0 ≡ Some v
  answer_shown d (answer.Returns u) gives = absurd gives
  answer_shown d (answer.Yields u) gives = absurd (cc gives)
  answer_shown d (answer.Stops u) gives = absurd (cc gives)
  answer_shown d answer.Closes gives = absurd (cc gives)
  answer_shown d (answer.Raises e) gives = ap (λ us. slice_get us 0) (called_args objects before class v e gives answers)
  answer_shown d (answer.Reported text) gives = absurd gives

  raise_shown : (x : Event) (c : Course) → GoesWith objects before x c → c ≡ Says (Passes (Called class (v ∷ []))) → slice_get (shown_by objects answers x) 0 ≡ Some v
  raise_shown (event.Make b g us) c goes is = absurd (cc (sym goes ∙ is))
  raise_shown (event.Resume b how.Start) c goes is = absurd (cc (sym goes ∙ is))
  raise_shown (event.Resume b (how.Send u)) c goes is = absurd (cc (sym goes ∙ is))
  raise_shown (event.Resume b (how.Throw e)) c (y, goes, raise) is = absurd (cc (sym goes ∙ is))
  raise_shown (event.Result d u) c (reply, goes, gives) is =
      answer_shown d u (subst (λ r. GivesDrive objects before r u) (let same : reply ≡ Passes (Called class (v ∷ [])) = cc (sym goes ∙ is) in same) gives)
  raise_shown _ c goes is = absurd goes

  -- a row shows the argument, or comes to the same with any
  pub row_shown : (word : Name) (a : ℕ) (row : Row) (x : Event) (c : Course) → GoesWith objects before x c → c ≡ course_by word a (Throws a (Called class (v ∷ []))) row
      → (slice_get (shown_by objects answers x) 0 ≡ Some v) ⊎ ((us : List Obj) → c ≡ course_by word a (Throws a (Called class us)) row)
  row_shown word a RowStops x c goes is = inr (λ us. is)
  row_shown word a RowRaises x c goes is = inl (raise_shown x c goes is)
  row_shown word a RowDone x c goes is = inr (λ us. is)
  row_shown word a RowStarts x c goes is = inr (λ us. is)
  row_shown word a RowSends x c goes is = inl (throw_shown x a c goes is)
  row_shown word a RowThrows x c goes is = inl (throw_shown x a c goes is)
  row_shown word a RowExits x c goes is = inl (throw_shown x a c goes is)
  row_shown word a (RowRefuses r) x c goes is = inr (λ us. is)

-- a throw into the object of a literal is refused
throw_refused : (at : Setting) (objects : List Payload) (g k v : Obj) (p : Payload) (c : Course) → IsLiteralPayload p → HasPayload objects g p
    → ComesTo at objects (request.Throw g k (Some v) None) c → (reply : Reply) × (c ≡ Says reply) × Lacks objects (codes "throw") g reply
throw_refused at objects g k v p c one has comes = elim (comes_as at objects (request.Throw g k (Some v) None) c comes) [
  | inl refused ↦ refused
  | inr (none, (kind, x, kept, thrown_so)) ↦ absurd (no_generator p kept.body one (same_Some p (payload.Generator kept.body) (sym has ∙ kept.entry)))
]

module _ (objects : List Payload) (before : List Event) (answers : List DriveAnswer) (x : Event) where
  -- two objects are one, or of one literal, which is None, or of which the event shows the one
  abbrev ThrownAlike : (w v : Obj) → Type 0
  ThrownAlike w v =
      (w ≡ v)
      ⊎ ((p : Payload) × IsLiteralPayload p × HasPayload objects v p × HasPayload objects w p
      × ((p ≡ payload.None) ⊎ (slice_get (shown_by objects answers x) 0 ≡ Some v → w ≡ v)))

  -- a throw of such an object into what doesn't run
  abbrev IsThrownIn : Setting → CoroKind → Generator → (k v : Obj) → Course → Type 0
  IsThrownIn at kind y k v c = (outcome : Instantiate) × Normalizes objects k (Some v) outcome × (throws_by kind y at.depth outcome ≡ Some c)

  thrown_alike : (at : Setting) (kind : CoroKind) (y : Generator) (k v w : Obj) (p : Payload) (c : Course) → IsLiteralPayload p → HasPayload objects v p → HasPayload objects w p
      → ((p ≡ payload.None) ⊎ (slice_get (shown_by objects answers x) 0 ≡ Some v → w ≡ v)) → GoesWith objects before x c → IsThrownIn at kind y k v c → IsThrownIn at kind y k w c
  thrown_alike at kind y k v w p c one has has' same goes (outcome, normal, is) = elim (normal_alike objects k v w p outcome one has has' normal) [
    | inl alike ↦ (outcome, alike, is)
    | inr (class, made, other, some) ↦ elim (row_shown objects before answers class v (word_of kind) y.act (thrown y.mode at.depth) x c goes
        (same_Some c (course_by (word_of kind) y.act (Throws y.act (Called class (v ∷ []))) (thrown y.mode at.depth)) (sym is ∙ ap (throws_by kind y at.depth) made))) [
          | inl shows ↦ elim same [
            | inl none ↦ absurd (some none)
            | inr equal ↦ subst (λ u. IsThrownIn at kind y k u c) (sym (equal shows)) (outcome, normal, is)
          ]
          | inr any ↦ (comes.Make class (w ∷ []), other, ap (λ d. Some d) (sym (any (w ∷ []))))
        ]
  ]

  throws_alike : (at : Setting) (kind : CoroKind) (y : Generator) (m : Mode) (k v w : Obj) (p : Payload) (c : Course) → IsLiteralPayload p → HasPayload objects v p
      → HasPayload objects w p → ((p ≡ payload.None) ⊎ (slice_get (shown_by objects answers x) 0 ≡ Some v → w ≡ v)) → GoesWith objects before x c
      → ThrowsAs at objects kind y m k (Some v) c → ThrowsAs at objects kind y m k (Some w) c
  throws_alike at kind y Fresh k v w p c one has has' same goes as_is = thrown_alike at kind y k v w p c one has has' same goes as_is
  throws_alike at kind y Suspended k v w p c one has has' same goes as_is = thrown_alike at kind y k v w p c one has has' same goes as_is
  throws_alike at kind y Running k v w p c one has has' same goes as_is = as_is
  throws_alike at kind y Closed k v w p c one has has' same goes as_is = thrown_alike at kind y k v w p c one has has' same goes as_is

  throw_goes : (at : Setting) (g k v w : Obj) (c : Course) → ThrownAlike w v → GoesWith objects before x c → ComesTo at objects (request.Throw g k (Some v) None) c
      → ComesTo at objects (request.Throw g k (Some w) None) c
  throw_goes at g k v w c (inl one) goes comes = subst (λ u. ComesTo at objects (request.Throw g k (Some u) None) c) (sym one) comes
  throw_goes at g k v w c (inr (p, one, has, has', same)) goes comes = elim (comes_as at objects (request.Throw g k (Some v) None) c comes) [
    | inl refused ↦ inl refused
    | inr (none, (kind, y, kept, thrown_so)) ↦
        inr (inr (inr (inr (inl (g, k, Some w, refl, (kind, y, kept, throws_alike at kind y y.mode k v w p c one has has' same goes thrown_so))))))
  ]

  throw_found_by : (line : DriveLine) (g h k v w : Obj) → request_by objects answers line (shown_by objects answers x) ≡ Some (request.Throw h k (Some w) None)
      → AreTargets objects before answers h g → ThrownAlike w v → IsFound objects before answers line x (request.Throw g k (Some v) None)
  throw_found_by line g h k v w is (inl one) alike = record {
    request = request.Throw h k (Some w) None;
    is = is;
    comes = λ at c goes comes. subst (λ u. ComesTo at objects (request.Throw u k (Some w) None) c) (sym one) (throw_goes at g k v w c alike goes comes);
    alike = λ at c unsaid comes. subst (λ u. AskAlike (request.Throw u k (Some w) None) (request.Throw g k (Some v) None)) (sym one) (AlikeThrows g k k (Some w) (Some v) None);
    closes = λ xs are. refl;
  }
  throw_found_by line g h k v w is (inr (p, one, has, has')) alike = record {
    request = request.Throw h k (Some w) None;
    is = is;
    comes = λ at c goes comes. let (reply, says, lacks) = throw_refused at objects g k v p c one has comes in inl (reply, says, literal_lacks objects (codes "throw") g h p reply has has' lacks);
    alike = λ at c unsaid comes. let (reply, says, lacks) = throw_refused at objects g k v p c one has comes in absurd (unsaid (subst IsSaid (sym says) tt));
    closes = λ xs are. refl;
  }

  module _ (decls : List Decl) (events : List Event) (made : ℕ) (known : LeftKnown objects answers decls events made) where
    -- what is thrown with the class
    value_found : (a : Option DriveAtom) (v : Obj) → IsThrowable decls made a → IsThrown objects events a v
        → (w : Obj) × (thrown_with objects answers a (shown_by objects answers x) ≡ Some w) × ThrownAlike w v
    value_found None v may has =
        let one = chosen objects answers None (Any_of payload.None) v (none_literal, has) in
        (one.object, one.is, inr (payload.None, none_literal, has, one.fits.1, inl refl))
    value_found (Some a) v may has =
        let (s, is, fits) = argument_is objects answers decls events made a v known may has in
        let one = chosen objects answers (slice_get (shown_by objects answers x) 0) s v fits in (
          one.object,
          ap (object_if objects answers (slice_get (shown_by objects answers x) 0)) is ∙ one.is,
          elim (are_targets objects before answers s one.object v one.fits fits) [
            | inl same ↦ inl same
            | inr (p, lit, has, has') ↦ inr (p, lit, has, has', inr one.same)
          ],
        )

    pub throw_found : (n : ℕ) (name : Name) (a : Option DriveAtom) (g k v : Obj) → NumbersDrive made n → IsLeftBy objects events n g → declared objects name ≡ Some k
        → IsThrowable decls made a → IsThrown objects events a v → IsFound objects before answers (drive.Throw n name a) x (request.Throw g k (Some v) None)
    throw_found n name a g k v may left named throwable has =
        let t = target objects before answers decls events made known n g may left in
        let (w, is, alike) = value_found a v throwable has in
        throw_found_by (drive.Throw n name a) g t.object k v w
        (ap (λ o. throws objects answers o (declared objects name) (thrown_with objects answers a (shown_by objects answers x))) t.is
        ∙ ap (λ o. throws objects answers (Some t.object) o (thrown_with objects answers a (shown_by objects answers x))) named
        ∙ ap (throws objects answers (Some t.object) (Some k)) is)
        t.fits alike
