-- What the drive that runs asks by the event behind it, where the run has it ask something: that comes to the same, whichever objects its literals are.
use Rattle.std.proofs.Common.{◌≡◌, ◌⊎◌, ◌∙◌, ℕ, List, [], ◌∷◌, Bool, true, false, cond, Some, None, inl, inr, refl, sym, ap, subst, length, nat_le, ne_eqb}
use Rattle.std.specs.Prelude.{Option, All, codes, slice_get, option_map}
use Rattle.std.proofs.lemmas.Option.{same_Some}
use Rattle.py_objects.specs.declared.payload.Payload.{Payload}
use Rattle.py_objects.specs.declared.payload.Payload.TheVariants as payload
use Rattle.py_objects.specs.declared.payload.CoroBody.{CoroBody}
use Rattle.py_objects.specs.declared.payload.CoroKind.{CoroKind}
use Rattle.py_objects.specs.declared.error_kind.ErrorKind.TheVariants.{RecursionError}
use Rattle.py_objects.specs.Values.{is_none}
use Rattle.py_objects.specs.declared.request.Keywords.TheVariants as keywords
use Rattle.py_objects.specs.declared.request.Request.{Request}
use Rattle.py_objects.specs.declared.request.Request.TheVariants as request
use Rattle.py_objects.specs.declared.event.DriveAnswer.{DriveAnswer}
use Rattle.py_objects.specs.declared.event.DriveAnswer.TheVariants as answer
use Rattle.py_objects.specs.declared.event.ResumeHow.TheVariants as how
use Rattle.py_objects.specs.declared.event.Event.{Event}
use Rattle.py_objects.specs.declared.event.Event.TheVariants as event
use Rattle.py_objects.specs.Objects.{Obj, Name, HasPayload, declared}
use Rattle.py_lines.specs.declared.drive.DriveAtom.{DriveAtom}
use Rattle.py_lines.specs.declared.drive.DriveLine.{DriveLine}
use Rattle.py_lines.specs.declared.drive.DriveLine.TheVariants as drive
use Rattle.py_grammar.specs.Grammar.{Decl}
use Rattle.py_grammar.specs.WellFormed.{NumbersDrive, IsDrivable}
use Rattle.py_coro.specs.Modes.{Row, Stops as RowStops, Raises as RowRaises, Done as RowDone, Starts as RowStarts, Sends as RowSends, Throws as RowThrows, Exits as RowExits, Refuses as RowRefuses, most_depth, sent}
use Rattle.py_coro.specs.Refusals.{too_deep, word_of}
use Rattle.py_answers.specs.Answers.{Raised, Reply, Fails, Lacks, LacksAs, IsRaise, GivesDrive, Makes, CallsAs}
use Rattle.py_meaning.specs.Whole.{IsLeftBy, IsOf, AreOf}
use Rattle.py_places.proofs.Literals.{IsLiteralPayload, none_literal}
use Rattle.py_run.specs.Generators.{Generator, with_mode, unentered, closed_by}
use Rattle.py_run.specs.Calls.{Course, Says, Enters, Begins, Sends, Throws, bound_by, made_at, refusal, Setting, course_by, ComesTo}
use Rattle.py_run.proofs.CoursesLemmas.{comes_as, IsSaid}
use Rattle.py_following.specs.Drives.{Sought, This, Any_of, left_at, sought, object_if, objects_of, like_shown, calls, sends, request_by, shown_by}
use Rattle.py_following.proofs.Plans.{AskAlike, AlikeCalls, AlikeSends, AlikeCloses}
use Rattle.py_following.proofs.Chosen.{IsIt, AreAlike, are_alike, chosen, LeftKnown, argument_is, arguments_are}
use Rattle.py_following.proofs.Functions.{IsUnraised}
use Rattle.py_following.proofs.Questions.{call_alike, IsUnhanded, send_alike}

-- a course that the event behind a drive shows
abbrev pub GoesWith : List Payload → List Event → Event → Course → Type 0
GoesWith objects before (event.Make a f vs) c = c ≡ Enters f vs
GoesWith objects before (event.Resume a how.Start) c = c ≡ Begins a
GoesWith objects before (event.Resume a (how.Send v)) c = c ≡ Sends a v
GoesWith objects before (event.Resume a (how.Throw e)) c = (y : Raised) × (c ≡ Throws a y) × IsRaise objects before y e
GoesWith objects before (event.Result d w) c = (reply : Reply) × (c ≡ Says reply) × GivesDrive objects before reply w
GoesWith objects before _ c = ⊥

-- these are generators
abbrev pub AreGenerators : List Payload → List Generator → Type 0
AreGenerators objects [] = Unit {0}
AreGenerators objects (x ∷ xs) = ((b : CoroBody) × HasPayload objects x.object (payload.Generator b)) × AreGenerators objects xs

-- what a line asks by an event, where a run has it ask another thing
pub record IsFound (objects : List Payload) (before : List Event) (answers : List DriveAnswer) (line : DriveLine) (x : Event) (other : Request) : Type 0 where
  pub request : Request
  pub is : request_by objects answers line (shown_by objects answers x) ≡ Some request
  pub comes : (at : Setting) (c : Course) → GoesWith objects before x c → ComesTo at objects other c → ComesTo at objects request c
  pub alike : (at : Setting) (c : Course) → (IsSaid c → ⊥) → ComesTo at objects other c → AskAlike request other
  pub closes : (xs : List Generator) → AreGenerators objects xs → closed_by (Some request) xs ≡ closed_by (Some other) xs

-- ---- calls

-- a call says something at once, or enters the function with these arguments
AreBound : Course → Obj → List Obj → Type 0
AreBound c f vs = ((reply : Reply) × (c ≡ Says reply)) ⊎ (c ≡ Enters f vs)

deep_course : (b : Bool) (f : Obj) (vs : List Obj) (c : Course) → c ≡ cond b (Says (Fails RecursionError too_deep)) (Enters f vs) → AreBound c f vs
unfolding AreBound
deep_course true f vs c is = inl (Fails RecursionError too_deep, is)
deep_course false f vs c is = inr is

bound_course : (text : Option Name) (kind : Option CoroKind) (depth : ℕ) (f : Obj) (vs : List Obj) (c : Course) → c ≡ bound_by text (made_at kind depth (Enters f vs)) → AreBound c f vs
unfolding AreBound
bound_course (Some text) kind depth f vs c is = inl (_, is)
bound_course None None depth f vs c is = deep_course (nat_le most_depth depth) f vs c is
bound_course None (Some kind) depth f vs c is = inr is

call_course : (at : Setting) (objects : List Payload) (f : Obj) (vs : List Obj) (c : Course) → ComesTo at objects (request.Call f vs keywords.None) c → AreBound c f vs
unfolding AreBound
call_course at objects f vs c comes = elim (comes_as at objects (request.Call f vs keywords.None) c comes) [
  | inl (reply, says, replies) ↦ inl (reply, says)
  | inr (none, calls) ↦ bound_course (refusal calls.body.name calls.signature.params (length vs)) calls.signature.kind at.depth f vs c calls.is
]

module _ (objects : List Payload) (before : List Event) (answers : List DriveAnswer) where
  -- what enters a function shows the arguments
  enters_shown : (x : Event) (f : Obj) (vs : List Obj) (c : Course) → GoesWith objects before x c → c ≡ Enters f vs → shown_by objects answers x ≡ vs
  enters_shown (event.Make a g us) f vs c goes enters = cc (sym goes ∙ enters)
  enters_shown (event.Resume a how.Start) f vs c goes enters = absurd (cc (sym goes ∙ enters))
  enters_shown (event.Resume a (how.Send v)) f vs c goes enters = absurd (cc (sym goes ∙ enters))
  enters_shown (event.Resume a (how.Throw e)) f vs c (y, goes, raise) enters = absurd (cc (sym goes ∙ enters))
  enters_shown (event.Result d w) f vs c (reply, goes, gives) enters = absurd (cc (sym goes ∙ enters))
  enters_shown _ f vs c goes enters = absurd goes

  -- what is said is given
  said_gives : (x : Event) (c : Course) (reply : Reply) → GoesWith objects before x c → c ≡ Says reply → (w : DriveAnswer) × GivesDrive objects before reply w
  said_gives (event.Make a g us) c reply goes says = absurd (cc (sym goes ∙ says))
  said_gives (event.Resume a how.Start) c reply goes says = absurd (cc (sym goes ∙ says))
  said_gives (event.Resume a (how.Send v)) c reply goes says = absurd (cc (sym goes ∙ says))
  said_gives (event.Resume a (how.Throw e)) c reply (y, goes, raise) says = absurd (cc (sym goes ∙ says))
  said_gives (event.Result d w) c reply (other, goes, gives) says =
      let same : other ≡ reply = cc (sym goes ∙ says) in (w, subst (λ r. GivesDrive objects before r w) same gives)
  said_gives _ c reply goes says = absurd goes

  -- no exception of a class is made that none is of
  makes_none : (g : Obj) (vs : List Obj) (w : DriveAnswer) → IsUnraised objects g → GivesDrive objects before (Makes (record { number = g.number }) vs) w → ⊥
  makes_none g vs (answer.Returns v) none (os, derived, made) = none v _ made.entry refl
  makes_none g vs (answer.Yields v) none gives = cc gives
  makes_none g vs (answer.Stops v) none gives = cc gives
  makes_none g vs answer.Closes none gives = cc gives
  makes_none g vs (answer.Raises e) none gives = absurd gives
  makes_none g vs (answer.Reported text) none gives = absurd gives

  -- so the call of anything but a function is answered the same with other arguments
  said_alike : (g : Obj) (vs ws : List Obj) (reply : Reply) (w : DriveAnswer) → IsUnraised objects g → GivesDrive objects before reply w → (p : Payload)
      → CallsAs objects g p vs reply → CallsAs objects g p ws reply
  said_alike g vs ws reply w none gives (payload.Class c) (true, derived, makes) =
      absurd (makes_none g vs w none (subst (λ r. GivesDrive objects before r w) makes gives))
  said_alike g vs ws reply w none gives (payload.Class c) (false, derived, refused) = (false, derived, refused)
  said_alike g vs ws reply w none gives _ calls = calls

  call_goes : (at : Setting) (x : Event) (f : Obj) (vs ws : List Obj) (c : Course) → IsUnraised objects f → length ws ≡ length vs
      → (shown_by objects answers x ≡ vs → ws ≡ vs) → GoesWith objects before x c → ComesTo at objects (request.Call f vs keywords.None) c
      → ComesTo at objects (request.Call f ws keywords.None) c
  unfolding AreBound
  call_goes at x f vs ws c none count same goes comes = elim (call_course at objects f vs c comes) [
    | inl (reply, says) ↦
        let (w, gives) = said_gives x c reply goes says in
        subst (λ d. ComesTo at objects (request.Call f ws keywords.None) d) (sym says)
        (call_alike at objects f vs ws reply (said_alike f vs ws reply w none gives) count
        (subst (λ d. ComesTo at objects (request.Call f vs keywords.None) d) says comes))
    | inr enters ↦ subst (λ us. ComesTo at objects (request.Call f us keywords.None) c) (sym (same (enters_shown x f vs c goes enters))) comes
  ]

  module _ (decls : List Decl) (events : List Event) (made : ℕ) (known : LeftKnown objects answers decls events made) where
    pub call_found : (x : Event) (f : Name) (atoms : List DriveAtom) (g : Obj) (vs : List Obj) → declared objects f ≡ Some g
        → IsUnraised objects g → All (IsDrivable decls made) atoms → AreOf objects events atoms vs
        → IsFound objects before answers (drive.Call f atoms) x (request.Call g vs keywords.None)
    call_found x f atoms g vs named none may are =
        let ones = arguments_are objects answers decls events made atoms (shown_by objects answers x) vs known may are in
        record {
          request = request.Call g ones.chosen_ones keywords.None;
          is = ap (λ o. calls objects answers o (objects_of objects answers atoms (shown_by objects answers x))) named ∙ ap (calls objects answers (Some g)) ones.are;
          comes = λ at c goes comes. call_goes at x g vs ones.chosen_ones c none ones.count ones.same goes comes;
          alike = λ at c unsaid comes. AlikeCalls g g ones.chosen_ones vs keywords.None;
          closes = λ xs are. refl;
        }

-- ---- what goes on

-- the object of a literal is no generator
pub no_generator : (p : Payload) (b : CoroBody) → IsLiteralPayload p → p ≡ payload.Generator b → ⊥
no_generator p b one is = absurd (cc (subst IsLiteralPayload is one))

-- a payload of an object is the only one
pub literal_lacks : (objects : List Payload) (name : Name) (g h : Obj) (p : Payload) (reply : Reply) → HasPayload objects g p → HasPayload objects h p
    → Lacks objects name g reply → Lacks objects name h reply
literal_lacks objects name g h p reply has has' (q, entry, lacks) =
    (p, has', subst (λ r. LacksAs objects name r reply) (same_Some q p (sym entry ∙ has)) lacks)

-- a send to the object of a literal is refused
send_refused : (at : Setting) (objects : List Payload) (g v : Obj) (p : Payload) (c : Course) → IsLiteralPayload p → HasPayload objects g p
    → ComesTo at objects (request.Send g v) c → (reply : Reply) × (c ≡ Says reply) × Lacks objects (codes "send") g reply
send_refused at objects g v p c one has comes = elim (comes_as at objects (request.Send g v) c comes) [
  | inl refused ↦ refused
  | inr (kind, x, kept, q, entry, is) ↦ absurd (no_generator p kept.body one (same_Some p (payload.Generator kept.body) (sym has ∙ kept.entry)))
]

close_refused : (at : Setting) (objects : List Payload) (g : Obj) (p : Payload) (c : Course) → IsLiteralPayload p → HasPayload objects g p
    → ComesTo at objects (request.Close g) c → (reply : Reply) × (c ≡ Says reply) × Lacks objects (codes "close") g reply
close_refused at objects g p c one has comes = elim (comes_as at objects (request.Close g) c comes) [
  | inl refused ↦ refused
  | inr (kind, x, kept, is) ↦ absurd (no_generator p kept.body one (same_Some p (payload.Generator kept.body) (sym has ∙ kept.entry)))
]

-- a close of what is no generator closes none
unclosed : (objects : List Payload) (k : Obj) (p : Payload) → IsLiteralPayload p → HasPayload objects k p → (xs : List Generator) → AreGenerators objects xs
    → with_mode k unentered xs ≡ xs
unclosed objects k p one has [] are = refl
unclosed objects k p one has (y ∷ ys) ((b, entry), are) =
    let other : y.object.number ≡ k.number → ⊥ = λ (number : y.object.number ≡ k.number).
    no_generator p b one (same_Some p (payload.Generator b) (sym has ∙ sym (ap (slice_get objects) number) ∙ entry)) in
    ap (λ m. cond m (record y { mode = unentered y.mode } ∷ ys) (y ∷ with_mode k unentered ys)) (ne_eqb y.object.number k.number other)
    ∙ ap (λ zs. y ∷ zs) (unclosed objects k p one has ys are)

-- a send hands nothing over, or the object
IsSent : Course → Obj → Type 0
IsSent c v = IsUnhanded c ⊎ ((a : ℕ) × (c ≡ Sends a v))

row_course : (word : Name) (a : ℕ) (v : Obj) (row : Row) (c : Course) → c ≡ course_by word a (Sends a v) row → IsSent c v
unfolding IsSent
row_course word a v RowStops c is = inl (subst IsUnhanded (sym is) tt)
row_course word a v RowRaises c is = inr (a, is)
row_course word a v RowDone c is = inl (subst IsUnhanded (sym is) tt)
row_course word a v RowStarts c is = inl (subst IsUnhanded (sym is) tt)
row_course word a v RowSends c is = inr (a, is)
row_course word a v RowThrows c is = inr (a, is)
row_course word a v RowExits c is = inr (a, is)
row_course word a v (RowRefuses r) c is = inl (subst IsUnhanded (sym is) tt)

send_course : (at : Setting) (objects : List Payload) (g v : Obj) (c : Course) → ComesTo at objects (request.Send g v) c → IsSent c v
unfolding IsSent
send_course at objects g v c comes = elim (comes_as at objects (request.Send g v) c comes) [
  | inl (reply, says, lacks) ↦ inl (subst IsUnhanded (sym says) tt)
  | inr (kind, x, kept, p, has, is) ↦ row_course (word_of kind) x.act v (sent x.mode (is_none p) at.depth) c is
]

module _ (objects : List Payload) (before : List Event) (answers : List DriveAnswer) where
  -- what is sent is shown
  sends_shown : (x : Event) (a : ℕ) (v : Obj) (c : Course) → GoesWith objects before x c → c ≡ Sends a v → slice_get (shown_by objects answers x) 0 ≡ Some v
  sends_shown (event.Make b g us) a v c goes hands = absurd (cc (sym goes ∙ hands))
  sends_shown (event.Resume b how.Start) a v c goes hands = absurd (cc (sym goes ∙ hands))
  sends_shown (event.Resume b (how.Send w)) a v c goes hands = cc (sym goes ∙ hands)
  sends_shown (event.Resume b (how.Throw e)) a v c (y, goes, raise) hands = absurd (cc (sym goes ∙ hands))
  sends_shown (event.Result d w) a v c (reply, goes, gives) hands = absurd (cc (sym goes ∙ hands))
  sends_shown _ a v c goes hands = absurd goes

  send_goes : (at : Setting) (x : Event) (g v w : Obj) (c : Course) → AreAlike objects w v → (slice_get (shown_by objects answers x) 0 ≡ Some v → w ≡ v)
      → GoesWith objects before x c → ComesTo at objects (request.Send g v) c → ComesTo at objects (request.Send g w) c
  unfolding IsSent
  send_goes at x g v w c (inl one) same goes comes = subst (λ u. ComesTo at objects (request.Send g u) c) (sym one) comes
  send_goes at x g v w c (inr (p, has, has')) same goes comes = elim (send_course at objects g v c comes) [
    | inl free ↦ send_alike at objects g v w p c has' has free comes
    | inr (a, hands) ↦ subst (λ u. ComesTo at objects (request.Send g u) c) (sym (same (sends_shown x a v c goes hands))) comes
  ]

  -- the object that is gone on with is the one of the run, or both are of one literal
  abbrev pub AreTargets : Obj → Obj → Type 0
  AreTargets h g = (h ≡ g) ⊎ ((p : Payload) × IsLiteralPayload p × HasPayload objects g p × HasPayload objects h p)

  pub are_targets : (s : Sought) (h g : Obj) → IsIt objects s h → IsIt objects s g → AreTargets h g
  are_targets (This u) h g is is' = inl (is ∙ sym is')
  are_targets (Any_of p) h g is is' = inr (p, is.0, is'.1, is.1)

  send_found_by : (x : Event) (line : DriveLine) (g h v w : Obj) → request_by objects answers line (shown_by objects answers x) ≡ Some (request.Send h w)
      → AreTargets h g → AreAlike objects w v → (slice_get (shown_by objects answers x) 0 ≡ Some v → w ≡ v)
      → IsFound objects before answers line x (request.Send g v)
  send_found_by x line g h v w is (inl one) alike same = record {
    request = request.Send h w;
    is = is;
    comes = λ at c goes comes. subst (λ k. ComesTo at objects (request.Send k w) c) (sym one) (send_goes at x g v w c alike same goes comes);
    alike = λ at c unsaid comes. subst (λ k. AskAlike (request.Send k w) (request.Send g v)) (sym one) (AlikeSends g w v);
    closes = λ xs are. refl;
  }
  send_found_by x line g h v w is (inr (p, one, has, has')) alike same = record {
    request = request.Send h w;
    is = is;
    comes = λ at c goes comes. let (reply, says, lacks) = send_refused at objects g v p c one has comes in inl (reply, says, literal_lacks objects (codes "send") g h p reply has has' lacks);
    alike = λ at c unsaid comes. let (reply, says, lacks) = send_refused at objects g v p c one has comes in absurd (unsaid (subst IsSaid (sym says) tt));
    closes = λ xs are. refl;
  }

  module _ (decls : List Decl) (events : List Event) (made : ℕ) (known : LeftKnown objects answers decls events made) where
    -- what goes on is what a drive left
    pub record IsTarget (n : ℕ) (g : Obj) : Type 0 where
      pub object : Obj
      pub is : object_if objects answers None (left_at objects answers n) ≡ Some object
      pub fits : AreTargets object g

    pub target : (n : ℕ) (g : Obj) → NumbersDrive made n → IsLeftBy objects events n g → IsTarget n g
    target n g may left =
        let (s, is, fits) = known n g may left in
        let one = chosen objects answers None s g fits in
        record { object = one.object; is = ap (object_if objects answers None) is ∙ one.is; fits = are_targets s one.object g one.fits fits }

    pub next_found : (x : Event) (n : ℕ) (g v : Obj) → NumbersDrive made n → IsLeftBy objects events n g → HasPayload objects v payload.None
        → IsFound objects before answers (drive.Next n) x (request.Send g v)
    next_found x n g v may left has =
        let t = target n g may left in
        let one = chosen objects answers (slice_get (shown_by objects answers x) 0) (Any_of payload.None) v (none_literal, has) in
        send_found_by x (drive.Next n) g t.object v one.object
        (ap (λ o. sends objects answers o (like_shown objects answers payload.None (slice_get (shown_by objects answers x) 0))) t.is ∙ ap (sends objects answers (Some t.object)) one.is)
        t.fits (are_alike objects (Any_of payload.None) one.object v one.fits (none_literal, has)) one.same

    pub send_found : (x : Event) (n : ℕ) (a : DriveAtom) (g v : Obj) → NumbersDrive made n → IsLeftBy objects events n g → IsDrivable decls made a → IsOf objects events a v
        → IsFound objects before answers (drive.Send n a) x (request.Send g v)
    send_found x n a g v may left drivable has =
        let t = target n g may left in
        let (s, is, fits) = argument_is objects answers decls events made a v known drivable has in
        let one = chosen objects answers (slice_get (shown_by objects answers x) 0) s v fits in
        send_found_by x (drive.Send n a) g t.object v one.object
        (ap (λ o. sends objects answers o (object_if objects answers (slice_get (shown_by objects answers x) 0) (sought objects answers a))) t.is
        ∙ ap (sends objects answers (Some t.object)) (ap (object_if objects answers (slice_get (shown_by objects answers x) 0)) is ∙ one.is))
        t.fits (are_alike objects s one.object v one.fits fits) one.same

    -- ---- closes

    pub close_found : (x : Event) (n : ℕ) (g : Obj) → NumbersDrive made n → IsLeftBy objects events n g → IsFound objects before answers (drive.Close n) x (request.Close g)
    close_found x n g may left = let t = target n g may left in by t.object t.is t.fits
      where
        by : (h : Obj) → object_if objects answers None (left_at objects answers n) ≡ Some h → AreTargets h g → IsFound objects before answers (drive.Close n) x (request.Close g)
        by h is (inl one) = record {
          request = request.Close h;
          is = ap (option_map request.Close) is;
          comes = λ at c goes comes. subst (λ k. ComesTo at objects (request.Close k) c) (sym one) comes;
          alike = λ at c unsaid comes. subst (λ k. AskAlike (request.Close k) (request.Close g)) (sym one) (AlikeCloses g);
          closes = λ xs are. ap (λ k. with_mode k unentered xs) one;
        }
        by h is (inr (p, one, has, has')) = record {
          request = request.Close h;
          is = ap (option_map request.Close) is;
          comes = λ at c goes comes. let (reply, says, lacks) = close_refused at objects g p c one has comes in inl (reply, says, literal_lacks objects (codes "close") g h p reply has has' lacks);
          alike = λ at c unsaid comes. let (reply, says, lacks) = close_refused at objects g p c one has comes in absurd (unsaid (subst IsSaid (sym says) tt));
          closes = λ xs are. unclosed objects h p one has' xs are ∙ sym (unclosed objects g p one has xs are);
        }
