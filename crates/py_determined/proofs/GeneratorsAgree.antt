-- Behind the same events the generators are the same.
use Rattle.std.proofs.Common.{◌≡◌, ℕ, List, [], ◌∷◌, Bool, true, false, eqb, length, Some, None, refl, ap, ◌∙◌}
use Rattle.std.specs.Prelude.{Option, if◌then◌else◌}
use Rattle.py_objects.specs.declared.payload.Payload.{Payload}
use Rattle.py_objects.specs.declared.request.Request.{Request}
use Rattle.py_objects.specs.declared.request.Request.TheVariants as request
use Rattle.py_objects.specs.declared.event.GotAnswer.{GotAnswer}
use Rattle.py_objects.specs.declared.event.GotAnswer.TheVariants as got
use Rattle.py_objects.specs.declared.event.DriveAnswer.{DriveAnswer}
use Rattle.py_objects.specs.declared.event.DriveAnswer.TheVariants as answer
use Rattle.py_objects.specs.declared.event.Event.{Event}
use Rattle.py_objects.specs.declared.event.Event.TheVariants as event
use Rattle.py_objects.specs.Objects.{Obj, HasPayload}
use Rattle.py_coro.specs.declared.coro.CoroEnd.{CoroEnd}
use Rattle.py_coro.specs.declared.coro.CoroEnd.TheVariants as left
use Rattle.py_coro.specs.Modes.{Mode, Running}
use Rattle.py_coro.specs.Leaving.{mode_behind}
use Rattle.py_run.specs.Run.{Plan, Phase, Idle, Asking, Going, Made, Due, State, question}
use Rattle.py_run.specs.Generators.{Generator, running_at, with_mode, unentered, closed_by, settled, created, answered, value_of, returned_by, generators_after}
use Rattle.py_agreement.specs.Agreement.{Relation, SameMaybe, SameAnswer, has_literal}
use Rattle.py_determined.specs.Alike.{AreAlike}
use Rattle.py_determined.specs.Sameness.{SameAsked, SameLeft, SameGenerator, SameGenerators}
use Rattle.py_determined.specs.Events.{SameResult, SameEvent}
use Rattle.py_determined.proofs.SameStates.{SamePhase, SameState}
use Rattle.py_determined.proofs.Requests.{BothAsk, BothUnbound, BothGlobal, BothBinary, BothCompare, BothTruth, BothMatch, BothHandled, BothRaisable, BothShow, BothCall, BothSend, BothThrow, BothClose, BothEnter, BothExit, BothNoExit, both_ask}
use Rattle.py_determined.proofs.StatesAgree.{made_count}

-- an object for which no literal stands
abbrev pub IsPlain : List Payload → Obj → Type 0
IsPlain objects v = (p : Payload) × HasPayload objects v p × (has_literal p ≡ false)

-- no literal stands for these generators
abbrev pub ArePlain : List Payload → List Generator → Type 0
ArePlain objects [] = Unit {0}
ArePlain objects (x ∷ xs) = IsPlain objects x.object × ArePlain objects xs

module _ (objects : List Payload) where
  -- they stay so where a mode changes
  pub running_plain : (a : ℕ) (xs : List Generator) → ArePlain objects xs → ArePlain objects (running_at a xs)
  running_plain a [] plain = tt
  running_plain a (x ∷ xs) plain = (pick (eqb x.act a), running_plain a xs plain.1)
    where
      pick : (b : Bool) → IsPlain objects (if b then record x { mode = Running } else x).object
      pick true = plain.0
      pick false = plain.0

  mode_plain : (g : Obj) (m : Mode → Mode) (xs : List Generator) → ArePlain objects xs → ArePlain objects (with_mode g m xs)
  mode_plain g m [] plain = tt
  mode_plain g m (x ∷ xs) plain = pick (eqb x.object.number g.number) (mode_plain g m xs plain.1)
    where
      pick : (b : Bool) → ArePlain objects (with_mode g m xs) → ArePlain objects (if b then record x { mode = m x.mode } ∷ xs else x ∷ with_mode g m xs)
      pick true rest = plain
      pick false rest = (plain.0, rest)

  closed_plain : (q : Option Request) (xs : List Generator) → ArePlain objects xs → ArePlain objects (closed_by q xs)
  closed_plain None xs plain = plain
  closed_plain (Some (request.Close g)) xs plain = mode_plain g unentered xs plain
  closed_plain (Some _) xs plain = plain

  settled_plain : (q : Option Request) (how : CoroEnd) (xs : List Generator) → ArePlain objects xs → ArePlain objects (settled q how xs)
  settled_plain None how xs plain = plain
  settled_plain (Some (request.Send g v)) how xs plain = mode_plain g _ xs plain
  settled_plain (Some (request.Throw g k v t)) how xs plain = mode_plain g _ xs plain
  settled_plain (Some (request.Close g)) how xs plain = mode_plain g _ xs plain
  settled_plain (Some _) how xs plain = plain

  created_plain : (a : ℕ) (v : Option Obj) (xs : List Generator) → ((w : Obj) → v ≡ Some w → IsPlain objects w) → ArePlain objects xs → ArePlain objects (created a v xs)
  created_plain a None xs new plain = plain
  created_plain a (Some v) [] new plain = (new v refl, tt)
  created_plain a (Some v) (x ∷ xs) new plain = (plain.0, created_plain a (Some v) xs new plain.1)

  -- where a new one is of an object for which none stands, they stay so
  pub answered_plain : (q : Option Request) (phase : Phase) (made : ℕ) (v : Option Obj) (xs : List Generator) → ((f w : Obj) → phase ≡ Made f → v ≡ Some w → IsPlain objects w)
      → ArePlain objects xs → ArePlain objects (answered q phase made v xs)
  answered_plain q Idle made v xs new plain = plain
  answered_plain q Asking made v xs new plain = closed_plain q xs plain
  answered_plain q Going made v xs new plain = plain
  answered_plain q (Made f) made v xs new plain = created_plain made v xs (λ w is. new f w refl is) plain
  answered_plain q (Due how) made v xs new plain = settled_plain q how xs plain

module _ (S : Relation) (objects objects' : List Payload) (alike : AreAlike S objects objects') where
  -- of two related objects for which no literal stands both are one, or none
  one_plain : (v w v2 w2 : Obj) → IsPlain objects v → S v w → S v2 w2 → eqb v.number v2.number ≡ eqb w.number w2.number
  one_plain v w v2 w2 (p, has, is) s t = alike.one v v2 w w2 p s t has is

  running_same : (a b : ℕ) (xs ys : List Generator) → a ≡ b → SameGenerators S xs ys → SameGenerators S (running_at a xs) (running_at b ys)
  running_same a b [] [] same s = tt
  running_same a b (x ∷ xs) (y ∷ ys) same s = (pick (eqb x.act a) (eqb y.act b) (ap (λ n. eqb n a) s.0.act ∙ ap (eqb y.act) same), running_same a b xs ys same s.1)
    where
      pick : (c d : Bool) → c ≡ d → SameGenerator S (if c then record x { mode = Running } else x) (if d then record y { mode = Running } else y)
      pick true true e = record { object = s.0.object; act = s.0.act; mode = refl }
      pick false false e = s.0
      pick true false e = absurd (cc e)
      pick false true e = absurd (cc e)
  running_same a b _ _ same s = absurd s

  mode_same : (g h : Obj) (m m' : Mode → Mode) (xs ys : List Generator) → S g h → ((x : Mode) → m x ≡ m' x) → ArePlain objects xs → SameGenerators S xs ys
      → SameGenerators S (with_mode g m xs) (with_mode h m' ys)
  mode_same g h m m' [] [] same by plain s = tt
  mode_same g h m m' (x ∷ xs) (y ∷ ys) same by plain s =
      pick (eqb x.object.number g.number) (eqb y.object.number h.number) (one_plain x.object y.object g h plain.0 s.0.object same) (mode_same g h m m' xs ys same by plain.1 s.1)
    where
      pick : (c d : Bool) → c ≡ d → SameGenerators S (with_mode g m xs) (with_mode h m' ys)
          → SameGenerators S (if c then record x { mode = m x.mode } ∷ xs else x ∷ with_mode g m xs) (if d then record y { mode = m' y.mode } ∷ ys else y ∷ with_mode h m' ys)
      pick true true e rest = (record { object = s.0.object; act = s.0.act; mode = ap m s.0.mode ∙ by y.mode }, s.1)
      pick false false e rest = (s.0, rest)
      pick true false e rest = absurd (cc e)
      pick false true e rest = absurd (cc e)
  mode_same g h m m' _ _ same by plain s = absurd s

  behind_same : (closing : Bool) (how how' : CoroEnd) → SameLeft S how how' → mode_behind closing how ≡ mode_behind closing how'
  behind_same true how how' s = refl
  behind_same false (left.Yield v) (left.Yield w) s = refl
  behind_same false (left.Return v) (left.Return w) s = refl
  behind_same false (left.Raise e) (left.Raise f) s = refl
  behind_same false _ _ s = absurd s

  module _ (xs ys : List Generator) (plain : ArePlain objects xs) (same : SameGenerators S xs ys) where
    closes_same : (r r' : Request) → BothAsk S r r' → SameGenerators S (closed_by (Some r) xs) (closed_by (Some r') ys)
    closes_same _ _ (BothClose g g' s) = mode_same g g' unentered unentered xs ys s (λ x. refl) plain same
    closes_same _ _ (BothUnbound x y e) = same
    closes_same _ _ (BothGlobal d d' x y e) = same
    closes_same _ _ (BothBinary op op' a a' b b' e s t) = same
    closes_same _ _ (BothCompare op op' a a' b b' e s t) = same
    closes_same _ _ (BothTruth v w s) = same
    closes_same _ _ (BothMatch e e' c c' s t) = same
    closes_same _ _ BothHandled = same
    closes_same _ _ (BothRaisable v w s) = same
    closes_same _ _ (BothShow v w s) = same
    closes_same _ _ (BothCall f g vs ws s t) = same
    closes_same _ _ (BothSend g g' v w s t) = same
    closes_same _ _ (BothThrow g g' c c' v v' t t' s k x y) = same
    closes_same _ _ (BothEnter m m' s) = same
    closes_same _ _ (BothExit m m' c c' e e' t t' s k x) = same
    closes_same _ _ (BothNoExit m m' s) = same

    settles_same : (how how' : CoroEnd) → SameLeft S how how' → (r r' : Request) → BothAsk S r r' → SameGenerators S (settled (Some r) how xs) (settled (Some r') how' ys)
    settles_same how how' left _ _ (BothClose g g' s) = mode_same g g' _ _ xs ys s (λ x. behind_same true how how' left) plain same
    settles_same how how' left _ _ (BothSend g g' v w s t) = mode_same g g' _ _ xs ys s (λ x. behind_same false how how' left) plain same
    settles_same how how' left _ _ (BothThrow g g' c c' v v' t t' s k x y) = mode_same g g' _ _ xs ys s (λ z. behind_same false how how' left) plain same
    settles_same how how' left _ _ (BothUnbound x y e) = same
    settles_same how how' left _ _ (BothGlobal d d' x y e) = same
    settles_same how how' left _ _ (BothBinary op op' a a' b b' e s t) = same
    settles_same how how' left _ _ (BothCompare op op' a a' b b' e s t) = same
    settles_same how how' left _ _ (BothTruth v w s) = same
    settles_same how how' left _ _ (BothMatch e e' c c' s t) = same
    settles_same how how' left _ _ BothHandled = same
    settles_same how how' left _ _ (BothRaisable v w s) = same
    settles_same how how' left _ _ (BothShow v w s) = same
    settles_same how how' left _ _ (BothCall f g vs ws s t) = same
    settles_same how how' left _ _ (BothEnter m m' s) = same
    settles_same how how' left _ _ (BothExit m m' c c' e e' t t' s k x) = same
    settles_same how how' left _ _ (BothNoExit m m' s) = same

    closed_same : (q q' : Option Request) → SameMaybe (SameAsked S) q q' → SameGenerators S (closed_by q xs) (closed_by q' ys)
    closed_same None None s = same
    closed_same (Some r) (Some r') s = closes_same r r' (both_ask S r r' s.0)
    closed_same _ _ s = absurd s

    settled_same : (how how' : CoroEnd) → SameLeft S how how' → (q q' : Option Request) → SameMaybe (SameAsked S) q q' → SameGenerators S (settled q how xs) (settled q' how' ys)
    settled_same how how' left None None s = same
    settled_same how how' left (Some r) (Some r') s = settles_same how how' left r r' (both_ask S r r' s.0)
    settled_same how how' left _ _ s = absurd s

  created_same : (a b : ℕ) (v w : Option Obj) (xs ys : List Generator) → a ≡ b → SameMaybe S v w → SameGenerators S xs ys → SameGenerators S (created a v xs) (created b w ys)
  created_same a b None None xs ys same s t = t
  created_same a b (Some v) (Some w) [] [] same s t = (record { object = s; act = same; mode = refl }, tt)
  created_same a b (Some v) (Some w) (x ∷ xs) (y ∷ ys) same s t = (t.0, created_same a b (Some v) (Some w) xs ys same s t.1)
  created_same a b (Some v) (Some w) [] (y ∷ ys) same s t = absurd t
  created_same a b (Some v) (Some w) (x ∷ xs) [] same s t = absurd t
  created_same a b _ _ xs ys same s t = absurd s

  answered_same : (q q' : Option Request) (x y : Phase) (a b : ℕ) (v w : Option Obj) (xs ys : List Generator) → SameMaybe (SameAsked S) q q' → SamePhase S x y → a ≡ b → SameMaybe S v w
      → ArePlain objects xs → SameGenerators S xs ys → SameGenerators S (answered q x a v xs) (answered q' y b w ys)
  answered_same q q' Idle Idle a b v w xs ys asked phase same s plain t = t
  answered_same q q' Asking Asking a b v w xs ys asked phase same s plain t = closed_same xs ys plain t q q' asked
  answered_same q q' Going Going a b v w xs ys asked phase same s plain t = t
  answered_same q q' (Made f) (Made g) a b v w xs ys asked phase same s plain t = created_same a b v w xs ys same s t
  answered_same q q' (Due how) (Due how') a b v w xs ys asked phase same s plain t = settled_same xs ys plain t how how' phase q q' asked
  answered_same q q' _ _ a b v w xs ys asked phase same s plain t = absurd phase

  value_same : (w w' : GotAnswer) → SameAnswer S w w' → SameMaybe S (value_of w) (value_of w')
  value_same (got.Value v) (got.Value w) s = s
  value_same (got.Stop v) (got.Stop w) s = tt
  value_same (got.Raise e) (got.Raise f) s = tt
  value_same _ _ s = absurd s

  returned_same : (w w' : DriveAnswer) → SameResult S w w' → SameMaybe S (returned_by w) (returned_by w')
  returned_same (answer.Returns v) (answer.Returns w) s = s
  returned_same (answer.Yields v) (answer.Yields w) s = tt
  returned_same (answer.Stops v) (answer.Stops w) s = tt
  returned_same answer.Closes answer.Closes s = tt
  returned_same (answer.Raises e) (answer.Raises f) s = tt
  returned_same (answer.Reported s) (answer.Reported t) e = tt
  returned_same _ _ s = absurd s

  -- the generators behind the same event; at an answer the same question is open
  pub generators_same : (plan plan' : Plan) (s s' : State) (xs ys : List Generator) (e f : Event) → SameState S s s' → SameMaybe (SameAsked S) (question plan s) (question plan' s')
      → ArePlain objects xs → SameGenerators S xs ys → SameEvent S e f → SameGenerators S (generators_after plan s xs e) (generators_after plan' s' ys f)
  generators_same plan plan' s s' xs ys (event.Drive d) (event.Drive d') same asked plain t is = t
  generators_same plan plan' s s' xs ys (event.Result d w) (event.Result d' w') same asked plain t is =
      answered_same _ _ s.phase s'.phase (length s.made) (length s'.made) _ _ xs ys asked same.phase (made_count S s.made s'.made same.made) (returned_same w w' is.1) plain t
  generators_same plan plan' s s' xs ys (event.Make a f vs) (event.Make b g ws) same asked plain t is = t
  generators_same plan plan' s s' xs ys (event.Resume a h) (event.Resume b h') same asked plain t is = running_same a b xs ys is.0 t
  generators_same plan plan' s s' xs ys (event.Ask a r own at) (event.Ask b r' own' at') same asked plain t is = t
  generators_same plan plan' s s' xs ys (event.Got a w) (event.Got b w') same asked plain t is =
      answered_same _ _ s.phase s'.phase (length s.made) (length s'.made) _ _ xs ys asked same.phase (made_count S s.made s'.made same.made) (value_same w w' is.1) plain t
  generators_same plan plan' s s' xs ys (event.Round a at) (event.Round b at') same asked plain t is = t
  generators_same plan plan' s s' xs ys (event.Yield a v at) (event.Yield b w at') same asked plain t is = t
  generators_same plan plan' s s' xs ys (event.End a e at) (event.End b f at') same asked plain t is = t
  generators_same plan plan' s s' xs ys _ _ same asked plain t is = absurd is
